-- why `book::SetBook::number_referred` answers as its contract says
use Rattle.std.proofs.Common.{rules, ◌≡◌, ◌<◌, List, length, map, sym, ap, ◌∙◌, arith, true, slice_index_or, below_more}
use Rattle.std.proofs.lemmas.List.{get_or-map, length-map}
use Rattle.std.specs.Str.{bytes_eq}
use Rattle.data_sets.specs.Books.{Booked, Book, reference, seen, no_set}
use Rattle.data_sets.proofs.PlaceLaws.{first_place, no_place}
use Rattle.data_sets.proofs.book.SetBook.number_referred.Goals as goal

pub returns-then-is_reference : goal.returns-then-is_reference
returns-then-is_reference c =
    let items = c.self.inside.entries.items in
    let below : c.loop-at.at < length items = search rules in
    let sets : map seen items ≡ c.args.self.now.sets = ap (λ (b : Book). b.sets) c.self.view_is in
    let item : slice_index_or items c.loop-at.at c.index.result.now ≡ c.index.result.now = search rules in
    let here : slice_index_or (map seen items) c.loop-at.at no_set ≡ seen c.index.result.now = get_or-map seen items c.loop-at.at c.index.result.now no_set below ∙ ap seen item in
    let is : bytes_eq c.args.reference.now (reference (slice_index_or c.args.self.now.sets c.loop-at.at no_set)) ≡ true = ap (λ (l : List Booked). bytes_eq c.args.reference.now (reference (slice_index_or l c.loop-at.at no_set))) (sym sets) ∙ (ap (λ (s : Booked). bytes_eq c.args.reference.now (reference s)) here ∙ search rules) in
    sym (first_place (λ s. bytes_eq c.args.reference.now (reference s)) c.args.self.now.sets c.loop-at.at (omega (arith, below, ap length sets, length-map items seen)) c.loop-at.invariant is)

pub loop-at-preserved : goal.loop-at-preserved
loop-at-preserved c =
    let items = c.self.inside.entries.items in
    let below : c.loop-at.at < length items = search rules in
    let sets : map seen items ≡ c.args.self.now.sets = ap (λ (b : Book). b.sets) c.self.view_is in
    let item : slice_index_or items c.loop-at.at c.index.result.now ≡ c.index.result.now = search rules in
    let here : slice_index_or (map seen items) c.loop-at.at no_set ≡ seen c.index.result.now = get_or-map seen items c.loop-at.at c.index.result.now no_set below ∙ ap seen item in
    below_more _ _ c.loop-at.invariant (ap (λ (l : List Booked). bytes_eq c.args.reference.now (reference (slice_index_or l c.loop-at.at no_set))) (sym sets) ∙ (ap (λ (s : Booked). bytes_eq c.args.reference.now (reference s)) here ∙ search rules))

pub returns : goal.returns
returns c =
    let items = c.self.inside.entries.items in
    let sets : map seen items ≡ c.args.self.now.sets = ap (λ (b : Book). b.sets) c.self.view_is in
    sym (no_place (λ s. bytes_eq c.args.reference.now (reference s)) c.args.self.now.sets (λ k below. c.loop-at.invariant k (omega (arith, below, ap length sets, length-map items seen, c.len-at-end.ensures, c.loop-at-test.false))))
