-- why `book::SetBook::number_named` answers as its contract says
use Rattle.std.proofs.Common.{rules, ◌≡◌, ◌<◌, List, length, map, sym, ap, ◌∙◌, arith, true, slice_index_or, below_more}
use Rattle.std.proofs.lemmas.List.{get_or-map, length-map}
use Rattle.data_sets.specs.Books.{Booked, Book, is_name, seen, no_set}
use Rattle.data_sets.proofs.PlaceLaws.{first_place, no_place}
use Rattle.data_sets.proofs.book.SetBook.number_named.Goals as goal

pub returns-then-is_name : goal.returns-then-is_name
returns-then-is_name c =
    let items = c.self.inside.entries.items in
    let below : c.loop-at.at < length items = search rules in
    let sets : map seen items ≡ c.args.self.now.sets = ap (λ (b : Book). b.sets) c.self.view_is in
    let item : slice_index_or items c.loop-at.at c.index.result.now ≡ c.index.result.now = search rules in
    let here : slice_index_or (map seen items) c.loop-at.at no_set ≡ seen c.index.result.now = get_or-map seen items c.loop-at.at c.index.result.now no_set below ∙ ap seen item in
    let is : is_name c.args.name.now (slice_index_or c.args.self.now.sets c.loop-at.at no_set).name ≡ true = ap (λ (l : List Booked). is_name c.args.name.now (slice_index_or l c.loop-at.at no_set).name) (sym sets) ∙ (ap (λ (s : Booked). is_name c.args.name.now s.name) here ∙ search rules) in
    sym (first_place (λ s. is_name c.args.name.now s.name) c.args.self.now.sets c.loop-at.at (omega (arith, below, ap length sets, length-map items seen)) c.loop-at.invariant is)

pub loop-at-preserved : goal.loop-at-preserved
loop-at-preserved c =
    let items = c.self.inside.entries.items in
    let below : c.loop-at.at < length items = search rules in
    let sets : map seen items ≡ c.args.self.now.sets = ap (λ (b : Book). b.sets) c.self.view_is in
    let item : slice_index_or items c.loop-at.at c.index.result.now ≡ c.index.result.now = search rules in
    let here : slice_index_or (map seen items) c.loop-at.at no_set ≡ seen c.index.result.now = get_or-map seen items c.loop-at.at c.index.result.now no_set below ∙ ap seen item in
    below_more _ _ c.loop-at.invariant (ap (λ (l : List Booked). is_name c.args.name.now (slice_index_or l c.loop-at.at no_set).name) (sym sets) ∙ (ap (λ (s : Booked). is_name c.args.name.now s.name) here ∙ search rules))

pub returns : goal.returns
returns c =
    let items = c.self.inside.entries.items in
    let sets : map seen items ≡ c.args.self.now.sets = ap (λ (b : Book). b.sets) c.self.view_is in
    sym (no_place (λ s. is_name c.args.name.now s.name) c.args.self.now.sets (λ k below. c.loop-at.invariant k (omega (arith, below, ap length sets, length-map items seen, c.len-at-end.ensures, c.loop-at-test.false))))
