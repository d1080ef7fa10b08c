-- why `book::SetBook::hold` answers as its contract says
use Rattle.std.proofs.Common.{rules, ◌≡◌, ◌<◌, ◌+◌, List, length, map, sym, ap, ◌∙◌, arith, slice_index_or, slice_set}
use Rattle.std.proofs.lemmas.List.{get_or-map, length-map, map-set}
use Rattle.data_sets.specs.Books.{Booked, Book, seen, no_set, set_at, held}
use Rattle.data_sets.specs.declared.book.Entry.{Entry}
use Rattle.data_sets.proofs.book.SetBook.hold.Goals as goal

pub returns : goal.returns
returns c =
    let items = c.self.inside.entries.items in
    let at = c.args.number in
    let view = c.self.view_is in
    let sets : map seen items ≡ c.args.self.now.sets = ap (λ (b : Book). b.sets) view in
    let below : at < length items = omega (arith, c.requires.there, ap length sets, length-map items seen) in
    let item : slice_index_or items at c.index_mut.result.now ≡ c.index_mut.result.now = search rules in
    let here : seen c.index_mut.result.now ≡ set_at c.args.self.now at = sym (ap seen item) ∙ (sym (get_or-map seen items at c.index_mut.result.now no_set below) ∙ ap (λ (l : List Booked). slice_index_or l at no_set) sets) in
    let new : Entry = record { name = c.index_mut.result.now.name; nodes = c.index_mut.result.now.nodes; holds = c.index_mut.result.now.holds + 1 } in
    ap (λ (l : List Booked). record { configured = c.self.inside.configured; sets = l }) (map-set seen items at new ∙ (ap (λ (s : Booked). slice_set (map seen items) at (held s)) here ∙ ap (λ (l : List Booked). slice_set l at (held (set_at c.args.self.now at))) sets))
    ∙ ap (λ (b : Book). record { configured = b.configured; sets = slice_set c.args.self.now.sets at (held (set_at c.args.self.now at)) }) view
