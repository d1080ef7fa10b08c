-- why `book::SetBook::deletion` answers as its contract says
use Rattle.std.proofs.Common.{rules, ◌≡◌, ◌<◌, suc, inl, inr, List, length, map, sym, ap, ◌∙◌, arith, true, false, slice_index_or, Some, Ok, Err}
use Rattle.std.specs.Prelude.{nat_lt, if◌then◌else◌}
use Rattle.std.proofs.lemmas.List.{get_or-map, length-map}
use Rattle.data_sets.specs.Books.{Booked, Book, is_name, seen, no_set, set_at, number_named, deletion_of}
use Rattle.std.proofs.lemmas.Bool.Decides.{leb_tells}
use Rattle.data_sets.specs.declared.book.DeleteFault.TheVariants as faults
use Rattle.data_sets.proofs.PlaceLaws.{within}
use Rattle.data_sets.proofs.book.SetBook.deletion.Goals as goal

pub index-requires : goal.index-requires
index-requires c =
    let sets : map seen c.self.inside.entries.items ≡ c.args.self.now.sets = ap (λ (b : Book). b.sets) c.self.view_is in
    let is : number_named c.args.name.now c.args.self.now ≡ Some c.in-Some.number = search rules in
    omega (arith, within (λ s. is_name c.args.name.now s.name) c.args.self.now.sets c.in-Some.number is, ap length sets, length-map c.self.inside.entries.items seen)

pub returns-then-index-gt0 : goal.returns-then-index-gt0
returns-then-index-gt0 c =
    let items = c.self.inside.entries.items in
    let k = c.in-Some.number in
    let b = c.args.self.now in
    let sets : map seen items ≡ b.sets = ap (λ (b : Book). b.sets) c.self.view_is in
    let is : number_named c.args.name.now b ≡ Some k = search rules in
    let there : k < length items = omega (arith, within (λ s. is_name c.args.name.now s.name) b.sets k is, ap length sets, length-map items seen) in
    let item : slice_index_or items k c.index.result.now ≡ c.index.result.now = search rules in
    let here : seen c.index.result.now ≡ set_at b k = sym (ap seen item) ∙ (sym (get_or-map seen items k c.index.result.now no_set there) ∙ ap (λ (l : List Booked). slice_index_or l k no_set) sets) in
    let low : nat_lt k b.configured ≡ false = elim (leb_tells (suc k) b.configured) [ inl t ↦ absurd (omega (arith, t.1, c.if-number-self.false, ap (λ (x : Book). x.configured) c.self.view_is)) | inr t ↦ t.0 ] in
    let used : nat_lt 0 (set_at b k).holds ≡ true = elim (leb_tells 1 (set_at b k).holds) [ inl t ↦ t.0 | inr t ↦ absurd (omega (arith, t.1, c.if-index-gt0.true, ap (λ (x : Booked). x.holds) here)) ] in
    sym (ap (deletion_of b) is
    ∙ (ap (λ t. if t then Err faults.NotDeletable else (if nat_lt 0 (set_at b k).holds then Err faults.InUse else Ok k)) low
    ∙ ap (λ t. if t then Err faults.InUse else Ok k) used))
