-- What clients defined stays within the limits; a set is in use exactly where a block's DatSet names it.
use Rattle.std.proofs.Common.{◌≡◌, ◌<◌, ◌≤◌, ◌+◌, ◌-◌, ℕ, zero, suc, Bool, true, false, not, List, [], ◌∷◌, ◌++◌, length, take, drop, refl, sym, ap, subst, ◌∙◌, arith, ◌⊎◌, inl, inr, None, Some, is_some, slice_index_or, slice_set}
use Rattle.std.specs.Prelude.{nat_lt, nat_le, ◌||◌, ◌==◌, if◌then◌else◌}
use Rattle.std.specs.List.{list_all}
use Rattle.std.proofs.lemmas.Bool.Decides.{leb_tells}
use Rattle.std.proofs.lemmas.List.{length-set, length-map}
use Rattle.bay_model.specs.declared.request.SetName.{SetName}
use Rattle.bay_model.specs.declared.request.Target.{Target}
use Rattle.bay_model.specs.declared.tables.NodeRow.{NodeRow}
use Rattle.bay_model.specs.declared.tables.SetRow.{SetRow}
use Rattle.bay_model.specs.Breaks.{is_empty}
use Rattle.bay_model.specs.Definitions.{is_set_name}
use Rattle.bay_model.specs.Deletions.{in_use_from}
use Rattle.bay_model.specs.Model.{Model, DataSet}
use Rattle.bay_model.specs.Points.{Past}
use Rattle.data_sets.specs.declared.book.DefineFault.TheVariants as define
use Rattle.data_sets.specs.Books.{Booked, Book, reference, number_named, no_set, set_at, node_in, is_member, defined_set, define_fault, after_define, after_delete, after_hold, after_release, held, let_go, booked, opened}
use Rattle.data_sets.specs.Standing.{Stands, StandsFor, counted}
use Rattle.data_sets.specs.Opening.{IsSmall, IsBounded}
use Rattle.data_sets.proofs.BookLaws.{at_front, at_last, length_more, old, at_removed, old_below}
use Rattle.data_sets.proofs.DeleteLaws.{used_counted}
use Rattle.list_laws.proofs.Places.{at_own}

-- ---- in use

pub in_use : (b : Book) (c : Model) (past : Past) (k : ℕ) → Stands b c past → k < length b.sets → nat_lt 0 (set_at b k).holds ≡ in_use_from c past (reference (set_at b k)) 0 c.blocks
in_use b c past k h below = ap (λ n. nat_lt 0 n) (h.holds k below) ∙ sym (used_counted c past (reference (set_at b k)) 0 c.blocks)

counted_few : (r : List ℕ) (used : List (List ℕ)) → counted r used ≤ length used
counted_few r [] = omega arith
counted_few r (u ∷ us) = by _ (counted_few r us)
  where
    by : (t : Bool) → counted r us ≤ length us → (if t then 1 else 0) + counted r us ≤ suc (length us)
    by true h = omega (arith, h)
    by false h = omega (arith, h)

-- ---- the limits

record IsAllowed (b : Book) (r : Bool) (ts : List Target) : Type 0 where
  named : r ≡ true
  members : length ts ≤ 256
  room : length b.sets - b.configured < 64

allowed : (b : Book) (p r : Bool) (e f : Bool) (ts : List Target)
    → (if p then Some define.Exists else (if not r || e || f then Some define.NoSuchMember else (if nat_lt 256 (length ts) || nat_le 64 (length b.sets - b.configured) then Some define.Full else None))) ≡ None → IsAllowed b r ts
allowed b true r e f ts is = cc
allowed b false false e f ts is = cc
allowed b false true true f ts is = cc
allowed b false true false true ts is = cc
allowed b false true false false ts is = by (leb_tells 257 (length ts)) (leb_tells 64 (length b.sets - b.configured)) is
  where
    by : ((nat_lt 256 (length ts) ≡ true) × (257 ≤ length ts)) ⊎ ((nat_lt 256 (length ts) ≡ false) × (suc (length ts) ≤ 257))
        → ((nat_le 64 (length b.sets - b.configured) ≡ true) × (64 ≤ length b.sets - b.configured)) ⊎ ((nat_le 64 (length b.sets - b.configured) ≡ false) × (suc (length b.sets - b.configured) ≤ 64))
        → (if nat_lt 256 (length ts) || nat_le 64 (length b.sets - b.configured) then Some define.Full else None) ≡ None → IsAllowed b true ts
    by (inl t) u is = absurd (no (sym (ap (λ x. if x || nat_le 64 (length b.sets - b.configured) then Some define.Full else None) t.0) ∙ is))
      where
        no : Some define.Full ≡ None → ⊥
        no e = cc
    by (inr t) (inl u) is = absurd (no (sym (ap (λ x. if x || nat_le 64 (length b.sets - b.configured) then Some define.Full else None) t.0 ∙ ap (λ x. if x then Some define.Full else None) u.0) ∙ is))
      where
        no : Some define.Full ≡ None → ⊥
        no e = cc
    by (inr t) (inr u) is = record { named = refl; members = omega (arith, t.1); room = omega (arith, u.1) }

pub bounded_opened : (c : Model) (rows : List SetRow) → IsBounded c (opened rows)
bounded_opened c rows = record {
  configured = omega (arith, length-map rows booked);
  few = omega (arith, length-map rows booked);
  small = λ k above below. absurd (omega (arith, above, below, length-map rows booked));
}

pub bounded_define : (c : Model) (b : Book) (rows : List NodeRow) (name : SetName) (ts : List Target) → IsBounded c b → define_fault b name (is_set_name c name) rows ts ≡ None → IsBounded c (after_define name ts b)
bounded_define c b rows name ts h none =
    let a : IsAllowed b (is_set_name c name) ts = allowed b (is_some (number_named name b)) (is_set_name c name) (is_empty ts) (not (list_all (is_member rows) ts)) ts none in
    let more : length (after_define name ts b).sets ≡ suc (length b.sets) = length_more b.sets (defined_set name ts) in
    let new : IsSmall c (defined_set name ts) = (omega (arith, length-map ts node_in, a.members), a.named) in
    record {
      configured = omega (arith, h.configured, more);
      few = omega (arith, a.room, more, h.configured);
      small = λ k above below. elim (leb_tells (suc k) (length b.sets)) [
        | inl t ↦ subst (IsSmall c) (sym (at_front b.sets (defined_set name ts) no_set k t.1)) (h.small k above t.1)
        | inr t ↦ let last : k ≡ length b.sets = omega (arith, t.1, below, more) in
            subst (IsSmall c) (sym (ap (λ i. slice_index_or (after_define name ts b).sets i no_set) last ∙ at_last b.sets (defined_set name ts) no_set)) new
      ];
    }

removed_length : (bs : List Booked) (k : ℕ) → k < length bs → suc (length (take k bs ++ drop (suc k) bs)) ≡ length bs
removed_length [] k below = absurd (omega (arith, below))
removed_length (x ∷ xs) zero below = refl
removed_length (x ∷ xs) (suc k) below = ap suc (removed_length xs k (omega (arith, below)))

pub old_above : (k j : ℕ) → j ≤ old k j
old_above zero j = omega arith
old_above (suc k) zero = omega arith
old_above (suc k) (suc j) = omega (arith, old_above k j)

pub bounded_delete : (c : Model) (b : Book) (k : ℕ) → IsBounded c b → b.configured ≤ k → k < length b.sets → IsBounded c (after_delete k b)
bounded_delete c b k h from below = record {
  configured = omega (arith, from, below, removed_length b.sets k below);
  few = omega (arith, h.few, removed_length b.sets k below);
  small = λ j above within. subst (IsSmall c) (sym (at_removed b.sets k j)) (h.small (old k j) (omega (arith, above, old_above k j)) (old_below b.sets k j within));
}

-- a count of holds that changes changes no limit
changed : (c : Model) (b : Book) (k : ℕ) (f : Booked → Booked) → ((s : Booked) → IsSmall c s → IsSmall c (f s)) → k < length b.sets → IsBounded c b → IsBounded c (record b { sets = slice_set b.sets k (f (set_at b k)) })
changed c b k f keeps below h = record {
  configured = omega (arith, h.configured, length-set b.sets k (f (set_at b k)));
  few = omega (arith, h.few, length-set b.sets k (f (set_at b k)));
  small = λ j above within. subst (IsSmall c) (sym (at_own f b.sets k j no_set below)) (by (k == j) (set_at b j) (h.small j above (omega (arith, within, length-set b.sets k (f (set_at b k))))));
}
  where
    by : (t : Bool) (s : Booked) → IsSmall c s → IsSmall c (if t then f s else s)
    by true s is = keeps s is
    by false s is = is

pub bounded_hold : (c : Model) (b : Book) (k : ℕ) → IsBounded c b → k < length b.sets → IsBounded c (after_hold k b)
bounded_hold c b k h below = changed c b k held (λ s is. is) below h

pub bounded_release : (c : Model) (b : Book) (k : ℕ) → IsBounded c b → k < length b.sets → IsBounded c (after_release k b)
bounded_release c b k h below = changed c b k let_go (λ s is. is) below h

pub holds_few : (b : Book) (n k : ℕ) (all : List DataSet) (used : List (List ℕ)) → StandsFor b n all used → k < length b.sets → (set_at b k).holds ≤ length used
holds_few b n k all used h below = omega (arith, h.holds k below, counted_few (reference (set_at b k)) used)
