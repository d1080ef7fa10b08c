-- Which deeds are events, which break a block, and which change what its events are gathered by.
use Rattle.std.proofs.Common.{◌≡◌, ℕ, Bool, true, false, not, List, [], ◌∷◌, refl, ap₂}
use Rattle.std.specs.Prelude.{if◌then◌else◌, ◌==◌, ◌&&◌}
use Rattle.std.specs.Str.{bytes_eq}
use Rattle.std.proofs.lemmas.Slice.Eq.{bytes_eq-Decides}
use Rattle.sv_base.specs.Same.{is_same_bit, is_same_bits}
use Rattle.sv_base.specs.declared.value.Value.{Value}
use Rattle.sv_base.specs.declared.value.Value.TheVariants as kinds
use Rattle.sv_base.specs.declared.components.Comp.{Comp}
use Rattle.sv_base.specs.declared.components.Comp.TheVariants as comps
use Rattle.bay_model.specs.Model.{Model, Parameters}
use Rattle.bay_model.specs.Points.{Deed, valued, put, activated, confirmed, wrote, Past}
use Rattle.bay_model.specs.Parameters.{parameters_at, written_to, is_changed_by, is_purging_change, is_purge, purges, is_interrogation}
use Rattle.bay_model.specs.Notes.{Kept, note}
use Rattle.bay_model.specs.Breaks.{cuts}
use Rattle.window_core.specs.Points.{at}
use Rattle.window_core.specs.Still.{AreStill}
use Rattle.list_laws.proofs.Truths.{and-both, not-false, never as off, or-right}
use Rattle.std.proofs.lemmas.Bool.{or_right}
use Rattle.list_laws.proofs.Places.{same-unless}

none-some : {A : Type 0} (k : Kept) (ks : List Kept) → [] ≡ k ∷ ks → A
none-some k ks h = absurd (never h)
  where
    never : [] ≡ k ∷ ks → ⊥
    never h = cc

and-true : (x : Bool) → (x && true) ≡ false → x ≡ false
and-true true h = cc
and-true false h = refl

-- ---- what isn't changed is the same

same-octets : (xs ys : List ℕ) → not (bytes_eq xs ys) ≡ false → xs ≡ ys
same-octets xs ys h = (bytes_eq-Decides xs ys).0 (not-false (bytes_eq xs ys) h)

same-flag : (a b : Bool) → is_same_bit a b ≡ true → a ≡ b
same-flag true true h = refl
same-flag true false h = cc
same-flag false true h = cc
same-flag false false h = refl

same-flags : (xs ys : List Bool) → is_same_bits xs ys ≡ true → xs ≡ ys
same-flags [] [] h = refl
same-flags [] (y ∷ ys) h = off h
same-flags (x ∷ xs) [] h = off h
same-flags (x ∷ xs) (y ∷ ys) h =
    let both = and-both (is_same_bit x y) (is_same_bits xs ys) h in
    ap₂ (λ a as_. a ∷ as_) (same-flag x y both.0) (same-flags xs ys both.1)

still : (was : Parameters) → AreStill was was
still was = record { dat_set = refl; buf_tm = refl; trg_ops = refl }

unchanged-still : (comp : Comp) (v : Value) (was : Parameters) → is_changed_by comp v was ≡ false → AreStill (written_to comp v was) was
unchanged-still comps.RptID (kinds.Text t) was h = record { dat_set = refl; buf_tm = refl; trg_ops = refl }
unchanged-still comps.DatSet (kinds.Text t) was h = record { dat_set = same-octets t was.dat_set h; buf_tm = refl; trg_ops = refl }
unchanged-still comps.OptFlds (kinds.Bits b) was h = record { dat_set = refl; buf_tm = refl; trg_ops = refl }
unchanged-still comps.BufTm (kinds.Uint n) was h = record { dat_set = refl; buf_tm = same-unless n was.buf_tm h; trg_ops = refl }
unchanged-still comps.TrgOps (kinds.Bits b) was h = record { dat_set = refl; buf_tm = refl; trg_ops = same-flags b was.trg_ops (not-false (is_same_bits b was.trg_ops) h) }
unchanged-still comps.IntgPd (kinds.Uint n) was h = record { dat_set = refl; buf_tm = refl; trg_ops = refl }
unchanged-still _ _ was h = record { dat_set = refl; buf_tm = refl; trg_ops = refl }

module _ (c : Model) (b m n : ℕ) (before : Past) where
  -- ---- an event breaks no block and changes no parameter

  pub event-plain : (d : Deed) (k : Kept) (ks : List Kept) → note c b (at n m d) before ≡ k ∷ ks → cuts c b d before ≡ false
  event-plain (valued s) k ks h = refl
  event-plain (put a x v) k ks h = refl
  event-plain (activated a e i) k ks h = refl
  event-plain (confirmed a e) k ks h = refl
  event-plain _ k ks h = none-some k ks h

  pub event-same : (d : Deed) (k : Kept) (ks : List Kept) → note c b (at n m d) before ≡ k ∷ ks → parameters_at c b (at n m d ∷ before) ≡ parameters_at c b before
  event-same (valued s) k ks h = refl
  event-same (put a x v) k ks h = refl
  event-same (activated a e i) k ks h = refl
  event-same (confirmed a e) k ks h = refl
  event-same _ k ks h = none-some k ks h

  -- what breaks a block is no event
  pub break-quiet : (d : Deed) → cuts c b d before ≡ true → note c b (at n m d) before ≡ []
  break-quiet (valued s) h = off h
  break-quiet (put a x v) h = off h
  break-quiet (activated a e i) h = off h
  break-quiet (confirmed a e) h = off h
  break-quiet _ h = refl

  -- a purging change breaks the block
  pub change-breaks : (d : Deed) → is_purging_change c b d before ≡ true → cuts c b d before ≡ true
  change-breaks d h = or_right (is_interrogation b d) (purges c b d before) (or_right (is_purge b d) (is_purging_change c b d before) h)

  pub unbroken-unchanged : (d : Deed) → cuts c b d before ≡ false → is_purging_change c b d before ≡ false
  unbroken-unchanged d h = or-right (is_purge b d) (is_purging_change c b d before) (or-right (is_interrogation b d) (purges c b d before) h)

  -- what is no purging change leaves what events are gathered by
  pub unchanged : (d : Deed) → is_purging_change c b d before ≡ false → AreStill (parameters_at c b (at n m d ∷ before)) (parameters_at c b before)
  unchanged (wrote a k comp v) h = by (k == b) h
    where
      by : (t : Bool) → (is_changed_by comp v (parameters_at c b before) && t) ≡ false → AreStill (if t then written_to comp v (parameters_at c b before) else parameters_at c b before) (parameters_at c b before)
      by true h = unchanged-still comp v (parameters_at c b before) (and-true (is_changed_by comp v (parameters_at c b before)) h)
      by false h = still (parameters_at c b before)
  unchanged _ h = still (parameters_at c b before)
