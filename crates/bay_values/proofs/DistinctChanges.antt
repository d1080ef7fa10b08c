-- Changes, of each attribute at most one.
use Rattle.std.proofs.Common.{◌≡◌, refl, ap, sym, ◌∙◌, ◌<◌, ◌≤◌, ℕ, zero, suc, ◌==◌, Bool, true, false, cond, List, [], ◌∷◌, ◌++◌, length, Some, is_some, slice_index_or, arith, ◌⊎◌, inl, inr}
use Rattle.std.proofs.lemmas.Bool.{cases_lt}
use Rattle.std.proofs.lemmas.Bool.Decides.{Decides-eqb}
use Rattle.std.proofs.lemmas.List.{get_or_append_left, get_or_push, length_push}
use Rattle.bay_model.specs.declared.flags.Change.{Change}
use Rattle.trigger_core.specs.Noted.{change_of}
use Rattle.bay_values.specs.Changed.{AreDistinct}

-- of each change that stands there one is found
pub found : (changes : List Change) (k : ℕ) (d : Change) → k < length changes → is_some (change_of changes (slice_index_or changes k d).attr) ≡ true
found [] k d below = absurd (omega (arith, below))
found (ch ∷ changes) zero d below = ap (λ b. is_some (cond b (Some ch) (change_of changes ch.attr))) ((Decides-eqb ch.attr.0 ch.attr.0).1 refl)
found (ch ∷ changes) (suc k) d below = by (ch.attr.0 == (slice_index_or changes k d).attr.0) (found changes k d (omega (arith, below)))
  where
    by : (b : Bool) → is_some (change_of changes (slice_index_or changes k d).attr) ≡ true → is_some (cond b (Some ch) (change_of changes (slice_index_or changes k d).attr)) ≡ true
    by true is = refl
    by false is = is

-- one more, of another attribute
pub distinct-push : (changes : List Change) (ch : Change) → AreDistinct changes → is_some (change_of changes ch.attr) ≡ false → AreDistinct (changes ++ ch ∷ [])
distinct-push changes ch are none = λ k j d before below is. by k j d before below is (cases_lt j (length changes))
  where
    old : (k j : ℕ) (d : Change) → k < j → j < length changes → (slice_index_or (changes ++ ch ∷ []) k d).attr.0 ≡ (slice_index_or (changes ++ ch ∷ []) j d).attr.0 → ⊥
    old k j d before below is = are k j d before below
        (ap (λ (e : Change). e.attr.0) (sym (get_or_append_left changes (ch ∷ []) d k (omega (arith, before, below)))) ∙ (is ∙ ap (λ (e : Change). e.attr.0) (get_or_append_left changes (ch ∷ []) d j below)))

    last : (k j : ℕ) (d : Change) → k < j → j ≡ length changes → (slice_index_or (changes ++ ch ∷ []) k d).attr.0 ≡ (slice_index_or (changes ++ ch ∷ []) j d).attr.0 → ⊥
    last k j d before here is =
        let there : k < length changes = omega (arith, before, here) in
        let same : (slice_index_or changes k d).attr.0 ≡ ch.attr.0 = ap (λ (e : Change). e.attr.0) (sym (get_or_append_left changes (ch ∷ []) d k there)) ∙ (is ∙ ap (λ (e : Change). e.attr.0) (get_or_push changes ch d j (sym here))) in
        let one : is_some (change_of changes (slice_index_or changes k d).attr) ≡ true = found changes k d there in
        let other : is_some (change_of changes ch.attr) ≡ true = ap (λ n. is_some (change_of changes (record { 0 = n }))) (sym same) ∙ one in
        both (sym none ∙ other)
      where
        both : false ≡ true → ⊥
        both e = cc

    by : (k j : ℕ) (d : Change) → k < j → j < length (changes ++ ch ∷ []) → (slice_index_or (changes ++ ch ∷ []) k d).attr.0 ≡ (slice_index_or (changes ++ ch ∷ []) j d).attr.0 → (j < length changes) ⊎ (length changes ≤ j) → ⊥
    by k j d before below is (inl h) = old k j d before h is
    by k j d before below is (inr h) = last k j d before (omega (arith, h, below, length_push changes ch)) is
