-- Booleans.
use Rattle.std.proofs.Common.{◌≡◌, ℕ, Bool, true, false, not, eqb, List, [], ◌∷◌, Result, Ok, Err, refl, subst}
use Rattle.std.proofs.lemmas.Bool.{eqb-true, eqb-false, eq-eqb, ne_eqb}
use Rattle.ber_grammar.specs.Content.{IsBoolean}
use Rattle.ber_grammar.specs.Reading.{boolean_at}

pub boolean_again : {F : Type 0} (fault : F) (content : List ℕ) (b : Bool) → IsBoolean content b → boolean_at fault content ≡ Ok b
boolean_again fault [] b h = absurd h
boolean_again fault (a ∷ []) true h = rw (ne_eqb a 0 h) refl
boolean_again fault (a ∷ []) false h = rw (eq-eqb a 0 h) refl
boolean_again fault (a ∷ b ∷ rest) c h = absurd h

octet_is : (a : ℕ) (b t : Bool) → eqb a 0 ≡ t → not t ≡ b → IsBoolean (a ∷ []) b
octet_is a true true e h = absurd cc
octet_is a true false e h = eqb-false a 0 e
octet_is a false true e h = eqb-true a 0 e
octet_is a false false e h = absurd cc

abbrev pub BooleanTells : {F : Type 0} → F → List ℕ → Result Bool F → Type 0
BooleanTells fault content (Ok b) = IsBoolean content b
BooleanTells fault content (Err f) = (f ≡ fault) × ((b : Bool) → ¬ IsBoolean content b)

pub boolean_tells : {F : Type 0} (fault : F) (content : List ℕ) → BooleanTells fault content (boolean_at fault content)
boolean_tells fault [] = (refl, λ b h. h)
boolean_tells fault (a ∷ []) = octet_is a (not (eqb a 0)) (eqb a 0) refl refl
boolean_tells fault (a ∷ b ∷ rest) = (refl, λ c h. h)

pub boolean_found : {F : Type 0} (fault : F) (content : List ℕ) (b : Bool) → boolean_at fault content ≡ Ok b → IsBoolean content b
boolean_found {F} fault content b e = subst (λ (r : Result Bool F). BooleanTells fault content r) e (boolean_tells fault content)
