-- What a list of refusals comes to, and what it is answered.
use Rattle.std.proofs.Common.{◌≡◌, ℕ, Bool, true, false, List, [], ◌∷◌, refl}
use Rattle.bay_model.specs.Points.{Deed}
use Rattle.bay_model.specs.Outcomes.{first_of, first_code, outcome_by}

pub as_answered : {A : Type 0} (ts : List (Bool × ℕ)) (done : A) (deed : Deed) → first_code ts deed ≡ outcome_by (first_of ts done) deed
as_answered [] done deed = refl
as_answered ((true, code) ∷ ts) done deed = refl
as_answered ((false, code) ∷ ts) done deed = as_answered ts done deed
