-- What a step that is asked finds: its association is open, and no test of an earlier point is its own.
use Rattle.std.proofs.Common.{◌≡◌, ℕ, suc, Bool, true, List, [], ◌∷◌, length, refl, arith, Option, Some, None, is_some}
use Rattle.list_laws.proofs.Places.{other-number}
use Rattle.bay_model.specs.Model.{Model}
use Rattle.bay_model.specs.Associations.{Ends}
use Rattle.bay_model.specs.Waiting.{tests}
use Rattle.bay_model.specs.Answers.{History, points}
use Rattle.bay_model.specs.Acceptance.{Fault, if_open}

-- a step without a fault finds its association open
pub open-if : (x : Option Ends) (a : ℕ) (f : Ends → Bool) (g : Option Fault) → if_open x a f g ≡ None → is_some x ≡ true
open-if None a f g h = absurd (cc h)
open-if (Some e) a f g h = refl

-- no point has the number of the next
pub no-tests : (c : Model) (h : History) → tests c (length h) (points c h) ≡ []
no-tests c [] = refl
no-tests c (t ∷ h) = rw (other-number (length h) (suc (length h)) (λ e. omega (arith, e))) refl
