-- Which steps are accepted, and why one is refused (IEC 61850-7-2, the application association model; that an
-- association has an opener and a writer, and memory for 16 replies, is this profile's own).
use Rattle.std.specs.Prelude.{◌≡◌, ⊤, ℕ, Bool, ◌||◌, ◌==◌, nat_le, [], ◌∷◌, Option, None, Some, is_some, if◌then◌else◌}
use Rattle.std.specs.Option.{option_map_or}
use Rattle.bay_model.specs.declared.step.Step.{Step}
use Rattle.bay_model.specs.declared.step.Step.TheVariants as steps
use Rattle.bay_model.specs.Model.{Model}
use Rattle.bay_model.specs.Points.{Past}
use Rattle.bay_model.specs.Associations.{Ends, ends}
use Rattle.bay_model.specs.Waiting.{waiting_replies}
use Rattle.bay_model.specs.Answers.{Turn, History, points}

-- why a step is refused: the association is open already; it isn't open; the actor isn't the one who may make the step;
-- 16 replies wait
pub data Fault : Type 0 where
  IsOpen : (a : ℕ) → Fault
  NotOpen : (a : ℕ) → Fault
  NotYours : (a : ℕ) → Fault
  QueueFull : (a : ℕ) → Fault

abbrev pub if_yours : Bool → ℕ → Option Fault → Option Fault
if_yours yours a fault = if yours then fault else Some (NotYours a)

abbrev pub if_open : Option Ends → ℕ → (Ends → Bool) → Option Fault → Option Fault
if_open None a yours fault = Some (NotOpen a)
if_open (Some e) a yours fault = if_yours (yours e) a fault

-- the fault of an actor's step after past, where it has one
abbrev pub fault_at : Model → ℕ → Past → Step → Option Fault
fault_at c actor past (steps.Open a size writer owner) = if is_some (ends a.0 past) then Some (IsOpen a.0) else None
fault_at c actor past (steps.Ask a r) = if_open (ends a.0 past) a.0 (λ e. actor == e.opener) (if nat_le 16 (waiting_replies c a.0 past) then Some (QueueFull a.0) else None)
fault_at c actor past (steps.Write a b comp v) = if_open (ends a.0 past) a.0 (λ e. actor == e.opener) None
fault_at c actor past (steps.Take a) = option_map_or (λ (e : Ends). if_yours (actor == e.writer) a.0 None) (ends a.0 past) None
fault_at c actor past (steps.Lost a) = if_open (ends a.0 past) a.0 (λ e. (actor == e.opener) || (actor == e.writer)) None
fault_at c actor past _ = None

abbrev pub fault : Model → History → Turn → Option Fault
fault c h t = fault_at c t.actor (points c h) t.step

-- a history of accepted steps: each is accepted after those before it
abbrev pub IsHistory : Model → History → Type 0
IsHistory c [] = ⊤
IsHistory c (t ∷ h) = IsHistory c h × (fault c h t ≡ None)
