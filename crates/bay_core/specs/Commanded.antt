-- The calls of controls in a bay (IEC 61850-7-2, SelectWithValue, Operate and Cancel): the single writes of a request, each in its turn, with what is
-- heard of them.
use Rattle.std.specs.Prelude.{◌≡◌, ◌+◌, ℕ, suc, Bool, List, ◌∷◌, length, Option, None}
use Rattle.std.specs.List.{All}
use Rattle.sv_base.specs.declared.config.Config.{Config}
use Rattle.sv_base.specs.declared.numbers.CtlNo.{CtlNo}
use Rattle.sv_base.specs.declared.numbers.NodeId.{NodeId}
use Rattle.sv_base.specs.declared.value.Value.{Value}
use Rattle.bay_model.specs.declared.control.ApplError.{ApplError}
use Rattle.bay_model.specs.declared.request.Service.{Service}
use Rattle.bay_model.specs.declared.request.Service.TheVariants as services
use Rattle.bay_model.specs.declared.request.Target.{Target}
use Rattle.bay_model.specs.declared.request.Target.TheVariants as targets
use Rattle.bay_model.specs.Controls.{is_enhanced}
use Rattle.bay_model.specs.Lookups.{control_of, node_of}
use Rattle.bay_model.specs.Model.{Model, Role, Call as Calling, calling}
use Rattle.bay_model.specs.Named.{configured_model}
use Rattle.bay_model.specs.Outcomes.{Outcome, deed_of}
use Rattle.bay_model.specs.Points.{Past, finished, blocked}
use Rattle.bay_model.specs.Singles.{Single, arrival, outcomes, after_singles}
use Rattle.control_core.specs.Controls.{due}
use Rattle.control_core.specs.Tables.{after_deed, control_at}
use Rattle.bay_queues.specs.Calling.{AreTests, blame_of, outcome_at}
use Rattle.bay_queues.specs.Heard.{Heard, heard_with, heard_all}
use Rattle.bay_queues.specs.Taken.{put_rows}
use Rattle.window_core.specs.Points.{at}
use Rattle.bay_core.specs.Asked.{IsKept}
use Rattle.bay_core.specs.Standing.{StandsAt}
use Rattle.bay_core.specs.State.{State}

-- ---- the error that a write would have

-- the LastApplError of a command, before its AddCause is known; none where no command is written, or the value isn't of its type
abbrev pub blame_by : Config → Role → Value → Option ApplError
blame_by c (calling k call) v = blame_of (control_of (configured_model c) k) call v
blame_by c _ v = None

abbrev pub blame_at : Config → ℕ → Value → Option ApplError
blame_at c n v = blame_by c (node_of (configured_model c) n).role v

abbrev pub blame_to : Config → Target → Value → Option ApplError
blame_to c (targets.Node n name) v = blame_at c n.0 v
blame_to c _ v = None

-- ---- what no command is

abbrev pub IsNoCommand : Role → Type 0
IsNoCommand (calling k call) = ⊥
IsNoCommand _ = Unit {0}

abbrev pub AreNoCommands : Config → List NodeId → Type 0
AreNoCommands c ns = All (λ (n : NodeId). IsNoCommand (node_of (configured_model c) n.0).role) ns

-- variables alone may be commands
abbrev pub CallsNothing : Service → Type 0
CallsNothing (services.WriteVars ws) = ⊥
CallsNothing _ = Unit {0}

-- ---- singles

-- the terminations of a's tests of these controls are due, and don't wait yet
abbrev pub AreTestsOf : State → ℕ → List CtlNo → Type 0
AreTestsOf s a ks = AreTests (record { rows = s.rows; table = s.controls }) a ks

-- after a call
abbrev pub after_call : ℕ → ℕ → Calling → Value → State → State
after_call a k call v s = record s { controls = after_deed (deed_of (outcome_at s.controls a k call v)) s.controls }

-- A single write of a from the state at its arrival, of which this comes by the definitions: it is heard, and the new state stands for its
-- point and the arrival of one more.
pub record IsSingle (old new : State) (a : ℕ) (before after : Heard) (comes : Model → Past → Outcome) : Type 0 where
  pub kept : IsKept old new
  pub counted : (length after.codes ≡ suc (length before.codes)) × (after.room ≡ before.room)
  pub tests : AreTestsOf old a before.tests → AreTestsOf new a after.tests
  pub heard : (c : Config) (n t : ℕ) (past : Past) → StandsAt old c n (arrival n t ∷ past)
      → after ≡ heard_with (is_enhanced (configured_model c)) (comes (configured_model c) (arrival n t ∷ past)) before
  pub stands : (c : Config) (n t : ℕ) (past : Past) → StandsAt old c n (arrival n t ∷ past)
      → StandsAt new c n (arrival n t ∷ at n t (deed_of (comes (configured_model c) (arrival n t ∷ past))) ∷ past)

-- the same of several, each after those before it
pub record AreSingles (old new : State) (a : ℕ) (ss : List Single) (before after : Heard) : Type 0 where
  pub kept : IsKept old new
  pub counted : (length after.codes ≡ length before.codes + length ss) × (after.room ≡ before.room)
  pub tests : AreTestsOf old a before.tests → AreTestsOf new a after.tests
  pub heard : (c : Config) (n t : ℕ) (past : Past) → StandsAt old c n (arrival n t ∷ past)
      → after ≡ heard_all (is_enhanced (configured_model c)) (outcomes (configured_model c) a n t ss past) before
  pub stands : (c : Config) (n t : ℕ) (past : Past) → StandsAt old c n (arrival n t ∷ past)
      → StandsAt new c n (arrival n t ∷ after_singles (configured_model c) a n t ss past)

-- ---- the process

-- what a control executes was ended: the termination is put where one is due
abbrev pub after_end : CtlNo → Bool → State → State
after_end k good s = record s {
  rows = put_rows (due (control_at s.controls.controls k.0).execution) k good s.rows;
  controls = after_deed (finished k.0 good) s.controls;
}

abbrev pub after_block : CtlNo → Bool → State → State
after_block k flag s = record s { controls = after_deed (blocked k.0 flag) s.controls }
