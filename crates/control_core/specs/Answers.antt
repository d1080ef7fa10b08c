-- What a call of a control is answered, what an accepted Oper does, and what comes of it (IEC 61850-7-2, Operate and
-- CommandTermination).
use Rattle.std.specs.Prelude.{ℕ, Bool, List, [], ◌∷◌, Option, None, Result, Ok, Err, if◌then◌else◌}
use Rattle.std.specs.Option.{option_map}
use Rattle.sv_base.specs.Same.{value_of}
use Rattle.sv_base.specs.declared.value.Value.{Value}
use Rattle.bay_model.specs.declared.control.Act.{Act}
use Rattle.bay_model.specs.Commands.{Command, command_of, is_test}
use Rattle.bay_model.specs.Calls as calls
use Rattle.control_core.specs.declared.control.Went.{Went}
use Rattle.control_core.specs.declared.control.Went.TheVariants as outcomes
use Rattle.control_core.specs.Controls.{ControlState, is_enhanced}

-- accepted, or refused with an AddCause
abbrev pub went_of : {T : Type 0} → Result T ℕ → calls.Went
went_of (Ok t) = calls.accepted
went_of (Err cause) = calls.barred cause

-- an Oper by its Test, and whether the control is one with enhanced security
abbrev pub effect_in : Bool → Bool → Went
effect_in test enhanced = if test then (if enhanced then outcomes.Tested else outcomes.Plain) else outcomes.Act

-- what an accepted Oper with this value does
abbrev pub effect_at : Value → ControlState → Went
effect_at v s = effect_in (is_test v) (is_enhanced s)

-- the act of an accepted Oper of a on control k, which is its ctlVal
abbrev pub act_for : ℕ → ℕ → Value → Went → Option Act
act_for a k v outcomes.Act = option_map (λ (m : Command). record { control = record { 0 = k }; value = value_of m.value; by = record { 0 = a } }) (command_of v)
act_for a k v outcomes.Tested = None
act_for a k v outcomes.Plain = None

-- the control whose termination follows the reply
abbrev pub tests_for : ℕ → Went → List ℕ
tests_for k outcomes.Act = []
tests_for k outcomes.Tested = k ∷ []
tests_for k outcomes.Plain = []
