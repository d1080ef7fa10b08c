-- The LastApplError of a refused command, and the output that is given for one that waits (IEC 61850-8-1, LastApplError
-- and CommandTermination).
use Rattle.std.specs.Prelude.{ℕ, pos, List, [], ◌∷◌, ◌++◌, None, if◌then◌else◌}
use Rattle.std.specs.Option.{option_map_or, option_map}
use Rattle.sv_base.specs.CtlServices.{service_name, service_of}
use Rattle.sv_base.specs.declared.value.Value.{Value}
use Rattle.sv_base.specs.declared.value.Value.TheVariants as kinds
use Rattle.bay_model.specs.declared.answer.Output.{Output}
use Rattle.bay_model.specs.declared.answer.Output.TheVariants as outputs
use Rattle.bay_model.specs.declared.control.ApplError.{ApplError}
use Rattle.bay_model.specs.Model.{Model, Call, operate}
use Rattle.bay_model.specs.Lookups.{control_of}
use Rattle.bay_model.specs.Points.{Past}
use Rattle.bay_model.specs.Controls.{Execution, execution}
use Rattle.bay_model.specs.Commands.{Command, command_of}
use Rattle.bay_model.specs.Waiting.{Waiting, reply, ending}
use Rattle.bay_model.specs.declared.add_causes.TheConstants.{TIME_LIMIT_OVER}

-- the end of the name of the variable that is written
abbrev pub name_of_call : Call → List ℕ
name_of_call call = 36 ∷ service_name (service_of call)

abbrev pub no_command : ApplError
no_command = record { object = []; or_cat = pos 0; or_ident = []; ctl_num = 0; cause = 0 }

-- the LastApplError of a call of control k: the written variable, origin and ctlNum of the command, and the AddCause
abbrev pub error_of : Model → ℕ → Call → Value → ℕ → ApplError
error_of c k call v cause = option_map_or (λ (m : Command). record {
  object = (control_of c k).reference ++ name_of_call call;
  or_cat = m.or_cat;
  or_ident = m.or_ident;
  ctl_num = m.ctl_num;
  cause = cause;
}) (command_of v) no_command

-- the output that is given for one that waits; past ends with the moment of the Take. A negative termination has the
-- AddCause time-limit-over.
abbrev pub output_of : Model → Past → Waiting → Output
output_of c past (reply output) = output
output_of c past (ending k good) = outputs.Termination (record {
  control = record { 0 = k };
  oper = option_map_or (λ (e : Execution). e.oper) (execution c k past) kinds.Other;
  error = if good then None else option_map (λ (e : Execution). error_of c k operate e.oper TIME_LIMIT_OVER) (execution c k past);
})
