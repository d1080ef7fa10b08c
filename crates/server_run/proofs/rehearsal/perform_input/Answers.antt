-- why `rehearsal::perform_input` answers as its contract says
use Rattle.std.proofs.Common.{subst, sym, ap, ◌∙◌}
use Rattle.script_plans.specs.Inputs.{outcome}
use Rattle.script_reading.specs.Readings.{plan_seen, Reads, IsRefused}
use Rattle.script_plans.proofs.SoundLaws.{plans_are_sound}
use Rattle.server_run.proofs.DeliveryLaws.{performed-by, refused-by}
use Rattle.server_run.proofs.rehearsal.perform_input.Goals as goal

pub perform-requires-clause-sound : goal.perform-requires-clause-sound
perform-requires-clause-sound g c κs within = plans_are_sound c.deref.result.now (plan_seen c.in-Ok.plan) (subst (λ r. Reads r (outcome c.deref.result.now)) c.in-Ok.is c.in_ok-read.ensures.reads)

pub returns-in-Ok : goal.returns-in-Ok
returns-in-Ok g c =
    performed-by (outcome c.args.octets.items) (plan_seen c.in-Ok.plan) c.perform.result
    (sym (ap outcome c.deref.ensures.value) ∙ subst (λ r. Reads r (outcome c.deref.result.now)) c.in-Ok.is c.in_ok-read.ensures.reads) c.perform.ensures

pub returns-in-Err : goal.returns-in-Err
returns-in-Err g c =
    refused-by (outcome c.args.octets.items) c.in-Err.status
    (sym (ap outcome c.deref.ensures.value) ∙ subst (λ r. Reads r (outcome c.deref.result.now)) c.in-Err.is c.in_ok-read.ensures.reads) (subst IsRefused c.in-Err.is c.in_ok-read.ensures.refused)
