-- why `rehearsal::rehearse_gated` answers as its contract says
use Rattle.std.proofs.Common.{◌≡◌, take, subst}
use Rattle.script_plans.specs.Inputs.{outcome}
use Rattle.server_run.specs.Rehearsals.{most, Rehearses, IsOfRehearsal}
use Rattle.server_run.proofs.DeliveryLaws.{if-some}
use Rattle.server_run.proofs.GrammarLaws.{of-rehearsal}
use Rattle.server_run.proofs.rehearsal.rehearse_gated.Goals as goal

pub deliver-requires : goal.deliver-requires
deliver-requires g c = (outcome c.in-Ok.octets.items, c.perform_input.ensures)

pub returns-in-Ok-clause-rehearses : goal.returns-in-Ok-clause-rehearses
returns-in-Ok-clause-rehearses g c =
    if-some (λ b. c.in-Ok.octets.items ≡ take most b) (λ b. Rehearses (outcome (take most b)) c.deliver.result (g.K.Sink.taken c.args.sink.now) (g.K.Sink.taken c.deliver.new.sink)) (g.S.Source.left c.args.source.now) c.in-Ok.ensures.whole
    (λ b is. subst (λ o. Rehearses (outcome o) c.deliver.result (g.K.Sink.taken c.args.sink.now) (g.K.Sink.taken c.deliver.new.sink)) is (c.deliver.ensures.rehearses (outcome c.in-Ok.octets.items) c.perform_input.ensures))

pub returns-in-Ok-clause-plan : goal.returns-in-Ok-clause-plan
returns-in-Ok-clause-plan g c =
    if-some (λ b. Rehearses (outcome (take most b)) c.deliver.result (g.K.Sink.taken c.args.sink.now) (g.K.Sink.taken c.deliver.new.sink)) (λ b. IsOfRehearsal b c.deliver.result (g.K.Sink.taken c.args.sink.now) (g.K.Sink.taken c.deliver.new.sink)) (g.S.Source.left c.args.source.now)
    (returns-in-Ok-clause-rehearses g c) (λ b r. of-rehearsal b c.deliver.result (g.K.Sink.taken c.args.sink.now) (g.K.Sink.taken c.deliver.new.sink) r)
