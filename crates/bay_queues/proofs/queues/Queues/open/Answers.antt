-- why `queues::Queues::open` answers as its contract says
use Rattle.std.proofs.Common.{sym, subst, map, arith}
use Rattle.std.proofs.lemmas.List.{length-map}
use Rattle.bay_model.specs.Configured.{control_defined}
use Rattle.bay_queues.specs.Queued.{IsQueued}
use Rattle.bay_queues.proofs.DueLaws.{queued-opened}
use Rattle.bay_queues.proofs.queues.Queues.open.Goals as goal

pub invariant_of-result : goal.invariant_of-result
invariant_of-result c =
    let cs = map control_defined c.args.config.now.controls in
    subst (λ r. IsQueued r c.in_ok-controls.controls) (sym c.in_ok-associations.ensures) (subst (λ t. IsQueued _ t) (sym c.in_ok-controls.ensures) (queued-opened cs (omega (arith, length-map c.args.config.now.controls control_defined, c.requires.few))))
