use Rattle.std.proofs.Common.{◌≡◌, Option, Some, refl, sym, ap, subst, arith, ◌∙◌}
use Rattle.osi_stack.specs.declared.events.Line.{Line}
use Rattle.mms_client.specs.Following.{ends}
use Rattle.mms_client.specs.Opening.{StepsOn}
use Rattle.mms_client.proofs.LinkLaws.{passed_on}
use Rattle.mms_client.proofs.ConnectLaws.{steps_none, steps_then, open_then}
use Rattle.mms_client.proofs.connecting.wait.Goals as goal

pub loop-init : goal.loop-init
loop-init g c =
    let a = ends (g.L.Source.left c.args.link.now) (g.L.Sink.taken c.args.link.now) (g.L.Source.faults c.args.link.now) (g.L.Sink.faults c.args.link.now) in
    (steps_none c.args.stream.now a a refl refl, c.requires, (omega arith, omega arith))

pub returns-in_err-line-clause-steps : goal.returns-in_err-line-clause-steps
returns-in_err-line-clause-steps g c =
    let a = ends (g.L.Source.left c.args.link.now) (g.L.Sink.taken c.args.link.now) (g.L.Source.faults c.args.link.now) (g.L.Sink.faults c.args.link.now) in
    let m = ends (g.L.Source.left c.loop.link) (g.L.Sink.taken c.loop.link) (g.L.Source.faults c.loop.link) (g.L.Sink.faults c.loop.link) in
    let b = ends (g.L.Source.left c.advance.new.link) (g.L.Sink.taken c.advance.new.link) (g.L.Source.faults c.advance.new.link) (g.L.Sink.faults c.advance.new.link) in
    passed_on c.from_residual.result c.in_err-line.field-0.0 _ _ c.from_residual.ensures.1
    (open_then c.args.stream.now c.loop.stream a m b c.in_err-line.field-0.0 c.loop.invariant.0 c.loop.invariant.2 c.in_err-line.ensures.steps)

pub returns-in-Some-2-clause-steps : goal.returns-in-Some-2-clause-steps
returns-in-Some-2-clause-steps g c =
    let a = ends (g.L.Source.left c.args.link.now) (g.L.Sink.taken c.args.link.now) (g.L.Source.faults c.args.link.now) (g.L.Sink.faults c.args.link.now) in
    let m = ends (g.L.Source.left c.loop.link) (g.L.Sink.taken c.loop.link) (g.L.Source.faults c.loop.link) (g.L.Sink.faults c.loop.link) in
    let b = ends (g.L.Source.left c.advance.new.link) (g.L.Sink.taken c.advance.new.link) (g.L.Source.faults c.advance.new.link) (g.L.Sink.faults c.advance.new.link) in
    let is : c.in_ok-line.field-0 ≡ Some c.new.result = c.in-Some-2.is ∙ ap (λ (l : Line). Some l) (sym c.new.ensures) in
    steps_then c.args.stream.now c.loop.stream c.advance.new.stream a m b (Some c.new.result) c.loop.invariant.0
    (subst (λ (l : Option Line). StepsOn c.loop.stream c.advance.new.stream m b l) is c.in_ok-line.ensures.steps)
