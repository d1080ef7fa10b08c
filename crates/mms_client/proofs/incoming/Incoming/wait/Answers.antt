use Rattle.std.proofs.Common.{refl, arith, rules}
use Rattle.mms_client.specs.Following.{ends}
use Rattle.mms_client.proofs.LinkLaws.{passed_on}
use Rattle.mms_client.proofs.FollowLaws.{quiet_now, quiet_then, brings_then, fails_then, nothing_yet, came_now}
use Rattle.mms_client.proofs.incoming.Incoming.wait.Goals as goal

pub loop-init : goal.loop-init
loop-init g c = (quiet_now c.args.self.now c.args.self.now (g.L.Source.left c.args.link.now) (g.L.Source.left c.args.link.now) refl refl, (omega arith, refl, refl), λ h. h)

pub returns-in_err-outcome-clause-goes : goal.returns-in_err-outcome-clause-goes
returns-in_err-outcome-clause-goes g c =
    let a = ends (g.L.Source.left c.args.link.now) (g.L.Sink.taken c.args.link.now) (g.L.Source.faults c.args.link.now) (g.L.Sink.faults c.args.link.now) in
    let m = ends (g.L.Source.left c.loop.link) (g.L.Sink.taken c.loop.link) (g.L.Source.faults c.loop.link) (g.L.Sink.faults c.loop.link) in
    let b = ends (g.L.Source.left c.advance.new.link) (g.L.Sink.taken c.advance.new.link) (g.L.Source.faults c.advance.new.link) (g.L.Sink.faults c.advance.new.link) in
    passed_on c.from_residual.result c.in_err-outcome.field-0.0 _ _ c.from_residual.ensures.1
    (fails_then c.args.self.now c.loop.self a m b c.args.awaited c.in_err-outcome.field-0.0 c.loop.invariant.0 c.loop.invariant.1.0 (omega (arith, c.loop.invariant.1.2)) c.in_err-outcome.ensures.goes)

pub returns-in-Some-2-clause-goes : goal.returns-in-Some-2-clause-goes
returns-in-Some-2-clause-goes g c =
    let l = g.L.Source.left c.args.link.now in
    let m = g.L.Source.left c.loop.link in
    let n = g.L.Source.left c.advance.new.link in
    brings_then c.args.self.now c.loop.self c.advance.new.self l m n c.args.awaited c.in-Some-2.outcome c.loop.invariant.0
    (came_now c.loop.self c.advance.new.self m n c.args.awaited c.in_ok-outcome.field-0 c.in-Some-2.outcome c.in-Some-2.is c.in_ok-outcome.ensures.goes)

pub loop-preserved : goal.loop-preserved
loop-preserved g c =
    let l = g.L.Source.left c.args.link.now in
    let m = g.L.Source.left c.loop.link in
    let n = g.L.Source.left c.advance.new.link in
    let k = nothing_yet c.loop.self c.advance.new.self m n c.args.awaited c.in_ok-outcome.field-0 c.in_default.not-Some c.in_ok-outcome.ensures.goes in (
      quiet_then c.args.self.now c.loop.self c.advance.new.self l m n c.loop.invariant.0 k,
      search rules,
      λ h. c.in_ok-outcome.ensures.bounded (c.loop.invariant.2 h),
    )
