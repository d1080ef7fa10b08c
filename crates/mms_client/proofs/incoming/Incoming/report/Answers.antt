use Rattle.std.proofs.Common.{◌≤◌, List, length, refl, sym, subst, arith, rules}
use Rattle.mms_client.specs.declared.incoming.Incoming.{Incoming}
use Rattle.mms_client.specs.declared.meaning.Awaited.TheVariants as awaits
use Rattle.bay_model.specs.declared.report.Report.{Report}
use Rattle.mms_client.specs.Following.{ends, IsBounded}
use Rattle.mms_client.proofs.LinkLaws.{passed_on}
use Rattle.mms_client.proofs.FollowLaws.{quiet_now, quiet_then, fails_then, kept_goes, given_goes}
use Rattle.mms_client.proofs.incoming.Incoming.report.Goals as goal

pub loop-init : goal.loop-init
loop-init g c = (quiet_now c.args.self.now c.args.self.now (g.L.Source.left c.args.link.now) (g.L.Source.left c.args.link.now) refl refl, (omega arith, refl, refl), λ h. h)

pub returns-in-Some-give-clause-goes : goal.returns-in-Some-give-clause-goes
returns-in-Some-give-clause-goes g c =
    let new : Incoming = record { stream = c.loop.self.stream; reports = c.give.new.self } in
    given_goes c.args.self.now c.loop.self new (g.L.Source.left c.args.link.now) (g.L.Source.left c.loop.link) c.in-Some-give.report refl c.in-Some-give.ensures.given c.in-Some-give.ensures.begun c.loop.invariant.0

pub returns-in_err-go_on-clause-goes : goal.returns-in_err-go_on-clause-goes
returns-in_err-go_on-clause-goes g c =
    let a = ends (g.L.Source.left c.args.link.now) (g.L.Sink.taken c.args.link.now) (g.L.Source.faults c.args.link.now) (g.L.Sink.faults c.args.link.now) in
    let m = ends (g.L.Source.left c.loop.link) (g.L.Sink.taken c.loop.link) (g.L.Source.faults c.loop.link) (g.L.Sink.faults c.loop.link) in
    let b = ends (g.L.Source.left c.go_on.new.link) (g.L.Sink.taken c.go_on.new.link) (g.L.Source.faults c.go_on.new.link) (g.L.Sink.faults c.go_on.new.link) in
    let mid : Incoming = record { stream = c.loop.self.stream; reports = c.give.new.self } in
    let first = kept_goes c.args.self.now c.loop.self mid a.left m.left refl (sym c.in_default.ensures.given) c.in_default.ensures.begun c.loop.invariant.0 in
    passed_on c.from_residual.result c.in_err-go_on.field-0.0 _ _ c.from_residual.ensures.1
    (fails_then c.args.self.now mid a m b awaits.Reports c.in_err-go_on.field-0.0 first c.loop.invariant.1.0 (omega (arith, c.loop.invariant.1.2)) c.in_err-go_on.ensures.goes)

pub loop-preserved : goal.loop-preserved
loop-preserved g c =
    let l = g.L.Source.left c.args.link.now in
    let m = g.L.Source.left c.loop.link in
    let n = g.L.Source.left c.go_on.new.link in
    let mid : Incoming = record { stream = c.loop.self.stream; reports = c.give.new.self } in
    let first = kept_goes c.args.self.now c.loop.self mid l m refl (sym c.in_default.ensures.given) c.in_default.ensures.begun c.loop.invariant.0 in
    let few : IsBounded c.args.self.now → IsBounded mid = λ h. subst (λ (rs : List Report). length rs ≤ 1024) c.in_default.ensures.given (c.loop.invariant.2 h) in (
      quiet_then c.args.self.now mid c.go_on.new.self l m n first c.in_ok-go_on.ensures.goes,
      search rules,
      λ h. c.in_ok-go_on.ensures.bounded (few h),
    )
