-- why `playing::Playing::act` answers as its contract says
use Rattle.std.proofs.Common.{◌≤◌, ◌+◌, ap, sym, subst, arith}
use Rattle.std.specs.Prelude.{None, Some, IfNone}
use Rattle.std.proofs.lemmas.Result.{IfOk-weaker}
use Rattle.run_record.specs.Judging.{number_of}
use Rattle.record_session.specs.Plays.{PlaysSlot, IsReady, most_of}
use Rattle.record_outcome.specs.declared.status.Status.TheVariants as statuses
use Rattle.record_session.proofs.PlayLaws.{slot-nothing, slot-pass, slot-step, slot-heard, slot-refused, slot-end, within-one}
use Rattle.record_session.proofs.playing.Playing.act.Goals as goal

pub perform-requires-clause-fits : goal.perform-requires-clause-fits
perform-requires-clause-fits c = subst (λ t. IsReady c.args.self.now.bay.config t c.args.slot.now c.args.heard.now) c.in-Step.is c.requires.ready

pub perform-requires-clause-few : goal.perform-requires-clause-few
perform-requires-clause-few c = omega (arith, c.requires.few)

pub do_parts-requires-clause-ready : goal.do_parts-requires-clause-ready
do_parts-requires-clause-ready c = subst (λ t. IsReady c.args.self.now.bay.config t c.args.slot.now c.args.heard.now) c.in-Heard.is c.requires.ready

pub do_parts-requires-clause-few : goal.do_parts-requires-clause-few
do_parts-requires-clause-few c = omega (arith, c.requires.few, ap (λ t. most_of t c.args.heard.now) c.in-Heard.is)

pub returns-in-Nothing-clause-plays : goal.returns-in-Nothing-clause-plays
returns-in-Nothing-clause-plays c =
    subst (λ t. PlaysSlot None c.args.self.now c.args.self.now c.args.number c.args.shape t c.args.slot.now c.args.heard.now c.args.out.now.items c.args.out.now.items) (sym c.in-Nothing.is)
    (slot-nothing c.args.self.now c.args.number c.args.shape c.args.slot.now c.args.heard.now c.args.out.now.items)

pub returns-in-At-clause-plays : goal.returns-in-At-clause-plays
returns-in-At-clause-plays c =
    subst (λ t. PlaysSlot None c.args.self.now (record c.args.self.now { moment = c.in-At.moment }) c.args.number c.args.shape t c.args.slot.now c.args.heard.now c.args.out.now.items c.args.out.now.items) (sym c.in-At.is)
    (slot-pass c.args.self.now c.args.number c.args.shape c.args.slot.now c.args.heard.now c.args.out.now.items c.in-At.moment)

pub returns-in-Step-clause-plays : goal.returns-in-Step-clause-plays
returns-in-Step-clause-plays c = IfOk-weaker c.perform.result _ _
    (λ s h. subst (λ t. PlaysSlot s c.args.self.now c.perform.new.self c.args.number c.args.shape t c.args.slot.now c.args.heard.now c.args.out.now.items c.perform.new.out.items) (sym c.in-Step.is)
    (slot-step c.args.self.now c.args.number c.args.shape c.args.slot.now c.args.heard.now c.args.out.now.items s c.perform.new.self c.in-Step.actor c.perform.new.out.items h)) c.perform.ensures.performs

pub returns-in-Step-clause-few : goal.returns-in-Step-clause-few
returns-in-Step-clause-few c = IfOk-weaker c.perform.result _ _
    (λ s h. within-one s c.perform.new.self.bay.steps c.args.self.now.bay.steps (most_of c.args.told c.args.heard.now) (ap (λ t. most_of t c.args.heard.now) c.in-Step.is) h) c.perform.ensures.few

pub returns-in-Heard-clause-plays : goal.returns-in-Heard-clause-plays
returns-in-Heard-clause-plays c = IfOk-weaker c.do_parts.result _ _
    (λ s h. subst (λ t. PlaysSlot s c.args.self.now c.do_parts.new.self c.args.number c.args.shape t c.args.slot.now c.args.heard.now c.args.out.now.items c.do_parts.new.out.items) (sym c.in-Heard.is)
    (slot-heard c.args.self.now c.args.number c.args.shape c.args.slot.now c.args.heard.now c.args.out.now.items s c.do_parts.new.self c.do_parts.new.out.items h)) c.do_parts.ensures.does

pub returns-in-Heard-clause-few : goal.returns-in-Heard-clause-few
returns-in-Heard-clause-few c = IfOk-weaker c.do_parts.result _ _
    (λ s h. subst (λ t. IfNone s (c.do_parts.new.self.bay.steps ≤ c.args.self.now.bay.steps + most_of t c.args.heard.now)) (sym c.in-Heard.is) h) c.do_parts.ensures.few

pub returns-in-Refused-clause-plays : goal.returns-in-Refused-clause-plays
returns-in-Refused-clause-plays c =
    subst (λ n. PlaysSlot (Some (statuses.Record c.args.number n)) c.args.self.now c.args.self.now c.args.number c.args.shape c.args.told c.args.slot.now c.args.heard.now c.args.out.now.items c.args.out.now.items) (sym c.number.ensures)
    (subst (λ t. PlaysSlot (Some (statuses.Record c.args.number (number_of c.in-Refused.kind))) c.args.self.now c.args.self.now c.args.number c.args.shape t c.args.slot.now c.args.heard.now c.args.out.now.items c.args.out.now.items) (sym c.in-Refused.is)
    (slot-refused c.args.self.now c.args.number c.args.shape c.args.slot.now c.args.heard.now c.args.out.now.items c.in-Refused.kind))

pub returns-in_ok-extend_from_slice-in-End-clause-plays : goal.returns-in_ok-extend_from_slice-in-End-clause-plays
returns-in_ok-extend_from_slice-in-End-clause-plays c =
    subst (λ t. PlaysSlot (Some statuses.Ok) c.args.self.now c.args.self.now c.args.number c.args.shape t c.args.slot.now c.args.heard.now c.args.out.now.items c.extend_from_slice.new.self.items) (sym c.in-End.is)
    (slot-end c.args.self.now c.args.number c.args.shape c.args.slot.now c.args.heard.now c.args.out.now.items c.extend_from_slice.new.self.items c.in_ok-extend_from_slice-in-End.ensures.items)
