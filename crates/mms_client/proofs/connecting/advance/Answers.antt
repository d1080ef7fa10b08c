use Rattle.std.proofs.Common.{ℕ, List, refl, subst}
use Rattle.std.specs.Io.KnownBytes.{Appends}
use Rattle.osi_stack.specs.declared.events.Event.{Event}
use Rattle.mms_client.specs.Following.{ends, Pops}
use Rattle.mms_client.proofs.ConnectLaws.{steps_answer, steps_line, steps_pdu, steps_piece, open_ended}
use Rattle.mms_client.proofs.connecting.advance.Goals as goal

pub returns-in_default-clause-steps : goal.returns-in_default-clause-steps
returns-in_default-clause-steps g c =
    let a = ends (g.L.Source.left c.args.link.now) (g.L.Sink.taken c.args.link.now) (g.L.Source.faults c.args.link.now) (g.L.Sink.faults c.args.link.now) in
    let b = ends (g.L.Source.left c.fill.new.link) (g.L.Sink.taken c.fill.new.link) (g.L.Source.faults c.fill.new.link) (g.L.Sink.faults c.fill.new.link) in
    steps_piece c.args.stream.now c.next.new.self c.fill.new.self a b c.in_default.ensures c.in_ok-fill.ensures.reads c.in_ok-fill.ensures.written

pub returns-in-Answer-clause-steps : goal.returns-in-Answer-clause-steps
returns-in-Answer-clause-steps g c =
    let a = ends (g.L.Source.left c.args.link.now) (g.L.Sink.taken c.args.link.now) (g.L.Source.faults c.args.link.now) (g.L.Sink.faults c.args.link.now) in
    let b = ends (g.L.Source.left c.send.new.link) (g.L.Sink.taken c.send.new.link) (g.L.Source.faults c.send.new.link) (g.L.Sink.faults c.send.new.link) in
    steps_answer c.args.stream.now c.next.new.self c.in-Answer.octets a b (subst (λ (e : Event). Pops c.args.stream.now c.next.new.self e) c.in-Answer.is c.in-Some.ensures) c.in_ok-send-in-Answer.ensures.left
    (subst (λ (o : List ℕ). Appends a.taken b.taken o) c.as_slice.ensures c.in_ok-send-in-Answer.ensures.sends)

pub returns-in-Connected-clause-steps : goal.returns-in-Connected-clause-steps
returns-in-Connected-clause-steps g c =
    let a = ends (g.L.Source.left c.args.link.now) (g.L.Sink.taken c.args.link.now) (g.L.Source.faults c.args.link.now) (g.L.Sink.faults c.args.link.now) in
    steps_line c.args.stream.now c.next.new.self c.in-Connected.line c.in-Connected.field-1 a a (subst (λ (e : Event). Pops c.args.stream.now c.next.new.self e) c.in-Connected.is c.in-Some.ensures) refl refl

pub returns-in-Pdu-clause-steps : goal.returns-in-Pdu-clause-steps
returns-in-Pdu-clause-steps g c =
    let a = ends (g.L.Source.left c.args.link.now) (g.L.Sink.taken c.args.link.now) (g.L.Source.faults c.args.link.now) (g.L.Sink.faults c.args.link.now) in
    steps_pdu c.args.stream.now c.next.new.self c.in-Pdu.field-0 a a (subst (λ (e : Event). Pops c.args.stream.now c.next.new.self e) c.in-Pdu.is c.in-Some.ensures) refl refl

pub returns-clause-steps : goal.returns-clause-steps
returns-clause-steps g c =
    let a = ends (g.L.Source.left c.args.link.now) (g.L.Sink.taken c.args.link.now) (g.L.Source.faults c.args.link.now) (g.L.Sink.faults c.args.link.now) in
    open_ended c.args.stream.now c.next.new.self c.in-Some.event a a c.in-Released.is c.in-Some.ensures refl
