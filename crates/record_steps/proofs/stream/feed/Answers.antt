-- why `stream::feed` answers as its contract says
use Rattle.std.proofs.Common.{List, ◌++◌, ◌∙◌, ap, arith}
use Rattle.osi_stack.specs.declared.events.Event.{Event}
use Rattle.record_steps.specs.Streams.{heard_through, wired_through}
use Rattle.record_steps.proofs.FedLaws.{fed-heard, fed-stands, fed-few}
use Rattle.record_steps.proofs.stream.feed.Goals as goal

pub returns-clause-heard : goal.returns-clause-heard
returns-clause-heard c before es was =
    fed-heard c.feed_stack.new.upper before c.args.octets.now es c.feed_stack.new.events c.args.model.now c.args.a c.in_ok-fault.fault c.args.wired c.args.heard.now.items c.take_events.new.heard.items
    (c.in_ok-fault.ensures.fed before es was) c.requires.none
    (c.in_ok-after.ensures.heard ∙ ap (λ (o : List Event). c.args.heard.now.items ++ heard_through c.args.model.now c.args.a o c.in_ok-fault.fault c.args.wired) c.as_slice.ensures)

pub returns-clause-form : goal.returns-clause-form
returns-clause-form c before es was =
    fed-stands c.feed_stack.new.upper before c.args.octets.now es c.feed_stack.new.events c.in_ok-fault.fault c.args.wired c.in_ok-after.after c.with_stack.result
    (c.in_ok-fault.ensures.fed before es was)
    (c.in_ok-after.ensures.wired ∙ ap (λ (o : List Event). wired_through o c.in_ok-fault.fault c.args.wired) c.as_slice.ensures) c.with_stack.ensures.form c.with_stack.ensures.off

pub returns-clause-few : goal.returns-clause-few
returns-clause-few c before es was =
    fed-few c.args.model.now c.args.a c.args.wired c.args.stack before c.args.octets.now es c.take_events.new.heard.items was (λ i. omega (arith, c.type_inv.octets i))
    (returns-clause-heard c before es was)
