-- why `stream::feed_stack` answers as its contract says
use Rattle.std.proofs.Common.{List, ◌++◌, subst}
use Rattle.osi_stack.specs.declared.events.Event.{Event}
use Rattle.osi_stack.specs.Sides.{GoesOn, Refuses}
use Rattle.osi_stack.specs.declared.fault.StackFault.{StackFault}
use Rattle.osi_stack.specs.declared.fault.StackFault.TheVariants as faults
use Rattle.record_steps.proofs.StreamLaws.{fed-on, fed-refused}
use Rattle.record_steps.proofs.stream.feed_stack.Goals as goal

pub returns-in-Ok-clause-fed : goal.returns-in-Ok-clause-fed
returns-in-Ok-clause-fed c before es was =
    fed-on c.args.upper.now c.feed.new.self before c.args.octets.now es c.feed.new.events was
    (subst (λ (old : List Event). GoesOn c.feed.new.self (before ++ c.args.octets.now) es old c.feed.new.events) c.requires (c.in-Ok.ensures.stands before es was))

pub returns-in-Err-Refused-clause-fed : goal.returns-in-Err-Refused-clause-fed
returns-in-Err-Refused-clause-fed c before es was =
    let refused = c.in-Err-Refused.ensures.stands before es was in
    let so = subst (λ (f : StackFault). Refuses f (before ++ c.args.octets.now) es c.args.events.now c.feed.new.events) c.in-Err-Refused.field-0-is refused in
    fed-refused c.args.upper.now c.in-Err-Refused.layer c.in-Err-Refused.code c.in-Err-Refused.octets before c.args.octets.now es c.feed.new.events was
    (subst (λ (old : List Event). Refuses (faults.Refused c.in-Err-Refused.layer c.in-Err-Refused.code c.in-Err-Refused.octets) (before ++ c.args.octets.now) es old c.feed.new.events) c.requires so)
