-- why `bay::Bay::answer_read` answers as its contract says
use Rattle.std.proofs.Common.{subst}
use Rattle.block_watch.specs.Served.{AreServedSets}
use Rattle.bay_core.specs.State.{State}
use Rattle.bay_core.proofs.AnswerLaws.{read-answered}
use Rattle.bay_core.proofs.bay.Bay.answer_read.Goals as goal

pub returns-clause-answered : goal.returns-clause-answered
returns-clause-answered c =
    read-answered c.args.self.now c.arrive.new.self c.args.moment c.args.a.0 c.arrive.ensures.stands c.args.service.now c.in_ok-reply.reply
    (subst (λ (t : State). AreServedSets t.config t.book) c.self.view_is c.self.invariant.furnished.booked.served) c.requires.reading c.in_ok-reply.ensures
