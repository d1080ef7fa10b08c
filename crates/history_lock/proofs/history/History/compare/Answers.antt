-- why `history::History::compare` answers as its contract says
use Rattle.std.proofs.Common.{subst}
use Rattle.bay_model.specs.Answers.{History}
use Rattle.history_lock.specs.declared.view.View.{View}
use Rattle.history_lock.specs.Plays.{Beside}
use Rattle.history_lock.specs.Passes.{Known, AreOfOne}
use Rattle.history_lock.proofs.Passing.{known_of, behind}
use Rattle.history_lock.proofs.Joining.{of_one}
use Rattle.history_lock.proofs.history.History.compare.Goals as goal

pub returns-clause-seen : goal.returns-clause-seen
returns-clause-seen g c =
    let i = c.pass.inside in
    let o = c.other.inside in
    let back : Beside o.seat.me.0 i.seat.me.0.seen =
    subst (λ (z : View × History). Beside z.0 z.1) (λ j. ((c.hear.ensures.same.1 j).0, (c.hear.ensures.same.0 j).0.seen)) c.hear-2.ensures.beside in
    subst (λ (q : Known). AreOfOne c.args.pass.now q) c.other.view_is (subst (λ (p : Known). AreOfOne p (known_of o)) c.pass.view_is
    (of_one (known_of i) (known_of o) (behind i o c.pass.invariant.3 c.hear.ensures.beside) (behind o i c.other.invariant.3 back)))
