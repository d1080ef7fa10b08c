-- why `history::History::join` answers as its contract says
use Rattle.std.proofs.Common.{◌+◌, subst}
use Rattle.history_lock.specs.Passes.{Known, Joined}
use Rattle.history_lock.proofs.Passing.{known_of, joined_ok}
use Rattle.history_lock.proofs.history.History.join.Goals as goal

pub returns : goal.returns
returns g c =
    let r : Known = known_of record {
      seat = c.join.new.seat;
      first = c.pass.inside.first;
      count = c.pass.inside.count;
      left = c.pass.inside.left + c.other.inside.left;
      seen = c.larger-pass-inside.result;
    } in
    let both = joined_ok c.pass.inside c.other.inside c.join.new.seat c.larger-pass-inside.result c.pass.invariant.3 c.other.invariant.3 c.join.ensures.table
    c.join.ensures.seat c.join.ensures.agree in
    subst (λ (q : Known). Joined c.args.pass.now q r) c.other.view_is (subst (λ (p : Known). Joined p (known_of c.other.inside) r) c.pass.view_is both)
