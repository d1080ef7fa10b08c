-- why `blank::members_in` answers as its contract says
use Rattle.std.proofs.Common.{◌∙◌, ◌++◌, arith, length-append, subst, sym}
use Rattle.block_reports.specs.Blanks.{AreFew}
use Rattle.block_reports.proofs.AgainLaws.{octets_within}
use Rattle.block_reports.proofs.blank.members_in.Goals as goal

pub returns-clause-members : goal.returns-clause-members
returns-clause-members c = λ ks few.
    let e = c.args.entry.now in
    let most = c.args.row.left in
    let joined = c.joined_in-joined.ensures (omega (arith, octets_within most (e.first.now ++ e.second.now) ks few, length-append e.first.now e.second.now, c.requires.room)) in
    c.filled-members.ensures.members ks (subst (λ o. AreFew most o ks) (sym (c.deref.ensures.value ∙ joined)) few)
