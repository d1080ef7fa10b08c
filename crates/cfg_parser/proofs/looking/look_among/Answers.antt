-- why `looking::look_among` answers as its contract says
use Rattle.std.proofs.Common.{◌+◌, sym, ap₂, subst, ◌∙◌}
use Rattle.cfg_nodes.specs.Asked.{asked, is_asked}
use Rattle.cfg_nodes.proofs.AskedLaws.{asked-at}
use Rattle.cfg_parser.specs.Reader.{GivesText}
use Rattle.cfg_parser.specs.Looking.{look_at, looked_at}
use Rattle.cfg_parser.proofs.LookLaws.{err_of, passed-on, line-refused}
use Rattle.cfg_parser.proofs.looking.look_among.Goals as goal

pub look-requires-clause-asked : goal.look-requires-clause-asked
look-requires-clause-asked c = ap₂ (λ all line. is_asked (asked all) line) (sym c.lines-lines.ensures.value) c.index-lines-i.is
    ∙ asked-at c.lines-lines.result.now c.loop-i.i c.index-lines-i.result c.loop-i-test.true

pub returns-in_err-look : goal.returns-in_err-look
returns-in_err-look c =
    let given = c.from_residual in
    let all = c.args.reading.now in
    let fault = c.in_err-look.field-0.0 in
    passed-on given.result fault (looked_at all all) given.ensures.1
    (subst (λ lines. GivesText (err_of (Unit {0}) fault) (looked_at all lines)) c.lines-lines.ensures.value
    (line-refused all c.lines-lines.result.now c.loop-i.i c.index-lines-i.result c.loop-i-test.true c.loop-i.invariant fault
    (subst (λ line. GivesText (err_of (Unit {0}) fault) (look_at all (c.loop-i.i + 1) line)) c.index-lines-i.is c.in_err-look.ensures)))
