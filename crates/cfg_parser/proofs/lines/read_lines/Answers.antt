-- why `lines::read_lines` answers as its contract says
use Rattle.std.proofs.Common.{sym, ◌∙◌, subst}
use Rattle.cfg_parser.specs.Reader.{GivesText}
use Rattle.cfg_parser.specs.Text.{pieces, told_at, lines_at}
use Rattle.cfg_parser.proofs.TextLaws.{told-next, told-refused, told-rest, refused-at}
use Rattle.cfg_parser.proofs.lines.read_lines.Goals as goal

pub returns-in-Err : goal.returns-in-Err
unfolding lines_at
returns-in-Err c = refused-at c.in-Err.fault (told_at c.loop-line.reading (pieces c.loop-line.rest.now)) _ c.loop-line.invariant
    (told-refused c.loop-line.reading c.loop-line.rest.now c.in-Some.line.now c.in-Some.after.now c.in-Err.fault c.in-Some.ensures.0 c.in-Some.ensures.1 c.in-Err.ensures)

pub loop-line-preserved : goal.loop-line-preserved
loop-line-preserved c = c.loop-line.invariant
    ∙ told-next c.loop-line.reading c.read_line.new.reading c.loop-line.rest.now c.in-Some.line.now c.in-Some.after.now c.in-Some.ensures.0 c.in-Some.ensures.1 c.in-Ok.ensures

pub returns : goal.returns
unfolding lines_at
returns c = subst (λ r. GivesText c.finish.result r) (sym (c.loop-line.invariant ∙ told-rest c.loop-line.reading c.loop-line.rest.now c.in_default.ensures)) c.finish.ensures
