-- why `made_record::MadeRecord::next_piece` answers as its contract says
use Rattle.std.proofs.Common.{◌-◌, arith}
use Rattle.made_records.specs.Left.{octets_left}
use Rattle.made_records.proofs.Leaving.{Taken, take_lines}
use Rattle.made_records.proofs.Short.{piece_short}
use Rattle.made_records.proofs.made_record.MadeRecord.next_piece.Goals as goal

lines-taken : (c : goal.After-self-in-Lines-2-1) → Taken c.args.self.now c.push_lines.new.out.items (octets_left c.self.inside.part c.in_ok-self-inside-in-Lines.field-0 (c.self.inside.count - c.min-count.result))
lines-taken c = take_lines c.self.inside.part c.self.inside.draw c.in_ok-self-inside-in-Lines.field-0 c.self.inside.count c.min-count.result (c.self.inside.count - c.min-count.result) c.args.self.now c.clear.new.self.items
    c.push_lines.new.out.items c.in-Lines.is c.self.view_is (omega (arith, c.min-count.ensures)) (omega (arith, c.min-count.ensures, c.if-self-gt0.true)) c.clear.ensures.items
    c.in_ok-self-inside-in-Lines.ensures.text c.in_ok-self-inside-in-Lines.ensures.draw

pub returns-in_ok-self-inside-in-Lines-clause-piece : goal.returns-in_ok-self-inside-in-Lines-clause-piece
returns-in_ok-self-inside-in-Lines-clause-piece c = (lines-taken c).joined

pub returns-in_ok-self-inside-in-Lines-clause-less : goal.returns-in_ok-self-inside-in-Lines-clause-less
returns-in_ok-self-inside-in-Lines-clause-less c = (lines-taken c).less

pub returns-in_ok-self-inside-in-Lines-clause-few : goal.returns-in_ok-self-inside-in-Lines-clause-few
returns-in_ok-self-inside-in-Lines-clause-few c = piece_short c.min-count.result c.self.inside.draw c.clear.new.self.items c.push_lines.new.out.items c.clear.ensures.items c.in_ok-self-inside-in-Lines.ensures.text
    (omega (arith, c.min-count.ensures)) (omega (arith, c.min-count.ensures, c.self.invariant))
