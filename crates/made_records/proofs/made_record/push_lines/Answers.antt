-- why `made_record::push_lines` answers as its contract says
use Rattle.made_records.proofs.Drawing.{push_more}
use Rattle.made_records.proofs.made_record.push_lines.Goals as goal

pub loop-turn-preserved : goal.loop-turn-preserved
loop-turn-preserved c = push_more c.args.out.now.items c.loop-turn.out.items c.push_line.new.out.items c.args.from c.loop-turn.draw c.next-line.new.self c.loop-turn.turn c.next-line.result
    c.loop-turn.invariant c.next-line.ensures.line c.next-line.ensures.draw c.in_ok-push_line.ensures
