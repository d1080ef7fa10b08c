-- what the loop of `made_record::push_lines` keeps
use Rattle.made_records.proofs.Drawing.{Pushed}
use Rattle.made_records.proofs.made_record.push_lines.Given as goal

abbrev pub invariant-loop-turn : goal.invariant-loop-turn
invariant-loop-turn l = Pushed l.fn.out.items l.out.items l.fn.from l.draw l.turn
