-- why `contents::unsigned_of` answers as its contract says
use Rattle.std.proofs.Common.{arith}
use Rattle.ber_grammar.proofs.UintLaws.{room}
use Rattle.report_cut.proofs.contents.unsigned_of.Goals as goal

pub overflow_mul-n : goal.overflow_mul-n
overflow_mul-n c = omega (arith, room c.loop-octet.n c.loop-octet.octet-index (omega arith) (omega arith))

pub overflow_add-n : goal.overflow_add-n
overflow_add-n c = omega (arith, room c.loop-octet.n c.loop-octet.octet-index (omega arith) (omega arith))
