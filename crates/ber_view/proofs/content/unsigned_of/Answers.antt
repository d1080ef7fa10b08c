-- why `content::unsigned_of` answers as its contract says
use Rattle.std.proofs.Common.{arith}
use Rattle.ber_grammar.proofs.UintLaws.{room}
use Rattle.ber_view.proofs.content.unsigned_of.Goals as goal

pub overflow_mul-n : goal.overflow_mul-n
overflow_mul-n c = omega (arith, room c.loop-b.n c.loop-b.b-index (omega arith) (omega arith))

pub overflow_add-n : goal.overflow_add-n
overflow_add-n c = omega (arith, room c.loop-b.n c.loop-b.b-index (omega arith) (omega arith))
