-- what the loops of `looking::look_among` keep
use Rattle.std.proofs.Common.{◌≡◌, take, reverse}
use Rattle.std.specs.Prelude.{Ok}
use Rattle.cfg_parser.specs.Looking.{looked_at}
use Rattle.cfg_parser.proofs.looking.look_among.Given as goal

abbrev pub invariant-loop-i : goal.invariant-loop-i
invariant-loop-i l = looked_at l.reading (reverse (take l.i l.lines)) ≡ Ok tt
