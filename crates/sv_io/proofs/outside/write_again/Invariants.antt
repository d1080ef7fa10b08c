-- Interrupted writes take nothing.
use Rattle.std.specs.Io.KnownBytes.{Keeps}
use Rattle.sv_io.proofs.outside.write_again.Given as goal

abbrev pub invariant-loop : goal.invariant-loop
invariant-loop g l = Keeps (g.W.Write.contents l.initial.inner) (g.W.Write.contents l.inner)
