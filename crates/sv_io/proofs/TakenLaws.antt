-- How many octets are taken from a source.
use Rattle.std.proofs.Common.{◌≤◌, ◌+◌, ℕ, List, [], ◌++◌, length-append, arith}
use Rattle.std.specs.Prelude.{Option}
use Rattle.std.proofs.KnownBytes.{Consumes-nil, Consumes-trans}
use Rattle.sv_io.specs.Taken.{TakesAtMost}

pub takes-none : (most : ℕ) (o : Option (List ℕ)) → TakesAtMost most o o
takes-none most o = ([], omega arith, Consumes-nil o)

pub takes-more : (few more most : ℕ) (old mid new : Option (List ℕ)) → TakesAtMost few old mid → TakesAtMost more mid new → few + more ≤ most → TakesAtMost most old new
takes-more few more most old mid new t u le = (t.0 ++ u.0, omega (arith, length-append t.0 u.0, t.1, u.1, le), Consumes-trans old mid new t.0 u.0 t.2 u.2)
