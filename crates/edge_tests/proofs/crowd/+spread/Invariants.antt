-- what goes down from a thread to those that it starts
use Rattle.std.proofs.Common.{◌+◌, ◌*◌}
use Rattle.edge_tests.proofs.crowd.+spread.Given as goal

abbrev pub decreases-spread : goal.decreases-spread
decreases-spread g l = 2 * l.threads

abbrev pub decreases-front : goal.decreases-front
decreases-front g l = 2 * l.low + 1

abbrev pub decreases-back : goal.decreases-back
decreases-back g l = 2 * l.high + 1
