-- why `queues::end_tests` ends
use Rattle.std.proofs.Common.{length}
use Rattle.bay_queues.proofs.queues.+end_tests.Given as goal

abbrev pub decreases-end_tests : goal.decreases-end_tests
decreases-end_tests l = length l.tests.now
