-- why `octets::add_all` ends
use Rattle.std.proofs.Common.{length}
use Rattle.assoc_workers.proofs.octets.+add_all.Given as goal

abbrev pub decreases-add_all : goal.decreases-add_all
decreases-add_all l = length l.pdus.now
