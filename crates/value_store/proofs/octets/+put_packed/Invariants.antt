-- why `octets::put_packed` ends
use Rattle.std.proofs.Common.{length}
use Rattle.value_store.proofs.octets.+put_packed.Given as goal

abbrev pub decreases-put_packed : goal.decreases-put_packed
decreases-put_packed l = length l.bits.now
