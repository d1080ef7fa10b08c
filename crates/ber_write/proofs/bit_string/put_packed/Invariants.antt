-- what the loops of `bit_string::put_packed` keep, and why they end
use Rattle.std.proofs.Common.{◌≡◌, ◌++◌, length, take}
use Rattle.ber_write.specs.BitString.{packed}
use Rattle.ber_write.proofs.bit_string.put_packed.Given as goal

abbrev pub invariant-loop-rest : goal.invariant-loop-rest
invariant-loop-rest l = record {
  written : l.out.items ++ packed l.rest ≡ l.fn.out.items ++ packed l.value;
  kept : take (length l.fn.out.items) l.out.items ≡ l.fn.out.items;
}

abbrev pub decreases-loop-rest : goal.decreases-loop-rest
decreases-loop-rest l = length l.rest
