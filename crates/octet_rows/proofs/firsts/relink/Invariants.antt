-- what the loops of `firsts::relink` keep
use Rattle.std.proofs.Common.{◌≡◌, ℕ, length, take}
use Rattle.octet_rows.specs.Chains.{latest, AreChained}
use Rattle.octet_rows.proofs.firsts.relink.Given as goal

abbrev pub invariant-loop-i : goal.invariant-loop-i
invariant-loop-i l = record {
  chained : AreChained l.heads (take l.i l.entries);
  some : length l.heads ≡ length l.fn.heads;
  len : length l.entries ≡ length l.fn.entries;
  same : (q : ℕ) → latest l.entries q ≡ latest l.fn.entries q;
}
