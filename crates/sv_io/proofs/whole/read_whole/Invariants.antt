-- what the loops of `whole::read_whole` keep, and why they end
use Rattle.std.proofs.Common.{◌≡◌, ◌≤◌, ◌-◌, length}
use Rattle.sv_io.proofs.ReadWhole.{ReadSoFar}
use Rattle.sv_io.proofs.whole.read_whole.Given as goal

abbrev pub invariant-loop-piece : goal.invariant-loop-piece
invariant-loop-piece g l = record {
  read : ReadSoFar (g.S.Source.left l.fn.source) (g.S.Source.left l.source) l.octets.items l.most;
  piece : length l.piece ≡ 16384;
  later : g.S.Source.faults l.fn.source ≤ g.S.Source.faults l.source;
}

abbrev pub decreases-loop-piece : goal.decreases-loop-piece
decreases-loop-piece g l = l.most - length l.octets.items
