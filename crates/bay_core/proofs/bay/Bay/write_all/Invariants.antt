-- what the loops of `bay::Bay::write_all` keep
use Rattle.std.proofs.Common.{◌≡◌, ◌≤◌, ℕ, None, length, map, take, slice_index_or}
use Rattle.bay_model.specs.Singles.{write_of}
use Rattle.bay_core.specs.Commanded.{AreSingles}
use Rattle.bay_core.proofs.bay.Bay.write_all.Given as goal

-- those before this place were written, and the errors after it are there
abbrev pub invariant-loop-i : goal.invariant-loop-i
invariant-loop-i l = record {
  singles : AreSingles l.fn.self l.self l.fn.a.0 (map write_of (take l.i l.fn.writes)) l.fn.heard l.heard;
  count : length l.blames.items ≡ length l.fn.writes;
  blames : (k : ℕ) → l.i ≤ k → slice_index_or l.blames.items k None ≡ slice_index_or l.fn.blames.items k None;
}
