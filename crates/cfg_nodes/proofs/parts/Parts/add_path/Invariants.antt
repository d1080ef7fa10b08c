-- what the loops of `parts::Parts::add_path` keep
use Rattle.std.proofs.Common.{◌≡◌, ◌||◌, ℕ, List, length, take, fold}
use Rattle.octet_rows.specs.Hashing.{nothing, gathered}
use Rattle.cfg_lines.specs.Keys.{is_among}
use Rattle.cfg_lines.specs.Paths.{above_within}
use Rattle.cfg_nodes.specs.Indexed.{parts_in, last_front, with_front, IsPlaced}
use Rattle.cfg_nodes.proofs.parts.Parts.add_path.Given as goal

abbrev pub invariant-loop-i : goal.invariant-loop-i
invariant-loop-i l = record {
  number : l.hash ≡ fold gathered nothing (take l.i l.path);
  even : length l.self.parts.items ≡ length l.self.structures;
  among : (q : List ℕ) → is_among l.self.structures q ≡ (is_among (above_within l.i l.path) q || is_among l.initial.self.structures q);
  placed : IsPlaced l.self (last_front l.i l.path) l.above;
  parts : (other : List ℕ) → parts_in l.self other ≡ with_front other (parts_in l.initial.self other) (last_front l.i l.path);
}
