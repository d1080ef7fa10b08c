-- what the loops of `nodes::of_leaves` keep
use Rattle.std.proofs.Common.{◌≡◌, ℕ, List, length, map, take}
use Rattle.std.specs.List.{list_any}
use Rattle.cfg_lines.specs.Keys.{is_among}
use Rattle.cfg_lines.specs.Paths.{above}
use Rattle.cfg_lines.specs.Sizes.{children}
use Rattle.cfg_nodes.specs.Indexed.{parts_in}
use Rattle.cfg_nodes.proofs.nodes.of_leaves.Given as goal

abbrev pub invariant-loop-place : goal.invariant-loop-place
invariant-loop-place l = record {
  even : length l.parts.parts.items ≡ length l.parts.structures;
  names : l.names ≡ take l.place (map (λ leaf. leaf.name) l.leaves);
  structures : (node : List ℕ) → is_among l.parts.structures node ≡ list_any (λ name. is_among (above name) node) (take l.place (map (λ leaf. leaf.name) l.leaves));
  parts : (node : List ℕ) → parts_in l.parts node ≡ children (take l.place (map (λ leaf. leaf.name) l.leaves)) node;
}
