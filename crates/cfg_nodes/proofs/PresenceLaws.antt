-- A node is there where it has octets of its own or is a structure.
use Rattle.std.proofs.Common.{◌≡◌, ℕ, Bool, true, false, cond, ◌||◌, List, [], ◌∷◌, map, Some, is_some, refl, sym, ap, ◌∙◌}
use Rattle.std.specs.List.{list_any}
use Rattle.std.specs.Str.{bytes_eq}
use Rattle.cfg_lines.specs.declared.leaf.Leaf.{Leaf}
use Rattle.cfg_lines.specs.Keys.{is_among}
use Rattle.cfg_lines.specs.Paths.{above}
use Rattle.cfg_lines.specs.Sizes.{leaf_octets}
use Rattle.cfg_lines.specs.Nodes.{reaches}
use Rattle.cfg_lines.proofs.PathLaws.{any-or}

octets-there : (leaves : List Leaf) (node : List ℕ) → is_some (leaf_octets leaves node) ≡ list_any (λ name. bytes_eq node name) (map (λ leaf. leaf.name) leaves)
octets-there [] node = refl
octets-there (leaf ∷ leaves) node = by (bytes_eq node leaf.name) (octets-there leaves node)
  where
    by : (b : Bool) → is_some (leaf_octets leaves node) ≡ list_any (λ name. bytes_eq node name) (map (λ leaf. leaf.name) leaves)
        → is_some (cond b (Some leaf.octets) (leaf_octets leaves node)) ≡ (b || list_any (λ name. bytes_eq node name) (map (λ leaf. leaf.name) leaves))
    by true e = refl
    by false e = e

-- those without parts and the structures above them are all that is reached
pub node-there : (leaves : List Leaf) (node : List ℕ) → (is_some (leaf_octets leaves node) || list_any (λ name. is_among (above name) node) (map (λ leaf. leaf.name) leaves)) ≡ reaches (map (λ leaf. leaf.name) leaves) node
node-there leaves node = let names = map (λ leaf. leaf.name) leaves in
    ap (λ b. b || list_any (λ name. is_among (above name) node) names) (octets-there leaves node) ∙ sym (any-or (λ name. bytes_eq node name) (λ name. is_among (above name) node) names)
