-- What stands at the ends of names, in the model's words and as the code has it.
use Rattle.std.specs.Prelude.{List, [], ◌∷◌, ◌++◌, Option, Some, None}
use Rattle.bay_model.specs.Model as model
use Rattle.bay_model.specs.Model.{Role, single, selecting, calling, several, attribute, component, setting, withheld, Tree, leaf, structure, Trees, none, more}
use Rattle.name_leaves.specs.declared.leaves.Leaf.{Leaf}
use Rattle.name_leaves.specs.declared.leaves.Leaf.TheVariants as ends
use Rattle.name_leaves.specs.declared.what.What.{What}
use Rattle.name_leaves.specs.declared.what.What.TheVariants as whats

abbrev pub leaf_seen : Leaf → model.Leaf
leaf_seen (ends.Attribute x) = attribute x.0
leaf_seen (ends.Component b k) = component b.0 k
leaf_seen (ends.Setting d k) = setting d k
leaf_seen ends.Withheld = withheld

-- the leaves of a tree in its order
abbrev mutual
  pub leaves : Tree → List model.Leaf
  leaves (leaf l) = l ∷ []
  leaves (structure ts) = leaves_side ts

  pub leaves_side : Trees → List model.Leaf
  leaves_side none = []
  leaves_side (more t ts) = leaves t ++ leaves_side ts

-- the leaf of a name without parts; a command and a structure have none
abbrev pub own_leaf : Role → Option model.Leaf
own_leaf (single l) = Some l
own_leaf (selecting k) = Some withheld
own_leaf (calling k call) = None
own_leaf several = None

-- ---- for the code

abbrev pub leaf_code : model.Leaf → Leaf
leaf_code (attribute x) = ends.Attribute (record { 0 = x })
leaf_code (component b k) = ends.Component (record { 0 = b }) k
leaf_code (setting d k) = ends.Setting d k
leaf_code withheld = ends.Withheld

abbrev pub what_code : Role → What
what_code (single (attribute x)) = whats.Attribute x
what_code (single (component b k)) = whats.Component b k
what_code (single (setting d k)) = whats.Setting d k
what_code (single withheld) = whats.Withheld
what_code (selecting k) = whats.Selecting k
what_code (calling k call) = whats.Calling k call
what_code several = whats.Structure
