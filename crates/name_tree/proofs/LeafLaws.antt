-- The leaves of a name and of its parts.
use Rattle.std.proofs.Common.{◌≡◌, ◌+◌, ◌==◌, true, false, List, [], ◌∷◌, length, None, refl, arith}
use Rattle.std.specs.Option.{option_map}
use Rattle.std.proofs.lemmas.Bool.Decides.{nat_tests}
use Rattle.sv_base.specs.Fields.{fields_of}
use Rattle.sv_base.specs.declared.types.Part1.{Part1}
use Rattle.bay_model.specs.Model.{Role, single, selecting, calling, several}
use Rattle.bay_model.specs.NameTree.{Forest, nothing, named}
use Rattle.bay_model.specs.Places.{fields, trees, tree_with}
use Rattle.name_leaves.specs.Leaves.{leaves, leaves_side, leaf_code, own_leaf}
use Rattle.name_tree.specs.Leaves.{own, own_with, own_count}

pub own_with_parts : (r : Role) (ps : List Part1) → (length ps == 0) ≡ false → own_with r (fields_of ps) ≡ None
own_with_parts r [] h = absurd (grind (arith, nat_tests))
own_with_parts r (p ∷ ps) h = refl

pub own_without : (r : Role) (ps : List Part1) → (length ps == 0) ≡ true → own_with r (fields_of ps) ≡ own_leaf r
own_without r [] h = refl
own_without r (p ∷ ps) h = absurd (grind (arith, nat_tests))

-- the leaf and the leaves of a name in its tree
pub own_tree : (r : Role) (f : Forest) → own_with r (fields f) ≡ own (tree_with r (trees f))
own_tree (single l) nothing = refl
own_tree (selecting k) nothing = refl
own_tree (calling k call) nothing = refl
own_tree several nothing = refl
own_tree (single l) (named n r k ps os) = refl
own_tree (selecting j) (named n r k ps os) = refl
own_tree (calling j call) (named n r k ps os) = refl
own_tree several (named n r k ps os) = refl

pub count_tree : (r : Role) (f : Forest) → own_count (option_map leaf_code (own_with r (fields f))) + length (leaves_side (trees f)) ≡ length (leaves (tree_with r (trees f)))
count_tree (single l) nothing = refl
count_tree (selecting k) nothing = refl
count_tree (calling k call) nothing = refl
count_tree several nothing = refl
count_tree (single l) (named n r k ps os) = omega arith
count_tree (selecting j) (named n r k ps os) = omega arith
count_tree (calling j call) (named n r k ps os) = omega arith
count_tree several (named n r k ps os) = omega arith
