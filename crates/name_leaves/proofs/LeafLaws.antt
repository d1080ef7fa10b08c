-- What the code says of a name and its leaf, and what the model says, are one.
use Rattle.std.proofs.Common.{◌≡◌, List, [], ◌∷◌, map, refl, ap, ◌∙◌}
use Rattle.bay_model.specs.Model as model
use Rattle.bay_model.specs.Model.{Leaf, Role, single, selecting, calling, several, attribute, component, setting, withheld}
use Rattle.name_leaves.specs.Seen.{role_seen}
use Rattle.name_leaves.specs.Leaves.{leaf_seen, leaf_code, what_code}
use Rattle.name_leaves.specs.declared.what.What.{What}
use Rattle.name_leaves.specs.declared.what.What.TheVariants as whats

pub what_back : (w : What) → what_code (role_seen w) ≡ w
what_back (whats.Attribute x) = refl
what_back (whats.Component b k) = refl
what_back (whats.Setting d k) = refl
what_back whats.Withheld = refl
what_back (whats.Selecting k) = refl
what_back (whats.Calling k call) = refl
what_back whats.Structure = refl

pub role_there : (r : Role) → role_seen (what_code r) ≡ r
role_there (single (attribute x)) = refl
role_there (single (component b k)) = refl
role_there (single (setting d k)) = refl
role_there (single withheld) = refl
role_there (selecting k) = refl
role_there (calling k call) = refl
role_there several = refl

leaf_there : (l : Leaf) → leaf_seen (leaf_code l) ≡ l
leaf_there (attribute x) = refl
leaf_there (component b k) = refl
leaf_there (setting d k) = refl
leaf_there withheld = refl

pub leaves_there : (ls : List Leaf) → map leaf_seen (map leaf_code ls) ≡ ls
leaves_there [] = refl
leaves_there (l ∷ ls) = ap (λ x. x ∷ map leaf_seen (map leaf_code ls)) (leaf_there l) ∙ ap (λ x. l ∷ x) (leaves_there ls)
