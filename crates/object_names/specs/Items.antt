-- The octets of an item, whoever owns them, and the items of attributes in a list of references.
use Rattle.std.specs.Prelude.{◌≡◌, ℕ, ◌+◌, true, List, [], ◌∷◌, codes, slice_get, Some, if◌then◌else◌}
use Rattle.sv_base.specs.declared.config.AttrDef.{AttrDef}
use Rattle.bay_model.specs.NamedLines.{is_setting}
use Rattle.object_names.specs.declared.named.ItemOctets.{ItemOctets}
use Rattle.object_names.specs.declared.named.ItemOctets.TheVariants as items
use Rattle.name_leaves.specs.Attributes.{attr_at}

abbrev pub item_octets : ItemOctets → List ℕ
item_octets (items.Lent octets) = octets.now
item_octets (items.Made octets) = octets

-- the reference of that number is that of the attribute of a line, under a functional constraint
abbrev pub HasReference : List (List ℕ) → ℕ → AttrDef → List ℕ → Type 0
HasReference references number a fc = slice_get references number ≡ Some (attr_at a fc).reference

-- the attributes of these lines and the twins of those under SG have their references from these numbers on
abbrev pub AreReferenced : List (List ℕ) → ℕ → ℕ → List AttrDef → Type 0
AreReferenced references x twin [] = Unit {0}
AreReferenced references x twin (a ∷ rest) = HasReference references x a a.fc × (is_setting a ≡ true → HasReference references twin a (codes "SE"))
    × AreReferenced references (x + 1) (if is_setting a then twin + 1 else twin) rest
