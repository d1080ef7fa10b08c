-- What stands at the nodes of a configuration: attributes and components of report blocks that are there, those of the setting group
-- blocks of some domains, and the SBO, the commands and the parts of commands of controls that are there.
use Rattle.std.specs.Prelude.{◌≡◌, ◌<◌, ℕ, true}
use Rattle.sv_base.specs.declared.config.Config.{Config}
use Rattle.bay_model.specs.Lookups.{groups_of}
use Rattle.bay_model.specs.Model.{Leaf, attribute, component, setting, withheld, Tree, leaf, structure, Trees, none, more, Role, single, several, selecting, calling, Node}
use Rattle.bay_model.specs.Named.{configured_model}

-- the domain has groups
abbrev pub HasGroups : Config → ℕ → Type 0
HasGroups c d = 0 < (groups_of (configured_model c) d).count

-- one of n attributes, of the components of n blocks, or of the setting group block of such a domain; what stands under CO is
-- withheld
abbrev pub IsPlainLeaf : (attrs blocks : ℕ) → (ℕ → Type 0) → Leaf → Type 0
IsPlainLeaf attrs blocks G (attribute x) = x < attrs
IsPlainLeaf attrs blocks G (component b k) = b < blocks
IsPlainLeaf attrs blocks G (setting d k) = G d
IsPlainLeaf attrs blocks G withheld = Unit {0}

abbrev mutual
  pub IsPlainTree : (attrs blocks : ℕ) → (ℕ → Type 0) → Tree → Type 0
  IsPlainTree attrs blocks G (leaf l) = IsPlainLeaf attrs blocks G l
  IsPlainTree attrs blocks G (structure ts) = ArePlainTrees attrs blocks G ts

  pub ArePlainTrees : (attrs blocks : ℕ) → (ℕ → Type 0) → Trees → Type 0
  ArePlainTrees attrs blocks G none = Unit {0}
  ArePlainTrees attrs blocks G (more t ts) = IsPlainTree attrs blocks G t × ArePlainTrees attrs blocks G ts

abbrev pub IsPlainRole : (attrs blocks controls : ℕ) → (ℕ → Type 0) → Role → Type 0
IsPlainRole attrs blocks controls G (single l) = IsPlainLeaf attrs blocks G l
IsPlainRole attrs blocks controls G several = Unit {0}
IsPlainRole attrs blocks controls G (selecting k) = k < controls
IsPlainRole attrs blocks controls G (calling k call) = k < controls

-- it is neither the SBO nor a command of a control
abbrev pub SelectsNothing : Role → Type 0
SelectsNothing (selecting k) = ⊥
SelectsNothing (calling k call) = ⊥
SelectsNothing _ = Unit {0}

-- what may be a member of a data set neither selects nor calls
pub record IsPlainNode (attrs blocks controls : ℕ) (G : ℕ → Type 0) (n : Node) : Type 0 where
  pub role : IsPlainRole attrs blocks controls G n.role
  pub tree : IsPlainTree attrs blocks G n.tree
  pub member : n.allowed ≡ true → SelectsNothing n.role
