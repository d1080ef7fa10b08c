-- What a store stands for: the values of a history's attributes, and the whole values of nodes.
use Rattle.std.specs.List.{All}
use Rattle.bay_model.specs.declared.step.Setting.{Setting}
use Rattle.std.specs.Prelude.{slice_set, ◌≡◌, ◌<◌, ℕ, List, [], ◌∷◌, ◌++◌, length}
use Rattle.sv_base.specs.Types.{Shape, Fields, simple, composed, no_field, field}
use Rattle.bay_model.specs.Model as model
use Rattle.bay_model.specs.Model.{Model, Tree, Trees, attribute as attribute_leaf}
use Rattle.bay_model.specs.Points.{Past}
use Rattle.bay_model.specs.Values.{value_at}
use Rattle.value_store.specs.Stored.{Stored, attribute, with_value}

-- each attribute has the value that it has in the history
abbrev pub Stands : List Stored → Model → Past → Type 0
Stands all c past = (x : ℕ) → x < length all → (attribute all x).held.value ≡ value_at c x past

-- the attributes of a node's tree, in its order
abbrev mutual
  pub tree_attrs : Tree → List ℕ
  tree_attrs (model.leaf (attribute_leaf x)) = x ∷ []
  tree_attrs (model.leaf _) = []
  tree_attrs (model.structure ts) = row_attrs ts

  pub row_attrs : Trees → List ℕ
  row_attrs model.none = []
  row_attrs (model.more t ts) = tree_attrs t ++ row_attrs ts

-- the tree has attributes where the type has parts of basic types, and structures where it has structures
abbrev mutual
  pub HasForm : Tree → Shape → Type 0
  HasForm (model.leaf (attribute_leaf x)) (simple k) = Unit {0}
  HasForm (model.structure ts) (composed fs) = HaveForms ts fs
  HasForm _ _ = ⊥

  pub HaveForms : Trees → Fields → Type 0
  HaveForms model.none no_field = Unit {0}
  HaveForms (model.more t ts) (field n s fs) = HasForm t s × HaveForms ts fs
  HaveForms _ _ = ⊥

-- the store after the process set attributes, in order
abbrev pub stored_after : List Stored → List Setting → List Stored
stored_after all [] = all
stored_after all (s ∷ later) = stored_after (slice_set all s.attr.0 (with_value s.value (attribute all s.attr.0))) later

abbrev pub AreSettable : List Stored → List Setting → Type 0
AreSettable all settings = All (λ (s : Setting). s.attr.0 < length all) settings
