-- What a node reads as: the values of its leaves in the structure of its type, or the code of the first leaf that is refused
-- (IEC 61850-7-2, GetDataValues, GetBRCBValues and GetSGCBValues; ISO 9506-2, Data and DataAccessError).
use Rattle.std.specs.Prelude.{ℕ, List, [], ◌∷◌, Result, Ok, Err}
use Rattle.sv_base.specs.Same.{value_of}
use Rattle.sv_base.specs.Types.{Shape, Fields, simple, composed, no_field, field}
use Rattle.sv_base.specs.Fields.{shape_of}
use Rattle.sv_base.specs.Tree.{Row, none}
use Rattle.sv_base.specs.declared.types.TypeOf.{TypeOf}
use Rattle.sv_base.specs.declared.value.Value.{Value}
use Rattle.bay_model.specs.Model as model
use Rattle.bay_model.specs.Model.{Tree, Trees, Leaf}
use Rattle.bay_model.specs.Reads.{structured, joined}
use Rattle.name_leaves.specs.Leaves.{leaf_seen}
use Rattle.name_leaves.specs.declared.leaves.Leaf.{Leaf as CodeLeaf}
use Rattle.value_store.specs.Members.{value_with}
use Rattle.bay_model.specs.declared.access_errors.TheConstants.{OBJECT_ACCESS_DENIED}

-- a tree, by what each of its leaves reads as
abbrev mutual
  pub read_by : (Leaf → Result Value ℕ) → Tree → Result Value ℕ
  read_by f (model.leaf l) = f l
  read_by f (model.structure ts) = structured (read_side f ts)

  pub read_side : (Leaf → Result Value ℕ) → Trees → Result Row ℕ
  read_side f model.none = Ok none
  read_side f (model.more t ts) = joined (read_by f t) (read_side f ts)

-- what stands under CO is never read: object-access-denied
abbrev pub leaf_read : (Leaf → Result Value ℕ) → Leaf → Result Value ℕ
leaf_read given model.withheld = Err OBJECT_ACCESS_DENIED
leaf_read given l = given l

-- the same of a leaf as the code has it
abbrev pub leaf_at : (Leaf → Result Value ℕ) → CodeLeaf → Result Value ℕ
leaf_at given l = leaf_read given (leaf_seen l)

-- all values in their order, or the first code
abbrev pub put_front : Value → Result (List Value) ℕ → Result (List Value) ℕ
put_front v (Ok vs) = Ok (v ∷ vs)
put_front v (Err code) = Err code

abbrev pub all_or_first : List (Result Value ℕ) → Result (List Value) ℕ
all_or_first [] = Ok []
all_or_first (Ok v ∷ rs) = put_front v (all_or_first rs)
all_or_first (Err code ∷ rs) = Err code

-- of the type, with these values
abbrev pub typed : TypeOf → Result (List Value) ℕ → Result Value ℕ
typed kind (Ok vs) = Ok (value_of (value_with (shape_of kind) vs))
typed kind (Err code) = Err code

-- a leaf where the type is a basic one, and a structure where it is a structure; what is never read is of any type
abbrev mutual
  pub HasShape : Tree → Shape → Type 0
  HasShape (model.leaf (model.attribute x)) (simple k) = Unit {0}
  HasShape (model.leaf (model.component b comp)) (simple k) = Unit {0}
  HasShape (model.leaf (model.setting d comp)) (simple k) = Unit {0}
  HasShape (model.leaf model.withheld) s = Unit {0}
  HasShape (model.structure ts) (composed fs) = HaveShapes ts fs
  HasShape _ _ = ⊥

  pub HaveShapes : Trees → Fields → Type 0
  HaveShapes model.none no_field = Unit {0}
  HaveShapes (model.more t ts) (field n s fs) = HasShape t s × HaveShapes ts fs
  HaveShapes _ _ = ⊥
