-- The nodes of a tree of names, a node before its parts: what each holds, its type, its attributes, and whether it may be a
-- member of a data set (IEC 61850-7-2, DATA-SET; ISO 9506-2, TypeSpecification and Data).
use Rattle.std.specs.Prelude.{ℕ, ◌+◌, ◌/◌, Bool, true, false, ◌&&◌, ◌==◌, nat_le, List, [], ◌∷◌, ◌++◌, length, codes}
use Rattle.std.specs.List.{list_any, before_first, after_first}
use Rattle.std.specs.Str.{bytes_eq}
use Rattle.sv_base.specs.Data.{length_field}
use Rattle.sv_base.specs.Types as shapes
use Rattle.sv_base.specs.Types.{Shape, Fields, simple, composed, no_field, field}
use Rattle.sv_base.specs.Fields.{shape_of}
use Rattle.sv_base.specs.declared.types.TypeOf.{TypeOf}
use Rattle.sv_base.specs.declared.types.TypeOf.TheVariants as types
use Rattle.bay_model.specs.Model.{Node, Tree, Trees, leaf, structure, none, more, Role, single, selecting, several, attribute, withheld}
use Rattle.bay_model.specs.NameTree.{Forest, nothing, named}

-- a node with its type, and whether it holds attributes alone
pub record Place : Type 0 where
  pub item : List ℕ
  pub role : Role
  pub kind : TypeOf
  pub tree : Tree
  pub attrs : List ℕ
  pub is_data : Bool

-- a name with parts is the structure of them
abbrev pub type_with : TypeOf → Fields → TypeOf
type_with own no_field = own
type_with own fs = types.Struct fs

abbrev pub fields : Forest → Fields
fields nothing = no_field
fields (named n r k parts others) = field n (shape_of (type_with k (fields parts))) (fields others)

abbrev pub tree_with : Role → Trees → Tree
tree_with (single l) none = leaf l
tree_with (selecting k) none = leaf withheld
tree_with r ts = structure ts

abbrev pub trees : Forest → Trees
trees nothing = none
trees (named n r k parts others) = more (tree_with r (trees parts)) (trees others)

abbrev pub attrs_of_role : Role → List ℕ
attrs_of_role (single (attribute x)) = x ∷ []
attrs_of_role _ = []

abbrev pub attrs_in : Forest → List ℕ
attrs_in nothing = []
attrs_in (named n r k parts others) = (attrs_of_role r ++ attrs_in parts) ++ attrs_in others

-- neither a part of a block or a control, nor one of these
abbrev pub is_data_role : Role → Bool
is_data_role (single (attribute x)) = true
is_data_role several = true
is_data_role _ = false

abbrev pub are_data : Forest → Bool
are_data nothing = true
are_data (named n r k parts others) = is_data_role r && are_data parts && are_data others

abbrev pub place : List ℕ → Role → TypeOf → Forest → Place
place item r k parts = record { item = item; role = r; kind = type_with k (fields parts); tree = tree_with r (trees parts); attrs = attrs_of_role r ++ attrs_in parts; is_data = is_data_role r && are_data parts }

-- before is what stands before each of the names side by side: nothing, or an item and `$`
abbrev pub places : List ℕ → Forest → List Place
places before nothing = []
places before (named n r k parts others) = place (before ++ n) r k parts ∷ (places (before ++ n ++ 36 ∷ []) parts ++ places before others)

-- the octets of an element with a content of that many
abbrev pub headed : ℕ → ℕ
headed n = 1 + length (length_field n) + n

-- the octets of the largest Data of a type
abbrev pub largest_kind : shapes.Kind → ℕ
largest_kind shapes.truth = 3
largest_kind (shapes.int w) = 2 + w / 8
largest_kind (shapes.uint w) = 3 + w / 8
largest_kind (shapes.bits n) = headed (1 + (n + 7) / 8)
largest_kind shapes.time = 10
largest_kind shapes.stamp = 8
largest_kind (shapes.text most) = headed most
largest_kind (shapes.octets most) = headed most
largest_kind shapes.entry_id = 10

abbrev mutual
  pub largest_shape : Shape → ℕ
  largest_shape (simple k) = largest_kind k
  largest_shape (composed fs) = headed (largest_fields fs)

  pub largest_fields : Fields → ℕ
  largest_fields no_field = 0
  largest_fields (field name s fs) = largest_shape s + largest_fields fs

abbrev pub largest : TypeOf → ℕ
largest k = largest_shape (shape_of k)

-- the functional constraint of an item, its second name
abbrev pub constraint : List ℕ → List ℕ
constraint item = before_first (λ o. o == 36) (after_first (λ o. o == 36) item)

abbrev pub member_constraints : List (List ℕ)
member_constraints = codes "ST" ∷ codes "MX" ∷ codes "SG" ∷ codes "CF" ∷ codes "DC" ∷ codes "SV" ∷ codes "SP" ∷ codes "EX" ∷ []

-- whether it may be a member of a data set, however large its Data
abbrev pub may_be_member : Place → Bool
may_be_member p = p.is_data && list_any (bytes_eq (constraint p.item)) member_constraints

abbrev pub node_at : List ℕ → Place → Node
node_at domain p = record { domain = domain; item = p.item; role = p.role; tree = p.tree; attrs = p.attrs; allowed = may_be_member p && nat_le (largest p.kind) 500 }
