-- Types as a tree, for contracts: each is of a kind, or a structure of named parts (ISO 9506-2, TypeSpecification).
use Rattle.std.specs.Prelude.{◌≡◌, ℕ, ◌+◌, true, false, List, [], ◌∷◌, refl}
use Rattle.std.proofs.Common.{ap, ap₂}
use Rattle.std.specs.Coded.{Coded, code_by}
use Rattle.sv_base.specs.Tree as tree

-- a type with no parts: the bits of a number or a bit string, or the most octets of a text or an octet string
pub data Kind : Type 0 where
  truth : Kind
  int : ℕ → Kind
  uint : ℕ → Kind
  bits : ℕ → Kind
  time : Kind
  stamp : Kind
  text : ℕ → Kind
  octets : ℕ → Kind
  entry_id : Kind

mutual
  pub data Shape : Type 0 where
    simple : Kind → Shape
    composed : Fields → Shape

  pub data Fields : Type 0 where
    no_field : Fields
    field : (name : List ℕ) → Shape → Fields → Fields

-- A row of values that gives the fields back, so that a proof can say two of them apart: any row that does would serve.
abbrev pub plain_of_kind : Kind → tree.Plain
plain_of_kind truth = tree.truth true
plain_of_kind (int n) = tree.stamp 0 n
plain_of_kind (uint n) = tree.uint n
plain_of_kind (bits n) = tree.time 0 0 n
plain_of_kind time = tree.truth false
plain_of_kind stamp = tree.other
plain_of_kind (text n) = tree.text (n ∷ [])
plain_of_kind (octets n) = tree.octets (n ∷ [])
plain_of_kind entry_id = tree.bits []

abbrev pub kind_of_plain : tree.Plain → Kind
kind_of_plain (tree.truth true) = truth
kind_of_plain (tree.stamp m n) = int n
kind_of_plain (tree.uint n) = uint n
kind_of_plain (tree.time s f n) = bits n
kind_of_plain (tree.truth false) = time
kind_of_plain (tree.text (n ∷ ns)) = text n
kind_of_plain (tree.octets (n ∷ ns)) = octets n
kind_of_plain (tree.bits bs) = entry_id
kind_of_plain _ = stamp

abbrev mutual
  pub seen_of_shape : Shape → tree.Seen
  seen_of_shape (simple k) = tree.plain (plain_of_kind k)
  seen_of_shape (composed f) = tree.structure (row_of_fields f)

  pub row_of_fields : Fields → tree.Row
  row_of_fields no_field = tree.none
  row_of_fields (field name s f) = tree.more (tree.plain (tree.text name)) (tree.more (seen_of_shape s) (row_of_fields f))

abbrev mutual
  pub shape_of_seen : tree.Seen → Shape
  shape_of_seen (tree.plain p) = simple (kind_of_plain p)
  shape_of_seen (tree.structure r) = composed (fields_of_row r)

  pub fields_of_row : tree.Row → Fields
  fields_of_row (tree.more (tree.plain (tree.text name)) (tree.more s r)) = field name (shape_of_seen s) (fields_of_row r)
  fields_of_row _ = no_field

back-kind : (k : Kind) → kind_of_plain (plain_of_kind k) ≡ k
back-kind truth = refl
back-kind (int n) = refl
back-kind (uint n) = refl
back-kind (bits n) = refl
back-kind time = refl
back-kind stamp = refl
back-kind (text n) = refl
back-kind (octets n) = refl
back-kind entry_id = refl

mutual
  back-shape : (s : Shape) → shape_of_seen (seen_of_shape s) ≡ s
  back-shape (simple k) = ap simple (back-kind k)
  back-shape (composed f) = ap composed (back-fields f)

  pub back-fields : (f : Fields) → fields_of_row (row_of_fields f) ≡ f
  back-fields no_field = refl
  back-fields (field name s f) = ap₂ (field name) (back-shape s) (back-fields f)

abbrev pub fields_code : Coded Fields
fields_code = code_by tree.Row tree.row_code row_of_fields fields_of_row back-fields

-- how deep and how many, for a measure
abbrev mutual
  pub weight : Shape → ℕ
  weight (simple k) = 1
  weight (composed f) = 1 + weight_fields f

  pub weight_fields : Fields → ℕ
  weight_fields no_field = 1
  weight_fields (field name s f) = 2 + weight s + weight_fields f
