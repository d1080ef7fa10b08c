-- The members of a block's data set: each is a node of the configuration, with its row.
use Rattle.std.proofs.Common.{◌≡◌, ◌<◌, ◌≤◌, ℕ, suc, Bool, true, false, cond, List, [], ◌∷◌, length, map, slice_index_or, Option, Some, None, unwrap_or, refl, ap₂, sym, ◌∙◌, subst, arith}
use Rattle.std.specs.Prelude.{min, nat_le}
use Rattle.std.specs.List.{All, find}
use Rattle.std.specs.Option.{option_map}
use Rattle.std.proofs.lemmas.Bool.{and_parts, leb-true}
use Rattle.std.proofs.lemmas.List.{length-map}
use Rattle.std.proofs.lemmas.List.Elements.{All-nil, All-cons, All-head, All-tail, All-get_or}
use Rattle.std.proofs.lemmas.Option.{slice_get-get_or}
use Rattle.sv_base.specs.declared.config.Config.{Config}
use Rattle.sv_base.specs.declared.numbers.AttrId.{AttrId}
use Rattle.bay_model.specs.declared.tables.MemberShape.{MemberShape}
use Rattle.bay_model.specs.declared.tables.NodeRow.{NodeRow}
use Rattle.bay_model.specs.Model.{Model, DataSet}
use Rattle.bay_model.specs.Lookups.{node_of}
use Rattle.bay_model.specs.Reports.{reference_at}
use Rattle.bay_model.specs.Named.{configured_model}
use Rattle.bay_model.specs.Parameters.{parameters_at}
use Rattle.bay_model.specs.Places.{Place, largest}
use Rattle.bay_model.specs.Points.{Past}
use Rattle.bay_model.specs.Sets.{members, sets, set_referred}
use Rattle.data_sets.specs.Books.{Booked, Book, no_set}
use Rattle.data_sets.specs.Standing.{data_set}
use Rattle.object_model.specs.Nodes.{node_rows, rows_from}
use Rattle.object_model.specs.Rows.{IsRowOf}
use Rattle.object_model.specs.Tables.{node_type, node_id}
use Rattle.object_model.proofs.TableLaws.{count-rows, rows-are-nodes}
use Rattle.set_view.specs.Shapes.{no_row, shape_of, shapes_of}
use Rattle.trigger_core.specs.Points.{AreShapes}
use Rattle.bay_config.specs.Servable.{IsServedSet, IsMember}
use Rattle.block_watch.specs.Served.{AreServedSets}

-- ---- the nodes of a data set

-- what is found has what all have
pub found : {A : Type 0} (P : A → Type 0) (test : A → Bool) (xs : List A) → All P xs → (x : A) → find test xs ≡ Some x → P x
found {A = A} P test [] all x is = cc
found {A = A} P test (y ∷ ys) all x is = by (test y) (All-head P y ys all) (found P test ys (All-tail P y ys all) x) is
  where
    some : (y x : A) → Some y ≡ Some x → y ≡ x
    some y x e = cc

    by : (b : Bool) → P y → (find test ys ≡ Some x → P x) → cond b (Some y) (find test ys) ≡ Some x → P x
    by true first later e = subst P (some y x e) first
    by false first later e = later e

-- nodes that a data set may have, and not too many
pub record AreServed (c : Config) (ns : List ℕ) : Type 0 where
  pub few : length ns ≤ 256
  pub members : All (IsMember c) ns
  pub short : All (λ n. length (reference_at (configured_model c) n) ≤ 129) ns

served-of : (c : Config) (o : Option DataSet) → ((s : DataSet) → o ≡ Some s → IsServedSet c s) → AreServed c (unwrap_or (option_map (λ (s : DataSet). s.nodes) o) [])
served-of c None is = record { few = omega arith; members = All-nil (IsMember c); short = All-nil (λ n. length (reference_at (configured_model c) n) ≤ 129) }
served-of c (Some s) is = let t = is s refl in record { few = t.few; members = t.members; short = t.short }

-- the nodes of the data set that a reference names
abbrev pub nodes_named : List DataSet → List ℕ → List ℕ
nodes_named sets reference = unwrap_or (option_map (λ (s : DataSet). s.nodes) (set_referred reference sets)) []

-- the data sets of the book
abbrev pub sets_in : Book → List DataSet
sets_in book = map data_set book.sets

all-sets : (P : DataSet → Type 0) (bs : List Booked) → ((k : ℕ) → k < length bs → P (data_set (slice_index_or bs k no_set))) → All P (map data_set bs)
all-sets P [] each = All-nil P
all-sets P (b ∷ bs) each = All-cons P (data_set b) (map data_set bs) (each 0 (omega arith)) (all-sets P bs (λ k below. each (suc k) (omega (arith, below))))

pub all-served : (c : Config) (book : Book) → AreServedSets c book → All (IsServedSet c) (sets_in book)
all-served c book are = all-sets (IsServedSet c) book.sets are

pub served-set : (c : Config) (book : Book) (reference : List ℕ) → AreServedSets c book → AreServed c (nodes_named (sets_in book) reference)
served-set c book reference are = served-of c (set_referred reference (sets_in book)) (λ s is. found (IsServedSet c) _ (sets_in book) (all-served c book are) s is)

-- the members of a block whose DatSet is this reference, by the sets that are there
pub members-named : (m : Model) (b : ℕ) (past : Past) (book : Book) (reference : List ℕ) → reference ≡ (parameters_at m b past).dat_set → sets_in book ≡ sets m past → members m b past ≡ nodes_named (sets_in book) reference
members-named m b past book reference is same = ap₂ (λ (r : List ℕ) (all : List DataSet). nodes_named all r) (sym is) (sym same)

-- ---- their shapes

abbrev pub node_shape : Config → ℕ → MemberShape
node_shape c n = shape_of (node_rows c) (node_id n)

abbrev pub node_shapes : Config → List ℕ → List MemberShape
node_shapes c ns = shapes_of (node_rows c) (map node_id ns)

-- the type and the attributes of a node, and the octets of its largest Data
pub record IsShapeOf (c : Config) (n : ℕ) (shape : MemberShape) : Type 0 where
  pub kind : shape.kind ≡ node_type c n
  pub attrs : map (λ (x : AttrId). x.0) shape.attrs ≡ (node_of (configured_model c) n).attrs
  pub small : largest shape.kind ≤ 500

abbrev IsSized : NodeRow → Type 0
IsSized r = r.octets ≡ min (largest r.shape.kind) 4294967295

rows-sized : (n : ℕ) (ps : List Place) → All IsSized (rows_from n ps)
rows-sized n [] = All-nil IsSized
rows-sized n (p ∷ ps) = All-cons IsSized _ (rows_from (suc n) ps) refl (rows-sized (suc n) ps)

row-shape : (c : Config) (n : ℕ) (r : NodeRow) → IsRowOf c n r → IsSized r → (node_of (configured_model c) n).allowed ≡ true → IsShapeOf c n r.shape
row-shape c n r is sized allowed =
    let limit = leb-true r.octets 500 (and_parts r.allowed (nat_le r.octets 500) (is.allowed ∙ allowed)).1 in
    record { kind = is.kind; attrs = is.attrs; small = omega (arith, limit, sized) }

pub member-shape : (c : Config) (n : ℕ) → IsMember c n → IsShapeOf c n (node_shape c n)
member-shape c n member =
    let below : n < length (node_rows c) = omega (arith, member.there, count-rows c) in
    let r = slice_index_or (node_rows c) n no_row in
    row-shape c n r (rows-are-nodes c n r (slice_get-get_or (node_rows c) n no_row below)) (All-get_or IsSized (node_rows c) n no_row below (rows-sized 0 _)) member.allowed

-- the shapes of the members of the data set that a reference names
abbrev pub served_members : Config → Book → List ℕ → List MemberShape
served_members c book reference = node_shapes c (nodes_named (sets_in book) reference)

pub served-few : (c : Config) (book : Book) → AreServedSets c book → (reference : List ℕ) → length (served_members c book reference) ≤ 256
served-few c book are reference =
    let ns = nodes_named (sets_in book) reference in
    omega (arith, length-map (map node_id ns) (shape_of (node_rows c)), length-map ns node_id, (served-set c book reference are).few)

pub are-shapes : (c : Config) (ns : List ℕ) → All (IsMember c) ns → AreShapes (configured_model c) ns (node_shapes c ns)
are-shapes c [] are = tt
are-shapes c (n ∷ ns) are = ((member-shape c n (All-head (IsMember c) n ns are)).attrs, are-shapes c ns (All-tail (IsMember c) n ns are))
