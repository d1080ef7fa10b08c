-- What is kept of the events of a point is its note, as it is in the model.
use Rattle.std.proofs.Common.{◌≡◌, ◌<◌, ◌≤◌, ◌+◌, ◌-◌, ℕ, suc, Bool, true, false, List, [], ◌∷◌, ◌++◌, length, map, slice_index_or, refl, ap, ap₂, sym, ◌∙◌, subst, arith, if◌then◌else◌}
use Rattle.std.specs.List.{All}
use Rattle.std.proofs.lemmas.List.{get_or-map, length-map}
use Rattle.std.proofs.lemmas.List.Elements.{All-nil, All-cons, All-head, All-tail, All-get_or}
use Rattle.sv_base.specs.Data.{data_of}
use Rattle.sv_base.specs.Fields as fields
use Rattle.sv_base.specs.declared.config.Config.{Config}
use Rattle.bay_model.specs.declared.report.Reasons.{Reasons}
use Rattle.bay_model.specs.declared.tables.MemberShape.{MemberShape}
use Rattle.bay_model.specs.Lookups.{node_of}
use Rattle.bay_model.specs.Model.{Model}
use Rattle.bay_model.specs.Named.{configured_model}
use Rattle.bay_model.specs.Notes.{Kept, is_any, noted}
use Rattle.bay_model.specs.Points.{Past}
use Rattle.bay_model.specs.Values.{whole}
use Rattle.set_view.specs.Shapes.{no_shape, shape_of}
use Rattle.object_model.specs.Nodes.{node_rows}
use Rattle.object_model.specs.Tables.{node_id}
use Rattle.trigger_core.specs.Points.{mention}
use Rattle.value_store.specs.Members.{member_octets}
use Rattle.value_store.specs.Stored.{Stored}
use Rattle.value_store.specs.Wholes.{Stands as ValuesStand, HasForm}
use Rattle.value_store.proofs.WholeLaws.{member_is_whole}
use Rattle.report_block.specs.EntryOctets.{kept_of, IsWritable}
use Rattle.bay_config.specs.Servable.{IsServable, IsMember}
use Rattle.window_core.specs.Pieces.{Piece}
use Rattle.window_core.specs.Standing.{piece_of}
use Rattle.report_block.specs.Events.{pieces_of}
use Rattle.report_block.specs.Standing.{IsMemberKept}
use Rattle.bay_values.specs.Held.{AreHeld}
use Rattle.block_watch.proofs.ShapeLaws.{AreServed, IsShapeOf, node_shape, node_shapes, member-shape}
use Rattle.block_events.proofs.WritableLaws.{shape-writable, shape-one, one-some}

-- ---- the members of a note

-- a member of nodes that are numbered from i on, with the whole value of its node
record IsNotedOf (m : Model) (past : Past) (i : ℕ) (ns : List ℕ) (k : Kept) : Type 0 where
  begins : i ≤ k.number
  there : k.number < i + length ns
  octets : k.octets ≡ data_of (whole m past (node_of m (slice_index_or ns (k.number - i) 0)).tree)

later-of : (m : Model) (past : Past) (i n : ℕ) (ns : List ℕ) (k : Kept) → IsNotedOf m past (suc i) ns k → IsNotedOf m past i (n ∷ ns) k
later-of m past i n ns k is =
    let next : suc (k.number - suc i) ≡ k.number - i = omega (arith, is.begins) in
    record {
      begins = omega (arith, is.begins);
      there = omega (arith, is.there);
      octets = is.octets ∙ ap (λ (j : ℕ). data_of (whole m past (node_of m (slice_index_or (n ∷ ns) j 0)).tree)) next;
    }

noted-of : (m : Model) (reasons : ℕ → Reasons) (past : Past) (i : ℕ) (ns : List ℕ) → All (IsNotedOf m past i ns) (noted m reasons past i ns)
noted-of m reasons past i [] = All-nil (IsNotedOf m past i [])
noted-of m reasons past i (n ∷ ns) = by (is_any (reasons n)) (noted-of m reasons past (suc i) ns)
  where
    own : Kept
    own = record { number = i; reasons = reasons n; octets = data_of (whole m past (node_of m n).tree) }

    first : IsNotedOf m past i (n ∷ ns) own
    first =
        let none : 0 ≡ i - i = omega arith in
        record { begins = omega arith; there = omega arith; octets = ap (λ (j : ℕ). data_of (whole m past (node_of m (slice_index_or (n ∷ ns) j 0)).tree)) none }

    later : All (IsNotedOf m past (suc i) ns) (noted m reasons past (suc i) ns) → All (IsNotedOf m past i (n ∷ ns)) (noted m reasons past (suc i) ns)
    later all = λ j d below. later-of m past i n ns (slice_index_or (noted m reasons past (suc i) ns) j d) (all j d below)

    by : (b : Bool) → All (IsNotedOf m past (suc i) ns) (noted m reasons past (suc i) ns) → All (IsNotedOf m past i (n ∷ ns)) ((if b then own ∷ [] else []) ++ noted m reasons past (suc i) ns)
    by true all = All-cons (IsNotedOf m past i (n ∷ ns)) own (noted m reasons past (suc i) ns) first (later all)
    by false all = later all

-- ---- their Data

shape-at : (c : Config) (ns : List ℕ) (j : ℕ) → j < length ns → slice_index_or (node_shapes c ns) j no_shape ≡ node_shape c (slice_index_or ns j 0)
shape-at c ns j below =
    get_or-map (shape_of (node_rows c)) (map node_id ns) j (node_id 0) no_shape (omega (arith, below, length-map ns node_id)) ∙ ap (shape_of (node_rows c)) (get_or-map node_id ns j 0 (node_id 0) below)

whole-of : (c : Config) (stored : List Stored) (past : Past) (n : ℕ) (shape : MemberShape) → IsServable c → AreHeld c stored → ValuesStand stored (configured_model c) past → IsMember c n → IsShapeOf c n shape
    → member_octets stored shape.kind shape.attrs ≡ data_of (whole (configured_model c) past (node_of (configured_model c) n).tree)
whole-of c stored past n shape served held stands member is =
    member_is_whole stored (configured_model c) past (node_of (configured_model c) n).tree shape.kind shape.attrs stands (shape-writable c stored n shape served held member is).stored
    (subst (λ k. HasForm (node_of (configured_model c) n).tree (fields.shape_of k)) (sym is.kind) member.form) (is.attrs ∙ member.attrs)

module _ (c : Config) (stored : List Stored) (past : Past) (ns : List ℕ) (served : IsServable c) (held : AreHeld c stored) (stands : ValuesStand stored (configured_model c) past) (are : AreServed c ns) where
  data-of : (k : Kept) → IsNotedOf (configured_model c) past 1 ns k
      → (kept_of stored (node_shapes c ns) (mention k)).octets ≡ k.octets
  data-of k is =
      let j = k.number - 1 in
      let below : j < length ns = omega (arith, is.begins, is.there) in
      let n = slice_index_or ns j 0 in
      let member = All-get_or (IsMember c) ns j 0 below are.members in
      ap (λ (s : MemberShape). member_octets stored s.kind s.attrs) (shape-at c ns j below) ∙ (whole-of c stored past n (node_shape c n) served held stands member (member-shape c n member) ∙ sym is.octets)

  kept-same : (k : Kept) → IsNotedOf (configured_model c) past 1 ns k → kept_of stored (node_shapes c ns) (mention k) ≡ k
  kept-same k is = ap (λ o. record { number = k.number; reasons = k.reasons; octets = o }) (data-of k is)

  member-kept : (k : Kept) → IsNotedOf (configured_model c) past 1 ns k → IsMemberKept k
  member-kept k is =
      let j = k.number - 1 in
      let below : j < length ns = omega (arith, is.begins, is.there) in
      let n = slice_index_or ns j 0 in
      let member = All-get_or (IsMember c) ns j 0 below are.members in
      let shape = member-shape c n member in
      let octets = whole-of c stored past n (node_shape c n) served held stands member shape ∙ sym is.octets in
      let short = (shape-writable c stored n (node_shape c n) served held member shape).small in
      let some = one-some _ (shape-one c stored n (node_shape c n) served held member shape) in
      record {
        number = (omega (arith, is.begins), omega (arith, is.there, are.few));
        value = whole (configured_model c) past (node_of (configured_model c) n).tree;
        is_data = is.octets;
        short = (omega (arith, some, ap length octets), omega (arith, short, ap length octets));
      }

  pieces-all : (ks : List Kept) → All (IsNotedOf (configured_model c) past 1 ns) ks → pieces_of stored (node_shapes c ns) (map mention ks) ≡ map piece_of ks
  pieces-all [] all = refl
  pieces-all (k ∷ ks) all = ap₂ (λ (x : Kept) (l : List Piece). piece_of x ∷ l) (kept-same k (All-head (IsNotedOf (configured_model c) past 1 ns) k ks all)) (pieces-all ks (All-tail (IsNotedOf (configured_model c) past 1 ns) k ks all))

  -- what is kept of a note are its members, and these can be read back
  pub note-kept : (reasons : ℕ → Reasons) → pieces_of stored (node_shapes c ns) (map mention (noted (configured_model c) reasons past 1 ns)) ≡ map piece_of (noted (configured_model c) reasons past 1 ns)
  note-kept reasons = pieces-all (noted (configured_model c) reasons past 1 ns) (noted-of (configured_model c) reasons past 1 ns)

  pub note-readable : (reasons : ℕ → Reasons) → All IsMemberKept (noted (configured_model c) reasons past 1 ns)
  note-readable reasons = λ j d below. member-kept (slice_index_or (noted (configured_model c) reasons past 1 ns) j d) (noted-of (configured_model c) reasons past 1 ns j d below)

-- ---- memory for it

pub all-writable : (c : Config) (stored : List Stored) (ns : List ℕ) → IsServable c → AreHeld c stored → All (IsMember c) ns → All (IsWritable stored) (node_shapes c ns)
all-writable c stored [] served held are = All-nil (IsWritable stored)
all-writable c stored (n ∷ ns) served held are =
    let member = All-head (IsMember c) n ns are in
    All-cons (IsWritable stored) (node_shape c n) (node_shapes c ns) (shape-writable c stored n (node_shape c n) served held member (member-shape c n member)) (all-writable c stored ns served held (All-tail (IsMember c) n ns are))
