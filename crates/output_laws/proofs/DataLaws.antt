-- The value of a member of a data set is one Data of at most 500 octets.
use Rattle.std.proofs.Common.{◌≡◌, ℕ, zero, suc, ◌+◌, ◌-◌, ◌/◌, ◌%◌, ◌^◌, ◌<◌, ◌≤◌, inl, inr, true, ◌&&◌, List, [], ◌∷◌, ◌++◌, take, drop, length, refl, sym, ap, subst, ◌∙◌, arith, length-append}
use Rattle.std.specs.Prelude.{ℤ, pos, negsuc, nat_le, slice_index, slice_index_or}
use Rattle.std.specs.Int.{to_be_bytes, w32, w16}
use Rattle.std.proofs.Math.Bool.{and-true}
use Rattle.std.proofs.Math.Dec.{leb}
use Rattle.std.proofs.lemmas.Bool.{and_parts, leb-true, ltb-true}
use Rattle.list_laws.proofs.Among.{Among, left, right, of-all}
use Rattle.ber_grammar.specs.Content.{IsVisible}
use Rattle.ber_grammar.specs.Element.{Element, Spells, IsRow}
use Rattle.ber_grammar.specs.Octets.{big_endian}
use Rattle.ber_write.specs.Minimal.{written, CanBeTag, IsWord}
use Rattle.ber_write.proofs.ElementLaws.{is_spelling}
use Rattle.sv_base.proofs.LengthLaws.{length-packed}
use Rattle.sv_base.specs.Data.{element, length_field, packed, data_plain, data_seen, data_row, data_of}
use Rattle.sv_base.specs.Fields.{shape_of}
use Rattle.sv_base.specs.Kinds.{kind_of, int, uint, is_kind, is_in_range}
use Rattle.sv_base.specs.Tree.{Seen, Row}
use Rattle.sv_base.specs.Tree as seen
use Rattle.sv_base.specs.Types.{Shape, Fields, simple, composed, no_field, field}
use Rattle.sv_base.specs.declared.config.Config.{Config}
use Rattle.sv_base.specs.declared.types.TypeOf.{TypeOf}
use Rattle.sv_base.specs.declared.types.TypeOf.TheVariants as types
use Rattle.sv_base.specs.declared.value.Value.{Value}
use Rattle.sv_base.specs.declared.value.Value.TheVariants as kinds
use Rattle.mms_data.specs.Grammar.{IsData, AreData}
use Rattle.mms_data.proofs.MinimalLaws.{octets-element}
use Rattle.mms_data.proofs.ReadBackLaws.{spelled}
use Rattle.bay_rooms.specs.Slots.{IsSettable, IsWidth}
use Rattle.bay_model.specs.Attributes.{attributes}
use Rattle.bay_model.specs.Lookups.{attr_of, node_of}
use Rattle.bay_model.specs.Model as model
use Rattle.bay_model.specs.Model.{Model, Tree, Trees}
use Rattle.bay_model.specs.Named.{configured_model}
use Rattle.bay_model.specs.Points.{Past}
use Rattle.bay_model.specs.Values.{value_at, whole, whole_row}
use Rattle.bay_config.specs.Servable.{IsServable, IsMember, attr_type}
use Rattle.bay_values.specs.Held.{AreHeld, IsSoundCell}
use Rattle.block_events.proofs.WritableLaws.{type-settable, shape-writable}
use Rattle.block_watch.proofs.ShapeLaws.{node_shape, member-shape}
use Rattle.object_model.specs.Fits.{is_sound, is_visible}
use Rattle.object_model.specs.Tables.{node_type}
use Rattle.value_store.specs.Members.{member_octets}
use Rattle.value_store.specs.Opened.{is_writable}
use Rattle.value_store.specs.Stored.{Stored, attribute, no_attribute}
use Rattle.value_store.specs.Wholes.{Stands, HasForm, HaveForms, tree_attrs, row_attrs}
use Rattle.value_store.proofs.WholeLaws.{member_is_whole}
use Rattle.sv_base.specs.Depth.{depth_seen, depth_row}
use Rattle.output_laws.proofs.TreeLaws.{depth_tree, depth_trees, HasWithheld, HaveWithheld}
use Rattle.output_laws.proofs.DepthLaws.{IsFlat}
use Rattle.output_laws.proofs.DeedLaws.{AreFine}
use Rattle.output_laws.proofs.ValueLaws.{value-typed}

-- the octets are one whole Data, at most so deep
abbrev pub IsOneData : ℕ → List ℕ → Type 0
IsOneData m octets = (s : Seen) × (e : Element) × Spells octets e × IsData s e × (depth_seen s ≤ m)

-- ---- one value

element_spelled : (tag : ℕ) (content : List ℕ) → CanBeTag tag → tag < 256 → length content < 2 ^ 32 → Spells (element tag content) (written tag content)
element_spelled tag content is_tag one small = subst (λ (o : List ℕ). Spells o (written tag content)) (octets-element tag content one small) (is_spelling tag content is_tag small)

int-word : (w : ℕ) (z : ℤ) → IsWidth w → is_in_range (int w) (kinds.Int z) ≡ true → IsWord z
int-word w z (inl is) = subst (λ (w : ℕ). is_in_range (int w) (kinds.Int z) ≡ true → IsWord z) (sym is) (by z)
  where
    by : (z : ℤ) → is_in_range (int 8) (kinds.Int z) ≡ true → IsWord z
    by (pos n) h = omega (arith, leb-true n 127 h)
    by (negsuc n) h = omega (arith, leb-true n 127 (sym (and-true (leb n 127)) ∙ h))
int-word w z (inr (inl is)) = subst (λ (w : ℕ). is_in_range (int w) (kinds.Int z) ≡ true → IsWord z) (sym is) (by z)
  where
    by : (z : ℤ) → is_in_range (int 16) (kinds.Int z) ≡ true → IsWord z
    by (pos n) h = omega (arith, leb-true n 32767 h)
    by (negsuc n) h = omega (arith, leb-true n 32767 (sym (and-true (leb n 32767)) ∙ h))
int-word w z (inr (inr (inl is))) = subst (λ (w : ℕ). is_in_range (int w) (kinds.Int z) ≡ true → IsWord z) (sym is) (by z)
  where
    by : (z : ℤ) → is_in_range (int 32) (kinds.Int z) ≡ true → IsWord z
    by (pos n) h = omega (arith, leb-true n 2147483647 h)
    by (negsuc n) h = omega (arith, leb-true n 2147483647 (sym (and-true (leb n 2147483647)) ∙ h))
int-word w z (inr (inr (inr is))) = subst (λ (w : ℕ). is_in_range (int w) (kinds.Int z) ≡ true → IsWord z) (sym is) (by z)
  where
    by : (z : ℤ) → is_in_range (int 64) (kinds.Int z) ≡ true → IsWord z
    by (pos n) h = omega (arith, leb-true n 9223372036854775807 h)
    by (negsuc n) h = omega (arith, leb-true n 9223372036854775807 (sym (and-true (leb n 9223372036854775807)) ∙ h))

uint-small : (w n : ℕ) → IsWidth w → is_in_range (uint w) (kinds.Uint n) ≡ true → n < 2 ^ 64
uint-small w n (inl is) = subst (λ (w : ℕ). is_in_range (uint w) (kinds.Uint n) ≡ true → n < 2 ^ 64) (sym is) (λ h. omega (arith, ltb-true n 256 h))
uint-small w n (inr (inl is)) = subst (λ (w : ℕ). is_in_range (uint w) (kinds.Uint n) ≡ true → n < 2 ^ 64) (sym is) (λ h. omega (arith, ltb-true n 65536 h))
uint-small w n (inr (inr (inl is))) = subst (λ (w : ℕ). is_in_range (uint w) (kinds.Uint n) ≡ true → n < 2 ^ 64) (sym is) (λ h. omega (arith, ltb-true n 4294967296 h))
uint-small w n (inr (inr (inr is))) = subst (λ (w : ℕ). is_in_range (uint w) (kinds.Uint n) ≡ true → n < 2 ^ 64) (sym is) (λ h. omega (arith, ltb-true n 18446744073709551616 h))

visible-at : (t : List ℕ) → is_visible t ≡ true → (k : ℕ) → k < length t → IsVisible (slice_index t k)
visible-at [] h k below = absurd (omega (arith, below))
visible-at (o ∷ os) h zero below =
    let b = and_parts (nat_le 32 o && nat_le o 126) (is_visible os) h in
    let d = and_parts (nat_le 32 o) (nat_le o 126) b.0 in
    (leb-true 32 o d.0, leb-true o 126 d.1)
visible-at (o ∷ os) h (suc k) below = visible-at os (and_parts (nat_le 32 o && nat_le o 126) (is_visible os) h).1 k (omega (arith, below))

-- a content is no longer than its element
content-few : (tag : ℕ) (content : List ℕ) → length (element tag content) ≤ 500 → length content ≤ 500
content-few tag content h = omega (arith, h, length-append (length_field (length content)) content)

time-there : (s f q : ℕ) → IsOneData 1 (data_plain (seen.time s f q))
time-there s f q =
    let content : List ℕ = to_be_bytes w32 s ++ ((f / 65536) ∷ (f / 256 % 256) ∷ (f % 256) ∷ q ∷ []) in
    (seen.plain (seen.time (big_endian (take 4 content)) (big_endian (take 3 (drop 4 content))) q), written 145 content, element_spelled 145 content (λ e. omega (arith, e), refl) (omega arith) (omega arith), (refl, (refl, refl, refl, refl)), omega arith)

stamp-there : (m d : ℕ) → IsOneData 1 (data_plain (seen.stamp m d))
stamp-there m d =
    let content : List ℕ = to_be_bytes w32 m ++ to_be_bytes w16 d in
    (seen.plain (seen.stamp (big_endian (take 4 content)) (big_endian (drop 4 content))), written 140 content, element_spelled 140 content (λ e. omega (arith, e), refl) (omega arith) (omega arith), (refl, (refl, refl, refl)), omega arith)

-- a value that is spelled as itself
one-data : (s : Seen) → (e : Element) × Spells (data_seen s) e × IsData s e → depth_seen s ≤ 1 → IsOneData 1 (data_seen s)
one-data s p low = (s, p.0, p.1, p.2, low)

value-there : (k : TypeOf) (v : Value) → IsSettable k → is_kind (kind_of k) v ≡ true → is_in_range (kind_of k) v ≡ true → is_sound v ≡ true → length (data_of v) ≤ 500 → IsOneData 1 (data_of v)
value-there types.EntryId v s k r u few = absurd s
value-there (types.Struct f) v s k r u few = absurd s
value-there types.Bool (kinds.Bool b) s k r u few = one-data (seen.plain (seen.truth b)) (spelled (seen.plain (seen.truth b)) tt tt tt) (omega arith)
value-there (types.Int w) (kinds.Int z) s k r u few = one-data (seen.plain (seen.int z)) (spelled (seen.plain (seen.int z)) tt tt (int-word w z s r)) (omega arith)
value-there (types.Uint w) (kinds.Uint n) s k r u few = one-data (seen.plain (seen.uint n)) (spelled (seen.plain (seen.uint n)) tt tt (uint-small w n s r)) (omega arith)
value-there (types.Bits n) (kinds.Bits b) s k r u few =
    let c = content-few 0x84 (((8 - length b % 8) % 8) ∷ packed 128 0 b) few in
    one-data (seen.plain (seen.bits b)) (spelled (seen.plain (seen.bits b)) tt (omega (arith, c, length-packed 0 b)) tt) (omega arith)
value-there types.Time (kinds.Time t) s k r u few = time-there t.secs t.frac t.quality
value-there types.Stamp (kinds.Stamp t) s k r u few = stamp-there t.ms t.days
value-there (types.Text most) (kinds.Text t) s k r u few = one-data (seen.plain (seen.text t)) (spelled (seen.plain (seen.text t)) tt (omega (arith, content-few 0x8A t few)) (visible-at t u)) (omega arith)
value-there (types.Octets most) (kinds.Octets o) s k r u few = one-data (seen.plain (seen.octets o)) (spelled (seen.plain (seen.octets o)) tt (omega (arith, content-few 0x89 o few)) tt) (omega arith)
value-there kind v s k r u few = cc k

-- ---- what a node holds

-- it holds attributes that are there, and structures of such
abbrev mutual
  HoldsThese : ℕ → Tree → Type 0
  HoldsThese n (model.leaf (model.attribute x)) = x < n
  HoldsThese n (model.leaf _) = ⊥
  HoldsThese n (model.structure ts) = HoldThese n ts

  HoldThese : ℕ → Trees → Type 0
  HoldThese n model.none = Unit {0}
  HoldThese n (model.more t ts) = HoldsThese n t × HoldThese n ts

mutual
  never-withheld : (n : ℕ) (t : Tree) → HoldsThese n t → HasWithheld t → ⊥
  never-withheld n (model.leaf (model.attribute x)) h w = w
  never-withheld n (model.leaf (model.component b k)) h w = h
  never-withheld n (model.leaf (model.setting d k)) h w = h
  never-withheld n (model.leaf model.withheld) h w = h
  never-withheld n (model.structure ts) h w = never-withhelds n ts h w

  never-withhelds : (n : ℕ) (ts : Trees) → HoldThese n ts → HaveWithheld ts → ⊥
  never-withhelds n model.none h w = w
  never-withhelds n (model.more t ts) h (inl w) = never-withheld n t h.0 w
  never-withhelds n (model.more t ts) h (inr w) = never-withhelds n ts h.1 w

mutual
  form-holds : (n : ℕ) (t : Tree) (s : Shape) → HasForm t s → ((x : ℕ) → Among x (tree_attrs t) → x < n) → HoldsThese n t
  form-holds n (model.leaf (model.attribute x)) (simple k) h all = all x (inl refl)
  form-holds n (model.leaf (model.attribute x)) (composed fs) h all = absurd h
  form-holds n (model.leaf (model.component b k)) s h all = absurd h
  form-holds n (model.leaf (model.setting d k)) s h all = absurd h
  form-holds n (model.leaf model.withheld) s h all = absurd h
  form-holds n (model.structure ts) (simple k) h all = absurd h
  form-holds n (model.structure ts) (composed fs) h all = forms-hold n ts fs h all

  forms-hold : (n : ℕ) (ts : Trees) (fs : Fields) → HaveForms ts fs → ((x : ℕ) → Among x (row_attrs ts) → x < n) → HoldThese n ts
  forms-hold n model.none fs h all = tt
  forms-hold n (model.more t ts) no_field h all = absurd h
  forms-hold n (model.more t ts) (field name s fs) h all = (form-holds n t s h.0 (λ x i. all x (left x (tree_attrs t) (row_attrs ts) i)), forms-hold n ts fs h.1 (λ x i. all x (right x (tree_attrs t) (row_attrs ts) i)))

-- ---- as a store would have it

abbrev rows_from : (ℕ → Stored) → ℕ → ℕ → List Stored
rows_from f i zero = []
rows_from f i (suc n) = f i ∷ rows_from f (suc i) n

rows-length : (f : ℕ → Stored) (i n : ℕ) → length (rows_from f i n) ≡ n
rows-length f i zero = refl
rows-length f i (suc n) = ap suc (rows-length f (suc i) n)

rows-at : (f : ℕ → Stored) (i n x : ℕ) → x < n → slice_index_or (rows_from f i n) x no_attribute ≡ f (i + x)
rows-at f i zero x below = absurd (omega (arith, below))
rows-at f i (suc n) zero below = ap f (let e : i ≡ i + 0 = omega arith in e)
rows-at f i (suc n) (suc x) below = rows-at f (suc i) n x (omega (arith, below)) ∙ ap f (let e : suc i + x ≡ i + suc x = omega arith in e)

module _ (c : Config) (served : IsServable c) (past : Past) (fine : AreFine c past) where
  abbrev store : List Stored
  store = rows_from (λ x. record { held = record { value = value_at (configured_model c) x past; kind = kind_of (attr_type c x) }; is_writable = is_writable (attr_of (configured_model c) x).access }) 0 (length (attributes c))

  store-at : (x : ℕ) → x < length (attributes c) → attribute store x ≡ record { held = record { value = value_at (configured_model c) x past; kind = kind_of (attr_type c x) }; is_writable = is_writable (attr_of (configured_model c) x).access }
  store-at x below =
      rows-at (λ x. record { held = record { value = value_at (configured_model c) x past; kind = kind_of (attr_type c x) }; is_writable = is_writable (attr_of (configured_model c) x).access }) 0 (length (attributes c)) x below
      ∙ ap (λ x. record { held = record { value = value_at (configured_model c) x past; kind = kind_of (attr_type c x) }; is_writable = is_writable (attr_of (configured_model c) x).access }) (let e : 0 + x ≡ x = omega arith in e)

  store-count : length store ≡ length (attributes c)
  store-count = rows-length _ 0 (length (attributes c))

  store-held : AreHeld c store
  store-held = record {
    count = store-count;
    kinds = λ x below. ap (λ (s : Stored). s.held.kind) (store-at x (omega (arith, below, store-count)));
    sound = λ x below. let there : x < length (attributes c) = omega (arith, below, store-count) in let v = value-typed c served x there past fine in
        subst (λ (s : Stored). IsSoundCell s.held) (sym (store-at x there)) (record { kind = v.kind; range = v.range; sound = v.sound });
    writable = λ x below. ap (λ (s : Stored). s.is_writable) (store-at x (omega (arith, below, store-count)));
  }

  store-stands : Stands store (configured_model c) past
  store-stands x below = ap (λ (s : Stored). s.held.value) (store-at x (omega (arith, below, store-count)))

  mutual
    tree-there : (t : Tree) → HoldsThese (length (attributes c)) t → length (data_of (whole (configured_model c) past t)) ≤ 500 → IsOneData (depth_tree t) (data_of (whole (configured_model c) past t))
    tree-there (model.leaf (model.attribute x)) h few = let v = value-typed c served x h past fine in value-there (attr_type c x) (value_at (configured_model c) x past) (type-settable c x served) v.kind v.range v.sound few
    tree-there (model.leaf (model.component b k)) h few = absurd h
    tree-there (model.leaf (model.setting d k)) h few = absurd h
    tree-there (model.leaf model.withheld) h few = absurd h
    tree-there (model.structure ts) h few =
        let content = content-few 162 (data_row (whole_row (configured_model c) past ts)) few in
        let r = trees-there ts h content in
        (seen.structure r.2, written 162 (data_row (whole_row (configured_model c) past ts)), element_spelled 162 (data_row (whole_row (configured_model c) past ts)) (λ e. omega (arith, e), refl) (omega arith) (omega (arith, content)), (refl, r.0, r.1, r.3), omega (arith, r.4))

    trees-there : (ts : Trees) → HoldThese (length (attributes c)) ts → length (data_row (whole_row (configured_model c) past ts)) ≤ 500
        → (es : List Element) × IsRow (data_row (whole_row (configured_model c) past ts)) es × (r : Row) × AreData r es × (depth_row r ≤ depth_trees ts)
    trees-there model.none h few = ([], refl, seen.none, tt, omega arith)
    trees-there (model.more t ts) h few =
        let sum = length-append (data_of (whole (configured_model c) past t)) (data_row (whole_row (configured_model c) past ts)) in
        let a = tree-there t h.0 (omega (arith, few, sum)) in
        let b = trees-there ts h.1 (omega (arith, few, sum)) in
        (a.1 ∷ b.0, (data_of (whole (configured_model c) past t), data_row (whole_row (configured_model c) past ts), a.2, refl, b.1), seen.more a.0 b.2, (a.3, b.3), omega (arith, a.4, b.4))

  -- a member's value
  pub member-there : (n : ℕ) → IsFlat (node_of (configured_model c) n).tree → IsMember c n → (length (data_of (whole (configured_model c) past (node_of (configured_model c) n).tree)) ≤ 500) × IsOneData 10 (data_of (whole (configured_model c) past (node_of (configured_model c) n).tree))
  member-there n flat m =
      let shape = node_shape c n in
      let is = member-shape c n m in
      let w = shape-writable c store n shape served store-held m is in
      let whole_is : member_octets store shape.kind shape.attrs ≡ data_of (whole (configured_model c) past (node_of (configured_model c) n).tree) =
      member_is_whole store (configured_model c) past (node_of (configured_model c) n).tree shape.kind shape.attrs store-stands w.stored (subst (λ k. HasForm (node_of (configured_model c) n).tree (shape_of k)) (sym is.kind) m.form) (is.attrs ∙ m.attrs) in
      let few : length (data_of (whole (configured_model c) past (node_of (configured_model c) n).tree)) ≤ 500 = omega (arith, w.small, ap length whole_is) in
      let holds = form-holds (length (attributes c)) (node_of (configured_model c) n).tree (shape_of (node_type c n)) m.form
      (λ x i. of-all (λ x. x < length (attributes c)) (node_of (configured_model c) n).attrs x m.within (subst (Among x) (sym m.attrs) i)) in
      (few, lifted (node_of (configured_model c) n).tree flat holds (tree-there (node_of (configured_model c) n).tree holds few))
    where
      lifted : (t : Tree) → IsFlat t → HoldsThese (length (attributes c)) t → IsOneData (depth_tree t) (data_of (whole (configured_model c) past t)) → IsOneData 10 (data_of (whole (configured_model c) past t))
      lifted t (inl le) h d = (d.0, d.1, d.2, d.3, omega (arith, le, d.4))
      lifted t (inr w) h d = absurd (never-withheld (length (attributes c)) t h w)
