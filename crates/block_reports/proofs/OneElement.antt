-- The Data of a value is one element, and so is that of a member.
use Rattle.std.proofs.Common.{◌≡◌, ◌≢◌, ◌<◌, ◌≤◌, ◌^◌, ℕ, ◌+◌, ◌-◌, ◌/◌, ◌%◌, true, List, [], ◌∷◌, ◌++◌, length, refl, ap, sym, ◌∙◌, arith, length-append}
use Rattle.std.specs.Prelude.{◌==◌, nat_lt, if◌then◌else◌}
use Rattle.std.specs.Int.{w16, w32, w64, to_be_bytes, cast_unsigned}
use Rattle.std.proofs.lemmas.Bool.{cond_both, eqb-true, ltb-true, ltb-false}
use Rattle.std.proofs.lemmas.Nat.{from_be_bytes-to_be_bytes_4}
use Rattle.ber_grammar.specs.Octets.{big_endian}
use Rattle.ber_grammar.specs.Element.{Element, IsLength}
use Rattle.sv_base.specs.Data.{without_zeros, packed, shortest, element, length_field, data_plain, data_seen, data_row}
use Rattle.sv_base.specs.Depth.{IsNotOther}
use Rattle.sv_base.specs.Tree.{Plain, Seen, plain, structure, truth, int, uint, bits, time, stamp, text, octets, other}
use Rattle.sv_base.specs.Types.{Shape, simple, composed}
use Rattle.sv_base.specs.Fields.{shape_of}
use Rattle.sv_base.specs.Seen.{seen_of}
use Rattle.sv_base.specs.declared.numbers.AttrId.{AttrId}
use Rattle.sv_base.specs.declared.types.TypeOf.{TypeOf}
use Rattle.sv_base.specs.declared.value.Value.{Value}
use Rattle.sv_base.specs.declared.value.Value.TheVariants as kinds
use Rattle.bay_model.specs.Model as model
use Rattle.bay_model.specs.Model.{Kind}
use Rattle.sv_base.specs.Kinds.{kind_of, is_kind}
use Rattle.bay_model.specs.Places.{largest}
use Rattle.value_store.specs.Stored.{Stored, attribute}
use Rattle.value_store.specs.Members.{value_with, values_at, member_octets}
use Rattle.value_store.specs.Leaves.{AreLeaves}
use Rattle.value_store.proofs.LargestLaws.{member_within}
use Rattle.block_reports.specs.Again.{IsOneElement}

-- ---- the length field

zeros_tell_nothing : (os : List ℕ) → big_endian (without_zeros os) ≡ big_endian os
zeros_tell_nothing [] = refl
zeros_tell_nothing (o ∷ os) = cond_both (o == 0) (without_zeros os) (o ∷ os) (λ l. big_endian l ≡ big_endian (o ∷ os))
    (λ e. zeros_tell_nothing os ∙ ap (λ (x : ℕ). big_endian (x ∷ os)) (sym (eqb-true o 0 e))) (λ e. refl)

no_longer : (os : List ℕ) → length (without_zeros os) ≤ length os
no_longer [] = omega arith
no_longer (o ∷ os) = cond_both (o == 0) (without_zeros os) (o ∷ os) (λ l. length l ≤ length (o ∷ os)) (λ e. omega (arith, no_longer os)) (λ e. omega arith)

counted : (octets : List ℕ) (n : ℕ) → 0 < n → n ≡ big_endian octets → length octets ≤ 4 → IsLength ((128 + length octets) ∷ octets) n
counted [] n some is few = absurd (omega (arith, some, is))
counted (o ∷ os) n some is few = (refl, few, is)

is_length : (n : ℕ) → n < 2 ^ 32 → IsLength (length_field n) n
is_length n small = cond_both (nat_lt n 128) (n ∷ []) ((128 + length (without_zeros (to_be_bytes w32 n))) ∷ without_zeros (to_be_bytes w32 n)) (λ l. IsLength l n)
    (λ e. (ltb-true n 128 e, refl))
    (λ e. let over = ltb-false n 128 e in
    let same : n ≡ big_endian (to_be_bytes w32 n) = omega (arith, from_be_bytes-to_be_bytes_4 n small) in
    counted (without_zeros (to_be_bytes w32 n)) n (omega (arith, over)) (same ∙ sym (zeros_tell_nothing (to_be_bytes w32 n))) (omega (arith, no_longer (to_be_bytes w32 n))))

-- ---- Data

element_is_one : (tag : ℕ) (content : List ℕ) → tag % 32 ≢ 31 → length (element tag content) < 2 ^ 32 → IsOneElement (element tag content)
element_is_one tag content one small =
    let within : length content < 2 ^ 32 = omega (arith, small, length-append (length_field (length content)) content) in
    let e : Element = record { tag = tag; head = 1 + length (length_field (length content)); content = content } in
    (e, record { tag = tag ∷ []; len = length_field (length content); is_tag = (one, refl); is_length = is_length (length content) within; head = refl; whole = refl })

plain_is_one : (p : Plain) → IsNotOther p → length (data_plain p) < 2 ^ 32 → IsOneElement (data_plain p)
plain_is_one (truth b) known small = element_is_one 131 ((if b then 255 else 0) ∷ []) (λ e. omega (arith, e)) small
plain_is_one (bits bs) known small = element_is_one 132 (((8 - length bs % 8) % 8) ∷ packed 128 0 bs) (λ e. omega (arith, e)) small
plain_is_one (int z) known small = element_is_one 133 (shortest (to_be_bytes w64 (cast_unsigned w64 z))) (λ e. omega (arith, e)) small
plain_is_one (uint n) known small = element_is_one 134 (shortest (0 ∷ to_be_bytes w64 n)) (λ e. omega (arith, e)) small
plain_is_one (octets o) known small = element_is_one 137 o (λ e. omega (arith, e)) small
plain_is_one (text t) known small = element_is_one 138 t (λ e. omega (arith, e)) small
plain_is_one (stamp ms days) known small = element_is_one 140 (to_be_bytes w32 ms ++ to_be_bytes w16 days) (λ e. omega (arith, e)) small
plain_is_one (time secs frac quality) known small = element_is_one 145 (to_be_bytes w32 secs ++ ((frac / 65536) ∷ (frac / 256 % 256) ∷ (frac % 256) ∷ quality ∷ [])) (λ e. omega (arith, e)) small
plain_is_one other known small = absurd known

-- the value is Data, whatever its parts are
abbrev pub IsSomeData : Seen → Type 0
IsSomeData (plain p) = IsNotOther p
IsSomeData (structure r) = Unit {0}

pub data_is_one : (s : Seen) → IsSomeData s → length (data_seen s) < 2 ^ 32 → IsOneElement (data_seen s)
data_is_one (plain p) known small = plain_is_one p known small
data_is_one (structure r) known small = element_is_one 162 (data_row r) (λ e. omega (arith, e)) small

-- ---- a member

of_no_kind : (k : Kind) → is_kind k kinds.Other ≡ true → ⊥
of_no_kind model.truth h = cc h
of_no_kind (model.int w) h = cc h
of_no_kind (model.uint w) h = cc h
of_no_kind (model.bits n) h = cc h
of_no_kind model.time h = cc h
of_no_kind model.stamp h = cc h
of_no_kind (model.text most) h = cc h
of_no_kind (model.octets most) h = cc h
of_no_kind model.entry_id h = cc h

value_is_data : (k : Kind) (v : Value) → is_kind k v ≡ true → IsSomeData (seen_of v)
value_is_data k (kinds.Bool b) h = tt
value_is_data k (kinds.Int z) h = tt
value_is_data k (kinds.Uint n) h = tt
value_is_data k (kinds.Bits b) h = tt
value_is_data k (kinds.Time t) h = tt
value_is_data k (kinds.Stamp t) h = tt
value_is_data k (kinds.Text t) h = tt
value_is_data k (kinds.Octets o) h = tt
value_is_data k (kinds.Struct r) h = tt
value_is_data k kinds.Other h = absurd (of_no_kind k h)

shape_is_data : (all : List Stored) (s : Shape) (attrs : List AttrId) → AreLeaves all s attrs → IsSomeData (value_with s (values_at all attrs))
shape_is_data all (composed fs) attrs are = tt
shape_is_data all (simple k) [] are = absurd (cc are.shapes)
shape_is_data all (simple k) (x ∷ attrs) are = value_is_data (kind_of (are.type_of x)) (attribute all x.0).held.value (are.values 0 x (omega arith)).right_kind

-- a member whose attributes have values of its type, and whose largest Data has a length of four octets
pub member_is_one : (all : List Stored) (kind : TypeOf) (attrs : List AttrId) → AreLeaves all (shape_of kind) attrs → largest kind < 2 ^ 32 → IsOneElement (member_octets all kind attrs)
member_is_one all kind attrs are small =
    data_is_one (value_with (shape_of kind) (values_at all attrs)) (shape_is_data all (shape_of kind) attrs are) (omega (arith, member_within all kind attrs are small, small))
