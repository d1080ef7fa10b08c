-- What is said of a command has at most the octets of its type.
use Rattle.std.proofs.Common.{◌≡◌, ℕ, ℤ, zero, suc, ◌<◌, ◌≤◌, Bool, true, ◌&&◌, List, [], ◌∷◌, ◌++◌, map, length, sym, ap, subst, ◌∙◌, arith, length-append}
use Rattle.std.specs.Prelude.{◌^◌, ◌-◌, ◌%◌, Option, None, Some, is_some, slice_get, unwrap_or, int_le, nat_le, nat_lt, neg_ℤ, pos, if◌then◌else◌, Ok}
use Rattle.std.specs.Option.{option_map, option_map_or}
use Rattle.std.specs.List.{All}
use Rattle.std.specs.Int.{to_be_bytes, cast_unsigned, w64}
use Rattle.std.proofs.lemmas.Bool.{leb-true, ltb-true, eqb-true}
use Rattle.std.proofs.lemmas.List.Elements.{All-head, All-tail}
use Rattle.sv_base.proofs.LengthLaws.{length-packed}
use Rattle.sv_base.specs.Data.{data_of, data_seen, data_row, element, packed, shortest}
use Rattle.sv_base.specs.Depth.{SeenHasNoOther, RowHasNoOther, depth_seen, depth_row}
use Rattle.sv_base.specs.Kinds.{Kind, kind_of, truth, int, is_kind, is_in_range}
use Rattle.sv_base.specs.Same.{value_of}
use Rattle.sv_base.specs.Tree as tree
use Rattle.sv_base.specs.Tree.{Seen, Row, plain, structure, none, more}
use Rattle.sv_base.specs.declared.config.CtlDef.{CtlDef}
use Rattle.sv_base.specs.declared.types.TypeOf.{TypeOf}
use Rattle.sv_base.specs.declared.types.TypeOf.TheVariants as types
use Rattle.sv_base.specs.declared.config.Config.{Config}
use Rattle.sv_base.specs.declared.value.Value.{Value}
use Rattle.mms_data.specs.Writable.{SeenHasFractions, RowHasFractions}
use Rattle.bay_model.specs.Commands.{Command, command_of, is_command, is_rest}
use Rattle.bay_model.specs.Configured.{control_defined}
use Rattle.bay_model.specs.Lookups.{control_of}
use Rattle.bay_model.specs.Model.{Call, Control, select, operate, cancel}
use Rattle.bay_model.specs.Named.{configured_model}
use Rattle.bay_model.specs.Outputs.{error_of, name_of_call, no_command}
use Rattle.control_core.specs.Commands.{Said, said_in, value_said, command_said}
use Rattle.control_core.specs.Opening.{IsCtlKind}
use Rattle.control_core.proofs.CommandLaws.{command_is}
use Rattle.object_model.specs.Fits.{is_sound, is_sound_seen, is_sound_plain, are_sound}
use Rattle.value_store.proofs.HeadLaws.{short_element}
use Rattle.value_store.proofs.NumberSizes.{shortest_within}
use Rattle.list_laws.proofs.Truths.{and-both, and-left, and-right}
use Rattle.output_shapes.specs.Shapes.{IsShortError, IsWritable}
use Rattle.output_laws.specs.Names.{IsShortControl, HasShortNames}

-- ---- the control

abbrev no_control : Control
no_control = record { reference = []; model = 0; timeout = 0; sbo_class = 0; kind = truth }

reference-in : (ks : List CtlDef) (k : ℕ) → All IsShortControl ks → length (unwrap_or (slice_get (map control_defined ks) k) no_control).reference ≤ 122
reference-in [] k all = omega arith
reference-in (d ∷ ks) zero all = (All-head IsShortControl d ks all).reference
reference-in (d ∷ ks) (suc k) all = reference-in ks k (All-tail IsShortControl d ks all)

-- a truth value or a number
abbrev IsCtl : Kind → Type 0
IsCtl truth = Unit {0}
IsCtl (int w) = Unit {0}
IsCtl _ = ⊥

ctl-kind : (t : TypeOf) → IsCtlKind t → IsCtl (kind_of t)
ctl-kind types.Bool h = tt
ctl-kind (types.Int w) h = tt
ctl-kind (types.Uint w) h = absurd h
ctl-kind (types.Bits n) h = absurd h
ctl-kind types.Time h = absurd h
ctl-kind types.Stamp h = absurd h
ctl-kind (types.Text n) h = absurd h
ctl-kind (types.Octets n) h = absurd h
ctl-kind types.EntryId h = absurd h
ctl-kind (types.Struct f) h = absurd h

kind-in : (ks : List CtlDef) (k : ℕ) → All (λ (d : CtlDef). IsCtlKind d.kind) ks → IsCtl (unwrap_or (slice_get (map control_defined ks) k) no_control).kind
kind-in [] k all = tt
kind-in (d ∷ ks) zero all = ctl-kind d.kind (All-head (λ (d : CtlDef). IsCtlKind d.kind) d ks all)
kind-in (d ∷ ks) (suc k) all = kind-in ks k (All-tail (λ (d : CtlDef). IsCtlKind d.kind) d ks all)

-- ---- the error

ident-short : (kind : Kind) (call : Call) (m : Command) → is_command kind call (Some m) ≡ true → length m.or_ident ≤ 64
ident-short kind call m h =
    let first = and-left (is_kind kind (value_of m.value) && is_in_range kind (value_of m.value) && int_le (neg_ℤ (pos 128)) m.or_cat && int_le m.or_cat (pos 127) && nat_le (length m.or_ident) 64 && nat_lt m.ctl_num 256) (is_rest call m.rest) h in
    let second = and-left (is_kind kind (value_of m.value) && is_in_range kind (value_of m.value) && int_le (neg_ℤ (pos 128)) m.or_cat && int_le m.or_cat (pos 127) && nat_le (length m.or_ident) 64) (nat_lt m.ctl_num 256) first in
    leb-true (length m.or_ident) 64 (and-right (is_kind kind (value_of m.value) && is_in_range kind (value_of m.value) && int_le (neg_ℤ (pos 128)) m.or_cat && int_le m.or_cat (pos 127)) (nat_le (length m.or_ident) 64) second)

name-short : (call : Call) → length (name_of_call call) ≤ 7
name-short select = omega arith
name-short operate = omega arith
name-short cancel = omega arith

pub error-short : (c : Config) (k : ℕ) (call : Call) (v : Value) (cause : ℕ) → HasShortNames c → is_command (control_of (configured_model c) k).kind call (command_of v) ≡ true → IsShortError (error_of (configured_model c) k call v cause)
error-short c k call v cause names h = by (command_of v) h
  where
    by : (m : Option Command) → is_command (control_of (configured_model c) k).kind call m ≡ true → IsShortError (option_map_or (λ (m : Command). record {
      object = (control_of (configured_model c) k).reference ++ name_of_call call;
      or_cat = m.or_cat;
      or_ident = m.or_ident;
      ctl_num = m.ctl_num;
      cause = cause;
    }) m no_command)
    by None h = absurd (cc h)
    by (Some m) h = record {
      object = omega (arith, length-append (control_of (configured_model c) k).reference (name_of_call call), reference-in c.controls k names.controls, name-short call);
      ident = ident-short (control_of (configured_model c) k).kind call m h;
    }

-- ---- the value of an Oper

-- Data that can be written, of so few octets and so deep
pub record IsSmall (octets depth : ℕ) (s : Seen) : Type 0 where
  pub few : length (data_seen s) ≤ octets
  pub shallow : depth_seen s ≤ depth
  pub no_other : SeenHasNoOther s
  pub fractions : SeenHasFractions s

pub record IsSmallRow (octets depth : ℕ) (r : Row) : Type 0 where
  pub few : length (data_row r) ≤ octets
  pub shallow : depth_row r ≤ depth
  pub no_other : RowHasNoOther r
  pub fractions : RowHasFractions r

int-few : (z : ℤ) → length (element 0x85 (shortest (to_be_bytes w64 (cast_unsigned w64 z)))) ≤ 10
int-few z =
    let s : length (shortest (to_be_bytes w64 (cast_unsigned w64 z))) ≤ 8 = omega (arith, shortest_within (to_be_bytes w64 (cast_unsigned w64 z))) in
    omega (arith, s, short_element 0x85 (shortest (to_be_bytes w64 (cast_unsigned w64 z))) (omega (arith, s)))

uint-few : (n : ℕ) → length (element 0x86 (shortest (0 ∷ to_be_bytes w64 n))) ≤ 11
uint-few n =
    let s : length (shortest (0 ∷ to_be_bytes w64 n)) ≤ 9 = omega (arith, shortest_within (0 ∷ to_be_bytes w64 n)) in
    omega (arith, s, short_element 0x86 (shortest (0 ∷ to_be_bytes w64 n)) (omega (arith, s)))

octets-few : (o : List ℕ) → length o ≤ 64 → length (element 0x89 o) ≤ 66
octets-few o h = omega (arith, h, short_element 0x89 o (omega (arith, h)))

val-small : (kind : Kind) (s : Seen) → IsCtl kind → is_kind kind (value_of s) ≡ true → IsSmall 10 1 s
val-small truth (plain (tree.truth b)) ok h = record { few = omega arith; shallow = omega arith; no_other = tt; fractions = tt }
val-small (int w) (plain (tree.int z)) ok h = record { few = int-few z; shallow = omega arith; no_other = tt; fractions = tt }
val-small truth (plain (tree.int z)) ok h = absurd (cc h)
val-small truth (plain (tree.uint n)) ok h = absurd (cc h)
val-small truth (plain (tree.bits b)) ok h = absurd (cc h)
val-small truth (plain (tree.time s f q)) ok h = absurd (cc h)
val-small truth (plain (tree.stamp m d)) ok h = absurd (cc h)
val-small truth (plain (tree.text t)) ok h = absurd (cc h)
val-small truth (plain (tree.octets o)) ok h = absurd (cc h)
val-small truth (plain tree.other) ok h = absurd (cc h)
val-small truth (structure r) ok h = absurd (cc h)
val-small (int w) (plain (tree.truth b)) ok h = absurd (cc h)
val-small (int w) (plain (tree.uint n)) ok h = absurd (cc h)
val-small (int w) (plain (tree.bits b)) ok h = absurd (cc h)
val-small (int w) (plain (tree.time s f q)) ok h = absurd (cc h)
val-small (int w) (plain (tree.stamp m d)) ok h = absurd (cc h)
val-small (int w) (plain (tree.text t)) ok h = absurd (cc h)
val-small (int w) (plain (tree.octets o)) ok h = absurd (cc h)
val-small (int w) (plain tree.other) ok h = absurd (cc h)
val-small (int w) (structure r) ok h = absurd (cc h)
val-small _ s ok h = absurd ok

bits-few : (b : List Bool) → length b ≡ 2 → length (element 0x84 (((8 - length b % 8) % 8) ∷ packed 128 0 b)) ≤ 4
bits-few b h =
    let s : length (packed 128 0 b) ≤ 1 = omega (arith, length-packed 0 b, h) in
    omega (arith, s, short_element 0x84 (((8 - length b % 8) % 8) ∷ packed 128 0 b) (omega (arith, s)))

rest-small : (r : Row) → is_rest operate r ≡ true → IsSmallRow 4 1 r
rest-small none h = absurd (cc h)
rest-small (more (plain (tree.bits b)) none) h = record { few = omega (arith, bits-few b (eqb-true (length b) 2 h), length-append (element 0x84 (((8 - length b % 8) % 8) ∷ packed 128 0 b)) []); shallow = omega arith; no_other = (tt, tt); fractions = (tt, tt) }
rest-small (more (plain (tree.bits b)) (more s r)) h = absurd (cc h)
rest-small (more (plain (tree.truth b)) r) h = absurd (cc h)
rest-small (more (plain (tree.int z)) r) h = absurd (cc h)
rest-small (more (plain (tree.uint n)) r) h = absurd (cc h)
rest-small (more (plain (tree.time s f q)) r) h = absurd (cc h)
rest-small (more (plain (tree.stamp m d)) r) h = absurd (cc h)
rest-small (more (plain (tree.text t)) r) h = absurd (cc h)
rest-small (more (plain (tree.octets o)) r) h = absurd (cc h)
rest-small (more (plain tree.other) r) h = absurd (cc h)
rest-small (more (structure s) r) h = absurd (cc h)

abbrev origin : Said → Row
origin s = more (plain (tree.int s.or_cat)) (more (plain (tree.octets s.or_ident)) none)

abbrev parts : Said → Row
parts s = more s.value (more (structure (origin s)) (more (plain (tree.uint s.ctl_num)) (more (plain (tree.time s.at.secs s.at.frac s.at.quality)) (more (plain (tree.truth s.test)) s.rest))))

module _ (s : Said) (val : IsSmall 10 1 s.value) (rest : IsSmallRow 4 1 s.rest) (ident : length s.or_ident ≤ 64) (frac : s.at.frac < 2 ^ 24) where
  origin-few : length (data_row (origin s)) ≤ 76
  origin-few = omega (arith, int-few s.or_cat, octets-few s.or_ident ident, length-append (data_seen (plain (tree.int s.or_cat))) (data_row (more (plain (tree.octets s.or_ident)) none)), length-append (data_seen (plain (tree.octets s.or_ident))) [])

  origin-element : length (data_seen (structure (origin s))) ≤ 78
  origin-element = omega (arith, origin-few, short_element 0xA2 (data_row (origin s)) (omega (arith, origin-few)))

  time-few : length (data_seen (plain (tree.time s.at.secs s.at.frac s.at.quality))) ≤ 10
  time-few = omega arith

  abbrev row4 : Row
  row4 = more (plain (tree.truth s.test)) s.rest

  abbrev row3 : Row
  row3 = more (plain (tree.time s.at.secs s.at.frac s.at.quality)) row4

  abbrev row2 : Row
  row2 = more (plain (tree.uint s.ctl_num)) row3

  parts-few : length (data_row (parts s)) ≤ 120
  parts-few = omega (
    arith,
    val.few,
    rest.few,
    origin-element,
    time-few,
    uint-few s.ctl_num,
    length-append (data_seen s.value) (data_row (more (structure (origin s)) row2)),
    length-append (data_seen (structure (origin s))) (data_row row2),
    length-append (data_seen (plain (tree.uint s.ctl_num))) (data_row row3),
    length-append (data_seen (plain (tree.time s.at.secs s.at.frac s.at.quality))) (data_row row4),
    length-append (data_seen (plain (tree.truth s.test))) (data_row s.rest),
  )

  value-small : IsSmall 300 10 (structure (parts s))
  value-small = record {
    few = omega (arith, parts-few, short_element 0xA2 (data_row (parts s)) (omega (arith, parts-few)));
    shallow = omega (arith, val.shallow, rest.shallow);
    no_other = (val.no_other, ((tt, (tt, tt)), (tt, (tt, (tt, rest.no_other)))));
    fractions = (val.fractions, ((tt, (tt, tt)), (tt, (frac, (tt, rest.fractions)))));
  }

-- what a command says
command-parts : (kind : Kind) (s : Said) → is_command kind operate (Some (command_said s)) ≡ true → (is_kind kind (value_of s.value) ≡ true) × (is_rest operate s.rest ≡ true)
command-parts kind s h =
    let b = and-both (is_kind kind (value_of s.value) && is_in_range kind (value_of s.value) && int_le (neg_ℤ (pos 128)) s.or_cat && int_le s.or_cat (pos 127) && nat_le (length s.or_ident) 64 && nat_lt s.ctl_num 256) (is_rest operate s.rest) h in
    let d = and-left (is_kind kind (value_of s.value) && is_in_range kind (value_of s.value) && int_le (neg_ℤ (pos 128)) s.or_cat && int_le s.or_cat (pos 127) && nat_le (length s.or_ident) 64) (nat_lt s.ctl_num 256) b.0 in
    let e = and-left (is_kind kind (value_of s.value) && is_in_range kind (value_of s.value) && int_le (neg_ℤ (pos 128)) s.or_cat && int_le s.or_cat (pos 127)) (nat_le (length s.or_ident) 64) d in
    let f = and-left (is_kind kind (value_of s.value) && is_in_range kind (value_of s.value) && int_le (neg_ℤ (pos 128)) s.or_cat) (int_le s.or_cat (pos 127)) e in
    let g = and-left (is_kind kind (value_of s.value) && is_in_range kind (value_of s.value)) (int_le (neg_ℤ (pos 128)) s.or_cat) f in
    (and-left (is_kind kind (value_of s.value)) (is_in_range kind (value_of s.value)) g, b.1)

sound-time : (s : Said) → is_sound (value_said s) ≡ true → s.at.frac < 2 ^ 24
sound-time s h =
    let behind : Bool = is_sound_plain (tree.truth s.test) && are_sound s.rest in
    let a = and-right (is_sound_seen s.value) ((is_sound_plain (tree.int s.or_cat) && (is_sound_plain (tree.octets s.or_ident) && true)) && (is_sound_plain (tree.uint s.ctl_num) && (nat_lt s.at.frac 16777216 && behind))) h in
    let b = and-right (is_sound_plain (tree.int s.or_cat) && (is_sound_plain (tree.octets s.or_ident) && true)) (is_sound_plain (tree.uint s.ctl_num) && (nat_lt s.at.frac 16777216 && behind)) a in
    let d = and-right (is_sound_plain (tree.uint s.ctl_num)) (nat_lt s.at.frac 16777216 && behind) b in
    let e = and-left (nat_lt s.at.frac 16777216) behind d in
    omega (arith, ltb-true s.at.frac 16777216 e)

pub oper-small : (c : Config) (k : ℕ) (v : Value) → All (λ (d : CtlDef). IsCtlKind d.kind) c.controls → is_command (control_of (configured_model c) k).kind operate (command_of v) ≡ true → is_sound v ≡ true
    → (length (data_of v) ≤ 300) × IsWritable (Ok v)
oper-small c k v controls typed sound = by (said_in v) (command_is v) typed
  where
    small : (s : Said) → v ≡ value_said s → is_command (control_of (configured_model c) k).kind operate (Some (command_said s)) ≡ true → (length (data_of v) ≤ 300) × IsWritable (Ok v)
    small s is h =
        let p = command-parts (control_of (configured_model c) k).kind s h in
        let i = ident-short (control_of (configured_model c) k).kind operate (command_said s) h in
        let w = value-small s (val-small (control_of (configured_model c) k).kind s.value (kind-in c.controls k controls) p.0) (rest-small s.rest p.1) i (sound-time s (ap is_sound (sym is) ∙ sound)) in
        subst (λ u. (length (data_of u) ≤ 300) × IsWritable (Ok u)) (sym is) (w.few, (w.no_other, w.shallow, w.fractions))

    some-same : (a b : Value) → Some a ≡ Some b → a ≡ b
    some-same a b e = cc

    by : (o : Option Said) → (command_of v ≡ option_map command_said o) × (option_map value_said o ≡ (if is_some o then Some v else None)) → is_command (control_of (configured_model c) k).kind operate (command_of v) ≡ true → (length (data_of v) ≤ 300) × IsWritable (Ok v)
    by None e h = absurd (cc (sym (ap (is_command (control_of (configured_model c) k).kind operate) e.0) ∙ h))
    by (Some s) e h = small s (some-same v (value_said s) (sym e.1)) (sym (ap (is_command (control_of (configured_model c) k).kind operate) e.0) ∙ h)
