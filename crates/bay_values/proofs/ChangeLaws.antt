-- What a step of the process makes of a bay's values: they stand for the longer history, the changes are those of the point,
-- and each attribute keeps a value of its type.
use Rattle.std.proofs.Common.{◌≡◌, ◌≢◌, refl, ap, sym, ◌∙◌, subst, ◌<◌, ℕ, ◌==◌, Bool, true, false, not, List, [], ◌∷◌, ◌++◌, map, flat_map, length, Option, Some, None, is_some, unwrap_or, slice_index_or, slice_get, arith, if◌then◌else◌, length-append, ◌⊎◌, inl, inr}
use Rattle.std.specs.List.{All, filter, list_all}
use Rattle.std.specs.Option.{option_map, option_or}
use Rattle.std.proofs.lemmas.Bool.{and_parts}
use Rattle.std.proofs.lemmas.Bool.Decides.{eqb_tells}
use Rattle.std.proofs.lemmas.List.{length-map}
use Rattle.std.proofs.lemmas.List.Elements.{All-nil, All-cons, All-tail}
use Rattle.std.proofs.lemmas.Option.{slice_get_within, get_or_from_slice_get}
use Rattle.sv_base.specs.Same.{is_same}
use Rattle.sv_base.specs.declared.config.Config.{Config}
use Rattle.sv_base.specs.declared.config.AttrDef.{AttrDef}
use Rattle.sv_base.specs.declared.config.CtlDef.{CtlDef}
use Rattle.sv_base.specs.declared.types.TypeOf.{TypeOf}
use Rattle.sv_base.specs.declared.types.TypeOf.TheVariants as types
use Rattle.sv_base.specs.declared.value.Value.{Value}
use Rattle.bay_model.specs.declared.flags.Change.{Change}
use Rattle.bay_model.specs.declared.step.Setting.{Setting}
use Rattle.bay_model.specs.declared.step.Step.TheVariants as steps
use Rattle.bay_model.specs.Attributes.{attributes}
use Rattle.sv_base.specs.Kinds.{kind_of, is_kind, is_in_range}
use Rattle.bay_model.specs.Generated.{Parameter, parameters}
use Rattle.bay_model.specs.Lookups.{attr_of}
use Rattle.bay_model.specs.Model.{Model}
use Rattle.bay_model.specs.Named.{configured_model}
use Rattle.bay_model.specs.NamedLines.{is_setting}
use Rattle.bay_model.specs.Points.{Deed, Past}
use Rattle.bay_model.specs.Settings.{set_to}
use Rattle.bay_model.specs.Values.{gives, value_at}
use Rattle.object_model.specs.Fits.{attr_types, is_sound, is_typed, setting_fits, fits}
use Rattle.object_model.specs.Tables as tables
use Rattle.object_model.proofs.AttributeLaws.{flags-are}
use Rattle.value_store.specs.Stored.{Stored, attribute}
use Rattle.value_store.specs.Wholes.{Stands}
use Rattle.value_store.proofs.StandLaws.{stands-deed}
use Rattle.setting_groups.specs.Standing.{at}
use Rattle.bay_model.specs.Singles.{arrival}
use Rattle.trigger_core.specs.Points as points
use Rattle.trigger_core.specs.Points.{AreChanges, change_to}
use Rattle.bay_values.specs.Changed.{given, last_set, change_from, AreMade, AreFit, IsValueOf, IsTyped, AreTyped}
use Rattle.bay_config.specs.Servable.{attr_type}
use Rattle.bay_values.specs.Held.{AreHeld, IsSoundCell}

-- ---- the values stand

given-value : (o : Option Value) (was : Stored) → (given o was).held.value ≡ unwrap_or o was.held.value
given-value None was = refl
given-value (Some v) was = refl

-- the deed gives each attribute what these settings make of it
abbrev pub Sets : Model → Deed → Past → List Setting → Type 0
Sets c d before settings = (x : ℕ) → set_to x settings ≡ gives c x d before

pub values-stand : (c : Model) (n t : ℕ) (d : Deed) (before : Past) (old new : List Stored) (settings : List Setting) → Sets c d before settings
    → Stands old c (arrival n t ∷ before) → ((x : ℕ) → attribute new x ≡ last_set settings x (attribute old x)) → length new ≡ length old → Stands new c (at n t d ∷ before)
values-stand c n t d before old new settings given_by stands set count = stands-deed old new c t n d before stands count
    (λ x below. ap (λ (s : Stored). s.held.value) (set x) ∙ (given-value (set_to x settings) (attribute old x) ∙ ap (λ o. unwrap_or o (attribute old x).held.value) (given_by x)))

-- ---- the changes are those of the point

abbrev pub IsThere : List Stored → Setting → Type 0
IsThere stored s = s.attr.0 < length stored

-- an attribute that is set is there
pub set-there : (stored : List Stored) (x : ℕ) (settings : List Setting) → All (IsThere stored) settings → is_some (set_to x settings) ≡ true → x < length stored
set-there stored x [] are is = cc
set-there stored x (s ∷ later) are is = by (set_to x later) (set-there stored x later (All-tail (IsThere stored) s later are)) is
  where
    own : (s.attr.0 == x) ≡ true → x < length stored
    own e = either (eqb_tells s.attr.0 x) where
      either : ((s.attr.0 == x) ≡ true) × (s.attr.0 ≡ x) ⊎ ((s.attr.0 == x) ≡ false) × (s.attr.0 ≢ x) → x < length stored
      either (inl i) = omega (arith, i.1, are 0 s (omega arith))
      either (inr i) = cc

    at : (b : Bool) → (s.attr.0 == x) ≡ b → is_some (if b then Some s.value else None) ≡ true → x < length stored
    at true e i = own e
    at false e i = cc

    by : (o : Option Value) → (is_some o ≡ true → x < length stored) → is_some (option_or o (if s.attr.0 == x then Some s.value else None)) ≡ true → x < length stored
    by (Some v) go i = go refl
    by None go i = at (s.attr.0 == x) refl i

change-same : (c : Config) (stored : List Stored) (x : ℕ) (before : Past) (v : Value) → (attribute stored x).held.value ≡ value_at (configured_model c) x before
    → change_from c stored x v ≡ change_to (configured_model c) x before v
change-same c stored x before v is = ap (λ w. record { attr = record { 0 = x }; flags = points.flags_of (attr_of (configured_model c) x); differs = not (is_same v w) }) is

changes-same : (c : Config) (stored : List Stored) (x : ℕ) (before : Past) (o : Option Value) → (is_some o ≡ true → (attribute stored x).held.value ≡ value_at (configured_model c) x before)
    → option_map (change_from c stored x) o ≡ option_map (change_to (configured_model c) x before) o
changes-same c stored x before None is = refl
changes-same c stored x before (Some v) is = ap Some (change-same c stored x before v (is refl))

pub are-changes : (c : Config) (d : Deed) (before : Past) (stored : List Stored) (settings : List Setting) (changes : List Change) → Sets (configured_model c) d before settings
    → Stands stored (configured_model c) before → All (IsThere stored) settings → AreMade c stored settings changes → AreChanges (configured_model c) d before changes
are-changes c d before stored settings changes given_by stands there made = λ x.
    made x ∙ (changes-same c stored x before (set_to x settings) (λ is. stands x (set-there stored x settings there is)) ∙ ap (option_map (change_to (configured_model c) x before)) (given_by x))

-- ---- each attribute keeps a value of its type

-- what is set is the value of a setting of the attribute
pub set-value : (P : ℕ → Value → Type 0) (x : ℕ) (settings : List Setting) → All (λ (s : Setting). P s.attr.0 s.value) settings → (v : Value) → set_to x settings ≡ Some v → P x v
set-value P x [] are v is = cc
set-value P x (s ∷ later) are v is = by (set_to x later) (set-value P x later (All-tail (λ (t : Setting). P t.attr.0 t.value) s later are)) is
  where
    own : (b : Bool) → (s.attr.0 == x) ≡ b → (if b then Some s.value else None) ≡ Some v → P x v
    own true e i = either (eqb_tells s.attr.0 x) where
      either : ((s.attr.0 == x) ≡ true) × (s.attr.0 ≡ x) ⊎ ((s.attr.0 == x) ≡ false) × (s.attr.0 ≢ x) → P x v
      either (inl f) = subst (λ y. P y v) f.1 (subst (P s.attr.0) (grind arith) (are 0 s (omega arith)))
      either (inr f) = cc
    own false e i = cc

    by : (o : Option Value) → ((w : Value) → o ≡ Some w → P x w) → option_or o (if s.attr.0 == x then Some s.value else None) ≡ Some v → P x v
    by (Some w) go i = go v i
    by None go i = own (s.attr.0 == x) refl i

given-kind : (o : Option Value) (was : Stored) → (given o was).held.kind ≡ was.held.kind
given-kind None was = refl
given-kind (Some v) was = refl

given-writable : (o : Option Value) (was : Stored) → (given o was).is_writable ≡ was.is_writable
given-writable None was = refl
given-writable (Some v) was = refl

cell-given : (c : Config) (x : ℕ) (o : Option Value) (was : Stored) → was.held.kind ≡ kind_of (attr_type c x) → IsSoundCell was.held → ((v : Value) → o ≡ Some v → IsValueOf c x v) → IsSoundCell (given o was).held
cell-given c x None was is cell set = cell
cell-given c x (Some v) was is cell set =
    let t = set v refl in
    record { kind = ap (λ k. is_kind k v) is ∙ t.kind; range = ap (λ k. is_in_range k v) is ∙ t.range; sound = t.sound }

typed-values : (c : Config) (settings : List Setting) → AreTyped c settings → All (λ (s : Setting). IsValueOf c s.attr.0 s.value) settings
typed-values c settings are = λ k d below. (are k d below).typed

pub held-after : (c : Config) (old new : List Stored) (settings : List Setting) → AreHeld c old → AreTyped c settings
    → ((x : ℕ) → attribute new x ≡ last_set settings x (attribute old x)) → length new ≡ length old → AreHeld c new
held-after c old new settings held typed set count = record {
  count = count ∙ held.count;
  kinds = λ x below. ap (λ (s : Stored). s.held.kind) (set x) ∙ (given-kind (set_to x settings) (attribute old x) ∙ held.kinds x (omega (arith, below, count)));
  sound = λ x below. subst (λ (s : Stored). IsSoundCell s.held) (sym (set x))
      (cell-given c x (set_to x settings) (attribute old x) (held.kinds x (omega (arith, below, count))) (held.sound x (omega (arith, below, count))) (set-value (IsValueOf c) x settings (typed-values c settings typed)));
  writable = λ x below. ap (λ (s : Stored). s.is_writable) (set x) ∙ (given-writable (set_to x settings) (attribute old x) ∙ held.writable x (omega (arith, below, count)));
}

-- ---- what a step that fits sets

control-count : (ks : List CtlDef) → length (flat_map (λ (k : CtlDef). map (λ (p : Parameter). p.kind) (parameters k)) ks) ≡ length (flat_map tables.control_flags ks)
control-count [] = refl
control-count (k ∷ ks) = omega (
  arith,
  length-append (map (λ (p : Parameter). p.kind) (parameters k)) (flat_map (λ (k : CtlDef). map (λ (p : Parameter). p.kind) (parameters k)) ks),
  length-append (tables.control_flags k) (flat_map tables.control_flags ks),
  length-map (parameters k) (λ (p : Parameter). p.kind),
  length-map (parameters k) (λ (p : Parameter). tables.no_flags),
  control-count ks,
)

-- there is a type for each attribute
pub types-count : (c : Config) → length (attr_types c) ≡ length (attributes c)
types-count c = omega (
  arith,
  length-append (map (λ (a : AttrDef). a.kind) c.attrs) (flat_map (λ (k : CtlDef). map (λ (p : Parameter). p.kind) (parameters k)) c.controls ++ map (λ (a : AttrDef). a.kind) (filter is_setting c.attrs)),
  length-append (flat_map (λ (k : CtlDef). map (λ (p : Parameter). p.kind) (parameters k)) c.controls) (map (λ (a : AttrDef). a.kind) (filter is_setting c.attrs)),
  length-append (map tables.line_flags c.attrs) (flat_map tables.control_flags c.controls ++ map tables.line_flags (filter is_setting c.attrs)),
  length-append (flat_map tables.control_flags c.controls) (map tables.line_flags (filter is_setting c.attrs)),
  length-map c.attrs (λ (a : AttrDef). a.kind),
  length-map c.attrs tables.line_flags,
  length-map (filter is_setting c.attrs) (λ (a : AttrDef). a.kind),
  length-map (filter is_setting c.attrs) tables.line_flags,
  control-count c.controls,
  ap length (flags-are c),
  length-map (attributes c) tables.flags_of,
)

typed-of-fits : (c : Config) (s : Setting) → setting_fits (attr_types c) s ≡ true → IsTyped c s
typed-of-fits c s is = by (slice_get (attr_types c) s.attr.0) refl (and_parts (is_typed (slice_get (attr_types c) s.attr.0) s.value) (is_sound s.value) is)
  where
    by : (o : Option TypeOf) → slice_get (attr_types c) s.attr.0 ≡ o → (is_typed o s.value ≡ true) × (is_sound s.value ≡ true) → IsTyped c s
    by None at parts = cc
    by (Some k) at parts =
        let t = and_parts (is_kind (kind_of k) s.value) (is_in_range (kind_of k) s.value) parts.0 in
        let type : attr_type c s.attr.0 ≡ k = get_or_from_slice_get (attr_types c) s.attr.0 k types.Bool at in
        record {
          there = omega (arith, slice_get_within (attr_types c) s.attr.0 k at, types-count c);
          typed = record { kind = ap (λ q. is_kind (kind_of q) s.value) type ∙ t.0; range = ap (λ q. is_in_range (kind_of q) s.value) type ∙ t.1; sound = parts.1 };
        }

all-typed : (c : Config) (settings : List Setting) → list_all (setting_fits (attr_types c)) settings ≡ true → AreTyped c settings
all-typed c [] is = All-nil (IsTyped c)
all-typed c (s ∷ later) is =
    let t = and_parts (setting_fits (attr_types c) s) (list_all (setting_fits (attr_types c)) later) is in
    All-cons (IsTyped c) s later (typed-of-fits c s t.0) (all-typed c later t.1)

pub typed-settings : (c : Config) (settings : List Setting) → fits c (steps.Value settings) ≡ true → AreTyped c settings
typed-settings c settings is = all-typed c settings is

pub fit-settings : (c : Config) (stored : List Stored) (settings : List Setting) → AreHeld c stored → AreTyped c settings → AreFit stored settings
fit-settings c stored settings held typed = λ k d below.
    let s = slice_index_or settings k d in
    let t = typed k d below in
    let there : s.attr.0 < length stored = omega (arith, t.there, held.count) in
    record { there = there; kind = ap (λ q. is_kind q s.value) (held.kinds s.attr.0 there) ∙ t.typed.kind; range = ap (λ q. is_in_range q s.value) (held.kinds s.attr.0 there) ∙ t.typed.range }

-- what is asked of the settings of a step that fits
pub fits-settings : (c : Config) (stored : List Stored) (settings : List Setting) → fits c (steps.Value settings) ≡ true → AreHeld c stored → AreFit stored settings × AreTyped c settings
fits-settings c stored settings is held = (fit-settings c stored settings held (typed-settings c settings is), typed-settings c settings is)

pub settings-there : (c : Config) (stored : List Stored) (settings : List Setting) → AreFit stored settings → All (IsThere stored) settings
settings-there c stored settings fit = λ k d below. (fit k d below).there
