-- The configured values of the attributes: each is of its attribute's type, and sound.
use Rattle.std.proofs.Common.{◌≡◌, ◌<◌, ◌≤◌, ◌^◌, ℕ, zero, suc, List, [], ◌∷◌, ◌++◌, map, flat_map, filter, length, unwrap_or, nat_lt, refl, ap, ap₂, sym, ◌∙◌, arith, Bool, true, false, if◌then◌else◌}
use Rattle.std.specs.Prelude.{slice_index_or, pos, codes}
use Rattle.std.specs.List.{All}
use Rattle.std.proofs.lemmas.List.{map-append, get_or-map}
use Rattle.std.proofs.lemmas.Bool.Decides.{nat_tests}
use Rattle.std.proofs.lemmas.List.Elements.{All-append, All-map, All-filter, All-nil, All-cons, All-head, All-tail}
use Rattle.std.proofs.lemmas.Option.{get_or_from_slice_get, slice_get_within}
use Rattle.sv_base.specs.Same.{values_of}
use Rattle.sv_base.specs.declared.config.Config.{Config}
use Rattle.sv_base.specs.declared.config.AttrDef.{AttrDef}
use Rattle.sv_base.specs.declared.config.CtlDef.{CtlDef}
use Rattle.sv_base.specs.declared.types.TypeOf.{TypeOf}
use Rattle.sv_base.specs.declared.types.TypeOf.TheVariants as types
use Rattle.sv_base.specs.declared.value.Value.TheVariants as kinds
use Rattle.sv_base.specs.Kinds.{int, uint, kind_of, is_kind, is_in_range}
use Rattle.bay_model.specs.Generated.{Parameter, parameters, selection, is_selected}
use Rattle.bay_model.specs.Model.{Kind}
use Rattle.bay_model.specs.NamedLines.{is_setting}
use Rattle.object_model.specs.Fits.{attr_types, is_sound}
use Rattle.value_store.specs.Opened.{HasValue, value_in, stored_line, stored_twin, stored_control, stored_parameter, place_in, is_written, opened}
use Rattle.value_store.specs.Stored.{Stored, attribute, no_attribute}
use Rattle.value_store.proofs.OpenedLaws.{length_opened, opened_kinds, opened_writable}
use Rattle.bay_model.specs.Lookups.{attr_of}
use Rattle.bay_model.specs.Named.{configured_model}
use Rattle.bay_config.specs.Servable.{IsServable, HasSoundValues}
use Rattle.bay_values.specs.Held.{AreHeld, IsSoundCell}
use Rattle.bay_values.proofs.ChangeLaws.{types-count}

-- ---- their kinds

abbrev kind_held : Stored → Kind
kind_held s = s.held.kind

lines-kinds : (f : AttrDef → Stored) → ((a : AttrDef) → (f a).held.kind ≡ kind_of a.kind) → (as_ : List AttrDef) → map kind_held (map f as_) ≡ map kind_of (map (λ (a : AttrDef). a.kind) as_)
lines-kinds f same [] = refl
lines-kinds f same (a ∷ as_) = ap₂ (λ (k : Kind) l. k ∷ l) (same a) (lines-kinds f same as_)

parameters-kinds : (ps : List Parameter) → map kind_held (map stored_parameter ps) ≡ map kind_of (map (λ (p : Parameter). p.kind) ps)
parameters-kinds [] = refl
parameters-kinds (p ∷ ps) = ap (λ l. kind_of p.kind ∷ l) (parameters-kinds ps)

abbrev parameter_types : CtlDef → List TypeOf
parameter_types k = map (λ (p : Parameter). p.kind) (parameters k)

controls-kinds : (ks : List CtlDef) → map kind_held (flat_map stored_control ks) ≡ map kind_of (flat_map parameter_types ks)
controls-kinds [] = refl
controls-kinds (k ∷ ks) = map-append kind_held (stored_control k) (flat_map stored_control ks)
    ∙ (ap₂ (λ l m. l ++ m) (parameters-kinds (parameters k)) (controls-kinds ks) ∙ sym (map-append kind_of (parameter_types k) (flat_map parameter_types ks)))

opened-kinds : (c : Config) → map kind_held (opened c) ≡ map kind_of (attr_types c)
opened-kinds c = map-append kind_held (map (λ a. stored_line a (place_in c a) (is_written a)) c.attrs) (flat_map stored_control c.controls ++ map stored_twin (filter is_setting c.attrs))
    ∙ (ap₂ (λ l m. l ++ m) (lines-kinds (λ a. stored_line a (place_in c a) (is_written a)) (λ a. refl) c.attrs)
    (map-append kind_held (flat_map stored_control c.controls) (map stored_twin (filter is_setting c.attrs))
    ∙ (ap₂ (λ l m. l ++ m) (controls-kinds c.controls) (lines-kinds stored_twin (λ a. refl) (filter is_setting c.attrs))
    ∙ sym (map-append kind_of (flat_map parameter_types c.controls) (map (λ (a : AttrDef). a.kind) (filter is_setting c.attrs)))))
    ∙ sym (map-append kind_of (map (λ (a : AttrDef). a.kind) c.attrs) (flat_map parameter_types c.controls ++ map (λ (a : AttrDef). a.kind) (filter is_setting c.attrs))))

same-at : {A B C : Type 0} (f : A → C) (g : B → C) (xs : List A) (ys : List B) (x : ℕ) (d : A) (e : B) (z : C) → map f xs ≡ map g ys → x < length xs → x < length ys → f (slice_index_or xs x d) ≡ g (slice_index_or ys x e)
same-at f g xs ys x d e z same here there = sym (get_or-map f xs x d z here) ∙ (ap (λ l. slice_index_or l x z) same ∙ get_or-map g ys x e z there)

-- ---- they are sound

-- ctlModel, which each control has
abbrev model_of : CtlDef → Parameter
model_of k = record { name = codes "ctlModel"; kind = types.Int 8; value = kinds.Int (pos k.model) }

abbrev IsSoundStored : Stored → Type 0
IsSoundStored s = IsSoundCell s.held

line-sound : (a : AttrDef) (place : ℕ) (w : Bool) → HasValue a place → HasSoundValues a → IsSoundStored (stored_line a place w)
line-sound a place w has sound =
    let is : value_in a place ≡ has.value = ap (λ o. unwrap_or o kinds.Other) has.there in
    record {
      kind = ap (λ v. is_kind (kind_of a.kind) v) is ∙ has.kind;
      range = ap (λ v. is_in_range (kind_of a.kind) v) is ∙ has.range;
      sound = ap (λ v. is_sound v) (is ∙ sym (get_or_from_slice_get (values_of a.values) place has.value kinds.Other has.there)) ∙ sound place kinds.Other (slice_get_within (values_of a.values) place has.value has.there);
    }

in-octet : (m : ℕ) → m ≤ 4 → is_in_range (int 8) (kinds.Int (pos m)) ≡ true
in-octet zero h = refl
in-octet (suc zero) h = refl
in-octet (suc (suc zero)) h = refl
in-octet (suc (suc (suc zero))) h = refl
in-octet (suc (suc (suc (suc zero)))) h = refl
in-octet (suc (suc (suc (suc (suc m))))) h = absurd (omega (arith, h))

in-word : (most t : ℕ) → t < most → nat_lt t most ≡ true
in-word most t h = grind (arith, nat_tests)

-- a control's CF attributes are numbers
parameters-sound : (k : CtlDef) → (k.model ≤ 4) × (k.class ≤ 1) → k.timeout < 2 ^ 32 → All IsSoundStored (stored_control k)
parameters-sound k h t = by (is_selected k)
  where
    number : (m : ℕ) → m ≤ 4 → IsSoundCell (record { value = kinds.Int (pos m); kind = int 8 })
    number m le = record { kind = refl; range = in-octet m le; sound = refl }

    timeout : IsSoundCell (record { value = kinds.Uint k.timeout; kind = uint 32 })
    timeout = record { kind = refl; range = in-word (2 ^ 32) k.timeout t; sound = refl }

    selected : All IsSoundStored (map stored_parameter (selection k))
    selected = All-cons IsSoundStored (record { held = record { value = kinds.Uint k.timeout; kind = uint 32 }; is_writable = false }) (record { held = record { value = kinds.Int (pos k.class); kind = int 8 }; is_writable = false } ∷ []) timeout
        (All-cons IsSoundStored (record { held = record { value = kinds.Int (pos k.class); kind = int 8 }; is_writable = false }) [] (number k.class (omega (arith, h.1))) (All-nil IsSoundStored))

    by : (b : Bool) → All IsSoundStored (map stored_parameter (model_of k ∷ (if b then selection k else [])))
    by true = All-cons IsSoundStored (stored_parameter (model_of k)) (map stored_parameter (selection k)) (number k.model h.0) selected
    by false = All-cons IsSoundStored (stored_parameter (model_of k)) [] (number k.model h.0) (All-nil IsSoundStored)

controls-sound : (ks : List CtlDef) → All (λ (k : CtlDef). (k.model ≤ 4) × (k.class ≤ 1)) ks → All (λ (k : CtlDef). k.timeout < 2 ^ 32) ks → All IsSoundStored (flat_map stored_control ks)
controls-sound [] h t = All-nil IsSoundStored
controls-sound (k ∷ ks) h t = All-append IsSoundStored (stored_control k) (flat_map stored_control ks)
    (parameters-sound k (All-head (λ (k : CtlDef). (k.model ≤ 4) × (k.class ≤ 1)) k ks h) (All-head (λ (k : CtlDef). k.timeout < 2 ^ 32) k ks t))
    (controls-sound ks (All-tail (λ (k : CtlDef). (k.model ≤ 4) × (k.class ≤ 1)) k ks h) (All-tail (λ (k : CtlDef). k.timeout < 2 ^ 32) k ks t))

opened-sound : (c : Config) → IsServable c → All IsSoundStored (opened c)
opened-sound c served = All-append IsSoundStored (map (λ a. stored_line a (place_in c a) (is_written a)) c.attrs) (flat_map stored_control c.controls ++ map stored_twin (filter is_setting c.attrs))
    (All-map IsSoundStored (λ a. stored_line a (place_in c a) (is_written a)) c.attrs (λ k d below.
    line-sound (slice_index_or c.attrs k d) (place_in c (slice_index_or c.attrs k d)) (is_written (slice_index_or c.attrs k d)) (served.storable.lines k d below) (served.sound k d below)))
    (All-append IsSoundStored (flat_map stored_control c.controls) (map stored_twin (filter is_setting c.attrs))
    (controls-sound c.controls served.storable.controls served.timeouts)
    (All-map IsSoundStored stored_twin (filter is_setting c.attrs) (All-filter is_setting (λ a. IsSoundStored (stored_twin a)) c.attrs (λ k d below.
    line-sound (slice_index_or c.attrs k d) 0 false (served.storable.twins k d below) (served.sound k d below)))))

-- the values that a configuration gives its attributes
pub opened-held : (c : Config) → IsServable c → AreHeld c (opened c)
opened-held c served = record {
  count = length_opened c served.domains;
  kinds = λ x below. same-at kind_held kind_of (opened c) (attr_types c) x no_attribute types.Bool (kind_of types.Bool) (opened-kinds c) below (omega (arith, below, length_opened c served.domains, types-count c));
  sound = λ x below. opened-sound c served x no_attribute below;
  writable = λ x below. opened_writable c x served.domains (omega (arith, below, length_opened c served.domains));
}

-- the kind of an attribute is that of its value
pub kind-told : (c : Config) (stored : List Stored) (x : ℕ) → IsServable c → AreHeld c stored → x < length stored → (attr_of (configured_model c) x).kind ≡ (attribute stored x).held.kind
kind-told c stored x served held below =
    let own : x < length (opened c) = omega (arith, below, held.count, length_opened c served.domains) in
    sym (opened_kinds c x served.domains (omega (arith, below, held.count))) ∙ ((opened-held c served).kinds x own ∙ sym (held.kinds x below))
