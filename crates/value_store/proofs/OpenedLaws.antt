-- A store that is opened has what the model of the bay is configured with.
use Rattle.std.proofs.Common.{◌≡◌, refl, ap, ap₂, sym, ◌∙◌, ◌<◌, ℕ, ◌+◌, ◌-◌, Bool, true, false, List, [], ◌∷◌, ◌++◌, length, map, flat_map, filter, is_some, unwrap_or, slice_get, position, arith, if◌then◌else◌}
use Rattle.std.specs.List.{All}
use Rattle.std.specs.Str.{bytes_eq}
use Rattle.std.proofs.lemmas.List.{map-append, get_or-map}
use Rattle.std.proofs.lemmas.List.Elements.{All-tail}
use Rattle.list_laws.proofs.Places.{at_position, get_at}
use Rattle.sv_base.specs.Same.{values_of}
use Rattle.sv_base.specs.declared.config.Config.{Config}
use Rattle.sv_base.specs.declared.config.AttrDef.{AttrDef}
use Rattle.sv_base.specs.declared.config.CtlDef.{CtlDef}
use Rattle.sv_base.specs.declared.value.Value.{Value}
use Rattle.sv_base.specs.declared.value.Value.TheVariants as kinds
use Rattle.bay_model.specs.Model as model
use Rattle.bay_model.specs.Model.{Model, Access, Attr, Groups}
use Rattle.bay_model.specs.Attributes.{attributes, attrs_defined, attr_defined, attrs_generated, twins, access_of}
use Rattle.bay_model.specs.Configured.{groups_defined}
use Rattle.sv_base.specs.Kinds.{kind_of}
use Rattle.bay_model.specs.Generated.{Parameter, parameters}
use Rattle.bay_model.specs.Lookups.{attr_of, groups_of, no_attr}
use Rattle.bay_model.specs.Named.{configured_model}
use Rattle.bay_model.specs.NamedLines.{is_setting, domains, domain_number}
use Rattle.bay_model.specs.Values.{configured_by}
use Rattle.value_store.specs.Opened.{HasDomains, opened, is_writable, is_written, place_in, stored_line, stored_parameter, stored_control, stored_twin}
use Rattle.std.proofs.lemmas.List.{length-map}
use Rattle.value_store.specs.Stored.{Stored, attribute, no_attribute}
use Rattle.value_store.specs.Wholes.{Stands}

-- ---- the groups of a domain, by its number

pub groups_at : (c : Config) (d : List ℕ) → is_some (position (bytes_eq d) (domains c)) ≡ true → groups_of (configured_model c) (domain_number c d) ≡ groups_defined c.groups d
groups_at c d there = at_position (groups_defined c.groups) (record { count = 0; active = 0 }) d (domains c) there

-- ---- what the model gives an attribute at first

abbrev pub first_place : Config → Access → ℕ → ℕ
first_place c model.active d = (groups_of (configured_model c) d).active - 1
first_place c _ d = 0

abbrev pub first_value : Config → Attr → Value
first_value c a = unwrap_or (slice_get a.initial (first_place c a.access a.domain)) kinds.Other

abbrev pub stored_first : Config → Attr → Stored
stored_first c a = record { held = record { value = first_value c a; kind = a.kind }; is_writable = is_writable a.access }

pub configured_first : (c : Config) (access : Access) (x : ℕ) → (attr_of (configured_model c) x).access ≡ access → first_value c (attr_of (configured_model c) x) ≡ configured_by (configured_model c) access x
configured_first c model.reported x is = ap (λ r. unwrap_or (slice_get (attr_of (configured_model c) x).initial (first_place c r (attr_of (configured_model c) x).domain)) kinds.Other) is
configured_first c model.writable x is = ap (λ r. unwrap_or (slice_get (attr_of (configured_model c) x).initial (first_place c r (attr_of (configured_model c) x).domain)) kinds.Other) is
configured_first c model.active x is = ap (λ r. unwrap_or (slice_get (attr_of (configured_model c) x).initial (first_place c r (attr_of (configured_model c) x).domain)) kinds.Other) is
configured_first c model.edited x is = ap (λ r. unwrap_or (slice_get (attr_of (configured_model c) x).initial (first_place c r (attr_of (configured_model c) x).domain)) kinds.Other) is

-- ---- the lines, the controls' attributes and the twins

place_by_test : (c : Config) (d : ℕ) (g : Groups) (b w : Bool) → groups_of (configured_model c) d ≡ g
    → first_place c (if b then model.active else (if w then model.writable else model.reported)) d ≡ (if b then g.active - 1 else 0)
place_by_test c d g true w is = ap (λ (x : Groups). x.active - 1) is
place_by_test c d g false true is = refl
place_by_test c d g false false is = refl

line_first : (c : Config) (x : ℕ) (a : AttrDef) → is_some (position (bytes_eq a.domain) (domains c)) ≡ true
    → stored_first c (attr_defined c x a) ≡ stored_line a (place_in c a) (is_written a)
line_first c x a there = ap (λ n. record { held = record { value = unwrap_or (slice_get (values_of a.values) n) kinds.Other; kind = kind_of a.kind }; is_writable = is_writable (access_of a.fc) })
    (place_by_test c (domain_number c a.domain) (groups_defined c.groups a.domain) (is_setting a) _ (groups_at c a.domain there))

lines_first : (c : Config) (x : ℕ) (attrs : List AttrDef) → All (λ (a : AttrDef). is_some (position (bytes_eq a.domain) (domains c)) ≡ true) attrs
    → map (stored_first c) (attrs_defined c x attrs) ≡ map (λ a. stored_line a (place_in c a) (is_written a)) attrs
lines_first c x [] there = refl
lines_first c x (a ∷ rest) there = ap₂ (λ (s : Stored) l. s ∷ l) (line_first c x a (there 0 a (omega arith))) (lines_first c (1 + x) rest (All-tail (λ (b : AttrDef). is_some (position (bytes_eq b.domain) (domains c)) ≡ true) a rest there))

parameters_first : (c : Config) (k : CtlDef) (ps : List Parameter)
    → map (stored_first c) (map (λ (p : Parameter). record { access = model.reported; kind = kind_of p.kind; dchg = false; qchg = false; dupd = false; initial = p.value ∷ []; domain = domain_number c k.domain; original = 0 }) ps) ≡ map stored_parameter ps
parameters_first c k [] = refl
parameters_first c k (p ∷ ps) = ap (λ l. stored_parameter p ∷ l) (parameters_first c k ps)

controls_first : (c : Config) (ks : List CtlDef) → map (stored_first c) (flat_map (attrs_generated c) ks) ≡ flat_map stored_control ks
controls_first c [] = refl
controls_first c (k ∷ ks) = map-append (stored_first c) (attrs_generated c k) (flat_map (attrs_generated c) ks) ∙ ap₂ (λ l m. l ++ m) (parameters_first c k (parameters k)) (controls_first c ks)

twin_by_test : (c : Config) (x : ℕ) (a : AttrDef) (b : Bool) (more : List Attr) (others : List AttrDef) → map (stored_first c) more ≡ map stored_twin others
    → map (stored_first c) (if b then record (attr_defined c x a) { access = model.edited } ∷ more else more) ≡ map stored_twin (if b then a ∷ others else others)
twin_by_test c x a true more others rest = ap (λ l. stored_twin a ∷ l) rest
twin_by_test c x a false more others rest = rest

twins_first : (c : Config) (x : ℕ) (attrs : List AttrDef) → map (stored_first c) (twins c x attrs) ≡ map stored_twin (filter is_setting attrs)
twins_first c x [] = refl
twins_first c x (a ∷ rest) = ap (λ l. map (stored_first c) l) (both (is_setting a)) ∙ twin_by_test c x a (is_setting a) (twins c (1 + x) rest) (filter is_setting rest) (twins_first c (1 + x) rest)
  where
    both : (b : Bool) → (if b then record (attr_defined c x a) { access = model.edited } ∷ twins c (1 + x) rest else twins c (1 + x) rest) ≡ (if b then record (attr_defined c x a) { access = model.edited } ∷ twins c (1 + x) rest else twins c (1 + x) rest)
    both b = refl

pub opened_first : (c : Config) → HasDomains c → map (stored_first c) (attributes c) ≡ opened c
opened_first c there = map-append (stored_first c) (attrs_defined c 0 c.attrs) (flat_map (attrs_generated c) c.controls ++ twins c 0 c.attrs)
    ∙ ap₂ (λ l m. l ++ m) (lines_first c 0 c.attrs there)
    (map-append (stored_first c) (flat_map (attrs_generated c) c.controls) (twins c 0 c.attrs) ∙ ap₂ (λ l m. l ++ m) (controls_first c c.controls) (twins_first c 0 c.attrs))

pub attribute_first : (c : Config) (x : ℕ) → HasDomains c → x < length (attributes c) → attribute (opened c) x ≡ stored_first c (attr_of (configured_model c) x)
attribute_first c x there below = ap (λ l. attribute l x) (sym (opened_first c there))
    ∙ (get_or-map (stored_first c) (attributes c) x no_attr no_attribute below ∙ ap (stored_first c) (sym (get_at (attributes c) x no_attr no_attr below)))

pub length_opened : (c : Config) → HasDomains c → length (opened c) ≡ length (attributes c)
length_opened c there = ap length (sym (opened_first c there)) ∙ length-map (attributes c) (stored_first c)

pub opened_stands : (c : Config) → HasDomains c → Stands (opened c) (configured_model c) []
opened_stands c there = λ x below. ap (λ (s : Stored). s.held.value) (attribute_first c x there (omega (arith, below, length_opened c there)))
    ∙ configured_first c (attr_of (configured_model c) x).access x refl

pub opened_kinds : (c : Config) (x : ℕ) → HasDomains c → x < length (attributes c) → (attribute (opened c) x).held.kind ≡ (attr_of (configured_model c) x).kind
opened_kinds c x there below = ap (λ (s : Stored). s.held.kind) (attribute_first c x there below)

pub opened_writable : (c : Config) (x : ℕ) → HasDomains c → x < length (attributes c) → (attribute (opened c) x).is_writable ≡ is_writable (attr_of (configured_model c) x).access
opened_writable c x there below = ap (λ (s : Stored). s.is_writable) (attribute_first c x there below)
