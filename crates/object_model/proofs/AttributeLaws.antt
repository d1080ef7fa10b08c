-- The rows of the attributes have the types and the trigger conditions of the attributes of the configuration.
use Rattle.std.proofs.Common.{◌≡◌, ℕ, ◌+◌, ◌<◌, Bool, true, false, cond, List, [], ◌∷◌, ◌++◌, map, flat_map, filter, length, get_or, refl, sym, ap, ◌∙◌, arith, if◌then◌else◌}
use Rattle.std.proofs.lemmas.List.{map-append, length-map}
use Rattle.sv_base.specs.declared.config.Config.{Config}
use Rattle.sv_base.specs.declared.config.AttrDef.{AttrDef}
use Rattle.sv_base.specs.declared.config.CtlDef.{CtlDef}
use Rattle.bay_model.specs.declared.flags.Flags.{Flags}
use Rattle.bay_model.specs.Model as model
use Rattle.sv_base.specs.Kinds.{kind_of}
use Rattle.bay_model.specs.Lookups.{attr_of, no_attr}
use Rattle.bay_model.specs.Generated.{Parameter, parameters}
use Rattle.bay_model.specs.NamedLines.{is_setting, domain_number}
use Rattle.bay_model.specs.Attributes.{attr_defined, attrs_defined, attrs_generated, twins, attributes}
use Rattle.bay_model.specs.Named.{configured_model}
use Rattle.object_model.specs.Tables.{flags_of, line_flags, no_flags, control_flags, attr_flags}
use Rattle.object_model.specs.Fits.{attr_types}
use Rattle.bay_model.specs.declared.tables.AttrRow.{AttrRow}
use Rattle.name_leaves.specs.Attributes.{Attribute, line_attr, twin_attr, parameter_attr, control_attrs, attrs, rows_of, attr_rows, types_of}
use Rattle.list_laws.proofs.Places.{same_at}

of_lines : (c : Config) (x : ℕ) (as_ : List AttrDef) → map flags_of (attrs_defined c x as_) ≡ map line_flags as_
of_lines c x [] = refl
of_lines c x (a ∷ as_) = ap (λ l. line_flags a ∷ l) (of_lines c (1 + x) as_)

of_parameters : (c : Config) (k : CtlDef) (ps : List Parameter) → map flags_of (map (λ (p : Parameter). record { access = model.reported; kind = kind_of p.kind; dchg = false; qchg = false; dupd = false; initial = p.value ∷ []; domain = domain_number c k.domain; original = 0 }) ps) ≡ map (λ (p : Parameter). no_flags) ps
of_parameters c k [] = refl
of_parameters c k (p ∷ ps) = ap (λ l. no_flags ∷ l) (of_parameters c k ps)

of_controls : (c : Config) (ks : List CtlDef) → map flags_of (flat_map (attrs_generated c) ks) ≡ flat_map control_flags ks
of_controls c [] = refl
of_controls c (k ∷ ks) = map-append flags_of (attrs_generated c k) (flat_map (attrs_generated c) ks) ∙ (ap (λ l. l ++ map flags_of (flat_map (attrs_generated c) ks)) (of_parameters c k (parameters k)) ∙ ap (λ l. control_flags k ++ l) (of_controls c ks))

of_twins : (c : Config) (x : ℕ) (as_ : List AttrDef) → map flags_of (twins c x as_) ≡ map line_flags (filter is_setting as_)
of_twins c x [] = refl
of_twins c x (a ∷ as_) = by (is_setting a) (of_twins c (1 + x) as_)
  where
    by : (b : Bool) → map flags_of (twins c (1 + x) as_) ≡ map line_flags (filter is_setting as_)
        → map flags_of (if b then record (attr_defined c x a) { access = model.edited } ∷ twins c (1 + x) as_ else twins c (1 + x) as_) ≡ map line_flags (cond b (a ∷ filter is_setting as_) (filter is_setting as_))
    by true go = ap (λ l. line_flags a ∷ l) go
    by false go = go

pub flags-are : (c : Config) → attr_flags c ≡ map flags_of (attributes c)
flags-are c = sym (map-append flags_of (attrs_defined c 0 c.attrs) (flat_map (attrs_generated c) c.controls ++ twins c 0 c.attrs)
    ∙ (ap (λ l. l ++ map flags_of (flat_map (attrs_generated c) c.controls ++ twins c 0 c.attrs)) (of_lines c 0 c.attrs)
    ∙ ap (λ l. map line_flags c.attrs ++ l) (map-append flags_of (flat_map (attrs_generated c) c.controls) (twins c 0 c.attrs)
    ∙ (ap (λ l. l ++ map flags_of (twins c 0 c.attrs)) (of_controls c c.controls) ∙ ap (λ l. flat_map control_flags c.controls ++ l) (of_twins c 0 c.attrs)))))

-- the attributes, field by field
module _ {A : Type 0} (field : Attribute → A) (line : AttrDef → A) (parameter : Parameter → A) (lines : (a : AttrDef) → field (line_attr a) ≡ line a) (twins_ : (a : AttrDef) → field (twin_attr a) ≡ line a) (parameters_ : (k : CtlDef) (p : Parameter) → field (parameter_attr k p) ≡ parameter p) where
  each : {X : Type 0} (row : X → Attribute) (f : X → A) → ((x : X) → field (row x) ≡ f x) → (xs : List X) → map field (map row xs) ≡ map f xs
  each row f same [] = refl
  each row f same (x ∷ xs) = let with : A → List A → List A = λ a as_. a ∷ as_ in ap (λ a. with a (map field (map row xs))) (same x) ∙ ap (with (f x)) (each row f same xs)

  of_each : (ks : List CtlDef) → map field (flat_map control_attrs ks) ≡ flat_map (λ (k : CtlDef). map parameter (parameters k)) ks
  of_each [] = refl
  of_each (k ∷ ks) = map-append field (control_attrs k) (flat_map control_attrs ks)
      ∙ (ap (λ l. l ++ map field (flat_map control_attrs ks)) (each (parameter_attr k) parameter (parameters_ k) (parameters k)) ∙ ap (λ l. map parameter (parameters k) ++ l) (of_each ks))

  attrs-by : (c : Config) → map field (attrs c) ≡ map line c.attrs ++ (flat_map (λ (k : CtlDef). map parameter (parameters k)) c.controls ++ map line (filter is_setting c.attrs))
  attrs-by c = map-append field (map line_attr c.attrs) (flat_map control_attrs c.controls ++ map twin_attr (filter is_setting c.attrs))
      ∙ (ap (λ l. l ++ map field (flat_map control_attrs c.controls ++ map twin_attr (filter is_setting c.attrs))) (each line_attr line lines c.attrs)
      ∙ ap (λ l. map line c.attrs ++ l) (map-append field (flat_map control_attrs c.controls) (map twin_attr (filter is_setting c.attrs))
      ∙ (ap (λ l. l ++ map field (map twin_attr (filter is_setting c.attrs))) (of_each c.controls) ∙ ap (λ l. flat_map (λ (k : CtlDef). map parameter (parameters k)) c.controls ++ l) (each twin_attr line twins_ (filter is_setting c.attrs)))))

of_rows : {A : Type 0} (field : AttrRow → A) (as_ : List Attribute) → map field (rows_of as_) ≡ map (λ (a : Attribute). field a.row) as_
of_rows field [] = refl
of_rows field (a ∷ as_) = ap (λ l. field a.row ∷ l) (of_rows field as_)

pub rows-types : (c : Config) → types_of (attr_rows c) ≡ attr_types c
rows-types c = of_rows (λ (r : AttrRow). r.kind) (attrs c) ∙ attrs-by (λ (a : Attribute). a.row.kind) (λ (a : AttrDef). a.kind) (λ (p : Parameter). p.kind) (λ a. refl) (λ a. refl) (λ k p. refl) c

abbrev flags_at : AttrRow → Flags
flags_at r = r.flags

rows-flags : (c : Config) → map flags_at (attr_rows c) ≡ map flags_of (attributes c)
rows-flags c = of_rows flags_at (attrs c) ∙ (attrs-by (λ (a : Attribute). a.row.flags) line_flags (λ (p : Parameter). no_flags) (λ a. refl) (λ a. refl) (λ k p. refl) c ∙ flags-are c)

-- the row of an attribute, by the rows of a model's configuration
pub within-rows : (c named : Config) (rows : List AttrRow) (n : ℕ) → c ≡ named → rows ≡ attr_rows c → n < length (attributes named) → n < length rows
within-rows c named rows n v e h = omega (arith, h, ap length e, ap (λ m. length (attr_rows m)) v, length-map (attr_rows named) flags_at, ap length (rows-flags named), length-map (attributes named) flags_of)

pub flags-read : (c named : Config) (rows : List AttrRow) (n : ℕ) (r : AttrRow) → c ≡ named → rows ≡ attr_rows c → n < length (attributes named) → r ≡ get_or rows n r → r.flags ≡ flags_of (attr_of (configured_model named) n)
flags-read c named rows n r v e h is = same_at flags_at flags_of rows (attributes named) n r r no_attr (ap (map flags_at) (e ∙ ap attr_rows v) ∙ rows-flags named) h is
