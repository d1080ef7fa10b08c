-- The attributes of a configuration by their numbers (IEC 61850-7-2, DataAttribute, functional constraints and trigger
-- conditions).
use Rattle.std.specs.Prelude.{ℕ, ◌+◌, false, ◌||◌, List, [], ◌∷◌, ◌++◌, map, flat_map, if◌then◌else◌, codes}
use Rattle.std.specs.Str.{bytes_eq}
use Rattle.sv_base.specs.Same.{values_of}
use Rattle.sv_base.specs.declared.config.Config.{Config}
use Rattle.sv_base.specs.declared.config.AttrDef.{AttrDef}
use Rattle.sv_base.specs.declared.config.CtlDef.{CtlDef}
use Rattle.bay_model.specs.Model as model
use Rattle.bay_model.specs.Model.{Attr, Access}
use Rattle.sv_base.specs.Kinds.{kind_of}
use Rattle.bay_model.specs.Generated.{Parameter, parameters}
use Rattle.bay_model.specs.NamedLines.{is_setting, domain_number}

-- who sets an attribute, by its functional constraint
abbrev pub access_of : List ℕ → Access
access_of fc = if bytes_eq fc (codes "SG") then model.active
    else (if bytes_eq fc (codes "CF") || bytes_eq fc (codes "DC") || bytes_eq fc (codes "SP") || bytes_eq fc (codes "SV") then model.writable else model.reported)

-- the attribute of a line, with its number where it is a setting
abbrev pub attr_defined : Config → ℕ → AttrDef → Attr
attr_defined c x a = record { access = access_of a.fc; kind = kind_of a.kind; dchg = a.dchg; qchg = a.qchg; dupd = a.dupd; initial = values_of a.values; domain = domain_number c a.domain; original = if is_setting a then x else 0 }

abbrev pub attrs_defined : Config → ℕ → List AttrDef → List Attr
attrs_defined c x [] = []
attrs_defined c x (a ∷ rest) = attr_defined c x a ∷ attrs_defined c (1 + x) rest

-- the CF attributes of a control, which nobody sets
abbrev pub attrs_generated : Config → CtlDef → List Attr
attrs_generated c k = map (λ (p : Parameter). record { access = model.reported; kind = kind_of p.kind; dchg = false; qchg = false; dupd = false; initial = p.value ∷ []; domain = domain_number c k.domain; original = 0 }) (parameters k)

-- the SE twins of the SG attributes
abbrev pub twins : Config → ℕ → List AttrDef → List Attr
twins c x [] = []
twins c x (a ∷ rest) = if is_setting a then record (attr_defined c x a) { access = model.edited } ∷ twins c (1 + x) rest else twins c (1 + x) rest

abbrev pub attributes : Config → List Attr
attributes c = attrs_defined c 0 c.attrs ++ (flat_map (attrs_generated c) c.controls ++ twins c 0 c.attrs)
