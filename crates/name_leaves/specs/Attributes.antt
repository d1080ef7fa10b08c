-- The attributes of a configuration by their numbers: reference, type and trigger conditions (IEC 61850-7-2,
-- DataAttribute, ObjectReference and TriggerConditions; IEC 61850-8-1, the names of data attributes).
use Rattle.std.specs.Prelude.{ℕ, false, List, ◌++◌, map, flat_map, filter, codes}
use Rattle.sv_base.specs.declared.config.Config.{Config}
use Rattle.sv_base.specs.declared.config.AttrDef.{AttrDef}
use Rattle.sv_base.specs.declared.config.CtlDef.{CtlDef}
use Rattle.sv_base.specs.declared.types.TypeOf.{TypeOf}
use Rattle.bay_model.specs.declared.flags.Flags.{Flags}
use Rattle.bay_model.specs.Lookups.{reference_of}
use Rattle.bay_model.specs.Generated.{within, Parameter, parameters}
use Rattle.bay_model.specs.NamedLines.{path_item, is_setting}
use Rattle.bay_model.specs.declared.tables.AttrRow.{AttrRow}

-- an attribute with its reference
pub record Attribute : Type 0 where
  pub reference : List ℕ
  pub row : AttrRow

abbrev pub no_flags : Flags
no_flags = record { dchg = false; qchg = false; dupd = false }

abbrev pub line_flags : AttrDef → Flags
line_flags a = record { dchg = a.dchg; qchg = a.qchg; dupd = a.dupd }

-- the attribute of a line, under a functional constraint
abbrev pub attr_at : AttrDef → List ℕ → Attribute
attr_at a fc = record { reference = reference_of a.domain (path_item a.ln fc a.path); row = record { kind = a.kind; flags = line_flags a } }

abbrev pub line_attr : AttrDef → Attribute
line_attr a = attr_at a a.fc

abbrev pub twin_attr : AttrDef → Attribute
twin_attr a = attr_at a (codes "SE")

-- a CF attribute of a control
abbrev pub parameter_attr : CtlDef → Parameter → Attribute
parameter_attr k p = record { reference = reference_of k.domain (within (path_item k.ln (codes "CF") k.path) p.name); row = record { kind = p.kind; flags = no_flags } }

abbrev pub control_attrs : CtlDef → List Attribute
control_attrs k = map (parameter_attr k) (parameters k)

-- first those of the lines, then those that the controls generate, then the SE twins of the SG attributes
abbrev pub attrs : Config → List Attribute
attrs c = map line_attr c.attrs ++ (flat_map control_attrs c.controls ++ map twin_attr (filter is_setting c.attrs))

-- the references and the rows of attributes, and the types of rows
abbrev pub references_of : List Attribute → List (List ℕ)
references_of as_ = map (λ (a : Attribute). a.reference) as_

abbrev pub rows_of : List Attribute → List AttrRow
rows_of as_ = map (λ (a : Attribute). a.row) as_

abbrev pub types_of : List AttrRow → List TypeOf
types_of rows = map (λ (r : AttrRow). r.kind) rows

abbrev pub attr_rows : Config → List AttrRow
attr_rows c = rows_of (attrs c)
