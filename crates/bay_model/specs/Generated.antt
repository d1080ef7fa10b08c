-- What the lines of a configuration name in a domain, with all that control blocks and controls stand for (IEC 61850-8-1,
-- the functional constraints BR, SP, CO and CF; IEC 61850-7-2, the attributes of BRCB and SGCB, and the control class
-- model).
use Rattle.std.specs.Prelude.{ℕ, ◌+◌, Bool, ◌||◌, ◌==◌, pos, List, [], ◌∷◌, ◌++◌, map, if◌then◌else◌, codes}
use Rattle.sv_base.specs.Types.{no_field}
use Rattle.sv_base.specs.declared.value.Value.{Value}
use Rattle.sv_base.specs.declared.value.Value.TheVariants as kinds
use Rattle.sv_base.specs.declared.config.CtlDef.{CtlDef}
use Rattle.sv_base.specs.declared.types.TypeOf.{TypeOf}
use Rattle.sv_base.specs.declared.types.TypeOf.TheVariants as types
use Rattle.sv_base.specs.declared.parameters.CtlParameter.TheVariants.{CtlModel, SboTimeout, SboClass}
use Rattle.sv_base.specs.Parameters.{parameter_name, parameter_kind}
use Rattle.bay_model.specs.Model.{SettingComp, Call, select, operate, cancel, Leaf, attribute, component, setting, withheld, Role, single, selecting, calling}
use Rattle.sv_base.specs.declared.call_parts.CallPart.{CallPart}
use Rattle.sv_base.specs.declared.ctl_services.CtlService.TheVariants as services
use Rattle.sv_base.specs.CtlServices.{service_name}
use Rattle.sv_base.specs.CallParts.{cancel_parts, command_parts, part_name, part_type}
use Rattle.sv_base.specs.ComponentTable.{components, comp_name, setting_components, setting_comp_name, comp_type, setting_comp_type}
use Rattle.sv_base.specs.declared.ctl_models.TheConstants.{SBO_NORMAL, SBO_ENHANCED}

-- an item that is named, what it is, and its type where it has no parts
pub record Named : Type 0 where
  pub item : List ℕ
  pub role : Role
  pub kind : TypeOf

-- `A$B`
abbrev pub within : List ℕ → List ℕ → List ℕ
within a b = a ++ 36 ∷ b

abbrev pub end_named : List ℕ → Leaf → TypeOf → Named
end_named item l kind = record { item = item; role = single l; kind = kind }

-- an item that is a structure, its parts to be named
abbrev pub structure_named : List ℕ → Role → Named
structure_named item role = record { item = item; role = role; kind = types.Struct no_field }

-- of report block b at `LN$BR$NAME`
abbrev pub block_names : ℕ → List ℕ → List Named
block_names b item = map (λ k. end_named (within item (comp_name k)) (component b k) (comp_type k)) components

-- of the setting group block of domain d
abbrev pub setting_named : ℕ → SettingComp → Named
setting_named d k = end_named (within (codes "LLN0$SP$SGCB") (setting_comp_name k)) (setting d k) (setting_comp_type k)

abbrev pub setting_names : ℕ → List Named
setting_names d = map (setting_named d) setting_components

-- a part of a command, whose ctlVal is of the type
abbrev pub part_named : TypeOf → List ℕ → CallPart → Named
part_named kind item part = end_named (within item (part_name part)) withheld (part_type kind part)

abbrev pub parts_of_call : Call → List CallPart
parts_of_call cancel = cancel_parts
parts_of_call _ = command_parts

-- SBOw, Oper or Cancel of control k, whose ctlVal is of the type
abbrev pub command_names : ℕ → TypeOf → List ℕ → Call → List Named
command_names k kind item call = structure_named item (calling k call) ∷ map (part_named kind item) (parts_of_call call)

-- SBO control, with normal or enhanced security, selects before it operates
abbrev pub is_selected : CtlDef → Bool
is_selected k = (k.model == SBO_NORMAL) || (k.model == SBO_ENHANCED)

-- what control k has at `LN$CO$DO`: SBO control with normal security has SBO, with enhanced security SBOw, either Cancel, and
-- each control Oper
abbrev pub sbo_names : ℕ → CtlDef → List ℕ → List Named
sbo_names k c item = if c.model == SBO_NORMAL then record { item = within item (service_name services.Sbo); role = selecting k; kind = types.Text 129 } ∷ [] else []

abbrev pub sbow_names : ℕ → CtlDef → List ℕ → List Named
sbow_names k c item = if c.model == SBO_ENHANCED then command_names k c.kind (within item (service_name services.SboWithValue)) select else []

abbrev pub oper_names : ℕ → CtlDef → List ℕ → List Named
oper_names k c item = command_names k c.kind (within item (service_name services.Oper)) operate

abbrev pub cancel_names : ℕ → CtlDef → List ℕ → List Named
cancel_names k c item = if is_selected c then command_names k c.kind (within item (service_name services.Cancel)) cancel else []

abbrev pub control_names : ℕ → CtlDef → List ℕ → List Named
control_names k c item = sbo_names k c item ++ (sbow_names k c item ++ (oper_names k c item ++ cancel_names k c item))

-- a CF attribute of a control: its name, its type and its value
pub record Parameter : Type 0 where
  pub name : List ℕ
  pub kind : TypeOf
  pub value : Value

abbrev pub selection : CtlDef → List Parameter
selection c = record { name = parameter_name SboTimeout; kind = parameter_kind SboTimeout; value = kinds.Uint c.timeout } ∷ record { name = parameter_name SboClass; kind = parameter_kind SboClass; value = kinds.Int (pos c.class) } ∷ []

abbrev pub parameters : CtlDef → List Parameter
parameters c = record { name = parameter_name CtlModel; kind = parameter_kind CtlModel; value = kinds.Int (pos c.model) } ∷ (if is_selected c then selection c else [])

-- at `LN$CF$DO`, the first being attribute x
abbrev pub parameter_names : ℕ → List ℕ → List Parameter → List Named
parameter_names x item [] = []
parameter_names x item (p ∷ ps) = end_named (within item p.name) (attribute x) p.kind ∷ parameter_names (x + 1) item ps
