-- The names of variables and lists of variables that are written (ISO 9506-2, ObjectName and VariableAccessSpecification).
use Rattle.std.specs.Prelude.{ℕ, List, []}
use Rattle.std.specs.List.{flat_map}
use Rattle.ber_write.specs.Minimal.{octets_of}
use Rattle.sv_base.specs.declared.config.Config.{Config}
use Rattle.sv_base.specs.declared.numbers.NodeId.{NodeId}
use Rattle.mms_pdu.specs.AskingOctets.{domain_name}
use Rattle.mms_elements.specs.declared.tags.TheConstants.{AA_SPECIFIC, LIST_OF_VARIABLE, NAME, SPECIFICATION_OF_RESULT, VARIABLE, VARIABLE_LIST_NAME, VMD_SPECIFIC}
use Rattle.bay_model.specs.declared.request.ObjName.{ObjName}
use Rattle.bay_model.specs.declared.request.ObjName.TheVariants as names
use Rattle.bay_model.specs.declared.request.Target.{Target}
use Rattle.bay_model.specs.declared.request.Target.TheVariants as targets
use Rattle.bay_model.specs.declared.reply.Asked.{Asked}
use Rattle.bay_model.specs.declared.reply.Asked.TheVariants as asked
use Rattle.bay_model.specs.Lookups.{node_of}
use Rattle.bay_model.specs.Named.{configured_model}

-- vmd-specific, domain-specific, or aa-specific
abbrev pub name_octets : ObjName → List ℕ
name_octets (names.Vmd o) = octets_of VMD_SPECIFIC o
name_octets (names.Domain d i) = domain_name d i
name_octets (names.Assoc o) = octets_of AA_SPECIFIC o

-- an item of listOfVariable, a SEQUENCE: the name, without alternate access
abbrev pub variable_octets : List ℕ → List ℕ
variable_octets name = octets_of VARIABLE (octets_of NAME name)

-- a variable as it was asked for, but for alternate access, of which nothing is written back
unfoldable pub target_octets : Target → List ℕ
target_octets (targets.Node n name) = variable_octets (name_octets name)
target_octets (targets.Missing name) = variable_octets (name_octets name)
target_octets (targets.Alternate name) = variable_octets (name_octets name)

-- variableAccessSpecification: listOfVariable, or variableListName
unfoldable pub asked_octets : Asked → List ℕ
asked_octets asked.No = []
asked_octets (asked.Vars ts) = octets_of SPECIFICATION_OF_RESULT (octets_of LIST_OF_VARIABLE (flat_map target_octets ts))
asked_octets (asked.Set n) = octets_of SPECIFICATION_OF_RESULT (octets_of VARIABLE_LIST_NAME (domain_name n.domain n.item))

-- a node of the model, by its domain and its item
unfoldable pub node_name : Config → NodeId → List ℕ
node_name c n = domain_name (node_of (configured_model c) n.0).domain (node_of (configured_model c) n.0).item

abbrev pub node_octets : Config → NodeId → List ℕ
node_octets c n = variable_octets (node_name c n)
