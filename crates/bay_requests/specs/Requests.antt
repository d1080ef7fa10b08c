-- The bay's request of what a client asks (ISO 9506-2, ConfirmedServiceRequest; IEC 61850-8-1, the use of its services).
use Rattle.std.specs.Prelude.{ℕ, Bool, ◌&&◌, List, [], map, Option, None, Some, is_some, IsTrue, Result, Ok, Err, if◌then◌else◌}
use Rattle.std.specs.Option.{option_map_or}
use Rattle.std.specs.List.{zip}
use Rattle.ber_grammar.specs.Octets.{IsBytes}
use Rattle.sv_base.specs.Tree.{Seen}
use Rattle.sv_base.specs.Same.{value_of}
use Rattle.sv_base.specs.declared.config.Config.{Config}
use Rattle.sv_base.specs.declared.numbers.AssocNo.{AssocNo}
use Rattle.mms_data.specs.Reading.{in_row}
use Rattle.mms_pdu.specs.ObjectName.{Name}
use Rattle.mms_pdu.specs.ObjectName as mms_names
use Rattle.mms_pdu.specs.Variable.{Variable}
use Rattle.mms_pdu.specs.Service as mms
use Rattle.mms_pdu.specs.Request as pdus
use Rattle.mms_elements.specs.declared.fault.PduFault.{PduFault}
use Rattle.mms_elements.specs.declared.fault.PduFault.TheVariants as faults
use Rattle.bay_model.specs.Named.{nodes}
use Rattle.bay_model.specs.declared.request.ObjName.{ObjName}
use Rattle.bay_model.specs.declared.request.ObjName.TheVariants as names
use Rattle.bay_model.specs.declared.request.Target.{Target}
use Rattle.bay_model.specs.declared.request.Target.TheVariants as targets
use Rattle.bay_model.specs.declared.request.Write.{Write}
use Rattle.bay_model.specs.declared.request.SetName.{SetName}
use Rattle.bay_model.specs.declared.request.Scope.{Scope}
use Rattle.bay_model.specs.declared.request.Scope.TheVariants as scopes
use Rattle.bay_model.specs.declared.request.Service.{Service}
use Rattle.bay_model.specs.declared.request.Service.TheVariants as services
use Rattle.bay_model.specs.declared.request.Request.{Request}
use Rattle.bay_model.specs.declared.step.Step.TheVariants as steps
use Rattle.object_model.specs.Fits.{is_association, fits}
use Rattle.object_model.specs.Tables.{node_named, node_id}
use Rattle.sv_base.specs.declared.rejections.TheConstants.{UNKNOWN_PDU, UNKNOWN_SERVICE, INVALID_ARGUMENT, INVALID_PDU}

-- ---- names

-- ISO 9506-2, ObjectName
abbrev pub object_name : Name (List ℕ) → ObjName
object_name (mms_names.vmd o) = names.Vmd o
object_name (mms_names.domain d i) = names.Domain d i
object_name (mms_names.association o) = names.Assoc o

-- the number of the node that a domain-specific name names; a vmd-specific or aa-specific name names nothing
abbrev pub node_of : Config → Name (List ℕ) → Option ℕ
node_of c (mms_names.domain d i) = node_named (nodes c) d i
node_of c _ = None

-- the variable of a name
abbrev pub target : Config → Name (List ℕ) → Target
target c n = option_map_or (λ k. targets.Node (node_id k) (object_name n)) (node_of c n) (targets.Missing (object_name n))

-- A variable of a list. That a name names nothing comes before alternate access.
abbrev pub listed_target : Config → Variable (List ℕ) → Target
listed_target c v = if v.alternate && is_some (node_of c v.name) then targets.Alternate (object_name v.name) else target c v.name

-- the name of a named variable list: one that is no domain's has an empty domain
abbrev pub set_name : Name (List ℕ) → SetName
set_name (mms_names.vmd o) = record { domain = []; item = o }
set_name (mms_names.domain d i) = record { domain = d; item = i }
set_name (mms_names.association o) = record { domain = []; item = o }

-- objectScope of GetNameList
abbrev pub scope : mms.Scope (List ℕ) → Scope
scope mms.of_vmd = scopes.Vmd
scope (mms.of_domain d) = scopes.Domain d
scope mms.of_association = scopes.Assoc

-- ---- services

-- a variable and the value that is written to it
abbrev pub write : Config → Variable (List ℕ) × Seen → Write
write c vd = record { target = listed_target c vd.0; value = value_of vd.1 }

abbrev pub read_set : Name (List ℕ) → Bool → Service
read_set n spec = services.ReadSet (set_name n).domain (set_name n).item spec

abbrev pub write_set : Name (List ℕ) → List Seen → Service
write_set n ds = services.WriteSet (set_name n).domain (set_name n).item (in_row ds)

abbrev pub define : Config → Name (List ℕ) → List (Variable (List ℕ)) → Service
define c n vs = services.Define (set_name n).domain (set_name n).item (map (listed_target c) vs)

abbrev pub set_of : Name (List ℕ) → Service
set_of n = services.SetOf (set_name n).domain (set_name n).item

abbrev pub service : Config → mms.Service (List ℕ) Seen → Service
service c mms.status = services.Status
service c mms.identify = services.Identify
service c (mms.names class s after) = services.Names class (scope s) after
service c (mms.type_of_node n) = services.TypeOfNode (target c n)
service c (mms.read vs spec) = services.Read (map (listed_target c) vs) spec
service c (mms.read_set n spec) = read_set n spec
service c (mms.write_vars vs ds) = services.WriteVars (map (write c) (zip vs ds))
service c (mms.write_set n ds) = write_set n ds
service c (mms.define n vs) = define c n vs
service c (mms.set_of n) = set_of n
service c (mms.delete s ns) = services.Delete s (map set_name ns)

-- ---- PDUs

-- The request that a PDU makes; none where a client asks nothing with it. A conclude request has no invoke number.
abbrev pub request_of : Config → pdus.Request (List ℕ) Seen → Option Request
request_of c (pdus.confirmed invoke s) = Some (record { invoke = invoke; service = service c s })
request_of c pdus.conclude = Some (record { invoke = 0; service = services.Conclude })
request_of c pdus.disregarded = None

abbrev pub rejected : ℕ → ℕ → Option Request
rejected invoke number = Some (record { invoke = invoke; service = services.Reject number })

-- The request that a refused PDU makes, to be rejected: by the invoke number, where the refusal is of a PDU that has one,
-- and the number of the refusal. No PDU that is read as a request is refused for its size.
abbrev pub rejection_of : PduFault → Option Request
rejection_of faults.UnknownPdu = rejected 0 UNKNOWN_PDU
rejection_of (faults.UnknownService invoke) = rejected invoke UNKNOWN_SERVICE
rejection_of (faults.Argument invoke) = rejected invoke INVALID_ARGUMENT
rejection_of faults.Invalid = rejected 0 INVALID_PDU
rejection_of (faults.SmallSize size) = None

-- of what octets are read as
abbrev pub request_told : Config → Result (pdus.Request (List ℕ) Seen) PduFault → Option Request
request_told c (Ok asked) = request_of c asked
request_told c (Err fault) = rejection_of fault

-- ---- what a view is that was read, and a request that a bay may be asked

-- some octets spell what is asked
abbrev pub IsSpelled : pdus.Request (List ℕ) Seen → Type 0
IsSpelled asked = (input : List ℕ) × IsBytes input × pdus.IsRequest input asked

-- it fits a configuration, whichever association asks
abbrev pub IsFitting : Config → Request → Type 0
IsFitting c r = (a : AssocNo) → IsTrue (is_association a.0) → IsTrue (fits c (steps.Ask a r))
