-- The reply to a request by its service (ISO 9506-2, the confirmed services; IEC 61850-8-1, their use).
use Rattle.std.specs.Prelude.{ℕ, Bool, ◌==◌, List, [], map, length, Option, None, Some, is_none, Result, if◌then◌else◌}
use Rattle.std.specs.Option.{option_map_or}
use Rattle.sv_base.specs.declared.value.Value.{Value}
use Rattle.sv_base.specs.Same.{values_of}
use Rattle.sv_base.specs.Tree.{Row}
use Rattle.sv_base.specs.declared.numbers.NodeId.{NodeId}
use Rattle.bay_model.specs.declared.reply.Asked.{Asked}
use Rattle.bay_model.specs.declared.reply.Asked.TheVariants as asked
use Rattle.bay_model.specs.declared.reply.Reply.{Reply}
use Rattle.bay_model.specs.declared.reply.Reply.TheVariants as replies
use Rattle.bay_model.specs.declared.request.Service.{Service}
use Rattle.bay_model.specs.declared.request.Service.TheVariants as services
use Rattle.bay_model.specs.declared.request.SetName.{SetName}
use Rattle.bay_model.specs.declared.request.Target.{Target}
use Rattle.bay_model.specs.declared.request.Target.TheVariants as targets
use Rattle.bay_model.specs.Model.{Model, DataSet}
use Rattle.bay_model.specs.Points.{Past, Change, unchanged}
use Rattle.bay_model.specs.Sets.{sets, set_named}
use Rattle.bay_model.specs.Sizes.{are_too_long}
use Rattle.bay_model.specs.Outcomes.{Outcome, result_of, code_of}
use Rattle.bay_model.specs.Singles.{Single, reads, read_of, write_of, writes_of}
use Rattle.bay_model.specs.Names.{names_reply}
use Rattle.bay_model.specs.Definitions.{definition_reply, definition_change}
use Rattle.bay_model.specs.Deletions.{deletion_reply, deletion_change}
use Rattle.sv_base.specs.declared.rejections.TheConstants.{INVALID_ARGUMENT}
use Rattle.bay_model.specs.declared.service_errors.TheConstants.{SERVICE, ACCESS, PDU_SIZE, OBJECT_NON_EXISTENT}

abbrev pub set_found : Model → Past → SetName → Option DataSet
set_found c past n = set_named n (sets c past)

abbrev pub set_name : List ℕ → List ℕ → SetName
set_name domain item = record { domain = domain; item = item }

-- the writes of a set's members, where there are as many values
abbrev pub written_set : DataSet → Row → List Single
written_set s r = if length s.nodes == length (values_of r) then writes_of s.nodes (values_of r) else []

-- the single reads and writes of a service, in order
abbrev pub singles_of : Model → Past → Service → List Single
singles_of c past (services.Read ts spec) = map read_of ts
singles_of c past (services.ReadSet domain item spec) = option_map_or (λ (s : DataSet). map reads s.nodes) (set_found c past (set_name domain item)) []
singles_of c past (services.WriteVars ws) = map write_of ws
singles_of c past (services.WriteSet domain item vs) = option_map_or (λ s. written_set s vs) (set_found c past (set_name domain item)) []
singles_of c past _ = []

-- GetVariableAccessAttributes
abbrev pub type_reply : Target → Reply
type_reply (targets.Node n name) = replies.TypeOfNode n
type_reply _ = replies.Error ACCESS OBJECT_NON_EXISTENT

abbrev pub node_number : ℕ → NodeId
node_number n = record { 0 = n }

-- GetNamedVariableListAttributes: a set that a client defined is deletable
abbrev pub set_reply : Model → SetName → Option DataSet → Reply
set_reply c n None = replies.Error ACCESS OBJECT_NON_EXISTENT
set_reply c n (Some s) = replies.SetOf (is_none (set_named n c.sets)) (map node_number s.nodes)

-- the results of a read, with the specification where it is to be written back; values and codes that are longer than a PDU
-- are refused by the error of class service with the code pdu-size
abbrev pub read_reply : ℕ → Asked → List (Result Value ℕ) → Reply
read_reply size spec results = if are_too_long size results then replies.Error SERVICE PDU_SIZE else replies.Read spec results

abbrev pub read_set_reply : ℕ → SetName → Bool → List Outcome → Option DataSet → Reply
read_set_reply size n spec os None = replies.Error ACCESS OBJECT_NON_EXISTENT
read_set_reply size n spec os (Some s) = read_reply size (if spec then asked.Set n else asked.No) (map result_of os)

-- another count of values than members is refused as invalid arguments
abbrev pub write_set_reply : Row → List Outcome → Option DataSet → Reply
write_set_reply r os None = replies.Error ACCESS OBJECT_NON_EXISTENT
write_set_reply r os (Some s) = if length s.nodes == length (values_of r) then replies.Wrote (map code_of os) else replies.Reject INVALID_ARGUMENT

-- the reply to a service; past is what came before the request, size that of a PDU of its association, os what came of its
-- single reads and writes
abbrev pub reply : Model → Past → ℕ → Service → List Outcome → Reply
reply c past size services.Status os = replies.Status
reply c past size services.Identify os = replies.Identify
reply c past size services.Conclude os = replies.Conclude
reply c past size (services.Names class scope after) os = names_reply c past size class scope after
reply c past size (services.TypeOfNode t) os = type_reply t
reply c past size (services.Read ts spec) os = read_reply size (if spec then asked.Vars ts else asked.No) (map result_of os)
reply c past size (services.ReadSet domain item spec) os = read_set_reply size (set_name domain item) spec os (set_found c past (set_name domain item))
reply c past size (services.WriteVars ws) os = replies.Wrote (map code_of os)
reply c past size (services.WriteSet domain item vs) os = write_set_reply vs os (set_found c past (set_name domain item))
reply c past size (services.Define domain item members) os = definition_reply c past (set_name domain item) members
reply c past size (services.SetOf domain item) os = set_reply c (set_name domain item) (set_found c past (set_name domain item))
reply c past size (services.Delete scope names) os = deletion_reply c past scope names
reply c past size (services.Reject n) os = replies.Reject n

-- what comes of the data sets
abbrev pub change_of : Model → Past → Service → Change
change_of c past (services.Define domain item members) = definition_change c past (set_name domain item) members
change_of c past (services.Delete scope names) = deletion_change c past scope names
change_of c past _ = unchanged
