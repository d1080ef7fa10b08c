-- What the responses of the confirmed services hold, field by field (ISO 9506-2, Confirmed-ResponsePDU; IEC 61850-8-1, the
-- use of its services), in the minimal spelling of each element.
use Rattle.std.specs.Prelude.{ℕ, Bool, false, List, [], ◌∷◌, ◌++◌, Result, Ok, Err}
use Rattle.std.specs.List.{flat_map}
use Rattle.ber_write.specs.Minimal.{octets_of, uint_octets}
use Rattle.sv_base.specs.Data.{data_of}
use Rattle.sv_base.specs.declared.config.Config.{Config}
use Rattle.sv_base.specs.declared.numbers.NodeId.{NodeId}
use Rattle.sv_base.specs.declared.types.TypeOf.{TypeOf}
use Rattle.sv_base.specs.declared.value.Value.{Value}
use Rattle.mms_data.specs.TypeOctets.{type_of}
use Rattle.mms_elements.specs.declared.tags.TheConstants.{FAILURE, IDENTIFIER, LIST_OF_RESULT, SUCCESS}
use Rattle.bay_model.specs.declared.reply.Asked.{Asked}
use Rattle.report_cut.specs.Fields.{truth}
use Rattle.bay_answers.specs.RepliesVariables.{asked_octets, node_octets}
use Rattle.bay_answers.specs.declared.tags.TheConstants.{LIST_OF_IDENTIFIER, LIST_OF_VARIABLE, MMS_DELETABLE, MODEL_NAME, MORE_FOLLOWS, NUMBER_DELETED, NUMBER_MATCHED, REVISION, TYPE_DESCRIPTION, VENDOR_NAME}

-- Status: vmdLogicalStatus, 0x80, is state-changes-allowed, 0; vmdPhysicalStatus, 0x81, operational, 0
abbrev pub status_content : List ℕ
status_content = octets_of 0x80 (0 ∷ []) ++ octets_of 0x81 (0 ∷ [])

-- Identify: vendorName, modelName and revision
abbrev pub identify_content : Config → List ℕ
identify_content c = octets_of VENDOR_NAME c.vendor ++ octets_of MODEL_NAME c.model ++ octets_of REVISION c.revision

-- GetNameList: listOfIdentifier, of VisibleStrings
abbrev pub identifiers : List (List ℕ) → List ℕ
identifiers names = flat_map (λ n. octets_of IDENTIFIER n) names

-- and moreFollows
unfoldable pub names_content : List (List ℕ) → Bool → List ℕ
names_content names more = octets_of LIST_OF_IDENTIFIER (identifiers names) ++ octets_of MORE_FOLLOWS (truth more)

-- GetVariableAccessAttributes: mmsDeletable and typeDescription
abbrev pub type_content : TypeOf → List ℕ
type_content t = octets_of MMS_DELETABLE (truth false) ++ octets_of TYPE_DESCRIPTION (type_of t)

-- AccessResult: success is Data, failure a DataAccessError
abbrev pub result_octets : Result Value ℕ → List ℕ
result_octets (Ok v) = data_of v
result_octets (Err code) = octets_of FAILURE (uint_octets code)

abbrev pub results_octets : List (Result Value ℕ) → List ℕ
results_octets results = flat_map result_octets results

-- Read: variableAccessSpecification, where it was asked for, and listOfAccessResult
abbrev pub read_content : Asked → List (Result Value ℕ) → List ℕ
read_content asked results = asked_octets asked ++ octets_of LIST_OF_RESULT (results_octets results)

-- Write: of each variable success, or failure, a DataAccessError
abbrev pub written_octets : Result (Unit {0}) ℕ → List ℕ
written_octets (Ok done) = octets_of SUCCESS []
written_octets (Err code) = octets_of FAILURE (uint_octets code)

abbrev pub written_content : List (Result (Unit {0}) ℕ) → List ℕ
written_content codes = flat_map written_octets codes

-- GetNamedVariableListAttributes: mmsDeletable and listOfVariable
abbrev pub set_content : Config → Bool → List NodeId → List ℕ
set_content c deletable members = octets_of MMS_DELETABLE (truth deletable) ++ octets_of LIST_OF_VARIABLE (flat_map (node_octets c) members)

-- DeleteNamedVariableList: numberMatched and numberDeleted
abbrev pub deleted_content : ℕ → ℕ → List ℕ
deleted_content matched deleted = octets_of NUMBER_MATCHED (uint_octets matched) ++ octets_of NUMBER_DELETED (uint_octets deleted)
