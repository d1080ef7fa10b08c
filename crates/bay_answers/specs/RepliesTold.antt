-- What a client is told by the responses of Read and Write (ISO 9506-2, AccessResult and Write-Response).
use Rattle.std.specs.Prelude.{◌≡◌, ◌≢◌, ℕ, ◌^◌, ◌<◌, ◌≤◌, false, List, [], ◌∷◌, length, Result, Ok, Err}
use Rattle.ber_grammar.specs.Element.{Element, Spells, IsRow}
use Rattle.ber_grammar.specs.Content.{IsUint}
use Rattle.sv_base.specs.Seen.{seen_of}
use Rattle.sv_base.specs.Depth.{depth, HasNoOther}
use Rattle.sv_base.specs.declared.value.Value.{Value}
use Rattle.mms_data.specs.Grammar.{IsWithin}
use Rattle.mms_data.specs.Writable.{SeenHasFractions, SeenIsOfTypes}
use Rattle.mms_pdu.specs.Each.{Each}
use Rattle.mms_pdu.specs.ObjectName.{Name, vmd, domain, association}
use Rattle.mms_pdu.specs.Variable.{Variable}
use Rattle.mms_pdu.specs.Access.{Access, IsAccess}
use Rattle.mms_pdu.specs.AskingOctets.{AreVisible}
use Rattle.mms_pdu.specs.Reply.{answer, IsReply}
use Rattle.mms_pdu.specs.ReplyOctets.{answer_octets}
use Rattle.mms_elements.specs.declared.tags.TheConstants.{FAILURE, SPECIFICATION_OF_RESULT, SUCCESS}
use Rattle.bay_model.specs.declared.request.ObjName.{ObjName}
use Rattle.bay_model.specs.declared.request.ObjName.TheVariants as names
use Rattle.bay_model.specs.declared.request.Target.{Target}
use Rattle.bay_model.specs.declared.request.Target.TheVariants as targets

-- a failure with this DataAccessError
abbrev pub TellsFailure : Element → ℕ → Type 0
TellsFailure e code = (e.tag ≡ FAILURE) × IsUint e.content code × (code < 256)

-- of a variable that was read: its value, or why not
abbrev pub TellsResult : Element → Result Value ℕ → Type 0
TellsResult e (Ok v) = (e.tag ≢ FAILURE) × IsWithin 10 e (seen_of v)
TellsResult e (Err code) = TellsFailure e code

-- of a variable that was written: success, or why not
abbrev pub TellsCode : Element → Result (Unit {0}) ℕ → Type 0
TellsCode e (Ok done) = (e.tag ≡ SUCCESS) × (e.content ≡ [])
TellsCode e (Err code) = TellsFailure e code

-- the octets are elements that say these, one each and in order
abbrev pub AreTold : {A : Type 0} → (Element → A → Type 0) → List ℕ → List A → Type 0
AreTold Tells octets told = (es : List Element) × IsRow octets es × Each Tells es told

-- numbers of the types, and visible texts
abbrev pub IsResultOfTypes : Result Value ℕ → Type 0
IsResultOfTypes (Ok v) = HasNoOther v × (depth v ≤ 10) × SeenHasFractions (seen_of v) × SeenIsOfTypes (seen_of v)
IsResultOfTypes (Err code) = code < 256

abbrev pub IsCode : Result (Unit {0}) ℕ → Type 0
IsCode (Ok done) = Unit {0}
IsCode (Err code) = code < 256

-- ---- what was read, where it is written back

abbrev pub name_told : ObjName → Name (List ℕ)
name_told (names.Vmd o) = vmd o
name_told (names.Domain d i) = domain d i
name_told (names.Assoc o) = association o

abbrev pub target_told : Target → Variable (List ℕ)
target_told (targets.Node n name) = record { name = name_told name; alternate = false }
target_told (targets.Missing name) = record { name = name_told name; alternate = false }
target_told (targets.Alternate name) = record { name = name_told name; alternate = false }

-- the identifiers of a domain-specific name are visible
abbrev pub IsVisibleName : ObjName → Type 0
IsVisibleName (names.Vmd o) = Unit {0}
IsVisibleName (names.Domain d i) = AreVisible d × AreVisible i
IsVisibleName (names.Assoc o) = Unit {0}

abbrev pub IsVisibleTarget : Target → Type 0
IsVisibleTarget (targets.Node n name) = IsVisibleName name
IsVisibleTarget (targets.Missing name) = IsVisibleName name
IsVisibleTarget (targets.Alternate name) = IsVisibleName name

-- the octets are the element of this specification
abbrev pub TellsAsked : List ℕ → Access (List ℕ) → Type 0
TellsAsked octets access = (e : Element) × Spells octets e × (e.tag ≡ SPECIFICATION_OF_RESULT) × (k : Element) × IsRow e.content (k ∷ []) × IsAccess k access

-- ---- the PDU of a response

-- read by a client it gives the invoke number, the service's tag and what its element holds
abbrev pub IsReadBack : ℕ → ℕ → List ℕ → Type 0
IsReadBack invoke tag content = IsReply (answer_octets invoke tag content) (answer invoke tag content)

-- no length in it is above 4294967295
abbrev pub IsShort : ℕ → ℕ → List ℕ → Type 0
IsShort invoke tag content = (invoke < 2 ^ 32) × (length (answer_octets invoke tag content) < 2 ^ 32)
