-- What the elements of a PDU say, apart from how they are spelled, and what a minimal PDU is (ITU-T X.690, 8.1 and 8.3).
use Rattle.std.specs.Prelude.{◌≡◌, ℕ, ◌<◌, ◌≤◌, ◌^◌, List, [], ◌∷◌, ◌++◌, length, Option, Some, None}
use Rattle.ber_grammar.specs.Octets.{IsBytes}
use Rattle.ber_grammar.specs.Element.{Element, Begins}
use Rattle.ber_grammar.specs.Content.{IsUint}
use Rattle.ber_write.specs.Minimal.{octets_of, uint_octets, CanBeTag}
use Rattle.sv_base.specs.Tree.{Seen}
use Rattle.sv_base.specs.Data.{data_seen}
use Rattle.sv_base.specs.Depth.{depth_seen, SeenHasNoOther}
use Rattle.mms_data.specs.Grammar.{IsData}
use Rattle.mms_data.specs.Writable.{SeenHasFractions, SeenIsOfTypes}
use Rattle.mms_initiate.specs.declared.initiate.Initiate.{Initiate}
use Rattle.mms_pdu.specs.ReplyOctets.{class_tag, reason_tag, reason_code}
use Rattle.mms_elements.specs.declared.tags.TheConstants.{ACCESS_SPECIFICATION, CONFIRMED_ERROR, CONFIRMED_REQUEST, CONFIRMED_RESPONSE, DOMAIN_SPECIFIC, ERROR_CLASS, IDENTIFIER, INFORMATION_REPORT, INIT_DETAIL, INVOKE_ID, LIST_OF_DATA, LIST_OF_VARIABLE, LOCAL_DETAIL, NAME, NESTING_LEVEL, ORIGINAL_INVOKE_ID, OUTSTANDING_CALLED, OUTSTANDING_CALLING, PARAMETER_CBB, READ, REJECT, REPORT_RESULTS, SERVICES_SUPPORTED, SERVICE_ERROR, UNCONFIRMED, VARIABLE, VERSION_NUMBER, WRITE}

-- Elements in a row: each has its tag, and a content of these octets, of this number, or of further elements; or it is the
-- Data of a value; or octets stand there as they were given. Others follow.
pub data Said : Type 0 where
  nothing : Said
  holds : ℕ → List ℕ → Said → Said
  counts : ℕ → ℕ → Said → Said
  groups : ℕ → Said → Said → Said
  carries : Seen → Said → Said
  copies : List ℕ → Said → Said

-- The octets say this, in any legal spelling of each element.
abbrev pub IsSaid : List ℕ → Said → Type 0
IsSaid input nothing = input ≡ []
IsSaid input (holds tag content others) = (e : Element) × (rest : List ℕ) × Begins input e rest × (e.tag ≡ tag) × (e.content ≡ content) × IsSaid rest others
IsSaid input (counts tag n others) = (e : Element) × (rest : List ℕ) × Begins input e rest × (e.tag ≡ tag) × IsUint e.content n × IsSaid rest others
IsSaid input (groups tag inner others) = (e : Element) × (rest : List ℕ) × Begins input e rest × (e.tag ≡ tag) × IsSaid e.content inner × IsSaid rest others
IsSaid input (carries s others) = (e : Element) × (rest : List ℕ) × Begins input e rest × IsData s e × IsSaid rest others
IsSaid input (copies given others) = (rest : List ℕ) × (input ≡ given ++ rest) × IsSaid rest others

-- They say this, and no octets that say it are fewer.
pub record IsMinimal (pdu : List ℕ) (said : Said) : Type 0 where
  pub is_said : IsSaid pdu said
  pub least : (octets : List ℕ) → IsBytes octets → IsSaid octets said → length pdu ≤ length octets

-- ---- the one minimal spelling

abbrev pub shortest : Said → List ℕ
shortest nothing = []
shortest (holds tag content others) = octets_of tag content ++ shortest others
shortest (counts tag n others) = octets_of tag (uint_octets n) ++ shortest others
shortest (groups tag inner others) = octets_of tag (shortest inner) ++ shortest others
shortest (carries s others) = data_seen s ++ shortest others
shortest (copies given others) = given ++ shortest others

-- each tag is one, each number has 64 bits, and the Data can be read again
abbrev pub CanBeSaid : Said → Type 0
CanBeSaid nothing = Unit {0}
CanBeSaid (holds tag content others) = CanBeTag tag × CanBeSaid others
CanBeSaid (counts tag n others) = CanBeTag tag × (n < 2 ^ 64) × CanBeSaid others
CanBeSaid (groups tag inner others) = CanBeTag tag × CanBeSaid inner × CanBeSaid others
CanBeSaid (carries s others) = SeenHasNoOther s × (depth_seen s ≤ 10) × SeenHasFractions s × SeenIsOfTypes s × CanBeSaid others
CanBeSaid (copies given others) = CanBeSaid others

-- ---- what each PDU says (ISO 9506-2, MMSpdu)

-- an Initiate-RequestPDU or an Initiate-ResponsePDU with all of its fields: the numbers, and in the detail the version, the
-- parameters and the services
abbrev pub initiate_says : ℕ → Initiate → List ℕ → Said
initiate_says tag i services = groups tag (counts LOCAL_DETAIL i.size (counts OUTSTANDING_CALLING i.calling (counts OUTSTANDING_CALLED i.called (counts NESTING_LEVEL i.nesting
    (groups INIT_DETAIL (holds VERSION_NUMBER (1 ∷ []) (holds PARAMETER_CBB (5 ∷ 0xf1 ∷ 0 ∷ []) (holds SERVICES_SUPPORTED services nothing))) nothing))))) nothing

-- listOfVariable with one variable by its domain and its item, without alternate access, and then others
abbrev pub variable_says : List ℕ → List ℕ → Said → Said
variable_says d i others = groups LIST_OF_VARIABLE (groups VARIABLE (groups NAME (groups DOMAIN_SPECIFIC (holds IDENTIFIER d (holds IDENTIFIER i nothing)) nothing) nothing) nothing) others

-- a Confirmed-RequestPDU that reads a variable, and one that writes it
abbrev pub read_says : ℕ → List ℕ → List ℕ → Said
read_says invoke d i = groups CONFIRMED_REQUEST (counts INVOKE_ID invoke (groups READ (groups ACCESS_SPECIFICATION (variable_says d i nothing) nothing) nothing)) nothing

abbrev pub write_says : ℕ → List ℕ → List ℕ → Seen → Said
write_says invoke d i value = groups CONFIRMED_REQUEST (counts INVOKE_ID invoke (groups WRITE (variable_says d i (groups LIST_OF_DATA (carries value nothing) nothing)) nothing)) nothing

-- a Confirmed-ResponsePDU whose service has this body, as it was given
abbrev pub answer_says : ℕ → ℕ → List ℕ → Said
answer_says invoke tag body = groups CONFIRMED_RESPONSE (counts INVOKE_ID invoke (holds tag body nothing)) nothing

-- a Confirmed-ErrorPDU, and a RejectPDU with the invoke number that it may have
abbrev pub error_says : ℕ → ℕ → ℕ → Said
error_says invoke class code = groups CONFIRMED_ERROR (counts ORIGINAL_INVOKE_ID invoke (groups SERVICE_ERROR (groups ERROR_CLASS (counts (class_tag class) code nothing) nothing) nothing)) nothing

abbrev pub reject_says : Option ℕ → ℕ → Said
reject_says None refusal = groups REJECT (counts (reason_tag refusal) (reason_code refusal) nothing) nothing
reject_says (Some invoke) refusal = groups REJECT (counts ORIGINAL_INVOKE_ID invoke (counts (reason_tag refusal) (reason_code refusal) nothing)) nothing

-- an Unconfirmed-PDU that reports these variables and results, as they were given
abbrev pub report_says : List ℕ → List ℕ → Said
report_says names results = groups UNCONFIRMED (groups INFORMATION_REPORT (copies names (holds REPORT_RESULTS results nothing)) nothing) nothing
