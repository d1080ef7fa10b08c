-- The octets of what a server sends, in the minimal spelling of each element (ISO 9506-2, MMSpdu).
use Rattle.std.specs.Prelude.{◌≡◌, ℕ, ◌+◌, ◌≤◌, ◌==◌, ◌||◌, nat_lt, List, [], ◌∷◌, ◌++◌, Option, Some, None, is_some, if◌then◌else◌}
use Rattle.ber_write.specs.Minimal.{octets_of, uint_octets}
use Rattle.mms_elements.specs.declared.tags.TheConstants.{CONCLUDE_RESPONSE, CONFIRMED_ERROR, CONFIRMED_RESPONSE, ERROR_CLASS, INVOKE_ID, ORIGINAL_INVOKE_ID, PDU_REJECTED, REJECT, REQUEST_REJECTED, SERVICE_ERROR}
use Rattle.sv_base.specs.declared.rejections.TheConstants as rejections
use Rattle.mms_pdu.specs.declared.reject_reasons.TheConstants.{UNKNOWN_PDU_TYPE, INVALID_PDU, UNRECOGNIZED_SERVICE, INVALID_ARGUMENT}

-- Confirmed-ResponsePDU: the invoke number and the element of the service
abbrev pub answer_content : ℕ → ℕ → List ℕ → List ℕ
answer_content invoke tag body = octets_of INVOKE_ID (uint_octets invoke) ++ octets_of tag body

unfoldable pub answer_octets : ℕ → ℕ → List ℕ → List ℕ
answer_octets invoke tag body = octets_of CONFIRMED_RESPONSE (answer_content invoke tag body)

-- X.690, 8.1.2: the tag of the context class with this number, which is below 256
abbrev pub class_tag : ℕ → ℕ
class_tag class = if nat_lt class 31 then 0x80 + class else if nat_lt class 128 then 0x9f00 + class else 0x9f8080 + class

-- Confirmed-ErrorPDU: the invoke number, and in the serviceError the errorClass, whose number is the class
unfoldable pub error_octets : ℕ → ℕ → ℕ → List ℕ
error_octets invoke class code = octets_of CONFIRMED_ERROR (octets_of ORIGINAL_INVOKE_ID (uint_octets invoke) ++ octets_of SERVICE_ERROR (octets_of ERROR_CLASS (octets_of (class_tag class) (uint_octets code))))

-- RejectPDU: the invoke number, where there is one, and the reason
abbrev pub invoke_octets : Option ℕ → List ℕ
invoke_octets None = []
invoke_octets (Some invoke) = octets_of ORIGINAL_INVOKE_ID (uint_octets invoke)

-- rejectReason: confirmed-requestPDU, with unrecognized-service and invalid-argument; and pdu-error, with unknown-pdu-type and
-- invalid-pdu. They stand for the refusals by number.
abbrev pub reason_tag : ℕ → ℕ
reason_tag refusal = if refusal == rejections.UNKNOWN_SERVICE || refusal == rejections.INVALID_ARGUMENT then REQUEST_REJECTED else PDU_REJECTED

abbrev pub reason_code : ℕ → ℕ
reason_code refusal = if refusal == rejections.UNKNOWN_PDU then UNKNOWN_PDU_TYPE else if refusal == rejections.INVALID_ARGUMENT then INVALID_ARGUMENT
    else if refusal == rejections.UNKNOWN_SERVICE then UNRECOGNIZED_SERVICE else INVALID_PDU

unfoldable pub reject_octets : Option ℕ → ℕ → List ℕ
reject_octets invoke refusal = octets_of REJECT (invoke_octets invoke ++ octets_of (reason_tag refusal) (uint_octets (reason_code refusal)))

-- The number is that of a refusal that a server sends, and an invoke number is there where the refusal has one.
pub record CanBeRejected (invoke : Option ℕ) (refusal : ℕ) : Type 0 where
  pub least : rejections.UNKNOWN_PDU ≤ refusal
  pub most : refusal ≤ rejections.INVALID_PDU
  pub numbered : is_some invoke ≡ (refusal == rejections.UNKNOWN_SERVICE || refusal == rejections.INVALID_ARGUMENT)

-- Conclude-ResponsePDU, a NULL
abbrev pub concluded_octets : List ℕ
concluded_octets = CONCLUDE_RESPONSE ∷ 0 ∷ []
