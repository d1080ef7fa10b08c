-- What a server sends to a client that is connected (ISO 9506-2, MMSpdu).
use Rattle.std.specs.Prelude.{◌≡◌, ◌≢◌, ℕ, ◌<◌, ◌≤◌, ◌==◌, ◌||◌, ◌⊎◌, Bool, false, List, [], ◌∷◌, Option, Some, None}
use Rattle.ber_grammar.specs.Element.{Element, Spells, IsRow}
use Rattle.ber_grammar.specs.Content.{IsUint}
use Rattle.ber_grammar.specs.Place.{Piece}
use Rattle.mms_elements.specs.declared.fault.PduFault.{PduFault}
use Rattle.mms_elements.specs.declared.fault.PduFault.TheVariants.{UnknownPdu, UnknownService, Argument, Invalid, SmallSize}
use Rattle.mms_pdu.specs.Request.{is_pdu, MayBegin}
use Rattle.mms_elements.specs.Tagged.{IsNumbered}
use Rattle.mms_pdu.specs.Answer.{IsAnswerBody}
use Rattle.mms_pdu.specs.ReplyOctets.{class_tag}
use Rattle.mms_elements.specs.declared.tags.TheConstants.{CONCLUDE_RESPONSE, CONFIRMED_ERROR, CONFIRMED_RESPONSE, ERROR_CLASS, INVOKE_ID, ORIGINAL_INVOKE_ID, REJECT, SERVICE_ERROR, UNCONFIRMED}

-- P is what octets are, as they are or as a piece of the input.
pub data Reply (P : Type 0) : Type 0 where
  -- the invoke number, the tag of the service and what its element holds
  answer : ℕ → ℕ → P → Reply P
  -- the invoke number, the error class and the code
  error : ℕ → ℕ → ℕ → Reply P
  -- the invoke number, where there is one, and the code of the reason
  reject : Option ℕ → ℕ → Reply P
  concluded : Reply P
  -- the whole PDU
  information : P → Reply P

abbrev pub reply_octets : Reply Piece → Reply (List ℕ)
reply_octets (answer invoke tag body) = answer invoke tag body.octets
reply_octets (error invoke class code) = error invoke class code
reply_octets (reject invoke code) = reject invoke code
reply_octets concluded = concluded
reply_octets (information pdu) = information pdu.octets

-- a number of 8 bits
abbrev pub IsOctet : List ℕ → ℕ → Type 0
IsOctet content n = IsUint content n × (n < 256)

-- ConfirmedServiceResponse: one element
abbrev pub IsService : List ℕ → ℕ → List ℕ → Type 0
IsService octets tag body = (e : Element) × Spells octets e × (e.tag ≡ tag) × (e.content ≡ body) × IsAnswerBody tag body

-- ServiceError, whose errorClass is a choice: the number of its tag is the class, what it holds the code
abbrev pub IsServiceError : List ℕ → ℕ → ℕ → Type 0
IsServiceError octets class code = (e k f : Element) × Spells octets e × (e.tag ≡ SERVICE_ERROR) × IsRow e.content (k ∷ []) × (k.tag ≡ ERROR_CLASS) × IsRow k.content (f ∷ []) × (class < 256) × (f.tag ≡ class_tag class) × IsOctet f.content code

-- rejectReason, a choice: 0x81 confirmed-requestPDU to 0x8b conclude-errorPDU
abbrev pub IsReason : List ℕ → ℕ → Type 0
IsReason octets code = (e : Element) × Spells octets e × (0x81 ≤ e.tag) × (e.tag ≤ 0x8b) × IsOctet e.content code

-- what is sent, by the tag of its PDU; conclude-ResponsePDU is a NULL
abbrev pub IsReplyOf : List ℕ → Element → Reply (List ℕ) → Type 0
IsReplyOf input e (answer invoke tag body) = (e.tag ≡ CONFIRMED_RESPONSE) × (rest : List ℕ) × IsNumbered INVOKE_ID e.content invoke rest × IsService rest tag body
IsReplyOf input e (error invoke class code) = (e.tag ≡ CONFIRMED_ERROR) × (rest : List ℕ) × IsNumbered ORIGINAL_INVOKE_ID e.content invoke rest × IsServiceError rest class code
IsReplyOf input e (reject (Some invoke) code) = (e.tag ≡ REJECT) × (rest : List ℕ) × IsNumbered ORIGINAL_INVOKE_ID e.content invoke rest × IsReason rest code
IsReplyOf input e (reject None code) = (e.tag ≡ REJECT) × IsReason e.content code
IsReplyOf input e concluded = (e.tag ≡ CONCLUDE_RESPONSE) × (e.content ≡ [])
IsReplyOf input e (information pdu) = (e.tag ≡ UNCONFIRMED) × (pdu ≡ input)

-- the octets are one element, and that is the PDU
abbrev pub IsReply : List ℕ → Reply (List ℕ) → Type 0
IsReply input r = (e : Element) × Spells input e × IsReplyOf input e r

-- ---- what is refused

-- the tags of those
abbrev pub is_sent : ℕ → Bool
is_sent tag = tag == CONFIRMED_RESPONSE || tag == CONFIRMED_ERROR || tag == UNCONFIRMED || tag == REJECT || tag == CONCLUDE_RESPONSE

-- after the invoke number stands what is not of the form
abbrev pub IsMalformed : Element → ℕ → Type 0
IsMalformed e invoke = (rest : List ℕ) × (((e.tag ≡ CONFIRMED_RESPONSE) × IsNumbered INVOKE_ID e.content invoke rest × ((tag : ℕ) (body : List ℕ) → ¬ IsService rest tag body))
    ⊎ ((e.tag ≡ CONFIRMED_ERROR) × IsNumbered ORIGINAL_INVOKE_ID e.content invoke rest × ((class code : ℕ) → ¬ IsServiceError rest class code))
    ⊎ ((e.tag ≡ REJECT) × IsNumbered ORIGINAL_INVOKE_ID e.content invoke rest × ((code : ℕ) → ¬ IsReason rest code)))

-- there is no invoke number, nor a reason without one, or the PDU is none that a server sends
abbrev pub IsUnusable : Element → Type 0
IsUnusable e = ((e.tag ≡ CONFIRMED_RESPONSE) × ((invoke : ℕ) (rest : List ℕ) → ¬ IsNumbered INVOKE_ID e.content invoke rest))
    ⊎ ((e.tag ≡ CONFIRMED_ERROR) × ((invoke : ℕ) (rest : List ℕ) → ¬ IsNumbered ORIGINAL_INVOKE_ID e.content invoke rest))
    ⊎ ((e.tag ≡ REJECT) × ((invoke : ℕ) (rest : List ℕ) → ¬ IsNumbered ORIGINAL_INVOKE_ID e.content invoke rest) × ((code : ℕ) → ¬ IsReason e.content code))
    ⊎ ((e.tag ≡ CONCLUDE_RESPONSE) × (e.content ≢ []))
    ⊎ (is_sent e.tag ≡ false)

abbrev pub IsReplyRefused : List ℕ → PduFault → Type 0
IsReplyRefused input UnknownPdu = (a : ℕ) × (rest : List ℕ) × (input ≡ a ∷ rest) × (is_pdu a ≡ false)
IsReplyRefused input (Argument invoke) = (e : Element) × Spells input e × IsMalformed e invoke
IsReplyRefused input Invalid = MayBegin is_pdu input × (((e : Element) → ¬ Spells input e) ⊎ ((e : Element) × Spells input e × IsUnusable e))
-- no other refusal is of what a server sends
IsReplyRefused input (UnknownService invoke) = ⊥
IsReplyRefused input (SmallSize size) = ⊥
