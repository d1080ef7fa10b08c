-- Reading what a server sends, from left to right.
use Rattle.std.specs.Prelude.{ℕ, ◌-◌, ◌==◌, ◌&&◌, nat_le, List, length, Option, Some, None, Result, Ok, Err, if◌then◌else◌}
use Rattle.ber_grammar.specs.Place.{Spot, Piece, content_piece}
use Rattle.ber_grammar.specs.Reader.{◌>>=◌, and_then}
use Rattle.mms_elements.specs.declared.fault.PduFault.{PduFault}
use Rattle.mms_elements.specs.declared.fault.PduFault.TheVariants.{UnknownPdu, Argument, Invalid}
use Rattle.ber_grammar.specs.Fields.{only_in, whole_at, whole_in}
use Rattle.mms_elements.specs.Invoke.{below_at}
use Rattle.mms_pdu.specs.Request.{is_pdu, may_begin, or_fault}
use Rattle.mms_elements.specs.Tagged.{numbered_in}
use Rattle.mms_pdu.specs.Answer.{is_answer_body}
use Rattle.mms_pdu.specs.Reply.{Reply, answer, error, reject, concluded, information}
use Rattle.mms_elements.specs.declared.tags.TheConstants.{CONCLUDE_RESPONSE, CONFIRMED_ERROR, CONFIRMED_RESPONSE, ERROR_CLASS, INVOKE_ID, ORIGINAL_INVOKE_ID, REJECT, SERVICE_ERROR, UNCONFIRMED}

-- the tag and the content of the service's element
unfoldable pub service_in : Piece → Option (ℕ × Piece)
service_in p = and_then (whole_in p) (λ s. if is_answer_body s.element.tag (content_piece s) then Some (s.element.tag, content_piece s) else None)

unfoldable pub answer_in : Piece → Result (Reply Piece) PduFault
answer_in p = do
  x ← or_fault (numbered_in INVOKE_ID p) Invalid
  s ← or_fault (service_in x.1) (Argument x.0)
  Ok (answer x.0 s.0 s.1)

-- the number of a tag of the context class that is spelled in the fewest octets, where it is below 256
abbrev pub class_at : ℕ → Option ℕ
class_at tag =
    if nat_le 0x80 tag && nat_le tag 0x9e then Some (tag - 0x80)
    else if nat_le 0x9f1f tag && nat_le tag 0x9f7f then Some (tag - 0x9f00)
    else if nat_le 0x9f8100 tag && nat_le tag 0x9f817f then Some (tag - 0x9f8080)
    else None

-- the class and the code
abbrev pub class_in : Spot → Option (ℕ × ℕ)
class_in s = and_then (class_at s.element.tag) (λ class. and_then (below_at 256 s.element.content) (λ code. Some (class, code)))

abbrev pub error_class_in : Spot → Option (ℕ × ℕ)
error_class_in s = if s.element.tag == ERROR_CLASS then and_then (only_in (content_piece s)) class_in else None

unfoldable pub service_error_in : Piece → Option (ℕ × ℕ)
service_error_in p = and_then (whole_in p) (λ s. if s.element.tag == SERVICE_ERROR then and_then (only_in (content_piece s)) error_class_in else None)

unfoldable pub error_in : Piece → Result (Reply Piece) PduFault
error_in p = do
  x ← or_fault (numbered_in ORIGINAL_INVOKE_ID p) Invalid
  f ← or_fault (service_error_in x.1) (Argument x.0)
  Ok (error x.0 f.0 f.1)

unfoldable pub reason_at : List ℕ → Option ℕ
reason_at octets = and_then (whole_at octets) (λ e. if nat_le 0x81 e.tag && nat_le e.tag 0x8b then below_at 256 e.content else None)

abbrev pub rejected : Piece → Option (ℕ × Piece) → Result (Reply Piece) PduFault
rejected p None = or_fault (reason_at p.octets) Invalid >>= λ code. Ok (reject None code)
rejected p (Some x) = or_fault (reason_at x.1.octets) (Argument x.0) >>= λ code. Ok (reject (Some x.0) code)

unfoldable pub reject_in : Piece → Result (Reply Piece) PduFault
reject_in p = rejected p (numbered_in ORIGINAL_INVOKE_ID p)

-- the PDU that the octets are, by its element
unfoldable pub pdu_in : Piece → Spot → Result (Reply Piece) PduFault
pdu_in p s =
    if s.element.tag == CONFIRMED_RESPONSE then answer_in (content_piece s)
    else if s.element.tag == CONFIRMED_ERROR then error_in (content_piece s)
    else if s.element.tag == UNCONFIRMED then Ok (information p)
    else if s.element.tag == REJECT then reject_in (content_piece s)
    else if s.element.tag == CONCLUDE_RESPONSE then (if length s.element.content == 0 then Ok concluded else Err Invalid)
    else Err Invalid

unfoldable pub reply_in : Piece → Result (Reply Piece) PduFault
reply_in p = if may_begin is_pdu p.octets then (or_fault (whole_in p) Invalid >>= pdu_in p) else Err UnknownPdu
