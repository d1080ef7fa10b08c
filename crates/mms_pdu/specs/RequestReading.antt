-- Reading a request from left to right, with the first fault that is met, and with where names and Data lie.
use Rattle.std.specs.Prelude.{ℕ, ◌+◌, ◌-◌, ◌^◌, List, length, Option, Some, None, Result, Ok, Err, ◌==◌, if◌then◌else◌}
use Rattle.ber_grammar.specs.Place.{Spot, Piece, content_piece}
use Rattle.ber_grammar.specs.Reader.{and_then, kept}
use Rattle.ber_grammar.specs.Reading.{first_at}
use Rattle.sv_base.specs.Tree.{Seen}
use Rattle.mms_elements.specs.declared.fault.PduFault.{PduFault}
use Rattle.mms_elements.specs.declared.fault.PduFault.TheVariants as faults
use Rattle.ber_grammar.specs.Fields.{only_in}
use Rattle.mms_elements.specs.Invoke.{below_at}
use Rattle.mms_pdu.specs.Services.{is_service, service_at}
use Rattle.mms_pdu.specs.Request.{Request, confirmed, conclude, disregarded, request_octets, is_disregarded, is_pdu, may_begin, or_fault}
use Rattle.mms_elements.specs.declared.tags.TheConstants.{CONCLUDE_REQUEST, CONFIRMED_REQUEST, INVOKE_ID}

-- the octets after a piece's first element
abbrev pub behind : Piece → List ℕ → Piece
behind p rest = record { octets = rest; block = p.block; place = p.place + (length p.octets - length rest) }

-- the invoke number, and the octets of the service
unfoldable pub invoke_in : Piece → Option (ℕ × Piece)
invoke_in p = and_then (kept (first_at p.octets)) (λ first. if first.0.tag == INVOKE_ID then and_then (below_at (2 ^ 32) first.0.content) (λ invoke. Some (invoke, behind p first.1)) else None)

unfoldable pub service_in : ℕ → Piece → Result (Request Piece Spot) PduFault
service_in invoke p =
    if may_begin is_service p.octets
    then or_fault (and_then (and_then (only_in p) service_at) (λ s. Some (confirmed invoke s))) (faults.Argument invoke)
    else Err (faults.UnknownService invoke)

abbrev pub invoked : Option (ℕ × Piece) → Result (Request Piece Spot) PduFault
invoked (Some x) = service_in x.0 x.1
invoked None = Err faults.Invalid

unfoldable pub pdu_at : Spot → Result (Request Piece Spot) PduFault
pdu_at s =
    if s.element.tag == CONFIRMED_REQUEST then invoked (invoke_in (content_piece s))
    else if s.element.tag == CONCLUDE_REQUEST then (if length s.element.content == 0 then Ok conclude else Err faults.Invalid)
    else if is_disregarded s.element.tag then Ok disregarded
    else Err faults.Invalid

abbrev pub whole : Option Spot → Result (Request Piece Spot) PduFault
whole (Some s) = pdu_at s
whole None = Err faults.Invalid

-- what is asked, with where it lies
unfoldable pub request_in : Piece → Result (Request Piece Spot) PduFault
request_in p = if may_begin is_pdu p.octets then whole (only_in p) else Err faults.UnknownPdu

abbrev pub without_places : Result (Request Piece Spot) PduFault → Result (Request (List ℕ) Seen) PduFault
without_places (Ok r) = Ok (request_octets r)
without_places (Err f) = Err f

-- what is asked
unfoldable pub request_at : List ℕ → Result (Request (List ℕ) Seen) PduFault
request_at input = without_places (request_in (record { octets = input; block = 0; place = 0 }))
