-- ISO 9506-2, MMSpdu: what a client may send once it is connected.
use Rattle.std.specs.Prelude.{◌≡◌, ◌≢◌, ℕ, Bool, true, false, ◌||◌, List, [], ◌∷◌, Option, Some, None, Result, Ok, Err, ◌⊎◌, ◌==◌}
use Rattle.ber_grammar.specs.Element.{Element, Spells}
use Rattle.ber_grammar.specs.Place.{Spot, Piece}
use Rattle.sv_base.specs.Tree.{Seen}
use Rattle.mms_elements.specs.declared.fault.PduFault.{PduFault}
use Rattle.mms_elements.specs.declared.fault.PduFault.TheVariants as faults
use Rattle.mms_elements.specs.Invoke.{IsInvoked}
use Rattle.mms_pdu.specs.Service.{Service, service_octets}
use Rattle.mms_pdu.specs.Services.{IsService, is_service}
use Rattle.mms_elements.specs.declared.tags.TheConstants.{CONCLUDE_REQUEST, CONCLUDE_RESPONSE, CONFIRMED_ERROR, CONFIRMED_REQUEST, CONFIRMED_RESPONSE, INITIATE_REQUEST, INITIATE_RESPONSE, REJECT, UNCONFIRMED}

pub data Request (N D : Type 0) : Type 0 where
  -- a confirmed service, by its invoke number
  confirmed : ℕ → Service N D → Request N D
  conclude : Request N D
  -- a PDU that a client doesn't ask with
  disregarded : Request N D

abbrev pub request_octets : Request Piece Spot → Request (List ℕ) Seen
request_octets (confirmed invoke s) = confirmed invoke (service_octets s)
request_octets conclude = conclude
request_octets disregarded = disregarded

-- a PDU with which a client asks nothing
abbrev pub is_disregarded : ℕ → Bool
is_disregarded tag = tag == CONFIRMED_RESPONSE || tag == CONFIRMED_ERROR || tag == UNCONFIRMED || tag == REJECT || tag == INITIATE_RESPONSE || tag == CONCLUDE_RESPONSE

-- the first octet of a PDU: of those, and of the three with which a client asks something
abbrev pub is_pdu : ℕ → Bool
is_pdu a = is_disregarded a || a == CONFIRMED_REQUEST || a == CONCLUDE_REQUEST || a == INITIATE_REQUEST

-- ---- the grammar

abbrev pub IsRequest : List ℕ → Request (List ℕ) Seen → Type 0
IsRequest input (confirmed invoke service) = (e : Element) × Spells input e × (e.tag ≡ CONFIRMED_REQUEST) × (rest : List ℕ) × IsInvoked e.content invoke rest × (s : Element) × Spells rest s × IsService s service
IsRequest input conclude = (e : Element) × Spells input e × (e.tag ≡ CONCLUDE_REQUEST) × (e.content ≡ [])
IsRequest input disregarded = (e : Element) × Spells input e × (is_disregarded e.tag ≡ true)

-- the octets begin with one for which this is true, or there is none
abbrev pub MayBegin : (ℕ → Bool) → List ℕ → Type 0
MayBegin test [] = Unit {0}
MayBegin test (a ∷ rest) = test a ≡ true

-- whether they do
abbrev pub may_begin : (ℕ → Bool) → List ℕ → Bool
may_begin test [] = true
may_begin test (a ∷ rest) = test a

-- the element is no PDU that may come here
abbrev pub IsOutOfPlace : Element → Type 0
IsOutOfPlace e = (e.tag ≡ INITIATE_REQUEST) ⊎ ((e.tag ≡ CONCLUDE_REQUEST) × (e.content ≢ []))
    -- no invoke number begins it
    ⊎ ((e.tag ≡ CONFIRMED_REQUEST) × ((invoke : ℕ) (rest : List ℕ) → ¬ IsInvoked e.content invoke rest))

-- What the input is where it is refused, by its first octet, its length, and the fields from the left.
abbrev pub IsRequestRefused : List ℕ → PduFault → Type 0
IsRequestRefused input faults.UnknownPdu = (a : ℕ) × (rest : List ℕ) × (input ≡ a ∷ rest) × (is_pdu a ≡ false)
-- it is not one whole element, or one that is out of place
IsRequestRefused input faults.Invalid = MayBegin is_pdu input × (((e : Element) → ¬ Spells input e) ⊎ ((e : Element) × Spells input e × IsOutOfPlace e))
-- after the invoke number stands an octet of no service
IsRequestRefused input (faults.UnknownService i) = (e : Element) × Spells input e × (e.tag ≡ CONFIRMED_REQUEST) × (a : ℕ) × (rest : List ℕ) × IsInvoked e.content i (a ∷ rest) × (is_service a ≡ false)
-- after the invoke number stand octets that are not one service
IsRequestRefused input (faults.Argument i) = (e : Element) × Spells input e × (e.tag ≡ CONFIRMED_REQUEST) × (rest : List ℕ) × IsInvoked e.content i rest × MayBegin is_service rest
    × ((s : Element) (service : Service (List ℕ) Seen) → Spells rest s → ¬ IsService s service)
-- no other refusal is of a request
IsRequestRefused input (faults.SmallSize n) = ⊥

-- what is there, or the fault of what is not
abbrev pub or_fault : {A : Type 0} → Option A → PduFault → Result A PduFault
or_fault (Some x) fault = Ok x
or_fault None fault = Err fault
