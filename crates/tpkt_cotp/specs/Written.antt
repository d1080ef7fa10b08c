-- How TPDUs are written: each has one spelling (ISO 8073, "Structure and encoding of TPDUs").
use Rattle.std.specs.Prelude.{◌≡◌, ℕ, zero, suc, ◌+◌, ◌-◌, ◌/◌, ◌%◌, ◌^◌, ◌<◌, ◌≤◌, List, [], ◌∷◌, ◌++◌, length, take, drop, min, Option, Some, None, ◌⊎◌, MatchOption}
use Rattle.std.specs.List.{flat_map}
use Rattle.tpkt_cotp.specs.declared.codes.TheConstants.{CR, CC, DT, TPDU_SIZE, CALLING, CALLED, END_OF_TSDU}
use Rattle.tpkt_cotp.specs.declared.tsdus.Cr.{Cr}
use Rattle.tpkt_cotp.specs.declared.tsdus.Tsdu.{Tsdu}
use Rattle.tpkt_cotp.specs.declared.tsdus.Tsdu.TheVariants.{Connect, Data, Disconnect}
use Rattle.tpkt_cotp.specs.Packet.{packet}

-- ---- a connection

abbrev pub size_parameter : Option ℕ → List ℕ
size_parameter None = []
size_parameter (Some e) = TPDU_SIZE ∷ 1 ∷ e ∷ []

abbrev pub selector : ℕ → Option (List ℕ) → List ℕ
selector code None = []
selector code (Some value) = code ∷ length value ∷ value

-- the TPDU size, then the called selector, then the calling one, each where it was said
abbrev pub parameters_for : Cr → List ℕ
parameters_for cr = size_parameter cr.size ++ (selector CALLED cr.called ++ selector CALLING cr.calling)

-- Some CR says this: the exponent of its TPDU size is 7 to 13, and LI can count its parameters.
abbrev pub IsCr : Cr → Type 0
IsCr cr = MatchOption cr.size (Unit {0}) (λ e. (7 ≤ e) × (e ≤ 13)) × (length (parameters_for cr) ≤ 249)

-- what can be given: what a CC can confirm, and a TSDU within the limit
abbrev pub Fits : Tsdu → Type 0
Fits (Connect cr) = IsCr cr
Fits (Data octets) = length octets ≤ 70000
Fits Disconnect = Unit {0}

-- a CR or a CC of class 0
abbrev pub connection : ℕ → ℕ → ℕ → List ℕ → List ℕ
connection code dst src parameters = (6 + length parameters) ∷ code ∷ dst / 256 ∷ dst % 256 ∷ src / 256 ∷ src % 256 ∷ 0 ∷ parameters

-- the CC for what a CR said, in its TPKT
unfoldable pub confirm_of : Cr → List ℕ
confirm_of cr = packet (connection CC cr.src 1 (parameters_for cr))

-- what that CC says: the reference of this side, and the rest as the CR had it
abbrev pub confirmed : Cr → Cr
confirmed cr = record { src = 1; size = cr.size; calling = cr.calling; called = cr.called }

-- what a CR says that is written
abbrev pub called_with : ℕ → Cr
called_with src = record { src = src; size = Some 13; calling = Some (0 ∷ 1 ∷ []); called = Some (0 ∷ 1 ∷ []) }

-- the CR of this reference, in its TPKT
unfoldable pub call_of : ℕ → List ℕ
call_of src = packet (connection CR 0 src (parameters_for (called_with src)))

-- ---- a TSDU

abbrev pub IsExponent : ℕ → Type 0
IsExponent e = ((7 ≤ e) × (e ≤ 13)) ⊎ (e ≡ 16)

-- How many octets of data a DT has at most: the TPDU with its three header octets has two to the exponent, and no more
-- than the 65531 that a TPKT can hold.
abbrev pub room : ℕ → ℕ
room e = min (2 ^ e) 65531 - 3

-- The DTs of a TSDU: each but the last has as many octets as there is capacity for, and something follows it; the last has
-- the end bit.
abbrev pub AreSegments : ℕ → List ℕ → List (List ℕ) → Type 0
AreSegments most octets [] = ⊥
AreSegments most octets (tpdu ∷ []) = (length octets ≤ most) × (tpdu ≡ 2 ∷ DT ∷ END_OF_TSDU ∷ octets)
AreSegments most octets (tpdu ∷ next ∷ more) = (front rest : List ℕ) × (octets ≡ front ++ rest) × (length front ≡ most) × (0 < length rest) × (tpdu ≡ 2 ∷ DT ∷ 0 ∷ front) × AreSegments most rest (next ∷ more)

-- n DTs, and the last
abbrev pub segments_at : ℕ → ℕ → List ℕ → List (List ℕ)
segments_at zero most octets = (2 ∷ DT ∷ END_OF_TSDU ∷ octets) ∷ []
segments_at (suc n) most octets = (2 ∷ DT ∷ 0 ∷ take most octets) ∷ segments_at n most (drop most octets)

unfoldable pub segments_of : ℕ → List ℕ → List (List ℕ)
segments_of most octets = segments_at ((length octets - 1) / most) most octets

-- the DTs of a TSDU in their TPKTs
unfoldable pub tsdu_of : ℕ → List ℕ → List ℕ
tsdu_of e octets = flat_map packet (segments_of (room e) octets)
