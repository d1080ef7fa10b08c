-- Reading an APDU from left to right.
use Rattle.std.specs.Prelude.{ℕ, List, Result, Ok, Err, if◌then◌else◌}
use Rattle.ber_grammar.specs.Place.{Piece, anywhere}
use Rattle.ber_grammar.specs.Reader.{◌>>=◌}
use Rattle.ber_grammar.specs.Steps.{required}
use Rattle.acse_apdu.specs.declared.codes.TheConstants.{AARQ, AARE, RLRQ, RLRE}
use Rattle.acse_apdu.specs.declared.fault.AcFault.{AcFault}
use Rattle.acse_apdu.specs.declared.fault.AcFault.TheVariants.{Apdu, ContextName, NoUserInformation}
use Rattle.acse_apdu.specs.Apdu.{apdu_at}
use Rattle.acse_apdu.specs.Contents.{names_mms, is_accepted, pdu_at}

-- what the content of an AARQ or of an AARE that accepts carries
abbrev pub association_at : Piece → Result Piece AcFault
association_at content = if names_mms content then required NoUserInformation (pdu_at content) else Err ContextName

unfoldable pub aarq_at : Piece → Result Piece AcFault
aarq_at input = required Apdu (apdu_at AARQ input) >>= λ content. association_at content

unfoldable pub aare_at : Piece → Result Piece AcFault
aare_at input = required Apdu (apdu_at AARE input) >>= λ content. if is_accepted content then association_at content else Err Apdu

-- an RLRQ or an RLRE, by its tag
unfoldable pub release_at : ℕ → Piece → Result (Unit {0}) AcFault
release_at tag input = required Apdu (apdu_at tag input) >>= λ content. Ok tt

-- ---- the octets alone, wherever they lie

abbrev pub octets_in : Result Piece AcFault → Result (List ℕ) AcFault
octets_in r = r >>= λ p. Ok p.octets

unfoldable pub pdu_of_aarq : List ℕ → Result (List ℕ) AcFault
pdu_of_aarq octets = octets_in (aarq_at (anywhere octets))

unfoldable pub pdu_of_aare : List ℕ → Result (List ℕ) AcFault
pdu_of_aare octets = octets_in (aare_at (anywhere octets))

unfoldable pub rlrq_of : List ℕ → Result (Unit {0}) AcFault
rlrq_of octets = release_at RLRQ (anywhere octets)

unfoldable pub rlre_of : List ℕ → Result (Unit {0}) AcFault
rlre_of octets = release_at RLRE (anywhere octets)
