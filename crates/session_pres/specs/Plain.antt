-- What readers find, as octets alone, wherever these lie in memory.
use Rattle.std.specs.Prelude.{ℕ, Bool, List, Option, Result, Ok}
use Rattle.std.specs.Option.{option_map}
use Rattle.std.specs.Borrow.{Bor}
use Rattle.ber_grammar.specs.Place.{Piece, piece, anywhere}
use Rattle.ber_grammar.specs.Reader.{◌>>=◌}
use Rattle.session_pres.specs.declared.codes.TheConstants.{DISCONNECT}
use Rattle.session_pres.specs.declared.fault.SpFault.{SpFault}
use Rattle.session_pres.specs.declared.fault.SpFault.TheVariants as faults
use Rattle.session_pres.specs.declared.spdu.Spdu.{Spdu}
use Rattle.session_pres.specs.declared.presentation.Cp.{Cp}
use Rattle.ber_grammar.specs.Steps.{required}
use Rattle.session_pres.specs.Units.{Seen, connect, transfer, finish, abort}
use Rattle.session_pres.specs.UnitReading.{user_of, spdu_at}
use Rattle.session_pres.specs.UserData.{user_data_at}
use Rattle.session_pres.specs.Presentation.{Request}
use Rattle.session_pres.specs.PresentationReading.{cp_at, ac_at}
use Rattle.session_pres.specs.View.{seen, request_of}

abbrev pub octets : Piece → List ℕ
octets part = part.octets

-- what an SPDU brings
pub data Told : Type 0 where
  connects : List ℕ → Told
  transfers : List ℕ → Told
  finishes : Option (List ℕ) → Told
  aborts : Told

abbrev pub told : Seen → Told
told (connect user) = connects user.octets
told (transfer user) = transfers user.octets
told (finish user) = finishes (option_map octets user)
told abort = aborts

-- what a CP asks for
pub record Asked : Type 0 where
  pub acse : ℕ
  pub mms : ℕ
  pub list : List Bool
  pub user : List ℕ

abbrev pub asked : Request → Asked
asked r = record { acse = r.acse; mms = r.mms; list = r.list; user = r.user.octets }

abbrev pub pdv_octets : ℕ × Piece → ℕ × List ℕ
pdv_octets x = (x.0, x.1.octets)

-- ---- reading

unfoldable pub spdu_from : List ℕ → Result Told SpFault
spdu_from input = spdu_at (anywhere input) >>= λ spdu. Ok (told spdu)

unfoldable pub cp_from : List ℕ → Result Asked SpFault
cp_from input = cp_at (anywhere input) >>= λ cp. Ok (asked cp)

unfoldable pub ac_from : List ℕ → Result (List ℕ) SpFault
ac_from input = ac_at (anywhere input) >>= λ apdu. Ok apdu.octets

unfoldable pub dn_from : List ℕ → Result (Option (List ℕ)) SpFault
dn_from input = user_of DISCONNECT (anywhere input) >>= λ user. Ok (option_map octets user)

unfoldable pub pdv_from : List ℕ → Result (ℕ × List ℕ) SpFault
pdv_from input = required faults.Pdv (user_data_at (anywhere input)) >>= λ pdv. Ok (pdv_octets pdv)

-- ---- the program's values

abbrev pub brought : Spdu → Told
brought spdu = told (seen spdu)

abbrev pub user_now : Option (Bor (List ℕ)) → Option (List ℕ)
user_now user = option_map octets (option_map piece user)

abbrev pub asked_of : Cp → Asked
asked_of cp = asked (request_of cp)

abbrev pub pdv_now : ℕ × Bor (List ℕ) → ℕ × List ℕ
pdv_now x = (x.0, x.1.now)
