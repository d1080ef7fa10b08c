-- SPDUs (ISO 8327-1, "SPDU identifiers and associated parameter fields").
use Rattle.std.specs.Prelude.{◌≡◌, ℕ, ◌+◌, Bool, true, false, List, [], ◌∷◌, ◌++◌, length, Option, Some, ◌⊎◌, ◌==◌}
use Rattle.ber_grammar.specs.Place.{Piece}
use Rattle.session_pres.specs.declared.codes.TheConstants.{FINISH, CONNECT, ABORT, GIVE_TOKENS, DATA_TRANSFER}
use Rattle.session_pres.specs.declared.fault.SpFault.{SpFault}
use Rattle.session_pres.specs.declared.fault.SpFault.TheVariants as faults
use Rattle.ber_grammar.specs.Steps.{Then, Or, Else, IsLacking}
use Rattle.session_pres.specs.Places.{IsPart}
use Rattle.session_pres.specs.Parameters.{IsLength, IsUserOf}

-- A code, a length that counts all that follows it, and the parameters.
pub record IsUnit (code : ℕ) (input parameters : Piece) : Type 0 where
  pub len : List ℕ
  pub is_length : IsLength len (length parameters.octets)
  pub whole : input.octets ≡ code ∷ (len ++ parameters.octets)
  pub place : IsPart input (length len + 1) parameters

-- an SPDU of this code, with the user data that it has, or none
abbrev pub HasUser : ℕ → Piece → Option Piece → Type 0
HasUser code input = Then (IsUnit code input) IsUserOf

abbrev pub IsUserRefused : ℕ → Piece → SpFault → Type 0
IsUserRefused code input = Else faults.Spdu (IsUnit code input) (λ parameters. IsLacking faults.Parameter (IsUserOf parameters))

-- an SPDU of this code that must have user data
abbrev pub HasData : ℕ → Piece → Piece → Type 0
HasData code input = Then (HasUser code input) (λ user given. user ≡ Some given)

abbrev pub IsDataRefused : ℕ → Piece → SpFault → Type 0
IsDataRefused code input = Or (IsUserRefused code input) (HasUser code input) (λ user. IsLacking faults.Parameter (λ (given : Piece). user ≡ Some given))

-- what an SPDU brings to the side that was called
pub data Seen : Type 0 where
  connect : Piece → Seen
  transfer : Piece → Seen
  finish : Option Piece → Seen
  abort : Seen

-- An empty GIVE TOKENS and an empty DATA TRANSFER, each of them its code and 0, stand in front of the data.
abbrev pub IsTransfer : Piece → Piece → Type 0
IsTransfer input user = (input.octets ≡ GIVE_TOKENS ∷ 0 ∷ DATA_TRANSFER ∷ 0 ∷ user.octets) × IsPart input 4 user

-- Each brings its user data; an ABORT that it may have says nothing.
abbrev pub IsSpdu : Piece → Seen → Type 0
IsSpdu input (connect user) = HasData CONNECT input user
IsSpdu input (transfer user) = IsTransfer input user
IsSpdu input (finish user) = HasUser FINISH input user
IsSpdu input abort = (user : Option Piece) × HasUser ABORT input user

abbrev pub begins : ℕ → List ℕ → Bool
begins code [] = false
begins code (a ∷ rest) = a == code

abbrev pub HasCode : ℕ → Piece → Type 0
HasCode code input = begins code input.octets ≡ true

-- An SPDU of one of these codes is refused, or it has another code and brings no data.
abbrev pub IsSpduRefused : Piece → SpFault → Type 0
IsSpduRefused input f = (HasCode CONNECT input × IsDataRefused CONNECT input f)
    ⊎ (HasCode FINISH input × IsUserRefused FINISH input f)
    ⊎ (HasCode ABORT input × IsUserRefused ABORT input f)
    ⊎ ((f ≡ faults.Spdu) × ¬ HasCode CONNECT input × ¬ HasCode FINISH input × ¬ HasCode ABORT input × ((user : Piece) → ¬ IsTransfer input user))
