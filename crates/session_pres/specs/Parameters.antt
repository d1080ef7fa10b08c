-- The parameters of an SPDU (ISO 8327-1, "Structure of SPDUs"): each is a code, a length and a value.
use Rattle.std.specs.Prelude.{◌≡◌, ℕ, ◌+◌, ◌*◌, ◌<◌, ◌≤◌, List, [], ◌∷◌, ◌++◌, length, Option, Some, None, ◌==◌, if◌then◌else◌}
use Rattle.std.specs.List.{AllByRecursion}
use Rattle.ber_grammar.specs.Place.{Piece}
use Rattle.ber_grammar.specs.Reader.{first_of_two}
use Rattle.session_pres.specs.declared.codes.TheConstants.{CONNECT_ACCEPT_ITEM, USER_DATA}
use Rattle.session_pres.specs.Places.{IsPart}

-- A length up to 254 is one octet, and one above is 255 and two octets.
abbrev pub IsLength : List ℕ → ℕ → Type 0
IsLength [] n = ⊥
IsLength (a ∷ []) n = (a < 255) × (n ≡ a)
IsLength (a ∷ b ∷ []) n = ⊥
IsLength (a ∷ b ∷ c ∷ []) n = (a ≡ 255) × (n ≡ b * 256 + c) × (255 ≤ n)
IsLength (a ∷ b ∷ c ∷ d ∷ more) n = ⊥

pub record Parameter : Type 0 where
  pub code : ℕ
  pub value : Piece

-- the input is this parameter, and then the rest
pub record BeginsWith (input : Piece) (p : Parameter) (rest : Piece) : Type 0 where
  pub len : List ℕ
  pub is_length : IsLength len (length p.value.octets)
  pub whole : input.octets ≡ p.code ∷ (len ++ (p.value.octets ++ rest.octets))
  pub value : IsPart input (length len + 1) p.value
  pub after : IsPart input (length len + 1 + length p.value.octets) rest

-- the input is these parameters, one after another
abbrev pub AreParameters : Piece → List Parameter → Type 0
AreParameters input [] = input.octets ≡ []
AreParameters input (p ∷ ps) = (rest : Piece) × BeginsWith input p rest × AreParameters rest ps

-- The connect/accept item is a group: its value is parameters too.
abbrev pub IsCut : Parameter → Type 0
IsCut p = p.code ≡ CONNECT_ACCEPT_ITEM → (inner : List Parameter) × AreParameters p.value inner

-- the value of the last parameter of this code
abbrev pub last_of : ℕ → List Parameter → Option Piece
last_of code [] = None
last_of code (p ∷ ps) = first_of_two (last_of code ps) (if p.code == code then Some p.value else None)

-- The parameters' user data: of a repeated one the last counts, and parameters of other codes are skipped.
abbrev pub IsUserOf : Piece → Option Piece → Type 0
IsUserOf input user = (ps : List Parameter) × AreParameters input ps × AllByRecursion IsCut ps × (user ≡ last_of USER_DATA ps)
