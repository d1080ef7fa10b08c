-- Reading the parameters of an SPDU from left to right.
use Rattle.std.specs.Prelude.{ℕ, zero, suc, ◌+◌, ◌*◌, Bool, true, List, [], ◌∷◌, ◌&&◌, length, Option, Some, None, is_some, nat_lt, ◌==◌, if◌then◌else◌}
use Rattle.std.specs.Option.{option_map}
use Rattle.ber_grammar.specs.Place.{Piece}
use Rattle.ber_grammar.specs.Reader.{and_then}
use Rattle.session_pres.specs.declared.codes.TheConstants.{CONNECT_ACCEPT_ITEM, USER_DATA}
use Rattle.session_pres.specs.Places.{front, behind}
use Rattle.ber_grammar.specs.Reader.{first_of_two}
use Rattle.session_pres.specs.Parameters.{Parameter, last_of}

-- a length, and how many octets it takes
unfoldable pub length_at : List ℕ → Option (ℕ × ℕ)
length_at [] = None
length_at (a ∷ []) = if nat_lt a 255 then Some (a, 1) else None
length_at (a ∷ b ∷ []) = if nat_lt a 255 then Some (a, 1) else None
length_at (a ∷ b ∷ c ∷ rest) = if nat_lt a 255 then Some (a, 1) else if a == 255 then (if nat_lt (b * 256 + c) 255 then None else Some (b * 256 + c, 3)) else None

-- a parameter's code, how many octets stand before its value, and how many the value has
unfoldable pub head_at : List ℕ → Option (ℕ × ℕ × ℕ)
head_at [] = None
head_at (code ∷ rest) = and_then (length_at rest) (λ len. if nat_lt (length rest) (len.1 + len.0) then None else Some (code, len.1 + 1, len.0))

unfoldable pub parameter_at : Piece → Option (Parameter × Piece)
parameter_at input = option_map (λ h. (record { code = h.0; value = front h.2 (behind h.1 input) }, behind (h.1 + h.2) input)) (head_at input.octets)

-- The number bounds how many; none is met where it is above the number of octets.
unfoldable pub bounded_parameters : ℕ → Piece → Option (List Parameter)
bounded_parameters zero input = None
bounded_parameters (suc n) input = if length input.octets == 0 then Some [] else and_then (parameter_at input) (λ x. and_then (bounded_parameters n x.1) (λ ps. Some (x.0 ∷ ps)))

unfoldable pub parameters_at : Piece → Option (List Parameter)
parameters_at input = bounded_parameters (suc (length input.octets)) input

abbrev pub is_cut : Parameter → Bool
is_cut p = if p.code == CONNECT_ACCEPT_ITEM then is_some (parameters_at p.value) else true

abbrev pub all_cut : List Parameter → Bool
all_cut [] = true
all_cut (p ∷ ps) = is_cut p && all_cut ps

-- the user data, with one parameter more
abbrev pub if_user : Parameter → Option Piece → Option Piece
if_user p user = first_of_two (if p.code == USER_DATA then Some p.value else None) user

unfoldable pub user_at : Piece → Option (Option Piece)
user_at input = and_then (parameters_at input) (λ ps. if all_cut ps then Some (last_of USER_DATA ps) else None)
