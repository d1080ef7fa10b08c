-- Reading an SPDU from left to right.
use Rattle.std.specs.Prelude.{ℕ, ◌+◌, Bool, false, List, ◌∷◌, length, Option, Some, None, Result, Ok, ◌==◌, ◌&&◌, if◌then◌else◌}
use Rattle.ber_grammar.specs.Place.{Piece}
use Rattle.ber_grammar.specs.Reader.{◌>>=◌, and_then}
use Rattle.session_pres.specs.declared.codes.TheConstants.{FINISH, CONNECT, ABORT, GIVE_TOKENS, DATA_TRANSFER}
use Rattle.session_pres.specs.declared.fault.SpFault.{SpFault}
use Rattle.session_pres.specs.declared.fault.SpFault.TheVariants as faults
use Rattle.ber_grammar.specs.Steps.{required}
use Rattle.session_pres.specs.Places.{behind}
use Rattle.session_pres.specs.ParameterReading.{length_at, user_at}
use Rattle.session_pres.specs.Units.{Seen, begins, connect, transfer, finish, abort}

-- what is after a length that counts it all
unfoldable pub counted_at : Piece → Option Piece
counted_at input = and_then (length_at input.octets) (λ len. if length input.octets == len.1 + len.0 then Some (behind len.1 input) else None)

unfoldable pub unit_at : ℕ → Piece → Option Piece
unit_at code input = if begins code input.octets then counted_at (behind 1 input) else None

unfoldable pub user_of : ℕ → Piece → Result (Option Piece) SpFault
user_of code input = required faults.Spdu (unit_at code input) >>= λ parameters. required faults.Parameter (user_at parameters)

unfoldable pub data_of : ℕ → Piece → Result Piece SpFault
data_of code input = user_of code input >>= λ user. required faults.Parameter user

abbrev pub is_transfer : List ℕ → Bool
is_transfer (a ∷ b ∷ c ∷ d ∷ rest) = a == GIVE_TOKENS && b == 0 && c == DATA_TRANSFER && d == 0
is_transfer _ = false

unfoldable pub transfer_at : Piece → Option Seen
transfer_at input = if is_transfer input.octets then Some (transfer (behind 4 input)) else None

unfoldable pub spdu_at : Piece → Result Seen SpFault
spdu_at input =
    if begins CONNECT input.octets then (data_of CONNECT input >>= λ given. Ok (connect given))
    else if begins FINISH input.octets then (user_of FINISH input >>= λ user. Ok (finish user))
    else if begins ABORT input.octets then (user_of ABORT input >>= λ user. Ok abort)
    else required faults.Spdu (transfer_at input)
