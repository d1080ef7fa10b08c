-- Reading a CP and a CPA from left to right.
use Rattle.std.specs.Prelude.{ℕ, List, [], ◌∷◌, Option, Some, None, Result, Ok, bytes_eq, ◌==◌, if◌then◌else◌}
use Rattle.ber_grammar.specs.Place.{Spot, Piece, content_piece}
use Rattle.ber_grammar.specs.Reader.{◌>>=◌, and_then}
use Rattle.session_pres.specs.declared.codes.TheConstants.{ACCEPT, MODE_SELECTOR, MODE_VALUE, NORMAL_MODE_PARAMETERS, CONTEXT_DEFINITION_LIST, CONTEXT_RESULT_LIST, RESULT, TRANSFER_SYNTAX, FULLY_ENCODED_DATA, SEQUENCE, SET}
use Rattle.session_pres.specs.declared.fault.SpFault.{SpFault}
use Rattle.session_pres.specs.declared.fault.SpFault.TheVariants as faults
use Rattle.ber_grammar.specs.Steps.{required}
use Rattle.ber_grammar.specs.Fields.{fields_in, only_with, first_with, field_with}
use Rattle.session_pres.specs.UnitReading.{data_of}
use Rattle.session_pres.specs.UserData.{pdv_list_at}
use Rattle.session_pres.specs.ContextList.{ber, acse, mms}
use Rattle.session_pres.specs.ContextReading.{context_list_at, chosen_at}
use Rattle.session_pres.specs.Presentation.{Request, request, first_in, second_in}

-- the part, where it has these octets
abbrev pub if_octets : List ℕ → Option Piece → Option Piece
if_octets octets None = None
if_octets octets (Some part) = if bytes_eq part.octets octets then Some part else None

unfoldable pub normal_at : List Spot → Option Piece
normal_at fields = if_octets (1 ∷ []) (and_then (first_with MODE_SELECTOR fields) (field_with MODE_VALUE))

unfoldable pub parameters_in : Piece → Result Piece SpFault
parameters_in input =
    required faults.Parameter (only_with SET input) >>= λ content.
    required faults.Parameter (fields_in content) >>= λ set.
    required faults.Mode (normal_at set) >>= λ mode.
    required faults.NoAcseContext (first_with NORMAL_MODE_PARAMETERS set)

-- the user data, where it stands in this context
abbrev pub if_context : ℕ → Option (ℕ × Piece) → Option Piece
if_context number None = None
if_context number (Some pdv) = if pdv.0 == number then Some pdv.1 else None

unfoldable pub user_in : List Spot → ℕ → Option Piece
user_in fields number = if_context number (and_then (first_with FULLY_ENCODED_DATA fields) pdv_list_at)

unfoldable pub cp_at : Piece → Result Request SpFault
cp_at input =
    parameters_in input >>= λ parameters.
    required faults.Parameter (fields_in parameters) >>= λ fields.
    required faults.NoAcseContext (first_with CONTEXT_DEFINITION_LIST fields) >>= λ content.
    required faults.Parameter (context_list_at content) >>= λ contexts.
    required faults.NoAcseContext (chosen_at acse contexts) >>= λ a.
    required faults.NoMmsContext (chosen_at mms contexts) >>= λ m.
    required faults.Pdv (user_in fields a.number) >>= λ user. Ok (request contexts a m user)

unfoldable pub accepted_at : Option Spot → Option Spot
accepted_at None = None
accepted_at (Some s) = if s.element.tag == SEQUENCE then and_then (fields_in (content_piece s)) (λ fields.
    and_then (if_octets (0 ∷ []) (first_with RESULT fields)) (λ result. and_then (if_octets ber (first_with TRANSFER_SYNTAX fields)) (λ syntax. Some s))) else None

unfoldable pub cpa_at : Piece → Result Piece SpFault
cpa_at input =
    parameters_in input >>= λ parameters.
    required faults.Parameter (fields_in parameters) >>= λ fields.
    required faults.NoAcseContext (first_with CONTEXT_RESULT_LIST fields) >>= λ content.
    required faults.Parameter (fields_in content) >>= λ results.
    required faults.NoAcseContext (accepted_at (first_in results)) >>= λ a.
    required faults.NoMmsContext (accepted_at (second_in results)) >>= λ m.
    required faults.Pdv (user_in fields 1)

unfoldable pub ac_at : Piece → Result Piece SpFault
ac_at input = data_of ACCEPT input >>= cpa_at
