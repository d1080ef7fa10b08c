-- Reading Data, with the first fault that is met.
use Rattle.std.specs.Prelude.{ℕ, zero, suc, ◌==◌, List, [], ◌∷◌, Option, Some, None, Result, Ok, Err, length, take, drop, slice_index, if◌then◌else◌}
use Rattle.ber_grammar.specs.declared.fault.BerFault.{BerFault}
use Rattle.ber_grammar.specs.Octets.{big_endian}
use Rattle.ber_grammar.specs.Element.{Element}
use Rattle.ber_grammar.specs.Reader.{◌>>=◌, with_fault}
use Rattle.ber_grammar.specs.Reading.{first_at, boolean_at, int_at, uint_at, text_at, bits_at}
use Rattle.ber_grammar.specs.Rows.{row_at}
use Rattle.sv_base.specs.Tree.{Seen, Row, plain, structure, none, more, truth, int, uint, bits, time, stamp, text, octets, other}
use Rattle.mms_data.specs.declared.fault.DataFault.{DataFault}
use Rattle.mms_data.specs.declared.fault.DataFault.TheVariants.{Tag, Length, Depth, Memory}
use Rattle.mms_data.specs.Grammar.{is_context}
use Rattle.mms_data.specs.declared.tags.TheConstants.{BINARY_TIME, BIT_STRING, BOOLEAN, INTEGER, OCTET_STRING, STRUCTURE, UNSIGNED, UTC_TIME, VISIBLE_STRING}

-- of out of memory nothing is said
abbrev pub fault_of : DataFault → Option DataFault
fault_of Tag = Some Tag
fault_of Length = Some Length
fault_of Depth = Some Depth
fault_of Memory = None

-- every fault of a content, and of a part
abbrev pub malformed : BerFault → DataFault
malformed f = Length

-- the fault of an input that is no element
abbrev pub no_element : BerFault → DataFault
no_element f = Tag

abbrev pub truth_at : List ℕ → Result Seen DataFault
truth_at content = boolean_at Length content >>= λ b. Ok (plain (truth b))

abbrev pub bit_string_at : List ℕ → Result Seen DataFault
bit_string_at content = with_fault malformed (bits_at content) >>= λ bs. Ok (plain (bits bs))

abbrev pub integer_at : List ℕ → Result Seen DataFault
integer_at content = with_fault malformed (int_at content) >>= λ z. Ok (plain (int z))

abbrev pub unsigned_at : List ℕ → Result Seen DataFault
unsigned_at content = with_fault malformed (uint_at content) >>= λ n. Ok (plain (uint n))

abbrev pub string_at : List ℕ → Result Seen DataFault
string_at content = with_fault malformed (text_at content) >>= λ t. Ok (plain (text t))

abbrev pub stamp_at : List ℕ → Result Seen DataFault
stamp_at content = if length content == 6 then Ok (plain (stamp (big_endian (take 4 content)) (big_endian (drop 4 content)))) else Err Length

abbrev pub time_at : List ℕ → Result Seen DataFault
time_at content = if length content == 8 then Ok (plain (time (big_endian (take 4 content)) (big_endian (take 3 (drop 4 content))) (slice_index content 7))) else Err Length

unfoldable pub plain_at : Element → Result Seen DataFault
plain_at e =
    if e.tag == BOOLEAN then truth_at e.content
    else if e.tag == BIT_STRING then bit_string_at e.content
    else if e.tag == INTEGER then integer_at e.content
    else if e.tag == UNSIGNED then unsigned_at e.content
    else if e.tag == OCTET_STRING then Ok (plain (octets e.content))
    else if e.tag == VISIBLE_STRING then string_at e.content
    else if e.tag == BINARY_TIME then stamp_at e.content
    else if e.tag == UTC_TIME then time_at e.content
    else Ok (plain other)

-- the row of these
abbrev pub in_row : List Seen → Row
in_row [] = none
in_row (s ∷ ss) = more s (in_row ss)

-- a structure whose parts are read so
abbrev pub struct_at : (Element → Result Seen DataFault) → List ℕ → Result Seen DataFault
struct_at read content = row_at read malformed content >>= λ ss. Ok (structure (in_row ss))

-- an element, at most so deep
unfoldable pub data_at : ℕ → Element → Result Seen DataFault
data_at zero e = if is_context e.tag then Err Depth else Err Tag
data_at (suc n) e =
    if is_context e.tag
    then (if e.tag == STRUCTURE then struct_at (data_at n) e.content else plain_at e)
    else Err Tag

-- all of the octets
unfoldable pub read_at : List ℕ → Result Seen DataFault
read_at input = do
  first ← with_fault no_element (first_at input)
  if length first.1 == 0 then data_at 10 first.0 else Err Tag
