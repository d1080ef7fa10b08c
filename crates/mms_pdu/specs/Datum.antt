-- ISO 9506-2, the items of listOfData: each is Data, at most ten deep.
use Rattle.std.specs.Prelude.{ℕ, List, Option}
use Rattle.std.specs.Result.{result_unwrap_or}
use Rattle.ber_grammar.specs.Element.{Element, IsRow}
use Rattle.ber_grammar.specs.Place.{Spot}
use Rattle.ber_grammar.specs.Reader.{kept}
use Rattle.sv_base.specs.Tree.{Seen, plain, other}
use Rattle.mms_data.specs.Grammar.{IsWithin}
use Rattle.mms_data.specs.Reading.{data_at}
use Rattle.mms_data.specs.View.{view_at}
use Rattle.mms_pdu.specs.Each.{Each}

-- the content is these values
abbrev pub AreData : List ℕ → List Seen → Type 0
AreData content values = (es : List Element) × IsRow content es × Each (IsWithin 10) es values

-- ---- reading

-- the element, where it is Data
abbrev pub datum_at : Spot → Option Spot
datum_at s = kept (view_at s)

-- the value that an element is
unfoldable pub value_at : Spot → Seen
value_at s = result_unwrap_or (data_at 10 s.element) (plain other)
