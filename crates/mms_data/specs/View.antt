-- Data that is read in place.
use Rattle.std.specs.Prelude.{◌≡◌, Result, Ok, Err}
use Rattle.ber_grammar.specs.Place.{Spot}
use Rattle.ber_grammar.specs.Reader.{◌>>=◌}
use Rattle.sv_base.specs.Tree.{Seen}
use Rattle.mms_data.specs.declared.fault.DataFault.{DataFault}
use Rattle.mms_data.specs.Grammar.{IsWithin}
use Rattle.mms_data.specs.Reading.{data_at}

-- that something is read, or the fault
abbrev pub checked : {A F : Type 0} → Result A F → Result (Unit {0}) F
checked (Ok x) = Ok tt
checked (Err f) = Err f

-- the element itself, which is a value at most ten deep
abbrev pub IsViewed : Spot → Spot → Type 0
IsViewed s d = (d ≡ s) × (value : Seen) × IsWithin 10 s.element value

unfoldable pub view_at : Spot → Result Spot DataFault
view_at s = data_at 10 s.element >>= λ value. Ok s
