-- A row of elements, each of which is read further.
use Rattle.std.specs.Prelude.{ℕ, zero, suc, List, [], ◌∷◌, length, Option, Some, None, Result, Ok, Err}
use Rattle.std.specs.Result.{result_unwrap_or}
use Rattle.ber_grammar.specs.declared.fault.BerFault.{BerFault}
use Rattle.ber_grammar.specs.declared.fault.BerFault.TheVariants.{Short}
use Rattle.ber_grammar.specs.Element.{Element}
use Rattle.ber_grammar.specs.Reader.{◌>>=◌, with_fault}
use Rattle.ber_grammar.specs.Reading.{first_at}

module _ {A F : Type 0} (read : Element → Result A F) (broken : BerFault → F) where
  -- The number bounds how many; none is met where it is the number of octets.
  unfoldable pub bounded_row : ℕ → List ℕ → Result (List A) F
  bounded_row zero [] = Ok []
  bounded_row zero (a ∷ rest) = Err (broken Short)
  bounded_row (suc n) [] = Ok []
  bounded_row (suc n) (a ∷ rest) = do
    first ← with_fault broken (first_at (a ∷ rest))
    one ← read first.0
    others ← bounded_row n first.1
    Ok (one ∷ others)

  -- Each element of the row, read; where a part of it is no whole element, what broken makes of the fault.
  unfoldable pub row_at : List ℕ → Result (List A) F
  row_at octets = bounded_row (length octets) octets

-- the elements of a row
unfoldable pub parts_at : List ℕ → Result (List Element) BerFault
parts_at octets = row_at (λ e. Ok e) (λ f. f) octets

-- the elements of a row, and of other octets none
unfoldable pub row_of : List ℕ → List Element
row_of octets = result_unwrap_or (parts_at octets) []

-- the only element of a list
abbrev pub single : {A : Type 0} → List A → Option A
single [] = None
single (e ∷ []) = Some e
single (e ∷ d ∷ es) = None
