-- What is read of each element of a content (ISO 9506-2, a SEQUENCE OF).
use Rattle.std.specs.Prelude.{Bool, List, [], ◌∷◌, Option, Some, None, is_some, if◌then◌else◌}
use Rattle.std.specs.List.{list_all, filter_map}
use Rattle.ber_grammar.specs.Element.{Element}
use Rattle.ber_grammar.specs.Place.{Spot, Piece}
use Rattle.ber_grammar.specs.Reader.{and_then}
use Rattle.ber_grammar.specs.Fields.{fields_in}

-- one thing for each element, of which it is told
abbrev pub Each : {A : Type 0} → (Element → A → Type 0) → List Element → List A → Type 0
Each Is [] [] = Unit {0}
Each Is [] (x ∷ xs) = ⊥
Each Is (e ∷ es) [] = ⊥
Each Is (e ∷ es) (x ∷ xs) = Is e x × Each Is es xs

-- ---- reading

-- whether something is read of a field
abbrev pub is_read : {A : Type 0} → (Spot → Option A) → Spot → Bool
is_read read s = is_some (read s)

-- whether each field is read, and what is read of the fields
abbrev pub are_read : {A : Type 0} → (Spot → Option A) → List Spot → Bool
are_read read fields = list_all (is_read read) fields

abbrev pub each_at : {A : Type 0} → (Spot → Option A) → List Spot → Option (List A)
each_at read fields = if are_read read fields then Some (filter_map read fields) else None

-- what is read of each element that octets are
abbrev pub each_in : {A : Type 0} → (Spot → Option A) → Piece → Option (List A)
each_in read p = and_then (fields_in p) (each_at read)
