-- How much of a reply a PDU of an association can hold (ISO 9506-2, Initiate: the greatest size of a PDU; AccessResult, the
-- result of a read; Identifier, a name of a GetNameList).
use Rattle.std.specs.Prelude.{◌≡◌, ◌≢◌, ◌≤◌, ◌<◌, ℕ, ◌-◌, Bool, nat_le, nat_lt, List, [], ◌∷◌, ◌++◌, length, Result, Ok, Err, if◌then◌else◌}
use Rattle.std.specs.Option.{option_map_or}
use Rattle.std.specs.List.{flat_map}
use Rattle.sv_base.specs.Data.{element, data_of}
use Rattle.sv_base.specs.declared.value.Value.{Value}
use Rattle.bay_model.specs.Points.{Past}
use Rattle.bay_model.specs.Associations.{Ends, ends}

-- the greatest size of a PDU of a, in octets; 0 where a isn't open
abbrev pub size_of : ℕ → Past → ℕ
size_of a past = option_map_or (λ (e : Ends). e.size) (ends a past) 0

-- an AccessResult: the Data of a value, or 80 and the code of a refusal
abbrev pub access_result : Result Value ℕ → List ℕ
access_result (Ok v) = data_of v
access_result (Err code) = element 0x80 (code ∷ [])

-- the values and codes of a read alone are more octets than this size
abbrev pub are_too_long : ℕ → List (Result Value ℕ) → Bool
are_too_long size results = nat_lt size (length (flat_map access_result results))

-- an Identifier: 1A and a name
abbrev pub identifier : List ℕ → List ℕ
identifier name = element 0x1A name

-- Of these names those that a PDU of this size can hold, and the one after them, which says that more follow: each before
-- which the names alone are no more octets than the size.
abbrev pub within : ℕ → List (List ℕ) → List (List ℕ)
within size [] = []
within size (n ∷ ns) = n ∷ (if nat_le (length (identifier n)) size then within (size - length (identifier n)) ns else [])

-- names are left out only from the end, and only where those before them are more octets than the size
abbrev pub RestIsBeyond : Type 0
RestIsBeyond = (size : ℕ) (names : List (List ℕ)) → (rest : List (List ℕ)) × (within size names ++ rest ≡ names) × (rest ≢ [] → size < length (flat_map identifier (within size names)))

-- without the last of them they are no more octets than the size
abbrev pub NamesAreWithin : Type 0
NamesAreWithin = (size : ℕ) (names before : List (List ℕ)) (last : List ℕ) → within size names ≡ before ++ last ∷ [] → length (flat_map identifier before) ≤ size
