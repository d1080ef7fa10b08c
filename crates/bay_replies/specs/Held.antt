-- Results, as far as a PDU can hold them (ISO 9506-2, Read).
use Rattle.std.specs.Prelude.{ℕ, ◌-◌, List, Option, None, Some, Result, nat_le, if◌then◌else◌}
use Rattle.sv_base.specs.declared.value.Value.{Value}
use Rattle.bay_model.specs.Sizes.{are_too_long}

-- none where they are longer than the size
abbrev pub held_within : ℕ → List (Result Value ℕ) → Option (List (Result Value ℕ))
held_within size results = if are_too_long size results then None else Some results

-- what is left of some octets after that many; none where these are more
abbrev pub left_of : ℕ → ℕ → Option ℕ
left_of left n = if nat_le n left then Some (left - n) else None
