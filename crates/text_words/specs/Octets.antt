-- The octets of a line, and the lines that say nothing.
use Rattle.std.specs.Prelude.{ℕ, ◌==◌, ◌&&◌, nat_le, Bool, true, List, [], ◌∷◌, ◌≡◌, ◌⊎◌}
use Rattle.std.specs.List.{list_all}

-- an octet that may stand in a line
abbrev pub is_printable : ℕ → Bool
is_printable octet = nat_le 32 octet && nat_le octet 126

-- an empty line, or a remark
abbrev pub is_skipped : List ℕ → Bool
is_skipped [] = true
is_skipped (octet ∷ octets) = octet == 35

-- an empty line, or a remark
abbrev pub IsSkipped : List ℕ → Type 0
IsSkipped text = (text ≡ []) ⊎ ((rest : List ℕ) × (text ≡ 35 ∷ rest) × (list_all is_printable rest ≡ true))
