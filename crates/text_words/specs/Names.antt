-- Names, and what is made of them (IEC 61850-7-2, ObjectName and ObjectReference).
use Rattle.std.specs.Prelude.{ℕ, ◌==◌, ◌&&◌, ◌||◌, nat_le, Bool, false, List, [], ◌∷◌, length, if◌then◌else◌, codes}
use Rattle.std.specs.List.{slice_split, list_all, count_by, list_any}
use Rattle.std.specs.Str.{bytes_eq}

abbrev pub is_letter : ℕ → Bool
is_letter octet = (nat_le 65 octet && nat_le octet 90) || (nat_le 97 octet && nat_le octet 122)

abbrev pub is_digit : ℕ → Bool
is_digit octet = nat_le 48 octet && nat_le octet 57

abbrev pub is_dollar : ℕ → Bool
is_dollar octet = octet == 36

abbrev pub is_slash : ℕ → Bool
is_slash octet = octet == 47

-- a letter, a digit or `_`
abbrev pub is_name_octet : ℕ → Bool
is_name_octet octet = is_letter octet || is_digit octet || octet == 95

-- a letter, then letters, digits or `_`, in all at most 32
abbrev pub is_name : List ℕ → Bool
is_name [] = false
is_name (octet ∷ octets) = is_letter octet && list_all is_name_octet octets && nat_le (length octets) 31

-- names joined by `$`
abbrev pub is_path : List ℕ → Bool
is_path path = list_all is_name (slice_split is_dollar path)

-- a domain, and a path of three names or more: the logical node, the functional constraint and what is below it
abbrev pub are_member : List (List ℕ) → Bool
are_member (domain ∷ item ∷ []) = is_name domain && is_path item && nat_le 2 (count_by is_dollar item)
are_member _ = false

-- the two with a `/` between them
abbrev pub is_member : List ℕ → Bool
is_member reference = are_member (slice_split is_slash reference)

-- what stands after the first `/`
abbrev pub item_of : List ℕ → List ℕ
item_of [] = []
item_of (octet ∷ octets) = if octet == 47 then octets else item_of octets

-- the functional constraints of attributes (IEC 61850-7-2, FunctionalConstraint)
abbrev pub is_fc : List ℕ → Bool
is_fc fc = list_any (λ known. bytes_eq fc known) (codes "ST" ∷ codes "MX" ∷ codes "CF" ∷ codes "DC" ∷ codes "SP" ∷ codes "SV" ∷ codes "SG" ∷ codes "EX" ∷ [])
