-- Octet rows that lie one after the other.
use Rattle.std.specs.Prelude.{ℕ, ◌≤◌, List, length, map, All, slice_range}
use Rattle.octet_rows.specs.declared.rows.Extent.{Extent}

abbrev pub row_in : List ℕ → Extent → List ℕ
row_in octets extent = slice_range octets extent.start extent.end

abbrev pub rows_in : List ℕ → List Extent → List (List ℕ)
rows_in octets extents = map (row_in octets) extents

abbrev pub AreWithin : List ℕ → List Extent → Type 0
AreWithin octets extents = All (λ extent. (extent.start ≤ extent.end) × (extent.end ≤ length octets)) extents
