-- What is at most 4294967295 octets long in all has no longer content in it.
use Rattle.std.proofs.Common.{ℕ, ◌-◌, ◌%◌, ◌<◌, ◌^◌, List, ◌∷◌, ◌++◌, length, arith}
use Rattle.std.proofs.lemmas.List.{length-append}
use Rattle.ber_write.specs.Minimal.{octets_of}
use Rattle.ber_write.proofs.LengthLaws.{inside}
use Rattle.sv_base.specs.Tree.{Plain, Seen, Row, plain, structure, none, more, truth, int, uint, bits, time, stamp, text, octets, other}
use Rattle.sv_base.specs.Data.{element, length_field, packed, data_plain, data_seen, data_row}
use Rattle.sv_base.proofs.LengthLaws.{length-packed}
use Rattle.sv_base.specs.Types.{Shape, Fields, simple, composed, no_field, field}
use Rattle.mms_data.specs.Writable.{FitsPlain, FitsSeen, FitsRow, IsFraction, SeenHasFractions, RowHasFractions}
use Rattle.mms_data.specs.TypeOctets.{shape_octets, fields_octets, FitsShape, FitsFields}

-- ---- values

content_within : (tag : ℕ) (content : List ℕ) (n : ℕ) → length (element tag content) < n → length content < n
content_within tag content n lt = omega (arith, lt, length-append (length_field (length content)) content)

plain_fits : (p : Plain) → length (data_plain p) < 2 ^ 32 → IsFraction p → FitsPlain p
plain_fits (truth b) lt f = tt
plain_fits (int z) lt f = tt
plain_fits (uint n) lt f = tt
plain_fits (bits bs) lt f = omega (arith, content_within 132 (((8 - length bs % 8) % 8) ∷ packed 128 0 bs) (2 ^ 32) lt, length-packed 0 bs)
plain_fits (time secs frac quality) lt f = f
plain_fits (stamp ms days) lt f = tt
plain_fits (text t) lt f = content_within 138 t (2 ^ 32) lt
plain_fits (octets o) lt f = content_within 137 o (2 ^ 32) lt
plain_fits other lt f = tt

mutual
  pub seen_fits : (s : Seen) → length (data_seen s) < 2 ^ 32 → SeenHasFractions s → FitsSeen s
  seen_fits (plain p) lt f = plain_fits p lt f
  seen_fits (structure r) lt f = let within = content_within 162 (data_row r) (2 ^ 32) lt in (within, row_fits r within f)

  row_fits : (r : Row) → length (data_row r) < 2 ^ 32 → RowHasFractions r → FitsRow r
  row_fits none lt f = tt
  row_fits (more s r) lt f =
      let both = length-append (data_seen s) (data_row r) in
      (seen_fits s (omega (arith, lt, both)) f.0, row_fits r (omega (arith, lt, both)) f.1)

-- ---- types

mutual
  pub shape_fits : (s : Shape) → length (shape_octets s) < 2 ^ 32 → FitsShape s
  shape_fits (simple k) lt = tt
  shape_fits (composed f) lt =
      let outer = inside 162 (octets_of 161 (fields_octets f)) (2 ^ 32) lt in
      (outer, fields_fit f (inside 161 (fields_octets f) (2 ^ 32) outer))

  fields_fit : (f : Fields) → length (fields_octets f) < 2 ^ 32 → FitsFields f
  fields_fit no_field lt = tt
  fields_fit (field name s f) lt =
      let part = octets_of 128 name ++ octets_of 161 (shape_octets s) in
      let both = length-append (octets_of 48 part) (fields_octets f) in
      let content = inside 48 part (2 ^ 32) (omega (arith, lt, both)) in
      let kind : length (octets_of 161 (shape_octets s)) < 2 ^ 32 = omega (arith, content, length-append (octets_of 128 name) (octets_of 161 (shape_octets s))) in
      (content, shape_fits s (inside 161 (shape_octets s) (2 ^ 32) kind), fields_fit f (omega (arith, lt, both)))
