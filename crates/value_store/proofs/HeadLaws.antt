-- A longer content makes no shorter element.
use Rattle.std.proofs.Common.{◌≡◌, ℕ, ◌+◌, ◌^◌, ◌<◌, ◌≤◌, List, length, refl, arith, length-append}
use Rattle.std.proofs.lemmas.Bool.{lt-ltb}
use Rattle.sv_base.specs.Data.{length_field, element}
use Rattle.mms_data.proofs.ShortestLaws.{field_grows}
use Rattle.bay_model.specs.Places.{headed}

pub short_field : (n : ℕ) → n < 128 → length (length_field n) ≡ 1
short_field n lt = rw (lt-ltb n 128 lt) refl

pub element_within : (tag : ℕ) (content : List ℕ) (n : ℕ) → length content ≤ n → n < 2 ^ 32 → length (element tag content) ≤ headed n
element_within tag content n le small = omega (arith, field_grows (length content) n le small, length-append (length_field (length content)) content)

pub short_element : (tag : ℕ) (content : List ℕ) → length content < 128 → length (element tag content) ≡ 2 + length content
short_element tag content lt = omega (arith, short_field (length content) lt, length-append (length_field (length content)) content)
