-- A report that is written has the elements of one.
use Rattle.std.proofs.Common.{◌≡◌, ℕ, ◌^◌, ◌<◌, List, [], ◌∷◌, length, refl, arith}
use Rattle.std.proofs.lemmas.List.{length-append}
use Rattle.ber_grammar.specs.Element.{Element, Spells, IsRow}
use Rattle.ber_write.specs.Minimal.{octets_of, written}
use Rattle.ber_write.proofs.ElementLaws.{is_spelling}
use Rattle.ber_write.proofs.LengthLaws.{octets_longer}
use Rattle.ber_write.proofs.WrittenLaws.{written_last, one_octet}
use Rattle.mms_elements.specs.Reports.{report_fields, report_octets, IsSpecificationElement, IsReport}

fields_row : (names results : List ℕ) (v : Element) → Spells names v → length results < 2 ^ 32 → IsRow (report_fields names results) (v ∷ written 160 results ∷ [])
fields_row names results v s small = (names, octets_of 160 results, s, refl, written_last 160 results (one_octet 160 (omega arith) (λ e. omega (arith, e))) small)

pub report_spelled : (names results : List ℕ) → IsSpecificationElement names → length (report_octets names results) < 2 ^ 32 → IsReport (report_octets names results) names results
unfolding report_octets
report_spelled names results (v, s, least, most) fits =
    let fields : List ℕ = report_fields names results in
    let content : List ℕ = octets_of 160 fields in
    let all : length content < 2 ^ 32 = omega (arith, fits, octets_longer 163 content) in
    let inner : length fields < 2 ^ 32 = omega (arith, all, octets_longer 160 fields) in
    let last : length results < 2 ^ 32 = omega (arith, inner, length-append names (octets_of 160 results), octets_longer 160 results) in (
      written 163 content,
      written 160 fields,
      v,
      written 160 results,
      is_spelling 163 content (one_octet 163 (omega arith) (λ e. omega (arith, e))) all,
      refl,
      written_last 160 fields (one_octet 160 (omega arith) (λ e. omega (arith, e))) inner,
      refl,
      fields_row names results v s last,
      s,
      refl,
      refl,
    )
