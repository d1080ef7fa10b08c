-- The octets of a type are one element.
use Rattle.std.proofs.Common.{ℕ, List, [], ◌∷◌, ◌++◌, refl, arith}
use Rattle.std.specs.Prelude.{pos}
use Rattle.ber_grammar.specs.Element.{Element, Spells, Begins}
use Rattle.ber_write.specs.Minimal.{octets_of, int_octets, uint_octets}
use Rattle.ber_write.proofs.ElementLaws.{is_spelling}
use Rattle.ber_write.proofs.NumberLaws.{length-int_octets, length-uint_octets}
use Rattle.sv_base.specs.Types.{Kind, Shape, truth, int, uint, bits, time, stamp, text, octets, entry_id, simple, composed}
use Rattle.mms_data.specs.TypeOctets.{at_most, kind_octets, shape_octets, fields_octets, FitsShape}

kind_spelled : (k : Kind) → (e : Element) × Spells (kind_octets k) e
kind_spelled truth = (_, is_spelling 131 [] (λ e. omega (arith, e), refl) (omega arith))
kind_spelled (int n) = (_, is_spelling 133 (uint_octets n) (λ e. omega (arith, e), refl) (omega (arith, length-uint_octets n)))
kind_spelled (uint n) = (_, is_spelling 134 (uint_octets n) (λ e. omega (arith, e), refl) (omega (arith, length-uint_octets n)))
kind_spelled (bits n) = (_, is_spelling 132 (int_octets (pos n)) (λ e. omega (arith, e), refl) (omega (arith, length-int_octets (pos n))))
kind_spelled time = (_, is_spelling 145 [] (λ e. omega (arith, e), refl) (omega arith))
kind_spelled stamp = (_, is_spelling 140 (255 ∷ []) (λ e. omega (arith, e), refl) (omega arith))
kind_spelled (text n) = (_, is_spelling 138 (int_octets (at_most n)) (λ e. omega (arith, e), refl) (omega (arith, length-int_octets (at_most n))))
kind_spelled (octets n) = (_, is_spelling 137 (int_octets (at_most n)) (λ e. omega (arith, e), refl) (omega (arith, length-int_octets (at_most n))))
kind_spelled entry_id = (_, is_spelling 137 (int_octets (pos 8)) (λ e. omega (arith, e), refl) (omega (arith, length-int_octets (pos 8))))

pub type_begun : (s : Shape) (rest : List ℕ) → FitsShape s → (e : Element) × Begins (shape_octets s ++ rest) e rest
type_begun (simple k) rest fits = let h = kind_spelled k in (h.0, (kind_octets k, h.1, refl))
type_begun (composed f) rest fits = (_, (shape_octets (composed f), is_spelling 162 (octets_of 161 (fields_octets f)) (λ e. omega (arith, e), refl) fits.0, refl))
