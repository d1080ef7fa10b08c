-- Bit strings.
use Rattle.std.proofs.Common.{◌≡◌, ℕ, ◌*◌, Bool, ◌&&◌, cond, eqb, ltb, List, [], ◌∷◌, length, Result, Ok, Err, refl, sym, ap, subst, inl, inr, arith}
use Rattle.std.specs.List.{flat_map}
use Rattle.std.proofs.lemmas.Bool.{ltb-false, le-ltb, eqb-false, eq-eqb, ne_eqb, cond_both, and_cases, cases_eq}
use Rattle.ber_grammar.specs.declared.fault.BerFault.{BerFault}
use Rattle.ber_grammar.specs.declared.fault.BerFault.TheVariants.{BadNumber}
use Rattle.ber_grammar.specs.Content.{IsBits, IsBitsRefused, octet_bits, bits_of}
use Rattle.ber_grammar.specs.Reading.{bits_at}
use Rattle.ber_grammar.specs.Reader.{Gives, Reads}
use Rattle.ber_grammar.proofs.ReaderLaws.{one_refusal, reads_from, gives_itself, told_of}

pub bits_again : (content : List ℕ) (bits : List Bool) → IsBits content bits → bits_at content ≡ Ok bits
unfolding bits_at
bits_again [] bits h = absurd h
bits_again (unused ∷ octets) bits h =
    elim (cases_eq (length octets) 0) [
      | inl none ↦ let z = h.1 none in rw (z, eq-eqb (length octets) 0 none, h.2) (ap (λ (u : ℕ). Ok (bits_of u octets)) (sym z))
      | inr some ↦ rw (le-ltb 7 unused h.0, ne_eqb (length octets) 0 some, h.2) refl
    ]

abbrev BitsTell : List ℕ → Result (List Bool) BerFault → Type 0
BitsTell content (Ok bits) = IsBits content bits
BitsTell content (Err f) = f ≡ BadNumber

bits_tell : (content : List ℕ) → BitsTell content (bits_at content)
unfolding bits_at
bits_tell [] = refl
bits_tell (unused ∷ octets) =
    cond_both (ltb 7 unused) (Err BadNumber) (cond (eqb (length octets) 0 && ltb 0 unused) (Err BadNumber) (Ok (bits_of unused octets))) (λ r. BitsTell (unused ∷ octets) r) (λ e. refl)
    (λ e. let few = ltb-false 7 unused e in
    cond_both (eqb (length octets) 0 && ltb 0 unused) (Err BadNumber) (Ok (bits_of unused octets)) (λ r. BitsTell (unused ∷ octets) r) (λ e. refl)
    (λ e. (few, (λ none. elim (and_cases (eqb (length octets) 0) (ltb 0 unused) e) [ inl a ↦ absurd (eqb-false (length octets) 0 a none) | inr b ↦ (let z = ltb-false 0 unused b in omega arith) ]), refl)))

pub bits_reads : {X : Type 0} (view : X → List Bool) (r : Result X BerFault) (content : List ℕ) → Gives view r (bits_at content) → Reads view r (IsBits content) (IsBitsRefused content)
bits_reads view r content g =
    reads_from view r (bits_at content) (IsBits content) (IsBitsRefused content)
    (one_refusal (bits_at content) (IsBits content) BadNumber
    (λ bits e. subst (λ (r : Result (List Bool) BerFault). BitsTell content r) e (bits_tell content))
    (bits_again content)
    (λ f e. subst (λ (r : Result (List Bool) BerFault). BitsTell content r) e (bits_tell content))) g

pub bits_found : (content : List ℕ) (bits : List Bool) → bits_at content ≡ Ok bits → IsBits content bits
bits_found content bits e = told_of (bits_at content) bits (IsBits content) (IsBitsRefused content) e (bits_reads (λ (x : List Bool). x) (bits_at content) content (gives_itself (bits_at content))).tells

pub length-flat_bits : (octets : List ℕ) → length (flat_map octet_bits octets) ≡ 8 * length octets
length-flat_bits [] = refl
length-flat_bits (o ∷ octets) = omega (arith, length-flat_bits octets)
