-- The laws of the grammar.
use Rattle.std.proofs.Common.{◌≡◌, ℕ, List, [], ◌∷◌, ◌++◌, Result, Ok, Err, refl, sym, ap, ◌∙◌, ◌⊎◌, inl, inr, append_assoc}
use Rattle.std.specs.Prelude.{ℤ, Bool}
use Rattle.std.proofs.lemmas.List.{append-nil}
use Rattle.list_laws.proofs.Options.{ok_is, err_is}
use Rattle.ber_grammar.specs.declared.fault.BerFault.{BerFault}
use Rattle.ber_grammar.specs.Octets.{IsBytes}
use Rattle.ber_grammar.specs.Element.{Element, Spells, Begins, IsRefused, IsRow}
use Rattle.ber_grammar.specs.Content.{IsBoolean, IsInt, IsUint, IsBits}
use Rattle.ber_grammar.specs.Reading.{first_at}
use Rattle.ber_grammar.proofs.ElementLaws.{FirstTells, first_tells, first_again, refused_again}
use Rattle.ber_grammar.proofs.PartsLaws.{row_again}
use Rattle.ber_grammar.proofs.IntLaws.{int_again}
use Rattle.ber_grammar.proofs.UintLaws.{uint_again}
use Rattle.ber_grammar.proofs.BitLaws.{bits_again}
use Rattle.ber_grammar.proofs.BooleanLaws.{boolean_again}
use Rattle.ber_grammar.specs.declared.fault.BerFault.TheVariants.{BadNumber}

begins_again : (input : List ℕ) (e : Element) (rest : List ℕ) → Begins input e rest → first_at input ≡ Ok (e, rest)
begins_again input e rest (front, s, p) = ap first_at p ∙ first_again front rest e s

pub one_element : (input : List ℕ) (d e : Element) (r s : List ℕ) → Begins input d r → Begins input e s → (d ≡ e) × (r ≡ s)
one_element input d e r s p q =
    let same : (d, r) ≡ (e, s) = ok_is {F = BerFault} (d, r) (e, s) (sym (begins_again input d r p) ∙ begins_again input e s q) in
    (ap (λ (x : Element × List ℕ). x.0) same, ap (λ (x : Element × List ℕ). x.1) same)

pub prefix_free : (front more : List ℕ) (d e : Element) → Spells front d → Spells (front ++ more) e → more ≡ []
prefix_free front more d e s t = (one_element (front ++ more) d e more [] (front, s, refl) (front ++ more, t, sym (append-nil (front ++ more)))).1

pub one_fault : (input : List ℕ) (f g : BerFault) → IsRefused input f → IsRefused input g → f ≡ g
one_fault input f g p q = err_is {A = Element × List ℕ} f g (sym (refused_again input f p) ∙ refused_again input g q)

pub not_both : (input : List ℕ) (e : Element) (rest : List ℕ) (f : BerFault) → Begins input e rest → IsRefused input f → ⊥
not_both input e rest f p q = let one = begins_again input e rest p in let two = refused_again input f q in cc

either_of : (input : List ℕ) (r : Result (Element × List ℕ) BerFault) → FirstTells input r → ((e : Element) × (rest : List ℕ) × Begins input e rest) ⊎ ((f : BerFault) × IsRefused input f)
either_of input (Ok x) h = inl (x.0, x.1, h)
either_of input (Err f) h = inr (f, h)

pub read_or_refused : (input : List ℕ) → ((e : Element) × (rest : List ℕ) × Begins input e rest) ⊎ ((f : BerFault) × IsRefused input f)
read_or_refused input = either_of input (first_at input) (first_tells input)

pub one_row : (octets : List ℕ) (ds es : List Element) → IsRow octets ds → IsRow octets es → ds ≡ es
one_row octets ds es p q = ok_is {F = BerFault} ds es (sym (row_again octets ds p) ∙ row_again octets es q)

pub rows_join : (front rest : List ℕ) (ds es : List Element) → IsRow front ds → IsRow rest es → IsRow (front ++ rest) (ds ++ es)
rows_join front rest [] es p q = rw p q
rows_join front rest (d ∷ ds) es (first, others, s, p, row) q =
    (first, others ++ rest, s, ap (λ (x : List ℕ). x ++ rest) p ∙ append_assoc first others rest, rows_join others rest ds es row q)

pub one_int : (content : List ℕ) (v w : ℤ) → IsBytes content → IsInt content v → IsInt content w → v ≡ w
one_int content v w fits p q = ok_is {F = BerFault} v w (sym (int_again content fits v p) ∙ int_again content fits w q)

pub one_uint : (content : List ℕ) (m n : ℕ) → IsUint content m → IsUint content n → m ≡ n
one_uint content m n p q = ok_is {F = BerFault} m n (sym (uint_again content m p) ∙ uint_again content n q)

pub one_bits : (content : List ℕ) (bs cs : List Bool) → IsBits content bs → IsBits content cs → bs ≡ cs
one_bits content bs cs p q = ok_is {F = BerFault} bs cs (sym (bits_again content bs p) ∙ bits_again content cs q)

pub one_boolean : (content : List ℕ) (b c : Bool) → IsBoolean content b → IsBoolean content c → b ≡ c
one_boolean content b c p q = ok_is {F = BerFault} b c (sym (boolean_again BadNumber content b p) ∙ boolean_again BadNumber content c q)
