-- Visible strings.
use Rattle.std.proofs.Common.{◌≡◌, ℕ, zero, suc, ◌<◌, true, ◌&&◌, leb, List, [], ◌∷◌, length, get_or, Result, Ok, Err, refl, subst, arith}
use Rattle.std.proofs.lemmas.Bool.{and_parts, and_from, leb-true, le-leb, cond_both}
use Rattle.ber_grammar.specs.declared.fault.BerFault.{BerFault}
use Rattle.ber_grammar.specs.declared.fault.BerFault.TheVariants.{BadText}
use Rattle.ber_grammar.specs.Content.{IsVisible, IsText}
use Rattle.ber_grammar.specs.Reading.{all_visible, text_at}

visible_each : (content : List ℕ) → all_visible content ≡ true → (k : ℕ) → k < length content → IsVisible (get_or content k 0)
visible_each [] h k lt = absurd (omega (arith, lt))
visible_each (a ∷ rest) h zero lt =
    let p = and_parts (leb 32 a && leb a 126) (all_visible rest) h in
    let q = and_parts (leb 32 a) (leb a 126) p.0 in
    (leb-true 32 a q.0, leb-true a 126 q.1)
visible_each (a ∷ rest) h (suc k) lt = visible_each rest (and_parts (leb 32 a && leb a 126) (all_visible rest) h).1 k (omega (arith, lt))

visible_all : (content : List ℕ) → ((k : ℕ) → k < length content → IsVisible (get_or content k 0)) → all_visible content ≡ true
visible_all [] h = refl
visible_all (a ∷ rest) h =
    let first = h 0 (omega arith) in
    and_from (leb 32 a && leb a 126) (all_visible rest) (and_from (leb 32 a) (leb a 126) (le-leb 32 a first.0) (le-leb a 126 first.1)) (visible_all rest (λ k lt. h (suc k) (omega (arith, lt))))

pub text_again : (content t : List ℕ) → IsText content t → text_at content ≡ Ok t
unfolding text_at
text_again content t h = rw (visible_all content h.1, h.0) refl

abbrev TextTells : List ℕ → Result (List ℕ) BerFault → Type 0
TextTells content (Ok t) = IsText content t
TextTells content (Err f) = f ≡ BadText

text_tells : (content : List ℕ) → TextTells content (text_at content)
unfolding text_at
text_tells content = cond_both (all_visible content) (Ok content) (Err BadText) (λ r. TextTells content r) (λ e. (refl, visible_each content e)) (λ e. refl)

pub text_found : (content t : List ℕ) → text_at content ≡ Ok t → IsText content t
text_found content t e = subst (λ (r : Result (List ℕ) BerFault). TextTells content r) e (text_tells content)
