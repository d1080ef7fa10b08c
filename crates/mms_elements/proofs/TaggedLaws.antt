-- Numbers under a tag.
use Rattle.std.proofs.Common.{◌≡◌, ℕ, ◌^◌, ◌<◌, cond, ltb, eqb, List, [], ◌∷◌, ◌++◌, Some, None, arith, refl, sym, ap, subst, ◌∙◌}
use Rattle.std.proofs.lemmas.Bool.{eqb-true, eq-eqb, ltb-true, lt-ltb}
use Rattle.list_laws.proofs.Options.{some_is, chosen}
use Rattle.ber_grammar.specs.Octets.{IsBytes}
use Rattle.ber_grammar.specs.Element.{Element, IsTag, Spells, Begins}
use Rattle.ber_grammar.specs.Content.{IsUint}
use Rattle.ber_grammar.specs.Place.{Spot, Piece}
use Rattle.ber_grammar.specs.Reader.{and_then, kept}
use Rattle.ber_grammar.specs.Reading.{first_at, uint_at}
use Rattle.ber_grammar.proofs.OptionLaws.{kept_some, then_some}
use Rattle.ber_grammar.proofs.OctetLaws.{Begins-bytes}
use Rattle.ber_grammar.proofs.ElementLaws.{first_again}
use Rattle.ber_grammar.proofs.UintLaws.{uint_again, uint_found}
use Rattle.mms_elements.specs.Invoke.{below_at}
use Rattle.ber_grammar.specs.Fields.{spot_in}
use Rattle.ber_grammar.proofs.FieldLaws.{begins_of}
use Rattle.mms_elements.specs.Tagged.{IsNumber, IsNumbered, number_at, behind, first_in, numbered_in}

-- ---- a number

pub below_again : (bound : ℕ) (content : List ℕ) (n : ℕ) → IsUint content n → n < bound → below_at bound content ≡ Some n
unfolding below_at
below_again bound content n is lt = rw (uint_again content n is, lt-ltb n bound lt) refl

pub below_found : (bound : ℕ) (content : List ℕ) (n : ℕ) → IsBytes content → below_at bound content ≡ Some n → IsUint content n × (n < bound)
unfolding below_at
below_found bound content n fits h =
    let step = λ (m : ℕ). cond (ltb m bound) (Some m) None in
    let b = then_some (kept (uint_at content)) step n h in
    let c = chosen (ltb b.0 bound) (Some b.0) n b.2 in
    let is = uint_found content fits b.0 (kept_some (uint_at content) b.0 b.1) in
    let same : b.0 ≡ n = some_is b.0 n c.1 in
    (subst (λ (x : ℕ). IsUint content x) same is, subst (λ (x : ℕ). x < bound) same (ltb-true b.0 bound c.0))

pub number_again : (tag : ℕ) (e : Element) (n : ℕ) → IsNumber tag e n → number_at tag e ≡ Some n
unfolding number_at
number_again tag e n h = rw (eq-eqb e.tag tag h.0) (below_again (2 ^ 32) e.content n h.1.0 h.1.1)

pub number_found : (tag : ℕ) (e : Element) (n : ℕ) → IsBytes e.content → number_at tag e ≡ Some n → IsNumber tag e n
unfolding number_at
number_found tag e n fits h =
    let a = chosen (eqb e.tag tag) (below_at (2 ^ 32) e.content) n h in
    (eqb-true e.tag tag a.0, below_found (2 ^ 32) e.content n fits a.1)

-- ---- with where things lie

pub first_in_again : (p : Piece) (e : Element) (rest : List ℕ) → Begins p.octets e rest → first_in p ≡ Some (spot_in p e, behind p e rest)
unfolding first_in
first_in_again p e rest (front, s, q) = rw (ap first_at q ∙ first_again front rest e s) refl

pub numbered_again : (tag : ℕ) (p : Piece) (n : ℕ) (rest : List ℕ) → IsNumbered tag p.octets n rest → (q : Piece) × (numbered_in tag p ≡ Some (n, q)) × (q.octets ≡ rest)
unfolding numbered_in
numbered_again tag p n rest (e, b, is) = (behind p e rest, rw (first_in_again p e rest b, number_again tag e n is) refl, refl)

pub numbered_found : (tag : ℕ) (p : Piece) (n : ℕ) (q : Piece) → IsBytes p.octets → numbered_in tag p ≡ Some (n, q) → IsNumbered tag p.octets n q.octets
unfolding numbered_in first_in
numbered_found tag p n q fits h =
    let step = λ (x : Spot × Piece). and_then (number_at tag x.0.element) (λ m. Some (m, x.1)) in
    let a = then_some (first_in p) step (n, q) h in
    let b = then_some (kept (first_at p.octets)) (λ x. Some (spot_in p x.0, behind p x.0 x.1)) a.0 a.1 in
    let c = then_some (number_at tag a.0.0.element) (λ m. Some (m, a.0.1)) (n, q) a.2 in
    let at : (spot_in p b.0.0, behind p b.0.0 b.0.1) ≡ a.0 = some_is (spot_in p b.0.0, behind p b.0.0 b.0.1) a.0 b.2 in
    let both : (c.0, a.0.1) ≡ (n, q) = some_is (c.0, a.0.1) (n, q) c.2 in
    let begins = begins_of p.octets b.0 (kept_some (first_at p.octets) b.0 b.1) in
    let element : b.0.0 ≡ a.0.0.element = ap (λ (x : Spot × Piece). x.0.element) at in
    let octets : b.0.1 ≡ q.octets = ap (λ (x : Spot × Piece). x.1.octets) at ∙ ap (λ (x : ℕ × Piece). x.1.octets) both in
    let number = number_found tag b.0.0 n (Begins-bytes p.octets b.0.0 b.0.1 fits begins).0 (ap (number_at tag) element ∙ c.1 ∙ ap (λ (x : ℕ × Piece). Some x.0) both) in
    (b.0.0, subst (λ (x : List ℕ). Begins p.octets b.0.0 x) octets begins, number)

pub numbered_none : (tag : ℕ) (p : Piece) → numbered_in tag p ≡ None → (n : ℕ) (rest : List ℕ) → ¬ IsNumbered tag p.octets n rest
numbered_none tag p none n rest is = let a = numbered_again tag p n rest is in nothing (n, a.0) (sym none ∙ a.1)
  where
    nothing : (x : ℕ × Piece) → None ≡ Some x → ⊥
    nothing x e = cc

-- octets after a number are octets
pub numbered_bytes : (tag : ℕ) (content : List ℕ) (n : ℕ) (rest : List ℕ) → IsBytes content → IsNumbered tag content n rest → IsBytes rest
numbered_bytes tag content n rest fits (e, b, is) = (Begins-bytes content e rest fits b).1

-- ---- the first octet

-- a tag of one octet is the first octet
pub first_octet : (octets : List ℕ) (e : Element) → Spells octets e → e.tag < 256 → (rest : List ℕ) × (octets ≡ e.tag ∷ rest)
first_octet octets e s small = octet_of s.tag (s.len ++ e.content) e.tag s.is_tag small s.whole
  where
    octet_of : (tag rest : List ℕ) (t : ℕ) → IsTag tag t → t < 256 → octets ≡ tag ++ rest → (more : List ℕ) × (octets ≡ t ∷ more)
    octet_of [] rest t is small p = absurd is
    octet_of (a ∷ []) rest t is small p = (rest, p ∙ ap (λ (x : ℕ). x ∷ rest) (sym is.1))
    octet_of (a ∷ b ∷ []) rest t is small p = absurd (omega (arith, is.0, is.2, small))
    octet_of (a ∷ b ∷ c ∷ []) rest t is small p = absurd (omega (arith, is.0, is.3, small))
    octet_of (a ∷ b ∷ c ∷ d ∷ more) rest t is small p = absurd is
