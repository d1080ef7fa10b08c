-- Names that are joined by `$`: the first of them, those after it, and the names that a path is made of.
use Rattle.std.proofs.Common.{◌≡◌, ℕ, suc, ◌+◌, ◌<◌, ◌≤◌, ◌==◌, ◌⊎◌, inl, inr, true, false, cond, not, List, [], ◌∷◌, ◌++◌, length, take, drop, refl, sym, ap, ap₂, subst, ◌∙◌, arith, length-append, append_assoc}
use Rattle.std.specs.List.{before_first, after_first, position_or_len, join_with_byte}
use Rattle.std.proofs.lemmas.Bool.Decides.{eqb_tells}
use Rattle.list_laws.proofs.Among.{Each}

abbrev pub NoDollar : List ℕ → Type 0
NoDollar [] = Unit {0}
NoDollar (o ∷ os) = ((o == 36) ≡ false) × NoDollar os

-- a name, not empty and without `$`
abbrev pub IsPlain : List ℕ → Type 0
IsPlain name = (0 < length name) × NoDollar name

abbrev pub ArePlain : List (List ℕ) → Type 0
ArePlain names = Each IsPlain names

abbrev pub joined : List (List ℕ) → List ℕ
joined names = join_with_byte 36 names

abbrev pub first : List ℕ → List ℕ
first item = before_first (λ o. o == 36) item

abbrev pub rest : List ℕ → List ℕ
rest item = after_first (λ o. o == 36) item

pub first-more : (o : ℕ) (os : List ℕ) → (o == 36) ≡ false → first (o ∷ os) ≡ o ∷ first os
first-more o os e = let next : 1 + position_or_len (λ o. o == 36) os ≡ suc (position_or_len (λ o. o == 36) os) = omega arith in
    ap (λ b. take (cond (not b) (1 + position_or_len (λ o. o == 36) os) 0) (o ∷ os)) e ∙ ap (λ n. take n (o ∷ os)) next

pub rest-more : (o : ℕ) (os : List ℕ) → (o == 36) ≡ false → rest (o ∷ os) ≡ rest os
rest-more o os e = let next : 1 + position_or_len (λ o. o == 36) os + 1 ≡ suc (position_or_len (λ o. o == 36) os + 1) = omega arith in
    ap (λ b. drop (cond (not b) (1 + position_or_len (λ o. o == 36) os) 0 + 1) (o ∷ os)) e ∙ ap (λ n. drop n (o ∷ os)) next

pub first-before : (name more : List ℕ) → NoDollar name → first (name ++ 36 ∷ more) ≡ name
first-before [] more h = refl
first-before (o ∷ os) more h = first-more o (os ++ 36 ∷ more) h.0 ∙ ap (λ l. o ∷ l) (first-before os more h.1)

pub first-alone : (name : List ℕ) → NoDollar name → first name ≡ name
first-alone [] h = refl
first-alone (o ∷ os) h = first-more o os h.0 ∙ ap (λ l. o ∷ l) (first-alone os h.1)

pub rest-before : (name more : List ℕ) → NoDollar name → rest (name ++ 36 ∷ more) ≡ more
rest-before [] more h = refl
rest-before (o ∷ os) more h = rest-more o (os ++ 36 ∷ more) h.0 ∙ rest-before os more h.1

pub rest-alone : (name : List ℕ) → NoDollar name → rest name ≡ []
rest-alone [] h = refl
rest-alone (o ∷ os) h = rest-more o os h.0 ∙ rest-alone os h.1

-- of joined names
pub first-joined : (name : List ℕ) (names : List (List ℕ)) → NoDollar name → first (joined (name ∷ names)) ≡ name
first-joined name [] h = first-alone name h
first-joined name (next ∷ names) h = first-before name (joined (next ∷ names)) h

pub rest-joined : (name : List ℕ) (names : List (List ℕ)) → NoDollar name → rest (joined (name ∷ names)) ≡ joined names
rest-joined name [] h = rest-alone name h
rest-joined name (next ∷ names) h = rest-before name (joined (next ∷ names)) h

pub joined-some : (name : List ℕ) (names : List (List ℕ)) → 0 < length name → 0 < length (joined (name ∷ names))
joined-some name [] h = h
joined-some name (next ∷ names) h = omega (arith, h, length-append name (36 ∷ joined (next ∷ names)))

-- names after others
pub joined-behind : (fore : List (List ℕ)) (name : List ℕ) (names : List (List ℕ)) → 0 < length fore → joined (fore ++ name ∷ names) ≡ joined fore ++ 36 ∷ joined (name ∷ names)
joined-behind [] name names h = absurd (omega (arith, h))
joined-behind (a ∷ []) name names h = refl
joined-behind (a ∷ b ∷ fore) name names h = ap (λ l. a ++ 36 ∷ l) (joined-behind (b ∷ fore) name names (omega arith)) ∙ sym (append_assoc a (36 ∷ joined (b ∷ fore)) (36 ∷ joined (name ∷ names)))

-- as many octets as names, at least
pub joined-longer : (names more : List (List ℕ)) → ArePlain names → length names ≤ length (joined (names ++ more))
joined-longer [] more h = omega arith
joined-longer (a ∷ []) [] h = omega (arith, h.0.0)
joined-longer (a ∷ []) (m ∷ more) h = omega (arith, h.0.0, length-append a (36 ∷ joined (m ∷ more)))
joined-longer (a ∷ b ∷ names) more h = omega (arith, h.0.0, joined-longer (b ∷ names) more h.1, length-append a (36 ∷ joined ((b ∷ names) ++ more)))

-- the names are told apart by what is joined
pub same-joined : (as_ bs : List (List ℕ)) → ArePlain as_ → ArePlain bs → joined as_ ≡ joined bs → as_ ≡ bs
same-joined [] [] h k e = refl
same-joined [] (b ∷ bs) h k e = absurd (omega (arith, joined-some b bs k.0.0, ap length e))
same-joined (a ∷ as_) [] h k e = absurd (omega (arith, joined-some a as_ h.0.0, ap length e))
same-joined (a ∷ as_) (b ∷ bs) h k e =
    let head : a ≡ b = sym (first-joined a as_ h.0.1) ∙ (ap first e ∙ first-joined b bs k.0.1) in
    let tail : as_ ≡ bs = same-joined as_ bs h.1 k.1 (sym (rest-joined a as_ h.0.1) ∙ (ap rest e ∙ rest-joined b bs k.0.1)) in
    ap (λ x. x ∷ as_) head ∙ ap (λ l. b ∷ l) tail

-- an item goes on after its first name, or is that
pub split-at : (item : List ℕ) → (item ≡ first item ++ 36 ∷ rest item) ⊎ (item ≡ first item)
split-at [] = inr refl
split-at (o ∷ os) = by (eqb_tells o 36) (split-at os) where
  by : ((o == 36) ≡ true × (o ≡ 36)) ⊎ ((o == 36) ≡ false × (o ≡ 36 → ⊥)) → (os ≡ first os ++ 36 ∷ rest os) ⊎ (os ≡ first os) → ((o ∷ os) ≡ first (o ∷ os) ++ 36 ∷ rest (o ∷ os)) ⊎ ((o ∷ os) ≡ first (o ∷ os))
  by (inl t) go = inl (subst (λ x. (x ∷ os) ≡ first (x ∷ os) ++ 36 ∷ rest (x ∷ os)) (sym t.1) refl)
  by (inr t) (inl s) = inl (ap (λ l. o ∷ l) s ∙ sym (ap₂ (λ f r. f ++ 36 ∷ r) (first-more o os t.0) (rest-more o os t.0)))
  by (inr t) (inr s) = inr (ap (λ l. o ∷ l) s ∙ sym (first-more o os t.0))
