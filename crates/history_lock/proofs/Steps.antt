-- The steps of one actor, and histories of which one goes on from the other.
use Rattle.std.proofs.Common.{◌≡◌, ℕ, ◌≤◌, ◌≢◌, [], ◌∷◌, ◌++◌, length, sym, refl, ap, ◌∙◌, arith, cond, Bool, true, false, eqb, eq-eqb, ne_eqb, length-append}
use Rattle.bay_model.specs.Answers.{Turn, History}
use Rattle.bay_histories.specs.Histories.{IsEarlier, by}

cond_append : (b : Bool) (t : Turn) (xs ys : History) → cond b (t ∷ (xs ++ ys)) (xs ++ ys) ≡ cond b (t ∷ xs) xs ++ ys
cond_append true t xs ys = refl
cond_append false t xs ys = refl

pub by-append : (k : ℕ) (xs ys : History) → by k (xs ++ ys) ≡ by k xs ++ by k ys
by-append k [] ys = refl
by-append k (t ∷ h) ys = ap (λ zs. cond (eqb t.actor k) (t ∷ zs) zs) (by-append k h ys) ∙ cond_append (eqb t.actor k) t (by k h) (by k ys)

pub by_mine : (k : ℕ) (h : History) (t : Turn) → t.actor ≡ k → by k (t ∷ h) ≡ t ∷ by k h
by_mine k h t is = ap (λ b. cond b (t ∷ by k h) (by k h)) (eq-eqb t.actor k is)

pub by_none : (k : ℕ) (h : History) (t : Turn) → t.actor ≢ k → by k (t ∷ h) ≡ by k h
by_none k h t ne = ap (λ b. cond b (t ∷ by k h) (by k h)) (ne_eqb t.actor k ne)

pub nothing_more : (xs ys : History) → ys ++ xs ≡ xs → ys ≡ []
nothing_more xs [] e = refl
nothing_more xs (y ∷ ys) e = let n : length (y ∷ (ys ++ xs)) ≡ length xs = ap length e in absurd (omega (arith, n, length-append ys xs))

pub earlier_self : (h : History) → IsEarlier h h
earlier_self h = ([], refl)

pub earlier_more : (h log : History) (t : Turn) → IsEarlier h log → IsEarlier h (t ∷ log)
earlier_more h log t p = (t ∷ p.0, ap (λ (l : History). t ∷ l) p.1)

-- where both have seen one history, the longer goes on from the shorter
earlier_rest : (ps qs xs ys : History) → ps ++ xs ≡ qs ++ ys → length xs ≤ length ys → IsEarlier xs ys
earlier_rest ps [] xs ys e le = (ps, e)
earlier_rest [] (b ∷ qs) xs ys e le = let n : length xs ≡ length (b ∷ (qs ++ ys)) = ap length e in absurd (omega (arith, n, le, length-append qs ys))
earlier_rest (a ∷ ps) (b ∷ qs) xs ys e le = earlier_rest ps qs xs ys (cc e) le

pub earlier_shorter : (xs ys zs : History) → IsEarlier xs zs → IsEarlier ys zs → length xs ≤ length ys → IsEarlier xs ys
earlier_shorter xs ys zs p q le = earlier_rest p.0 q.0 xs ys (p.1 ∙ sym q.1) le

-- a history has all steps of k where a shorter one has
pub by_between : (k : ℕ) (xs ys zs : History) → IsEarlier xs ys → IsEarlier ys zs → by k zs ≡ by k xs → by k zs ≡ by k ys
by_between k xs ys zs p q e =
    let a : by k q.0 ++ by k ys ≡ by k zs = sym (by-append k q.0 ys) ∙ ap (by k) q.1 in
    let b : by k p.0 ++ by k xs ≡ by k ys = sym (by-append k p.0 xs) ∙ ap (by k) p.1 in
    let n : length (by k q.0 ++ by k ys) ≡ length (by k zs) = ap length a in
    let m : length (by k p.0 ++ by k xs) ≡ length (by k ys) = ap length b in
    let o : length (by k zs) ≡ length (by k xs) = ap length e in
    let short : length (by k q.0) ≡ 0 = omega (arith, n, m, o, length-append (by k q.0) (by k ys), length-append (by k p.0) (by k xs)) in
    sym a ∙ ap (λ (w : History). w ++ by k ys) (is_empty (by k q.0) short)
  where
    is_empty : (l : History) → length l ≡ 0 → l ≡ []
    is_empty [] e = refl
    is_empty (x ∷ xs) e = absurd (omega arith)
