-- Passes that were split, joined and compared.
use Rattle.std.proofs.Common.{◌≡◌, ℕ, ◌≢◌, ◌⊎◌, List, [], ◌∷◌, ◌++◌, length, Ok, Err, sym, refl, ap, ◌∙◌, subst, inl, inr, ⊎_elim, arith, length-append}
use Rattle.bay_model.specs.Answers.{History}
use Rattle.bay_histories.specs.Rules.{Rules}
use Rattle.bay_histories.specs.Histories.{IsEarlier, turn_of, by}
use Rattle.history_lock.specs.declared.fault.TurnFault.TheVariants as faults
use Rattle.history_lock.specs.Passes.{Known, IsIn, InSome, HasNumber, Turned, Joined, Became, itself, was_split, made_turn, took_in, was_taken_in, IsBehind, AreOfOne}
use Rattle.history_lock.proofs.Steps.{by-append, by_none}

in_left : (k : ℕ) (xs ys : List (ℕ × ℕ)) → InSome k xs → InSome k (xs ++ ys)
in_left k [] ys h = absurd h
in_left k (x ∷ xs) ys h = ⊎_elim (λ (i : IsIn k x). inl i) (λ (i : InSome k xs). inr (in_left k xs ys i)) h

in_right : (k : ℕ) (xs ys : List (ℕ × ℕ)) → InSome k ys → InSome k (xs ++ ys)
in_right k [] ys h = h
in_right k (x ∷ xs) ys h = inr (in_right k xs ys h)

ranges_of : (p q r : Known) → Joined p q r → (r.first, r.count) ∷ r.joined ≡ ((p.first, p.count) ∷ p.joined) ++ (q.first, q.count) ∷ q.joined
ranges_of p q r j = λ i. (j.place.2 i, j.place.3 i) ∷ j.ranges i

-- a pass that took in another has the numbers of both
pub has_ours : (k : ℕ) (p q r : Known) → Joined p q r → HasNumber p k → HasNumber r k
has_ours k p q r j has = subst (InSome k) (sym (ranges_of p q r j)) (in_left k ((p.first, p.count) ∷ p.joined) ((q.first, q.count) ∷ q.joined) has)

pub has_theirs : (k : ℕ) (p q r : Known) → Joined p q r → HasNumber q k → HasNumber r k
has_theirs k p q r j has = subst (InSome k) (sym (ranges_of p q r j)) (in_right k ((p.first, p.count) ∷ p.joined) ((q.first, q.count) ∷ q.joined) has)

-- what a pass holds of the number k and of the list l
abbrev Holds : ℕ → History → Known → Type 0
Holds k l r = HasNumber r k × (by k r.seen ≡ l)

-- others made the steps between
between_none : (k : ℕ) (between seen : History) → by k between ≡ [] → by k (between ++ seen) ≡ by k seen
between_none k between seen none = by-append k between seen ∙ ap (λ (l : History). l ++ by k seen) none

after_turn : (rules : Rules) (k : ℕ) (l : History) (p r : Known) (moment : ℕ) (step : _) (result : _) → Holds k l p → p.first ≢ k → Turned rules p moment step result r → Holds k l r
after_turn rules k l p r moment step (Ok x) h other t =
    let none = between_none k t.1 p.seen (t.2 k h.0) in
    subst (Holds k l) (sym t.3.0) (h.0, by_none k (t.1 ++ p.seen) (turn_of moment p.first step) other ∙ (none ∙ h.1))
after_turn rules k l p r moment step (Err faults.Ended) h other t = subst (Holds k l) (sym t.1) h
after_turn rules k l p r moment step (Err (faults.Step f)) h other t = subst (Holds k l) (sym t.3.0) (h.0, between_none k t.1 p.seen (t.2 k h.0) ∙ h.1)

-- a pass that another became has seen of its number what the other had
pub became : (rules : Rules) (k : ℕ) (q r : Known) → Became rules k q r → Holds k (by k q.seen) r
became rules k q r (itself has) = (has, refl)
became rules k q r (was_split p s numbers turns b is has) =
    (has, ⊎_elim (λ e. ap (λ (x : Known). by k x.seen) e) (λ e. ap (λ (x : Known). by k x.seen) e) is ∙ (became rules k q p b).1)
became rules k q r (made_turn p s moment step result b other t) = after_turn rules k (by k q.seen) p s moment step result (became rules k q p b) other t
became rules k q r (took_in p o s b j) = let h = became rules k q p b in (has_ours k p o s j h.0, j.ours k h.0 ∙ h.1)
became rules k q r (was_taken_in p o s b j) = let h = became rules k q o b in (has_theirs k p o s j h.0, j.theirs k h.0 ∙ h.1)

-- where each has seen what the other has, neither has seen more
no_more : (xs ys since : History) → since ++ xs ≡ ys → IsEarlier ys xs → since ≡ []
no_more xs ys [] e back = refl
no_more xs ys (t ∷ ts) e back =
    let n : length (t ∷ (ts ++ xs)) ≡ length ys = ap length e in
    let m : length (back.0 ++ ys) ≡ length xs = ap length back.1 in
    absurd (omega (arith, n, m, length-append ts xs, length-append back.0 ys))

-- two passes of one history, where each was held beside the other
pub of_one : (p q : Known) → IsBehind p q ⊎ IsEarlier q.seen p.seen → IsBehind q p ⊎ IsEarlier p.seen q.seen → AreOfOne p q
of_one p q a b =
    ⊎_elim (λ (x : IsBehind p q). inl x) (λ (e : IsEarlier q.seen p.seen).
    ⊎_elim (λ (y : IsBehind q p). inr y) (λ (f : IsEarlier p.seen q.seen).
    inl (f.0, f.1, (λ k has. ap (by k) (no_more p.seen q.seen f.0 f.1 e)))) b) a
