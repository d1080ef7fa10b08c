-- Each script of a plan finds its gate, since it has a place of its own.
use Rattle.std.proofs.Common.{◌≡◌, ◌≢◌, ◌<◌, ℕ, zero, suc, List, [], ◌∷◌, ◌++◌, length, map, get_or, refl, sym, ap, subst, ◌∙◌, arith, get_or-set_other, append-nil}
use Rattle.std.specs.Prelude.{Option, None, Some, is_some, slice_set}
use Rattle.actor_scripts.proofs.Lists.{map_last}
use Rattle.script_plans.specs.Plans.{Script, Plan}
use Rattle.script_plans.specs.Sound.{IsPlacedBelow, ArePlacedApart, IsSound}
use Rattle.race_settling.specs.Casting.{script_place, role_place, NoneIs, AreSeats, HasGate, HaveGates, without_gate}
use Rattle.race_settling.specs.declared.casting.Role.{Role}

abbrev Seats : Type 0
Seats = List (Option ℕ)

-- ---- the last of them

none-front : (n : ℕ) (os : Seats) (o : Option ℕ) → NoneIs n (os ++ o ∷ []) → NoneIs n os
none-front n [] o none = tt
none-front n (None ∷ os) o none = none-front n os o none
none-front n (Some m ∷ os) o none = (none.0, none-front n os o none.1)

seats-front : (os : Seats) (o : Option ℕ) → AreSeats (os ++ o ∷ []) → AreSeats os
seats-front [] o are = tt
seats-front (None ∷ os) o are = seats-front os o are
seats-front (Some n ∷ os) o are = (are.0, none-front n os o are.1, seats-front os o are.2)

none-last : (n m : ℕ) (os : Seats) → NoneIs n (os ++ Some m ∷ []) → m ≢ n
none-last n m [] none = none.0
none-last n m (None ∷ os) none = none-last n m os none
none-last n m (Some x ∷ os) none = none-last n m os none.1

last-apart : (os : Seats) (m : ℕ) → AreSeats (os ++ Some m ∷ []) → NoneIs m os
last-apart [] m are = tt
last-apart (None ∷ os) m are = last-apart os m are
last-apart (Some n ∷ os) m are = (λ same. none-last n m os are.1 (sym same), last-apart os m are.2)

gates-front : {G : Type 0} (gates : List (Option G)) (os : Seats) (o : Option ℕ) → HaveGates gates (os ++ o ∷ []) → HaveGates gates os
gates-front gates [] o have = tt
gates-front gates (None ∷ os) o have = gates-front gates os o have
gates-front gates (Some n ∷ os) o have = (have.0, gates-front gates os o have.1)

pub gates-last : {G : Type 0} (gates : List (Option G)) (os : Seats) (o : Option ℕ) → HaveGates gates (os ++ o ∷ []) → HaveGates gates (o ∷ [])
gates-last gates [] o have = have
gates-last gates (None ∷ os) o have = gates-last gates os o have
gates-last gates (Some n ∷ os) o have = gates-last gates os o have.1

abbrev no_gate : {G : Type 0} → Option G
no_gate = None

still-gate : {G : Type 0} (gates : List (Option G)) (m n : ℕ) → n ≢ m → HasGate gates n → HasGate (slice_set gates m no_gate) n
still-gate gates m n other has = ap is_some (get_or-set_other gates m n no_gate no_gate other) ∙ has

still-gates : {G : Type 0} (gates : List (Option G)) (m : ℕ) (os : Seats) → NoneIs m os → HaveGates gates os → HaveGates (slice_set gates m no_gate) os
still-gates gates m [] none have = tt
still-gates gates m (None ∷ os) none have = still-gates gates m os none have
still-gates gates m (Some n ∷ os) none have = (still-gate gates m n none.0 have.0, still-gates gates m os none.1 have.1)

left-gates : {G : Type 0} (gates : List (Option G)) (os : Seats) (o : Option ℕ) → AreSeats (os ++ o ∷ []) → HaveGates gates (os ++ o ∷ []) → HaveGates (without_gate gates o) os
left-gates gates os None are have = gates-front gates os None have
left-gates gates os (Some m) are have = still-gates gates m os (last-apart os m are) (gates-front gates os (Some m) have)

-- one role is taken from the end
pub one-cast : {G : Type 0} (gates left : List (Option G)) (old rs : List (Option Role)) (r : Option Role) → old ≡ rs ++ r ∷ [] → AreSeats (map role_place old) → HaveGates gates (map role_place old)
    → left ≡ without_gate gates (role_place r) → AreSeats (map role_place rs) × HaveGates left (map role_place rs)
one-cast gates left old rs r is are have taken =
    let places : map role_place old ≡ map role_place rs ++ role_place r ∷ [] = ap (map role_place) is ∙ map_last role_place rs r in
    let seats = subst AreSeats places are in
    let there = subst (HaveGates gates) places have in (
      seats-front (map role_place rs) (role_place r) seats,
      subst (λ l. HaveGates l (map role_place rs)) (sym taken) (left-gates gates (map role_place rs) (role_place r) seats there),
    )

pub last-gate : {G : Type 0} (gates : List (Option G)) (old rs : List (Option Role)) (r : Option Role) → old ≡ rs ++ r ∷ [] → HaveGates gates (map role_place old) → HaveGates gates (role_place r ∷ [])
last-gate gates old rs r is have = gates-last gates (map role_place rs) (role_place r) (subst (HaveGates gates) (ap (map role_place) is ∙ map_last role_place rs r) have)

-- ---- at first

none-left : {X : Type 0} (xs : List X) → length xs ≡ 0 → xs ≡ []
none-left [] e = refl
none-left (x ∷ xs) e = absurd (omega (arith, e))

pub every-yielded : {X : Type 0} (done rest all : List X) → length rest ≡ 0 → done ++ rest ≡ all → done ≡ all
every-yielded done rest all none is = sym (append-nil done) ∙ (ap (λ (xs : List _). done ++ xs) (sym (none-left rest none)) ∙ is)

some-gate : {G : Type 0} (xs : List G) (n : ℕ) → n < length xs → HasGate (map Some xs) n
some-gate [] n low = absurd (omega (arith, low))
some-gate (x ∷ xs) zero low = refl
some-gate (x ∷ xs) (suc n) low = some-gate xs n (omega (arith, low))

pub all-gates : {G : Type 0} (xs : List G) (os : Seats) → length xs ≡ 16 → AreSeats os → HaveGates (map Some xs) os
all-gates xs [] many are = tt
all-gates xs (None ∷ os) many are = all-gates xs os many are
all-gates xs (Some n ∷ os) many are = (some-gate xs n (omega (arith, are.0, many)), all-gates xs os many are.2)

-- ---- of a plan

abbrev At : List (Option Script) → ℕ → Option Script
At ss k = get_or ss k None

none-among : (s : Script) (ss : List (Option Script)) → ((k : ℕ) → ArePlacedApart (Some s) (At ss k)) → NoneIs s.place (map script_place ss)
none-among s [] apart = tt
none-among s (None ∷ ss) apart = none-among s ss (λ k. apart (suc k))
none-among s (Some t ∷ ss) apart = (λ same. apart 0 (sym same), none-among s ss (λ k. apart (suc k)))

suc-apart : (j k : ℕ) → j ≢ k → suc j ≢ suc k
suc-apart j k other same = other (omega (arith, same))

seats-of : (ss : List (Option Script)) → ((k : ℕ) → IsPlacedBelow 16 (At ss k)) → ((j k : ℕ) → j ≢ k → ArePlacedApart (At ss j) (At ss k)) → AreSeats (map script_place ss)
seats-of [] low apart = tt
seats-of (None ∷ ss) low apart = seats-of ss (λ k. low (suc k)) (λ j k other. apart (suc j) (suc k) (suc-apart j k other))
seats-of (Some s ∷ ss) low apart = (
  low 0,
  none-among s ss (λ k. apart 0 (suc k) (λ same. omega (arith, same))),
  seats-of ss (λ k. low (suc k)) (λ j k other. apart (suc j) (suc k) (suc-apart j k other)),
)

pub plan-seats : (p : Plan) → IsSound p → AreSeats (map script_place p.scripts)
plan-seats p sound = seats-of p.scripts sound.low sound.apart
