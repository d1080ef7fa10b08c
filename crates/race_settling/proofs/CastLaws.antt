-- The actors of a plan: their numbers fall, and each is to do what its script has.
use Rattle.std.proofs.Common.{◌≡◌, ◌≤◌, ◌<◌, ◌+◌, ◌^◌, ◌==◌, ℕ, zero, suc, cond, List, [], ◌∷◌, ◌++◌, length, map, get_or, eq-eqb, refl, sym, ap, subst, ◌∙◌, arith, inl, inr, append_assoc, append-nil}
use Rattle.std.specs.Prelude.{Option, None, Some}
use Rattle.std.specs.List.{All}
use Rattle.std.proofs.lemmas.Bool.Decides.{eqb_tells}
use Rattle.std.proofs.lemmas.List.{length-map}
use Rattle.std.proofs.lemmas.List.Elements.{All-nil, All-cons, All-push}
use Rattle.sv_base.specs.declared.config.Config.{Config}
use Rattle.bay_model.specs.Answers.{History}
use Rattle.script_plans.specs.Plans.{Script, Plan, script_of, script_turns}
use Rattle.script_plans.specs.Sound.{IsScriptOrNone, IsSound}
use Rattle.actor_scripts.specs.Actors.{AreFalling, CanPlay}
use Rattle.actor_scripts.specs.Stops.{AreFit}
use Rattle.actor_scripts.specs.Scripts.{turns_by}
use Rattle.actor_scripts.specs.declared.script.Actor.{Actor}
use Rattle.actor_scripts.specs.declared.script.Script.{Script as Part}
use Rattle.actor_scripts.specs.declared.script.TimedStep.{TimedStep}
use Rattle.race_records.specs.Known.{Role as Known, role_of, roles_from, AreScripts, turns_among, AreOfPlan}
use Rattle.race_settling.specs.Casting.{script_steps, role_steps, cast_one, cast_from}
use Rattle.race_settling.specs.declared.casting.Role.{Role}

abbrev Roles : Type 0
Roles = List (Option Role)

abbrev nobody : Option Role
nobody = None

-- ---- scripts that were gone over

none-left : (xs : List (Option Script)) → length xs ≡ 0 → xs ≡ []
none-left [] e = refl
none-left (x ∷ xs) e = absurd (omega (arith, e))

pub all-yielded : (done rest all : List (Option Script)) → length rest ≡ 0 → done ++ rest ≡ all → done ≡ all
all-yielded done rest all none is = sym (append-nil done) ∙ (ap (λ (xs : List (Option Script)). done ++ xs) (sym (none-left rest none)) ∙ is)

-- ---- actors are cast one by one, the one with the highest number first

cast-last : (n : ℕ) (rs : Roles) (r : Option Role) → cast_from n (rs ++ r ∷ []) ≡ cast_one (n + length rs) r ++ cast_from n rs
cast-last n [] None = refl
cast-last n [] (Some r) = let same : n ≡ n + 0 = omega arith in ap (λ k. record { actor = k; steps = r.steps } ∷ []) same
cast-last n (None ∷ rs) r =
    let same : suc n + length rs ≡ n + suc (length rs) = omega arith in
    cast-last (suc n) rs r ∙ ap (λ k. cast_one k r ++ cast_from (suc n) rs) same
cast-last n (Some x ∷ rs) r =
    let same : suc n + length rs ≡ n + suc (length rs) = omega arith in
    let one : List Part = record { actor = n; steps = x.steps } ∷ [] in
    ap (λ (l : List Part). l ++ one) (cast-last (suc n) rs r ∙ ap (λ k. cast_one k r ++ cast_from (suc n) rs) same) ∙ append_assoc (cast_one (n + suc (length rs)) r) (cast_from (suc n) rs) one

-- one more is cast
pub cast-more : (actors : List Part) (now : List Part) (old rs : Roles) (r : Option Role) (number : ℕ) (whole : List Part) → old ≡ rs ++ r ∷ [] → number ≡ length rs → actors ++ cast_from 0 old ≡ whole → now ≡ actors ++ cast_one number r
    → now ++ cast_from 0 rs ≡ whole
cast-more actors now old rs r number whole popped is so_far made =
    let same : number ≡ 0 + length rs = omega (arith, is) in
    ap (λ (l : List Part). l ++ cast_from 0 rs) (made ∙ ap (λ k. actors ++ cast_one k r) same)
    ∙ (append_assoc actors (cast_one (0 + length rs) r) (cast_from 0 rs)
    ∙ (ap (λ (l : List Part). actors ++ l) (sym (cast-last 0 rs r)) ∙ (ap (λ l. actors ++ cast_from 0 l) (sym popped) ∙ so_far)))

-- all are cast
pub cast-all : (actors whole : List Part) (rs : Roles) → rs ≡ [] → actors ++ cast_from 0 rs ≡ whole → actors ≡ whole
cast-all actors whole rs none so_far = sym (append-nil actors) ∙ (ap (λ l. actors ++ cast_from 0 l) (sym none) ∙ so_far)

-- ---- numbers

abbrev AllAbove : ℕ → List Part → Type 0
AllAbove n [] = Unit {0}
AllAbove n (s ∷ ss) = (n ≤ s.actor) × AllAbove n ss

above-push : (n : ℕ) (ss : List Part) (s : Part) → AllAbove n ss → n ≤ s.actor → AllAbove n (ss ++ s ∷ [])
above-push n [] s all le = (le, tt)
above-push n (x ∷ xs) s all le = (all.0, above-push n xs s all.1 le)

above-less : (m n : ℕ) (ss : List Part) → m ≤ n → AllAbove n ss → AllAbove m ss
above-less m n [] le all = tt
above-less m n (x ∷ xs) le all = (omega (arith, le, all.0), above-less m n xs le all.1)

cast-above : (n : ℕ) (rs : Roles) → AllAbove n (cast_from n rs)
cast-above n [] = tt
cast-above n (None ∷ rs) = above-less n (suc n) (cast_from (suc n) rs) (omega arith) (cast-above (suc n) rs)
cast-above n (Some r ∷ rs) = above-push n (cast_from (suc n) rs) (record { actor = n; steps = r.steps }) (above-less n (suc n) (cast_from (suc n) rs) (omega arith) (cast-above (suc n) rs)) (omega arith)

abbrev numbers : List Part → List ℕ
numbers ss = map (λ (s : Part). s.actor) ss

falls-push : (high : ℕ) (ss : List Part) (s : Part) → AreFalling high (numbers ss) → AllAbove (suc s.actor) ss → 0 < s.actor → s.actor < high → AreFalling high (numbers (ss ++ s ∷ []))
falls-push high [] s falls above some low = (some, low, tt)
falls-push high (x ∷ xs) s falls above some low = (falls.0, falls.1, falls-push x.actor xs s falls.2 above.1 some (omega (arith, above.0)))

cast-falls : (high n : ℕ) (rs : Roles) → 0 < n → n + length rs ≤ high → AreFalling high (numbers (cast_from n rs))
cast-falls high n [] some low = tt
cast-falls high n (None ∷ rs) some low = cast-falls high (suc n) rs (omega arith) (omega (arith, low))
cast-falls high n (Some r ∷ rs) some low =
    falls-push high (cast_from (suc n) rs) (record { actor = n; steps = r.steps }) (cast-falls high (suc n) rs (omega arith) (omega (arith, low))) (cast-above (suc n) rs) some (omega (arith, low))

-- ---- turns

turns-none : (m : ℕ) (ss : List Part) (k : ℕ) → k < m → AllAbove m ss → turns_among ss k ≡ []
turns-none m [] k low above = refl
turns-none m (s ∷ ss) k low above = elim (eqb_tells s.actor k) [
  | inl t ↦ absurd (omega (arith, t.1, low, above.0))
  | inr t ↦ ap (λ b. cond b (turns_by k s.steps.items) (turns_among ss k)) t.0 ∙ turns-none m ss k low above.1
]

turns-last : (m : ℕ) (ss : List Part) (s : Part) (k : ℕ) → k < m → AllAbove m ss → turns_among (ss ++ s ∷ []) k ≡ turns_among (s ∷ []) k
turns-last m [] s k low above = refl
turns-last m (x ∷ xs) s k low above = elim (eqb_tells x.actor k) [
  | inl t ↦ absurd (omega (arith, t.1, low, above.0))
  | inr t ↦ ap (λ b. cond b (turns_by k x.steps.items) (turns_among (xs ++ s ∷ []) k)) t.0 ∙ turns-last m xs s k low above.1
]

turns-other : (ss : List Part) (s : Part) (k : ℕ) → (s.actor ≡ k → ⊥) → turns_among (ss ++ s ∷ []) k ≡ turns_among ss k
turns-other [] s k other = elim (eqb_tells s.actor k) [ inl t ↦ absurd (other t.1) | inr t ↦ ap (λ b. cond b (turns_by k s.steps.items) []) t.0 ]
turns-other (x ∷ xs) s k other = ap (cond (x.actor == k) (turns_by k x.steps.items)) (turns-other xs s k other)

abbrev steps_turns : ℕ → Option (List TimedStep) → History
steps_turns k None = []
steps_turns k (Some steps) = turns_by k steps

cast-turns : (n : ℕ) (rs : Roles) (j k : ℕ) → k ≡ n + j → turns_among (cast_from n rs) k ≡ steps_turns k (role_steps (get_or rs j nobody))
cast-turns n [] j k is = refl
cast-turns n (None ∷ rs) zero k is = turns-none (suc n) (cast_from (suc n) rs) k (omega (arith, is)) (cast-above (suc n) rs)
cast-turns n (None ∷ rs) (suc j) k is = cast-turns (suc n) rs j k (omega (arith, is))
cast-turns n (Some r ∷ rs) zero k is =
    let mine : n ≡ k = omega (arith, is) in
    turns-last (suc n) (cast_from (suc n) rs) (record { actor = n; steps = r.steps }) k (omega (arith, is)) (cast-above (suc n) rs) ∙ ap (λ b. cond b (turns_by k r.steps.items) []) (eq-eqb n k mine)
cast-turns n (Some r ∷ rs) (suc j) k is =
    turns-other (cast_from (suc n) rs) (record { actor = n; steps = r.steps }) k (λ e. absurd (omega (arith, e, is))) ∙ cast-turns (suc n) rs j k (omega (arith, is))

-- ---- what they can run

abbrev FitsOrNone : Config → Option (List TimedStep) → Type 0
FitsOrNone c None = Unit {0}
FitsOrNone c (Some steps) = AreFit c steps × (length steps ≤ 2 ^ 55)

cast-plays : (c : Config) (n : ℕ) (rs : Roles) → ((j : ℕ) → FitsOrNone c (role_steps (get_or rs j nobody))) → All (λ (s : Part). CanPlay c s) (cast_from n rs)
cast-plays c n [] fit = All-nil (λ (s : Part). CanPlay c s)
cast-plays c n (None ∷ rs) fit = cast-plays c (suc n) rs (λ j. fit (suc j))
cast-plays c n (Some r ∷ rs) fit = All-push (λ (s : Part). CanPlay c s) (cast_from (suc n) rs) (record { actor = n; steps = r.steps }) (cast-plays c (suc n) rs (λ j. fit (suc j))) (fit 0)

-- ---- of a plan

role-at : (rs : Roles) (k : ℕ) → get_or (map role_steps rs) k None ≡ role_steps (get_or rs k nobody)
role-at [] k = refl
role-at (r ∷ rs) zero = refl
role-at (r ∷ rs) (suc k) = role-at rs k

script-at : (ss : List (Option Script)) (k : ℕ) → get_or (map script_steps ss) k None ≡ script_steps (get_or ss k None)
script-at [] k = refl
script-at (s ∷ ss) zero = refl
script-at (s ∷ ss) (suc k) = script-at ss k

script-turns : (k : ℕ) (o : Option Script) → steps_turns k (script_steps o) ≡ script_turns k o
script-turns k None = refl
script-turns k (Some s) = refl

script-fits : (c : Config) (k : ℕ) (o : Option Script) → IsScriptOrNone c k o → FitsOrNone c (script_steps o)
script-fits c k None is = tt
script-fits c k (Some s) is = (is.fit, omega (arith, is.short))

script-none : (c : Config) (o : Option Script) → IsScriptOrNone c 0 o → script_steps o ≡ None
script-none c None is = refl
script-none c (Some s) is = absurd (omega (arith, is.some))

falls-first : (rs : Roles) → length rs ≡ 33 → role_steps (get_or rs 0 nobody) ≡ None → AreFalling 33 (numbers (cast_from 0 rs))
falls-first [] long none = tt
falls-first (None ∷ rs) long none = cast-falls 33 1 rs (omega arith) (omega (arith, long))
falls-first (Some r ∷ rs) long none = absurd (cc none)

-- the actors have the numbers and the steps of the scripts
roles-push : (ss : List Part) (s : Part) → map role_of (ss ++ s ∷ []) ≡ map role_of ss ++ role_of s ∷ []
roles-push [] s = refl
roles-push (x ∷ xs) s = ap (λ (l : List Known). role_of x ∷ l) (roles-push xs s)

cast-roles : (n : ℕ) (rs : Roles) (ss : List (Option Script)) → map role_steps rs ≡ map script_steps ss → map role_of (cast_from n rs) ≡ roles_from n ss
cast-roles n [] [] same = refl
cast-roles n [] (s ∷ ss) same = absurd (cc same)
cast-roles n (r ∷ rs) [] same = absurd (cc same)
cast-roles n (None ∷ rs) (None ∷ ss) same = cast-roles (suc n) rs ss (cc same)
cast-roles n (None ∷ rs) (Some s ∷ ss) same = absurd (cc same)
cast-roles n (Some r ∷ rs) (None ∷ ss) same = absurd (cc same)
cast-roles n (Some r ∷ rs) (Some s ∷ ss) same =
    let steps : r.steps.items ≡ s.steps = cc same in
    roles-push (cast_from (suc n) rs) (record { actor = n; steps = r.steps })
    ∙ (ap (λ (l : List Known). l ++ (n, r.steps.items) ∷ []) (cast-roles (suc n) rs ss (cc same)) ∙ ap (λ st. roles_from (suc n) ss ++ (n, st) ∷ []) steps)

module _ (p : Plan) (sound : IsSound p) (rs : Roles) (same : map role_steps rs ≡ map script_steps p.scripts) where
  role-is : (k : ℕ) → role_steps (get_or rs k nobody) ≡ script_steps (script_of p k)
  role-is k = sym (role-at rs k) ∙ (ap (λ l. get_or l k None) same ∙ script-at p.scripts k)

  many : length rs ≡ 33
  many = sym (length-map rs role_steps) ∙ (ap (λ (l : List (Option (List TimedStep))). length l) same ∙ (length-map p.scripts script_steps ∙ sound.places))

  pub plan-falls : AreFalling 33 (numbers (cast_from 0 rs))
  plan-falls = falls-first rs many (role-is 0 ∙ script-none p.config (script_of p 0) (sound.scripts 0))

  pub plan-plays : All (λ (s : Part). CanPlay p.config s) (cast_from 0 rs)
  plan-plays = cast-plays p.config 0 rs (λ k. subst (FitsOrNone p.config) (sym (role-is k)) (script-fits p.config k (script_of p k) (sound.scripts k)))

  pub plan-turns : AreOfPlan p (cast_from 0 rs)
  plan-turns k = let same : k ≡ 0 + k = omega arith in cast-turns 0 rs k k same ∙ (ap (steps_turns k) (role-is k) ∙ script-turns k (script_of p k))

  pub plan-roles : AreScripts p (cast_from 0 rs)
  plan-roles = cast-roles 0 rs p.scripts same

-- ---- the scripts of actors

pub numbers-of : {X : Type 0} (xs : List (Actor X)) → numbers (map (λ (a : Actor X). a.script) xs) ≡ map (λ (a : Actor X). a.script.actor) xs
numbers-of [] = refl
numbers-of (a ∷ xs) = ap (λ (l : List ℕ). a.script.actor ∷ l) (numbers-of xs)

pub of-scripts : {X : Type 0} (P : Part → Type 0) (xs : List (Actor X)) → All P (map (λ (a : Actor X). a.script) xs) → All (λ (a : Actor X). P a.script) xs
of-scripts P [] all = All-nil (λ (a : Actor _). P a.script)
of-scripts P (a ∷ xs) all = All-cons (λ (a : Actor _). P a.script) a xs (all 0 a.script (omega arith)) (of-scripts P xs (λ i d near. all (suc i) d (omega (arith, near))))
