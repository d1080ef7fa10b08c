-- The lines of a script at whose requests its own bound is 16.
use Rattle.std.proofs.Common.{◌≡◌, ◌≤◌, ◌+◌, ◌==◌, ◌⊎◌, inl, inr, ℕ, zero, suc, Bool, true, false, List, [], ◌∷◌, take, get_or, refl, sym, ap, ◌∙◌, arith}
use Rattle.std.specs.Prelude.{min, Option, None, Some, slice_get, if◌then◌else◌}
use Rattle.std.proofs.lemmas.Bool.Decides.{leb_tells, nat_tests}
use Rattle.bay_model.specs.declared.step.Step.{Step}
use Rattle.bay_model.specs.declared.step.Step.TheVariants as steps
use Rattle.bay_model.specs.Model.{Model}
use Rattle.bay_model.specs.Named.{configured_model}
use Rattle.bay_model.specs.Answers.{History}
use Rattle.bay_histories.specs.Histories as histories
use Rattle.actor_scripts.specs.Scripts.{turns_onto}
use Rattle.actor_scripts.specs.declared.script.TimedStep.{TimedStep}
use Rattle.history_laws.specs.Opers.{opers_by}
use Rattle.history_laws.specs.Queues.{waits_behind, waits, opers_behind, opers}
use Rattle.script_plans.specs.Plans.{Script, Plan, script_of}
use Rattle.script_plans.specs.declared.line.StepLine.{StepLine}
use Rattle.race_records.specs.Verdicts.{lesser}
use Rattle.race_records.specs.Bounds.{is_beyond, first_beyond, beyond_in, lowest_from, lowest_beyond, IsBeyond, IsBeyondIn, IsBeyondOf, WriteNoOper}
use Rattle.race_records.proofs.Owns.{NeverFull}

-- at a greater number there is no capacity left
pub more-beyond : (n m : ℕ) (s : Step) → n ≤ m → is_beyond n s ≡ true → is_beyond m s ≡ true
more-beyond n m (steps.Ask e r) le h = grind (arith, nat_tests)
more-beyond n m (steps.Open e size writer owner) le h = h
more-beyond n m (steps.Write e b comp v) le h = h
more-beyond n m (steps.Take e) le h = h
more-beyond n m (steps.Lost e) le h = h
more-beyond n m (steps.Value settings) le h = h
more-beyond n m (steps.Done x good) le h = h
more-beyond n m (steps.Block x flag) le h = h
more-beyond n m steps.Tick le h = h

-- there is capacity for each request of these steps, where n replies wait before them
abbrev pub NoneBeyond : ℕ → ℕ → List TimedStep → Type 0
NoneBeyond k n [] = Unit {0}
NoneBeyond k n (s ∷ ss) = (is_beyond n s.step ≡ false) × NoneBeyond k (waits_behind k s.step n) ss

pub forwards : (k : ℕ) (ss : List TimedStep) (turns : History) → NeverFull k (turns_onto k ss turns) → NoneBeyond k (waits k turns) ss × NeverFull k turns
forwards k [] turns full = (tt, full)
forwards k (s ∷ ss) turns full =
    let rest = forwards k ss (histories.turn_of s.moment k s.step ∷ turns) full in
    ((rest.1.1, rest.0), rest.1.0)

module _ (c : Model) (k : ℕ) where
  -- the bound is below 16 at each of them
  abbrev pub NoneBound : ℕ → ℕ → List TimedStep → Type 0
  NoneBound n m [] = Unit {0}
  NoneBound n m (s ∷ ss) = (is_beyond (n + m) s.step ≡ false) × NoneBound (waits_behind k s.step n) (opers_behind c k s.step m) ss

  -- ---- where no step writes an Oper

  idle : (s : Step) (m : ℕ) → opers_by c s ≡ 0 → m ≡ 0 → opers_behind c k s m ≡ 0
  idle (steps.Open e size writer owner) m none is = either (e.0 == k) where
    either : (b : Bool) → (if b then 0 else m) ≡ 0
    either true = refl
    either false = is
  idle (steps.Ask e r) m none is = either (e.0 == k) where
    either : (b : Bool) → (if b then m + opers_by c (steps.Ask e r) else m) ≡ 0
    either true = omega (arith, none, is)
    either false = is
  idle (steps.Lost e) m none is = either (e.0 == k) where
    either : (b : Bool) → (if b then 0 else m) ≡ 0
    either true = refl
    either false = is
  idle (steps.Write e b comp v) m none is = is
  idle (steps.Take e) m none is = is
  idle (steps.Value settings) m none is = is
  idle (steps.Done x good) m none is = is
  idle (steps.Block x flag) m none is = is
  idle steps.Tick m none is = is

  pub front-idle : (i : ℕ) (ss : List TimedStep) → WriteNoOper c ss → WriteNoOper c (take i ss)
  front-idle zero [] none = tt
  front-idle zero (s ∷ ss) none = tt
  front-idle (suc i) [] none = tt
  front-idle (suc i) (s ∷ ss) none = (none.0, front-idle i ss none.1)

  pub bound-idle : (n m : ℕ) (ss : List TimedStep) → WriteNoOper c ss → m ≡ 0 → NoneBeyond k n ss → NoneBound n m ss
  bound-idle n m [] none is room = tt
  bound-idle n m (s ∷ ss) none is room =
      let same : n + m ≡ n = omega (arith, is) in
      (ap (λ x. is_beyond x s.step) same ∙ room.0, bound-idle (waits_behind k s.step n) (opers_behind c k s.step m) ss none.1 (idle s.step m none.0 is) room.1)

  -- ---- the first such line

  pub none-first : (n m : ℕ) (ls : List StepLine) (ss : List TimedStep) → NoneBound n m ss → first_beyond c k n m ls ss ≡ None
  none-first n m [] [] none = refl
  none-first n m [] (s ∷ ss) none = refl
  none-first n m (l ∷ ls) [] none = refl
  none-first n m (l ∷ ls) (s ∷ ss) none =
      ap (λ b. if b then Some l.number else first_beyond c k (waits_behind k s.step n) (opers_behind c k s.step m) ls ss) none.0
      ∙ none-first (waits_behind k s.step n) (opers_behind c k s.step m) ls ss none.1

  -- the bound of a script's association after these turns of it
  abbrev pub bound : History → ℕ
  bound turns = waits k turns + opers c k turns

  pub some-first : (turns : History) (ls : List StepLine) (ss : List TimedStep) (i : ℕ) (l : StepLine) (s : TimedStep) → NoneBound (waits k turns) (opers c k turns) (take i ss) → slice_get ls i ≡ Some l → slice_get ss i ≡ Some s
      → is_beyond (bound (turns_onto k (take i ss) turns)) s.step ≡ true → first_beyond c k (waits k turns) (opers c k turns) ls ss ≡ Some l.number
  some-first turns [] ss i l s none at there full = absurd (cc at)
  some-first turns (x ∷ ls) [] i l s none at there full = absurd (cc there)
  some-first turns (x ∷ ls) (y ∷ ss) zero l s none at there full =
      let one : x ≡ l = cc at in let other : y ≡ s = cc there in
      ap (λ b. if b then Some x.number else first_beyond c k (waits_behind k y.step (waits k turns)) (opers_behind c k y.step (opers c k turns)) ls ss) (ap (λ z. is_beyond (bound turns) z.step) other ∙ full) ∙ ap (λ z. Some z.number) one
  some-first turns (x ∷ ls) (y ∷ ss) (suc i) l s none at there full =
      ap (λ b. if b then Some x.number else first_beyond c k (waits_behind k y.step (waits k turns)) (opers_behind c k y.step (opers c k turns)) ls ss) none.0
      ∙ some-first (histories.turn_of y.moment k y.step ∷ turns) ls ss i l s none.1 at there full

  -- one of them
  pub at-beyond : (turns : History) (ls : List StepLine) (ss : List TimedStep) (i : ℕ) (l : StepLine) (s : TimedStep) → slice_get ls i ≡ Some l → slice_get ss i ≡ Some s
      → is_beyond (bound (turns_onto k (take i ss) turns)) s.step ≡ true → IsBeyond c k (waits k turns) (opers c k turns) ls ss l.number
  at-beyond turns [] ss i l s at there full = absurd (cc at)
  at-beyond turns (x ∷ ls) [] i l s at there full = absurd (cc there)
  at-beyond turns (x ∷ ls) (y ∷ ss) zero l s at there full =
      let one : x ≡ l = cc at in let other : y ≡ s = cc there in inl (ap (λ z. is_beyond (bound turns) z.step) other ∙ full, ap (λ z. z.number) one)
  at-beyond turns (x ∷ ls) (y ∷ ss) (suc i) l s at there full = inr (at-beyond (histories.turn_of y.moment k y.step ∷ turns) ls ss i l s at there full)

  -- there is a first where there is one
  none-beyond : (n m : ℕ) (ls : List StepLine) (ss : List TimedStep) (line : ℕ) → first_beyond c k n m ls ss ≡ None → IsBeyond c k n m ls ss line → ⊥
  none-beyond n m [] ss line none is = is
  none-beyond n m (l ∷ ls) [] line none is = is
  none-beyond n m (l ∷ ls) (s ∷ ss) line none is = by (is_beyond (n + m) s.step) refl none is (none-beyond (waits_behind k s.step n) (opers_behind c k s.step m) ls ss line) where
    by : (b : Bool) → is_beyond (n + m) s.step ≡ b → (if b then Some l.number else first_beyond c k (waits_behind k s.step n) (opers_behind c k s.step m) ls ss) ≡ None
        → ((is_beyond (n + m) s.step ≡ true) × (l.number ≡ line)) ⊎ IsBeyond c k (waits_behind k s.step n) (opers_behind c k s.step m) ls ss line
        → (first_beyond c k (waits_behind k s.step n) (opers_behind c k s.step m) ls ss ≡ None → IsBeyond c k (waits_behind k s.step n) (opers_behind c k s.step m) ls ss line → ⊥) → ⊥
    by true so none is rest = cc none
    by false so none (inl full) rest = cc (sym so ∙ full.0)
    by false so none (inr more) rest = rest none more

-- ---- of all scripts

pub lesser-none : (a b : Option ℕ) → lesser a b ≡ None → (a ≡ None) × (b ≡ None)
lesser-none (Some x) (Some y) h = absurd cc
lesser-none (Some x) None h = absurd cc
lesser-none None b h = (refl, h)

-- the lesser is one of the two
pub lesser-one : (a b : Option ℕ) (line : ℕ) → lesser a b ≡ Some line → (a ≡ Some line) ⊎ (b ≡ Some line)
lesser-one None b line h = inr h
lesser-one (Some x) None line h = inl h
lesser-one (Some x) (Some y) line h = elim (leb_tells x y) [
  | inl t ↦ let is : min x y ≡ x = omega (arith, t.1) in inl (ap (λ n. Some n) (sym is) ∙ h)
  | inr t ↦ let is : min x y ≡ y = omega (arith, t.1) in inr (ap (λ n. Some n) (sym is) ∙ h)
]

none-from : (c : Model) (n : ℕ) (scs : List (Option Script)) (j k : ℕ) → k ≡ n + j → lowest_from c n scs ≡ None → beyond_in c k (get_or scs j None) ≡ None
none-from c n [] j k is none = refl
none-from c n (s ∷ scs) zero k is none =
    let same : k ≡ n = omega (arith, is) in
    ap (λ x. beyond_in c x s) same ∙ (lesser-none (beyond_in c n s) (lowest_from c (suc n) scs) none).0
none-from c n (s ∷ scs) (suc j) k is none = none-from c (suc n) scs j k (omega (arith, is)) (lesser-none (beyond_in c n s) (lowest_from c (suc n) scs) none).1

not-in : (c : Model) (k : ℕ) (o : Option Script) (line : ℕ) → beyond_in c k o ≡ None → IsBeyondIn c k o line → ⊥
not-in c k None line none is = is
not-in c k (Some s) line none is = none-beyond c k 0 0 s.lines s.steps line none is

-- where there is no lowest line there is none
pub none-of : (p : Plan) (line : ℕ) → lowest_beyond p ≡ None → IsBeyondOf p line → ⊥
none-of p line none is =
    let same : is.0 ≡ 0 + is.0 = omega arith in
    not-in (configured_model p.config) is.0 (script_of p is.0) line (none-from (configured_model p.config) 0 p.scripts is.0 is.0 same none) is.1
