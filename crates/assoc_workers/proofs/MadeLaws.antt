-- What an actor made in a call, and a turn more.
use Rattle.std.proofs.Common.{◌≡◌, ℕ, List, [], ◌∷◌, ◌++◌, ap, sym, ◌∙◌, subst, refl, append_assoc, append-nil, Ok, Err, inl, inr, true≢false}
use Rattle.std.specs.Prelude.{Option, None, Some, IfSome, Result}
use Rattle.std.specs.List.{AllByRecursion}
use Rattle.sv_base.specs.declared.numbers.AssocNo.{AssocNo}
use Rattle.bay_model.specs.declared.step.Step.{Step}
use Rattle.bay_model.specs.declared.step.Step.TheVariants as steps
use Rattle.bay_model.specs.declared.answer.Answer.{Answer}
use Rattle.bay_model.specs.Answers.{History}
use Rattle.bay_histories.specs.Rules.{Rules}
use Rattle.bay_histories.specs.Faults.{named}
use Rattle.bay_model.specs.Acceptance.{Fault}
use Rattle.bay_histories.specs.declared.fault.StepFault.{StepFault}
use Rattle.bay_histories.specs.declared.fault.StepFault.TheVariants as stepfaults
use Rattle.bay_histories.specs.Histories.{turn_of, IsLegal, IsEarlier}
use Rattle.history_lock.specs.declared.fault.TurnFault.{TurnFault}
use Rattle.history_lock.specs.declared.fault.TurnFault.TheVariants as faults
use Rattle.history_lock.specs.Passes.{Site, Known, IsSamePass, Turned, OwnGrew, ToldGrew, IsLeanTurn, own, told}
use Rattle.assoc_workers.specs.Made.{MadeStep, Moved, steps_onto, answers_onto, AreAt, MadeOne, IsOf, IsRefusedAfter, HasGivenUp}

abbrev pub made_of : ℕ → Step → Answer → MadeStep
made_of moment step answer = record { moment = moment; step = step; answer = answer }

pub steps_append : (k : ℕ) (xs ys : List MadeStep) (before : History) → steps_onto k (xs ++ ys) before ≡ steps_onto k ys (steps_onto k xs before)
steps_append k [] ys before = refl
steps_append k (x ∷ xs) ys before = steps_append k xs ys (turn_of x.moment k x.step ∷ before)

pub answers_append : (xs ys : List MadeStep) (before : List Answer) → answers_onto (xs ++ ys) before ≡ answers_onto ys (answers_onto xs before)
answers_append [] ys before = refl
answers_append (x ∷ xs) ys before = answers_append xs ys (x.answer ∷ before)

pub earlier_more : (a b c : History) → IsEarlier a b → IsEarlier b c → IsEarlier a c
earlier_more a b c x y = (y.0 ++ x.0, append_assoc y.0 x.0 a ∙ (ap (λ (l : History). y.0 ++ l) x.1 ∙ y.1))

pub moved_none : (rules : Rules) (p : Known) → Moved rules p [] p
moved_none rules p = record { same = (refl, refl, refl, refl, refl); own_steps = refl; answers = refl; later = ([], refl); legal = λ l. l }

pub moved_both : (rules : Rules) (p q r : Known) (xs ys : List MadeStep) → Moved rules p xs q → Moved rules q ys r → Moved rules p (xs ++ ys) r
moved_both rules p q r xs ys a b = record {
  same = (b.same.0 ∙ a.same.0, b.same.1 ∙ a.same.1, b.same.2 ∙ a.same.2, b.same.3 ∙ a.same.3, b.same.4 ∙ a.same.4);
  own_steps = b.own_steps ∙ ((λ i. steps_onto (a.same.2 i) ys (a.own_steps i)) ∙ sym (steps_append p.first xs ys (own p)));
  answers = b.answers ∙ (ap (answers_onto ys) a.answers ∙ sym (answers_append xs ys (told rules p)));
  later = earlier_more p.seen q.seen r.seen a.later b.later;
  legal = λ l. subst (λ c. IsLegal rules c r.seen) a.same.1 (b.legal (subst (λ c. IsLegal rules c q.seen) (sym a.same.1) (a.legal l)));
}

-- nothing more was made
pub moved_still : (rules : Rules) (p q r : Known) (xs : List MadeStep) → Moved rules p xs q → Moved rules q [] r → Moved rules p xs r
moved_still rules p q r xs a b = subst (λ (l : List MadeStep). Moved rules p l r) (append-nil xs) (moved_both rules p q r xs [] a b)

-- an accepted turn is one more
moved_one : (rules : Rules) (q r : Known) (moment : ℕ) (step : Step) (a : Answer) (place : ℕ) → IsSamePass q r → OwnGrew q moment step (Ok (a, place)) r
    → ToldGrew rules q (Ok (a, place)) r → Turned rules q moment step (Ok (a, place)) r → Moved rules q (made_of moment step a ∷ []) r
moved_one rules q r moment step a place same grew told_more t = record {
  same = same;
  own_steps = grew;
  answers = told_more;
  later = (turn_of moment q.first step ∷ t.1, sym seen_is);
  legal = λ l. subst (IsLegal rules q.config) (sym seen_is) t.3.3;
}
  where
    seen_is : r.seen ≡ turn_of moment q.first step ∷ t.1 ++ q.seen
    seen_is = ap (λ (k : Known). k.seen) t.3.0

-- a refused one is none
moved_not : (rules : Rules) (q r : Known) (moment : ℕ) (step : Step) (f : TurnFault) → IsSamePass q r → OwnGrew q moment step (Err f) r
    → ToldGrew rules q (Err f) r → Turned rules q moment step (Err f) r → Moved rules q [] r
moved_not rules q r moment step faults.Ended same grew told_same t = record {
  same = same;
  own_steps = grew;
  answers = told_same;
  later = ([], sym (ap (λ (k : Known). k.seen) t.1));
  legal = λ l. subst (IsLegal rules q.config) (sym (ap (λ (k : Known). k.seen) t.1)) l;
}
moved_not rules q r moment step (faults.Step f) same grew told_same t = record {
  same = same;
  own_steps = grew;
  answers = told_same;
  later = (t.1, sym seen_is);
  legal = λ l. subst (IsLegal rules q.config) (sym seen_is) t.3.2;
}
  where
    seen_is : r.seen ≡ t.1 ++ q.seen
    seen_is = ap (λ (k : Known). k.seen) t.3.0

-- ---- what holds of each

pub all_append : {X : Type 0} (P : X → Type 0) (xs ys : List X) → AllByRecursion P xs → AllByRecursion P ys → AllByRecursion P (xs ++ ys)
all_append P [] ys a b = b
all_append P (x ∷ xs) ys a b = (a.0, all_append P xs ys a.1 b)

pub at_append : (clock : Option ℕ) (xs ys : List MadeStep) → AreAt clock xs → AreAt clock ys → AreAt clock (xs ++ ys)
at_append None xs ys a b = tt
at_append (Some n) xs ys a b = all_append (λ (m : MadeStep). m.moment ≡ n) xs ys a b

pub at_none : (clock : Option ℕ) → AreAt clock []
at_none None = tt
at_none (Some n) = tt

pub made_one : (rules : Rules) (clock : Option ℕ) (q r : Known) (moment : ℕ) (step : Step) (result : Result (Answer × ℕ) TurnFault) → IsSamePass q r
    → OwnGrew q moment step result r → ToldGrew rules q result r → Turned rules q moment step result r → IfSome clock (λ n. moment ≡ n)
    → MadeOne rules clock step result q r
made_one rules clock q r moment step (Ok (a, place)) same grew told_more t is =
    (made_of moment step a, moved_one rules q r moment step a place same grew told_more t, refl, refl, at_one clock is)
  where
    at_one : (c : Option ℕ) → IfSome c (λ n. moment ≡ n) → AreAt c (made_of moment step a ∷ [])
    at_one None e = tt
    at_one (Some n) e = (e, tt)
made_one rules clock q r moment step (Err f) same grew told_same t is = moved_not rules q r moment step f same grew told_same t

pub of_both : (h : Site) (p q : Known) → IsOf h p → IsSamePass p q → IsOf h q
of_both h p q of same = (same.0 ∙ of.0, same.1 ∙ of.1)

-- ---- refusals

-- a refusal that names a fault is one after what the pass has seen
pub refused_after : (rules : Rules) (p q : Known) (moment : ℕ) (step : Step) (f : StepFault) (g : Fault) → named f ≡ Some g
    → Turned rules p moment step (Err (faults.Step f)) q → IsRefusedAfter rules step q
refused_after rules p q moment step f g is t = (
  moment,
  g,
  ap (λ (k : Known). rules.fault k.config k.seen (turn_of moment k.first step)) t.3.0 ∙ (sym t.3.1 ∙ is),
)

-- a loss is made, or the pass has no turn left, or it is refused
gave_up_at : (rules : Rules) (a : AssocNo) (p q : Known) (moment : ℕ) (f : TurnFault) → Turned rules p moment (steps.Lost a) (Err f) q
    → IsLeanTurn (steps.Lost a) (Err f) → HasGivenUp rules a [] q
gave_up_at rules a p q moment faults.Ended t lean = inr (refl, inl (ap (λ (k : Known). k.left) t.1 ∙ t.0))
gave_up_at rules a p q moment (faults.Step (stepfaults.IsOpen x)) t lean = inr (refl, inr (refused_after rules p q moment (steps.Lost a) (stepfaults.IsOpen x) _ refl t))
gave_up_at rules a p q moment (faults.Step (stepfaults.NotOpen x)) t lean = inr (refl, inr (refused_after rules p q moment (steps.Lost a) (stepfaults.NotOpen x) _ refl t))
gave_up_at rules a p q moment (faults.Step (stepfaults.NotYours x)) t lean = inr (refl, inr (refused_after rules p q moment (steps.Lost a) (stepfaults.NotYours x) _ refl t))
gave_up_at rules a p q moment (faults.Step (stepfaults.QueueFull x)) t lean = inr (refl, inr (refused_after rules p q moment (steps.Lost a) (stepfaults.QueueFull x) _ refl t))
gave_up_at rules a p q moment (faults.Step stepfaults.Memory) t lean = absurd (true≢false lean)

pub gave_up : (rules : Rules) (clock : Option ℕ) (a : AssocNo) (p q : Known) (result : Result (Answer × ℕ) TurnFault) → MadeOne rules clock (steps.Lost a) result p q
    → (moment : ℕ) × Turned rules p moment (steps.Lost a) result q → IsLeanTurn (steps.Lost a) result
    → (last : List MadeStep) × Moved rules p last q × HasGivenUp rules a last q × AreAt clock last
gave_up rules clock a p q (Ok r) m t lean = (m.0 ∷ [], m.1, inl (m.0, refl, m.2), m.4)
gave_up rules clock a p q (Err f) m t lean = ([], m, gave_up_at rules a p q t.0 f t.1 lean, at_none clock)
