-- A pass that has run a part of a script runs on.
use Rattle.std.proofs.Common.{◌≡◌, ◌≢◌, ℕ, ◌+◌, ◌<◌, eq-eqb, cond, List, [], ◌∷◌, ◌++◌, length, take, get_or, inl, sym, refl, ap, subst, ◌∙◌, arith, length-append, append_assoc}
use Rattle.std.specs.Prelude.{Ok, Err, Some, slice_get}
use Rattle.std.proofs.lemmas.List.{take_more}
use Rattle.sv_base.specs.declared.config.Config.{Config}
use Rattle.bay_model.specs.declared.answer.Answer.{Answer}
use Rattle.bay_model.specs.Answers.{Turn, History}
use Rattle.bay_histories.specs.declared.fault.StepFault.{StepFault}
use Rattle.history_lock.specs.declared.fault.TurnFault.TheVariants as faults
use Rattle.bay_histories.specs.Rules.{Rules}
use Rattle.bay_histories.specs.Histories.{turn_of, by, IsLegal, IsRefused}
use Rattle.history_lock.specs.Passes.{Known, InSome, HasNumber, OfOthers, IsSamePass, Turned, own}
use Rattle.history_lock.proofs.Steps.{by-append, by_none}
use Rattle.actor_scripts.specs.declared.script.TimedStep.{TimedStep}
use Rattle.actor_scripts.specs.declared.part.Reply.{Reply}
use Rattle.actor_scripts.specs.Scripts.{turns_onto, reply_to, replies_of}
use Rattle.actor_scripts.specs.Stops.{StopsAt}
use Rattle.script_threads.specs.Playing.{Plays}
use Rattle.actor_scripts.proofs.Lists.{turns_more, replies_skip}

pub plays_nothing : (rules : Rules) (p : Known) (steps : List TimedStep) → Plays rules p steps [] p
plays_nothing rules p steps = record {
  same = (refl, refl, refl, refl, refl);
  few = omega arith;
  own = refl;
  others = λ k has ne. refl;
  told = sym (append_nil (replies_of rules p.config p.first p.seen));
  legal = λ l. l;
}
  where
    append_nil : (rs : List Reply) → rs ++ [] ≡ rs
    append_nil [] = refl
    append_nil (r ∷ rs) = ap (λ (l : List Reply). r ∷ l) (append_nil rs)

pub same_numbers : (p q : Known) → IsSamePass p q → (k : ℕ) → HasNumber p k → HasNumber q k
same_numbers p q same k has = subst (InSome k) (λ i. (sym same.2 i, sym same.3 i) ∷ sym same.4 i) has

pub same_more : (p q r : Known) → IsSamePass p q → IsSamePass q r → IsSamePass p r
same_more p q r a b = (b.0 ∙ a.0, b.1 ∙ a.1, b.2 ∙ a.2, b.3 ∙ a.3, b.4 ∙ a.4)

-- the steps of other numbers of the pass, after a turn
rest_between : (q : Known) (between : History) (k : ℕ) → OfOthers q between → HasNumber q k → by k (between ++ q.seen) ≡ by k q.seen
rest_between q between k others has = by-append k between q.seen ∙ ap (λ (l : History). l ++ by k q.seen) (others k has)

module _ (rules : Rules) (p q r : Known) (steps : List TimedStep) (rs : List Reply) (s : TimedStep) (a : Answer) (place : ℕ)
    (plays : Plays rules p steps rs q) (some : 0 < p.count) (near : length rs < length steps) (here : s ≡ get_or steps (length rs) s)
    (same : IsSamePass q r) (grew : own r ≡ turn_of s.moment q.first s.step ∷ own q) (t : Turned rules q s.moment s.step (Ok (a, place)) r) where
  abbrev reply : Reply
  reply = record { place = place; answer = a }

  abbrev before : History
  before = t.1 ++ q.seen

  abbrev turn : Turn
  turn = turn_of s.moment q.first s.step

  seen_is : r.seen ≡ turn ∷ before
  seen_is = ap (λ (k : Known). k.seen) t.3.0

  count_is : length (rs ++ reply ∷ []) ≡ length rs + 1
  count_is = length-append rs (reply ∷ [])

  script_more : take (length (rs ++ reply ∷ [])) steps ≡ take (length rs) steps ++ s ∷ []
  script_more = ap (λ (n : ℕ). take n steps) count_is ∙ (take_more steps (length rs) s near ∙ ap (λ (x : TimedStep). take (length rs) steps ++ x ∷ []) (sym here))

  own_more : by p.first r.seen ≡ turns_onto p.first (take (length (rs ++ reply ∷ [])) steps) (by p.first p.seen)
  own_more =
      ap (λ (k : ℕ). by k r.seen) (sym (same.2 ∙ plays.same.2))
      ∙ (grew
      ∙ ((λ i. turn_of s.moment (plays.same.2 i) s.step ∷ by (plays.same.2 i) q.seen)
      ∙ (ap (λ (l : History). turn_of s.moment p.first s.step ∷ l) plays.own
      ∙ (sym (turns_more p.first (take (length rs) steps) s (by p.first p.seen))
      ∙ ap (λ (l : List TimedStep). turns_onto p.first l (by p.first p.seen)) (sym script_more)))))

  others_more : (k : ℕ) → HasNumber p k → k ≢ p.first → by k r.seen ≡ by k p.seen
  others_more k has ne =
      ap (by k) seen_is
      ∙ (by_none k before turn (λ e. ne (sym (sym plays.same.2 ∙ e)))
      ∙ (rest_between q t.1 k t.2 (same_numbers p q plays.same k has)
      ∙ plays.others k has ne))

  own_between : by p.first t.1 ≡ []
  own_between = t.2 p.first (same_numbers p q plays.same p.first (inl (omega arith, omega (arith, some))))

  told_here : replies_of rules p.config p.first (turn ∷ before) ≡ replies_of rules p.config p.first before ++ reply_to rules p.config before turn ∷ []
  told_here = ap (λ b. cond b (replies_of rules p.config p.first before ++ reply_to rules p.config before turn ∷ []) (replies_of rules p.config p.first before)) (eq-eqb q.first p.first plays.same.2)

  reply_is : reply_to rules p.config before turn ≡ reply
  reply_is = λ i. record { place = sym t.3.2 i; answer = (ap (λ (c : Config). rules.answer c before turn) (sym plays.same.1) ∙ sym t.3.1) i }

  told_more : replies_of rules p.config p.first r.seen ≡ replies_of rules p.config p.first p.seen ++ (rs ++ reply ∷ [])
  told_more =
      ap (replies_of rules p.config p.first) seen_is
      ∙ (told_here
      ∙ ((λ i. replies_skip rules p.config p.first t.1 q.seen own_between i ++ reply_is i ∷ [])
      ∙ (ap (λ (l : List Reply). l ++ reply ∷ []) plays.told
      ∙ append_assoc (replies_of rules p.config p.first p.seen) rs (reply ∷ []))))

  legal_more : IsLegal rules p.config r.seen
  legal_more = subst (λ (h : History). IsLegal rules p.config h) (sym seen_is) (subst (λ (c : Config). IsLegal rules c (turn ∷ before)) plays.same.1 t.3.3)

  pub plays_more : Plays rules p steps (rs ++ reply ∷ []) r
  plays_more = record {
    same = same_more p q r plays.same same;
    few = omega (arith, count_is, near);
    own = own_more;
    others = others_more;
    told = told_more;
    legal = λ l. legal_more;
  }

module _ (rules : Rules) (p q r : Known) (steps : List TimedStep) (rs : List Reply) (s : TimedStep) (f : StepFault)
    (plays : Plays rules p steps rs q) (some : 0 < p.count) (same : IsSamePass q r) (t : Turned rules q s.moment s.step (Err (faults.Step f)) r) where
  abbrev after : History
  after = t.1 ++ q.seen

  seen_after : r.seen ≡ after
  seen_after = ap (λ (k : Known). k.seen) t.3.0

  none_own : by p.first t.1 ≡ []
  none_own = t.2 p.first (same_numbers p q plays.same p.first (inl (omega arith, omega (arith, some))))

  -- a refused step is none of the pass's
  pub plays_still : Plays rules p steps rs r
  plays_still = record {
    same = same_more p q r plays.same same;
    few = plays.few;
    own = ap (by p.first) seen_after ∙ (by-append p.first t.1 q.seen ∙ (ap (λ (l : History). l ++ by p.first q.seen) none_own ∙ plays.own));
    others = λ k has ne. ap (by k) seen_after ∙ (rest_between q t.1 k t.2 (same_numbers p q plays.same k has) ∙ plays.others k has ne);
    told = ap (replies_of rules p.config p.first) seen_after ∙ (replies_skip rules p.config p.first t.1 q.seen none_own ∙ plays.told);
    legal = λ l. subst (λ (h : History). IsLegal rules p.config h) (sym seen_after) (subst (λ (c : Config). IsLegal rules c after) plays.same.1 t.3.2);
  }

  pub refused_there : slice_get steps (length rs) ≡ Some s → StopsAt rules p.config p.first steps (length rs) (Some f) r.seen
  refused_there read = (
    s,
    read,
    subst (λ (h : History). IsRefused rules p.config h (turn_of s.moment p.first s.step) f) (sym seen_after)
        (subst (λ (c : Config). IsRefused rules c after (turn_of s.moment p.first s.step) f) plays.same.1
        (subst (λ (k : ℕ). IsRefused rules q.config after (turn_of s.moment k s.step) f) plays.same.2 t.3.1)),
  )
