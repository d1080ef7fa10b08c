-- Whether an association is open, and what waits for it, turn by turn.
use Rattle.std.proofs.Common.{◌≡◌, ◌≤◌, ℕ, suc, ◌+◌, ◌-◌, Bool, true, false, List, [], ◌∷◌, map, length, drop, refl, sym, ap, subst, ◌∙◌, arith, ◌==◌, eq-eqb, inl, inr}
use Rattle.std.specs.Prelude.{Option, None, Some, ◌||◌, is_none, is_some, nat_le, if◌then◌else◌}
use Rattle.std.specs.Option.{option_map_or}
use Rattle.std.proofs.lemmas.Bool.{eqb-true}
use Rattle.std.proofs.lemmas.Bool.Decides.{nat_tests}
use Rattle.bay_model.specs.declared.answer.Output.{Output}
use Rattle.bay_model.specs.declared.answer.Answer.TheVariants as answers
use Rattle.bay_model.specs.declared.step.Step.{Step}
use Rattle.bay_model.specs.declared.step.Step.TheVariants as steps
use Rattle.bay_model.specs.Model.{Model}
use Rattle.bay_model.specs.Points.{Deed, Change, Past, opened, lost, took, terminated, reported, nothing, answered, finished}
use Rattle.bay_model.specs.Associations.{Ends, ends, ends_after}
use Rattle.bay_model.specs.Controls.{execution}
use Rattle.bay_model.specs.Waiting.{Waiting, reply, ending, waiting, extended, ends_for, tests, replies_in, waiting_replies}
use Rattle.bay_model.specs.Singles.{Single, arrival, after_single, after_singles}
use Rattle.bay_model.specs.Services.{singles_of, change_of}
use Rattle.bay_model.specs.Reports.{Offer, first_offer}
use Rattle.bay_model.specs.Takes.{taken, given_by, given_report}
use Rattle.bay_model.specs.Answers.{Turn, History, points, deed_at, singles_after}
use Rattle.bay_model.specs.Acceptance.{Fault, IsHistory, IsOpen, QueueFull, fault_at, if_open, if_yours}
use Rattle.bay_model.proofs.EveryPoint.{point}
use Rattle.history_laws.specs.Opers.{opers_of, AreApart}
use Rattle.history_laws.specs.Queues.{open_behind, is_open, waits_behind, waits, opers_behind, opers, IsItsOwn, AreTheirOwn, IsInOrder, own_fault, OpenBySteps, WaitsBySteps, AcceptedBySteps, AskedWithRoom}
use Rattle.history_laws.proofs.SingleLaws.{IsStill, IsOne, opers_single, outcome, component_}
use Rattle.history_laws.proofs.SetLaws.{opers_singles, named-only}
use Rattle.history_laws.proofs.OwedLaws.{endings_in, endings-extended, all-endings, less, owed, done-level, still-owed, still-waiting, singles-waiting, singles-owe}
use Rattle.history_laws.proofs.ShortLaws.{replies-extended, replies-told}
use Rattle.bay_model.proofs.AskedLaws.{open-if, no-tests}

-- ---- whether it is open

still-ends : (a : ℕ) (d : Deed) (was : Option Ends) → IsStill d → ends_after a d was ≡ was
still-ends a (opened e opener writer size owner) was q = absurd q
still-ends a (lost e) was q = absurd q
still-ends a _ was q = refl

one-ends : (c : Model) (a e q : ℕ) (d : Deed) (was : Option Ends) → IsOne c e q d → ends_after a d was ≡ was
one-ends c a e q d was (inl still) = still-ends a d was still
one-ends c a e q d was (inr o) = ap (λ x. ends_after a x was) o.2

singles-ends : (c : Model) (a e n m : ℕ) (ss : List Single) (past : Past) → ends a (after_singles c e n m ss past) ≡ ends a past
singles-ends c a e n m [] past = refl
singles-ends c a e n m (s ∷ ss) past =
    singles-ends c a e n m ss (after_single c e n m s past) ∙ one-ends c a e (opers_single c s) _ (ends a past) (outcome c (arrival n m ∷ past) e s)

-- what a Take comes to leaves all associations as they are
take-ends : (c : Model) (a e n m : ℕ) (past : Past) → ends_after a (taken c e (arrival n m ∷ past)).deed (ends a past) ≡ ends a past
take-ends c a e n m past = either (is_none (ends e past)) (waiting c e past) where
  report : (o : Option Offer) → ends_after a (given_report c e (arrival n m ∷ past) o).deed (ends a past) ≡ ends a past
  report None = refl
  report (Some o) = refl

  either : (x : Bool) (ws : List Waiting) → ends_after a (if x then record { answer = answers.Closed; deed = nothing } else given_by c e (arrival n m ∷ past) ws).deed (ends a past) ≡ ends a past
  either true ws = refl
  either false [] = report (first_offer c e (arrival n m ∷ past) 0 c.blocks)
  either false (reply o ∷ ws) = refl
  either false (ending k good ∷ ws) = refl

some-if : (b : Bool) (x y : Option Ends) → is_some (if b then x else y) ≡ (if b then is_some x else is_some y)
some-if true x y = refl
some-if false x y = refl

opened-turn : (c : Model) (a n : ℕ) (t : Turn) (s : Step) (past : Past) → is_some (ends a (point n t.moment (deed_at c n t past s) ∷ singles_after c n t past s)) ≡ open_behind a s (is_some (ends a past))
opened-turn c a n t (steps.Open e size writer owner) past = some-if (e.0 == a) _ (ends a past)
opened-turn c a n t (steps.Ask e r) past = ap is_some (singles-ends c a e.0 n t.moment (singles_of c past r.service) past)
opened-turn c a n t (steps.Write e b comp v) past =
    ap is_some (still-ends a _ (ends a past) (component_ c (arrival n t.moment ∷ past) e.0 b.0 comp v))
opened-turn c a n t (steps.Take e) past = ap is_some (take-ends c a e.0 n t.moment past)
opened-turn c a n t (steps.Lost e) past = some-if (e.0 == a) None (ends a past)
opened-turn c a n t (steps.Value settings) past = refl
opened-turn c a n t (steps.Done k good) past = refl
opened-turn c a n t (steps.Block k flag) past = refl
opened-turn c a n t steps.Tick past = refl

pub open_by_steps : OpenBySteps
open_by_steps c [] a = refl
open_by_steps c (t ∷ h) a = opened-turn c a (length h) t t.step (points c h) ∙ ap (open_behind a t.step) (open_by_steps c h a)

-- ---- an association that isn't open

-- an Ask is accepted of an association that is open
-- nothing waits for it, and it wrote nothing
abbrev IsNothing : ℕ → ℕ → Type 0
IsNothing n o = (n ≡ 0) × (o ≡ 0)

module _ (c : Model) (a : ℕ) where
  shut-turn : (h : History) (t : Turn) (s : Step) → fault_at c t.actor (points c h) s ≡ None → (is_open a h ≡ false → IsNothing (waits a h) (opers c a h)) → open_behind a s (is_open a h) ≡ false
      → IsNothing (waits_behind a s (waits a h)) (opers_behind c a s (opers c a h))
  shut-turn h t (steps.Open e size writer owner) goes zero is = either (e.0 == a) is where
    either : (b : Bool) → (if b then true else is_open a h) ≡ false → IsNothing (if b then 0 else waits a h) (if b then 0 else opers c a h)
    either true is = (refl, refl)
    either false is = zero is
  shut-turn h t (steps.Ask e r) goes zero is = either (e.0 == a) refl where
    either : (b : Bool) → (e.0 == a) ≡ b → IsNothing (if b then suc (waits a h) else waits a h) (if b then opers c a h + opers_of c r.service else opers c a h)
    either true same =
        let asked : is_some (ends e.0 (points c h)) ≡ true = open-if (ends e.0 (points c h)) e.0 (λ x. t.actor == x.opener) (if nat_le 16 (waiting_replies c e.0 (points c h)) then Some (QueueFull e.0) else None) goes in
        let clash : false ≡ true = sym is ∙ (sym (open_by_steps c h a) ∙ (ap (λ b. is_some (ends b (points c h))) (sym (eqb-true e.0 a same)) ∙ asked)) in
        absurd cc
    either false same = zero is
  shut-turn h t (steps.Write e b comp v) goes zero is = zero is
  shut-turn h t (steps.Take e) goes zero is = either (e.0 == a) where
    either : (b : Bool) → IsNothing (if b then waits a h - 1 else waits a h) (opers c a h)
    either true = (omega (arith, (zero is).0), (zero is).1)
    either false = zero is
  shut-turn h t (steps.Lost e) goes zero is = either (e.0 == a) is where
    either : (b : Bool) → (if b then false else is_open a h) ≡ false → IsNothing (if b then 0 else waits a h) (if b then 0 else opers c a h)
    either true is = (refl, refl)
    either false is = zero is
  shut-turn h t (steps.Value settings) goes zero is = zero is
  shut-turn h t (steps.Done k good) goes zero is = zero is
  shut-turn h t (steps.Block k flag) goes zero is = zero is
  shut-turn h t steps.Tick goes zero is = zero is

  shut-nothing : (h : History) → IsHistory c h → is_open a h ≡ false → IsNothing (waits a h) (opers c a h)
  shut-nothing [] legal is = (refl, refl)
  shut-nothing (t ∷ h) legal is = shut-turn h t t.step legal.1 (shut-nothing h legal.0) is

-- ---- how many wait

-- r replies and e terminations wait, and k commands will end in one more each, where n replies are counted and o Opers
abbrev IsLevel : ℕ → ℕ → ℕ → ℕ → ℕ → Type 0
IsLevel r e k n o = (n ≤ r) × ((r + e) + k ≤ n + o) × (e + k ≤ o)

fewer : (r e k n o j : ℕ) → IsLevel r e k n o → j ≤ k → IsLevel r e j n o
fewer r e k n o j l le = (l.0, omega (arith, l.1, le), omega (arith, l.2, le))

asked : (r e k n o j t q : ℕ) → IsLevel r e k n o → j + t ≤ k + q → IsLevel (suc r) (e + t) j (suc n) (o + q)
asked r e k n o j t q l le = (omega (arith, l.0), omega (arith, l.1, le), omega (arith, l.2, le))

ended_ : (r e k n o x j : ℕ) → IsLevel r e k n o → x + j ≤ k → IsLevel r (e + x) j n o
ended_ r e k n o x j l le = (l.0, omega (arith, l.1, le), omega (arith, l.2, le))

gave-reply : (r e k n o : ℕ) → IsLevel (suc r) e k n o → IsLevel r e k (n - 1) o
gave-reply r e k n o l = (omega (arith, l.0), omega (arith, l.1, l.2, l.0), l.2)

gave-ending : (r e k n o : ℕ) → IsLevel r (suc e) k n o → IsLevel r e k (n - 1) o
gave-ending r e k n o l = (omega (arith, l.0), omega (arith, l.1), omega (arith, l.2))

gave-none : (k n o : ℕ) → IsLevel 0 0 k n o → IsLevel 0 0 k (n - 1) o
gave-none k n o l = (omega (arith, l.0), omega (arith, l.0, l.2), l.2)

started : (r e k n o : ℕ) → IsLevel r e k n o → o ≡ 0 → IsLevel 0 0 k 0 0
started r e k n o l none = (omega arith, omega (arith, l.2, none), omega (arith, l.2, none))

module _ (c : Model) (a : ℕ) where
  abbrev level : Past → ℕ → ℕ → Type 0
  level past n o = IsLevel (replies_in (waiting c a past)) (endings_in (waiting c a past)) (length (owed c a past)) n o

  still-level : (n m w o : ℕ) (d : Deed) (past : Past) → IsStill d → level past w o → level (point n m d ∷ past) w o
  still-level n m w o d past q l =
      subst (λ ws. IsLevel (replies_in ws) (endings_in ws) (length (owed c a (point n m d ∷ past))) w o) (sym (still-waiting c a n m d past q))
      (fewer _ _ (length (owed c a past)) w o _ l (let same : length (owed c a (point n m d ∷ past)) ≡ length (owed c a past) = ap (λ (ks : List ℕ). length ks) (still-owed c a d (owed c a past) q) in omega (arith, same)))

  ask-level : (e n m w o q : ℕ) (out : Output) (ch : Change) (ss : List Single) (past : Past) → tests c n past ≡ [] → opers_singles c ss ≡ q → level past w o
      → level (point n m (answered e out ch) ∷ after_singles c e n m ss past) (if e == a then suc w else w) (if e == a then o + q else o)
  ask-level e n m w o q out ch ss past none many l = either (e == a) (singles-owe c a e n m ss past) where
    after : Past
    after = after_singles c e n m ss past

    ws : List Waiting
    ws = waiting c a past

    either : (b : Bool) → length (owed c a after) + (if b then length (tests c n after) else 0) ≤ (length (owed c a past) + (if b then length (tests c n past) else 0)) + (if b then opers_singles c ss else 0)
        → IsLevel (replies_in (extended (waiting c a after) (if b then reply out ∷ map (λ k. ending k true) (tests c n after) else [])))
        (endings_in (extended (waiting c a after) (if b then reply out ∷ map (λ k. ending k true) (tests c n after) else []))) (length (owed c a after)) (if b then suc w else w) (if b then o + q else o)
    either true le =
        let ts : List ℕ = tests c n after in
        let put : List Waiting = reply out ∷ map (λ k. ending k true) ts in
        let same : waiting c a after ≡ ws = singles-waiting c a e n m ss past in
        let r : replies_in (extended (waiting c a after) put) ≡ suc (replies_in ws) = omega (arith, replies-extended (waiting c a after) put, replies-told ts, ap replies_in same) in
        let x : endings_in (extended (waiting c a after) put) ≡ endings_in ws + length ts = omega (arith, endings-extended (waiting c a after) put, all-endings ts, ap endings_in same) in
        let no : length (tests c n past) ≡ 0 = ap (λ (l : List ℕ). length l) none in
        subst (λ i. IsLevel i (endings_in (extended (waiting c a after) put)) (length (owed c a after)) (suc w) (o + q)) (sym r)
        (subst (λ i. IsLevel (suc (replies_in ws)) i (length (owed c a after)) (suc w) (o + q)) (sym x)
        (asked (replies_in ws) (endings_in ws) (length (owed c a past)) w o (length (owed c a after)) (length ts) q l (omega (arith, le, no, many))))
    either false le =
        subst (λ l. IsLevel (replies_in l) (endings_in l) (length (owed c a after)) w o) (sym (singles-waiting c a e n m ss past))
        (fewer (replies_in ws) (endings_in ws) (length (owed c a past)) w o (length (owed c a after)) l (omega (arith, le)))

  done-turn : (n m k w o : ℕ) (good : Bool) (past : Past) → level past w o → level (point n m (finished k good) ∷ past) w o
  done-turn n m k w o good past l =
      let ws = waiting c a past in
      let vs = ends_for a k good (execution c k past) in
      let d = done-level c a k good past in
      let r : replies_in (extended ws vs) ≡ replies_in ws = omega (arith, replies-extended ws vs, d.0) in
      subst (λ i. IsLevel i (endings_in (extended ws vs)) (length (less k (owed c a past))) w o) (sym r)
      (subst (λ i. IsLevel (replies_in ws) i (length (less k (owed c a past))) w o) (sym (endings-extended ws vs))
      (ended_ (replies_in ws) (endings_in ws) (length (owed c a past)) w o (endings_in vs) (length (less k (owed c a past))) l d.1))

  -- nothing waits for one that isn't open
  take-level : (e n m w o : ℕ) (past : Past) → (is_some (ends a past) ≡ false → w ≡ 0) → level past w o
      → level (point n m (taken c e (arrival n m ∷ past)).deed ∷ past) (if e == a then w - 1 else w) o
  take-level e n m w o past shut l = either (ends e past) refl (waiting c e past) refl where
    -- it gives nothing, where nothing waits
    none : (d : Deed) → IsStill d → (e ≡ a → w - 1 ≡ w) → level (point n m d ∷ past) (if e == a then w - 1 else w) o
    none d q zero = by (e == a) refl where
      by : (b : Bool) → (e == a) ≡ b → level (point n m d ∷ past) (if b then w - 1 else w) o
      by true is = subst (λ i. level (point n m d ∷ past) i o) (sym (zero (eqb-true e a is))) (still-level n m w o d past q l)
      by false is = still-level n m w o d past q l

    empty : waiting c e past ≡ [] → e ≡ a → w - 1 ≡ w
    empty is same =
        let no : replies_in (waiting c a past) ≡ 0 = ap (λ b. replies_in (waiting c b past)) (sym same) ∙ ap replies_in is in
        omega (arith, l.0, no)

    report : (x : Option Offer) → (e ≡ a → w - 1 ≡ w) → level (point n m (given_report c e (arrival n m ∷ past) x).deed ∷ past) (if e == a then w - 1 else w) o
    report None zero = none nothing tt zero
    report (Some x) zero = none (reported e x.block x.id) tt zero

    given-reply : (out : Output) (ws : List Waiting) → waiting c e past ≡ reply out ∷ ws → level (point n m (took e) ∷ past) (if e == a then w - 1 else w) o
    given-reply out ws is = by (e == a) refl where
      by : (b : Bool) → (e == a) ≡ b → IsLevel (replies_in (if b then drop 1 (waiting c a past) else waiting c a past)) (endings_in (if b then drop 1 (waiting c a past) else waiting c a past)) (length (owed c a past)) (if b then w - 1 else w) o
      by true same =
          let first : waiting c a past ≡ reply out ∷ ws = ap (λ b. waiting c b past) (sym (eqb-true e a same)) ∙ is in
          subst (λ l. IsLevel (replies_in (drop 1 l)) (endings_in (drop 1 l)) (length (owed c a past)) (w - 1) o) (sym first)
          (gave-reply (replies_in ws) (endings_in ws) (length (owed c a past)) w o (subst (λ l. IsLevel (replies_in l) (endings_in l) (length (owed c a past)) w o) first l))
      by false other = l

    given-ending : (k : ℕ) (good : Bool) (ws : List Waiting) → waiting c e past ≡ ending k good ∷ ws → level (point n m (terminated e k) ∷ past) (if e == a then w - 1 else w) o
    given-ending k good ws is = by (e == a) refl where
      by : (b : Bool) → (e == a) ≡ b → IsLevel (replies_in (if b then drop 1 (waiting c a past) else waiting c a past)) (endings_in (if b then drop 1 (waiting c a past) else waiting c a past)) (length (owed c a past)) (if b then w - 1 else w) o
      by true same =
          let first : waiting c a past ≡ ending k good ∷ ws = ap (λ b. waiting c b past) (sym (eqb-true e a same)) ∙ is in
          subst (λ l. IsLevel (replies_in (drop 1 l)) (endings_in (drop 1 l)) (length (owed c a past)) (w - 1) o) (sym first)
          (gave-ending (replies_in ws) (endings_in ws) (length (owed c a past)) w o (subst (λ l. IsLevel (replies_in l) (endings_in l) (length (owed c a past)) w o) first l))
      by false other = l

    either : (x : Option Ends) → ends e past ≡ x → (ws : List Waiting) → waiting c e past ≡ ws
        → level (point n m (if is_none x then record { answer = answers.Closed; deed = nothing } else given_by c e (arrival n m ∷ past) ws).deed ∷ past) (if e == a then w - 1 else w) o
    either None closed ws is = none nothing tt (λ same. let no : w ≡ 0 = shut (ap (λ b. is_some (ends b past)) (sym same) ∙ ap is_some closed) in omega (arith, no))
    either (Some x) opened_ [] is = report (first_offer c e (arrival n m ∷ past) 0 c.blocks) (empty is)
    either (Some x) opened_ (reply out ∷ ws) is = given-reply out ws is
    either (Some x) opened_ (ending k good ∷ ws) is = given-ending k good ws is

  -- a step of it starts it anew
  start-level : (b : Bool) (w o : ℕ) (ws : List Waiting) (ks : List ℕ) → IsLevel (replies_in ws) (endings_in ws) (length ks) w o → (b ≡ true → o ≡ 0)
      → IsLevel (replies_in (if b then [] else ws)) (endings_in (if b then [] else ws)) (length ks) (if b then 0 else w) (if b then 0 else o)
  start-level true w o ws ks l none = started (replies_in ws) (endings_in ws) (length ks) w o l (none refl)
  start-level false w o ws ks l none = l

  lost-level : (b : Bool) (w o : ℕ) (ws : List Waiting) (ks : List ℕ) → IsLevel (replies_in ws) (endings_in ws) (length ks) w o
      → IsLevel (replies_in (if b then [] else ws)) (endings_in (if b then [] else ws)) (length (if b then [] else ks)) (if b then 0 else w) (if b then 0 else o)
  lost-level true w o ws ks l = (omega arith, omega arith, omega arith)
  lost-level false w o ws ks l = l

  -- an Open is accepted of an association that isn't open
  opens : (b : Bool) (e : ℕ) → (if b then Some (IsOpen e) else None) ≡ None → b ≡ false
  opens true e h = absurd cc
  opens false e h = refl

  module _ (apart : AreApart c) where
    level-turn : (h : History) (t : Turn) (s : Step) → fault_at c t.actor (points c h) s ≡ None → (is_some (ends a (points c h)) ≡ false → IsNothing (waits a h) (opers c a h)) → level (points c h) (waits a h) (opers c a h)
        → level (point (length h) t.moment (deed_at c (length h) t (points c h) s) ∷ singles_after c (length h) t (points c h) s) (waits_behind a s (waits a h)) (opers_behind c a s (opers c a h))
    level-turn h t (steps.Open e size writer owner) goes shut l =
        start-level (e.0 == a) (waits a h) (opers c a h) (waiting c a (points c h)) (owed c a (points c h)) l
        (λ is. (shut (ap (λ b. is_some (ends b (points c h))) (sym (eqb-true e.0 a is)) ∙ opens (is_some (ends e.0 (points c h))) e.0 goes)).1)
    level-turn h t (steps.Ask e r) goes shut l =
        ask-level e.0 (length h) t.moment (waits a h) (opers c a h) (opers_of c r.service) _ (change_of c (points c h) r.service) (singles_of c (points c h) r.service) (points c h) (no-tests c h) (named-only c apart h r.service) l
    level-turn h t (steps.Write e b comp v) goes shut l = still-level (length h) t.moment (waits a h) (opers c a h) _ (points c h) (component_ c (arrival (length h) t.moment ∷ points c h) e.0 b.0 comp v) l
    level-turn h t (steps.Take e) goes shut l = take-level e.0 (length h) t.moment (waits a h) (opers c a h) (points c h) (λ is. (shut is).0) l
    level-turn h t (steps.Lost e) goes shut l = lost-level (e.0 == a) (waits a h) (opers c a h) (waiting c a (points c h)) (owed c a (points c h)) l
    level-turn h t (steps.Value settings) goes shut l = l
    level-turn h t (steps.Done k good) goes shut l = done-turn (length h) t.moment k.0 (waits a h) (opers c a h) good (points c h) l
    level-turn h t (steps.Block k flag) goes shut l = l
    level-turn h t steps.Tick goes shut l = l

    pub level-by : (h : History) → IsHistory c h → level (points c h) (waits a h) (opers c a h)
    level-by [] legal = (omega arith, omega arith, omega arith)
    level-by (t ∷ h) legal = level-turn h t t.step legal.1 (λ is. shut-nothing c a h legal.0 (sym (open_by_steps c h a) ∙ is)) (level-by h legal.0)

pub waits_by_steps : WaitsBySteps
waits_by_steps c apart h legal a = let l = level-by c a apart h legal in (l.0, omega (arith, l.1))

-- ---- whose an association is

abbrev AreOwn : ℕ → Option Ends → Type 0
AreOwn a None = Unit {0}
AreOwn a (Some e) = (e.opener ≡ a) × (e.writer ≡ a)

own-turn : (c : Model) (a n : ℕ) (t : Turn) (s : Step) (past : Past) → IsItsOwn t s → AreOwn a (ends a past) → AreOwn a (ends a (point n t.moment (deed_at c n t past s) ∷ singles_after c n t past s))
own-turn c a n t (steps.Open e size writer owner) past own are = either (e.0 == a) refl where
  either : (b : Bool) → (e.0 == a) ≡ b → AreOwn a (if b then Some (record { opener = t.actor; writer = writer.0; size = size }) else ends a past)
  either true is = (own.0 ∙ eqb-true e.0 a is, own.1 ∙ eqb-true e.0 a is)
  either false is = are
own-turn c a n t (steps.Ask e r) past own are = subst (AreOwn a) (sym (singles-ends c a e.0 n t.moment (singles_of c past r.service) past)) are
own-turn c a n t (steps.Write e b comp v) past own are =
    subst (AreOwn a) (sym (still-ends a _ (ends a past) (component_ c (arrival n t.moment ∷ past) e.0 b.0 comp v))) are
own-turn c a n t (steps.Take e) past own are = subst (AreOwn a) (sym (take-ends c a e.0 n t.moment past)) are
own-turn c a n t (steps.Lost e) past own are = either (e.0 == a) where
  either : (b : Bool) → AreOwn a (if b then None else ends a past)
  either true = tt
  either false = are
own-turn c a n t (steps.Value settings) past own are = are
own-turn c a n t (steps.Done k good) past own are = are
own-turn c a n t (steps.Block k flag) past own are = are
own-turn c a n t steps.Tick past own are = are

own-ends : (c : Model) (h : History) → AreTheirOwn h → (a : ℕ) → AreOwn a (ends a (points c h))
own-ends c [] own a = tt
own-ends c (t ∷ h) own a = own-turn c a (length h) t t.step (points c h) own.1 (own-ends c h own.0 a)

-- ---- a step in order

yours : (actor a : ℕ) (o : Option Fault) → actor ≡ a → if_yours (actor == a) a o ≡ o
yours actor a o is = ap (λ b. if_yours b a o) (eq-eqb actor a is)

opened-yours : (x : Option Ends) (actor a : ℕ) (o : Option Fault) → is_some x ≡ true → AreOwn a x → actor ≡ a → if_open x a (λ e. actor == e.opener) o ≡ o
opened-yours None actor a o is own mine = absurd cc
opened-yours (Some e) actor a o is own mine = ap (λ b. if_yours b a o) (eq-eqb actor e.opener (mine ∙ sym own.0))

lost-yours : (x : Option Ends) (actor a : ℕ) → is_some x ≡ true → AreOwn a x → actor ≡ a → if_open x a (λ e. (actor == e.opener) || (actor == e.writer)) None ≡ None
lost-yours None actor a is own mine = absurd cc
lost-yours (Some e) actor a is own mine = ap (λ b. if_yours (b || (actor == e.writer)) a None) (eq-eqb actor e.opener (mine ∙ sym own.0))

taken-yours : (x : Option Ends) (actor a : ℕ) → AreOwn a x → actor ≡ a → option_map_or (λ (e : Ends). if_yours (actor == e.writer) a None) x None ≡ None
taken-yours None actor a own mine = refl
taken-yours (Some e) actor a own mine = ap (λ b. if_yours b a None) (eq-eqb actor e.writer (mine ∙ sym own.1))

accepted : (c : Model) (h : History) → AreTheirOwn h → (t : Turn) (s : Step) → IsItsOwn t s → IsInOrder (λ a. is_open a h) s → fault_at c t.actor (points c h) s ≡ own_fault s (λ a. waiting_replies c a (points c h))
accepted c h own t (steps.Open e size writer owner) mine order = ap (λ b. if b then Some (IsOpen e.0) else None) (open_by_steps c h e.0 ∙ order)
accepted c h own t (steps.Ask e r) mine order =
    opened-yours (ends e.0 (points c h)) t.actor e.0 (if nat_le 16 (waiting_replies c e.0 (points c h)) then Some (QueueFull e.0) else None) (open_by_steps c h e.0 ∙ order) (own-ends c h own e.0) mine
accepted c h own t (steps.Write e b comp v) mine order = opened-yours (ends e.0 (points c h)) t.actor e.0 None (open_by_steps c h e.0 ∙ order) (own-ends c h own e.0) mine
accepted c h own t (steps.Take e) mine order = taken-yours (ends e.0 (points c h)) t.actor e.0 (own-ends c h own e.0) mine
accepted c h own t (steps.Lost e) mine order = lost-yours (ends e.0 (points c h)) t.actor e.0 (open_by_steps c h e.0 ∙ order) (own-ends c h own e.0) mine
accepted c h own t (steps.Value settings) mine order = refl
accepted c h own t (steps.Done k good) mine order = refl
accepted c h own t (steps.Block k flag) mine order = refl
accepted c h own t steps.Tick mine order = refl

pub accepted_by_steps : AcceptedBySteps
accepted_by_steps c h own t mine order = accepted c h own t t.step mine order

-- ---- an accepted request

found-room : (x : Option Ends) (a n : ℕ) (f : Ends → Bool) → if_open x a f (if nat_le 16 n then Some (QueueFull a) else None) ≡ None → nat_le 16 n ≡ false
found-room None a n f h = absurd cc
found-room (Some e) a n f h = either (f e) (nat_le 16 n) refl h where
  either : (y b : Bool) → nat_le 16 n ≡ b → if_yours y a (if b then Some (QueueFull a) else None) ≡ None → nat_le 16 n ≡ false
  either false b is h = absurd cc
  either true true is h = absurd cc
  either true false is h = is

-- what is no more than another number is below 16 where that is
below : (n m : ℕ) → n ≤ m → nat_le 16 m ≡ false → nat_le 16 n ≡ false
below n m le h = grind (arith, nat_tests)

pub asked_with_room : AskedWithRoom
asked_with_room c apart h legal t a r is goes =
    below (waits a.0 h) (waiting_replies c a.0 (points c h)) (waits_by_steps c apart h legal a.0).0
    (found-room (ends a.0 (points c h)) a.0 (waiting_replies c a.0 (points c h)) (λ e. t.actor == e.opener) (sym (ap (fault_at c t.actor (points c h)) is) ∙ goes))
