-- The commands of an association that end in a termination, and how many terminations wait for it.
use Rattle.std.proofs.Common.{not, ◌≡◌, ◌≤◌, ◌+◌, ℕ, suc, Bool, true, false, List, [], ◌∷◌, ◌++◌, map, length, refl, sym, ap, ◌∙◌, arith, ◌==◌, inl, inr, append-nil, length-append}
use Rattle.std.specs.Prelude.{Option, None, Some, ◌&&◌, ◌||◌, if◌then◌else◌}
use Rattle.std.specs.Option.{option_and_then}
use Rattle.std.proofs.lemmas.Bool.{eqb-true}
use Rattle.list_laws.proofs.Places.{same-number}
use Rattle.sv_base.specs.declared.value.Value.{Value}
use Rattle.bay_model.specs.Model.{Model, operate}
use Rattle.bay_model.specs.Points.{Deed, Past, opened, lost, called, answered, took, terminated, finished}
use Rattle.bay_model.specs.Controls.{Phase, Execution, execution, execution_after, underway, ended, orphaned, is_enhanced, ends_by_done, ends_by_loss}
use Rattle.bay_model.specs.Commands.{is_test}
use Rattle.bay_model.specs.Waiting.{Waiting, reply, ending, waiting, extended, is_underway, ends_for, tests, tests_of, replies_in}
use Rattle.bay_model.specs.Singles.{Single, arrival, after_single, after_singles}
use Rattle.bay_model.proofs.EveryPoint.{point}
use Rattle.history_laws.proofs.SingleLaws.{IsStill, IsOne, one_if, opers_single, outcome}
use Rattle.history_laws.proofs.SetLaws.{opers_singles}
use Rattle.history_laws.proofs.ShortLaws.{replies-told}

-- ---- how many replies and terminations there are

abbrev pub endings_in : List Waiting → ℕ
endings_in [] = 0
endings_in (reply o ∷ ws) = endings_in ws
endings_in (ending k good ∷ ws) = suc (endings_in ws)

endings-append : (ws vs : List Waiting) → endings_in (ws ++ vs) ≡ endings_in ws + endings_in vs
endings-append [] vs = omega arith
endings-append (reply o ∷ ws) vs = endings-append ws vs
endings-append (ending k good ∷ ws) vs = omega (arith, endings-append ws vs)

pub endings-extended : (ws vs : List Waiting) → endings_in (extended ws vs) ≡ endings_in ws + endings_in vs
endings-extended ws [] = omega arith
endings-extended ws (v ∷ vs) = endings-append ws (v ∷ vs)

pub all-endings : (ks : List ℕ) → endings_in (map (λ k. ending k true) ks) ≡ length ks
all-endings [] = refl
all-endings (k ∷ ks) = omega (arith, all-endings ks)

-- ---- a number of a list, and the list without its first

abbrev has : ℕ → List ℕ → Bool
has k [] = false
has k (j ∷ ks) = (j == k) || has k ks

abbrev pub less : ℕ → List ℕ → List ℕ
less k [] = []
less k (j ∷ ks) = if j == k then ks else j ∷ less k ks

less-one : (k : ℕ) (ks : List ℕ) → has k ks ≡ true → suc (length (less k ks)) ≡ length ks
less-one k [] h = absurd (cc h)
less-one k (j ∷ ks) h = either (j == k) h (less-one k ks) where
  either : (b : Bool) → (b || has k ks) ≡ true → (has k ks ≡ true → suc (length (less k ks)) ≡ length ks) → suc (length (if b then ks else j ∷ less k ks)) ≡ suc (length ks)
  either true h rest = refl
  either false h rest = omega (arith, rest h)

less-few : (k : ℕ) (ks : List ℕ) → length (less k ks) ≤ length ks
less-few k [] = omega arith
less-few k (j ∷ ks) = either (j == k) (less-few k ks) where
  either : (b : Bool) → length (less k ks) ≤ length ks → length (if b then ks else j ∷ less k ks) ≤ suc (length ks)
  either true rest = omega arith
  either false rest = omega (arith, rest)

less-other : (j k : ℕ) (ks : List ℕ) → (j == k) ≡ false → has k ks ≡ true → has k (less j ks) ≡ true
less-other j k [] other h = h
less-other j k (i ∷ ks) other h = either (i == j) refl (i == k) refl h (less-other j k ks other) where
  either : (b : Bool) → (i == j) ≡ b → (d : Bool) → (i == k) ≡ d → (d || has k ks) ≡ true → (has k ks ≡ true → has k (less j ks) ≡ true) → has k (if b then ks else i ∷ less j ks) ≡ true
  either true is true so h rest = absurd (cc (sym (sym (ap (λ n. n == k) (eqb-true i j is)) ∙ so) ∙ other))
  either true is false so h rest = h
  either false is true so h rest = ap (λ x. x || has k (less j ks)) so
  either false is false so h rest = ap (λ x. x || has k (less j ks)) so ∙ rest h

-- ---- commands that end in a termination

module _ (c : Model) (a : ℕ) where
  -- the controls on which a runs a command that isn't ended
  abbrev owed_after : Deed → List ℕ → List ℕ
  owed_after (lost e) ks = if e == a then [] else ks
  owed_after (called e k operate v) ks = if (e == a) && (is_enhanced c k && not (is_test v)) then k ∷ ks else ks
  owed_after (finished k good) ks = less k ks
  owed_after _ ks = ks

  abbrev pub owed : Past → List ℕ
  owed [] = []
  owed (p ∷ before) = owed_after p.deed (owed before)

  abbrev runs : Option Execution → Bool
  runs None = false
  runs (Some x) = (x.by == a) && is_underway x.phase

  never : (x : Bool) → (x && false) ≡ true → ⊥
  never true h = cc h
  never false h = cc h

  -- a new command
  begun : (k j e : ℕ) (v : Value) (x : Option Execution) (ks : List ℕ) → (runs x ≡ true → has k ks ≡ true) → runs (execution_after c k (called e j operate v) x) ≡ true
      → has k (owed_after (called e j operate v) ks) ≡ true
  begun k j e v x ks was h = either (j == k) refl h where
    kept : runs x ≡ true → (b : Bool) → has k (if b then j ∷ ks else ks) ≡ true
    kept h true = either (j == k) where
      either : (d : Bool) → (d || has k ks) ≡ true
      either true = refl
      either false = was h
    kept h false = was h

    new : (en te mine : Bool) → (j == k) ≡ true → (mine && is_underway (if te then ended else underway)) ≡ true → en ≡ true → has k (if mine && (en && not te) then j ∷ ks else ks) ≡ true
    new en true mine same h is = absurd (never mine h)
    new true false true same h is = ap (λ d. d || has k ks) same
    new true false false same h is = absurd (cc h)
    new false false mine same h is = absurd (cc is)

    enhanced : (en : Bool) → is_enhanced c k ≡ en → (j == k) ≡ true → runs (if en then Some (record { by = e; oper = v; phase = if is_test v then ended else underway }) else x) ≡ true
        → has k (if (e == a) && (is_enhanced c j && not (is_test v)) then j ∷ ks else ks) ≡ true
    enhanced true is same h = new (is_enhanced c j) (is_test v) (e == a) same h (ap (is_enhanced c) (eqb-true j k same) ∙ is)
    enhanced false is same h = kept h ((e == a) && (is_enhanced c j && not (is_test v)))

    either : (b : Bool) → (j == k) ≡ b → runs (if b && is_enhanced c k then Some (record { by = e; oper = v; phase = if is_test v then ended else underway }) else x) ≡ true
        → has k (if (e == a) && (is_enhanced c j && not (is_test v)) then j ∷ ks else ks) ≡ true
    either true same h = enhanced (is_enhanced c k) refl same h
    either false other h = kept h ((e == a) && (is_enhanced c j && not (is_test v)))

  -- one that is ended runs no longer
  done-idle : (x : Option Execution) → runs (option_and_then (λ (e : Execution). ends_by_done e e.phase) x) ≡ true → ⊥
  done-idle None h = cc h
  done-idle (Some e) h = by e.by e.oper e.phase h where
    by : (b : ℕ) (v : Value) (p : Phase) → runs (ends_by_done (record { by = b; oper = v; phase = p }) p) ≡ true → ⊥
    by b v underway h = never (b == a) h
    by b v ended h = never (b == a) h
    by b v orphaned h = cc h

  lost-idle : (x : Execution) → runs (ends_by_loss x x.phase) ≡ true → ⊥
  lost-idle x h = by x.by x.oper x.phase h where
    by : (b : ℕ) (v : Value) (p : Phase) → runs (ends_by_loss (record { by = b; oper = v; phase = p }) p) ≡ true → ⊥
    by b v underway h = never (b == a) h
    by b v ended h = cc h
    by b v orphaned h = never (b == a) h

  and-left : (x y : Bool) → (x && y) ≡ true → x ≡ true
  and-left true y h = refl
  and-left false y h = absurd (cc h)

  lost-other : (k e : ℕ) (x : Option Execution) (ks : List ℕ) → (runs x ≡ true → has k ks ≡ true) → runs (option_and_then (λ (x : Execution). if x.by == e then ends_by_loss x x.phase else Some x) x) ≡ true
      → has k (if e == a then [] else ks) ≡ true
  lost-other k e None ks was h = absurd (cc h)
  lost-other k e (Some x) ks was h = by (x.by == e) refl (e == a) refl h where
    by : (b : Bool) → (x.by == e) ≡ b → (d : Bool) → (e == a) ≡ d → runs (if b then ends_by_loss x x.phase else Some x) ≡ true → has k (if d then [] else ks) ≡ true
    by true is d so h = absurd (lost-idle x h)
    by false is true so h =
        let mine : (x.by == a) ≡ true = and-left (x.by == a) (is_underway x.phase) h in
        let same : (x.by == e) ≡ (x.by == a) = ap (λ n. x.by == n) (eqb-true e a so) in
        absurd (cc (sym (same ∙ mine) ∙ is))
    by false is false so h = was h

  listed-after : (k : ℕ) (d : Deed) (x : Option Execution) (ks : List ℕ) → (runs x ≡ true → has k ks ≡ true) → runs (execution_after c k d x) ≡ true → has k (owed_after d ks) ≡ true
  listed-after k (called e j operate v) x ks was h = begun k j e v x ks was h
  listed-after k (finished j good) x ks was h = either (j == k) refl h where
    either : (b : Bool) → (j == k) ≡ b → runs (if b then option_and_then (λ (e : Execution). ends_by_done e e.phase) x else x) ≡ true → has k (less j ks) ≡ true
    either true same h = absurd (done-idle x h)
    either false other h = less-other j k ks other (was h)
  listed-after k (lost e) x ks was h = lost-other k e x ks was h
  listed-after k (terminated e j) x ks was h = either (j == k) h where
    either : (b : Bool) → runs (if b then None else x) ≡ true → has k ks ≡ true
    either true h = absurd (cc h)
    either false h = was h
  listed-after k _ x ks was h = was h

  listed : (k : ℕ) (past : Past) → runs (execution c k past) ≡ true → has k (owed past) ≡ true
  listed k [] h = absurd (cc h)
  listed k (p ∷ before) h = listed-after k p.deed (execution c k before) (owed before) (listed k before) h

  -- at a Done one more waits only where one less is owed
  pub done-level : (k : ℕ) (good : Bool) (past : Past) → (replies_in (ends_for a k good (execution c k past)) ≡ 0)
      × (endings_in (ends_for a k good (execution c k past)) + length (less k (owed past)) ≤ length (owed past))
  done-level k good past = by (execution c k past) (listed k past) where
    one : (b : Bool) → (b ≡ true → has k (owed past) ≡ true) → (replies_in (if b then ending k good ∷ [] else []) ≡ 0) × (endings_in (if b then ending k good ∷ [] else []) + length (less k (owed past)) ≤ length (owed past))
    one true h = (refl, let is = less-one k (owed past) (h refl) in omega (arith, is))
    one false h = (refl, omega (arith, less-few k (owed past)))

    by : (x : Option Execution) → (runs x ≡ true → has k (owed past) ≡ true) → (replies_in (ends_for a k good x) ≡ 0) × (endings_in (ends_for a k good x) + length (less k (owed past)) ≤ length (owed past))
    by None h = (refl, omega (arith, less-few k (owed past)))
    by (Some x) h = one ((x.by == a) && is_underway x.phase) h

  -- ---- single reads and writes

  pub still-owed : (d : Deed) (ks : List ℕ) → IsStill d → owed_after d ks ≡ ks
  still-owed (lost e) ks q = absurd q
  still-owed (called e k operate v) ks q = absurd q
  still-owed (finished k good) ks q = absurd q
  still-owed _ ks q = refl

  still-tests : (d : Deed) → IsStill d → tests_of c d ≡ []
  still-tests (called e k operate v) q = absurd q
  still-tests _ q = refl

  pub still-waiting : (n m : ℕ) (d : Deed) (past : Past) → IsStill d → waiting c a (point n m d ∷ past) ≡ waiting c a past
  still-waiting n m (opened e opener writer size owner) past q = absurd q
  still-waiting n m (lost e) past q = absurd q
  still-waiting n m (answered e output ch) past q = absurd q
  still-waiting n m (took e) past q = absurd q
  still-waiting n m (terminated e k) past q = absurd q
  still-waiting n m (finished k good) past q = absurd q
  still-waiting n m _ past q = refl

  one-waiting : (e q n m : ℕ) (d : Deed) (past : Past) → IsOne c e q d → waiting c a (point n m d ∷ past) ≡ waiting c a past
  one-waiting e q n m d past (inl still) = still-waiting n m d past still
  one-waiting e q n m d past (inr o) = ap (λ x. waiting c a (point n m x ∷ past)) o.2

  pub singles-waiting : (e n m : ℕ) (ss : List Single) (past : Past) → waiting c a (after_singles c e n m ss past) ≡ waiting c a past
  singles-waiting e n m [] past = refl
  singles-waiting e n m (s ∷ ss) past =
      singles-waiting e n m ss (after_single c e n m s past) ∙ one-waiting e (opers_single c s) n m _ past (outcome c (arrival n m ∷ past) e s)

  -- how many tests put a termination for a, where the request is e's
  abbrev pub pending : ℕ → ℕ → ℕ
  pending e n = if e == a then n else 0

  now-tests : (n m : ℕ) (d : Deed) (past : Past) → tests c n (point n m d ∷ past) ≡ tests c n past ++ tests_of c d
  now-tests n m d past = ap (λ b. if b then tests c n past ++ tests_of c d else []) (same-number n)

  abbrev owes : ℕ → ℕ → Past → ℕ
  owes e n past = length (owed past) + pending e (length (tests c n past))

  oper-owes : (e k q : ℕ) (v : Value) (ks ts : List ℕ) → one_if (is_enhanced c k) ≤ q
      → length (owed_after (called e k operate v) ks) + pending e (length (ts ++ tests_of c (called e k operate v))) ≤ (length ks + pending e (length ts)) + pending e q
  oper-owes e k q v ks ts le = by (e == a) (is_enhanced c k) (is_test v) le where
    by : (x y z : Bool) → one_if y ≤ q
        → length (if x && (y && not z) then k ∷ ks else ks) + (if x then length (ts ++ (if y && z then k ∷ [] else [])) else 0) ≤ (length ks + (if x then length ts else 0)) + (if x then q else 0)
    by false y z le = omega arith
    by true false z le = omega (arith, length-append ts [])
    by true true false le = omega (arith, le, length-append ts [])
    by true true true le = omega (arith, le, length-append ts (k ∷ []))

  one-owes : (e q n m : ℕ) (d : Deed) (past : Past) → IsOne c e q d → owes e n (point n m d ∷ past) ≤ owes e n past + pending e q
  one-owes e q n m d past (inl still) =
      let same : owes e n (point n m d ∷ past) ≡ owes e n past = ap (λ ks. length ks + pending e (length (tests c n (point n m d ∷ past)))) (still-owed d (owed past) still)
      ∙ ap (λ ts. length (owed past) + pending e (length ts)) (now-tests n m d past ∙ (ap (λ ts. tests c n past ++ ts) (still-tests d still) ∙ append-nil (tests c n past))) in
      omega (arith, same)
  one-owes e q n m d past (inr (k, v, is, le)) =
      let so : owes e n (point n m d ∷ past) ≡ length (owed_after (called e k operate v) (owed past)) + pending e (length (tests c n past ++ tests_of c (called e k operate v))) =
      ap (λ x. owes e n (point n m x ∷ past)) is ∙ ap (λ ts. length (owed_after (called e k operate v) (owed past)) + pending e (length ts)) (now-tests n m (called e k operate v) past) in
      omega (arith, so, oper-owes e k q v (owed past) (tests c n past) le)

  pending-sum : (e x y : ℕ) → pending e (x + y) ≡ pending e x + pending e y
  pending-sum e x y = either (e == a) where
    either : (b : Bool) → (if b then x + y else 0) ≡ (if b then x else 0) + (if b then y else 0)
    either true = refl
    either false = omega arith

  pub singles-owe : (e n m : ℕ) (ss : List Single) (past : Past) → owes e n (after_singles c e n m ss past) ≤ owes e n past + pending e (opers_singles c ss)
  singles-owe e n m [] past = omega arith
  singles-owe e n m (s ∷ ss) past =
      let first = one-owes e (opers_single c s) n m _ past (outcome c (arrival n m ∷ past) e s) in
      let rest = singles-owe e n m ss (after_single c e n m s past) in
      omega (arith, first, rest, pending-sum e (opers_single c s) (opers_singles c ss))
