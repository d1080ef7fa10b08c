-- How many terminations are in queues that grow and shrink.
use Rattle.std.proofs.Common.{◌≡◌, ◌≢◌, ℕ, suc, ◌+◌, ◌≤◌, Bool, true, false, List, [], ◌∷◌, ◌++◌, map, refl, sym, ap, ◌∙◌, subst, arith, ◌==◌}
use Rattle.std.specs.Prelude.{Option, None, Some, is_some, ◌&&◌, if◌then◌else◌}
use Rattle.std.specs.Option.{option_and_then}
use Rattle.list_laws.proofs.Places.{same-number as same, other-number as apart, same-of}
use Rattle.sv_base.specs.declared.value.Value.{Value}
use Rattle.bay_model.specs.Points.{Past}
use Rattle.bay_model.specs.Associations.{ends}
use Rattle.bay_model.specs.Controls.{Phase, Execution, underway, ended, orphaned, ends_by_done, ends_by_loss}
use Rattle.bay_model.specs.Waiting.{Waiting, reply, ending, extended, is_underway, ends_for}
use Rattle.control_core.specs.TerminationsWait.{endings, one_for, due_for, IsOpenWhile, IsRunnerOpen}
use Rattle.list_laws.proofs.Truths.{never}

-- a number, or none of it
abbrev pub given : Bool → ℕ → ℕ
given t n = if t then n else 0

pub endings-append : (k : ℕ) (ws vs : List Waiting) → endings k (ws ++ vs) ≡ endings k ws + endings k vs
endings-append k [] vs = omega arith
endings-append k (reply o ∷ ws) vs = endings-append k ws vs
endings-append k (ending j good ∷ ws) vs = either (j == k) (endings-append k ws vs) where
  either : (b : Bool) → endings k (ws ++ vs) ≡ endings k ws + endings k vs → (if b then suc (endings k (ws ++ vs)) else endings k (ws ++ vs)) ≡ (if b then suc (endings k ws) else endings k ws) + endings k vs
  either true h = omega (arith, h)
  either false h = h

pub endings-extended : (k : ℕ) (ws vs : List Waiting) → endings k (extended ws vs) ≡ endings k ws + endings k vs
endings-extended k ws [] = omega arith
endings-extended k ws (v ∷ vs) = endings-append k ws (v ∷ vs)

-- the terminations that a request's test operates put
abbrev pub told : List ℕ → List Waiting
told ks = map (λ k. ending k true) ks

pub told-append : (j : ℕ) (ks ls : List ℕ) → endings j (told (ks ++ ls)) ≡ endings j (told ks) + endings j (told ls)
told-append j [] ls = omega arith
told-append j (k ∷ ks) ls = either (k == j) (told-append j ks ls) where
  either : (b : Bool) → endings j (told (ks ++ ls)) ≡ endings j (told ks) + endings j (told ls) → (if b then suc (endings j (told (ks ++ ls))) else endings j (told (ks ++ ls))) ≡ (if b then suc (endings j (told ks)) else endings j (told ks)) + endings j (told ls)
  either true h = omega (arith, h)
  either false h = h

-- a Done
pub done-puts : (a k j : ℕ) (good : Bool) (x : Option Execution) → (k == j) ≡ true → due_for a x + endings j (ends_for a k good x) ≡ due_for a (option_and_then (λ (e : Execution). ends_by_done e e.phase) x)
done-puts a k j good None is = refl
done-puts a k j good (Some e) is = by e.by e.oper e.phase where
  by : (b : ℕ) (v : Value) (p : Phase) → one_for a b p + endings j (if (b == a) && is_underway p then ending k good ∷ [] else []) ≡ due_for a (ends_by_done (record { by = b; oper = v; phase = p }) p)
  by b v underway = mine (b == a) where
    mine : (t : Bool) → 0 + endings j (if t && true then ending k good ∷ [] else []) ≡ given t 1
    mine true = rw is refl
    mine false = refl
  by b v ended = mine (b == a) where
    mine : (t : Bool) → given t 1 + endings j (if t && false then ending k good ∷ [] else []) ≡ given t 1
    mine true = refl
    mine false = refl
  by b v orphaned = mine (b == a) where
    mine : (t : Bool) → 0 + endings j (if t && false then ending k good ∷ [] else []) ≡ 0
    mine true = refl
    mine false = refl

-- another control's Done
pub done-other : (a k j : ℕ) (good : Bool) (x : Option Execution) → (k == j) ≡ false → endings j (ends_for a k good x) ≡ 0
done-other a k j good None is = refl
done-other a k j good (Some e) is = mine ((e.by == a) && is_underway e.phase) where
  mine : (t : Bool) → endings j (if t then ending k good ∷ [] else []) ≡ 0
  mine true = rw is refl
  mine false = refl

-- a loss
abbrev pub left : ℕ → Option Execution → Option Execution
left b x = option_and_then (λ (e : Execution). if e.by == b then ends_by_loss e e.phase else Some e) x

pub loss-own : (a : ℕ) (x : Option Execution) → due_for a (left a x) ≡ 0
loss-own a None = refl
loss-own a (Some e) = either (e.by == a) refl where
  gone : (b : ℕ) (v : Value) (p : Phase) → due_for a (ends_by_loss (record { by = b; oper = v; phase = p }) p) ≡ 0
  gone b v underway = refl
  gone b v ended = refl
  gone b v orphaned = refl

  stays : (p : Phase) → (e.by == a) ≡ false → one_for a e.by p ≡ 0
  stays underway h = refl
  stays ended h = rw h refl
  stays orphaned h = refl

  either : (t : Bool) → (e.by == a) ≡ t → due_for a (if t then ends_by_loss e e.phase else Some e) ≡ 0
  either true h = gone e.by e.oper e.phase
  either false h = stays e.phase h

pub loss-other : (a b : ℕ) (x : Option Execution) → (b == a) ≡ false → due_for a (left b x) ≡ due_for a x
loss-other a b None h = refl
loss-other a b (Some e) h = either (e.by == b) refl where
  gone : (d : ℕ) (v : Value) (p : Phase) → (d == a) ≡ false → due_for a (ends_by_loss (record { by = d; oper = v; phase = p }) p) ≡ one_for a d p
  gone d v underway i = refl
  gone d v ended i = rw i refl
  gone d v orphaned i = refl

  either : (t : Bool) → (e.by == b) ≡ t → due_for a (if t then ends_by_loss e e.phase else Some e) ≡ one_for a e.by e.phase
  either true i = gone e.by e.oper e.phase (subst (λ d. (d == a) ≡ false) (sym (same-of e.by b i)) h)
  either false i = refl

-- ---- whether the association of what runs is open

pub open-after : (past : Past) (p : Past) (x : Option Execution) → ((b : ℕ) → is_some (ends b past) ≡ true → is_some (ends b p) ≡ true) → IsRunnerOpen past x → IsRunnerOpen p x
open-after past p None f h = tt
open-after past p (Some e) f h = by e.phase h where
  by : (q : Phase) → IsOpenWhile past e.by q → IsOpenWhile p e.by q
  by underway h = f e.by h
  by ended h = f e.by h
  by orphaned h = tt

pub open-done : (past : Past) (x : Option Execution) → IsRunnerOpen past x → IsRunnerOpen past (option_and_then (λ (e : Execution). ends_by_done e e.phase) x)
open-done past None h = tt
open-done past (Some e) h = by e.by e.oper e.phase h where
  by : (b : ℕ) (v : Value) (p : Phase) → IsOpenWhile past b p → IsRunnerOpen past (ends_by_done (record { by = b; oper = v; phase = p }) p)
  by b v underway h = h
  by b v ended h = h
  by b v orphaned h = tt

pub open-lost : (past : Past) (p : Past) (a : ℕ) (x : Option Execution) → ((b : ℕ) → (a == b) ≡ false → ends b p ≡ ends b past) → IsRunnerOpen past x → IsRunnerOpen p (left a x)
open-lost past p a None f h = tt
open-lost past p a (Some e) f h = either (e.by == a) refl where
  gone : (b : ℕ) (v : Value) (q : Phase) → IsRunnerOpen p (ends_by_loss (record { by = b; oper = v; phase = q }) q)
  gone b v underway = tt
  gone b v ended = tt
  gone b v orphaned = tt

  stays : (q : Phase) → (e.by == a) ≡ false → IsOpenWhile past e.by q → IsOpenWhile p e.by q
  stays underway i h = subst (λ o. is_some o ≡ true) (sym (f e.by (turned i))) h where
    turned : (e.by == a) ≡ false → (a == e.by) ≡ false
    turned i = apart a e.by (λ s. never (sym i ∙ (ap (λ d. d == a) s ∙ same a)))
  stays ended i h = subst (λ o. is_some o ≡ true) (sym (f e.by (turned i))) h where
    turned : (e.by == a) ≡ false → (a == e.by) ≡ false
    turned i = apart a e.by (λ s. never (sym i ∙ (ap (λ d. d == a) s ∙ same a)))
  stays orphaned i h = tt

  either : (t : Bool) → (e.by == a) ≡ t → IsRunnerOpen p (if t then ends_by_loss e e.phase else Some e)
  either true i = gone e.by e.oper e.phase
  either false i = stays e.phase i h

-- nothing waits for an association that isn't open
pub due-closed : (past : Past) (a : ℕ) (x : Option Execution) → ends a past ≡ None → IsRunnerOpen past x → due_for a x ≡ 0
due-closed past a None closed h = refl
due-closed past a (Some e) closed h = by e.phase h where
  by : (q : Phase) → IsOpenWhile past e.by q → one_for a e.by q ≡ 0
  by underway h = refl
  by ended h = either (e.by == a) refl where
    either : (t : Bool) → (e.by == a) ≡ t → given t 1 ≡ 0
    either false i = refl
    either true i = absurd (never (sym (ap is_some closed) ∙ (ap (λ d. is_some (ends d past)) (sym (same-of e.by a i)) ∙ h)))
  by orphaned h = refl

-- what runs for one runs for no other
pub due-one : (a b : ℕ) (x : Option Execution) → 1 ≤ due_for a x → b ≢ a → due_for b x ≡ 0
due-one a b None h not = refl
due-one a b (Some e) h not = by e.phase h where
  by : (q : Phase) → 1 ≤ one_for a e.by q → one_for b e.by q ≡ 0
  by underway h = refl
  by orphaned h = refl
  by ended h = either (e.by == a) (e.by == b) refl refl h where
    either : (t u : Bool) → (e.by == a) ≡ t → (e.by == b) ≡ u → 1 ≤ given t 1 → given u 1 ≡ 0
    either t false i j h = refl
    either false true i j h = absurd (omega (arith, h))
    either true true i j h = absurd (not (sym (same-of e.by b j) ∙ same-of e.by a i))

pub due-few : (a : ℕ) (x : Option Execution) → due_for a x ≤ 1
due-few a None = omega arith
due-few a (Some e) = by e.phase where
  by : (q : Phase) → one_for a e.by q ≤ 1
  by underway = omega arith
  by orphaned = omega arith
  by ended = either (e.by == a) where
    either : (t : Bool) → given t 1 ≤ 1
    either true = omega arith
    either false = omega arith
