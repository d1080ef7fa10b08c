-- What is heard of the singles of a request, and the test operates among their points.
use Rattle.std.proofs.Common.{◌≡◌, ◌∙◌, ◌∷◌, ◌++◌, ℕ, Bool, List, [], map, Option, None, Some, Result, refl, sym, ap, append-nil, append_assoc}
use Rattle.std.specs.Prelude.{◌&&◌, flat_map, if◌then◌else◌}
use Rattle.std.specs.List.{filter_map, cons_option}
use Rattle.list_laws.proofs.Places.{same-number}
use Rattle.sv_base.specs.declared.numbers.CtlNo.{CtlNo}
use Rattle.sv_base.specs.declared.value.Value.{Value}
use Rattle.bay_model.specs.Commands.{is_test}
use Rattle.bay_model.specs.Controls.{is_enhanced}
use Rattle.bay_model.specs.Model.{Model, Call, select, operate, cancel}
use Rattle.bay_model.specs.Outcomes.{Outcome, did, code_of, deed_of, error_in}
use Rattle.bay_model.specs.Points.{Deed, Past, called, opened, lost, valued, finished, blocked, wrote, put, copied, activated, edited, confirmed, selected_control, answered, took, terminated, reported, nothing}
use Rattle.bay_model.specs.Calls.{Went, accepted, mistyped, barred}
use Rattle.bay_model.specs.Singles.{Single, outcome_at, outcomes, after_single, after_singles, act_of, acts_in}
use Rattle.bay_model.specs.Waiting.{tests, tests_of}
use Rattle.bay_model.specs.Writes.{outcome_of_call}
use Rattle.bay_queues.specs.Heard.{Heard, heard_with, heard_all, listed, tests_in, ctl_no}
use Rattle.bay_queues.proofs.CallLaws.{hears-code}

-- ---- one outcome

-- no control acts, no error stands before the reply, and it tests nothing
pub record IsQuiet (o : Outcome) : Type 0 where
  pub act : act_of (deed_of o) ≡ None
  pub error : error_in o ≡ None
  pub tests : (enhanced : ℕ → Bool) → tests_in enhanced (deed_of o) ≡ []

-- of such a one the code alone is heard
pub quiet-heard : (enhanced : ℕ → Bool) (o : Outcome) (h : Heard) (code : Result (Unit {0}) ℕ) → IsQuiet o → code ≡ code_of o → record h { codes = h.codes ++ code ∷ [] } ≡ heard_with enhanced o h
quiet-heard enhanced o h code quiet is = rw (quiet.act, quiet.error, quiet.tests enhanced, ← is) (hears-code h code)

-- of a call by whether the control has enhanced security
same-tests : (e f : ℕ → Bool) (a k : ℕ) (call : Call) (v : Value) → e k ≡ f k → tests_in e (called a k call v) ≡ tests_in f (called a k call v)
same-tests e f a k select v is = refl
same-tests e f a k operate v is = ap (λ (b : Bool). if b && is_test v then k ∷ [] else []) is
same-tests e f a k cancel v is = refl

pub heard-same : (e f : ℕ → Bool) (m : Model) (a k : ℕ) (call : Call) (v : Value) (w : Went) (h : Heard) → e k ≡ f k → heard_with e (outcome_of_call m a k call v w) h ≡ heard_with f (outcome_of_call m a k call v w) h
heard-same e f m a k call v accepted h is = ap (λ ks. record (heard_with e (did (called a k call v)) h) { tests = h.tests ++ map ctl_no ks }) (same-tests e f a k call v is)
heard-same e f m a k call v mistyped h is = refl
heard-same e f m a k call v (barred cause) h is = refl

-- ---- several

pub codes-all : (e : ℕ → Bool) (os : List Outcome) (h : Heard) → (heard_all e os h).codes ≡ h.codes ++ map code_of os
codes-all e [] h = sym (append-nil h.codes)
codes-all e (o ∷ os) h = codes-all e os (heard_with e o h) ∙ append_assoc h.codes (code_of o ∷ []) (map code_of os)

with-listed : {A : Type 0} (o : Option A) (xs : List A) → listed o ++ xs ≡ cons_option o xs
with-listed None xs = refl
with-listed (Some x) xs = refl

pub errors-all : (e : ℕ → Bool) (os : List Outcome) (h : Heard) → (heard_all e os h).before ≡ h.before ++ filter_map error_in os
errors-all e [] h = sym (append-nil h.before)
errors-all e (o ∷ os) h = errors-all e os (heard_with e o h) ∙ (append_assoc h.before (listed (error_in o)) (filter_map error_in os) ∙ ap (λ l. h.before ++ l) (with-listed (error_in o) (filter_map error_in os)))

pub acts-all : (e : ℕ → Bool) (os : List Outcome) (h : Heard) → (heard_all e os h).acts ≡ h.acts ++ acts_in os
acts-all e [] h = sym (append-nil h.acts)
acts-all e (o ∷ os) h = acts-all e os (heard_with e o h) ∙ (append_assoc h.acts (listed (act_of (deed_of o))) (acts_in os) ∙ ap (λ l. h.acts ++ l) (with-listed (act_of (deed_of o)) (acts_in os)))

abbrev number : CtlNo → ℕ
number k = k.0

numbers-back : (ks : List ℕ) → map number (map ctl_no ks) ≡ ks
numbers-back [] = refl
numbers-back (k ∷ ks) = ap (λ l. k ∷ l) (numbers-back ks)

numbers-append : (xs ys : List CtlNo) → map number (xs ++ ys) ≡ map number xs ++ map number ys
numbers-append [] ys = refl
numbers-append (x ∷ xs) ys = ap (λ l. x.0 ∷ l) (numbers-append xs ys)

-- the definitions' tests of a deed
tests-told : (m : Model) (d : Deed) → tests_in (is_enhanced m) d ≡ tests_of m d
tests-told m (called a k select v) = refl
tests-told m (called a k operate v) = refl
tests-told m (called a k cancel v) = refl
tests-told m (opened a o w size owner) = refl
tests-told m (lost a) = refl
tests-told m (valued settings) = refl
tests-told m (finished k good) = refl
tests-told m (blocked k flag) = refl
tests-told m (wrote a b comp v) = refl
tests-told m (put a x v) = refl
tests-told m (copied a x v) = refl
tests-told m (activated a d n) = refl
tests-told m (edited a d n) = refl
tests-told m (confirmed a d) = refl
tests-told m (selected_control a k) = refl
tests-told m (answered a output change) = refl
tests-told m (took a) = refl
tests-told m (terminated a k) = refl
tests-told m (reported a b n) = refl
tests-told m nothing = refl

pub quiet-tests : (m : Model) (o : Outcome) → IsQuiet o → tests_of m (deed_of o) ≡ []
quiet-tests m o quiet = sym (tests-told m (deed_of o)) ∙ quiet.tests (is_enhanced m)

abbrev pub tests_among : Model → List Outcome → List ℕ
tests_among m os = flat_map (λ o. tests_of m (deed_of o)) os

pub tests-all : (m : Model) (os : List Outcome) (h : Heard) → map number (heard_all (is_enhanced m) os h).tests ≡ map number h.tests ++ tests_among m os
tests-all m [] h = sym (append-nil (map number h.tests))
tests-all m (o ∷ os) h =
    let own : List ℕ = tests_in (is_enhanced m) (deed_of o) in
    tests-all m os (heard_with (is_enhanced m) o h)
    ∙ (ap (λ l. l ++ tests_among m os) (numbers-append h.tests (map ctl_no own) ∙ ap (λ l. map number h.tests ++ l) (numbers-back own ∙ tests-told m (deed_of o)))
    ∙ append_assoc (map number h.tests) (tests_of m (deed_of o)) (tests_among m os))

-- ---- the tests of a step, after its singles

pub tests-after : (m : Model) (a n t : ℕ) (ss : List Single) (past : Past) → tests m n (after_singles m a n t ss past) ≡ tests m n past ++ tests_among m (outcomes m a n t ss past)
tests-after m a n t [] past = sym (append-nil (tests m n past))
tests-after m a n t (s ∷ ss) past =
    let one : tests m n (after_single m a n t s past) ≡ tests m n past ++ tests_of m (deed_of (outcome_at m a n t s past)) = rw (same-number n) refl in
    tests-after m a n t ss (after_single m a n t s past)
    ∙ (ap (λ l. l ++ tests_among m (outcomes m a n t ss (after_single m a n t s past))) one
    ∙ append_assoc (tests m n past) (tests_of m (deed_of (outcome_at m a n t s past))) (tests_among m (outcomes m a n t ss (after_single m a n t s past))))

-- ---- singles of which each is quiet

abbrev pub AreQuiet : List Outcome → Type 0
AreQuiet [] = Unit {0}
AreQuiet (o ∷ os) = IsQuiet o × AreQuiet os

pub quiet-acts : (os : List Outcome) → AreQuiet os → acts_in os ≡ []
quiet-acts [] are = refl
quiet-acts (o ∷ os) are = rw are.0.act (quiet-acts os are.1)

pub quiet-errors : (os : List Outcome) → AreQuiet os → filter_map error_in os ≡ []
quiet-errors [] are = refl
quiet-errors (o ∷ os) are = rw are.0.error (quiet-errors os are.1)

pub quiet-among : (m : Model) (os : List Outcome) → AreQuiet os → tests_among m os ≡ []
quiet-among m [] are = refl
quiet-among m (o ∷ os) are = rw (quiet-tests m o are.0) (quiet-among m os are.1)
