-- Which terminations wait, turn by turn.
use Rattle.std.proofs.Common.{◌≡◌, ℕ, suc, ◌+◌, ◌≤◌, Bool, true, false, List, [], ◌∷◌, ◌++◌, length, drop, refl, sym, ap, ap₂, ◌∙◌, subst, arith, ◌==◌, append-nil}
use Rattle.std.specs.Prelude.{Option, None, Some, is_some, is_none, ◌&&◌, not, if◌then◌else◌}
use Rattle.std.specs.Option.{option_and_then}
use Rattle.sv_base.specs.declared.value.Value.{Value}
use Rattle.sv_base.specs.declared.numbers.AssocNo.{AssocNo}
use Rattle.bay_model.specs.declared.request.Request.{Request}
use Rattle.bay_model.specs.declared.answer.Output.{Output}
use Rattle.bay_model.specs.declared.answer.Answer.TheVariants as answers
use Rattle.bay_model.specs.declared.step.Step.{Step}
use Rattle.bay_model.specs.declared.step.Step.TheVariants as steps
use Rattle.bay_model.specs.Model.{Model, Call, select, operate, cancel}
use Rattle.bay_model.specs.Lookups.{control_of}
use Rattle.bay_model.specs.Points.{Deed, Change, Point, Past, opened, lost, valued, finished, blocked, wrote, put, copied, activated, edited, confirmed, called, selected_control, answered, took, terminated, reported, nothing}
use Rattle.bay_model.specs.Associations.{Ends, ends}
use Rattle.bay_model.specs.Commands.{is_test, is_command, command_of, Command}
use Rattle.bay_model.specs.Controls.{is_blocked, Execution, execution, execution_after, is_enhanced, underway, ended, ends_by_done}
use Rattle.bay_model.specs.Selections.{standing}
use Rattle.bay_model.specs.Calls.{is_selectable, is_by, is_by_another, is_other_command, accepted, mistyped, went, went_by, first_cause, causes}
use Rattle.bay_model.specs.Waiting.{Waiting, reply, ending, waiting, tests, tests_of, put_by, ends_for}
use Rattle.bay_model.specs.Singles.{Single, arrival, after_single, after_singles}
use Rattle.bay_model.specs.Services.{singles_of}
use Rattle.bay_model.specs.Reports.{Offer, first_offer}
use Rattle.bay_model.specs.Takes.{taken, given_by, given_report}
use Rattle.bay_model.specs.Answers.{Turn, History, points, deed_at, singles_after}
use Rattle.bay_model.specs.Acceptance.{IsHistory, fault_at, IsOpen}
use Rattle.control_core.specs.TerminationsWait.{endings, due_for, IsOpenWhile, IsRunnerOpen, asked}
use Rattle.list_laws.proofs.Places.{same-number as same, same-of}
use Rattle.control_core.proofs.EndingLaws.{given, endings-extended, told, told-append, done-puts, done-other, left, loss-own, loss-other, open-after, open-done, open-lost, due-closed, due-one, due-few}
use Rattle.control_core.proofs.SingleLaws.{IsQuiet, OfSingles, outcome, write-quiet}
use Rattle.list_laws.proofs.Truths.{never}
use Rattle.bay_model.proofs.AskedLaws.{open-if, no-tests}

abbrev point : ℕ → ℕ → Deed → Point
point n m d = record { moment = m; step = n; deed = d }

-- at the end of a step
record Settled (c : Model) (past : Past) : Type 0 where
  waits : (a k : ℕ) → endings k (waiting c a past) ≡ due_for a (execution c k past)
  open_ : (k : ℕ) → IsRunnerOpen past (execution c k past)

-- the terminations that a's test operates so far will put for it
abbrev pending : ℕ → ℕ → ℕ → List ℕ → ℕ
pending a b k ks = if a == b then endings k (told ks) else 0

-- amid a's request, which is step n
record Amid (c : Model) (n a : ℕ) (past : Past) : Type 0 where
  waits : (b k : ℕ) → endings k (waiting c b past) + pending a b k (tests c n past) ≡ due_for b (execution c k past)
  open_ : (k : ℕ) → IsRunnerOpen past (execution c k past)
  asker : is_some (ends a past) ≡ true

-- what a quiet deed leaves
record Leaves (c : Model) (n m : ℕ) (d : Deed) (past : Past) : Type 0 where
  queue : (b : ℕ) → waiting c b (point n m d ∷ past) ≡ waiting c b past
  runs : (k : ℕ) → execution c k (point n m d ∷ past) ≡ execution c k past
  ends_ : (b : ℕ) → ends b (point n m d ∷ past) ≡ ends b past
  tests_ : tests_of c d ≡ []

leaves : (c : Model) (n m : ℕ) (d : Deed) (past : Past) → IsQuiet d → Leaves c n m d past
leaves c n m nothing past h = record { queue = λ b. refl; runs = λ k. refl; ends_ = λ b. refl; tests_ = refl }
leaves c n m (wrote a b comp v) past h = record { queue = λ b. refl; runs = λ k. refl; ends_ = λ b. refl; tests_ = refl }
leaves c n m (put a x v) past h = record { queue = λ b. refl; runs = λ k. refl; ends_ = λ b. refl; tests_ = refl }
leaves c n m (copied a x v) past h = record { queue = λ b. refl; runs = λ k. refl; ends_ = λ b. refl; tests_ = refl }
leaves c n m (activated a d g) past h = record { queue = λ b. refl; runs = λ k. refl; ends_ = λ b. refl; tests_ = refl }
leaves c n m (edited a d g) past h = record { queue = λ b. refl; runs = λ k. refl; ends_ = λ b. refl; tests_ = refl }
leaves c n m (confirmed a d) past h = record { queue = λ b. refl; runs = λ k. refl; ends_ = λ b. refl; tests_ = refl }
leaves c n m (called a k select v) past h = record { queue = λ b. refl; runs = λ k. refl; ends_ = λ b. refl; tests_ = refl }
leaves c n m (called a k cancel v) past h = record { queue = λ b. refl; runs = λ k. refl; ends_ = λ b. refl; tests_ = refl }
leaves c n m (selected_control a k) past h = record { queue = λ b. refl; runs = λ k. refl; ends_ = λ b. refl; tests_ = refl }
leaves c n m (called a k operate v) past h = absurd h
leaves c n m (opened a o w size owner) past h = absurd h
leaves c n m (lost a) past h = absurd h
leaves c n m (valued s) past h = record { queue = λ b. refl; runs = λ k. refl; ends_ = λ b. refl; tests_ = refl }
leaves c n m (finished k good) past h = absurd h
leaves c n m (blocked k flag) past h = record { queue = λ b. refl; runs = λ k. refl; ends_ = λ b. refl; tests_ = refl }
leaves c n m (answered a o ch) past h = absurd h
leaves c n m (took a) past h = absurd h
leaves c n m (terminated a k) past h = absurd h
leaves c n m (reported a b i) past h = record { queue = λ b. refl; runs = λ k. refl; ends_ = λ b. refl; tests_ = refl }

-- the same open associations
open-same : (past p : Past) (x : Option Execution) → ((b : ℕ) → ends b p ≡ ends b past) → IsRunnerOpen past x → IsRunnerOpen p x
open-same past p x e h = open-after past p x (λ b i. ap is_some (e b) ∙ i) h

quietly : (c : Model) (n m a : ℕ) (d : Deed) (past : Past) → Amid c n a past → IsQuiet d → Amid c n a (point n m d ∷ past)
quietly c n m a d past h quiet =
    let l = leaves c n m d past quiet in
    record {
      waits = λ b k. ap₂ (λ ws ks. endings k ws + pending a b k ks) (l.queue b) (rw same (ap (λ ks. tests c n past ++ ks) l.tests_ ∙ append-nil (tests c n past))) ∙ (h.waits b k ∙ ap (due_for b) (sym (l.runs k)));
      open_ = λ k. subst (IsRunnerOpen (point n m d ∷ past)) (sym (l.runs k)) (open-same past (point n m d ∷ past) (execution c k past) l.ends_ (h.open_ k));
      asker = ap is_some (l.ends_ a) ∙ h.asker;
    }

settled-quietly : (c : Model) (n m : ℕ) (d : Deed) (past : Past) → Settled c past → IsQuiet d → Settled c (point n m d ∷ past)
settled-quietly c n m d past h quiet =
    let l = leaves c n m d past quiet in
    record {
      waits = λ b k. ap (endings k) (l.queue b) ∙ (h.waits b k ∙ ap (due_for b) (sym (l.runs k)));
      open_ = λ k. subst (IsRunnerOpen (point n m d ∷ past)) (sym (l.runs k)) (open-same past (point n m d ∷ past) (execution c k past) l.ends_ (h.open_ k));
    }

-- ---- an accepted Oper

-- a call that is accepted meets no cause
pub no-cause : (t : Bool × ℕ) (ts : List (Bool × ℕ)) → went_by (first_cause (t ∷ ts)) ≡ accepted → (t.0 ≡ false) × (went_by (first_cause ts) ≡ accepted)
no-cause t ts h = either t.0 refl h where
  either : (b : Bool) → t.0 ≡ b → went_by (if b then Some t.1 else first_cause ts) ≡ accepted → (t.0 ≡ false) × (went_by (first_cause ts) ≡ accepted)
  either true e i = absurd (cc i)
  either false e i = (e, i)

abbrev further : Model → ℕ → ℕ → Option Command → Past → List (Bool × ℕ)
further c k a m past = (is_selectable c k && is_by_another a (standing c k past), 27) ∷ (is_selectable c k && not (is_by a (standing c k past)), 18)
    ∷ (((control_of c k).model == 4) && is_other_command m (standing c k past), 26) ∷ (is_blocked k past, 9) ∷ []

not-running : (c : Model) (k a : ℕ) (v : Value) (past : Past) → went c k operate a v past ≡ accepted → is_some (execution c k past) ≡ false
not-running c k a v past h = either (is_command (control_of c k).kind operate (command_of v)) h where
  either : (b : Bool) → (if b then went_by (first_cause (causes c k operate a (command_of v) past)) else mistyped) ≡ accepted → is_some (execution c k past) ≡ false
  either true i =
      let one = no-cause ((control_of c k).model == 0, 1) ((is_some (execution c k past), 12) ∷ further c k a (command_of v) past) i in
      (no-cause (is_some (execution c k past), 12) (further c k a (command_of v) past) one.1).0
  either false i = absurd (cc i)

pub none-runs : (x : Option Execution) → is_some x ≡ false → x ≡ None
none-runs None h = refl
none-runs (Some e) h = absurd (never (sym h))

-- what it adds to those that are pending, and to what runs
operated-one : (a b k : ℕ) (v : Value) (enhanced test : Bool)
    → pending a b k (if enhanced && test then k ∷ [] else []) ≡ due_for b (if true && enhanced then Some (record { by = a; oper = v; phase = if test then ended else underway }) else None)
operated-one a b k v true true = either (a == b) where
  either : (t : Bool) → given t (given (k == k) 1) ≡ given t 1
  either true = rw same refl
  either false = refl
operated-one a b k v true false = either (a == b) where
  either : (t : Bool) → given t 0 ≡ 0
  either true = refl
  either false = refl
operated-one a b k v false test = either (a == b) where
  either : (t : Bool) → given t 0 ≡ 0
  either true = refl
  either false = refl

operated-other : (a b k j : ℕ) (t : Bool) → (k == j) ≡ false → pending a b j (if t then k ∷ [] else []) ≡ 0
operated-other a b k j true h = either (a == b) where
  either : (u : Bool) → given u (given (k == j) 1) ≡ 0
  either true = rw h refl
  either false = refl
operated-other a b k j false h = either (a == b) where
  either : (u : Bool) → given u 0 ≡ 0
  either true = refl
  either false = refl

pending-append : (a b k : ℕ) (ks ls : List ℕ) → pending a b k (ks ++ ls) ≡ pending a b k ks + pending a b k ls
pending-append a b k ks ls = either (a == b) where
  either : (t : Bool) → (if t then endings k (told (ks ++ ls)) else 0) ≡ (if t then endings k (told ks) else 0) + (if t then endings k (told ls) else 0)
  either true = told-append k ks ls
  either false = refl

operates : (c : Model) (n m a k : ℕ) (v : Value) (past : Past) → Amid c n a past → is_some (execution c k past) ≡ false → Amid c n a (point n m (called a k operate v) ∷ past)
operates c n m a k v past h idle = record {
  waits = λ b j. tested b j ∙ either b j (k == j) refl;
  open_ = λ j. opens j (k == j) refl;
  asker = h.asker;
} where
  now_ : (t : Bool) → t ≡ true → (if t then tests c n past ++ tests_of c (called a k operate v) else []) ≡ tests c n past ++ tests_of c (called a k operate v)
  now_ true h = refl
  now_ false h = absurd (never h)

  tested : (b j : ℕ) → endings j (waiting c b (point n m (called a k operate v) ∷ past)) + pending a b j (tests c n (point n m (called a k operate v) ∷ past)) ≡ (endings j (waiting c b past) + pending a b j (tests c n past)) + pending a b j (tests_of c (called a k operate v))
  tested b j = ap (λ ks. endings j (waiting c b past) + pending a b j ks) (now_ (n == n) (same n)) ∙ omega (arith, pending-append a b j (tests c n past) (tests_of c (called a k operate v)))

  either : (b j : ℕ) (t : Bool) → (k == j) ≡ t → (endings j (waiting c b past) + pending a b j (tests c n past)) + pending a b j (tests_of c (called a k operate v))
      ≡ due_for b (execution_after c j (called a k operate v) (execution c j past))
  either b j false e = rw e (omega (arith, operated-other a b k j (is_enhanced c k && is_test v) e, h.waits b j))
  either b j true e = subst (λ i. (endings i (waiting c b past) + pending a b i (tests c n past)) + pending a b i (tests_of c (called a k operate v)) ≡ due_for b (execution_after c i (called a k operate v) (execution c i past))) (same-of k j e)
      (let none = none-runs (execution c k past) idle in
      let zero_ : endings k (waiting c b past) + pending a b k (tests c n past) ≡ 0 = h.waits b k ∙ ap (due_for b) none in
      let add_ : (endings k (waiting c b past) + pending a b k (tests c n past)) + pending a b k (tests_of c (called a k operate v)) ≡ pending a b k (tests_of c (called a k operate v)) = omega (arith, zero_) in
      add_ ∙ (operated-one a b k v (is_enhanced c k) (is_test v) ∙ rw (same, none) refl))

  opens : (j : ℕ) (t : Bool) → (k == j) ≡ t → IsRunnerOpen (point n m (called a k operate v) ∷ past) (execution c j (point n m (called a k operate v) ∷ past))
  opens j false e = rw e (open-same past (point n m (called a k operate v) ∷ past) (execution c j past) (λ b. refl) (h.open_ j))
  opens j true e = rw e (enhanced (is_enhanced c j)) where
    enhanced : (t : Bool) → IsRunnerOpen (point n m (called a k operate v) ∷ past) (if true && t then Some (record { by = a; oper = v; phase = if is_test v then ended else underway }) else execution c j past)
    enhanced true = test (is_test v) where
      test : (t : Bool) → IsOpenWhile (point n m (called a k operate v) ∷ past) a (if t then ended else underway)
      test true = h.asker
      test false = h.asker
    enhanced false = open-same past (point n m (called a k operate v) ∷ past) (execution c j past) (λ b. refl) (h.open_ j)

-- ---- a request

called-single : (c : Model) (n m a k : ℕ) (j : Call) (v : Value) (past : Past) → Amid c n a past → went c k j a v (arrival n m ∷ past) ≡ accepted → Amid c n a (point n m (called a k j v) ∷ past)
called-single c n m a k select v past h is = quietly c n m a (called a k select v) past h tt
called-single c n m a k operate v past h is = operates c n m a k v past h (not-running c k a v (arrival n m ∷ past) is)
called-single c n m a k cancel v past h is = quietly c n m a (called a k cancel v) past h tt

of_singles : (c : Model) (n m a : ℕ) (past : Past) → Amid c n a past → OfSingles c a (arrival n m ∷ past) (λ d. Amid c n a (point n m d ∷ past))
of_singles c n m a past h = record {
  of_quiet = λ d quiet bare. quietly c n m a d past h quiet;
  of_called = λ k j v is. called-single c n m a k j v past h is;
  of_selected = λ k is. quietly c n m a (selected_control a k) past h tt;
}

singles : (c : Model) (n m a : ℕ) (ss : List Single) (past : Past) → Amid c n a past → Amid c n a (after_singles c a n m ss past)
singles c n m a [] past h = h
singles c n m a (s ∷ ss) past h = singles c n m a ss (after_single c a n m s past) (outcome c a (arrival n m ∷ past) (λ d. Amid c n a (point n m d ∷ past)) (of_singles c n m a past h) s)

replies : (c : Model) (n m a : ℕ) (o : Output) (ch : Change) (past : Past) → Amid c n a past → Settled c (point n m (answered a o ch) ∷ past)
replies c n m a o ch past h = record {
  waits = λ b k. endings-extended k (waiting c b past) (put_by c b n (answered a o ch) past) ∙ (ap (λ x. endings k (waiting c b past) + x) (either k (a == b)) ∙ h.waits b k);
  open_ = λ k. open-same past (point n m (answered a o ch) ∷ past) (execution c k past) (λ b. refl) (h.open_ k);
} where
  either : (k : ℕ) (t : Bool) → endings k (if t then reply o ∷ told (tests c n past) else []) ≡ (if t then endings k (told (tests c n past)) else 0)
  either k true = refl
  either k false = refl

begins : (c : Model) (h : History) (a : ℕ) → Settled c (points c h) → is_some (ends a (points c h)) ≡ true → Amid c (length h) a (points c h)
begins c h a s open_ = record {
  waits = λ b k. ap (λ ks. endings k (waiting c b (points c h)) + pending a b k ks) (no-tests c h) ∙ (omega (arith, nothing_ b k) ∙ s.waits b k);
  open_ = s.open_;
  asker = open_;
} where
  nothing_ : (b k : ℕ) → pending a b k [] ≡ 0
  nothing_ b k = either (a == b) where
    either : (t : Bool) → given t 0 ≡ 0
    either true = refl
    either false = refl

-- ---- the other steps

dones : (c : Model) (n m k : ℕ) (good : Bool) (past : Past) → Settled c past → Settled c (point n m (finished k good) ∷ past)
dones c n m k good past h = record {
  waits = λ b j. endings-extended j (waiting c b past) (ends_for b k good (execution c k past)) ∙ either b j (k == j) refl;
  open_ = λ j. opens j (k == j) refl;
} where
  either : (b j : ℕ) (t : Bool) → (k == j) ≡ t → endings j (waiting c b past) + endings j (ends_for b k good (execution c k past))
      ≡ due_for b (if k == j then option_and_then (λ (e : Execution). ends_by_done e e.phase) (execution c j past) else execution c j past)
  either b j false e = rw e (omega (arith, done-other b k j good (execution c k past) e, h.waits b j))
  either b j true e = subst (λ i. endings i (waiting c b past) + endings i (ends_for b k good (execution c k past)) ≡ due_for b (if k == i then option_and_then (λ (e : Execution). ends_by_done e e.phase) (execution c i past) else execution c i past)) (same-of k j e)
      (rw same (omega (arith, h.waits b k) ∙ done-puts b k k good (execution c k past) (same k)))

  opens : (j : ℕ) (t : Bool) → (k == j) ≡ t → IsRunnerOpen (point n m (finished k good) ∷ past) (if k == j then option_and_then (λ (e : Execution). ends_by_done e e.phase) (execution c j past) else execution c j past)
  opens j false e = rw e (open-same past (point n m (finished k good) ∷ past) (execution c j past) (λ b. refl) (h.open_ j))
  opens j true e = rw e (open-same past (point n m (finished k good) ∷ past) (option_and_then (λ (e : Execution). ends_by_done e e.phase) (execution c j past)) (λ b. refl) (open-done past (execution c j past) (h.open_ j)))

losses : (c : Model) (n m a : ℕ) (past : Past) → Settled c past → Settled c (point n m (lost a) ∷ past)
losses c n m a past h = record {
  waits = λ b j. either b j (a == b) refl;
  open_ = λ j. open-lost past (point n m (lost a) ∷ past) a (execution c j past) (λ b e. rw e refl) (h.open_ j);
} where
  either : (b j : ℕ) (t : Bool) → (a == b) ≡ t → endings j (waiting c b (point n m (lost a) ∷ past)) ≡ due_for b (left a (execution c j past))
  either b j true e = rw e (subst (λ i. 0 ≡ due_for b (left i (execution c j past))) (sym (same-of a b e)) (sym (loss-own b (execution c j past))))
  either b j false e = rw e (h.waits b j ∙ sym (loss-other b a (execution c j past) e))

openings : (c : Model) (n m a o w size : ℕ) (owner : List ℕ) (past : Past) → Settled c past → ends a past ≡ None → Settled c (point n m (opened a o w size owner) ∷ past)
openings c n m a o w size owner past h closed = record {
  waits = λ b j. either b j (a == b) refl;
  open_ = λ j. open-after past (point n m (opened a o w size owner) ∷ past) (execution c j past) (λ b i. opens b (a == b) i) (h.open_ j);
} where
  either : (b j : ℕ) (t : Bool) → (a == b) ≡ t → endings j (waiting c b (point n m (opened a o w size owner) ∷ past)) ≡ due_for b (execution c j past)
  either b j true e = rw e (sym (due-closed past b (execution c j past) (subst (λ i. ends i past ≡ None) (same-of a b e) closed) (h.open_ j)))
  either b j false e = rw e (h.waits b j)

  opens : (b : ℕ) (t : Bool) → is_some (ends b past) ≡ true → is_some (if t then Some (record { opener = o; writer = w; size = size }) else ends b past) ≡ true
  opens b true i = refl
  opens b false i = i

-- a Take that gives a reply
takes : (c : Model) (n m a : ℕ) (o : Output) (ws : List Waiting) (past : Past) → Settled c past → waiting c a past ≡ reply o ∷ ws → Settled c (point n m (took a) ∷ past)
takes c n m a o ws past h first = record {
  waits = λ b j. either b j (a == b) refl;
  open_ = λ j. open-same past (point n m (took a) ∷ past) (execution c j past) (λ b. refl) (h.open_ j);
} where
  either : (b j : ℕ) (t : Bool) → (a == b) ≡ t → endings j (waiting c b (point n m (took a) ∷ past)) ≡ due_for b (execution c j past)
  either b j true e = rw e (subst (λ i. endings j (drop 1 (waiting c i past)) ≡ due_for i (execution c j past)) (same-of a b e) (ap (λ l. endings j (drop 1 l)) first ∙ (ap (endings j) (sym first) ∙ h.waits a j)))
  either b j false e = rw e (h.waits b j)

-- a Take that gives a termination
gives : (c : Model) (n m a k : ℕ) (good : Bool) (ws : List Waiting) (past : Past) → Settled c past → waiting c a past ≡ ending k good ∷ ws → Settled c (point n m (terminated a k) ∷ past)
gives c n m a k good ws past h first = record {
  waits = λ b j. either b j (a == b) (k == j) refl refl;
  open_ = λ j. opens j (k == j);
} where
  counted : endings k (ending k good ∷ ws) ≡ suc (endings k ws)
  counted = rw same refl

  one : suc (endings k ws) ≡ due_for a (execution c k past)
  one = sym counted ∙ (ap (endings k) (sym first) ∙ h.waits a k)

  rest : (j : ℕ) → endings j (drop 1 (waiting c a past)) ≡ endings j ws
  rest j = ap (λ l. endings j (drop 1 l)) first

  opens : (j : ℕ) (t : Bool) → IsRunnerOpen (point n m (terminated a k) ∷ past) (if t then None else execution c j past)
  opens j true = tt
  opens j false = open-same past (point n m (terminated a k) ∷ past) (execution c j past) (λ b. refl) (h.open_ j)

  either : (b j : ℕ) (t u : Bool) → (a == b) ≡ t → (k == j) ≡ u → endings j (waiting c b (point n m (terminated a k) ∷ past)) ≡ due_for b (if k == j then None else execution c j past)
  either b j true true e f = subst (λ i. endings j (waiting c i (point n m (terminated a k) ∷ past)) ≡ due_for i (if k == j then None else execution c j past)) (same-of a b e)
      (subst (λ i. endings i (waiting c a (point n m (terminated a k) ∷ past)) ≡ due_for a (if k == i then None else execution c i past)) (same-of k j f)
      (rw (same a, same k) (rest k ∙ omega (arith, one, due-few a (execution c k past)))))
  either b j true false e f = subst (λ i. endings j (waiting c i (point n m (terminated a k) ∷ past)) ≡ due_for i (if k == j then None else execution c j past)) (same-of a b e)
      (rw (same a, f) (rest j ∙ (counts ∙ (ap (endings j) (sym first) ∙ h.waits a j)))) where
        counts : endings j ws ≡ endings j (ending k good ∷ ws)
        counts = rw f refl
  either b j false true e f = rw (e, f) (subst (λ i. endings i (waiting c b past) ≡ 0) (same-of k j f) (h.waits b k ∙ due-one a b (execution c k past) (omega (arith, one)) (λ s. never (sym e ∙ (ap (λ i. a == i) s ∙ same a)))))
  either b j false false e f = rw (e, f) (h.waits b j)

-- ---- a turn

closed-if : (x : Option Ends) (a : ℕ) → (if is_some x then Some (IsOpen a) else None) ≡ None → x ≡ None
closed-if None a h = refl
closed-if (Some e) a h = absurd (cc h)

take_ : (c : Model) (n m a : ℕ) (past : Past) → Settled c past → Settled c (point n m (taken c a (arrival n m ∷ past)).deed ∷ past)
take_ c n m a past h = either (is_none (ends a past)) (waiting c a past) refl where
  report : (o : Option Offer) → Settled c (point n m (given_report c a (arrival n m ∷ past) o).deed ∷ past)
  report None = settled-quietly c n m nothing past h tt
  report (Some o) = settled-quietly c n m (reported a o.block o.id) past h tt

  either : (x : Bool) (ws : List Waiting) → waiting c a past ≡ ws
      → Settled c (point n m (if x then record { answer = answers.Closed; deed = nothing } else given_by c a (arrival n m ∷ past) ws).deed ∷ past)
  either true ws e = settled-quietly c n m nothing past h tt
  either false [] e = report (first_offer c a (arrival n m ∷ past) 0 c.blocks)
  either false (reply o ∷ ws) e = takes c n m a o ws past h e
  either false (ending k good ∷ ws) e = gives c n m a k good ws past h e

turn : (c : Model) (h : History) (t : Turn) (s : Step) → Settled c (points c h) → fault_at c t.actor (points c h) s ≡ None
    → Settled c (point (length h) t.moment (deed_at c (length h) t (points c h) s) ∷ singles_after c (length h) t (points c h) s)
turn c h t (steps.Open a size writer owner) s none = openings c (length h) t.moment a.0 t.actor writer.0 size owner (points c h) s (closed-if (ends a.0 (points c h)) a.0 none)
turn c h t (steps.Ask a r) s none = replies c (length h) t.moment a.0 _ _ (after_singles c a.0 (length h) t.moment (singles_of c (points c h) r.service) (points c h))
    (singles c (length h) t.moment a.0 (singles_of c (points c h) r.service) (points c h) (begins c h a.0 s (open-if (ends a.0 (points c h)) a.0 _ _ none)))
turn c h t (steps.Write a b comp v) s none = settled-quietly c (length h) t.moment _ (points c h) s (write-quiet c a.0 b.0 comp v (arrival (length h) t.moment ∷ points c h))
turn c h t (steps.Take a) s none = take_ c (length h) t.moment a.0 (points c h) s
turn c h t (steps.Lost a) s none = losses c (length h) t.moment a.0 (points c h) s
turn c h t (steps.Value settings) s none = settled-quietly c (length h) t.moment (valued settings) (points c h) s tt
turn c h t (steps.Done k good) s none = dones c (length h) t.moment k.0 good (points c h) s
turn c h t (steps.Block k flag) s none = settled-quietly c (length h) t.moment (blocked k.0 flag) (points c h) s tt
turn c h t steps.Tick s none = settled-quietly c (length h) t.moment nothing (points c h) s tt

settled : (c : Model) (h : History) → IsHistory c h → Settled c (points c h)
settled c [] is = record { waits = λ a k. refl; open_ = λ k. tt }
settled c (t ∷ h) is = turn c h t t.step (settled c h is.0) is.1

pub terminations_wait : (c : Model) (h : History) → IsHistory c h → (a k : ℕ) → endings k (waiting c a (points c h)) ≡ due_for a (execution c k (points c h))
terminations_wait c h is a k = (settled c h is).waits a k

pub running_are_open : (c : Model) (h : History) → IsHistory c h → (k : ℕ) → IsRunnerOpen (points c h) (execution c k (points c h))
running_are_open c h is k = (settled c h is).open_ k

pub tests_are_new : (c : Model) (h : History) (t : Turn) (a : AssocNo) (r : Request) (k : ℕ) → IsHistory c h → fault_at c t.actor (points c h) (steps.Ask a r) ≡ None
    → endings k (waiting c a.0 (asked c h t a.0 r)) + endings k (told (tests c (length h) (asked c h t a.0 r))) ≤ 1
tests_are_new c h t a r k is none =
    let amid = singles c (length h) t.moment a.0 (singles_of c (points c h) r.service) (points c h) (begins c h a.0 (settled c h is) (open-if (ends a.0 (points c h)) a.0 _ _ none)) in
    let mine : pending a.0 a.0 k (tests c (length h) (asked c h t a.0 r)) ≡ endings k (told (tests c (length h) (asked c h t a.0 r))) = rw same refl in
    omega (arith, amid.waits a.0 k, mine, due-few a.0 (execution c k (asked c h t a.0 r)))
