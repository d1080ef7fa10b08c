-- Calls come of requests alone, are accepted, and are the asker's; accepted Opers with Test FALSE act, and nothing else.
use Rattle.std.proofs.Common.{◌≡◌, ℕ, Bool, true, false, List, [], ◌∷◌, length, refl, ap, ◌∙◌, subst}
use Rattle.std.specs.Prelude.{Option, None, Some, is_some, is_none, not, ◌&&◌, if◌then◌else◌}
use Rattle.std.specs.Option.{option_map, option_map_or}
use Rattle.sv_base.specs.Same.{value_of}
use Rattle.sv_base.specs.declared.value.Value.{Value}
use Rattle.bay_model.specs.declared.control.Act.{Act}
use Rattle.bay_model.specs.declared.answer.Answer.TheVariants as answers
use Rattle.bay_model.specs.declared.step.Step.{Step}
use Rattle.bay_model.specs.declared.step.Step.TheVariants as steps
use Rattle.bay_model.specs.Model.{Model, Call, select, operate, cancel}
use Rattle.bay_model.specs.Lookups.{control_of}
use Rattle.bay_model.specs.Points.{Deed, Past, opened, lost, valued, finished, blocked, wrote, put, copied, activated, edited, confirmed, called, selected_control, answered, took, terminated, reported, nothing}
use Rattle.bay_model.specs.Associations.{ends}
use Rattle.bay_model.specs.Commands.{Command, command_of, is_command, is_test}
use Rattle.bay_model.specs.Calls.{Went, accepted, mistyped, barred, went, went_by, first_cause, causes}
use Rattle.bay_model.specs.Outcomes.{deed_of}
use Rattle.bay_model.specs.Writes.{outcome_of_call}
use Rattle.bay_model.specs.Waiting.{Waiting, reply, ending, waiting}
use Rattle.bay_model.specs.Singles.{Single, arrival, outcome_of, act_of, after_single, after_singles}
use Rattle.bay_model.specs.Services.{singles_of}
use Rattle.bay_model.specs.Reports.{Offer, first_offer}
use Rattle.bay_model.specs.Takes.{taken, given_by, given_report}
use Rattle.bay_model.specs.Answers.{Turn, History, points, deed_at, singles_after}
use Rattle.control_core.specs.CallsAccepted.{IsAccepted, AreAccepted, IsOf, IsNoCall, is_accepted, IsOper}
use Rattle.control_core.proofs.SingleLaws.{IsBare, outcome, write-bare}
use Rattle.list_laws.proofs.Truths.{never}

-- what is bare is no call
bare-none : (d : Deed) → IsBare d → IsNoCall d
bare-none (called a k call v) h = h
bare-none (selected_control a k) h = h
bare-none (lost a) h = tt
bare-none (opened a o w size owner) h = tt
bare-none (valued s) h = tt
bare-none (finished k good) h = tt
bare-none (blocked k flag) h = tt
bare-none (wrote a b comp v) h = tt
bare-none (put a x v) h = tt
bare-none (copied a x v) h = tt
bare-none (activated a d n) h = tt
bare-none (edited a d n) h = tt
bare-none (confirmed a d) h = tt
bare-none (answered a o ch) h = tt
bare-none (took a) h = tt
bare-none (terminated a k) h = tt
bare-none (reported a b n) h = tt
bare-none nothing h = tt

-- what is no call is accepted, and anybody's
none-accepted : (c : Model) (past : Past) (d : Deed) → IsNoCall d → IsAccepted c past d
none-accepted c past (called a k call v) h = absurd h
none-accepted c past (selected_control a k) h = absurd h
none-accepted c past (lost a) h = tt
none-accepted c past (opened a o w size owner) h = tt
none-accepted c past (valued s) h = tt
none-accepted c past (finished k good) h = tt
none-accepted c past (blocked k flag) h = tt
none-accepted c past (wrote a b comp v) h = tt
none-accepted c past (put a x v) h = tt
none-accepted c past (copied a x v) h = tt
none-accepted c past (activated a d n) h = tt
none-accepted c past (edited a d n) h = tt
none-accepted c past (confirmed a d) h = tt
none-accepted c past (answered a o ch) h = tt
none-accepted c past (took a) h = tt
none-accepted c past (terminated a k) h = tt
none-accepted c past (reported a b n) h = tt
none-accepted c past nothing h = tt

none-of : (a : ℕ) (d : Deed) → IsNoCall d → IsOf a d
none-of a (called b k call v) h = absurd h
none-of a (selected_control b k) h = absurd h
none-of a (lost b) h = tt
none-of a (opened b o w size owner) h = tt
none-of a (valued s) h = tt
none-of a (finished k good) h = tt
none-of a (blocked k flag) h = tt
none-of a (wrote e b comp v) h = tt
none-of a (put e x v) h = tt
none-of a (copied e x v) h = tt
none-of a (activated e d n) h = tt
none-of a (edited e d n) h = tt
none-of a (confirmed e d) h = tt
none-of a (answered e o ch) h = tt
none-of a (took e) h = tt
none-of a (terminated e k) h = tt
none-of a (reported e b n) h = tt
none-of a nothing h = tt

-- ---- the calls of a step

pub calls_are_askers : (c : Model) (a : ℕ) (s : Single) (past : Past) → IsOf a (deed_of (outcome_of c a s past))
calls_are_askers c a s past = outcome c a past (IsOf a) (record {
  of_quiet = λ d quiet is. none-of a d (bare-none d is);
  of_called = λ k call v is. refl;
  of_selected = λ k is. refl;
}) s

take-none : (c : Model) (b : ℕ) (past : Past) → IsNoCall (taken c b past).deed
take-none c b past = either (is_none (ends b past)) (waiting c b past) where
  report : (o : Option Offer) → IsNoCall (given_report c b past o).deed
  report None = tt
  report (Some o) = tt

  either : (x : Bool) (ws : List Waiting) → IsNoCall (if x then record { answer = answers.Closed; deed = nothing } else given_by c b past ws).deed
  either true ws = tt
  either false [] = report (first_offer c b past 0 c.blocks)
  either false (reply o ∷ ws) = tt
  either false (ending j good ∷ ws) = tt

step-none : (c : Model) (n : ℕ) (t : Turn) (past : Past) (s : Step) → IsNoCall (deed_at c n t past s)
step-none c n t past (steps.Open a size writer owner) = tt
step-none c n t past (steps.Ask a r) = tt
step-none c n t past (steps.Write a b comp v) = bare-none _ (write-bare c a.0 b.0 comp v (arrival n t.moment ∷ past))
step-none c n t past (steps.Take a) = take-none c a.0 (arrival n t.moment ∷ past)
step-none c n t past (steps.Lost a) = tt
step-none c n t past (steps.Value settings) = tt
step-none c n t past (steps.Done k good) = tt
step-none c n t past (steps.Block k flag) = tt
step-none c n t past steps.Tick = tt

pub steps_call_nothing : (c : Model) (n : ℕ) (t : Turn) (past : Past) → IsNoCall (deed_at c n t past t.step)
steps_call_nothing c n t past = step-none c n t past t.step

-- ---- they are accepted

single-accepted : (c : Model) (a : ℕ) (s : Single) (past : Past) → IsAccepted c past (deed_of (outcome_of c a s past))
single-accepted c a s past = outcome c a past (IsAccepted c past) (record {
  of_quiet = λ d quiet is. none-accepted c past d (bare-none d is);
  of_called = λ k call v is. is;
  of_selected = λ k is. is;
}) s

singles-accepted : (c : Model) (a n m : ℕ) (ss : List Single) (past : Past) → AreAccepted c past → AreAccepted c (after_singles c a n m ss past)
singles-accepted c a n m [] past h = h
singles-accepted c a n m (s ∷ ss) past h = singles-accepted c a n m ss (after_single c a n m s past) (single-accepted c a s (arrival n m ∷ past), h)

before-accepted : (c : Model) (n : ℕ) (t : Turn) (past : Past) (s : Step) → AreAccepted c past → AreAccepted c (singles_after c n t past s)
before-accepted c n t past (steps.Open a size writer owner) h = h
before-accepted c n t past (steps.Ask a r) h = singles-accepted c a.0 n t.moment (singles_of c past r.service) past h
before-accepted c n t past (steps.Write a b comp v) h = h
before-accepted c n t past (steps.Take a) h = h
before-accepted c n t past (steps.Lost a) h = h
before-accepted c n t past (steps.Value settings) h = h
before-accepted c n t past (steps.Done k good) h = h
before-accepted c n t past (steps.Block k flag) h = h
before-accepted c n t past steps.Tick h = h

pub calls_are_accepted : (c : Model) (h : History) → AreAccepted c (points c h)
calls_are_accepted c [] = tt
calls_are_accepted c (t ∷ h) = (none-accepted c _ (deed_at c (length h) t (points c h) t.step) (steps_call_nothing c (length h) t (points c h)), before-accepted c (length h) t (points c h) t.step (calls_are_accepted c h))

-- ---- what acts

pub opers_act : (c : Model) (a k : ℕ) (v : Value) (past : Past) → is_some (act_of (deed_of (outcome_of_call c a k operate v (went c k operate a v past)))) ≡ (is_accepted (went c k operate a v past) && not (is_test v))
opers_act c a k v past = by (went c k operate a v past) refl where
  typed : (b : Bool) → (if b then went_by (first_cause (causes c k operate a (command_of v) past)) else mistyped) ≡ accepted → b ≡ true
  typed true e = refl
  typed false e = absurd (cc e)

  reads : (x : Option Command) → is_command (control_of c k).kind operate x ≡ true
      → is_some {T = Act} (option_map_or (λ (m : Command). if m.test then None else Some (record { control = record { 0 = k }; value = value_of m.value; by = record { 0 = a } })) x None) ≡ not (option_map_or (λ (m : Command). m.test) x false)
  reads None h = absurd (never h)
  reads (Some m) h = test m.test where
    test : (b : Bool) → is_some {T = Act} (if b then None else Some (record { control = record { 0 = k }; value = value_of m.value; by = record { 0 = a } })) ≡ not b
    test true = refl
    test false = refl

  by : (w : Went) → went c k operate a v past ≡ w → is_some (act_of (deed_of (outcome_of_call c a k operate v w))) ≡ (is_accepted w && not (is_test v))
  by accepted e = reads (command_of v) (typed (is_command (control_of c k).kind operate (command_of v)) e)
  by mistyped e = refl
  by (barred cause) e = refl

-- the act of an accepted Oper
oper-act : (c : Model) (a k : ℕ) (v : Value) (past : Past) → went c k operate a v past ≡ accepted → (x : Act) → act_of (called a k operate v) ≡ Some x → IsOper c a past x
oper-act c a k v past is x h = by (command_of v) refl h where
  by : (o : Option Command) → command_of v ≡ o
      → option_map_or (λ (m : Command). if m.test then None else Some (record { control = record { 0 = k }; value = value_of m.value; by = record { 0 = a } })) o None ≡ Some x → IsOper c a past x
  by None e f = absurd (cc f)
  by (Some m) e f = test m.test refl f where
    test : (b : Bool) → m.test ≡ b → (if b then None else Some (record { control = record { 0 = k }; value = value_of m.value; by = record { 0 = a } })) ≡ Some x → IsOper c a past x
    test true g f = absurd (cc f)
    test false g f =
        let act : record { control = record { 0 = k }; value = value_of m.value; by = record { 0 = a } } ≡ x = cc f in
        subst (IsOper c a past) act (record {
          oper = v;
          accepts = is;
          no_test = ap (λ o. option_map_or (λ (m : Command). m.test) o false) e ∙ g;
          ctl_val = ap (option_map (λ (m : Command). value_of m.value)) e;
          asker = refl;
        })

abbrev ActIs : Model → ℕ → Past → Deed → Type 0
ActIs c a past d = (x : Act) → act_of d ≡ Some x → IsOper c a past x

quiet-act : (c : Model) (a : ℕ) (past : Past) (d : Deed) → IsNoCall d → ActIs c a past d
quiet-act c a past (called b k call v) h x e = absurd h
quiet-act c a past (selected_control b k) h x e = absurd h
quiet-act c a past (lost b) h x e = absurd (cc e)
quiet-act c a past (opened b o w size owner) h x e = absurd (cc e)
quiet-act c a past (valued s) h x e = absurd (cc e)
quiet-act c a past (finished k good) h x e = absurd (cc e)
quiet-act c a past (blocked k flag) h x e = absurd (cc e)
quiet-act c a past (wrote b i comp v) h x e = absurd (cc e)
quiet-act c a past (put b i v) h x e = absurd (cc e)
quiet-act c a past (copied b i v) h x e = absurd (cc e)
quiet-act c a past (activated b d n) h x e = absurd (cc e)
quiet-act c a past (edited b d n) h x e = absurd (cc e)
quiet-act c a past (confirmed b d) h x e = absurd (cc e)
quiet-act c a past (answered b o ch) h x e = absurd (cc e)
quiet-act c a past (took b) h x e = absurd (cc e)
quiet-act c a past (terminated b k) h x e = absurd (cc e)
quiet-act c a past (reported b i n) h x e = absurd (cc e)
quiet-act c a past nothing h x e = absurd (cc e)

call-act : (c : Model) (a : ℕ) (past : Past) (k : ℕ) (call : Call) (v : Value) → went c k call a v past ≡ accepted → ActIs c a past (called a k call v)
call-act c a past k select v is x e = absurd (cc e)
call-act c a past k operate v is x e = oper-act c a k v past is x e
call-act c a past k cancel v is x e = absurd (cc e)

pub acts_are_opers : (c : Model) (a : ℕ) (s : Single) (past : Past) (x : Act) → act_of (deed_of (outcome_of c a s past)) ≡ Some x → IsOper c a past x
acts_are_opers c a s past = outcome c a past (ActIs c a past) (record {
  of_quiet = λ d quiet is. quiet-act c a past d (bare-none d is);
  of_called = λ k call v is. call-act c a past k call v is;
  of_selected = λ k is x e. absurd (cc e);
}) s
