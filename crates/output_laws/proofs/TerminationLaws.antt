-- A termination that a Take gives can be sent.
use Rattle.std.proofs.Common.{◌≡◌, ℕ, zero, suc, ◌<◌, Bool, true, false, ◌&&◌, List, [], ◌∷◌, length, refl, sym, ap, subst, ◌∙◌}
use Rattle.std.specs.Prelude.{◌==◌, Option, None, Some, IfSome, is_none, slice_get, if◌then◌else◌}
use Rattle.std.specs.Option.{option_and_then, option_map, option_map_or}
use Rattle.std.specs.List.{All}
use Rattle.std.proofs.lemmas.Bool.{eqb-true}
use Rattle.std.proofs.lemmas.List.Elements.{All-head, All-tail}
use Rattle.list_laws.proofs.Among.{Each}
use Rattle.list_laws.proofs.Places.{same-number}
use Rattle.sv_base.specs.declared.config.Config.{Config}
use Rattle.sv_base.specs.declared.config.CtlDef.{CtlDef}
use Rattle.sv_base.specs.declared.value.Value.{Value}
use Rattle.sv_base.specs.declared.value.Value.TheVariants as kinds
use Rattle.bay_model.specs.declared.add_causes.TheConstants.{TIME_LIMIT_OVER}
use Rattle.bay_model.specs.declared.answer.Answer.TheVariants as answers
use Rattle.bay_model.specs.declared.answer.Output.{Output}
use Rattle.bay_model.specs.declared.answer.Output.TheVariants as outputs
use Rattle.bay_model.specs.declared.control.Termination.{Termination}
use Rattle.bay_model.specs.declared.step.Step.{Step}
use Rattle.bay_model.specs.declared.step.Step.TheVariants as steps
use Rattle.bay_model.specs.Answers.{Turn, History, points, answer_at}
use Rattle.bay_model.specs.Associations.{ends}
use Rattle.bay_model.specs.Commands.{command_of, is_command, is_test}
use Rattle.bay_model.specs.Controls.{Execution, Phase, execution, execution_after, ends_by_done, ends_by_loss, is_enhanced, underway, ended, orphaned}
use Rattle.bay_model.specs.Lookups.{control_of}
use Rattle.bay_model.specs.Model.{operate}
use Rattle.bay_model.specs.Named.{configured_model}
use Rattle.bay_model.specs.Outputs.{output_of, error_of}
use Rattle.bay_model.specs.Points.{Deed, Past, called, finished, lost, terminated, nothing}
use Rattle.bay_model.specs.Reports.{Offer, first_offer}
use Rattle.bay_model.specs.Singles.{arrival}
use Rattle.bay_model.specs.Takes.{taken, given_by, given_report}
use Rattle.bay_model.specs.Waiting.{Waiting, reply, ending, waiting}
use Rattle.bay_config.specs.Servable.{IsServable}
use Rattle.control_core.specs.TerminationsWait.{endings, due_for}
use Rattle.control_core.proofs.TurnLaws.{terminations_wait}
use Rattle.object_model.specs.Fits.{is_sound}
use Rattle.output_shapes.specs.Shapes.{IsShortError, HasShortName, CanBeSent}
use Rattle.output_laws.specs.Legal.{IsLegal}
use Rattle.output_laws.specs.Names.{HasShortNames, IsShortControl}
use Rattle.output_laws.proofs.CommandLaws.{error-short, oper-small}
use Rattle.output_laws.proofs.DeedLaws.{IsFine, AreFine, are-fine}
use Rattle.output_laws.proofs.WaitingLaws.{IsPut, RepliesAre, are-put}

-- ---- what runs

-- the control is there, and the value is that of an Oper of it
abbrev IsOper : Config → ℕ → Value → Type 0
IsOper c k v = (k < length c.controls) × (is_command (control_of (configured_model c) k).kind operate (command_of v) ≡ true) × (is_sound v ≡ true)

abbrev Runs : Config → ℕ → Option Execution → Type 0
Runs c k None = Unit {0}
Runs c k (Some e) = IsOper c k e.oper

module _ (c : Config) (k : ℕ) where
  done-runs : (x : Option Execution) → Runs c k x → Runs c k (option_and_then (λ (e : Execution). ends_by_done e e.phase) x)
  done-runs None h = tt
  done-runs (Some e) h = by e.phase
    where
      by : (p : Phase) → Runs c k (ends_by_done e p)
      by underway = h
      by ended = h
      by orphaned = tt

  lost-runs : (a : ℕ) (x : Option Execution) → Runs c k x → Runs c k (option_and_then (λ (e : Execution). if e.by == a then ends_by_loss e e.phase else Some e) x)
  lost-runs a None h = tt
  lost-runs a (Some e) h = either (e.by == a)
    where
      by : (p : Phase) → Runs c k (ends_by_loss e p)
      by underway = h
      by ended = tt
      by orphaned = h

      either : (b : Bool) → Runs c k (if b then ends_by_loss e e.phase else Some e)
      either true = by e.phase
      either false = h

  if-runs : (b : Bool) (x y : Option Execution) → (b ≡ true → Runs c k x) → Runs c k y → Runs c k (if b then x else y)
  if-runs true x y h i = h refl
  if-runs false x y h i = i

  after-runs : (d : Deed) (x : Option Execution) → IsFine c d → Runs c k x → Runs c k (execution_after (configured_model c) k d x)
  after-runs (called a j operate v) x fine h = either (j == k) (is_enhanced (configured_model c) k) refl
    where
      either : (b e : Bool) → (j == k) ≡ b → Runs c k (if b && e then Some (record { by = a; oper = v; phase = if is_test v then ended else underway }) else x)
      either true true is = subst (λ i. IsOper c i v) (eqb-true j k is) fine
      either true false is = h
      either false e is = h
  after-runs (finished j good) x fine h = if-runs (j == k) _ x (λ e. done-runs x h) h
  after-runs (lost a) x fine h = lost-runs a x h
  after-runs (terminated a j) x fine h = if-runs (j == k) None x (λ e. tt) h
  after-runs _ x fine h = h

  runs : (past : Past) → AreFine c past → Runs c k (execution (configured_model c) k past)
  runs [] fine = tt
  runs (p ∷ before) fine = after-runs p.deed (execution (configured_model c) k before) fine.1 (runs before fine.0)

-- ---- a termination

name-at : (ks : List CtlDef) (k : ℕ) (d : CtlDef) → All IsShortControl ks → slice_get ks k ≡ Some d → HasShortName d
name-at [] k d all is = absurd (cc is)
name-at (e ∷ ks) zero d all is = subst HasShortName (cc is) (All-head IsShortControl e ks all).oper
name-at (e ∷ ks) (suc k) d all is = name-at ks k d (All-tail IsShortControl e ks all) is

module _ (c : Config) (served : IsServable c) (names : HasShortNames c) where
  error-if : (k : ℕ) (good : Bool) (v : Value) → IsOper c k v → IfSome (if good then None else Some (error_of (configured_model c) k operate v TIME_LIMIT_OVER)) IsShortError
  error-if k true v h = tt
  error-if k false v h = error-short c k operate v TIME_LIMIT_OVER names h.1

  -- of what runs
  ends-running : (k : ℕ) (good : Bool) (e : Execution) → IsOper c k e.oper
      → CanBeSent c (outputs.Termination (record { control = record { 0 = k }; oper = e.oper; error = if good then None else Some (error_of (configured_model c) k operate e.oper TIME_LIMIT_OVER) }))
  ends-running k good e h =
      let s = oper-small c k e.oper served.controls h.1 h.2 in (
        record {
          control = h.0;
          name = λ d is. name-at c.controls k d names.controls is;
          oper = s.0;
          error = error-if k good e.oper h;
        },
        s.1,
      )

  some-due : (a k : ℕ) (good : Bool) (ws : List Waiting) → endings k (ending k good ∷ ws) ≡ suc (endings k ws)
  some-due a k good ws = ap (λ b. if b then suc (endings k ws) else endings k ws) (same-number k)

  ending-sent : (k : ℕ) (good : Bool) (past now : Past) (x : Option Execution) (n : ℕ) (a : ℕ) → execution (configured_model c) k now ≡ x → Runs c k x → suc n ≡ due_for a x
      → CanBeSent c (output_of (configured_model c) now (ending k good))
  ending-sent k good past now None n a is run due = absurd (cc due)
  ending-sent k good past now (Some e) n a is run due =
      subst (λ (x : Option Execution). CanBeSent c (outputs.Termination (record {
        control = record { 0 = k };
        oper = option_map_or (λ (e : Execution). e.oper) x kinds.Other;
        error = if good then None else option_map (λ (e : Execution). error_of (configured_model c) k operate e.oper TIME_LIMIT_OVER) x;
      }))) (sym is) (ends-running k good e run)

  -- what waits first for an association after a legal history
  pub first-ending : (h : History) (m a k : ℕ) (good : Bool) (ws : List Waiting) → IsLegal c h → waiting (configured_model c) a (points (configured_model c) h) ≡ ending k good ∷ ws
      → CanBeSent c (output_of (configured_model c) (arrival (length h) m ∷ points (configured_model c) h) (ending k good))
  first-ending h m a k good ws legal is =
      let past = points (configured_model c) h in
      let count : suc (endings k ws) ≡ due_for a (execution (configured_model c) k past) = sym (some-due a k good ws) ∙ (ap (endings k) (sym is) ∙ terminations_wait (configured_model c) h legal.accepted a k) in
      ending-sent k good past (arrival (length h) m ∷ past) (execution (configured_model c) k past) (endings k ws) a refl (runs c k past (are-fine c served h legal.fit)) count

-- ---- what a Take gives

abbrev IsNoEnd : Output → Type 0
IsNoEnd (outputs.Termination t) = ⊥
IsNoEnd _ = Unit {0}

no-ends : (c : Config) (a : ℕ) → RepliesAre IsNoEnd c a
no-ends c a h t e r fit f = tt

taken-same : (o p : Output) → answers.Taken o ≡ answers.Taken p → o ≡ p
taken-same o p e = cc

module _ (c : Config) (served : IsServable c) (names : HasShortNames c) (h : History) (legal : IsLegal c h) (e : Termination) where
  take-sent : (a m : ℕ) → (taken (configured_model c) a (arrival (length h) m ∷ points (configured_model c) h)).answer ≡ answers.Taken (outputs.Termination e) → CanBeSent c (outputs.Termination e)
  take-sent a m given = either (is_none (ends a (points (configured_model c) h))) (waiting (configured_model c) a (points (configured_model c) h)) refl (are-put IsNoEnd c a (no-ends c a) h legal.fit) given
    where
      report : (o : Option Offer) → (given_report (configured_model c) a (arrival (length h) m ∷ points (configured_model c) h) o).answer ≡ answers.Taken (outputs.Termination e) → CanBeSent c (outputs.Termination e)
      report None is = absurd (cc is)
      report (Some o) is = absurd (cc is)

      either : (x : Bool) (ws : List Waiting) → waiting (configured_model c) a (points (configured_model c) h) ≡ ws → Each (IsPut IsNoEnd) ws
          → (if x then record { answer = answers.Closed; deed = nothing } else given_by (configured_model c) a (arrival (length h) m ∷ points (configured_model c) h) ws).answer ≡ answers.Taken (outputs.Termination e)
          → CanBeSent c (outputs.Termination e)
      either true ws same put is = absurd (cc is)
      either false [] same put is = report (first_offer (configured_model c) a (arrival (length h) m ∷ points (configured_model c) h) 0 (configured_model c).blocks) is
      either false (reply o ∷ ws) same put is = absurd (subst IsNoEnd (taken-same o (outputs.Termination e) is) put.0)
      either false (ending k good ∷ ws) same put is =
          subst (CanBeSent c) (taken-same (output_of (configured_model c) (arrival (length h) m ∷ points (configured_model c) h) (ending k good)) (outputs.Termination e) is) (first-ending c served names h m a k good ws legal same)

  pub step-sent : (t : Turn) (s : Step) → answer_at (configured_model c) (length h) t (points (configured_model c) h) s ≡ answers.Taken (outputs.Termination e) → CanBeSent c (outputs.Termination e)
  step-sent t (steps.Take a) is = take-sent a.0 t.moment is
  step-sent t (steps.Open a size writer owner) is = absurd (cc is)
  step-sent t (steps.Ask a r) is = absurd (cc is)
  step-sent t (steps.Write a b comp v) is = absurd (cc is)
  step-sent t (steps.Lost a) is = absurd (cc is)
  step-sent t (steps.Value settings) is = absurd (cc is)
  step-sent t (steps.Done k good) is = absurd (cc is)
  step-sent t (steps.Block k flag) is = absurd (cc is)
  step-sent t steps.Tick is = absurd (cc is)
