-- What waits for an association: what holds of each reply that is put holds of each that waits.
use Rattle.std.proofs.Common.{◌≡◌, ℕ, Bool, true, false, List, [], ◌∷◌, map, drop, length, sym, subst}
use Rattle.std.specs.Prelude.{◌==◌, ◌&&◌, Option, None, Some, is_none, if◌then◌else◌}
use Rattle.list_laws.proofs.Among.{Each, each-both}
use Rattle.sv_base.specs.declared.config.Config.{Config}
use Rattle.sv_base.specs.declared.numbers.AssocNo.{AssocNo}
use Rattle.bay_model.specs.declared.answer.Answer.TheVariants as answers
use Rattle.bay_model.specs.declared.answer.Output.{Output}
use Rattle.bay_model.specs.declared.request.Request.{Request}
use Rattle.bay_model.specs.declared.step.Step.{Step}
use Rattle.bay_model.specs.declared.step.Step.TheVariants as steps
use Rattle.bay_model.specs.Answers.{Turn, History, points, deed_at, singles_after, output_for}
use Rattle.bay_model.specs.Associations.{ends}
use Rattle.bay_model.specs.Controls.{Execution, execution}
use Rattle.bay_model.specs.Named.{configured_model}
use Rattle.bay_model.specs.Points.{Past, Change, answered, nothing}
use Rattle.bay_model.specs.Reports.{Offer, first_offer}
use Rattle.bay_model.specs.Services.{singles_of, change_of}
use Rattle.bay_model.specs.Singles.{arrival, after_singles}
use Rattle.bay_model.specs.Takes.{taken, given_by, given_report}
use Rattle.bay_model.specs.Waiting.{Waiting, reply, ending, waiting, extended, ends_for, tests, is_underway}
use Rattle.bay_model.proofs.EveryPoint.{point}
use Rattle.history_laws.proofs.OwedLaws.{singles-waiting, still-waiting}
use Rattle.history_laws.proofs.SingleLaws.{component_}
use Rattle.object_model.specs.Fits.{fits}
use Rattle.output_laws.specs.Legal.{AreFit}

-- it holds of the reply
abbrev pub IsPut : (Output → Type 0) → Waiting → Type 0
IsPut P (reply o) = P o
IsPut P (ending k good) = Unit {0}

each-drop : {X : Type 0} (P : X → Type 0) (xs : List X) → Each P xs → Each P (drop 1 xs)
each-drop P [] h = tt
each-drop P (x ∷ xs) h = h.1

module _ (P : Output → Type 0) where
  each-extended : (ws vs : List Waiting) → Each (IsPut P) ws → Each (IsPut P) vs → Each (IsPut P) (extended ws vs)
  each-extended ws [] h k = h
  each-extended ws (v ∷ vs) h k = each-both (IsPut P) ws (v ∷ vs) h k

  each-endings : (ks : List ℕ) → Each (IsPut P) (map (λ k. ending k true) ks)
  each-endings [] = tt
  each-endings (k ∷ ks) = (tt, each-endings ks)

  each-ends : (a k : ℕ) (good : Bool) (e : Option Execution) → Each (IsPut P) (ends_for a k good e)
  each-ends a k good None = tt
  each-ends a k good (Some e) = by ((e.by == a) && is_underway e.phase)
    where
      by : (b : Bool) → Each (IsPut P) (if b then ending k good ∷ [] else [])
      by true = (tt, tt)
      by false = tt

  module _ (c : Config) (a : ℕ) where
    abbrev ArePut : Past → Type 0
    ArePut past = Each (IsPut P) (waiting (configured_model c) a past)

    none-if : (b : Bool) (ws : List Waiting) → Each (IsPut P) ws → Each (IsPut P) (if b then [] else ws)
    none-if true ws h = tt
    none-if false ws h = h

    drop-if : (b : Bool) (ws : List Waiting) → Each (IsPut P) ws → Each (IsPut P) (if b then drop 1 ws else ws)
    drop-if true ws h = each-drop (IsPut P) ws h
    drop-if false ws h = h

    answered-put : (n m e : ℕ) (o : Output) (ch : Change) (past : Past) → P o → ArePut past → ArePut (point n m (answered e o ch) ∷ past)
    answered-put n m e o ch past is h = by (e == a)
      where
        by : (b : Bool) → Each (IsPut P) (extended (waiting (configured_model c) a past) (if b then reply o ∷ map (λ k. ending k true) (tests (configured_model c) n past) else []))
        by true = each-extended (waiting (configured_model c) a past) (reply o ∷ map (λ k. ending k true) (tests (configured_model c) n past)) h (is, each-endings (tests (configured_model c) n past))
        by false = h

    take-put : (n m e : ℕ) (past : Past) → ArePut past → ArePut (point n m (taken (configured_model c) e (arrival n m ∷ past)).deed ∷ past)
    take-put n m e past h = either (is_none (ends e past)) (waiting (configured_model c) e past)
      where
        report : (o : Option Offer) → ArePut (point n m (given_report (configured_model c) e (arrival n m ∷ past) o).deed ∷ past)
        report None = h
        report (Some o) = h

        either : (x : Bool) (ws : List Waiting) → ArePut (point n m (if x then record { answer = answers.Closed; deed = nothing } else given_by (configured_model c) e (arrival n m ∷ past) ws).deed ∷ past)
        either true ws = h
        either false [] = report (first_offer (configured_model c) e (arrival n m ∷ past) 0 (configured_model c).blocks)
        either false (reply o ∷ ws) = drop-if (e == a) (waiting (configured_model c) a past) h
        either false (ending k good ∷ ws) = drop-if (e == a) (waiting (configured_model c) a past) h

    -- every reply that is put by a request after a legal history is so
    abbrev pub RepliesAre : Type 0
    RepliesAre = (h : History) (t : Turn) (e : AssocNo) (r : Request) → AreFit c h → fits c (steps.Ask e r) ≡ true → P (output_for (configured_model c) (length h) t.moment e.0 r (points (configured_model c) h))

    turn-put : RepliesAre → (h : History) (t : Turn) (s : Step) → AreFit c h → fits c s ≡ true → ArePut (points (configured_model c) h)
        → ArePut (point (length h) t.moment (deed_at (configured_model c) (length h) t (points (configured_model c) h) s) ∷ singles_after (configured_model c) (length h) t (points (configured_model c) h) s)
    turn-put so h t (steps.Open e size writer owner) fit f put = none-if (e.0 == a) (waiting (configured_model c) a (points (configured_model c) h)) put
    turn-put so h t (steps.Ask e r) fit f put =
        let past = points (configured_model c) h in
        answered-put (length h) t.moment e.0 (output_for (configured_model c) (length h) t.moment e.0 r past) (change_of (configured_model c) past r.service)
        (after_singles (configured_model c) e.0 (length h) t.moment (singles_of (configured_model c) past r.service) past) (so h t e r fit f)
        (subst (Each (IsPut P)) (sym (singles-waiting (configured_model c) a e.0 (length h) t.moment (singles_of (configured_model c) past r.service) past)) put)
    turn-put so h t (steps.Write e b comp v) fit f put =
        let past = points (configured_model c) h in
        subst (Each (IsPut P)) (sym (still-waiting (configured_model c) a (length h) t.moment _ past (component_ (configured_model c) (arrival (length h) t.moment ∷ past) e.0 b.0 comp v))) put
    turn-put so h t (steps.Take e) fit f put = take-put (length h) t.moment e.0 (points (configured_model c) h) put
    turn-put so h t (steps.Lost e) fit f put = none-if (e.0 == a) (waiting (configured_model c) a (points (configured_model c) h)) put
    turn-put so h t (steps.Value settings) fit f put = put
    turn-put so h t (steps.Done k good) fit f put = each-extended (waiting (configured_model c) a (points (configured_model c) h)) (ends_for a k.0 good (execution (configured_model c) k.0 (points (configured_model c) h))) put (each-ends a k.0 good (execution (configured_model c) k.0 (points (configured_model c) h)))
    turn-put so h t (steps.Block k flag) fit f put = put
    turn-put so h t steps.Tick fit f put = put

    pub are-put : RepliesAre → (h : History) → AreFit c h → ArePut (points (configured_model c) h)
    are-put so [] fit = tt
    are-put so (t ∷ h) fit = turn-put so h t t.step fit.0 fit.1 (are-put so h fit.0)
