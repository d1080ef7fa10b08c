-- An SG attribute has the value of the active group, in every history.
use Rattle.std.proofs.Common.{◌≡◌, ◌≢◌, ℕ, Bool, true, false, List, [], ◌∷◌, length, refl, sym, ap, ◌∙◌, ◌⊎◌, inl, inr}
use Rattle.std.specs.Prelude.{⊤, is_none, Option, None, Some, if◌then◌else◌, ◌==◌, ◌&&◌, unwrap_or}
use Rattle.std.proofs.lemmas.Bool.Decides.{eqb_tells, Decides-eqb}
use Rattle.sv_base.specs.declared.value.Value.{Value}
use Rattle.bay_model.specs.declared.step.Step.{Step}
use Rattle.bay_model.specs.declared.step.Step.TheVariants as steps
use Rattle.bay_model.specs.Model as model
use Rattle.bay_model.specs.Model.{Model, Access}
use Rattle.bay_model.specs.Lookups.{attr_of}
use Rattle.bay_model.specs.Points.{Deed, nothing, put, confirmed, valued, activated, Past}
use Rattle.bay_model.specs.Settings.{active, stored, group, copy, is_edited}
use Rattle.bay_model.specs.Values.{value_at}
use Rattle.bay_model.specs.Outcomes.{deed_of}
use Rattle.bay_model.specs.Singles.{outcome_of, Single, arrival, after_singles, after_single}
use Rattle.bay_model.specs.Services.{singles_of}
use Rattle.bay_model.specs.declared.answer.Answer.TheVariants as answers
use Rattle.bay_model.specs.Associations.{ends}
use Rattle.bay_model.specs.Waiting.{Waiting, reply, ending, waiting}
use Rattle.bay_model.specs.Reports.{Offer, first_offer}
use Rattle.bay_model.specs.Takes.{taken, given_by, given_report}
use Rattle.bay_model.specs.Answers.{Turn, History, points, deed_at, singles_after}
use Rattle.bay_model.proofs.Deeds.{OfSingles, outcome, component_}
use Rattle.list_laws.proofs.Places.{swap-number as swap}

-- a client's write is of an attribute that clients write
abbrev IsWritable : Model → Deed → Type 0
IsWritable c (put a x v) = (attr_of c x).access ≡ model.writable
IsWritable c _ = ⊤

not-active : model.writable ≢ model.active
not-active e = cc

choose : (t : Bool) (a b e : Value) → b ≡ e → unwrap_or (if t then Some a else None) b ≡ (if t then a else e)
choose true a b e h = refl
choose false a b e h = h

module _ (c : Model) (x : ℕ) (is : (attr_of c x).access ≡ model.active) where
  abbrev d : ℕ
  d = (attr_of c x).domain

  -- one more point
  more : (p : Deed) (before : Past) (m n : ℕ) → IsWritable c p → value_at c x before ≡ stored c x before (group (active c d before))
      → value_at c x (record { moment = m; step = n; deed = p } ∷ before) ≡ stored c x (record { moment = m; step = n; deed = p } ∷ before) (group (active c d (record { moment = m; step = n; deed = p } ∷ before)))
  more (valued s) before m n w h = rw ((Decides-eqb (active c d before) (active c d before)).1 refl, h) refl
  more (put a y v) before m n w h = either (eqb_tells y x) where
    either : ((y == x) ≡ true) × (y ≡ x) ⊎ ((y == x) ≡ false) × (y ≢ x) → unwrap_or (if y == x then Some v else None) (value_at c x before) ≡ stored c x before (group (active c d before))
    either (inl e) = absurd (not-active (sym w ∙ (ap (λ z. (attr_of c z).access) e.1 ∙ is)))
    either (inr e) = rw e.0 h
  more (activated a e k) before m n w h = rw (is, swap d e) (either (e == d)) where
    either : (t : Bool) → unwrap_or (if t then Some (stored c x before (group k)) else None) (value_at c x before) ≡ stored c x before (group (if t then k else active c d before))
    either true = refl
    either false = h
  more (confirmed a e) before m n w h = rw (is, swap d e) (either (eqb_tells e d)) where
    either : ((e == d) ≡ true) × (e ≡ d) ⊎ ((e == d) ≡ false) × (e ≢ d)
        → unwrap_or (if (e == d) && is_edited e (active c e before) before then Some (stored c x before copy) else None) (value_at c x before)
        ≡ (if (e == d) && is_edited e (active c d before) before then stored c x before copy else stored c x before (group (active c d before)))
    either (inl f) = rw f.1 (choose ((d == d) && is_edited d (active c d before) before) (stored c x before copy) (value_at c x before) (stored c x before (group (active c d before))) h)
    either (inr f) = rw f.0 h
  more _ before m n w h = h

  abbrev Holds : Past → Type 0
  Holds past = value_at c x past ≡ stored c x past (group (active c d past))

  bare : Holds []
  bare = rw is refl

  facts : (a : ℕ) (past : Past) → OfSingles c a past (IsWritable c)
  facts a past = record {
    of_nothing = tt;
    of_wrote = λ b comp v h. tt;
    of_put = λ y v e. e;
    of_copied = λ y v. tt;
    of_activated = λ e n. tt;
    of_edited = λ e n free. tt;
    of_confirmed = λ e holds. tt;
    of_called = λ k j v. tt;
    of_selected = λ k. tt;
  }

  singles : (a n m : ℕ) (ss : List Single) (past : Past) → Holds past → Holds (after_singles c a n m ss past)
  singles a n m [] past h = h
  singles a n m (s ∷ ss) past h = singles a n m ss (after_single c a n m s past) (more (deed_of (outcome_of c a s (arrival n m ∷ past))) past m n (outcome c a (arrival n m ∷ past) (IsWritable c) (facts a (arrival n m ∷ past)) s) h)

  report : (a : ℕ) (past : Past) (o : Option Offer) → IsWritable c (given_report c a past o).deed
  report a past None = tt
  report a past (Some o) = tt

  give : (a : ℕ) (past : Past) (ws : List Waiting) → IsWritable c (given_by c a past ws).deed
  give a past [] = report a past (first_offer c a past 0 c.blocks)
  give a past (reply o ∷ ws) = tt
  give a past (ending k good ∷ ws) = tt

  take : (a : ℕ) (past : Past) → IsWritable c (taken c a past).deed
  take a past = either (is_none (ends a past)) where
    either : (t : Bool) → IsWritable c (if t then record { answer = answers.Closed; deed = nothing } else given_by c a past (waiting c a past)).deed
    either true = tt
    either false = give a past (waiting c a past)

  step : (n : ℕ) (t : Turn) (past : Past) (s : Step) → Holds past → Holds (record { moment = t.moment; step = n; deed = deed_at c n t past s } ∷ singles_after c n t past s)
  step n t past (steps.Open a size writer owner) h = more (deed_at c n t past (steps.Open a size writer owner)) past t.moment n tt h
  step n t past (steps.Ask a r) h = more (deed_at c n t past (steps.Ask a r)) (after_singles c a.0 n t.moment (singles_of c past r.service) past) t.moment n tt (singles a.0 n t.moment (singles_of c past r.service) past h)
  step n t past (steps.Write a b comp v) h = more (deed_at c n t past (steps.Write a b comp v)) past t.moment n (component_ c a.0 (arrival n t.moment ∷ past) (IsWritable c) (facts a.0 (arrival n t.moment ∷ past)) b.0 comp v) h
  step n t past (steps.Take a) h = more (deed_at c n t past (steps.Take a)) past t.moment n (take a.0 (arrival n t.moment ∷ past)) h
  step n t past (steps.Lost a) h = more (deed_at c n t past (steps.Lost a)) past t.moment n tt h
  step n t past (steps.Value sets) h = more (deed_at c n t past (steps.Value sets)) past t.moment n tt h
  step n t past (steps.Done k good) h = more (deed_at c n t past (steps.Done k good)) past t.moment n tt h
  step n t past (steps.Block k flag) h = more (deed_at c n t past (steps.Block k flag)) past t.moment n tt h
  step n t past steps.Tick h = more (deed_at c n t past steps.Tick) past t.moment n tt h

  pub settings_are : (h : History) → Holds (points c h)
  settings_are [] = bare
  settings_are (t ∷ h) = step (length h) t (points c h) t.step (settings_are h)
