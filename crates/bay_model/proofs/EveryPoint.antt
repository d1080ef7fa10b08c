-- What holds of every point of every history: it is enough to show it of each deed that a step can come to.
use Rattle.std.proofs.Common.{◌≡◌, ℕ, suc, ◌-◌, Bool, true, false, List, [], ◌∷◌, ◌++◌, length, refl}
use Rattle.std.specs.Prelude.{⊤, Option, None, Some, is_none, nat_le, slice_get, if◌then◌else◌}
use Rattle.std.specs.Option.{option_map, option_and_then}
use Rattle.bay_model.specs.declared.answer.Output.{Output}
use Rattle.bay_model.specs.declared.answer.Answer.TheVariants as answers
use Rattle.bay_model.specs.declared.step.Setting.{Setting}
use Rattle.bay_model.specs.declared.step.Step.{Step}
use Rattle.bay_model.specs.declared.step.Step.TheVariants as steps
use Rattle.bay_model.specs.Model.{Model, Block}
use Rattle.bay_model.specs.Points.{Deed, Change, opened, lost, valued, finished, blocked, answered, took, terminated, reported, nothing, Point, Past}
use Rattle.bay_model.specs.Entries.{Entry, selected}
use Rattle.bay_model.specs.Blocks.{next, is_enabled_by}
use Rattle.bay_model.specs.Associations.{ends}
use Rattle.bay_model.specs.Waiting.{Waiting, reply, ending, waiting}
use Rattle.bay_model.specs.Singles.{Single, arrival, after_single, after_singles}
use Rattle.bay_model.specs.Services.{singles_of}
use Rattle.bay_model.specs.Reports.{Offer, offer, earlier, first_offer}
use Rattle.bay_model.specs.Takes.{taken, given_by, given_report}
use Rattle.bay_model.specs.Answers.{Turn, History, points, deed_at, singles_after}
use Rattle.bay_model.proofs.Deeds.{OfSingles, outcome, component_}

abbrev pub Every : (Point → Past → Type 0) → Past → Type 0
Every P [] = ⊤
Every P (p ∷ before) = Every P before × P p before

pub every-at : (P : Point → Past → Type 0) (ps : List Point) (p : Point) (before : Past) → Every P (ps ++ p ∷ before) → P p before
every-at P [] p before h = h.1
every-at P (q ∷ ps) p before h = every-at P ps p before h.0

pub every-from : (P : Point → Past → Type 0) (ps : List Point) (before : Past) → Every P (ps ++ before) → Every P before
every-from P [] before h = h
every-from P (q ∷ ps) before h = every-from P ps before h.0

abbrev pub point : ℕ → ℕ → Deed → Point
point n m d = record { moment = m; step = n; deed = d }

-- the fact of each deed; a report is of the next entry of its block, for who has enabled it
pub record OfPoints (c : Model) (P : Point → Past → Type 0) : Type 0 where
  pub of_single : (n m a : ℕ) (past : Past) → OfSingles c a (arrival n m ∷ past) (λ d. P (point n m d) past)
  pub of_opened : (n m : ℕ) (past : Past) (a o w size : ℕ) (owner : List ℕ) → P (point n m (opened a o w size owner)) past
  pub of_lost : (n m : ℕ) (past : Past) (a : ℕ) → P (point n m (lost a)) past
  pub of_valued : (n m : ℕ) (past : Past) (s : List Setting) → P (point n m (valued s)) past
  pub of_finished : (n m : ℕ) (past : Past) (k : ℕ) (good : Bool) → P (point n m (finished k good)) past
  pub of_blocked : (n m : ℕ) (past : Past) (k : ℕ) (flag : Bool) → P (point n m (blocked k flag)) past
  pub of_answered : (n m : ℕ) (past : Past) (a : ℕ) (o : Output) (ch : Change) → P (point n m (answered a o ch)) past
  pub of_took : (n m : ℕ) (past : Past) (a : ℕ) → P (point n m (took a)) past
  pub of_terminated : (n m : ℕ) (past : Past) (a k : ℕ) → P (point n m (terminated a k)) past
  pub of_reported : (n m : ℕ) (past : Past) (a b i : ℕ) → next c b (arrival n m ∷ past) ≡ Some i → is_enabled_by b a past ≡ true → P (point n m (reported a b i)) past
  pub of_nothing : (n m : ℕ) (past : Past) → P (point n m nothing) past

-- an offer for a is of the next entry of a block that a has enabled
abbrev IsOffer : Model → ℕ → Past → Option Offer → Type 0
IsOffer c a past None = ⊤
IsOffer c a past (Some o) = (next c o.block past ≡ Some o.id) × (is_enabled_by o.block a past ≡ true)

offered : (c : Model) (a b : ℕ) (past : Past) → is_enabled_by b a past ≡ true → IsOffer c a past (offer c b past)
offered c a b past mine = either (next c b past) refl where
  either : (n : Option ℕ) → next c b past ≡ n → IsOffer c a past (option_and_then (λ n. option_map (λ (e : Entry). record { block = b; id = n; entry = e }) (slice_get (selected c b past) (n - 1))) n)
  either None is = tt
  either (Some n) is = found (slice_get (selected c b past) (n - 1)) where
    found : (e : Option Entry) → IsOffer c a past (option_map (λ (e : Entry). record { block = b; id = n; entry = e }) e)
    found None = tt
    found (Some e) = (is, mine)

earlier_ : (c : Model) (a : ℕ) (past : Past) (x y : Option Offer) → IsOffer c a past x → IsOffer c a past y → IsOffer c a past (earlier x y)
earlier_ c a past None y h i = i
earlier_ c a past (Some x) None h i = h
earlier_ c a past (Some x) (Some y) h i = either (nat_le x.entry.step y.entry.step) where
  either : (b : Bool) → IsOffer c a past (if b then Some x else Some y)
  either true = h
  either false = i

first_ : (c : Model) (a : ℕ) (past : Past) (b : ℕ) (ds : List Block) → IsOffer c a past (first_offer c a past b ds)
first_ c a past b [] = tt
first_ c a past b (d ∷ ds) = earlier_ c a past (if is_enabled_by b a past then offer c b past else None) (first_offer c a past (suc b) ds) (either (is_enabled_by b a past) refl) (first_ c a past (suc b) ds) where
  either : (t : Bool) → is_enabled_by b a past ≡ t → IsOffer c a past (if t then offer c b past else None)
  either true is = offered c a b past is
  either false is = tt

module _ (c : Model) (P : Point → Past → Type 0) (f : OfPoints c P) where
  singles : (a n m : ℕ) (ss : List Single) (past : Past) → Every P past → Every P (after_singles c a n m ss past)
  singles a n m [] past h = h
  singles a n m (s ∷ ss) past h = singles a n m ss (after_single c a n m s past)
      (h, outcome c a (arrival n m ∷ past) (λ d. P (point n m d) past) (f.of_single n m a past) s)

  take_ : (a n m : ℕ) (past : Past) → P (point n m (taken c a (arrival n m ∷ past)).deed) past
  take_ a n m past = either (is_none (ends a (arrival n m ∷ past))) (waiting c a (arrival n m ∷ past)) where
    report : (o : Option Offer) → IsOffer c a (arrival n m ∷ past) o → P (point n m (given_report c a (arrival n m ∷ past) o).deed) past
    report None h = f.of_nothing n m past
    report (Some o) h = f.of_reported n m past a o.block o.id h.0 h.1

    either : (x : Bool) (ws : List Waiting)
        → P (point n m (if x then record { answer = answers.Closed; deed = nothing } else given_by c a (arrival n m ∷ past) ws).deed) past
    either true ws = f.of_nothing n m past
    either false [] = report (first_offer c a (arrival n m ∷ past) 0 c.blocks) (first_ c a (arrival n m ∷ past) 0 c.blocks)
    either false (reply o ∷ ws) = f.of_took n m past a
    either false (ending k good ∷ ws) = f.of_terminated n m past a k

  step : (n : ℕ) (t : Turn) (past : Past) (s : Step) → Every P past
      → Every P (point n t.moment (deed_at c n t past s) ∷ singles_after c n t past s)
  step n t past (steps.Open a size writer owner) h = (h, f.of_opened n t.moment past a.0 t.actor writer.0 size owner)
  step n t past (steps.Ask a r) h = (
    singles a.0 n t.moment (singles_of c past r.service) past h,
    f.of_answered n t.moment (after_singles c a.0 n t.moment (singles_of c past r.service) past) a.0 _ _,
  )
  step n t past (steps.Write a b comp v) h = (h, component_ c a.0 (arrival n t.moment ∷ past) (λ d. P (point n t.moment d) past) (f.of_single n t.moment a.0 past) b.0 comp v)
  step n t past (steps.Take a) h = (h, take_ a.0 n t.moment past)
  step n t past (steps.Lost a) h = (h, f.of_lost n t.moment past a.0)
  step n t past (steps.Value settings) h = (h, f.of_valued n t.moment past settings)
  step n t past (steps.Done k good) h = (h, f.of_finished n t.moment past k.0 good)
  step n t past (steps.Block k flag) h = (h, f.of_blocked n t.moment past k.0 flag)
  step n t past steps.Tick h = (h, f.of_nothing n t.moment past)

  pub every-point : (h : History) → Every P (points c h)
  every-point [] = tt
  every-point (t ∷ h) = step (length h) t (points c h) t.step (every-point h)
