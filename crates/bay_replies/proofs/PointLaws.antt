-- What a request reads is the same at each of its points, and nothing comes of it.
use Rattle.std.proofs.Common.{◌≡◌, ◌≤◌, ℕ, zero, suc, max, List, [], ◌∷◌, length, map, refl, ap, ap₂, ◌∙◌, arith}
use Rattle.std.specs.Prelude.{pos, Option, Result, Ok, Err}
use Rattle.std.specs.Option.{option_map}
use Rattle.std.specs.Int.{to_be_bytes, w64}
use Rattle.sv_base.specs.declared.value.Value.{Value}
use Rattle.sv_base.specs.declared.value.Value.TheVariants as kinds
use Rattle.sv_base.specs.declared.components.Comp.{Comp}
use Rattle.sv_base.specs.declared.components.Comp.TheVariants as comps
use Rattle.bay_model.specs.Associations.{address}
use Rattle.bay_model.specs.Blocks.{enabler}
use Rattle.bay_model.specs.Components.{owner_of, read_component, seconds_of, time_of_newest}
use Rattle.bay_model.specs.Model as model
use Rattle.bay_model.specs.Model.{Model, Access}
use Rattle.bay_model.specs.Outcomes.{deed_of, result_of}
use Rattle.bay_model.specs.Points.{Deed, nothing, Point, Past, now}
use Rattle.bay_model.specs.Reservations.{Reservation, lasting, reservation}
use Rattle.bay_model.specs.Reads.{read_attribute, read_node, outcome_of_read}
use Rattle.bay_model.specs.Singles.{Single, reads, writes, fails, arrival, outcome_at, after_single, outcomes}
use Rattle.bay_model.proofs.Again.{selected-again}
use Rattle.brcb_state.proofs.ReservedLaws.{lasting-later}
use Rattle.bay_replies.specs.Points.{arrivals}

-- ---- attributes and components

attribute-again : (c : Model) (m n : ℕ) (access : Access) (x : ℕ) (past : Past) → read_attribute c access x (arrival n m ∷ past) ≡ read_attribute c access x past
attribute-again c m n model.reported x past = refl
attribute-again c m n model.writable x past = refl
attribute-again c m n model.active x past = refl
attribute-again c m n model.edited x past = refl

pub attribute-same : (c : Model) (m n : ℕ) (access : Access) (x k : ℕ) (past : Past) → read_attribute c access x (arrivals n m k past) ≡ read_attribute c access x past
attribute-same c m n access x zero past = refl
attribute-same c m n access x (suc k) past = attribute-again c m n access x (arrivals n m k past) ∙ attribute-same c m n access x k past

-- what is left of a reservation at a moment is left at that moment again
pub lasting-again : (m t : ℕ) (x : Option Reservation) → m ≤ t → lasting (max m t) (lasting t x) ≡ lasting t x
lasting-again m t x early =
    let is : max m t ≡ t = omega (arith, early) in
    lasting-later t (max m t) x (omega arith) ∙ ap (λ k. lasting k x) is

-- a further arrival reads the same, where it leaves the reservation
pub component-again : (c : Model) (b m n : ℕ) (comp : Comp) (q : Point) (before : Past) → m ≤ now (q ∷ before) → reservation b (arrival n m ∷ q ∷ before) ≡ reservation b (q ∷ before)
    → read_component c b comp (arrival n m ∷ q ∷ before) ≡ read_component c b comp (q ∷ before)
component-again c b m n comps.RptID q before same left = refl
component-again c b m n comps.RptEna q before same left = refl
component-again c b m n comps.DatSet q before same left = refl
component-again c b m n comps.ConfRev q before same left = refl
component-again c b m n comps.OptFlds q before same left = refl
component-again c b m n comps.BufTm q before same left = refl
component-again c b m n comps.SqNum q before same left = refl
component-again c b m n comps.TrgOps q before same left = refl
component-again c b m n comps.IntgPd q before same left = refl
component-again c b m n comps.GI q before same left = refl
component-again c b m n comps.PurgeBuf q before same left = refl
component-again c b m n comps.EntryID q before same left = ap (λ es. kinds.Octets (to_be_bytes w64 (length es))) (selected-again c b m n q before same)
component-again c b m n comps.TimeofEntry q before same left = ap (λ es. kinds.Stamp (time_of_newest es)) (selected-again c b m n q before same)
component-again c b m n comps.ResvTms q before same left = ap (λ r. kinds.Int (pos (seconds_of r))) left
component-again c b m n comps.Owner q before same left = ap (λ r. kinds.Octets (owner_of (option_map (λ e. address e (q ∷ before)) (enabler b (q ∷ before))) r)) left

pub component-same : (c : Model) (b m n : ℕ) (comp : Comp) (k : ℕ) (past : Past) → read_component c b comp (arrivals n m (suc k) past) ≡ read_component c b comp (arrival n m ∷ past)
component-same c b m n comp zero past = refl
component-same c b m n comp (suc k) past =
    let same : m ≤ now (arrival n m ∷ arrivals n m k past) = omega arith in
    component-again c b m n comp (arrival n m) (arrivals n m k past) same (lasting-again m (now (arrival n m ∷ arrivals n m k past)) (reservation b (arrivals n m k past)) same) ∙ component-same c b m n comp k past

-- ---- single reads

-- nodes that are read, each of which is so, and names that fail
abbrev pub ReadsOnly : (ℕ → Type 0) → List Single → Type 0
ReadsOnly N [] = Unit {0}
ReadsOnly N (reads x ∷ ss) = N x × ReadsOnly N ss
ReadsOnly N (writes x v ∷ ss) = ⊥
ReadsOnly N (fails code ∷ ss) = ReadsOnly N ss

pub rest-only : (N : ℕ → Type 0) (s : Single) (ss : List Single) → ReadsOnly N (s ∷ ss) → ReadsOnly N ss
rest-only N (reads x) ss h = h.1
rest-only N (writes x v) ss h = absurd h
rest-only N (fails code) ss h = h

-- what each is answered, where nodes read so
abbrev pub answer_to : (ℕ → Result Value ℕ) → Single → Result Value ℕ
answer_to f (reads x) = f x
answer_to f (writes x v) = Err 3
answer_to f (fails code) = Err code

pub nothing-read : (r : Result Value ℕ) → deed_of (outcome_of_read r) ≡ nothing
nothing-read (Ok v) = refl
nothing-read (Err code) = refl

pub result-read : (r : Result Value ℕ) → result_of (outcome_of_read r) ≡ r
result-read (Ok v) = refl
result-read (Err code) = refl

module _ (c : Model) (a m n : ℕ) (f : ℕ → Result Value ℕ) (past : Past) (N : ℕ → Type 0) (told : (k x : ℕ) → N x → read_node c a x (arrivals n m (suc k) past) ≡ outcome_of_read (f x)) where
  pub outcome-single : (k : ℕ) (s : Single) (ss : List Single) → ReadsOnly N (s ∷ ss) → outcome_at c a n m s (arrivals n m k past) ≡ outcome_of_read (answer_to f s)
  outcome-single k (reads x) ss h = told k x h.0
  outcome-single k (writes x v) ss h = absurd h
  outcome-single k (fails code) ss h = refl

  after-single : (k : ℕ) (s : Single) (ss : List Single) → ReadsOnly N (s ∷ ss) → after_single c a n m s (arrivals n m k past) ≡ arrivals n m (suc k) past
  after-single k s ss h = ap (λ (d : Deed). record { moment = m; step = n; deed = d } ∷ arrivals n m k past) (ap deed_of (outcome-single k s ss h) ∙ nothing-read (answer_to f s))

  pub outcomes-told : (k : ℕ) (ss : List Single) → ReadsOnly N ss → outcomes c a n m ss (arrivals n m k past) ≡ map (λ s. outcome_of_read (answer_to f s)) ss
  outcomes-told k [] h = refl
  outcomes-told k (s ∷ ss) h = ap₂ (λ o os. o ∷ os) (outcome-single k s ss h) (ap (outcomes c a n m ss) (after-single k s ss h) ∙ outcomes-told (suc k) ss (rest-only N s ss h))

  results-all : (ss : List Single) → map result_of (map (λ s. outcome_of_read (answer_to f s)) ss) ≡ map (answer_to f) ss
  results-all [] = refl
  results-all (s ∷ ss) = ap₂ (λ r rs. r ∷ rs) (result-read (answer_to f s)) (results-all ss)

  pub results-told : (ss : List Single) → ReadsOnly N ss → map result_of (outcomes c a n m ss past) ≡ map (answer_to f) ss
  results-told ss h = ap (map result_of) (outcomes-told zero ss h) ∙ results-all ss
