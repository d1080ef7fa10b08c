-- What one more point does to each definition: these hold by computation, whatever came before.
use Rattle.std.proofs.Common.{◌≡◌, ℕ, suc, Bool, true, [], ◌∷◌, length, drop, map, refl}
use Rattle.std.specs.Prelude.{if◌then◌else◌, ◌==◌, None, Some}
use Rattle.sv_base.specs.declared.value.Value.{Value}
use Rattle.sv_base.specs.declared.value.Value.TheVariants as kinds
use Rattle.sv_base.specs.declared.components.Comp.TheVariants as comps
use Rattle.bay_model.specs.declared.answer.Output.{Output}
use Rattle.bay_model.specs.Model.{Model, operate}
use Rattle.bay_model.specs.Points.{Deed, lost, wrote, called, answered, Change, took, reported, nothing, Past}
use Rattle.bay_model.specs.Values.{value_at}
use Rattle.bay_model.specs.Parameters.{parameters_at}
use Rattle.bay_model.specs.Sets.{sets}
use Rattle.bay_model.specs.Notes.{note}
use Rattle.bay_model.specs.Groups.{events, open_group}
use Rattle.bay_model.specs.Entries.{selected, appended, closed_entry, integrity_entry}
use Rattle.bay_model.specs.Retained.{front, purged}
use Rattle.bay_model.specs.Blocks.{enabler, sent, cursor}
use Rattle.bay_model.specs.Waiting.{waiting, reply, ending, extended, tests}
use Rattle.bay_model.specs.Answers.{Turn, History, points, turned}

module _ (c : Model) (m n : ℕ) (before : Past) where
  abbrev pub at : Deed → Past
  at d = record { moment = m; step = n; deed = d } ∷ before

  -- a bare point, as of a read, a refusal or a Tick: time alone passes
  pub value_at-bare : (x : ℕ) → value_at c x (at nothing) ≡ value_at c x before
  value_at-bare x = refl

  pub parameters_at-bare : (b : ℕ) → parameters_at c b (at nothing) ≡ parameters_at c b before
  parameters_at-bare b = refl

  pub note-bare : (b : ℕ) → note c b (record { moment = m; step = n; deed = nothing }) before ≡ []
  note-bare b = refl

  pub selected-bare : (b : ℕ) → selected c b (at nothing) ≡ appended (appended (selected c b before) (closed_entry c b (record { moment = m; step = n; deed = nothing }) before (open_group c b before))) (integrity_entry c b (record { moment = m; step = n; deed = nothing }) before)
  selected-bare b = refl

  pub purged-bare : (b : ℕ) → purged c b (at nothing) ≡ purged c b before
  purged-bare b = refl

  pub cursor-bare : (b : ℕ) → cursor c b (at nothing) ≡ cursor c b before
  cursor-bare b = refl

  pub events-bare : (b : ℕ) → events c b (at nothing) ≡ events c b before
  events-bare b = refl

  pub waiting-bare : (a : ℕ) → waiting c a (at nothing) ≡ waiting c a before
  waiting-bare a = refl

  -- deeds of blocks, each leaving what it doesn't concern
  pub value_at-wrote : (a b x : ℕ) (v : Value) → value_at c x (at (wrote a b comps.RptID v)) ≡ value_at c x before
  value_at-wrote a b x v = refl

  pub enabler-enabled : (a b : ℕ) (on : Bool) → enabler b (at (wrote a b comps.RptEna (kinds.Bool on))) ≡ (if b == b then (if on then Some a else None) else enabler b before)
  enabler-enabled a b on = refl

  pub cursor-reported : (a b j i : ℕ) → cursor c j (at (reported a b i)) ≡ (if b == j then i else cursor c j before)
  cursor-reported a b j i = refl

  pub sent-reported : (a b j i : ℕ) → sent j (at (reported a b i)) ≡ (if b == j then suc (sent j before) else sent j before)
  sent-reported a b j i = refl

  pub selected-reported : (a b j i : ℕ) → selected c j (at (reported a b i)) ≡ selected c j (at nothing)
  selected-reported a b j i = refl

  pub front-reported : (a b j i : ℕ) → front c j (at (reported a b i)) ≡ front c j (at nothing)
  front-reported a b j i = refl

  pub selected-entry_id : (a b j : ℕ) (v : Value) → selected c j (at (wrote a b comps.EntryID v)) ≡ selected c j (at nothing)
  selected-entry_id a b j v = refl

  pub selected-enabled : (a b j : ℕ) (v : Value) → selected c j (at (wrote a b comps.RptEna v)) ≡ selected c j (at nothing)
  selected-enabled a b j v = refl

  pub front-lost : (a j : ℕ) → front c j (at (lost a)) ≡ front c j (at nothing)
  front-lost a j = refl

  pub selected-called : (a k j : ℕ) (v : Value) → selected c j (at (called a k operate v)) ≡ selected c j (at nothing)
  selected-called a k j v = refl

  pub selected-answered : (a j : ℕ) (o : Output) (ch : Change) → selected c j (at (answered a o ch)) ≡ selected c j (at nothing)
  selected-answered a j o ch = refl

  pub waiting-took : (a e : ℕ) → waiting c e (at (took a)) ≡ (if a == e then drop 1 (waiting c e before) else waiting c e before)
  waiting-took a e = refl

  pub waiting-answered : (a : ℕ) (o : Output) (ch : Change) → waiting c a (at (answered a o ch)) ≡ extended (waiting c a before) (if a == a then reply o ∷ map (λ k. ending k true) (tests c n before) else [])
  waiting-answered a o ch = refl

  pub sets-bare : sets c (at nothing) ≡ sets c before
  sets-bare = refl

-- the points and the answer of one step more
pub points-more : (c : Model) (t : Turn) (h : History) → points c (t ∷ h) ≡ turned c (length h) t (points c h)
points-more c t h = refl
