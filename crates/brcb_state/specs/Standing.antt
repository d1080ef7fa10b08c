-- What a block stands for: a report block of the model, up to the last point of a past.
use Rattle.std.specs.Prelude.{◌≡◌, ◌≤◌, ℕ, Bool, List, [], ◌∷◌, length, is_none, is_some, ◌&&◌, true, Option, None, Some, false, Result, if◌then◌else◌, ◌==◌}
use Rattle.std.specs.Option.{option_map}
use Rattle.sv_base.specs.declared.numbers.AssocNo.{AssocNo}
use Rattle.sv_base.specs.declared.value.Value.{Value}
use Rattle.bay_model.specs.Model.{Model}
use Rattle.bay_model.specs.Lookups.{block_of}
use Rattle.bay_model.specs.Points.{Deed, opened, wrote, lost, reported, Point, Past, now}
use Rattle.bay_model.specs.Associations.{address}
use Rattle.bay_model.specs.Reservations.{Reservation, lasting, reservation}
use Rattle.bay_model.specs.Parameters.{parameters_at, conf_rev, purges, is_purging_change, is_interrogation}
use Rattle.bay_model.specs.Sets.{sets}
use Rattle.bay_model.specs.Entries.{Entry, selected}
use Rattle.bay_model.specs.Retained.{front}
use Rattle.bay_model.specs.Blocks.{enabler, is_enabled_by, cursor, sq_num}
use Rattle.bay_model.specs.BlockWrites as writes
use Rattle.bay_model.specs.Outcomes.{Outcome, outcome_by}
use Rattle.brcb_state.specs.declared.block.Block.{Block}
use Rattle.brcb_state.specs.declared.block.Holder.{Holder}
use Rattle.brcb_state.specs.declared.told.Retained.{Retained}
use Rattle.brcb_state.specs.declared.told.Effect.{Effect}
use Rattle.brcb_state.specs.declared.told.Effect.TheVariants as effects
use Rattle.brcb_state.specs.Changes.{written, after_report, after_loss}

-- a reservation lasts at least a second
abbrev pub HasSeconds : Option Reservation → Type 0
HasSeconds None = Unit {0}
HasSeconds (Some r) = 1 ≤ r.seconds

pub record Stands (s : Block) (c : Model) (b : ℕ) (past : Past) : Type 0 where
  pub reference : s.reference ≡ (block_of c b).reference
  pub options : s.options ≡ parameters_at c b past
  pub revision : s.revision ≡ conf_rev c b past
  -- the enabler's address is still that from which it enabled the block
  pub owner : option_map (λ (e : Holder). e.owner) s.enabler ≡ option_map (λ e. address e past) (enabler b past)
  pub enabler : option_map (λ (e : Holder). e.by.0) s.enabler ≡ enabler b past
  -- the reservation that is kept may have run out since
  pub reservation : lasting (now past) s.reservation ≡ reservation b past
  pub seconds : HasSeconds s.reservation
  pub cursor : s.cursor ≡ cursor c b past
  pub count : s.count ≡ sq_num b past

-- the entries of block b
abbrev pub kept_at : Model → ℕ → Past → Retained
kept_at c b past = record { front = front c b past; len = length (selected c b past) }

-- a DatSet that is written names a set
abbrev pub is_known : Model → Past → Value → Bool
is_known c past v = writes.is_known (sets c past) v

-- the address of the association that wrote a component
abbrev pub writers_address : Deed → Past → List ℕ
writers_address (wrote a k comp v) before = address a before
writers_address _ before = []

-- after a point of this deed, at which the front of block b is here and the moment is now; owner is the writer's address
abbrev pub after_deed : ℕ → Deed → ℕ → ℕ → List ℕ → Block → Block
after_deed b (wrote a k comp v) here now owner s = if k == b then written (record { 0 = a }) owner now comp v here s else s
after_deed b (reported a k n) here now owner s = if k == b then after_report n s else s
after_deed b (lost a) here now owner s = after_loss (record { 0 = a }) now s
after_deed b _ here now owner s = s

-- an association that is opened has not enabled the block: it wasn't open
abbrev pub OpensNoEnabler : ℕ → Deed → Past → Type 0
OpensNoEnabler b (opened a opener writer size owner) before = is_enabled_by b a before ≡ false
OpensNoEnabler b _ before = Unit {0}

-- the outcome of a write that was answered so
abbrev pub outcome_of : Deed → Result Effect ℕ → Outcome
outcome_of deed answer = outcome_by answer deed

-- the moment of the newest of the entries
abbrev pub newest_of : List Entry → Option ℕ
newest_of [] = None
newest_of (e ∷ []) = Some e.moment
newest_of (e ∷ f ∷ es) = newest_of (f ∷ es)

abbrev pub is_purging : Effect → Bool
is_purging effects.Purge = true
is_purging effects.PurgingChange = true
is_purging _ = false

abbrev pub is_change : Effect → Bool
is_change effects.PurgingChange = true
is_change _ = false

abbrev pub is_general : Effect → Bool
is_general effects.General = true
is_general _ = false

abbrev pub is_enabling : Effect → Bool
is_enabling effects.Enabled = true
is_enabling _ = false

abbrev pub is_disabling : Effect → Bool
is_disabling effects.Disabled = true
is_disabling _ = false

-- the effect says what point p is for block b
pub record Tells (e : Effect) (c : Model) (b : ℕ) (p : Point) (before : Past) : Type 0 where
  pub purge : is_purging e ≡ purges c b p.deed before
  pub change : is_change e ≡ is_purging_change c b p.deed before
  pub general : is_general e ≡ is_interrogation b p.deed
  pub enabled : is_enabling e ≡ (is_none (enabler b before) && is_some (enabler b (p ∷ before)))
  pub disabled : is_disabling e ≡ (is_some (enabler b before) && is_none (enabler b (p ∷ before)))
