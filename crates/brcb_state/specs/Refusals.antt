-- What a write of a report block's component is answered (IEC 61850-7-2, SetBRCBValues).
use Rattle.std.specs.Prelude.{◌≡◌, ℕ, pos, int_le, Bool, true, false, List, Result}
use Rattle.std.specs.Option.{option_map_or}
use Rattle.sv_base.specs.declared.numbers.AssocNo.{AssocNo}
use Rattle.sv_base.specs.declared.value.Value.{Value}
use Rattle.sv_base.specs.declared.value.Value.TheVariants as kinds
use Rattle.sv_base.specs.declared.components.Comp.{Comp}
use Rattle.sv_base.specs.declared.components.Comp.TheVariants as comps
use Rattle.bay_model.specs.BlockWrites as model
use Rattle.bay_model.specs.BlockWrites.{component_refusals}
pub use Rattle.bay_model.specs.Outcomes.{first_of}
use Rattle.brcb_state.specs.declared.block.Block.{Block}
use Rattle.brcb_state.specs.declared.told.Retained.{Retained}
use Rattle.brcb_state.specs.declared.told.Effect.{Effect}
use Rattle.bay_model.specs.Reservations.{lasting, is_for_another}
use Rattle.brcb_state.specs.Changes.{is_its, effect_of}

-- a DatSet that is neither empty nor known, or an EntryID that is neither zero nor of a retained entry
abbrev pub names_nothing : Retained → Bool → Comp → Value → Bool
names_nothing kept known comp v = model.names_nothing kept.front kept.len known comp v

-- at the moment now it is reserved for another address than owner
abbrev pub is_foreign : List ℕ → ℕ → Block → Bool
is_foreign owner now s = option_map_or (is_for_another owner) (lasting now s.reservation) false

-- the refusals in order, each with its test; foreign says that it is reserved for another address, and at last nothing that the
-- value names nothing
abbrev pub refusals : AssocNo → Bool → Comp → Value → Bool → Block → List (Bool × ℕ)
refusals a foreign comp v nothing s = component_refusals (is_its a) foreign comp v nothing s.enabler s.options

-- the code of the first whose test is true, else the effect
abbrev pub answer_to : AssocNo → Bool → Comp → Value → Bool → Block → Result Effect ℕ
answer_to a foreign comp v nothing s = first_of (refusals a foreign comp v nothing s) (effect_of comp v s)

-- who writes, where that is of no account
abbrev pub anyone : AssocNo
anyone = record { 0 = 0 }

-- an accepted ResvTms is a number from 0 to 32767
abbrev pub IsAcceptedFor : Comp → Value → Type 0
IsAcceptedFor comps.ResvTms (kinds.Int z) = (int_le (pos 0) z ≡ true) × (int_le z (pos 32767) ≡ true)
IsAcceptedFor comps.ResvTms _ = ⊥
IsAcceptedFor _ v = Unit {0}
