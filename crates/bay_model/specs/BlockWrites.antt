-- What comes of a write of a report block's component: its first refusal, or that it is accepted (IEC 61850-7-2,
-- SetBRCBValues).
use Rattle.std.specs.Prelude.{ℕ, List, Bool, true, false, not, ◌&&◌, ◌||◌, ◌==◌, nat_le, nat_lt, int_le, pos, [], ◌∷◌, length, Option, is_some}
use Rattle.sv_base.specs.declared.value.Value.{Value}
use Rattle.sv_base.specs.declared.value.Value.TheVariants as kinds
use Rattle.sv_base.specs.declared.components.Comp.{Comp}
use Rattle.sv_base.specs.declared.components.Comp.TheVariants as comps
use Rattle.bay_model.specs.Model.{Model, DataSet, Parameters}
use Rattle.sv_base.specs.Kinds.{is_kind, is_in_range}
use Rattle.bay_model.specs.ComponentTable.{comp_kind}
use Rattle.bay_model.specs.Points.{wrote, Past}
use Rattle.bay_model.specs.Parameters.{parameters_at, bit}
use Rattle.bay_model.specs.Sets.{sets, set_referred}
use Rattle.bay_model.specs.Breaks.{is_empty}
use Rattle.bay_model.specs.Entries.{selected}
use Rattle.bay_model.specs.Retained.{front}
use Rattle.bay_model.specs.Blocks.{enabler, is_held, entry_id}
use Rattle.bay_model.specs.Reservations.{is_reserved_for_another}
use Rattle.bay_model.specs.Outcomes.{Outcome, first_code}
use Rattle.bay_model.specs.declared.access_errors.TheConstants.{TEMPORARILY_UNAVAILABLE, OBJECT_ACCESS_DENIED, TYPE_INCONSISTENT, OBJECT_ATTRIBUTE_INCONSISTENT, OBJECT_VALUE_INVALID}

-- ConfRev, SqNum, TimeofEntry and Owner refuse every write
abbrev pub is_written : Comp → Bool
is_written comps.ConfRev = false
is_written comps.SqNum = false
is_written comps.TimeofEntry = false
is_written comps.Owner = false
is_written _ = true

-- RptEna TRUE with an empty DatSet, or GI TRUE where TrgOps leaves general interrogation out
abbrev pub contradicts : Comp → Value → Parameters → Bool
contradicts comps.RptEna (kinds.Bool on) parameters = on && is_empty parameters.dat_set
contradicts comps.GI (kinds.Bool on) parameters = on && not (bit 5 parameters.trg_ops)
contradicts _ v parameters = false

-- a DatSet that is written is the reference of one of these sets
abbrev pub is_known : List DataSet → Value → Bool
is_known all (kinds.Text t) = is_some (set_referred t all)
is_known all _ = false

-- the entry of a number is retained, above the front up to the newest, or the number is zero
abbrev pub is_retained_or_zero : ℕ → ℕ → ℕ → Bool
is_retained_or_zero front newest n = (n == 0) || (nat_lt front n && nat_le n newest)

-- a DatSet that is neither empty nor, as known says, that of a data set, an EntryID that is neither zero nor of a retained
-- entry, or a ResvTms below 0
abbrev pub names_nothing : ℕ → ℕ → Bool → Comp → Value → Bool
names_nothing front newest known comps.DatSet (kinds.Text t) = not (is_empty t) && not known
names_nothing front newest known comps.EntryID (kinds.Octets o) = not (is_retained_or_zero front newest (entry_id o))
names_nothing front newest known comps.ResvTms (kinds.Int z) = not (int_le (pos 0) z)
names_nothing front newest known _ v = false

-- The refusals of a write of a component, in order, each with its test. The block has these parameters, and is enabled by this
-- one; foreign says that it is reserved for another address, nothing that the value names nothing.
abbrev pub component_refusals : {H : Type 0} → (H → Bool) → Bool → Comp → Value → Bool → Option H → Parameters → List (Bool × ℕ)
component_refusals mine foreign comp v nothing enabler parameters =
    (not (is_kind (comp_kind comp) v), TYPE_INCONSISTENT) ∷ (not (is_written comp), OBJECT_ACCESS_DENIED)
    ∷ (foreign || is_held mine comp v enabler, TEMPORARILY_UNAVAILABLE) ∷ (contradicts comp v parameters, OBJECT_ATTRIBUTE_INCONSISTENT)
    ∷ (not (is_in_range (comp_kind comp) v) || nothing, OBJECT_VALUE_INVALID) ∷ []

-- the value that is written to a component of block b names nothing
abbrev pub is_of_nothing : Model → ℕ → Comp → Value → Past → Bool
is_of_nothing c b comp v past = names_nothing (front c b past) (length (selected c b past)) (is_known (sets c past) v) comp v

-- a's write; past ends with the moment of the write
abbrev pub write_component : Model → ℕ → ℕ → Comp → Value → Past → Outcome
write_component c a b comp v past = first_code (component_refusals (λ e. e == a) (is_reserved_for_another b a past) comp v (is_of_nothing c b comp v past) (enabler b past) (parameters_at c b past)) (wrote a b comp v)
