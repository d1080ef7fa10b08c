-- What comes of the write of an EntryID.
use Rattle.std.proofs.Common.{◌≡◌, ◌==◌, ◌||◌, ℕ, Bool, true, false, not, List, [], ◌∷◌, length, is_some, refl, ap, ◌∙◌, if◌then◌else◌}
use Rattle.sv_base.specs.declared.value.Value.TheVariants as kinds
use Rattle.sv_base.specs.declared.components.Comp.TheVariants.{EntryID}
use Rattle.bay_model.specs.Points.{Deed, wrote}
use Rattle.bay_model.specs.Entries.{selected}
use Rattle.bay_model.specs.Retained.{front}
use Rattle.bay_model.specs.Blocks.{enabler, entry_id}
use Rattle.bay_model.specs.Reservations.{is_reserved_for_another}
use Rattle.bay_model.specs.BlockWrites.{is_retained_or_zero}
use Rattle.bay_model.specs.Outcomes.{Outcome, did, refused, first_code}
use Rattle.bay_model.specs.declared.access_errors.TheConstants.{OBJECT_ACCESS_DENIED, OBJECT_ATTRIBUTE_INCONSISTENT, OBJECT_VALUE_INVALID, TEMPORARILY_UNAVAILABLE, TYPE_INCONSISTENT}
use Rattle.history_laws.specs.EntryIds.{EntryIdsAreNamed}

-- an invalid one is refused, else the deed is done
otherwise : (good : Bool) (d : Deed) → (if not good then refused OBJECT_VALUE_INVALID else did d) ≡ (if good then did d else refused OBJECT_VALUE_INVALID)
otherwise true d = refl
otherwise false d = refl

pub entry_ids_named : EntryIdsAreNamed
entry_ids_named c a b octets past eight =
    let held : Bool = is_reserved_for_another b a past || is_some (enabler b past) in
    let good : Bool = is_retained_or_zero (front c b past) (length (selected c b past)) (entry_id octets) in
    let d : Deed = wrote a b EntryID (kinds.Octets octets) in
    ap (λ (n : ℕ). first_code ((not (n == 8), TYPE_INCONSISTENT) ∷ (false, OBJECT_ACCESS_DENIED) ∷ (held, TEMPORARILY_UNAVAILABLE) ∷ (false, OBJECT_ATTRIBUTE_INCONSISTENT) ∷ (not good, OBJECT_VALUE_INVALID) ∷ []) d) eight
    ∙ ap (λ (o : Outcome). if held then refused TEMPORARILY_UNAVAILABLE else o) (otherwise good d)
