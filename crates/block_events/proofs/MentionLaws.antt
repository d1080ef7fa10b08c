-- The members that changes are events of are among those of the data set.
use Rattle.std.proofs.Common.{◌<◌, ◌≤◌, ◌+◌, ◌-◌, ℕ, suc, Bool, true, false, List, [], ◌∷◌, ◌++◌, length, slice_index_or, arith, if◌then◌else◌}
use Rattle.std.specs.List.{All}
use Rattle.std.proofs.lemmas.List.Elements.{All-nil, All-cons, All-get_or}
use Rattle.bay_model.specs.declared.flags.Change.{Change}
use Rattle.bay_model.specs.declared.flags.Trg.{Trg}
use Rattle.bay_model.specs.declared.note.Mention.{Mention}
use Rattle.bay_model.specs.declared.tables.MemberShape.{MemberShape}
use Rattle.bay_model.specs.Notes.{is_any}
use Rattle.set_view.specs.Shapes.{no_shape}
use Rattle.trigger_core.specs.Noted.{reasons_in, noted}
use Rattle.value_store.specs.Stored.{Stored}
use Rattle.report_block.specs.EntryOctets.{IsWritable, IsKeepable}
use Rattle.report_block.specs.Events.{AreInOrder}

-- numbered from i on, that many
abbrev IsNumbered : ℕ → ℕ → Mention → Type 0
IsNumbered i count m = (i ≤ m.member.0) × (m.member.0 < i + count)

numbered : (changes : List Change) (trg : Trg) (i : ℕ) (shapes : List MemberShape) → All (IsNumbered i (length shapes)) (noted changes trg i shapes)
numbered changes trg i [] = All-nil (IsNumbered i 0)
numbered changes trg i (s ∷ shapes) = by (is_any (reasons_in changes trg s.attrs)) (numbered changes trg (suc i) shapes)
  where
    own : Mention
    own = record { member = record { 0 = i }; reasons = reasons_in changes trg s.attrs }

    later : All (IsNumbered (suc i) (length shapes)) (noted changes trg (suc i) shapes) → All (IsNumbered i (length (s ∷ shapes))) (noted changes trg (suc i) shapes)
    later all = λ k d below. (let h = all k d below in (omega (arith, h.0), omega (arith, h.1)))

    by : (b : Bool) → All (IsNumbered (suc i) (length shapes)) (noted changes trg (suc i) shapes) → All (IsNumbered i (length (s ∷ shapes))) ((if b then own ∷ [] else []) ++ noted changes trg (suc i) shapes)
    by true all = All-cons (IsNumbered i (length (s ∷ shapes))) own (noted changes trg (suc i) shapes) (omega arith, omega arith) (later all)
    by false all = later all

-- they stand in the order of the data set
pub noted-order : (changes : List Change) (trg : Trg) (above i : ℕ) (shapes : List MemberShape) → above < i → AreInOrder above (noted changes trg i shapes)
noted-order changes trg above i [] below = tt
noted-order changes trg above i (s ∷ shapes) below = by (is_any (reasons_in changes trg s.attrs)) (noted-order changes trg i (suc i) shapes (omega arith)) (noted-order changes trg above (suc i) shapes (omega (arith, below)))
  where
    by : (b : Bool) → AreInOrder i (noted changes trg (suc i) shapes) → AreInOrder above (noted changes trg (suc i) shapes)
        → AreInOrder above ((if b then record { member = record { 0 = i }; reasons = reasons_in changes trg s.attrs } ∷ [] else []) ++ noted changes trg (suc i) shapes)
    by true own later = (below, own)
    by false own later = later

pub length-noted : (changes : List Change) (trg : Trg) (i : ℕ) (shapes : List MemberShape) → length (noted changes trg i shapes) ≤ length shapes
length-noted changes trg i [] = omega arith
length-noted changes trg i (s ∷ shapes) = by (is_any (reasons_in changes trg s.attrs)) (length-noted changes trg (suc i) shapes)
  where
    by : (b : Bool) → length (noted changes trg (suc i) shapes) ≤ length shapes
        → length ((if b then record { member = record { 0 = i }; reasons = reasons_in changes trg s.attrs } ∷ [] else []) ++ noted changes trg (suc i) shapes) ≤ length (s ∷ shapes)
    by true h = omega (arith, h)
    by false h = omega (arith, h)

pub noted-keepable : (stored : List Stored) (changes : List Change) (trg : Trg) (shapes : List MemberShape) → length shapes ≤ 256 → All (IsWritable stored) shapes
    → All (IsKeepable stored shapes) (noted changes trg 1 shapes)
noted-keepable stored changes trg shapes few writable = λ k d below.
    let m = slice_index_or (noted changes trg 1 shapes) k d in
    let h = numbered changes trg 1 shapes k d below in
    record {
      from_one = omega (arith, h.0);
      there = omega (arith, h.1);
      few = omega (arith, h.1, few);
      writable = All-get_or (IsWritable stored) shapes (m.member.0 - 1) no_shape (omega (arith, h.0, h.1)) writable;
    }
