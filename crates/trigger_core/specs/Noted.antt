-- The members of a data set that a point is an event of, by the attributes that it set (IEC 61850-7-2,
-- TriggerConditions, TrgOps and ReasonForInclusion).
use Rattle.std.specs.Prelude.{ℕ, suc, false, ◌<◌, ◌&&◌, ◌==◌, List, [], ◌∷◌, ◌++◌, Option, unwrap_or, if◌then◌else◌}
use Rattle.std.specs.Option.{option_map}
use Rattle.std.specs.List.{find, All}
use Rattle.sv_base.specs.declared.numbers.AttrId.{AttrId}
use Rattle.bay_model.specs.declared.flags.Change.{Change}
use Rattle.bay_model.specs.declared.flags.Trg.{Trg}
use Rattle.bay_model.specs.declared.note.Mention.{Mention}
use Rattle.bay_model.specs.declared.report.Reasons.{Reasons}
use Rattle.bay_model.specs.declared.tables.MemberShape.{MemberShape}
use Rattle.bay_model.specs.Notes.{no_reason, union, is_any}

-- what the point did to an attribute; none where it didn't set it
abbrev pub change_of : List Change → AttrId → Option Change
change_of changes x = find (λ (ch : Change). ch.attr.0 == x.0) changes

-- the reasons that a change gives under the trigger options
abbrev pub reasons_by : Trg → Change → Reasons
reasons_by trg ch = record {
  dchg = ch.flags.dchg && trg.dchg && ch.differs;
  qchg = ch.flags.qchg && trg.qchg && ch.differs;
  dupd = ch.flags.dupd && trg.dupd;
  intg = false;
  gi = false;
}

-- a member has the reasons of all its attributes
abbrev pub reasons_in : List Change → Trg → List AttrId → Reasons
reasons_in changes trg [] = no_reason
reasons_in changes trg (x ∷ xs) = union (unwrap_or (option_map (reasons_by trg) (change_of changes x)) no_reason) (reasons_in changes trg xs)

-- the members that have a reason, in the order of the set, numbered from i on
abbrev pub noted : List Change → Trg → ℕ → List MemberShape → List Mention
noted changes trg i [] = []
noted changes trg i (m ∷ ms) =
    (if is_any (reasons_in changes trg m.attrs) then record { member = record { 0 = i }; reasons = reasons_in changes trg m.attrs } ∷ [] else [])
    ++ noted changes trg (suc i) ms

-- all members are lower
abbrev pub AreBelow : ℕ → List Mention → Type 0
AreBelow i ms = All (λ (m : Mention). m.member.0 < i) ms
