-- What a point changed, as its parts hand it on.
use Rattle.std.specs.Prelude.{◌≡◌, ℕ, Bool, not, List, [], ◌∷◌, map}
use Rattle.std.specs.Option.{option_map}
use Rattle.sv_base.specs.Same.{is_same}
use Rattle.sv_base.specs.declared.value.Value.{Value}
use Rattle.bay_model.specs.declared.flags.Change.{Change}
use Rattle.bay_model.specs.declared.flags.Flags.{Flags}
use Rattle.bay_model.specs.declared.flags.Trg.{Trg}
use Rattle.bay_model.specs.declared.note.Mention.{Mention}
use Rattle.bay_model.specs.declared.tables.MemberShape.{MemberShape}
use Rattle.bay_model.specs.Model.{Model, Attr}
use Rattle.bay_model.specs.Lookups.{attr_of, node_of}
use Rattle.bay_model.specs.Points.{Deed, Past}
use Rattle.bay_model.specs.Values.{value_at, gives}
use Rattle.bay_model.specs.Parameters.{bit}
use Rattle.bay_model.specs.Notes.{Kept}
use Rattle.trigger_core.specs.Noted.{change_of}

-- bits 1 to 5 of TrgOps
abbrev pub trg_of : List Bool → Trg
trg_of trg_ops = record { dchg = bit 1 trg_ops; qchg = bit 2 trg_ops; dupd = bit 3 trg_ops; intg = bit 4 trg_ops; gi = bit 5 trg_ops }

abbrev pub flags_of : Attr → Flags
flags_of a = record { dchg = a.dchg; qchg = a.qchg; dupd = a.dupd }

-- attribute x was given value v
abbrev pub change_to : Model → ℕ → Past → Value → Change
change_to c x before v = record { attr = record { 0 = x }; flags = flags_of (attr_of c x); differs = not (is_same v (value_at c x before)) }

-- the changes are those of the deed: one for each attribute that it gives a value
abbrev pub AreChanges : Model → Deed → Past → List Change → Type 0
AreChanges c deed before changes = (x : ℕ) → change_of changes (record { 0 = x }) ≡ option_map (change_to c x before) (gives c x deed before)

-- the shapes have the attributes of the nodes
abbrev pub AreShapes : Model → List ℕ → List MemberShape → Type 0
AreShapes c [] [] = Unit {0}
AreShapes c (n ∷ ns) (m ∷ ms) = (map (λ x. x.0) m.attrs ≡ (node_of c n).attrs) × AreShapes c ns ms
AreShapes c _ _ = ⊥

-- a member of a note, without its value
abbrev pub mention : Kept → Mention
mention k = record { member = record { 0 = k.number }; reasons = k.reasons }
