-- why `fitting::setting_fits` answers as its contract says
use Rattle.std.proofs.Common.{◌≡◌, ℕ, ◌&&◌, List, Option, None, Some, slice_get, sym, ap, ◌∙◌}
use Rattle.std.specs.Option.{option_map}
use Rattle.std.proofs.lemmas.Option.{slice_get-map}
use Rattle.list_laws.proofs.Places.{all-at}
use Rattle.sv_base.specs.declared.value.Value.{Value}
use Rattle.bay_rooms.specs.Slots.{IsSettable}
use Rattle.bay_model.specs.declared.tables.AttrRow.{AttrRow}
use Rattle.name_leaves.specs.Attributes.{types_of}
use Rattle.step_fitting.specs.Fits.{is_typed, is_sound}
use Rattle.step_fitting.proofs.fitting.setting_fits.Goals as goal

type-at : (rows : List AttrRow) (i : ℕ) (o : Option AttrRow) → o ≡ slice_get rows i → option_map (λ (r : AttrRow). r.kind) o ≡ slice_get (types_of rows) i
type-at rows i o e = ap (option_map (λ (r : AttrRow). r.kind)) e ∙ sym (slice_get-map (λ (r : AttrRow). r.kind) rows i)

-- by the row that is there, or none
read : (rows : List AttrRow) (i : ℕ) (v : Value) (o : Option AttrRow) → o ≡ slice_get rows i → is_typed (option_map (λ (r : AttrRow). r.kind) o) v && is_sound v ≡ is_typed (slice_get (types_of rows) i) v && is_sound v
read rows i v o e = ap (λ k. is_typed k v && is_sound v) (type-at rows i o e)

pub is_typed-requires : goal.is_typed-requires
is_typed-requires c = all-at IsSettable (types_of c.args.rows.now) c.args.setting.now.attr.0 c.in-Some.row.now.kind c.requires (sym (type-at c.args.rows.now c.args.setting.now.attr.0 (Some c.in-Some.row.now) c.in-Some.ensures))

pub returns-in-None : goal.returns-in-None
returns-in-None c = read c.args.rows.now c.args.setting.now.attr.0 c.args.setting.now.value None c.in-None.ensures

pub returns-then-is_typed : goal.returns-then-is_typed
returns-then-is_typed c = c.is_sound.ensures ∙ (ap (λ b. b && is_sound c.args.setting.now.value) (sym (sym c.is_typed.ensures ∙ c.if-is_typed.true))
    ∙ read c.args.rows.now c.args.setting.now.attr.0 c.args.setting.now.value (Some c.in-Some.row.now) c.in-Some.ensures)

pub returns-else-is_typed : goal.returns-else-is_typed
returns-else-is_typed c = c.if-is_typed.false ∙ (ap (λ b. b && is_sound c.args.setting.now.value) (sym (sym c.is_typed.ensures ∙ c.if-is_typed.false))
    ∙ read c.args.rows.now c.args.setting.now.attr.0 c.args.setting.now.value (Some c.in-Some.row.now) c.in-Some.ensures)
