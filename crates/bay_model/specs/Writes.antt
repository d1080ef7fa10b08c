-- What comes of a single write to what stands at a name (IEC 61850-7-2, SetDataValues, SetBRCBValues, the services of
-- SGCB and of the control class model; IEC 61850-8-1, their mapping to MMS Write).
use Rattle.std.specs.Prelude.{ℕ, if◌then◌else◌}
use Rattle.sv_base.specs.declared.value.Value.{Value}
use Rattle.bay_model.specs.Model as model
use Rattle.bay_model.specs.Model.{Model, Role, Call, single, selecting, calling, several, text}
use Rattle.bay_model.specs.Lookups.{attr_of, node_of}
use Rattle.sv_base.specs.Kinds.{is_kind}
use Rattle.bay_model.specs.Points.{called, Past}
use Rattle.bay_model.specs.Calls.{Went, went, accepted, mistyped, barred}
use Rattle.bay_model.specs.Outputs.{error_of}
use Rattle.bay_model.specs.Outcomes as outcomes
use Rattle.bay_model.specs.Outcomes.{Outcome, did, refused}
use Rattle.bay_model.specs.declared.access_errors.TheConstants.{OBJECT_ACCESS_DENIED, TYPE_INCONSISTENT}
pub use Rattle.bay_model.specs.BlockWrites.{is_written, contradicts, is_of_nothing, component_refusals, write_component}
pub use Rattle.bay_model.specs.SettingWrites.{holds_edit, is_edited_by_another, act_refusals, edit_refusals, confirm_refusals, attribute_refusals, write_part, write_attribute}

-- a refused command is answered by object-access-denied, with a LastApplError before the reply
abbrev pub outcome_of_call : Model → ℕ → ℕ → Call → Value → Went → Outcome
outcome_of_call c a k call v accepted = did (called a k call v)
outcome_of_call c a k call v mistyped = refused TYPE_INCONSISTENT
outcome_of_call c a k call v (barred cause) = outcomes.barred (error_of c k call v cause)

-- a's write to a node of a role; past ends with the moment of the write. SBO and what isn't written are refused, after
-- another kind; every structure but SBOw, Oper and Cancel, and each part of these, whatever the value.
abbrev pub write_role : Model → ℕ → Role → Value → Past → Outcome
write_role c a (single (model.attribute x)) v past = write_attribute c a x v (attr_of c x).access past
write_role c a (single (model.component b comp)) v past = write_component c a b comp v past
write_role c a (single (model.setting d part)) v past = write_part c a d part v past
write_role c a (single model.withheld) v past = refused OBJECT_ACCESS_DENIED
write_role c a (selecting k) v past = refused (if is_kind (text 129) v then OBJECT_ACCESS_DENIED else TYPE_INCONSISTENT)
write_role c a (calling k call) v past = outcome_of_call c a k call v (went c k call a v past)
write_role c a several v past = refused OBJECT_ACCESS_DENIED

-- a's write of node n
abbrev pub write_node : Model → ℕ → ℕ → Value → Past → Outcome
write_node c a n v past = write_role c a (node_of c n).role v past
