-- What comes of singles that are no commands: no control acts, no error stands before the reply, and nothing is tested.
use Rattle.std.proofs.Common.{◌≡◌, ◌∷◌, ℕ, Bool, true, false, not, List, [], map, length, Option, None, Some, Result, Ok, Err, refl}
use Rattle.std.specs.Prelude.{◌==◌, if◌then◌else◌}
use Rattle.std.specs.Option.{option_map_or}
use Rattle.std.specs.List.{All}
use Rattle.std.proofs.lemmas.List.Elements.{All-nil, All-cons, All-head, All-tail}
use Rattle.sv_base.specs.Same.{values_of}
use Rattle.sv_base.specs.Tree.{Row}
use Rattle.sv_base.specs.declared.config.Config.{Config}
use Rattle.sv_base.specs.declared.config.SgDef.{SgDef}
use Rattle.sv_base.specs.declared.value.Value.{Value}
use Rattle.sv_base.specs.declared.value.Value.TheVariants as kinds
use Rattle.sv_base.specs.Kinds.{is_kind}
use Rattle.sv_base.specs.declared.components.Comp.{Comp}
use Rattle.sv_base.specs.declared.components.SettingComp.{SettingComp}
use Rattle.sv_base.specs.declared.components.SettingComp.TheVariants.{NumOfSG, ActSG, EditSG, CnfEdit, LActTm}
use Rattle.bay_model.specs.declared.request.Service.{Service}
use Rattle.bay_model.specs.declared.request.Service.TheVariants as services
use Rattle.bay_model.specs.declared.request.Target.{Target}
use Rattle.bay_model.specs.declared.request.Target.TheVariants as targets
use Rattle.bay_model.specs.Blocks.{enabler}
use Rattle.bay_model.specs.Reservations.{is_reserved_for_another}
use Rattle.bay_model.specs.BlockWrites.{component_refusals, is_of_nothing, write_component}
use Rattle.bay_model.specs.Calls.{can_select}
use Rattle.bay_model.specs.ComponentTable.{setting_comp_kind}
use Rattle.bay_model.specs.Lookups.{attr_of, control_of, groups_of, node_of}
use Rattle.bay_model.specs.Model.{Model, DataSet, Access, reported, writable, active, edited, Role, Tree, single, several, selecting, calling, attribute, component, setting, withheld, text}
use Rattle.bay_model.specs.Named.{configured_model}
use Rattle.bay_model.specs.NamedLines.{domain_number}
use Rattle.bay_model.specs.Outcomes.{gave, refused, first_code}
use Rattle.bay_model.specs.Parameters.{parameters_at}
use Rattle.bay_model.specs.Points.{edited as edited_group}
use Rattle.bay_model.specs.Points.{Deed, Past, nothing, put, copied, activated, confirmed, wrote, selected_control}
use Rattle.bay_model.specs.Reads.{outcome_of_read, read_role, read_tree}
use Rattle.bay_model.specs.Services.{singles_of, set_found, set_name, written_set}
use Rattle.bay_model.specs.Sets.{is_named, sets}
use Rattle.bay_model.specs.Settings.{edit}
use Rattle.bay_model.specs.SettingWrites.{act_refusals, attribute_refusals, confirm_refusals, edit_refusals, holds_edit, write_attribute, write_part}
use Rattle.bay_model.specs.Singles.{Single, reads, writes, fails, read_of, writes_of, outcome_of, outcomes, after_single, act_of}
use Rattle.bay_model.specs.Writes.{write_role}
use Rattle.bay_config.specs.Servable.{IsMember, IsServedSet}
use Rattle.bay_queues.specs.Heard.{tests_in}
use Rattle.bay_replies.specs.Plain.{SelectsNothing}
use Rattle.bay_replies.proofs.NodeLaws.{node-plain}
use Rattle.bay_core.specs.Commanded.{CallsNothing, IsNoCommand}
use Rattle.bay_queues.proofs.HeardLaws.{AreQuiet, IsQuiet}
use Rattle.block_watch.proofs.ShapeLaws.{found}
use Rattle.list_laws.proofs.Among.{each-of}

-- ---- one outcome

-- a deed by which no control acts, and that tests nothing
record IsBare (d : Deed) : Type 0 where
  act : act_of d ≡ None
  tests : (enhanced : ℕ → Bool) → tests_in enhanced d ≡ []

pub quiet-refused : (code : ℕ) → IsQuiet (refused code)
quiet-refused code = record { act = refl; error = refl; tests = λ enhanced. refl }

quiet-first : (ts : List (Bool × ℕ)) (d : Deed) → IsBare d → IsQuiet (first_code ts d)
quiet-first [] d is = record { act = is.act; error = refl; tests = is.tests }
quiet-first (t ∷ ts) d is = by t.0 (quiet-first ts d is) where
  by : (b : Bool) → IsQuiet (first_code ts d) → IsQuiet (if b then refused t.1 else first_code ts d)
  by true rest = quiet-refused t.1
  by false rest = rest

quiet-attribute : (m : Model) (a x : ℕ) (v : Value) (access : Access) (past : Past) → IsQuiet (write_attribute m a x v access past)
quiet-attribute m a x v writable past = quiet-first (attribute_refusals (attr_of m x).kind v false) (put a x v) (record { act = refl; tests = λ enhanced. refl })
quiet-attribute m a x v edited past = quiet-first (attribute_refusals (attr_of m x).kind v (not (holds_edit a (attr_of m x).domain past))) (copied a (attr_of m x).original v) (record { act = refl; tests = λ enhanced. refl })
quiet-attribute m a x v reported past = quiet-refused (if is_kind (attr_of m x).kind v then 3 else 7)
quiet-attribute m a x v active past = quiet-refused (if is_kind (attr_of m x).kind v then 3 else 7)

quiet-component : (m : Model) (a b : ℕ) (comp : Comp) (v : Value) (past : Past) → IsQuiet (write_component m a b comp v past)
quiet-component m a b comp v past = quiet-first (component_refusals (λ e. e == a) (is_reserved_for_another b a past) comp v (is_of_nothing m b comp v past) (enabler b past) (parameters_at m b past)) (wrote a b comp v) (record { act = refl; tests = λ enhanced. refl })

quiet-part : (m : Model) (a d : ℕ) (part : SettingComp) (v : Value) (past : Past) → IsQuiet (write_part m a d part v past)
quiet-part m a d NumOfSG v past = quiet-refused (if is_kind (setting_comp_kind NumOfSG) v then 3 else 7)
quiet-part m a d LActTm v past = quiet-refused (if is_kind (setting_comp_kind LActTm) v then 3 else 7)
quiet-part m a d ActSG (kinds.Bool b) past = quiet-refused 7
quiet-part m a d ActSG (kinds.Int z) past = quiet-refused 7
quiet-part m a d ActSG (kinds.Uint n) past = quiet-first (act_refusals (groups_of m d).count n) (activated a d n) (record { act = refl; tests = λ enhanced. refl })
quiet-part m a d ActSG (kinds.Bits bs) past = quiet-refused 7
quiet-part m a d ActSG (kinds.Time t) past = quiet-refused 7
quiet-part m a d ActSG (kinds.Stamp t) past = quiet-refused 7
quiet-part m a d ActSG (kinds.Text t) past = quiet-refused 7
quiet-part m a d ActSG (kinds.Octets o) past = quiet-refused 7
quiet-part m a d ActSG (kinds.Struct vs) past = quiet-refused 7
quiet-part m a d ActSG kinds.Other past = quiet-refused 7
quiet-part m a d EditSG (kinds.Bool b) past = quiet-refused 7
quiet-part m a d EditSG (kinds.Int z) past = quiet-refused 7
quiet-part m a d EditSG (kinds.Uint n) past = quiet-first (edit_refusals a (groups_of m d).count n (edit d past)) (edited_group a d n) (record { act = refl; tests = λ enhanced. refl })
quiet-part m a d EditSG (kinds.Bits bs) past = quiet-refused 7
quiet-part m a d EditSG (kinds.Time t) past = quiet-refused 7
quiet-part m a d EditSG (kinds.Stamp t) past = quiet-refused 7
quiet-part m a d EditSG (kinds.Text t) past = quiet-refused 7
quiet-part m a d EditSG (kinds.Octets o) past = quiet-refused 7
quiet-part m a d EditSG (kinds.Struct vs) past = quiet-refused 7
quiet-part m a d EditSG kinds.Other past = quiet-refused 7
quiet-part m a d CnfEdit (kinds.Bool true) past = quiet-first (confirm_refusals a (edit d past)) (confirmed a d) (record { act = refl; tests = λ enhanced. refl })
quiet-part m a d CnfEdit (kinds.Bool false) past = quiet-first (confirm_refusals a (edit d past)) nothing (record { act = refl; tests = λ enhanced. refl })
quiet-part m a d CnfEdit (kinds.Int z) past = quiet-refused 7
quiet-part m a d CnfEdit (kinds.Uint n) past = quiet-refused 7
quiet-part m a d CnfEdit (kinds.Bits bs) past = quiet-refused 7
quiet-part m a d CnfEdit (kinds.Time t) past = quiet-refused 7
quiet-part m a d CnfEdit (kinds.Stamp t) past = quiet-refused 7
quiet-part m a d CnfEdit (kinds.Text t) past = quiet-refused 7
quiet-part m a d CnfEdit (kinds.Octets o) past = quiet-refused 7
quiet-part m a d CnfEdit (kinds.Struct vs) past = quiet-refused 7
quiet-part m a d CnfEdit kinds.Other past = quiet-refused 7

pub quiet-role : (m : Model) (a : ℕ) (r : Role) (v : Value) (past : Past) → IsNoCommand r → IsQuiet (write_role m a r v past)
quiet-role m a (single (attribute x)) v past is = quiet-attribute m a x v (attr_of m x).access past
quiet-role m a (single (component b comp)) v past is = quiet-component m a b comp v past
quiet-role m a (single (setting d part)) v past is = quiet-part m a d part v past
quiet-role m a (single withheld) v past is = quiet-refused 3
quiet-role m a (selecting k) v past is = quiet-refused (if is_kind (text 129) v then 3 else 7)
quiet-role m a (calling k call) v past is = absurd is
quiet-role m a several v past is = quiet-refused 3

quiet-gave : (v : Value) (d : Deed) → IsBare d → IsQuiet (gave v d)
quiet-gave v d is = record { act = is.act; error = refl; tests = is.tests }

quiet-value : (r : Result Value ℕ) → IsQuiet (outcome_of_read r)
quiet-value (Ok v) = quiet-gave v nothing (record { act = refl; tests = λ enhanced. refl })
quiet-value (Err code) = quiet-refused code

quiet-read : (m : Model) (a : ℕ) (r : Role) (t : Tree) (past : Past) → IsQuiet (read_role m a r t past)
quiet-read m a (selecting k) t past = by (can_select m k past) where
  by : (b : Bool) → IsQuiet (if b then gave (kinds.Text (control_of m k).reference) (selected_control a k) else gave (kinds.Text []) nothing)
  by true = quiet-gave (kinds.Text (control_of m k).reference) (selected_control a k) (record { act = refl; tests = λ enhanced. refl })
  by false = quiet-gave (kinds.Text []) nothing (record { act = refl; tests = λ enhanced. refl })
quiet-read m a (single l) t past = quiet-value (read_tree m past t)
quiet-read m a (calling k call) t past = quiet-value (read_tree m past t)
quiet-read m a several t past = quiet-value (read_tree m past t)

-- ---- singles

-- a single that writes no command
abbrev pub IsUncalled : Model → Single → Type 0
IsUncalled m (reads n) = Unit {0}
IsUncalled m (writes n v) = IsNoCommand (node_of m n).role
IsUncalled m (fails code) = Unit {0}

abbrev pub AreUncalled : Model → List Single → Type 0
AreUncalled m [] = Unit {0}
AreUncalled m (s ∷ ss) = IsUncalled m s × AreUncalled m ss

quiet-single : (m : Model) (a : ℕ) (s : Single) (past : Past) → IsUncalled m s → IsQuiet (outcome_of m a s past)
quiet-single m a (reads n) past is = quiet-read m a (node_of m n).role (node_of m n).tree past
quiet-single m a (writes n v) past is = quiet-role m a (node_of m n).role v past is
quiet-single m a (fails code) past is = quiet-refused code

pub quiet-all : (m : Model) (a n t : ℕ) (ss : List Single) (past : Past) → AreUncalled m ss → AreQuiet (outcomes m a n t ss past)
quiet-all m a n t [] past are = tt
quiet-all m a n t (s ∷ ss) past are = (quiet-single m a s (record { moment = t; step = n; deed = nothing } ∷ past) are.0, quiet-all m a n t ss (after_single m a n t s past) are.1)

-- ---- the members of data sets are no commands

-- whatever domain
abbrev IsAny : ℕ → Type 0
IsAny d = Unit {0}

-- what may be a member selects nothing when it is read, and calls nothing when it is written
pub member-plain : (c : Config) (n : ℕ) → (node_of (configured_model c) n).allowed ≡ true → SelectsNothing (node_of (configured_model c) n).role
member-plain c n allowed = (node-plain c IsAny (each-of (λ (g : SgDef). IsAny (domain_number c g.domain)) c.groups (λ g i. tt)) n).member allowed

no-command : (r : Role) → SelectsNothing r → IsNoCommand r
no-command (single l) is = tt
no-command (selecting k) is = tt
no-command (calling k call) is = is
no-command several is = tt

abbrev pub IsPlainMember : Config → ℕ → Type 0
IsPlainMember c n = IsNoCommand (node_of (configured_model c) n).role

pub members-plain : (c : Config) (ns : List ℕ) → All (IsMember c) ns → All (IsPlainMember c) ns
members-plain c [] all = All-nil (IsPlainMember c)
members-plain c (n ∷ ns) all = All-cons (IsPlainMember c) n ns (no-command (node_of (configured_model c) n).role (member-plain c n (All-head (IsMember c) n ns all).allowed)) (members-plain c ns (All-tail (IsMember c) n ns all))

writes-uncalled : (c : Config) (ns : List ℕ) (vs : List Value) → All (IsPlainMember c) ns → AreUncalled (configured_model c) (writes_of ns vs)
writes-uncalled c [] vs all = tt
writes-uncalled c (n ∷ ns) [] all = tt
writes-uncalled c (n ∷ ns) (v ∷ vs) all = (All-head (IsPlainMember c) n ns all, writes-uncalled c ns vs (All-tail (IsPlainMember c) n ns all))

written-uncalled : (c : Config) (s : DataSet) (vs : Row) → IsServedSet c s → AreUncalled (configured_model c) (written_set s vs)
written-uncalled c s vs served = by (length s.nodes == length (values_of vs)) where
  by : (b : Bool) → AreUncalled (configured_model c) (if b then writes_of s.nodes (values_of vs) else [])
  by true = writes-uncalled c s.nodes (values_of vs) (members-plain c s.nodes served.members)
  by false = tt

-- ---- a service that writes no variable

reads-uncalled : (m : Model) (ts : List Target) → AreUncalled m (map read_of ts)
reads-uncalled m [] = tt
reads-uncalled m (targets.Node n name ∷ ts) = (tt, reads-uncalled m ts)
reads-uncalled m (targets.Missing name ∷ ts) = (tt, reads-uncalled m ts)
reads-uncalled m (targets.Alternate name ∷ ts) = (tt, reads-uncalled m ts)

nodes-uncalled : (m : Model) (ns : List ℕ) → AreUncalled m (map reads ns)
nodes-uncalled m [] = tt
nodes-uncalled m (n ∷ ns) = (tt, nodes-uncalled m ns)

module _ (c : Config) (past : Past) (served : All (IsServedSet c) (sets (configured_model c) past)) where
  set-uncalled : (domain item : List ℕ) (vs : Row) (o : Option DataSet) → set_found (configured_model c) past (set_name domain item) ≡ o → AreUncalled (configured_model c) (option_map_or (λ (s : DataSet). written_set s vs) o [])
  set-uncalled domain item vs None is = tt
  set-uncalled domain item vs (Some s) is = written-uncalled c s vs (found (IsServedSet c) (is_named (set_name domain item)) (sets (configured_model c) past) served s is)

  set-read : (o : Option DataSet) → AreUncalled (configured_model c) (option_map_or (λ (s : DataSet). map reads s.nodes) o [])
  set-read None = tt
  set-read (Some s) = nodes-uncalled (configured_model c) s.nodes

  pub service-uncalled : (service : Service) → CallsNothing service → AreUncalled (configured_model c) (singles_of (configured_model c) past service)
  service-uncalled (services.Read ts spec) is = reads-uncalled (configured_model c) ts
  service-uncalled (services.ReadSet domain item spec) is = set-read (set_found (configured_model c) past (set_name domain item))
  service-uncalled (services.WriteVars ws) is = absurd is
  service-uncalled (services.WriteSet domain item vs) is = set-uncalled domain item vs (set_found (configured_model c) past (set_name domain item)) refl
  service-uncalled _ is = tt
