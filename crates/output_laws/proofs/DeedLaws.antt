-- What the points of a history whose steps fit have come to: values are of the types of what they are given to.
use Rattle.std.proofs.Common.{◌≡◌, ℕ, suc, ◌<◌, ◌≤◌, Bool, true, false, not, ◌||◌, List, [], ◌∷◌, map, length, refl, sym, ap, ◌∙◌, arith}
use Rattle.std.specs.Prelude.{◌==◌, nat_le, nat_lt, Option, None, Some, is_some, is_none, Result, Ok, Err, if◌then◌else◌}
use Rattle.std.specs.Option.{option_map_or}
use Rattle.std.specs.List.{list_all}
use Rattle.std.proofs.lemmas.Bool.{and_parts, ltb-true, ltb-false}
use Rattle.std.proofs.lemmas.Bool.Decides.{nat_tests}
use Rattle.list_laws.proofs.Among.{Each}
use Rattle.list_laws.proofs.Truths.{not-false, or-left, or-right}
use Rattle.sv_base.specs.Kinds.{kind_of, is_kind, is_in_range}
use Rattle.sv_base.specs.Same.{value_of, values_of}
use Rattle.sv_base.specs.Tree.{Row, Seen, plain, structure, none, more, truth, int, uint, bits, time, stamp, text, octets, other}
use Rattle.sv_base.specs.declared.components.Comp.{Comp}
use Rattle.sv_base.specs.declared.components.SettingComp.{SettingComp}
use Rattle.sv_base.specs.declared.components.SettingComp.TheVariants.{ActSG, EditSG, CnfEdit}
use Rattle.sv_base.specs.declared.config.Config.{Config}
use Rattle.sv_base.specs.declared.value.Value.{Value}
use Rattle.sv_base.specs.declared.value.Value.TheVariants as kinds
use Rattle.bay_model.specs.declared.request.Service.{Service}
use Rattle.bay_model.specs.declared.request.Service.TheVariants as services
use Rattle.bay_model.specs.declared.request.SetName.{SetName}
use Rattle.bay_model.specs.declared.request.Target.{Target}
use Rattle.bay_model.specs.declared.request.Target.TheVariants as targets
use Rattle.bay_model.specs.declared.request.Write.{Write}
use Rattle.bay_model.specs.declared.answer.Answer.TheVariants as answers
use Rattle.bay_model.specs.declared.step.Step.{Step}
use Rattle.bay_model.specs.declared.step.Step.TheVariants as steps
use Rattle.bay_model.specs.Attributes.{attributes}
use Rattle.bay_model.specs.Breaks.{is_empty}
use Rattle.bay_model.specs.Calls.{Went, accepted, mistyped, barred, went, went_by, first_cause, causes, can_select}
use Rattle.bay_model.specs.Commands.{command_of, is_command}
use Rattle.bay_model.specs.ComponentTable.{comp_kind}
use Rattle.bay_model.specs.Definitions.{is_set_name, is_member, number_of, definition_change}
use Rattle.bay_model.specs.Deletions.{gone, deletion_change}
use Rattle.bay_model.specs.Lookups.{attr_of, control_of, groups_of, node_of}
use Rattle.bay_model.specs.Model as model
use Rattle.bay_model.specs.Model.{Model, DataSet, Access, Role, Call, Tree, single, selecting, calling, several}
use Rattle.bay_model.specs.Named.{configured_model}
use Rattle.bay_model.specs.Outcomes.{gave, deed_of, first_code, refused}
use Rattle.bay_model.specs.Parameters.{parameters_at}
use Rattle.bay_model.specs.Points.{Deed, Change, Past, valued, put, copied, activated, edited, confirmed, wrote, called, finished, answered, selected_control, nothing, unchanged, defined, deleted}
use Rattle.bay_model.specs.Associations.{ends}
use Rattle.bay_model.specs.Reads.{read_role, read_tree, outcome_of_read}
use Rattle.bay_model.specs.Reports.{Offer, first_offer}
use Rattle.bay_model.specs.Services.{set_found, set_name, written_set, singles_of, change_of}
use Rattle.bay_model.specs.Sets.{sets, set_named, dynamic}
use Rattle.bay_model.specs.Settings.{edit}
use Rattle.bay_model.specs.Singles.{Single, reads, writes, fails, read_of, write_of, writes_of, arrival, outcome_of, after_single, after_singles}
use Rattle.bay_model.specs.Blocks.{enabler}
use Rattle.bay_model.specs.Reservations.{is_reserved_for_another}
use Rattle.bay_model.specs.Takes.{taken, given_by, given_report}
use Rattle.bay_model.specs.Waiting.{Waiting, reply, ending, waiting}
use Rattle.bay_model.specs.Writes.{is_of_nothing, component_refusals, act_refusals, edit_refusals, confirm_refusals, attribute_refusals, holds_edit, write_role, write_part, write_attribute, write_component, outcome_of_call}
use Rattle.bay_model.specs.Answers.{Turn, History, points, deed_at, singles_after}
use Rattle.bay_model.proofs.EveryPoint.{point}
use Rattle.object_model.specs.Fits.{fits, is_sound, is_sound_seen, are_sound, write_fits, target_fits, set_fits, service_fits, Counts}
use Rattle.object_model.specs.Nodes.{node_rows}
use Rattle.bay_config.specs.Servable.{IsServable, attr_type}
use Rattle.bay_values.specs.Changed.{IsValueOf, AreTyped}
use Rattle.bay_values.proofs.ChangeLaws.{typed-settings}
use Rattle.bay_values.proofs.FirstValues.{opened-held, kind-told}
use Rattle.value_store.specs.Opened.{opened}
use Rattle.value_store.proofs.OpenedLaws.{length_opened}
use Rattle.bay_replies.specs.Plain.{HasGroups, IsPlainRole}
use Rattle.bay_replies.proofs.GivenLaws.{plain-at}
use Rattle.output_laws.specs.Legal.{AreFit}
use Rattle.output_laws.proofs.AttrLaws.{IsTwinAt, edited-twin}

-- a value of the type of an attribute that is there
abbrev pub IsFor : Config → ℕ → Value → Type 0
IsFor c x v = (x < length (attributes c)) × IsValueOf c x v

-- a data set that a client defined has up to 256 members, which may be such
abbrev pub IsFineSet : Config → List ℕ → Type 0
IsFineSet c nodes = Each (λ n. (node_of (configured_model c) n).allowed ≡ true) nodes × (1 ≤ length nodes) × (length nodes ≤ 256)

abbrev pub IsFineChange : Config → Change → Type 0
IsFineChange c (defined n nodes) = IsFineSet c nodes
IsFineChange c _ = Unit {0}

abbrev pub IsFine : Config → Deed → Type 0
IsFine c (valued settings) = AreTyped c settings
IsFine c (put a x v) = IsFor c x v
IsFine c (copied a x v) = IsFor c x v
IsFine c (activated a d n) = (1 ≤ n) × (n ≤ (groups_of (configured_model c) d).count)
IsFine c (edited a d n) = n ≤ (groups_of (configured_model c) d).count
IsFine c (wrote a b comp v) = (is_kind (comp_kind comp) v ≡ true) × (is_in_range (comp_kind comp) v ≡ true)
IsFine c (called a k call v) = (k < length c.controls) × (is_command (control_of (configured_model c) k).kind call (command_of v) ≡ true) × (is_sound v ≡ true)
IsFine c (finished k good) = k < length c.controls
IsFine c (answered a output change) = IsFineChange c change
IsFine c _ = Unit {0}

abbrev pub AreFine : Config → Past → Type 0
AreFine c [] = Unit {0}
AreFine c (p ∷ before) = AreFine c before × IsFine c p.deed

-- what is written is sound
abbrev pub IsFineSingle : Single → Type 0
IsFineSingle (writes n v) = is_sound v ≡ true
IsFineSingle _ = Unit {0}

-- ---- a single read or write

abbrev pub AreOff : List (Bool × ℕ) → Type 0
AreOff [] = Unit {0}
AreOff (t ∷ ts) = (t.0 ≡ false) × AreOff ts

code : (c : Config) (ts : List (Bool × ℕ)) (d : Deed) → (AreOff ts → IsFine c d) → IsFine c (deed_of (first_code ts d))
code c [] d u = u tt
code c (t ∷ ts) d u = either t.0 refl (λ is. code c ts d (λ off. u (is, off))) where
  either : (b : Bool) → t.0 ≡ b → (t.0 ≡ false → IsFine c (deed_of (first_code ts d))) → IsFine c (deed_of (if b then refused t.1 else first_code ts d))
  either true is go = tt
  either false is go = go is

-- an accepted call is of its type
typed-call : (k : Bool) (cs : List (Bool × ℕ)) → (if k then went_by (first_cause cs) else mistyped) ≡ accepted → k ≡ true
typed-call true cs h = refl
typed-call false cs h = absurd (cc h)

module _ (c : Config) (served : IsServable c) where
  abbrev cm : Model
  cm = configured_model c

  pub kind-is : (x : ℕ) → x < length (attributes c) → (attr_of cm x).kind ≡ kind_of (attr_type c x)
  kind-is x below =
      let there : x < length (opened c) = omega (arith, below, length_opened c served.domains) in
      kind-told c (opened c) x served (opened-held c served) there ∙ (sym (kind-told c (opened c) x served (opened-held c served) there) ∙ (kind-told c (opened c) x served (opened-held c served) there ∙ (opened-held c served).kinds x there))

  for-kind : (x : ℕ) (v : Value) → x < length (attributes c) → is_kind (attr_of cm x).kind v ≡ true → is_in_range (attr_of cm x).kind v ≡ true → is_sound v ≡ true → IsFor c x v
  for-kind x v below k r s = (below, record { kind = ap (λ q. is_kind q v) (sym (kind-is x below)) ∙ k; range = ap (λ q. is_in_range q v) (sym (kind-is x below)) ∙ r; sound = s })

  module _ (a : ℕ) (past : Past) where
    attribute_ : (x : ℕ) (v : Value) (k : Access) → (attr_of cm x).access ≡ k → x < length (attributes c) → is_sound v ≡ true → IsFine c (deed_of (write_attribute cm a x v k past))
    attribute_ x v model.writable e below sound = code c (attribute_refusals (attr_of cm x).kind v false) (put a x v)
        (λ off. for-kind x v below (not-false (is_kind (attr_of cm x).kind v) off.0) (not-false (is_in_range (attr_of cm x).kind v) off.1.1.0) sound)
    attribute_ x v model.edited e below sound =
        let t : IsTwinAt c x = edited-twin c x e in
        let y : ℕ = (attr_of cm x).original in
        code c (attribute_refusals (attr_of cm x).kind v (not (holds_edit a (attr_of cm x).domain past))) (copied a y v)
        (λ off. for-kind y v t.below (ap (λ q. is_kind q v) t.kind ∙ not-false (is_kind (attr_of cm x).kind v) off.0) (ap (λ q. is_in_range q v) t.kind ∙ not-false (is_in_range (attr_of cm x).kind v) off.1.1.0) sound)
    attribute_ x v model.reported e below sound = tt
    attribute_ x v model.active e below sound = tt

    part : (d : ℕ) (k : SettingComp) (v : Value) → IsFine c (deed_of (write_part cm a d k v past))
    part d ActSG (kinds.Uint n) = code c (act_refusals (groups_of cm d).count n) (activated a d n)
        (λ off. let zero = or-left (n == 0) (nat_lt (groups_of cm d).count n) off.0 in let many = or-right (n == 0) (nat_lt (groups_of cm d).count n) off.0 in (grind (arith, nat_tests, zero), ltb-false (groups_of cm d).count n many))
    part d EditSG (kinds.Uint n) = code c (edit_refusals a (groups_of cm d).count n (edit d past)) (edited a d n) (λ off. ltb-false (groups_of cm d).count n off.1.0)
    part d CnfEdit (kinds.Bool on) = code c (confirm_refusals a (edit d past)) (if on then confirmed a d else nothing) (λ off. either on)
      where
        either : (b : Bool) → IsFine c (if b then confirmed a d else nothing)
        either true = tt
        either false = tt
    part d _ v = tt

    pub component_ : (b : ℕ) (comp : Comp) (v : Value) → IsFine c (deed_of (write_component cm a b comp v past))
    component_ b comp v = code c (component_refusals (λ e. e == a) (is_reserved_for_another b a past) comp v (is_of_nothing cm b comp v past) (enabler b past) (parameters_at cm b past)) (wrote a b comp v)
        (λ off. (not-false (is_kind (comp_kind comp) v) off.0, not-false (is_in_range (comp_kind comp) v) (or-left (not (is_in_range (comp_kind comp) v)) (is_of_nothing cm b comp v past) off.1.1.1.1.0)))

    call : (k : ℕ) (j : Call) (v : Value) (w : Went) → went cm k j a v past ≡ w → k < length c.controls → is_sound v ≡ true → IsFine c (deed_of (outcome_of_call cm a k j v w))
    call k j v accepted is below sound = (below, typed-call (is_command (control_of cm k).kind j (command_of v)) (causes cm k j a (command_of v) past) is, sound)
    call k j v mistyped is below sound = tt
    call k j v (barred cause) is below sound = tt

    write : (r : Role) (v : Value) → IsPlainRole (length (attributes c)) (length c.blocks) (length c.controls) (HasGroups c) r → is_sound v ≡ true → IsFine c (deed_of (write_role cm a r v past))
    write (single (model.attribute x)) v is sound = attribute_ x v (attr_of cm x).access refl is sound
    write (single (model.component b comp)) v is sound = component_ b comp v
    write (single (model.setting d k)) v is sound = part d k v
    write (single model.withheld) v is sound = tt
    write (selecting k) v is sound = tt
    write (calling k j) v is sound = call k j v (went cm k j a v past) refl is sound
    write several v is sound = tt

    read_result : (r : Result Value ℕ) → IsFine c (deed_of (outcome_of_read r))
    read_result (Ok v) = tt
    read_result (Err n) = tt

    read : (r : Role) (tree : Tree) → IsFine c (deed_of (read_role cm a r tree past))
    read (single l) tree = read_result (read_tree cm past tree)
    read (selecting k) tree = either (can_select cm k past)
      where
        either : (b : Bool) → IsFine c (deed_of (if b then gave (kinds.Text (control_of cm k).reference) (selected_control a k) else gave (kinds.Text []) nothing))
        either true = tt
        either false = tt
    read (calling k j) tree = read_result (read_tree cm past tree)
    read several tree = read_result (read_tree cm past tree)

    pub outcome : (s : Single) → IsFineSingle s → IsFine c (deed_of (outcome_of cm a s past))
    outcome (reads n) h = read (node_of cm n).role (node_of cm n).tree
    outcome (writes n v) h = write (node_of cm n).role v (plain-at c served.grouped n).role h
    outcome (fails k) h = tt

  pub singles : (a n m : ℕ) (ss : List Single) (past : Past) → Each IsFineSingle ss → AreFine c past → AreFine c (after_singles cm a n m ss past)
  singles a n m [] past h fine = fine
  singles a n m (s ∷ ss) past h fine = singles a n m ss (after_single cm a n m s past) h.1 (fine, outcome a (arrival n m ∷ past) s h.0)

-- ---- the single writes of a request that fits

fine-reads : (ts : List Target) → Each IsFineSingle (map read_of ts)
fine-reads [] = tt
fine-reads (targets.Node n name ∷ ts) = (tt, fine-reads ts)
fine-reads (targets.Missing name ∷ ts) = (tt, fine-reads ts)
fine-reads (targets.Alternate name ∷ ts) = (tt, fine-reads ts)

fine-nodes : (ns : List ℕ) → Each IsFineSingle (map reads ns)
fine-nodes [] = tt
fine-nodes (n ∷ ns) = (tt, fine-nodes ns)

fine-writes : (n : Counts) (ws : List Write) → list_all (write_fits n) ws ≡ true → Each IsFineSingle (map write_of ws)
fine-writes n [] h = tt
fine-writes n (w ∷ ws) h =
    let b = and_parts (write_fits n w) (list_all (write_fits n) ws) h in
    (by w.target (and_parts (target_fits n w.target) (is_sound w.value) b.0).1, fine-writes n ws b.1)
  where
    by : (t : Target) → is_sound w.value ≡ true → IsFineSingle (write_of (record w { target = t }))
    by (targets.Node k name) s = s
    by (targets.Missing name) s = tt
    by (targets.Alternate name) s = tt

-- a value that is seen is itself
sound-value : (s : Seen) → is_sound (value_of s) ≡ is_sound_seen s
sound-value (plain (truth b)) = refl
sound-value (plain (int z)) = refl
sound-value (plain (uint n)) = refl
sound-value (plain (bits b)) = refl
sound-value (plain (time s f q)) = refl
sound-value (plain (stamp m d)) = refl
sound-value (plain (text t)) = refl
sound-value (plain (octets o)) = refl
sound-value (plain other) = refl
sound-value (structure r) = refl

fine-row : (ns : List ℕ) (r : Row) → are_sound r ≡ true → Each IsFineSingle (writes_of ns (values_of r))
fine-row [] r h = tt
fine-row (n ∷ ns) none h = tt
fine-row (n ∷ ns) (more s r) h = let b = and_parts (is_sound_seen s) (are_sound r) h in (sound-value s ∙ b.0, fine-row ns r b.1)

fine-set : (o : Option DataSet) (r : Row) → are_sound r ≡ true → Each IsFineSingle (option_map_or (λ s. written_set s r) o [])
fine-set None r h = tt
fine-set (Some s) r h = by (length s.nodes == length (values_of r)) (fine-row s.nodes r h)
  where
    by : (b : Bool) → Each IsFineSingle (writes_of s.nodes (values_of r)) → Each IsFineSingle (if b then writes_of s.nodes (values_of r) else [])
    by true go = go
    by false go = tt

fine-read-set : (o : Option DataSet) → Each IsFineSingle (option_map_or (λ (s : DataSet). map reads s.nodes) o [])
fine-read-set None = tt
fine-read-set (Some s) = fine-nodes s.nodes

pub counts : Config → Counts
counts c = record { nodes = length (node_rows c); blocks = length c.blocks; controls = length c.controls }

pub fine-singles : (c : Config) (past : Past) (s : Service) → service_fits (record { nodes = length (node_rows c); blocks = length c.blocks; controls = length c.controls }) s ≡ true → Each IsFineSingle (singles_of (configured_model c) past s)
fine-singles c past (services.Read ts spec) h = fine-reads ts
fine-singles c past (services.ReadSet domain item spec) h = fine-read-set (set_found (configured_model c) past (set_name domain item))
fine-singles c past (services.WriteVars ws) h = fine-writes (record { nodes = length (node_rows c); blocks = length c.blocks; controls = length c.controls }) ws h
fine-singles c past (services.WriteSet domain item vs) h = fine-set (set_found (configured_model c) past (set_name domain item)) vs (and_parts (set_fits domain item) (are_sound vs) h).1
fine-singles c past services.Status h = tt
fine-singles c past services.Identify h = tt
fine-singles c past services.Conclude h = tt
fine-singles c past (services.Names class scope after) h = tt
fine-singles c past (services.TypeOfNode t) h = tt
fine-singles c past (services.Define domain item members) h = tt
fine-singles c past (services.SetOf domain item) h = tt
fine-singles c past (services.Delete scope names) h = tt
fine-singles c past (services.Reject n) h = tt

-- ---- what comes of the data sets

members : (c : Model) (ts : List Target) → list_all (is_member c) ts ≡ true → Each (λ n. (node_of c n).allowed ≡ true) (map number_of ts) × (length (map number_of ts) ≡ length ts)
members c [] h = (tt, refl)
members c (targets.Node n name ∷ ts) h =
    let b = and_parts (node_of c n.0).allowed (list_all (is_member c) ts) h in
    let m = members c ts b.1 in
    ((b.0, m.0), ap suc m.1)
members c (targets.Missing name ∷ ts) h = absurd (cc h)
members c (targets.Alternate name ∷ ts) h = absurd (cc h)

some-members : (ts : List Target) → is_empty ts ≡ false → 1 ≤ length ts
some-members [] h = absurd (cc h)
some-members (t ∷ ts) h = omega arith

definition : (c : Config) (past : Past) (n : SetName) (ts : List Target) → IsFineChange c (definition_change (configured_model c) past n ts)
definition c past n ts =
    by (is_some (set_named n (sets cm past))) (not (is_set_name cm n)) (is_empty ts) (list_all (is_member cm) ts) (nat_lt 256 (length ts)) (nat_le 64 (length (dynamic past))) refl refl refl
  where
    cm : Model
    cm = configured_model c

    by : (x y z w u d : Bool) → is_empty ts ≡ z → list_all (is_member cm) ts ≡ w → nat_lt 256 (length ts) ≡ u
        → IsFineChange c (if is_some {T = ℕ × ℕ} (if x then Some (2, 5) else (if y || z || not w then Some (7, 2) else (if u || d then Some (3, 0) else None))) then unchanged else defined n (map number_of ts))
    by true y z w u d some is few = tt
    by false true z w u d some is few = tt
    by false false true w u d some is few = tt
    by false false false false u d some is few = tt
    by false false false true true d some is few = tt
    by false false false true false true some is few = tt
    by false false false true false false some is few =
        let m = members cm ts is in
        let at-most : length ts ≤ 256 = ltb-false 256 (length ts) few in
        let one : 1 ≤ length ts = some-members ts some in
        (m.0, omega (arith, one, m.1), omega (arith, at-most, m.1))

deletion : (c : Config) (past : Past) (scope : ℕ) (ns : List SetName) → IsFineChange c (deletion_change (configured_model c) past scope ns)
deletion c past scope ns = either (scope == 0)
  where
    either : (b : Bool) → IsFineChange c (if b then deleted (gone (configured_model c) past ns (sets (configured_model c) past)) else unchanged)
    either true = tt
    either false = tt

pub change : (c : Config) (past : Past) (s : Service) → IsFineChange c (change_of (configured_model c) past s)
change c past (services.Define domain item ts) = definition c past (set_name domain item) ts
change c past (services.Delete scope ns) = deletion c past scope ns
change c past _ = tt

-- ---- turn by turn

taken-fine : (c : Config) (a n m : ℕ) (past : Past) → IsFine c (taken (configured_model c) a (arrival n m ∷ past)).deed
taken-fine c a n m past = either (is_none (ends a past)) (waiting cm a past)
  where
    cm : Model
    cm = configured_model c

    report : (o : Option Offer) → IsFine c (given_report cm a (arrival n m ∷ past) o).deed
    report None = tt
    report (Some o) = tt

    either : (x : Bool) (ws : List Waiting) → IsFine c (if x then record { answer = answers.Closed; deed = nothing } else given_by cm a (arrival n m ∷ past) ws).deed
    either true ws = tt
    either false [] = report (first_offer cm a (arrival n m ∷ past) 0 cm.blocks)
    either false (reply o ∷ ws) = tt
    either false (ending k good ∷ ws) = tt

module _ (c : Config) (served : IsServable c) where
  pub turn-fine : (n : ℕ) (t : Turn) (past : Past) (s : Step) → fits c s ≡ true → AreFine c past
      → AreFine c (point n t.moment (deed_at (configured_model c) n t past s) ∷ singles_after (configured_model c) n t past s)
  turn-fine n t past (steps.Open a size writer owner) h fine = (fine, tt)
  turn-fine n t past (steps.Ask a r) h fine = (
    singles c served a.0 n t.moment (singles_of (configured_model c) past r.service) past (fine-singles c past r.service (and_parts _ _ h).1) fine,
    change c past r.service,
  )
  turn-fine n t past (steps.Write a b comp v) h fine = (fine, component_ c served a.0 (arrival n t.moment ∷ past) b.0 comp v)
  turn-fine n t past (steps.Take a) h fine = (fine, taken-fine c a.0 n t.moment past)
  turn-fine n t past (steps.Lost a) h fine = (fine, tt)
  turn-fine n t past (steps.Value settings) h fine = (fine, typed-settings c settings h)
  turn-fine n t past (steps.Done k good) h fine = (fine, ltb-true k.0 (length c.controls) h)
  turn-fine n t past (steps.Block k flag) h fine = (fine, tt)
  turn-fine n t past steps.Tick h fine = (fine, tt)

  pub are-fine : (h : History) → AreFit c h → AreFine c (points (configured_model c) h)
  are-fine [] fit = tt
  are-fine (t ∷ h) fit = turn-fine (length h) t (points (configured_model c) h) t.step fit.1 (are-fine h fit.0)
