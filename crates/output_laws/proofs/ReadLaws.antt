-- What is read has Data, and what is said before a reply is short.
use Rattle.std.proofs.Common.{not, ◌≡◌, ℕ, ◌^◌, ◌<◌, ◌≤◌, Bool, true, false, List, [], ◌∷◌, map, length, refl, sym, ap, ◌∙◌, arith}
use Rattle.std.specs.Prelude.{◌==◌, Option, None, Some, is_some, Result, Ok, Err, if◌then◌else◌}
use Rattle.std.specs.Option.{option_map_or}
use Rattle.std.specs.List.{filter_map}
use Rattle.std.proofs.lemmas.Bool.{ltb-true}
use Rattle.list_laws.proofs.Among.{Each}
use Rattle.sv_base.specs.Depth.{depth, HasNoOther, RowHasNoOther}
use Rattle.sv_base.specs.Kinds.{Kind, truth, int, uint, bits, time, stamp, text, octets, entry_id, is_kind}
use Rattle.sv_base.specs.Seen.{seen_of}
use Rattle.sv_base.specs.Tree.{Row}
use Rattle.sv_base.specs.declared.components.Comp.{Comp}
use Rattle.sv_base.specs.declared.components.Comp.TheVariants as comps
use Rattle.sv_base.specs.declared.components.SettingComp.{SettingComp}
use Rattle.sv_base.specs.declared.components.SettingComp.TheVariants.{NumOfSG, ActSG, EditSG, CnfEdit, LActTm}
use Rattle.sv_base.specs.declared.config.Config.{Config}
use Rattle.sv_base.specs.declared.config.AttrDef.{AttrDef}
use Rattle.sv_base.specs.declared.value.Value.{Value}
use Rattle.sv_base.specs.declared.value.Value.TheVariants as kinds
use Rattle.mms_data.specs.Writable.{SeenHasFractions, RowHasFractions}
use Rattle.bay_model.specs.declared.access_errors.TheConstants.{TEMPORARILY_UNAVAILABLE}
use Rattle.bay_model.specs.Attributes.{attributes}
use Rattle.bay_model.specs.Calls.{Went, accepted, mistyped, barred, went, went_by, first_cause, causes, can_select}
use Rattle.bay_model.specs.Commands.{command_of, is_command}
use Rattle.bay_model.specs.Components.{read_component, read_setting, utc_of, no_utc}
use Rattle.bay_model.specs.Lookups.{attr_of, control_of, groups_of, node_of}
use Rattle.bay_model.specs.Model as model
use Rattle.bay_model.specs.Model.{Model, Attr, Access, Leaf, Tree, Trees, Role, Call, single, selecting, calling, several}
use Rattle.bay_model.specs.Named.{configured_model}
use Rattle.bay_model.specs.NamedLines.{is_setting, domain_number}
use Rattle.bay_model.specs.Outcomes as outcomes_
use Rattle.bay_model.specs.Outcomes.{Outcome, gave, did, refused, first_code, result_of, error_in}
use Rattle.bay_model.specs.Points.{Deed, Past, activated, edited, confirmed, put, copied, wrote, nothing, selected_control}
use Rattle.bay_model.specs.Reads.{read_attribute, read_leaf, read_tree, read_trees, structured, joined, read_role, outcome_of_read}
use Rattle.bay_model.specs.Settings.{Edit, edit, activation, copy, stored}
use Rattle.bay_model.specs.Singles.{Single, reads, writes, fails, arrival, outcome_of, outcomes, after_single}
use Rattle.bay_model.specs.Writes.{component_refusals, is_of_nothing, act_refusals, edit_refusals, confirm_refusals, attribute_refusals, holds_edit, write_role, write_part, write_attribute, outcome_of_call}
use Rattle.bay_model.specs.Blocks.{enabler}
use Rattle.bay_model.specs.Reservations.{is_reserved_for_another}
use Rattle.bay_model.specs.Parameters.{parameters_at}
use Rattle.bay_config.specs.Servable.{IsServable}
use Rattle.bay_replies.specs.Plain.{HasGroups, IsPlainLeaf, IsPlainTree, ArePlainTrees}
use Rattle.bay_replies.proofs.GivenLaws.{plain-at}
use Rattle.object_model.specs.Fits.{is_sound}
use Rattle.output_shapes.specs.Shapes.{IsShortError}
use Rattle.output_laws.specs.Names.{HasShortNames}
use Rattle.output_laws.proofs.AttrLaws.{IsTwinAt, line-told, edited-twin}
use Rattle.output_laws.proofs.CommandLaws.{error-short}
use Rattle.output_laws.proofs.DepthLaws.{IsFlat}
use Rattle.output_laws.proofs.ShallowLaws.{no-struct, IsLow, flat-low}
use Rattle.output_laws.proofs.DeedLaws.{AreFine, IsFineSingle, outcome}
use Rattle.output_laws.proofs.ValueLaws.{stored-at, value-typed}

-- the value is Data, of a choice that has a spelling, however deep
abbrev pub HasData : Result Value ℕ → Type 0
HasData (Ok v) = HasNoOther v × SeenHasFractions (seen_of v)
HasData (Err code) = Unit {0}

-- ---- values of a type

no-other : (k : Kind) → is_kind k kinds.Other ≡ true → ⊥
no-other truth h = cc h
no-other (int w) h = cc h
no-other (uint w) h = cc h
no-other (bits n) h = cc h
no-other time h = cc h
no-other stamp h = cc h
no-other (text n) h = cc h
no-other (octets n) h = cc h
no-other entry_id h = cc h

pub typed-data : (k : Kind) (v : Value) → is_kind k v ≡ true → is_sound v ≡ true → HasData (Ok v)
typed-data k (kinds.Bool b) h s = (tt, tt)
typed-data k (kinds.Int z) h s = (tt, tt)
typed-data k (kinds.Uint n) h s = (tt, tt)
typed-data k (kinds.Bits b) h s = (tt, tt)
typed-data k (kinds.Time t) h s = (tt, omega (arith, ltb-true t.frac 16777216 s))
typed-data k (kinds.Stamp t) h s = (tt, tt)
typed-data k (kinds.Text t) h s = (tt, tt)
typed-data k (kinds.Octets o) h s = (tt, tt)
typed-data k (kinds.Struct r) h s = absurd (no-struct k r h)
typed-data k kinds.Other h s = absurd (no-other k h)

-- ---- leaves

component-data : (c : Model) (b : ℕ) (comp : Comp) (past : Past) → HasData (Ok (read_component c b comp past))
component-data c b comps.RptID past = (tt, tt)
component-data c b comps.RptEna past = (tt, tt)
component-data c b comps.DatSet past = (tt, tt)
component-data c b comps.ConfRev past = (tt, tt)
component-data c b comps.OptFlds past = (tt, tt)
component-data c b comps.BufTm past = (tt, tt)
component-data c b comps.SqNum past = (tt, tt)
component-data c b comps.TrgOps past = (tt, tt)
component-data c b comps.IntgPd past = (tt, tt)
component-data c b comps.GI past = (tt, tt)
component-data c b comps.PurgeBuf past = (tt, tt)
component-data c b comps.EntryID past = (tt, tt)
component-data c b comps.TimeofEntry past = (tt, tt)
component-data c b comps.ResvTms past = (tt, tt)
component-data c b comps.Owner past = (tt, tt)

utc-frac : (o : Option ℕ) → (option_map_or utc_of o no_utc).frac < 2 ^ 24
utc-frac None = omega arith
utc-frac (Some m) = omega arith

setting-data : (c : Model) (d : ℕ) (comp : SettingComp) (past : Past) → HasData (Ok (read_setting c d comp past))
setting-data c d NumOfSG past = (tt, tt)
setting-data c d ActSG past = (tt, tt)
setting-data c d EditSG past = (tt, tt)
setting-data c d CnfEdit past = (tt, tt)
setting-data c d LActTm past = (tt, utc-frac (activation d past))

abbrev HasRowData : Result Row ℕ → Type 0
HasRowData (Ok r) = RowHasNoOther r × RowHasFractions r
HasRowData (Err code) = Unit {0}

module _ (c : Config) (served : IsServable c) (past : Past) (fine : AreFine c past) where
  copy-data : (x : ℕ) → (attr_of (configured_model c) x).access ≡ model.edited → (o : Option Edit) → edit (attr_of (configured_model c) x).domain past ≡ o
      → HasData (if is_some o then Ok (stored (configured_model c) (attr_of (configured_model c) x).original past copy) else Err TEMPORARILY_UNAVAILABLE)
  copy-data x is None i = tt
  copy-data x is (Some e) i =
      let t : IsTwinAt c x = edited-twin c x is in
      let y : ℕ = (attr_of (configured_model c) x).original in
      let l = line-told c y t.line t.at in
      let domain : (attr_of (configured_model c) x).domain ≡ (attr_of (configured_model c) y).domain = t.domain ∙ sym (ap (λ (a : Attr). a.domain) l.0.is ∙ ap (λ (a : AttrDef). domain_number c a.domain) l.1) in
      let v = (stored-at c served y l.0 (ap is_setting l.1 ∙ t.setting) past fine).in_copy e (ap (λ d. edit d past) (sym domain) ∙ i) in
      typed-data _ (stored (configured_model c) y past copy) v.kind v.sound

  attribute-data : (x : ℕ) (k : Access) → (attr_of (configured_model c) x).access ≡ k → x < length (attributes c) → HasData (read_attribute (configured_model c) k x past)
  attribute-data x model.edited is below = copy-data x is (edit (attr_of (configured_model c) x).domain past) refl
  attribute-data x model.reported is below = let v = value-typed c served x below past fine in typed-data _ _ v.kind v.sound
  attribute-data x model.writable is below = let v = value-typed c served x below past fine in typed-data _ _ v.kind v.sound
  attribute-data x model.active is below = let v = value-typed c served x below past fine in typed-data _ _ v.kind v.sound

  leaf-data : (l : Leaf) → IsPlainLeaf (length (attributes c)) (length c.blocks) (HasGroups c) l → HasData (read_leaf (configured_model c) past l)
  leaf-data (model.attribute x) h = attribute-data x (attr_of (configured_model c) x).access refl h
  leaf-data (model.component b comp) h = component-data (configured_model c) b comp past
  leaf-data (model.setting d comp) h = setting-data (configured_model c) d comp past
  leaf-data model.withheld h = tt

  structured-data : (r : Result Row ℕ) → HasRowData r → HasData (structured r)
  structured-data (Ok r) h = h
  structured-data (Err n) h = tt

  joined-data : (v : Result Value ℕ) (r : Result Row ℕ) → HasData v → HasRowData r → HasRowData (joined v r)
  joined-data (Ok v) (Ok r) h k = ((h.0, k.0), (h.1, k.1))
  joined-data (Ok v) (Err n) h k = tt
  joined-data (Err n) (Ok r) h k = tt
  joined-data (Err n) (Err m) h k = tt

  mutual
    tree-data : (t : Tree) → IsPlainTree (length (attributes c)) (length c.blocks) (HasGroups c) t → HasData (read_tree (configured_model c) past t)
    tree-data (model.leaf l) h = leaf-data l h
    tree-data (model.structure ts) h = structured-data (read_trees (configured_model c) past ts) (trees-data ts h)

    trees-data : (ts : Trees) → ArePlainTrees (length (attributes c)) (length c.blocks) (HasGroups c) ts → HasRowData (read_trees (configured_model c) past ts)
    trees-data model.none h = (tt, tt)
    trees-data (model.more t ts) h = joined-data (read_tree (configured_model c) past t) (read_trees (configured_model c) past ts) (tree-data t h.0) (trees-data ts h.1)

-- ---- what comes of a single read or write

abbrev pub IsGood : Outcome → Type 0
IsGood (gave v deed) = HasData (Ok v) × (depth v ≤ 10)
IsGood (did deed) = Unit {0}
IsGood (refused code) = Unit {0}
IsGood (outcomes_.barred e) = IsShortError e

code-good : (ts : List (Bool × ℕ)) (d : Deed) → IsGood (first_code ts d)
code-good [] d = tt
code-good (t ∷ ts) d = either t.0 (code-good ts d) where
  either : (b : Bool) → IsGood (first_code ts d) → IsGood (if b then refused t.1 else first_code ts d)
  either true go = tt
  either false go = go

-- a call that is barred is of its type
barred-typed : (k : Bool) (cs : List (Bool × ℕ)) (cause : ℕ) → (if k then went_by (first_cause cs) else mistyped) ≡ barred cause → k ≡ true
barred-typed true cs cause h = refl
barred-typed false cs cause h = absurd (cc h)

module _ (c : Config) (served : IsServable c) (names : HasShortNames c) (flat : (n : ℕ) → IsFlat (node_of (configured_model c) n).tree) (a : ℕ) (past : Past) (fine : AreFine c past) where
  part-good : (d : ℕ) (k : SettingComp) (v : Value) → IsGood (write_part (configured_model c) a d k v past)
  part-good d ActSG (kinds.Uint n) = code-good (act_refusals (groups_of (configured_model c) d).count n) (activated a d n)
  part-good d EditSG (kinds.Uint n) = code-good (edit_refusals a (groups_of (configured_model c) d).count n (edit d past)) (edited a d n)
  part-good d CnfEdit (kinds.Bool on) = code-good (confirm_refusals a (edit d past)) (if on then confirmed a d else nothing)
  part-good d _ v = tt

  attribute-good : (x : ℕ) (v : Value) (k : Access) → IsGood (write_attribute (configured_model c) a x v k past)
  attribute-good x v model.writable = code-good (attribute_refusals (attr_of (configured_model c) x).kind v false) (put a x v)
  attribute-good x v model.edited = code-good (attribute_refusals (attr_of (configured_model c) x).kind v (not (holds_edit a (attr_of (configured_model c) x).domain past))) (copied a (attr_of (configured_model c) x).original v)
  attribute-good x v _ = tt

  call-good : (k : ℕ) (j : Call) (v : Value) (w : Went) → went (configured_model c) k j a v past ≡ w → IsGood (outcome_of_call (configured_model c) a k j v w)
  call-good k j v accepted is = tt
  call-good k j v mistyped is = tt
  call-good k j v (barred cause) is = error-short c k j v cause names (barred-typed (is_command (control_of (configured_model c) k).kind j (command_of v)) (causes (configured_model c) k j a (command_of v) past) cause is)

  write-good : (r : Role) (v : Value) → IsGood (write_role (configured_model c) a r v past)
  write-good (single (model.attribute x)) v = attribute-good x v (attr_of (configured_model c) x).access
  write-good (single (model.component b comp)) v = code-good (component_refusals (λ e. e == a) (is_reserved_for_another b a past) comp v (is_of_nothing (configured_model c) b comp v past) (enabler b past) (parameters_at (configured_model c) b past)) (wrote a b comp v)
  write-good (single (model.setting d k)) v = part-good d k v
  write-good (single model.withheld) v = tt
  write-good (selecting k) v = tt
  write-good (calling k j) v = call-good k j v (went (configured_model c) k j a v past) refl
  write-good several v = tt

  result-good : (r : Result Value ℕ) → HasData r → IsLow 10 r → IsGood (outcome_of_read r)
  result-good (Ok v) h l = (h, l)
  result-good (Err n) h l = tt

  read-good : (r : Role) (t : Tree) → IsPlainTree (length (attributes c)) (length c.blocks) (HasGroups c) t → IsFlat t → IsGood (read_role (configured_model c) a r t past)
  read-good (single l) t h f = result-good (read_tree (configured_model c) past t) (tree-data c served past fine t h) (flat-low c served past fine t h f)
  read-good (selecting k) t h f = either (can_select (configured_model c) k past)
    where
      either : (b : Bool) → IsGood (if b then gave (kinds.Text (control_of (configured_model c) k).reference) (selected_control a k) else gave (kinds.Text []) nothing)
      either true = ((tt, tt), omega arith)
      either false = ((tt, tt), omega arith)
  read-good (calling k j) t h f = result-good (read_tree (configured_model c) past t) (tree-data c served past fine t h) (flat-low c served past fine t h f)
  read-good several t h f = result-good (read_tree (configured_model c) past t) (tree-data c served past fine t h) (flat-low c served past fine t h f)

  single-good : (s : Single) → IsGood (outcome_of (configured_model c) a s past)
  single-good (reads n) = read-good (node_of (configured_model c) n).role (node_of (configured_model c) n).tree (plain-at c served.grouped n).tree (flat n)
  single-good (writes n v) = write-good (node_of (configured_model c) n).role v
  single-good (fails n) = tt

module _ (c : Config) (served : IsServable c) (names : HasShortNames c) (flat : (n : ℕ) → IsFlat (node_of (configured_model c) n).tree) where
  pub outcomes-good : (a n m : ℕ) (ss : List Single) (past : Past) → Each IsFineSingle ss → AreFine c past → Each IsGood (outcomes (configured_model c) a n m ss past)
  outcomes-good a n m [] past h fine = tt
  outcomes-good a n m (s ∷ ss) past h fine = (
    single-good c served names flat a (arrival n m ∷ past) (fine, tt) s,
    outcomes-good a n m ss (after_single (configured_model c) a n m s past) h.1 (fine, outcome c served a (arrival n m ∷ past) s h.0),
  )

-- the errors, and the results, of outcomes
pub errors-short : (os : List Outcome) → Each IsGood os → Each IsShortError (filter_map error_in os)
errors-short [] h = tt
errors-short (gave v d ∷ os) h = errors-short os h.1
errors-short (did d ∷ os) h = errors-short os h.1
errors-short (refused n ∷ os) h = errors-short os h.1
errors-short (outcomes_.barred e ∷ os) h = (h.0, errors-short os h.1)

pub results-data : (os : List Outcome) → Each IsGood os → Each HasData (map result_of os)
results-data [] h = tt
results-data (gave v d ∷ os) h = (h.0.0, results-data os h.1)
results-data (did d ∷ os) h = (tt, results-data os h.1)
results-data (refused n ∷ os) h = (tt, results-data os h.1)
results-data (outcomes_.barred e ∷ os) h = (tt, results-data os h.1)

pub results-low : (os : List Outcome) → Each IsGood os → Each (IsLow 10) (map result_of os)
results-low [] h = tt
results-low (gave v d ∷ os) h = (h.0.1, results-low os h.1)
results-low (did d ∷ os) h = (tt, results-low os h.1)
results-low (refused n ∷ os) h = (tt, results-low os h.1)
results-low (outcomes_.barred e ∷ os) h = (tt, results-low os h.1)
