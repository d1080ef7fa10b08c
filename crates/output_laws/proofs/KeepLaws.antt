-- A block's DatSet is empty or names a data set, and is not empty while the block is enabled; its members change with its DatSet alone.
use Rattle.std.proofs.Common.{◌≡◌, ℕ, suc, ◌+◌, ◌<◌, ◌≤◌, ◌⊎◌, inl, inr, Bool, true, false, not, ◌&&◌, List, [], ◌∷◌, ◌++◌, map, length, refl, sym, ap, subst, ◌∙◌, arith, true≢false, append_assoc}
use Rattle.std.specs.Prelude.{◌==◌, Option, None, Some, is_some, is_none, unwrap_or, Result, Ok, Err, if◌then◌else◌}
use Rattle.std.specs.Option.{option_map, option_map_or}
use Rattle.std.specs.Str.{bytes_eq}
use Rattle.std.proofs.lemmas.Bool.{and_parts, eqb-true, eqb-false}
use Rattle.list_laws.proofs.Among.{Each}
use Rattle.list_laws.proofs.Distinct.{octets_same}
use Rattle.list_laws.proofs.Truths.{not-true, or-left, or-right, and-right}
use Rattle.sv_base.specs.declared.components.Comp.{Comp}
use Rattle.sv_base.specs.declared.components.Comp.TheVariants as comps
use Rattle.sv_base.specs.declared.components.SettingComp.{SettingComp}
use Rattle.sv_base.specs.declared.components.SettingComp.TheVariants.{ActSG, EditSG, CnfEdit}
use Rattle.sv_base.specs.declared.value.Value.{Value}
use Rattle.sv_base.specs.declared.value.Value.TheVariants as kinds
use Rattle.bay_model.specs.declared.answer.Answer.TheVariants as answers
use Rattle.bay_model.specs.declared.answer.Output.{Output}
use Rattle.bay_model.specs.declared.request.Target.{Target}
use Rattle.bay_model.specs.declared.deletion_scopes.TheConstants.{SPECIFIC}
use Rattle.bay_model.specs.declared.request.Service.{Service}
use Rattle.bay_model.specs.declared.request.Service.TheVariants as services
use Rattle.bay_model.specs.declared.request.SetName.{SetName}
use Rattle.bay_model.specs.declared.step.Step.{Step}
use Rattle.bay_model.specs.declared.step.Step.TheVariants as steps
use Rattle.bay_model.specs.Answers.{Turn, History, points, deed_at, singles_after, output_for}
use Rattle.bay_model.specs.Associations.{ends}
use Rattle.bay_model.specs.Blocks.{enabler, enabler_after}
use Rattle.bay_model.specs.Breaks.{is_empty}
use Rattle.bay_model.specs.Calls.{Went, accepted, mistyped, barred, went, can_select}
use Rattle.bay_model.specs.Definitions.{definition_change, definition_error, number_of}
use Rattle.bay_model.specs.Deletions.{gone, is_deletable, in_use_from, deletion_change}
use Rattle.bay_model.specs.Lookups.{attr_of, control_of, groups_of, node_of, reference_of}
use Rattle.bay_model.specs.Model as model
use Rattle.bay_model.specs.Model.{Model, Access, Block, DataSet, Role, Call, Tree, single, selecting, calling, several}
use Rattle.bay_model.specs.Outcomes.{gave, deed_of, first_code, refused}
use Rattle.bay_model.specs.Parameters.{parameters_at, parameters_after, written_to}
use Rattle.bay_model.specs.Points.{Deed, Point, Past, wrote, put, copied, activated, edited, confirmed, lost, answered, selected_control, nothing, unchanged, defined, deleted}
use Rattle.bay_model.specs.Reads.{read_role, read_tree, outcome_of_read}
use Rattle.bay_model.specs.Reports.{Offer, first_offer}
use Rattle.bay_model.specs.Reservations.{is_reserved_for_another}
use Rattle.bay_model.specs.Services.{singles_of, change_of, set_name}
use Rattle.bay_model.specs.Sets.{is_named, without, without_all, sets_changed, sets_after, dynamic, sets, set_referred, members, set_named}
use Rattle.bay_model.specs.Settings.{edit}
use Rattle.bay_model.specs.Singles.{Single, reads, writes, fails, arrival, outcome_of, after_single, after_singles}
use Rattle.bay_model.specs.Takes.{taken, given_by, given_report}
use Rattle.bay_model.specs.Waiting.{Waiting, reply, ending, waiting}
use Rattle.bay_model.specs.Writes.{is_of_nothing, component_refusals, act_refusals, edit_refusals, confirm_refusals, attribute_refusals, holds_edit, write_role, write_part, write_attribute, write_component, outcome_of_call}
use Rattle.bay_model.proofs.EveryPoint.{point}
use Rattle.output_laws.proofs.DeedLaws.{AreOff}

-- ---- what a deed leaves of the data sets that blocks name

abbrev AreNotNamed : List ℕ → List SetName → Type 0
AreNotNamed reference ns = Each (λ (n : SetName). bytes_eq reference (reference_of n.domain n.item) ≡ false) ns

abbrev pub IsKeeping : Model → Past → Deed → Type 0
IsKeeping c before (wrote a b comps.DatSet (kinds.Text t)) = (is_empty t ≡ false → is_some (set_referred t (sets c before)) ≡ true) × (is_some (enabler b before) ≡ false)
IsKeeping c before (wrote a b comps.RptEna (kinds.Bool on)) = on ≡ true → is_empty (parameters_at c b before).dat_set ≡ false
IsKeeping c before (answered a output (deleted ns)) = (b : ℕ) → b < length c.blocks → AreNotNamed (parameters_at c b before).dat_set ns
IsKeeping c before _ = Unit {0}

abbrev pub AreKeeping : Model → Past → Type 0
AreKeeping c [] = Unit {0}
AreKeeping c (p ∷ before) = AreKeeping c before × IsKeeping c before p.deed

-- ---- single writes

code : (c : Model) (before : Past) (ts : List (Bool × ℕ)) (d : Deed) → (AreOff ts → IsKeeping c before d) → IsKeeping c before (deed_of (first_code ts d))
code c before [] d u = u tt
code c before (t ∷ ts) d u = either t.0 refl (λ is. code c before ts d (λ off. u (is, off)))
  where
    either : (b : Bool) → t.0 ≡ b → (t.0 ≡ false → IsKeeping c before (deed_of (first_code ts d))) → IsKeeping c before (deed_of (if b then refused t.1 else first_code ts d))
    either true is go = tt
    either false is go = go is

known-where : (e k : Bool) → (not e && not k) ≡ false → e ≡ false → k ≡ true
known-where true k h is = absurd (cc is)
known-where false true h is = refl
known-where false false h is = absurd (cc h)

full-where : (on e : Bool) → (on && e) ≡ false → on ≡ true → e ≡ false
full-where true e h is = h
full-where false e h is = absurd (cc is)

module _ (c : Model) (a n m : ℕ) (before : Past) where
  component-keeps : (b : ℕ) (comp : Comp) (v : Value) → AreOff (component_refusals (λ e. e == a) (is_reserved_for_another b a (arrival n m ∷ before)) comp v (is_of_nothing c b comp v (arrival n m ∷ before)) (enabler b before) (parameters_at c b before))
      → IsKeeping c before (wrote a b comp v)
  component-keeps b comps.DatSet (kinds.Text t) off = (
    known-where (is_empty t) (is_some (set_referred t (sets c before))) (or-right _ _ off.1.1.1.1.0),
    or-right _ _ off.1.1.0,
  )
  component-keeps b comps.RptEna (kinds.Bool on) off = full-where on (is_empty (parameters_at c b before).dat_set) off.1.1.1.0
  component-keeps b _ v off = tt

  pub component_ : (b : ℕ) (comp : Comp) (v : Value) → IsKeeping c before (deed_of (write_component c a b comp v (arrival n m ∷ before)))
  component_ b comp v = code c before (component_refusals (λ e. e == a) (is_reserved_for_another b a (arrival n m ∷ before)) comp v (is_of_nothing c b comp v (arrival n m ∷ before)) (enabler b before) (parameters_at c b before)) (wrote a b comp v) (component-keeps b comp v)

  part_ : (d : ℕ) (k : SettingComp) (v : Value) → IsKeeping c before (deed_of (write_part c a d k v (arrival n m ∷ before)))
  part_ d ActSG (kinds.Uint i) = code c before (act_refusals (groups_of c d).count i) (activated a d i) (λ off. tt)
  part_ d EditSG (kinds.Uint i) = code c before (edit_refusals a (groups_of c d).count i (edit d before)) (edited a d i) (λ off. tt)
  part_ d CnfEdit (kinds.Bool on) = code c before (confirm_refusals a (edit d before)) (if on then confirmed a d else nothing) (λ off. either on)
    where
      either : (b : Bool) → IsKeeping c before (if b then confirmed a d else nothing)
      either true = tt
      either false = tt
  part_ d _ v = tt

  attribute_ : (x : ℕ) (v : Value) (k : Access) → IsKeeping c before (deed_of (write_attribute c a x v k (arrival n m ∷ before)))
  attribute_ x v model.writable = code c before (attribute_refusals (attr_of c x).kind v false) (put a x v) (λ off. tt)
  attribute_ x v model.edited = code c before (attribute_refusals (attr_of c x).kind v (not (holds_edit a (attr_of c x).domain before))) (copied a (attr_of c x).original v) (λ off. tt)
  attribute_ x v model.reported = tt
  attribute_ x v model.active = tt

  call_ : (k : ℕ) (j : Call) (v : Value) (w : Went) → IsKeeping c before (deed_of (outcome_of_call c a k j v w))
  call_ k j v accepted = tt
  call_ k j v mistyped = tt
  call_ k j v (barred cause) = tt

  write_ : (r : Role) (v : Value) → IsKeeping c before (deed_of (write_role c a r v (arrival n m ∷ before)))
  write_ (single (model.attribute x)) v = attribute_ x v (attr_of c x).access
  write_ (single (model.component b comp)) v = component_ b comp v
  write_ (single (model.setting d k)) v = part_ d k v
  write_ (single model.withheld) v = tt
  write_ (selecting k) v = tt
  write_ (calling k j) v = call_ k j v (went c k j a v (arrival n m ∷ before))
  write_ several v = tt

  result_ : (r : Result Value ℕ) → IsKeeping c before (deed_of (outcome_of_read r))
  result_ (Ok v) = tt
  result_ (Err i) = tt

  read_ : (r : Role) (tree : Tree) → IsKeeping c before (deed_of (read_role c a r tree (arrival n m ∷ before)))
  read_ (single l) tree = result_ (read_tree c (arrival n m ∷ before) tree)
  read_ (selecting k) tree = either (can_select c k (arrival n m ∷ before))
    where
      either : (b : Bool) → IsKeeping c before (deed_of (if b then gave (kinds.Text (control_of c k).reference) (selected_control a k) else gave (kinds.Text []) nothing))
      either true = tt
      either false = tt
  read_ (calling k j) tree = result_ (read_tree c (arrival n m ∷ before) tree)
  read_ several tree = result_ (read_tree c (arrival n m ∷ before) tree)

  pub outcome_ : (s : Single) → IsKeeping c before (deed_of (outcome_of c a s (arrival n m ∷ before)))
  outcome_ (reads i) = read_ (node_of c i).role (node_of c i).tree
  outcome_ (writes i v) = write_ (node_of c i).role v
  outcome_ (fails k) = tt

singles-keep : (c : Model) (a n m : ℕ) (ss : List Single) (past : Past) → AreKeeping c past → AreKeeping c (after_singles c a n m ss past)
singles-keep c a n m [] past h = h
singles-keep c a n m (s ∷ ss) past h = singles-keep c a n m ss (after_single c a n m s past) (h, outcome_ c a n m past s)

-- ---- deletions

not-in-use : (c : Model) (past : Past) (reference : List ℕ) (from : ℕ) (ds : List Block) → in_use_from c past reference from ds ≡ false → (b : ℕ) → from ≤ b → b < from + length ds → bytes_eq (parameters_at c b past).dat_set reference ≡ false
not-in-use c past reference from [] h b least most = absurd (omega (arith, least, most))
not-in-use c past reference from (d ∷ ds) h b least most = by (b == from) refl
    (λ more. not-in-use c past reference (suc from) ds (or-right (bytes_eq (parameters_at c from past).dat_set reference) (in_use_from c past reference (suc from) ds) h) b more (omega (arith, most)))
  where
    by : (t : Bool) → (b == from) ≡ t → (suc from ≤ b → bytes_eq (parameters_at c b past).dat_set reference ≡ false) → bytes_eq (parameters_at c b past).dat_set reference ≡ false
    by true is go = subst (λ i. bytes_eq (parameters_at c i past).dat_set reference ≡ false) (sym (eqb-true b from is)) (or-left (bytes_eq (parameters_at c from past).dat_set reference) (in_use_from c past reference (suc from) ds) h)
    by false is go = go (apart b from is least)
      where
        apart : (b from : ℕ) → (b == from) ≡ false → from ≤ b → suc from ≤ b
        apart b from is least = let other = eqb-false b from is in omega (arith, least, λ (e : b ≡ from). other e)

gone-free : (c : Model) (past : Past) (ns : List SetName) (all : List DataSet) (b : ℕ) → b < length c.blocks → AreNotNamed (parameters_at c b past).dat_set (gone c past ns all)
gone-free c past [] all b below = tt
gone-free c past (n ∷ ns) all b below = by (is_some (set_named n all)) (is_deletable c past n) refl (gone-free c past ns (without n all) b below) (gone-free c past ns all b below)
  where
    by : (x y : Bool) → is_deletable c past n ≡ y → AreNotNamed (parameters_at c b past).dat_set (gone c past ns (without n all)) → AreNotNamed (parameters_at c b past).dat_set (gone c past ns all)
        → AreNotNamed (parameters_at c b past).dat_set ((if x && y then n ∷ [] else []) ++ gone c past ns (if x && y then without n all else all))
    by true true is less same =
        let free : in_use_from c past (reference_of n.domain n.item) 0 c.blocks ≡ false = not-true _ (and-right (is_none (set_named n c.sets)) (not (in_use_from c past (reference_of n.domain n.item) 0 c.blocks)) is) in
        (not-in-use c past (reference_of n.domain n.item) 0 c.blocks free b (omega arith) (omega (arith, below)), less)
    by true false is less same = same
    by false y is less same = same

module _ (c : Model) where
  deletion-keeps : (past : Past) (a scope : ℕ) (o : Output) (ns : List SetName) → IsKeeping c past (answered a o (deletion_change c past scope ns))
  deletion-keeps past a scope o ns = by (scope == SPECIFIC)
    where
      by : (t : Bool) → IsKeeping c past (answered a o (if t then deleted (gone c past ns (sets c past)) else unchanged))
      by true = λ b below. gone-free c past ns (sets c past) b below
      by false = tt

  definition-keeps : (past before : Past) (a : ℕ) (o : Output) (n : SetName) (ts : List Target) → IsKeeping c before (answered a o (definition_change c past n ts))
  definition-keeps past before a o n ts = by (is_some (definition_error c past n ts))
    where
      by : (t : Bool) → IsKeeping c before (answered a o (if t then unchanged else defined n (map number_of ts)))
      by true = tt
      by false = tt

  ask-keeps : (past : Past) (a n m : ℕ) (o : Output) (s : Service) → IsKeeping c (after_singles c a n m (singles_of c past s) past) (answered a o (change_of c past s))
  ask-keeps past a n m o (services.Delete scope ns) = deletion-keeps past a scope o ns
  ask-keeps past a n m o (services.Define domain item ts) = definition-keeps past past a o (set_name domain item) ts
  ask-keeps past a n m o services.Status = tt
  ask-keeps past a n m o services.Identify = tt
  ask-keeps past a n m o services.Conclude = tt
  ask-keeps past a n m o (services.Names class scope after) = tt
  ask-keeps past a n m o (services.TypeOfNode t) = tt
  ask-keeps past a n m o (services.Read ts spec) = tt
  ask-keeps past a n m o (services.ReadSet domain item spec) = tt
  ask-keeps past a n m o (services.WriteVars ws) = tt
  ask-keeps past a n m o (services.WriteSet domain item vs) = tt
  ask-keeps past a n m o (services.SetOf domain item) = tt
  ask-keeps past a n m o (services.Reject i) = tt

  taken-keeps : (a n m : ℕ) (past : Past) → IsKeeping c past (taken c a (arrival n m ∷ past)).deed
  taken-keeps a n m past = either (is_none (ends a past)) (waiting c a past)
    where
      report : (o : Option Offer) → IsKeeping c past (given_report c a (arrival n m ∷ past) o).deed
      report None = tt
      report (Some o) = tt

      either : (x : Bool) (ws : List Waiting) → IsKeeping c past (if x then record { answer = answers.Closed; deed = nothing } else given_by c a (arrival n m ∷ past) ws).deed
      either true ws = tt
      either false [] = report (first_offer c a (arrival n m ∷ past) 0 c.blocks)
      either false (reply o ∷ ws) = tt
      either false (ending k good ∷ ws) = tt

  turn-keeps : (n : ℕ) (t : Turn) (past : Past) (s : Step) → AreKeeping c past → AreKeeping c (point n t.moment (deed_at c n t past s) ∷ singles_after c n t past s)
  turn-keeps n t past (steps.Open a size writer owner) h = (h, tt)
  turn-keeps n t past (steps.Ask a r) h = (singles-keep c a.0 n t.moment (singles_of c past r.service) past h, ask-keeps past a.0 n t.moment (output_for c n t.moment a.0 r past) r.service)
  turn-keeps n t past (steps.Write a b comp v) h = (h, component_ c a.0 n t.moment past b.0 comp v)
  turn-keeps n t past (steps.Take a) h = (h, taken-keeps a.0 n t.moment past)
  turn-keeps n t past (steps.Lost a) h = (h, tt)
  turn-keeps n t past (steps.Value settings) h = (h, tt)
  turn-keeps n t past (steps.Done k good) h = (h, tt)
  turn-keeps n t past (steps.Block k flag) h = (h, tt)
  turn-keeps n t past steps.Tick h = (h, tt)

  pub are-keeping : (h : History) → AreKeeping c (points c h)
  are-keeping [] = tt
  are-keeping (t ∷ h) = turn-keeps (length h) t (points c h) t.step (are-keeping h)

-- ---- the set that a DatSet names

-- empty, or the reference of one of these sets
abbrev pub IsNaming : List ℕ → List DataSet → Type 0
IsNaming d all = (d ≡ []) ⊎ (is_some (set_referred d all) ≡ true)

reference-some : (domain item : List ℕ) → bytes_eq [] (reference_of domain item) ≡ false
reference-some [] item = refl
reference-some (o ∷ os) item = refl

none-named : (all : List DataSet) → set_referred [] all ≡ None
none-named [] = refl
none-named (s ∷ all) = ap (λ b. if b then Some s else set_referred [] all) (reference-some s.domain s.item) ∙ none-named all

find-more : (d : List ℕ) (xs ys : List DataSet) → is_some (set_referred d xs) ≡ true → set_referred d (xs ++ ys) ≡ set_referred d xs
find-more d [] ys h = absurd (cc h)
find-more d (x ∷ xs) ys h = by (bytes_eq d (reference_of x.domain x.item)) h (find-more d xs ys)
  where
    by : (b : Bool) → is_some (if b then Some x else set_referred d xs) ≡ true → (is_some (set_referred d xs) ≡ true → set_referred d (xs ++ ys) ≡ set_referred d xs)
        → (if b then Some x else set_referred d (xs ++ ys)) ≡ (if b then Some x else set_referred d xs)
    by true h go = refl
    by false h go = go h

-- what is named so isn't the one of the reference
not-that : (d : List ℕ) (n : SetName) (s : DataSet) → bytes_eq d (reference_of n.domain n.item) ≡ false → bytes_eq d (reference_of s.domain s.item) ≡ true → is_named n s ≡ false
not-that d n s free is = by (is_named n s) refl
  where
    by : (b : Bool) → is_named n s ≡ b → b ≡ false
    by false e = refl
    by true e =
        let p = and_parts (bytes_eq n.domain s.domain) (bytes_eq n.item s.item) e in
        let same : reference_of n.domain n.item ≡ reference_of s.domain s.item = ap (λ x. reference_of x n.item) (octets_same n.domain s.domain p.0) ∙ ap (reference_of s.domain) (octets_same n.item s.item p.1) in
        absurd (true≢false (sym is ∙ (ap (bytes_eq d) (sym same) ∙ free)))

find-without : (d : List ℕ) (n : SetName) (all : List DataSet) → bytes_eq d (reference_of n.domain n.item) ≡ false → set_referred d (without n all) ≡ set_referred d all
find-without d n [] free = refl
find-without d n (s ∷ all) free = by (is_named n s) refl (bytes_eq d (reference_of s.domain s.item)) refl (find-without d n all free)
  where
    by : (x : Bool) → is_named n s ≡ x → (y : Bool) → bytes_eq d (reference_of s.domain s.item) ≡ y → set_referred d (without n all) ≡ set_referred d all
        → set_referred d (if not x then s ∷ without n all else without n all) ≡ (if y then Some s else set_referred d all)
    by true e true f go = absurd (true≢false (sym e ∙ not-that d n s free f))
    by true e false f go = go
    by false e true f go = ap (λ b. if b then Some s else set_referred d (without n all)) f
    by false e false f go = ap (λ b. if b then Some s else set_referred d (without n all)) f ∙ go

find-without-all : (d : List ℕ) (ns : List SetName) (all : List DataSet) → AreNotNamed d ns → set_referred d (without_all ns all) ≡ set_referred d all
find-without-all d [] all h = refl
find-without-all d (n ∷ ns) all h = find-without-all d ns (without n all) h.1 ∙ find-without d n all h.0

-- behind the configured ones
find-behind : (d : List ℕ) (xs ys zs : List DataSet) → set_referred d ys ≡ set_referred d zs → set_referred d (xs ++ ys) ≡ set_referred d (xs ++ zs)
find-behind d [] ys zs e = e
find-behind d (x ∷ xs) ys zs e = ap (λ o. if bytes_eq d (reference_of x.domain x.item) then Some x else o) (find-behind d xs ys zs e)

module _ (c : Model) (b : ℕ) (below : b < length c.blocks) where
  abbrev dat_set : Past → List ℕ
  dat_set past = (parameters_at c b past).dat_set

  -- the sets of a point, for a DatSet that names one before it
  changed-same : (before : Past) (d : List ℕ) (deed : Deed) → IsKeeping c before deed → d ≡ dat_set before → IsNaming d (sets c before) → set_referred d (c.sets ++ sets_after deed (dynamic before)) ≡ set_referred d (sets c before)
  changed-same before d (answered a o (defined n ns)) keeps is (inl none) = ap (λ x. set_referred x (c.sets ++ (dynamic before ++ record { domain = n.domain; item = n.item; nodes = ns } ∷ []))) none ∙ (none-named (c.sets ++ (dynamic before ++ record { domain = n.domain; item = n.item; nodes = ns } ∷ [])) ∙ sym (ap (λ x. set_referred x (sets c before)) none ∙ none-named (sets c before)))
  changed-same before d (answered a o (defined n ns)) keeps is (inr some) = ap (set_referred d) (sym (append_assoc c.sets (dynamic before) (record { domain = n.domain; item = n.item; nodes = ns } ∷ []))) ∙ find-more d (sets c before) (record { domain = n.domain; item = n.item; nodes = ns } ∷ []) some
  changed-same before d (answered a o (deleted ns)) keeps is naming = find-behind d c.sets (without_all ns (dynamic before)) (dynamic before) (find-without-all d ns (dynamic before) (subst (λ x. AreNotNamed x ns) (sym is) (keeps b below)))
  changed-same before d (answered a o unchanged) keeps is naming = refl
  changed-same before d _ keeps is naming = refl

  -- what a block's DatSet is after a deed: as it was, or what was written
  abbrev IsAsBefore : Past → Deed → Type 0
  IsAsBefore before d = (parameters_after b d (parameters_at c b before)).dat_set ≡ dat_set before

  naming-step : (before : Past) (d : Deed) → IsKeeping c before d → IsNaming (dat_set before) (sets c before) → IsNaming (parameters_after b d (parameters_at c b before)).dat_set (c.sets ++ sets_after d (dynamic before))
  naming-step before (wrote a k comp v) keeps was = by (k == b) refl comp v keeps
    where
      written : (comp : Comp) (v : Value) → IsKeeping c before (wrote a k comp v) → IsNaming (written_to comp v (parameters_at c b before)).dat_set (sets c before)
      written comps.DatSet (kinds.Text t) keeps = empty t keeps.0
        where
          empty : (t : List ℕ) → (is_empty t ≡ false → is_some (set_referred t (sets c before)) ≡ true) → IsNaming t (sets c before)
          empty [] go = inl refl
          empty (o ∷ os) go = inr (go refl)
      written comps.RptID (kinds.Text t) keeps = was
      written comps.OptFlds (kinds.Bits x) keeps = was
      written comps.BufTm (kinds.Uint n) keeps = was
      written comps.TrgOps (kinds.Bits x) keeps = was
      written comps.IntgPd (kinds.Uint n) keeps = was
      written _ v keeps = was

      by : (t : Bool) → (k == b) ≡ t → (comp : Comp) (v : Value) → IsKeeping c before (wrote a k comp v) → IsNaming (if t then written_to comp v (parameters_at c b before) else parameters_at c b before).dat_set (sets c before)
      by true is comp v keeps = written comp v keeps
      by false is comp v keeps = was
  naming-step before (answered a o ch) keeps was = still was
    where
      still : IsNaming (dat_set before) (sets c before) → IsNaming (dat_set before) (c.sets ++ sets_changed ch (dynamic before))
      still (inl none) = inl none
      still (inr some) = inr (ap is_some (changed-same before (dat_set before) (answered a o ch) keeps refl (inr some)) ∙ some)
  naming-step before _ keeps was = was

  pub naming : IsNaming (dat_set []) (sets c []) → (past : Past) → AreKeeping c past → IsNaming (dat_set past) (sets c past)
  naming first [] keeps = first
  naming first (p ∷ before) keeps = naming-step before p.deed keeps.1 (naming first before keeps.0)

  -- its members are those that it had, unless its DatSet is another
  pub members-same : (p : Point) (before : Past) → IsKeeping c before p.deed → IsNaming (dat_set before) (sets c before) → dat_set (p ∷ before) ≡ dat_set before → members c b (p ∷ before) ≡ members c b before
  members-same p before keeps naming same =
      ap (λ o. unwrap_or (option_map (λ (s : DataSet). s.nodes) o) []) (ap (λ d. set_referred d (sets c (p ∷ before))) same ∙ changed-same before (dat_set before) p.deed keeps refl naming)

  -- while it is enabled it is not empty
  enabled-step : (before : Past) (d : Deed) → IsKeeping c before d → (is_some (enabler b before) ≡ true → is_empty (dat_set before) ≡ false)
      → is_some (enabler_after b d (enabler b before)) ≡ true → is_empty (parameters_after b d (parameters_at c b before)).dat_set ≡ false
  enabled-step before (wrote a k comps.DatSet (kinds.Text t)) keeps was on = by (k == b) refl
    where
      by : (x : Bool) → (k == b) ≡ x → is_empty (if x then record (parameters_at c b before) { dat_set = t } else parameters_at c b before).dat_set ≡ false
      by true is = absurd (true≢false (sym on ∙ (ap (λ i. is_some (enabler i before)) (sym (eqb-true k b is)) ∙ keeps.1)))
      by false is = was on
  enabled-step before (wrote a k comps.RptEna (kinds.Bool x)) keeps was on = by (k == b) refl x refl on
    where
      same : (y : Bool) → (if y then parameters_at c b before else parameters_at c b before) ≡ parameters_at c b before
      same true = refl
      same false = refl

      by : (y : Bool) → (k == b) ≡ y → (z : Bool) → x ≡ z → is_some (if y then (if z then Some a else None) else enabler b before) ≡ true → is_empty (if y then parameters_at c b before else parameters_at c b before).dat_set ≡ false
      by true is true e on = subst (λ i. is_empty (parameters_at c i before).dat_set ≡ false) (eqb-true k b is) (keeps e)
      by true is false e on = absurd (cc on)
      by false is z e on = was on
  enabled-step before (wrote a k comps.RptID (kinds.Text x)) keeps was on = by (k == b)
    where
      by : (t : Bool) → is_empty (if t then written_to comps.RptID (kinds.Text x) (parameters_at c b before) else parameters_at c b before).dat_set ≡ false
      by true = was on
      by false = was on
  enabled-step before (wrote a k comps.OptFlds (kinds.Bits x)) keeps was on = by (k == b)
    where
      by : (t : Bool) → is_empty (if t then written_to comps.OptFlds (kinds.Bits x) (parameters_at c b before) else parameters_at c b before).dat_set ≡ false
      by true = was on
      by false = was on
  enabled-step before (wrote a k comps.BufTm (kinds.Uint x)) keeps was on = by (k == b)
    where
      by : (t : Bool) → is_empty (if t then written_to comps.BufTm (kinds.Uint x) (parameters_at c b before) else parameters_at c b before).dat_set ≡ false
      by true = was on
      by false = was on
  enabled-step before (wrote a k comps.TrgOps (kinds.Bits x)) keeps was on = by (k == b)
    where
      by : (t : Bool) → is_empty (if t then written_to comps.TrgOps (kinds.Bits x) (parameters_at c b before) else parameters_at c b before).dat_set ≡ false
      by true = was on
      by false = was on
  enabled-step before (wrote a k comps.IntgPd (kinds.Uint x)) keeps was on = by (k == b)
    where
      by : (t : Bool) → is_empty (if t then written_to comps.IntgPd (kinds.Uint x) (parameters_at c b before) else parameters_at c b before).dat_set ≡ false
      by true = was on
      by false = was on
  enabled-step before (wrote a k comp v) keeps was on = by (k == b)
    where
      by : (t : Bool) → is_empty (if t then parameters_at c b before else parameters_at c b before).dat_set ≡ false
      by true = was on
      by false = was on
  enabled-step before (lost a) keeps was on = by (option_map_or (λ e. e == a) (enabler b before) false) on
    where
      by : (t : Bool) → is_some (if t then None else enabler b before) ≡ true → is_empty (dat_set before) ≡ false
      by true h = absurd (cc h)
      by false h = was h
  enabled-step before _ keeps was on = was on

  pub enabled-full : (past : Past) → AreKeeping c past → is_some (enabler b past) ≡ true → is_empty (dat_set past) ≡ false
  enabled-full [] keeps on = absurd (cc on)
  enabled-full (p ∷ before) keeps on = enabled-step before p.deed keeps.1 (enabled-full before keeps.0) on
