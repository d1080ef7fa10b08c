-- No write of a data set is an Oper, so that the single writes of a request are no more such than it names.
use Rattle.std.proofs.Common.{not, ◌≡◌, ◌+◌, inl, inr, ℕ, Bool, true, false, List, [], ◌∷◌, map, length, filter, refl, sym, ap, subst, ◌∙◌, arith, ◌==◌}
use Rattle.std.specs.Prelude.{Option, None, Some, is_some, is_none, ◌||◌, nat_lt, nat_le, if◌then◌else◌}
use Rattle.std.specs.Option.{option_map_or}
use Rattle.std.specs.List.{list_all}
use Rattle.std.proofs.lemmas.Bool.{and_parts}
use Rattle.list_laws.proofs.Among.{Each, each-of, of-each, of-all, passed, each-both}
use Rattle.sv_base.specs.declared.value.Value.{Value}
use Rattle.sv_base.specs.Same.{values_of}
use Rattle.sv_base.specs.Tree.{Row}
use Rattle.bay_model.specs.declared.answer.Answer.TheVariants as answers
use Rattle.bay_model.specs.declared.request.Service.{Service}
use Rattle.bay_model.specs.declared.request.Service.TheVariants as services
use Rattle.bay_model.specs.declared.request.SetName.{SetName}
use Rattle.bay_model.specs.declared.request.Target.{Target}
use Rattle.bay_model.specs.declared.request.Target.TheVariants as targets
use Rattle.bay_model.specs.declared.request.Write.{Write}
use Rattle.bay_model.specs.declared.step.Step.{Step}
use Rattle.bay_model.specs.declared.step.Step.TheVariants as steps
use Rattle.bay_model.specs.Model.{Model, DataSet}
use Rattle.bay_model.specs.Lookups.{node_of}
use Rattle.bay_model.specs.Points.{Deed, Change, Past, nothing, defined, deleted, unchanged, answered}
use Rattle.bay_model.specs.Associations.{ends}
use Rattle.bay_model.specs.Breaks.{is_empty}
use Rattle.bay_model.specs.Definitions.{is_set_name, is_member, number_of, definition_change}
use Rattle.bay_model.specs.Deletions.{gone, deletion_change}
use Rattle.bay_model.specs.Sets.{is_named, without, without_all, sets_changed, sets_after, dynamic, sets, set_named}
use Rattle.bay_model.specs.Waiting.{Waiting, reply, ending, waiting}
use Rattle.bay_model.specs.Singles.{Single, reads, read_of, write_to, write_of, writes_of, arrival, after_single, after_singles}
use Rattle.bay_model.specs.Services.{set_found, set_name, written_set, singles_of, change_of}
use Rattle.bay_model.specs.Reports.{Offer, first_offer}
use Rattle.bay_model.specs.Takes.{taken, given_by, given_report}
use Rattle.bay_model.specs.Answers.{Turn, History, points, deed_at, singles_after}
use Rattle.history_laws.specs.Opers.{opers_to, opers_in, opers_of, opers_among, AreApart}
use Rattle.history_laws.proofs.SingleLaws.{IsStill, IsOne, opers_single, outcome, component_}

abbrev pub opers_singles : Model → List Single → ℕ
opers_singles c [] = 0
opers_singles c (s ∷ ss) = opers_single c s + opers_singles c ss

module _ (c : Model) (apart : AreApart c) where
  -- ---- sets without an Oper

  abbrev IsPlain : DataSet → Type 0
  IsPlain s = opers_among c s.nodes ≡ 0

  filtered : (p : DataSet → Bool) (ss : List DataSet) → Each IsPlain ss → Each IsPlain (filter p ss)
  filtered p ss all = each-of IsPlain (filter p ss) (λ s i. of-each IsPlain ss s all (passed p s ss i).0)

  left-out : (ns : List SetName) (ss : List DataSet) → Each IsPlain ss → Each IsPlain (without_all ns ss)
  left-out [] ss all = all
  left-out (n ∷ ns) ss all = left-out ns (without n ss) (filtered (λ s. not (is_named n s)) ss all)

  -- what a client may define
  members : (ts : List Target) → list_all (is_member c) ts ≡ true → opers_among c (map number_of ts) ≡ 0
  members [] h = refl
  members (targets.Node n name ∷ ts) h =
      let parts = and_parts (node_of c n.0).allowed (list_all (is_member c) ts) h in
      omega (arith, apart.defined n.0 parts.0, members ts parts.1)
  members (targets.Missing name ∷ ts) h = absurd (cc h)
  members (targets.Alternate name ∷ ts) h = absurd (cc h)

  abbrev IsFine : Change → Type 0
  IsFine (defined n nodes) = opers_among c nodes ≡ 0
  IsFine _ = Unit {0}

  definition : (past : Past) (n : SetName) (ts : List Target) → IsFine (definition_change c past n ts)
  definition past n ts =
      by (is_some (set_named n (sets c past))) (not (is_set_name c n)) (is_empty ts) (list_all (is_member c) ts) (nat_lt 256 (length ts) || nat_le 64 (length (dynamic past))) refl
    where
      by : (x y z w u : Bool) → list_all (is_member c) ts ≡ w
          → IsFine (if is_some {T = ℕ × ℕ} (if x then Some (2, 5) else (if y || z || not w then Some (7, 2) else (if u then Some (3, 0) else None))) then unchanged else defined n (map number_of ts))
      by true y z w u is = tt
      by false true z w u is = tt
      by false false true w u is = tt
      by false false false false u is = tt
      by false false false true true is = tt
      by false false false true false is = members ts is

  deletion : (past : Past) (scope : ℕ) (ns : List SetName) → IsFine (deletion_change c past scope ns)
  deletion past scope ns = either (scope == 0) where
    either : (b : Bool) → IsFine (if b then deleted (gone c past ns (sets c past)) else unchanged)
    either true = tt
    either false = tt

  change : (past : Past) (s : Service) → IsFine (change_of c past s)
  change past (services.Define domain item ts) = definition past (set_name domain item) ts
  change past (services.Delete scope ns) = deletion past scope ns
  change past _ = tt

  changed : (ch : Change) (ss : List DataSet) → IsFine ch → Each IsPlain ss → Each IsPlain (sets_changed ch ss)
  changed unchanged ss fine all = all
  changed (defined n nodes) ss fine all = each-both IsPlain ss (record { domain = n.domain; item = n.item; nodes = nodes } ∷ []) all (fine, tt)
  changed (deleted ns) ss fine all = left-out ns ss all

  -- ---- turn by turn

  still-sets : (d : Deed) (was : List DataSet) → IsStill d → sets_after d was ≡ was
  still-sets (answered e output ch) was q = absurd q
  still-sets _ was q = refl

  one-sets : (e n : ℕ) (d : Deed) (was : List DataSet) → IsOne c e n d → sets_after d was ≡ was
  one-sets e n d was (inl q) = still-sets d was q
  one-sets e n d was (inr o) = ap (λ x. sets_after x was) o.2

  singles-sets : (e n m : ℕ) (ss : List Single) (past : Past) → dynamic (after_singles c e n m ss past) ≡ dynamic past
  singles-sets e n m [] past = refl
  singles-sets e n m (s ∷ ss) past =
      singles-sets e n m ss (after_single c e n m s past) ∙ one-sets e (opers_single c s) _ (dynamic past) (outcome c (arrival n m ∷ past) e s)

  take-sets : (e n m : ℕ) (past : Past) → sets_after (taken c e (arrival n m ∷ past)).deed (dynamic past) ≡ dynamic past
  take-sets e n m past = either (is_none (ends e past)) (waiting c e past) where
    report : (o : Option Offer) → sets_after (given_report c e (arrival n m ∷ past) o).deed (dynamic past) ≡ dynamic past
    report None = refl
    report (Some o) = refl

    either : (x : Bool) (ws : List Waiting) → sets_after (if x then record { answer = answers.Closed; deed = nothing } else given_by c e (arrival n m ∷ past) ws).deed (dynamic past) ≡ dynamic past
    either true ws = refl
    either false [] = report (first_offer c e (arrival n m ∷ past) 0 c.blocks)
    either false (reply o ∷ ws) = refl
    either false (ending k good ∷ ws) = refl

  turn-sets : (n : ℕ) (t : Turn) (s : Step) (past : Past) → Each IsPlain (dynamic past)
      → Each IsPlain (sets_after (deed_at c n t past s) (dynamic (singles_after c n t past s)))
  turn-sets n t (steps.Open e size writer owner) past all = all
  turn-sets n t (steps.Ask e r) past all =
      changed (change_of c past r.service) (dynamic (after_singles c e.0 n t.moment (singles_of c past r.service) past)) (change past r.service)
      (subst (Each IsPlain) (sym (singles-sets e.0 n t.moment (singles_of c past r.service) past)) all)
  turn-sets n t (steps.Write e b comp v) past all = subst (Each IsPlain) (sym (still-sets _ (dynamic past) (component_ c (arrival n t.moment ∷ past) e.0 b.0 comp v))) all
  turn-sets n t (steps.Take e) past all = subst (Each IsPlain) (sym (take-sets e.0 n t.moment past)) all
  turn-sets n t (steps.Lost e) past all = all
  turn-sets n t (steps.Value settings) past all = all
  turn-sets n t (steps.Done k good) past all = all
  turn-sets n t (steps.Block k flag) past all = all
  turn-sets n t steps.Tick past all = all

  defined-plain : (h : History) → Each IsPlain (dynamic (points c h))
  defined-plain [] = tt
  defined-plain (t ∷ h) = turn-sets (length h) t t.step (points c h) (defined-plain h)

  plain : (h : History) → Each IsPlain (sets c (points c h))
  plain h = each-both IsPlain c.sets (dynamic (points c h)) (each-of IsPlain c.sets (λ s i. of-all IsPlain c.sets s apart.configured i)) (defined-plain h)

  -- ---- the single writes of a request

  read-none : (ns : List ℕ) → opers_singles c (map reads ns) ≡ 0
  read-none [] = refl
  read-none (n ∷ ns) = omega (arith, read-none ns)

  reads-none : (ts : List Target) → opers_singles c (map read_of ts) ≡ 0
  reads-none [] = refl
  reads-none (targets.Node n name ∷ ts) = omega (arith, reads-none ts)
  reads-none (targets.Missing name ∷ ts) = omega (arith, reads-none ts)
  reads-none (targets.Alternate name ∷ ts) = omega (arith, reads-none ts)

  writes-many : (ws : List Write) → opers_singles c (map write_of ws) ≡ opers_in c ws
  writes-many [] = refl
  writes-many (w ∷ ws) = either w.target (writes-many ws) where
    either : (t : Target) → opers_singles c (map write_of ws) ≡ opers_in c ws → opers_single c (write_to t w.value) + opers_singles c (map write_of ws) ≡ opers_to c t + opers_in c ws
    either (targets.Node n name) rest = omega (arith, rest)
    either (targets.Missing name) rest = omega (arith, rest)
    either (targets.Alternate name) rest = omega (arith, rest)

  members-none : (ns : List ℕ) (vs : List Value) → opers_among c ns ≡ 0 → opers_singles c (writes_of ns vs) ≡ 0
  members-none [] vs none = refl
  members-none (n ∷ ns) [] none = refl
  members-none (n ∷ ns) (v ∷ vs) none =
      let rest : opers_among c ns ≡ 0 = omega (arith, none) in
      omega (arith, members-none ns vs rest, none)

  set-none : (ss : List DataSet) (n : SetName) (r : Row) → Each IsPlain ss → opers_singles c (option_map_or (λ s. written_set s r) (set_named n ss) []) ≡ 0
  set-none [] n r all = refl
  set-none (s ∷ ss) n r all = either (is_named n s) (set-none ss n r all.1) where
    written : (b : Bool) → opers_singles c (if b then writes_of s.nodes (values_of r) else []) ≡ 0
    written true = members-none s.nodes (values_of r) all.0
    written false = refl

    either : (x : Bool) → opers_singles c (option_map_or (λ s. written_set s r) (set_named n ss) []) ≡ 0 → opers_singles c (option_map_or (λ s. written_set s r) (if x then Some s else set_named n ss) []) ≡ 0
    either true rest = written (length s.nodes == length (values_of r))
    either false rest = rest

  read-set-none : (o : Option DataSet) → opers_singles c (option_map_or (λ (s : DataSet). map reads s.nodes) o []) ≡ 0
  read-set-none None = refl
  read-set-none (Some s) = read-none s.nodes

  pub named-only : (h : History) (s : Service) → opers_singles c (singles_of c (points c h) s) ≡ opers_of c s
  named-only h (services.Read ts spec) = reads-none ts
  named-only h (services.ReadSet domain item spec) = read-set-none (set_found c (points c h) (set_name domain item))
  named-only h (services.WriteVars ws) = writes-many ws
  named-only h (services.WriteSet domain item vs) = set-none (sets c (points c h)) (set_name domain item) vs (plain h)
  named-only h _ = refl
