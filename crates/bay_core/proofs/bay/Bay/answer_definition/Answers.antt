-- why `bay::Bay::answer_definition` answers as its contract says
use Rattle.std.proofs.Common.{◌≡◌, ◌∙◌, ◌∷◌, [], ℕ, List, Bool, None, Some, true, length, refl, ap, sym, subst, arith, vec_capacity}
use Rattle.std.specs.Prelude.{nat_lt, slice_get}
use Rattle.std.specs.List.{list_all}
use Rattle.std.proofs.lemmas.Bool.{and_parts}
use Rattle.std.proofs.lemmas.Bool.Decides.{nat_tests}
use Rattle.std.proofs.lemmas.List.Elements.{All-nil, All-cons}
use Rattle.bay_model.specs.declared.reply.Reply.{Reply}
use Rattle.bay_model.specs.declared.request.Service.TheVariants as services
use Rattle.bay_model.specs.declared.request.SetName.{SetName}
use Rattle.bay_model.specs.declared.request.Target.{Target}
use Rattle.bay_model.specs.declared.request.Target.TheVariants as targets
use Rattle.bay_model.specs.declared.tables.NodeRow.{NodeRow}
use Rattle.bay_model.specs.Definitions.{is_set_name}
use Rattle.bay_model.specs.Named.{configured_model}
use Rattle.bay_model.specs.Services.{set_name}
use Rattle.object_model.specs.Fits.{Counts, name_fits, set_fits, target_fits}
use Rattle.object_model.specs.Nodes.{node_rows}
use Rattle.bay_config.specs.Servable.{IsServable}
use Rattle.data_sets.specs.Books.{AreTargets, Booked, Book, IsSet, IsThere, define_fault, defined_set, with_set}
use Rattle.report_block.specs.declared.block.ReportBlock.{ReportBlock}
use Rattle.bay_core.specs.Asked.{IsReplied}
use Rattle.bay_core.specs.Deleted.{IsNewSet}
use Rattle.bay_core.specs.State.{State}
use Rattle.bay_core.specs.Timed.{at_arrival}
use Rattle.bay_core.proofs.ArriveLaws.{HasAll}
use Rattle.block_watch.proofs.BookLaws.{number-there}
use Rattle.bay_core.proofs.ChangedLaws.{definition-done, definition-refused}
use Rattle.bay_core.proofs.DefineLaws.{new-set}
use Rattle.bay_core.proofs.SettingLaws.{have-members}
use Rattle.bay_core.proofs.bay.Bay.answer_definition.Goals as goal

-- the test of the same name, rows and members
fault-same : (b : Book) (named : Bool) (n m : SetName) (rows all : List NodeRow) (ts us : List Target) → n ≡ m → rows ≡ all → ts ≡ us → define_fault b n named rows ts ≡ define_fault b m named all us
fault-same b named n m rows all ts us one two three = ap (λ k. define_fault b k named rows ts) one ∙ (ap (λ l. define_fault b m named l ts) two ∙ ap (λ l. define_fault b m named all l) three)

-- the targets of a request that fits are nodes that are there
target-there : (n : Counts) (t : Target) → target_fits n t ≡ true → IsThere n.nodes t
target-there n (targets.Node k name) is =
    let below : nat_lt k.0 n.nodes ≡ true = (and_parts (nat_lt k.0 n.nodes) (name_fits name) is).0 in
    grind (arith, nat_tests, below)
target-there n (targets.Missing name) is = tt
target-there n (targets.Alternate name) is = tt

targets-there : (n : Counts) (ts : List Target) → list_all (target_fits n) ts ≡ true → AreTargets n.nodes ts
targets-there n [] is = All-nil (IsThere n.nodes)
targets-there n (t ∷ ts) is =
    let parts = and_parts (target_fits n t) (list_all (target_fits n) ts) is in
    All-cons (IsThere n.nodes) t ts (target-there n t parts.0) (targets-there n ts parts.1)

pub define_fault-requires : goal.define_fault-requires
define_fault-requires c =
    let s = c.self.inside in
    let old = c.args.self.now.config in
    let ts = c.args.members.now in
    let n : Counts = record { nodes = length (node_rows old); blocks = length old.blocks; controls = length old.controls } in
    let there : AreTargets (length (node_rows old)) ts = targets-there n ts (and_parts (set_fits c.args.domain.now c.args.item.now) (list_all (target_fits n) ts) c.requires.fits).1 in
    subst (λ (rows : List NodeRow). AreTargets (length rows) c.as_slice.result.now) (sym c.nodes-nodes.ensures)
    (subst (AreTargets (length (node_rows s.model))) (sym c.as_slice.ensures)
    (subst (λ (t : State). AreTargets (length (node_rows t.config)) ts) (sym c.self.view_is) there))

pub returns-in-Some-clause-answered : goal.returns-in-Some-clause-answered
returns-in-Some-clause-answered c =
    let s = c.self.inside in
    let old = c.args.self.now in
    let f = c.self.invariant.furnished in
    let named = c.is_set_name-is_named.result in
    let name = set_name c.args.domain.now c.args.item.now in
    let ts = c.args.members.now in
    let all : HasAll s.model s.values s.sets s.parts.items = record {
      servable = f.servable;
      sets = f.booked.served;
      values = f.values;
      members = have-members s.model (node_rows s.model) s.values s.sets s.parts.items s.watch s.octets (vec_capacity s.changes) refl f;
    } in
    let is : named ≡ is_set_name (configured_model old.config) name = c.is_set_name-is_named.ensures ∙ (ap (is_set_name (configured_model s.model)) c.in_ok-name.ensures ∙ ap (λ (t : State). is_set_name (configured_model t.config) name) c.self.view_is) in
    let same = fault-same s.sets named c.in_ok-name.name name c.nodes-nodes.result.now (node_rows s.model) c.as_slice.result.now ts c.in_ok-name.ensures c.nodes-nodes.ensures c.as_slice.ensures in
    let fails : define_fault old.book name named (node_rows old.config) ts ≡ Some c.in-Some.fault
    = sym (ap (λ (t : State). define_fault t.book name named (node_rows t.config) ts) c.self.view_is) ∙ (sym same ∙ (sym c.define_fault.ensures ∙ c.in-Some.is)) in
    subst (λ (r : Reply). IsReplied old c.arrive.new.self c.args.moment c.args.a.0 (services.Define c.args.domain.now c.args.item.now ts) r) (sym c.refusal.ensures)
    (definition-refused old c.args.moment c.args.a.0 c.args.domain.now c.args.item.now ts c.requires.number (subst (λ (t : State). HasAll t.config t.stored t.book t.parts) c.self.view_is all) named is
    c.arrive.new.self c.in-Some.fault fails c.arrive.ensures.state)

pub define-requires : goal.define-requires
define-requires c =
    let s = c.self.inside in
    let old = c.args.self.now in
    let named = c.is_set_name-is_named.result in
    let name = set_name c.args.domain.now c.args.item.now in
    let ts = c.args.members.now in
    let is : named ≡ is_set_name (configured_model old.config) name = c.is_set_name-is_named.ensures ∙ (ap (is_set_name (configured_model s.model)) c.in_ok-name.ensures ∙ ap (λ (t : State). is_set_name (configured_model t.config) name) c.self.view_is) in
    let same = fault-same s.sets named c.in_ok-name.name name c.nodes-nodes.result.now (node_rows s.model) c.as_slice.result.now ts c.in_ok-name.ensures c.nodes-nodes.ensures c.as_slice.ensures in
    let fine : define_fault old.book name named (node_rows old.config) ts ≡ None
    = sym (ap (λ (t : State). define_fault t.book name named (node_rows t.config) ts) c.self.view_is) ∙ (sym same ∙ (sym c.define_fault.ensures ∙ c.in_default.is)) in
    let made : c.in-Ok.definition ≡ defined_set name ts = c.in-Ok.ensures ∙ (ap (λ (n : SetName). defined_set n c.as_slice-2.result.now) c.in_ok-name.ensures ∙ ap (λ (l : List Target). defined_set name l) c.as_slice-2.ensures) in
    subst (IsNewSet old.config old.book) (sym made)
    (new-set old.config (subst (λ (t : State). IsServable t.config) c.self.view_is c.self.invariant.furnished.servable) old.book name named ts is fine)

pub returns-clause-answered : goal.returns-clause-answered
returns-clause-answered c =
    let s = c.self.inside in
    let old = c.args.self.now in
    let f = c.self.invariant.furnished in
    let named = c.is_set_name-is_named.result in
    let name = set_name c.args.domain.now c.args.item.now in
    let ts = c.args.members.now in
    let all : HasAll s.model s.values s.sets s.parts.items = record {
      servable = f.servable;
      sets = f.booked.served;
      values = f.values;
      members = have-members s.model (node_rows s.model) s.values s.sets s.parts.items s.watch s.octets (vec_capacity s.changes) refl f;
    } in
    let is : named ≡ is_set_name (configured_model old.config) name = c.is_set_name-is_named.ensures ∙ (ap (is_set_name (configured_model s.model)) c.in_ok-name.ensures ∙ ap (λ (t : State). is_set_name (configured_model t.config) name) c.self.view_is) in
    let same = fault-same s.sets named c.in_ok-name.name name c.nodes-nodes.result.now (node_rows s.model) c.as_slice.result.now ts c.in_ok-name.ensures c.nodes-nodes.ensures c.as_slice.ensures in
    let fine : define_fault old.book name named (node_rows old.config) ts ≡ None
    = sym (ap (λ (t : State). define_fault t.book name named (node_rows t.config) ts) c.self.view_is) ∙ (sym same ∙ (sym c.define_fault.ensures ∙ c.in_default.is)) in
    let made : c.in-Ok.definition ≡ defined_set name ts = c.in-Ok.ensures ∙ (ap (λ (n : SetName). defined_set n c.as_slice-2.result.now) c.in_ok-name.ensures ∙ ap (λ (l : List Target). defined_set name l) c.as_slice-2.ensures) in
    let behind : c.arrive-2.new.self ≡ at_arrival c.args.moment (record old { book = with_set (defined_set name ts) old.book })
    = c.arrive-2.ensures.state ∙ ap (at_arrival c.args.moment) (c.in_ok-define.ensures.defined ∙ ap (λ (d : Booked). record old { book = with_set d old.book }) made) in
    definition-done old c.args.moment c.args.a.0 c.args.domain.now c.args.item.now ts c.requires.number (subst (λ (t : State). HasAll t.config t.stored t.book t.parts) c.self.view_is all) named is
    c.arrive-2.new.self fine
    (subst (λ (t : State). (b : ℕ) (part : ReportBlock) → slice_get t.parts b ≡ Some part → IsSet t.book part.set) c.self.view_is
    (λ b part at. subst (IsSet s.sets) (sym (f.sets b part at)) (number-there part.block.options.dat_set s.sets)))
    behind

pub returns-clause-kept : goal.returns-clause-kept
returns-clause-kept c =
    let behind = c.arrive-2.ensures.state in
    let new = c.in_ok-define.ensures.defined in
    record {
      config = ap (λ (t : State). t.config) behind ∙ ap (λ (t : State). t.config) new;
      steps = ap (λ (t : State). t.steps) behind ∙ ap (λ (t : State). t.steps) new;
      rows = ap (λ (t : State). t.rows) behind ∙ ap (λ (t : State). t.rows) new;
    }
