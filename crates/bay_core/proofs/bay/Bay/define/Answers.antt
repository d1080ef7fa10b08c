-- why `bay::Bay::define` answers as its contract says
use Rattle.std.proofs.Common.{◌<◌, ◌≤◌, ◌-◌, ◌∙◌, ℕ, List, length, ap, sym, subst, vec_capacity}
use Rattle.std.proofs.lemmas.List.{length-map}
use Rattle.sv_base.specs.declared.numbers.NodeId.{NodeId}
use Rattle.bay_model.specs.declared.tables.NodeRow.{NodeRow}
use Rattle.bay_model.specs.declared.flags.Trg.{Trg}
use Rattle.object_model.specs.Nodes.{node_rows}
use Rattle.set_view.specs.Shapes.{AreThere, shapes_of}
use Rattle.data_sets.specs.Books.{Book}
use Rattle.touch_index.specs.Indexed.{block_at, pairs}
use Rattle.brcb_state.specs.Components.{trg_of}
use Rattle.report_block.specs.declared.block.ReportBlock.{ReportBlock}
use Rattle.bay_core.specs.Deleted.{IsNewSet}
use Rattle.bay_core.specs.State.{State}
use Rattle.bay_core.specs.Whole.{IsWhole}
use Rattle.block_watch.proofs.BookLaws.{lent-nodes}
use Rattle.bay_core.proofs.DefineLaws.{whole-defined}
use Rattle.bay_core.proofs.bay.Bay.define.Goals as goal

pub reserve-requires-clause-there : goal.reserve-requires-clause-there
reserve-requires-clause-there c =
    subst (λ (ns : List NodeId). AreThere (length c.as_slice.result.now) ns) (sym c.nodes.ensures)
    (subst (λ (rows : List NodeRow). AreThere (length rows) c.args.definition.nodes) (sym (c.as_slice.ensures ∙ c.nodes-2.ensures))
    (subst (λ (s : State). AreThere (length (node_rows s.config)) c.args.definition.nodes) (sym c.self.view_is) (lent-nodes c.args.self.now.config c.args.definition.nodes c.requires.served.members)))

pub reserve-requires-clause-count : goal.reserve-requires-clause-count
reserve-requires-clause-count c =
    let f = c.self.invariant.furnished in
    ap (λ (l : List Trg). length l) f.watch.options ∙ (length-map c.self.inside.parts.items (λ (p : ReportBlock). trg_of p.block.options.trg_ops) ∙ sym f.watch.index.count)

pub define-requires : goal.define-requires
define-requires c = subst (λ (s : State). length s.book.sets - s.book.configured < 64) (sym c.self.view_is) c.requires.few

pub invariant_of-self-2 : goal.invariant_of-self-2
invariant_of-self-2 c =
    let s = c.self.inside in
    let d = c.args.definition in
    subst (λ (b : Book). IsWhole s.model s.values s.groups b s.parts.items c.reserve.new.self s.octets (vec_capacity s.changes) s.latest s.dues s.events s.associations.table) (sym c.define.ensures)
    (whole-defined s.model s.values s.groups s.sets d s.parts.items s.watch c.reserve.new.self s.octets (vec_capacity s.changes) s.latest s.dues s.events s.associations.table
    (subst (λ (t : State). IsNewSet t.config t.book d) (sym c.self.view_is) c.requires) c.in-Ok.ensures.kept c.in-Ok.ensures.grown
    (subst (λ (rows : List NodeRow). (b : ℕ) → b < length s.watch.index.blocks → pairs (shapes_of rows d.nodes) ≤ (block_at c.reserve.new.self.index.blocks b).room) (c.as_slice.ensures ∙ c.nodes-2.ensures)
    (subst (λ (ns : List NodeId). (b : ℕ) → b < length s.watch.index.blocks → pairs (shapes_of c.as_slice.result.now ns) ≤ (block_at c.reserve.new.self.index.blocks b).room) c.nodes.ensures c.in-Ok.ensures.made))
    c.self.invariant)
