-- why `bay::Bay::take_report` answers as its contract says
use Rattle.std.proofs.Common.{◌≡◌, ℕ, List, max, arith, subst, ap}
use Rattle.object_model.specs.Nodes.{node_rows}
use Rattle.report_block.specs.declared.block.ReportBlock.{ReportBlock}
use Rattle.control_core.specs.Tables.{at_moment}
use Rattle.block_watch.specs.Dues.{AreBefore}
use Rattle.bay_core.specs.State.{State}
use Rattle.bay_core.specs.Timed.{at_arrival}
use Rattle.block_events.proofs.QuietLaws.{none-arrives}
use Rattle.bay_core.proofs.bay.Bay.take_report.Goals as goal

pub take_quiet-requires-clause-quiet : goal.take_quiet-requires-clause-quiet
take_quiet-requires-clause-quiet c =
    let s = c.self.inside in
    let now : ℕ = max s.latest c.args.moment in
    let before : AreBefore now s.dues = subst (λ k. AreBefore k s.dues) c.later.ensures (c.have_come.ensures c.if-have_come.false) in
    let stay = none-arrives s.latest now (omega arith) s.dues before (node_rows s.model) s.sets s.values s.steps s.parts.items c.self.invariant.quiet in
    subst (λ (t : State). at_arrival c.args.moment t ≡ record t { latest = max t.latest c.args.moment; controls = at_moment (max t.latest c.args.moment) t.controls }) c.self.view_is
    (ap (λ (ps : List ReportBlock). record { config = s.model; steps = s.steps; latest = now; stored = s.values; book = s.sets; parts = ps; rows = s.associations.rows; groups = s.groups; controls = at_moment now s.associations.table }) stay)
