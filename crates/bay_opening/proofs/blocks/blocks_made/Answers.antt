-- why `blocks::blocks_made` answers as its contract says
use Rattle.std.proofs.Common.{◌∙◌, ap, sym, subst, List}
use Rattle.std.specs.List.{All}
use Rattle.bay_model.specs.declared.tables.NodeRow.{NodeRow}
use Rattle.data_sets.specs.Books.{opened as booked}
use Rattle.object_model.specs.Nodes.{node_rows}
use Rattle.block_watch.specs.Watched.{AreLent, IsWatchable}
use Rattle.object_model.specs.Tables.{set_rows}
use Rattle.block_watch.proofs.BookLaws.{sets-lent}
use Rattle.bay_opening.proofs.FirstBook.{opened-served}
use Rattle.bay_values.proofs.FirstValues.{opened-held}
use Rattle.bay_opening.proofs.FirstParts.{watchable-first}
use Rattle.bay_opening.proofs.blocks.blocks_made.Goals as goal

pub open-requires-2-clause-lent : goal.open-requires-2-clause-lent
open-requires-2-clause-lent c =
    let m = c.args.model.now in
    subst (λ (rows : List NodeRow). AreLent rows c.in_ok-sets.sets) (sym (c.as_slice.ensures ∙ c.nodes.ensures)) (subst (AreLent (node_rows m)) (sym (c.in_ok-sets.ensures ∙ ap booked c.sets.ensures)) (sets-lent m (booked (set_rows m)) (opened-served m c.requires.servable)))

pub open-requires-2-clause-watchable : goal.open-requires-2-clause-watchable
open-requires-2-clause-watchable c =
    let m = c.args.model.now in
    let count = c.requires.attrs ∙ (opened-held m c.requires.servable).count in
    subst (λ (rows : List NodeRow). All (IsWatchable rows c.in_ok-sets.sets c.args.attrs) c.deref.result.now) (sym (c.as_slice.ensures ∙ c.nodes.ensures))
    (subst (All (IsWatchable (node_rows m) c.in_ok-sets.sets c.args.attrs)) (sym c.deref.ensures.value)
    (watchable-first m c.args.attrs c.in_ok-sets.sets c.in-Ok.parts.items c.requires.servable (c.in_ok-sets.ensures ∙ ap booked c.sets.ensures) c.in-Ok.ensures count))
