-- why `bay::Bay::open` answers as its contract says
use Rattle.std.proofs.Common.{◌≡◌, map, subst, sym}
use Rattle.sv_base.specs.declared.config.Config.{Config}
use Rattle.object_model.specs.Tables.{set_rows}
use Rattle.data_sets.specs.Books.{opened as booked}
use Rattle.bay_opening.specs.Opened.{seen, part_defined}
use Rattle.bay_core.proofs.bay.Bay.open.Goals as goal

pub begun-requires-clause-parts : goal.begun-requires-clause-parts
begun-requires-clause-parts c =
    subst (λ (m : Config). map seen c.in_ok-made.made.parts.items ≡ map (part_defined (booked (set_rows m))) m.blocks) (sym c.in_ok-made.ensures.model) c.in_ok-made.ensures.parts
