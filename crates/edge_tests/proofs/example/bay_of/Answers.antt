-- why `example::bay_of` answers as its contract says
use Rattle.std.proofs.Common.{subst, sym}
use Rattle.bay_config.specs.Servable.{IsServable}
use Rattle.text_configs.proofs.Served.{served, settable}
use Rattle.edge_tests.proofs.example.bay_of.Goals as goal

pub build-requires : goal.build-requires
build-requires c = settable c.in-Ok.config (served c.args.text.now c.in-Ok.config c.in-Ok.ensures)

pub open-requires : goal.open-requires
open-requires c = subst IsServable (sym c.in_ok-model.ensures)
    (served c.args.text.now c.in-Ok.config c.in-Ok.ensures)
