-- why `starting::model_of` answers as its contract says
use Rattle.text_configs.proofs.Served.{served, settable}
use Rattle.script_reading.proofs.starting.model_of.Goals as goal

pub build-requires : goal.build-requires
build-requires c = settable c.in-Ok.config (served c.args.text.now c.in-Ok.config c.in-Ok.ensures)
