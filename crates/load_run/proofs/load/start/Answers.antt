-- why `load::start` answers as its contract says
use Rattle.std.proofs.Common.{subst, sym, ap, ◌∙◌}
use Rattle.std.specs.Prelude.{Ok}
use Rattle.std.proofs.lemmas.Result.{IfOk-weaker}
use Rattle.bay_config.specs.Servable.{IsServable}
use Rattle.text_configs.proofs.Served.{served, settable}
use Rattle.made_records.specs.Texts.{configuration}
use Rattle.load_run.proofs.load.start.Goals as goal

pub build-requires : goal.build-requires
build-requires c = settable c.in-Ok.config (served configuration c.in-Ok.config c.in-Ok.ensures)

pub open-requires : goal.open-requires
open-requires c = subst IsServable (sym c.in_ok-model.ensures) (served configuration c.in-Ok.config c.in-Ok.ensures)

pub returns-clause-config : goal.returns-clause-config
returns-clause-config c = IfOk-weaker c.new.result _ _ (λ l loads. c.in-Ok.ensures ∙ ap Ok (sym (loads.carries.0.1.is_config ∙ (c.in_ok-bay.ensures.config ∙ c.in_ok-model.ensures)))) c.new.ensures.loads
