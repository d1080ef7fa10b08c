-- why `loading::Loading::new` answers as its contract says
use Rattle.std.proofs.Common.{sym, subst}
use Rattle.bay_model.specs.Named.{configured_model}
use Rattle.record_steps.specs.Forms.{Stands, shut}
use Rattle.load_run.proofs.loading.Loading.new.Goals as goal

pub returns-clause-loads : goal.returns-clause-loads
returns-clause-loads c = record {
  moment = c.first.ensures;
  carries = (c.requires.stands, c.new-2.ensures.none (configured_model c.args.bay.config));
  forms = λ a. subst (λ f. Stands f shut) (sym (c.in-Ok.ensures a)) tt;
}
