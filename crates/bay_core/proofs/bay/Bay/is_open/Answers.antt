-- why `bay::Bay::is_open` answers as its contract says
use Rattle.std.proofs.Common.{sym, subst, ◌∙◌}
use Rattle.bay_model.specs.Answers.{points}
use Rattle.bay_model.specs.Named.{configured_model}
use Rattle.bay_core.specs.Standing.{StandsFor}
use Rattle.bay_core.proofs.EndLaws.{open-told}
use Rattle.bay_core.proofs.bay.Bay.is_open.Goals as goal

pub returns-clause-defined : goal.returns-clause-defined
returns-clause-defined c = λ c' h was.
    let st = subst (λ s. StandsFor s c' h) (sym c.self.view_is) was in
    c.is_open.ensures ∙ open-told (configured_model c') c.self.inside.associations.rows (points (configured_model c') h) c.args.a.0 st.1.associations c.requires
