-- why `laws::record_fronts` answers as its contract says
use Rattle.std.proofs.Common.{◌≤◌, sym, subst}
use Rattle.bay_model.specs.Named.{configured_model}
use Rattle.bay_model.specs.Retained.{front}
use Rattle.bay_model.proofs.EntryLaws.{front_rises, front_is_within, retained_fit}
use Rattle.record_outcome.specs.Laws.{points_of}
use Rattle.record_outcome.proofs.histories.record_fronts.Goals as goal

pub returns-clause-rises : goal.returns-clause-rises
returns-clause-rises c = λ ls r is b ps before split.
    subst (λ past. front (configured_model r.config) b before ≤ front (configured_model r.config) b past) (sym split) (front_rises (configured_model r.config) b ps before)

pub returns-clause-fit : goal.returns-clause-fit
returns-clause-fit c = λ ls r is b. (front_is_within (configured_model r.config) b (points_of r), retained_fit (configured_model r.config) b (points_of r))
