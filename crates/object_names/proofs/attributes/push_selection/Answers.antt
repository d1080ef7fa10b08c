-- why `attributes::push_selection` answers as its contract says
use Rattle.list_laws.proofs.Appended.{two}
use Rattle.object_names.proofs.attributes.push_selection.Goals as goal

pub returns-clause-references : goal.returns-clause-references
returns-clause-references c = two _ _ _ _ _ c.in_ok-push_parameter.ensures.references c.in_ok-push_parameter-2.ensures.references
