-- why `worked::worked_names` answers as its contract says
use Rattle.bay_examples.proofs.WorkedNames.{example_named, first_named, generated_named, attributes_numbered, members_allowed, types_named}
use Rattle.bay_examples.proofs.worked.worked_names.Goals as goal

pub returns-clause-example_named : goal.returns-clause-example_named
returns-clause-example_named c = example_named

pub returns-clause-first_named : goal.returns-clause-first_named
returns-clause-first_named c = first_named

pub returns-clause-generated_named : goal.returns-clause-generated_named
returns-clause-generated_named c = generated_named

pub returns-clause-attributes_numbered : goal.returns-clause-attributes_numbered
returns-clause-attributes_numbered c = attributes_numbered

pub returns-clause-members_allowed : goal.returns-clause-members_allowed
returns-clause-members_allowed c = members_allowed

pub returns-clause-types_named : goal.returns-clause-types_named
returns-clause-types_named c = types_named
