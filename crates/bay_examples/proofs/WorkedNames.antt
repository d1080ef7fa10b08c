-- The worked trees of names, by computation.
use Rattle.std.proofs.Common.{refl}
use Rattle.bay_examples.specs.WorkedNames.{ExampleNamed, FirstNamed, GeneratedNamed, AttributesNumbered, MembersAllowed, TypesNamed}

pub example_named : ExampleNamed
example_named = (refl, refl)

pub first_named : FirstNamed
first_named = refl

pub generated_named : GeneratedNamed
generated_named = refl

pub attributes_numbered : AttributesNumbered
attributes_numbered = (refl, refl, refl)

pub members_allowed : MembersAllowed
members_allowed = refl

pub types_named : TypesNamed
types_named = (refl, refl)
