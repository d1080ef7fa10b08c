-- what the loops of `parameters::user_data` keep, and why they end
use Rattle.std.proofs.Common.{length}
use Rattle.std.specs.Option.{option_map}
use Rattle.ber_grammar.specs.Place.{piece}
use Rattle.session_pres.proofs.ParameterLaws.{UserGoes}
use Rattle.session_pres.proofs.parameters.user_data.Given as goal

abbrev pub invariant-loop-rest : goal.invariant-loop-rest
invariant-loop-rest l = UserGoes l.initial.rest l.rest (option_map piece l.user)

abbrev pub decreases-loop-rest : goal.decreases-loop-rest
decreases-loop-rest l = length l.rest.octets
