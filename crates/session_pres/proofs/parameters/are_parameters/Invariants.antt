-- what the loops of `parameters::are_parameters` keep, and why they end
use Rattle.std.proofs.Common.{length}
use Rattle.session_pres.proofs.ParameterLaws.{CutsAs}
use Rattle.session_pres.proofs.parameters.are_parameters.Given as goal

abbrev pub invariant-loop-rest : goal.invariant-loop-rest
invariant-loop-rest l = CutsAs l.initial.rest l.rest

abbrev pub decreases-loop-rest : goal.decreases-loop-rest
decreases-loop-rest l = length l.rest.octets
