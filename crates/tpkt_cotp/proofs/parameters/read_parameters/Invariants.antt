-- what the loops of `parameters::read_parameters` keep, and why they end
use Rattle.std.proofs.Common.{◌≡◌, length}
use Rattle.tpkt_cotp.specs.Parameters.{parameters_of}
use Rattle.tpkt_cotp.proofs.parameters.read_parameters.Given as goal

abbrev pub invariant-loop-code : goal.invariant-loop-code
invariant-loop-code l = parameters_of l.fn.cr l.fn.octets ≡ parameters_of l.cr l.rest

abbrev pub decreases-loop-code : goal.decreases-loop-code
decreases-loop-code l = length l.rest
