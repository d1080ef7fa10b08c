-- what the loops of `listing::list` keep
use Rattle.object_model.specs.Listed.{IsListed}
use Rattle.object_model.proofs.listing.list.Given as goal

abbrev pub invariant-loop-domain : goal.invariant-loop-domain
invariant-loop-domain l = IsListed l.config l.domain-index l.listing
