-- why `listing::fit` answers as its contract says
use Rattle.std.proofs.Common.{ap, length, ◌∙◌}
use Rattle.object_model.specs.Listed.{IsListed}
use Rattle.object_model.proofs.listing.fit.Goals as goal

pub returns : goal.returns
returns c = λ config i is. record {
  rows = c.shrink_to_fit.ensures.items ∙ is.rows;
  names = c.shrink_to_fit-2.ensures.items ∙ is.names;
  directories = is.directories;
  count = is.count;
  stands = c.shrink_to_fit-3.ensures.items ∙ is.stands;
  leaves = c.shrink_to_fit-4.ensures.items ∙ is.leaves;
}
