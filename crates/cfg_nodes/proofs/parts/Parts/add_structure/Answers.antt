-- why `parts::Parts::add_structure` answers as its contract says
use Rattle.std.proofs.Common.{◌∙◌}
use Rattle.cfg_nodes.proofs.parts.Parts.add_structure.Goals as goal

pub returns-clause-parts : goal.returns-clause-parts
returns-clause-parts c = λ front placed other. c.in_ok-place.ensures.parts other ∙ c.in_ok-add_part.ensures.parts front placed other
