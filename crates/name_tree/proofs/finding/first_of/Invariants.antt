-- what the loops of `finding::first_of` keep
use Rattle.std.proofs.Common.{◌≡◌, position}
use Rattle.sv_base.specs.declared.config.Config.{Config}
use Rattle.bay_model.specs.Named.{nodes}
use Rattle.name_tree.specs.Finding.{Finds, is_cut_below}
use Rattle.name_tree.proofs.finding.first_of.Given as goal

abbrev pub invariant-loop-at : goal.invariant-loop-at
invariant-loop-at l = (c : Config) → Finds c l.domains l.directories → l.first ≡ position (is_cut_below l.reference l.at) (nodes c)
