-- what the loops of `tables::members_of` keep
use Rattle.std.proofs.Common.{◌≡◌, map, take}
use Rattle.sv_base.specs.declared.config.Config.{Config}
use Rattle.bay_model.specs.Named.{nodes, member_number}
use Rattle.name_tree.specs.Finding.{Finds}
use Rattle.object_model.specs.Tables.{node_id}
use Rattle.object_model.proofs.tables.members_of.Given as goal

abbrev pub invariant-loop-reference : goal.invariant-loop-reference
invariant-loop-reference l = (c : Config) → Finds c l.domains l.directories → l.members.items ≡ map node_id (map (member_number (nodes c)) (take l.reference-index l.references))
