-- what the loops of `tables::set_rows` keep
use Rattle.std.proofs.Common.{◌≡◌, map, take}
use Rattle.sv_base.specs.declared.config.Config.{Config}
use Rattle.bay_model.specs.Named.{nodes, set_defined}
use Rattle.name_tree.specs.Finding.{Finds}
use Rattle.object_model.specs.Tables.{set_row}
use Rattle.object_model.proofs.tables.set_rows.Given as goal

abbrev pub invariant-loop-set : goal.invariant-loop-set
invariant-loop-set l = (c : Config) → Finds c l.domains l.directories → l.rows.items ≡ map set_row (map (set_defined (nodes c)) (take l.set-index l.sets))
