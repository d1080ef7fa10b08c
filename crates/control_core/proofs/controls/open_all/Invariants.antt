-- The controls of the lines before this one are opened.
use Rattle.std.proofs.Common.{◌≡◌, take, map}
use Rattle.bay_model.specs.Configured.{control_defined}
use Rattle.control_core.specs.Controls.{idle}
use Rattle.control_core.proofs.controls.open_all.Given as goal

abbrev pub invariant-loop-def : goal.invariant-loop-def
invariant-loop-def l = l.controls.items ≡ map idle (map control_defined (take l.def-index l.defs))
