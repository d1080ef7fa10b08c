-- what the loops of `starting::no_scripts` keep
use Rattle.std.proofs.Common.{◌≡◌, replicate}
use Rattle.std.specs.Prelude.{Option, None}
use Rattle.script_plans.specs.Plans.{Script}
use Rattle.script_reading.proofs.starting.no_scripts.Given as goal

abbrev nothing : Option Script
nothing = None

abbrev pub invariant-loop : goal.invariant-loop
invariant-loop l = l.slots.items ≡ replicate l.counter nothing
