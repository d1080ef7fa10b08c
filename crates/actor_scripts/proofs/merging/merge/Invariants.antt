-- what the loops of `merging::merge` keep
use Rattle.std.proofs.Common.{◌≡◌, ◌++◌, length}
use Rattle.sv_base.specs.declared.config.Config.{Config}
use Rattle.bay_model.specs.Answers.{History}
use Rattle.bay_histories.specs.Rules.{Rules}
use Rattle.actor_scripts.specs.Scripts.{made_of}
use Rattle.actor_scripts.specs.Merging.{AreRight, AreOf}
use Rattle.actor_scripts.proofs.merging.merge.Given as goal

abbrev pub invariant-loop-part : goal.invariant-loop-part
invariant-loop-part l =
    (length l.places.items ≡ l.fn.total) × (l.yielded ++ l.part-iterator.rest.items ≡ l.fn.parts.items)
    × ((rules : Rules) (c : Config) (h : History) → AreOf rules c h l.fn.parts.items → AreRight (made_of rules c h) l.places.items)
