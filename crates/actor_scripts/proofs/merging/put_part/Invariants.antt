-- what the loops of `merging::put_part` keep
use Rattle.std.proofs.Common.{◌≡◌, ◌++◌, length}
use Rattle.sv_base.specs.declared.config.Config.{Config}
use Rattle.bay_model.specs.Answers.{History}
use Rattle.bay_histories.specs.Rules.{Rules}
use Rattle.actor_scripts.specs.Scripts.{replies_of, made_of}
use Rattle.actor_scripts.specs.Merging.{AreRight}
use Rattle.actor_scripts.proofs.merging.put_part.Given as goal

abbrev pub invariant-loop-reply : goal.invariant-loop-reply
invariant-loop-reply l =
    (length l.places ≡ length l.initial.places) × (l.index ≡ length l.yielded) × (l.yielded ++ l.reply-iterator.rest.items ≡ l.fn.part.replies.items)
    × ((rules : Rules) (c : Config) (h : History) → l.fn.part.replies.items ≡ replies_of rules c l.fn.part.actor h
    → AreRight (made_of rules c h) l.initial.places → AreRight (made_of rules c h) l.places)
