-- what the loops of `acts::push_acts` keep
use Rattle.std.proofs.Common.{◌≡◌, ◌++◌, take}
use Rattle.std.specs.List.{flat_map}
use Rattle.answer_text.specs.Texts.{act_line}
use Rattle.answer_text.proofs.acts.push_acts.Given as goal

abbrev pub invariant-loop-act : goal.invariant-loop-act
invariant-loop-act l = l.out.items ≡ l.fn.out.items ++ flat_map (act_line l.model) (take l.act-index l.acts)
