-- what the loops of `report::push_members` keep
use Rattle.std.proofs.Common.{◌≡◌, ◌++◌, take}
use Rattle.std.specs.List.{flat_map}
use Rattle.answer_text.specs.Texts.{member_text}
use Rattle.answer_text.proofs.report.push_members.Given as goal

abbrev pub invariant-loop-member : goal.invariant-loop-member
invariant-loop-member l = l.out.items ≡ l.fn.out.items ++ flat_map member_text (take l.member-index l.members)
