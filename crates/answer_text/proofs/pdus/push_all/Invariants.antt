-- what the loops of `pdus::push_all` keep
use Rattle.std.proofs.Common.{◌≡◌, ◌++◌, take}
use Rattle.std.specs.List.{flat_map}
use Rattle.answer_text.specs.Texts.{pdu_line}
use Rattle.answer_text.proofs.pdus.push_all.Given as goal

abbrev pub invariant-loop-pdu : goal.invariant-loop-pdu
invariant-loop-pdu l = l.out.items ≡ l.fn.out.items ++ flat_map (pdu_line l.a.0) (take l.pdu-index l.pdus)
