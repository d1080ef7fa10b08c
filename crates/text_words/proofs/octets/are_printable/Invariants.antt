-- what the loops of `octets::are_printable` keep
use Rattle.std.proofs.Common.{◌≡◌, take}
use Rattle.std.specs.List.{list_all}
use Rattle.text_words.specs.Octets.{is_printable}
use Rattle.text_words.proofs.octets.are_printable.Given as goal

abbrev pub invariant-loop-octet : goal.invariant-loop-octet
invariant-loop-octet l = l.all ≡ list_all is_printable (take l.octet-index l.line)
