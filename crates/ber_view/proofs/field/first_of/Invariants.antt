-- what the loops of `field::first_of` keep
use Rattle.std.proofs.Common.{◌≡◌}
use Rattle.ber_grammar.specs.Fields.{first_with}
use Rattle.ber_view.proofs.field.first_of.Given as goal

abbrev pub invariant-loop-field : goal.invariant-loop-field
invariant-loop-field l = first_with l.tag l.fn.fields ≡ first_with l.tag l.fields
