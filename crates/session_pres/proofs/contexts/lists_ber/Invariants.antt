-- what the loops of `contexts::lists_ber` keep
use Rattle.std.proofs.Common.{◌≡◌}
use Rattle.session_pres.specs.ContextReading.{has_ber}
use Rattle.session_pres.proofs.contexts.lists_ber.Given as goal

abbrev pub invariant-loop-syntax : goal.invariant-loop-syntax
invariant-loop-syntax l = has_ber l.fn.syntaxes ≡ has_ber l.syntaxes
