-- what the loops of `contexts::offer_of` keep
use Rattle.std.specs.Option.{option_map}
use Rattle.session_pres.specs.ViewOfContexts.{candidate}
use Rattle.session_pres.proofs.ContextLaws.{ListGoes}
use Rattle.session_pres.proofs.contexts.offer_of.Given as goal

abbrev pub invariant-loop-element : goal.invariant-loop-element
invariant-loop-element l = ListGoes l.initial.elements l.elements (record { count = l.count; acse = option_map candidate l.acse; mms = option_map candidate l.mms })
