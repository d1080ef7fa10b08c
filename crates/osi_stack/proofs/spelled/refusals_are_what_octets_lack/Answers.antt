-- why `spelled::refusals_are_what_octets_lack` answers as its contract says
use Rattle.osi_stack.proofs.RefusedStreamLaws.{refusal_spells, spelled_refuses, tsdu_answered, one_cause, not_both}
use Rattle.osi_stack.proofs.spelled.refusals_are_what_octets_lack.Goals as goal

pub returns : goal.returns
returns c = record { spells = refusal_spells; refuses = spelled_refuses; answered = tsdu_answered; one_cause = one_cause; not_both = not_both }
