use Rattle.std.proofs.Common.{List, ℕ, MatchResult, sym, subst}
use Rattle.osi_stack.specs.declared.events.Event.{Event}
use Rattle.mms_client.specs.Meaning.{MeansPdu, RefusesPdu, Means, RefusesEvent}
use Rattle.mms_client.proofs.meaning.meaning_of.Goals as goal

pub returns-in-Pdu : goal.returns-in-Pdu
returns-in-Pdu c =
    let m = subst (λ (o : List ℕ). MatchResult c.meaning_of_pdu.result (λ m. MeansPdu c.args.awaited o m) (λ f. RefusesPdu c.args.awaited o f)) c.as_slice.ensures c.meaning_of_pdu.ensures in
    subst (λ (e : Event). MatchResult c.meaning_of_pdu.result (λ m. Means c.args.awaited e m) (λ f. RefusesEvent c.args.awaited e f)) (sym c.in-Pdu.is) m
