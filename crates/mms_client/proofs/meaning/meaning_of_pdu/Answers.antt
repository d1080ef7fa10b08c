use Rattle.std.proofs.Common.{List, ℕ, MatchResult, subst}
use Rattle.mms_pdu.specs.ReplyView.{IsPlaced}
use Rattle.mms_client.specs.Meaning.{MeansPdu, RefusesPdu}
use Rattle.mms_client.proofs.meaning.meaning_of_pdu.Goals as goal

pub returns-in-Information : goal.returns-in-Information
returns-in-Information c =
    let p = subst (IsPlaced c.args.pdu) c.in-Information.is c.in_ok-pdu.ensures.places in
    subst (λ (o : List ℕ). MatchResult c.meaning_of_report.result (λ m. MeansPdu c.args.awaited o m) (λ f. RefusesPdu c.args.awaited o f)) p.2 c.meaning_of_report.ensures
