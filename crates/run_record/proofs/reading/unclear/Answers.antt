-- why `reading::unclear` answers as its contract says
use Rattle.std.proofs.Common.{sym, ◌∙◌}
use Rattle.std.proofs.lemmas.Bool.{cond-false}
use Rattle.run_record.specs.Judging.{line_at}
use Rattle.run_record.proofs.OctetLaws.{unclear-empty}
use Rattle.run_record.proofs.SeenLaws.{empty-told}
use Rattle.run_record.proofs.reading.unclear.Goals as goal

pub returns-else-is_skipped : goal.returns-else-is_skipped
unfolding line_at
returns-else-is_skipped c =
    let short = sym c.is_long.ensures ∙ c.if-is_long.false in
    let told = sym c.is_skipped.ensures ∙ c.if-is_skipped.false in
    empty-told _ (unclear-empty c.args.line.now c.requires short) ∙ sym (cond-false _ _ _ short ∙ cond-false _ _ _ told)
