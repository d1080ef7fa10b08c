-- why `replies::to_bytes` answers as its contract says
use Rattle.std.proofs.Common.{◌≤◌, ℕ, List, length, sym, subst}
use Rattle.std.specs.List.{AllByRecursion}
use Rattle.bay_answers.proofs.RepliesShortLaws.{output_short}
use Rattle.bay_answers.proofs.replies.to_bytes.Goals as goal

pub returns-clause-short : goal.returns-clause-short
returns-clause-short c =
    subst (λ (p : List (List ℕ)). AllByRecursion (λ o. length o ≤ c.args.size) p) (sym c.in_ok-pdus.ensures)
    (output_short c.args.model.now c.args.size c.args.output.now c.requires.output c.requires.least)
