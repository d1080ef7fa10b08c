-- why `index::Index::push_by` answers as its contract says
use Rattle.std.proofs.Common.{ap₂, take, length, subst, sym, ◌∙◌}
use Rattle.octet_rows.specs.Chains.{latest}
use Rattle.octet_rows.specs.Found.{Finds, IsNoted}
use Rattle.octet_rows.proofs.FoundLaws.{pushed, same, taken}
use Rattle.octet_rows.proofs.index.Index.push_by.Goals as goal

pub invariant_of-self-in-Ok : goal.invariant_of-self-in-Ok
invariant_of-self-in-Ok c =
    let rows = c.self.inside.rows in
    let first = latest c.self.inside.first.entries.items in
    let further = c.self.inside.further.items in
    let next = latest c.note.new.first.entries.items in
    let others = c.note.new.further.items in
    let noted = subst (λ place. IsNoted first further next others c.args.hash place) (c.in_ok-place.ensures ∙ c.len-len.ensures) c.in-Ok.ensures.noted in (
      c.note.ensures.chained,
      subst (λ all. Finds all next others) (sym c.in_ok-push.ensures.ok)
          (pushed rows first further c.self.invariant.1 c.args.row.now next others (subst (λ hash. IsNoted first further next others hash (length rows)) c.requires noted)),
    )

pub invariant_of-self-in-Err : goal.invariant_of-self-in-Err
invariant_of-self-in-Err c =
    let rows = c.self.inside.rows in
    let next = latest c.note.new.first.entries.items in
    let others = c.note.new.further.items in
    let kept = c.truncate.ensures ∙ (ap₂ take c.len-len.ensures c.in_ok-push.ensures.ok ∙ taken rows c.args.row.now) in
    (c.note.ensures.chained, subst (λ all. Finds all next others) (sym kept) (same rows (latest c.self.inside.first.entries.items) next c.self.inside.further.items others c.self.invariant.1 c.in-Err.ensures.err))
