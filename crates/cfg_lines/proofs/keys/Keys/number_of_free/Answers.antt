-- why `keys::Keys::number_of_free` answers as its contract says
use Rattle.std.proofs.Common.{ap, sym, get_or, ◌∙◌, length, None, Some, rules}
use Rattle.std.proofs.lemmas.List.Sums.{fold_more}
use Rattle.octet_rows.specs.Hashing.{hash_at, gathered, nothing}
use Rattle.cfg_lines.specs.Keys.{is_among}
use Rattle.cfg_lines.proofs.PathLaws.{above-found}
use Rattle.std.proofs.lemmas.Bool.{cond-true}
use Rattle.cfg_lines.proofs.keys.Keys.number_of_free.Goals as goal

pub returns-then-has_by : goal.returns-then-has_by
returns-then-has_by c =
    sym (cond-true _ None (Some (hash_at c.args.path.now)) (above-found (λ front. is_among c.args.self.now front) c.args.path.now (length c.args.path.now) c.loop-i.i c.loop-i-test.true c.if-octet-eq36.true (sym c.has_by.ensures ∙ c.if-has_by.true)))

pub loop-i-preserved : goal.loop-i-preserved
loop-i-preserved c = (c.with-hash.ensures ∙ (ap (λ h. gathered h (get_or c.args.path.now c.loop-i.i 0)) c.loop-i.invariant.0 ∙ sym (fold_more gathered nothing c.args.path.now c.loop-i.i 0 c.loop-i-test.true)), search rules)
