-- why `keys::Keys::add_above` answers as its contract says
use Rattle.std.proofs.Common.{ap, sym, get_or, ◌∙◌, rules}
use Rattle.std.proofs.lemmas.List.Sums.{fold_more}
use Rattle.octet_rows.specs.Hashing.{gathered, nothing}
use Rattle.cfg_lines.proofs.keys.Keys.add_above.Goals as goal

pub loop-i-preserved : goal.loop-i-preserved
loop-i-preserved c = (c.with-hash.ensures ∙ (ap (λ h. gathered h (get_or c.args.path.now c.loop-i.i 0)) c.loop-i.invariant.0 ∙ sym (fold_more gathered nothing c.args.path.now c.loop-i.i 0 c.loop-i-test.true)), search rules)
