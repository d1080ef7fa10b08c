-- why `keys::Keys::add_by` answers as its contract says
use Rattle.std.proofs.Common.{sym, ap, ◌∙◌}
use Rattle.std.specs.Str.{bytes_eq}
use Rattle.std.proofs.lemmas.Bool.{cond-true}
use Rattle.cfg_lines.specs.Keys.{is_among}
use Rattle.cfg_lines.proofs.KeyLaws.{any-added}
use Rattle.cfg_lines.proofs.keys.Keys.add_by.Goals as goal

pub returns-then-has_by : goal.returns-then-has_by
returns-then-has_by c =
    let items = sym (cond-true _ _ _ (sym c.has_by.ensures ∙ c.if-has_by.true)) in
    record { among = λ q. ap (λ ks. is_among ks q) items ∙ any-added (λ k. bytes_eq q k) _ c.args.key.now; items = items }
