-- why `keys::Keys::has_by` answers as its contract says
use Rattle.std.proofs.Common.{ap, is_some, ◌∙◌}
use Rattle.std.specs.Str.{bytes_eq}
use Rattle.cfg_lines.specs.Keys.{is_among}
use Rattle.cfg_lines.proofs.KeyLaws.{placed}
use Rattle.cfg_lines.proofs.keys.Keys.has_by.Goals as goal

pub returns : goal.returns
returns c = c.is_some.ensures ∙ (ap is_some c.place_by.ensures ∙ (placed (bytes_eq c.args.key.now) c.self.inside.rows ∙ ap (λ ks. is_among ks c.args.key.now) c.self.view_is))
