-- why `parts::Parts::has` answers as its contract says
use Rattle.std.proofs.Common.{is_some, ap, ◌∙◌}
use Rattle.std.specs.Str.{bytes_eq}
use Rattle.cfg_lines.proofs.KeyLaws.{placed}
use Rattle.cfg_nodes.proofs.parts.Parts.has.Goals as goal

pub returns : goal.returns
returns c = c.is_some.ensures ∙ (ap is_some c.place_of.ensures ∙ placed (bytes_eq c.args.node.now) c.args.self.now.structures)
