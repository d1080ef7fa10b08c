-- why `part_names::insert` answers as its contract says
use Rattle.std.proofs.Common.{◌∙◌, ap}
use Rattle.text_words.specs.Words.{texts}
use Rattle.cfg_nodes.proofs.PartNameLaws.{texts-inserted}
use Rattle.cfg_nodes.proofs.part_names.insert.Goals as goal

pub returns : goal.returns
returns c = ap texts c.in_ok-insert.ensures.keys ∙ texts-inserted c.args.names.now.keys c.args.name
