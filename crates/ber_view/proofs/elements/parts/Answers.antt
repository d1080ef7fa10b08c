-- why `elements::parts` answers as its contract says
use Rattle.ber_grammar.proofs.PartsLaws.{parts_reads}
use Rattle.ber_view.proofs.elements.parts.Goals as goal

pub returns-clause-reads : goal.returns-clause-reads
returns-clause-reads c = parts_reads _ _ c.args.content.now c.read_parts.ensures.exact
