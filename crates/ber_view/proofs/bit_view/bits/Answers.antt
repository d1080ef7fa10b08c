-- why `bit_view::bits` answers as its contract says
use Rattle.ber_grammar.proofs.BitLaws.{bits_reads}
use Rattle.ber_view.proofs.bit_view.bits.Goals as goal

pub returns-clause-reads : goal.returns-clause-reads
returns-clause-reads c = bits_reads _ _ c.args.content.now c.read_bits.ensures
