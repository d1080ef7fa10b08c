-- why `content::int` answers as its contract says
use Rattle.std.proofs.Common.{arith}
use Rattle.ber_grammar.proofs.IntLaws.{int_reads}
use Rattle.ber_view.proofs.content.int.Goals as goal

pub returns-clause-reads : goal.returns-clause-reads
returns-clause-reads c = int_reads _ _ c.args.content.now (λ i. omega (arith, c.type_inv.content i)) c.read_int.ensures
