-- why `reading::read_aarq` answers as its contract says
use Rattle.std.proofs.Common.{arith}
use Rattle.ber_grammar.specs.Place.{piece}
use Rattle.acse_apdu.proofs.ApduLaws.{aarq_reads}
use Rattle.acse_apdu.proofs.AnywhereLaws.{aarq-anywhere, pdu_given}
use Rattle.acse_apdu.proofs.reading.read_aarq.Goals as goal

pub returns-clause-reads : goal.returns-clause-reads
returns-clause-reads c = aarq_reads _ _ (piece c.args.bytes) (λ i. omega (arith, c.type_inv.bytes i)) c.aarq.ensures

pub returns-clause-exact : goal.returns-clause-exact
returns-clause-exact c = pdu_given piece _ _ _ (aarq-anywhere (piece c.args.bytes)) c.aarq.ensures
