-- why `reading::read_aare` answers as its contract says
use Rattle.std.proofs.Common.{arith}
use Rattle.ber_grammar.specs.Place.{piece}
use Rattle.acse_apdu.proofs.ApduLaws.{aare_reads}
use Rattle.acse_apdu.proofs.AnywhereLaws.{aare-anywhere, pdu_given}
use Rattle.acse_apdu.proofs.reading.read_aare.Goals as goal

pub returns-clause-reads : goal.returns-clause-reads
returns-clause-reads c = aare_reads _ _ (piece c.args.bytes) (λ i. omega (arith, c.type_inv.bytes i)) c.aare.ensures

pub returns-clause-exact : goal.returns-clause-exact
returns-clause-exact c = pdu_given piece _ _ _ (aare-anywhere (piece c.args.bytes)) c.aare.ensures
