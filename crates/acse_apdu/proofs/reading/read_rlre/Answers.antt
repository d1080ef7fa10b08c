-- why `reading::read_rlre` answers as its contract says
use Rattle.ber_grammar.specs.Place.{piece}
use Rattle.acse_apdu.specs.declared.codes.TheConstants.{RLRE}
use Rattle.acse_apdu.proofs.ApduLaws.{release_reads}
use Rattle.acse_apdu.proofs.AnywhereLaws.{rlre-anywhere, release_given}
use Rattle.acse_apdu.proofs.reading.read_rlre.Goals as goal

pub returns-clause-reads : goal.returns-clause-reads
returns-clause-reads c = release_reads RLRE _ (piece c.args.bytes) c.release.ensures

pub returns-clause-exact : goal.returns-clause-exact
returns-clause-exact c = release_given _ _ _ (rlre-anywhere (piece c.args.bytes)) c.release.ensures
