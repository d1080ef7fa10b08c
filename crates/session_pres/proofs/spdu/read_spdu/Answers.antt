-- why `spdu::read_spdu` answers as its contract says
use Rattle.ber_grammar.specs.Place.{piece}
use Rattle.session_pres.proofs.UnitLaws.{spdu_reads}
use Rattle.session_pres.specs.Plain.{told}
use Rattle.session_pres.specs.View.{seen}
use Rattle.session_pres.proofs.AnywhereLaws.{spdu_anywhere, gives_plain}
use Rattle.session_pres.proofs.spdu.read_spdu.Goals as goal

pub returns-clause-reads : goal.returns-clause-reads
returns-clause-reads c = spdu_reads _ _ (piece c.args.spdu) c.spdu_of.ensures

pub returns-clause-plain : goal.returns-clause-plain
returns-clause-plain c = gives_plain seen told _ _ _ (spdu_anywhere (piece c.args.spdu)) c.spdu_of.ensures
