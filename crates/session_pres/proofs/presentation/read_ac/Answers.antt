-- why `presentation::read_ac` answers as its contract says
use Rattle.ber_grammar.specs.Place.{piece}
use Rattle.session_pres.proofs.PresentationLaws.{ac_reads}
use Rattle.session_pres.specs.Plain.{octets}
use Rattle.session_pres.proofs.AnywhereLaws.{ac_anywhere, gives_plain}
use Rattle.session_pres.proofs.presentation.read_ac.Goals as goal

pub returns-clause-reads : goal.returns-clause-reads
returns-clause-reads c = ac_reads _ _ (piece c.args.spdu) c.ac_of.ensures

pub returns-clause-plain : goal.returns-clause-plain
returns-clause-plain c = gives_plain piece octets _ _ _ (ac_anywhere (piece c.args.spdu)) c.ac_of.ensures
