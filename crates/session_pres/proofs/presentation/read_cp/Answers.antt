-- why `presentation::read_cp` answers as its contract says
use Rattle.ber_grammar.specs.Place.{piece}
use Rattle.session_pres.proofs.PresentationLaws.{cp_reads}
use Rattle.session_pres.specs.Plain.{asked}
use Rattle.session_pres.specs.View.{request_of}
use Rattle.session_pres.proofs.AnywhereLaws.{cp_anywhere, gives_plain}
use Rattle.session_pres.proofs.presentation.read_cp.Goals as goal

pub returns-clause-reads : goal.returns-clause-reads
returns-clause-reads c = cp_reads _ _ (piece c.args.ppdu) c.cp_of.ensures

pub returns-clause-plain : goal.returns-clause-plain
returns-clause-plain c = gives_plain request_of asked _ _ _ (cp_anywhere (piece c.args.ppdu)) c.cp_of.ensures
