-- why `pdv::read_data` answers as its contract says
use Rattle.ber_grammar.specs.Place.{piece}
use Rattle.session_pres.proofs.UserDataLaws.{data_reads}
use Rattle.session_pres.specs.Plain.{pdv_octets}
use Rattle.session_pres.specs.View.{pdv}
use Rattle.session_pres.proofs.AnywhereLaws.{pdv_anywhere, gives_plain}
use Rattle.session_pres.proofs.pdv.read_data.Goals as goal

pub returns-clause-reads : goal.returns-clause-reads
returns-clause-reads c = data_reads _ _ (piece c.args.octets) c.data_of.ensures

pub returns-clause-plain : goal.returns-clause-plain
returns-clause-plain c = gives_plain pdv pdv_octets _ _ _ (pdv_anywhere (piece c.args.octets)) c.data_of.ensures
