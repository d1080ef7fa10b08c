-- why `spdu::read_dn` answers as its contract says
use Rattle.ber_grammar.specs.Place.{piece}
use Rattle.session_pres.specs.declared.codes.TheConstants.{DISCONNECT}
use Rattle.session_pres.proofs.UnitLaws.{user_reads}
use Rattle.std.specs.Option.{option_map}
use Rattle.session_pres.specs.Plain.{octets}
use Rattle.session_pres.proofs.AnywhereLaws.{dn_anywhere, gives_plain}
use Rattle.session_pres.proofs.spdu.read_dn.Goals as goal

pub returns-clause-reads : goal.returns-clause-reads
returns-clause-reads c = user_reads _ _ DISCONNECT (piece c.args.spdu) c.user_data_of.ensures

pub returns-clause-plain : goal.returns-clause-plain
returns-clause-plain c = gives_plain (λ user. option_map piece user) (option_map octets) _ _ _ (dn_anywhere (piece c.args.spdu)) c.user_data_of.ensures
