-- why `laws::releases_are_read_back` answers as its contract says
use Rattle.std.proofs.Common.{rules}
use Rattle.acse_apdu.specs.declared.codes.TheConstants.{RLRQ, RLRE}
use Rattle.acse_apdu.proofs.ReadBackLaws.{release_written, rlrq_read_back, rlre_read_back}
use Rattle.acse_apdu.proofs.laws.releases_are_read_back.Goals as goal

pub returns : goal.returns
returns c = record { rlrq = rlrq_read_back; rlre = rlre_read_back; rlrq_spelled = λ input e. release_written RLRQ input (search rules) e; rlre_spelled = λ input e. release_written RLRE input (search rules) e }
