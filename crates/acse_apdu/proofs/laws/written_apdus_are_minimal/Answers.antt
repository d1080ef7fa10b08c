-- why `laws::written_apdus_are_minimal` answers as its contract says
use Rattle.acse_apdu.proofs.ReadBackLaws.{aarq_plain, aare_plain, rlrq_plain, rlre_plain}
use Rattle.acse_apdu.proofs.ShortestLaws.{aarq_shortest, aare_shortest, release_shortest}
use Rattle.acse_apdu.proofs.laws.written_apdus_are_minimal.Goals as goal

pub returns : goal.returns
returns c = record { aarq = aarq_plain; aare = aare_plain; rlrq = rlrq_plain; rlre = rlre_plain; shortest_aarq = aarq_shortest; shortest_aare = aare_shortest; shortest_release = release_shortest }
