-- why `laws::associations_are_read_as_spelled` answers as its contract says
use Rattle.acse_apdu.proofs.ApduLaws.{aarq_exact, aare_exact}
use Rattle.acse_apdu.proofs.AnywhereLaws.{aarq-anywhere, aare-anywhere}
use Rattle.acse_apdu.proofs.laws.associations_are_read_as_spelled.Goals as goal

pub returns : goal.returns
returns c = record { aarq = aarq_exact; aare = aare_exact; aarq_anywhere = aarq-anywhere; aare_anywhere = aare-anywhere }
