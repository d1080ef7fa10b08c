-- why `laws::an_apdu_is_read_in_one_way` answers as its contract says
use Rattle.acse_apdu.proofs.ApduLaws as laws
use Rattle.acse_apdu.proofs.laws.an_apdu_is_read_in_one_way.Goals as goal

pub returns : goal.returns
returns c = record { aarq = laws.one_aarq; aare = laws.one_aare; aarq_cause = laws.one_aarq_cause; aare_cause = laws.one_aare_cause; aarq_not_both = laws.aarq_not_both; aare_not_both = laws.aare_not_both }
