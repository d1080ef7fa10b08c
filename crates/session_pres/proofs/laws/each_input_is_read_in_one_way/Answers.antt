-- why `laws::each_input_is_read_in_one_way` answers as its contract says
use Rattle.session_pres.proofs.OneWayLaws.{spdu_one, dn_one, cp_one, cpa_one, ac_one, pdv_one}
use Rattle.session_pres.proofs.laws.each_input_is_read_in_one_way.Goals as goal

pub returns : goal.returns
returns c = record { spdu = spdu_one; disconnect = dn_one; cp = cp_one; cpa = cpa_one; ac = ac_one; user_data = pdv_one }
