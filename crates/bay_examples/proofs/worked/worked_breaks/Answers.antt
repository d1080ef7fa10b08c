-- why `worked::worked_breaks` answers as its contract says
use Rattle.bay_examples.proofs.WorkedBreaks.{two_members_in_one_window, two_windows, repeated_member, purge_closes_entry, interrogation_closes_entry, integrity_before_effect, periods_begin_anew}
use Rattle.bay_examples.proofs.worked.worked_breaks.Goals as goal

pub returns-clause-two_members_in_one_window : goal.returns-clause-two_members_in_one_window
returns-clause-two_members_in_one_window c = two_members_in_one_window

pub returns-clause-two_windows : goal.returns-clause-two_windows
returns-clause-two_windows c = two_windows

pub returns-clause-repeated_member : goal.returns-clause-repeated_member
returns-clause-repeated_member c = repeated_member

pub returns-clause-purge_closes_entry : goal.returns-clause-purge_closes_entry
returns-clause-purge_closes_entry c = purge_closes_entry

pub returns-clause-interrogation_closes_entry : goal.returns-clause-interrogation_closes_entry
returns-clause-interrogation_closes_entry c = interrogation_closes_entry

pub returns-clause-integrity_before_effect : goal.returns-clause-integrity_before_effect
returns-clause-integrity_before_effect c = integrity_before_effect

pub returns-clause-periods_begin_anew : goal.returns-clause-periods_begin_anew
returns-clause-periods_begin_anew c = periods_begin_anew
