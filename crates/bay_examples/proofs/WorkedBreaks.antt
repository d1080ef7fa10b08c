-- The worked histories of gathering, by computation.
use Rattle.std.proofs.Common.{refl}
use Rattle.bay_examples.specs.WorkedBreaks.{TwoMembersInOneWindow, TwoWindows, RepeatedMember, PurgeClosesEntry, InterrogationClosesEntry, IntegrityBeforeEffect, PeriodsBeginAnew}

pub two_members_in_one_window : TwoMembersInOneWindow
two_members_in_one_window = (refl, refl)

pub two_windows : TwoWindows
two_windows = (refl, refl)

pub repeated_member : RepeatedMember
repeated_member = (refl, refl)

pub purge_closes_entry : PurgeClosesEntry
purge_closes_entry = (refl, refl)

pub interrogation_closes_entry : InterrogationClosesEntry
interrogation_closes_entry = (refl, refl)

pub integrity_before_effect : IntegrityBeforeEffect
integrity_before_effect = (refl, refl)

pub periods_begin_anew : PeriodsBeginAnew
periods_begin_anew = (refl, refl)
