-- The worked histories of resuming, by computation.
use Rattle.std.proofs.Common.{refl}
use Rattle.bay_examples.specs.WorkedResumes.{ResumeAtNewest, ResumeBelowFront, RefusedEntryIDs, LossAndResume, EnabledTwice}

pub resume_at_newest : ResumeAtNewest
resume_at_newest = (refl, refl)

pub resume_below_front : ResumeBelowFront
resume_below_front = (refl, refl)

pub refused_entry_ids : RefusedEntryIDs
refused_entry_ids = (refl, refl)

pub loss_and_resume : LossAndResume
loss_and_resume = (refl, refl)

pub enabled_twice : EnabledTwice
enabled_twice = (refl, refl)
