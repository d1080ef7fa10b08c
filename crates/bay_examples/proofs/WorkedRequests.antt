-- The worked histories of requests, by computation.
use Rattle.std.proofs.Common.{refl}
use Rattle.bay_examples.specs.WorkedRequests.{RepliesInOrder, EnabledByRequest, DefinedSet, NamesAndDeletions, NamesOfSize, WaitingRepliesFull, TerminationsNotCounted, RefusedSteps}

pub replies_in_order : RepliesInOrder
replies_in_order = (refl, refl)

pub enabled_by_request : EnabledByRequest
enabled_by_request = (refl, refl)

pub defined_set : DefinedSet
defined_set = (refl, refl)

pub names_and_deletions : NamesAndDeletions
names_and_deletions = (refl, refl)

pub names_of_size : NamesOfSize
names_of_size = (refl, refl, refl)

pub waiting_replies_full : WaitingRepliesFull
waiting_replies_full = (refl, refl)

pub terminations_not_counted : TerminationsNotCounted
terminations_not_counted = refl

pub refused_steps : RefusedSteps
refused_steps = (refl, refl, refl, refl, refl, refl, (refl, refl))
