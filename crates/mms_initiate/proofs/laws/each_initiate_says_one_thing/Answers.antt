-- why `laws::each_initiate_says_one_thing` answers as its contract says
use Rattle.mms_initiate.proofs.InitiateLaws.{initiate_answered, initiate_unique, initiate_one_cause, initiate_not_both}
use Rattle.mms_initiate.proofs.laws.each_initiate_says_one_thing.Goals as goal

pub returns : goal.returns
returns c = record { answered = initiate_answered; unique = initiate_unique; one_cause = initiate_one_cause; not_both = initiate_not_both }
