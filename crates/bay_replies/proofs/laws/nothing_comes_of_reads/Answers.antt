-- why `laws::nothing_comes_of_reads` answers as its contract says
use Rattle.bay_replies.proofs.QuietLaws.{reads-come-to-nothing, points-are-arrivals}
use Rattle.bay_replies.proofs.laws.nothing_comes_of_reads.Goals as goal

pub returns-clause-deeds : goal.returns-clause-deeds
returns-clause-deeds c = λ d a n m past s allowed reading. reads-come-to-nothing d a n m past s allowed reading

pub returns-clause-points : goal.returns-clause-points
returns-clause-points c = λ d a n m past s allowed reading. points-are-arrivals d a n m past s allowed reading
