-- why `laws::nodes_are_plain` answers as its contract says
use Rattle.bay_replies.proofs.GivenLaws.{plain-at}
use Rattle.bay_replies.proofs.laws.nodes_are_plain.Goals as goal

pub returns : goal.returns
returns c = λ d n grouped. plain-at d grouped n
