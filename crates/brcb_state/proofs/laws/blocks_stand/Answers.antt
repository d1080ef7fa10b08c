-- why `laws::blocks_stand` answers as its contract says
use Rattle.std.proofs.Common.{refl}
use Rattle.brcb_state.proofs.WriteLaws.{stands-arrived, stands-deed, stands-written}
use Rattle.brcb_state.proofs.laws.blocks_stand.Goals as goal

pub returns-clause-opened : goal.returns-clause-opened
returns-clause-opened c = λ model b. record { reference = refl; options = refl; revision = refl; enabler = refl; owner = refl; reservation = refl; seconds = tt; cursor = refl; count = refl }

pub returns-clause-arrival : goal.returns-clause-arrival
returns-clause-arrival c = stands-arrived

pub returns-clause-point : goal.returns-clause-point
returns-clause-point c = λ model b p before s other st. stands-deed model b p.step p.moment p.deed before s other st

pub returns-clause-accepted : goal.returns-clause-accepted
returns-clause-accepted c = λ model a b comp v step moment before s st. stands-written model a b step moment before comp v s st
