-- why `laws::associations_cross_threads` answers as its contract says
use Rattle.assoc_table.proofs.SendLaws.{associations_send}
use Rattle.assoc_table.proofs.laws.associations_cross_threads.Goals as goal

pub returns : goal.returns
returns c = associations_send
