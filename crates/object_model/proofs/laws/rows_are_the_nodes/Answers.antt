-- why `laws::rows_are_the_nodes` answers as its contract says
use Rattle.object_model.proofs.TableLaws.{count-rows, rows-are-nodes}
use Rattle.object_model.proofs.laws.rows_are_the_nodes.Goals as goal

pub returns-clause-count : goal.returns-clause-count
returns-clause-count c = count-rows

pub returns-clause-rows : goal.returns-clause-rows
returns-clause-rows c = rows-are-nodes
