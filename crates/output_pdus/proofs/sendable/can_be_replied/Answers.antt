-- why `sendable::can_be_replied` answers as its contract says
use Rattle.output_pdus.proofs.SendableLaws.{results-test, node-test, nodes-test}
use Rattle.output_pdus.proofs.sendable.can_be_replied.Goals as goal

pub returns-in-TypeOfNode : goal.returns-in-TypeOfNode
returns-in-TypeOfNode c = node-test c.args.model.now c.args.reply.now c.in-TypeOfNode.node c.len.result c.nodes.result.now c.in-TypeOfNode.is c.len.ensures c.nodes.ensures

pub returns-in-Read : goal.returns-in-Read
returns-in-Read c = results-test c.args.model.now c.args.reply.now c.in-Read.asked c.in-Read.results c.as_slice.result.now c.are_results_writable.result c.in-Read.is c.as_slice.ensures c.are_results_writable.ensures

pub returns-in-SetOf : goal.returns-in-SetOf
returns-in-SetOf c = nodes-test c.args.model.now c.args.reply.now c.in-SetOf.deletable c.in-SetOf.members c.as_slice-in-SetOf.result.now c.len-in-SetOf.result c.nodes-in-SetOf.result.now c.are_nodes.result c.in-SetOf.is c.as_slice-in-SetOf.ensures
    c.len-in-SetOf.ensures c.nodes-in-SetOf.ensures c.are_nodes.ensures
