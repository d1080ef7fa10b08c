-- why `closed::push_operations` answers as its contract says
use Rattle.std.proofs.Common.{◌≡◌, subst}
use Rattle.std.specs.Prelude.{OnOk}
use Rattle.cfg_nodes.proofs.NodeLaws.{direct_operations, enhanced_operations, plain_operations}
use Rattle.cfg_nodes.proofs.closed.push_operations.Goals as goal

pub returns-then-model-eq-SBO_NORMAL : goal.returns-then-model-eq-SBO_NORMAL
returns-then-model-eq-SBO_NORMAL c = subst (λ l. OnOk c.push_selection.result (c.push_selection.new.names.items ≡ l)) (direct_operations c.args.names.now.items c.push_operation.new.names.items c.args.front.now c.args.model c.in_ok-push_operation.ensures c.if-model-eq-SBO_NORMAL.true) c.push_selection.ensures

pub returns-then-model-eq-SBO_ENHANCED : goal.returns-then-model-eq-SBO_ENHANCED
returns-then-model-eq-SBO_ENHANCED c = subst (λ l. OnOk c.push_selection-then-model-eq-SBO_ENHANCED.result (c.push_selection-then-model-eq-SBO_ENHANCED.new.names.items ≡ l)) (enhanced_operations c.args.names.now.items c.push_operation.new.names.items c.args.front.now c.args.model c.in_ok-push_operation.ensures c.if-model-eq-SBO_ENHANCED.true) c.push_selection-then-model-eq-SBO_ENHANCED.ensures

pub returns : goal.returns
returns c = plain_operations c.args.names.now.items c.push_operation.new.names.items c.args.front.now c.args.model c.in_ok-push_operation.ensures c.if-model-eq-SBO_NORMAL.false c.if-model-eq-SBO_ENHANCED.false
