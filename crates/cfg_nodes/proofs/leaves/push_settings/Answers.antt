-- why `leaves::push_settings` answers as its contract says
use Rattle.std.proofs.Common.{◌≡◌, subst}
use Rattle.std.specs.Prelude.{OnOk}
use Rattle.cfg_nodes.proofs.AskedLaws.{direct_settings, enhanced_settings, plain_settings}
use Rattle.cfg_nodes.proofs.leaves.push_settings.Goals as goal

pub returns-then-model-eq-SBO_NORMAL : goal.returns-then-model-eq-SBO_NORMAL
returns-then-model-eq-SBO_NORMAL c = subst (λ l. OnOk c.push_selection.result (c.push_selection.new.leaves ≡ l))
    (direct_settings c.args.asked.now c.args.leaves.now c.push_setting.new.leaves c.args.front.now c.args.model c.in_ok-push_setting.ensures c.if-model-eq-SBO_NORMAL.true) c.push_selection.ensures

pub returns-then-model-eq-SBO_ENHANCED : goal.returns-then-model-eq-SBO_ENHANCED
returns-then-model-eq-SBO_ENHANCED c = subst (λ l. OnOk c.push_selection-then-model-eq-SBO_ENHANCED.result (c.push_selection-then-model-eq-SBO_ENHANCED.new.leaves ≡ l))
    (enhanced_settings c.args.asked.now c.args.leaves.now c.push_setting.new.leaves c.args.front.now c.args.model c.in_ok-push_setting.ensures c.if-model-eq-SBO_ENHANCED.true) c.push_selection-then-model-eq-SBO_ENHANCED.ensures

pub returns : goal.returns
returns c = plain_settings c.args.asked.now c.args.leaves.now c.push_setting.new.leaves c.args.front.now c.args.model c.in_ok-push_setting.ensures c.if-model-eq-SBO_NORMAL.false c.if-model-eq-SBO_ENHANCED.false
