-- why `leaves::push_selection` answers as its contract says
use Rattle.std.proofs.Common.{[], ◌∷◌, ◌∙◌}
use Rattle.sv_base.specs.declared.parameters.CtlParameter.TheVariants.{SboTimeout, SboClass}
use Rattle.sv_base.specs.Parameters.{parameter_name}
use Rattle.cfg_lines.specs.Nodes.{setting_leaf}
use Rattle.cfg_nodes.proofs.AskedLaws.{wanted-steps}
use Rattle.cfg_nodes.proofs.leaves.push_selection.Goals as goal

pub returns : goal.returns
returns c =
    let front = c.args.front.now in
    c.in_ok-push_setting-2.ensures
    ∙ wanted-steps c.args.asked.now c.args.leaves.now c.push_setting.new.leaves (setting_leaf front (parameter_name SboTimeout) ∷ []) (setting_leaf front (parameter_name SboClass) ∷ []) c.in_ok-push_setting.ensures
