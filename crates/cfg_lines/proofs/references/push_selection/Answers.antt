-- why `references::push_selection` answers as its contract says
use Rattle.std.proofs.Common.{◌++◌, ◌∷◌, [], map, ap, ◌∙◌, append_assoc}
use Rattle.sv_base.specs.declared.parameters.CtlParameter.TheVariants.{SboTimeout, SboClass}
use Rattle.sv_base.specs.Parameters.{parameter_name}
use Rattle.cfg_lines.specs.Keys.{octets_of}
use Rattle.cfg_lines.specs.Paths.{below}
use Rattle.cfg_lines.proofs.references.push_selection.Goals as goal

pub returns : goal.returns
returns c = c.in_ok-push_parameter-2.ensures ∙ (ap (λ keys. keys ++ below c.args.front.now (parameter_name SboClass) ∷ []) c.in_ok-push_parameter.ensures
    ∙ append_assoc (map octets_of c.args.keys.now.items) (below c.args.front.now (parameter_name SboTimeout) ∷ []) (below c.args.front.now (parameter_name SboClass) ∷ []))
