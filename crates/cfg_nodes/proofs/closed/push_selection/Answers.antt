-- why `closed::push_selection` answers as its contract says
use Rattle.std.proofs.Common.{◌++◌, map, ap, ◌∙◌, append_assoc}
use Rattle.sv_base.specs.declared.ctl_services.CtlService.TheVariants as services
use Rattle.sv_base.specs.CtlServices.{service_name}
use Rattle.cfg_lines.specs.Paths.{below}
use Rattle.sv_base.specs.CallParts.{part_name}
use Rattle.cfg_lines.specs.Nodes.{with_parts, operation_parts}
use Rattle.cfg_nodes.proofs.closed.push_selection.Goals as goal

pub returns : goal.returns
returns c =
    let cancel = with_parts (below c.args.front.now (service_name services.Cancel)) (operation_parts (service_name services.Cancel)) in
    c.in_ok-push_operation-2.ensures ∙ (ap (λ l. l ++ cancel) c.in_ok-push_operation.ensures
    ∙ append_assoc c.args.names.now.items (with_parts (below c.args.front.now (service_name c.args.select)) (map part_name c.args.parts.now)) cancel)
