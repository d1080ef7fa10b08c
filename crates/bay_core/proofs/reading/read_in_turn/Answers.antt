-- why `reading::read_in_turn` answers as its contract says
use Rattle.std.proofs.Common.{◌∙◌, map, ap, sym, arith}
use Rattle.std.specs.Option.{option_map}
use Rattle.std.proofs.lemmas.List.{length-map}
use Rattle.sv_base.specs.declared.numbers.CtlNo.{CtlNo}
use Rattle.bay_model.specs.Configured.{control_defined}
use Rattle.bay_queues.proofs.ControlLaws.{control-count}
use Rattle.bay_core.proofs.ReadLaws.{target-there}
use Rattle.bay_core.proofs.reading.read_in_turn.Goals as goal

pub select-requires : goal.select-requires
select-requires c =
    let lines = c.args.model.now.controls in
    let below = target-there c.args.model.now c.requires.grouped c.args.target.now c.in-Some.control.0 (sym c.selected_by.ensures ∙ ap (option_map (λ (k : CtlNo). k.0)) c.in-Some.is) in
    omega (arith, below, control-count c.args.queues.now.table (map control_defined lines) c.requires.controls, length-map lines control_defined)
