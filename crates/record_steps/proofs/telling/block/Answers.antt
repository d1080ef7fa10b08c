-- why `telling::block` answers as its contract says
use Rattle.std.proofs.Common.{sym, ap, ◌∙◌}
use Rattle.std.specs.Option.{option_map}
use Rattle.sv_base.specs.declared.numbers.CtlNo.{CtlNo}
use Rattle.record_steps.specs.Told.{turn}
use Rattle.record_steps.proofs.StepLaws.{block-told}
use Rattle.record_steps.proofs.telling.block.Goals as goal

pub returns : goal.returns
returns c =
    let there = sym c.control.ensures ∙ ap (option_map (λ (k : CtlNo). k.0)) c.in-Some.is in
    ap (turn 0) c.put.ensures ∙ block-told c.args.model.now c.args.control.now c.in-Some.control there c.args.on
