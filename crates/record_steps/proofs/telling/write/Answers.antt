-- why `telling::write` answers as its contract says
use Rattle.std.proofs.Common.{◌≡◌, true, rules, sym, ap, ◌∙◌}
use Rattle.std.specs.Option.{option_map}
use Rattle.sv_base.specs.declared.numbers.BlockNo.{BlockNo}
use Rattle.record_steps.specs.Forms.{is_direct, plain}
use Rattle.record_values.specs.Shapes.{shape_at}
use Rattle.record_steps.specs.Told.{turn}
use Rattle.record_steps.proofs.StepLaws.{write-told}
use Rattle.record_steps.proofs.ToldLaws.{written-valued}
use Rattle.record_steps.proofs.telling.write.Goals as goal

pub returns : goal.returns
returns c =
    let block = sym c.block.ensures ∙ ap (option_map (λ (b : BlockNo). b.0)) c.in-Some.is in
    let comp = sym c.of_name.ensures ∙ c.in-Some-of_name.is in
    let value : shape_at c.in-Some-of_name.comp c.args.value.now ≡ _ = sym c.in_ok-value.ensures ∙ c.in-Some-2.is in
    let opened : is_direct (plain c.args.form.now) ≡ true = search rules in
    ap (turn c.args.a.0) c.put.ensures
    ∙ (write-told c.args.model.now c.args.a c.requires c.args.block.now c.args.value.now c.in-Some.block c.in-Some-of_name.comp c.in-Some-2.value block value
    ∙ written-valued c.args.model.now (plain c.args.form.now) c.args.a _ c.in-Some.block.0 _ c.in-Some-of_name.comp c.args.value.now block comp opened c.in-Some-2.value value)
