-- why `block::ReportBlock::read` answers as its contract says
use Rattle.std.proofs.Common.{◌≡◌, ℕ, ◌∙◌, ap}
use Rattle.std.specs.Prelude.{max, ◌∷◌}
use Rattle.sv_base.specs.declared.value.Value.{Value}
use Rattle.bay_model.specs.Components.{read_component}
use Rattle.bay_model.specs.Model.{Model}
use Rattle.bay_model.specs.Points.{Past, now as moment_at}
use Rattle.bay_model.specs.Singles.{arrival}
use Rattle.brcb_state.specs.Components.{read_of}
use Rattle.report_block.specs.declared.reading.Newest.{Newest}
use Rattle.report_block.specs.Reading.{read_with, reading}
use Rattle.report_block.specs.Standing.{Stands}
use Rattle.report_block.proofs.ReadingLaws.{read-as}
use Rattle.report_block.proofs.block.ReportBlock.read.Goals as goal
use Rattle.list_laws.proofs.Options.{ok_map}

pub returns-clause-stands : goal.returns-clause-stands
returns-clause-stands c =
    let part = c.args.self.now in
    let foretold : Value = read_with c.foretold-newest.result c.args.comp c.args.now part in
    let is : foretold ≡ reading c.args.was c.args.now c.args.comp part = ap (λ (w : Newest). read_with w c.args.comp c.args.now part) c.foretold-newest.ensures in
    let told : c.front.result ≡ part.ring.front = c.front.ensures in
    ok_map c.read.result _ (λ v. (d : Model) (b n m : ℕ) (past : Past) → Stands part d b past → c.args.was ≡ moment_at past → c.args.now ≡ max m c.args.was → v ≡ read_component d b c.args.comp (arrival n m ∷ past))
    (λ v h. λ d b n m past s was now. h ∙ (ap (λ f. read_of c.args.comp (record { front = f; len = c.foretold-newest.result.count }) c.foretold-newest.result.moment c.args.now part.block) told
    ∙ (is ∙ read-as part c.args.comp c.args.was c.args.now c.ms-last.ensures.range.1 d b n m past s was now))) c.read.ensures
