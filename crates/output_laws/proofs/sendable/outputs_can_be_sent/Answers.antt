-- why `sendable::outputs_can_be_sent` answers as its contract says
use Rattle.std.proofs.Common.{◌≡◌, ℕ, List}
use Rattle.std.specs.Prelude.{Ok}
use Rattle.sv_base.specs.declared.config.Config.{Config}
use Rattle.bay_model.specs.declared.answer.Answer.TheVariants as answers
use Rattle.bay_model.specs.declared.answer.Output.{Output}
use Rattle.bay_model.specs.declared.answer.Output.TheVariants as outputs
use Rattle.bay_model.specs.Answers.{Turn, History, answer}
use Rattle.bay_model.specs.Named.{configured_model}
use Rattle.cfg_parser.specs.Looking.{config_at}
use Rattle.cfg_text.proofs.WholeLaws.{config-told}
use Rattle.text_configs.proofs.ServableLaws.{texts-are-served}
use Rattle.output_shapes.specs.Shapes.{CanBeSent}
use Rattle.output_laws.specs.Legal.{IsLegal}
use Rattle.output_laws.proofs.DepthLaws.{text-flat}
use Rattle.output_laws.proofs.FilledLaws.{text-some}
use Rattle.output_laws.proofs.NameLaws.{names-short}
use Rattle.output_laws.proofs.ReplyLaws as reply
use Rattle.output_laws.proofs.ReportLaws as report
use Rattle.output_laws.proofs.TerminationLaws as termination
use Rattle.output_laws.proofs.sendable.outputs_can_be_sent.Goals as goal

sent : (text : List ℕ) (c : Config) → config_at text ≡ Ok c → (h : History) → IsLegal c h → (t : Turn) (o : Output) → answer (configured_model c) h t ≡ answers.Taken o → CanBeSent c o
sent text c is h legal t (outputs.Reply before invoke r) given =
    let told = config-told text c is in
    let served = texts-are-served text c told in
    reply.step-sent c served (names-short text c told served) (text-flat text c told) h legal before invoke r t t.step given
sent text c is h legal t (outputs.Report r) given =
    let told = config-told text c is in
    let served = texts-are-served text c told in
    report.told-so c served (names-short text c told served) (text-flat text c told) (text-some text c told) h legal r t given
sent text c is h legal t (outputs.Termination e) given =
    let told = config-told text c is in
    let served = texts-are-served text c told in
    termination.step-sent c served (names-short text c told served) h legal e t t.step given

pub returns : goal.returns
returns e = sent
