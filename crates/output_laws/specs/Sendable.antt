-- What can be sent of what a bay answers, after every history of every configuration that a text spells.
use Rattle.std.specs.Prelude.{◌≡◌, ℕ, List, Ok}
use Rattle.sv_base.specs.declared.config.Config.{Config}
use Rattle.bay_model.specs.declared.answer.Answer.TheVariants as answers
use Rattle.bay_model.specs.declared.answer.Output.{Output}
use Rattle.bay_model.specs.Named.{configured_model}
use Rattle.bay_model.specs.Answers.{Turn, History, answer}
use Rattle.cfg_parser.specs.Looking.{config_at}
use Rattle.output_shapes.specs.Shapes.{CanBeSent}
use Rattle.output_laws.specs.Legal.{IsLegal}

-- whatever a Take gives after a legal history can be sent
abbrev pub OutputsCanBeSent : Type 0
OutputsCanBeSent = (text : List ℕ) (c : Config) → config_at text ≡ Ok c → (h : History) → IsLegal c h → (t : Turn) (o : Output) → answer (configured_model c) h t ≡ answers.Taken o → CanBeSent c o
