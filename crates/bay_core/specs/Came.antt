-- What a request comes to in a bay (ISO 9506-2, the confirmed services; IEC 61850-8-1, LastApplError; IEC 61850-7-2, Operate and
-- CommandTermination): its reply with the errors before it, the controls that act, and the terminations of tests after the reply.
use Rattle.std.specs.Prelude.{◌≡◌, ℕ, List, [], ◌∷◌, map, flat_map}
use Rattle.std.specs.List.{filter_map}
use Rattle.sv_base.specs.declared.config.Config.{Config}
use Rattle.sv_base.specs.declared.numbers.CtlNo.{CtlNo}
use Rattle.bay_model.specs.declared.answer.Output.{Output}
use Rattle.bay_model.specs.declared.answer.Output.TheVariants as outputs
use Rattle.bay_model.specs.declared.reply.Reply.{Reply}
use Rattle.bay_model.specs.declared.request.Service.{Service}
use Rattle.bay_model.specs.Model.{Model}
use Rattle.bay_model.specs.Named.{configured_model}
use Rattle.bay_model.specs.Outcomes.{Outcome, deed_of, error_in}
use Rattle.bay_model.specs.Points.{Past, answered}
use Rattle.bay_model.specs.Services.{reply, singles_of, change_of}
use Rattle.bay_model.specs.Singles.{outcomes, after_singles, acts_in}
use Rattle.bay_model.specs.Sizes.{size_of}
use Rattle.bay_model.specs.Waiting.{tests, tests_of}
use Rattle.assoc_table.specs.Tables.{extended}
use Rattle.bay_queues.specs.Taken.{reply_and}
use Rattle.window_core.specs.Points.{at}
use Rattle.bay_core.specs.declared.asking.Came.{Came}
use Rattle.bay_core.specs.Commanded.{AreTestsOf}
use Rattle.bay_core.specs.Standing.{StandsAt}
use Rattle.bay_core.specs.State.{State}

-- what was made of a request, by what came of its single reads and writes
pub record IsOf (m : Model) (os : List Outcome) (r : Reply) (x : Came) : Type 0 where
  pub reply : x.reply ≡ r
  pub before : x.before.items ≡ filter_map error_in os
  pub acts : x.acts.items ≡ acts_in os
  pub tests : map (λ (k : CtlNo). k.0) x.tests.items ≡ flat_map (λ o. tests_of m (deed_of o)) os

-- the output was put for a, with the positive terminations of these tests after it
abbrev pub replied_with : State → ℕ → Output → List CtlNo → State
replied_with s a output ks = record s { rows = extended s.rows a (reply_and output ks) }

abbrev pub put_after : ℕ → ℕ → Came → State → State
put_after a invoke x s = replied_with s a (outputs.Reply x.before.items invoke x.reply) x.tests.items

-- A request of a at this moment, after all points that the old state stands for: this came of it. Once that is put, the new state stands for
-- its points, the last of which says what came of the data sets.
pub record IsCome (old new : State) (moment a : ℕ) (service : Service) (x : Came) : Type 0 where
  pub is : (c : Config) (n : ℕ) (past : Past) → StandsAt old c n past
      → IsOf (configured_model c) (outcomes (configured_model c) a n moment (singles_of (configured_model c) past service) past)
      (reply (configured_model c) past (size_of a past) service (outcomes (configured_model c) a n moment (singles_of (configured_model c) past service) past)) x
  pub due : AreTestsOf new a x.tests.items
  pub stands : (c : Config) (n : ℕ) (past : Past) (output : Output) → StandsAt old c n past → tests (configured_model c) n past ≡ []
      → StandsAt (replied_with new a output x.tests.items) c n (at n moment (answered a output (change_of (configured_model c) past service)) ∷ after_singles (configured_model c) a n moment (singles_of (configured_model c) past service) past)
