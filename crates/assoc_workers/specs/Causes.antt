-- Why the sides of an association end.
use Rattle.std.specs.Prelude.{◌≡◌, ℕ, ◌∷◌}
use Rattle.sv_base.specs.declared.numbers.AssocNo.{AssocNo}
use Rattle.bay_model.specs.declared.step.Step.TheVariants as steps
use Rattle.bay_model.specs.declared.answer.Answer.TheVariants as answers
use Rattle.bay_model.specs.Answers.{History}
use Rattle.bay_histories.specs.Rules.{Rules}
use Rattle.bay_histories.specs.Histories.{turn_of}
use Rattle.history_lock.specs.Passes.{Known}

-- the last step that the pass has seen is its own take, which is answered Closed
abbrev pub IsClosed : Rules → AssocNo → Known → Type 0
IsClosed rules a q = (moment : ℕ) × (before : History) × (let t = turn_of moment q.first (steps.Take a) in
    (q.seen ≡ t ∷ before) × (rules.answer q.config before t ≡ answers.Closed))
