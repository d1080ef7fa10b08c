-- why `values::listed` answers as its contract says
use Rattle.std.proofs.Common.{sym, ap, ◌∙◌}
use Rattle.std.specs.Prelude.{Some}
use Rattle.std.proofs.lemmas.List.{take_all}
use Rattle.text_words.specs.Words.{texts}
use Rattle.text_words.specs.Values.{values_at}
use Rattle.text_words.proofs.ValueLaws.{values-more, values-none}
use Rattle.text_words.proofs.values.listed.Goals as goal

pub loop-word-preserved : goal.loop-word-preserved
loop-word-preserved c =
    values-more c.args.kind.now c.args.words.now c.loop-word.word-index _ c.loop-word.values.items c.in-Some.value c.loop-word-test.true c.loop-word.invariant (sym c.in_ok-value.ensures ∙ c.in-Some.is)
    ∙ ap (λ vs. Some vs) (sym c.in_ok-push-in-Some.ensures.items)

pub returns-in-None : goal.returns-in-None
returns-in-None c = sym (values-none c.args.kind.now c.args.words.now c.loop-word.word-index _ c.loop-word-test.true (sym c.in_ok-value.ensures ∙ c.in-None.is))

pub returns : goal.returns
returns c = sym c.loop-word.invariant ∙ ap (λ ws. values_at c.args.kind.now (texts ws)) (take_all c.loop-word.word-index c.args.words.now c.loop-word-test.false)
