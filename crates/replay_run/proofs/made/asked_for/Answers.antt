-- why `made::asked_for` answers as its contract says
use Rattle.std.proofs.Common.{arith, sym, ◌∙◌, ap}
use Rattle.std.specs.String.{string_bytes}
use Rattle.text_words.specs.Numbers.{number_at, number_within}
use Rattle.replay_run.proofs.Asking.{octets_of, another_word, no_seed, no_count, asks, asks_once}
use Rattle.replay_run.proofs.made.asked_for.Goals as goal

pub returns-then-ne-clause-each : goal.returns-then-ne-clause-each
returns-then-ne-clause-each c = λ seed count a. absurd (another_word c.args.wanted.now c.args.words.now (string_bytes c.word-item.result) (string_bytes c.seed-item.result) (string_bytes c.count-item.result) c.as_str.result.now seed count
    (octets_of c.args.words.now c.word-item.result c.seed-item.result c.count-item.result (omega (arith, c.in-len3.len_at_least)) (omega (arith, c.in-len3.len_below)) c.word-item.is c.seed-item.is c.count-item.is) c.as_str.ensures.value (sym c.ne.ensures ∙ c.if-ne.true) a)

pub returns-in_err-seed-clause-each : goal.returns-in_err-seed-clause-each
returns-in_err-seed-clause-each c = λ seed count a. absurd (no_seed c.args.wanted.now c.args.words.now (string_bytes c.word-item.result) (string_bytes c.seed-item.result) (string_bytes c.count-item.result) seed count
    (octets_of c.args.words.now c.word-item.result c.seed-item.result c.count-item.result (omega (arith, c.in-len3.len_at_least)) (omega (arith, c.in-len3.len_below)) c.word-item.is c.seed-item.is c.count-item.is) (ap number_at (sym c.as_bytes.ensures.value) ∙ (sym c.number.ensures ∙ c.in_err-seed.was)) a)

pub returns-in_err-count-clause-each : goal.returns-in_err-count-clause-each
returns-in_err-count-clause-each c = λ seed count a. absurd (no_count c.args.wanted.now c.args.words.now (string_bytes c.word-item.result) (string_bytes c.seed-item.result) (string_bytes c.count-item.result) seed count
    (octets_of c.args.words.now c.word-item.result c.seed-item.result c.count-item.result (omega (arith, c.in-len3.len_at_least)) (omega (arith, c.in-len3.len_below)) c.word-item.is c.seed-item.is c.count-item.is) (ap (number_within 1 100000) (sym c.as_bytes-2.ensures.value) ∙ (sym c.number_between.ensures ∙ c.in_err-count.was)) a)

pub returns-clause-some : goal.returns-clause-some
returns-clause-some c = asks c.args.wanted.now c.args.words.now (string_bytes c.word-item.result) (string_bytes c.seed-item.result) (string_bytes c.count-item.result) c.as_str.result.now c.in_ok-seed.seed c.in_ok-count.count
    (octets_of c.args.words.now c.word-item.result c.seed-item.result c.count-item.result (omega (arith, c.in-len3.len_at_least)) (omega (arith, c.in-len3.len_below)) c.word-item.is c.seed-item.is c.count-item.is) c.as_str.ensures.value (sym c.ne.ensures ∙ c.if-ne.false)
    (ap number_at (sym c.as_bytes.ensures.value) ∙ (sym c.number.ensures ∙ c.in_ok-seed.was)) (ap (number_within 1 100000) (sym c.as_bytes-2.ensures.value) ∙ (sym c.number_between.ensures ∙ c.in_ok-count.was))

pub returns-clause-each : goal.returns-clause-each
returns-clause-each c = λ seed count a. asks_once c.args.wanted.now c.args.words.now (string_bytes c.word-item.result) (string_bytes c.seed-item.result) (string_bytes c.count-item.result) seed count c.in_ok-seed.seed c.in_ok-count.count
    (octets_of c.args.words.now c.word-item.result c.seed-item.result c.count-item.result (omega (arith, c.in-len3.len_at_least)) (omega (arith, c.in-len3.len_below)) c.word-item.is c.seed-item.is c.count-item.is)
    (ap number_at (sym c.as_bytes.ensures.value) ∙ (sym c.number.ensures ∙ c.in_ok-seed.was)) (ap (number_within 1 100000) (sym c.as_bytes-2.ensures.value) ∙ (sym c.number_between.ensures ∙ c.in_ok-count.was)) a
