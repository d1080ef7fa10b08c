-- why `settling::settle` answers as its contract says
use Rattle.std.proofs.Common.{◌≡◌, false, refl, sym, ap, ◌∙◌}
use Rattle.std.specs.Prelude.{None, Some}
use Rattle.bay_histories.specs.Rules.{bay_rules}
use Rattle.race_records.specs.Merged.{book_seen}
use Rattle.race_records.specs.Verdicts.{lowest_full, lacks_memory}
use Rattle.race_settling.proofs.SettleLaws.{many, of-history, meets, all-answerable, goes}
use Rattle.race_settling.proofs.settling.settle.Goals as goal

pub returns-in-Some : goal.returns-in-Some
returns-in-Some c = λ p ss is race.
    let lean : lacks_memory c.args.raced.parts.items ≡ false = ap lacks_memory (sym c.deref.ensures.value) ∙ (sym c.lacks_memory.ensures ∙ c.if-lacks_memory.false) in
    let full : lowest_full (book_seen c.args.book.now) c.args.raced.parts.items ≡ Some c.in-Some.line = ap (lowest_full (book_seen c.args.book.now)) (sym c.deref-2.ensures.value) ∙ (sym c.lowest_full.ensures ∙ c.in-Some.is) in
    (refl, meets p c.args.model.now c.args.text.now (book_seen c.args.book.now) ss is c.args.raced race lean c.in-Some.line full)

pub record_of-requires : goal.record_of-requires
record_of-requires c =
    let p = c.requires.plan.0 in
    let ss = c.requires.plan.1 in
    let is = c.requires.plan.2 in
    let race = c.requires.plan.3 in
    let lean : lacks_memory c.args.raced.parts.items ≡ false = ap lacks_memory (sym c.deref.ensures.value) ∙ (sym c.lacks_memory.ensures ∙ c.if-lacks_memory.false) in
    let none : lowest_full (book_seen c.args.book.now) c.args.raced.parts.items ≡ None = ap (lowest_full (book_seen c.args.book.now)) (sym c.deref-2.ensures.value) ∙ (sym c.lowest_full.ensures ∙ c.in_default.is) in
    let made = c.in_ok-made.ensures bay_rules p.config race.0 (many p c.args.model.now c.args.text.now (book_seen c.args.book.now) ss is c.args.raced race) (of-history p c.args.model.now c.args.text.now (book_seen c.args.book.now) ss is c.args.raced race) in
    all-answerable p c.args.model.now c.args.text.now (book_seen c.args.book.now) ss is c.args.raced race lean c.deref-3.result.now none (c.deref-3.ensures.value ∙ made)

pub returns : goal.returns
returns c = λ p ss is race.
    let lean : lacks_memory c.args.raced.parts.items ≡ false = ap lacks_memory (sym c.deref.ensures.value) ∙ (sym c.lacks_memory.ensures ∙ c.if-lacks_memory.false) in
    let none : lowest_full (book_seen c.args.book.now) c.args.raced.parts.items ≡ None = ap (lowest_full (book_seen c.args.book.now)) (sym c.deref-2.ensures.value) ∙ (sym c.lowest_full.ensures ∙ c.in_default.is) in
    let made = c.in_ok-made.ensures bay_rules p.config race.0 (many p c.args.model.now c.args.text.now (book_seen c.args.book.now) ss is c.args.raced race) (of-history p c.args.model.now c.args.text.now (book_seen c.args.book.now) ss is c.args.raced race) in
    goes p c.args.model.now c.args.text.now (book_seen c.args.book.now) ss is c.args.raced race lean c.deref-3.result.now c.in_ok-out.out.items none (c.deref-3.ensures.value ∙ made) c.in_ok-out.ensures
