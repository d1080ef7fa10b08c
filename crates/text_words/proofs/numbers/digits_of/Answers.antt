-- why `numbers::digits_of` answers as its contract says
use Rattle.std.proofs.Common.{refl, arith, inl, inr}
use Rattle.text_words.proofs.DigitLaws.{reads-next, reads-other, reads-all}
use Rattle.text_words.proofs.numbers.digits_of.Goals as goal
use Rattle.text_words.proofs.numbers.digits_of.Goals.{then-octet-lt48-via-then-octet-lt48, then-octet-lt48-via-else-octet-lt48+then-octet-gt57}

pub returns-then-octet-lt48 : goal.returns-then-octet-lt48
returns-then-octet-lt48 c =
    let word = c.args.word.now in
    let i = c.loop-octet.octet-index in
    elim c.then-octet-lt48.branch [
      | then-octet-lt48-via-then-octet-lt48 w ↦ reads-other word c.loop-octet.n i _ (omega arith) refl (inl w.if-octet-lt48.true) c.loop-octet.invariant
      | then-octet-lt48-via-else-octet-lt48+then-octet-gt57 w ↦ reads-other word c.loop-octet.n i _ (omega arith) refl (inr (inl w.if-octet-gt57.true)) c.loop-octet.invariant
    ]

pub returns-in_err-checked_mul : goal.returns-in_err-checked_mul
returns-in_err-checked_mul c =
    rw c.from_residual.ensures (reads-other c.args.word.now c.loop-octet.n c.loop-octet.octet-index _ (omega arith) refl (inr (inr (omega (arith, c.in_err-checked_mul.ensures)))) c.loop-octet.invariant)

pub returns-in_err-n : goal.returns-in_err-n
returns-in_err-n c =
    rw c.from_residual-in_err-n.ensures (reads-other c.args.word.now c.loop-octet.n c.loop-octet.octet-index _ (omega arith) refl (inr (inr (omega (arith, c.in_err-n.ensures, c.in_ok-checked_mul.ensures.1)))) c.loop-octet.invariant)

pub loop-octet-preserved : goal.loop-octet-preserved
loop-octet-preserved c = reads-next c.args.word.now c.loop-octet.n c.loop-octet.octet-index _ _ (omega arith) refl (omega arith) (omega arith) (omega (arith, c.in_ok-n.ensures.0, c.in_ok-n.ensures.1)) (omega (arith, c.in_ok-n.ensures.1, c.in_ok-checked_mul.ensures.1)) c.loop-octet.invariant

pub returns : goal.returns
returns c = reads-all c.args.word.now c.loop-octet.n c.loop-octet.octet-index (omega arith) c.loop-octet.invariant
