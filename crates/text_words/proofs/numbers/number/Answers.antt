-- why `numbers::number` answers as its contract says
use Rattle.std.proofs.Common.{◌≡◌, ◌<◌, length, sym, arith}
use Rattle.std.proofs.lemmas.Bool.Decides.{nat_tests}
use Rattle.text_words.proofs.DigitLaws.{number_at-empty, number_at-leading_zero, number_at-told}
use Rattle.text_words.proofs.numbers.number.Goals as goal
use Rattle.text_words.proofs.numbers.number.Goals.{else-octets-gt1-via-then-octets-gt1+else-octets-eq48, else-octets-gt1-via-else-octets-gt1}

pub returns-then-is_empty : goal.returns-then-is_empty
returns-then-is_empty c = let none : length c.args.octets.now ≡ 0 = grind (arith, nat_tests) in sym (number_at-empty c.args.octets.now none)

pub returns-then-octets-eq48 : goal.returns-then-octets-eq48
returns-then-octets-eq48 c = sym (number_at-leading_zero c.args.octets.now c.if-octets-eq48.true c.if-octets-gt1.true)

pub returns : goal.returns
returns c =
    let octets = c.args.octets.now in
    let some : 0 < length octets = grind (arith, nat_tests) in
    elim c.else-octets-gt1.branch [
      | else-octets-gt1-via-then-octets-gt1+else-octets-eq48 w ↦ number_at-told octets c.digits_of.result some (λ zero. absurd (w.if-octets-eq48.false zero)) c.digits_of.ensures
      | else-octets-gt1-via-else-octets-gt1 w ↦ number_at-told octets c.digits_of.result some (λ zero. omega arith) c.digits_of.ensures
    ]
