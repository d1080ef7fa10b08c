-- why `writing::room_of` answers as its contract says
use Rattle.std.proofs.Common.{◌≡◌, ◌^◌, ◌∙◌, ap, arith}
use Rattle.tpkt_cotp.proofs.WrittenLaws.{exponent_bounds}
use Rattle.tpkt_cotp.proofs.writing.room_of.Goals as goal

pub overflow_sub-result : goal.overflow_sub-result
overflow_sub-result c =
    let b = exponent_bounds c.args.exponent c.requires in
    let is : c.pow.result ≡ 2 ^ c.args.exponent = c.pow.ensures ∙ ap (λ n. 2 ^ n) c.from.ensures in
    omega (arith, b.0, is)

pub returns-clause-least : goal.returns-clause-least
returns-clause-least c =
    let b = exponent_bounds c.args.exponent c.requires in
    let is : c.pow.result ≡ 2 ^ c.args.exponent = c.pow.ensures ∙ ap (λ n. 2 ^ n) c.from.ensures in
    omega (arith, b.0, is)
