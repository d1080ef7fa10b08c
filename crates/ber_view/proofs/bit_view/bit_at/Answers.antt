-- why `bit_view::bit_at` answers as its contract says
use Rattle.std.proofs.Common.{Bool, Some, refl, sym, ap, ◌∙◌}
use Rattle.ber_view.proofs.BitLaws.{bit_there, no_bit, not_below}
use Rattle.ber_view.proofs.bit_view.bit_at.Goals as goal

pub returns-then-has_bit : goal.returns-then-has_bit
returns-then-has_bit c = ap (λ (b : Bool). Some b) c.bit_of.ensures ∙ sym (bit_there c.args.unused c.args.octets.now c.args.index (c.if-has_bit.ensures.0 refl))

pub returns-else-has_bit : goal.returns-else-has_bit
returns-else-has_bit c = sym (no_bit c.args.unused c.args.octets.now c.args.index (not_below _ _ c.if-has_bit.ensures.1))
