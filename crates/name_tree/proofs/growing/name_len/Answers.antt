-- why `growing::name_len` answers as its contract says
use Rattle.std.proofs.Common.{sym, arith, length, ◌==◌}
use Rattle.std.proofs.lemmas.Bool.Decides.{nat_tests}
use Rattle.std.proofs.lemmas.List.Sums.{position_or_len_is}
use Rattle.name_tree.proofs.growing.name_len.Goals as goal

pub returns-then-octet-eq36-clause-value : goal.returns-then-octet-eq36-clause-value
returns-then-octet-eq36-clause-value c = sym (position_or_len_is (λ o. o == 36) c.args.rest.now c.loop-i.i 0 (omega arith) c.loop-i.invariant (λ h. grind (arith, nat_tests)))

pub returns-clause-value : goal.returns-clause-value
returns-clause-value c = sym (position_or_len_is (λ o. o == 36) c.args.rest.now (length c.args.rest.now) 0 (omega arith) (λ k h. c.loop-i.invariant k (omega arith)) (λ h. absurd (omega arith)))
