-- why `members::front_with` answers as its contract says
use Rattle.std.proofs.Common.{◌≡◌, ◌∙◌, ◌+◌, ◌*◌, length, Some, ap, arith}
use Rattle.block_reports.specs.Again.{reasons_in}
use Rattle.block_reports.proofs.AgainLaws.{reasons_back, member_back}
use Rattle.block_reports.proofs.members.front_with.Goals as goal
use Rattle.list_laws.proofs.Options.{some_is}

pub returns-in-Some-clause-exact : goal.returns-in-Some-clause-exact
returns-in-Some-clause-exact c = λ k rest one high low weights is.
    let count = some_is c.in-Some.len (length k.octets) (c.in-Some.ensures.exact k.octets rest one.0 one.1 is) in
    let number : c.from.result * 256 + c.from-in-Some.result ≡ k.number = omega (arith, high, low, c.from.ensures, c.from-in-Some.ensures) in
    let reasons = c.reasons_of.ensures ∙ (ap reasons_in weights ∙ reasons_back k.reasons) in
    ap Some (member_back k c.args.octets.now c.split_at.result.0.now c.split_at.result.1.now rest c.in-Some.len (c.from.result * 256 + c.from-in-Some.result) c.reasons_of.result count number reasons is c.split_at.ensures.front c.split_at.ensures.back)

pub returns-in-None-clause-exact : goal.returns-in-None-clause-exact
returns-in-None-clause-exact c = λ k rest one high low weights is. cc (c.in-None.ensures.exact k.octets rest one.0 one.1 is)
