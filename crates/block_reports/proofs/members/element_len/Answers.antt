-- why `members::element_len` answers as its contract says
use Rattle.std.proofs.Common.{◌≡◌, ◌++◌, ◌-◌, ℕ, List, length, ap, Some, arith, length-append}
use Rattle.ber_grammar.specs.declared.fault.BerFault.{BerFault}
use Rattle.list_laws.proofs.Options.{ok_is}
use Rattle.ber_grammar.specs.Element.{Element}
use Rattle.block_reports.proofs.members.element_len.Goals as goal

before : (input front rest after : List ℕ) → input ≡ front ++ rest → rest ≡ after → length input - length after ≡ length front
before input front rest after is same = omega (arith, ap length is, ap length same, length-append front rest)

pub returns-in-Ok-clause-exact : goal.returns-in-Ok-clause-exact
returns-in-Ok-clause-exact c = λ front rest e s is.
    let found = ok_is {F = BerFault} _ _ (c.in-Ok.ensures.reads.only (e, rest) (front, s, is)) in
    ap Some (before c.args.octets.now front rest c.in-Ok.rest.now is (ap (λ (x : Element × List ℕ). x.1) found))

pub returns-in-Err-clause-exact : goal.returns-in-Err-clause-exact
returns-in-Err-clause-exact c = λ front rest e s is.
    let found = c.in-Err.ensures.reads.only (e, rest) (front, s, is) in
    cc found
