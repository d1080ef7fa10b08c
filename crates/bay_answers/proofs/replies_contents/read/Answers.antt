-- why `replies_contents::read` answers as its contract says
use Rattle.std.proofs.Common.{◌≡◌, ℕ, ◌+◌, List, ◌++◌, length, Some, sym, ap, ◌∙◌, arith}
use Rattle.std.specs.Option.{option_map}
use Rattle.ber_write.specs.Minimal.{octets_of, element_size}
use Rattle.mms_elements.specs.declared.tags.TheConstants.{READ}
use Rattle.bay_answers.specs.RepliesContents.{results_octets}
use Rattle.bay_answers.specs.RepliesSizes.{begun}
use Rattle.bay_answers.specs.RepliesVariables.{asked_octets}
use Rattle.bay_answers.proofs.RepliesSizeLaws.{read_answered}
use Rattle.bay_answers.proofs.replies_contents.read.Goals as goal

pub returns-in-Some : goal.returns-in-Some
returns-in-Some c =
    let n = c.len.result + c.element_len.result in
    let len : c.results_len-len.result ≡ length (results_octets c.args.results.now) = omega (arith, c.results_len-len.ensures) in
    let count : n ≡ length (asked_octets c.args.asked.now) + element_size c.results_len-len.result =
    omega (arith, c.element_len.ensures.value, ap length c.in_ok-asked.ensures) in
    let is : Some c.in-Some.out.items ≡ begun c.args.size c.args.invoke READ n = ap (option_map (λ v. v.items)) (sym c.in-Some.is) ∙ c.in_ok-out.ensures in
    let h = read_answered c.args.size c.args.invoke c.results_len-len.result n c.args.asked.now c.args.results.now c.in-Some.out.items len count is in
    let behind : List ℕ → List ℕ = λ o. c.in-Some.out.items ++ (o ++ octets_of 161 (results_octets c.args.results.now)) in
    c.from_vec.ensures ∙ (c.in_ok-put_read-in-Some.ensures ∙ (ap behind (c.as_slice.ensures.value ∙ c.in_ok-asked.ensures) ∙ sym h))
