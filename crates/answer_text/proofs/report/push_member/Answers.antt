-- why `report::push_member` answers as its contract says
use Rattle.std.proofs.Common.{◌≡◌, ◌++◌, ap, ◌∙◌}
use Rattle.std.specs.Prelude.{ℕ, List, codes, decimal}
use Rattle.answer_text.specs.Texts.{reason_letters}
use Rattle.hex.specs.Hex.{encode_lower}
use Rattle.std.proofs.lemmas.Result.{err_from_is_err_and}
use Rattle.answer_text.proofs.PrefixLaws.{added}
use Rattle.answer_text.proofs.report.push_member.Goals as goal
use Rattle.list_laws.proofs.Appended.{still-begins}

pub returns-in_err-push_reasons-clause-err : goal.returns-in_err-push_reasons-clause-err
returns-in_err-push_reasons-clause-err c =
    let failed = err_from_is_err_and c.from_residual-in_err-push_reasons.result c.from_residual-in_err-push_reasons.ensures.1 in
    rw (failed.1) (still-begins _ _ _ _ c.in_ok-push.ensures.items (still-begins _ _ _ _ c.in_ok-push_number.ensures.ok (still-begins _ _ _ _ c.in_ok-push-2.ensures.items c.in_err-push_reasons.ensures.err)))

pub returns-clause-ok : goal.returns-clause-ok
returns-clause-ok c =
    let number : c.push_number.new.out.items ≡ c.push.new.self.items ++ decimal c.args.member.now.number.0 = c.in_ok-push_number.ensures.ok ∙ ap (λ n. c.push.new.self.items ++ decimal n) c.from.ensures in
    let octets : c.push_hex.new.out.items ≡ c.push-3.new.self.items ++ encode_lower c.args.member.now.octets = c.in_ok-push_hex.ensures.ok ∙ ap (λ o. c.push-3.new.self.items ++ encode_lower o) c.as_slice.ensures in
    let old : List ℕ = c.args.out.now.items in
    let n : List ℕ = decimal c.args.member.now.number.0 in
    let r : List ℕ = reason_letters c.args.member.now.reasons in
    let first = added old (codes " ") n c.push.new.self.items c.push_number.new.out.items c.in_ok-push.ensures.items number in
    let mark = added old (codes " " ++ n) (codes "=") c.push_number.new.out.items c.push-2.new.self.items first c.in_ok-push-2.ensures.items in
    let letters = added old (codes " " ++ n ++ codes "=") r c.push-2.new.self.items c.push_reasons.new.out.items mark c.in_ok-push_reasons.ensures.ok in
    let head = added old (codes " " ++ n ++ codes "=" ++ r) (codes ":") c.push_reasons.new.out.items c.push-3.new.self.items letters c.in_ok-push-3.ensures.items in
    added old (codes " " ++ n ++ codes "=" ++ r ++ codes ":") (encode_lower c.args.member.now.octets) c.push-3.new.self.items c.push_hex.new.out.items head octets
