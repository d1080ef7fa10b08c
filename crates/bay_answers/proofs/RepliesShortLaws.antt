-- No PDU of an output is longer than the size.
use Rattle.std.proofs.Common.{◌≡◌, ℕ, suc, ◌≤◌, Bool, true, false, List, [], ◌∷◌, ◌++◌, length, map, refl, subst, Option, Some, None, arith}
use Rattle.std.specs.Prelude.{if◌then◌else◌, nat_le, nat_lt, ◌==◌, ◌||◌}
use Rattle.std.specs.List.{All, AllByRecursion}
use Rattle.std.proofs.lemmas.Bool.{leb-true}
use Rattle.std.proofs.lemmas.List.{length-append}
use Rattle.ber_write.specs.Minimal.{octets_of, uint_octets}
use Rattle.ber_write.proofs.NumberLaws.{number_short}
use Rattle.ber_write.proofs.LengthLaws.{octets_short}
use Rattle.sv_base.specs.declared.config.Config.{Config}
use Rattle.mms_pdu.specs.ReplyOctets.{answer_octets, class_tag, error_octets, invoke_octets, reason_tag, reason_code, reject_octets}
use Rattle.bay_model.specs.declared.reply.Reply.{Reply}
use Rattle.bay_model.specs.declared.reply.Reply.TheVariants as replies
use Rattle.bay_model.specs.declared.answer.Output.{Output}
use Rattle.bay_model.specs.declared.answer.Output.TheVariants as outputs
use Rattle.report_cut.proofs.FitLaws.{pdus_fit}
use Rattle.bay_model.specs.declared.control.ApplError.{ApplError}
use Rattle.output_shapes.specs.Shapes.{IsShortError, CanBeSent}
use Rattle.bay_answers.specs.ControlPdus.{error_pdu}
use Rattle.bay_answers.proofs.ControlPduLaws.{error-short, termination-short}
use Rattle.bay_answers.specs.Replies.{response, names_response, names_octets, shown, reply_octets, output_pdus}
use Rattle.bay_answers.proofs.RepliesNamesLaws.{as_long, shown_fit}

error_short : (invoke class code : ℕ) → length (error_octets invoke class code) ≤ 100
unfolding error_octets
error_short invoke class code =
    let k : List ℕ = octets_of (class_tag class) (uint_octets code) in
    let e : List ℕ = octets_of 0xa2 (octets_of 0xa0 k) in
    omega (
      arith,
      octets_short 0xa2 (octets_of 0x80 (uint_octets invoke) ++ e),
      length-append (octets_of 0x80 (uint_octets invoke)) e,
      number_short 0x80 invoke,
      octets_short 0xa2 (octets_of 0xa0 k),
      octets_short 0xa0 k,
      number_short (class_tag class) code,
    )

invoke_short : (invoke : Option ℕ) → length (invoke_octets invoke) ≤ 17
invoke_short None = omega arith
invoke_short (Some n) = number_short 0x80 n

reject_short : (invoke : Option ℕ) (n : ℕ) → length (reject_octets invoke n) ≤ 100
unfolding reject_octets
reject_short invoke n =
    let r : List ℕ = octets_of (reason_tag n) (uint_octets (reason_code n)) in
    omega (arith, octets_short 0xa4 (invoke_octets invoke ++ r), length-append (invoke_octets invoke) r, invoke_short invoke, number_short (reason_tag n) (reason_code n))

response_short : (size invoke tag : ℕ) (c : List ℕ) → 1024 ≤ size → length (response size invoke tag c) ≤ size
response_short size invoke tag c least = either (nat_le (length (answer_octets invoke tag c)) size) refl
  where
    either : (t : Bool) → nat_le (length (answer_octets invoke tag c)) size ≡ t → length (if t then answer_octets invoke tag c else error_octets invoke 4 3) ≤ size
    either true e = leb-true (length (answer_octets invoke tag c)) size e
    either false e = omega (arith, least, error_short invoke 4 3)

names_short : (size invoke : ℕ) (names : List (List ℕ)) → 1024 ≤ size → length (names_response size invoke names) ≤ size
names_short size invoke names least =
    let s : List (List ℕ) = shown size invoke names in
    subst (λ (n : ℕ). n ≤ size) (as_long invoke s true (nat_lt (length s) (length names))) (leb-true (length (names_octets invoke s true)) size (shown_fit size invoke names least))

reply_short : (c : Config) (size invoke : ℕ) (r : Reply) → 1024 ≤ size → length (reply_octets c size invoke r) ≤ size
reply_short c size invoke replies.Status least = response_short size invoke 0xa0 _ least
reply_short c size invoke replies.Identify least = response_short size invoke 0xa2 _ least
reply_short c size invoke replies.Conclude least = omega (arith, least)
reply_short c size invoke (replies.Names names) least = names_short size invoke names least
reply_short c size invoke (replies.TypeOfNode n) least = response_short size invoke _ _ least
reply_short c size invoke (replies.Read asked results) least = response_short size invoke _ _ least
reply_short c size invoke (replies.Wrote codes) least = response_short size invoke _ _ least
reply_short c size invoke replies.Defined least = response_short size invoke 0x8b [] least
reply_short c size invoke (replies.SetOf deletable members) least = response_short size invoke _ _ least
reply_short c size invoke (replies.Deleted matched deleted) least = response_short size invoke _ _ least
reply_short c size invoke (replies.Error class code) least = omega (arith, least, error_short invoke class code)
reply_short c size invoke (replies.Reject n) least = omega (arith, least, reject_short (if n == 2 || n == 3 then Some invoke else None) n)

pub output_short : (c : Config) (size : ℕ) (o : Output) → CanBeSent c o → 1024 ≤ size → AllByRecursion (λ p. length p ≤ size) (output_pdus c size o)
output_short c size (outputs.Reply before invoke r) h least = behind before h.0 where
  behind : (es : List ApplError) → All IsShortError es → AllByRecursion (λ p. length p ≤ size) (map error_pdu es ++ reply_octets c size invoke r ∷ [])
  behind [] all = (reply_short c size invoke r least, tt)
  behind (e ∷ es) all = (omega (arith, least, error-short e (all 0 e (omega arith))), behind es (λ k d below. all (suc k) d (omega (arith, below))))
output_short c size (outputs.Report r) h least = pdus_fit r size h least
output_short c size (outputs.Termination t) h least = (omega (arith, least, termination-short c t h.0), tt)
