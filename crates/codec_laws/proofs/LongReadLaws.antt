-- The response of a read whose values alone are longer than a PDU.
use Rattle.std.proofs.Common.{◌≡◌, ◌<◌, ◌≤◌, ℕ, Bool, true, false, List, [], ◌∷◌, length, Result, Ok, Err, refl, sym, length-append, arith}
use Rattle.std.specs.Prelude.{if◌then◌else◌}
use Rattle.std.specs.Int.{w64, to_be_bytes}
use Rattle.std.specs.List.{flat_map}
use Rattle.std.proofs.lemmas.Bool.{ltb-true}
use Rattle.ber_write.specs.Minimal.{octets_of, uint_octets, is_spare, strip_from}
use Rattle.ber_write.proofs.LengthLaws.{length_grows, length-one_octet, octets_longer}
use Rattle.sv_base.specs.declared.config.Config.{Config}
use Rattle.sv_base.specs.declared.value.Value.{Value}
use Rattle.mms_elements.specs.declared.tags.TheConstants.{READ}
use Rattle.bay_model.specs.declared.reply.Asked.{Asked}
use Rattle.bay_model.specs.declared.reply.Reply.TheVariants as replies
use Rattle.bay_model.specs.declared.service_errors.TheConstants.{SERVICE, PDU_SIZE}
use Rattle.bay_model.specs.Services.{read_reply}
use Rattle.bay_model.specs.Sizes.{access_result, are_too_long}
use Rattle.bay_answers.specs.RepliesVariables.{asked_octets}
use Rattle.bay_answers.specs.RepliesContents.{result_octets, results_octets, read_content}
use Rattle.bay_answers.specs.Replies.{reply_octets, response}
use Rattle.bay_answers.proofs.RepliesSizeLaws.{holds_too_much, is_refused}

-- a number has an octet
strip-some : (a : ℕ) (rest : List ℕ) → 1 ≤ length (strip_from a rest)
strip-some a [] = omega arith
strip-some a (b ∷ rest) = by (is_spare a b) (strip-some b rest) where
  by : (t : Bool) → 1 ≤ length (strip_from b rest) → 1 ≤ length (if t then strip_from b rest else a ∷ b ∷ rest)
  by true r = r
  by false r = omega arith

uint-some : (n : ℕ) → 1 ≤ length (uint_octets n)
unfolding uint_octets
uint-some n = strip-some 0 (to_be_bytes w64 n)

-- and its element two more
failure-long : (code : ℕ) → 3 ≤ length (octets_of 0x80 (uint_octets code))
failure-long code = by (uint_octets code) (uint-some code) where
  by : (content : List ℕ) → 1 ≤ length content → 3 ≤ length (octets_of 0x80 content)
  by content some = omega (arith, some, length-one_octet 0x80 content (omega arith), length_grows 0 (length content) (omega arith))

-- the results are at least as long as they are reckoned
result-longer : (r : Result Value ℕ) → length (access_result r) ≤ length (result_octets r)
result-longer (Ok v) = omega arith
result-longer (Err code) = failure-long code

results-longer : (rs : List (Result Value ℕ)) → length (flat_map access_result rs) ≤ length (results_octets rs)
results-longer [] = omega arith
results-longer (r ∷ rs) =
    omega (arith, result-longer r, results-longer rs, length-append (access_result r) (flat_map access_result rs), length-append (result_octets r) (results_octets rs))

pub read_alike : (c : Config) (size invoke : ℕ) (asked : Asked) (results : List (Result Value ℕ))
    → reply_octets c size invoke (read_reply size asked results) ≡ response size invoke READ (read_content asked results)
read_alike c size invoke asked results = by (are_too_long size results) (λ e. ltb-true size (length (flat_map access_result results)) e) where
  by : (long : Bool) → (long ≡ true → size < length (flat_map access_result results))
      → reply_octets c size invoke (if long then replies.Error SERVICE PDU_SIZE else replies.Read asked results) ≡ response size invoke READ (read_content asked results)
  by false over = refl
  by true over =
      let more : size < length (read_content asked results) =
      omega (arith, over refl, results-longer results, octets_longer 0xa1 (results_octets results), length-append (asked_octets asked) (octets_of 0xa1 (results_octets results))) in
      sym (is_refused size invoke READ (length (read_content asked results)) (read_content asked results) (omega arith) refl (holds_too_much size invoke READ (length (read_content asked results)) more))
