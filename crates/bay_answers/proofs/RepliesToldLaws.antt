-- The responses of Read and Write are read back.
use Rattle.std.proofs.Common.{◌≢◌, ℕ, ◌^◌, ◌<◌, ◌≤◌, List, [], ◌∷◌, ◌++◌, length, refl, arith, Result, Ok, Err, inl, inr}
use Rattle.std.specs.List.{AllByRecursion}
use Rattle.std.proofs.lemmas.List.{length-append}
use Rattle.ber_grammar.specs.Element.{Element, IsRow, Begins}
use Rattle.ber_write.specs.Minimal.{octets_of, uint_octets, written, CanBeTag}
use Rattle.ber_write.proofs.NumberLaws.{uint_octets-spell, length-uint_octets}
use Rattle.ber_write.proofs.LengthLaws.{octets_longer}
use Rattle.ber_write.proofs.WrittenLaws.{written_more, written_last, one_octet}
use Rattle.sv_base.specs.Tree.{Seen, plain, structure, truth, int, uint, bits, time, stamp, text, octets, other}
use Rattle.sv_base.specs.Seen.{seen_of}
use Rattle.sv_base.specs.Data.{data_of}
use Rattle.sv_base.specs.Depth.{SeenHasNoOther}
use Rattle.sv_base.specs.declared.value.Value.{Value}
use Rattle.mms_data.specs.Grammar.{IsData, IsWithin}
use Rattle.mms_data.proofs.FitLaws.{seen_fits}
use Rattle.mms_data.proofs.ReadBackLaws.{followed}
use Rattle.mms_pdu.specs.Each.{Each}
use Rattle.mms_elements.specs.declared.tags.TheConstants.{READ, WRITE}
use Rattle.mms_pdu.specs.Answer.{IsResult, IsWritten, IsAnswerBody}
use Rattle.mms_pdu.specs.Reply.{answer, IsReply}
use Rattle.mms_pdu.specs.ReplyOctets.{answer_content, answer_octets}
use Rattle.mms_pdu.proofs.ReplyOctetsLaws.{answer_spelled}
use Rattle.mms_pdu.specs.Access.{Access}
use Rattle.bay_model.specs.declared.reply.Asked.{Asked}
use Rattle.bay_model.specs.declared.reply.Asked.TheVariants as asked
use Rattle.bay_answers.specs.RepliesVariables.{asked_octets}
use Rattle.bay_answers.specs.RepliesContents.{results_octets, read_content, written_content}
use Rattle.bay_answers.specs.RepliesTold.{TellsFailure, TellsResult, TellsCode, AreTold, TellsAsked, IsResultOfTypes, IsCode}

-- ---- one after another

failure : (code : ℕ) (rest : List ℕ) (es : List Element) → code < 256 → IsRow rest es → IsRow (octets_of 0x80 (uint_octets code) ++ rest) (written 0x80 (uint_octets code) ∷ es)
failure code rest es lt row = written_more 0x80 (uint_octets code) rest es (one_octet 0x80 (omega arith) (λ e. omega (arith, e))) (omega (arith, length-uint_octets code)) row

told_failure : (code : ℕ) → code < 256 → TellsFailure (written 0x80 (uint_octets code)) code
told_failure code lt = (refl, (uint_octets-spell code (omega (arith, lt))).0, lt)

pub codes_told : (codes : List (Result (Unit {0}) ℕ)) → AllByRecursion IsCode codes → AreTold TellsCode (written_content codes) codes
codes_told [] h = ([], refl, tt)
codes_told (Ok done ∷ codes) h =
    let r : AreTold TellsCode (written_content codes) codes = codes_told codes h.1 in
    (written 0x81 [] ∷ r.0, written_more 0x81 [] (written_content codes) r.0 (one_octet 0x81 (omega arith) (λ e. omega (arith, e))) (omega arith) r.1, ((refl, refl), r.2))
codes_told (Err code ∷ codes) h =
    let r : AreTold TellsCode (written_content codes) codes = codes_told codes h.1 in
    (written 0x80 (uint_octets code) ∷ r.0, failure code (written_content codes) r.0 h.0 r.1, (told_failure code h.0, r.2))

-- Data isn't under the tag of a failure
is_no_failure : (s : Seen) (e : Element) → SeenHasNoOther s → IsData s e → e.tag ≢ 0x80
is_no_failure (plain (truth b)) e known d t = omega (arith, d.0, t)
is_no_failure (plain (int z)) e known d t = omega (arith, d.0, t)
is_no_failure (plain (uint n)) e known d t = omega (arith, d.0, t)
is_no_failure (plain (bits bs)) e known d t = omega (arith, d.0, t)
is_no_failure (plain (time s f q)) e known d t = omega (arith, d.0, t)
is_no_failure (plain (stamp m n)) e known d t = omega (arith, d.0, t)
is_no_failure (plain (text o)) e known d t = omega (arith, d.0, t)
is_no_failure (plain (octets o)) e known d t = omega (arith, d.0, t)
is_no_failure (plain other) e known d t = known
is_no_failure (structure r) e known d t = omega (arith, d.0, t)

pub results_told : (results : List (Result Value ℕ)) → AllByRecursion IsResultOfTypes results → length (results_octets results) < 2 ^ 32 → AreTold TellsResult (results_octets results) results
results_told [] h lt = ([], refl, tt)
results_told (Ok v ∷ results) h lt =
    let r : AreTold TellsResult (results_octets results) results = results_told results h.1 (omega (arith, lt, length-append (data_of v) (results_octets results))) in
    let fits = seen_fits (seen_of v) (omega (arith, lt, length-append (data_of v) (results_octets results))) h.0.2 in
    let b : (e : Element) × Begins (data_of v ++ results_octets results) e (results_octets results) × IsWithin 10 e (seen_of v) = followed (seen_of v) (results_octets results) h.0.0 h.0.1 fits h.0.3 in
    (b.0 ∷ r.0, (b.1.0, results_octets results, b.1.1, b.1.2, r.1), ((is_no_failure (seen_of v) b.0 h.0.0 b.2.0, b.2), r.2))
results_told (Err code ∷ results) h lt =
    let r : AreTold TellsResult (results_octets results) results = results_told results h.1 (omega (arith, lt, length-append (octets_of 0x80 (uint_octets code)) (results_octets results))) in
    (written 0x80 (uint_octets code) ∷ r.0, failure code (results_octets results) r.0 h.0 r.1, (told_failure code h.0, r.2))

-- ---- so the bodies are of their forms

are_written : (es : List Element) (codes : List (Result (Unit {0}) ℕ)) → Each TellsCode es codes → AllByRecursion IsWritten es
are_written [] [] h = tt
are_written [] (c ∷ codes) h = absurd h
are_written (e ∷ es) [] h = absurd h
are_written (e ∷ es) (Ok done ∷ codes) h = (inr h.0, are_written es codes h.1)
are_written (e ∷ es) (Err code ∷ codes) h = (inl (h.0.0, code, h.0.1, h.0.2), are_written es codes h.1)

are_results : (es : List Element) (results : List (Result Value ℕ)) → Each TellsResult es results → AllByRecursion IsResult es
are_results [] [] h = tt
are_results [] (r ∷ results) h = absurd h
are_results (e ∷ es) [] h = absurd h
are_results (e ∷ es) (Ok v ∷ results) h = (inr (h.0.0, seen_of v, h.0.1), are_results es results h.1)
are_results (e ∷ es) (Err code ∷ results) h = (inl (h.0.0, code, h.0.1, h.0.2), are_results es results h.1)

tag_can : (tag : ℕ) → 0xa4 ≤ tag → tag ≤ 0xa5 → CanBeTag tag
tag_can tag least most = one_octet tag (omega (arith, most)) (λ e. omega (arith, e, least, most))

within : (invoke tag : ℕ) (c : List ℕ) → length c ≤ length (answer_octets invoke tag c)
unfolding answer_octets
within invoke tag c = omega (arith, octets_longer 161 (answer_content invoke tag c), length-append (octets_of 2 (uint_octets invoke)) (octets_of tag c), octets_longer tag c)

pub written_back : (invoke : ℕ) (codes : List (Result (Unit {0}) ℕ)) → invoke < 2 ^ 32 → AllByRecursion IsCode codes → length (answer_octets invoke WRITE (written_content codes)) < 2 ^ 32
    → IsReply (answer_octets invoke WRITE (written_content codes)) (answer invoke WRITE (written_content codes)) × AreTold TellsCode (written_content codes) codes
written_back invoke codes small h lt =
    let t : AreTold TellsCode (written_content codes) codes = codes_told codes h in
    let form : IsAnswerBody WRITE (written_content codes) = record { read = λ e. absurd (omega (arith, e)); written = λ e. (t.0, t.1, are_written t.0 codes t.2) } in
    (answer_spelled invoke WRITE (written_content codes) small (tag_can WRITE (omega arith) (omega arith)) form lt, t)

pub read_back : (invoke : ℕ) (results : List (Result Value ℕ)) → invoke < 2 ^ 32 → AllByRecursion IsResultOfTypes results → length (answer_octets invoke READ (read_content asked.No results)) < 2 ^ 32
    → IsReply (answer_octets invoke READ (read_content asked.No results)) (answer invoke READ (read_content asked.No results)) × AreTold TellsResult (results_octets results) results
unfolding asked_octets
read_back invoke results small h lt =
    let body : List ℕ = octets_of 0xa1 (results_octets results) in
    let few : length (results_octets results) < 2 ^ 32 = omega (arith, lt, within invoke READ body, octets_longer 0xa1 (results_octets results)) in
    let t : AreTold TellsResult (results_octets results) results = results_told results h few in
    let form : IsAnswerBody READ body = record {
      read = λ e. (written 0xa1 (results_octets results) ∷ [], written_last 0xa1 (results_octets results) (one_octet 0xa1 (omega arith) (λ e. omega (arith, e))) few, (refl, (t.0, t.1, are_results t.0 results t.2)));
      written = λ e. absurd (omega (arith, e));
    } in
    (answer_spelled invoke READ body small (tag_can READ (omega arith) (omega arith)) form lt, t)

-- and where what was read is written back
pub specified_back : (invoke : ℕ) (what : Asked) (access : Access (List ℕ)) (results : List (Result Value ℕ)) → invoke < 2 ^ 32 → TellsAsked (asked_octets what) access → AllByRecursion IsResultOfTypes results
    → length (answer_octets invoke READ (read_content what results)) < 2 ^ 32
    → IsReply (answer_octets invoke READ (read_content what results)) (answer invoke READ (read_content what results)) × AreTold TellsResult (results_octets results) results
specified_back invoke what access results small a h lt =
    let body : List ℕ = read_content what results in
    let second : List ℕ = octets_of 0xa1 (results_octets results) in
    let few : length (results_octets results) < 2 ^ 32 = omega (arith, lt, within invoke READ body, length-append (asked_octets what) second, octets_longer 0xa1 (results_octets results)) in
    let t : AreTold TellsResult (results_octets results) results = results_told results h few in
    let last : IsRow second (written 0xa1 (results_octets results) ∷ []) = written_last 0xa1 (results_octets results) (one_octet 0xa1 (omega arith) (λ e. omega (arith, e))) few in
    let form : IsAnswerBody READ body = record {
      read = λ e. (a.0 ∷ written 0xa1 (results_octets results) ∷ [], (asked_octets what, second, a.1, refl, last), ((a.2, a.3, a.4, access, a.5), (refl, (t.0, t.1, are_results t.0 results t.2))));
      written = λ e. absurd (omega (arith, e));
    } in
    (answer_spelled invoke READ body small (tag_can READ (omega arith) (omega arith)) form lt, t)
