-- What a client asks is read back by the server.
use Rattle.std.proofs.Common.{◌≡◌, ℕ, ◌%◌, ◌^◌, ◌<◌, ◌≤◌, false, List, [], ◌∷◌, ◌++◌, length, refl, sym, arith}
use Rattle.std.proofs.lemmas.List.{length-append, append-nil}
use Rattle.ber_grammar.specs.Element.{IsRow}
use Rattle.ber_write.specs.Minimal.{octets_of, written, uint_octets}
use Rattle.ber_write.proofs.ElementLaws.{is_spelling}
use Rattle.ber_write.proofs.LengthLaws.{inside}
use Rattle.ber_write.proofs.WrittenLaws.{written_more, one_octet, whole_last}
use Rattle.sv_base.specs.Tree.{Seen}
use Rattle.sv_base.specs.Seen.{seen_of}
use Rattle.sv_base.specs.Data.{data_of}
use Rattle.sv_base.specs.Depth.{depth, HasNoOther}
use Rattle.sv_base.specs.declared.value.Value.{Value}
use Rattle.mms_data.specs.Writable.{SeenHasFractions, SeenIsOfTypes}
use Rattle.mms_data.proofs.FitLaws.{seen_fits}
use Rattle.mms_data.proofs.ReadBackLaws.{read_back}
use Rattle.mms_pdu.specs.ObjectName.{domain, IsName}
use Rattle.mms_pdu.specs.Variable.{IsVariable}
use Rattle.mms_pdu.specs.Access.{variables, IsAccess}
use Rattle.mms_pdu.specs.Service as services
use Rattle.mms_pdu.specs.Services.{IsService}
use Rattle.mms_pdu.specs.Service.{Service}
use Rattle.mms_pdu.specs.Request.{confirmed, conclude, IsRequest}
use Rattle.mms_pdu.specs.AskingOctets.{AreVisible, domain_name, one_variable, confirmed_octets, read_request, write_request, conclude_request, named_variable}
use Rattle.mms_pdu.proofs.ReplyOctetsLaws.{numbered_written}

-- ---- one variable

abbrev identifiers : List ℕ → List ℕ → List ℕ
identifiers d i = octets_of 26 d ++ octets_of 26 i

name_spelled : (d i : List ℕ) → AreVisible d → AreVisible i → length (identifiers d i) < 2 ^ 32 → IsName (written 161 (identifiers d i)) (domain d i)
name_spelled d i vd vi small =
    let first : length (octets_of 26 d) < 2 ^ 32 = omega (arith, small, length-append (octets_of 26 d) (octets_of 26 i)) in
    let second : length (octets_of 26 i) < 2 ^ 32 = omega (arith, small, length-append (octets_of 26 d) (octets_of 26 i)) in
    let row : IsRow (identifiers d i) (written 26 d ∷ written 26 i ∷ []) =
    written_more 26 d (octets_of 26 i) (written 26 i ∷ []) (one_octet 26 (omega arith) (λ e. omega (arith, e))) (inside 26 d (2 ^ 32) first) (whole_last 26 i (omega arith) (λ e. omega (arith, e)) second) in
    (refl, written 26 d, written 26 i, row, (refl, (refl, vd)), (refl, (refl, vi)))

variable_spelled : (d i : List ℕ) → AreVisible d → AreVisible i → length (one_variable d i) < 2 ^ 32 → IsAccess (written 160 (octets_of 48 (octets_of 160 (domain_name d i)))) (variables (named_variable d i ∷ []))
variable_spelled d i vd vi small =
    let sequence : length (octets_of 48 (octets_of 160 (domain_name d i))) < 2 ^ 32 = inside 160 (octets_of 48 (octets_of 160 (domain_name d i))) (2 ^ 32) small in
    let specification : length (octets_of 160 (domain_name d i)) < 2 ^ 32 = inside 48 (octets_of 160 (domain_name d i)) (2 ^ 32) sequence in
    let name : length (domain_name d i) < 2 ^ 32 = inside 160 (domain_name d i) (2 ^ 32) specification in
    let both : length (identifiers d i) < 2 ^ 32 = inside 161 (identifiers d i) (2 ^ 32) name in
    let row : IsRow (octets_of 48 (octets_of 160 (domain_name d i))) (written 48 (octets_of 160 (domain_name d i)) ∷ []) = whole_last 48 (octets_of 160 (domain_name d i)) (omega arith) (λ e. omega (arith, e)) sequence in
    let field : IsRow (octets_of 160 (domain_name d i)) (written 160 (domain_name d i) ∷ []) = whole_last 160 (domain_name d i) (omega arith) (λ e. omega (arith, e)) specification in
    let inner : IsRow (domain_name d i) (written 161 (identifiers d i) ∷ []) = whole_last 161 (identifiers d i) (omega arith) (λ e. omega (arith, e)) name in
    let variable : IsVariable (written 48 (octets_of 160 (domain_name d i))) (named_variable d i) =
    (refl, written 160 (domain_name d i) ∷ [], field, (refl, (written 161 (identifiers d i), inner, name_spelled d i vd vi both), refl)) in
    (refl, (written 48 (octets_of 160 (domain_name d i)) ∷ [], row, (variable, tt)))

-- ---- a service under an invoke number

confirmed_spelled : (invoke tag : ℕ) (body : List ℕ) (service : Service (List ℕ) Seen) → invoke < 2 ^ 32 → tag < 256 → (tag % 32 ≡ 31 → ⊥) → length (confirmed_octets invoke tag body) < 2 ^ 32
    → IsService (written tag body) service → IsRequest (confirmed_octets invoke tag body) (confirmed invoke service)
confirmed_spelled invoke tag body service small lt ne fits is =
    let content : List ℕ = octets_of 2 (uint_octets invoke) ++ octets_of tag body in
    let all : length content < 2 ^ 32 = inside 160 content (2 ^ 32) fits in
    let field : length (octets_of tag body) < 2 ^ 32 = omega (arith, all, length-append (octets_of 2 (uint_octets invoke)) (octets_of tag body)) in
    let number = numbered_written 2 invoke (octets_of tag body) (omega arith) (λ e. omega (arith, e)) small in (
      written 160 content,
      is_spelling 160 content (one_octet 160 (omega arith) (λ e. omega (arith, e))) all,
      refl,
      octets_of tag body,
      (number.0, number.1, number.2.0, number.2.1),
      written tag body,
      is_spelling tag body (one_octet tag lt ne) (inside tag body (2 ^ 32) field),
      is,
    )

-- the body of a service is no longer than the PDU
body_small : (invoke tag : ℕ) (body : List ℕ) → length (confirmed_octets invoke tag body) < 2 ^ 32 → length body < 2 ^ 32
body_small invoke tag body fits =
    let all = inside 160 (octets_of 2 (uint_octets invoke) ++ octets_of tag body) (2 ^ 32) fits in
    inside tag body (2 ^ 32) (omega (arith, all, length-append (octets_of 2 (uint_octets invoke)) (octets_of tag body)))

pub read_spelled : (invoke : ℕ) (d i : List ℕ) → invoke < 2 ^ 32 → AreVisible d → AreVisible i → length (read_request invoke d i) < 2 ^ 32
    → IsRequest (read_request invoke d i) (confirmed invoke (services.read (named_variable d i ∷ []) false))
unfolding read_request
read_spelled invoke d i small vd vi fits =
    let body : List ℕ = octets_of 161 (one_variable d i) in
    let whole : length body < 2 ^ 32 = body_small invoke 164 body fits in
    let access : length (one_variable d i) < 2 ^ 32 = inside 161 (one_variable d i) (2 ^ 32) whole in
    let row : IsRow body (written 161 (one_variable d i) ∷ []) = whole_last 161 (one_variable d i) (omega arith) (λ e. omega (arith, e)) whole in
    let inner : IsRow (one_variable d i) (written 160 (octets_of 48 (octets_of 160 (domain_name d i))) ∷ []) = whole_last 160 (octets_of 48 (octets_of 160 (domain_name d i))) (omega arith) (λ e. omega (arith, e)) access in
    confirmed_spelled invoke 164 body (services.read (named_variable d i ∷ []) false) small (omega arith) (λ e. omega (arith, e)) fits
    (refl, written 161 (one_variable d i) ∷ [], row, (refl, (refl, written 160 (octets_of 48 (octets_of 160 (domain_name d i))), inner, variable_spelled d i vd vi access)))

pub write_spelled : (invoke : ℕ) (d i : List ℕ) (v : Value) → invoke < 2 ^ 32 → AreVisible d → AreVisible i → HasNoOther v → depth v ≤ 10 → SeenHasFractions (seen_of v) → SeenIsOfTypes (seen_of v) → length (write_request invoke d i v) < 2 ^ 32
    → IsRequest (write_request invoke d i v) (confirmed invoke (services.write_vars (named_variable d i ∷ []) (seen_of v ∷ [])))
unfolding write_request
write_spelled invoke d i v small vd vi known deep fractions of_types fits =
    let body : List ℕ = one_variable d i ++ octets_of 160 (data_of v) in
    let whole : length body < 2 ^ 32 = body_small invoke 165 body fits in
    let sum = length-append (one_variable d i) (octets_of 160 (data_of v)) in
    let access : length (one_variable d i) < 2 ^ 32 = omega (arith, whole, sum) in
    let data_field : length (octets_of 160 (data_of v)) < 2 ^ 32 = omega (arith, whole, sum) in
    let k : List ℕ = octets_of 48 (octets_of 160 (domain_name d i)) in
    let row : IsRow body (written 160 k ∷ written 160 (data_of v) ∷ []) =
    written_more 160 k (octets_of 160 (data_of v)) (written 160 (data_of v) ∷ []) (one_octet 160 (omega arith) (λ e. omega (arith, e))) (inside 160 k (2 ^ 32) access) (whole_last 160 (data_of v) (omega arith) (λ e. omega (arith, e)) data_field) in
    let value = read_back (seen_of v) known deep (seen_fits (seen_of v) (inside 160 (data_of v) (2 ^ 32) data_field) fractions) of_types in
    let data_row : IsRow (data_of v) (value.0 ∷ []) = (data_of v, [], value.1, sym (append-nil (data_of v)), refl) in
    confirmed_spelled invoke 165 body (services.write_vars (named_variable d i ∷ []) (seen_of v ∷ [])) small (omega arith) (λ e. omega (arith, e)) fits
    (refl, written 160 k ∷ written 160 (data_of v) ∷ [], row, (variable_spelled d i vd vi access, refl, (value.0 ∷ [], data_row, (value.2, tt))), refl)

pub conclude_spelled : IsRequest conclude_request conclude
conclude_spelled = (written 139 [], is_spelling 139 [] (one_octet 139 (omega arith) (λ e. omega (arith, e))) (omega arith), refl, refl)
