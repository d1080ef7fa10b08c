-- How long what is sent of controls is.
use Rattle.std.proofs.Common.{◌≡◌, ℕ, ℤ, ◌+◌, ◌≤◌, ◌<◌, ◌^◌, List, [], ◌++◌, length, arith, refl, ap, ◌∙◌, append_assoc}
use Rattle.std.specs.Prelude.{codes, pos, Option, None, Some, IfSome, slice_get}
use Rattle.std.specs.Option.{option_map_or}
use Rattle.std.proofs.lemmas.List.{length-append}
use Rattle.ber_write.specs.Minimal.{octets_of, written, uint_octets, int_octets}
use Rattle.ber_write.proofs.ElementLaws.{is_spelling}
use Rattle.ber_write.proofs.NumberLaws.{length-int_octets, number_short}
use Rattle.ber_write.proofs.LengthLaws.{octets_short}
use Rattle.ber_write.proofs.WrittenLaws.{one_octet}
use Rattle.sv_base.specs.Data.{data_of}
use Rattle.sv_base.specs.declared.config.Config.{Config}
use Rattle.sv_base.specs.declared.config.CtlDef.{CtlDef}
use Rattle.mms_pdu.specs.AskingOctets.{domain_name}
use Rattle.mms_elements.specs.Reports.{report_octets, IsSpecificationElement}
use Rattle.bay_model.specs.declared.control.ApplError.{ApplError}
use Rattle.bay_model.specs.declared.control.Termination.{Termination}
use Rattle.bay_answers.specs.RepliesVariables.{variable_octets}
use Rattle.output_shapes.specs.Shapes.{oper_item, IsShortError, HasShortName, IsShortTermination}
use Rattle.bay_answers.specs.ControlPdus.{error_variable, origin_octets, error_parts, error_data, oper_variable, report_of, error_pdu, termination_of, termination_pdu}

variable-short : (name : List ℕ) → length (variable_octets name) ≤ 16 + length name
variable-short name = omega (arith, octets_short 0x30 (octets_of 0xa0 name), octets_short 0xa0 name)

pub error-variable-short : length error_variable ≤ 37
error-variable-short = omega (arith, variable-short (octets_of 0x80 (codes "LastApplError")), octets_short 0x80 (codes "LastApplError"))

int-short : (tag : ℕ) (z : ℤ) → length (octets_of tag (int_octets z)) ≤ 17
int-short tag z = omega (arith, octets_short tag (int_octets z), length-int_octets z)

origin-short : (e : ApplError) → IsShortError e → length (origin_octets e) ≤ 89
origin-short e h = omega (arith, length-append (octets_of 0x85 (int_octets e.or_cat)) (octets_of 0x89 e.or_ident), int-short 0x85 e.or_cat, octets_short 0x89 e.or_ident, h.ident)

parts-short : (e : ApplError) → IsShortError e → length (error_parts e) ≤ 285
parts-short e h =
    let cause = octets_of 0x85 (uint_octets e.cause) in
    let number = octets_of 0x86 (uint_octets e.ctl_num) in
    let origin = octets_of 0xa2 (origin_octets e) in
    let one = octets_of 0x85 (int_octets (pos 1)) in
    let object = octets_of 0x8a e.object in
    omega (
      arith,
      length-append object (one ++ (origin ++ (number ++ cause))),
      length-append one (origin ++ (number ++ cause)),
      length-append origin (number ++ cause),
      length-append number cause,
      octets_short 0x8a e.object,
      h.object,
      int-short 0x85 (pos 1),
      octets_short 0xa2 (origin_octets e),
      origin-short e h,
      number_short 0x86 e.ctl_num,
      number_short 0x85 e.cause,
    )

pub error-data-short : (e : ApplError) → IsShortError e → length (error_data e) ≤ 293
unfolding error_data
error-data-short e h = omega (arith, octets_short 0xa2 (error_parts e), parts-short e h)

report-short : (variables values : List ℕ) → length (report_of variables values) ≤ 32 + (length variables + length values)
unfolding report_octets
report-short variables values =
    let names = octets_of 0xa0 variables in
    omega (
      arith,
      octets_short 0xa3 (octets_of 0xa0 (names ++ octets_of 0xa0 values)),
      octets_short 0xa0 (names ++ octets_of 0xa0 values),
      length-append names (octets_of 0xa0 values),
      octets_short 0xa0 variables,
      octets_short 0xa0 values,
    )

pub error-short : (e : ApplError) → IsShortError e → length (error_pdu e) ≤ 1024
error-short e h = omega (arith, report-short error_variable (error_data e), error-variable-short, error-data-short e h)

pub oper-variable-short : (k : CtlDef) → HasShortName k → length (oper_variable k) ≤ 298
oper-variable-short k h =
    let domain = octets_of 0x1a k.domain in
    let item = octets_of 0x1a (oper_item k) in
    omega (
      arith,
      variable-short (domain_name k.domain (oper_item k)),
      octets_short 0xa1 (domain ++ item),
      length-append domain item,
      octets_short 0x1a k.domain,
      octets_short 0x1a (oper_item k),
      h.domain,
      h.item,
    )

ended-short : (k : CtlDef) (t : Termination) (e : Option ApplError) → HasShortName k → length (data_of t.oper) ≤ 300 → IfSome e IsShortError → length (termination_of k t e) ≤ 1024
ended-short k t None name oper error = omega (arith, report-short (oper_variable k) (data_of t.oper), oper-variable-short k name, oper)
ended-short k t (Some e) name oper error =
    omega (
      arith,
      report-short (error_variable ++ oper_variable k) (error_data e ++ data_of t.oper),
      length-append error_variable (oper_variable k),
      length-append (error_data e) (data_of t.oper),
      error-variable-short,
      oper-variable-short k name,
      error-data-short e error,
      oper,
    )

pub termination-short : (c : Config) (t : Termination) → IsShortTermination c t → length (termination_pdu c t) ≤ 1024
termination-short c t h = by (slice_get c.controls t.control.0) refl where
  by : (o : Option CtlDef) → slice_get c.controls t.control.0 ≡ o → length (option_map_or (λ k. termination_of k t t.error) o []) ≤ 1024
  by None e = omega arith
  by (Some k) e = ended-short k t t.error (h.name k e) h.oper h.error

-- ---- a list of variables is the element that a report wants

pub is_list : (variables : List ℕ) → length variables < 2 ^ 32 → IsSpecificationElement (octets_of 0xa0 variables)
is_list variables small = (written 0xa0 variables, is_spelling 0xa0 variables (one_octet 0xa0 (omega arith) (λ e. omega (arith, e))) small, omega arith, omega arith)

-- ---- elements after one another

pub five : (a b c d e m n o p q r : List ℕ) → m ≡ [] → n ≡ m ++ a → o ≡ n ++ b → p ≡ o ++ c → q ≡ p ++ d → r ≡ q ++ e → r ≡ a ++ (b ++ (c ++ (d ++ e)))
five a b c d e m n o p q r none first second third fourth fifth =
    fifth
    ∙ (ap (λ l. l ++ e) (fourth ∙ ap (λ l. l ++ d) (third ∙ ap (λ l. l ++ c) (second ∙ ap (λ l. l ++ b) (first ∙ ap (λ l. l ++ a) none))))
    ∙ simp append_assoc refl)
