-- Reading a PDU of a report, from left to right.
use Rattle.std.specs.Prelude.{ℕ, ◌+◌, ◌-◌, ◌*◌, ◌^◌, ◌==◌, ◌&&◌, nat_lt, Bool, true, false, List, [], ◌∷◌, ◌++◌, length, take, drop, Option, Some, None, Result, if◌then◌else◌}
use Rattle.std.specs.Result.{is_ok}
use Rattle.ber_grammar.specs.Octets.{big_endian}
use Rattle.ber_grammar.specs.Element.{Element}
use Rattle.ber_grammar.specs.Fields.{whole_at}
use Rattle.ber_grammar.specs.Reader.{and_then, kept}
use Rattle.ber_grammar.specs.Reading.{first_at, boolean_at, text_at, bits_at}
use Rattle.ber_grammar.specs.declared.fault.BerFault.TheVariants.{BadNumber}
use Rattle.ber_grammar.specs.Steps.{required}
use Rattle.mms_data.specs.Reading.{data_at}
use Rattle.mms_data.specs.declared.tags.TheConstants.{BINARY_TIME, BIT_STRING, BOOLEAN, OCTET_STRING, UNSIGNED, VISIBLE_STRING}
use Rattle.mms_elements.specs.Invoke.{below_at}
use Rattle.mms_elements.specs.declared.tags.TheConstants.{INFORMATION_REPORT, REPORT_RESULTS, UNCONFIRMED, VARIABLE_LIST_NAME, VMD_SPECIFIC}
use Rattle.bay_model.specs.Parameters.{bit}
use Rattle.bay_model.specs.declared.report.Member.{Member}
use Rattle.bay_model.specs.declared.report.Reasons.{Reasons}
use Rattle.report_cut.specs.declared.part.ReportPart.{ReportPart}
use Rattle.report_cut.specs.declared.fault.ReportFault.{ReportFault}
use Rattle.report_cut.specs.declared.fault.ReportFault.TheVariants.{Invalid, Memory}
use Rattle.report_cut.specs.Part.{no_reasons}

-- of out of memory nothing is said
abbrev pub fault_of : ReportFault → Option ReportFault
fault_of Invalid = Some Invalid
fault_of Memory = None

-- ---- elements

-- the content of the one element that octets are, which has this tag
unfoldable pub enclosed_at : ℕ → List ℕ → Option (List ℕ)
enclosed_at tag octets = and_then (whole_at octets) (λ e. if e.tag == tag then Some e.content else None)

-- the content of the element in front, which has this tag, if it is asked for, and what follows
unfoldable pub field_at : ℕ → Bool → List ℕ → Option (Option (List ℕ) × List ℕ)
field_at tag asked octets = if asked then and_then (kept (first_at octets)) (λ x. if x.0.tag == tag then Some (Some x.0.content, x.1) else None) else Some (None, octets)

-- what a content says, if there is one
abbrev pub said : {A : Type 0} → (List ℕ → Option A) → A → Option (List ℕ) → Option A
said read none None = Some none
said read none (Some c) = read c

unfoldable pub taken_at : {A : Type 0} → ℕ → (List ℕ → Option A) → Bool → A → List ℕ → Option (A × List ℕ)
taken_at tag read asked none octets = and_then (field_at tag asked octets) (λ x. and_then (said read none x.0) (λ v. Some (v, x.1)))

-- ---- contents

abbrev pub text_in : List ℕ → Option (List ℕ)
text_in content = kept (text_at content)

abbrev pub truth_in : List ℕ → Option Bool
truth_in content = kept (boolean_at BadNumber content)

abbrev pub moment_of : ℕ → ℕ → Option ℕ
moment_of ms days = if nat_lt ms 86400000 then (if nat_lt (441763200000 + days * 86400000 + ms) 4294967296000 then Some (441763200000 + days * 86400000 + ms) else None) else None

unfoldable pub moment_in : List ℕ → Option ℕ
moment_in content = if length content == 6 then moment_of (big_endian (take 4 content)) (big_endian (drop 4 content)) else None

unfoldable pub id_in : List ℕ → Option ℕ
id_in content = if length content == 8 then Some (big_endian content) else None

unfoldable pub options_in : List ℕ → Option (List Bool)
options_in content = and_then (kept (bits_at content)) (λ bits. if length bits == 10 then Some bits else None)

unfoldable pub inclusion_in : List ℕ → Option (List Bool)
inclusion_in content = and_then (kept (bits_at content)) (λ bits. if nat_lt 0 (length bits) then (if nat_lt (length bits) 257 then Some bits else None) else None)

abbrev pub reasons_of : List Bool → Reasons
reasons_of bits = record { dchg = bit 1 bits; qchg = bit 2 bits; dupd = bit 3 bits; intg = bit 4 bits; gi = bit 5 bits }

unfoldable pub reasons_in : List ℕ → Option Reasons
reasons_in content = and_then (kept (bits_at content)) (λ bits. if length bits == 7 then (if bit 0 bits then None else if bit 6 bits then None else Some (reasons_of bits)) else None)

-- ---- in front of the members

unfoldable pub identity_at : List ℕ → Option (List ℕ × List Bool × List ℕ)
identity_at octets =
    and_then (taken_at VISIBLE_STRING text_in true [] octets) (λ x.
    and_then (taken_at BIT_STRING options_in true [] x.1) (λ y. Some (x.0, y.0, y.1)))

unfoldable pub first_fields_at : List Bool → List ℕ → Option (ℕ × ℕ × List ℕ × List ℕ)
first_fields_at opts octets =
    and_then (taken_at UNSIGNED (below_at 65536) (bit 1 opts) 0 octets) (λ x.
    and_then (taken_at BINARY_TIME moment_in (bit 2 opts) 441763200000 x.1) (λ y.
    and_then (taken_at VISIBLE_STRING text_in (bit 4 opts) [] y.1) (λ z. Some (x.0, y.0, z.0, z.1))))

unfoldable pub further_fields_at : List Bool → List ℕ → Option (Bool × ℕ × ℕ × List ℕ)
further_fields_at opts octets =
    and_then (taken_at BOOLEAN truth_in (bit 6 opts) false octets) (λ x.
    and_then (taken_at OCTET_STRING id_in (bit 7 opts) 0 x.1) (λ y.
    and_then (taken_at UNSIGNED (below_at (2 ^ 32)) (bit 8 opts) 0 y.1) (λ z. Some (x.0, y.0, z.0, z.1))))

unfoldable pub place_at : Bool → List ℕ → Option (ℕ × Bool × List ℕ)
place_at segmented octets =
    and_then (taken_at UNSIGNED (below_at (2 ^ 32)) segmented 0 octets) (λ x.
    and_then (taken_at BOOLEAN truth_in segmented false x.1) (λ y. Some (x.0, y.0, y.1)))

-- ---- the members

abbrev pub is_data : Element → Bool
is_data e = is_ok (data_at 10 e)

-- the octets of one Data in front, and what follows
unfoldable pub data_in : List ℕ → Option (List ℕ × List ℕ)
data_in octets = and_then (kept (first_at octets)) (λ x. if is_data x.0 then Some (take (length octets - length x.1) octets, x.1) else None)

-- what follows as many elements as bits are set
abbrev pub behind_each : List Bool → List ℕ → Option (List ℕ)
behind_each [] octets = Some octets
behind_each (false ∷ bits) octets = behind_each bits octets
behind_each (true ∷ bits) octets = and_then (kept (first_at octets)) (λ x. behind_each bits x.1)

unfoldable pub member_at : Bool → Bool → ℕ → List ℕ → List ℕ → List ℕ → Option (Member × List ℕ × List ℕ × List ℕ)
member_at referred reasoned n a b c =
    and_then (taken_at VISIBLE_STRING text_in referred [] a) (λ x.
    and_then (data_in b) (λ y.
    and_then (taken_at BIT_STRING reasons_in reasoned no_reasons c) (λ z.
    Some (record { number = record { 0 = n }; reference = x.0; octets = y.0; reasons = z.0 }, x.1, y.1, z.1))))

-- the members after those so far, of the bits from a number on, whose references, Data and reasons begin in three places
abbrev pub members_at : Bool → Bool → ℕ → List Bool → List ℕ → List ℕ → List ℕ → List Member → Option (List Member)
members_at referred reasoned n [] a b c so_far = if length c == 0 then Some so_far else None
members_at referred reasoned n (false ∷ bits) a b c so_far = members_at referred reasoned (n + 1) bits a b c so_far
members_at referred reasoned n (true ∷ bits) a b c so_far = and_then (member_at referred reasoned n a b c) (λ x. members_at referred reasoned (n + 1) bits x.1 x.2 x.3 (so_far ++ x.0 ∷ []))

unfoldable pub body_at : Bool → Bool → List ℕ → Option (ℕ × List Member)
body_at referred reasoned octets =
    and_then (taken_at BIT_STRING inclusion_in true [] octets) (λ x.
    and_then (if referred then behind_each x.0 x.1 else Some x.1) (λ b.
    and_then (behind_each x.0 b) (λ c.
    and_then (members_at referred reasoned 1 x.0 x.1 b c []) (λ ms. Some (length x.0, ms)))))

-- ---- the PDU

abbrev pub is_rpt : List ℕ → Bool
is_rpt [] = false
is_rpt (a ∷ []) = false
is_rpt (a ∷ b ∷ []) = false
is_rpt (a ∷ b ∷ c ∷ []) = a == 82 && b == 80 && c == 84
is_rpt (a ∷ b ∷ c ∷ d ∷ rest) = false

-- the results of a report under the list name RPT
unfoldable pub results_in : List ℕ → Option (List ℕ)
results_in input =
    and_then (enclosed_at UNCONFIRMED input) (λ service.
    and_then (enclosed_at INFORMATION_REPORT service) (λ content.
    and_then (field_at VARIABLE_LIST_NAME true content) (λ x.
    and_then (said (enclosed_at VMD_SPECIFIC) [] x.0) (λ name.
    if is_rpt name then enclosed_at REPORT_RESULTS x.1 else None))))

unfoldable pub told_by : List ℕ → Option ReportPart
told_by results =
    and_then (identity_at results) (λ i.
    and_then (first_fields_at i.1 i.2) (λ f.
    and_then (further_fields_at i.1 f.3) (λ g.
    and_then (place_at (bit 9 i.1) g.3) (λ p.
    and_then (body_at (bit 5 i.1) (bit 3 i.1) p.2) (λ b.
    Some (record {
      report = record { block = record { 0 = 0 }; rpt_id = i.0; opt_flds = i.1; sq = f.0; time = f.1; dat_set = f.2; ovfl = g.0; id = g.1; conf_rev = g.2; total = b.0; members = b.1 };
      sub = p.0;
      more = p.1;
    }))))))

unfoldable pub part_at : List ℕ → Result ReportPart ReportFault
part_at input = required Invalid (and_then (results_in input) told_by)
