-- Which octets say one PDU of a report, and what (IEC 61850-8-1, mapping of the Report service; ISO 9506-2,
-- InformationReport).
use Rattle.std.specs.Prelude.{◌≡◌, ℕ, ◌+◌, ◌*◌, ◌<◌, ◌≤◌, ◌^◌, Bool, true, false, List, [], ◌∷◌, ◌++◌, length}
use Rattle.ber_grammar.specs.Octets.{big_endian}
use Rattle.ber_grammar.specs.Element.{Element, Spells, Begins, IsRow}
use Rattle.ber_grammar.specs.Content.{IsText, IsUint, IsBits, IsBoolean}
use Rattle.sv_base.specs.Tree.{Seen}
use Rattle.mms_data.specs.Grammar.{IsStamp, IsSpelled}
use Rattle.mms_data.specs.declared.tags.TheConstants.{BINARY_TIME, BIT_STRING, BOOLEAN, OCTET_STRING, UNSIGNED, VISIBLE_STRING}
use Rattle.mms_elements.specs.Reports.{IsReport}
use Rattle.mms_elements.specs.declared.tags.TheConstants.{VARIABLE_LIST_NAME, VMD_SPECIFIC}
use Rattle.bay_model.specs.Parameters.{bit}
use Rattle.bay_model.specs.declared.report.Report.{Report}
use Rattle.bay_model.specs.declared.report.Member.{Member}
use Rattle.bay_model.specs.declared.report.Reasons.{Reasons}
use Rattle.report_cut.specs.declared.part.ReportPart.{ReportPart}
use Rattle.report_cut.specs.declared.fault.ReportFault.{ReportFault}
use Rattle.report_cut.specs.declared.fault.ReportFault.TheVariants.{Invalid}

-- A field in front where it is asked for, an element with this tag whose content says x. Else x is the value for none.
abbrev pub Takes : {A : Type 0} → ℕ → (List ℕ → A → Type 0) → Bool → A → List ℕ → List ℕ → A → Type 0
Takes tag Is false none octets rest x = (x ≡ none) × (rest ≡ octets)
Takes tag Is true none octets rest x = (e : Element) × Begins octets e rest × (e.tag ≡ tag) × Is e.content x

-- ---- contents

abbrev pub IsBelow : ℕ → List ℕ → ℕ → Type 0
IsBelow bound content n = IsUint content n × (n < bound)

-- a binary time of a moment
abbrev pub IsMoment : List ℕ → ℕ → Type 0
IsMoment content t = (ms days : ℕ) × IsStamp content ms days × (ms < 86400000) × (t ≡ 441763200000 + days * 86400000 + ms) × (t ≤ 4294967295999)

abbrev pub IsEntryId : List ℕ → ℕ → Type 0
IsEntryId content id = (length content ≡ 8) × (id ≡ big_endian content)

abbrev pub IsOptFlds : List ℕ → List Bool → Type 0
IsOptFlds content bits = IsBits content bits × (length bits ≡ 10)

-- one bit a member of the data set
abbrev pub IsInclusion : List ℕ → List Bool → Type 0
IsInclusion content bits = IsBits content bits × (1 ≤ length bits) × (length bits ≤ 256)

-- ReasonForInclusion: seven bits, of which bits 1 to 5 are those of TrgOps and the others 0
abbrev pub IsReasons : List ℕ → Reasons → Type 0
IsReasons content r = IsBits content (false ∷ r.dchg ∷ r.qchg ∷ r.dupd ∷ r.intg ∷ r.gi ∷ false ∷ [])

abbrev pub no_reasons : Reasons
no_reasons = record { dchg = false; qchg = false; dupd = false; intg = false; gi = false }

-- ---- in front of the members

abbrev pub IsIdentity : List ℕ → List ℕ → Report → Type 0
IsIdentity octets rest r = (a : List ℕ) × Takes VISIBLE_STRING IsText true [] octets a r.rpt_id × Takes BIT_STRING IsOptFlds true [] a rest r.opt_flds

abbrev pub IsFirst : List ℕ → List ℕ → Report → Type 0
IsFirst octets rest r = (a b : List ℕ)
    × Takes UNSIGNED (IsBelow 65536) (bit 1 r.opt_flds) 0 octets a r.sq
    × Takes BINARY_TIME IsMoment (bit 2 r.opt_flds) 441763200000 a b r.time
    × Takes VISIBLE_STRING IsText (bit 4 r.opt_flds) [] b rest r.dat_set

abbrev pub IsFurther : List ℕ → List ℕ → Report → Type 0
IsFurther octets rest r = (a b : List ℕ)
    × Takes BOOLEAN IsBoolean (bit 6 r.opt_flds) false octets a r.ovfl
    × Takes OCTET_STRING IsEntryId (bit 7 r.opt_flds) 0 a b r.id
    × Takes UNSIGNED (IsBelow (2 ^ 32)) (bit 8 r.opt_flds) 0 b rest r.conf_rev

-- SubSqNum and MoreSegmentsFollow, where bit 9 says that the report goes in segments
abbrev pub IsPlace : List ℕ → List ℕ → ReportPart → Type 0
IsPlace octets rest p = (a : List ℕ)
    × Takes UNSIGNED (IsBelow (2 ^ 32)) (bit 9 p.report.opt_flds) 0 octets a p.sub
    × Takes BOOLEAN IsBoolean (bit 9 p.report.opt_flds) false a rest p.more

-- ---- the members

-- the bits from a number on: one that is set is that of the next member, which has this number
abbrev pub AreMarked : ℕ → List Bool → List Member → Type 0
AreMarked n [] [] = Unit {0}
AreMarked n [] (m ∷ ms) = ⊥
AreMarked n (false ∷ bits) ms = AreMarked (n + 1) bits ms
AreMarked n (true ∷ bits) [] = ⊥
AreMarked n (true ∷ bits) (m ∷ ms) = (m.number.0 ≡ n) × AreMarked (n + 1) bits ms

-- one whole Data
abbrev pub TakesData : List ℕ → List ℕ → List ℕ → Type 0
TakesData octets rest d = (octets ≡ d ++ rest) × (s : Seen) × IsSpelled d s

-- The members' references stand from a to x where they are asked for, their Data from b to y, and their reasons from c to z
-- where they are asked for.
abbrev pub AreTold : Bool → Bool → List ℕ → List ℕ → List ℕ → List ℕ → List ℕ → List ℕ → List Member → Type 0
AreTold referred reasoned a x b y c z [] = (a ≡ x) × (b ≡ y) × (c ≡ z)
AreTold referred reasoned a x b y c z (m ∷ ms) = (k l n : List ℕ)
    × Takes VISIBLE_STRING IsText referred [] a k m.reference × TakesData b l m.octets × Takes BIT_STRING IsReasons reasoned no_reasons c n m.reasons
    × AreTold referred reasoned k x l y n z ms

-- the inclusion bits, the references, the values and the reasons, to the end
abbrev pub IsBody : List ℕ → Report → Type 0
IsBody octets r = (bits : List Bool) × (a b c : List ℕ) × Takes BIT_STRING IsInclusion true [] octets a bits × (r.total ≡ length bits)
    × AreMarked 1 bits r.members × AreTold (bit 5 r.opt_flds) (bit 3 r.opt_flds) a b b c c [] r.members

-- ---- the PDU

abbrev pub IsResults : List ℕ → ReportPart → Type 0
IsResults octets p = (a b c d : List ℕ) × IsIdentity octets a p.report × IsFirst a b p.report × IsFurther b c p.report × IsPlace c d p × IsBody d p.report

-- the list name RPT, in any spelling
abbrev pub IsListName : List ℕ → Type 0
IsListName names = (v k : Element) × Spells names v × (v.tag ≡ VARIABLE_LIST_NAME) × IsRow v.content (k ∷ []) × (k.tag ≡ VMD_SPECIFIC) × (k.content ≡ 0x52 ∷ 0x50 ∷ 0x54 ∷ [])

-- The octets are the PDU of a report that says this. The number of the block is not sent: it is 0.
abbrev pub IsReportPart : List ℕ → ReportPart → Type 0
IsReportPart input p = (names results : List ℕ) × IsReport input names results × IsListName names × IsResults results p × (p.report.block.0 ≡ 0)

-- the octets are no PDU of a report
abbrev pub IsPartRefused : List ℕ → ReportFault → Type 0
IsPartRefused input f = (f ≡ Invalid) × ((p : ReportPart) → ¬ IsReportPart input p)
