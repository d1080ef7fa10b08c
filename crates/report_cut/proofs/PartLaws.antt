-- What is read of a PDU of a report is what it says, and what it says is read.
use Rattle.std.proofs.Common.{◌≡◌, ℕ, ◌^◌, ◌&&◌, cond, eqb, Bool, true, false, List, [], ◌∷◌, length, refl, sym, ap, subst, ◌∙◌, Option, Some, None, Ok, Err}
use Rattle.std.specs.Prelude.{if◌then◌else◌}
use Rattle.std.proofs.lemmas.Bool.{eqb-true, and_parts}
use Rattle.std.proofs.lemmas.List.{append-nil}
use Rattle.list_laws.proofs.Options.{some_is, chosen, ok_is}
use Rattle.ber_grammar.specs.Octets.{IsBytes}
use Rattle.ber_grammar.specs.Content.{IsText, IsBoolean}
use Rattle.ber_grammar.specs.Element.{Element, Spells, IsRow}
use Rattle.ber_grammar.specs.Reader.{and_then, Reads}
use Rattle.ber_grammar.specs.Steps.{required}
use Rattle.ber_grammar.proofs.OptionLaws.{then_some}
use Rattle.ber_grammar.proofs.OctetLaws.{Begins-bytes, Spells-bytes}
use Rattle.ber_grammar.proofs.ReaderLaws.{one_refusal}
use Rattle.ber_grammar.proofs.Theorems.{one_element}
use Rattle.ber_grammar.proofs.FieldLaws.{row_spells, spells_row}
use Rattle.mms_elements.specs.Invoke.{below_at}
use Rattle.mms_elements.specs.Reports.{IsReport}
use Rattle.bay_model.specs.Parameters.{bit}
use Rattle.bay_model.specs.declared.report.Report.{Report}
use Rattle.bay_model.specs.declared.report.Member.{Member}
use Rattle.report_cut.specs.declared.part.ReportPart.{ReportPart}
use Rattle.report_cut.specs.declared.fault.ReportFault.{ReportFault}
use Rattle.report_cut.specs.declared.fault.ReportFault.TheVariants.{Invalid}
use Rattle.report_cut.specs.Part.{Takes, IsBelow, IsMoment, IsEntryId, IsOptFlds, IsInclusion, AreMarked, AreTold, IsIdentity, IsFirst, IsFurther, IsPlace, IsBody, IsResults, IsListName, IsReportPart, IsPartRefused}
use Rattle.report_cut.specs.PartReading.{enclosed_at, field_at, said, taken_at, text_in, truth_in, moment_in, id_in, options_in, inclusion_in, identity_at, first_fields_at, further_fields_at, place_at, behind_each, members_at, body_at, is_rpt, results_in, told_by, part_at}
use Rattle.report_cut.proofs.ContentLaws.{text_is, text_comes, truth_is, truth_comes, number_is, number_comes, id_is, id_comes, moment_is, moment_comes, options_are, options_come, inclusion_is, inclusion_comes}
use Rattle.report_cut.proofs.TakingLaws.{takes_found, takes_again, takes_bytes, enclosed_found, enclosed_again, field_found, field_again, said_some}
use Rattle.report_cut.proofs.ToldLaws.{members_found, members_again, references_end, none_end, values_end, behind_bytes}

-- ---- groups of fields

abbrev IdentityTold : List ℕ → List ℕ × List Bool × List ℕ → Type 0
IdentityTold octets x = (a : List ℕ) × Takes 138 IsText true [] octets a x.0 × Takes 132 IsOptFlds true [] a x.2 x.1

identity_found : (octets : List ℕ) (x : List ℕ × List Bool × List ℕ) → IsBytes octets → identity_at octets ≡ Some x → IdentityTold octets x × IsBytes x.2
unfolding identity_at
identity_found octets x fits h =
    let i = then_some (taken_at 138 text_in true [] octets) (λ p. and_then (taken_at 132 options_in true [] p.1) (λ q. Some (p.0, q.0, q.1))) x h in
    let j = then_some (taken_at 132 options_in true [] i.0.1) (λ q. Some (i.0.0, q.0, q.1)) x i.2 in
    let p = takes_found 138 text_in IsText text_is text_comes true [] octets i.0 fits i.1 in
    let q = takes_found 132 options_in IsOptFlds options_are options_come true [] i.0.1 j.0 p.1 j.1 in
    subst (λ (y : List ℕ × List Bool × List ℕ). IdentityTold octets y × IsBytes y.2) (some_is (i.0.0, j.0.0, j.0.1) x j.2) ((i.0.1, p.0, q.0), q.1)

identity_again : (octets rest : List ℕ) (r : Report) → IsBytes octets → IsIdentity octets rest r → (identity_at octets ≡ Some (r.rpt_id, r.opt_flds, rest)) × IsBytes rest
unfolding identity_at
identity_again octets rest r fits (a, p, q) = (
  rw (takes_again 138 text_in IsText text_is text_comes true [] octets a r.rpt_id p, takes_again 132 options_in IsOptFlds options_are options_come true [] a rest r.opt_flds q) refl,
  takes_bytes 132 options_in IsOptFlds options_are options_come true [] a rest r.opt_flds (takes_bytes 138 text_in IsText text_is text_comes true [] octets a r.rpt_id fits p) q,
)

abbrev FirstTold : List Bool → List ℕ → ℕ × ℕ × List ℕ × List ℕ → Type 0
FirstTold opts octets x = (a b : List ℕ) × Takes 134 (IsBelow 65536) (bit 1 opts) 0 octets a x.0 × Takes 140 IsMoment (bit 2 opts) 441763200000 a b x.1 × Takes 138 IsText (bit 4 opts) [] b x.3 x.2

first_found : (opts : List Bool) (octets : List ℕ) (x : ℕ × ℕ × List ℕ × List ℕ) → IsBytes octets → first_fields_at opts octets ≡ Some x → FirstTold opts octets x × IsBytes x.3
unfolding first_fields_at
first_found opts octets x fits h =
    let i = then_some (taken_at 134 (below_at 65536) (bit 1 opts) 0 octets) (λ p. and_then (taken_at 140 moment_in (bit 2 opts) 441763200000 p.1) (λ q. and_then (taken_at 138 text_in (bit 4 opts) [] q.1) (λ r. Some (p.0, q.0, r.0, r.1)))) x h in
    let j = then_some (taken_at 140 moment_in (bit 2 opts) 441763200000 i.0.1) (λ q. and_then (taken_at 138 text_in (bit 4 opts) [] q.1) (λ r. Some (i.0.0, q.0, r.0, r.1))) x i.2 in
    let k = then_some (taken_at 138 text_in (bit 4 opts) [] j.0.1) (λ r. Some (i.0.0, j.0.0, r.0, r.1)) x j.2 in
    let p = takes_found 134 (below_at 65536) (IsBelow 65536) (number_is 65536) (number_comes 65536) (bit 1 opts) 0 octets i.0 fits i.1 in
    let q = takes_found 140 moment_in IsMoment moment_is moment_comes (bit 2 opts) 441763200000 i.0.1 j.0 p.1 j.1 in
    let r = takes_found 138 text_in IsText text_is text_comes (bit 4 opts) [] j.0.1 k.0 q.1 k.1 in
    subst (λ (y : ℕ × ℕ × List ℕ × List ℕ). FirstTold opts octets y × IsBytes y.3) (some_is (i.0.0, j.0.0, k.0.0, k.0.1) x k.2) ((i.0.1, j.0.1, p.0, q.0, r.0), r.1)

first_again : (octets rest : List ℕ) (r : Report) → IsBytes octets → IsFirst octets rest r → (first_fields_at r.opt_flds octets ≡ Some (r.sq, r.time, r.dat_set, rest)) × IsBytes rest
unfolding first_fields_at
first_again octets rest r fits (a, b, p, q, s) = (
  rw (
    takes_again 134 (below_at 65536) (IsBelow 65536) (number_is 65536) (number_comes 65536) (bit 1 r.opt_flds) 0 octets a r.sq p,
    takes_again 140 moment_in IsMoment moment_is moment_comes (bit 2 r.opt_flds) 441763200000 a b r.time q,
    takes_again 138 text_in IsText text_is text_comes (bit 4 r.opt_flds) [] b rest r.dat_set s,
  ) refl,
  takes_bytes 138 text_in IsText text_is text_comes (bit 4 r.opt_flds) [] b rest r.dat_set
      (takes_bytes 140 moment_in IsMoment moment_is moment_comes (bit 2 r.opt_flds) 441763200000 a b r.time
      (takes_bytes 134 (below_at 65536) (IsBelow 65536) (number_is 65536) (number_comes 65536) (bit 1 r.opt_flds) 0 octets a r.sq fits p) q) s,
)

abbrev FurtherTold : List Bool → List ℕ → Bool × ℕ × ℕ × List ℕ → Type 0
FurtherTold opts octets x = (a b : List ℕ) × Takes 131 IsBoolean (bit 6 opts) false octets a x.0 × Takes 137 IsEntryId (bit 7 opts) 0 a b x.1 × Takes 134 (IsBelow (2 ^ 32)) (bit 8 opts) 0 b x.3 x.2

further_found : (opts : List Bool) (octets : List ℕ) (x : Bool × ℕ × ℕ × List ℕ) → IsBytes octets → further_fields_at opts octets ≡ Some x → FurtherTold opts octets x × IsBytes x.3
unfolding further_fields_at
further_found opts octets x fits h =
    let i = then_some (taken_at 131 truth_in (bit 6 opts) false octets) (λ p. and_then (taken_at 137 id_in (bit 7 opts) 0 p.1) (λ q. and_then (taken_at 134 (below_at (2 ^ 32)) (bit 8 opts) 0 q.1) (λ r. Some (p.0, q.0, r.0, r.1)))) x h in
    let j = then_some (taken_at 137 id_in (bit 7 opts) 0 i.0.1) (λ q. and_then (taken_at 134 (below_at (2 ^ 32)) (bit 8 opts) 0 q.1) (λ r. Some (i.0.0, q.0, r.0, r.1))) x i.2 in
    let k = then_some (taken_at 134 (below_at (2 ^ 32)) (bit 8 opts) 0 j.0.1) (λ r. Some (i.0.0, j.0.0, r.0, r.1)) x j.2 in
    let p = takes_found 131 truth_in IsBoolean truth_is truth_comes (bit 6 opts) false octets i.0 fits i.1 in
    let q = takes_found 137 id_in IsEntryId id_is id_comes (bit 7 opts) 0 i.0.1 j.0 p.1 j.1 in
    let r = takes_found 134 (below_at (2 ^ 32)) (IsBelow (2 ^ 32)) (number_is (2 ^ 32)) (number_comes (2 ^ 32)) (bit 8 opts) 0 j.0.1 k.0 q.1 k.1 in
    subst (λ (y : Bool × ℕ × ℕ × List ℕ). FurtherTold opts octets y × IsBytes y.3) (some_is (i.0.0, j.0.0, k.0.0, k.0.1) x k.2) ((i.0.1, j.0.1, p.0, q.0, r.0), r.1)

further_again : (octets rest : List ℕ) (r : Report) → IsBytes octets → IsFurther octets rest r → (further_fields_at r.opt_flds octets ≡ Some (r.ovfl, r.id, r.conf_rev, rest)) × IsBytes rest
unfolding further_fields_at
further_again octets rest r fits (a, b, p, q, s) = (
  rw (
    takes_again 131 truth_in IsBoolean truth_is truth_comes (bit 6 r.opt_flds) false octets a r.ovfl p,
    takes_again 137 id_in IsEntryId id_is id_comes (bit 7 r.opt_flds) 0 a b r.id q,
    takes_again 134 (below_at (2 ^ 32)) (IsBelow (2 ^ 32)) (number_is (2 ^ 32)) (number_comes (2 ^ 32)) (bit 8 r.opt_flds) 0 b rest r.conf_rev s,
  ) refl,
  takes_bytes 134 (below_at (2 ^ 32)) (IsBelow (2 ^ 32)) (number_is (2 ^ 32)) (number_comes (2 ^ 32)) (bit 8 r.opt_flds) 0 b rest r.conf_rev
      (takes_bytes 137 id_in IsEntryId id_is id_comes (bit 7 r.opt_flds) 0 a b r.id
      (takes_bytes 131 truth_in IsBoolean truth_is truth_comes (bit 6 r.opt_flds) false octets a r.ovfl fits p) q) s,
)

abbrev PlaceTold : Bool → List ℕ → ℕ × Bool × List ℕ → Type 0
PlaceTold segmented octets x = (a : List ℕ) × Takes 134 (IsBelow (2 ^ 32)) segmented 0 octets a x.0 × Takes 131 IsBoolean segmented false a x.2 x.1

place_found : (segmented : Bool) (octets : List ℕ) (x : ℕ × Bool × List ℕ) → IsBytes octets → place_at segmented octets ≡ Some x → PlaceTold segmented octets x × IsBytes x.2
unfolding place_at
place_found segmented octets x fits h =
    let i = then_some (taken_at 134 (below_at (2 ^ 32)) segmented 0 octets) (λ p. and_then (taken_at 131 truth_in segmented false p.1) (λ q. Some (p.0, q.0, q.1))) x h in
    let j = then_some (taken_at 131 truth_in segmented false i.0.1) (λ q. Some (i.0.0, q.0, q.1)) x i.2 in
    let p = takes_found 134 (below_at (2 ^ 32)) (IsBelow (2 ^ 32)) (number_is (2 ^ 32)) (number_comes (2 ^ 32)) segmented 0 octets i.0 fits i.1 in
    let q = takes_found 131 truth_in IsBoolean truth_is truth_comes segmented false i.0.1 j.0 p.1 j.1 in
    subst (λ (y : ℕ × Bool × List ℕ). PlaceTold segmented octets y × IsBytes y.2) (some_is (i.0.0, j.0.0, j.0.1) x j.2) ((i.0.1, p.0, q.0), q.1)

place_again : (octets rest : List ℕ) (p : ReportPart) → IsBytes octets → IsPlace octets rest p → (place_at (bit 9 p.report.opt_flds) octets ≡ Some (p.sub, p.more, rest)) × IsBytes rest
unfolding place_at
place_again octets rest p fits (a, q, r) = (
  rw (
    takes_again 134 (below_at (2 ^ 32)) (IsBelow (2 ^ 32)) (number_is (2 ^ 32)) (number_comes (2 ^ 32)) (bit 9 p.report.opt_flds) 0 octets a p.sub q,
    takes_again 131 truth_in IsBoolean truth_is truth_comes (bit 9 p.report.opt_flds) false a rest p.more r,
  ) refl,
  takes_bytes 131 truth_in IsBoolean truth_is truth_comes (bit 9 p.report.opt_flds) false a rest p.more
      (takes_bytes 134 (below_at (2 ^ 32)) (IsBelow (2 ^ 32)) (number_is (2 ^ 32)) (number_comes (2 ^ 32)) (bit 9 p.report.opt_flds) 0 octets a p.sub fits q) r,
)

-- ---- the members

abbrev BodyTold : Bool → Bool → List ℕ → ℕ × List Member → Type 0
BodyTold referred reasoned octets x = (bits : List Bool) × (a b c : List ℕ) × Takes 132 IsInclusion true [] octets a bits × (x.0 ≡ length bits) × AreMarked 1 bits x.1 × AreTold referred reasoned a b b c c [] x.1

-- the Data begin where the references end
ends_found : (referred reasoned : Bool) (bits : List Bool) (a b x y c : List ℕ) (ms : List Member) → (if referred then behind_each bits a else Some a) ≡ Some b → behind_each bits b ≡ Some c
    → AreMarked 1 bits ms → AreTold referred reasoned a x b y c [] ms → AreTold referred reasoned a b b c c [] ms
ends_found true reasoned bits a b x y c ms p q marked told =
    let i : x ≡ b = some_is x b (sym (references_end reasoned 1 bits a x b y c [] ms marked told) ∙ p) in
    let j : y ≡ c = some_is y c (sym (values_end true reasoned 1 bits a x b y c [] ms marked told) ∙ q) in
    subst (λ (o : List ℕ). AreTold true reasoned a b b o c [] ms) j (subst (λ (o : List ℕ). AreTold true reasoned a o b y c [] ms) i told)
ends_found false reasoned bits a b x y c ms p q marked told =
    let i : x ≡ b = sym (none_end reasoned a x b y c [] ms told) ∙ some_is a b p in
    let j : y ≡ c = some_is y c (sym (values_end false reasoned 1 bits a x b y c [] ms marked told) ∙ q) in
    subst (λ (o : List ℕ). AreTold false reasoned a b b o c [] ms) j (subst (λ (o : List ℕ). AreTold false reasoned a o b y c [] ms) i told)

skipped_bytes : (referred : Bool) (bits : List Bool) (a b : List ℕ) → IsBytes a → (if referred then behind_each bits a else Some a) ≡ Some b → IsBytes b
skipped_bytes true bits a b fits h = behind_bytes bits a b fits h
skipped_bytes false bits a b fits h = subst (λ (o : List ℕ). IsBytes o) (some_is a b h) fits

body_found : (referred reasoned : Bool) (octets : List ℕ) (x : ℕ × List Member) → IsBytes octets → body_at referred reasoned octets ≡ Some x → BodyTold referred reasoned octets x
unfolding body_at
body_found referred reasoned octets x fits h =
    let last = λ (p : List Bool × List ℕ) (b c : List ℕ). and_then (members_at referred reasoned 1 p.0 p.1 b c []) (λ ms. Some (length p.0, ms)) in
    let skip = λ (p : List Bool × List ℕ). if referred then behind_each p.0 p.1 else Some p.1 in
    let i = then_some (taken_at 132 inclusion_in true [] octets) (λ p. and_then (skip p) (λ b. and_then (behind_each p.0 b) (λ c. last p b c))) x h in
    let j = then_some (skip i.0) (λ b. and_then (behind_each i.0.0 b) (λ c. last i.0 b c)) x i.2 in
    let k = then_some (behind_each i.0.0 j.0) (λ c. last i.0 j.0 c) x j.2 in
    let l = then_some (members_at referred reasoned 1 i.0.0 i.0.1 j.0 k.0 []) (λ ms. Some (length i.0.0, ms)) x k.2 in
    let p = takes_found 132 inclusion_in IsInclusion inclusion_is inclusion_comes true [] octets i.0 fits i.1 in
    let b = skipped_bytes referred i.0.0 i.0.1 j.0 p.1 j.1 in
    let c = behind_bytes i.0.0 j.0 k.0 b k.1 in
    let m = members_found referred reasoned 1 i.0.0 i.0.1 j.0 k.0 [] l.0 (p.1, b, c) l.1 in
    let same : m.0 ≡ l.0 = sym m.3 in
    let told = ends_found referred reasoned i.0.0 i.0.1 j.0 m.1 m.2 k.0 m.0 j.1 k.1 m.4 m.5 in
    subst (λ (y : ℕ × List Member). BodyTold referred reasoned octets y) (some_is (length i.0.0, l.0) x l.2)
    (subst (λ (ms : List Member). BodyTold referred reasoned octets (length i.0.0, ms)) same (i.0.0, i.0.1, j.0, k.0, p.0, refl, m.4, told))

skipped_again : (referred reasoned : Bool) (bits : List Bool) (a b c : List ℕ) (ms : List Member) → AreMarked 1 bits ms → AreTold referred reasoned a b b c c [] ms → (if referred then behind_each bits a else Some a) ≡ Some b
skipped_again true reasoned bits a b c ms marked told = references_end reasoned 1 bits a b b c c [] ms marked told
skipped_again false reasoned bits a b c ms marked told = ap (λ (o : List ℕ). Some o) (none_end reasoned a b b c c [] ms told)

body_again : (octets : List ℕ) (r : Report) → IsBytes octets → IsBody octets r → body_at (bit 5 r.opt_flds) (bit 3 r.opt_flds) octets ≡ Some (r.total, r.members)
unfolding body_at
body_again octets r fits (bits, a, b, c, p, count, marked, told) =
    let skip = skipped_again (bit 5 r.opt_flds) (bit 3 r.opt_flds) bits a b c r.members marked told in
    let bytes = skipped_bytes (bit 5 r.opt_flds) bits a b (takes_bytes 132 inclusion_in IsInclusion inclusion_is inclusion_comes true [] octets a bits fits p) skip in
    rw (
      takes_again 132 inclusion_in IsInclusion inclusion_is inclusion_comes true [] octets a bits p,
      skip,
      values_end (bit 5 r.opt_flds) (bit 3 r.opt_flds) 1 bits a b b c c [] r.members marked told,
      members_again (bit 5 r.opt_flds) (bit 3 r.opt_flds) 1 bits a b b c c [] r.members bytes marked told,
    ) (ap (λ (n : ℕ). Some (n, r.members)) (sym count))

-- ---- the results

abbrev made : List ℕ × List Bool × List ℕ → ℕ × ℕ × List ℕ × List ℕ → Bool × ℕ × ℕ × List ℕ → ℕ × Bool × List ℕ → ℕ × List Member → ReportPart
made i f g s b = record {
  report = record { block = record { 0 = 0 }; rpt_id = i.0; opt_flds = i.1; sq = f.0; time = f.1; dat_set = f.2; ovfl = g.0; id = g.1; conf_rev = g.2; total = b.0; members = b.1 };
  sub = s.0;
  more = s.1;
}

pub told_found : (results : List ℕ) (p : ReportPart) → IsBytes results → told_by results ≡ Some p → IsResults results p × (p.report.block.0 ≡ 0)
unfolding told_by
told_found results p fits h =
    let i = then_some (identity_at results) (λ i. and_then (first_fields_at i.1 i.2) (λ f. and_then (further_fields_at i.1 f.3) (λ g. and_then (place_at (bit 9 i.1) g.3) (λ s. and_then (body_at (bit 5 i.1) (bit 3 i.1) s.2) (λ b. Some (made i f g s b)))))) p h in
    let f = then_some (first_fields_at i.0.1 i.0.2) (λ f. and_then (further_fields_at i.0.1 f.3) (λ g. and_then (place_at (bit 9 i.0.1) g.3) (λ s. and_then (body_at (bit 5 i.0.1) (bit 3 i.0.1) s.2) (λ b. Some (made i.0 f g s b))))) p i.2 in
    let g = then_some (further_fields_at i.0.1 f.0.3) (λ g. and_then (place_at (bit 9 i.0.1) g.3) (λ s. and_then (body_at (bit 5 i.0.1) (bit 3 i.0.1) s.2) (λ b. Some (made i.0 f.0 g s b)))) p f.2 in
    let s = then_some (place_at (bit 9 i.0.1) g.0.3) (λ s. and_then (body_at (bit 5 i.0.1) (bit 3 i.0.1) s.2) (λ b. Some (made i.0 f.0 g.0 s b))) p g.2 in
    let b = then_some (body_at (bit 5 i.0.1) (bit 3 i.0.1) s.0.2) (λ b. Some (made i.0 f.0 g.0 s.0 b)) p s.2 in
    let i_told = identity_found results i.0 fits i.1 in
    let f_told = first_found i.0.1 i.0.2 f.0 i_told.1 f.1 in
    let g_told = further_found i.0.1 f.0.3 g.0 f_told.1 g.1 in
    let s_told = place_found (bit 9 i.0.1) g.0.3 s.0 g_told.1 s.1 in
    let b_told = body_found (bit 5 i.0.1) (bit 3 i.0.1) s.0.2 b.0 s_told.1 b.1 in
    subst (λ (q : ReportPart). IsResults results q × (q.report.block.0 ≡ 0)) (some_is (made i.0 f.0 g.0 s.0 b.0) p b.2) ((i.0.2, f.0.3, g.0.3, s.0.2, i_told.0, f_told.0, g_told.0, s_told.0, b_told), refl)

pub told_again : (results : List ℕ) (p : ReportPart) → IsBytes results → IsResults results p → p.report.block.0 ≡ 0 → told_by results ≡ Some p
unfolding told_by
told_again results p fits (a, b, c, d, i, f, g, s, body) none =
    let r = p.report in
    let i_is = identity_again results a r fits i in
    let f_is = first_again a b r i_is.1 f in
    let g_is = further_again b c r f_is.1 g in
    let s_is = place_again c d p g_is.1 s in
    rw (i_is.0, f_is.0, g_is.0, s_is.0, body_again d r s_is.1 body) (ap (λ (n : ℕ). Some (record {
      report = record { block = record { 0 = n }; rpt_id = r.rpt_id; opt_flds = r.opt_flds; sq = r.sq; time = r.time; dat_set = r.dat_set; ovfl = r.ovfl; id = r.id; conf_rev = r.conf_rev; total = r.total; members = r.members };
      sub = p.sub;
      more = p.more;
    })) (sym none))

-- ---- the PDU

abbrev rpt_name : List ℕ
rpt_name = 82 ∷ 80 ∷ 84 ∷ []

name_is : (name : List ℕ) → is_rpt name ≡ true → name ≡ rpt_name
name_is [] h = absurd cc
name_is (a ∷ []) h = absurd cc
name_is (a ∷ b ∷ []) h = absurd cc
name_is (a ∷ b ∷ c ∷ []) h =
    let x = and_parts (eqb a 82 && eqb b 80) (eqb c 84) h in
    let y = and_parts (eqb a 82) (eqb b 80) x.0 in
    rw (eqb-true a 82 y.0, eqb-true b 80 y.1, eqb-true c 84 x.1) refl
name_is (a ∷ b ∷ c ∷ d ∷ rest) h = absurd cc

-- the results, with the octets of the list name
abbrev Framed : List ℕ → List ℕ → Type 0
Framed input results = (names : List ℕ) × IsReport input names results × IsListName names × IsBytes results

results_found : (input results : List ℕ) → IsBytes input → results_in input ≡ Some results → Framed input results
unfolding results_in
results_found input results fits h =
    let i = then_some (enclosed_at 163 input) (λ service. and_then (enclosed_at 160 service) (λ content. and_then (field_at 161 true content) (λ x. and_then (said (enclosed_at 128) [] x.0) (λ name. cond (is_rpt name) (enclosed_at 160 x.1) None)))) results h in
    let j = then_some (enclosed_at 160 i.0) (λ content. and_then (field_at 161 true content) (λ x. and_then (said (enclosed_at 128) [] x.0) (λ name. cond (is_rpt name) (enclosed_at 160 x.1) None))) results i.2 in
    let k = then_some (field_at 161 true j.0) (λ x. and_then (said (enclosed_at 128) [] x.0) (λ name. cond (is_rpt name) (enclosed_at 160 x.1) None)) results j.2 in
    let l = then_some (said (enclosed_at 128) [] k.0.0) (λ name. cond (is_rpt name) (enclosed_at 160 k.0.1) None) results k.2 in
    let m = chosen (is_rpt l.0) (enclosed_at 160 k.0.1) results l.2 in
    let pdu = enclosed_found 163 input i.0 i.1 in
    let service = enclosed_found 160 i.0 j.0 j.1 in
    let names = field_found 161 j.0 k.0 k.1 in
    let name = enclosed_found 128 names.0.content l.0 (said_some (enclosed_at 128) [] l.0 names.0.content k.0.0 names.3 l.1) in
    let found = enclosed_found 160 k.0.1 results m.1 in
    let begun = names.1 in
    let i_fits : IsBytes i.0 = subst (λ (o : List ℕ). IsBytes o) pdu.3 (Spells-bytes input pdu.0 fits pdu.1) in
    let j_fits : IsBytes j.0 = subst (λ (o : List ℕ). IsBytes o) service.3 (Spells-bytes i.0 service.0 i_fits service.1) in
    let k_fits : IsBytes k.0.1 = (Begins-bytes j.0 names.0 k.0.1 j_fits begun).1 in (
      begun.0,
      (
        pdu.0,
        service.0,
        names.0,
        found.0,
        pdu.1,
        pdu.2,
        subst (λ (o : List ℕ). IsRow o (service.0 ∷ [])) (sym pdu.3) (spells_row i.0 service.0 service.1),
        service.2,
        subst (λ (o : List ℕ). IsRow o (names.0 ∷ found.0 ∷ [])) (sym service.3) (begun.0, k.0.1, begun.1, begun.2, spells_row k.0.1 found.0 found.1),
        begun.1,
        found.2,
        found.3,
      ),
      (names.0, name.0, begun.1, names.2, spells_row names.0.content name.0 name.1, name.2, name.3 ∙ name_is l.0 m.0),
      subst (λ (o : List ℕ). IsBytes o) found.3 (Spells-bytes k.0.1 found.0 k_fits found.1),
    )

results_again : (input names results : List ℕ) → IsBytes input → IsReport input names results → IsListName names → (results_in input ≡ Some results) × IsBytes results
unfolding results_in
results_again input names results fits (e, k, v, r, s, e_tag, e_row, k_tag, (front, rest, v_spelled, p, r_row), v_names, r_tag, holds) (w, n, w_spelled, w_tag, w_row, n_tag, n_name) =
    let k_spelled = row_spells e.content k e_row in
    let r_spelled = row_spells rest r r_row in
    let e_fits = Spells-bytes input e fits s in
    let k_fits = Spells-bytes e.content k e_fits k_spelled in
    let r_fits = (Begins-bytes k.content v rest k_fits (front, v_spelled, p)).1 in
    let same : v ≡ w = (one_element names v w [] [] (names, v_names, sym (append-nil names)) (names, w_spelled, sym (append-nil names))).0 in
    let v_tag : v.tag ≡ 161 = ap (λ (x : Element). x.tag) same ∙ w_tag in
    let n_spelled : Spells v.content n = subst (λ (x : Element). Spells x.content n) (sym same) (row_spells w.content n w_row) in (
      rw (
        enclosed_again 163 input e.content e s e_tag refl,
        enclosed_again 160 e.content k.content k k_spelled k_tag refl,
        field_again 161 k.content rest v (front, v_spelled, p) v_tag,
        enclosed_again 128 v.content rpt_name n n_spelled n_tag n_name,
      ) (enclosed_again 160 rest results r r_spelled r_tag holds),
      subst (λ (o : List ℕ). IsBytes o) holds (Spells-bytes rest r r_fits r_spelled),
    )

required_ok : {A F : Type 0} (o : Option A) (f : F) (x : A) → required f o ≡ Ok x → o ≡ Some x
required_ok {F = F} (Some y) f x e = ap (λ (z : _). Some z) (ok_is {F = F} y x e)
required_ok None f x e = absurd cc

required_err : {A : Type 0} (o : Option A) (f : ReportFault) → required Invalid o ≡ Err f → f ≡ Invalid
required_err (Some y) f e = absurd cc
required_err None f e = cc

pub part_found : (input : List ℕ) (p : ReportPart) → IsBytes input → part_at input ≡ Ok p → IsReportPart input p
unfolding part_at
part_found input p fits h =
    let a = then_some (results_in input) told_by p (required_ok (and_then (results_in input) told_by) Invalid p h) in
    let b = results_found input a.0 fits a.1 in
    let c = told_found a.0 p b.3 a.2 in
    (b.0, a.0, b.1, b.2, c.0, c.1)

pub part_again : (input : List ℕ) (p : ReportPart) → IsBytes input → IsReportPart input p → part_at input ≡ Ok p
unfolding part_at
part_again input p fits (names, results, report, list, told, none) =
    let a = results_again input names results fits report list in
    rw (a.0, told_again results p a.1 told none) refl

part_fault : (input : List ℕ) (f : ReportFault) → part_at input ≡ Err f → f ≡ Invalid
unfolding part_at
part_fault input f h = required_err (and_then (results_in input) told_by) f h

pub part_exact : (input : List ℕ) → IsBytes input → Reads (λ (p : ReportPart). p) (part_at input) (IsReportPart input) (IsPartRefused input)
part_exact input fits = one_refusal (part_at input) (IsReportPart input) Invalid (λ p e. part_found input p fits e) (λ p is. part_again input p fits is) (part_fault input)

-- a PDU says one thing
pub one_part : (input : List ℕ) (p q : ReportPart) → IsBytes input → IsReportPart input p → IsReportPart input q → p ≡ q
one_part input p q fits is also = ok_is {F = ReportFault} p q (sym (part_again input p fits is) ∙ part_again input q fits also)
