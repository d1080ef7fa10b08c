-- No PDU of a report is too long.
use Rattle.std.proofs.Common.{◌≡◌, ℕ, suc, ◌+◌, ◌/◌, ◌<◌, ◌≤◌, Bool, true, false, List, [], ◌∷◌, length, refl, sym, ap, subst, ◌∙◌, Some, None, arith, inl, inr}
use Rattle.std.specs.Prelude.{if◌then◌else◌, nat_le}
use Rattle.std.specs.List.{AllByRecursion, sum_by}
use Rattle.std.proofs.lemmas.Bool.{le-leb, leb-true, leb-false}
use Rattle.std.proofs.lemmas.List.Sums.{sum_by-cons}
use Rattle.ber_write.specs.Minimal.{uint_octets, element_size}
use Rattle.ber_write.proofs.NumberLaws.{length-uint_octets}
use Rattle.ber_write.proofs.LengthLaws.{at_most_three, at_most_two}
use Rattle.bay_model.specs.Parameters.{bit}
use Rattle.bay_model.specs.declared.report.Report.{Report}
use Rattle.bay_model.specs.declared.report.Member.{Member}
use Rattle.report_cut.specs.declared.segment.Segment.{Segment}
use Rattle.report_cut.specs.Fields.{identity, first_fields, further_fields, place, pdu}
use Rattle.report_cut.specs.Sizes.{size_if, cost, inclusion_size, fixed_size, results_size, framed}
use Rattle.report_cut.specs.Cutting.{cut_from, AllFit}
use Rattle.output_shapes.specs.Shapes.{IsShort, CanBeCut}
use Rattle.report_cut.specs.Pdus.{fits, spelled, pdus, AreSegments, IsCut}
use Rattle.report_cut.proofs.SizeLaws.{length_of_pdu, length_of_front, length_of_place, length_of_identity, length_of_first_fields, length_of_further_fields}
use Rattle.report_cut.proofs.CutLaws.{FitsAlone, fit_from, whole_from, full_from}
use Rattle.report_cut.proofs.StepLaws.{as_long}

size_small : (n : ℕ) → n < 256 → element_size n ≤ n + 3
unfolding element_size
size_small n lt = omega (arith, at_most_two n lt)

size_large : (n : ℕ) → n < 65536 → element_size n ≤ n + 4
unfolding element_size
size_large n lt = omega (arith, at_most_three n lt)

size_uint : (n : ℕ) → element_size (length (uint_octets n)) ≤ 12
size_uint n = omega (arith, length-uint_octets n, size_small (length (uint_octets n)) (omega (arith, length-uint_octets n)))

framed_short : (n : ℕ) → n < 60000 → framed n ≤ n + 19
unfolding framed
framed_short n lt =
    let a : element_size n ≤ n + 4 = size_large n (omega (arith, lt)) in
    let b : element_size (7 + element_size n) ≤ 7 + element_size n + 4 = size_large (7 + element_size n) (omega (arith, a, lt)) in
    let d : element_size (element_size (7 + element_size n)) ≤ element_size (7 + element_size n) + 4 = size_large (element_size (7 + element_size n)) (omega (arith, a, b, lt)) in
    omega (arith, a, b, d)

if_le : (b : Bool) (n m : ℕ) → n ≤ m → size_if b n ≤ m
if_le true n m le = le
if_le false n m le = omega arith

inclusion_few : (total : ℕ) → total ≤ 256 → inclusion_size total ≤ 36
inclusion_few total le = omega (arith, size_small ((total + 7) / 8 + 1) (omega (arith, few)), few)
  where
    few : (total + 7) / 8 + 1 < 34
    few = omega (arith, le)

fixed_few : (r : Report) (s : Segment) → CanBeCut r → fixed_size r (Some s) ≤ 366
fixed_few r s h =
    let i : length (identity r.rpt_id r.opt_flds (Some s)) ≤ 137 = omega (arith, length_of_identity r.rpt_id r.opt_flds (Some s) h.options, size_small (length r.rpt_id) (omega (arith, h.rpt_id)), h.rpt_id) in
    let f : length (first_fields r.opt_flds r.sq r.time r.dat_set) ≤ 152 = omega (
      arith,
      length_of_first_fields r.opt_flds r.sq r.time r.dat_set,
      if_le (bit 1 r.opt_flds) (element_size (length (uint_octets r.sq))) 12 (size_uint r.sq),
      if_le (bit 2 r.opt_flds) 8 8 (omega arith),
      if_le (bit 4 r.opt_flds) (element_size (length r.dat_set)) 132 (omega (arith, size_small (length r.dat_set) (omega (arith, h.dat_set)), h.dat_set)),
    ) in
    let g : length (further_fields r.opt_flds r.ovfl r.id r.conf_rev) ≤ 25 = omega (arith, length_of_further_fields r.opt_flds r.ovfl r.id r.conf_rev, if_le (bit 6 r.opt_flds) 3 3 (omega arith), if_le (bit 7 r.opt_flds) 10 10 (omega arith), if_le (bit 8 r.opt_flds) (element_size (length (uint_octets r.conf_rev))) 12 (size_uint r.conf_rev)) in
    let p : length (place (Some s)) ≤ 15 = omega (arith, length_of_place s, size_uint s.sub) in
    omega (arith, length_of_front r (Some s), i, f, g, p, inclusion_few r.total h.most)

cost_few : (opts : List Bool) (m : Member) → IsShort m → cost opts m ≤ 636
unfolding cost
cost_few opts m h = omega (arith, h.1, if_le (bit 5 opts) (element_size (length m.reference)) 132 (omega (arith, size_small (length m.reference) (omega (arith, h.0)), h.0)), if_le (bit 3 opts) 4 4 (omega arith))

-- a member alone always fits
alone : (r : Report) (size : ℕ) → CanBeCut r → 1024 ≤ size → (m : Member) → IsShort m → FitsAlone (fits r size) m
alone r size h le m short sub =
    let s : Segment = record { sub = sub; more = true } in
    let n : results_size r (Some s) (m ∷ []) ≤ 1002 = omega (arith, sum_by-cons (cost r.opt_flds) m [], fixed_few r s h, cost_few r.opt_flds m short) in
    le-leb (length (pdu r (Some s) (m ∷ []))) size (omega (arith, length_of_pdu r (Some s) (m ∷ []), framed_short (results_size r (Some s) (m ∷ [])) (omega (arith, n)), n, le))

all_alone : (r : Report) (size : ℕ) → CanBeCut r → 1024 ≤ size → (ms : List Member) → AllByRecursion IsShort ms → AllByRecursion (FitsAlone (fits r size)) ms
all_alone r size h le [] all = tt
all_alone r size h le (m ∷ ms) all = (alone r size h le m all.0, all_alone r size h le ms all.1)

last_as_long : (r : Report) (sub : ℕ) (s : List Member) → length r.opt_flds ≡ 10 → length (pdu r (Some (record { sub = sub; more = false })) s) ≡ length (pdu r (Some (record { sub = sub; more = true })) s)
last_as_long r sub s ten =
    length_of_pdu r (Some (record { sub = sub; more = false })) s
    ∙ ap (λ (n : ℕ). framed (n + sum_by (cost r.opt_flds) s)) (as_long r sub false true ten)
    ∙ sym (length_of_pdu r (Some (record { sub = sub; more = true })) s)

spelled_short : (r : Report) (size sub : ℕ) (ss : List (List Member)) → length r.opt_flds ≡ 10 → AllFit (fits r size) sub ss → AllByRecursion (λ o. length o ≤ size) (spelled r sub ss)
spelled_short r size sub [] ten h = tt
spelled_short r size sub (s ∷ []) ten h = (subst (λ (n : ℕ). n ≤ size) (sym (last_as_long r sub s ten)) (leb-true (length (pdu r (Some (record { sub = sub; more = true })) s)) size h.0), tt)
spelled_short r size sub (s ∷ t ∷ ss) ten h = (leb-true (length (pdu r (Some (record { sub = sub; more = true })) s)) size h.0, spelled_short r size (suc sub) (t ∷ ss) ten h.1)

pub all_fit : (r : Report) (size : ℕ) → CanBeCut r → 1024 ≤ size → AllFit (fits r size) 0 (cut_from (fits r size) 0 r.members)
all_fit r size h le = fit_from (fits r size) 0 r.members (all_alone r size h le r.members h.members)

-- each PDU is at most as long as the size
pub pdus_fit : (r : Report) (size : ℕ) → CanBeCut r → 1024 ≤ size → AllByRecursion (λ o. length o ≤ size) (pdus r size)
pdus_fit r size h le = either (nat_le (length (pdu r None r.members)) size) refl
  where
    either : (t : Bool) → nat_le (length (pdu r None r.members)) size ≡ t → AllByRecursion (λ o. length o ≤ size) (if t then pdu r None r.members ∷ [] else spelled r 0 (cut_from (fits r size) 0 r.members))
    either true e = (leb-true (length (pdu r None r.members)) size e, tt)
    either false e = spelled_short r size 0 (cut_from (fits r size) 0 r.members) h.options (all_fit r size h le)

pub segmented_well : (r : Report) (size : ℕ) → CanBeCut r → 1024 ≤ size → AreSegments r size (cut_from (fits r size) 0 r.members)
segmented_well r size h le = record { fit = all_fit r size h le; whole = whole_from (fits r size) 0 r.members; full = full_from (fits r size) 0 r.members }

-- the PDUs are cut as the standard has it
pub pdus_are_cut : (r : Report) (size : ℕ) → CanBeCut r → 1024 ≤ size → IsCut r size (pdus r size)
pdus_are_cut r size h le = either (nat_le (length (pdu r None r.members)) size) refl
  where
    either : (t : Bool) → nat_le (length (pdu r None r.members)) size ≡ t → IsCut r size (if t then pdu r None r.members ∷ [] else spelled r 0 (cut_from (fits r size) 0 r.members))
    either true e = inl (leb-true (length (pdu r None r.members)) size e, refl)
    either false e = inr (leb-false (length (pdu r None r.members)) size e, cut_from (fits r size) 0 r.members, segmented_well r size h le, refl)
