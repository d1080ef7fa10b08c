-- What is written of a report is read back.
use Rattle.std.proofs.Common.{◌≡◌, ℕ, suc, ◌+◌, ◌-◌, ◌/◌, ◌%◌, ◌^◌, ◌<◌, ◌≤◌, Bool, true, false, List, [], ◌∷◌, ◌++◌, length, map, get_or, refl, sym, ap, subst, ◌∙◌, append_assoc, Option, Some, None, arith}
use Rattle.std.specs.Prelude.{if◌then◌else◌, is_some, ◌==◌, ◌||◌, nat_le}
use Rattle.std.specs.Int.{w64, to_be_bytes}
use Rattle.std.specs.List.{AllByRecursion}
use Rattle.std.proofs.lemmas.Bool.{eqb-true, eqb-false, ne_eqb}
use Rattle.std.proofs.lemmas.List.{append-nil}
use Rattle.ber_grammar.specs.Content.{IsText, IsBoolean}
use Rattle.ber_write.specs.Minimal.{octets_of, written, uint_octets, CanBeTag}
use Rattle.ber_write.specs.BitString.{bit_octets}
use Rattle.ber_write.proofs.ElementLaws.{is_spelling}
use Rattle.ber_write.proofs.NumberLaws.{uint_octets-spell, big_endian-64, uint_short}
use Rattle.ber_write.proofs.BitLaws.{bit_octets-spell, length_of_bit_octets}
use Rattle.ber_write.proofs.WrittenLaws.{one_octet, written_last}
use Rattle.mms_data.proofs.ReadBackLaws.{big_endian-32, big_endian-16}
use Rattle.bay_model.specs.Parameters.{bit}
use Rattle.bay_model.specs.declared.report.Report.{Report}
use Rattle.bay_model.specs.declared.report.Member.{Member}
use Rattle.bay_model.specs.declared.report.Reasons.{Reasons}
use Rattle.report_cut.specs.declared.segment.Segment.{Segment}
use Rattle.report_cut.specs.Fields.{optional, truth, flags, time_octets, identity, first_fields, further_fields, place, included, inclusion, references, values, reasons, reasons_content, front, body, results, rpt, pdu, is_there}
use Rattle.report_cut.specs.Cutting.{segments, cut_from, concat}
use Rattle.output_shapes.specs.Shapes.{Ascend, IsShort, HasData, CanBeCut}
use Rattle.report_cut.specs.Pdus.{fits, spelled, pdus}
use Rattle.report_cut.specs.Part.{Takes, IsBelow, IsMoment, IsEntryId, IsReasons, no_reasons, IsIdentity, IsFirst, IsFurther, AreMarked, AreTold, IsBody, IsResults, IsListName, IsReportPart}
use Rattle.report_cut.specs.Told.{told_member, sub_of, more_of, told, parts_from, parts, AreParts, AreVisible, CanBeRead}
use Rattle.report_cut.proofs.SizeLaws.{length_of_flags, length_of_included}
use Rattle.report_cut.proofs.InclusionLaws.{tells}
use Rattle.report_cut.proofs.CutLaws.{whole_from}
use Rattle.report_cut.proofs.FitLaws.{pdus_fit}
use Rattle.report_cut.proofs.StepLaws.{few_members}
use Rattle.report_cut.proofs.RowLaws.{tag_131, tag_132, tag_134, tag_137, tag_138, tag_140, pdu_is_report}

-- one field, asked for by a bit that is that of another row of bits
takes : {A : Type 0} (tag : ℕ) (Is : List ℕ → A → Type 0) (asked other : Bool) (none x : A) (c rest : List ℕ) → asked ≡ other → CanBeTag tag → length c < 2 ^ 32 → Is c x
    → Takes tag Is asked none (optional other (octets_of tag c) ++ rest) rest (if other then x else none)
takes tag Is true true none x c rest same can small is = (written tag c, (octets_of tag c, is_spelling tag c can small, refl), refl, is)
takes tag Is false false none x c rest same can small is = (refl, refl)
takes tag Is true false none x c rest same can small is = absurd cc
takes tag Is false true none x c rest same can small is = absurd cc

-- ---- contents

truth_told : (b : Bool) → IsBoolean (truth b) b
truth_told true = λ e. omega (arith, e)
truth_told false = refl

number_told : (bound n : ℕ) → n < bound → bound ≤ 2 ^ 64 → IsBelow bound (uint_octets n) n
number_told bound n lt le = ((uint_octets-spell n (omega (arith, lt, le))).0, lt)

text_told : (o : List ℕ) → AreVisible o → IsText o o
text_told o visible = (refl, visible)

id_told : (id : ℕ) → id < 2 ^ 64 → IsEntryId (to_be_bytes w64 id) id
id_told id lt = (refl, sym (big_endian-64 id lt))

time_told : (t : ℕ) → 441763200000 ≤ t → t ≤ 4294967295999 → IsMoment (time_octets t) t
time_told t ge le =
    let ms : (t - 441763200000) % 86400000 < 86400000 = omega arith in
    let days : (t - 441763200000) / 86400000 < 2 ^ 16 = omega (arith, ge, le) in (
      (t - 441763200000) % 86400000,
      (t - 441763200000) / 86400000,
      (refl, big_endian-32 ((t - 441763200000) % 86400000) (omega (arith, ms)), big_endian-16 ((t - 441763200000) / 86400000) days),
      ms,
      omega (arith, ge),
      le,
    )

-- the octets of the reasons are those of their seven bits
as_bits : (r : Reasons) → bit_octets (false ∷ r.dchg ∷ r.qchg ∷ r.dupd ∷ r.intg ∷ r.gi ∷ false ∷ []) ≡ reasons_content r
unfolding bit_octets
as_bits r = ap (λ (n : ℕ). 1 ∷ n ∷ []) (omega arith)

reasons_told : (r : Reasons) → IsReasons (reasons_content r) r
reasons_told r = subst (λ (o : List ℕ). IsReasons o r) (as_bits r) (bit_octets-spell (false ∷ r.dchg ∷ r.qchg ∷ r.dupd ∷ r.intg ∷ r.gi ∷ false ∷ []))

-- ---- groups of fields; the bits that ask are sent as they are, but for bit 9

abbrev AreSame : List Bool → List Bool → Type 0
AreSame f o = (bit 1 f ≡ bit 1 o) × (bit 2 f ≡ bit 2 o) × (bit 3 f ≡ bit 3 o) × (bit 4 f ≡ bit 4 o) × (bit 5 f ≡ bit 5 o) × (bit 6 f ≡ bit 6 o) × (bit 7 f ≡ bit 7 o) × (bit 8 f ≡ bit 8 o)

same_bits : (o : List Bool) (segment : Option Segment) → length o ≡ 10 → AreSame (flags o segment) o × (bit 9 (flags o segment) ≡ is_some segment)
same_bits (a ∷ b ∷ c ∷ d ∷ e ∷ f ∷ g ∷ h ∷ i ∷ j ∷ []) segment ten = ((refl, refl, refl, refl, refl, refl, refl, refl), refl)
same_bits _ segment ten = absurd (omega (arith, ten))

three_before : (x y z rest : List ℕ) → (x ++ y ++ z) ++ rest ≡ x ++ (y ++ (z ++ rest))
three_before x y z rest = append_assoc (x ++ y) z rest ∙ append_assoc x y (z ++ rest)

is_identity : (r : Report) (segment : Option Segment) (ms : List Member) (rest : List ℕ) → CanBeCut r → CanBeRead r → IsIdentity (identity r.rpt_id r.opt_flds segment ++ rest) rest (told r segment ms).report
unfolding identity
is_identity r segment ms rest h k =
    let c = bit_octets (flags r.opt_flds segment) in
    let z : List ℕ = octets_of 132 c in
    let ten = length_of_flags r.opt_flds segment h.options in
    let small : length c < 2 ^ 32 = omega (arith, length_of_bit_octets (flags r.opt_flds segment), ten) in (
      z ++ rest,
      (written 138 r.rpt_id, (octets_of 138 r.rpt_id, is_spelling 138 r.rpt_id tag_138 (omega (arith, h.rpt_id)), append_assoc (octets_of 138 r.rpt_id) z rest), refl, text_told r.rpt_id k.rpt_id),
      (written 132 c, (z, is_spelling 132 c tag_132 small, refl), refl, (bit_octets-spell (flags r.opt_flds segment), ten)),
    )

is_first : (r : Report) (segment : Option Segment) (ms : List Member) (rest : List ℕ) → CanBeCut r → CanBeRead r → AreSame (flags r.opt_flds segment) r.opt_flds → IsFirst (first_fields r.opt_flds r.sq r.time r.dat_set ++ rest) rest (told r segment ms).report
unfolding first_fields
is_first r segment ms rest h k same =
    let f = flags r.opt_flds segment in
    let x : List ℕ = optional (bit 1 r.opt_flds) (octets_of 134 (uint_octets r.sq)) in
    let y : List ℕ = optional (bit 2 r.opt_flds) (octets_of 140 (time_octets r.time)) in
    let z : List ℕ = optional (bit 4 r.opt_flds) (octets_of 138 r.dat_set) in (
      y ++ (z ++ rest),
      z ++ rest,
      subst (λ (o : List ℕ). Takes 134 (IsBelow 65536) (bit 1 f) 0 o (y ++ (z ++ rest)) (if bit 1 r.opt_flds then r.sq else 0)) (sym (three_before x y z rest))
          (takes 134 (IsBelow 65536) (bit 1 f) (bit 1 r.opt_flds) 0 r.sq (uint_octets r.sq) (y ++ (z ++ rest)) same.0 tag_134 (uint_short r.sq) (number_told 65536 r.sq k.sq (omega arith))),
      takes 140 IsMoment (bit 2 f) (bit 2 r.opt_flds) 441763200000 r.time (time_octets r.time) (z ++ rest) same.1 tag_140 (omega arith) (time_told r.time k.first k.last),
      takes 138 IsText (bit 4 f) (bit 4 r.opt_flds) [] r.dat_set r.dat_set rest same.3 tag_138 (omega (arith, h.dat_set)) (text_told r.dat_set k.dat_set),
    )

is_further : (r : Report) (segment : Option Segment) (ms : List Member) (rest : List ℕ) → CanBeRead r → AreSame (flags r.opt_flds segment) r.opt_flds → IsFurther (further_fields r.opt_flds r.ovfl r.id r.conf_rev ++ rest) rest (told r segment ms).report
unfolding further_fields
is_further r segment ms rest k same =
    let f = flags r.opt_flds segment in
    let x : List ℕ = optional (bit 6 r.opt_flds) (octets_of 131 (truth r.ovfl)) in
    let y : List ℕ = optional (bit 7 r.opt_flds) (octets_of 137 (to_be_bytes w64 r.id)) in
    let z : List ℕ = optional (bit 8 r.opt_flds) (octets_of 134 (uint_octets r.conf_rev)) in (
      y ++ (z ++ rest),
      z ++ rest,
      subst (λ (o : List ℕ). Takes 131 IsBoolean (bit 6 f) false o (y ++ (z ++ rest)) (if bit 6 r.opt_flds then r.ovfl else false)) (sym (three_before x y z rest))
          (takes 131 IsBoolean (bit 6 f) (bit 6 r.opt_flds) false r.ovfl (truth r.ovfl) (y ++ (z ++ rest)) same.5 tag_131 (omega arith) (truth_told r.ovfl)),
      takes 137 IsEntryId (bit 7 f) (bit 7 r.opt_flds) 0 r.id (to_be_bytes w64 r.id) (z ++ rest) same.6 tag_137 (omega arith) (id_told r.id k.id),
      takes 134 (IsBelow (2 ^ 32)) (bit 8 f) (bit 8 r.opt_flds) 0 r.conf_rev (uint_octets r.conf_rev) rest same.7 tag_134 (uint_short r.conf_rev) (number_told (2 ^ 32) r.conf_rev k.conf_rev (omega arith)),
    )

abbrev PlaceIs : Option Segment → Bool → List ℕ → Type 0
PlaceIs segment asked rest = (a : List ℕ) × Takes 134 (IsBelow (2 ^ 32)) asked 0 (place segment ++ rest) a (sub_of segment) × Takes 131 IsBoolean asked false a rest (more_of segment)

is_place : (segment : Option Segment) (asked : Bool) (rest : List ℕ) → asked ≡ is_some segment → sub_of segment < 2 ^ 32 → PlaceIs segment asked rest
is_place None false rest e lt = (rest, (refl, refl), (refl, refl))
is_place None true rest e lt = absurd cc
is_place (Some s) false rest e lt = absurd cc
is_place (Some s) true rest e lt =
    let z : List ℕ = octets_of 131 (truth s.more) in (
      z ++ rest,
      subst (λ (o : List ℕ). Takes 134 (IsBelow (2 ^ 32)) true 0 o (z ++ rest) s.sub) (sym (append_assoc (octets_of 134 (uint_octets s.sub)) z rest))
          (takes 134 (IsBelow (2 ^ 32)) true true 0 s.sub (uint_octets s.sub) (z ++ rest) refl tag_134 (uint_short s.sub) (number_told (2 ^ 32) s.sub lt (omega arith))),
      takes 131 IsBoolean true true false s.more (truth s.more) rest refl tag_131 (omega arith) (truth_told s.more),
    )

-- ---- the members

-- a member that is short, has Data and a visible reference
abbrev pub IsWhole : Member → Type 0
IsWhole m = IsShort m × HasData m × AreVisible m.reference

more_asked : (asked : Bool) (a b x : List ℕ) → optional asked (a ++ b) ++ x ≡ optional asked a ++ (optional asked b ++ x)
more_asked true a b x = append_assoc a b x
more_asked false a b x = refl

none_asked : (asked : Bool) (x : List ℕ) → optional asked [] ++ x ≡ x
none_asked true x = refl
none_asked false x = refl

members_told : (p q : Bool) (x y z : List ℕ) (ms : List Member) → AllByRecursion IsWhole ms
    → AreTold p q (optional p (references ms) ++ x) x (values ms ++ y) y (optional q (reasons ms) ++ z) z (map (told_member p q) ms)
members_told p q x y z [] all = (none_asked p x, refl, none_asked q z)
members_told p q x y z (m ∷ ms) (((short, long), has, visible), all) = (
  optional p (references ms) ++ x,
  values ms ++ y,
  optional q (reasons ms) ++ z,
  subst (λ (o : List ℕ). Takes 138 IsText p [] o (optional p (references ms) ++ x) (if p then m.reference else [])) (sym (more_asked p (octets_of 138 m.reference) (references ms) x))
      (takes 138 IsText p p [] m.reference m.reference (optional p (references ms) ++ x) refl tag_138 (omega (arith, short)) (text_told m.reference visible)),
  (append_assoc m.octets (values ms) y, has.0, has.1),
  subst (λ (o : List ℕ). Takes 132 IsReasons q no_reasons o (optional q (reasons ms) ++ z) (if q then m.reasons else no_reasons)) (sym (more_asked q (octets_of 132 (reasons_content m.reasons)) (reasons ms) z))
      (takes 132 IsReasons q q no_reasons m.reasons (reasons_content m.reasons) (optional q (reasons ms) ++ z) refl tag_132 (omega arith) (reasons_told m.reasons)),
  members_told p q x y z ms all,
)

-- ---- the inclusion bits

not_there : (k total i : ℕ) (ms : List Member) → Ascend k total ms → i < k → is_there i ms ≡ false
not_there k total i [] h lt = refl
not_there k total i (m ∷ ms) (above, below, more) lt = rw (ne_eqb (m.number.0 - 1) i (λ e. omega (arith, e, above, lt)), not_there m.number.0 total i ms more (omega (arith, above, lt))) refl

-- each bit from a number on says whether the member with the next number is there
abbrev Tell : ℕ → List Bool → List Member → Type 0
Tell n bits ms = (i k : ℕ) → k ≡ n + i → i < length bits → get_or bits i false ≡ is_there k ms

or_left : (a b : Bool) → true ≡ (a || b) → b ≡ false → a ≡ true
or_left true b e f = refl
or_left false b e f = cc

or_none : (a b : Bool) → false ≡ (a || b) → a ≡ false
or_none true b e = cc
or_none false b e = refl

marks : (n total : ℕ) (bits : List Bool) (ms : List Member) → Ascend n total ms → total ≡ n + length bits → Tell n bits ms → AreMarked (n + 1) bits ms
marks n total [] [] up count tell = tt
marks n total [] (m ∷ ms) (above, below, more) count tell = absurd (omega (arith, above, below, count))
marks n total (true ∷ bits) [] up count tell = absurd (let e = tell 0 n (omega arith) (omega arith) in cc)
marks n total (false ∷ bits) [] up count tell = marks (n + 1) total bits [] tt (omega (arith, count)) (λ i k e lt. tell (suc i) k (omega (arith, e)) (omega (arith, lt)))
marks n total (true ∷ bits) (m ∷ ms) (above, below, more) count tell =
    let here = or_left (m.number.0 - 1 == n) (is_there n ms) (tell 0 n (omega arith) (omega arith)) (not_there m.number.0 total n ms more above) in
    let same = eqb-true (m.number.0 - 1) n here in
    let number : m.number.0 ≡ n + 1 = omega (arith, same, above) in (
      number,
      marks (n + 1) total bits ms (subst (λ (k : ℕ). Ascend k total ms) number more) (omega (arith, count))
          (λ i k e lt. tell (suc i) k (omega (arith, e)) (omega (arith, lt)) ∙ ap (λ (b : Bool). b || is_there k ms) (ne_eqb (m.number.0 - 1) k (λ d. omega (arith, d, e, same)))),
    )
marks n total (false ∷ bits) (m ∷ ms) (above, below, more) count tell =
    let other = eqb-false (m.number.0 - 1) n (or_none (m.number.0 - 1 == n) (is_there n ms) (tell 0 n (omega arith) (omega arith))) in
    let over : n + 1 < m.number.0 = omega (arith, above, other) in
    marks (n + 1) total bits (m ∷ ms) (over, below, more) (omega (arith, count)) (λ i k e lt. tell (suc i) k (omega (arith, e)) (omega (arith, lt)))

marked_told : (p q : Bool) (n : ℕ) (bits : List Bool) (ms : List Member) → AreMarked n bits ms → AreMarked n bits (map (told_member p q) ms)
marked_told p q n [] [] h = h
marked_told p q n [] (m ∷ ms) h = absurd h
marked_told p q n (false ∷ bits) ms h = marked_told p q (n + 1) bits ms h
marked_told p q n (true ∷ bits) [] h = absurd h
marked_told p q n (true ∷ bits) (m ∷ ms) h = (h.0, marked_told p q (n + 1) bits ms h.1)

included_mark : (total : ℕ) (ms : List Member) → Ascend 0 total ms → AreMarked 1 (included total ms) ms
included_mark total ms up =
    let count = length_of_included total ms in
    marks 0 total (included total ms) ms up (omega (arith, count)) (λ i k e lt. ap (λ (j : ℕ). get_or (included total ms) j false) (omega (arith, e)) ∙ tells total k ms (omega (arith, e, lt, count)))

is_body : (r : Report) (segment : Option Segment) (ms : List Member) → CanBeCut r → AreSame (flags r.opt_flds segment) r.opt_flds → Ascend 0 r.total ms → AllByRecursion IsWhole ms → IsBody (body r ms) (told r segment ms).report
unfolding body inclusion
is_body r segment ms h same up all =
    let p = bit 5 r.opt_flds in
    let q = bit 3 r.opt_flds in
    let bits = included r.total ms in
    let i : List ℕ = octets_of 132 (bit_octets bits) in
    let x : List ℕ = optional p (references ms) in
    let w : List ℕ = optional q (reasons ms) in
    let count = length_of_included r.total ms in
    let small : length (bit_octets bits) < 2 ^ 32 = omega (arith, length_of_bit_octets bits, count, h.most) in
    let all_told = members_told p q (values ms ++ w) w [] ms all in (
      bits,
      x ++ (values ms ++ w),
      values ms ++ w,
      w,
      (written 132 (bit_octets bits), (i, is_spelling 132 (bit_octets bits) tag_132 small, append_assoc (i ++ x) (values ms) w ∙ append_assoc i x (values ms ++ w)), refl, (bit_octets-spell bits, omega (arith, count, h.least), omega (arith, count, h.most))),
      sym count,
      marked_told p q 1 bits ms (included_mark r.total ms up),
      subst (λ (b : Bool). AreTold b (bit 3 (flags r.opt_flds segment)) (x ++ (values ms ++ w)) (values ms ++ w) (values ms ++ w) w w [] (map (told_member p q) ms)) (sym same.4)
          (subst (λ (b : Bool). AreTold p b (x ++ (values ms ++ w)) (values ms ++ w) (values ms ++ w) w w [] (map (told_member p q) ms)) (sym same.2)
          (subst (λ (o : List ℕ). AreTold p q (x ++ (values ms ++ w)) (values ms ++ w) (values ms ++ w) w o [] (map (told_member p q) ms)) (append-nil w) all_told)),
    )

-- ---- a PDU

is_results : (r : Report) (segment : Option Segment) (ms : List Member) → CanBeCut r → CanBeRead r → sub_of segment < 2 ^ 32 → Ascend 0 r.total ms → AllByRecursion IsWhole ms → IsResults (results r segment ms) (told r segment ms)
unfolding front
is_results r segment ms h k lt up all =
    let same = same_bits r.opt_flds segment h.options in
    let i : List ℕ = identity r.rpt_id r.opt_flds segment in
    let f : List ℕ = first_fields r.opt_flds r.sq r.time r.dat_set in
    let g : List ℕ = further_fields r.opt_flds r.ovfl r.id r.conf_rev in
    let s : List ℕ = place segment in
    let d : List ℕ = body r ms in (
      f ++ (g ++ (s ++ d)),
      g ++ (s ++ d),
      s ++ d,
      d,
      subst (λ (o : List ℕ). IsIdentity o (f ++ (g ++ (s ++ d))) (told r segment ms).report) (sym (append_assoc (i ++ f ++ g) s d ∙ three_before i f g (s ++ d))) (is_identity r segment ms (f ++ (g ++ (s ++ d))) h k),
      is_first r segment ms (g ++ (s ++ d)) h k same.0,
      is_further r segment ms (s ++ d) k same.0,
      is_place segment (bit 9 (flags r.opt_flds segment)) d same.1 lt,
      is_body r segment ms h same.0 up all,
    )

list_name : IsListName rpt
list_name =
    let k : List ℕ = octets_of 128 (82 ∷ 80 ∷ 84 ∷ []) in
    let can : CanBeTag 128 = one_octet 128 (omega arith) (λ e. absurd (omega (arith, e))) in
    (written 161 k, written 128 (82 ∷ 80 ∷ 84 ∷ []), is_spelling 161 k (one_octet 161 (omega arith) (λ e. absurd (omega (arith, e)))) (omega arith), refl, written_last 128 (82 ∷ 80 ∷ 84 ∷ []) can (omega arith), refl, refl)

-- each PDU says what it is made of
pub pdu_tells : (r : Report) (segment : Option Segment) (ms : List Member) → CanBeCut r → CanBeRead r → sub_of segment < 2 ^ 32 → Ascend 0 r.total ms → AllByRecursion IsWhole ms → length (pdu r segment ms) < 2 ^ 32
    → IsReportPart (pdu r segment ms) (told r segment ms)
pdu_tells r segment ms h k lt up all small = (rpt, results r segment ms, pdu_is_report r segment ms small, list_name, is_results r segment ms h k lt up all, refl)

-- ---- all PDUs of a report

both_ascend : (k total : ℕ) (s t : List Member) → Ascend k total (s ++ t) → Ascend k total s × Ascend 0 total t
both_ascend k total [] t h = (tt, from_least k t h)
  where
    from_least : (k : ℕ) (t : List Member) → Ascend k total t → Ascend 0 total t
    from_least k [] h = tt
    from_least k (m ∷ ms) (above, below, more) = (omega (arith, above), below, more)
both_ascend k total (m ∷ s) t (above, below, more) = let both = both_ascend m.number.0 total s t more in ((above, below, both.0), both.1)

both_all : {A : Type 0} (Is : A → Type 0) (s t : List A) → AllByRecursion Is (s ++ t) → AllByRecursion Is s × AllByRecursion Is t
both_all Is [] t h = (tt, h)
both_all Is (m ∷ s) t (here, more) = let both = both_all Is s t more in ((here, both.0), both.1)

are_whole : (ms : List Member) → AllByRecursion IsShort ms → AllByRecursion HasData ms → AllByRecursion (λ m. AreVisible m.reference) ms → AllByRecursion IsWhole ms
are_whole [] a b c = tt
are_whole (m ∷ ms) a b c = ((a.0, b.0, c.0), are_whole ms a.1 b.1 c.1)

-- no more segments than members
cut_few : {A : Type 0} (fits : ℕ → List A → Bool) (sub : ℕ) (so_far ms : List A) → length (segments fits sub so_far ms) ≤ 1 + length ms
cut_few fits sub so_far [] = omega arith
cut_few fits sub so_far (m ∷ ms) = either (fits sub (so_far ++ m ∷ [])) (cut_few fits sub (so_far ++ m ∷ []) ms) (cut_few fits (suc sub) (m ∷ []) ms)
  where
    either : (t : Bool) → length (segments fits sub (so_far ++ m ∷ []) ms) ≤ 1 + length ms → length (segments fits (suc sub) (m ∷ []) ms) ≤ 1 + length ms
        → length (if t then segments fits sub (so_far ++ m ∷ []) ms else so_far ∷ segments fits (suc sub) (m ∷ []) ms) ≤ 1 + length (m ∷ ms)
    either true h i = omega (arith, h)
    either false h i = omega (arith, i)

cut_from_few : {A : Type 0} (fits : ℕ → List A → Bool) (sub : ℕ) (ms : List A) → length (cut_from fits sub ms) ≤ length ms
cut_from_few fits sub [] = omega arith
cut_from_few fits sub (m ∷ ms) = omega (arith, cut_few fits sub (m ∷ []) ms)

segments_tell : (r : Report) (size sub : ℕ) (ss : List (List Member)) → CanBeCut r → CanBeRead r → size < 2 ^ 32 → sub + length ss < 2 ^ 32 → Ascend 0 r.total (concat ss) → AllByRecursion IsWhole (concat ss)
    → AllByRecursion (λ o. length o ≤ size) (spelled r sub ss) → AreParts (spelled r sub ss) (parts_from r sub ss)
segments_tell r size sub [] h k small few up all short = tt
segments_tell r size sub (s ∷ []) h k small few up all short =
    let up_both = both_ascend 0 r.total s [] up in
    let all_both = both_all IsWhole s [] all in
    (pdu_tells r (Some (record { sub = sub; more = false })) s h k (omega (arith, few)) up_both.0 all_both.0 (omega (arith, short.0, small)), tt)
segments_tell r size sub (s ∷ t ∷ ss) h k small few up all short =
    let up_both = both_ascend 0 r.total s (concat (t ∷ ss)) up in
    let all_both = both_all IsWhole s (concat (t ∷ ss)) all in (
      pdu_tells r (Some (record { sub = sub; more = true })) s h k (omega (arith, few)) up_both.0 all_both.0 (omega (arith, short.0, small)),
      segments_tell r size (suc sub) (t ∷ ss) h k small (omega (arith, few)) up_both.1 all_both.1 short.1,
    )

-- each PDU of a report is read back
pub pdus_tell : (r : Report) (size : ℕ) → CanBeCut r → CanBeRead r → 1024 ≤ size → size < 2 ^ 32 → AreParts (pdus r size) (parts r size)
pdus_tell r size h k least small = either (nat_le (length (pdu r None r.members)) size) (pdus_fit r size h least)
  where
    all : AllByRecursion IsWhole r.members
    all = are_whole r.members h.members h.values k.references

    either : (t : Bool) → AllByRecursion (λ o. length o ≤ size) (if t then pdu r None r.members ∷ [] else spelled r 0 (cut_from (fits r size) 0 r.members))
        → AreParts (if t then pdu r None r.members ∷ [] else spelled r 0 (cut_from (fits r size) 0 r.members)) (if t then told r None r.members ∷ [] else parts_from r 0 (cut_from (fits r size) 0 r.members))
    either true short = (pdu_tells r None r.members h k (omega arith) h.numbered all (omega (arith, short.0, small)), tt)
    either false short =
        let ss = cut_from (fits r size) 0 r.members in
        let joined : concat ss ≡ r.members = whole_from (fits r size) 0 r.members in
        segments_tell r size 0 ss h k small (omega (arith, cut_from_few (fits r size) 0 r.members, few_members r h)) (subst (λ (ms : List Member). Ascend 0 r.total ms) (sym joined) h.numbered) (subst (λ (ms : List Member). AllByRecursion IsWhole ms) (sym joined) all) short
