-- The octets of components, one component more at a time, and how many there are.
use Rattle.std.proofs.Common.{◌≡◌, ℕ, ◌+◌, zero, suc, ◌<◌, ◌≤◌, min, List, [], ◌∷◌, ◌++◌, length, take, get_or, refl, sym, ap, subst, ◌∙◌, inl, inr, append_assoc, arith}
use denote.Param.Weighed.{most}
use Rattle.std.proofs.lemmas.Bool.{cases_lt}
use Rattle.std.proofs.lemmas.List.{append-nil, length-append}
use Rattle.ber_write.specs.Minimal.{length_octets, octets_of, int_octets}
use Rattle.ber_write.proofs.LengthLaws.{length-one_octet}
use Rattle.sv_base.specs.Types.{Fields, entry_id}
use Rattle.sv_base.specs.Fields.{fields_of}
use Rattle.sv_base.specs.declared.types.TypeOf.{TypeOf}
use Rattle.sv_base.specs.declared.types.TypeOf.TheVariants as types
use Rattle.sv_base.specs.declared.types.Part1.{Part1}
use Rattle.sv_base.specs.declared.types.Parts.TheDeep.{size-Part1}
use Rattle.mms_data.specs.TypeOctets.{kind_octets, type_of, fields_octets, part_content, part_octets, parts_octets, FitsFields, FitsType, FitsPart, FitsParts}

-- ---- how many octets

-- a count that stops at 4294967295, of a content and of its element
pub counted : (tag : ℕ) (content : List ℕ) (n k : ℕ) → tag < 256 → n ≡ min (length content) 4294967295 → k ≡ min (1 + (length (length_octets n) + n)) 4294967295 → k ≡ min (length (octets_of tag content)) 4294967295
counted tag content n k one p q =
    elim (cases_lt (length content) 4294967295) [
      | inl lt ↦ (let same : n ≡ length content = omega (arith, p, lt) in q ∙ ap (λ (m : ℕ). min (1 + (length (length_octets m) + m)) 4294967295) same ∙ ap (λ (m : ℕ). min m 4294967295) (sym (length-one_octet tag content one)))
      | inr ge ↦ omega (arith, p, q, ge, length-one_octet tag content one)
    ]

pub entry_id-count : 3 ≡ min (length (kind_octets entry_id)) 4294967295
unfolding int_octets
entry_id-count = refl

pub type_count : (t : TypeOf) (f : Fields) (ps : List Part1) (n k m : ℕ) → t ≡ types.Struct f → fields_of ps ≡ f → n ≡ min (length (parts_octets ps)) 4294967295
    → k ≡ min (1 + (length (length_octets n) + n)) 4294967295 → m ≡ min (1 + (length (length_octets k) + k)) 4294967295 → m ≡ min (length (type_of t)) 4294967295
type_count t f ps n k m is row p q r =
    let inner = counted 161 (fields_octets (fields_of ps)) n k (omega arith) p q in
    let outer = counted 162 (octets_of 161 (fields_octets (fields_of ps))) k m (omega arith) inner r in
    outer ∙ ap (λ (x : Fields). min (length (octets_of 162 (octets_of 161 (fields_octets x)))) 4294967295) row ∙ ap (λ (x : TypeOf). min (length (type_of x)) 4294967295) (sym is)

-- ---- one component more

pub parts_octets-more : (ps : List Part1) (i : ℕ) (p : Part1) → i < length ps → p ≡ get_or ps i p → parts_octets (take (i + 1) ps) ≡ parts_octets (take i ps) ++ part_octets p
parts_octets-more [] i p lt is = absurd (omega (arith, lt))
parts_octets-more (q ∷ ps) zero p lt is = append-nil (part_octets q) ∙ ap part_octets (sym is)
parts_octets-more (q ∷ ps) (suc i) p lt is =
    let next : suc i + 1 ≡ suc (i + 1) = omega arith in
    rw next (ap (λ (x : List ℕ). part_octets q ++ x) (parts_octets-more ps i p (omega (arith, lt)) is) ∙ sym (append_assoc (part_octets q) (parts_octets (take i ps)) (part_octets p)))

pub one_counted : (ps : List Part1) (i : ℕ) (p : Part1) (sum n k : ℕ) → i < length ps → p ≡ get_or ps i p → sum ≡ min (length (parts_octets (take i ps))) 4294967295 → n ≡ min (length (part_content p)) 4294967295
    → k ≡ min (1 + (length (length_octets n) + n)) 4294967295 → min (sum + k) 4294967295 ≡ min (length (parts_octets (take (i + 1) ps))) 4294967295
one_counted ps i p sum n k lt is so_far p_len q =
    let one : k ≡ min (length (part_octets p)) 4294967295 = counted 48 (part_content p) n k (omega arith) p_len q in
    let all : length (parts_octets (take (i + 1) ps)) ≡ length (parts_octets (take i ps)) + length (part_octets p) = ap (λ (x : List ℕ). length x) (parts_octets-more ps i p lt is) ∙ length-append (parts_octets (take i ps)) (part_octets p) in
    omega (arith, so_far, one, all)

pub FitsPart-at : (ps : List Part1) (i : ℕ) (p : Part1) → i < length ps → p ≡ get_or ps i p → FitsParts ps → FitsPart p
FitsPart-at [] i p lt is h = absurd (omega (arith, lt))
FitsPart-at (q ∷ ps) zero p lt is h = subst FitsPart (sym is) (h.0, h.1)
FitsPart-at (q ∷ ps) (suc i) p lt is h = FitsPart-at ps i p (omega (arith, lt)) is h.2

-- none is larger than the largest
pub size-part-at : (ps : List Part1) (i : ℕ) (p : Part1) → i < length ps → p ≡ get_or ps i p → size-Part1 p ≤ most size-Part1 ps
size-part-at [] i p lt is = absurd (omega (arith, lt))
size-part-at (q ∷ ps) zero p lt is = omega (arith, ap size-Part1 is)
size-part-at (q ∷ ps) (suc i) p lt is = omega (arith, size-part-at ps i p (omega (arith, lt)) is)

-- the components of a structure's type
pub fits_within : (t : TypeOf) (f : Fields) (ps : List Part1) → t ≡ types.Struct f → fields_of ps ≡ f → FitsType t → FitsParts ps
fits_within t f ps is row h = let whole : FitsType (types.Struct f) = subst FitsType is h in subst FitsFields (sym row) whole.1
