-- The first of the offers of blocks, block by block.
use Rattle.std.proofs.Common.{◌≡◌, ◌≤◌, ◌<◌, ◌+◌, ℕ, suc, Bool, true, false, List, ◌∷◌, length, drop, get_or, refl, sym, ap, ◌∙◌, arith, inl, inr}
use Rattle.std.specs.Prelude.{nat_le, Option, None, Some}
use Rattle.std.proofs.lemmas.Bool.Decides.{leb_tells}
use Rattle.std.proofs.lemmas.List.{drop_more}
use Rattle.sv_base.specs.declared.numbers.AssocNo.{AssocNo}
use Rattle.report_block.specs.declared.block.ReportBlock.{ReportBlock}
use Rattle.report_block.specs.Offers.{Offered, offered_by, earlier, first_offered}

pub earlier_none : (x : Option Offered) → earlier x None ≡ x
earlier_none None = refl
earlier_none (Some x) = refl

le_when : (m n : ℕ) → nat_le m n ≡ true → m ≤ n
le_when m n is = elim (leb_tells m n) [ inl t ↦ t.1 | inr t ↦ let not : true ≡ false = sym is ∙ t.0 in cc ]

lt_when : (m n : ℕ) → nat_le m n ≡ false → n < m
lt_when m n is = elim (leb_tells m n) [ inl t ↦ let not : true ≡ false = sym t.0 ∙ is in cc | inr t ↦ t.1 ]

-- of three offers the earliest, by which of two are in order
three_by : (x y z : Offered) (t u v : Bool) → nat_le x.entry.step y.entry.step ≡ t → nat_le y.entry.step z.entry.step ≡ u → nat_le x.entry.step z.entry.step ≡ v
    → earlier (earlier (Some x) (Some y)) (Some z) ≡ earlier (Some x) (earlier (Some y) (Some z))
three_by x y z true true true i j k = simp (i, j, k) refl
three_by x y z true true false i j k =
    absurd (omega (arith, le_when x.entry.step y.entry.step i, le_when y.entry.step z.entry.step j, lt_when x.entry.step z.entry.step k))
three_by x y z true false v i j k = simp (i, j) refl
three_by x y z false true v i j k = simp (i, j) refl
three_by x y z false false true i j k =
    absurd (omega (arith, lt_when x.entry.step y.entry.step i, lt_when y.entry.step z.entry.step j, le_when x.entry.step z.entry.step k))
three_by x y z false false false i j k = simp (i, j, k) refl

three : (x y z : Offered) → earlier (earlier (Some x) (Some y)) (Some z) ≡ earlier (Some x) (earlier (Some y) (Some z))
three x y z = three_by x y z (nat_le x.entry.step y.entry.step) (nat_le y.entry.step z.entry.step) (nat_le x.entry.step z.entry.step) refl refl refl

pub earlier_assoc : (x y z : Option Offered) → earlier (earlier x y) z ≡ earlier x (earlier y z)
earlier_assoc None y z = refl
earlier_assoc (Some x) None z = refl
earlier_assoc (Some x) (Some y) None = earlier_none (earlier (Some x) (Some y))
earlier_assoc (Some x) (Some y) (Some z) = three x y z

-- with the offer of one block more
pub one_block : (a : AssocNo) (parts : List ReportBlock) (i : ℕ) (part : ReportBlock) (found : Option Offered) → i < length parts → part ≡ get_or parts i part
    → earlier (earlier found (offered_by a i part)) (first_offered a (i + 1) (drop (i + 1) parts)) ≡ earlier found (first_offered a i (drop i parts))
one_block a parts i part found below is =
    let next : i + 1 ≡ suc i = omega arith in
    earlier_assoc found (offered_by a i part) (first_offered a (i + 1) (drop (i + 1) parts))
    ∙ ap (earlier found) (ap (λ j. earlier (offered_by a i part) (first_offered a j (drop (i + 1) parts))) next
    ∙ ap (first_offered a i) (ap (λ (p : ReportBlock). p ∷ drop (i + 1) parts) is ∙ sym (drop_more parts i part below)))

-- where this is what was found once the offer of the block is looked at
pub goes_on : (a : AssocNo) (parts : List ReportBlock) (i : ℕ) (part : ReportBlock) (found next : Option Offered) → i < length parts → part ≡ get_or parts i part
    → earlier found (offered_by a i part) ≡ next → earlier found (first_offered a i (drop i parts)) ≡ first_offered a 0 parts
    → earlier next (first_offered a (i + 1) (drop (i + 1) parts)) ≡ first_offered a 0 parts
goes_on a parts i part found next below is looked first =
    ap (λ o. earlier o (first_offered a (i + 1) (drop (i + 1) parts))) (sym looked) ∙ (one_block a parts i part found below is ∙ first)
