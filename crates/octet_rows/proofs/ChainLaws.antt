-- Chains of entries, with one more.
use Rattle.std.proofs.Common.{◌≡◌, ◌≢◌, ◌≤◌, ◌<◌, ◌-◌, ℕ, zero, suc, ◌*◌, ◌^◌, ◌==◌, ◌+◌, Bool, true, false, List, [], ◌∷◌, ◌++◌, length, get_or, replicate, Option, None, Some, refl, sym, ap, ap₂, subst, ◌∙◌, arith, length-append, if◌then◌else◌}
use Rattle.std.specs.Prelude.{nat_eq, slice_index, slice_set}
use Rattle.std.specs.Option.{option_or}
use Rattle.std.specs.Cmp.{unsigned_Decides}
use Rattle.std.proofs.Common.{inl, inr, true≢false}
use Rattle.std.proofs.lemmas.Bool.{cases_eq, eq-eqb, ne_eqb}
use Rattle.std.proofs.Math.ListN.{get_or-append}
use Rattle.std.proofs.Math.Nat.{div-lt_iff_lt-mul, mul-lt-mul_of_pos_right, mul_comm}
use Rattle.std.proofs.lemmas.List.{length-set}
use Rattle.list_laws.proofs.Places.{at_set, at_any}
use Rattle.std.proofs.Math.Seq.{get_or-append_seam}
use Rattle.octet_rows.specs.Chains.{no_entry, latest, walk, slot, head, AreBack, AreChained}
use Rattle.octet_rows.specs.declared.firsts.Entry.{Entry}

or-cond : (t b : Bool) (p x : ℕ) (r : Option ℕ) → option_or (if t then Some p else r) (if b then Some x else None) ≡ (if t then Some p else option_or r (if b then Some x else None))
or-cond true b p x r = refl
or-cond false b p x r = refl

some-or : (b : Bool) (p : ℕ) → option_or None (if b then Some p else None) ≡ (if b then Some p else None)
some-or true p = refl
some-or false p = refl

pub latest-push : (es : List Entry) (e : Entry) (q : ℕ) → latest (es ++ e ∷ []) q ≡ (if nat_eq e.number q then Some e.place else latest es q)
latest-push [] e q = some-or (nat_eq e.number q) e.place
latest-push (x ∷ es) e q = ap (λ r. option_or r (if nat_eq x.number q then Some x.place else None)) (latest-push es e q) ∙ or-cond (nat_eq e.number q) (nat_eq x.number q) e.place x.place (latest es q)

-- more steps find no more
pub walk-steps : (es : List Entry) (q : ℕ) → AreBack es → (n m h : ℕ) → h ≤ n → h ≤ m → h ≤ length es → walk n es h q ≡ walk m es h q
walk-steps es q back zero zero h p r lt = refl
walk-steps es q back zero (suc m) zero p r lt = refl
walk-steps es q back zero (suc m) (suc i) p r lt = absurd (omega (arith, p))
walk-steps es q back (suc n) zero zero p r lt = refl
walk-steps es q back (suc n) zero (suc i) p r lt = absurd (omega (arith, r))
walk-steps es q back (suc n) (suc m) zero p r lt = refl
walk-steps es q back (suc n) (suc m) (suc i) p r lt =
    let le : (get_or es i no_entry).before ≤ i = back i (omega (arith, lt)) in
    ap (λ w. if nat_eq (get_or es i no_entry).number q then Some (get_or es i no_entry).place else w) (walk-steps es q back n m (get_or es i no_entry).before (omega (arith, le, p)) (omega (arith, le, r)) (omega (arith, le, lt)))

-- the entry before the last of a chain, whose number is another
pub walk-next : (es : List Entry) (q at : ℕ) (entry d : Entry) (r : Option ℕ) → AreBack es → 0 < at → at ≤ length es → entry ≡ get_or es (at - 1) d → entry.number ≢ q → walk at es at q ≡ r
    → (entry.before ≤ length es) × (walk entry.before es entry.before q ≡ r)
walk-next es q zero entry d r back some lt is ne found = absurd (omega (arith, some))
walk-next es q (suc i) entry d r back some lt is ne found =
    let last : suc i - 1 ≡ i = omega arith in
    let here : entry ≡ get_or es i no_entry = is ∙ (ap (λ k. get_or es k d) last ∙ at_any es i d no_entry (omega (arith, lt))) in
    let le : entry.before ≤ i = subst (λ x. x.before ≤ i) (sym here) (back i (omega (arith, lt))) in
    let step : walk i es entry.before q ≡ r = sym (ap (λ b. if b then Some entry.place else walk i es entry.before q) (ne_eqb entry.number q ne)) ∙ (ap (λ x. if nat_eq x.number q then Some x.place else walk i es x.before q) here ∙ found) in
    (omega (arith, le, lt), walk-steps es q back entry.before i entry.before (omega arith) le (omega (arith, le, lt)) ∙ step)

-- an entry more is in no chain that began before it
walk-more : (es : List Entry) (e : Entry) (q : ℕ) → AreBack es → (n h : ℕ) → h ≤ length es → walk n (es ++ e ∷ []) h q ≡ walk n es h q
walk-more es e q back zero h lt = refl
walk-more es e q back (suc n) zero lt = refl
walk-more es e q back (suc n) (suc i) lt =
    let le : (get_or es i no_entry).before ≤ i = back i (omega (arith, lt)) in
    ap (λ x. if nat_eq x.number q then Some x.place else walk n (es ++ e ∷ []) x.before q) (get_or-append es (e ∷ []) no_entry i (omega (arith, lt)))
    ∙ ap (λ w. if nat_eq (get_or es i no_entry).number q then Some (get_or es i no_entry).place else w) (walk-more es e q back n (get_or es i no_entry).before (omega (arith, le, lt)))

-- one more entry, at which the chains of its head begin
module _ (heads next : List ℕ) (es : List Entry) (e : Entry) (are : AreChained heads es) (from : e.before ≡ head heads e.number)
    (each : (q : ℕ) → head next q ≡ (if slot (length heads) e.number == slot (length heads) q then length es + 1 else head heads q)) where
  more-back : AreBack (es ++ e ∷ [])
  more-back i lt = elim (cases_eq i (length es)) [
    | inl is ↦ subst (λ k. (get_or (es ++ e ∷ []) k no_entry).before ≤ k) (sym is) (subst (λ x. x.before ≤ length es) (sym (get_or-append_seam es e [] no_entry)) (omega (arith, from, are.within e.number)))
    | inr ne ↦
        let less : i < length es = omega (arith, lt, ne, length-append es (e ∷ [])) in
        subst (λ x. x.before ≤ i) (sym (get_or-append es (e ∷ []) no_entry i less)) (are.back i less)
  ]

  pub chained : AreChained next (es ++ e ∷ [])
  chained = record {
    back = more-back;
    within = λ q. in-by q (slot (length heads) e.number == slot (length heads) q) refl;
    found = λ q. found-by q (slot (length heads) e.number == slot (length heads) q) refl;
  }
    where
      at : (q : ℕ) (b : Bool) → (slot (length heads) e.number == slot (length heads) q) ≡ b → head next q ≡ (if b then length es + 1 else head heads q)
      at q b is = each q ∙ ap (λ b. if b then length es + 1 else head heads q) is

      in-by : (q : ℕ) (b : Bool) → (slot (length heads) e.number == slot (length heads) q) ≡ b → head next q ≤ length (es ++ e ∷ [])
      in-by q true is = omega (arith, at q true is, length-append es (e ∷ []))
      in-by q false is = omega (arith, at q false is, are.within q, length-append es (e ∷ []))

      found-by : (q : ℕ) (b : Bool) → (slot (length heads) e.number == slot (length heads) q) ≡ b → walk (head next q) (es ++ e ∷ []) (head next q) q ≡ latest (es ++ e ∷ []) q
      found-by q true is =
          let same : head heads e.number ≡ head heads q = ap (slice_index heads) ((unsigned_Decides (slot (length heads) e.number) (slot (length heads) q)).0 is) in
          let start : head next q ≡ suc (length es) = omega (arith, at q true is) in
          ap (λ h. walk h (es ++ e ∷ []) h q) start
          ∙ (ap (λ x. if nat_eq x.number q then Some x.place else walk (length es) (es ++ e ∷ []) x.before q) (get_or-append_seam es e [] no_entry)
          ∙ (ap (λ w. if nat_eq e.number q then Some e.place else w) (ap (λ h. walk (length es) (es ++ e ∷ []) h q) (from ∙ same)
          ∙ (walk-more es e q are.back (length es) (head heads q) (are.within q)
          ∙ (walk-steps es q are.back (length es) (head heads q) (head heads q) (are.within q) (omega arith) (are.within q) ∙ are.found q)))
          ∙ sym (latest-push es e q)))
      found-by q false is =
          let apart : nat_eq e.number q ≡ false = other (nat_eq e.number q) refl in
          ap (λ h. walk h (es ++ e ∷ []) h q) (at q false is)
          ∙ (walk-more es e q are.back (head heads q) (head heads q) (are.within q)
          ∙ (are.found q
          ∙ sym (latest-push es e q ∙ ap (λ b. if b then Some e.place else latest es q) apart)))
        where
          other : (b : Bool) → nat_eq e.number q ≡ b → b ≡ false
          other false h = refl
          other true h = absurd (true≢false (sym (eq-eqb _ _ (ap (slot (length heads)) ((unsigned_Decides e.number q).0 h))) ∙ is))

-- ---- the head of a number
-- a number has its head among them
pub slot-lt : (heads number : ℕ) → 0 < heads → number < 2 ^ 64 → slot heads number < heads
slot-lt heads number some lt = (div-lt_iff_lt-mul (omega arith)).1 (subst (λ n. number * heads < n) (mul_comm (2 ^ 64) heads) (mul-lt-mul_of_pos_right lt some))

pub head-at : (heads : List ℕ) (number n d : ℕ) → n ≡ slot (length heads) number → n < length heads → get_or heads n d ≡ head heads number
head-at heads number n d is lt = at_any heads n d 0 lt ∙ ap (slice_index heads) is

pub head-set : (heads : List ℕ) (number n v : ℕ) → n ≡ slot (length heads) number → n < length heads → (q : ℕ) → head (slice_set heads n v) q ≡ (if slot (length heads) number == slot (length heads) q then v else head heads q)
head-set heads number n v is lt q = ap (λ l. slice_index (slice_set heads n v) (slot l q)) (length-set heads n v)
    ∙ (at_set heads n (slot (length heads) q) v 0 lt
    ∙ ap (λ n. if n == slot (length heads) q then v else head heads q) is)

-- ---- no entries
abbrev no_heads : ℕ → List ℕ
no_heads n = replicate n 0

no-head : (n i : ℕ) → get_or (no_heads n) i 0 ≡ 0
no-head zero i = refl
no-head (suc n) zero = refl
no-head (suc n) (suc i) = no-head n i

pub none-chained : (n : ℕ) → AreChained (no_heads n) []
none-chained n = record {
  back = λ i lt. absurd (omega (arith, lt));
  within = λ q. omega (arith, no-head n (slot (length (no_heads n)) q));
  found = λ q. ap (λ h. walk h [] h q) (no-head n (slot (length (no_heads n)) q));
}

-- ---- entries in other chains
-- what a number was given last does not rest on the chains
pub latest-set : (es : List Entry) (i q : ℕ) (e : Entry) → i < length es → e.number ≡ (get_or es i no_entry).number → e.place ≡ (get_or es i no_entry).place → latest (slice_set es i e) q ≡ latest es q
latest-set [] i q e lt n p = absurd (omega (arith, lt))
latest-set (x ∷ es) zero q e lt n p = ap₂ (λ m r. option_or (latest es q) (if nat_eq m q then Some r else None)) n p
latest-set (x ∷ es) (suc i) q e lt n p = ap (λ r. option_or r (if nat_eq x.number q then Some x.place else None)) (latest-set es i q e (omega (arith, lt)) n p)
