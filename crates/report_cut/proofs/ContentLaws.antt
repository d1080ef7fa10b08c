-- What the contents of a report's fields say, both ways.
use Rattle.std.proofs.Common.{◌≡◌, ℕ, ◌+◌, ◌-◌, ◌*◌, ◌<◌, ◌≤◌, cond, ltb, eqb, Bool, true, false, List, [], ◌∷◌, ◌++◌, length, take, drop, refl, sym, ap, subst, ◌∙◌, Option, Some, None, Result, Ok, Err, arith}
use Rattle.std.specs.Prelude.{MatchResult}
use Rattle.std.specs.Result.{is_ok}
use Rattle.std.proofs.Math.Seq.{take-append_seam}
use Rattle.std.proofs.lemmas.Bool.{lt-ltb, ltb-true, eqb-true, eq-eqb}
use Rattle.std.proofs.lemmas.List.{length-append}
use Rattle.list_laws.proofs.Options.{some_is, chosen}
use Rattle.ber_grammar.specs.declared.fault.BerFault.TheVariants.{BadNumber}
use Rattle.ber_grammar.specs.Octets.{IsBytes, big_endian}
use Rattle.ber_grammar.specs.Place.{Spot}
use Rattle.ber_grammar.specs.Content.{IsText, IsBits, IsBoolean}
use Rattle.ber_grammar.specs.Reader.{◌>>=◌, kept}
use Rattle.ber_grammar.specs.Reading.{first_at, text_at, bits_at, boolean_at}
use Rattle.ber_grammar.proofs.OptionLaws.{kept_some, then_some}
use Rattle.ber_grammar.proofs.ElementLaws.{first_again}
use Rattle.ber_grammar.proofs.FieldLaws.{begins_of}
use Rattle.ber_grammar.proofs.OctetLaws.{Begins-bytes}
use Rattle.ber_grammar.proofs.TextLaws.{text_again, text_found}
use Rattle.ber_grammar.proofs.BitLaws.{bits_again, bits_found}
use Rattle.ber_grammar.proofs.BooleanLaws.{boolean_again, boolean_found}
use Rattle.sv_base.specs.Tree.{Seen}
use Rattle.mms_data.specs.declared.fault.DataFault.{DataFault}
use Rattle.mms_data.specs.Grammar.{IsWithin, IsRefusedData}
use Rattle.mms_data.specs.Reading.{data_at}
use Rattle.mms_data.specs.View.{view_at}
use Rattle.mms_data.proofs.GrammarLaws.{data_exact, data_again}
use Rattle.mms_elements.specs.Invoke.{below_at}
use Rattle.mms_elements.proofs.TaggedLaws.{below_again, below_found}
use Rattle.bay_model.specs.Parameters.{bit}
use Rattle.bay_model.specs.declared.report.Reasons.{Reasons}
use Rattle.report_cut.specs.Part.{IsBelow, IsMoment, IsEntryId, IsOptFlds, IsInclusion, IsReasons, TakesData}
use Rattle.report_cut.specs.PartReading.{is_data, text_in, truth_in, moment_of, moment_in, id_in, options_in, inclusion_in, reasons_of, reasons_in, data_in}

-- what is read of octets is what they say, and what they say is read
abbrev pub IsFound : {A : Type 0} → (List ℕ → Option A) → (List ℕ → A → Type 0) → Type 0
IsFound {A = A} read Is = (c : List ℕ) (x : A) → IsBytes c → read c ≡ Some x → Is c x

abbrev pub IsAgain : {A : Type 0} → (List ℕ → Option A) → (List ℕ → A → Type 0) → Type 0
IsAgain {A = A} read Is = (c : List ℕ) (x : A) → Is c x → read c ≡ Some x

pub text_is : IsFound text_in IsText
text_is c x fits h = text_found c x (kept_some (text_at c) x h)

pub text_comes : IsAgain text_in IsText
text_comes c x is = rw (text_again c x is) refl

pub truth_is : IsFound truth_in IsBoolean
truth_is c x fits h = boolean_found BadNumber c x (kept_some (boolean_at BadNumber c) x h)

pub truth_comes : IsAgain truth_in IsBoolean
truth_comes c x is = rw (boolean_again BadNumber c x is) refl

pub number_is : (bound : ℕ) → IsFound (below_at bound) (IsBelow bound)
number_is bound c x fits h = below_found bound c x fits h

pub number_comes : (bound : ℕ) → IsAgain (below_at bound) (IsBelow bound)
number_comes bound c x is = below_again bound c x is.0 is.1

pub id_is : IsFound id_in IsEntryId
unfolding id_in
id_is c x fits h = let a = chosen (eqb (length c) 8) (Some (big_endian c)) x h in (eqb-true (length c) 8 a.0, sym (some_is (big_endian c) x a.1))

pub id_comes : IsAgain id_in IsEntryId
unfolding id_in
id_comes c x is = rw (eq-eqb (length c) 8 is.0) (ap (λ (n : ℕ). Some n) (sym is.1))

moment_told : (ms days t : ℕ) → moment_of ms days ≡ Some t → (ms < 86400000) × (t ≡ 441763200000 + days * 86400000 + ms) × (t ≤ 4294967295999)
moment_told ms days t h =
    let sum = 441763200000 + days * 86400000 + ms in
    let a = chosen (ltb ms 86400000) (cond (ltb sum 4294967296000) (Some sum) None) t h in
    let b = chosen (ltb sum 4294967296000) (Some sum) t a.1 in
    let same : t ≡ sum = sym (some_is sum t b.1) in
    let low = ltb-true sum 4294967296000 b.0 in
    (ltb-true ms 86400000 a.0, same, omega (arith, same, low))

pub moment_is : IsFound moment_in IsMoment
unfolding moment_in
moment_is c x fits h =
    let a = chosen (eqb (length c) 6) (moment_of (big_endian (take 4 c)) (big_endian (drop 4 c))) x h in
    let b = moment_told (big_endian (take 4 c)) (big_endian (drop 4 c)) x a.1 in
    (big_endian (take 4 c), big_endian (drop 4 c), (eqb-true (length c) 6 a.0, refl, refl), b.0, b.1, b.2)

moment_tells : (ms days t : ℕ) → ms < 86400000 → t ≡ 441763200000 + days * 86400000 + ms → t ≤ 4294967295999 → moment_of ms days ≡ Some t
moment_tells ms days t lt same le = rw (lt-ltb ms 86400000 lt, lt-ltb (441763200000 + days * 86400000 + ms) 4294967296000 (omega (arith, same, le))) (ap (λ (n : ℕ). Some n) (sym same))

pub moment_comes : IsAgain moment_in IsMoment
unfolding moment_in
moment_comes c x (ms, days, (six, m, d), lt, same, le) =
    rw (eq-eqb (length c) 6 six) (ap (λ (n : ℕ). moment_of n (big_endian (drop 4 c))) (sym m) ∙ ap (λ (n : ℕ). moment_of ms n) (sym d) ∙ moment_tells ms days x lt same le)

-- ---- bits

pub options_are : IsFound options_in IsOptFlds
unfolding options_in
options_are c x fits h =
    let a = then_some (kept (bits_at c)) (λ bits. cond (eqb (length bits) 10) (Some bits) None) x h in
    let b = chosen (eqb (length a.0) 10) (Some a.0) x a.2 in
    subst (λ (bits : List Bool). IsOptFlds c bits) (some_is a.0 x b.1) (bits_found c a.0 (kept_some (bits_at c) a.0 a.1), eqb-true (length a.0) 10 b.0)

pub options_come : IsAgain options_in IsOptFlds
unfolding options_in
options_come c x is = rw (bits_again c x is.0, eq-eqb (length x) 10 is.1) refl

pub inclusion_is : IsFound inclusion_in IsInclusion
unfolding inclusion_in
inclusion_is c x fits h =
    let a = then_some (kept (bits_at c)) (λ bits. cond (ltb 0 (length bits)) (cond (ltb (length bits) 257) (Some bits) None) None) x h in
    let b = chosen (ltb 0 (length a.0)) (cond (ltb (length a.0) 257) (Some a.0) None) x a.2 in
    let d = chosen (ltb (length a.0) 257) (Some a.0) x b.1 in
    let some = ltb-true 0 (length a.0) b.0 in
    let few = ltb-true (length a.0) 257 d.0 in
    subst (λ (bits : List Bool). IsInclusion c bits) (some_is a.0 x d.1) (bits_found c a.0 (kept_some (bits_at c) a.0 a.1), omega (arith, some), omega (arith, few))

pub inclusion_comes : IsAgain inclusion_in IsInclusion
unfolding inclusion_in
inclusion_comes c x is = rw (bits_again c x is.0, lt-ltb 0 (length x) (omega (arith, is.1)), lt-ltb (length x) 257 (omega (arith, is.2))) refl

-- the value came from the other side
unset : {A : Type 0} (b : Bool) (o : Option A) (y : A) → cond b None o ≡ Some y → (b ≡ false) × (o ≡ Some y)
unset false o y e = (refl, e)
unset true o y e = absurd cc

seven : (bits : List Bool) → length bits ≡ 7 → bit 0 bits ≡ false → bit 6 bits ≡ false
    → bits ≡ false ∷ bit 1 bits ∷ bit 2 bits ∷ bit 3 bits ∷ bit 4 bits ∷ bit 5 bits ∷ false ∷ []
seven (a ∷ b ∷ c ∷ d ∷ e ∷ f ∷ g ∷ []) n p q = rw (p, q) refl
seven [] n p q = absurd (omega (arith, n))
seven (a ∷ []) n p q = absurd (omega (arith, n))
seven (a ∷ b ∷ []) n p q = absurd (omega (arith, n))
seven (a ∷ b ∷ c ∷ []) n p q = absurd (omega (arith, n))
seven (a ∷ b ∷ c ∷ d ∷ []) n p q = absurd (omega (arith, n))
seven (a ∷ b ∷ c ∷ d ∷ e ∷ []) n p q = absurd (omega (arith, n))
seven (a ∷ b ∷ c ∷ d ∷ e ∷ f ∷ []) n p q = absurd (omega (arith, n))
seven (a ∷ b ∷ c ∷ d ∷ e ∷ f ∷ g ∷ h ∷ more) n p q = absurd (omega (arith, n))

pub reasons_are : IsFound reasons_in IsReasons
unfolding reasons_in
reasons_are c x fits h =
    let a = then_some (kept (bits_at c)) (λ bits. cond (eqb (length bits) 7) (cond (bit 0 bits) None (cond (bit 6 bits) None (Some (reasons_of bits)))) None) x h in
    let b = chosen (eqb (length a.0) 7) (cond (bit 0 a.0) None (cond (bit 6 a.0) None (Some (reasons_of a.0)))) x a.2 in
    let d = unset (bit 0 a.0) (cond (bit 6 a.0) None (Some (reasons_of a.0))) x b.1 in
    let e = unset (bit 6 a.0) (Some (reasons_of a.0)) x d.1 in
    subst (λ (r : Reasons). IsReasons c r) (some_is (reasons_of a.0) x e.1)
    (subst (λ (bits : List Bool). IsBits c bits) (seven a.0 (eqb-true (length a.0) 7 b.0) d.0 e.0) (bits_found c a.0 (kept_some (bits_at c) a.0 a.1)))

pub reasons_come : IsAgain reasons_in IsReasons
unfolding reasons_in
reasons_come c r is = rw (bits_again c (false ∷ r.dchg ∷ r.qchg ∷ r.dupd ∷ r.intg ∷ r.gi ∷ false ∷ []) is) refl

-- ---- Data

made_ok : {A B F : Type 0} (r : Result A F) (x : B) → is_ok (r >>= λ v. Ok x) ≡ is_ok r
made_ok (Ok v) x = refl
made_ok (Err f) x = refl

pub is_data-viewed : (s : Spot) (r : Result Spot DataFault) (b : Bool) → r ≡ view_at s → b ≡ is_ok r → b ≡ is_data s.element
unfolding view_at
is_data-viewed s r b view is = is ∙ ap (λ (x : Result Spot DataFault). is_ok x) view ∙ made_ok (data_at 10 s.element) s

ok_of : {A F : Type 0} (r : Result A F) → is_ok r ≡ true → (x : A) × (r ≡ Ok x)
ok_of (Ok x) e = (x, refl)
ok_of (Err f) e = absurd cc

in_front : (octets front rest : List ℕ) → octets ≡ front ++ rest → take (length octets - length rest) octets ≡ front
in_front octets front rest p =
    let count : length octets - length rest ≡ length front = let n = ap (λ (o : List ℕ). length o) p ∙ length-append front rest in omega (arith, n) in
    ap (λ (k : ℕ). take k octets) count ∙ ap (λ (o : List ℕ). take (length front) o) p ∙ take-append_seam front rest

pub data_are : (octets d rest : List ℕ) → IsBytes octets → data_in octets ≡ Some (d, rest) → TakesData octets rest d × IsBytes rest
unfolding data_in
data_are octets d rest fits h =
    let a = then_some (kept (first_at octets)) (λ x. cond (is_data x.0) (Some (take (length octets - length x.1) octets, x.1)) None) (d, rest) h in
    let b = chosen (is_data a.0.0) (Some (take (length octets - length a.0.1) octets, a.0.1)) (d, rest) a.2 in
    let begins = begins_of octets a.0 (kept_some (first_at octets) a.0 a.1) in
    let bytes = Begins-bytes octets a.0.0 a.0.1 fits begins in
    let both : (take (length octets - length a.0.1) octets, a.0.1) ≡ (d, rest) = some_is (take (length octets - length a.0.1) octets, a.0.1) (d, rest) b.1 in
    let front : begins.0 ≡ d = sym (in_front octets begins.0 a.0.1 begins.2) ∙ ap (λ (x : List ℕ × List ℕ). x.0) both in
    let behind : a.0.1 ≡ rest = ap (λ (x : List ℕ × List ℕ). x.1) both in
    let v = ok_of (data_at 10 a.0.0) b.0 in
    let within : IsWithin 10 a.0.0 v.0 = subst (λ (r : Result Seen DataFault). MatchResult r (IsWithin 10 a.0.0) (IsRefusedData 10 a.0.0)) v.1 (data_exact 10 a.0.0 bytes.0).tells in (
      subst (λ (x : List ℕ). TakesData octets x d) behind (subst (λ (x : List ℕ). TakesData octets a.0.1 x) front (begins.2, v.0, (a.0.0, begins.1, within))),
      subst (λ (x : List ℕ). IsBytes x) behind bytes.1,
    )

pub data_come : (octets d rest : List ℕ) → IsBytes octets → TakesData octets rest d → (data_in octets ≡ Some (d, rest)) × IsBytes rest
unfolding data_in
data_come octets d rest fits (p, v, (e, s, within)) =
    let first : first_at octets ≡ Ok (e, rest) = ap first_at p ∙ first_again d rest e s in
    let bytes = Begins-bytes octets e rest fits (d, s, p) in
    (rw (first, data_again 10 e v bytes.0 within) (ap (λ (o : List ℕ). Some (o, rest)) (in_front octets d rest p)), bytes.1)
