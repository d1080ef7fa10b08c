-- What is read is a value of the element, and each refusal is where no value goes on.
use Rattle.std.proofs.Common.{◌≡◌, ℕ, zero, suc, ◌≤◌, ◌-◌, true, false, ◌||◌, cond, eqb, List, [], ◌∷◌, ◌++◌, length, take, drop, get_or, Result, Ok, Err, refl, sym, ap, subst, ◌∙◌, ◌⊎◌, inl, inr, arith}
use Rattle.std.proofs.lemmas.Bool.{eqb-true, eqb-false, eq-eqb, ne_eqb, cond_both, or_parts}
use Rattle.std.proofs.lemmas.List.{append-nil, nil_from_length}
use Rattle.list_laws.proofs.Options.{ok_is}
use Rattle.ber_grammar.specs.declared.fault.BerFault.{BerFault}
use Rattle.ber_grammar.specs.Octets.{IsBytes, big_endian}
use Rattle.ber_grammar.specs.Element.{Element, Spells, Begins, IsRow, IsRefused}
use Rattle.ber_grammar.specs.Content.{IsBoolean, IsInt, IsUint, IsText, IsBits}
use Rattle.ber_grammar.specs.Reader.{◌>>=◌, with_fault, Reads}
use Rattle.ber_grammar.specs.Reading.{first_at, boolean_at, int_at, uint_at, text_at, bits_at}
use Rattle.ber_grammar.specs.Rows.{row_at}
use Rattle.ber_grammar.proofs.ReaderLaws.{exact_from}
use Rattle.ber_grammar.proofs.OctetLaws.{IsBytes-front, IsBytes-back, Begins-bytes}
use Rattle.ber_grammar.proofs.ElementLaws.{FirstTells, first_tells, first_again, refused_again as element_refused}
use Rattle.ber_grammar.proofs.UintLaws.{uint_again, uint_found}
use Rattle.ber_grammar.proofs.IntLaws.{int_again, int_found}
use Rattle.ber_grammar.proofs.TextLaws.{text_again, text_found}
use Rattle.ber_grammar.proofs.BitLaws.{bits_again, bits_found}
use Rattle.ber_grammar.proofs.BooleanLaws.{boolean_again, boolean_found}
use Rattle.ber_grammar.proofs.RowLaws.{AllRead, StopsAt, RowTells, row_tells, row_again, row_refused}
use Rattle.ber_grammar.proofs.FieldLaws.{first_whole}
use Rattle.sv_base.specs.Tree.{Plain, Seen, Row, plain, structure, none, more, truth, int, uint, bits, time, stamp, text, octets, other}
use Rattle.sv_base.specs.Depth.{depth_seen, depth_row}
use Rattle.mms_data.specs.declared.fault.DataFault.{DataFault}
use Rattle.mms_data.specs.declared.fault.DataFault.TheVariants.{Tag, Length, Depth}
use Rattle.mms_data.specs.Grammar.{is_context, is_kind, IsPlain, IsData, AreData, IsWithin, IsRefusedData, IsSpelled, IsDataRefused}
use Rattle.mms_data.specs.Reading.{malformed, no_element, truth_at, bit_string_at, integer_at, unsigned_at, string_at, stamp_at, time_at, plain_at, in_row, struct_at, data_at, read_at}
use Rattle.mms_data.proofs.DataLaws.{data_at-outside, data_at-deep, data_at-struct, data_at-plain}

-- ---- plain values

-- a plain element says its value
abbrev PlainTells : Element → Result Seen DataFault → Type 0
PlainTells e (Ok (plain p)) = IsPlain p e
PlainTells e (Ok (structure r)) = ⊥
PlainTells e (Err f) = f ≡ Length

-- Each reader of content says what it read, and its one fault.
abbrev Tells : {A : Type 0} → (A → Type 0) → Result A DataFault → Type 0
Tells P (Ok x) = P x
Tells P (Err f) = f ≡ Length

tells_from : {A : Type 0} (P : A → Type 0) (r : Result A BerFault) → ((x : A) → r ≡ Ok x → P x) → Tells P (with_fault malformed r)
tells_from P (Ok x) found = found x refl
tells_from P (Err f) found = refl

boolean_tells : (content : List ℕ) → Tells (IsBoolean content) (boolean_at Length content)
boolean_tells [] = refl
boolean_tells (a ∷ []) = boolean_found Length (a ∷ []) _ refl
boolean_tells (a ∷ c ∷ rest) = refl

then_made : {A : Type 0} (P : A → Type 0) (make : A → Plain) (e : Element) (r : Result A DataFault) → ((x : A) → P x → IsPlain (make x) e) → Tells P r → PlainTells e (r >>= λ x. Ok (plain (make x)))
then_made P make e (Ok x) is h = is x h
then_made P make e (Err f) is h = h

truth_tells : (e : Element) → e.tag ≡ 131 → PlainTells e (truth_at e.content)
truth_tells e t = then_made (IsBoolean e.content) (λ b. truth b) e (boolean_at Length e.content) (λ b h. (t, h)) (boolean_tells e.content)

bit_string_tells : (e : Element) → e.tag ≡ 132 → PlainTells e (bit_string_at e.content)
bit_string_tells e t = then_made (IsBits e.content) (λ bs. bits bs) e (with_fault malformed (bits_at e.content)) (λ bs h. (t, h))
    (tells_from (IsBits e.content) (bits_at e.content) (bits_found e.content))

integer_tells : (e : Element) → IsBytes e.content → e.tag ≡ 133 → PlainTells e (integer_at e.content)
integer_tells e fits t = then_made (IsInt e.content) (λ z. int z) e (with_fault malformed (int_at e.content)) (λ z h. (t, h)) (tells_from (IsInt e.content) (int_at e.content) (int_found e.content fits))

unsigned_tells : (e : Element) → IsBytes e.content → e.tag ≡ 134 → PlainTells e (unsigned_at e.content)
unsigned_tells e fits t = then_made (IsUint e.content) (λ n. uint n) e (with_fault malformed (uint_at e.content)) (λ n h. (t, h)) (tells_from (IsUint e.content) (uint_at e.content) (uint_found e.content fits))

string_tells : (e : Element) → e.tag ≡ 138 → PlainTells e (string_at e.content)
string_tells e t = then_made (IsText e.content) (λ x. text x) e (with_fault malformed (text_at e.content)) (λ x h. (t, h)) (tells_from (IsText e.content) (text_at e.content) (text_found e.content))

stamp_tells : (e : Element) → e.tag ≡ 140 → PlainTells e (stamp_at e.content)
stamp_tells e t = cond_both (eqb (length e.content) 6) (Ok (plain (stamp (big_endian (take 4 e.content)) (big_endian (drop 4 e.content))))) (Err Length) (λ r. PlainTells e r)
    (λ len. (t, (eqb-true (length e.content) 6 len, refl, refl))) (λ len. refl)

time_tells : (e : Element) → e.tag ≡ 145 → PlainTells e (time_at e.content)
time_tells e t = cond_both (eqb (length e.content) 8) (Ok (plain (time (big_endian (take 4 e.content)) (big_endian (take 3 (drop 4 e.content))) (get_or e.content 7 0)))) (Err Length) (λ r. PlainTells e r)
    (λ len. (t, (eqb-true (length e.content) 8 len, refl, refl, refl))) (λ len. refl)

kinds : (tag : ℕ) → eqb tag 131 ≡ false → eqb tag 132 ≡ false → eqb tag 133 ≡ false → eqb tag 134 ≡ false → eqb tag 137 ≡ false → eqb tag 138 ≡ false → eqb tag 140 ≡ false → eqb tag 145 ≡ false → eqb tag 162 ≡ false → is_kind tag ≡ false
kinds tag a b c d e f g h i = rw (a, b, c, d, e, f, g, h, i) refl

plain_tells : (e : Element) → IsBytes e.content → is_context e.tag ≡ true → eqb e.tag 162 ≡ false → PlainTells e (plain_at e)
unfolding plain_at
plain_tells e fits context no_struct =
    let rest8 = cond (eqb e.tag 145) (time_at e.content) (Ok (plain other)) in
    let rest7 = cond (eqb e.tag 140) (stamp_at e.content) rest8 in
    let rest6 = cond (eqb e.tag 138) (string_at e.content) rest7 in
    let rest5 = cond (eqb e.tag 137) (Ok (plain (octets e.content))) rest6 in
    let rest4 = cond (eqb e.tag 134) (unsigned_at e.content) rest5 in
    let rest3 = cond (eqb e.tag 133) (integer_at e.content) rest4 in
    let rest2 = cond (eqb e.tag 132) (bit_string_at e.content) rest3 in
    cond_both (eqb e.tag 131) (truth_at e.content) rest2 (λ r. PlainTells e r) (λ t. truth_tells e (eqb-true e.tag 131 t))
    (λ a. cond_both (eqb e.tag 132) (bit_string_at e.content) rest3 (λ r. PlainTells e r) (λ t. bit_string_tells e (eqb-true e.tag 132 t))
    (λ b. cond_both (eqb e.tag 133) (integer_at e.content) rest4 (λ r. PlainTells e r) (λ t. integer_tells e fits (eqb-true e.tag 133 t))
    (λ c. cond_both (eqb e.tag 134) (unsigned_at e.content) rest5 (λ r. PlainTells e r) (λ t. unsigned_tells e fits (eqb-true e.tag 134 t))
    (λ d. cond_both (eqb e.tag 137) (Ok (plain (octets e.content))) rest6 (λ r. PlainTells e r) (λ t. (eqb-true e.tag 137 t, refl))
    (λ k. cond_both (eqb e.tag 138) (string_at e.content) rest7 (λ r. PlainTells e r) (λ t. string_tells e (eqb-true e.tag 138 t))
    (λ l. cond_both (eqb e.tag 140) (stamp_at e.content) rest8 (λ r. PlainTells e r) (λ t. stamp_tells e (eqb-true e.tag 140 t))
    (λ m. cond_both (eqb e.tag 145) (time_at e.content) (Ok (plain other)) (λ r. PlainTells e r) (λ t. time_tells e (eqb-true e.tag 145 t))
    (λ n. (context, kinds e.tag a b c d k l m n no_struct)))))))))

no_kind : (tag : ℕ) → is_kind tag ≡ false
    → (eqb tag 131 ≡ false) × (eqb tag 132 ≡ false) × (eqb tag 133 ≡ false) × (eqb tag 134 ≡ false) × (eqb tag 137 ≡ false) × (eqb tag 138 ≡ false) × (eqb tag 140 ≡ false) × (eqb tag 145 ≡ false)
no_kind tag h =
    let p = or_parts (eqb tag 131 || eqb tag 132 || eqb tag 133 || eqb tag 134 || eqb tag 137 || eqb tag 138 || eqb tag 140 || eqb tag 145) (eqb tag 162) h in
    let q = or_parts (eqb tag 131 || eqb tag 132 || eqb tag 133 || eqb tag 134 || eqb tag 137 || eqb tag 138 || eqb tag 140) (eqb tag 145) p.0 in
    let r = or_parts (eqb tag 131 || eqb tag 132 || eqb tag 133 || eqb tag 134 || eqb tag 137 || eqb tag 138) (eqb tag 140) q.0 in
    let s = or_parts (eqb tag 131 || eqb tag 132 || eqb tag 133 || eqb tag 134 || eqb tag 137) (eqb tag 138) r.0 in
    let t = or_parts (eqb tag 131 || eqb tag 132 || eqb tag 133 || eqb tag 134) (eqb tag 137) s.0 in
    let u = or_parts (eqb tag 131 || eqb tag 132 || eqb tag 133) (eqb tag 134) t.0 in
    let v = or_parts (eqb tag 131 || eqb tag 132) (eqb tag 133) u.0 in
    let w = or_parts (eqb tag 131) (eqb tag 132) v.0 in
    (w.0, w.1, v.1, u.1, t.1, s.1, r.1, q.1)

plain_again : (e : Element) (p : Plain) → IsBytes e.content → IsPlain p e → plain_at e ≡ Ok (plain p)
unfolding plain_at
plain_again e (truth b) fits h = rw (h.0, boolean_again Length e.content b h.1) refl
plain_again e (bits bs) fits h = rw (h.0, bits_again e.content bs h.1) refl
plain_again e (int z) fits h = rw (h.0, int_again e.content fits z h.1) refl
plain_again e (uint n) fits h = rw (h.0, uint_again e.content n h.1) refl
plain_again e (octets o) fits h = rw (h.0, h.1) refl
plain_again e (text t) fits h = rw (h.0, text_again e.content t h.1) refl
plain_again e (stamp ms days) fits h = rw (h.0, eq-eqb (length e.content) 6 h.1.0, h.1.1, h.1.2) refl
plain_again e (time secs frac quality) fits h = rw (h.0, eq-eqb (length e.content) 8 h.1.0, h.1.1, h.1.2, h.1.3) refl
plain_again e other fits h = let t = no_kind e.tag h.1 in rw (t.0, t.1, t.2, t.3, t.4, t.5, t.6, t.7) refl

plain_tag : (e : Element) (p : Plain) → IsPlain p e → e.tag ≡ 162 → ⊥
plain_tag e (truth b) h q = omega (arith, h.0, q)
plain_tag e (bits bs) h q = omega (arith, h.0, q)
plain_tag e (int z) h q = omega (arith, h.0, q)
plain_tag e (uint n) h q = omega (arith, h.0, q)
plain_tag e (octets o) h q = omega (arith, h.0, q)
plain_tag e (text t) h q = omega (arith, h.0, q)
plain_tag e (stamp ms days) h q = omega (arith, h.0, q)
plain_tag e (time secs frac quality) h q = omega (arith, h.0, q)
plain_tag e other h q = let r : is_kind 162 ≡ false = subst (λ (x : ℕ). is_kind x ≡ false) q h.1 in cc

-- ---- values

abbrev DataTells : ℕ → Element → Result Seen DataFault → Type 0
DataTells n e (Ok s) = IsWithin n e s
DataTells n e (Err f) = IsRefusedData n e f

-- what is known of values one level down
abbrev Below : ℕ → Type 0
Below n = (e : Element) → IsBytes e.content → DataTells n e (data_at n e)

told : (n : ℕ) (e : Element) (r : Result Seen DataFault) → Below n → IsBytes e.content → data_at n e ≡ r → DataTells n e r
told n e r ih fits h = subst (λ (r : Result Seen DataFault). DataTells n e r) h (ih e fits)

parts_told : (n : ℕ) (content : List ℕ) (es : List Element) (ss : List Seen) → Below n → IsBytes content → IsRow content es → AllRead (data_at n) malformed es ss → AreData (in_row ss) es × (depth_row (in_row ss) ≤ n)
parts_told n content [] [] ih fits row all = (tt, omega arith)
parts_told n content [] (s ∷ ss) ih fits row all = absurd all
parts_told n content (e ∷ es) [] ih fits row all = absurd all
parts_told n content (e ∷ es) (s ∷ ss) ih fits (front, rest, spelled, p, row) all =
    let b = Begins-bytes content e rest fits (front, spelled, p) in
    let first : IsWithin n e s = told n e (Ok s) ih b.0 all.0 in
    let others = parts_told n rest es ss ih b.1 row all.1 in
    ((first.0, others.0), omega (arith, first.1, others.1))

stops : (n : ℕ) (rest : List ℕ) (f : DataFault) → Below n → IsBytes rest → StopsAt (data_at n) malformed rest f
    → ((f ≡ Length) × (g : BerFault) × IsRefused rest g) ⊎ ((e : Element) × (after : List ℕ) × Begins rest e after × IsRefusedData n e f)
stops n rest f ih fits (inl (g, same, first)) = inl (same, g, subst (λ (r : Result (Element × List ℕ) BerFault). FirstTells rest r) first (first_tells rest))
stops n rest f ih fits (inr (d, after, first, this)) =
    let b : Begins rest d after = subst (λ (r : Result (Element × List ℕ) BerFault). FirstTells rest r) first (first_tells rest) in
    inr (d, after, b, told n d (Err f) ih (Begins-bytes rest d after fits b).0 this)

struct_tells : (n : ℕ) (e : Element) (r : Result (List Seen) DataFault) → Below n → IsBytes e.content → is_context e.tag ≡ true → e.tag ≡ 162 → RowTells (data_at n) malformed e.content r
    → DataTells (suc n) e (r >>= λ ss. Ok (structure (in_row ss)))
struct_tells n e (Ok ss) ih fits context tag (es, row, all) =
    let told = parts_told n e.content es ss ih fits row all in
    ((tag, es, row, told.0), omega (arith, told.1))
struct_tells n e (Err f) ih fits context tag (es, ss, front, rest, row, all, p, some, stop) =
    let whole : IsBytes (front ++ rest) = subst IsBytes p fits in
    let told = parts_told n front es ss ih (IsBytes-front front rest whole) row all in
    inr (context, inr (tag, (es, in_row ss, front, rest, row, told.0, told.1, p, some, stops n rest f ih (IsBytes-back front rest whole) stop)))

plain_never : (e : Element) (s : Seen) (f : DataFault) → IsBytes e.content → plain_at e ≡ Err f → (e.tag ≡ 162 → ⊥) → IsData s e → ⊥
plain_never e (plain p) f fits same ne is = let again = plain_again e p fits is in cc
plain_never e (structure r) f fits same ne is = ne is.0

plain_data : (n : ℕ) (e : Element) (r : Result Seen DataFault) → plain_at e ≡ r → IsBytes e.content → is_context e.tag ≡ true → eqb e.tag 162 ≡ false → PlainTells e r → DataTells (suc n) e r
plain_data n e (Ok (plain p)) same fits context ne h = (h, omega arith)
plain_data n e (Ok (structure r)) same fits context ne h = absurd h
plain_data n e (Err f) same fits context ne h = inr (context, inl (eqb-false e.tag 162 ne, h, λ s is. plain_never e s f fits same (eqb-false e.tag 162 ne) is))

data_tells : (n : ℕ) (e : Element) → IsBytes e.content → DataTells n e (data_at n e)
unfolding data_at
data_tells zero e fits = cond_both (is_context e.tag) (Err Depth) (Err Tag) (λ r. DataTells 0 e r) (λ h. inr (h, refl)) (λ h. inl (h, refl))
data_tells (suc n) e fits =
    cond_both (is_context e.tag) (cond (eqb e.tag 162) (struct_at (data_at n) e.content) (plain_at e)) (Err Tag) (λ r. DataTells (suc n) e r)
    (λ context. cond_both (eqb e.tag 162) (struct_at (data_at n) e.content) (plain_at e) (λ r. DataTells (suc n) e r)
    (λ t. struct_tells n e (row_at (data_at n) malformed e.content) (data_tells n) fits context (eqb-true e.tag 162 t) (row_tells (data_at n) malformed e.content))
    (λ p. plain_data n e (plain_at e) refl fits context p (plain_tells e fits context p)))
    (λ outside. inl (outside, refl))

-- ---- what is a value is read

abbrev from_row : Row → List Seen
from_row none = []
from_row (more s r) = s ∷ from_row r

in_row-from_row : (r : Row) → in_row (from_row r) ≡ r
in_row-from_row none = refl
in_row-from_row (more s r) = ap (λ (x : Row). more s x) (in_row-from_row r)

depth_some : (s : Seen) → 1 ≤ depth_seen s
depth_some (plain p) = omega arith
depth_some (structure r) = omega arith

plain_context : (e : Element) (p : Plain) → IsPlain p e → is_context e.tag ≡ true
plain_context e (truth b) h = rw (h.0) refl
plain_context e (bits bs) h = rw (h.0) refl
plain_context e (int z) h = rw (h.0) refl
plain_context e (uint n) h = rw (h.0) refl
plain_context e (octets o) h = rw (h.0) refl
plain_context e (text t) h = rw (h.0) refl
plain_context e (stamp ms days) h = rw (h.0) refl
plain_context e (time secs frac quality) h = rw (h.0) refl
plain_context e other h = h.0

-- what is known of values one level down
abbrev Again : ℕ → Type 0
Again n = (e : Element) (s : Seen) → IsBytes e.content → IsWithin n e s → data_at n e ≡ Ok s

parts_again : (n : ℕ) (content : List ℕ) (es : List Element) (r : Row) → Again n → IsBytes content → IsRow content es → AreData r es → depth_row r ≤ n → AllRead (data_at n) malformed es (from_row r)
parts_again n content [] none ih fits row are le = tt
parts_again n content (e ∷ es) none ih fits row are le = absurd are
parts_again n content [] (more s r) ih fits row are le = absurd are
parts_again n content (e ∷ es) (more s r) ih fits (front, rest, spelled, p, row) are le =
    let b = Begins-bytes content e rest fits (front, spelled, p) in
    (ih e s b.0 (are.0, omega (arith, le)), parts_again n rest es r ih b.1 row are.1 (omega (arith, le)))

level_again : (n : ℕ) (e : Element) (s : Seen) → Again n → IsBytes e.content → IsWithin (suc n) e s → data_at (suc n) e ≡ Ok s
level_again n e (structure r) ih fits h =
    let tag = h.0.0 in
    let all = parts_again n e.content h.0.1 r ih fits h.0.2 h.0.3 (omega (arith, h.1)) in
    let read : row_at (data_at n) malformed e.content ≡ Ok (from_row r) = row_again (data_at n) malformed e.content h.0.1 (from_row r) h.0.2 all in
    data_at-struct (suc n) e (omega arith) (rw tag refl) tag
    ∙ (let k : suc n - 1 ≡ n = omega arith in rw (k, read, in_row-from_row r) refl)
level_again n e (plain p) ih fits h = data_at-plain (suc n) e (omega arith) (plain_context e p h.0) (ne_eqb e.tag 162 (λ q. plain_tag e p h.0 q)) ∙ plain_again e p fits h.0

pub data_again : (n : ℕ) (e : Element) (s : Seen) → IsBytes e.content → IsWithin n e s → data_at n e ≡ Ok s
data_again zero e s fits h = absurd (omega (arith, depth_some s, h.1))
data_again (suc n) e s fits h = level_again n e s (data_again n) fits h

-- ---- each refusal comes where it is said

plain_refused : (e : Element) (r : Result Seen DataFault) → PlainTells e r → ((s : Seen) → ¬ IsData s e) → r ≡ Err Length
plain_refused e (Ok (plain p)) h never = absurd (never (plain p) h)
plain_refused e (Ok (structure r)) h never = absurd h
plain_refused e (Err f) h never = ap (λ (x : DataFault). Err x) h

stops_again : (n : ℕ) (rest : List ℕ) (f : DataFault) → ((e : Element) (f : DataFault) → IsBytes e.content → IsRefusedData n e f → data_at n e ≡ Err f) → IsBytes rest
    → ((f ≡ Length) × (g : BerFault) × IsRefused rest g) ⊎ ((e : Element) × (after : List ℕ) × Begins rest e after × IsRefusedData n e f) → StopsAt (data_at n) malformed rest f
stops_again n rest f ih fits (inl (same, g, h)) = inl (g, same, element_refused rest g h)
stops_again n rest f ih fits (inr (d, after, b, h)) = inr (d, after, ap first_at b.2 ∙ first_again b.0 after d b.1, ih d f (Begins-bytes rest d after fits b).0 h)

refused_again : (n : ℕ) (e : Element) (f : DataFault) → IsBytes e.content → IsRefusedData n e f → data_at n e ≡ Err f
refused_again zero e f fits (inl h) = data_at-outside 0 e h.0 ∙ ap (λ (x : DataFault). Err x) (sym h.1)
refused_again zero e f fits (inr h) = data_at-deep 0 e refl h.0 ∙ ap (λ (x : DataFault). Err x) (sym h.1)
refused_again (suc n) e f fits (inl h) = data_at-outside (suc n) e h.0 ∙ ap (λ (x : DataFault). Err x) (sym h.1)
refused_again (suc n) e f fits (inr (context, inl (ne, same, never))) =
    data_at-plain (suc n) e (omega arith) context (ne_eqb e.tag 162 ne) ∙ plain_refused e (plain_at e) (plain_tells e fits context (ne_eqb e.tag 162 ne)) never ∙ ap (λ (x : DataFault). Err x) (sym same)
refused_again (suc n) e f fits (inr (context, inr (tag, (es, r, front, rest, row, are, le, p, some, stop)))) =
    let whole : IsBytes (front ++ rest) = subst IsBytes p fits in
    let all = parts_again n front es r (data_again n) (IsBytes-front front rest whole) row are le in
    let read : row_at (data_at n) malformed e.content ≡ Err f = row_refused (data_at n) malformed e.content f es (from_row r) front rest row all p some (stops_again n rest f (refused_again n) (IsBytes-back front rest whole) stop) in
    data_at-struct (suc n) e (omega arith) context tag ∙ (let k : suc n - 1 ≡ n = omega arith in rw (k, read) refl)

-- ---- all of the octets

abbrev ReadTells : List ℕ → Result Seen DataFault → Type 0
ReadTells input (Ok s) = IsSpelled input s
ReadTells input (Err f) = IsDataRefused input f

at_end : (input : List ℕ) (e : Element) (r : Result Seen DataFault) → Spells input e → DataTells 10 e r → ReadTells input r
at_end input e (Ok s) spelled h = (e, spelled, h)
at_end input e (Err f) spelled h = inr (e, spelled, h)

after_first : (input : List ℕ) (r : Result (Element × List ℕ) BerFault) → first_at input ≡ r → IsBytes input → FirstTells input r
    → ReadTells input (with_fault no_element r >>= λ first. cond (eqb (length first.1) 0) (data_at 10 first.0) (Err Tag))
after_first input (Ok (e, rest)) first fits b =
    cond_both (eqb (length rest) 0) (data_at 10 e) (Err Tag) (λ r. ReadTells input r)
    (λ none. let nil = nil_from_length rest (eqb-true (length rest) 0 none) in
    let whole : b.0 ≡ input = sym (b.2 ∙ ap (λ (x : List ℕ). b.0 ++ x) nil ∙ append-nil b.0) in
    at_end input e (data_at 10 e) (subst (λ (x : List ℕ). Spells x e) whole b.1) (data_tells 10 e (Begins-bytes input e rest fits b).0))
    (λ some. inl (
      refl,
      λ d s.
          let two = first_whole input d s in
          let same : rest ≡ [] = ap (λ (x : Element × List ℕ). x.1) (ok_is {F = BerFault} (e, rest) (d, []) (sym first ∙ two)) in
          eqb-false (length rest) 0 some (ap length same),
    ))
after_first input (Err g) first fits b = inl (refl, λ d s. let two = first_whole input d s in cc)

read_tells : (input : List ℕ) → IsBytes input → ReadTells input (read_at input)
unfolding read_at
read_tells input fits = after_first input (first_at input) refl fits (first_tells input)

pub read_again : (input : List ℕ) → IsBytes input → (s : Seen) → IsSpelled input s → read_at input ≡ Ok s
unfolding read_at
read_again input fits s (e, spelled, h) = rw (first_whole input e spelled, data_again 10 e s (Begins-bytes input e [] fits (input, spelled, sym (append-nil input))).0 h) refl

not_spelled : (input : List ℕ) (r : Result Seen DataFault) → ReadTells input r → ((e : Element) → ¬ Spells input e) → r ≡ Err Tag
not_spelled input (Ok s) h never = absurd (never h.0 h.1)
not_spelled input (Err f) (inl h) never = ap (λ (x : DataFault). Err x) h.0
not_spelled input (Err f) (inr h) never = absurd (never h.0 h.1)

read_refused : (input : List ℕ) → IsBytes input → (f : DataFault) → IsDataRefused input f → read_at input ≡ Err f
unfolding read_at
read_refused input fits f (inl (same, never)) = not_spelled input (read_at input) (read_tells input fits) never ∙ ap (λ (x : DataFault). Err x) (sym same)
read_refused input fits f (inr (e, s, h)) = rw (first_whole input e s, refused_again 10 e f (Begins-bytes input e [] fits (input, s, sym (append-nil input))).0 h) refl

pub read_exact : (input : List ℕ) → IsBytes input → Reads (λ (s : Seen). s) (read_at input) (IsSpelled input) (IsDataRefused input)
read_exact input fits = exact_from (read_at input) (IsSpelled input) (IsDataRefused input) (ReadTells input) (λ s h. h) (λ f h. h) (read_tells input fits) (read_again input fits) (read_refused input fits)

pub data_exact : (n : ℕ) (e : Element) → IsBytes e.content → Reads (λ (s : Seen). s) (data_at n e) (IsWithin n e) (IsRefusedData n e)
data_exact n e fits = exact_from (data_at n e) (IsWithin n e) (IsRefusedData n e) (DataTells n e) (λ s h. h) (λ f h. h) (data_tells n e fits) (λ s h. data_again n e s fits h) (λ f h. refused_again n e f fits h)

pub read_is_data : (input : List ℕ) (e : Element) → Spells input e → read_at input ≡ data_at 10 e
unfolding read_at
read_is_data input e s = rw (first_whole input e s) refl
