-- What words that were read spell.
use Rattle.std.proofs.Common.{◌≡◌, ℕ, zero, suc, ◌+◌, ◌*◌, ◌/◌, ◌%◌, ◌^◌, ◌<◌, ◌≤◌, ◌⊎◌, inl, inr, Bool, true, false, cond, ◌&&◌, List, [], ◌∷◌, ◌++◌, length, take, drop, take-append-drop, map, slice_index, nat_lt, nat_le, ◌==◌, ℤ, pos, refl, sym, ap, ap₂, subst, ◌∙◌, arith}
use Rattle.std.specs.Prelude.{Option, Some, None, Result, Ok, Err, codes}
use Rattle.std.specs.Fmt.{digits, decimal, signed_decimal}
use Rattle.std.specs.Int.{to_be_bytes, w32}
use Rattle.std.specs.List.{list_all}
use Rattle.std.specs.Str.{bytes_eq}
use Rattle.std.proofs.lemmas.Bool.{and_parts, leb-true, ltb-true, eqb-true, cond-true, cond_both, agree_below_at}
use Rattle.std.proofs.lemmas.Bool.Decides.{nat_tests}
use Rattle.std.proofs.lemmas.Slice.Eq.{bytes_eq-Decides}
use Rattle.hex.specs.Hex.{lower_digits, encode_with, encode_lower, IsBytes, decode_of, decode_pairs, pair_value, hex_digit_value, digit_or_error, ◌>>=◌}
use Rattle.hex.specs.Hex as hexed
use Rattle.hex.specs.declared.error.FromHexError.{FromHexError}
use Rattle.hex.proofs.HexLemmas.{decode_of-ok, decode_of-even}
use Rattle.sv_base.specs.declared.value.Utc.{Utc}
use Rattle.sv_base.specs.declared.value.Value.{Value}
use Rattle.sv_base.specs.declared.value.Value.TheVariants as values
use Rattle.sv_base.specs.declared.types.TypeOf.{TypeOf}
use Rattle.sv_base.specs.declared.types.TypeOf.TheVariants as types
use Rattle.text_words.specs.declared.types.Flags.{Flags}
use Rattle.text_words.specs.Numbers.{number_at, within, number_within, minus, negatives, greatest, int_at, signed_at, positive_at, negative_at}
use Rattle.text_words.specs.Types.{made, sized, sized_type_at, type_at, flags_at, flags}
use Rattle.text_words.specs.Values.{one_more, values_at}
use Rattle.text_words.specs.Values.{is_graphic, is_binary, bits_at, text_at, is_hex, hex_at, decoded, octets_at, utc_of, utc_read, time_at, truth_at, read_as, value_at}
use Rattle.text_words.specs.Words.{behind}
use Rattle.text_words.specs.Spelled.{truth_word, bits_word, text_word, time_octets, value_word, type_word, flags_word}
use Rattle.text_words.specs.Grammar.{IsType, SpellsType, FitsInt, IsOfType, AreOfType, SpellsValue, SpellValues}
use Rattle.text_words.proofs.NumberLaws.{number_at-tells}
use Rattle.list_laws.proofs.Options.{some_is, chosen}

within-tells : (least most : ℕ) (o : Option ℕ) (n : ℕ) → within least most o ≡ Some n → (o ≡ Some n) × (least ≤ n) × (n ≤ most)
within-tells least most None n is = absurd cc
within-tells least most (Some m) n is =
    let parts = chosen _ (Some m) n is in
    let same = some_is m n parts.1 in
    let both = and_parts _ _ parts.0 in
    (ap (λ k. Some k) same, subst (λ k. least ≤ k) same (leb-true least m both.0), subst (λ k. k ≤ most) same (leb-true m most both.1))

pub number-tells : (least most : ℕ) (word : List ℕ) (n : ℕ) → number_within least most word ≡ Some n → (word ≡ decimal n) × (least ≤ n) × (n ≤ most)
number-tells least most word n is = let told = within-tells least most (number_at word) n is in (sym (number_at-tells word n told.0).1, told.1, told.2)

pub behind-tells : (front word rest : List ℕ) → behind front word ≡ Some rest → word ≡ front ++ rest
behind-tells front word rest is =
    let parts = chosen _ (Some (drop (length front) word)) rest is in
    sym (take-append-drop (length front) word) ∙ ap₂ (λ a b. a ++ b) ((bytes_eq-Decides (take (length front) word) front).0 parts.0) (some_is (drop (length front) word) rest parts.1)

-- a word that is compared with one after another
pub by-word : {A : Type 0} (Q : A → Type 0) (word known : List ℕ) (here there : A) (rest : Option A) → (word ≡ known → Q here) → (rest ≡ Some there → Q there) → cond (bytes_eq word known) (Some here) rest ≡ Some there → Q there
by-word Q word known here there rest one other is = by (bytes_eq word known) refl is
  where
    by : (b : Bool) → bytes_eq word known ≡ b → cond b (Some here) rest ≡ Some there → Q there
    by true e found = subst Q (some_is here there found) (one ((bytes_eq-Decides word known).0 e))
    by false e found = other found

pub none-some : {A : Type 0} (x : A) (Q : Type 0) → None ≡ Some x → Q
none-some x Q is = absurd cc

abbrev Names : List ℕ → TypeOf → Type 0
Names word kind = IsType kind × SpellsType word kind

sized-tells : (Q : TypeOf → Type 0) (make : ℕ → TypeOf) (most : ℕ) (front word : List ℕ) (other : Option TypeOf) (kind : TypeOf) → ((n : ℕ) → 1 ≤ n → n ≤ most → word ≡ front ++ decimal n → Q (make n)) → (other ≡ Some kind → Q kind)
    → sized make most (behind front word) other ≡ Some kind → Q kind
sized-tells Q make most front word other kind one more is = by (behind front word) refl is
  where
    spelled : (digits : List ℕ) (o : Option ℕ) → behind front word ≡ Some digits → number_within 1 most digits ≡ o → made make o ≡ Some kind → Q kind
    spelled digits None e n found = absurd cc
    spelled digits (Some k) e n found = let told = number-tells 1 most digits k n in
        subst Q (some_is (make k) kind found) (one k told.1 told.2 (behind-tells front word digits e ∙ ap (λ d. front ++ d) told.0))

    by : (o : Option (List ℕ)) → behind front word ≡ o → sized make most o other ≡ Some kind → Q kind
    by None e found = more found
    by (Some digits) e found = spelled digits (number_within 1 most digits) e refl found

pub type-tells : (word : List ℕ) (kind : TypeOf) → type_at word ≡ Some kind → Names word kind
unfolding type_at sized_type_at type_word digits
type-tells word kind =
    by-word (Names word) word (codes "bool") types.Bool kind _ (λ e. (tt, inl e))
    (by-word (Names word) word (codes "int8") (types.Int 8) kind _ (λ e. (inl refl, inl e))
    (by-word (Names word) word (codes "int16") (types.Int 16) kind _ (λ e. (inr (inl refl), inl e))
    (by-word (Names word) word (codes "int32") (types.Int 32) kind _ (λ e. (inr (inr (inl refl)), inl e))
    (by-word (Names word) word (codes "int64") (types.Int 64) kind _ (λ e. (inr (inr (inr refl)), inl e))
    (by-word (Names word) word (codes "uint8") (types.Uint 8) kind _ (λ e. (inl refl, inl e))
    (by-word (Names word) word (codes "uint16") (types.Uint 16) kind _ (λ e. (inr (inl refl), inl e))
    (by-word (Names word) word (codes "uint32") (types.Uint 32) kind _ (λ e. (inr (inr refl), inl e))
    (by-word (Names word) word (codes "dbpos") (types.Bits 2) kind _ (λ e. ((omega arith, omega arith), inr (inl (e, refl))))
    (by-word (Names word) word (codes "quality") (types.Bits 13) kind _ (λ e. ((omega arith, omega arith), inr (inr (e, refl))))
    (by-word (Names word) word (codes "time") types.Time kind _ (λ e. (tt, inl e))
    (sized-tells (Names word) types.Bits 64 (codes "bits") word _ kind (λ n low high e. ((low, high), inl e))
    (sized-tells (Names word) types.Text 255 (codes "text") word _ kind (λ n low high e. ((low, high), inl e))
    (sized-tells (Names word) types.Octets 255 (codes "octets") word _ kind (λ n low high e. ((low, high), inl e))
    (none-some kind (Names word kind)))))))))))))))

abbrev Options : List ℕ → Flags → Type 0
Options word f = word ≡ flags_word f.dchg f.qchg f.dupd

pub flags-tell : (word : List ℕ) (f : Flags) → flags_at word ≡ Some f → Options word f
unfolding flags_at
flags-tell word f =
    by-word (Options word) word (codes "-") (flags false false false) f _ (λ e. e)
    (by-word (Options word) word (codes "d") (flags true false false) f _ (λ e. e)
    (by-word (Options word) word (codes "q") (flags false true false) f _ (λ e. e)
    (by-word (Options word) word (codes "u") (flags false false true) f _ (λ e. e)
    (by-word (Options word) word (codes "dq") (flags true true false) f _ (λ e. e)
    (by-word (Options word) word (codes "du") (flags true false true) f _ (λ e. e)
    (by-word (Options word) word (codes "qu") (flags false true true) f _ (λ e. e)
    (by-word (Options word) word (codes "dqu") (flags true true true) f _ (λ e. e)
    (none-some f (Options word f)))))))))

binary-back : (word : List ℕ) → list_all is_binary word ≡ true → word ≡ bits_word (map (λ octet. octet == 49) word)
binary-back [] e = refl
binary-back (octet ∷ octets) e = ap₂ (λ (o : ℕ) (os : List ℕ). o ∷ os) (one octet (and_parts _ _ e).0) (binary-back octets (and_parts _ _ e).1)
  where
    one : (octet : ℕ) → is_binary octet ≡ true → octet ≡ (cond (octet == 49) 49 48)
    one octet e = grind (arith, nat_tests)

length-map : (word : List ℕ) → length (map (λ octet. octet == 49) word) ≡ length word
length-map [] = refl
length-map (octet ∷ octets) = ap suc (length-map octets)

pub bits-tell : (count : ℕ) (word : List ℕ) (bits : List Bool) → bits_at count word ≡ Some bits → (word ≡ bits_word bits) × (length bits ≡ count)
bits-tell count word bits is =
    let parts = chosen _ (Some (map (λ octet. octet == 49) word)) bits is in
    let same = some_is (map (λ octet. octet == 49) word) bits parts.1 in
    let both = and_parts _ _ parts.0 in
    (binary-back word both.1 ∙ ap bits_word same, subst (λ bs. length bs ≡ count) same (length-map word ∙ eqb-true (length word) count both.0))

pub text-tells : (most : ℕ) (word octets : List ℕ) → text_at most word ≡ Some octets → (word ≡ text_word octets) × (length octets ≤ most) × (list_all is_graphic octets ≡ true)
text-tells most [] octets is = absurd cc
text-tells most (mark ∷ rest) octets is =
    let parts = chosen _ (Some rest) octets is in
    let same = some_is rest octets parts.1 in
    let both = and_parts ((mark == 39) && nat_le (length rest) most) (list_all is_graphic rest) parts.0 in
    let front = and_parts (mark == 39) (nat_le (length rest) most) both.0 in
    (ap₂ (λ (m : ℕ) (os : List ℕ). m ∷ os) (eqb-true mark 39 front.0) same, subst (λ os. length os ≤ most) same (leb-true (length rest) most front.1), subst (λ os. list_all is_graphic os ≡ true) same both.1)

-- hexadecimal digits
hex-then : {A B : Type 0} (r : Result A FromHexError) (f : A → Result B FromHexError) (y : B) → (r >>= f) ≡ Ok y → (x : A) × (r ≡ Ok x) × (f x ≡ Ok y)
hex-then (Ok x) f y is = (x, refl, is)
hex-then (Err fault) f y is = absurd cc

abbrev ok_of : {A : Type 0} → A → Result A FromHexError
ok_of x = Ok x

ok_is : {A : Type 0} (x y : A) → ok_of x ≡ ok_of y → x ≡ y
ok_is x y e = cc

digit-found : (digit i : ℕ) (o : Option ℕ) (v : ℕ) → digit_or_error digit i o ≡ Ok v → o ≡ Some v
digit-found digit i None v is = absurd cc
digit-found digit i (Some w) v is = let same : w ≡ v = cc in ap (λ k. Some k) same

abbrev spells_back : Option ℕ → ℕ → Bool
spells_back None digit = false
spells_back (Some v) digit = (slice_index lower_digits v == digit) && nat_lt v 16

abbrev is_spelled_back : ℕ → Bool
is_spelled_back digit = cond (is_hex digit) (spells_back (hex_digit_value digit) digit) true

digit-back : (digit v : ℕ) → is_hex digit ≡ true → hex_digit_value digit ≡ Some v → (slice_index lower_digits v ≡ digit) × (v < 16)
digit-back digit v lower is =
    let below : digit < 103 = grind (arith, nat_tests, lower) in
    let back : is_spelled_back digit ≡ true = agree_below_at is_spelled_back (λ n. true) 103 digit refl below in
    let found : spells_back (hex_digit_value digit) digit ≡ true = sym (cond-true (is_hex digit) (spells_back (hex_digit_value digit) digit) true lower) ∙ back in
    let both = and_parts (slice_index lower_digits v == digit) (nat_lt v 16) (ap (λ o. spells_back o digit) (sym is) ∙ found) in
    (eqb-true _ _ both.0, ltb-true v 16 both.1)

pairs-back : (i : ℕ) (digits octets : List ℕ) → list_all is_hex digits ≡ true → decode_pairs i digits ≡ Ok octets → digits ≡ encode_lower octets
unfolding decode_pairs encode_with
pairs-back i [] octets lower is = let none : [] ≡ octets = cc in ap encode_lower none
pairs-back i (a ∷ []) octets lower is = absurd cc
pairs-back i (a ∷ b ∷ rest) octets lower is =
    let byte = hex-then (pair_value a b i) _ octets is in
    let more = hex-then (decode_pairs (i + 2) rest) _ octets byte.2 in
    let high = hex-then (hexed.value_at a i) _ byte.0 byte.1 in
    let low = hex-then (hexed.value_at b (i + 1)) _ byte.0 high.2 in
    let first = and_parts _ _ lower in
    let second = and_parts _ _ first.1 in
    let h = digit-back a high.0 first.0 (digit-found a i (hex_digit_value a) high.0 high.1) in
    let l = digit-back b low.0 second.0 (digit-found b (i + 1) (hex_digit_value b) low.0 low.1) in
    let sum : high.0 * 16 + low.0 ≡ byte.0 = ok_is _ _ low.2 in
    let all : byte.0 ∷ more.0 ≡ octets = ok_is _ _ more.2 in
    let top : byte.0 / 16 ≡ high.0 = omega (arith, sum, l.1) in
    let bottom : byte.0 % 16 ≡ low.0 = omega (arith, sum, l.1) in
    ap₂ (λ (x : ℕ) (xs : List ℕ). x ∷ xs) (sym (ap (slice_index lower_digits) top ∙ h.0)) (ap₂ (λ (x : ℕ) (xs : List ℕ). x ∷ xs) (sym (ap (slice_index lower_digits) bottom ∙ l.0)) (pairs-back (i + 2) rest more.0 second.1 more.1)) ∙ ap encode_lower all

hex-of : (digits octets : List ℕ) (r : Result (List ℕ) FromHexError) → decode_of digits ≡ r → decoded r ≡ Some octets → decode_of digits ≡ Ok octets
hex-of digits octets (Err fault) e is = absurd cc
hex-of digits octets (Ok os) e is = e ∙ ap (λ o. Ok o) (some_is os octets is)

pub hex-tells : (digits octets : List ℕ) → hex_at digits ≡ Some octets → (digits ≡ encode_lower octets) × (length digits ≡ 2 * length octets) × IsBytes octets
hex-tells digits octets is =
    let parts = chosen _ (decoded (decode_of digits)) octets is in
    let read = hex-of digits octets (decode_of digits) refl parts.1 in
    let ok = decode_of-ok digits octets read in
    (pairs-back 0 digits octets parts.0 (sym (decode_of-even digits ok.0) ∙ read), ok.2, ok.3)

pub octets-tell : (most : ℕ) (word octets : List ℕ) → octets_at most word ≡ Some octets → (word ≡ 120 ∷ encode_lower octets) × (length octets ≤ most) × IsBytes octets
octets-tell most [] octets is = absurd cc
octets-tell most (mark ∷ digits) octets is =
    let parts = chosen _ (hex_at digits) octets is in
    let both = and_parts (mark == 120) (nat_le (length digits) (2 * most)) parts.0 in
    let told = hex-tells digits octets parts.1 in
    (ap₂ (λ (m : ℕ) (os : List ℕ). m ∷ os) (eqb-true mark 120 both.0) told.0, omega (arith, told.1, leb-true (length digits) (2 * most) both.1), told.2)

-- moments
secs-split : (a b d e : ℕ) → a < 256 → b < 256 → d < 256 → e < 256 → to_be_bytes w32 (((a * 256 + b) * 256 + d) * 256 + e) ≡ a ∷ b ∷ d ∷ e ∷ []
secs-split a b d e la lb ld le =
    let n = ((a * 256 + b) * 256 + d) * 256 + e in
    let p : n / 256 ^ 3 % 256 ≡ a = omega (arith, la, lb, ld, le) in
    let q : n / 256 ^ 2 % 256 ≡ b = omega (arith, la, lb, ld, le) in
    let r : n / 256 ^ 1 % 256 ≡ d = omega (arith, la, lb, ld, le) in
    let s : n % 256 ≡ e = omega (arith, la, lb, ld, le) in
    ap₂ (λ (x : ℕ) (xs : List ℕ). x ∷ xs) p (ap₂ (λ (x : ℕ) (xs : List ℕ). x ∷ xs) q (ap₂ (λ (x : ℕ) (xs : List ℕ). x ∷ xs) r (ap (λ (x : ℕ). x ∷ []) s)))

frac-split : (a b d : ℕ) → a < 256 → b < 256 → d < 256 → (quality : ℕ)
    → ((((a * 256 + b) * 256 + d) / 65536) % 256 ∷ (((a * 256 + b) * 256 + d) / 256) % 256 ∷ ((a * 256 + b) * 256 + d) % 256 ∷ quality ∷ []) ≡ a ∷ b ∷ d ∷ quality ∷ []
frac-split a b d la lb ld quality =
    let n = (a * 256 + b) * 256 + d in
    let p : n / 65536 % 256 ≡ a = omega (arith, la, lb, ld) in
    let q : n / 256 % 256 ≡ b = omega (arith, la, lb, ld) in
    let r : n % 256 ≡ d = omega (arith, la, lb, ld) in
    ap₂ (λ (x : ℕ) (xs : List ℕ). x ∷ xs) p (ap₂ (λ (x : ℕ) (xs : List ℕ). x ∷ xs) q (ap (λ (x : ℕ). x ∷ quality ∷ []) r))

abbrev IsMoment : List ℕ → Utc → Type 0
IsMoment octets t = (octets ≡ time_octets t) × ((t.secs < 2 ^ 32) × (t.frac < 2 ^ 24) × (t.quality < 256))

utc-tells : (octets : List ℕ) (t : Utc) → IsBytes octets → utc_of octets ≡ Some t → IsMoment octets t
utc-tells (a ∷ b ∷ d ∷ e ∷ f ∷ g ∷ h ∷ i ∷ []) t are is =
    let la : a < 256 = are 0 in
    let lb : b < 256 = are 1 in
    let ld : d < 256 = are 2 in
    let le : e < 256 = are 3 in
    let lf : f < 256 = are 4 in
    let lg : g < 256 = are 5 in
    let lh : h < 256 = are 6 in
    let li : i < 256 = are 7 in
    subst (IsMoment (a ∷ b ∷ d ∷ e ∷ f ∷ g ∷ h ∷ i ∷ [])) (some_is _ t is)
    (sym (ap₂ (λ xs ys. xs ++ ys) (secs-split a b d e la lb ld le) (frac-split f g h lf lg lh i)), (omega (arith, la, lb, ld, le), omega (arith, lf, lg, lh), li))
utc-tells [] t are is = absurd cc
utc-tells (a ∷ []) t are is = absurd cc
utc-tells (a ∷ b ∷ []) t are is = absurd cc
utc-tells (a ∷ b ∷ d ∷ []) t are is = absurd cc
utc-tells (a ∷ b ∷ d ∷ e ∷ []) t are is = absurd cc
utc-tells (a ∷ b ∷ d ∷ e ∷ f ∷ []) t are is = absurd cc
utc-tells (a ∷ b ∷ d ∷ e ∷ f ∷ g ∷ []) t are is = absurd cc
utc-tells (a ∷ b ∷ d ∷ e ∷ f ∷ g ∷ h ∷ []) t are is = absurd cc
utc-tells (a ∷ b ∷ d ∷ e ∷ f ∷ g ∷ h ∷ i ∷ j ∷ more) t are is = absurd cc

moment-tells : (word : List ℕ) (o : Option (List ℕ)) (t : Utc) → hex_at word ≡ o → utc_read o ≡ Some t → (word ≡ encode_lower (time_octets t)) × ((t.secs < 2 ^ 32) × (t.frac < 2 ^ 24) × (t.quality < 256))
moment-tells word None t e is = absurd cc
moment-tells word (Some octets) t e is =
    let told = hex-tells word octets e in
    let moment = utc-tells octets t told.2 is in
    (told.0 ∙ ap encode_lower moment.0, moment.1)

-- numbers with a sign
some-negatives : (bits : ℕ) → 0 < negatives bits
some-negatives bits = cond_both (bits == 8) 128 _ (λ n. 0 < n) (λ e. omega arith) (λ e. cond_both (bits == 16) 32768 _ (λ n. 0 < n) (λ e. omega arith) (λ e. cond_both (bits == 32) 2147483648 _ (λ n. 0 < n) (λ e. omega arith) (λ e. omega arith)))

negative-tells : (bits : ℕ) (digits : List ℕ) (o : Option ℕ) (z : ℤ) → number_at digits ≡ o → negative_at (negatives bits) o ≡ Some z → FitsInt bits z × ((45 ∷ digits ≡ signed_decimal z) ⊎ ((45 ∷ digits ≡ codes "-0") × (z ≡ pos 0)))
unfolding digits
negative-tells bits word None z e is = absurd cc
negative-tells bits word (Some n) z e is =
    let parts = chosen _ (Some (minus n)) z is in
    let spelled = sym (number_at-tells word n e).1 in
    by n (leb-true n (negatives bits) parts.0) (ap (λ (d : List ℕ). 45 ∷ d) spelled) (some_is (minus n) z parts.1)
  where
    by : (n : ℕ) → n ≤ negatives bits → 45 ∷ word ≡ 45 ∷ decimal n → minus n ≡ z → FitsInt bits z × ((45 ∷ word ≡ signed_decimal z) ⊎ ((45 ∷ word ≡ codes "-0") × (z ≡ pos 0)))
    by zero le same e = subst (λ z. FitsInt bits z × ((45 ∷ word ≡ signed_decimal z) ⊎ ((45 ∷ word ≡ codes "-0") × (z ≡ pos 0)))) e (some-negatives bits, inr (same, refl))
    by (suc m) le same e = subst (λ z. FitsInt bits z × ((45 ∷ word ≡ signed_decimal z) ⊎ ((45 ∷ word ≡ codes "-0") × (z ≡ pos 0)))) e (le, inl same)

positive-tells : (bits : ℕ) (word : List ℕ) (o : Option ℕ) (z : ℤ) → number_at word ≡ o → positive_at (negatives bits) o ≡ Some z → FitsInt bits z × (word ≡ signed_decimal z)
positive-tells bits word None z e is = absurd cc
positive-tells bits word (Some n) z e is =
    let parts = chosen _ (Some (pos n)) z is in
    subst (λ z. FitsInt bits z × (word ≡ signed_decimal z)) (some_is (pos n) z parts.1) (ltb-true n (negatives bits) parts.0, sym (number_at-tells word n e).1)

int-tells : (bits : ℕ) (word : List ℕ) (o : Option (List ℕ)) (z : ℤ) → behind (codes "-") word ≡ o → signed_at bits word o ≡ Some z → FitsInt bits z × ((word ≡ signed_decimal z) ⊎ ((word ≡ codes "-0") × (z ≡ pos 0)))
int-tells bits word None z e is = let told = positive-tells bits word (number_at word) z refl is in (told.0, inl told.1)
int-tells bits word (Some digits) z e is =
    subst (λ w. FitsInt bits z × ((w ≡ signed_decimal z) ⊎ ((w ≡ codes "-0") × (z ≡ pos 0)))) (sym (behind-tells (codes "-") word digits e)) (negative-tells bits digits (number_at digits) z refl is)

pub truth-tells : (word : List ℕ) (b : Bool) → truth_at word ≡ Some b → word ≡ truth_word b
truth-tells word b = by-word (λ b. word ≡ truth_word b) word (codes "T") true b _ (λ e. e) (by-word (λ b. word ≡ truth_word b) word (codes "F") false b _ (λ e. e) (none-some b (word ≡ truth_word b)))

abbrev Tells : TypeOf → List ℕ → Value → Type 0
Tells kind word value = IsOfType kind value × SpellsValue word value

read-tells : {A : Type 0} (make : A → Value) (o : Option A) (Q : Value → Type 0) (value : Value) → ((a : A) → o ≡ Some a → Q (make a)) → read_as make o ≡ Some value → Q value
read-tells make None Q value each is = absurd cc
read-tells make (Some a) Q value each is = subst Q (some_is (make a) value is) (each a refl)

pub value-tells : (kind : TypeOf) (word : List ℕ) (value : Value) → value_at kind word ≡ Some value → Tells kind word value
unfolding value_at value_word
value-tells types.Bool word value is = read-tells values.Bool (truth_at word) (Tells types.Bool word) value (λ b e. (tt, inl (truth-tells word b e))) is
value-tells (types.Int bits) word value is = read-tells values.Int (int_at bits word) (Tells (types.Int bits) word) value (λ z e. let told = int-tells bits word (behind (codes "-") word) z refl e in (told.0, signed word z told.1)) is
  where
    signed : (word : List ℕ) (z : ℤ) → (word ≡ signed_decimal z) ⊎ ((word ≡ codes "-0") × (z ≡ pos 0)) → SpellsValue word (values.Int z)
    signed word z (inl e) = inl e
    signed word z (inr e) = inr (e.0, ap values.Int e.1)
value-tells (types.Uint bits) word value is = read-tells values.Uint (number_within 0 (greatest bits) word) (Tells (types.Uint bits) word) value (λ n e. let told = number-tells 0 (greatest bits) word n e in (told.2, inl told.0)) is
value-tells (types.Bits count) word value is = read-tells values.Bits (bits_at count word) (Tells (types.Bits count) word) value (λ bits e. let told = bits-tell count word bits e in (told.1, inl told.0)) is
value-tells types.Time word value is = read-tells values.Time (time_at word) (Tells types.Time word) value
    (λ t e. let told = moment-tells word (hex_at word) t refl (chosen _ (utc_read (hex_at word)) t e).1 in (told.1, inl told.0)) is
value-tells (types.Text most) word value is = read-tells values.Text (text_at most word) (Tells (types.Text most) word) value (λ octets e. let told = text-tells most word octets e in ((told.1, told.2), inl told.0)) is
value-tells (types.Octets most) word value is = read-tells values.Octets (octets_at most word) (Tells (types.Octets most) word) value (λ octets e. let told = octets-tell most word octets e in ((told.1, told.2), inl told.0)) is
value-tells types.Stamp word value is = absurd cc
value-tells types.EntryId word value is = absurd cc
value-tells (types.Struct parts) word value is = absurd cc

abbrev Listed : TypeOf → List (List ℕ) → List Value → Type 0
Listed kind words vs = AreOfType kind vs × SpellValues words vs

one-more : (kind : TypeOf) (word : List ℕ) (words : List (List ℕ)) (o : Option Value) (os : Option (List Value)) (vs : List Value) → one_more o os ≡ Some vs → ((v : Value) → o ≡ Some v → Tells kind word v) → ((ws : List Value) → os ≡ Some ws → Listed kind words ws)
    → Listed kind (word ∷ words) vs
one-more kind word words None os vs is first rest = absurd cc
one-more kind word words (Some v) None vs is first rest = absurd cc
one-more kind word words (Some v) (Some ws) vs is first rest =
    let told = first v refl in
    let more = rest ws refl in
    subst (Listed kind (word ∷ words)) (some_is (v ∷ ws) vs is) ((told.0, more.0), (told.1, more.1))

pub values-tell : (kind : TypeOf) (words : List (List ℕ)) (vs : List Value) → values_at kind words ≡ Some vs → Listed kind words vs
values-tell kind [] vs is = subst (Listed kind []) (some_is [] vs is) (tt, tt)
values-tell kind (word ∷ words) vs is = one-more kind word words (value_at kind word) (values_at kind words) vs is (λ v e. value-tells kind word v e) (λ ws e. values-tell kind words ws e)
