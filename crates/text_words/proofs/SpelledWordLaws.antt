-- What is spelled for numbers, types, trigger options and values, and that it reads as the same.
use Rattle.std.proofs.Common.{◌≡◌, ℕ, zero, suc, ◌+◌, ◌*◌, ◌/◌, ◌%◌, ◌^◌, ◌<◌, ◌≤◌, inl, inr, Bool, true, false, List, [], ◌∷◌, ◌++◌, length, map, slice_index, ◌==◌, ℤ, pos, negsuc, refl, sym, ap, ap₂, subst, ◌∙◌, arith}
use Rattle.std.specs.Prelude.{Some, None, codes}
use Rattle.std.specs.Fmt.{digits, decimal, signed_decimal}
use Rattle.std.specs.List.{list_all}
use Rattle.std.proofs.lemmas.Bool.{and_from, cond-true, cond-false, cond_both, le-leb, lt-ltb, eq-eqb, and_left, agree_below_at}
use Rattle.std.proofs.lemmas.Bool.Decides.{nat_tests}
use Rattle.std.proofs.lemmas.List.Folds.{list_all-append}
use Rattle.std.proofs.lemmas.Fmt.{decimal_by_steps, decimal_nonempty}
use Rattle.hex.specs.Hex.{lower_digits, encode_with, encode_lower, IsBytes}
use Rattle.hex.proofs.HexLemmas.{decode_of-encode_lower, length-encode_with}
use Rattle.sv_base.specs.declared.value.Utc.{Utc}
use Rattle.sv_base.specs.declared.value.Value.{Value}
use Rattle.sv_base.specs.declared.value.Value.TheVariants as values
use Rattle.sv_base.specs.declared.types.TypeOf.{TypeOf}
use Rattle.sv_base.specs.declared.types.TypeOf.TheVariants as types
use Rattle.text_words.specs.Numbers.{within, number_within, negatives, greatest, int_at, signed_at, positive_at, negative_at}
use Rattle.text_words.specs.Types.{made, sized_type_at, type_at, flags_at, flags}
use Rattle.text_words.specs.Values.{is_graphic, is_binary, bits_at, text_at, is_hex, hex_at, decoded, octets_at, utc_of, utc_read, time_at, read_as, value_at}
use Rattle.text_words.specs.Words.{behind}
use Rattle.text_words.specs.Spelled.{bits_word, text_word, time_octets, value_word, type_word, flags_word}
use Rattle.text_words.specs.Grammar.{IsType, FitsInt, IsOfType}
use Rattle.text_words.proofs.NumberLaws.{number_at-decimal}
use Rattle.text_words.proofs.WordLaws.{IsWord}

pub number-within : (least most n : ℕ) → least ≤ n → n ≤ most → n < 2 ^ 64 → number_within least most (decimal n) ≡ Some n
number-within least most n low high lt = ap (within least most) (number_at-decimal n lt) ∙ cond-true _ _ _ (and_from _ _ (le-leb least n low) (le-leb n most high))

digits-graphic : (n : ℕ) → n < 2 ^ 64 → list_all is_graphic (decimal n) ≡ true
digits-graphic n lt = decimal_by_steps (λ n ds. list_all is_graphic ds ≡ true)
    (λ n small. one (48 + n) (omega (arith, small)) (omega (arith, small)))
    (λ n ds more so. list_all-append is_graphic ds ((48 + n % 10) ∷ []) ∙ and_from _ _ so (one (48 + n % 10) (omega arith) (omega arith))) n lt
  where
    one : (octet : ℕ) → 33 ≤ octet → octet ≤ 126 → list_all is_graphic (octet ∷ []) ≡ true
    one octet low high = grind (arith, nat_tests)

pub decimal-word : (n : ℕ) → n < 2 ^ 64 → IsWord (decimal n)
decimal-word n lt = (decimal_nonempty n lt, digits-graphic n lt)

below-256 : (n : ℕ) → n ≤ 255 → n < 2 ^ 64
below-256 n le = omega (arith, le)

pub type-read : (kind : TypeOf) → IsType kind → type_at (type_word kind) ≡ Some kind
unfolding type_at sized_type_at type_word digits
type-read types.Bool is = refl
type-read (types.Int bits) (inl e) = subst (λ n. type_at (type_word (types.Int n)) ≡ Some (types.Int n)) (sym e) refl
type-read (types.Int bits) (inr (inl e)) = subst (λ n. type_at (type_word (types.Int n)) ≡ Some (types.Int n)) (sym e) refl
type-read (types.Int bits) (inr (inr (inl e))) = subst (λ n. type_at (type_word (types.Int n)) ≡ Some (types.Int n)) (sym e) refl
type-read (types.Int bits) (inr (inr (inr e))) = subst (λ n. type_at (type_word (types.Int n)) ≡ Some (types.Int n)) (sym e) refl
type-read (types.Uint bits) (inl e) = subst (λ n. type_at (type_word (types.Uint n)) ≡ Some (types.Uint n)) (sym e) refl
type-read (types.Uint bits) (inr (inl e)) = subst (λ n. type_at (type_word (types.Uint n)) ≡ Some (types.Uint n)) (sym e) refl
type-read (types.Uint bits) (inr (inr e)) = subst (λ n. type_at (type_word (types.Uint n)) ≡ Some (types.Uint n)) (sym e) refl
type-read (types.Bits count) is = ap (made types.Bits) (number-within 1 64 count is.0 is.1 (omega (arith, is.1)))
type-read types.Time is = refl
type-read (types.Text most) is = ap (made types.Text) (number-within 1 255 most is.0 is.1 (below-256 most is.1))
type-read (types.Octets most) is = ap (made types.Octets) (number-within 1 255 most is.0 is.1 (below-256 most is.1))
type-read types.Stamp is = absurd is
type-read types.EntryId is = absurd is
type-read (types.Struct parts) is = absurd is

pub flags-read : (dchg qchg dupd : Bool) → flags_at (flags_word dchg qchg dupd) ≡ Some (flags dchg qchg dupd)
unfolding flags_at
flags-read true true true = refl
flags-read true true false = refl
flags-read true false true = refl
flags-read true false false = refl
flags-read false true true = refl
flags-read false true false = refl
flags-read false false true = refl
flags-read false false false = refl

bits-binary : (bits : List Bool) → list_all is_binary (bits_word bits) ≡ true
bits-binary [] = refl
bits-binary (true ∷ bits) = bits-binary bits
bits-binary (false ∷ bits) = bits-binary bits

bits-back : (bits : List Bool) → map (λ octet. octet == 49) (bits_word bits) ≡ bits
bits-back [] = refl
bits-back (true ∷ bits) = ap (λ (bs : List Bool). true ∷ bs) (bits-back bits)
bits-back (false ∷ bits) = ap (λ (bs : List Bool). false ∷ bs) (bits-back bits)

pub length-bits : (bits : List Bool) → length (bits_word bits) ≡ length bits
length-bits [] = refl
length-bits (b ∷ bits) = ap suc (length-bits bits)

pub bits-read : (count : ℕ) (bits : List Bool) → length bits ≡ count → bits_at count (bits_word bits) ≡ Some bits
bits-read count bits is = let same : (length (bits_word bits) == count) ≡ true = grind (arith, nat_tests, length-bits bits, is) in
    cond-true _ _ _ (and_from _ _ same (bits-binary bits)) ∙ ap Some (bits-back bits)

pub text-read : (most : ℕ) (octets : List ℕ) → length octets ≤ most → list_all is_graphic octets ≡ true → text_at most (text_word octets) ≡ Some octets
text-read most octets short visible = cond-true _ _ _ (and_from _ _ (le-leb (length octets) most short) visible)

digit-lower : (n : ℕ) → n < 16 → is_hex (slice_index (codes "0123456789abcdef") n) ≡ true
digit-lower n lt = agree_below_at (λ n. is_hex (slice_index (codes "0123456789abcdef") n)) (λ n. true) 16 n refl lt

pub hex-lower : (octets : List ℕ) → IsBytes octets → list_all is_hex (encode_lower octets) ≡ true
unfolding encode_with
hex-lower [] are = refl
hex-lower (o ∷ octets) are = let lt : o < 256 = are 0 in
    and_from _ _ (digit-lower (o / 16) (omega (arith, lt))) (and_from _ _ (digit-lower (o % 16) (omega arith)) (hex-lower octets (λ i. are (suc i))))

pub hex-read : (octets : List ℕ) → IsBytes octets → hex_at (encode_lower octets) ≡ Some octets
hex-read octets are = cond-true _ _ _ (hex-lower octets are) ∙ ap decoded (decode_of-encode_lower octets are)

pub octets-read : (most : ℕ) (octets : List ℕ) → length octets ≤ most → IsBytes octets → octets_at most (120 ∷ encode_lower octets) ≡ Some octets
octets-read most octets short are = let few : length (encode_lower octets) ≤ 2 * most = omega (arith, length-encode_with lower_digits octets, short) in
    cond-true _ _ _ (le-leb (length (encode_lower octets)) (2 * most) few) ∙ hex-read octets are

secs-back : (n : ℕ) → n < 2 ^ 32 → (((n / 256 ^ 3 % 256) * 256 + n / 256 ^ 2 % 256) * 256 + n / 256 ^ 1 % 256) * 256 + n % 256 ≡ n
secs-back n lt = omega (arith, lt)

frac-back : (n : ℕ) → n < 2 ^ 24 → ((n / 65536) % 256 * 256 + (n / 256) % 256) * 256 + n % 256 ≡ n
frac-back n lt = omega (arith, lt)

utc-back : (t : Utc) → t.secs < 2 ^ 32 → t.frac < 2 ^ 24 → utc_of (time_octets t) ≡ Some t
utc-back t secs frac = ap₂ (λ s f. Some (record { secs = s; frac = f; quality = t.quality })) (secs-back t.secs secs) (frac-back t.frac frac)

pub time-bytes : (t : Utc) → t.quality < 256 → IsBytes (time_octets t)
time-bytes t lt zero = omega arith
time-bytes t lt (suc zero) = omega arith
time-bytes t lt (suc (suc zero)) = omega arith
time-bytes t lt (suc (suc (suc zero))) = omega arith
time-bytes t lt (suc (suc (suc (suc zero)))) = omega arith
time-bytes t lt (suc (suc (suc (suc (suc zero))))) = omega arith
time-bytes t lt (suc (suc (suc (suc (suc (suc zero)))))) = omega arith
time-bytes t lt (suc (suc (suc (suc (suc (suc (suc zero))))))) = lt
time-bytes t lt (suc (suc (suc (suc (suc (suc (suc (suc i)))))))) = omega arith

pub time-read : (t : Utc) → t.secs < 2 ^ 32 → t.frac < 2 ^ 24 → t.quality < 256 → time_at (encode_lower (time_octets t)) ≡ Some t
time-read t secs frac quality = cond-true _ _ _ (eq-eqb _ _ (length-encode_with lower_digits (time_octets t))) ∙ (ap utc_read (hex-read (time_octets t) (time-bytes t quality)) ∙ utc-back t secs frac)

-- a number has no `-` in front
front-other : (octet : ℕ) (more : List ℕ) → 48 ≤ octet → behind (codes "-") (octet ∷ more) ≡ None
front-other octet more le = let other : (octet == 45) ≡ false = grind (arith, nat_tests) in cond-false _ _ _ (and_left _ _ other)

abbrev Begins : ℕ → List ℕ → Type 0
Begins n ds = (octet : ℕ) × (more : List ℕ) × (48 ≤ octet) × (ds ≡ octet ∷ more)

decimal-first : (n : ℕ) → n < 2 ^ 64 → Begins n (decimal n)
decimal-first n lt = decimal_by_steps Begins
    (λ n small. (48 + n, [], omega arith, refl))
    (λ n ds big so. (so.0, so.1 ++ (48 + n % 10) ∷ [], so.2, ap (λ l. l ++ (48 + n % 10) ∷ []) so.3)) n lt

decimal-front : (n : ℕ) → n < 2 ^ 64 → behind (codes "-") (decimal n) ≡ None
decimal-front n lt = let first = decimal-first n lt in ap (behind (codes "-")) first.3 ∙ front-other first.0 first.1 first.2

pub few-negatives : (bits : ℕ) → negatives bits ≤ 2 ^ 63
few-negatives bits = cond_both (bits == 8) 128 _ (λ n. n ≤ 2 ^ 63) (λ e. omega arith)
    (λ e. cond_both (bits == 16) 32768 _ (λ n. n ≤ 2 ^ 63) (λ e. omega arith) (λ e. cond_both (bits == 32) 2147483648 _ (λ n. n ≤ 2 ^ 63) (λ e. omega arith) (λ e. omega arith)))

pub int-read : (bits : ℕ) (z : ℤ) → FitsInt bits z → int_at bits (signed_decimal z) ≡ Some z
int-read bits (pos n) lt = let small : n < 2 ^ 64 = omega (arith, lt, few-negatives bits) in
    ap (signed_at bits (decimal n)) (decimal-front n small) ∙ (ap (positive_at (negatives bits)) (number_at-decimal n small) ∙ cond-true _ _ _ (lt-ltb n (negatives bits) lt))
int-read bits (negsuc n) lt = let small : suc n < 2 ^ 64 = omega (arith, lt, few-negatives bits) in
    ap (negative_at (negatives bits)) (number_at-decimal (suc n) small) ∙ cond-true _ _ _ (le-leb (suc n) (negatives bits) lt)

pub few-greatest : (bits : ℕ) → greatest bits < 2 ^ 64
few-greatest bits = cond_both (bits == 8) 255 _ (λ n. n < 2 ^ 64) (λ e. omega arith) (λ e. cond_both (bits == 16) 65535 _ (λ n. n < 2 ^ 64) (λ e. omega arith) (λ e. omega arith))

pub value-read : (kind : TypeOf) (value : Value) → IsOfType kind value → value_at kind (value_word value) ≡ Some value
unfolding value_at value_word
value-read types.Bool (values.Bool true) is = refl
value-read types.Bool (values.Bool false) is = refl
value-read (types.Int bits) (values.Int z) is = ap (read_as values.Int) (int-read bits z is)
value-read (types.Uint bits) (values.Uint n) is = ap (read_as values.Uint) (number-within 0 (greatest bits) n (omega arith) is (omega (arith, is, few-greatest bits)))
value-read (types.Bits count) (values.Bits bits) is = ap (read_as values.Bits) (bits-read count bits is)
value-read types.Time (values.Time t) is = ap (read_as values.Time) (time-read t is.0 is.1 is.2)
value-read (types.Text most) (values.Text octets) is = ap (read_as values.Text) (text-read most octets is.0 is.1)
value-read (types.Octets most) (values.Octets octets) is = ap (read_as values.Octets) (octets-read most octets is.0 is.1)
value-read _ _ is = absurd is
