-- What a line is made of are words.
use Rattle.std.proofs.Common.{◌≡◌, ℕ, suc, ◌<◌, inl, inr, Bool, true, false, ◌&&◌, List, [], ◌∷◌, ◌++◌, length, length-append, nat_le, pos, negsuc, refl, sym, ap, subst, ◌∙◌, arith}
use Rattle.std.specs.Prelude.{Some, codes}
use Rattle.std.specs.Fmt.{digits}
use Rattle.std.specs.List.{list_all, list_any, count_by, slice_split, join_with_byte}
use Rattle.std.specs.Str.{bytes_eq}
use Rattle.std.proofs.lemmas.Bool.{and_parts, and_from, or_cases, cond-true, le-leb}
use Rattle.std.proofs.lemmas.Bool.Decides.{nat_tests}
use Rattle.std.proofs.lemmas.List.Folds.{list_all-append}
use Rattle.std.proofs.lemmas.List.Splits.{join_with_byte-slice_split, length-slice_split}
use Rattle.std.proofs.lemmas.Slice.Eq.{bytes_eq-Decides}
use Rattle.hex.specs.Hex.{lower_digits, encode_lower}
use Rattle.hex.proofs.HexLemmas.{length-encode_with}
use Rattle.sv_base.specs.declared.value.Value.{Value}
use Rattle.sv_base.specs.declared.value.Value.TheVariants as values
use Rattle.sv_base.specs.declared.types.TypeOf.{TypeOf}
use Rattle.sv_base.specs.declared.types.TypeOf.TheVariants as types
use Rattle.text_words.specs.Names.{is_letter, is_name_octet, is_name, is_path, is_dollar, is_slash, are_member, is_member}
use Rattle.text_words.specs.Numbers.{negatives, negative_at}
use Rattle.text_words.specs.Names.{is_fc}
use Rattle.text_words.specs.Values.{one_more, values_at}
use Rattle.text_words.specs.Values.{is_graphic, is_hex, value_at, read_as}
use Rattle.text_words.specs.Spelled.{bits_word, text_word, time_octets, value_word, type_word, flags_word}
use Rattle.text_words.specs.Grammar.{IsType, IsOfType, AreOfType, SpellsValue, SpellValues}
use Rattle.text_words.proofs.NumberLaws.{number_at-decimal}
use Rattle.text_words.proofs.WordLaws.{IsWord, AreWords}
use Rattle.text_words.proofs.SpelledWordLaws.{decimal-word, hex-lower, length-bits, few-negatives, few-greatest, value-read, time-bytes}

name-graphic : (octets : List ℕ) → list_all is_name_octet octets ≡ true → list_all is_graphic octets ≡ true
name-graphic [] e = refl
name-graphic (octet ∷ octets) e = and_from _ _ (one octet (and_parts _ _ e).0) (name-graphic octets (and_parts _ _ e).1)
  where
    one : (octet : ℕ) → is_name_octet octet ≡ true → is_graphic octet ≡ true
    one octet e = grind (arith, nat_tests)

pub name-word : (word : List ℕ) → is_name word ≡ true → IsWord word
name-word [] e = absurd cc
name-word (octet ∷ octets) e = let front = (and_parts (is_letter octet && list_all is_name_octet octets) (nat_le (length octets) 31) e).0 in
    (omega arith, and_from _ _ (letter octet (and_parts _ _ front).0) (name-graphic octets (and_parts _ _ front).1))
  where
    letter : (octet : ℕ) → is_letter octet ≡ true → is_graphic octet ≡ true
    letter octet e = grind (arith, nat_tests)

some-length : (word : List ℕ) (octet : ℕ) (rest : List ℕ) → 0 < length (word ++ octet ∷ rest)
some-length word octet rest = omega (arith, length-append word (octet ∷ rest))

-- names joined by an octet that may stand in a word
joined-word : (octet : ℕ) → is_graphic octet ≡ true → (words : List (List ℕ)) → 0 < length words → list_all is_name words ≡ true → IsWord (join_with_byte octet words)
joined-word octet visible [] some e = absurd (omega (arith, some))
joined-word octet visible (word ∷ []) some e = name-word word (and_parts _ _ e).0
joined-word octet visible (word ∷ next ∷ more) some e =
    let first : IsWord word = name-word word (and_parts _ _ e).0 in
    let rest : IsWord (join_with_byte octet (next ∷ more)) = joined-word octet visible (next ∷ more) (omega arith) (and_parts _ _ e).1 in
    (some-length word octet (join_with_byte octet (next ∷ more)), list_all-append is_graphic word (octet ∷ join_with_byte octet (next ∷ more)) ∙ and_from _ _ first.1 (and_from _ _ visible rest.1))

pub path-word : (path : List ℕ) → is_path path ≡ true → IsWord path
path-word path e = subst IsWord (join_with_byte-slice_split 36 path) (joined-word 36 refl (slice_split is_dollar path) (omega (arith, length-slice_split is_dollar path)) e)

member-parts : (parts : List (List ℕ)) → are_member parts ≡ true → IsWord (join_with_byte 47 parts)
member-parts [] e = absurd cc
member-parts (a ∷ []) e = absurd cc
member-parts (domain ∷ item ∷ []) e =
    let front = (and_parts (is_name domain && is_path item) (nat_le 2 (count_by is_dollar item)) e).0 in
    let first : IsWord domain = name-word domain (and_parts _ _ front).0 in
    let rest : IsWord item = path-word item (and_parts _ _ front).1 in
    (some-length domain 47 item, list_all-append is_graphic domain (47 ∷ item) ∙ and_from _ _ first.1 rest.1)
member-parts (a ∷ b ∷ d ∷ more) e = absurd cc

pub member-word : (reference : List ℕ) → is_member reference ≡ true → IsWord reference
member-word reference e = subst IsWord (join_with_byte-slice_split 47 reference) (member-parts (slice_split is_slash reference) e)

among-words : (word : List ℕ) (known : List (List ℕ)) → AreWords known → list_any (λ k. bytes_eq word k) known ≡ true → IsWord word
among-words word [] are e = absurd cc
among-words word (k ∷ known) are e = elim (or_cases _ _ e) [
  | inl same ↦ subst IsWord (sym ((bytes_eq-Decides word k).0 same)) are.0
  | inr more ↦ among-words word known are.1 more
]

pub fc-word : (fc : List ℕ) → is_fc fc ≡ true → IsWord fc
fc-word fc e = among-words fc fcs are-words e
  where
    fcs : List (List ℕ)
    fcs = codes "ST" ∷ codes "MX" ∷ codes "CF" ∷ codes "DC" ∷ codes "SP" ∷ codes "SV" ∷ codes "SG" ∷ codes "EX" ∷ []

    are-words : AreWords fcs
    are-words = ((omega arith, refl), ((omega arith, refl), ((omega arith, refl), ((omega arith, refl), ((omega arith, refl), ((omega arith, refl), ((omega arith, refl), ((omega arith, refl), tt))))))))

pub type-is-word : (kind : TypeOf) → IsType kind → IsWord (type_word kind)
unfolding type_word digits
type-is-word types.Bool is = (omega arith, refl)
type-is-word (types.Int bits) (inl e) = subst (λ n. IsWord (type_word (types.Int n))) (sym e) (omega arith, refl)
type-is-word (types.Int bits) (inr (inl e)) = subst (λ n. IsWord (type_word (types.Int n))) (sym e) (omega arith, refl)
type-is-word (types.Int bits) (inr (inr (inl e))) = subst (λ n. IsWord (type_word (types.Int n))) (sym e) (omega arith, refl)
type-is-word (types.Int bits) (inr (inr (inr e))) = subst (λ n. IsWord (type_word (types.Int n))) (sym e) (omega arith, refl)
type-is-word (types.Uint bits) (inl e) = subst (λ n. IsWord (type_word (types.Uint n))) (sym e) (omega arith, refl)
type-is-word (types.Uint bits) (inr (inl e)) = subst (λ n. IsWord (type_word (types.Uint n))) (sym e) (omega arith, refl)
type-is-word (types.Uint bits) (inr (inr e)) = subst (λ n. IsWord (type_word (types.Uint n))) (sym e) (omega arith, refl)
type-is-word (types.Bits count) is = (omega arith, (decimal-word count (omega (arith, is.1))).1)
type-is-word types.Time is = (omega arith, refl)
type-is-word (types.Text most) is = (omega arith, (decimal-word most (omega (arith, is.1))).1)
type-is-word (types.Octets most) is = (omega arith, (decimal-word most (omega (arith, is.1))).1)
type-is-word types.Stamp is = absurd is
type-is-word types.EntryId is = absurd is
type-is-word (types.Struct parts) is = absurd is

pub flags-is-word : (dchg qchg dupd : Bool) → IsWord (flags_word dchg qchg dupd)
flags-is-word true true true = (omega arith, refl)
flags-is-word true true false = (omega arith, refl)
flags-is-word true false true = (omega arith, refl)
flags-is-word true false false = (omega arith, refl)
flags-is-word false true true = (omega arith, refl)
flags-is-word false true false = (omega arith, refl)
flags-is-word false false true = (omega arith, refl)
flags-is-word false false false = (omega arith, refl)

hex-graphic : (digits : List ℕ) → list_all is_hex digits ≡ true → list_all is_graphic digits ≡ true
hex-graphic [] e = refl
hex-graphic (digit ∷ digits) e = and_from _ _ (one digit (and_parts _ _ e).0) (hex-graphic digits (and_parts _ _ e).1)
  where
    one : (digit : ℕ) → is_hex digit ≡ true → is_graphic digit ≡ true
    one digit e = grind (arith, nat_tests)

bits-graphic : (bits : List Bool) → list_all is_graphic (bits_word bits) ≡ true
bits-graphic [] = refl
bits-graphic (true ∷ bits) = bits-graphic bits
bits-graphic (false ∷ bits) = bits-graphic bits

pub bits-is-word : (bits : List Bool) → 0 < length bits → IsWord (bits_word bits)
bits-is-word bits some = (omega (arith, length-bits bits, some), bits-graphic bits)

pub text-is-word : (octets : List ℕ) → list_all is_graphic octets ≡ true → IsWord (text_word octets)
text-is-word octets e = (omega arith, e)

pub value-is-word : (kind : TypeOf) (value : Value) → IsType kind → IsOfType kind value → IsWord (value_word value)
unfolding value_word
value-is-word types.Bool (values.Bool true) kind is = (omega arith, refl)
value-is-word types.Bool (values.Bool false) kind is = (omega arith, refl)
value-is-word (types.Int bits) (values.Int (pos n)) kind is = decimal-word n (omega (arith, is, few-negatives bits))
value-is-word (types.Int bits) (values.Int (negsuc n)) kind is = (omega arith, (decimal-word (suc n) (omega (arith, is, few-negatives bits))).1)
value-is-word (types.Uint bits) (values.Uint n) kind is = decimal-word n (omega (arith, is, few-greatest bits))
value-is-word (types.Bits count) (values.Bits bits) kind is = bits-is-word bits (omega (arith, kind.0, is))
value-is-word types.Time (values.Time t) kind is = (omega (arith, length-encode_with lower_digits (time_octets t)), hex-graphic (encode_lower (time_octets t)) (hex-lower (time_octets t) (time-bytes t is.2)))
value-is-word (types.Text most) (values.Text octets) kind is = text-is-word octets is.1
value-is-word (types.Octets most) (values.Octets octets) kind is = (omega arith, hex-graphic (encode_lower octets) (hex-lower octets is.1))
value-is-word _ _ kind is = absurd is

-- `-0` is 0
zero-read : (kind : TypeOf) → IsOfType kind (values.Int (pos 0)) → value_at kind (codes "-0") ≡ Some (values.Int (pos 0))
unfolding value_at digits
zero-read (types.Int bits) is = ap (λ o. read_as values.Int (negative_at (negatives bits) o)) (number_at-decimal 0 (omega arith)) ∙ ap (read_as values.Int) (cond-true _ _ _ (le-leb 0 (negatives bits) (omega arith)))
zero-read _ is = absurd is

pub spelled-read : (kind : TypeOf) (word : List ℕ) (value : Value) → IsOfType kind value → SpellsValue word value → value_at kind word ≡ Some value
spelled-read kind word value is (inl e) = ap (value_at kind) e ∙ value-read kind value is
spelled-read kind word value is (inr e) = ap (value_at kind) e.0 ∙ (zero-read kind (subst (IsOfType kind) e.1 is) ∙ ap (λ v. Some v) (sym e.1))

spelled-word : (kind : TypeOf) (word : List ℕ) (value : Value) → IsType kind → IsOfType kind value → SpellsValue word value → IsWord word
spelled-word kind word value type_ is (inl e) = subst IsWord (sym e) (value-is-word kind value type_ is)
spelled-word kind word value type_ is (inr e) = subst IsWord (sym e.0) (omega arith, refl)

pub values-read : (kind : TypeOf) (words : List (List ℕ)) (vs : List Value) → AreOfType kind vs → SpellValues words vs → values_at kind words ≡ Some vs
values-read kind [] [] are spelled = refl
values-read kind [] (v ∷ vs) are spelled = absurd spelled
values-read kind (word ∷ words) [] are spelled = absurd spelled
values-read kind (word ∷ words) (v ∷ vs) are spelled = ap (λ o. one_more o (values_at kind words)) (spelled-read kind word v are.0 spelled.0) ∙ ap (one_more (Some v)) (values-read kind words vs are.1 spelled.1)

pub values-are-words : (kind : TypeOf) (words : List (List ℕ)) (vs : List Value) → IsType kind → AreOfType kind vs → SpellValues words vs → AreWords words
values-are-words kind [] [] type_ are spelled = tt
values-are-words kind [] (v ∷ vs) type_ are spelled = absurd spelled
values-are-words kind (word ∷ words) [] type_ are spelled = absurd spelled
values-are-words kind (word ∷ words) (v ∷ vs) type_ are spelled = (spelled-word kind word v type_ are.0 spelled.0, values-are-words kind words vs type_ are.1 spelled.1)

pub values-as-many : (words : List (List ℕ)) (vs : List Value) → SpellValues words vs → length words ≡ length vs
values-as-many [] [] spelled = refl
values-as-many [] (v ∷ vs) spelled = absurd spelled
values-as-many (word ∷ words) [] spelled = absurd spelled
values-as-many (word ∷ words) (v ∷ vs) spelled = ap suc (values-as-many words vs spelled.1)
