-- Lists of octets, and the numbers that they are.
use Rattle.std.proofs.Common.{◌≡◌, ℕ, zero, suc, ◌+◌, ◌*◌, ◌^◌, ◌<◌, ◌≤◌, List, [], ◌∷◌, ◌++◌, length, inl, inr, refl, sym, subst, ap, ◌∙◌, zero-add, arith}
use Rattle.std.specs.Prelude.{fold}
use Rattle.std.proofs.Math.Nat.{pow-suc, suc-mul, mul-le-mul_right, pow-le-pow_right}
use Rattle.std.proofs.lemmas.List.{length-append}
use Rattle.std.proofs.lemmas.Bool.{cases_order}
use Rattle.ber_grammar.specs.Octets.{big_endian, IsBytes}
use Rattle.ber_grammar.specs.Element.{Element, IsLength, Spells, Begins, IsRow}

-- ---- parts of octets are octets

pub IsBytes-rest : (b : ℕ) (bytes : List ℕ) → IsBytes (b ∷ bytes) → IsBytes bytes
IsBytes-rest b bytes h i = h (suc i)

pub IsBytes-cons : (b : ℕ) (bytes : List ℕ) → b < 256 → IsBytes bytes → IsBytes (b ∷ bytes)
IsBytes-cons b bytes h rest zero = h
IsBytes-cons b bytes h rest (suc i) = rest i

pub IsBytes-front : (xs ys : List ℕ) → IsBytes (xs ++ ys) → IsBytes xs
IsBytes-front [] ys h i = omega arith
IsBytes-front (x ∷ xs) ys h zero = h 0
IsBytes-front (x ∷ xs) ys h (suc i) = IsBytes-front xs ys (λ k. h (suc k)) i

pub IsBytes-back : (xs ys : List ℕ) → IsBytes (xs ++ ys) → IsBytes ys
IsBytes-back [] ys h i = h i
IsBytes-back (x ∷ xs) ys h i = IsBytes-back xs ys (λ k. h (suc k)) i

pub IsBytes-append : (xs ys : List ℕ) → IsBytes xs → IsBytes ys → IsBytes (xs ++ ys)
IsBytes-append [] ys a b i = b i
IsBytes-append (x ∷ xs) ys a b zero = a 0
IsBytes-append (x ∷ xs) ys a b (suc i) = IsBytes-append xs ys (λ k. a (suc k)) b i

-- the content of an element of octets
pub Spells-bytes : (octets : List ℕ) (e : Element) → IsBytes octets → Spells octets e → IsBytes e.content
Spells-bytes octets e fits s = IsBytes-back s.len e.content (IsBytes-back s.tag (s.len ++ e.content) (subst IsBytes s.whole fits))

pub Begins-bytes : (octets : List ℕ) (e : Element) (rest : List ℕ) → IsBytes octets → Begins octets e rest → IsBytes e.content × IsBytes rest
Begins-bytes octets e rest fits (front, s, p) =
    let whole : IsBytes (front ++ rest) = subst IsBytes p fits in
    (Spells-bytes front e (IsBytes-front front rest whole) s, IsBytes-back front rest whole)

-- the contents of the elements of a row
abbrev pub AllBytes : List Element → Type 0
AllBytes [] = Unit {0}
AllBytes (e ∷ es) = IsBytes e.content × AllBytes es

pub IsRow-bytes : (octets : List ℕ) (es : List Element) → IsBytes octets → IsRow octets es → AllBytes es
IsRow-bytes octets [] fits row = tt
IsRow-bytes octets (e ∷ es) fits (front, rest, s, p, row) =
    let b = Begins-bytes octets e rest fits (front, s, p) in
    (b.0, IsRow-bytes rest es b.1 row)

-- ---- octets as one number

distribute : (a x p b : ℕ) → (a * 256 + x) * p + b ≡ a * (p * 256) + (x * p + b)
distribute a x p b = omega arith

-- what stands in front counts by the octets after it
pub big_endian-from : (a : ℕ) (xs : List ℕ) → fold (λ n octet. n * 256 + octet) a xs ≡ a * 256 ^ length xs + big_endian xs
big_endian-from a [] = omega arith
big_endian-from a (x ∷ xs) =
    big_endian-from (a * 256 + x) xs ∙ distribute a x (256 ^ length xs) (big_endian xs)
    ∙ sym (rw (pow-suc 256 (length xs), big_endian-from (0 * 256 + x) xs, zero-add x) refl)

pub big_endian-cons : (x : ℕ) (xs : List ℕ) → big_endian (x ∷ xs) ≡ x * 256 ^ length xs + big_endian xs
big_endian-cons x xs = big_endian-from (0 * 256 + x) xs ∙ rw (zero-add x) refl

product : (x p b q : ℕ) → x < 256 → b < p → q ≡ p * 256 → x * p + b < q
product x p b q lt le e = grind arith

pub big_endian-below : (xs : List ℕ) → IsBytes xs → big_endian xs < 256 ^ length xs
big_endian-below [] fits = omega arith
big_endian-below (x ∷ xs) fits = rw (big_endian-cons x xs) (product x (256 ^ length xs) (big_endian xs) (256 ^ suc (length xs)) (fits 0) (big_endian-below xs (IsBytes-rest x xs fits)) (pow-suc 256 (length xs)))

-- the first octet is what the number is in multiples, and the others the rest
less : (x y p b c : ℕ) → x < y → b < p → x * p + b ≡ y * p + c → ⊥
less x y p b c lt lb e = omega (arith, mul-le-mul_right {m = suc x} {n = y} p (omega arith), suc-mul x p)

same_parts : (x y p b c : ℕ) → b < p → c < p → x * p + b ≡ y * p + c → (x ≡ y) × (b ≡ c)
same_parts x y p b c lb lc e =
    elim (cases_order x y) [
      | inl same ↦ (same, omega (arith, ap (λ (z : ℕ). z * p) same))
      | inr (inl lt) ↦ absurd (less x y p b c lt lb e)
      | inr (inr gt) ↦ absurd (less y x p c b gt lc (sym e))
    ]

-- as many octets that are the same number are the same
pub big_endian-same : (xs ys : List ℕ) → IsBytes xs → IsBytes ys → length xs ≡ length ys → big_endian xs ≡ big_endian ys → xs ≡ ys
big_endian-same [] [] fx fy len e = refl
big_endian-same [] (y ∷ ys) fx fy len e = absurd (omega (arith, len))
big_endian-same (x ∷ xs) [] fx fy len e = absurd (omega (arith, len))
big_endian-same (x ∷ xs) (y ∷ ys) fx fy len e =
    let same : length xs ≡ length ys = omega (arith, len) in
    let power : 256 ^ length ys ≡ 256 ^ length xs = ap (λ (k : ℕ). 256 ^ k) (sym same) in
    let fit : big_endian ys < 256 ^ length xs = subst (λ (p : ℕ). big_endian ys < p) power (big_endian-below ys (IsBytes-rest y ys fy)) in
    let at : x * 256 ^ length xs + big_endian xs ≡ y * 256 ^ length xs + big_endian ys =
    sym (big_endian-cons x xs) ∙ e ∙ big_endian-cons y ys ∙ ap (λ (p : ℕ). y * p + big_endian ys) power in
    let parts = same_parts x y (256 ^ length xs) (big_endian xs) (big_endian ys) (big_endian-below xs (IsBytes-rest x xs fx)) fit at in
    rw (parts.0, big_endian-same xs ys (IsBytes-rest x xs fx) (IsBytes-rest y ys fy) same parts.1) refl

-- ---- how long contents are

length-below : (l : List ℕ) (n : ℕ) → IsBytes l → IsLength l n → n < 2 ^ 32
length-below [] n fits h = absurd h
length-below (a ∷ []) n fits h = omega (arith, h.0, h.1)
length-below (a ∷ b ∷ more) n fits h =
    let small : 256 ^ length (b ∷ more) ≤ 256 ^ 4 = pow-le-pow_right {n = 256} (omega arith) {i = length (b ∷ more)} {j = 4} h.1 in
    omega (arith, h.2, big_endian-below (b ∷ more) (IsBytes-rest a (b ∷ more) fits), small)

-- a content has at most 4294967295 octets
pub Spells-below : (octets : List ℕ) (e : Element) → IsBytes octets → Spells octets e → length e.content < 2 ^ 32
Spells-below octets e fits s = length-below s.len (length e.content) (IsBytes-front s.len e.content (IsBytes-back s.tag (s.len ++ e.content) (subst IsBytes s.whole fits))) s.is_length

pub Begins-below : (octets : List ℕ) (e : Element) (rest : List ℕ) → IsBytes octets → Begins octets e rest → length e.content < 2 ^ 32
Begins-below octets e rest fits (front, s, p) = Spells-below front e (IsBytes-front front rest (subst IsBytes p fits)) s

-- the elements of a row are within it
abbrev pub AllWithin : ℕ → List Element → Type 0
AllWithin n [] = Unit {0}
AllWithin n (e ∷ es) = (length e.content ≤ n) × AllWithin n es

pub IsRow-within : (n : ℕ) (octets : List ℕ) (es : List Element) → IsRow octets es → length octets ≤ n → AllWithin n es
IsRow-within n octets [] row le = tt
IsRow-within n octets (e ∷ es) (front, rest, s, p, row) le =
    let whole = ap length p in
    let parts = ap length s.whole in (
      omega (arith, le, whole, parts, length-append front rest, length-append s.tag (s.len ++ e.content), length-append s.len e.content),
      IsRow-within n rest es row (omega (arith, le, whole, length-append front rest)),
    )
