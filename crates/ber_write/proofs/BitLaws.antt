-- The octets of bits.
use Rattle.std.proofs.Common.{◌≡◌, ℕ, zero, suc, ◌+◌, ◌-◌, ◌*◌, ◌/◌, ◌%◌, ◌<◌, ◌≤◌, Bool, true, false, eqb, List, [], ◌∷◌, ◌++◌, length, take, drop, replicate, Result, Ok, Err, append_assoc, refl, sym, ap, ◌∙◌, arith}
use Rattle.std.specs.Prelude.{OnErr}
use Rattle.std.specs.declared.alloc.AllocError.{AllocError}
use Rattle.std.specs.List.{flat_map}
use Rattle.std.proofs.lemmas.List.{take_at, length-take, take-append-le}
use Rattle.ber_grammar.specs.Octets.{IsBytes}
use Rattle.ber_grammar.specs.Content.{octet_bits, bits_of, IsBits}
use Rattle.ber_grammar.specs.Reading.{bits_at}
use Rattle.ber_grammar.proofs.OctetLaws.{IsBytes-rest}
use Rattle.ber_grammar.proofs.BitLaws.{bits_again, length-flat_bits}
use Rattle.ber_write.specs.BitString.{weigh, octet, packed, unused_of, bit_octets, first_octet, HasClearEnd}
use Rattle.list_laws.proofs.Appended.{still-begins}

-- ---- a step of the loop

pub packed-more : (bits : List Bool) → 0 < length bits → packed bits ≡ first_octet bits ∷ packed (drop 8 bits)
packed-more [] h = absurd (omega (arith, h))
packed-more (a ∷ []) h = refl
packed-more (a ∷ b ∷ []) h = refl
packed-more (a ∷ b ∷ c ∷ []) h = refl
packed-more (a ∷ b ∷ c ∷ d ∷ []) h = refl
packed-more (a ∷ b ∷ c ∷ d ∷ e ∷ []) h = refl
packed-more (a ∷ b ∷ c ∷ d ∷ e ∷ f ∷ []) h = refl
packed-more (a ∷ b ∷ c ∷ d ∷ e ∷ f ∷ g ∷ []) h = refl
packed-more (a ∷ b ∷ c ∷ d ∷ e ∷ f ∷ g ∷ h ∷ rest) some = refl

pub length-packed : (bits : List Bool) → length (packed bits) ≡ (length bits + 7) / 8
length-packed [] = omega arith
length-packed (a ∷ []) = omega arith
length-packed (a ∷ b ∷ []) = omega arith
length-packed (a ∷ b ∷ c ∷ []) = omega arith
length-packed (a ∷ b ∷ c ∷ d ∷ []) = omega arith
length-packed (a ∷ b ∷ c ∷ d ∷ e ∷ []) = omega arith
length-packed (a ∷ b ∷ c ∷ d ∷ e ∷ f ∷ []) = omega arith
length-packed (a ∷ b ∷ c ∷ d ∷ e ∷ f ∷ g ∷ []) = omega arith
length-packed (a ∷ b ∷ c ∷ d ∷ e ∷ f ∷ g ∷ h ∷ rest) = omega (arith, length-packed rest)

-- ---- an octet has the bits that it is made of

abbrev one_or_zero : Bool → ℕ
one_or_zero b = weigh b 1

weigh-is : (b : Bool) (w : ℕ) → weigh b w ≡ one_or_zero b * w
weigh-is true w = omega arith
weigh-is false w = omega arith

one_or_zero-small : (b : Bool) → one_or_zero b ≤ 1
one_or_zero-small true = omega arith
one_or_zero-small false = omega arith

back : (b : Bool) → eqb (one_or_zero b) 1 ≡ b
back true = refl
back false = refl

bit_is : (x : ℕ) (b : Bool) → x ≡ one_or_zero b → eqb x 1 ≡ b
bit_is x b e = ap (λ (y : ℕ). eqb y 1) e ∙ back b

-- the bits of a sum of eight weights
eight : (a b c d e f g h o : ℕ) → a ≤ 1 → b ≤ 1 → c ≤ 1 → d ≤ 1 → e ≤ 1 → f ≤ 1 → g ≤ 1 → h ≤ 1 → o ≡ a * 128 + b * 64 + c * 32 + d * 16 + e * 8 + f * 4 + g * 2 + h
    → (o / 128 % 2 ≡ a) × (o / 64 % 2 ≡ b) × (o / 32 % 2 ≡ c) × (o / 16 % 2 ≡ d) × (o / 8 % 2 ≡ e) × (o / 4 % 2 ≡ f) × (o / 2 % 2 ≡ g) × (o % 2 ≡ h)
eight a b c d e f g h o la lb lc ld le lf lg lh is = (omega arith, omega arith, omega arith, omega arith, omega arith, omega arith, omega arith, omega arith)

octet-sum : (a b c d e f g h : Bool) → octet a b c d e f g h ≡ one_or_zero a * 128 + one_or_zero b * 64 + one_or_zero c * 32 + one_or_zero d * 16 + one_or_zero e * 8 + one_or_zero f * 4 + one_or_zero g * 2 + one_or_zero h
octet-sum a b c d e f g h = omega (arith, weigh-is a 128, weigh-is b 64, weigh-is c 32, weigh-is d 16, weigh-is e 8, weigh-is f 4, weigh-is g 2)

pub octet_bits-octet : (a b c d e f g h : Bool) → octet_bits (octet a b c d e f g h) ≡ a ∷ b ∷ c ∷ d ∷ e ∷ f ∷ g ∷ h ∷ []
octet_bits-octet a b c d e f g h =
    let p = eight (one_or_zero a) (one_or_zero b) (one_or_zero c) (one_or_zero d) (one_or_zero e) (one_or_zero f) (one_or_zero g) (one_or_zero h) (octet a b c d e f g h)
    (one_or_zero-small a) (one_or_zero-small b) (one_or_zero-small c) (one_or_zero-small d) (one_or_zero-small e) (one_or_zero-small f) (one_or_zero-small g) (one_or_zero-small h) (octet-sum a b c d e f g h) in
    rw (bit_is _ a p.0, bit_is _ b p.1, bit_is _ c p.2, bit_is _ d p.3, bit_is _ e p.4, bit_is _ f p.5, bit_is _ g p.6, bit_is _ h p.7) refl

-- what was packed has the bits, and 0s for those that are unused
pub flat-packed : (bits : List Bool) → flat_map octet_bits (packed bits) ≡ bits ++ replicate (unused_of (length bits)) false
flat-packed [] = refl
flat-packed (a ∷ []) = rw (octet_bits-octet a false false false false false false false) refl
flat-packed (a ∷ b ∷ []) = rw (octet_bits-octet a b false false false false false false) refl
flat-packed (a ∷ b ∷ c ∷ []) = rw (octet_bits-octet a b c false false false false false) refl
flat-packed (a ∷ b ∷ c ∷ d ∷ []) = rw (octet_bits-octet a b c d false false false false) refl
flat-packed (a ∷ b ∷ c ∷ d ∷ e ∷ []) = rw (octet_bits-octet a b c d e false false false) refl
flat-packed (a ∷ b ∷ c ∷ d ∷ e ∷ f ∷ []) = rw (octet_bits-octet a b c d e f false false) refl
flat-packed (a ∷ b ∷ c ∷ d ∷ e ∷ f ∷ g ∷ []) = rw (octet_bits-octet a b c d e f g false) refl
flat-packed (a ∷ b ∷ c ∷ d ∷ e ∷ f ∷ g ∷ h ∷ rest) =
    let same : unused_of (length (a ∷ b ∷ c ∷ d ∷ e ∷ f ∷ g ∷ h ∷ rest)) ≡ unused_of (length rest) = omega arith in
    ap (λ (x : List Bool). x ++ flat_map octet_bits (packed rest)) (octet_bits-octet a b c d e f g h)
    ∙ ap (λ (x : List Bool). a ∷ b ∷ c ∷ d ∷ e ∷ f ∷ g ∷ h ∷ x) (flat-packed rest ∙ ap (λ (k : ℕ). rest ++ replicate k false) (sym same))

-- ---- it is a spelling

no_bits : (bits : List Bool) → length (packed bits) ≡ 0 → unused_of (length bits) ≡ 0
no_bits bits h = omega (arith, h, length-packed bits)

cut : (bits : List Bool) → take (8 * length (packed bits) - unused_of (length bits)) (flat_map octet_bits (packed bits)) ≡ bits
cut bits =
    let count : 8 * length (packed bits) - unused_of (length bits) ≡ length bits = omega (arith, length-packed bits) in
    rw (count, flat-packed bits, take_at bits (replicate (unused_of (length bits)) false) (length bits) refl) refl

pub bit_octets-spell : (bits : List Bool) → IsBits (bit_octets bits) bits
unfolding bit_octets bits_of
bit_octets-spell bits = (omega arith, no_bits bits, sym (cut bits))

pub bit_octets-clear : (bits : List Bool) → HasClearEnd (bit_octets bits) bits
unfolding bit_octets
bit_octets-clear bits = flat-packed bits

pub bits_spelled : (bits : List Bool) → IsBits (bit_octets bits) bits × HasClearEnd (bit_octets bits) bits × (bits_at (bit_octets bits) ≡ Ok bits)
bits_spelled bits = (bit_octets-spell bits, bit_octets-clear bits, bits_again (bit_octets bits) bits (bit_octets-spell bits))

-- ---- all spellings are as long

pub length_of_bit_octets : (bits : List Bool) → length (bit_octets bits) ≡ (length bits + 7) / 8 + 1
unfolding bit_octets
length_of_bit_octets bits = omega (arith, length-packed bits)

count_is : (unused : ℕ) (octets : List ℕ) (bits : List Bool) → bits ≡ bits_of unused octets → length bits ≡ 8 * length octets - unused
unfolding bits_of
count_is unused octets bits e = ap length e ∙ omega (arith, length-take (8 * length octets - unused) (flat_map octet_bits octets), length-flat_bits octets)

pub bits_as_long : (content : List ℕ) (bits : List Bool) → IsBits content bits → length content ≡ length (bit_octets bits)
bits_as_long [] bits h = absurd h
bits_as_long (unused ∷ octets) bits h = omega (arith, length_of_bit_octets bits, count_is unused octets bits h.2, h.0, h.1)

-- ---- the one with a clear end

weigh-eqb : (x w : ℕ) → x ≤ 1 → weigh (eqb x 1) w ≡ x * w
weigh-eqb zero w le = omega arith
weigh-eqb (suc zero) w le = omega arith
weigh-eqb (suc (suc x)) w le = absurd (omega (arith, le))

octet-octet_bits : (o : ℕ) → o < 256 → octet (eqb (o / 128 % 2) 1) (eqb (o / 64 % 2) 1) (eqb (o / 32 % 2) 1) (eqb (o / 16 % 2) 1) (eqb (o / 8 % 2) 1) (eqb (o / 4 % 2) 1) (eqb (o / 2 % 2) 1) (eqb (o % 2) 1) ≡ o
octet-octet_bits o lt =
    omega (
      arith,
      weigh-eqb (o / 128 % 2) 128 (omega arith),
      weigh-eqb (o / 64 % 2) 64 (omega arith),
      weigh-eqb (o / 32 % 2) 32 (omega arith),
      weigh-eqb (o / 16 % 2) 16 (omega arith),
      weigh-eqb (o / 8 % 2) 8 (omega arith),
      weigh-eqb (o / 4 % 2) 4 (omega arith),
      weigh-eqb (o / 2 % 2) 2 (omega arith),
      weigh-eqb (o % 2) 1 (omega arith),
    )

packed-flat : (octets : List ℕ) → IsBytes octets → packed (flat_map octet_bits octets) ≡ octets
packed-flat [] fits = refl
packed-flat (o ∷ octets) fits = rw (octet-octet_bits o (fits 0), packed-flat octets (IsBytes-rest o octets fits)) refl

packed-padded : (bits : List Bool) → packed (bits ++ replicate (unused_of (length bits)) false) ≡ packed bits
packed-padded [] = refl
packed-padded (a ∷ []) = refl
packed-padded (a ∷ b ∷ []) = refl
packed-padded (a ∷ b ∷ c ∷ []) = refl
packed-padded (a ∷ b ∷ c ∷ d ∷ []) = refl
packed-padded (a ∷ b ∷ c ∷ d ∷ e ∷ []) = refl
packed-padded (a ∷ b ∷ c ∷ d ∷ e ∷ f ∷ []) = refl
packed-padded (a ∷ b ∷ c ∷ d ∷ e ∷ f ∷ g ∷ []) = refl
packed-padded (a ∷ b ∷ c ∷ d ∷ e ∷ f ∷ g ∷ h ∷ rest) =
    let same : unused_of (length (a ∷ b ∷ c ∷ d ∷ e ∷ f ∷ g ∷ h ∷ rest)) ≡ unused_of (length rest) = omega arith in
    rw (same, packed-padded rest) refl

unused_is : (unused n count : ℕ) → count ≡ 8 * n - unused → unused ≤ 7 → (n ≡ 0 → unused ≡ 0) → unused ≡ unused_of count
unused_is unused zero count e few none = let z = none refl in omega (arith, e, z)
unused_is unused (suc n) count e few none = omega (arith, e, few)

pub bits_only : (content : List ℕ) (bits : List Bool) → IsBytes content → IsBits content bits → HasClearEnd content bits → content ≡ bit_octets bits
unfolding bit_octets
bits_only [] bits fits h clear = absurd h
bits_only (unused ∷ octets) bits fits h clear =
    let count = count_is unused octets bits h.2 in
    let as_many = unused_is unused (length octets) (length bits) count h.0 h.1 in
    let same : octets ≡ packed bits =
    sym (packed-flat octets (IsBytes-rest unused octets fits)) ∙ ap packed clear ∙ ap (λ (k : ℕ). packed (bits ++ replicate k false)) as_many ∙ packed-padded bits in
    rw (as_many, same) refl

-- ---- what an error leaves

pub kept_on : {A : Type 0} (r : Result A AllocError) (old more mid new : List ℕ) → mid ≡ old ++ more → OnErr r (take (length mid) new ≡ mid) → OnErr r (take (length old) new ≡ old)
kept_on (Ok x) old more mid new e h = h
kept_on (Err f) old more mid new e h = still-begins old more mid new e h

pub kept_push : (old out grown : List ℕ) (o : ℕ) → take (length old) out ≡ old → grown ≡ out ++ o ∷ [] → take (length old) grown ≡ old
kept_push old out grown o h e =
    let within : length old ≤ length out = omega (arith, ap length h, length-take (length old) out) in
    ap (take (length old)) e ∙ take-append-le (length old) out (o ∷ []) within ∙ h

pub written_more : (out grown all : List ℕ) (rest after : List Bool) (o : ℕ) → out ++ packed rest ≡ all → 0 < length rest → o ≡ first_octet rest → after ≡ drop 8 rest → grown ≡ out ++ o ∷ []
    → grown ++ packed after ≡ all
written_more out grown all rest after o h some first behind e =
    let step : o ∷ packed after ≡ packed rest = rw (first, behind) (sym (packed-more rest some)) in
    ap (λ (x : List ℕ). x ++ packed after) e ∙ append_assoc out (o ∷ []) (packed after) ∙ ap (λ (x : List ℕ). out ++ x) step ∙ h

-- after a head and one octet
pub kept_behind : {A : Type 0} (r : Result A AllocError) (old head grown mid new : List ℕ) (o : ℕ) → grown ≡ old ++ head → mid ≡ grown ++ o ∷ [] → OnErr r (take (length mid) new ≡ mid) → OnErr r (take (length old) new ≡ old)
kept_behind r old head grown mid new o e f h = kept_on r old (head ++ o ∷ []) mid new (f ∙ ap (λ (x : List ℕ). x ++ o ∷ []) e ∙ append_assoc old head (o ∷ [])) h
