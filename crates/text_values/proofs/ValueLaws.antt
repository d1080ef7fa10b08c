-- The values that a text gives its attributes: of their kinds, within their ranges, and sound.
use Rattle.std.proofs.Common.{◌≡◌, ℕ, ◌<◌, ◌≤◌, inl, inr, true, ◌&&◌, List, [], ◌∷◌, length, pos, negsuc, ℤ, nat_le, refl, sym, subst, arith}
use Rattle.std.specs.List.{list_all, All}
use Rattle.std.proofs.lemmas.Bool.{and_parts, and_from}
use Rattle.std.proofs.lemmas.Bool.Decides.{nat_tests}
use Rattle.std.proofs.lemmas.List.Elements.{All-cons, All-nil}
use Rattle.sv_base.specs.declared.value.Value.{Value}
use Rattle.sv_base.specs.declared.value.Value.TheVariants as values
use Rattle.sv_base.specs.declared.types.TypeOf.{TypeOf}
use Rattle.sv_base.specs.declared.types.TypeOf.TheVariants as types
use Rattle.sv_base.specs.Kinds.{kind_of, is_kind, is_in_range}
use Rattle.object_model.specs.Fits.{is_sound, is_visible}
use Rattle.text_words.specs.Values.{is_graphic}
use Rattle.text_words.specs.Numbers.{greatest}
use Rattle.text_words.specs.Grammar.{IsType, FitsInt, IsOfType, AreOfType}
use Rattle.list_laws.proofs.Places.{below-tells, equal-number}

-- a number of n bits
int-8 : (z : ℤ) → FitsInt 8 z → is_in_range (kind_of (types.Int 8)) (values.Int z) ≡ true
int-8 (pos n) h = grind (arith, nat_tests)
int-8 (negsuc n) h = grind (arith, nat_tests)

int-16 : (z : ℤ) → FitsInt 16 z → is_in_range (kind_of (types.Int 16)) (values.Int z) ≡ true
int-16 (pos n) h = grind (arith, nat_tests)
int-16 (negsuc n) h = grind (arith, nat_tests)

int-32 : (z : ℤ) → FitsInt 32 z → is_in_range (kind_of (types.Int 32)) (values.Int z) ≡ true
int-32 (pos n) h = grind (arith, nat_tests)
int-32 (negsuc n) h = grind (arith, nat_tests)

int-64 : (z : ℤ) → FitsInt 64 z → is_in_range (kind_of (types.Int 64)) (values.Int z) ≡ true
int-64 (pos n) h = grind (arith, nat_tests)
int-64 (negsuc n) h = grind (arith, nat_tests)

abbrev IsIntOf : ℤ → ℕ → Type 0
IsIntOf z w = FitsInt w z → is_in_range (kind_of (types.Int w)) (values.Int z) ≡ true

abbrev IsUintOf : ℕ → ℕ → Type 0
IsUintOf n w = n ≤ greatest w → is_in_range (kind_of (types.Uint w)) (values.Uint n) ≡ true

uint-8 : (n : ℕ) → IsUintOf n 8
uint-8 n h = grind (arith, nat_tests)

uint-16 : (n : ℕ) → IsUintOf n 16
uint-16 n h = grind (arith, nat_tests)

uint-32 : (n : ℕ) → IsUintOf n 32
uint-32 n h = grind (arith, nat_tests)

within : (a b : ℕ) → a ≤ b → nat_le a b ≡ true
within a b h = grind (arith, nat_tests)

pub in-range : (k : TypeOf) (v : Value) → IsType k → IsOfType k v → is_in_range (kind_of k) v ≡ true
in-range types.Bool (values.Bool b) t h = refl
in-range (types.Int w) (values.Int z) (inl e) h = subst (IsIntOf z) (sym e) (int-8 z) h
in-range (types.Int w) (values.Int z) (inr (inl e)) h = subst (IsIntOf z) (sym e) (int-16 z) h
in-range (types.Int w) (values.Int z) (inr (inr (inl e))) h = subst (IsIntOf z) (sym e) (int-32 z) h
in-range (types.Int w) (values.Int z) (inr (inr (inr e))) h = subst (IsIntOf z) (sym e) (int-64 z) h
in-range (types.Uint w) (values.Uint n) (inl e) h = subst (IsUintOf n) (sym e) (uint-8 n) h
in-range (types.Uint w) (values.Uint n) (inr (inl e)) h = subst (IsUintOf n) (sym e) (uint-16 n) h
in-range (types.Uint w) (values.Uint n) (inr (inr e)) h = subst (IsUintOf n) (sym e) (uint-32 n) h
in-range (types.Bits n) (values.Bits b) t h = refl
in-range types.Time (values.Time u) t h = refl
in-range (types.Text n) (values.Text o) t h = within (length o) n h.0
in-range (types.Octets n) (values.Octets o) t h = within (length o) n h.0
in-range _ _ t h = absurd h

pub of-kind : (k : TypeOf) (v : Value) → IsOfType k v → is_kind (kind_of k) v ≡ true
of-kind types.Bool (values.Bool b) h = refl
of-kind (types.Int w) (values.Int z) h = refl
of-kind (types.Uint w) (values.Uint n) h = refl
of-kind (types.Bits n) (values.Bits b) h = equal-number (length b) n h
of-kind types.Time (values.Time u) h = refl
of-kind (types.Text n) (values.Text o) h = refl
of-kind (types.Octets n) (values.Octets o) h = refl
of-kind _ _ h = absurd h

visible : (octets : List ℕ) → list_all is_graphic octets ≡ true → is_visible octets ≡ true
visible [] h = refl
visible (o ∷ octets) h = and_from _ _ (one o (and_parts _ _ h).0) (visible octets (and_parts _ _ h).1)
  where
    one : (o : ℕ) → is_graphic o ≡ true → (nat_le 32 o && nat_le o 126) ≡ true
    one o e = grind (arith, nat_tests)

pub sound : (k : TypeOf) (v : Value) → IsOfType k v → is_sound v ≡ true
sound types.Bool (values.Bool b) h = refl
sound (types.Int w) (values.Int z) h = refl
sound (types.Uint w) (values.Uint n) h = refl
sound (types.Bits n) (values.Bits b) h = refl
sound types.Time (values.Time u) h = below-tells u.frac 16777216 h.1
sound (types.Text n) (values.Text o) h = visible o h.1
sound (types.Octets n) (values.Octets o) h = refl
sound _ _ h = absurd h

pub all-sound : (k : TypeOf) (vs : List Value) → AreOfType k vs → All (λ v. is_sound v ≡ true) vs
all-sound k [] h = All-nil (λ v. is_sound v ≡ true)
all-sound k (v ∷ vs) h = All-cons (λ v. is_sound v ≡ true) v vs (sound k v h.0) (all-sound k vs h.1)
