-- A list of names goes as far as a PDU, and no further.
use Rattle.std.proofs.Common.{◌≡◌, ◌≢◌, ℕ, ◌+◌, ◌-◌, ◌≤◌, ◌<◌, Bool, true, false, List, [], ◌∷◌, ◌++◌, length, refl, sym, ap, ◌∙◌, subst, length-append, arith, ◌⊎◌, inl, inr}
use Rattle.std.specs.Prelude.{if◌then◌else◌, nat_le}
use Rattle.std.specs.List.{flat_map}
use Rattle.std.proofs.lemmas.Bool.Decides.{leb_tells}
use Rattle.bay_model.specs.Sizes.{identifier, within, RestIsBeyond, NamesAreWithin}

-- the octets of names
abbrev octets : List (List ℕ) → ℕ
octets names = length (flat_map identifier names)

more-octets : (n : List ℕ) (ns : List (List ℕ)) → octets (n ∷ ns) ≡ length (identifier n) + octets ns
more-octets n ns = length-append (identifier n) (flat_map identifier ns)

-- the names after one, where it is no longer than the size
abbrev behind : ℕ → ℕ → Bool → List (List ℕ) → List (List ℕ)
behind size long fits ns = if fits then within (size - long) ns else []

-- what of these names is left out
abbrev Left : ℕ → List (List ℕ) → Type 0
Left size names = (rest : List (List ℕ)) × (within size names ++ rest ≡ names) × (rest ≢ [] → size < octets (within size names))

pub rest_is_beyond : RestIsBeyond
rest_is_beyond size [] = ([], refl, λ some. absurd (some refl))
rest_is_beyond size (n ∷ ns) = by (leb_tells (length (identifier n)) size) (rest_is_beyond (size - length (identifier n)) ns) where
  by : ((nat_le (length (identifier n)) size ≡ true) × (length (identifier n) ≤ size)) ⊎ ((nat_le (length (identifier n)) size ≡ false) × (size < length (identifier n)))
      → Left (size - length (identifier n)) ns → Left size (n ∷ ns)
  by (inl fits) later =
      let beyond : later.0 ≢ [] → size < octets (n ∷ within (size - length (identifier n)) ns) =
      λ some. omega (arith, fits.1, later.2 some, more-octets n (within (size - length (identifier n)) ns)) in
      rw fits.0 (later.0, ap (λ l. n ∷ l) later.1, beyond)
  by (inr over) later = rw over.0 (ns, refl, λ some. omega (arith, over.1, more-octets n []))

none-before : (before : List (List ℕ)) (last : List ℕ) → ◌≡◌ {A = List (List ℕ)} [] (before ++ last ∷ []) → ⊥
none-before [] last h = cc
none-before (b ∷ bs) last h = cc

pub names_are_within : NamesAreWithin
names_are_within size [] before last h = absurd (none-before before last h)
names_are_within size (n ∷ ns) [] last h = omega arith
names_are_within size (n ∷ ns) (b ∷ bs) last h = by (leb_tells (length (identifier n)) size) (names_are_within (size - length (identifier n)) ns bs last) where
  same : n ≡ b
  same = cc h

  later : behind size (length (identifier n)) (nat_le (length (identifier n)) size) ns ≡ bs ++ last ∷ []
  later = cc h

  by : ((nat_le (length (identifier n)) size ≡ true) × (length (identifier n) ≤ size)) ⊎ ((nat_le (length (identifier n)) size ≡ false) × (size < length (identifier n)))
      → (within (size - length (identifier n)) ns ≡ bs ++ last ∷ [] → octets bs ≤ size - length (identifier n)) → octets (b ∷ bs) ≤ size
  by (inl fits) go =
      let rest = go (ap (λ t. behind size (length (identifier n)) t ns) (sym fits.0) ∙ later) in
      subst (λ m. octets (m ∷ bs) ≤ size) same (omega (arith, fits.1, rest, more-octets n bs))
  by (inr over) go = absurd (none-before bs last (ap (λ t. behind size (length (identifier n)) t ns) (sym over.0) ∙ later))
