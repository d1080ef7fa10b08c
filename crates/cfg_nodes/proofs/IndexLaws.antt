-- The octets of nodes without parts by their places.
use Rattle.std.proofs.Common.{◌≡◌, ℕ, suc, ◌+◌, Bool, true, false, cond, List, [], ◌∷◌, ◌++◌, length, map, slice_get, Option, Some, None, unwrap_or, Bor, refl, sym, ap, ◌∙◌, arith}
use native.Mathlib.Numerals.{unary_clauses}
use Rattle.std.specs.Option.{option_map, option_copied}
use Rattle.std.specs.Str.{bytes_eq}
use Rattle.list_laws.proofs.Places.{place-cons}
use Rattle.octet_rows.specs.Found.{place_in}
use Rattle.cfg_lines.specs.declared.leaf.Leaf.{Leaf}
use Rattle.cfg_lines.specs.Sizes.{leaf_octets}
use Rattle.cfg_nodes.specs.LeafLists.{leaves_at}

-- ---- leaves whose names and octets stand in two rows
pub names-at : (names : List (List ℕ)) (octets : List ℕ) → length octets ≡ length names → map (λ leaf. leaf.name) (leaves_at names octets) ≡ names
names-at [] octets even = refl
names-at (name ∷ names) [] even = absurd cc
names-at (name ∷ names) (count ∷ octets) even = ap (λ ns. name ∷ ns) (names-at names octets (omega (arith, even)))

pub octets-at : (names : List (List ℕ)) (octets : List ℕ) → length octets ≡ length names → map (λ leaf. leaf.octets) (leaves_at names octets) ≡ octets
octets-at [] [] even = refl
octets-at [] (count ∷ octets) even = absurd cc
octets-at (name ∷ names) [] even = absurd cc
octets-at (name ∷ names) (count ∷ octets) even = ap (λ os. count ∷ os) (octets-at names octets (omega (arith, even)))

pub leaves-count : (names : List (List ℕ)) (octets : List ℕ) → length octets ≡ length names → length octets ≡ length (leaves_at names octets)
leaves-count [] [] even = refl
leaves-count [] (count ∷ octets) even = absurd cc
leaves-count (name ∷ names) [] even = refl
leaves-count (name ∷ names) (count ∷ octets) even = ap suc (leaves-count names octets (omega (arith, even)))

pub value-or : (r : Option (Bor (List ℕ))) (d : Bor (List ℕ)) → (unwrap_or r d).now ≡ unwrap_or (option_copied r) d.now
value-or (Some x) d = refl
value-or None d = refl

pub leaves-pushed : (names : List (List ℕ)) (octets : List ℕ) (name : List ℕ) (count : ℕ) → length octets ≡ length names
    → leaves_at (names ++ name ∷ []) (octets ++ count ∷ []) ≡ leaves_at names octets ++ (record { name = name; octets = count }) ∷ []
leaves-pushed [] [] name count even = refl
leaves-pushed [] (o ∷ octets) name count even = absurd cc
leaves-pushed (n ∷ names) [] name count even = absurd cc
leaves-pushed (n ∷ names) (o ∷ octets) name count even = ap (λ (ls : List Leaf). record { name = n; octets = o } ∷ ls) (leaves-pushed names octets name count (omega (arith, even)))

-- ---- the first leaf of a name
abbrev pub octets_by : List Leaf → Option ℕ → Option ℕ
octets_by leaves None = None
octets_by leaves (Some place) = slice_get (map (λ leaf. leaf.octets) leaves) place

pub leaf-found : (leaves : List Leaf) (node : List ℕ) → leaf_octets leaves node ≡ octets_by leaves (place_in (map (λ leaf. leaf.name) leaves) node)
leaf-found [] node = refl
leaf-found (leaf ∷ leaves) node = by (bytes_eq node leaf.name) (place_in (map (λ leaf. leaf.name) leaves) node) (leaf-found leaves node)
    ∙ sym (ap (octets_by (leaf ∷ leaves)) (place-cons (bytes_eq node) leaf.name (map (λ leaf. leaf.name) leaves)))
  where
    by : (b : Bool) (r : Option ℕ) → leaf_octets leaves node ≡ octets_by leaves r → cond b (Some leaf.octets) (leaf_octets leaves node) ≡ octets_by (leaf ∷ leaves) (cond b (Some 0) (option_map (λ n. n + 1) r))
    by true r e = refl
    by false None e = e
    by false (Some place) e = simp unary_clauses e
