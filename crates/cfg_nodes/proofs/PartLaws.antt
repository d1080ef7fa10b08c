-- What is directly below structures on the way to a path, the longest structure last.
use Rattle.std.proofs.Common.{◌≡◌, ◌≤◌, ◌<◌, ℕ, zero, suc, ◌==◌, Bool, true, false, cond, List, [], ◌∷◌, length, take, fold, Option, None, Some, refl, sym, ap, ap₂, subst, ◌∙◌, arith}
use Rattle.std.specs.Prelude.{slice_index}
use Rattle.std.specs.Str.{bytes_eq}
use Rattle.std.proofs.lemmas.List.{length-take-le, get_or-take, take-take}
use Rattle.std.proofs.lemmas.Slice.Eq.{bytes_eq-Decides}
use Rattle.cfg_lines.specs.Keys.{added}
use Rattle.cfg_lines.specs.Sizes.{edges, edges_within, with_edge, with_name}
use Rattle.cfg_nodes.specs.Indexed.{with_part, last_front, with_front, IsPlaced, IsWithin}
use Rattle.cfg_nodes.specs.declared.parts.Parts.{Parts}
use Rattle.cfg_nodes.proofs.PlaceLaws.{place-within}

abbrev Names : Type 0
Names = List (List ℕ)

-- the first octets of a path have the same structures above them
edges-prefix : (n i : ℕ) (part path : List ℕ) → n ≤ i → edges_within n part (take i path) ≡ edges_within n part path
edges-prefix zero i part path le = refl
edges-prefix (suc n) i part path le = ap₂ (λ octet front. cond (octet == 36) ((front, part) ∷ edges_within n front (take i path)) (edges_within n part (take i path))) (get_or-take i path n 0 (omega (arith, le))) (take-take n i path (omega (arith, le)))
    ∙ ap₂ (λ further rest. cond (slice_index path n == 36) ((take n path, part) ∷ further) rest) (edges-prefix n i (take n path) path (omega (arith, le))) (edges-prefix n i part path (omega (arith, le)))

pub edges-front : (i : ℕ) (path : List ℕ) → i ≤ length path → edges (take i path) ≡ edges_within i (take i path) path
edges-front i path le = ap (λ n. edges_within n (take i path) (take i path)) (length-take-le i path le) ∙ edges-prefix i i (take i path) path (omega arith)

-- the longest structure above a part comes first
abbrev edges_from : Option (List ℕ) → List ℕ → List (List ℕ × List ℕ)
edges_from None part = []
edges_from (Some front) part = (front, part) ∷ edges front

edges-last : (n : ℕ) (part path : List ℕ) → n ≤ length path → edges_within n part path ≡ edges_from (last_front n path) part
edges-last zero part path le = refl
edges-last (suc n) part path le = by (slice_index path n == 36) (edges-front n path (omega (arith, le))) (edges-last n part path (omega (arith, le)))
  where
    by : (b : Bool) → edges (take n path) ≡ edges_within n (take n path) path → edges_within n part path ≡ edges_from (last_front n path) part
        → cond b ((take n path, part) ∷ edges_within n (take n path) path) (edges_within n part path) ≡ edges_from (cond b (Some (take n path)) (last_front n path)) part
    by true here rest = ap (λ es. (take n path, part) ∷ es) (sym here)
    by false here rest = rest

-- nothing above a structure has it as a structure above it
shorter : (front path : List ℕ) (n : ℕ) → n < length front → bytes_eq front (take n path) ≡ false
shorter front path n lt = by (bytes_eq front (take n path)) refl
  where
    within : (n : ℕ) (path : List ℕ) → length (take n path) ≤ n
    within zero path = omega arith
    within (suc n) [] = omega arith
    within (suc n) (octet ∷ path) = omega (arith, within n path)

    by : (b : Bool) → bytes_eq front (take n path) ≡ b → b ≡ false
    by false e = refl
    by true e = absurd (omega (arith, lt, within n path, ap length ((bytes_eq-Decides front (take n path)).0 e)))

edges-own : (front path : List ℕ) (n : ℕ) (part : List ℕ) (parts : Names) → n ≤ length front → fold (with_edge front) parts (edges_within n part path) ≡ parts
edges-own front path zero part parts le = refl
edges-own front path (suc n) part parts le = by (slice_index path n == 36) (λ ps. edges-own front path n (take n path) ps (omega (arith, le))) (edges-own front path n part parts (omega (arith, le)))
  where
    by : (b : Bool) → ((ps : Names) → fold (with_edge front) ps (edges_within n (take n path) path) ≡ ps) → fold (with_edge front) parts (edges_within n part path) ≡ parts
        → fold (with_edge front) parts (cond b ((take n path, part) ∷ edges_within n (take n path) path) (edges_within n part path)) ≡ parts
    by true here rest = ap (λ b. fold (with_edge front) (cond b (added parts part) parts) (edges_within n (take n path) path)) (shorter front path n (omega (arith, le))) ∙ here parts
    by false here rest = rest

name-own : (node part : List ℕ) (parts : Names) → with_edge node (with_name node parts node) (node, part) ≡ with_name node (with_edge node parts (node, part)) node
name-own node part parts = ap (λ ps. with_edge node ps (node, part)) (edges-own node node (length node) node parts (omega arith)) ∙ sym (edges-own node node (length node) node (with_edge node parts (node, part)) (omega arith))

turned : (node front part : List ℕ) (parts : Names) → with_edge node (with_name node parts front) (front, part) ≡ with_name node (with_edge node parts (front, part)) front
turned node front part parts = by (bytes_eq node front) refl
  where
    by : (b : Bool) → bytes_eq node front ≡ b → with_edge node (with_name node parts front) (front, part) ≡ with_name node (with_edge node parts (front, part)) front
    by true e = subst (λ f. with_edge node (with_name node parts f) (f, part) ≡ with_name node (with_edge node parts (f, part)) f) ((bytes_eq-Decides node front).0 e) (name-own node part parts)
    by false e = ap (λ b. cond b (added (with_name node parts front) part) (with_name node parts front)) e ∙ sym (ap (λ b. with_name node (cond b (added parts part) parts) front) e)

-- with a part below the last structure
pub part-more : (node part path : List ℕ) (n : ℕ) (parts : Names) → n ≤ length path → with_part node (with_front node parts (last_front n path)) (last_front n path) part ≡ fold (with_edge node) parts (edges_within n part path)
part-more node part path n parts le = by (last_front n path) ∙ sym (ap (fold (with_edge node) parts) (edges-last n part path le))
  where
    by : (front : Option (List ℕ)) → with_part node (with_front node parts front) front part ≡ fold (with_edge node) parts (edges_from front part)
    by None = refl
    by (Some front) = turned node front part parts

pub front-more : (node path : List ℕ) (n : ℕ) (parts : Names) → n ≤ length path → with_part node (with_front node parts (last_front n path)) (last_front n path) (take n path) ≡ with_name node parts (take n path)
front-more node path n parts le = part-more node (take n path) path n parts le ∙ sym (ap (fold (with_edge node) parts) (edges-front n path le))

pub within-placed : (parts : Parts) (front : Option (List ℕ)) (above : Option ℕ) → length parts.parts.items ≡ length parts.structures → IsPlaced parts front above → IsWithin parts above
within-placed parts front None even is = tt
within-placed parts None (Some place) even is = absurd cc
within-placed parts (Some front) (Some place) even is = omega (arith, even, place-within parts.structures front place (sym is.0))
