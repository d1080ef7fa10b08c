-- The parts of the structure at a place, with one more.
use Rattle.std.proofs.Common.{◌≡◌, ◌<◌, ◌≢◌, ℕ, zero, suc, Bool, true, false, ◌||◌, List, [], ◌∷◌, ◌++◌, length, get_or, Option, None, Some, is_some, unwrap_or, slice_get, slice_set, refl, sym, ap, ◌∙◌, arith, true≢false, if◌then◌else◌}
use Rattle.std.specs.Option.{option_or}
use Rattle.std.specs.Str.{bytes_eq}
use Rattle.std.proofs.lemmas.List.Quantifiers.{position-Some}
use Rattle.std.proofs.lemmas.Slice.Eq.{bytes_eq-Decides}
use Rattle.list_laws.proofs.Places.{position-push}
use Rattle.octet_rows.specs.Found.{place_in}
use Rattle.cfg_lines.specs.Keys.{is_among, added}
use Rattle.cfg_lines.proofs.KeyLaws.{placed}
use Rattle.cfg_lines.specs.Sizes.{with_edge}
use Rattle.cfg_nodes.specs.Indexed.{parts_of, parts_in, with_part, IsPlaced}
use Rattle.cfg_nodes.specs.declared.parts.Parts.{Parts}

abbrev Names : Type 0
Names = List (List ℕ)

pub place-within : (structures : Names) (node : List ℕ) (place : ℕ) → place_in structures node ≡ Some place → place < length structures
place-within structures node place is = (position-Some (bytes_eq node) structures place [] is).0

-- the names that have one place are one
same-place : (structures : Names) (node other : List ℕ) (place : ℕ) → place_in structures node ≡ Some place → place_in structures other ≡ Some place → other ≡ node
same-place structures node other place here there =
    (bytes_eq-Decides other (get_or structures place [])).0 (position-Some (bytes_eq other) structures place [] there).1
    ∙ sym ((bytes_eq-Decides node (get_or structures place [])).0 (position-Some (bytes_eq node) structures place [] here).1)

-- a name that has a place is among the structures already
pub among-there : (structures : Names) (node : List ℕ) (place : ℕ) → place_in structures node ≡ Some place → (q : List ℕ) → (bytes_eq q node || is_among structures q) ≡ is_among structures q
among-there structures node place is q = by (bytes_eq q node) refl
  where
    by : (b : Bool) → bytes_eq q node ≡ b → (b || is_among structures q) ≡ is_among structures q
    by false e = refl
    by true e = sym (ap (is_among structures) ((bytes_eq-Decides q node).0 e) ∙ (sym (placed (bytes_eq node) structures) ∙ ap is_some is))

-- ---- a structure without parts
without-more : (parts : List Names) (place : ℕ) → unwrap_or (slice_get (parts ++ [] ∷ []) place) [] ≡ unwrap_or (slice_get parts place) []
without-more [] zero = refl
without-more [] (suc place) = refl
without-more (p ∷ parts) zero = refl
without-more (p ∷ parts) (suc place) = without-more parts place

without-last : (parts : List Names) (n : ℕ) → length parts ≡ n → unwrap_or (slice_get (parts ++ [] ∷ []) n) [] ≡ []
without-last [] zero even = refl
without-last [] (suc n) even = absurd cc
without-last (p ∷ parts) zero even = absurd cc
without-last (p ∷ parts) (suc n) even = without-last parts n (omega (arith, even))

pub parts-pushed : (structures : Names) (parts : List Names) (node : List ℕ) → place_in structures node ≡ None → length parts ≡ length structures
    → (other : List ℕ) → parts_of (parts ++ [] ∷ []) (place_in (structures ++ node ∷ []) other) ≡ parts_of parts (place_in structures other)
parts-pushed structures parts node none even other = ap (parts_of (parts ++ [] ∷ [])) (position-push (bytes_eq other) structures node) ∙ by (place_in structures other) (bytes_eq other node)
  where
    by : (r : Option ℕ) (b : Bool) → parts_of (parts ++ [] ∷ []) (option_or r (if b then Some (length structures) else None)) ≡ parts_of parts r
    by (Some place) b = without-more parts place
    by None true = without-last parts (length structures) even
    by None false = refl

pub place-pushed : (structures : Names) (node : List ℕ) → place_in structures node ≡ None → place_in (structures ++ node ∷ []) node ≡ Some (length structures)
place-pushed structures node none = position-push (bytes_eq node) structures node ∙ (ap (λ r. option_or r (if bytes_eq node node then Some (length structures) else None)) none
    ∙ ap (λ b. if b then Some (length structures) else None) ((bytes_eq-Decides node node).1 refl))

-- ---- a part of the structure at a place
at-own : (parts : List Names) (place : ℕ) (w : Names) → place < length parts → unwrap_or (slice_get (slice_set parts place w) place) [] ≡ w
at-own [] place w lt = absurd (omega (arith, lt))
at-own (p ∷ parts) zero w lt = refl
at-own (p ∷ parts) (suc place) w lt = at-own parts place w (omega (arith, lt))

at-other : (parts : List Names) (place q : ℕ) (w : Names) → q ≢ place → slice_get (slice_set parts place w) q ≡ slice_get parts q
at-other [] place q w apart = refl
at-other (p ∷ parts) zero zero w apart = absurd (apart refl)
at-other (p ∷ parts) zero (suc q) w apart = refl
at-other (p ∷ parts) (suc place) zero w apart = refl
at-other (p ∷ parts) (suc place) (suc q) w apart = at-other parts place q w (λ e. apart (ap suc e))

pub parts-written : (structures : Names) (parts : List Names) (front part : List ℕ) (place : ℕ) (w : Names) → place_in structures front ≡ Some place → place < length parts → w ≡ added (unwrap_or (slice_get parts place) []) part
    → (other : List ℕ) → parts_of (slice_set parts place w) (place_in structures other) ≡ with_edge other (parts_of parts (place_in structures other)) (front, part)
parts-written structures parts front part place w at lt new other = by (bytes_eq other front) refl (place_in structures other) refl
  where
    by : (b : Bool) → bytes_eq other front ≡ b → (r : Option ℕ) → place_in structures other ≡ r → parts_of (slice_set parts place w) r ≡ (if b then added (parts_of parts r) part else parts_of parts r)
    by true e r is = let here : r ≡ Some place = sym is ∙ (ap (place_in structures) ((bytes_eq-Decides other front).0 e) ∙ at) in
        ap (parts_of (slice_set parts place w)) here ∙ (at-own parts place w lt ∙ (new ∙ sym (ap (λ r. added (parts_of parts r) part) here)))
    by false e None is = refl
    by false e (Some q) is = ap (λ r. unwrap_or r []) (at-other parts place q w (λ same. absurd (true≢false (sym ((bytes_eq-Decides other front).1 (same-place structures front other place at (is ∙ ap Some same))) ∙ e))))

-- at the place of a structure that may not be there
pub part-added : (parts : Parts) (above : Option ℕ) (place : ℕ) (part : List ℕ) (w : Names) → above ≡ Some place → place < length parts.parts.items → w ≡ added (unwrap_or (slice_get parts.parts.items place) []) part
    → (front : Option (List ℕ)) → IsPlaced parts front above → (other : List ℕ) → parts_of (slice_set parts.parts.items place w) (place_in parts.structures other) ≡ with_part other (parts_in parts other) front part
part-added parts above place part w is lt new None at other = absurd cc
part-added parts above place part w is lt new (Some front) at other = parts-written parts.structures parts.parts.items front part place w (sym at.0 ∙ is) lt new other
