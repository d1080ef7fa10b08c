-- What one more name does to the numbers of names.
use Rattle.std.proofs.Common.{◌≡◌, ℕ, false, List, [], ◌∷◌, ◌++◌, length, Option, is_some, refl, sym, ap, ◌∙◌}
use Rattle.std.specs.Str.{bytes_eq}
use Rattle.std.specs.Map.{lookup}
use Rattle.indexmap.specs.IndexMap.{insert_entry}
use Rattle.list_laws.proofs.Indexed as indexed
use Rattle.list_laws.proofs.Places.{position-push}
use Rattle.name_leaves.specs.Numbers.{number_in, number_or}

module _ {K : Type 0} (items : K → List ℕ) where
  pub added_as : (es : List (K × ℕ)) (key : K) (n : ℕ) (name other : List ℕ) → items key ≡ name → is_some (lookup (λ k. bytes_eq name (items k)) es) ≡ false
      → lookup (λ k. bytes_eq other (items k)) (insert_entry (λ a b. bytes_eq (items a) (items b)) es key n) ≡ number_or (lookup (λ k. bytes_eq other (items k)) es) (bytes_eq other name) n
  added_as es key n name other e h = indexed.added_as items (insert_entry (λ a b. bytes_eq (items a) (items b))) (λ k n. refl) (λ e es k n. refl) es key n name other e h

-- places are counted from 0
pub place-push : (names : List (List ℕ)) (n : ℕ) (name other : List ℕ) (r more : Option ℕ) → n ≡ length names → r ≡ number_in names other → more ≡ number_or r (bytes_eq other name) n → more ≡ number_in (names ++ name ∷ []) other
place-push names n name other r more k q m = m ∙ (ap (λ r. number_or r (bytes_eq other name) n) q ∙ (ap (number_or (number_in names other) (bytes_eq other name)) k ∙ sym (position-push (bytes_eq other) names name)))
