-- A map from names to numbers, kept as a list of entries in the order of insertion: what one more name does to the
-- numbers found. `insert` is any insertion that replaces the value of a key that is there, and else appends.
use Rattle.std.proofs.Common.{◌≡◌, ℕ, Bool, true, false, cond, List, [], ◌∷◌, Option, None, Some, is_some, refl, sym, ap, subst, ◌∙◌, true≢false, if◌then◌else◌}
use Rattle.std.specs.Option.{option_or}
use Rattle.std.specs.Str.{bytes_eq}
use Rattle.std.specs.Cmp.Lexicographic.{bytes_decides}
use Rattle.std.specs.Map.{lookup}

-- the number found, else n where the name is the one that n is given to
abbrev pub number_or : Option ℕ → Bool → ℕ → Option ℕ
number_or given is_name n = option_or given (if is_name then Some n else None)

module _ {K : Type 0} (items : K → List ℕ) where
  abbrev named : List ℕ → K → Bool
  named name k = bytes_eq name (items k)

  abbrev same : K → K → Bool
  same a b = bytes_eq (items a) (items b)

  step : (o : Bool) (r i : Option ℕ) (v : ℕ) (t : Bool) (n : ℕ) → i ≡ number_or r t n → cond o (Some v) i ≡ number_or (cond o (Some v) r) t n
  step true r i v t n e = refl
  step false r i v t n e = e

  module _ (insert : List (K × ℕ) → K → ℕ → List (K × ℕ)) (empty : (k : K) (n : ℕ) → insert [] k n ≡ (k, n) ∷ [])
      (more : (e : K × ℕ) (es : List (K × ℕ)) (k : K) (n : ℕ) → insert (e ∷ es) k n ≡ (if same k e.0 then (e.0, n) ∷ es else e ∷ insert es k n)) where
    -- a name that had no number has the one that it is given; no other name's changes
    pub added : (es : List (K × ℕ)) (key : K) (n : ℕ) (other : List ℕ) → is_some (lookup (named (items key)) es) ≡ false
        → lookup (named other) (insert es key n) ≡ number_or (lookup (named other) es) (bytes_eq other (items key)) n
    added [] key n other h = ap (lookup (named other)) (empty key n)
    added (e ∷ es) key n other h = ap (lookup (named other)) (more e es key n) ∙ by (same key e.0) refl (added es key n other)
      where
        by : (b : Bool) → same key e.0 ≡ b → (is_some (lookup (named (items key)) es) ≡ false → lookup (named other) (insert es key n) ≡ number_or (lookup (named other) es) (bytes_eq other (items key)) n)
            → lookup (named other) (if b then (e.0, n) ∷ es else e ∷ insert es key n) ≡ number_or (lookup (named other) (e ∷ es)) (bytes_eq other (items key)) n
        by true q go = absurd (true≢false (sym (ap (λ b. is_some (cond b (Some e.1) (lookup (named (items key)) es))) q) ∙ h))
        by false q go = step (named other e.0) _ _ e.1 _ n (go (sym (ap (λ b. is_some (cond b (Some e.1) (lookup (named (items key)) es))) q) ∙ h))

    pub added_as : (es : List (K × ℕ)) (key : K) (n : ℕ) (name other : List ℕ) → items key ≡ name → is_some (lookup (named name) es) ≡ false
        → lookup (named other) (insert es key n) ≡ number_or (lookup (named other) es) (bytes_eq other name) n
    added_as es key n name other e = let P : List ℕ → Type 0 = λ m. is_some (lookup (named m) es) ≡ false → lookup (named other) (insert es key n) ≡ number_or (lookup (named other) es) (bytes_eq other m) n in subst P e (added es key n other)

  -- a name that has a number keeps it
  pub kept : (es : List (K × ℕ)) (n : ℕ) (name other : List ℕ) → is_some (lookup (named name) es) ≡ true
      → lookup (named other) es ≡ number_or (lookup (named other) es) (bytes_eq other name) n
  kept es n name other h = by (lookup (named other) es) (bytes_eq other name) refl refl
    where
      by : (r : Option ℕ) (b : Bool) → lookup (named other) es ≡ r → bytes_eq other name ≡ b → r ≡ number_or r b n
      by (Some x) b e q = refl
      by None false e q = refl
      by None true e q = absurd (true≢false (sym h ∙ ap (λ m. is_some (lookup (named m) es)) (sym ((bytes_decides other name).0 q)) ∙ ap is_some e))
