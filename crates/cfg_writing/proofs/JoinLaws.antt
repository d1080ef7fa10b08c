-- Words that are joined by spaces.
use Rattle.std.proofs.Common.{◌≡◌, ℕ, List, [], ◌∷◌, ◌++◌, map, ap, append-nil, append_assoc, sym, ◌∙◌}
use Rattle.std.specs.List.{flat_map, join_with_byte}
use Rattle.sv_base.specs.declared.value.Value.{Value}
use Rattle.text_words.specs.Spelled.{spaced, value_word}

pub joined_values : (word : List ℕ) (vs : List Value) → join_with_byte 32 (word ∷ map value_word vs) ≡ word ++ flat_map (λ v. spaced (value_word v)) vs
joined_values word [] = sym (append-nil word)
joined_values word (v ∷ vs) = ap (λ rest. word ++ 32 ∷ rest) (joined_values (value_word v) vs)

-- two words and values, one after another
pub contents : (old a b out kind flags : List ℕ) (vs : List Value) → a ≡ old ++ spaced kind → b ≡ a ++ spaced flags → out ≡ b ++ flat_map (λ v. spaced (value_word v)) vs
    → out ≡ old ++ spaced (join_with_byte 32 (kind ∷ flags ∷ map value_word vs))
contents old a b out kind flags vs p q r = r ∙ (ap (λ l. l ++ flat_map (λ v. spaced (value_word v)) vs) (q ∙ ap (λ l. l ++ spaced flags) p)
    ∙ (append_assoc (old ++ spaced kind) (spaced flags) (flat_map (λ v. spaced (value_word v)) vs)
    ∙ (append_assoc old (spaced kind) (32 ∷ (flags ++ flat_map (λ v. spaced (value_word v)) vs))
    ∙ ap (λ rest. old ++ 32 ∷ (kind ++ 32 ∷ rest)) (sym (joined_values flags vs)))))
