-- The words of a line, and their text.
use Rattle.std.proofs.Common.{◌≡◌, ℕ, true, false, List, [], ◌∷◌, ◌++◌, length, nat_le, ◌==◌, append-nil, append_assoc, refl, sym, ap, ◌∙◌}
use Rattle.std.specs.List.{list_all, flat_map, join_with_byte}
use Rattle.std.proofs.lemmas.Bool.{and_parts, and_from, leb-true, le-leb}
use Rattle.text_words.specs.Octets.{is_skipped}
use Rattle.text_words.specs.Spelled.{spaced}
use Rattle.text_words.specs.Values.{is_graphic}
use Rattle.text_words.proofs.WordLaws.{AreWords}
use Rattle.run_record.specs.Grammar.{is_word}

-- a word, and the others each after a space
pub joined : (word : List ℕ) (more : List (List ℕ)) → join_with_byte 32 (word ∷ more) ≡ word ++ flat_map spaced more
joined word [] = sym (append-nil word)
joined word (next ∷ more) = ap (λ rest. word ++ 32 ∷ rest) (joined next more)

pub not-skipped : (octet : ℕ) (octets : List ℕ) (more : List (List ℕ)) → (octet == 35) ≡ false → is_skipped (join_with_byte 32 ((octet ∷ octets) ∷ more)) ≡ false
not-skipped octet octets more other = ap is_skipped (joined (octet ∷ octets) more) ∙ other

pub are-words : (ws : List (List ℕ)) → list_all is_word ws ≡ true → AreWords ws
are-words [] e = tt
are-words (w ∷ ws) e =
    let both = and_parts (is_word w) (list_all is_word ws) e in
    let own = and_parts (nat_le 1 (length w)) (list_all is_graphic w) both.0 in
    ((leb-true 1 (length w) own.0, own.1), are-words ws both.1)

pub all-words : (ws : List (List ℕ)) → AreWords ws → list_all is_word ws ≡ true
all-words [] are = refl
all-words (w ∷ ws) are = and_from _ _ (and_from _ _ (le-leb 1 (length w) are.0.0) are.0.1) (all-words ws are.1)

-- what was added, a word and then the others
pub pushed : (old a out word : List ℕ) (more : List (List ℕ)) → a ≡ old ++ word → out ≡ a ++ flat_map spaced more → out ≡ old ++ join_with_byte 32 (word ∷ more)
pushed old a out word more first others = others ∙ (ap (λ l. l ++ flat_map spaced more) first ∙ (append_assoc old word (flat_map spaced more) ∙ ap (λ l. old ++ l) (sym (joined word more))))
