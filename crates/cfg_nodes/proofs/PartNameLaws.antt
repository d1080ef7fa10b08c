-- The names of a set, with one more.
use Rattle.std.proofs.Common.{◌≡◌, ◌<◌, ℕ, Bool, true, false, ◌||◌, List, [], ◌∷◌, ◌++◌, length, Option, Some, refl, sym, ap, ◌∙◌, arith, if◌then◌else◌}
use Rattle.std.specs.Borrow.{Bor}
use Rattle.std.specs.List.{list_any}
use Rattle.std.specs.Str.{bytes_eq}
use Rattle.std.proofs.lemmas.Bool.{cond_both, cond-true, cond-false}
use Rattle.indexmap.specs.IndexSet.{insert_key}
use Rattle.text_words.specs.Words.{texts}
use Rattle.cfg_lines.specs.Keys.{is_among, added}
use Rattle.cfg_nodes.specs.PartNames.{part_names}

abbrev pub same : Bor (List ℕ) → Bor (List ℕ) → Bool
same v w = bytes_eq v.now w.now

any-texts : (key : List ℕ) (ks : List (Bor (List ℕ))) → list_any (λ k. bytes_eq key k.now) ks ≡ is_among (texts ks) key
any-texts key [] = refl
any-texts key (k ∷ ks) = ap (λ b. bytes_eq key k.now || b) (any-texts key ks)

texts-last : (ks : List (Bor (List ℕ))) (v : Bor (List ℕ)) → texts (ks ++ v ∷ []) ≡ texts ks ++ v.now ∷ []
texts-last [] v = refl
texts-last (k ∷ ks) v = ap (λ (rest : List (List ℕ)). k.now ∷ rest) (texts-last ks v)

pub texts-inserted : (ks : List (Bor (List ℕ))) (v : Bor (List ℕ)) → texts (insert_key same ks v) ≡ added (texts ks) v.now
texts-inserted ks v = cond_both (list_any (same v) ks) ks (ks ++ v ∷ []) (λ new. texts new ≡ added (texts ks) v.now)
    (λ e. sym (cond-true _ _ _ (sym (any-texts v.now ks) ∙ e)))
    (λ e. texts-last ks v ∙ sym (cond-false _ _ _ (sym (any-texts v.now ks) ∙ e)))

-- the second name beside the only one
filled : (one : Option (Bor (List ℕ))) (new : List (Bor (List ℕ))) (names : List (List ℕ)) → texts new ≡ names → 0 < length names → part_names one new ≡ names
filled one [] names e h = absurd (omega (arith, h, ap length e))
filled one (k ∷ new) names e h = e

some : (b : Bool) (k name : List ℕ) → 0 < length (if b then k ∷ [] else (k ∷ []) ++ name ∷ [])
some true k name = omega arith
some false k name = omega arith

pub second-added : (old mid new : List (Bor (List ℕ))) (first : Bor (List ℕ)) (name : List ℕ) (seen : List (List ℕ)) → length old ≡ 0 → part_names (Some first) old ≡ seen
    → texts mid ≡ added (texts old) first.now → texts new ≡ added (texts mid) name → part_names (Some first) new ≡ added seen name
second-added (o ∷ os) mid new first name seen h v m n = absurd (omega (arith, h))
second-added [] mid new first name seen h v m n = filled (Some first) new (added (first.now ∷ []) name) (n ∙ ap (λ s. added s name) m) (some (is_among (first.now ∷ []) name) first.now name)
    ∙ ap (λ s. added s name) v
