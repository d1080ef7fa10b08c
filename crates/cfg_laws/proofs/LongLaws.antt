-- A line is refused as too long exactly where it is, or a word, an item name or a reference in it.
use Rattle.std.proofs.Common.{◌≡◌, ℕ, ◌+◌, ◌<◌, ◌⊎◌, ◌↔◌, inl, inr, Bool, true, false, cond, ◌||◌, List, [], ◌∷◌, length, nat_lt, refl, sym, ap, ◌∙◌, arith, true≢false}
use Rattle.std.specs.Prelude.{Option, Some, None, Err, codes}
use Rattle.std.specs.List.{onto_first}
use Rattle.std.specs.Str.{bytes_eq}
use Rattle.std.proofs.lemmas.Bool.{and_parts, and_from, or_cases, or_left, or_right, cond-true, ltb-true, ltb-false, lt-ltb, eqb-true, false_from_ne_true}
use Rattle.std.proofs.lemmas.Slice.Eq.{bytes_eq-Decides}
use Rattle.text_words.specs.Words.{words_of}
use Rattle.text_words.specs.Octets.{is_skipped}
use Rattle.text_words.specs.Names.{item_of}
use Rattle.cfg_lines.specs.Paths.{below}
use Rattle.cfg_lines.specs.Before.{node_of}
use Rattle.cfg_lines.specs.declared.line.Line.{Line}
use Rattle.cfg_parser.specs.declared.fault.Kind.TheVariants as kinds
use Rattle.cfg_parser.specs.declared.keyword.Keyword.{Keyword}
use Rattle.cfg_parser.specs.declared.keyword.Keyword.TheVariants as keywords
use Rattle.cfg_parser.specs.Keywords.{keyword_at}
use Rattle.cfg_parser.specs.Judging.{is_long_item, is_long_attribute, is_long_set, is_long_block, is_long_member, is_long_control, has_long, skip_at, tell_at, line_at}
use Rattle.cfg_text.proofs.SpelledLineLaws.{below-length}
use Rattle.cfg_text.proofs.ReadLineLaws.{key-is}
use Rattle.cfg_laws.specs.Lines.{IsLongItem, IsLongAttribute, IsLongSet, IsLongMember, IsLongBlock, HasCancel, IsLongControl, HasLong, IsLong}
use Rattle.cfg_laws.proofs.StepLaws.{err_of}
use Rattle.list_laws.proofs.Truths.{never as false-is}

-- item names
long-item : (before : List Line) (behind : ℕ) (item : List ℕ) → length item ≡ behind → (is_long_item before behind ≡ true) ↔ IsLongItem before item
long-item before behind item as_long = (there, back)
  where
    there : is_long_item before behind ≡ true → IsLongItem before item
    there e =
        let both = and_parts (nat_lt 0 (length (node_of before))) (nat_lt 63 (length (node_of before) + behind)) e in
        (ltb-true 0 (length (node_of before)) both.0, omega (arith, as_long, below-length (node_of before) item, ltb-true 63 (length (node_of before) + behind) both.1))

    back : IsLongItem before item → is_long_item before behind ≡ true
    back is = and_from _ _ (lt-ltb 0 _ is.0) (lt-ltb 63 _ (omega (arith, as_long, below-length (node_of before) item, is.1)))

long-attribute : (before : List Line) (ws : List (List ℕ)) → (is_long_attribute before ws ≡ true) ↔ IsLongAttribute before ws
long-attribute before [] = (λ e. false-is e, λ a. absurd a)
long-attribute before (fc ∷ []) = (λ e. false-is e, λ a. absurd a)
long-attribute before (fc ∷ path ∷ more) = long-item before (length fc + 1 + length path) (below fc path) (omega (arith, below-length fc path))

long-set : (before : List Line) (ws : List (List ℕ)) → (is_long_set before ws ≡ true) ↔ IsLongSet before ws
long-set before [] = (λ e. false-is e, λ a. absurd a)
long-set before (name ∷ more) = long-item before (length name) name refl

long-block : (before : List Line) (ws : List (List ℕ)) → (is_long_block before ws ≡ true) ↔ IsLongBlock before ws
long-block before [] = (λ e. false-is e, λ a. absurd a)
long-block before (name ∷ more) =
    let part = below name (codes "TimeofEntry") in
    long-item before (length name + 15) (below (codes "BR") part) (omega (arith, below-length (codes "BR") part, below-length name (codes "TimeofEntry")))

long-member : (ws : List (List ℕ)) → (is_long_member ws ≡ true) ↔ IsLongMember ws
long-member [] = (λ e. false-is e, λ a. absurd a)
long-member (reference ∷ more) = (λ e. there (or_cases (nat_lt 129 (length reference)) (nat_lt 64 (length (item_of reference))) e), back)
  where
    there : (nat_lt 129 (length reference) ≡ true) ⊎ (nat_lt 64 (length (item_of reference)) ≡ true) → IsLongMember (reference ∷ more)
    there (inl e) = inl (ltb-true 129 _ e)
    there (inr e) = inr (ltb-true 64 _ e)

    back : IsLongMember (reference ∷ more) → is_long_member (reference ∷ more) ≡ true
    back (inl lt) = or_left _ _ (lt-ltb 129 _ lt)
    back (inr lt) = or_right _ _ (lt-ltb 64 _ lt)

control-item : (before : List Line) (path part : List ℕ) (around : ℕ) → 4 + length part ≡ around → (is_long_item before (length path + around) ≡ true) ↔ IsLongItem before (below (codes "CO") (below path part))
control-item before path part around as_long = long-item before (length path + around) (below (codes "CO") (below path part)) (omega (arith, as_long, below-length (codes "CO") (below path part), below-length path part))

long-control : (before : List Line) (ws : List (List ℕ)) → (is_long_control before ws ≡ true) ↔ IsLongControl before ws
long-control before [] = (λ e. false-is e, λ a. absurd a)
long-control before (path ∷ []) = control-item before path (codes "Oper$origin$orIdent") 23 refl
long-control before (path ∷ model ∷ more) = by (bytes_eq model (codes "2") || bytes_eq model (codes "4")) refl
  where
    has : HasCancel model → (bytes_eq model (codes "2") || bytes_eq model (codes "4")) ≡ true
    has (inl e) = or_left _ _ ((bytes_eq-Decides model (codes "2")).1 e)
    has (inr e) = or_right _ _ ((bytes_eq-Decides model (codes "4")).1 e)

    is : (bytes_eq model (codes "2") ≡ true) ⊎ (bytes_eq model (codes "4") ≡ true) → HasCancel model
    is (inl e) = inl ((bytes_eq-Decides model (codes "2")).0 e)
    is (inr e) = inr ((bytes_eq-Decides model (codes "4")).0 e)

    with_cancel : (is_long_item before (length path + 25) ≡ true) ↔ IsLongItem before (below (codes "CO") (below path (codes "Cancel$origin$orIdent")))
    with_cancel = control-item before path (codes "Cancel$origin$orIdent") 25 refl

    without : (is_long_item before (length path + 23) ≡ true) ↔ IsLongItem before (below (codes "CO") (below path (codes "Oper$origin$orIdent")))
    without = control-item before path (codes "Oper$origin$orIdent") 23 refl

    cancelled : HasCancel model → IsLongControl before (path ∷ model ∷ more) → is_long_item before (length path + 25) ≡ true
    cancelled c (inl x) = with_cancel.1 x.1
    cancelled c (inr x) = absurd (x.0 c)

    operated : (HasCancel model → ⊥) → IsLongControl before (path ∷ model ∷ more) → is_long_item before (length path + 23) ≡ true
    operated never (inl x) = absurd (never x.0)
    operated never (inr x) = without.1 x.1

    by : (b : Bool) → (bytes_eq model (codes "2") || bytes_eq model (codes "4")) ≡ b → (is_long_item before (length path + cond b 25 23) ≡ true) ↔ IsLongControl before (path ∷ model ∷ more)
    by true e = (λ l. inl (is (or_cases (bytes_eq model (codes "2")) (bytes_eq model (codes "4")) e), with_cancel.0 l), cancelled (is (or_cases (bytes_eq model (codes "2")) (bytes_eq model (codes "4")) e)))
    by false e = (λ l. inr ((λ c. true≢false (sym (has c) ∙ e)), without.0 l), operated (λ c. true≢false (sym (has c) ∙ e)))

-- by the first word
long-is : (before : List Line) (first : List ℕ) (more : List (List ℕ)) → has_long before (keyword_at first) more ≡ true → HasLong before first more
unfolding has_long
long-is before first more e = by (keyword_at first) refl e
  where
    by : (o : Option Keyword) → keyword_at first ≡ o → has_long before o more ≡ true → HasLong before first more
    by None found e = absurd (false-is e)
    by (Some keywords.Server) found e = inl (key-is first keywords.Server found, e)
    by (Some keywords.Attr) found e = inr (inl (key-is first keywords.Attr found, (long-attribute before more).0 e))
    by (Some keywords.Set) found e = inr (inr (inl (key-is first keywords.Set found, (long-set before more).0 e)))
    by (Some keywords.Member) found e = inr (inr (inr (inl (key-is first keywords.Member found, (long-member more).0 e))))
    by (Some keywords.Brcb) found e = inr (inr (inr (inr (inl (key-is first keywords.Brcb found, (long-block before more).0 e)))))
    by (Some keywords.Ctl) found e = inr (inr (inr (inr (inr (key-is first keywords.Ctl found, (long-control before more).0 e)))))
    by (Some keywords.Config) found e = absurd (false-is e)
    by (Some keywords.Ld) found e = absurd (false-is e)
    by (Some keywords.Ln) found e = absurd (false-is e)
    by (Some keywords.Sgcb) found e = absurd (false-is e)
    by (Some keywords.End) found e = absurd (false-is e)

long-has : (before : List Line) (first : List ℕ) (more : List (List ℕ)) → HasLong before first more → has_long before (keyword_at first) more ≡ true
unfolding has_long
long-has before first more (inl x) = ap (λ w. has_long before (keyword_at w) more) x.0 ∙ x.1
long-has before first more (inr (inl x)) = ap (λ w. has_long before (keyword_at w) more) x.0 ∙ (long-attribute before more).1 x.1
long-has before first more (inr (inr (inl x))) = ap (λ w. has_long before (keyword_at w) more) x.0 ∙ (long-set before more).1 x.1
long-has before first more (inr (inr (inr (inl x)))) = ap (λ w. has_long before (keyword_at w) more) x.0 ∙ (long-member more).1 x.1
long-has before first more (inr (inr (inr (inr (inl x))))) = ap (λ w. has_long before (keyword_at w) more) x.0 ∙ (long-block before more).1 x.1
long-has before first more (inr (inr (inr (inr (inr x))))) = ap (λ w. has_long before (keyword_at w) more) x.0 ∙ (long-control before more).1 x.1

pub not-long : (before : List Line) (text first : List ℕ) (more : List (List ℕ)) → (IsLong before text → ⊥) → words_of text ≡ first ∷ more → has_long before (keyword_at first) more ≡ false
not-long before text first more never is = false_from_ne_true (has_long before (keyword_at first) more) (λ e. never (inr (first, more, is, long-is before first more e)))

pub decide-long : (before : List Line) (text : List ℕ) → IsLong before text ⊎ (IsLong before text → ⊥)
decide-long before text = by (nat_lt 1000 (length text)) refl
  where
    Decided : Type 0
    Decided = IsLong before text ⊎ (IsLong before text → ⊥)

    short-text : nat_lt 1000 (length text) ≡ false → 1000 < length text → ⊥
    short-text e lt = omega (arith, ltb-false 1000 (length text) e, lt)

    words : (first : List ℕ) (more : List (List ℕ)) (b : Bool) → nat_lt 1000 (length text) ≡ false → words_of text ≡ first ∷ more → has_long before (keyword_at first) more ≡ b → Decided
    words first more true e is long = inl (inr (first, more, is, long-is before first more long))
    words first more false e is none = inr never
      where
        never : IsLong before text → ⊥
        never (inl lt) = short-text e lt
        never (inr (f, m, same, long)) =
            let both : f ∷ m ≡ first ∷ more = sym same ∙ is in
            let head : f ≡ first = cc in
            let tail : m ≡ more = cc in
            true≢false (sym (long-has before f m long) ∙ (ap (λ w. has_long before (keyword_at w) m) head ∙ (ap (λ ws. has_long before (keyword_at first) ws) tail ∙ none)))

    split : (ws : List (List ℕ)) → nat_lt 1000 (length text) ≡ false → words_of text ≡ ws → Decided
    split (first ∷ more) e is = words first more (has_long before (keyword_at first) more) e is refl
    split [] e is = inr never
      where
        never : IsLong before text → ⊥
        never (inl lt) = short-text e lt
        never (inr (f, m, same, long)) = absurd cc (sym is ∙ same)

    by : (b : Bool) → nat_lt 1000 (length text) ≡ b → Decided
    by true e = inl (inl (ltb-true 1000 (length text) e))
    by false e = split (words_of text) e refl

-- a remark has no long word
remark-key : (rest first : List ℕ) (ws more : List (List ℕ)) → onto_first 35 ws ≡ first ∷ more → keyword_at first ≡ None
remark-key rest first [] more e = let is : 35 ∷ [] ≡ first = cc in ap keyword_at (sym is)
remark-key rest first (w ∷ ws) more e = let is : 35 ∷ w ≡ first = cc in ap keyword_at (sym is)

skipped-key : (text first : List ℕ) (more : List (List ℕ)) → is_skipped text ≡ true → words_of text ≡ first ∷ more → keyword_at first ≡ None
skipped-key [] first more skipped e = let is : [] ≡ first = cc in ap keyword_at (sym is)
skipped-key (octet ∷ rest) first more skipped e = remark-key rest first (words_of rest) more (ap (λ o. words_of (o ∷ rest)) (sym (eqb-true octet 35 skipped)) ∙ e)

pub long-read : (before : List Line) (text : List ℕ) → IsLong before text → line_at before text ≡ err_of Line kinds.Long
unfolding line_at has_long tell_at
long-read before text (inl long) = cond-true _ _ _ (lt-ltb 1000 (length text) long)
long-read before text (inr (first, more, is, long)) = by (nat_lt 1000 (length text)) (is_skipped text) refl
  where
    has : has_long before (keyword_at first) more ≡ true
    has = long-has before first more long

    none : keyword_at first ≡ None → ⊥
    none e = true≢false (sym has ∙ ap (λ k. has_long before k more) e)

    by : (a b : Bool) → is_skipped text ≡ b → cond a (Err kinds.Long) (cond b (skip_at before text) (tell_at before text (words_of text))) ≡ err_of Line kinds.Long
    by true b skipped = refl
    by false true skipped = absurd (none (skipped-key text first more skipped is))
    by false false skipped = ap (tell_at before text) is ∙ cond-true _ _ _ has
