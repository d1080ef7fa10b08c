-- The forms that the reading knows: how it finds them, where they may stand, and how many there may be.
use Rattle.std.proofs.Common.{◌≡◌, ℕ, suc, ◌+◌, ◌<◌, ◌≤◌, ◌⊎◌, ◌↔◌, inl, inr, Bool, true, false, cond, ◌&&◌, ◌||◌, not, List, [], ◌∷◌, length, nat_lt, nat_le, ◌==◌, refl, sym, ap, ◌∙◌, arith, true≢false}
use Rattle.std.specs.Prelude.{Some, codes}
use Rattle.std.specs.List.{list_all, count_by, join_with_byte}
use Rattle.std.specs.Str.{bytes_eq}
use Rattle.std.proofs.lemmas.Bool.{and_parts, and_from, or_parts, or_from, not-true, not_from_false, ltb-true, ltb-false, leb-true, leb-false, eqb-true, lt-ltb, le-ltb, lt-leb, le-leb, eq-eqb}
use Rattle.std.proofs.lemmas.Bool.Decides.{nat_tests}
use Rattle.std.proofs.lemmas.Slice.Eq.{bytes_eq-Decides}
use Rattle.text_words.specs.Names.{is_dollar, item_of}
use Rattle.text_words.specs.Octets.{is_skipped}
use Rattle.text_words.proofs.WordLaws.{AreWords}
use Rattle.cfg_lines.specs.Before.{place_of, node_of, groups_of, has_settings, domains, nodes, attributes, sets, blocks, controls, members}
use Rattle.cfg_lines.specs.declared.line.Line.{Line}
use Rattle.cfg_parser.specs.declared.fault.Kind.{Kind}
use Rattle.cfg_parser.specs.declared.keyword.Keyword.{Keyword}
use Rattle.cfg_parser.specs.declared.keyword.Keyword.TheVariants as keywords
use Rattle.cfg_parser.specs.Kinds.{number_of}
use Rattle.cfg_parser.specs.Keywords.{keyword_at}
use Rattle.cfg_parser.specs.Judging.{attribute_counts, counts, is_in_node, is_start, is_configured, has_groups, may_stand, has_many, content_at}
use Rattle.cfg_grammar.specs.Follows.{IsInNode}
use Rattle.cfg_text.proofs.SpelledLineLaws.{in-node, between, in-domain, in-set}
use Rattle.cfg_text.proofs.ReadLineLaws.{node-place, open-place, domain-place, set-place, start-place, configured-place, word_of}
use Rattle.cfg_laws.specs.Forms.{Form, words, is_word, AreAsMany, HasCount, IsText}
use Rattle.cfg_laws.specs.Forms as forms
use Rattle.cfg_laws.specs.Words.{IsWrong}
use Rattle.cfg_laws.specs.Lines.{Stands, HasRoomFor}
use Rattle.cfg_laws.proofs.StepLaws.{err_of, nothing}
use Rattle.cfg_laws.proofs.WrongLaws.{config-wrong, domain-wrong, node-wrong, set-wrong, member-wrong, attribute-wrong, block-wrong, control-wrong, groups-wrong}

-- words
pub are-words : (ws : List (List ℕ)) → list_all is_word ws ≡ true → AreWords ws
are-words [] e = tt
are-words (w ∷ ws) e = let both = and_parts (is_word w) (list_all is_word ws) e in let w_ = and_parts _ _ both.0 in ((leb-true 1 (length w) w_.0, w_.1), are-words ws both.1)

pub words-are : (ws : List (List ℕ)) → AreWords ws → list_all is_word ws ≡ true
words-are [] are = refl
words-are (w ∷ ws) are = and_from _ _ (and_from _ _ (le-leb 1 (length w) are.0.0) are.0.1) (words-are ws are.1)

pub key-read : (key : Keyword) → keyword_at (word_of key) ≡ Some key
key-read keywords.Config = refl
key-read keywords.Server = refl
key-read keywords.Ld = refl
key-read keywords.Ln = refl
key-read keywords.Attr = refl
key-read keywords.Set = refl
key-read keywords.Member = refl
key-read keywords.Brcb = refl
key-read keywords.Ctl = refl
key-read keywords.Sgcb = refl
key-read keywords.End = refl

-- a line of words
abbrev pub IsReal : Form → Type 0
IsReal forms.Skip = ⊥
IsReal form = Unit {0}

abbrev pub Plain : List Line → List ℕ → Form → Type 0
Plain before text form = (text ≡ join_with_byte 32 (words form)) × (list_all is_word (words form) ≡ true) × HasCount before form

pub plain : (before : List Line) (text : List ℕ) (form : Form) → IsReal form → IsText before text form → Plain before text form
plain before text forms.Skip real is = absurd real
plain before text (forms.Config version) real is = is
plain before text (forms.Server vendor model revision) real is = is
plain before text (forms.Ld name) real is = is
plain before text (forms.Ln name) real is = is
plain before text (forms.Attr fc path kind flags values) real is = is
plain before text (forms.Set name) real is = is
plain before text (forms.Member reference) real is = is
plain before text (forms.Brcb name rpt_id dat_set conf_rev opt_flds buf_tm trg_ops intg_pd capacity) real is = is
plain before text (forms.Ctl path model timeout class kind) real is = is
plain before text (forms.Sgcb count active) real is = is
plain before text forms.End real is = is

pub text-is : (before : List Line) (text : List ℕ) (form : Form) → IsReal form → Plain before text form → IsText before text form
text-is before text forms.Skip real is = absurd real
text-is before text (forms.Config version) real is = is
text-is before text (forms.Server vendor model revision) real is = is
text-is before text (forms.Ld name) real is = is
text-is before text (forms.Ln name) real is = is
text-is before text (forms.Attr fc path kind flags values) real is = is
text-is before text (forms.Set name) real is = is
text-is before text (forms.Member reference) real is = is
text-is before text (forms.Brcb name rpt_id dat_set conf_rev opt_flds buf_tm trg_ops intg_pd capacity) real is = is
text-is before text (forms.Ctl path model timeout class kind) real is = is
text-is before text (forms.Sgcb count active) real is = is
text-is before text forms.End real is = is

-- how many values an attribute has, by the words after its functional constraint
abbrev HasMany : List Line → List ℕ → ℕ → Type 0
HasMany before fc n = ((fc ≡ codes "SG" → ⊥) × (n ≡ 4)) ⊎ (((fc ≡ codes "SG") × (groups_of before ≡ 0) × (4 ≤ n)) ⊎ ((fc ≡ codes "SG") × (1 ≤ groups_of before) × (n ≡ groups_of before + 3)))

abbrev counts_of : Bool → ℕ → ℕ → Bool
counts_of settings groups n = cond settings (cond (groups == 0) (nat_le 4 n) (n == groups + 3)) (n == 4)

attribute-many : (before : List Line) (fc : List ℕ) (ws : List (List ℕ)) → attribute_counts (groups_of before) (fc ∷ ws) ≡ true → HasMany before fc (length ws)
attribute-many before fc ws e = by (bytes_eq fc (codes "SG")) (groups_of before == 0) refl refl e
  where
    by : (a b : Bool) → bytes_eq fc (codes "SG") ≡ a → (groups_of before == 0) ≡ b → cond a (cond b (nat_le 4 (length ws)) (length ws == groups_of before + 3)) (length ws == 4) ≡ true → HasMany before fc (length ws)
    by true true sg none e = inr (inl ((bytes_eq-Decides fc (codes "SG")).0 sg, eqb-true (groups_of before) 0 none, leb-true 4 (length ws) e))
    by true false sg some e = let few : 1 ≤ groups_of before = grind (arith, nat_tests, some) in inr (inr ((bytes_eq-Decides fc (codes "SG")).0 sg, few, eqb-true (length ws) (groups_of before + 3) e))
    by false b sg none e = inl ((λ is. true≢false (sym ((bytes_eq-Decides fc (codes "SG")).1 is) ∙ sg)), eqb-true (length ws) 4 e)

many-attribute : (before : List Line) (fc : List ℕ) (ws : List (List ℕ)) → HasMany before fc (length ws) → attribute_counts (groups_of before) (fc ∷ ws) ≡ true
many-attribute before fc ws has = by (bytes_eq fc (codes "SG")) (groups_of before == 0) refl refl has
  where
    is-sg : fc ≡ codes "SG" → bytes_eq fc (codes "SG") ≡ false → ⊥
    is-sg is e = true≢false (sym ((bytes_eq-Decides fc (codes "SG")).1 is) ∙ e)

    by : (a b : Bool) → bytes_eq fc (codes "SG") ≡ a → (groups_of before == 0) ≡ b → HasMany before fc (length ws) → cond a (cond b (nat_le 4 (length ws)) (length ws == groups_of before + 3)) (length ws == 4) ≡ true
    by true b sg none (inl x) = absurd (x.0 ((bytes_eq-Decides fc (codes "SG")).0 sg))
    by true true sg none (inr (inl x)) = le-leb 4 (length ws) x.2
    by true true sg none (inr (inr x)) = absurd (omega (arith, eqb-true (groups_of before) 0 none, x.1))
    by true false sg some (inr (inl x)) = absurd (true≢false (sym (eq-eqb (groups_of before) 0 x.1) ∙ some))
    by true false sg some (inr (inr x)) = eq-eqb _ _ x.2
    by false b sg none (inl x) = eq-eqb _ _ x.1
    by false b sg none (inr (inl x)) = absurd (is-sg x.0 sg)
    by false b sg none (inr (inr x)) = absurd (is-sg x.0 sg)

as-many : (before : List Line) (fc : List ℕ) (values : List (List ℕ)) → HasMany before fc (suc (suc (suc (length values)))) → AreAsMany before fc values
as-many before fc values (inl x) = inl (x.0, omega (arith, x.1))
as-many before fc values (inr (inl x)) = inr (inl (x.0, x.1, omega (arith, x.2)))
as-many before fc values (inr (inr x)) = inr (inr (x.0, x.1, omega (arith, x.2)))

many-as : (before : List Line) (fc : List ℕ) (values : List (List ℕ)) → AreAsMany before fc values → HasMany before fc (suc (suc (suc (length values))))
many-as before fc values (inl x) = inl (x.0, omega (arith, x.1))
many-as before fc values (inr (inl x)) = inr (inl (x.0, x.1, omega (arith, x.2)))
many-as before fc values (inr (inr x)) = inr (inr (x.0, x.1, omega (arith, x.2)))

four-at-least : (before : List Line) (fc : List ℕ) (n : ℕ) → HasMany before fc n → 4 ≤ n
four-at-least before fc n (inl x) = omega (arith, x.1)
four-at-least before fc n (inr (inl x)) = x.2
four-at-least before fc n (inr (inr x)) = omega (arith, x.1, x.2)

-- the form of words that are as many as the line has
pub record Shaped (before : List Line) (key : Keyword) (more : List (List ℕ)) : Type 0 where
  pub form : Form
  pub real : IsReal form
  pub has : words form ≡ word_of key ∷ more
  pub count : HasCount before form

shaped : (before : List Line) (key : Keyword) (more : List (List ℕ)) (form : Form) → IsReal form → words form ≡ word_of key ∷ more → HasCount before form → Shaped before key more
shaped before key more form real has count = record { form = form; real = real; has = has; count = count }

shaped-attribute : (before : List Line) (fc : List ℕ) (ws : List (List ℕ)) → HasMany before fc (length ws) → Shaped before keywords.Attr (fc ∷ ws)
shaped-attribute before fc [] has = absurd (omega (arith, four-at-least before fc 0 has))
shaped-attribute before fc (a ∷ []) has = absurd (omega (arith, four-at-least before fc 1 has))
shaped-attribute before fc (a ∷ b ∷ []) has = absurd (omega (arith, four-at-least before fc 2 has))
shaped-attribute before fc (path ∷ kind ∷ flags ∷ values) has = shaped before keywords.Attr (fc ∷ path ∷ kind ∷ flags ∷ values) (forms.Attr fc path kind flags values) tt refl (as-many before fc values has)

pub shape : (before : List Line) (key : Keyword) (more : List (List ℕ)) → counts before key more ≡ true → Shaped before key more
unfolding counts
shape before keywords.Config [] e = absurd (omega (arith, eqb-true (length {A = List ℕ} []) 1 e))
shape before keywords.Config (version ∷ []) e = shaped before keywords.Config (version ∷ []) (forms.Config version) tt refl tt
shape before keywords.Config (a ∷ b ∷ ws) e = absurd (omega (arith, eqb-true (length {A = List ℕ} (a ∷ b ∷ ws)) 1 e))
shape before keywords.Server [] e = absurd (omega (arith, eqb-true (length {A = List ℕ} []) 3 e))
shape before keywords.Server (a ∷ []) e = absurd (omega (arith, eqb-true (length {A = List ℕ} (a ∷ [])) 3 e))
shape before keywords.Server (a ∷ b ∷ []) e = absurd (omega (arith, eqb-true (length {A = List ℕ} (a ∷ b ∷ [])) 3 e))
shape before keywords.Server (vendor ∷ model ∷ revision ∷ []) e = shaped before keywords.Server (vendor ∷ model ∷ revision ∷ []) (forms.Server vendor model revision) tt refl tt
shape before keywords.Server (a ∷ b ∷ d ∷ f ∷ ws) e = absurd (omega (arith, eqb-true (length {A = List ℕ} (a ∷ b ∷ d ∷ f ∷ ws)) 3 e))
shape before keywords.Ld [] e = absurd (omega (arith, eqb-true (length {A = List ℕ} []) 1 e))
shape before keywords.Ld (name ∷ []) e = shaped before keywords.Ld (name ∷ []) (forms.Ld name) tt refl tt
shape before keywords.Ld (a ∷ b ∷ ws) e = absurd (omega (arith, eqb-true (length {A = List ℕ} (a ∷ b ∷ ws)) 1 e))
shape before keywords.Ln [] e = absurd (omega (arith, eqb-true (length {A = List ℕ} []) 1 e))
shape before keywords.Ln (name ∷ []) e = shaped before keywords.Ln (name ∷ []) (forms.Ln name) tt refl tt
shape before keywords.Ln (a ∷ b ∷ ws) e = absurd (omega (arith, eqb-true (length {A = List ℕ} (a ∷ b ∷ ws)) 1 e))
shape before keywords.Attr [] e = absurd cc e
shape before keywords.Attr (fc ∷ ws) e = shaped-attribute before fc ws (attribute-many before fc ws e)
shape before keywords.Set [] e = absurd (omega (arith, eqb-true (length {A = List ℕ} []) 1 e))
shape before keywords.Set (name ∷ []) e = shaped before keywords.Set (name ∷ []) (forms.Set name) tt refl tt
shape before keywords.Set (a ∷ b ∷ ws) e = absurd (omega (arith, eqb-true (length {A = List ℕ} (a ∷ b ∷ ws)) 1 e))
shape before keywords.Member [] e = absurd (omega (arith, eqb-true (length {A = List ℕ} []) 1 e))
shape before keywords.Member (reference ∷ []) e = shaped before keywords.Member (reference ∷ []) (forms.Member reference) tt refl tt
shape before keywords.Member (a ∷ b ∷ ws) e = absurd (omega (arith, eqb-true (length {A = List ℕ} (a ∷ b ∷ ws)) 1 e))
shape before keywords.Brcb [] e = absurd (omega (arith, eqb-true (length {A = List ℕ} []) 9 e))
shape before keywords.Brcb (a ∷ []) e = absurd (omega (arith, eqb-true (length {A = List ℕ} (a ∷ [])) 9 e))
shape before keywords.Brcb (a ∷ b ∷ []) e = absurd (omega (arith, eqb-true (length {A = List ℕ} (a ∷ b ∷ [])) 9 e))
shape before keywords.Brcb (a ∷ b ∷ d ∷ []) e = absurd (omega (arith, eqb-true (length {A = List ℕ} (a ∷ b ∷ d ∷ [])) 9 e))
shape before keywords.Brcb (a ∷ b ∷ d ∷ f ∷ []) e = absurd (omega (arith, eqb-true (length {A = List ℕ} (a ∷ b ∷ d ∷ f ∷ [])) 9 e))
shape before keywords.Brcb (a ∷ b ∷ d ∷ f ∷ g ∷ []) e = absurd (omega (arith, eqb-true (length {A = List ℕ} (a ∷ b ∷ d ∷ f ∷ g ∷ [])) 9 e))
shape before keywords.Brcb (a ∷ b ∷ d ∷ f ∷ g ∷ h ∷ []) e = absurd (omega (arith, eqb-true (length {A = List ℕ} (a ∷ b ∷ d ∷ f ∷ g ∷ h ∷ [])) 9 e))
shape before keywords.Brcb (a ∷ b ∷ d ∷ f ∷ g ∷ h ∷ i ∷ []) e = absurd (omega (arith, eqb-true (length {A = List ℕ} (a ∷ b ∷ d ∷ f ∷ g ∷ h ∷ i ∷ [])) 9 e))
shape before keywords.Brcb (a ∷ b ∷ d ∷ f ∷ g ∷ h ∷ i ∷ j ∷ []) e = absurd (omega (arith, eqb-true (length {A = List ℕ} (a ∷ b ∷ d ∷ f ∷ g ∷ h ∷ i ∷ j ∷ [])) 9 e))
shape before keywords.Brcb (name ∷ rpt_id ∷ dat_set ∷ conf_rev ∷ opt_flds ∷ buf_tm ∷ trg_ops ∷ intg_pd ∷ capacity ∷ []) e = shaped before keywords.Brcb (name ∷ rpt_id ∷ dat_set ∷ conf_rev ∷ opt_flds ∷ buf_tm ∷ trg_ops ∷ intg_pd ∷ capacity ∷ []) (forms.Brcb name rpt_id dat_set conf_rev opt_flds buf_tm trg_ops intg_pd capacity) tt refl tt
shape before keywords.Brcb (a ∷ b ∷ d ∷ f ∷ g ∷ h ∷ i ∷ j ∷ k ∷ l ∷ ws) e = absurd (omega (arith, eqb-true (length {A = List ℕ} (a ∷ b ∷ d ∷ f ∷ g ∷ h ∷ i ∷ j ∷ k ∷ l ∷ ws)) 9 e))
shape before keywords.Ctl [] e = absurd (omega (arith, eqb-true (length {A = List ℕ} []) 5 e))
shape before keywords.Ctl (a ∷ []) e = absurd (omega (arith, eqb-true (length {A = List ℕ} (a ∷ [])) 5 e))
shape before keywords.Ctl (a ∷ b ∷ []) e = absurd (omega (arith, eqb-true (length {A = List ℕ} (a ∷ b ∷ [])) 5 e))
shape before keywords.Ctl (a ∷ b ∷ d ∷ []) e = absurd (omega (arith, eqb-true (length {A = List ℕ} (a ∷ b ∷ d ∷ [])) 5 e))
shape before keywords.Ctl (a ∷ b ∷ d ∷ f ∷ []) e = absurd (omega (arith, eqb-true (length {A = List ℕ} (a ∷ b ∷ d ∷ f ∷ [])) 5 e))
shape before keywords.Ctl (path ∷ model ∷ timeout ∷ class ∷ kind ∷ []) e = shaped before keywords.Ctl (path ∷ model ∷ timeout ∷ class ∷ kind ∷ []) (forms.Ctl path model timeout class kind) tt refl tt
shape before keywords.Ctl (a ∷ b ∷ d ∷ f ∷ g ∷ h ∷ ws) e = absurd (omega (arith, eqb-true (length {A = List ℕ} (a ∷ b ∷ d ∷ f ∷ g ∷ h ∷ ws)) 5 e))
shape before keywords.Sgcb [] e = absurd (omega (arith, eqb-true (length {A = List ℕ} []) 2 e))
shape before keywords.Sgcb (a ∷ []) e = absurd (omega (arith, eqb-true (length {A = List ℕ} (a ∷ [])) 2 e))
shape before keywords.Sgcb (count ∷ active ∷ []) e = shaped before keywords.Sgcb (count ∷ active ∷ []) (forms.Sgcb count active) tt refl tt
shape before keywords.Sgcb (a ∷ b ∷ d ∷ ws) e = absurd (omega (arith, eqb-true (length {A = List ℕ} (a ∷ b ∷ d ∷ ws)) 2 e))
shape before keywords.End [] e = shaped before keywords.End [] forms.End tt refl tt
shape before keywords.End (a ∷ ws) e = absurd (omega (arith, eqb-true (length {A = List ℕ} (a ∷ ws)) 0 e))

-- places
in-node-is : (before : List Line) → (is_in_node (place_of before) ≡ true) ↔ IsInNode before
in-node-is before = (node-place (place_of before), in-node before)

attribute-stands : (before : List Line) (fc : List ℕ) (ws : List (List ℕ)) → ((is_in_node (place_of before) && has_groups (groups_of before) (fc ∷ ws)) ≡ true) ↔ (IsInNode before × (fc ≡ codes "SG" → 1 ≤ groups_of before))
attribute-stands before fc ws = (there, λ is. and_from _ _ (in-node before is.0) (by (bytes_eq fc (codes "SG")) refl is.1))
  where
    there : (is_in_node (place_of before) && has_groups (groups_of before) (fc ∷ ws)) ≡ true → IsInNode before × (fc ≡ codes "SG" → 1 ≤ groups_of before)
    there e =
        let both = and_parts (is_in_node (place_of before)) (has_groups (groups_of before) (fc ∷ ws)) e in
        (node-place (place_of before) both.0, λ sg. ltb-true 0 (groups_of before) (ap (λ b. cond b (nat_lt 0 (groups_of before)) true) (sym ((bytes_eq-Decides fc (codes "SG")).1 sg)) ∙ both.1))

    by : (b : Bool) → bytes_eq fc (codes "SG") ≡ b → (fc ≡ codes "SG" → 1 ≤ groups_of before) → cond b (nat_lt 0 (groups_of before)) true ≡ true
    by true sg some = lt-ltb 0 (groups_of before) (some ((bytes_eq-Decides fc (codes "SG")).0 sg))
    by false sg some = refl

groups-stand : (before : List Line) → (((is_in_node (place_of before) && bytes_eq (node_of before) (codes "LLN0")) && not (has_settings before)) ≡ true) ↔ (IsInNode before × (node_of before ≡ codes "LLN0") × (has_settings before ≡ false))
groups-stand before = (there, λ is. and_from _ _ (and_from _ _ (in-node before is.0) ((bytes_eq-Decides (node_of before) (codes "LLN0")).1 is.1)) (not_from_false _ is.2))
  where
    there : ((is_in_node (place_of before) && bytes_eq (node_of before) (codes "LLN0")) && not (has_settings before)) ≡ true → IsInNode before × (node_of before ≡ codes "LLN0") × (has_settings before ≡ false)
    there e =
        let outer = and_parts (is_in_node (place_of before) && bytes_eq (node_of before) (codes "LLN0")) (not (has_settings before)) e in
        let inner = and_parts (is_in_node (place_of before)) (bytes_eq (node_of before) (codes "LLN0")) outer.0 in
        (node-place (place_of before) inner.0, (bytes_eq-Decides (node_of before) (codes "LLN0")).0 inner.1, not-true (has_settings before) outer.1)

-- limits
fewer : (most n : ℕ) → (nat_le most n ≡ false) ↔ (n < most)
fewer most n = (leb-false most n, lt-leb most n)

fewer-and : (most n deepest deep : ℕ) → ((nat_le most n || nat_lt deepest deep) ≡ false) ↔ ((n < most) × (deep ≤ deepest))
fewer-and most n deepest deep = (there, λ is. or_from _ _ (lt-leb most n is.0) (le-ltb deepest deep is.1))
  where
    there : (nat_le most n || nat_lt deepest deep) ≡ false → (n < most) × (deep ≤ deepest)
    there e = let both = or_parts (nat_le most n) (nat_lt deepest deep) e in (leb-false most n both.0, ltb-false deepest deep both.1)

any-many : (false ≡ false) ↔ Unit {0}
any-many = (λ e. tt, λ u. refl)

-- what the reading makes of a line of a form
pub record Known (before : List Line) (form : Form) : Type 0 where
  pub key : Keyword
  pub more : List (List ℕ)
  pub has : words form ≡ word_of key ∷ more
  pub other : is_skipped (join_with_byte 32 (word_of key ∷ more)) ≡ false
  pub count : HasCount before form → counts before key more ≡ true
  pub stands : (may_stand before key more ≡ true) ↔ Stands before form
  pub few : (has_many before key more ≡ false) ↔ HasRoomFor before form
  pub content : (kind : Kind) → (content_at before key more ≡ err_of Line kind) ↔ IsWrong before form (number_of kind)

pub known : (before : List Line) (form : Form) → IsReal form → Known before form
unfolding counts may_stand has_many content_at
known before forms.Skip real = absurd real
known before (forms.Config version) real = record { key = keywords.Config; more = _; has = refl; other = refl; count = λ has. refl; stands = (start-place (place_of before), λ e. ap is_start e); few = any-many; content = λ kind. config-wrong before kind version }
known before (forms.Server vendor model revision) real = record { key = keywords.Server; more = _; has = refl; other = refl; count = λ has. refl; stands = (configured-place (place_of before), λ e. ap is_configured e); few = any-many; content = λ kind. nothing _ kind }
known before (forms.Ld name) real = record { key = keywords.Ld; more = _; has = refl; other = refl; count = λ has. refl; stands = (open-place (place_of before), between before); few = fewer 16 (domains before); content = λ kind. domain-wrong before kind name }
known before (forms.Ln name) real = record { key = keywords.Ln; more = _; has = refl; other = refl; count = λ has. refl; stands = (domain-place (place_of before), in-domain before); few = fewer 256 (nodes before); content = λ kind. node-wrong before kind name }
known before (forms.Attr fc path kind flags values) real = record { key = keywords.Attr; more = _; has = refl; other = refl; count = λ has. many-attribute before fc (path ∷ kind ∷ flags ∷ values) (many-as before fc values has); stands = attribute-stands before fc (path ∷ kind ∷ flags ∷ values); few = fewer-and 10000 (attributes before) 7 (count_by is_dollar path); content = λ k. attribute-wrong before k fc path kind flags values }
known before (forms.Set name) real = record { key = keywords.Set; more = _; has = refl; other = refl; count = λ has. refl; stands = in-node-is before; few = fewer 128 (sets before); content = λ kind. set-wrong before kind name }
known before (forms.Member reference) real = record { key = keywords.Member; more = _; has = refl; other = refl; count = λ has. refl; stands = (set-place (place_of before), in-set before); few = fewer-and 256 (members before) 9 (count_by is_dollar (item_of reference)); content = λ kind. member-wrong before kind reference }
known before (forms.Brcb name rpt_id dat_set conf_rev opt_flds buf_tm trg_ops intg_pd capacity) real = record { key = keywords.Brcb; more = _; has = refl; other = refl; count = λ has. refl; stands = in-node-is before; few = fewer 32 (blocks before); content = λ kind. block-wrong before kind name rpt_id dat_set conf_rev opt_flds buf_tm trg_ops intg_pd capacity }
known before (forms.Ctl path model timeout class kind) real = record { key = keywords.Ctl; more = _; has = refl; other = refl; count = λ has. refl; stands = in-node-is before; few = fewer-and 64 (controls before) 7 (count_by is_dollar path); content = λ k. control-wrong before k path model timeout class kind }
known before (forms.Sgcb count active) real = record { key = keywords.Sgcb; more = _; has = refl; other = refl; count = λ has. refl; stands = groups-stand before; few = any-many; content = λ kind. groups-wrong before kind count active }
known before forms.End real = record { key = keywords.End; more = _; has = refl; other = refl; count = λ has. refl; stands = (open-place (place_of before), between before); few = any-many; content = λ kind. nothing _ kind }
