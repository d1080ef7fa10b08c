-- What a text says of its attributes: each by itself, and that none stands at or above another's reference.
use Rattle.std.proofs.Common.{◌≡◌, ℕ, ◌≤◌, ◌⊎◌, ◌||◌, inl, inr, Bool, true, false, List, [], ◌∷◌, ◌++◌, length, refl, sym, ap, subst, ◌∙◌, arith, true≢false}
use Rattle.std.specs.List.{count_by}
use Rattle.std.specs.Str.{bytes_eq}
use Rattle.sv_base.specs.Same.{values_of}
use Rattle.sv_base.specs.declared.config.LnDef.{LnDef}
use Rattle.sv_base.specs.declared.config.AttrDef.{AttrDef}
use Rattle.text_words.specs.Names.{is_fc, is_path, is_dollar}
use Rattle.bay_model.specs.NamedLines.{path_item}
use Rattle.cfg_lines.specs.Keys.{is_among}
use Rattle.cfg_lines.specs.Paths.{item_key, above, clashes, is_taken}
use Rattle.cfg_lines.specs.Before.{domain_of, node_of}
use Rattle.cfg_lines.specs.Claims.{claims_by, claims}
use Rattle.cfg_lines.specs.Configs.{config_of}
use Rattle.text_words.specs.Grammar.{IsType, AreOfType}
use Rattle.cfg_grammar.specs.Follows.{IsAttribute}
use Rattle.cfg_grammar.specs.Texts.{AreLines}
use Rattle.cfg_lines.specs.declared.line.Line.{Line}
use Rattle.cfg_lines.specs.declared.line.Line.TheVariants as lines
use Rattle.list_laws.proofs.Among.{Among, At, at-among, at-last, right, ending, passes}
use Rattle.text_configs.proofs.ReachLaws.{above-has}
use Rattle.text_configs.proofs.StandLaws.{IsIn, in-more, in-node}
use Rattle.list_laws.proofs.Truths.{or-right, or-left}
use Rattle.list_laws.proofs.Distinct.{octets_equal}

-- an attribute that was read
pub record IsRead (nodes : List LnDef) (a : AttrDef) : Type 0 where
  pub node : IsIn nodes a.domain a.ln
  pub constraint : is_fc a.fc ≡ true
  pub path : (is_path a.path ≡ true) × (count_by is_dollar a.path ≤ 8)
  pub short : length (path_item a.ln a.fc a.path) ≤ 64
  pub type_ : IsType a.kind
  pub values : AreOfType a.kind (values_of a.values)

read-more : (nodes : List LnDef) (node : LnDef) (a : AttrDef) → IsRead nodes a → IsRead (nodes ++ node ∷ []) a
read-more nodes node a h = record { node = in-more nodes node a.domain a.ln h.node; constraint = h.constraint; path = h.path; short = h.short; type_ = h.type_; values = h.values }

attribute-read : (before : List Line) (nodes : List LnDef) (attr : AttrDef) → IsIn nodes (domain_of before) (node_of before) → IsAttribute before attr → IsRead nodes attr
attribute-read before nodes attr node h = record {
  node = subst (λ d. IsIn nodes d attr.ln) (sym (ap (λ (a : AttrDef). a.domain) h.here)) (subst (λ l. IsIn nodes (domain_of before) l) (sym (ap (λ (a : AttrDef). a.ln) h.here)) node);
  constraint = h.constraint;
  path = (h.path.0, omega (arith, h.path.1));
  short = subst (λ l. length (path_item l attr.fc attr.path) ≤ 64) (sym (ap (λ (a : AttrDef). a.ln) h.here)) h.short;
  type_ = h.type_;
  values = h.values;
}

pub attrs-read : (told : List Line) (text : List ℕ) → AreLines text told → (a : AttrDef) → Among a (config_of told).attrs → IsRead (config_of told).nodes a
attrs-read [] text h a i = absurd i
attrs-read (lines.Ln node ∷ before) text h a i = read-more (config_of before).nodes node a (attrs-read before h.0 h.3 a i)
attrs-read (lines.Attr attr ∷ before) text h a i = by (ending a (config_of before).attrs attr i) (attrs-read before h.0 h.3 a)
  where
    by : Among a (config_of before).attrs ⊎ (a ≡ attr) → (Among a (config_of before).attrs → IsRead (config_of before).nodes a) → IsRead (config_of before).nodes a
    by (inl j) go = go j
    by (inr e) go = subst (IsRead (config_of before).nodes) (sym e) (attribute-read before (config_of before).nodes attr (in-node before h.0 h.3 h.4.follows.stands) h.4.follows)
attrs-read (line ∷ before) text h a i = attrs-read before h.0 h.3 a i

-- ---- references

abbrev pub key_of : AttrDef → List ℕ
key_of a = item_key a.domain a.ln a.fc a.path

pub claimed : (told : List Line) (a : AttrDef) → Among a (config_of told).attrs → Among (key_of a) (claims told)
claimed [] a i = absurd i
claimed (lines.Attr attr ∷ before) a i = by (ending a (config_of before).attrs attr i) (claimed before a)
  where
    by : Among a (config_of before).attrs ⊎ (a ≡ attr) → (Among a (config_of before).attrs → Among (key_of a) (claims before)) → Among (key_of a) (key_of attr ∷ claims before)
    by (inl j) go = inr (go j)
    by (inr e) go = inl (ap key_of e)
claimed (lines.Brcb block ∷ before) a i = inr (claimed before a i)
claimed (lines.Ctl control ∷ before) a i = right (key_of a) (claims_by (lines.Ctl control)) (claims before) (claimed before a i)
claimed (lines.Sgcb groups ∷ before) a i = inr (claimed before a i)
claimed (line ∷ before) a i = claimed before a i

-- neither is the other, nor a structure above it
pub record AreBeside (p q : List ℕ) : Type 0 where
  pub other : p ≡ q → ⊥
  pub above : (more : List ℕ) → q ≡ p ++ 36 ∷ more → ⊥
  pub below : (more : List ℕ) → p ≡ q ++ 36 ∷ more → ⊥

pub beside-turned : (p q : List ℕ) → AreBeside p q → AreBeside q p
beside-turned p q h = record { other = λ e. h.other (sym e); above = h.below; below = h.above }

pub beside : (p q : List ℕ) → clashes p q ≡ false → AreBeside p q
beside p q h =
    let first = or-left (bytes_eq p q || is_among (above q) p) (is_among (above p) q) h in
    record {
      other = λ e. true≢false (sym (octets_equal p q e) ∙ or-left (bytes_eq p q) (is_among (above q) p) first);
      above = λ more e. true≢false (sym (ap (λ l. is_among (above l) p) e ∙ above-has p more) ∙ or-right (bytes_eq p q) (is_among (above q) p) first);
      below = λ more e. true≢false (sym (ap (λ l. is_among (above l) q) e ∙ above-has q more) ∙ or-right (bytes_eq p q || is_among (above q) p) (is_among (above p) q) h);
    }

pub not-taken : (others : List (List ℕ)) (path other : List ℕ) → is_taken others path ≡ false → Among other others → clashes path other ≡ false
not-taken others path other h i = by (clashes path other) refl
  where
    by : (b : Bool) → clashes path other ≡ b → b ≡ false
    by true e = absurd (true≢false (sym (passes (λ o. clashes path o) other others i e) ∙ h))
    by false e = refl

abbrev pub AreAllBeside : List AttrDef → Type 0
AreAllBeside as_ = (x y : ℕ) (a b : AttrDef) → At x a as_ → At y b as_ → (x ≡ y → ⊥) → AreBeside (key_of a) (key_of b)

beside-more : (as_ : List AttrDef) (attr : AttrDef) → AreAllBeside as_ → ((a : AttrDef) → Among a as_ → AreBeside (key_of attr) (key_of a)) → AreAllBeside (as_ ++ attr ∷ [])
beside-more as_ attr old new x y a b i j apart = by (at-last x a as_ attr i) (at-last y b as_ attr j)
  where
    by : At x a as_ ⊎ ((x ≡ length as_) × (a ≡ attr)) → At y b as_ ⊎ ((y ≡ length as_) × (b ≡ attr)) → AreBeside (key_of a) (key_of b)
    by (inl p) (inl q) = old x y a b p q apart
    by (inl p) (inr q) = subst (λ c. AreBeside (key_of a) (key_of c)) (sym q.1) (beside-turned (key_of attr) (key_of a) (new a (at-among x a as_ p)))
    by (inr p) (inl q) = subst (λ c. AreBeside (key_of c) (key_of b)) (sym p.1) (new b (at-among y b as_ q))
    by (inr p) (inr q) = absurd (apart (p.0 ∙ sym q.0))

-- a new attribute is beside what was there
pub new-attribute : (before : List Line) (attr : AttrDef) → IsAttribute before attr → is_taken (claims before) (key_of attr) ≡ false
new-attribute before attr h = ap (is_taken (claims before)) here ∙ h.new
  where
    here : key_of attr ≡ item_key (domain_of before) (node_of before) attr.fc attr.path
    here = ap (λ d. item_key d attr.ln attr.fc attr.path) (ap (λ (a : AttrDef). a.domain) h.here) ∙ ap (λ l. item_key (domain_of before) l attr.fc attr.path) (ap (λ (a : AttrDef). a.ln) h.here)

pub attrs-beside : (told : List Line) (text : List ℕ) → AreLines text told → AreAllBeside (config_of told).attrs
attrs-beside [] text h = λ x y a b i j apart. absurd i
attrs-beside (lines.Attr attr ∷ before) text h = beside-more (config_of before).attrs attr (attrs-beside before h.0 h.3)
    (λ a i. beside (key_of attr) (key_of a) (not-taken (claims before) (key_of attr) (key_of a) (new-attribute before attr h.4.follows) (claimed before a i)))
attrs-beside (line ∷ before) text h = attrs-beside before h.0 h.3
