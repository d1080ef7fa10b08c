-- The CF attributes of the controls of a text, as attributes that stand after those of its lines: what a text says of all of them, and the
-- leaves that they make.
use Rattle.std.proofs.Common.{◌≡◌, ℕ, zero, suc, ◌+◌, ◌<◌, ◌≤◌, ◌==◌, ◌||◌, ◌⊎◌, inl, inr, Bool, true, false, List, [], ◌∷◌, ◌++◌, length, map, flat_map, refl, sym, ap, ap₂, subst, ◌∙◌, arith, append_assoc, length-append, true≢false, cond, if◌then◌else◌}
use Rattle.std.specs.Prelude.{codes, pos}
use Rattle.std.specs.List.{list_any, list_all, count_by, onto_first, slice_split}
use Rattle.std.proofs.lemmas.Bool.{and_from}
use Rattle.std.proofs.lemmas.List.{append_cancel_left}
use Rattle.std.proofs.lemmas.List.Folds.{list_all-append}
use Rattle.std.proofs.lemmas.List.Splits.{length-slice_split}
use Rattle.sv_base.specs.Tree.{none}
use Rattle.sv_base.specs.declared.config.Config.{Config}
use Rattle.sv_base.specs.declared.config.LnDef.{LnDef}
use Rattle.sv_base.specs.declared.config.AttrDef.{AttrDef}
use Rattle.sv_base.specs.declared.config.CtlDef.{CtlDef}
use Rattle.sv_base.specs.declared.types.TypeOf.TheVariants as types
use Rattle.sv_base.specs.declared.value.Value.TheVariants as kinds
use Rattle.text_words.specs.Names.{is_name, is_path, is_dollar}
use Rattle.text_words.specs.Grammar.{IsType}
use Rattle.bay_model.specs.Generated.{Parameter, parameters, selection, is_selected}
use Rattle.bay_model.specs.NamedLines.{path_item}
use Rattle.cfg_lines.specs.Paths.{below, node_key, item_key, clashes, is_taken}
use Rattle.cfg_lines.specs.Before.{domain_of, node_of}
use Rattle.cfg_lines.specs.Claims.{operations, settings, control_keys, claims_by, claims}
use Rattle.cfg_lines.specs.Configs.{config_of}
use Rattle.cfg_lines.specs.Nodes.{setting_octets, setting_leaf, leaves_by, leaves}
use Rattle.cfg_lines.specs.Sizes.{most_octets}
use Rattle.cfg_lines.specs.declared.leaf.Leaf.{Leaf}
use Rattle.cfg_lines.specs.declared.line.Line.{Line}
use Rattle.cfg_lines.specs.declared.line.Line.TheVariants as lines
use Rattle.cfg_grammar.specs.Follows.{IsControl}
use Rattle.cfg_grammar.specs.Texts.{AreLines}
use Rattle.list_laws.proofs.Appended.{flat-more, map-map}
use Rattle.list_laws.proofs.Among.{Among, At, at-among, left, right, either, ending, mapped, source, gathered, tails}
use Rattle.text_configs.proofs.AttrLaws.{IsRead, attrs-read, key_of, claimed, AreBeside, beside-turned, beside, not-taken, AreAllBeside, new-attribute, attrs-beside}
use Rattle.text_configs.proofs.ControlLaws.{IsReadControl, controls-read}

abbrev pub parameter_attr : CtlDef → Parameter → AttrDef
parameter_attr k p = record { line = k.line; domain = k.domain; ln = k.ln; fc = codes "CF"; path = k.path ++ 36 ∷ p.name; kind = p.kind; dchg = false; qchg = false; dupd = false; values = none }

abbrev pub parameter_attrs : CtlDef → List AttrDef
parameter_attrs k = map (parameter_attr k) (parameters k)

-- by their numbers
abbrev pub all_attrs : Config → List AttrDef
all_attrs c = c.attrs ++ flat_map parameter_attrs c.controls

pub own-attr : (c : Config) (a : AttrDef) → Among a c.attrs → Among a (all_attrs c)
own-attr c a i = left a c.attrs (flat_map parameter_attrs c.controls) i

-- ---- places in lists

pub at-either : {X : Type 0} (n : ℕ) (x : X) (xs ys : List X) → At n x (xs ++ ys) → At n x xs ⊎ ((m : ℕ) × (n ≡ length xs + m) × At m x ys)
at-either n x [] ys h = inr (n, omega arith, h)
at-either zero x (y ∷ xs) ys h = inl h
at-either (suc n) x (y ∷ xs) ys h = by (at-either n x xs ys h)
  where
    by : At n x xs ⊎ ((m : ℕ) × (n ≡ length xs + m) × At m x ys) → At (suc n) x (y ∷ xs) ⊎ ((m : ℕ) × (suc n ≡ length (y ∷ xs) + m) × At m x ys)
    by (inl j) = inl j
    by (inr g) = inr (g.0, omega (arith, g.1), g.2)

pub at-right : {X : Type 0} (n : ℕ) (x : X) (xs ys : List X) → At n x ys → At (length xs + n) x (xs ++ ys)
at-right n x [] ys h = subst (λ m. At m x ys) (omega arith) h
at-right n x (y ∷ xs) ys h = let next : suc (length xs + n) ≡ length (y ∷ xs) + n = omega arith in subst (λ m. At m x (y ∷ xs ++ ys)) next (at-right n x xs ys h)

pub at-source : {X Y : Type 0} (f : X → Y) (n : ℕ) (y : Y) (xs : List X) → At n y (map f xs) → (x : X) × At n x xs × (y ≡ f x)
at-source f n y [] h = absurd h
at-source f zero y (x ∷ xs) h = (x, refl, h)
at-source f (suc n) y (x ∷ xs) h = at-source f n y xs h

none-passes : {X : Type 0} (p : X → Bool) (xs : List X) (x : X) → list_any p xs ≡ false → Among x xs → p x ≡ false
none-passes p [] x h i = absurd i
none-passes p (y ∷ ys) x h i = by (p y) refl h i (λ k j. none-passes p ys x k j)
  where
    by : (b : Bool) → p y ≡ b → (b || list_any p ys) ≡ false → (x ≡ y) ⊎ Among x ys → (list_any p ys ≡ false → Among x ys → p x ≡ false) → p x ≡ false
    by true e k j go = absurd (true≢false k)
    by false e k (inl s) go = ap p s ∙ e
    by false e k (inr j) go = go k j

-- ---- the parameters of a control

abbrev ctl_model : CtlDef → Parameter
ctl_model k = record { name = codes "ctlModel"; kind = types.Int 8; value = kinds.Int (pos k.model) }

abbrev timeout : CtlDef → Parameter
timeout k = record { name = codes "sboTimeout"; kind = types.Uint 32; value = kinds.Uint k.timeout }

abbrev class : CtlDef → Parameter
class k = record { name = codes "sboClass"; kind = types.Int 8; value = kinds.Int (pos k.class) }

-- those of the model and those of the lines
settings-like : {X : Type 0} (f : List ℕ → X) (g : Parameter → X) (k : CtlDef) → f (codes "ctlModel") ≡ g (ctl_model k) → f (codes "sboTimeout") ≡ g (timeout k) → f (codes "sboClass") ≡ g (class k)
    → map f (settings k.model) ≡ map g (parameters k)
settings-like f g k m t c = by (k.model == 2) (k.model == 4)
  where
    names : Bool → Bool → List (List ℕ)
    names two four = if two then codes "ctlModel" ∷ codes "sboTimeout" ∷ codes "sboClass" ∷ [] else if four then codes "ctlModel" ∷ codes "sboTimeout" ∷ codes "sboClass" ∷ [] else codes "ctlModel" ∷ []

    three : f (codes "ctlModel") ∷ f (codes "sboTimeout") ∷ f (codes "sboClass") ∷ [] ≡ g (ctl_model k) ∷ g (timeout k) ∷ g (class k) ∷ []
    three = ap₂ (λ x l. x ∷ l) m (ap₂ (λ x l. x ∷ l) t (ap (λ x. x ∷ []) c))

    by : (two four : Bool) → map f (names two four) ≡ map g (ctl_model k ∷ (if two || four then selection k else []))
    by true four = three
    by false true = three
    by false false = ap (λ x. x ∷ []) m

key-at : (k : CtlDef) (p : Parameter) → below (item_key k.domain k.ln (codes "CF") k.path) p.name ≡ key_of (parameter_attr k p)
key-at k p = append_assoc (below (node_key k.domain k.ln) (codes "CF")) (36 ∷ k.path) (36 ∷ p.name)

keys-are : (k : CtlDef) → map (λ part. below (item_key k.domain k.ln (codes "CF") k.path) part) (settings k.model) ≡ map key_of (parameter_attrs k)
keys-are k = settings-like (λ part. below (item_key k.domain k.ln (codes "CF") k.path) part) (λ p. key_of (parameter_attr k p)) k (key-at k (ctl_model k)) (key-at k (timeout k)) (key-at k (class k))
    ∙ sym (map-map key_of (parameter_attr k) (parameters k))

-- what is so of each
record IsForm (p : Parameter) : Type 0 where
  pub names : slice_split is_dollar p.name ≡ p.name ∷ []
  pub name : is_name p.name ≡ true
  pub short : length p.name ≤ 10
  pub type_ : IsType p.kind

parameter-form : (k : CtlDef) (p : Parameter) → Among p (parameters k) → IsForm p
parameter-form k p i = by (is_selected k) i
  where
    first : p ≡ ctl_model k → IsForm p
    first e = subst IsForm (sym e) (record { names = refl; name = refl; short = omega arith; type_ = inl refl })

    by : (b : Bool) → Among p (ctl_model k ∷ (if b then selection k else [])) → IsForm p
    by b (inl e) = first e
    by true (inr (inl e)) = subst IsForm (sym e) (record { names = refl; name = refl; short = omega arith; type_ = inr (inr refl) })
    by true (inr (inr (inl e))) = subst IsForm (sym e) (record { names = refl; name = refl; short = omega arith; type_ = inl refl })
    by true (inr (inr (inr j))) = absurd j
    by false (inr j) = absurd j

-- ---- paths

onto-more : (o : ℕ) (parts more : List (List ℕ)) → 0 < length parts → onto_first o (parts ++ more) ≡ onto_first o parts ++ more
onto-more o [] more h = absurd (omega (arith, h))
onto-more o (part ∷ parts) more h = refl

split-behind : (path name : List ℕ) → slice_split is_dollar (path ++ 36 ∷ name) ≡ slice_split is_dollar path ++ slice_split is_dollar name
split-behind [] name = refl
split-behind (o ∷ path) name = ap (λ l. cond (is_dollar o) ([] ∷ l) (onto_first o l)) (split-behind path name) ∙ by (is_dollar o)
  where
    parts : List (List ℕ)
    parts = slice_split is_dollar path

    more : List (List ℕ)
    more = slice_split is_dollar name

    by : (b : Bool) → cond b ([] ∷ (parts ++ more)) (onto_first o (parts ++ more)) ≡ cond b ([] ∷ parts) (onto_first o parts) ++ more
    by true = refl
    by false = onto-more o parts more (omega (arith, length-slice_split is_dollar path))

path-behind : (path name : List ℕ) → is_path path ≡ true → slice_split is_dollar name ≡ name ∷ [] → is_name name ≡ true → is_path (path ++ 36 ∷ name) ≡ true
path-behind path name h names is = ap (list_all is_name) (split-behind path name ∙ ap (λ l. slice_split is_dollar path ++ l) names)
    ∙ (list_all-append is_name (slice_split is_dollar path) (name ∷ []) ∙ and_from (is_path path) (list_all is_name (name ∷ [])) h (and_from (is_name name) true is refl))

count-behind : (path name : List ℕ) → slice_split is_dollar name ≡ name ∷ [] → count_by is_dollar (path ++ 36 ∷ name) ≡ count_by is_dollar path + 1
count-behind path name names = omega (
  arith,
  length-slice_split is_dollar (path ++ 36 ∷ name),
  length-slice_split is_dollar path,
  ap length (split-behind path name ∙ ap (λ l. slice_split is_dollar path ++ l) names),
  length-append (slice_split is_dollar path) (name ∷ []),
)

short-behind : (ln path name : List ℕ) → length (path_item ln (codes "CO") path) ≤ 44 → length name ≤ 10 → length (path_item ln (codes "CF") (path ++ 36 ∷ name)) ≤ 64
short-behind ln path name h le = omega (
  arith,
  h,
  le,
  length-append (ln ++ 36 ∷ codes "CO") (36 ∷ path),
  length-append ln (36 ∷ codes "CO"),
  length-append (ln ++ 36 ∷ codes "CF") (36 ∷ (path ++ 36 ∷ name)),
  length-append ln (36 ∷ codes "CF"),
  length-append path (36 ∷ name),
)

parameter-read : (nodes : List LnDef) (k : CtlDef) (q : AttrDef) → IsReadControl nodes k → Among q (parameter_attrs k) → IsRead nodes q
parameter-read nodes k q h i = let s = source (parameter_attr k) q (parameters k) i in subst (IsRead nodes) (sym s.2) (one s.0 (parameter-form k s.0 s.1))
  where
    one : (p : Parameter) → IsForm p → IsRead nodes (parameter_attr k p)
    one p f = record {
      node = h.node;
      constraint = refl;
      path = (path-behind k.path p.name h.path.0 f.names f.name, omega (arith, h.path.1, count-behind k.path p.name f.names));
      short = short-behind k.ln k.path p.name h.short f.short;
      type_ = f.type_;
      values = tt;
    }

-- ---- all attributes

pub all-read : (told : List Line) (text : List ℕ) → AreLines text told → (a : AttrDef) → Among a (all_attrs (config_of told)) → IsRead (config_of told).nodes a
all-read told text are a i = by (either a (config_of told).attrs (flat_map parameter_attrs (config_of told).controls) i)
  where
    by : Among a (config_of told).attrs ⊎ Among a (flat_map parameter_attrs (config_of told).controls) → IsRead (config_of told).nodes a
    by (inl j) = attrs-read told text are a j
    by (inr j) = let s = gathered parameter_attrs a (config_of told).controls j in parameter-read (config_of told).nodes s.0 a (controls-read told text are s.0 s.1) s.2

-- ---- references

parameter-key : (k : CtlDef) (q : AttrDef) → Among q (parameter_attrs k) → Among (key_of q) (control_keys k.domain k.ln k.path k.model)
parameter-key k q i = right (key_of q) (map (λ part. below (item_key k.domain k.ln (codes "CO") k.path) part) (operations k.model)) _ (subst (Among (key_of q)) (sym (keys-are k)) (mapped key_of q (parameter_attrs k) i))

parameter-claimed : (told : List Line) (k : CtlDef) (q : AttrDef) → Among k (config_of told).controls → Among q (parameter_attrs k) → Among (key_of q) (claims told)
parameter-claimed [] k q i j = absurd i
parameter-claimed (lines.Attr attr ∷ before) k q i j = inr (parameter-claimed before k q i j)
parameter-claimed (lines.Brcb block ∷ before) k q i j = inr (parameter-claimed before k q i j)
parameter-claimed (lines.Ctl control ∷ before) k q i j = by (ending k (config_of before).controls control i) (parameter-claimed before k q)
  where
    by : Among k (config_of before).controls ⊎ (k ≡ control) → (Among k (config_of before).controls → Among q (parameter_attrs k) → Among (key_of q) (claims before)) → Among (key_of q) (claims (lines.Ctl control ∷ before))
    by (inl m) go = right (key_of q) (claims_by (lines.Ctl control)) (claims before) (go m j)
    by (inr e) go = left (key_of q) (claims_by (lines.Ctl control)) (claims before) (parameter-key control q (subst (λ c. Among q (parameter_attrs c)) e j))
parameter-claimed (lines.Sgcb groups ∷ before) k q i j = inr (parameter-claimed before k q i j)
parameter-claimed (line ∷ before) k q i j = parameter-claimed before k q i j

some-claimed : (told : List Line) (q : AttrDef) → Among q (flat_map parameter_attrs (config_of told).controls) → Among (key_of q) (claims told)
some-claimed told q i = let s = gathered parameter_attrs q (config_of told).controls i in parameter-claimed told s.0 q s.1 s.2

-- those of a new control are beside what was there
new-parameter : (before : List Line) (control : CtlDef) (q : AttrDef) (other : List ℕ) → IsControl before control → Among q (parameter_attrs control) → Among other (claims before) → AreBeside (key_of q) other
new-parameter before control q other h i j = beside (key_of q) other (not-taken (claims before) (key_of q) other new j)
  where
    here : control_keys control.domain control.ln control.path control.model ≡ control_keys (domain_of before) (node_of before) control.path control.model
    here = ap₂ (λ d n. control_keys d n control.path control.model) (ap (λ (k : CtlDef). k.domain) h.here) (ap (λ (k : CtlDef). k.ln) h.here)

    new : is_taken (claims before) (key_of q) ≡ false
    new = none-passes (is_taken (claims before)) (control_keys (domain_of before) (node_of before) control.path control.model) (key_of q) h.new (subst (Among (key_of q)) here (parameter-key control q i))

all-both : (xs ys : List AttrDef) → AreAllBeside xs → AreAllBeside ys → ((a b : AttrDef) → Among a xs → Among b ys → AreBeside (key_of a) (key_of b)) → AreAllBeside (xs ++ ys)
all-both xs ys h k cross x y a b i j apart = by (at-either x a xs ys i) (at-either y b xs ys j)
  where
    by : At x a xs ⊎ ((m : ℕ) × (x ≡ length xs + m) × At m a ys) → At y b xs ⊎ ((m : ℕ) × (y ≡ length xs + m) × At m b ys) → AreBeside (key_of a) (key_of b)
    by (inl p) (inl q) = h x y a b p q apart
    by (inl p) (inr q) = cross a b (at-among x a xs p) (at-among q.0 b ys q.2)
    by (inr p) (inl q) = beside-turned (key_of b) (key_of a) (cross b a (at-among y b xs q) (at-among p.0 a ys p.2))
    by (inr p) (inr q) = k p.0 q.0 a b p.2 q.2 (λ e. apart (p.1 ∙ (ap (λ m. length xs + m) e ∙ sym q.1)))

single : (d : AttrDef) → AreAllBeside (d ∷ [])
single d zero zero a b i j apart = absurd (apart refl)
single d zero (suc y) a b i j apart = absurd j
single d (suc x) y a b i j apart = absurd i

names-beside : (front p q : List ℕ) → AreBeside p q → AreBeside (front ++ 36 ∷ p) (front ++ 36 ∷ q)
names-beside front p q h = record {
  other = λ e. h.other (tails 36 36 p q (append_cancel_left front (36 ∷ p) (36 ∷ q) e));
  above = λ more e. h.above more (tails 36 36 q (p ++ 36 ∷ more) (append_cancel_left front (36 ∷ q) (36 ∷ (p ++ 36 ∷ more)) (e ∙ append_assoc front (36 ∷ p) (36 ∷ more))));
  below = λ more e. h.below more (tails 36 36 p (q ++ 36 ∷ more) (append_cancel_left front (36 ∷ p) (36 ∷ (q ++ 36 ∷ more)) (e ∙ append_assoc front (36 ∷ q) (36 ∷ more))));
}

-- those of one control
own-beside : (k : CtlDef) → AreAllBeside (parameter_attrs k)
own-beside k = by (is_selected k)
  where
    m : AttrDef
    m = parameter_attr k (ctl_model k)

    t : AttrDef
    t = parameter_attr k (timeout k)

    c : AttrDef
    c = parameter_attr k (class k)

    two : (p q : Parameter) → clashes p.name q.name ≡ false → AreBeside (key_of (parameter_attr k p)) (key_of (parameter_attr k q))
    two p q e = names-beside (below (node_key k.domain k.ln) (codes "CF")) (k.path ++ 36 ∷ p.name) (k.path ++ 36 ∷ q.name) (names-beside k.path p.name q.name (beside p.name q.name e))

    one : (d e a b : AttrDef) → AreBeside (key_of d) (key_of e) → (a ≡ d) → (b ≡ e) → AreBeside (key_of a) (key_of b)
    one d e a b h i j = subst (λ x. AreBeside (key_of x) (key_of b)) (sym i) (subst (λ y. AreBeside (key_of d) (key_of y)) (sym j) h)

    last : (a b : AttrDef) → Among a (t ∷ []) → Among b (c ∷ []) → AreBeside (key_of a) (key_of b)
    last a b (inl e) (inl f) = one t c a b (two (timeout k) (class k) refl) e f
    last a b (inl e) (inr f) = absurd f
    last a b (inr e) f = absurd e

    front : (a b : AttrDef) → Among a (m ∷ []) → Among b (t ∷ c ∷ []) → AreBeside (key_of a) (key_of b)
    front a b (inl e) (inl f) = one m t a b (two (ctl_model k) (timeout k) refl) e f
    front a b (inl e) (inr (inl f)) = one m c a b (two (ctl_model k) (class k) refl) e f
    front a b (inl e) (inr (inr f)) = absurd f
    front a b (inr e) f = absurd e

    by : (b : Bool) → AreAllBeside (map (parameter_attr k) (ctl_model k ∷ (if b then selection k else [])))
    by true = all-both (m ∷ []) (t ∷ c ∷ []) (single m) (all-both (t ∷ []) (c ∷ []) (single t) (single c) last) front
    by false = single m

parameters-beside : (told : List Line) (text : List ℕ) → AreLines text told → AreAllBeside (flat_map parameter_attrs (config_of told).controls)
parameters-beside [] text h = λ x y a b i j apart. absurd i
parameters-beside (lines.Ctl control ∷ before) text h = subst AreAllBeside (sym (flat-more parameter_attrs (config_of before).controls control))
    (all-both (flat_map parameter_attrs (config_of before).controls) (parameter_attrs control) (parameters-beside before h.0 h.3) (own-beside control)
    (λ a b i j. beside-turned (key_of b) (key_of a) (new-parameter before control b (key_of a) h.4.follows j (some-claimed before a i))))
parameters-beside (line ∷ before) text h = parameters-beside before h.0 h.3

lines-beside : (told : List Line) (text : List ℕ) → AreLines text told → (a b : AttrDef) → Among a (config_of told).attrs → Among b (flat_map parameter_attrs (config_of told).controls) → AreBeside (key_of a) (key_of b)
lines-beside [] text h a b i j = absurd i
lines-beside (lines.Attr attr ∷ before) text h a b i j = by (ending a (config_of before).attrs attr i) (λ k. lines-beside before h.0 h.3 a b k j)
  where
    new : AreBeside (key_of attr) (key_of b)
    new = beside (key_of attr) (key_of b) (not-taken (claims before) (key_of attr) (key_of b) (new-attribute before attr h.4.follows) (some-claimed before b j))

    by : Among a (config_of before).attrs ⊎ (a ≡ attr) → (Among a (config_of before).attrs → AreBeside (key_of a) (key_of b)) → AreBeside (key_of a) (key_of b)
    by (inl k) go = go k
    by (inr e) go = subst (λ d. AreBeside (key_of d) (key_of b)) (sym e) new
lines-beside (lines.Ctl control ∷ before) text h a b i j =
    by (either b (flat_map parameter_attrs (config_of before).controls) (parameter_attrs control) (subst (Among b) (flat-more parameter_attrs (config_of before).controls control) j)) (lines-beside before h.0 h.3 a b i)
  where
    by : Among b (flat_map parameter_attrs (config_of before).controls) ⊎ Among b (parameter_attrs control) → (Among b (flat_map parameter_attrs (config_of before).controls) → AreBeside (key_of a) (key_of b)) → AreBeside (key_of a) (key_of b)
    by (inl k) go = go k
    by (inr k) go = beside-turned (key_of b) (key_of a) (new-parameter before control b (key_of a) h.4.follows k (claimed before a i))
lines-beside (line ∷ before) text h a b i j = lines-beside before h.0 h.3 a b i j

pub all-beside : (told : List Line) (text : List ℕ) → AreLines text told → AreAllBeside (all_attrs (config_of told))
all-beside told text are = all-both (config_of told).attrs (flat_map parameter_attrs (config_of told).controls) (attrs-beside told text are) (parameters-beside told text are) (lines-beside told text are)

-- ---- leaves

abbrev leaf : List ℕ → ℕ → Leaf
leaf name octets = record { name = name; octets = octets }

abbrev pub leaf_of : AttrDef → Leaf
leaf_of a = leaf (key_of a) (most_octets a.kind)

leaves-are : (k : CtlDef) → leaves_by (lines.Ctl k) ≡ map leaf_of (parameter_attrs k)
leaves-are k = settings-like (setting_leaf (item_key k.domain k.ln (codes "CF") k.path)) (λ p. leaf_of (parameter_attr k p)) k (one (ctl_model k) refl) (one (timeout k) refl) (one (class k) refl)
    ∙ sym (map-map leaf_of (parameter_attr k) (parameters k))
  where
    one : (p : Parameter) → setting_octets p.name ≡ most_octets p.kind → setting_leaf (item_key k.domain k.ln (codes "CF") k.path) p.name ≡ leaf_of (parameter_attr k p)
    one p e = ap₂ leaf (key-at k p) e

attr-leaf : (told : List Line) (a : AttrDef) → Among a (config_of told).attrs → Among (leaf_of a) (leaves told)
attr-leaf [] a i = absurd i
attr-leaf (lines.Attr attr ∷ before) a i = by (ending a (config_of before).attrs attr i) (attr-leaf before a)
  where
    by : Among a (config_of before).attrs ⊎ (a ≡ attr) → (Among a (config_of before).attrs → Among (leaf_of a) (leaves before)) → Among (leaf_of a) (leaves before ++ leaf_of attr ∷ [])
    by (inl j) go = left (leaf_of a) (leaves before) (leaf_of attr ∷ []) (go j)
    by (inr e) go = right (leaf_of a) (leaves before) (leaf_of attr ∷ []) (inl (ap leaf_of e))
attr-leaf (line ∷ before) a i = left (leaf_of a) (leaves before) (leaves_by line) (attr-leaf before a i)

parameter-leaf : (told : List Line) (k : CtlDef) (q : AttrDef) → Among k (config_of told).controls → Among q (parameter_attrs k) → Among (leaf_of q) (leaves told)
parameter-leaf [] k q i j = absurd i
parameter-leaf (lines.Ctl control ∷ before) k q i j = by (ending k (config_of before).controls control i) (λ m. parameter-leaf before k q m j)
  where
    by : Among k (config_of before).controls ⊎ (k ≡ control) → (Among k (config_of before).controls → Among (leaf_of q) (leaves before)) → Among (leaf_of q) (leaves (lines.Ctl control ∷ before))
    by (inl m) go = left (leaf_of q) (leaves before) (leaves_by (lines.Ctl control)) (go m)
    by (inr e) go = right (leaf_of q) (leaves before) (leaves_by (lines.Ctl control))
        (subst (Among (leaf_of q)) (sym (leaves-are control)) (mapped leaf_of q (parameter_attrs control) (subst (λ c. Among q (parameter_attrs c)) e j)))
parameter-leaf (line ∷ before) k q i j = left (leaf_of q) (leaves before) (leaves_by line) (parameter-leaf before k q i j)

pub leaf-there : (told : List Line) (a : AttrDef) → Among a (all_attrs (config_of told)) → Among (leaf_of a) (leaves told)
leaf-there told a i = by (either a (config_of told).attrs (flat_map parameter_attrs (config_of told).controls) i)
  where
    by : Among a (config_of told).attrs ⊎ Among a (flat_map parameter_attrs (config_of told).controls) → Among (leaf_of a) (leaves told)
    by (inl j) = attr-leaf told a j
    by (inr j) = let s = gathered parameter_attrs a (config_of told).controls j in parameter-leaf told s.0 a s.1 s.2

-- the attribute of a leaf
pub record IsLeafOf (all : List AttrDef) (l : Leaf) : Type 0 where
  pub attr : AttrDef
  pub there : Among attr all
  pub is : l ≡ leaf_of attr

line-more : (xs ys : List AttrDef) (x : AttrDef) (l : Leaf) → IsLeafOf (xs ++ ys) l → IsLeafOf ((xs ++ x ∷ []) ++ ys) l
line-more xs ys x l h = record { attr = h.attr; there = by (either h.attr xs ys h.there); is = h.is }
  where
    by : Among h.attr xs ⊎ Among h.attr ys → Among h.attr ((xs ++ x ∷ []) ++ ys)
    by (inl j) = left h.attr (xs ++ x ∷ []) ys (left h.attr xs (x ∷ []) j)
    by (inr j) = right h.attr (xs ++ x ∷ []) ys j

control-more : (xs : List AttrDef) (ks : List CtlDef) (k : CtlDef) (a : AttrDef) → Among a (xs ++ (flat_map parameter_attrs ks ++ parameter_attrs k)) → Among a (xs ++ flat_map parameter_attrs (ks ++ k ∷ []))
control-more xs ks k a i = subst (λ l. Among a (xs ++ l)) (sym (flat-more parameter_attrs ks k)) i

pub leaf-back : (told : List Line) (l : Leaf) → Among l (leaves told) → IsLeafOf (all_attrs (config_of told)) l
leaf-back [] l i = absurd i
leaf-back (lines.Attr attr ∷ before) l i = by (either l (leaves before) (leaf_of attr ∷ []) i) (leaf-back before l)
  where
    c : Config
    c = config_of before

    by : Among l (leaves before) ⊎ Among l (leaf_of attr ∷ []) → (Among l (leaves before) → IsLeafOf (all_attrs c) l) → IsLeafOf (all_attrs (config_of (lines.Attr attr ∷ before))) l
    by (inl j) go = line-more c.attrs (flat_map parameter_attrs c.controls) attr l (go j)
    by (inr (inl e)) go = record { attr = attr; there = left attr (c.attrs ++ attr ∷ []) (flat_map parameter_attrs c.controls) (right attr c.attrs (attr ∷ []) (inl refl)); is = e }
    by (inr (inr j)) go = absurd j
leaf-back (lines.Ctl control ∷ before) l i = by (either l (leaves before) (leaves_by (lines.Ctl control)) i) (leaf-back before l)
  where
    c : Config
    c = config_of before

    old : List AttrDef
    old = flat_map parameter_attrs c.controls

    more : (a : AttrDef) → Among a c.attrs ⊎ Among a old → Among a (c.attrs ++ (old ++ parameter_attrs control))
    more a (inl j) = left a c.attrs (old ++ parameter_attrs control) j
    more a (inr j) = right a c.attrs (old ++ parameter_attrs control) (left a old (parameter_attrs control) j)

    by : Among l (leaves before) ⊎ Among l (leaves_by (lines.Ctl control)) → (Among l (leaves before) → IsLeafOf (all_attrs c) l) → IsLeafOf (all_attrs (config_of (lines.Ctl control ∷ before))) l
    by (inl j) go = let g = go j in record { attr = g.attr; there = control-more c.attrs c.controls control g.attr (more g.attr (either g.attr c.attrs old g.there)); is = g.is }
    by (inr j) go = let s = source leaf_of l (parameter_attrs control) (subst (Among l) (leaves-are control) j) in
        record { attr = s.0; there = control-more c.attrs c.controls control s.0 (right s.0 c.attrs (old ++ parameter_attrs control) (right s.0 old (parameter_attrs control) s.1)); is = s.2 }
leaf-back (line ∷ before) l i = by (either l (leaves before) [] i) (leaf-back before l)
  where
    by : Among l (leaves before) ⊎ ⊥ → (Among l (leaves before) → IsLeafOf (all_attrs (config_of before)) l) → IsLeafOf (all_attrs (config_of before)) l
    by (inl j) go = go j
    by (inr j) go = absurd j
