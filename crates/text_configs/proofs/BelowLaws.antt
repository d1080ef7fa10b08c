-- Below a functional constraint of a logical node stand the attributes of it, and the setting group block of its domain.
use Rattle.std.proofs.Common.{◌≡◌, ℕ, ◌+◌, ◌<◌, ◌≤◌, ◌==◌, ◌⊎◌, inl, inr, true, false, List, [], ◌∷◌, ◌++◌, length, map, flat_map, refl, sym, ap, subst, ◌∙◌, arith, append_assoc, append-nil, suc, true≢false, length-append}
use Rattle.std.specs.Prelude.{codes}
use Rattle.std.specs.Str.{bytes_eq}
use Rattle.std.proofs.lemmas.Bool.Decides.{eqb_tells, nat_tests}
use Rattle.std.proofs.lemmas.List.{length-map}
use Rattle.sv_base.specs.declared.config.Config.{Config}
use Rattle.sv_base.specs.declared.config.AttrDef.{AttrDef}
use Rattle.sv_base.specs.declared.config.CtlDef.{CtlDef}
use Rattle.sv_base.specs.declared.config.SgDef.{SgDef}
use Rattle.sv_base.specs.declared.types.TypeOf.{TypeOf}
use Rattle.bay_model.specs.Attributes.{attributes, attrs_defined, attrs_generated, twins}
use Rattle.bay_model.specs.Model.{attribute, reported}
use Rattle.sv_base.specs.Kinds.{kind_of}
use Rattle.bay_model.specs.Generated.{Named, Parameter, parameters, end_named}
use Rattle.sv_base.specs.ComponentTable.{comp_name, setting_comp_name}
use Rattle.bay_model.specs.NamedLines.{path_item, domain_number}
use Rattle.bay_model.specs.NamedLines as named
use Rattle.bay_model.specs.NameTree.{first_name, rest_of, is_itself, below}
use Rattle.text_words.specs.Names.{is_fc}
use Rattle.cfg_lines.specs.Claims.{group_key}
use Rattle.cfg_lines.specs.Sizes.{children}
use Rattle.bay_rooms.specs.Slots.{IsSettable}
use Rattle.bay_config.specs.Servable.{attr_type}
use Rattle.list_laws.proofs.Among.{Among, At, at-among, at-within, at-same, either, source, gathered, passed}
use Rattle.text_configs.proofs.JoinedLaws.{ArePlain, joined, first, rest, first-joined, rest-joined, rest-alone, split-at, first-before, rest-before, joined-behind}
use Rattle.text_configs.proofs.NamedLaws.{IsBelow, below-of}
use Rattle.text_configs.proofs.EntryLaws.{Entry, entry, named_of, same-entry}
use Rattle.text_configs.proofs.FormLaws.{IsNumber}
use Rattle.text_configs.proofs.SizeLaws.{AreBelow}
use Rattle.text_configs.proofs.OrderLaws.{IsNodeName, IsAttributeName, IsComponentName, IsTwinName, IsCommandName, IsPartName, IsOne, named-in}
use Rattle.text_configs.proofs.DataLaws.{AreApart, is_held, held_of}
use Rattle.text_configs.proofs.AttrLaws.{key_of, AreBeside}
use Rattle.text_configs.proofs.ParameterLaws.{parameter_attr, parameter_attrs, all_attrs, own-attr}
use Rattle.text_configs.proofs.ToldLaws.{IsTold}
use Rattle.text_configs.proofs.ValueLaws.{settable}
use Rattle.text_configs.proofs.PathLaws.{name-plain, fc-plain, fc-of-block, fc-of-edit, fc-of-command, names_in, path-joined, path-plain, path-count, item_names, reference_names, item-joined, key-joined}
use Rattle.text_configs.proofs.CountLaws.{Known, leaf_keys, counted, type-at, is-count}

-- entries of what is named, each with a fact
pub gather : (kind : ℕ → TypeOf) (P : Entry → Type 0) (ns : List Named) → ((n : Named) → Among n ns → (e : Entry) × (n ≡ named_of kind e) × P e) → (es : List Entry) × (ns ≡ map (named_of kind) es) × ((e : Entry) → Among e es → P e)
gather kind P [] h = ([], refl, λ e i. absurd i)
gather kind P (n ∷ ns) h = let here = h n (inl refl) in let go = gather kind P ns (λ m i. h m (inr i)) in
    (here.0 ∷ go.0, ap (λ m. m ∷ ns) here.1 ∙ ap (λ l. named_of kind here.0 ∷ l) go.1, either_of here.0 go.0 here.2 go.2)
  where
    either_of : (d : Entry) (es : List Entry) → P d → ((e : Entry) → Among e es → P e) → (e : Entry) → Among e (d ∷ es) → P e
    either_of d es p rest e (inl s) = subst P (sym s) p
    either_of d es p rest e (inr i) = rest e i

-- an entry below a functional constraint is an attribute's
pub record IsOf (c : Config) (domain ln fc : List ℕ) (e : Entry) : Type 0 where
  pub attr : AttrDef
  pub at : At e.number attr (all_attrs c)
  pub domain_is : attr.domain ≡ domain
  pub ln_is : attr.ln ≡ ln
  pub fc_is : attr.fc ≡ fc
  pub path : e.path ≡ names_in attr.path

-- what a component of a setting group block leaves below its functional constraint
pub record IsPart (c : Config) (domain ln fc : List ℕ) (m : Named) : Type 0 where
  pub groups : SgDef
  pub there : Among groups c.groups
  pub domain_is : groups.domain ≡ domain
  pub ln_is : ln ≡ codes "LLN0"
  pub fc_is : fc ≡ codes "SP"
  pub name : first_name m ≡ codes "SGCB"
  pub longer : is_itself m ≡ false
  pub none : is_held m ≡ false

not-empty : (k : ℕ) → 0 < k → (k == 0) ≡ false
not-empty k some = grind (arith, nat_tests)

-- none stands at or below the block of its domain
pub clash : (c : Config) → IsTold c → (a : AttrDef) → Among a (all_attrs c) → (g : SgDef) → Among g c.groups → a.domain ≡ g.domain → a.ln ≡ codes "LLN0" → a.fc ≡ codes "SP" → first a.path ≡ codes "SGCB" → ⊥
clash c told a i g j d l f p = at (either a c.attrs (flat_map parameter_attrs c.controls) i)
  where
    front : List ℕ
    front = (g.domain ++ 47 ∷ codes "LLN0") ++ 36 ∷ codes "SP"

    key : key_of a ≡ front ++ 36 ∷ a.path
    key = ap (λ x. ((x ++ 47 ∷ a.ln) ++ 36 ∷ a.fc) ++ 36 ∷ a.path) d ∙ (ap (λ x. ((g.domain ++ 47 ∷ x) ++ 36 ∷ a.fc) ++ 36 ∷ a.path) l ∙ ap (λ x. ((g.domain ++ 47 ∷ codes "LLN0") ++ 36 ∷ x) ++ 36 ∷ a.path) f)

    by : AreBeside (key_of a) (group_key g.domain (codes "LLN0")) → (a.path ≡ first a.path ++ 36 ∷ rest a.path) ⊎ (a.path ≡ first a.path) → ⊥
    by apart (inl s) = apart.below (rest a.path) (key ∙ (ap (λ x. front ++ 36 ∷ x) (s ∙ ap (λ x. x ++ 36 ∷ rest a.path) p) ∙ sym (append_assoc front (36 ∷ codes "SGCB") (36 ∷ rest a.path))))
    by apart (inr s) = apart.other (key ∙ ap (λ x. front ++ 36 ∷ x) (s ∙ p))

    -- those of a control stand under CF
    never : codes "CF" ≡ codes "SP" → ⊥
    never e = true≢false (ap (λ x. bytes_eq (codes "CF") x) e)

    at : Among a c.attrs ⊎ Among a (flat_map parameter_attrs c.controls) → ⊥
    at (inl k) = by (told.groups g j a k) (split-at a.path)
    at (inr k) = let s = gathered parameter_attrs a c.controls k in let q = source (parameter_attr s.0) a (parameters s.0) s.2 in never (sym (ap (λ (x : AttrDef). x.fc) q.2) ∙ f)

module _ (c : Config) (told : IsTold c) (domain ln fc : List ℕ) (constraint : is_fc fc ≡ true) where
  item-plain : (a : AttrDef) → Among a (all_attrs c) → ArePlain (item_names a)
  item-plain a i = let r = told.attrs a i in (name-plain a.ln r.node.ln_name, (fc-plain a.fc r.constraint, path-plain a.path r.path.0))

  abbrev Is : Named → Type 0
  Is m = (e : Entry) × (m ≡ named_of (attr_type c) e) × IsOf c domain ln fc e

  -- what the names of a logical node, of an attribute and of a component leave below the functional constraint
  not-node : (n l : Named) → IsNodeName c n → l ≡ rest_of n → is_itself l ≡ false → ⊥
  not-node n l h left longer =
      let none : l.item ≡ [] = ap (λ (x : Named). x.item) left ∙ (ap (λ (x : Named). rest x.item) h.is ∙ rest-alone h.node.ln (name-plain h.node.ln (told.nodes h.node h.there).0).1) in
      true≢false (ap (λ i. length i == 0) (sym none) ∙ longer)

  three : (x y z w : List ℕ) → ((x ++ 36 ∷ y) ++ 36 ∷ z) ++ 36 ∷ w ≡ x ++ 36 ∷ (y ++ 36 ∷ (z ++ 36 ∷ w))
  three x y z w = append_assoc (x ++ 36 ∷ y) (36 ∷ z) (36 ∷ w) ∙ append_assoc x (36 ∷ y) (36 ∷ (z ++ 36 ∷ w))

  not-component : (n l : Named) → IsComponentName c n → l ≡ rest_of n → fc ≡ first_name l → ⊥
  not-component n l h left is =
      let item : n.item ≡ h.block.ln ++ 36 ∷ (codes "BR" ++ 36 ∷ (h.block.name ++ 36 ∷ comp_name h.part)) = ap (λ (x : Named). x.item) h.is ∙ three h.block.ln (codes "BR") h.block.name (comp_name h.part) in
      let below : l.item ≡ codes "BR" ++ 36 ∷ (h.block.name ++ 36 ∷ comp_name h.part) = ap (λ (x : Named). x.item) left ∙ (ap rest item ∙ rest-before h.block.ln _ (name-plain h.block.ln (told.blocks h.block h.there).ln).1) in
      fc-of-block fc constraint (is ∙ (ap first below ∙ first-before (codes "BR") (h.block.name ++ 36 ∷ comp_name h.part) (refl, (refl, tt))))

  not-twin : (n l : Named) → IsTwinName c n → l ≡ rest_of n → fc ≡ first_name l → ⊥
  not-twin n l h left is =
      let item : n.item ≡ h.attr.ln ++ 36 ∷ (codes "SE" ++ 36 ∷ h.attr.path) = ap (λ (x : Named). x.item) h.is ∙ append_assoc h.attr.ln (36 ∷ codes "SE") (36 ∷ h.attr.path) in
      let below : l.item ≡ codes "SE" ++ 36 ∷ h.attr.path = ap (λ (x : Named). x.item) left ∙ (ap rest item ∙ rest-before h.attr.ln _ (name-plain h.attr.ln (told.attrs h.attr (own-attr c h.attr h.there)).node.ln_name).1) in
      fc-of-edit fc constraint (is ∙ (ap first below ∙ first-before (codes "SE") h.attr.path (refl, (refl, tt))))

  not-command : (n l : Named) → IsCommandName c n → l ≡ rest_of n → fc ≡ first_name l → ⊥
  not-command n l h left is =
      let k : CtlDef = h.control in
      let behind : List ℕ = codes "CO" ++ 36 ∷ (k.path ++ 36 ∷ h.inside.more) in
      let item : n.item ≡ k.ln ++ 36 ∷ behind = h.inside.is ∙ three k.ln (codes "CO") k.path h.inside.more in
      let below : l.item ≡ behind = ap (λ (x : Named). x.item) left ∙ (ap rest item ∙ rest-before k.ln behind (name-plain k.ln (told.controls k h.there).node.ln_name).1) in
      fc-of-command fc constraint (is ∙ (ap first below ∙ first-before (codes "CO") (k.path ++ 36 ∷ h.inside.more) (refl, (refl, tt))))

  of-part : (n l m : Named) → IsPartName c domain n → l ≡ rest_of n → m ≡ rest_of l → ln ≡ first_name n → fc ≡ first_name l → IsPart c domain ln fc m
  of-part n l m h left right is below_is =
      let name : List ℕ = setting_comp_name h.part in
      let item : n.item ≡ codes "LLN0" ++ 36 ∷ (codes "SP" ++ 36 ∷ (codes "SGCB" ++ 36 ∷ name)) = ap (λ (x : Named). x.item) h.is in
      let next : l.item ≡ codes "SP" ++ 36 ∷ (codes "SGCB" ++ 36 ∷ name) = ap (λ (x : Named). x.item) left ∙ (ap rest item ∙ rest-before (codes "LLN0") (codes "SP" ++ 36 ∷ (codes "SGCB" ++ 36 ∷ name)) (refl, (refl, (refl, (refl, tt))))) in
      let last : m.item ≡ codes "SGCB" ++ 36 ∷ name = ap (λ (x : Named). x.item) right ∙ (ap rest next ∙ rest-before (codes "SP") (codes "SGCB" ++ 36 ∷ name) (refl, (refl, tt))) in
      record {
        groups = h.groups;
        there = h.there;
        domain_is = h.domain_is;
        ln_is = is ∙ (ap first item ∙ first-before (codes "LLN0") (codes "SP" ++ 36 ∷ (codes "SGCB" ++ 36 ∷ name)) (refl, (refl, (refl, (refl, tt)))));
        fc_is = below_is ∙ (ap first next ∙ first-before (codes "SP") (codes "SGCB" ++ 36 ∷ name) (refl, (refl, tt)));
        name = ap first last ∙ first-before (codes "SGCB") name (refl, (refl, (refl, (refl, tt))));
        longer = not-empty (length m.item) (omega (arith, ap (λ (x : List ℕ). length x) last));
        none = ap is_held right ∙ (ap is_held left ∙ ap is_held h.is);
      }

  of-attribute : (n l m : Named) → IsAttributeName c domain n → l ≡ rest_of n → m ≡ rest_of l → ln ≡ first_name n → fc ≡ first_name l → Is m
  of-attribute n l m h left right is below_is =
      let i = at-among h.at h.attr (all_attrs c) h.there in
      let plain = item-plain h.attr i in
      let item : n.item ≡ joined (item_names h.attr) = ap (λ (x : Named). x.item) h.is ∙ item-joined h.attr in
      let next : l.item ≡ joined (h.attr.fc ∷ names_in h.attr.path) = ap (λ (x : Named). x.item) left ∙ (ap rest item ∙ rest-joined h.attr.ln (h.attr.fc ∷ names_in h.attr.path) plain.0.1) in
      let last : rest l.item ≡ joined (names_in h.attr.path) = ap rest next ∙ rest-joined h.attr.fc (names_in h.attr.path) plain.1.0.1 in
      let whole : m ≡ end_named (rest l.item) (attribute h.at) h.attr.kind = right ∙ ap (λ (x : Named). record x { item = rest l.item }) (left ∙ ap rest_of h.is) in (
        entry (names_in h.attr.path) h.at,
        whole ∙ (ap (λ i. end_named i (attribute h.at) h.attr.kind) last ∙ ap (λ k. end_named (joined (names_in h.attr.path)) (attribute h.at) k) (sym (type-at c told h.at h.attr h.there))),
        record {
          attr = h.attr;
          at = h.there;
          domain_is = h.domain_is;
          ln_is = sym (is ∙ (ap first item ∙ first-joined h.attr.ln (h.attr.fc ∷ names_in h.attr.path) plain.0.1));
          fc_is = sym (below_is ∙ (ap first next ∙ first-joined h.attr.fc (names_in h.attr.path) plain.1.0.1));
          path = refl;
        },
      )

  abbrev here : List Named
  here = below fc (below ln (named.names_in c domain))

  below-is : (m : Named) → Among m here → Is m ⊎ IsPart c domain ln fc m
  below-is m i =
      let outer = below-of (below ln (named.names_in c domain)) fc m i in
      let inner = below-of (named.names_in c domain) ln outer.0 outer.1.there in
      by inner.0 outer.0 outer.1 inner.1 (named-in c domain inner.0 inner.1.there)
    where
      by : (n l : Named) → IsBelow (below ln (named.names_in c domain)) fc m l → IsBelow (named.names_in c domain) ln l n → IsOne c domain n → Is m ⊎ IsPart c domain ln fc m
      by n l o k (inl h) = absurd (not-node n l h k.left o.longer)
      by n l o k (inr (inl h)) = inl (of-attribute n l m h k.left o.left k.is o.is)
      by n l o k (inr (inr (inl h))) = absurd (not-component n l h k.left o.is)
      by n l o k (inr (inr (inr (inl h)))) = absurd (not-twin n l h k.left o.is)
      by n l o k (inr (inr (inr (inr (inl h))))) = absurd (not-command n l h k.left o.is)
      by n l o k (inr (inr (inr (inr (inr h))))) = inr (of-part n l m h k.left o.left k.is o.is)

  holds-data : (m : Named) → Is m → is_held m ≡ true
  holds-data m h = ap is_held h.1

  -- an attribute doesn't begin with the name of a block
  meets : (m n : Named) → Is m → IsPart c domain ln fc n → first_name m ≡ first_name n → ⊥
  meets m n h o same =
      let a = h.2.attr in
      let item : m.item ≡ a.path = ap (λ (x : Named). x.item) h.1 ∙ (ap joined h.2.path ∙ path-joined a.path) in
      clash c told a (at-among h.0.number a (all_attrs c) h.2.at) o.groups o.there (h.2.domain_is ∙ sym o.domain_is) (h.2.ln_is ∙ o.ln_is) (h.2.fc_is ∙ o.fc_is) (ap first (sym item) ∙ (same ∙ o.name))

  pub apart-here : AreApart here
  apart-here m n i j same holds none = by (below-is m i) (below-is n j)
    where
      by : Is m ⊎ IsPart c domain ln fc m → Is n ⊎ IsPart c domain ln fc n → ⊥
      by (inr o) q = true≢false (sym holds ∙ o.none)
      by (inl h) (inl k) = true≢false (sym (holds-data n k) ∙ none)
      by (inl h) (inr o) = meets m n h o same

  pub longer-here : (n : Named) → Among n here → is_held n ≡ false → is_itself n ≡ false
  longer-here n i none = by (below-is n i)
    where
      by : Is n ⊎ IsPart c domain ln fc n → is_itself n ≡ false
      by (inl h) = absurd (true≢false (sym (holds-data n h) ∙ none))
      by (inr o) = o.longer

  -- what begins as the path of an attribute holds data
  pub beside-block : (a : AttrDef) → Among a (all_attrs c) → a.domain ≡ domain → a.ln ≡ ln → a.fc ≡ fc → (n : Named) → Among n here → first a.path ≡ first_name n → is_held n ≡ true
  beside-block a i d l f n j same = by (below-is n j)
    where
      by : Is n ⊎ IsPart c domain ln fc n → is_held n ≡ true
      by (inl h) = holds-data n h
      by (inr o) = absurd (clash c told a i o.groups o.there (d ∙ sym o.domain_is) (l ∙ o.ln_is) (f ∙ o.fc_is) (same ∙ o.name))

  -- the entries below the functional constraint, those of attributes
  pub record Entries : Type 0 where
    pub entries : List Entry
    pub named : held_of here ≡ map (named_of (attr_type c)) entries
    pub each : (e : Entry) → Among e entries → IsOf c domain ln fc e

  pub all-entries : Entries
  all-entries = let g = gather (attr_type c) (IsOf c domain ln fc) (held_of here) own in record { entries = g.0; named = g.1; each = g.2 }
    where
      own : (m : Named) → Among m (held_of here) → Is m
      own m i = let p = passed is_held m here i in by p.1 (below-is m p.0)
        where
          by : is_held m ≡ true → Is m ⊎ IsPart c domain ln fc m → Is m
          by holds (inl h) = h
          by holds (inr o) = absurd (true≢false (sym holds ∙ o.none))

  abbrev pub front : List (List ℕ)
  front = (domain ++ 47 ∷ ln) ∷ fc ∷ []

  names-are : (e : Entry) (o : IsOf c domain ln fc e) → front ++ e.path ≡ reference_names o.attr
  names-are e o = ap (λ p. (domain ++ 47 ∷ ln) ∷ fc ∷ p) o.path ∙ (ap (λ f. (domain ++ 47 ∷ ln) ∷ f ∷ names_in o.attr.path) (sym o.fc_is)
      ∙ (ap (λ l. (domain ++ 47 ∷ l) ∷ o.attr.fc ∷ names_in o.attr.path) (sym o.ln_is) ∙ ap (λ d. (d ++ 47 ∷ o.attr.ln) ∷ o.attr.fc ∷ names_in o.attr.path) (sym o.domain_is)))

  key-is : (e : Entry) (o : IsOf c domain ln fc e) → key_of o.attr ≡ joined (front ++ e.path)
  key-is e o = key-joined o.attr ∙ ap joined (sym (names-are e o))

  apart : (d e : Entry) (more : List (List ℕ)) → IsOf c domain ln fc d → IsOf c domain ln fc e → e.path ≡ d.path ++ more → d ≡ e
  apart d e more o p is = by (eqb_tells d.number e.number) more is
    where
      goes_on : (more : List (List ℕ)) → e.path ≡ d.path ++ more → AreBeside (key_of o.attr) (key_of p.attr) → ⊥
      goes_on [] is h = h.other (key-is d o ∙ (ap (λ l. joined (front ++ l)) (sym (is ∙ append-nil d.path)) ∙ sym (key-is e p)))
      goes_on (n ∷ more) is h = h.above (joined (n ∷ more)) (key-is e p ∙ (ap (λ l. joined (front ++ l)) is ∙ (ap joined (sym (append_assoc front d.path (n ∷ more)))
          ∙ (joined-behind (front ++ d.path) n more (omega arith) ∙ ap (λ l. l ++ 36 ∷ joined (n ∷ more)) (sym (key-is d o))))))

      by : ((d.number == e.number) ≡ true × (d.number ≡ e.number)) ⊎ ((d.number == e.number) ≡ false × (d.number ≡ e.number → ⊥)) → (more : List (List ℕ)) → e.path ≡ d.path ++ more → d ≡ e
      by (inl t) more is = let same : o.attr ≡ p.attr = at-same e.number o.attr p.attr (all_attrs c) (subst (λ n. At n o.attr (all_attrs c)) t.1 o.at) p.at in
          same-entry d e (o.path ∙ (ap (λ (a : AttrDef). names_in a.path) same ∙ sym p.path)) t.1
      by (inr t) more is = absurd (goes_on more is (told.beside d.number e.number o.attr p.attr o.at p.at t.1))

  count-attributes : (x : ℕ) (as_ : List AttrDef) → length (attrs_defined c x as_) ≡ length as_
  count-attributes x [] = refl
  count-attributes x (a ∷ as_) = ap suc (count-attributes (1 + x) as_)

  count-generated : (k : CtlDef) → length (attrs_generated c k) ≡ length (parameters k)
  count-generated k = length-map (parameters k) (λ (p : Parameter). record { access = reported; kind = kind_of p.kind; dchg = false; qchg = false; dupd = false; initial = p.value ∷ []; domain = domain_number c k.domain; original = 0 })

  count-parameters : (ks : List CtlDef) → length (flat_map (attrs_generated c) ks) ≡ length (flat_map parameter_attrs ks)
  count-parameters [] = refl
  count-parameters (k ∷ ks) = omega (
    arith,
    length-append (attrs_generated c k) (flat_map (attrs_generated c) ks),
    length-append (parameter_attrs k) (flat_map parameter_attrs ks),
    length-map (parameters k) (parameter_attr k),
    count-generated k,
    count-parameters ks,
  )

  number : (e : Entry) → IsOf c domain ln fc e → IsNumber (attr_type c) (length (attributes c)) e.number
  number e o = (
    omega (
      arith,
      at-within e.number o.attr (all_attrs c) o.at,
      length-append c.attrs (flat_map parameter_attrs c.controls),
      length-append (attrs_defined c 0 c.attrs) (flat_map (attrs_generated c) c.controls ++ twins c 0 c.attrs),
      length-append (flat_map (attrs_generated c) c.controls) (twins c 0 c.attrs),
      count-attributes 0 c.attrs,
      count-parameters c.controls,
    ),
    subst IsSettable (sym (type-at c told e.number o.attr o.at)) (settable o.attr.kind (told.attrs o.attr (at-among e.number o.attr (all_attrs c) o.at)).type_),
  )

  pub entries-below : (depth : ℕ) → 9 ≤ depth → (es : List Entry) → ((e : Entry) → Among e es → IsOf c domain ln fc e) → AreBelow (attr_type c) (length (attributes c)) (Known c told) (counted c told) (children (leaf_keys c told)) (is-count c told) front depth es
  entries-below depth deep es each = record {
    entries = record {
      plain = λ e i. let o = each e i in subst ArePlain (sym o.path) (path-plain o.attr.path (told.attrs o.attr (at-among e.number o.attr (all_attrs c) o.at)).path.0);
      apart = λ d e more i j is. apart d e more (each d i) (each e j) is;
      numbers = λ e i. number e (each e i);
    };
    known = λ e i. let o = each e i in (o.attr, o.at, names-are e o);
    some = omega arith;
    short = λ e i. let o = each e i in omega (arith, deep, ap length o.path, path-count o.attr.path, (told.attrs o.attr (at-among e.number o.attr (all_attrs c) o.at)).path.1);
  }
