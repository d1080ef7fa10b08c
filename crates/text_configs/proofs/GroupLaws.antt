-- What a text says of its setting groups, and of its attributes, which under SG have a value for each group.
use Rattle.std.proofs.Common.{◌≡◌, ℕ, zero, suc, ◌+◌, ◌-◌, ◌<◌, ◌≤◌, ◌⊎◌, inl, inr, Bool, true, false, List, [], ◌∷◌, ◌++◌, length, is_some, refl, sym, ap, subst, ◌∙◌, arith, true≢false, length-append, cond, None, Some, unwrap_or, if◌then◌else◌}
use Rattle.std.specs.Prelude.{codes, position, slice_get, slice_index_or}
use Rattle.std.specs.Option.{option_map, option_or}
use Rattle.std.specs.List.{find, list_any}
use Rattle.std.specs.Str.{bytes_eq}
use Rattle.std.specs.Cmp.Lexicographic.{bytes_decides}
use Rattle.std.proofs.lemmas.List.Folds.{find-append}
use Rattle.sv_base.specs.Same.{values_of}
use Rattle.sv_base.specs.declared.config.Config.{Config}
use Rattle.sv_base.specs.declared.config.LnDef.{LnDef}
use Rattle.sv_base.specs.declared.config.AttrDef.{AttrDef}
use Rattle.sv_base.specs.declared.config.SgDef.{SgDef}
use Rattle.sv_base.specs.declared.types.TypeOf.{TypeOf}
use Rattle.sv_base.specs.declared.value.Value.{Value}
use Rattle.sv_base.specs.declared.value.Value.TheVariants as kinds
use Rattle.bay_model.specs.Configured.{groups_defined, with_domain, domains_after}
use Rattle.bay_model.specs.Model.{Groups}
use Rattle.bay_model.specs.NamedLines.{is_setting, domains}
use Rattle.text_words.specs.Grammar.{IsType, AreOfType}
use Rattle.text_values.proofs.ValueLaws.{of-kind, in-range}
use Rattle.cfg_lines.specs.Paths.{clashes, is_taken}
use Rattle.cfg_lines.specs.Before.{domain_of, node_of, groups_of, attributes, nodes}
use Rattle.cfg_lines.specs.Claims.{claims_by, claims, group_key}
use Rattle.cfg_lines.specs.Configs.{with_line, config_of}
use Rattle.cfg_grammar.specs.Texts.{AreLines, SpellsConfig}
use Rattle.cfg_grammar.specs.Follows.{value_count, IsAttribute}
use Rattle.cfg_lines.specs.declared.line.Line.{Line}
use Rattle.cfg_lines.specs.declared.line.Line.TheVariants as lines
use Rattle.list_laws.proofs.Among.{Among, all-of, left, right, ending, passes}
use Rattle.value_store.specs.Opened.{HasValue, place_in}
use Rattle.setting_groups.specs.Opened.{HasValues, IsHeld, IsSetting, IsGrouped}
use Rattle.text_configs.proofs.FindLaws.{found, domain-there}
use Rattle.text_configs.proofs.StandLaws.{IsIn, in-node, in-more}
use Rattle.text_configs.proofs.ValueLaws.{settable}
use Rattle.list_laws.proofs.Distinct.{octets_equal}

-- ---- how many there are

few-attrs : (told : List Line) (text : List ℕ) → AreLines text told → (length (config_of told).attrs ≡ attributes told) × (attributes told ≤ 10000)
few-attrs [] text h = (refl, omega arith)
few-attrs (lines.Attr attr ∷ before) text h =
    let go = few-attrs before h.0 h.3 in
    (omega (arith, length-append (config_of before).attrs (attr ∷ []), go.0), omega (arith, h.4.follows.few))
few-attrs (line ∷ before) text h = few-attrs before h.0 h.3

few-nodes : (told : List Line) (text : List ℕ) → AreLines text told → (length (config_of told).nodes ≡ nodes told) × (nodes told ≤ 256)
few-nodes [] text h = (refl, omega arith)
few-nodes (lines.Ln node ∷ before) text h =
    let go = few-nodes before h.0 h.3 in
    (omega (arith, length-append (config_of before).nodes (node ∷ []), go.0), omega (arith, h.4.follows.few))
few-nodes (line ∷ before) text h = few-nodes before h.0 h.3

one-more : (ds : List (List ℕ)) (d : List ℕ) → length (with_domain ds d) ≤ length ds + 1
one-more ds d = by (list_any (bytes_eq d) ds)
  where
    by : (b : Bool) → length (if b then ds else ds ++ d ∷ []) ≤ length ds + 1
    by true = omega arith
    by false = omega (arith, length-append ds (d ∷ []))

few-domains : (ds : List (List ℕ)) (ns : List LnDef) → length (domains_after ds ns) ≤ length ds + length ns
few-domains ds [] = omega arith
few-domains ds (n ∷ ns) = omega (arith, few-domains (with_domain ds n.domain) ns, one-more ds n.domain)

-- ---- the groups of a domain

abbrev is-of : List ℕ → SgDef → Bool
is-of d g = bytes_eq d g.domain

-- the name that the groups of a domain take
abbrev key : List ℕ → List ℕ
key d = group_key d (codes "LLN0")

pub group-claimed : (told : List Line) (g : SgDef) → Among g (config_of told).groups → Among (key g.domain) (claims told)
group-claimed [] g i = absurd i
group-claimed (lines.Sgcb groups ∷ before) g i = by (ending g (config_of before).groups groups i) (group-claimed before g)
  where
    by : Among g (config_of before).groups ⊎ (g ≡ groups) → (Among g (config_of before).groups → Among (key g.domain) (claims before))
        → Among (key g.domain) (key groups.domain ∷ claims before)
    by (inl j) go = inr (go j)
    by (inr e) go = inl (ap (λ (x : SgDef). key x.domain) e)
group-claimed (lines.Attr attr ∷ before) g i = inr (group-claimed before g i)
group-claimed (lines.Brcb block ∷ before) g i = inr (group-claimed before g i)
group-claimed (lines.Ctl control ∷ before) g i = right (key g.domain) (claims_by (lines.Ctl control)) (claims before) (group-claimed before g i)
group-claimed (line ∷ before) g i = group-claimed before g i

clash-own : (p : List ℕ) → clashes p p ≡ true
clash-own p = rw (octets_equal p p refl) refl

none-of : (d : List ℕ) (gs : List SgDef) → ((g : SgDef) → Among g gs → is-of d g ≡ false) → find (is-of d) gs ≡ None
none-of d [] h = refl
none-of d (g ∷ gs) h = rw (h g (inl refl)) (none-of d gs (λ k i. h k (inr i)))

-- no line of groups before is of the domain of a new one
none-before : (told : List Line) (d : List ℕ) → is_taken (claims told) (key d) ≡ false → find (is-of d) (config_of told).groups ≡ None
none-before told d new = none-of d (config_of told).groups (λ g i. by g i (is-of d g) refl)
  where
    clash : (g : SgDef) → is-of d g ≡ true → clashes (key d) (key g.domain) ≡ true
    clash g is = ap (λ e. clashes (key d) (key e)) (sym ((bytes_decides d g.domain).0 is)) ∙ clash-own (key d)

    taken : (g : SgDef) → Among g (config_of told).groups → is-of d g ≡ true → is_taken (claims told) (key d) ≡ true
    taken g i is = passes (λ o. clashes (key d) o) (key g.domain) (claims told) (group-claimed told g i) (clash g is)

    by : (g : SgDef) → Among g (config_of told).groups → (b : Bool) → is-of d g ≡ b → b ≡ false
    by g i false is = refl
    by g i true is = absurd (true≢false (sym (taken g i is) ∙ new))

-- the domain has n groups
abbrev Have : Config → List ℕ → ℕ → Type 0
Have c d n = (g : SgDef) × (find (is-of d) c.groups ≡ Some g) × (g.count ≡ n)

-- one line more leaves them
have-more : (c : Config) (groups : SgDef) (d : List ℕ) (n : ℕ) → Have c d n → Have (with_line (lines.Sgcb groups) c) d n
have-more c groups d n h = (h.0, find-append (is-of d) c.groups (groups ∷ []) ∙ ap (λ o. option_or o (find (is-of d) (groups ∷ []))) h.1, h.2)

groups-here : (told : List Line) (text : List ℕ) → AreLines text told → 1 ≤ groups_of told → Have (config_of told) (domain_of told) (groups_of told)
groups-here [] text h some = absurd (omega (arith, some))
groups-here (lines.Ld name ∷ before) text h some = absurd (omega (arith, some))
groups-here (lines.Sgcb groups ∷ before) text h some =
    let f = h.4.follows in
    let d : List ℕ = domain_of before in
    let here : is-of d groups ≡ true = octets_equal d groups.domain (sym (ap (λ (g : SgDef). g.domain) f.here)) in (
      groups,
      find-append (is-of d) (config_of before).groups (groups ∷ [])
          ∙ (ap (λ o. option_or o (find (is-of d) (groups ∷ []))) (none-before before d f.new)
          ∙ ap (λ b. cond b (Some groups) None) here),
      refl,
    )
groups-here (line ∷ before) text h some = groups-here before h.0 h.3 some

abbrev IsActive : SgDef → Type 0
IsActive g = (1 ≤ g.active) × (g.active ≤ g.count)

groups-read : (told : List Line) (text : List ℕ) → AreLines text told → (g : SgDef) → Among g (config_of told).groups → IsActive g
groups-read [] text h g i = absurd i
groups-read (lines.Sgcb groups ∷ before) text h g i = by (ending g (config_of before).groups groups i) (groups-read before h.0 h.3 g)
  where
    by : Among g (config_of before).groups ⊎ (g ≡ groups) → (Among g (config_of before).groups → IsActive g) → IsActive g
    by (inl j) go = go j
    by (inr e) go = subst IsActive (sym e) h.4.follows.active
groups-read (line ∷ before) text h g i = groups-read before h.0 h.3 g i

-- the domain of a block is that of a logical node
abbrev HasNode : Config → List ℕ → Type 0
HasNode c d = (n : LnDef) × Among n c.nodes × (n.domain ≡ d)

groups-stand : (told : List Line) (text : List ℕ) → AreLines text told → (g : SgDef) → Among g (config_of told).groups → HasNode (config_of told) g.domain
groups-stand [] text h g i = absurd i
groups-stand (lines.Ln node ∷ before) text h g i = let r = groups-stand before h.0 h.3 g i in (r.0, left r.0 (config_of before).nodes (node ∷ []) r.1, r.2)
groups-stand (lines.Sgcb groups ∷ before) text h g i = by (ending g (config_of before).groups groups i) (groups-stand before h.0 h.3 g)
  where
    by : Among g (config_of before).groups ⊎ (g ≡ groups) → (Among g (config_of before).groups → HasNode (config_of before) g.domain) → HasNode (config_of before) g.domain
    by (inl j) go = go j
    by (inr e) go = let f = h.4.follows in let n = in-node before h.0 h.3 f.stands.0 in (n.node, n.there, n.domain_is ∙ sym (ap (λ (x : SgDef). x.domain) (e ∙ f.here)))
groups-stand (line ∷ before) text h g i = groups-stand before h.0 h.3 g i

-- ---- the attributes

all-held : (k : TypeOf) → IsType k → (vs : List Value) → AreOfType k vs → (v : Value) → Among v vs → IsHeld k v
all-held k t [] h v i = absurd i
all-held k t (w ∷ ws) h v (inl e) = subst (IsHeld k) (sym e) (record { settable = settable k t; kind = of-kind k w h.0; range = in-range k w t h.0 })
all-held k t (w ∷ ws) h v (inr i) = all-held k t ws h.1 v i

-- an attribute with its values; under SG there is one for each group of its domain
record IsValued (c : Config) (a : AttrDef) : Type 0 where
  pub values : HasValues a
  pub node : IsIn c.nodes a.domain a.ln
  pub groups : is_setting a ≡ true → Have c a.domain (length (values_of a.values))

module _ (before : List Line) (text : List ℕ) (are : AreLines text before) (attr : AttrDef) (h : IsAttribute before attr) where
  in-domain : attr.domain ≡ domain_of before
  in-domain = ap (λ (a : AttrDef). a.domain) h.here

  in-ln : attr.ln ≡ node_of before
  in-ln = ap (λ (a : AttrDef). a.ln) h.here

  node-here : IsIn (config_of before).nodes attr.domain attr.ln
  node-here =
      let here : IsIn (config_of before).nodes (domain_of before) attr.ln =
      subst (IsIn (config_of before).nodes (domain_of before)) (sym in-ln) (in-node before text are h.stands) in
      subst (λ d. IsIn (config_of before).nodes d attr.ln) (sym in-domain) here

  each-group : is_setting attr ≡ true → Have (config_of before) attr.domain (length (values_of attr.values))
  each-group is =
      let count : value_count before attr.fc ≡ groups_of before = ap (λ b. if b then groups_of before else 1) is in
      let have : Have (config_of before) (domain_of before) (groups_of before) = groups-here before text are (subst (λ n. 1 ≤ n) count h.count.0) in
      subst (λ d. Have (config_of before) d (length (values_of attr.values))) (sym in-domain)
      (subst (Have (config_of before) (domain_of before)) (sym (h.count.1 ∙ count)) have)

  valued-here : IsValued (config_of before) attr
  valued-here = record {
    values = record {
      some = omega (arith, h.count.0, h.count.1);
      held = all-of (IsHeld attr.kind) (values_of attr.values) (all-held attr.kind h.type_ (values_of attr.values) h.values);
    };
    node = node-here;
    groups = each-group;
  }

valued-groups : (c : Config) (groups : SgDef) (a : AttrDef) → IsValued c a → IsValued (with_line (lines.Sgcb groups) c) a
valued-groups c groups a h = record {
  values = h.values;
  node = h.node;
  groups = λ is. have-more c groups a.domain (length (values_of a.values)) (h.groups is);
}

valued-node : (c : Config) (node : LnDef) (a : AttrDef) → IsValued c a → IsValued (with_line (lines.Ln node) c) a
valued-node c node a h = record { values = h.values; node = in-more c.nodes node a.domain a.ln h.node; groups = h.groups }

-- the logical nodes and the groups are all that counts
valued-as : (c d : Config) (a : AttrDef) → d.nodes ≡ c.nodes → d.groups ≡ c.groups → IsValued c a → IsValued d a
valued-as c d a nodes groups h = record {
  values = h.values;
  node = subst (λ ns. IsIn ns a.domain a.ln) (sym nodes) h.node;
  groups = λ is. let g = h.groups is in (g.0, ap (λ gs. find (is-of a.domain) gs) groups ∙ g.1, g.2);
}

attrs-valued : (told : List Line) (text : List ℕ) → AreLines text told → (a : AttrDef) → Among a (config_of told).attrs
    → IsValued (config_of told) a
attrs-valued [] text h a i = absurd i
attrs-valued (lines.Ln node ∷ before) text h a i = valued-node (config_of before) node a (attrs-valued before h.0 h.3 a i)
attrs-valued (lines.Sgcb groups ∷ before) text h a i = valued-groups (config_of before) groups a (attrs-valued before h.0 h.3 a i)
attrs-valued (lines.Attr attr ∷ before) text h a i =
    let c : Config = config_of before in
    valued-as c (config_of (lines.Attr attr ∷ before)) a refl refl (by (ending a c.attrs attr i) (attrs-valued before h.0 h.3 a))
  where
    by : Among a (config_of before).attrs ⊎ (a ≡ attr) → (Among a (config_of before).attrs → IsValued (config_of before) a)
        → IsValued (config_of before) a
    by (inl j) go = go j
    by (inr e) go = subst (IsValued (config_of before)) (sym e) (valued-here before h.0 h.3 attr h.4.follows)
attrs-valued (line ∷ before) text h a i = valued-as (config_of before) (config_of (line ∷ before)) a refl refl (attrs-valued before h.0 h.3 a i)

-- ---- all of it

abbrev groups_told : SgDef → Groups
groups_told g = record { count = g.count; active = g.active }

abbrev no_groups : Groups
no_groups = record { count = 0; active = 0 }

is-there : (c : Config) (d : List ℕ) → HasNode c d → is_some (position (bytes_eq d) (domains c)) ≡ true
is-there c d h =
    let there : Among d (domains c) = subst (λ x. Among x (domains c)) h.2 (domain-there h.0 [] c.nodes h.1) in
    ap is_some (found (bytes_eq d) d (domains c) there (octets_equal d d refl)).is

is-a-setting : (c : Config) (a : AttrDef) → IsValued c a → is_setting a ≡ true → IsSetting c a
is-a-setting c a h is =
    let have = h.groups is in
    let count : (groups_defined c.groups a.domain).count ≡ length (values_of a.values) =
    ap (λ o. (unwrap_or (option_map groups_told o) no_groups).count) have.1 ∙ have.2 in
    record {
      domain = is-there c a.domain (h.node.node, h.node.there, h.node.domain_is);
      some = omega (arith, count, h.values.some);
      values = sym count;
    }

pub are-grouped : (told : List Line) (text : List ℕ) → AreLines text told → IsGrouped (config_of told)
are-grouped told text are = let c : Config = config_of told in record {
  values = all-of HasValues c.attrs (λ a i. (attrs-valued told text are a i).values);
  settings = all-of (λ (a : AttrDef). is_setting a ≡ true → IsSetting c a) c.attrs (λ a i. is-a-setting c a (attrs-valued told text are a i));
  groups = all-of IsActive c.groups (groups-read told text are);
  there = all-of (λ (g : SgDef). is_some (position (bytes_eq g.domain) (domains c)) ≡ true) c.groups (λ g i. is-there c g.domain (groups-stand told text are g i));
  domains = let f = few-nodes told text are in omega (arith, f.0, f.1, few-domains [] c.nodes);
  few = let f = few-attrs told text are in omega (arith, f.0, f.1);
}

pub texts-are-grouped : (text : List ℕ) (c : Config) → SpellsConfig text c → IsGrouped c
texts-are-grouped text c h = subst IsGrouped (sym h.makes) (are-grouped h.told text h.are)

-- ---- the value that an attribute begins with

got : (vs : List Value) (p : ℕ) (d : Value) → p < length vs → slice_get vs p ≡ Some (slice_index_or vs p d)
got [] p d below = absurd (omega (arith, below))
got (v ∷ vs) zero d below = refl
got (v ∷ vs) (suc p) d below = got vs p d (omega (arith, below))

value-at : (a : AttrDef) (p : ℕ) → HasValues a → p < length (values_of a.values) → HasValue a p
value-at a p h below = let held = h.held p kinds.Other below in record {
  settable = held.settable;
  value = slice_index_or (values_of a.values) p kinds.Other;
  there = got (values_of a.values) p kinds.Other below;
  kind = held.kind;
  range = held.range;
}

active-within : (gs : List SgDef) (d : List ℕ) → ((g : SgDef) → Among g gs → IsActive g) → 0 < (groups_defined gs d).count → (groups_defined gs d).active - 1 < (groups_defined gs d).count
active-within [] d h some = absurd (omega (arith, some))
active-within (g ∷ gs) d h some = by (bytes_eq d g.domain) some (active-within gs d (λ k i. h k (inr i)))
  where
    of : Bool → Groups
    of b = unwrap_or (option_map groups_told (cond b (Some g) (find (is-of d) gs))) no_groups

    by : (b : Bool) → 0 < (of b).count → (0 < (groups_defined gs d).count → (groups_defined gs d).active - 1 < (groups_defined gs d).count) → (of b).active - 1 < (of b).count
    by true some go = omega (arith, (h g (inl refl)).0, (h g (inl refl)).1)
    by false some go = go some

module _ (told : List Line) (text : List ℕ) (are : AreLines text told) where
  values-told : (a : AttrDef) → Among a (config_of told).attrs → HasValues a
  values-told a i = (attrs-valued told text are a i).values

  pub first-value : (a : AttrDef) → Among a (config_of told).attrs → HasValue a 0
  first-value a i = value-at a 0 (values-told a i) (values-told a i).some

  pub begins : (a : AttrDef) → Among a (config_of told).attrs → HasValue a (place_in (config_of told) a)
  begins a i = by (is_setting a) refl
    where
      groups : Groups
      groups = groups_defined (config_of told).groups a.domain

      within : is_setting a ≡ true → groups.active - 1 < length (values_of a.values)
      within is = let s = is-a-setting (config_of told) a (attrs-valued told text are a i) is in
          omega (arith, s.values, active-within (config_of told).groups a.domain (groups-read told text are) s.some)

      by : (b : Bool) → is_setting a ≡ b → HasValue a (if b then groups.active - 1 else 0)
      by true is = value-at a (groups.active - 1) (values-told a i) (within is)
      by false is = first-value a i
