-- The nodes of a configuration are plain.
use Rattle.std.proofs.Common.{◌≡◌, ◌≤◌, ◌<◌, ℕ, zero, suc, ◌+◌, Bool, true, false, cond, not, ◌&&◌, List, [], ◌∷◌, ◌++◌, length, map, filter, flat_map, refl, ap, ◌∙◌, arith, length-append}
use Rattle.std.specs.Prelude.{if◌then◌else◌, codes, nat_le, ◌==◌, Some, unwrap_or, slice_get}
use Rattle.std.specs.Option.{option_map}
use Rattle.std.specs.List.{find, list_any}
use Rattle.std.specs.Str.{bytes_eq}
use Rattle.sv_base.specs.declared.config.Config.{Config}
use Rattle.sv_base.specs.declared.config.LnDef.{LnDef}
use Rattle.sv_base.specs.declared.config.AttrDef.{AttrDef}
use Rattle.sv_base.specs.declared.config.BlockDef.{BlockDef}
use Rattle.sv_base.specs.declared.config.CtlDef.{CtlDef}
use Rattle.sv_base.specs.declared.config.SgDef.{SgDef}
use Rattle.sv_base.specs.declared.types.TypeOf.{TypeOf}
use Rattle.sv_base.specs.declared.components.Comp.{Comp}
use Rattle.sv_base.specs.declared.components.SettingComp.{SettingComp}
use Rattle.bay_model.specs.Attributes.{attributes, attr_defined, attrs_defined, attrs_generated, twins}
use Rattle.sv_base.specs.Kinds.{kind_of}
use Rattle.sv_base.specs.ComponentTable.{components, comp_name, setting_components, comp_type}
use Rattle.bay_model.specs.Generated.{Named, Parameter, within, parameters, parameter_names, command_names, is_selected, sbo_names, sbow_names, oper_names, cancel_names, control_names, setting_named}
use Rattle.bay_model.specs.Lookups.{node_of}
use Rattle.bay_model.specs.Model.{Call, select, operate, cancel, attribute, component, structure, Trees, none, more, Role, single, selecting, calling, several, Attr, Node, edited, reported}
use Rattle.bay_model.specs.Named.{configured_model, nodes, places_in}
use Rattle.bay_model.specs.NamedLines.{Line, is_setting, path_item, attribute_lines, node_line, block_lines, control_lines, group_line, domains, domain_number, generated, lines, insert_line, in_order, names_in}
use Rattle.bay_model.specs.NameTree.{Forest, nothing, named, rest_of, first_name, is_itself, below, first_names, role_of, own_type, side_by_side, grown, longest, tree_of}
use Rattle.bay_model.specs.Places.{Place, places, node_at, trees, tree_with, is_data_role, are_data, constraint, member_constraints, largest}
use Rattle.list_laws.proofs.Among.{Each, each-both, each-of, each-filter}
use Rattle.bay_replies.specs.Plain.{IsPlainTree, ArePlainTrees, IsPlainRole, IsPlainNode, SelectsNothing}
use Rattle.setting_groups.proofs.FirstLaws.{generated-count, lines-count}
use Rattle.node_reads.proofs.ShapeLaws.{each-flat}

-- ---- lists

module _ (attrs blocks controls : ℕ) (G : ℕ → Type 0) where
  abbrev IsRole : Role → Type 0
  IsRole r = IsPlainRole attrs blocks controls G r

  abbrev IsName : Named → Type 0
  IsName n = IsRole n.role

  abbrev IsLine : Line → Type 0
  IsLine l = Each IsName l.names

  -- ---- a tree of names

  abbrev AreRoles : Forest → Type 0
  AreRoles nothing = Unit {0}
  AreRoles (named n r k parts others) = IsRole r × AreRoles parts × AreRoles others

  tree-plain : (r : Role) (ts : Trees) → IsRole r → ArePlainTrees attrs blocks G ts → IsPlainTree attrs blocks G (tree_with r ts)
  tree-plain (single l) none is all = is
  tree-plain (single l) (more t ts) is all = all
  tree-plain (selecting k) none is all = tt
  tree-plain (selecting k) (more t ts) is all = all
  tree-plain (calling k call) none is all = all
  tree-plain (calling k call) (more t ts) is all = all
  tree-plain several none is all = all
  tree-plain several (more t ts) is all = all

  trees-plain : (f : Forest) → AreRoles f → ArePlainTrees attrs blocks G (trees f)
  trees-plain nothing h = tt
  trees-plain (named n r k parts others) h = (tree-plain r (trees parts) h.0 (trees-plain parts h.1), trees-plain others h.2)

  abbrev IsPlace : Place → Type 0
  IsPlace p = IsRole p.role × IsPlainTree attrs blocks G p.tree × (p.is_data ≡ true → SelectsNothing p.role)

  -- attributes alone are data
  data-quiet : (r : Role) (b : Bool) → (is_data_role r && b) ≡ true → SelectsNothing r
  data-quiet (single l) b h = tt
  data-quiet several b h = tt
  data-quiet (selecting k) b h = absurd cc
  data-quiet (calling k call) b h = absurd cc

  places-plain : (before : List ℕ) (f : Forest) → AreRoles f → Each IsPlace (places before f)
  places-plain before nothing h = tt
  places-plain before (named n r k parts others) h = (
    (h.0, tree-plain r (trees parts) h.0 (trees-plain parts h.1), data-quiet r (are_data parts)),
    each-both IsPlace (places (before ++ n ++ 36 ∷ []) parts) (places before others) (places-plain (before ++ n ++ 36 ∷ []) parts h.1) (places-plain before others h.2),
  )

  -- ---- how it grows

  below-names : (name : List ℕ) (ns : List Named) → Each IsName ns → Each IsName (below name ns)
  below-names name ns h = rests (filter (λ (n : Named). not (is_itself n) && bytes_eq name (first_name n)) ns) (each-filter IsName (λ (n : Named). not (is_itself n) && bytes_eq name (first_name n)) ns h)
    where
      rests : (ms : List Named) → Each IsName ms → Each IsName (map rest_of ms)
      rests [] h = tt
      rests (m ∷ ms) h = (h.0, rests ms h.1)

  role-plain : (ns : List Named) → Each IsName ns → IsRole (role_of ns)
  role-plain [] h = tt
  role-plain (n ∷ ns) h = by (is_itself n) (role-plain ns h.1)
    where
      by : (t : Bool) → IsRole (role_of ns) → IsRole (unwrap_or (option_map (λ (n : Named). n.role) (if t then Some n else find is_itself ns)) several)
      by true go = h.0
      by false go = go

  grown-plain : (levels : ℕ) (ns : List Named) → Each IsName ns → AreRoles (grown levels ns)
  grown-plain zero ns h = tt
  grown-plain (suc levels) ns h = side (λ name. grown-plain levels (below name ns) (below-names name ns h)) (first_names ns)
    where
      side : ((name : List ℕ) → AreRoles (grown levels (below name ns))) → (names : List (List ℕ))
          → AreRoles (side_by_side (λ name others. named name (role_of (below name ns)) (own_type (below name ns)) (grown levels (below name ns)) others) names)
      side parts [] = tt
      side parts (name ∷ names) = (role-plain (below name ns) (below-names name ns h), parts name, side parts names)

  -- ---- the lines

  attribute-lines : (x twin : ℕ) (as_ : List AttrDef) → x + length as_ ≤ attrs → twin + length (filter is_setting as_) ≤ attrs → Each IsLine (attribute_lines x twin as_)
  attribute-lines x twin [] below above = tt
  attribute-lines x twin (a ∷ rest) below above = by (is_setting a) above (λ t. attribute-lines (x + 1) t rest (omega (arith, below)))
    where
      by : (t : Bool) → twin + length (cond t (a ∷ filter is_setting rest) (filter is_setting rest)) ≤ attrs → ((t : ℕ) → t + length (filter is_setting rest) ≤ attrs → Each IsLine (attribute_lines (x + 1) t rest))
          → ((x < attrs) × Each IsName (if t then record { item = path_item a.ln (codes "SE") a.path; role = single (attribute twin); kind = a.kind } ∷ [] else [])) × Each IsLine (attribute_lines (x + 1) (if t then twin + 1 else twin) rest)
      by true above go = ((omega (arith, below), (omega (arith, above), tt)), go (twin + 1) (omega (arith, above)))
      by false above go = ((omega (arith, below), tt), go twin above)

  node-lines : (ns : List LnDef) → Each IsLine (map node_line ns)
  node-lines [] = tt
  node-lines (n ∷ ns) = ((tt, tt), node-lines ns)

  component-names : (b : ℕ) (item : List ℕ) (ks : List Comp) → b < blocks → Each IsName (map (λ k. record { item = item ++ 36 ∷ comp_name k; role = single (component b k); kind = comp_type k }) ks)
  component-names b item [] h = tt
  component-names b item (k ∷ ks) h = (h, component-names b item ks h)

  block-lines : (b : ℕ) (bs : List BlockDef) → b + length bs ≤ blocks → Each IsLine (block_lines b bs)
  block-lines b [] h = tt
  block-lines b (d ∷ rest) h = (component-names b (path_item d.ln (codes "BR") d.name) components (omega (arith, h)), block-lines (b + 1) rest (omega (arith, h)))

  command : (k : ℕ) (kind : TypeOf) (item : List ℕ) (call : Call) → k < controls → Each IsName (command_names k kind item call)
  command k kind item select h = (h, (tt, (tt, (tt, (tt, (tt, (tt, (tt, tt))))))))
  command k kind item operate h = (h, (tt, (tt, (tt, (tt, (tt, (tt, (tt, tt))))))))
  command k kind item cancel h = (h, (tt, (tt, (tt, (tt, (tt, (tt, tt)))))))

  where-so : (b : Bool) (ns : List Named) → Each IsName ns → Each IsName (if b then ns else [])
  where-so true ns h = h
  where-so false ns h = tt

  control-names : (k : ℕ) (c : CtlDef) (item : List ℕ) → k < controls → Each IsName (control_names k c item)
  control-names k c item h = each-both IsName (sbo_names k c item) (sbow_names k c item ++ (oper_names k c item ++ cancel_names k c item)) (where-so (c.model == 2) _ (h, tt))
      (each-both IsName (sbow_names k c item) (oper_names k c item ++ cancel_names k c item) (where-so (c.model == 4) _ (command k c.kind (within item (codes "SBOw")) select h))
      (each-both IsName (oper_names k c item) (cancel_names k c item) (command k c.kind (within item (codes "Oper")) operate h) (where-so (is_selected c) _ (command k c.kind (within item (codes "Cancel")) cancel h))))

  parameters-names : (x : ℕ) (item : List ℕ) (ps : List Parameter) → x + length ps ≤ attrs → Each IsName (parameter_names x item ps)
  parameters-names x item [] h = tt
  parameters-names x item (p ∷ ps) h = (omega (arith, h), parameters-names (x + 1) item ps (omega (arith, h)))

  control-lines : (k x : ℕ) (cs : List CtlDef) → k + length cs ≤ controls → x + length (flat_map parameters cs) ≤ attrs → Each IsLine (control_lines k x cs)
  control-lines k x [] below above = tt
  control-lines k x (c ∷ cs) below above = let both = length-append (parameters c) (flat_map parameters cs) in (
    each-both IsName (control_names k c (path_item c.ln (codes "CO") c.path)) (parameter_names x (path_item c.ln (codes "CF") c.path) (parameters c))
        (control-names k c (path_item c.ln (codes "CO") c.path) (omega (arith, below))) (parameters-names x (path_item c.ln (codes "CF") c.path) (parameters c) (omega (arith, above, both))),
    control-lines (k + 1) (x + length (parameters c)) cs (omega (arith, below)) (omega (arith, above, both)),
  )

  settings-names : (d : ℕ) (ks : List SettingComp) → G d → Each IsName (map (setting_named d) ks)
  settings-names d [] h = tt
  settings-names d (k ∷ ks) h = (h, settings-names d ks h)

  groups-lines : (c : Config) (gs : List SgDef) → Each (λ (g : SgDef). G (domain_number c g.domain)) gs → Each IsLine (map (λ (g : SgDef). group_line (domain_number c g.domain) g) gs)
  groups-lines c [] h = tt
  groups-lines c (g ∷ gs) h = (settings-names (domain_number c g.domain) setting_components h.0, groups-lines c gs h.1)

  insert-plain : (l : Line) (ls : List Line) → IsLine l → Each IsLine ls → Each IsLine (insert_line l ls)
  insert-plain l [] is all = (is, tt)
  insert-plain l (m ∷ ms) is all = by (nat_le l.line m.line) (insert-plain l ms is all.1)
    where
      by : (t : Bool) → Each IsLine (insert_line l ms) → Each IsLine (if t then l ∷ m ∷ ms else m ∷ insert_line l ms)
      by true go = (is, all)
      by false go = (all.0, go)

  order-plain : (ls : List Line) → Each IsLine ls → Each IsLine (in_order ls)
  order-plain [] h = tt
  order-plain (l ∷ ls) h = insert-plain l (in_order ls) h.0 (order-plain ls h.1)

-- ---- a configuration

count-twins : (c : Config) (x : ℕ) (as_ : List AttrDef) → length (twins c x as_) ≡ length (filter is_setting as_)
count-twins c x [] = refl
count-twins c x (a ∷ rest) = by (is_setting a) (count-twins c (1 + x) rest)
  where
    by : (t : Bool) → length (twins c (1 + x) rest) ≡ length (filter is_setting rest)
        → length (if t then record (attr_defined c x a) { access = edited } ∷ twins c (1 + x) rest else twins c (1 + x) rest) ≡ length (cond t (a ∷ filter is_setting rest) (filter is_setting rest))
    by true go = ap suc go
    by false go = go

abbrev generated_of : Config → CtlDef → Parameter → Attr
generated_of c k p = record { access = reported; kind = kind_of p.kind; dchg = false; qchg = false; dupd = false; initial = p.value ∷ []; domain = domain_number c k.domain; original = 0 }

module _ (c : Config) (G : ℕ → Type 0) (groups : Each (λ (g : SgDef). G (domain_number c g.domain)) c.groups) where
  abbrev pub counted : ℕ
  counted = length (attributes c)

  pub count-attributes : length (attributes c) ≡ length c.attrs + (length (generated c) + length (filter is_setting c.attrs))
  count-attributes = length-append (attrs_defined c 0 c.attrs) (flat_map (attrs_generated c) c.controls ++ twins c 0 c.attrs)
      ∙ omega (arith, lines-count c 0 c.attrs, length-append (flat_map (attrs_generated c) c.controls) (twins c 0 c.attrs), generated-count c c.controls, count-twins c 0 c.attrs)

  abbrev IsOwnLine : Line → Type 0
  IsOwnLine = IsLine (length (attributes c)) (length c.blocks) (length c.controls) G

  abbrev IsOwnName : Named → Type 0
  IsOwnName = IsName (length (attributes c)) (length c.blocks) (length c.controls) G

  lines-plain : Each IsOwnLine (lines c)
  lines-plain =
      let twin : ℕ = length c.attrs + length (generated c) in
      let ks : List Line = control_lines 0 (length c.attrs) c.controls in
      let gs : List Line = map (λ (g : SgDef). group_line (domain_number c g.domain) g) c.groups in
      each-both IsOwnLine (map node_line c.nodes) (attribute_lines 0 twin c.attrs ++ (block_lines 0 c.blocks ++ (ks ++ gs))) (node-lines counted (length c.blocks) (length c.controls) G c.nodes)
      (each-both IsOwnLine (attribute_lines 0 twin c.attrs) (block_lines 0 c.blocks ++ (ks ++ gs)) (attribute-lines counted (length c.blocks) (length c.controls) G 0 twin c.attrs (omega (arith, count-attributes)) (omega (arith, count-attributes)))
      (each-both IsOwnLine (block_lines 0 c.blocks) (ks ++ gs) (block-lines counted (length c.blocks) (length c.controls) G 0 c.blocks (omega arith))
      (each-both IsOwnLine ks gs (control-lines counted (length c.blocks) (length c.controls) G 0 (length c.attrs) c.controls (omega arith) (omega (arith, count-attributes)))
      (groups-lines counted (length c.blocks) (length c.controls) G c c.groups groups))))

  names-plain : (domain : List ℕ) → Each IsOwnName (names_in c domain)
  names-plain domain =
      each-flat IsOwnName (λ (l : Line). l.names) (filter (λ (l : Line). bytes_eq l.domain domain) (in_order (lines c)))
      (each-filter IsOwnLine (λ (l : Line). bytes_eq l.domain domain) (in_order (lines c)) (order-plain counted (length c.blocks) (length c.controls) G (lines c) lines-plain))

  abbrev IsNode : Node → Type 0
  IsNode n = IsPlainNode (length (attributes c)) (length c.blocks) (length c.controls) G n

  allowed-data : (d f n : Bool) → ((d && f) && n) ≡ true → d ≡ true
  allowed-data true f n h = refl
  allowed-data false f n h = h

  nodes-of : (domain : List ℕ) (ps : List Place) → Each (IsPlace (length (attributes c)) (length c.blocks) (length c.controls) G) ps → Each IsNode (map (node_at domain) ps)
  nodes-of domain [] h = tt
  nodes-of domain (p ∷ ps) h = (
    record {
      role = h.0.0;
      tree = h.0.1;
      member = λ e. h.0.2 (allowed-data p.is_data (list_any (bytes_eq (constraint p.item)) member_constraints) (nat_le (largest p.kind) 500) e);
    },
    nodes-of domain ps h.1,
  )

  nodes-plain : Each IsNode (nodes c)
  nodes-plain = each-flat IsNode (λ domain. map (node_at domain) (places_in c domain)) (domains c) (in-domains (domains c))
    where
      in-domains : (ds : List (List ℕ)) → Each (λ domain. Each IsNode (map (node_at domain) (places_in c domain))) ds
      in-domains [] = tt
      in-domains (d ∷ ds) = (
        nodes-of d (places_in c d) (places-plain counted (length c.blocks) (length c.controls) G [] (tree_of (names_in c d)) (grown-plain counted (length c.blocks) (length c.controls) G (suc (longest (names_in c d))) (names_in c d) (names-plain d))),
        in-domains ds,
      )

  at-plain : (ns : List Node) (n : ℕ) → Each IsNode ns → IsNode (unwrap_or (slice_get ns n) (record { domain = []; item = []; role = several; tree = structure none; attrs = []; allowed = false }))
  at-plain [] n h = record { role = tt; tree = tt; member = λ e. tt }
  at-plain (x ∷ ns) zero h = h.0
  at-plain (x ∷ ns) (suc n) h = at-plain ns n h.1

  pub node-plain : (n : ℕ) → IsNode (node_of (configured_model c) n)
  node-plain n = at-plain (nodes c) n nodes-plain
