-- What is lent reads as the model has it, at each point of a request.
use Rattle.std.proofs.Common.{◌≡◌, ◌≤◌, ◌<◌, ℕ, zero, suc, ◌+◌, Bool, true, false, List, [], ◌∷◌, ◌++◌, length, map, flat_map, refl, sym, subst, ap, ap₂, ◌∙◌, arith, append_assoc, length-append}
use Rattle.std.specs.Prelude.{if◌then◌else◌, ◌||◌, ◌-◌, nat_le, nat_lt, None, Some, is_some, unwrap_or, Result, Ok, Err, slice_get, max}
use Rattle.std.specs.Str.{bytes_eq}
use Rattle.std.specs.Prelude.{codes}
use Rattle.std.proofs.lemmas.Bool.{lt-ltb}
use Rattle.std.proofs.lemmas.Bool.Decides.{nat_tests}
use Rattle.sv_base.specs.declared.config.Config.{Config}
use Rattle.sv_base.specs.declared.config.AttrDef.{AttrDef}
use Rattle.sv_base.specs.declared.config.CtlDef.{CtlDef}
use Rattle.sv_base.specs.declared.config.SgDef.{SgDef}
use Rattle.sv_base.specs.declared.value.Value.{Value}
use Rattle.bay_model.specs.Attributes.{attributes, attrs_defined, attrs_generated, twins, access_of}
use Rattle.sv_base.specs.declared.components.SettingComp.{SettingComp}
use Rattle.sv_base.specs.declared.components.SettingComp.TheVariants.{NumOfSG, ActSG, EditSG, CnfEdit, LActTm}
use Rattle.bay_model.specs.Components.{read_component, read_setting}
use Rattle.bay_model.specs.Lookups.{attr_of, node_of, no_attr}
use Rattle.bay_model.specs.Model as model
use Rattle.bay_model.specs.Model.{Model, Attr, Access, Leaf, attribute, component, setting, withheld, Tree, leaf, structure, Trees, none, more, Role, single, selecting, calling, several}
use Rattle.bay_model.specs.Named.{configured_model}
use Rattle.bay_model.specs.Generated.{parameters}
use Rattle.bay_model.specs.NamedLines.{domain_number, generated}
use Rattle.bay_model.specs.Points.{Past}
use Rattle.bay_model.specs.Reads.{read_attribute, read_leaf, read_tree, read_role, read_node, structured, joined, outcome_of_read}
use Rattle.bay_model.specs.Singles.{arrival}
use Rattle.bay_model.specs.Values.{value_at}
use Rattle.list_laws.proofs.Among.{Each, each-both, each-of}
use Rattle.setting_groups.specs.Grouped.{Grouped, copy_in, copy_of, domain_at, setting_at}
use Rattle.setting_groups.specs.Opened.{IsGrouped}
use Rattle.setting_groups.specs.Parts.{part_read}
use Rattle.setting_groups.proofs.FirstLaws.{domain-within, groups-there, is-twin, settings-count, twin-edited, generated-count, lines-count}
use Rattle.setting_groups.proofs.PartLaws.{copy-reads, reads}
use Rattle.node_reads.specs.Reading.{read_by, read_side, leaf_read}
use Rattle.node_reads.proofs.ReadLaws.{same-tree}
use Rattle.value_store.specs.Stored as store
use Rattle.value_store.specs.Stored.{Stored}
use Rattle.report_block.specs.Reading.{reading}
use Rattle.report_block.proofs.ReadingLaws.{reads-ahead}
use Rattle.bay_replies.specs.declared.replies.Replies.{Replies}
use Rattle.bay_replies.specs.Given.{attribute_read, component_read, copies_from, copy_read, given_by, node_read}
use Rattle.bay_replies.specs.Plain.{HasGroups, IsPlainLeaf, IsPlainTree, ArePlainTrees, IsPlainNode}
use Rattle.bay_replies.specs.Points.{arrivals}
use Rattle.bay_replies.specs.Reading.{selecting_of}
use Rattle.bay_replies.specs.Standing.{IsServed, StandAt}
use Rattle.bay_replies.proofs.NodeLaws.{node-plain}
use Rattle.bay_replies.proofs.PointLaws.{attribute-same, component-same}
use Rattle.list_laws.proofs.Places.{get-within as there}

-- ---- who holds an attribute

abbrev IsHeld : Access → Type 0
IsHeld model.edited = ⊥
IsHeld _ = Unit {0}

access-held : (fc : List ℕ) → IsHeld (access_of fc)
access-held fc = by (bytes_eq fc (codes "SG")) (bytes_eq fc (codes "CF")) (bytes_eq fc (codes "DC")) (bytes_eq fc (codes "SP")) (bytes_eq fc (codes "SV"))
  where
    by : (g f d p v : Bool) → IsHeld (if g then model.active else (if f || d || p || v then model.writable else model.reported))
    by true f d p v = tt
    by false true d p v = tt
    by false false true p v = tt
    by false false false true v = tt
    by false false false false true = tt
    by false false false false false = tt

abbrev IsHeldAttr : Attr → Type 0
IsHeldAttr a = IsHeld a.access

lines-held : (c : Config) (y : ℕ) (as_ : List AttrDef) → Each IsHeldAttr (attrs_defined c y as_)
lines-held c y [] = tt
lines-held c y (a ∷ as_) = (access-held a.fc, lines-held c (1 + y) as_)

each-map : {X Y : Type 0} (P : Y → Type 0) (f : X → Y) (xs : List X) → ((x : X) → P (f x)) → Each P (map f xs)
each-map P f [] h = tt
each-map P f (x ∷ xs) h = (h x, each-map P f xs h)

generated-held : (c : Config) (ks : List CtlDef) → Each IsHeldAttr (flat_map (attrs_generated c) ks)
generated-held c [] = tt
generated-held c (k ∷ ks) = each-both IsHeldAttr (attrs_generated c k) (flat_map (attrs_generated c) ks) (each-map IsHeldAttr _ (parameters k) (λ p. tt)) (generated-held c ks)

at-held : (xs ys : List Attr) (x : ℕ) → x < length xs → Each IsHeldAttr xs → IsHeldAttr (unwrap_or (slice_get (xs ++ ys) x) no_attr)
at-held [] ys x below h = absurd (omega (arith, below))
at-held (a ∷ xs) ys zero below h = h.0
at-held (a ∷ xs) ys (suc x) below h = at-held xs ys x (omega (arith, below)) h.1

-- lines, and what controls generate
line-held : (c : Config) (x : ℕ) → x < length c.attrs + length (generated c) → IsHeldAttr (attr_of (configured_model c) x)
line-held c x below =
    let lines : List Attr = attrs_defined c 0 c.attrs in
    let more : List Attr = flat_map (attrs_generated c) c.controls in
    subst (λ (as_ : List Attr). IsHeldAttr (unwrap_or (slice_get as_ x) no_attr)) (append_assoc lines more (twins c 0 c.attrs))
    (at-held (lines ++ more) (twins c 0 c.attrs) x (omega (arith, below, length-append lines more, lines-count c 0 c.attrs, generated-count c c.controls)) (each-both IsHeldAttr lines more (lines-held c 0 c.attrs) (generated-held c c.controls)))

held-read : (c : Model) (access : Access) (x : ℕ) (past : Past) → IsHeld access → read_attribute c access x past ≡ Ok (value_at c x past)
held-read c model.reported x past h = refl
held-read c model.writable x past h = refl
held-read c model.active x past h = refl
held-read c model.edited x past h = absurd h

-- ---- trees with the same leaves

module _ (attrs blocks : ℕ) (G : ℕ → Type 0) (f g : Leaf → Result Value ℕ) (same : (l : Leaf) → IsPlainLeaf attrs blocks G l → f l ≡ g l) where
  mutual
    pub tree-same : (t : Tree) → IsPlainTree attrs blocks G t → read_by f t ≡ read_by g t
    tree-same (leaf l) h = same l h
    tree-same (structure ts) h = ap structured (side-same ts h)

    side-same : (ts : Trees) → ArePlainTrees attrs blocks G ts → read_side f ts ≡ read_side g ts
    side-same none h = refl
    side-same (more t ts) h = ap₂ joined (tree-same t h.0) (side-same ts h.1)

-- what stands at a node of a configuration that is grouped
pub plain-at : (c : Config) → IsGrouped c → (x : ℕ) → IsPlainNode (length (attributes c)) (length c.blocks) (length c.controls) (HasGroups c) (node_of (configured_model c) x)
plain-at c grouped x = node-plain c (HasGroups c) (each-of (λ (g : SgDef). HasGroups c (domain_number c g.domain)) c.groups (groups-there c grouped)) x

-- ---- what is lent

module _ (r : Replies) (served : IsServed r.model.now r.store.now r.groups.now r.blocks.now r.book.now) (m n : ℕ) (past : Past) (stand : StandAt r.model.now r.store.now r.groups.now r.blocks.now r.book.now r.was past) (later : r.now ≡ max m r.was) (within : r.was ≤ 4294967295999) where
  abbrev c : Config
  c = r.model.now

  abbrev cm : Model
  cm = configured_model c

  abbrev groups : Grouped
  groups = r.groups.now

  -- where the edit copies begin
  abbrev from : ℕ
  from = length c.attrs + length (generated c)

  copies-from : copies_from r.store.now groups ≡ from
  copies-from = omega (arith, served.values, settings-count c groups served.framed)

  -- the edit copies
  copy-told : (k : ℕ) → k < length groups.settings → copy_read (copy_in groups k) ≡ read_attribute cm (attr_of cm (from + k)).access (from + k) past
  copy-told k below =
      ap (λ t. copy_read (if t then copy_of groups k else None)) (lt-ltb k (length groups.settings) below)
      ∙ (by (is_some (domain_at groups (setting_at groups k).domain).edit)
      ∙ (sym (copy-reads cm groups k (from + k) past stand.settings below (is-twin c groups served.framed k below))
      ∙ ap (λ a. read_attribute cm a (from + k) past) (sym (twin-edited c groups served.framed k below))))
    where
      by : (t : Bool) → copy_read (if t then Some (setting_at groups k).copy else None) ≡ (if t then Ok (setting_at groups k).copy.value else Err 2)
      by true = refl
      by false = refl

  -- with the copies from a number on
  abbrev read_from : ℕ → ℕ → Result Value ℕ
  read_from y x = if nat_le y x then copy_read (copy_in groups (x - y)) else if nat_lt x (length r.store.now) then Ok (store.attribute r.store.now x).held.value else Err 2

  attribute-told : (x : ℕ) → x < length (attributes c) → attribute_read r.store.now groups x ≡ read_attribute cm (attr_of cm x).access x past
  attribute-told x below = ap (λ y. read_from y x) copies-from ∙ either (nat_le from x) refl
    where
      stored-there : nat_lt x (length r.store.now) ≡ true
      stored-there = lt-ltb x (length r.store.now) (omega (arith, below, served.values))

      either : (t : Bool) → nat_le from x ≡ t → read_from from x ≡ read_attribute cm (attr_of cm x).access x past
      either false test =
          let h : x < from = grind (arith, nat_tests, test) in
          ap₂ (λ s t. if s then copy_read (copy_in groups (x - from)) else if t then Ok (store.attribute r.store.now x).held.value else Err 2) test stored-there
          ∙ (ap Ok (stand.values x (omega (arith, below, served.values)))
          ∙ sym (held-read cm (attr_of cm x).access x past (line-held c x h)))
      either true test =
          let h : from ≤ x = grind (arith, nat_tests, test) in
          let same : from + (x - from) ≡ x = omega (arith, h) in
          ap (λ s. if s then copy_read (copy_in groups (x - from)) else if nat_lt x (length r.store.now) then Ok (store.attribute r.store.now x).held.value else Err 2) test
          ∙ (copy-told (x - from) (omega (arith, h, below, settings-count c groups served.framed))
          ∙ ap (λ y. read_attribute cm (attr_of cm y).access y past) same)

  -- the components of setting group blocks
  part-again : (d : ℕ) (part : SettingComp) (before : Past) → read_setting cm d part (arrival n m ∷ before) ≡ read_setting cm d part before
  part-again d NumOfSG before = refl
  part-again d ActSG before = refl
  part-again d EditSG before = refl
  part-again d CnfEdit before = refl
  part-again d LActTm before = refl

  part-same : (d : ℕ) (part : SettingComp) (k : ℕ) → read_setting cm d part (arrivals n m k past) ≡ read_setting cm d part past
  part-same d part zero = refl
  part-same d part (suc k) = part-again d part (arrivals n m k past) ∙ part-same d part k

  part-told : (d : ℕ) (part : SettingComp) → HasGroups c d → part_read (domain_at groups d) part ≡ read_setting cm d part past
  part-told d part some = sym (reads cm groups d past (stand.settings.blocks d (domain-within c served.grouped groups served.framed d some) some) part)

  component-told : (b : ℕ) (comp : _) → b < length c.blocks → component_read r.was r.now comp (slice_get r.blocks.now b) ≡ Ok (read_component cm b comp (arrival n m ∷ past))
  component-told b comp below =
      let part = there r.blocks.now b (omega (arith, below, served.blocks)) in
      ap (component_read r.was r.now comp) part.1
      ∙ (ap₂ (λ w t. Ok (reading w t comp part.0)) stand.is_latest (later ∙ ap (max m) stand.is_latest)
      ∙ ap Ok (reads-ahead cm b m n comp past part.0 (stand.blocks b part.0 part.1) (subst (λ w. w ≤ 4294967295999) stand.is_latest within)))

  leaf-told : (k : ℕ) (l : Leaf) → IsPlainLeaf (length (attributes c)) (length c.blocks) (HasGroups c) l → leaf_read (given_by r) l ≡ leaf_read (read_leaf cm (arrivals n m (suc k) past)) l
  leaf-told k (attribute x) h = attribute-told x h ∙ sym (attribute-same cm m n (attr_of cm x).access x (suc k) past)
  leaf-told k (component b comp) h = component-told b comp h ∙ ap Ok (sym (component-same cm b m n comp k past))
  leaf-told k (setting d p) h = ap Ok (part-told d p h ∙ sym (part-same d p (suc k)))
  leaf-told k withheld h = refl

  -- each node that is no SBO reads as the model has it, at each point of the request
  pub node-told : (a k x : ℕ) → selecting_of (node_of cm x).role ≡ None → read_node cm a x (arrivals n m (suc k) past) ≡ outcome_of_read (node_read r x)
  node-told a k x other =
      let plain = plain-at c served.grouped x in
      let P : Past = arrivals n m (suc k) past in
      role-told (node_of cm x).role other
      ∙ ap outcome_of_read (sym (same-tree cm P (node_of cm x).tree) ∙ sym (tree-same (length (attributes c)) (length c.blocks) (HasGroups c) (leaf_read (given_by r)) (leaf_read (read_leaf cm P)) (leaf-told k) (node_of cm x).tree plain.tree))
    where
      role-told : (role : Role) → selecting_of role ≡ None → read_role cm a role (node_of cm x).tree (arrivals n m (suc k) past) ≡ outcome_of_read (read_tree cm (arrivals n m (suc k) past) (node_of cm x).tree)
      role-told (single l) h = refl
      role-told (selecting j) h = absurd cc
      role-told (calling j call) h = refl
      role-told several h = refl
