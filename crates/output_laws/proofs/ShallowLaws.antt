-- What a node reads as is at most ten deep.
use Rattle.std.proofs.Common.{◌≡◌, ℕ, ◌+◌, ◌<◌, ◌≤◌, ◌⊎◌, inl, inr, max, true, length, refl, sym, ap, ◌∙◌, arith}
use Rattle.std.specs.Prelude.{Option, None, Some, is_some, Result, Ok, Err, if◌then◌else◌}
use Rattle.sv_base.specs.Depth.{depth, depth_row}
use Rattle.sv_base.specs.Kinds.{Kind, truth, int, uint, bits, time, stamp, text, octets, entry_id, is_kind}
use Rattle.sv_base.specs.Tree.{Row}
use Rattle.sv_base.specs.declared.components.Comp.{Comp}
use Rattle.sv_base.specs.declared.components.Comp.TheVariants as comps
use Rattle.sv_base.specs.declared.components.SettingComp.{SettingComp}
use Rattle.sv_base.specs.declared.components.SettingComp.TheVariants.{NumOfSG, ActSG, EditSG, CnfEdit, LActTm}
use Rattle.sv_base.specs.declared.config.Config.{Config}
use Rattle.sv_base.specs.declared.config.AttrDef.{AttrDef}
use Rattle.sv_base.specs.declared.value.Value.{Value}
use Rattle.sv_base.specs.declared.value.Value.TheVariants as kinds
use Rattle.bay_model.specs.declared.access_errors.TheConstants.{TEMPORARILY_UNAVAILABLE}
use Rattle.bay_model.specs.Attributes.{attributes}
use Rattle.bay_model.specs.Components.{read_component, read_setting}
use Rattle.bay_model.specs.Lookups.{attr_of}
use Rattle.bay_model.specs.Model as model
use Rattle.bay_model.specs.Model.{Model, Attr, Access, Leaf, Tree, Trees, Role, single, selecting, calling, several}
use Rattle.bay_model.specs.Named.{configured_model}
use Rattle.bay_model.specs.NamedLines.{is_setting, domain_number}
use Rattle.bay_model.specs.Points.{Past}
use Rattle.bay_model.specs.Reads.{read_attribute, read_leaf, read_tree, read_trees, structured, joined}
use Rattle.bay_model.specs.Settings.{Edit, edit, copy, stored}
use Rattle.bay_config.specs.Servable.{IsServable}
use Rattle.bay_replies.specs.Plain.{HasGroups, IsPlainLeaf, IsPlainTree, ArePlainTrees}
use Rattle.output_laws.proofs.AttrLaws.{IsTwinAt, line-told, edited-twin}
use Rattle.output_laws.proofs.DeedLaws.{AreFine}
use Rattle.output_laws.proofs.DepthLaws.{IsFlat}
use Rattle.output_laws.proofs.TreeLaws.{depth_tree, depth_trees, HasWithheld, HaveWithheld}
use Rattle.output_laws.proofs.ValueLaws.{stored-at, value-typed}

-- at most so deep, where it is read
abbrev pub IsLow : ℕ → Result Value ℕ → Type 0
IsLow m (Ok v) = depth v ≤ m
IsLow m (Err code) = Unit {0}

abbrev IsLowRow : ℕ → Result Row ℕ → Type 0
IsLowRow m (Ok r) = depth_row r ≤ m
IsLowRow m (Err code) = Unit {0}

abbrev IsErr : {A : Type 0} → Result A ℕ → Type 0
IsErr (Ok v) = ⊥
IsErr (Err code) = Unit {0}

-- a structure is of no attribute's kind
pub no-struct : (k : Kind) (r : Row) → is_kind k (kinds.Struct r) ≡ true → ⊥
no-struct truth r h = cc h
no-struct (int w) r h = cc h
no-struct (uint w) r h = cc h
no-struct (bits n) r h = cc h
no-struct time r h = cc h
no-struct stamp r h = cc h
no-struct (text n) r h = cc h
no-struct (octets n) r h = cc h
no-struct entry_id r h = cc h

typed-low : (k : Kind) (v : Value) → is_kind k v ≡ true → depth v ≤ 1
typed-low k (kinds.Bool b) h = omega arith
typed-low k (kinds.Int z) h = omega arith
typed-low k (kinds.Uint n) h = omega arith
typed-low k (kinds.Bits b) h = omega arith
typed-low k (kinds.Time t) h = omega arith
typed-low k (kinds.Stamp t) h = omega arith
typed-low k (kinds.Text t) h = omega arith
typed-low k (kinds.Octets o) h = omega arith
typed-low k (kinds.Struct r) h = absurd (no-struct k r h)
typed-low k kinds.Other h = omega arith

component-low : (c : Model) (b : ℕ) (comp : Comp) (past : Past) → depth (read_component c b comp past) ≤ 1
component-low c b comps.RptID past = omega arith
component-low c b comps.RptEna past = omega arith
component-low c b comps.DatSet past = omega arith
component-low c b comps.ConfRev past = omega arith
component-low c b comps.OptFlds past = omega arith
component-low c b comps.BufTm past = omega arith
component-low c b comps.SqNum past = omega arith
component-low c b comps.TrgOps past = omega arith
component-low c b comps.IntgPd past = omega arith
component-low c b comps.GI past = omega arith
component-low c b comps.PurgeBuf past = omega arith
component-low c b comps.EntryID past = omega arith
component-low c b comps.TimeofEntry past = omega arith
component-low c b comps.ResvTms past = omega arith
component-low c b comps.Owner past = omega arith

setting-low : (c : Model) (d : ℕ) (comp : SettingComp) (past : Past) → depth (read_setting c d comp past) ≤ 1
setting-low c d NumOfSG past = omega arith
setting-low c d ActSG past = omega arith
setting-low c d EditSG past = omega arith
setting-low c d CnfEdit past = omega arith
setting-low c d LActTm past = omega arith

module _ (c : Config) (served : IsServable c) (past : Past) (fine : AreFine c past) where
  copy-low : (x : ℕ) → (attr_of (configured_model c) x).access ≡ model.edited → (o : Option Edit) → edit (attr_of (configured_model c) x).domain past ≡ o
      → IsLow 1 (if is_some o then Ok (stored (configured_model c) (attr_of (configured_model c) x).original past copy) else Err TEMPORARILY_UNAVAILABLE)
  copy-low x is None i = tt
  copy-low x is (Some e) i =
      let t : IsTwinAt c x = edited-twin c x is in
      let y : ℕ = (attr_of (configured_model c) x).original in
      let l = line-told c y t.line t.at in
      let domain : (attr_of (configured_model c) x).domain ≡ (attr_of (configured_model c) y).domain = t.domain ∙ sym (ap (λ (a : Attr). a.domain) l.0.is ∙ ap (λ (a : AttrDef). domain_number c a.domain) l.1) in
      let v = (stored-at c served y l.0 (ap is_setting l.1 ∙ t.setting) past fine).in_copy e (ap (λ d. edit d past) (sym domain) ∙ i) in
      typed-low _ (stored (configured_model c) y past copy) v.kind

  attribute-low : (x : ℕ) (k : Access) → (attr_of (configured_model c) x).access ≡ k → x < length (attributes c) → IsLow 1 (read_attribute (configured_model c) k x past)
  attribute-low x model.edited is below = copy-low x is (edit (attr_of (configured_model c) x).domain past) refl
  attribute-low x model.reported is below = typed-low _ _ (value-typed c served x below past fine).kind
  attribute-low x model.writable is below = typed-low _ _ (value-typed c served x below past fine).kind
  attribute-low x model.active is below = typed-low _ _ (value-typed c served x below past fine).kind

  leaf-low : (l : Leaf) → IsPlainLeaf (length (attributes c)) (length c.blocks) (HasGroups c) l → IsLow 1 (read_leaf (configured_model c) past l)
  leaf-low (model.attribute x) h = attribute-low x (attr_of (configured_model c) x).access refl h
  leaf-low (model.component b comp) h = component-low (configured_model c) b comp past
  leaf-low (model.setting d comp) h = setting-low (configured_model c) d comp past
  leaf-low model.withheld h = tt

  structured-low : (m : ℕ) (r : Result Row ℕ) → IsLowRow m r → IsLow (1 + m) (structured r)
  structured-low m (Ok r) h = omega (arith, h)
  structured-low m (Err n) h = tt

  joined-low : (m n : ℕ) (v : Result Value ℕ) (r : Result Row ℕ) → IsLow m v → IsLowRow n r → IsLowRow (max m n) (joined v r)
  joined-low m n (Ok v) (Ok r) h k = omega (arith, h, k)
  joined-low m n (Ok v) (Err e) h k = tt
  joined-low m n (Err e) (Ok r) h k = tt
  joined-low m n (Err e) (Err f) h k = tt

  mutual
    tree-low : (t : Tree) → IsPlainTree (length (attributes c)) (length c.blocks) (HasGroups c) t → IsLow (depth_tree t) (read_tree (configured_model c) past t)
    tree-low (model.leaf l) h = leaf-low l h
    tree-low (model.structure ts) h = structured-low (depth_trees ts) (read_trees (configured_model c) past ts) (trees-low ts h)

    trees-low : (ts : Trees) → ArePlainTrees (length (attributes c)) (length c.blocks) (HasGroups c) ts → IsLowRow (depth_trees ts) (read_trees (configured_model c) past ts)
    trees-low model.none h = omega arith
    trees-low (model.more t ts) h = joined-low (depth_tree t) (depth_trees ts) (read_tree (configured_model c) past t) (read_trees (configured_model c) past ts) (tree-low t h.0) (trees-low ts h.1)

  -- a leaf that is withheld refuses it
  structured-err : (r : Result Row ℕ) → IsErr r → IsErr (structured r)
  structured-err (Ok r) h = absurd h
  structured-err (Err n) h = tt

  joined-err : (v : Result Value ℕ) (r : Result Row ℕ) → IsErr v ⊎ IsErr r → IsErr (joined v r)
  joined-err (Ok v) (Ok r) (inl h) = h
  joined-err (Ok v) (Ok r) (inr h) = h
  joined-err (Ok v) (Err e) h = tt
  joined-err (Err e) (Ok r) h = tt
  joined-err (Err e) (Err f) h = tt

  mutual
    tree-err : (t : Tree) → HasWithheld t → IsErr (read_tree (configured_model c) past t)
    tree-err (model.leaf model.withheld) w = tt
    tree-err (model.leaf (model.attribute x)) w = absurd w
    tree-err (model.leaf (model.component b k)) w = absurd w
    tree-err (model.leaf (model.setting d k)) w = absurd w
    tree-err (model.structure ts) w = structured-err (read_trees (configured_model c) past ts) (trees-err ts w)

    trees-err : (ts : Trees) → HaveWithheld ts → IsErr (read_trees (configured_model c) past ts)
    trees-err model.none w = absurd w
    trees-err (model.more t ts) (inl w) = joined-err (read_tree (configured_model c) past t) (read_trees (configured_model c) past ts) (inl (tree-err t w))
    trees-err (model.more t ts) (inr w) = joined-err (read_tree (configured_model c) past t) (read_trees (configured_model c) past ts) (inr (trees-err ts w))

  err-low : (m : ℕ) (r : Result Value ℕ) → IsErr r → IsLow m r
  err-low m (Ok v) h = absurd h
  err-low m (Err n) h = tt

  lift-low : (m n : ℕ) (r : Result Value ℕ) → m ≤ n → IsLow m r → IsLow n r
  lift-low m n (Ok v) le h = omega (arith, le, h)
  lift-low m n (Err e) le h = tt

  pub flat-low : (t : Tree) → IsPlainTree (length (attributes c)) (length c.blocks) (HasGroups c) t → IsFlat t → IsLow 10 (read_tree (configured_model c) past t)
  flat-low t plain (inl le) = lift-low (depth_tree t) 10 (read_tree (configured_model c) past t) le (tree-low t plain)
  flat-low t plain (inr w) = err-low 10 (read_tree (configured_model c) past t) (tree-err t w)
