-- What is read stays the same at points that select controls alone.
use Rattle.std.proofs.Common.{◌≡◌, ◌∙◌, ℕ, max, ◌∷◌, refl, ap, ap₂, arith}
use Rattle.std.specs.Prelude.{Bool, true, false, if◌then◌else◌, [], Result, Ok, Err}
use Rattle.sv_base.specs.declared.value.Value.{Value}
use Rattle.sv_base.specs.declared.value.Value.TheVariants as kinds
use Rattle.sv_base.specs.declared.components.Comp.{Comp}
use Rattle.sv_base.specs.declared.components.Comp.TheVariants as comps
use Rattle.sv_base.specs.declared.components.SettingComp.{SettingComp}
use Rattle.sv_base.specs.declared.components.SettingComp.TheVariants.{NumOfSG, ActSG, EditSG, CnfEdit, LActTm}
use Rattle.bay_model.specs.declared.request.Target.{Target}
use Rattle.bay_model.specs.declared.request.Target.TheVariants as targets
use Rattle.bay_model.specs.Calls.{can_select}
use Rattle.bay_model.specs.Components.{read_component, read_setting}
use Rattle.bay_model.specs.Lookups.{attr_of, control_of, node_of}
use Rattle.bay_model.specs.Model as model
use Rattle.bay_model.specs.Model.{Model, Access, Leaf, Tree, Trees, Role, selecting}
use Rattle.bay_model.specs.Outcomes.{deed_of, gave}
use Rattle.bay_model.specs.Points.{Deed, nothing, selected_control, Past, now}
use Rattle.bay_model.specs.Reads.{read_attribute, read_leaf, read_tree, read_trees, read_role, structured, joined, outcome_of_read}
use Rattle.bay_model.specs.Singles.{arrival, outcome_at, read_of}
use Rattle.bay_model.specs.Reservations.{reservation}
use Rattle.bay_replies.proofs.PointLaws.{component-again, lasting-again}
use Rattle.window_core.specs.Points.{at}

-- nothing came, or a control was selected
abbrev pub IsIdle : Deed → Type 0
IsIdle nothing = Unit {0}
IsIdle (selected_control a k) = Unit {0}
IsIdle _ = ⊥

-- ---- reads of variables are so

idle-read : (r : Result Value ℕ) → IsIdle (deed_of (outcome_of_read r))
idle-read (Ok v) = tt
idle-read (Err code) = tt

idle-role : (m : Model) (a : ℕ) (r : Role) (tree : Tree) (past : Past) → IsIdle (deed_of (read_role m a r tree past))
idle-role m a (selecting k) tree past = by (can_select m k past) where
  by : (b : Bool) → IsIdle (deed_of (if b then gave (kinds.Text (control_of m k).reference) (selected_control a k) else gave (kinds.Text []) nothing))
  by true = tt
  by false = tt
idle-role m a _ tree past = idle-read (read_tree m past tree)

pub idle-target : (m : Model) (a n t : ℕ) (x : Target) (past : Past) → IsIdle (deed_of (outcome_at m a n t (read_of x) past))
idle-target m a n t (targets.Node id name) past = idle-role m a (node_of m id.0).role (node_of m id.0).tree (arrival n t ∷ past)
idle-target m a n t (targets.Missing name) past = tt
idle-target m a n t (targets.Alternate name) past = tt

-- ---- leaves

module _ (m : Model) (n t : ℕ) where
  attribute-selects : (a k : ℕ) (access : Access) (x : ℕ) (past : Past) → read_attribute m access x (arrival n t ∷ at n t (selected_control a k) ∷ past) ≡ read_attribute m access x (arrival n t ∷ past)
  attribute-selects a k model.reported x past = refl
  attribute-selects a k model.writable x past = refl
  attribute-selects a k model.active x past = refl
  attribute-selects a k model.edited x past = refl

  attribute-again : (access : Access) (x : ℕ) (past : Past) → read_attribute m access x (arrival n t ∷ arrival n t ∷ past) ≡ read_attribute m access x (arrival n t ∷ past)
  attribute-again model.reported x past = refl
  attribute-again model.writable x past = refl
  attribute-again model.active x past = refl
  attribute-again model.edited x past = refl

  setting-selects : (a k d : ℕ) (part : SettingComp) (past : Past) → read_setting m d part (arrival n t ∷ at n t (selected_control a k) ∷ past) ≡ read_setting m d part (arrival n t ∷ past)
  setting-selects a k d NumOfSG past = refl
  setting-selects a k d ActSG past = refl
  setting-selects a k d EditSG past = refl
  setting-selects a k d CnfEdit past = refl
  setting-selects a k d LActTm past = refl

  setting-again : (d : ℕ) (part : SettingComp) (past : Past) → read_setting m d part (arrival n t ∷ arrival n t ∷ past) ≡ read_setting m d part (arrival n t ∷ past)
  setting-again d NumOfSG past = refl
  setting-again d ActSG past = refl
  setting-again d EditSG past = refl
  setting-again d CnfEdit past = refl
  setting-again d LActTm past = refl

  component-selects : (a k b : ℕ) (comp : Comp) (past : Past) → read_component m b comp (at n t (selected_control a k) ∷ past) ≡ read_component m b comp (arrival n t ∷ past)
  component-selects a k b comps.RptID past = refl
  component-selects a k b comps.RptEna past = refl
  component-selects a k b comps.DatSet past = refl
  component-selects a k b comps.ConfRev past = refl
  component-selects a k b comps.OptFlds past = refl
  component-selects a k b comps.BufTm past = refl
  component-selects a k b comps.SqNum past = refl
  component-selects a k b comps.TrgOps past = refl
  component-selects a k b comps.IntgPd past = refl
  component-selects a k b comps.GI past = refl
  component-selects a k b comps.PurgeBuf past = refl
  component-selects a k b comps.EntryID past = refl
  component-selects a k b comps.TimeofEntry past = refl
  component-selects a k b comps.ResvTms past = refl
  component-selects a k b comps.Owner past = refl

  leaf-selects : (a k : ℕ) (l : Leaf) (past : Past) → read_leaf m (arrival n t ∷ at n t (selected_control a k) ∷ past) l ≡ read_leaf m (arrival n t ∷ past) l
  leaf-selects a k (model.attribute x) past = attribute-selects a k (attr_of m x).access x past
  leaf-selects a k (model.component b comp) past = ap Ok (component-again m b t n comp (at n t (selected_control a k)) past (omega arith) (lasting-again t (max t (now past)) (reservation b past) (omega arith)) ∙ component-selects a k b comp past)
  leaf-selects a k (model.setting d part) past = ap Ok (setting-selects a k d part past)
  leaf-selects a k model.withheld past = refl

  leaf-again : (l : Leaf) (past : Past) → read_leaf m (arrival n t ∷ arrival n t ∷ past) l ≡ read_leaf m (arrival n t ∷ past) l
  leaf-again (model.attribute x) past = attribute-again (attr_of m x).access x past
  leaf-again (model.component b comp) past = ap Ok (component-again m b t n comp (arrival n t) past (omega arith) (lasting-again t (max t (now past)) (reservation b past) (omega arith)))
  leaf-again (model.setting d part) past = ap Ok (setting-again d part past)
  leaf-again model.withheld past = refl

  leaf-idle : (d : Deed) (past : Past) → IsIdle d → (l : Leaf) → read_leaf m (arrival n t ∷ at n t d ∷ past) l ≡ read_leaf m (arrival n t ∷ past) l
  leaf-idle nothing past is l = leaf-again l past
  leaf-idle (selected_control a k) past is l = leaf-selects a k l past
  leaf-idle _ past is l = absurd is

-- ---- trees

module _ (m : Model) (p q : Past) (same : (l : Leaf) → read_leaf m p l ≡ read_leaf m q l) where
  mutual
    tree-same : (tree : Tree) → read_tree m p tree ≡ read_tree m q tree
    tree-same (model.leaf l) = same l
    tree-same (model.structure ts) = ap structured (side-same ts)

    side-same : (ts : Trees) → read_trees m p ts ≡ read_trees m q ts
    side-same model.none = refl
    side-same (model.more tree ts) = ap₂ joined (tree-same tree) (side-same ts)

-- what is read at a further arrival is the same where nothing came before it but that a control was selected
pub tree-idle : (m : Model) (n t : ℕ) (d : Deed) (past : Past) → IsIdle d → (tree : Tree) → read_tree m (arrival n t ∷ at n t d ∷ past) tree ≡ read_tree m (arrival n t ∷ past) tree
tree-idle m n t d past is = tree-same m (arrival n t ∷ at n t d ∷ past) (arrival n t ∷ past) (leaf-idle m n t d past is)
