-- What a single read gives (IEC 61850-7-2, GetDataValues, GetBRCBValues, GetSGCBValues, GetEditSGValue and Select).
use Rattle.std.specs.Prelude.{ℕ, [], is_some, Result, Ok, Err, if◌then◌else◌}
use Rattle.sv_base.specs.Tree.{Row, none, more}
use Rattle.sv_base.specs.Seen.{seen_of}
use Rattle.sv_base.specs.declared.value.Value.{Value}
use Rattle.sv_base.specs.declared.value.Value.TheVariants as kinds
use Rattle.bay_model.specs.Model as model
use Rattle.bay_model.specs.Model.{Model, Access, Leaf, Tree, Trees, Role, single, selecting, calling, several, SettingComp, NumOfSG, ActSG, EditSG, CnfEdit, LActTm}
use Rattle.bay_model.specs.Lookups.{attr_of, control_of, node_of}
use Rattle.bay_model.specs.Points.{selected_control, nothing, Past}
use Rattle.bay_model.specs.Settings.{edit, stored, copy}
use Rattle.bay_model.specs.Values.{value_at}
use Rattle.bay_model.specs.Calls.{can_select}
use Rattle.bay_model.specs.Outcomes.{Outcome, gave, refused}
use Rattle.bay_model.specs.Components.{read_component, read_setting}
use Rattle.bay_model.specs.declared.access_errors.TheConstants.{TEMPORARILY_UNAVAILABLE, OBJECT_ACCESS_DENIED}

-- under SE the edit copy, for every association, or temporarily-unavailable where nobody holds the edit; else the value
abbrev pub read_attribute : Model → Access → ℕ → Past → Result Value ℕ
read_attribute c model.edited x past = if is_some (edit (attr_of c x).domain past) then Ok (stored c (attr_of c x).original past copy) else Err TEMPORARILY_UNAVAILABLE
read_attribute c _ x past = Ok (value_at c x past)

-- what stands under CO gives object-access-denied
abbrev pub read_leaf : Model → Past → Leaf → Result Value ℕ
read_leaf c past (model.attribute x) = read_attribute c (attr_of c x).access x past
read_leaf c past (model.component b comp) = Ok (read_component c b comp past)
read_leaf c past (model.setting d part) = Ok (read_setting c d part past)
read_leaf c past model.withheld = Err OBJECT_ACCESS_DENIED

abbrev pub structured : Result Row ℕ → Result Value ℕ
structured (Ok r) = Ok (kinds.Struct r)
structured (Err code) = Err code

abbrev pub joined : Result Value ℕ → Result Row ℕ → Result Row ℕ
joined (Ok v) (Ok r) = Ok (more (seen_of v) r)
joined (Ok v) (Err code) = Err code
joined (Err code) r = Err code

-- a structure gives its parts in order, or the first refused part's code
abbrev mutual
  pub read_tree : Model → Past → Tree → Result Value ℕ
  read_tree c past (model.leaf l) = read_leaf c past l
  read_tree c past (model.structure ts) = structured (read_trees c past ts)

  pub read_trees : Model → Past → Trees → Result Row ℕ
  read_trees c past model.none = Ok none
  read_trees c past (model.more t ts) = joined (read_tree c past t) (read_trees c past ts)

abbrev pub outcome_of_read : Result Value ℕ → Outcome
outcome_of_read (Ok v) = gave v nothing
outcome_of_read (Err code) = refused code

-- a read of SBO selects the control and gives its reference, or it gives the empty text
abbrev pub read_role : Model → ℕ → Role → Tree → Past → Outcome
read_role c a (selecting k) tree past = if can_select c k past then gave (kinds.Text (control_of c k).reference) (selected_control a k) else gave (kinds.Text []) nothing
read_role c a _ tree past = outcome_of_read (read_tree c past tree)

-- a's read of a node; past ends with the moment of the read
abbrev pub read_node : Model → ℕ → ℕ → Past → Outcome
read_node c a n past = read_role c a (node_of c n).role (node_of c n).tree past
