-- The model of a bay: what it is configured with, as far as its answers need it (IEC 61850-7-2, the information model;
-- IEC 61850-8-1, its MMS names). Nodes, attributes, blocks, controls and domains are known by their numbers from 0,
-- which are their places in these lists.
use Rattle.std.specs.Prelude.{ℕ, Bool, List}
use Rattle.sv_base.specs.declared.value.Value.{Value}
pub use Rattle.bay_model.specs.Roles.{Access, reported, writable, active, edited, Kind, truth, int, uint, bits, time, stamp, text, octets, entry_id, SettingComp, NumOfSG, ActSG, EditSG, CnfEdit, LActTm, Call, select, operate, cancel, Leaf, attribute, component, setting, withheld, Tree, leaf, structure, Trees, none, more, Role, single, selecting, calling, several}

-- a data attribute, with its trigger conditions dchg, qchg and dupd (IEC 61850-7-2, TriggerConditions)
pub record Attr : Type 0 where
  pub access : Access
  pub kind : Kind
  pub dchg : Bool
  pub qchg : Bool
  pub dupd : Bool
  -- its configured value; under SG and SE that of each group
  pub initial : List Value
  -- the number of its domain
  pub domain : ℕ
  -- under SE, the number of the SG attribute that it edits
  pub original : ℕ

-- a node of the tree of names: the item `LN$FC$DO` of a domain, say
pub record Node : Type 0 where
  pub domain : List ℕ
  pub item : List ℕ
  pub role : Role
  pub tree : Tree
  -- its attributes, in the order of its type
  pub attrs : List ℕ
  -- whether it may be a member of a data set, its largest Data within the limit
  pub allowed : Bool

-- a data set, `LN$NAME` of a domain, and the nodes that are its members (IEC 61850-7-2, DATA-SET)
pub record DataSet : Type 0 where
  pub domain : List ℕ
  pub item : List ℕ
  pub nodes : List ℕ

-- the attributes of a report block that a client sets once for many reports (IEC 61850-7-2, BRCB attributes)
pub record Parameters : Type 0 where
  pub rpt_id : List ℕ
  pub dat_set : List ℕ
  pub opt_flds : List Bool
  pub buf_tm : ℕ
  pub trg_ops : List Bool
  pub intg_pd : ℕ

-- a buffered report control block, and the octets that its buffer holds
pub record Block : Type 0 where
  pub reference : List ℕ
  pub initial : Parameters
  pub conf_rev : ℕ
  pub capacity : ℕ

-- a control (IEC 61850-7-2, the control class model): ctlModel, sboTimeout, sboClass and the type of its ctlVal
pub record Control : Type 0 where
  -- `LD/LN$CO$DO`
  pub reference : List ℕ
  pub model : ℕ
  pub timeout : ℕ
  pub sbo_class : ℕ
  pub kind : Kind

-- the setting groups of a domain: how many, and the one that is active at first; 0 where it has no block of them
pub record Groups : Type 0 where
  pub count : ℕ
  pub active : ℕ

pub record Model : Type 0 where
  pub domains : List (List ℕ)
  pub nodes : List Node
  pub attrs : List Attr
  pub sets : List DataSet
  pub blocks : List Block
  pub controls : List Control
  -- one for each domain
  pub groups : List Groups
