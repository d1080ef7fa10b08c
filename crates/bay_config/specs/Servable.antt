-- Which configurations a bay serves: as a configuration's text has them (IEC 61850-7-2, DATA-SET, BRCB and SGCB attributes, and the control
-- class model).
use Rattle.std.specs.Prelude.{◌≡◌, ◌<◌, ◌≤◌, ◌⊎◌, ◌^◌, ℕ, true, List, [], map, length, is_some, slice_index_or}
use Rattle.std.specs.List.{All}
use Rattle.sv_base.specs.Fields.{shape_of}
use Rattle.sv_base.specs.Same.{values_of}
use Rattle.sv_base.specs.declared.config.Config.{Config}
use Rattle.sv_base.specs.declared.config.AttrDef.{AttrDef}
use Rattle.sv_base.specs.declared.config.BlockDef.{BlockDef}
use Rattle.sv_base.specs.declared.config.CtlDef.{CtlDef}
use Rattle.sv_base.specs.declared.types.TypeOf.{TypeOf}
use Rattle.sv_base.specs.declared.types.TypeOf.TheVariants as types
use Rattle.bay_model.specs.Model.{DataSet}
use Rattle.bay_model.specs.Attributes.{attributes}
use Rattle.bay_model.specs.Lookups.{node_of}
use Rattle.bay_model.specs.Reports.{reference_at}
use Rattle.bay_model.specs.Sets.{set_referred}
use Rattle.bay_model.specs.Named.{configured_model, nodes}
use Rattle.object_model.specs.Fits.{attr_types, is_sound}
use Rattle.object_model.specs.Tables.{node_type}
use Rattle.setting_groups.specs.Opened.{IsGrouped}
use Rattle.control_core.specs.Opening.{IsCtlKind}
use Rattle.value_store.specs.Leaves.{leaf_shapes}
use Rattle.value_store.specs.Opened.{IsStorable, HasDomains}
use Rattle.value_store.specs.Wholes.{HasForm, tree_attrs}

-- the type of attribute x
abbrev pub attr_type : Config → ℕ → TypeOf
attr_type c x = slice_index_or (attr_types c) x types.Bool

-- a node that a data set may have: it is there, and its value is made of its attributes, in the order of its type
pub record IsMember (c : Config) (n : ℕ) : Type 0 where
  pub there : n < length (nodes c)
  pub allowed : (node_of (configured_model c) n).allowed ≡ true
  pub form : HasForm (node_of (configured_model c) n).tree (shape_of (node_type c n))
  pub attrs : (node_of (configured_model c) n).attrs ≡ tree_attrs (node_of (configured_model c) n).tree
  pub within : All (λ x. x < length (attributes c)) (node_of (configured_model c) n).attrs
  pub kinds : leaf_shapes (shape_of (node_type c n)) ≡ map (λ x. shape_of (attr_type c x)) (node_of (configured_model c) n).attrs

-- a node that may be a member can be one, and has a short reference `LD/item` (IEC 61850-7-2, ObjectReference)
pub record IsShortMember (c : Config) (n : ℕ) : Type 0 where
  pub member : IsMember c n
  pub short : length (reference_at (configured_model c) n) ≤ 129

pub record IsServedSet (c : Config) (s : DataSet) : Type 0 where
  pub few : length s.nodes ≤ 256
  pub members : All (IsMember c) s.nodes
  -- their references `LD/item` (IEC 61850-7-2, ObjectReference)
  pub short : All (λ n. length (reference_at (configured_model c) n) ≤ 129) s.nodes

-- a block whose numbers of bits are those of OptFlds and TrgOps
pub record IsServedBlock (b : BlockDef) : Type 0 where
  pub opt_flds : length b.opt_flds ≡ 10
  pub trg_ops : length b.trg_ops ≡ 6

-- a DatSet that is empty or the reference of a configured data set
abbrev pub IsReferred : Config → List ℕ → Type 0
IsReferred c d = (d ≡ []) ⊎ (is_some (set_referred d (configured_model c).sets) ≡ true)

-- the values of an attribute's line have parts of a second below one, and visible texts
abbrev pub HasSoundValues : AttrDef → Type 0
HasSoundValues a = All (λ v. is_sound v ≡ true) (values_of a.values)

pub record IsServable (c : Config) : Type 0 where
  -- ctlVals are truth values or numbers of 32 bits
  pub controls : All (λ (k : CtlDef). IsCtlKind k.kind) c.controls
  pub few_controls : length c.controls ≤ 64
  -- sboTimeouts are numbers of 32 bits
  pub timeouts : All (λ (k : CtlDef). k.timeout < 2 ^ 32) c.controls
  pub grouped : IsGrouped c
  pub storable : IsStorable c
  pub sound : All HasSoundValues c.attrs
  pub domains : HasDomains c
  pub blocks : All IsServedBlock c.blocks
  pub few : length c.blocks ≤ 32
  pub sets : All (IsServedSet c) (configured_model c).sets
  pub named : All (λ (b : BlockDef). IsReferred c b.dat_set) c.blocks
  -- what clients may define data sets of
  pub allowed : (n : ℕ) → (node_of (configured_model c) n).allowed ≡ true → IsShortMember c n
