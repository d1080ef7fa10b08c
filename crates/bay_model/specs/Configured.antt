-- The model of a configuration: its domains, report blocks, controls and setting groups are functions of the
-- configuration; its tree of names, with the attributes and the data sets that name its nodes, is a record that is given
-- beside it (IEC 61850-7-2, the information model; IEC 61850-8-1, the names of blocks and controls).
use Rattle.std.specs.Prelude.{ℕ, List, [], ◌∷◌, ◌++◌, map, unwrap_or, if◌then◌else◌, codes}
use Rattle.std.specs.Option.{option_map}
use Rattle.std.specs.List.{list_any, find}
use Rattle.std.specs.Str.{bytes_eq}
use Rattle.sv_base.specs.declared.config.Config.{Config}
use Rattle.sv_base.specs.declared.config.LnDef.{LnDef}
use Rattle.sv_base.specs.declared.config.BlockDef.{BlockDef}
use Rattle.sv_base.specs.declared.config.CtlDef.{CtlDef}
use Rattle.sv_base.specs.declared.config.SgDef.{SgDef}
use Rattle.sv_base.specs.Kinds.{kind_of}
use Rattle.bay_model.specs.Model.{Model, Node, Attr, DataSet, Block, Control, Groups}
use Rattle.bay_model.specs.Lookups.{reference_of}

-- the tree of names: nodes and attributes by their numbers, and the configured data sets by the numbers of their nodes
pub record NameTree : Type 0 where
  pub nodes : List Node
  pub attrs : List Attr
  pub sets : List DataSet

-- the domains in the order in which logical nodes first name them
abbrev pub with_domain : List (List ℕ) → List ℕ → List (List ℕ)
with_domain domains d = if list_any (bytes_eq d) domains then domains else domains ++ d ∷ []

abbrev pub domains_after : List (List ℕ) → List LnDef → List (List ℕ)
domains_after domains [] = domains
domains_after domains (n ∷ ns) = domains_after (with_domain domains n.domain) ns

-- `LD/LN$BR$NAME`, and the parameters that a block begins with
abbrev pub block_defined : BlockDef → Block
block_defined b = record {
  reference = reference_of b.domain (b.ln ++ codes "$BR$" ++ b.name);
  initial = record { rpt_id = b.rpt_id; dat_set = b.dat_set; opt_flds = b.opt_flds; buf_tm = b.buf_tm; trg_ops = b.trg_ops; intg_pd = b.intg_pd };
  conf_rev = b.conf_rev;
  capacity = b.capacity;
}

-- `LD/LN$CO$DO`
abbrev pub control_defined : CtlDef → Control
control_defined k = record { reference = reference_of k.domain (k.ln ++ codes "$CO$" ++ k.path); model = k.model; timeout = k.timeout; sbo_class = k.class; kind = kind_of k.kind }

-- the setting groups of a domain
abbrev pub groups_defined : List SgDef → List ℕ → Groups
groups_defined gs domain = unwrap_or (option_map (λ (g : SgDef). record { count = g.count; active = g.active }) (find (λ (g : SgDef). bytes_eq domain g.domain) gs)) (record { count = 0; active = 0 })

abbrev pub model_of : Config → NameTree → Model
model_of c names = record {
  domains = domains_after [] c.nodes;
  nodes = names.nodes;
  attrs = names.attrs;
  sets = names.sets;
  blocks = map block_defined c.blocks;
  controls = map control_defined c.controls;
  groups = map (groups_defined c.groups) (domains_after [] c.nodes);
}
