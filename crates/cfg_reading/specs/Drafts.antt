-- The configuration of a draft.
use Rattle.sv_base.specs.declared.config.Config.{Config}
use Rattle.cfg_reading.specs.declared.draft.Draft.{Draft}

-- what is made of a draft
abbrev pub drafted : Draft → Config
drafted d = record {
  vendor = d.vendor;
  model = d.model;
  revision = d.revision;
  nodes = d.nodes.items;
  attrs = d.attrs.items;
  sets = d.sets.items;
  blocks = d.blocks.items;
  controls = d.controls.items;
  groups = d.groups.items;
}
