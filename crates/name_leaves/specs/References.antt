-- The references of a configuration's blocks, controls and attributes, each list in the order of their numbers
-- (IEC 61850-7-2, ObjectReference; IEC 61850-8-1, the names of BRCB, of controls and of data attributes).
use Rattle.std.specs.Prelude.{ℕ, List, map}
use Rattle.sv_base.specs.declared.config.Config.{Config}
use Rattle.bay_model.specs.Configured.{block_defined, control_defined}
use Rattle.name_leaves.specs.Attributes.{attrs, references_of}

abbrev pub block_references : Config → List (List ℕ)
block_references c = map (λ b. (block_defined b).reference) c.blocks

abbrev pub control_references : Config → List (List ℕ)
control_references c = map (λ k. (control_defined k).reference) c.controls

abbrev pub attr_references : Config → List (List ℕ)
attr_references c = references_of (attrs c)
