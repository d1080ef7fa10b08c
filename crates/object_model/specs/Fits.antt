-- Whether a step fits a configuration: what it has is counted, and its attributes have their types.
use Rattle.std.specs.Prelude.{Bool, List, ◌++◌, map, flat_map, filter, length}
use Rattle.sv_base.specs.declared.config.Config.{Config}
use Rattle.sv_base.specs.declared.config.AttrDef.{AttrDef}
use Rattle.sv_base.specs.declared.config.CtlDef.{CtlDef}
use Rattle.sv_base.specs.declared.types.TypeOf.{TypeOf}
use Rattle.bay_model.specs.declared.step.Step.{Step}
use Rattle.bay_model.specs.Generated.{Parameter, parameters}
use Rattle.bay_model.specs.NamedLines.{is_setting}
pub use Rattle.step_fitting.specs.declared.fitting.Counts.{Counts}
pub use Rattle.step_fitting.specs.Fits.{is_visible, is_sound_plain, is_sound_seen, are_sound, is_sound, name_fits, target_fits, write_fits, set_fits, set_name_fits, service_fits, is_typed, setting_fits, is_association, step_fits}
use Rattle.name_tree.specs.Nodes.{node_rows}

-- the types of the attributes by their numbers
abbrev pub attr_types : Config → List TypeOf
attr_types c = map (λ (a : AttrDef). a.kind) c.attrs ++ (flat_map (λ (k : CtlDef). map (λ (p : Parameter). p.kind) (parameters k)) c.controls ++ map (λ (a : AttrDef). a.kind) (filter is_setting c.attrs))

abbrev pub fits : Config → Step → Bool
fits c step = step_fits (record { nodes = length (node_rows c); blocks = length c.blocks; controls = length c.controls }) (attr_types c) step
