-- A configuration's text is one that a bay serves.
use Rattle.std.proofs.Common.{◌≡◌, ℕ, List}
use Rattle.std.specs.Prelude.{Ok}
use Rattle.std.specs.List.{All}
use Rattle.sv_base.specs.declared.config.Config.{Config}
use Rattle.sv_base.specs.declared.config.AttrDef.{AttrDef}
use Rattle.bay_rooms.specs.Slots.{IsSettable}
use Rattle.cfg_parser.specs.Looking.{config_at}
use Rattle.cfg_text.proofs.WholeLaws.{config-told}
use Rattle.bay_config.specs.Servable.{IsServable}
use Rattle.text_configs.proofs.ServableLaws.{texts-are-served}

pub served : (text : List ℕ) (c : Config) → config_at text ≡ Ok c → IsServable c
served text c read = texts-are-served text c (config-told text c read)

pub settable : (c : Config) → IsServable c → All (λ (a : AttrDef). IsSettable a.kind) c.attrs
settable c s = λ i d lt. (s.storable.lines i d lt).settable
