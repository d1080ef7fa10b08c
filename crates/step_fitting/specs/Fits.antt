-- Whether a step fits what there is: its numbers are in range, its settings of the types of their attributes, and its texts
-- and the names of domains visible (ISO 9506-2, VisibleString: octets 20 to 7E).
use Rattle.std.specs.Prelude.{ℕ, Bool, true, false, ◌&&◌, ◌||◌, ◌==◌, nat_le, nat_lt, List, length, Option, None, Some, slice_get}
use Rattle.std.specs.List.{list_all}
use Rattle.sv_base.specs.Tree.{Plain, Seen, Row, plain, structure, none, more, text, time}
use Rattle.sv_base.specs.Seen.{seen_of}
use Rattle.sv_base.specs.declared.types.TypeOf.{TypeOf}
use Rattle.sv_base.specs.declared.value.Value.{Value}
use Rattle.bay_model.specs.declared.request.ObjName.{ObjName}
use Rattle.bay_model.specs.declared.request.ObjName.TheVariants as names
use Rattle.bay_model.specs.declared.request.Target.{Target}
use Rattle.bay_model.specs.declared.request.Target.TheVariants as targets
use Rattle.bay_model.specs.declared.request.Write.{Write}
use Rattle.bay_model.specs.declared.request.SetName.{SetName}
use Rattle.bay_model.specs.declared.request.Service.{Service}
use Rattle.bay_model.specs.declared.request.Service.TheVariants as services
use Rattle.bay_model.specs.declared.step.Setting.{Setting}
use Rattle.bay_model.specs.declared.step.Step.{Step}
use Rattle.bay_model.specs.declared.step.Step.TheVariants as steps
use Rattle.sv_base.specs.Kinds.{kind_of, is_kind, is_in_range}
use Rattle.step_fitting.specs.declared.fitting.Counts.{Counts}
use Rattle.sv_base.specs.declared.rejections.TheConstants.{UNKNOWN_PDU, INVALID_PDU}

abbrev pub is_visible : List ℕ → Bool
is_visible octets = list_all (λ o. nat_le 32 o && nat_le o 126) octets

-- its texts are visible, and the parts of a second, in units of 2^-24 seconds, less than one
abbrev pub is_sound_plain : Plain → Bool
is_sound_plain (text t) = is_visible t
is_sound_plain (time secs frac quality) = nat_lt frac 16777216
is_sound_plain _ = true

abbrev mutual
  pub is_sound_seen : Seen → Bool
  is_sound_seen (plain p) = is_sound_plain p
  is_sound_seen (structure r) = are_sound r

  pub are_sound : Row → Bool
  are_sound none = true
  are_sound (more s r) = is_sound_seen s && are_sound r

abbrev pub is_sound : Value → Bool
is_sound v = is_sound_seen (seen_of v)

-- a domain-specific name is visible
abbrev pub name_fits : ObjName → Bool
name_fits (names.Domain domain item) = is_visible domain && is_visible item
name_fits _ = true

abbrev pub target_fits : Counts → Target → Bool
target_fits n (targets.Node node name) = nat_lt node.0 n.nodes && name_fits name
target_fits n (targets.Missing name) = name_fits name
target_fits n (targets.Alternate name) = name_fits name

abbrev pub write_fits : Counts → Write → Bool
write_fits n w = target_fits n w.target && is_sound w.value

-- a set that is named with a domain
abbrev pub set_fits : List ℕ → List ℕ → Bool
set_fits domain item = (length domain == 0) || (is_visible domain && is_visible item)

abbrev pub set_name_fits : SetName → Bool
set_name_fits s = set_fits s.domain s.item

abbrev pub service_fits : Counts → Service → Bool
service_fits n (services.TypeOfNode t) = target_fits n t
service_fits n (services.Read ts spec) = list_all (target_fits n) ts
service_fits n (services.ReadSet domain item spec) = set_fits domain item
service_fits n (services.WriteVars ws) = list_all (write_fits n) ws
service_fits n (services.WriteSet domain item vs) = set_fits domain item && are_sound vs
service_fits n (services.Define domain item members) = set_fits domain item && list_all (target_fits n) members
service_fits n (services.SetOf domain item) = set_fits domain item
service_fits n (services.Delete scope sets) = list_all set_name_fits sets
service_fits n (services.Reject number) = nat_le UNKNOWN_PDU number && nat_le number INVALID_PDU
service_fits n _ = true

-- of the type and the size of its attribute
abbrev pub is_typed : Option TypeOf → Value → Bool
is_typed None v = false
is_typed (Some k) v = is_kind (kind_of k) v && is_in_range (kind_of k) v

abbrev pub setting_fits : List TypeOf → Setting → Bool
setting_fits kinds s = is_typed (slice_get kinds s.attr.0) s.value && is_sound s.value

-- associations are numbered 1 to 16
abbrev pub is_association : ℕ → Bool
is_association a = nat_le 1 a && nat_le a 16

abbrev pub step_fits : Counts → List TypeOf → Step → Bool
step_fits n kinds (steps.Open a size writer owner) = is_association a.0 && (nat_le 1024 size && nat_le size 65000)
step_fits n kinds (steps.Ask a r) = is_association a.0 && service_fits n r.service
step_fits n kinds (steps.Write a b k v) = is_association a.0 && (nat_lt b.0 n.blocks && is_sound v)
step_fits n kinds (steps.Take a) = is_association a.0
step_fits n kinds (steps.Lost a) = is_association a.0
step_fits n kinds (steps.Value settings) = list_all (setting_fits kinds) settings
step_fits n kinds (steps.Done k good) = nat_lt k.0 n.controls
step_fits n kinds (steps.Block k flag) = nat_lt k.0 n.controls
step_fits n kinds steps.Tick = true
