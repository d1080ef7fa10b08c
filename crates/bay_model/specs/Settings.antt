-- Setting groups: which is active, who edits one, and what each holds (IEC 61850-7-2, SETTING-GROUP-CONTROL-BLOCK:
-- ActSG, EditSG, CnfEdit and LActTm).
use Rattle.std.specs.Prelude.{ℕ, ◌-◌, Bool, false, not, ◌&&◌, ◌==◌, nat_lt, List, [], ◌∷◌, Option, None, Some, unwrap_or, slice_get, if◌then◌else◌}
use Rattle.std.specs.Option.{option_or, option_map_or}
use Rattle.sv_base.specs.declared.value.Value.{Value}
use Rattle.sv_base.specs.declared.value.Value.TheVariants as kinds
use Rattle.bay_model.specs.declared.step.Setting.{Setting}
use Rattle.bay_model.specs.Model.{Model}
use Rattle.bay_model.specs.Lookups.{attr_of, groups_of}
use Rattle.bay_model.specs.Points.{Deed, lost, valued, copied, activated, edited, confirmed, Past, now}

abbrev pub active_after : ℕ → Deed → ℕ → ℕ
active_after d (activated a e n) was = if e == d then n else was
active_after d _ was = was

-- the active group of a domain: that of the last accepted ActSG, else the configured one
abbrev pub active : Model → ℕ → Past → ℕ
active c d [] = (groups_of c d).active
active c d (p ∷ before) = active_after d p.deed (active c d before)

abbrev pub activation_after : ℕ → ℕ → Deed → Option ℕ → Option ℕ
activation_after d moment (activated a e n) was = if e == d then Some moment else was
activation_after d moment _ was = was

-- LActTm: `now` at the last accepted ActSG, where there is one
abbrev pub activation : ℕ → Past → Option ℕ
activation d [] = None
activation d (p ∷ before) = activation_after d (now (p ∷ before)) p.deed (activation d before)

-- who holds the edit of a domain, and the group whose copy it is
pub record Edit : Type 0 where
  pub holder : ℕ
  pub group : ℕ

-- an edit is a's, and another's
abbrev pub is_held_by : ℕ → Option Edit → Bool
is_held_by a edit = option_map_or (λ (e : Edit). e.holder == a) edit false

abbrev pub is_held_by_another : ℕ → Option Edit → Bool
is_held_by_another a edit = option_map_or (λ (e : Edit). not (e.holder == a)) edit false

abbrev pub edit_after : ℕ → Deed → Option Edit → Option Edit
edit_after d (edited a e n) was = if e == d then (if n == 0 then None else Some (record { holder = a; group = n })) else was
edit_after d (confirmed a e) was = if e == d then None else was
edit_after d (lost a) was = if is_held_by a was then None else was
edit_after d _ was = was

-- the last accepted EditSG above 0 that no accepted CnfEdit TRUE and no loss of its association follows
abbrev pub edit : ℕ → Past → Option Edit
edit d [] = None
edit d (p ∷ before) = edit_after d p.deed (edit d before)

-- what the settings of a process step give attribute x: the last one of it counts
abbrev pub set_to : ℕ → List Setting → Option Value
set_to x [] = None
set_to x (s ∷ later) = option_or (set_to x later) (if s.attr.0 == x then Some s.value else None)

-- where a value of an SG attribute is stored: in the edit copy, or in group g
pub data Place : Type 0 where
  copy : Place
  group : ℕ → Place

-- group g of domain d is the one that is edited
abbrev pub is_edited : ℕ → ℕ → Past → Bool
is_edited d g past = option_map_or (λ (e : Edit). e.group == g) (edit d past) false

-- What the copy holds: the last SE write that was accepted since the holder's EditSG, else what the group held at that
-- EditSG. What group g holds is given by the last of: an accepted CnfEdit TRUE of the group, which gives the copy; a
-- process step that sets x while the group is active; else the configuration.
abbrev pub stored_after : Model → ℕ → Deed → Past → Place → (Place → Value) → Value
stored_after c x (copied a y v) before copy was = if y == x then v else was copy
stored_after c x (edited a d n) before copy was = if (d == (attr_of c x).domain) && nat_lt 0 n then was (group n) else was copy
stored_after c x (confirmed a d) before (group g) was = if (d == (attr_of c x).domain) && is_edited d g before then was copy else was (group g)
stored_after c x (valued settings) before (group g) was = if active c (attr_of c x).domain before == g then unwrap_or (set_to x settings) (was (group g)) else was (group g)
stored_after c x _ before place was = was place

abbrev pub configured_at : Model → ℕ → Place → Value
configured_at c x copy = kinds.Other
configured_at c x (group g) = unwrap_or (slice_get (attr_of c x).initial (g - 1)) kinds.Other

-- the value of SG attribute x at a place
abbrev pub stored : Model → ℕ → Past → Place → Value
stored c x [] place = configured_at c x place
stored c x (p ∷ before) place = stored_after c x p.deed before place (stored c x before)
