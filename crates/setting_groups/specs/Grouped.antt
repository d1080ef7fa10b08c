-- The setting group blocks of the domains, and the values of the SG attributes: how they go as clients and the process
-- write (IEC 61850-7-2, SelectActiveSG, SelectEditSG, SetEditSGValue and ConfirmEditSGValues).
use Rattle.std.specs.Prelude.{ℕ, suc, ◌-◌, Bool, false, not, ◌&&◌, ◌==◌, List, [], ◌∷◌, map, Option, None, Some, Result, Err, slice_index_or, slice_set, is_some, nat_lt, length, if◌then◌else◌}
use Rattle.std.specs.Option.{option_map, option_map_or}
use Rattle.sv_base.specs.declared.value.Value.{Value}
use Rattle.sv_base.specs.declared.value.Value.TheVariants as kinds
use Rattle.bay_model.specs.declared.step.Setting.{Setting}
use Rattle.bay_model.specs.Model.{truth}
use Rattle.bay_rooms.specs.Slots.{Held}
use Rattle.bay_model.specs.Outcomes.{first_of}
use Rattle.bay_model.specs.Settings.{Edit, is_held_by}
use Rattle.bay_model.specs.SettingWrites.{act_refusals, edit_refusals, confirm_refusals, attribute_refusals}
use Rattle.setting_groups.specs.declared.domain.Edit as declared
use Rattle.bay_model.specs.declared.access_errors.TheConstants.{TYPE_INCONSISTENT}

-- a domain's block: how many groups, the active one, who edits which, and when the active one was chosen
pub record Domained : Type 0 where
  pub count : ℕ
  pub active : ℕ
  pub edit : Option Edit
  pub last : Option ℕ

abbrev pub seen_edit : declared.Edit → Edit
seen_edit e = record { holder = e.holder.0; group = e.group }

-- an SG attribute: its number and its domain, its value in each group and in the edit copy
pub record Settled : Type 0 where
  pub attr : ℕ
  pub domain : ℕ
  pub groups : List Held
  pub copy : Held

pub record Grouped : Type 0 where
  pub domains : List Domained
  pub settings : List Settled

-- what a number of none has is of no account
abbrev pub no_domain : Domained
no_domain = record { count = 0; active = 0; edit = None; last = None }

abbrev pub no_setting : Settled
no_setting = record { attr = 0; domain = 0; groups = []; copy = record { value = kinds.Other; kind = truth } }

abbrev pub domain_at : Grouped → ℕ → Domained
domain_at s d = slice_index_or s.domains d no_domain

abbrev pub setting_at : Grouped → ℕ → Settled
setting_at s k = slice_index_or s.settings k no_setting

-- ---- a block

abbrev pub holds : ℕ → Domained → Bool
holds a d = is_held_by a d.edit

-- the number that EditSG reads
abbrev pub edit_number : Domained → ℕ
edit_number d = option_map_or (λ (e : Edit). e.group) d.edit 0

abbrev pub number_in : Value → ℕ
number_in (kinds.Uint n) = n
number_in _ = 0

abbrev pub is_on : Value → Bool
is_on (kinds.Bool on) = on
is_on _ = false

abbrev pub act_answer : Domained → Value → Result (Unit {0}) ℕ
act_answer d (kinds.Uint n) = first_of (act_refusals d.count n) tt
act_answer d _ = Err TYPE_INCONSISTENT

abbrev pub activated : ℕ → ℕ → Domained → Domained
activated n now d = record d { active = n; last = Some now }

abbrev pub edit_answer : ℕ → Domained → Value → Result (Unit {0}) ℕ
edit_answer a d (kinds.Uint n) = first_of (edit_refusals a d.count n d.edit) tt
edit_answer a d _ = Err TYPE_INCONSISTENT

abbrev pub edited : ℕ → ℕ → Domained → Domained
edited a n d = record d { edit = if n == 0 then None else Some (record { holder = a; group = n }) }

-- whether CnfEdit confirms
abbrev pub confirm_answer : ℕ → Domained → Value → Result Bool ℕ
confirm_answer a d (kinds.Bool on) = first_of (confirm_refusals a d.edit) on
confirm_answer a d _ = Err TYPE_INCONSISTENT

-- whether it does, and of the active group
abbrev pub stored_answer : ℕ → Domained → Value → Result Bool ℕ
stored_answer a d (kinds.Bool on) = first_of (confirm_refusals a d.edit) (on && (edit_number d == d.active))
stored_answer a d _ = Err TYPE_INCONSISTENT

abbrev pub unedited : Domained → Domained
unedited d = record d { edit = None }

abbrev pub left_by : ℕ → Domained → Domained
left_by a d = if holds a d then unedited d else d

-- the places of the active and of the edited group
abbrev pub active_place : Domained → ℕ
active_place d = d.active - 1

abbrev pub edit_place : Domained → ℕ
edit_place d = option_map_or (λ (e : Edit). e.group - 1) d.edit 0

-- ---- a setting

abbrev pub with_value : Value → Held → Held
with_value v h = record { value = v; kind = h.kind }

-- what comes of a write into the copy, by one who holds it or not
abbrev pub copy_answer : Bool → Settled → Value → Result (Unit {0}) ℕ
copy_answer is_held s v = first_of (attribute_refusals s.copy.kind v (not is_held)) tt

abbrev pub copied : Value → Settled → Settled
copied v s = record s { copy = with_value v s.copy }

-- the copy of the group at a place, in a domain
abbrev pub loaded : ℕ → ℕ → Settled → Settled
loaded d i s = if s.domain == d then record s { copy = slice_index_or s.groups i s.copy } else s

-- the copy is stored in the group at a place
abbrev pub stored_in : ℕ → ℕ → Settled → Settled
stored_in d i s = if s.domain == d then record s { groups = slice_set s.groups i s.copy } else s

-- the group at a place gets a value
abbrev pub put_in : ℕ → Value → Settled → Settled
put_in i v s = record s { groups = slice_set s.groups i (with_value v s.copy) }

-- ---- what is read of a setting: in the active group, in the edit copy while there is one, and under SG or SE

abbrev pub active_of : Grouped → ℕ → Held
active_of s k = slice_index_or (setting_at s k).groups (active_place (domain_at s (setting_at s k).domain)) (setting_at s k).copy

abbrev pub copy_of : Grouped → ℕ → Option Held
copy_of s k = if is_some (domain_at s (setting_at s k).domain).edit then Some (setting_at s k).copy else None

-- none of what isn't there
abbrev pub copy_in : Grouped → ℕ → Option Held
copy_in s k = if nat_lt k (length s.settings) then copy_of s k else None

abbrev pub shown_of : Grouped → ℕ → Bool → Option Held
shown_of s k is_edited = if is_edited then copy_of s k else Some (active_of s k)

-- ---- all of them

abbrev pub after_act : ℕ → ℕ → ℕ → Grouped → Grouped
after_act d n now s = record s { domains = slice_set s.domains d (activated n now (domain_at s d)) }

abbrev pub after_edit : ℕ → ℕ → ℕ → Grouped → Grouped
after_edit d a n s = record { domains = slice_set s.domains d (edited a n (domain_at s d)); settings = if n == 0 then s.settings else map (loaded d (n - 1)) s.settings }

abbrev pub after_copy : ℕ → Value → Grouped → Grouped
after_copy k v s = record s { settings = slice_set s.settings k (copied v (setting_at s k)) }

abbrev pub after_confirm : ℕ → Grouped → Grouped
after_confirm d s = record { domains = slice_set s.domains d (unedited (domain_at s d)); settings = map (stored_in d (edit_place (domain_at s d))) s.settings }

abbrev pub after_loss : ℕ → Grouped → Grouped
after_loss a s = record s { domains = map (left_by a) s.domains }

abbrev pub after_put : ℕ → Value → Grouped → Grouped
after_put k v s = record s { settings = slice_set s.settings k (put_in (active_place (domain_at s (setting_at s k).domain)) v (setting_at s k)) }

-- the place of an SG attribute among the settings
abbrev pub place_in : ℕ → List Settled → Option ℕ
place_in x [] = None
place_in x (t ∷ ts) = if x == t.attr then Some 0 else option_map suc (place_in x ts)

-- after the settings of a process step, in order; those of other attributes are of no account
abbrev pub after_setting : Setting → Grouped → Grouped
after_setting t s = option_map_or (λ k. after_put k t.value s) (place_in t.attr.0 s.settings) s

abbrev pub after_values : List Setting → Grouped → Grouped
after_values [] s = s
after_values (t ∷ later) s = after_values later (after_setting t s)
