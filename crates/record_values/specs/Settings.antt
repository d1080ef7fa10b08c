-- The settings of the process: attributes by their references, each with a value of its type (IEC 61850-7-2, DataAttribute).
use Rattle.std.specs.Prelude.{◌≡◌, ℕ, Bool, true, false, List, [], ◌∷◌, ◌++◌, Option, None, Some, is_some, slice_get}
use Rattle.std.specs.Option.{option_map, option_and_then}
use Rattle.std.specs.List.{list_all}
use Rattle.sv_base.specs.declared.config.Config.{Config}
use Rattle.sv_base.specs.declared.types.TypeOf.{TypeOf}
use Rattle.sv_base.specs.declared.value.Value.{Value}
use Rattle.bay_model.specs.declared.step.Setting.{Setting}
use Rattle.text_words.specs.Values.{value_at}
use Rattle.name_leaves.specs.Numbers.{number_in}
use Rattle.object_model.specs.Fits.{attr_types}
use Rattle.object_model.specs.References.{attr_references}
use Rattle.run_record.specs.declared.pairs.Pair.{Pair}

abbrev pub number_at : Config → Pair → Option ℕ
number_at c pair = number_in (attr_references c) pair.name

-- every reference is that of an attribute
abbrev pub are_named : Config → List Pair → Bool
are_named c pairs = list_all (λ (p : Pair). is_some (number_at c p)) pairs

-- the value that a word spells of the type of attribute x, where the attributes have these types
abbrev pub typed_in : List TypeOf → List ℕ → ℕ → Option Value
typed_in types word x = option_and_then (λ (kind : TypeOf). value_at kind word) (slice_get types x)

abbrev pub typed_at : Config → List ℕ → ℕ → Option Value
typed_at c word x = typed_in (attr_types c) word x

abbrev pub setting : ℕ → Value → Setting
setting x v = record { attr = record { 0 = x }; value = v }

abbrev pub setting_of : Config → List ℕ → Option ℕ → Option Setting
setting_of c word None = None
setting_of c word (Some x) = option_map (setting x) (typed_at c word x)

abbrev pub setting_at : Config → Pair → Option Setting
setting_at c pair = setting_of c pair.value (number_at c pair)

abbrev pub behind_those : List Setting → Option Setting → Option (List Setting)
behind_those before None = None
behind_those before (Some s) = Some (before ++ s ∷ [])

-- the settings of pairs after others, if each has one
abbrev pub settings_from : Config → Option (List Setting) → List Pair → Option (List Setting)
settings_from c before [] = before
settings_from c before (p ∷ ps) = settings_from c (option_and_then (λ ss. behind_those ss (setting_at c p)) before) ps

abbrev pub settings_at : Config → List Pair → Option (List Setting)
settings_at c pairs = settings_from c (Some []) pairs

-- the setting of attribute x is put after others, where there is a value for it
abbrev pub IsPut : Bool → ℕ → Option Value → List Setting → List Setting → Type 0
IsPut there x None before now = (there ≡ false) × (now ≡ before)
IsPut there x (Some v) before now = (there ≡ true) × (now ≡ before ++ setting x v ∷ [])
