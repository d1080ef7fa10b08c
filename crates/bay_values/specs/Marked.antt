-- How far the settings of a step were gone through, from the last to the first: which attributes have their value, and
-- which changes were noted.
use Rattle.std.specs.Prelude.{◌≡◌, ℕ, Bool, true, false, List, length, is_some, slice_index_or, if◌then◌else◌}
use Rattle.std.specs.List.{All, sum_by}
use Rattle.sv_base.specs.declared.config.Config.{Config}
use Rattle.bay_model.specs.declared.flags.Change.{Change}
use Rattle.bay_model.specs.declared.step.Setting.{Setting}
use Rattle.bay_model.specs.Settings.{set_to}
use Rattle.value_store.specs.Stored.{Stored, attribute}
use Rattle.trigger_core.specs.Noted.{change_of}
use Rattle.bay_values.specs.Changed.{last_set, AreMade, AreDistinct}

abbrev pub is_marked : List Bool → ℕ → Bool
is_marked marks x = slice_index_or marks x false

-- no attribute is marked
abbrev pub IsBlank : List Bool → Type 0
IsBlank marks = All (λ b. b ≡ false) marks

-- how many attributes are marked
abbrev pub one_if : Bool → ℕ
one_if b = if b then 1 else 0

abbrev pub marked_in : List Bool → ℕ
marked_in marks = sum_by one_if marks

-- each attribute that is marked is one of the changes
abbrev pub AreNoted : List Change → List Bool → Type 0
AreNoted changes marks = (x : ℕ) → is_marked marks x ≡ true → is_some (change_of changes (record { 0 = x })) ≡ true

-- from the values before, these settings were made: the attributes of them are marked, and each has one change
pub record IsDone (c : Config) (before : List Stored) (settings : List Setting) (after : List Stored) (marks : List Bool) (changes : List Change) : Type 0 where
  pub count : length after ≡ length before
  pub values : (x : ℕ) → attribute after x ≡ last_set settings x (attribute before x)
  pub marked : (x : ℕ) → is_marked marks x ≡ is_some (set_to x settings)
  pub made : AreMade c before settings changes
  pub once : AreDistinct changes
  pub noted : length changes ≡ marked_in marks
