-- How the book begins: the configured sets, each with how many of the configured DatSets name it (IEC 61850-7-2, BRCB
-- attribute DatSet); and what clients may have defined beside them.
use Rattle.std.specs.Prelude.{◌≡◌, ◌≤◌, ◌<◌, ◌⊎◌, ◌+◌, ℕ, true, List, [], ◌∷◌, map, length, Option, None, Some, is_some, slice_index_or}
use Rattle.std.specs.List.{All}
use Rattle.bay_model.specs.declared.tables.SetRow.{SetRow}
use Rattle.bay_model.specs.Definitions.{is_set_name}
use Rattle.bay_model.specs.Lookups.{reference_of}
use Rattle.bay_model.specs.Model.{Model, DataSet, Block}
use Rattle.bay_model.specs.Sets.{set_referred}
use Rattle.data_sets.specs.Books.{Booked, Book, number_referred, set_at, after_hold, booked}
use Rattle.data_sets.specs.Standing.{IsPlain, data_set}

-- the rows are those of the sets, in their order
abbrev pub AreSets : List SetRow → List DataSet → Type 0
AreSets rows all = map (λ (r : SetRow). data_set (booked r)) rows ≡ all

abbrev pub set_reference : DataSet → List ℕ
set_reference s = reference_of s.domain s.item

-- the DatSet is empty, or the reference of one of the sets
abbrev pub IsReferred : List DataSet → List ℕ → Type 0
IsReferred all d = (d ≡ []) ⊎ (is_some (set_referred d all) ≡ true)

-- the references of data sets differ, no domain has a `/`, and the DatSet of a block is empty or names one of them
pub record AreNamed (c : Model) : Type 0 where
  pub apart : (j k : ℕ) (d : DataSet) → j < length c.sets → k < length c.sets → set_reference (slice_index_or c.sets j d) ≡ set_reference (slice_index_or c.sets k d) → j ≡ k
  pub plain : All (λ (s : DataSet). IsPlain s.domain) c.sets
  pub named : All (λ (b : Block). IsReferred c.sets b.initial.dat_set) c.blocks

-- a DatSet names its set, if any
abbrev pub after_name : Option ℕ → Book → Book
after_name None b = b
after_name (Some k) b = after_hold k b

-- DatSets name their sets, in turn
abbrev pub after_names : List (List ℕ) → Book → Book
after_names [] b = b
after_names (d ∷ ds) b = after_names ds (after_name (number_referred d b) b)

-- a set that a client defined: at most 256 members, and a name that such a set may have, of at most 64 octets
abbrev pub IsSmall : Model → Booked → Type 0
IsSmall c s = (length s.nodes ≤ 256) × (is_set_name c s.name ≡ true)

-- what clients defined is no more than the format's limits allow
pub record IsBounded (c : Model) (b : Book) : Type 0 where
  pub configured : b.configured ≤ length b.sets
  pub few : length b.sets ≤ b.configured + 64
  pub small : (k : ℕ) → b.configured ≤ k → k < length b.sets → IsSmall c (set_at b k)
