-- What the book stands for: the data sets of a history, and the DatSets of its report blocks.
use Rattle.std.specs.Prelude.{◌≡◌, ◌<◌, ◌⊎◌, ℕ, suc, ◌+◌, true, false, ◌==◌, List, [], ◌∷◌, map, length, is_some, slice_index_or, if◌then◌else◌}
use Rattle.std.specs.List.{list_any}
use Rattle.std.specs.Str.{bytes_eq}
use Rattle.bay_model.specs.Model.{Model, DataSet, Block}
use Rattle.bay_model.specs.Parameters.{parameters_at}
use Rattle.bay_model.specs.Points.{Deed, Point, Past, unchanged, answered, wrote}
use Rattle.sv_base.specs.declared.components.Comp.TheVariants as comps
use Rattle.bay_model.specs.Sets.{sets}
use Rattle.data_sets.specs.Books.{Booked, Book, reference, set_at, number_referred}

-- the set, as the model has it
abbrev pub data_set : Booked → DataSet
data_set s = record { domain = s.name.domain; item = s.name.item; nodes = map (λ n. n.0) s.nodes }

-- how many of these DatSets are the reference
abbrev pub counted : List ℕ → List (List ℕ) → ℕ
counted r [] = 0
counted r (d ∷ ds) = (if bytes_eq d r then 1 else 0) + counted r ds

-- the DatSets of blocks, from number b on
abbrev pub dat_sets_from : Model → Past → ℕ → List Block → List (List ℕ)
dat_sets_from c past b [] = []
dat_sets_from c past b (k ∷ ks) = (parameters_at c b past).dat_set ∷ dat_sets_from c past (suc b) ks

abbrev pub dat_sets : Model → Past → List (List ℕ)
dat_sets c past = dat_sets_from c past 0 c.blocks

-- there is no `/`
abbrev pub IsPlain : List ℕ → Type 0
IsPlain domain = list_any (λ o. o == 47) domain ≡ false

-- the DatSet is empty, or names a set
abbrev pub IsNamed : Book → List ℕ → Type 0
IsNamed b d = (d ≡ []) ⊎ (is_some (number_referred d b) ≡ true)

-- the book has these sets, the first of which are configured, and for each how many of the DatSets name it
pub record StandsFor (b : Book) (configured : ℕ) (all : List DataSet) (used : List (List ℕ)) : Type 0 where
  pub sets : map data_set b.sets ≡ all
  pub count : b.configured ≡ configured
  pub holds : (k : ℕ) → k < length b.sets → (set_at b k).holds ≡ counted (reference (set_at b k)) used
  pub apart : (j k : ℕ) → j < length b.sets → k < length b.sets → reference (set_at b j) ≡ reference (set_at b k) → j ≡ k
  pub plain : (k : ℕ) → k < length b.sets → IsPlain (set_at b k).name.domain
  pub named : (j : ℕ) → j < length used → IsNamed b (slice_index_or used j [])

-- those of a history
abbrev pub Stands : Book → Model → Past → Type 0
Stands b c past = StandsFor b (length c.sets) (sets c past) (dat_sets c past)

-- the point of a step at its moment, with what came of it
abbrev pub at : ℕ → ℕ → Deed → Point
at step moment d = record { moment = moment; step = step; deed = d }

-- the deed is of no account for sets: it defines and deletes none, and writes no DatSet
abbrev pub IsQuiet : Deed → Type 0
IsQuiet (answered a o unchanged) = Unit {0}
IsQuiet (answered a o change) = ⊥
IsQuiet (wrote a b comps.DatSet v) = ⊥
IsQuiet d = Unit {0}
