-- What contracts see of an index, and the touches of data sets.
use Rattle.std.specs.Prelude.{◌≡◌, ℕ, suc, ◌+◌, ◌<◌, ◌≤◌, List, [], ◌∷◌, ◌++◌, map, max, length, slice_index_or, slice_set}
use Rattle.std.specs.List.{flat_map, All}
use Rattle.sv_base.specs.declared.numbers.AttrId.{AttrId}
use Rattle.sv_base.specs.Filled.{Filled}
use Rattle.bay_model.specs.declared.tables.MemberShape.{MemberShape}
use Rattle.touch_index.specs.declared.touch.Touch.{Touch}
use Rattle.touch_index.specs.declared.touch.Row.{Row}
use Rattle.touch_index.specs.Spread.{IsWithin, IsSpread}

-- how many attributes there are, and of each block the touches of its members, with the memory for them
pub record Indexed : Type 0 where
  pub attrs : ℕ
  pub blocks : List (Filled Touch)

-- the touches of all blocks, in their order
abbrev pub touches_in : List (Filled Touch) → List Touch
touches_in blocks = flat_map (λ (b : Filled Touch). b.items) blocks

abbrev pub rooms_in : List (Filled Touch) → ℕ
rooms_in [] = 0
rooms_in (b ∷ bs) = b.room + rooms_in bs

-- a block without touches, with capacity for that many
abbrev pub bare : ℕ → Filled Touch
bare room = record { items = []; room = room }

abbrev pub none : Filled Touch
none = bare 0

abbrev pub block_at : List (Filled Touch) → ℕ → Filled Touch
block_at blocks b = slice_index_or blocks b none

-- the touches of a member of block b
abbrev pub touches_of : ℕ → ℕ → List AttrId → List Touch
touches_of b i attrs = map (λ (x : AttrId). record { attr = x; block = record { 0 = b }; member = record { 0 = i } }) attrs

-- of its members, numbered from i on
abbrev pub touches_from : ℕ → ℕ → List MemberShape → List Touch
touches_from b i [] = []
touches_from b i (m ∷ ms) = touches_of b i m.attrs ++ touches_from b (suc i) ms

-- how many pairs of attribute and member a set has
abbrev pub pairs : List MemberShape → ℕ
pairs [] = 0
pairs (m ∷ ms) = length m.attrs + pairs ms

-- the touches of each block are of that block
abbrev pub IsOwnedFrom : ℕ → List (Filled Touch) → Type 0
IsOwnedFrom j [] = Unit {0}
IsOwnedFrom j (b ∷ bs) = All (λ (t : Touch). t.block.0 ≡ j) b.items × IsOwnedFrom (suc j) bs

-- the touches of all blocks are their own, each in its block's memory, and there is memory to sort them
pub record IsFilled (blocks : List (Filled Touch)) (rows : List Row) (sorted : List Touch) : Type 0 where
  pub within : IsWithin (length rows) (touches_in blocks)
  pub room : rooms_in blocks ≤ length sorted
  pub owned : IsOwnedFrom 0 blocks
  pub filled : All (λ (b : Filled Touch). length b.items ≤ b.room) blocks
  pub fits : length (touches_in blocks) ≤ length sorted

-- they lie in order of their attributes where the rows say
pub record IsSorted (blocks : List (Filled Touch)) (rows : List Row) (sorted : List Touch) : Type 0 where
  pub is_filled : IsFilled blocks rows sorted
  pub spread : IsSpread (touches_in blocks) (touches_in blocks) rows sorted

-- each attribute of the members is among that many
abbrev pub AreAmong : ℕ → List MemberShape → Type 0
AreAmong attrs [] = Unit {0}
AreAmong attrs (m ∷ ms) = All (λ (x : AttrId). x.0 < attrs) m.attrs × AreAmong attrs ms

-- the block with other members
abbrev pub with_members : ℕ → List MemberShape → List (Filled Touch) → List (Filled Touch)
with_members b ms blocks = slice_set blocks b (record { items = touches_from b 1 ms; room = (block_at blocks b).room })

-- the block with capacity for n pairs at least
abbrev pub with_room : ℕ → ℕ → List (Filled Touch) → List (Filled Touch)
with_room b most blocks = slice_set blocks b (record { items = (block_at blocks b).items; room = max (block_at blocks b).room most })
