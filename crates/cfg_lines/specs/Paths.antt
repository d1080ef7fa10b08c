-- References, and which of them can't stand beside one another.
use Rattle.std.specs.Prelude.{ℕ, zero, suc, ◌==◌, ◌||◌, Bool, List, [], ◌∷◌, ◌++◌, length, take, slice_index, if◌then◌else◌}
use Rattle.std.specs.List.{list_any}
use Rattle.std.specs.Str.{bytes_eq}
use Rattle.cfg_lines.specs.Keys.{is_among}

-- a name below another
abbrev pub below : List ℕ → List ℕ → List ℕ
below front name = front ++ 36 ∷ name

-- the reference of a logical node (IEC 61850-7-2, ObjectReference)
abbrev pub node_key : List ℕ → List ℕ → List ℕ
node_key domain node = domain ++ 47 ∷ node

-- the reference of what is under a functional constraint of a logical node
abbrev pub item_key : List ℕ → List ℕ → List ℕ → List ℕ → List ℕ
item_key domain node fc path = below (below (node_key domain node) fc) path

-- the structures above a path, those that end before one of its `$`; of its first octets
abbrev pub above_within : ℕ → List ℕ → List (List ℕ)
above_within zero path = []
above_within (suc n) path = if slice_index path n == 36 then take n path ∷ above_within n path else above_within n path

abbrev pub above : List ℕ → List (List ℕ)
above path = above_within (length path) path

-- one is the other, or is a structure above it
abbrev pub clashes : List ℕ → List ℕ → Bool
clashes path other = (bytes_eq path other || is_among (above other) path) || is_among (above path) other

-- it is a structure above one of these
abbrev pub is_structure : List (List ℕ) → List ℕ → Bool
is_structure paths path = list_any (λ other. is_among (above other) path) paths

-- the path can't stand beside these
abbrev pub is_taken : List (List ℕ) → List ℕ → Bool
is_taken others path = list_any (λ other. clashes path other) others
