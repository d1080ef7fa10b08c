-- What members of data sets name, and the nodes without parts that count for it. The last line is the first of the list.
use Rattle.std.specs.Prelude.{◌≡◌, ℕ, ◌||◌, ◌==◌, Bool, true, false, List, [], ◌∷◌, filter}
use Rattle.std.specs.List.{list_any, before_first}
use Rattle.cfg_lines.specs.Keys.{is_among, added}
use Rattle.cfg_lines.specs.Paths.{above, item_key}
use Rattle.cfg_nodes.specs.declared.spot.Spot.{Spot}
use Rattle.cfg_lines.specs.declared.leaf.Leaf.{Leaf}
use Rattle.cfg_lines.specs.declared.line.Line.{Line}
use Rattle.cfg_lines.specs.declared.line.Line.TheVariants as lines

-- with the reference of a member, if it isn't there
abbrev pub with_asked : List (List ℕ) → Line → List (List ℕ)
with_asked refs (lines.Member reference) = added refs reference
with_asked refs line = refs

-- the references of the members, each once
abbrev pub asked : List Line → List (List ℕ)
asked [] = []
asked (line ∷ before) = with_asked (asked before) line

-- a line that is a member has one of these references
abbrev pub is_asked : List (List ℕ) → Line → Bool
is_asked refs (lines.Member reference) = is_among refs reference
is_asked refs line = true

-- a name is one of these references, or has one as a structure above it
abbrev pub is_wanted : List (List ℕ) → List ℕ → Bool
is_wanted refs name = is_among refs name || list_any (λ front. is_among refs front) (above name)

-- the nodes without parts that count for what these references name
abbrev pub wanted : List (List ℕ) → List Leaf → List Leaf
wanted refs leaves = filter (λ leaf. is_wanted refs leaf.name) leaves

-- ---- for the code

-- what stands before the first `$`
abbrev pub head : List ℕ → List ℕ
head reference = before_first (λ octet. octet == 36) reference

-- these are the heads of these references, and may be more
abbrev pub HasHeads : (refs heads : List (List ℕ)) → Type 0
HasHeads refs heads = (reference : List ℕ) → is_among refs reference ≡ true → is_among heads (head reference) ≡ true

-- nothing of a logical node is wanted
abbrev pub IsApart : (refs : List (List ℕ)) (domain node : List ℕ) → Type 0
IsApart refs domain node = (fc path : List ℕ) → is_wanted refs (item_key domain node fc path) ≡ false

-- what a spot says of its logical node
abbrev pub IsRight : (refs : List (List ℕ)) → Spot → Type 0
IsRight refs spot = spot.is_wanted ≡ false → IsApart refs spot.domain.now spot.node.now
