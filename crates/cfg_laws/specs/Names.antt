-- Names, paths and references as words are made of them, and which are there already.
use Rattle.std.specs.Prelude.{◌≡◌, ◌≤◌, ◌⊎◌, ℕ, true, List, [], ◌∷◌, ◌++◌, length, codes}
use Rattle.std.specs.List.{list_all, count_by, join_with_byte}
use Rattle.text_words.specs.Names.{is_letter, is_name_octet, is_dollar}
use Rattle.cfg_lines.specs.Paths.{below}

-- one of these is so
abbrev pub AnyIs : {X : Type 0} → (X → Type 0) → List X → Type 0
AnyIs P [] = ⊥
AnyIs P (x ∷ xs) = P x ⊎ AnyIs P xs

abbrev pub IsAmong : List (List ℕ) → List ℕ → Type 0
IsAmong keys key = AnyIs (λ k. key ≡ k) keys

-- a letter, then letters, digits or `_`, in all at most 32
abbrev pub IsName : List ℕ → Type 0
IsName word = (letter : ℕ) × (more : List ℕ) × (word ≡ letter ∷ more) × (is_letter letter ≡ true) × (list_all is_name_octet more ≡ true) × (length more ≤ 31)

abbrev pub AreNames : List (List ℕ) → Type 0
AreNames [] = Unit {0}
AreNames (name ∷ names) = IsName name × AreNames names

-- names joined by `$`, one at least
abbrev pub IsPath : List ℕ → Type 0
IsPath path = (name : List ℕ) × (names : List (List ℕ)) × (path ≡ join_with_byte 36 (name ∷ names)) × AreNames (name ∷ names)

-- a domain, `/`, and a path of three names or more
abbrev pub IsReference : List ℕ → Type 0
IsReference word = (domain item : List ℕ) × (word ≡ domain ++ 47 ∷ item) × IsName domain × IsPath item × (2 ≤ count_by is_dollar item)

-- the functional constraints of attributes (IEC 61850-7-2, FunctionalConstraint)
abbrev pub IsConstraint : List ℕ → Type 0
IsConstraint word = IsAmong (codes "ST" ∷ codes "MX" ∷ codes "CF" ∷ codes "DC" ∷ codes "SP" ∷ codes "SV" ∷ codes "SG" ∷ codes "EX" ∷ []) word

-- a structure above another name
abbrev pub IsAbove : List ℕ → List ℕ → Type 0
IsAbove structure name = (rest : List ℕ) × (name ≡ below structure rest)

-- one is the other, or is a structure above it
abbrev pub Clashes : List ℕ → List ℕ → Type 0
Clashes name other = (name ≡ other) ⊎ (IsAbove name other ⊎ IsAbove other name)

-- the name can't stand beside these
abbrev pub IsTaken : List (List ℕ) → List ℕ → Type 0
IsTaken others name = AnyIs (Clashes name) others

-- one of the names is this node, or lies below it
abbrev pub Reaches : List (List ℕ) → List ℕ → Type 0
Reaches names node = AnyIs (λ name. (node ≡ name) ⊎ IsAbove node name) names
