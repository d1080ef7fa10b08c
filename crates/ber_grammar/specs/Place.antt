-- Where slices lie in memory.
use Rattle.std.specs.Prelude.{◌≡◌, ℕ, ◌+◌, ◌≤◌, List, [], ◌∷◌, length, take, drop, map}
use Rattle.std.specs.Borrow.{Bor}
use Rattle.ber_grammar.specs.Element.{Element}

-- the part is in the same memory as the whole and ends where the whole ends
abbrev pub IsEndOf : Bor (List ℕ) → Bor (List ℕ) → Type 0
IsEndOf part whole = (part.ref_ptr.0 ≡ whole.ref_ptr.0) × (part.ref_ptr.1 + length part.now ≡ whole.ref_ptr.1 + length whole.now) × (length part.now ≤ length whole.now)

-- the part is the slice of the whole that begins at this place
abbrev pub IsSliceAt : Bor (List ℕ) → ℕ → Bor (List ℕ) → Type 0
IsSliceAt whole place part = (part.ref_ptr.0 ≡ whole.ref_ptr.0) × (part.ref_ptr.1 ≡ whole.ref_ptr.1 + place) × (part.now ≡ take (length part.now) (drop place whole.now))

-- An element, and where its content lies: the block of memory, and the place in the block.
pub record Spot : Type 0 where
  pub element : Element
  pub block : ℕ
  pub place : ℕ

-- elements one after another, from this block and place on
abbrev pub placed : ℕ × ℕ → List Element → List Spot
placed from [] = []
placed from (e ∷ es) = record { element = e; block = from.0; place = from.1 + e.head } ∷ placed (from.0, from.1 + (e.head + length e.content)) es

-- the elements alone
abbrev pub elements : List Spot → List Element
elements spots = map (λ s. s.element) spots

-- Octets and where they lie, as of a name or a content that a reader gives back.
pub record Piece : Type 0 where
  pub octets : List ℕ
  pub block : ℕ
  pub place : ℕ

-- a slice of the program
abbrev pub piece : Bor (List ℕ) → Piece
piece part = record { octets = part.now; block = part.ref_ptr.0; place = part.ref_ptr.1 }

-- the content of an element of a row
abbrev pub content_piece : Spot → Piece
content_piece spot = record { octets = spot.element.content; block = spot.block; place = spot.place }

-- octets that lie anywhere
abbrev pub anywhere : List ℕ → Piece
anywhere octets = record { octets = octets; block = 0; place = 0 }
