-- Parts of the octets that are read, each with where it lies in memory.
use Rattle.std.specs.Prelude.{◌≡◌, ℕ, ◌+◌, take, drop}
use Rattle.ber_grammar.specs.Place.{Piece}

-- the part lies at this place of the whole
abbrev pub IsPart : Piece → ℕ → Piece → Type 0
IsPart whole place part = (part.block ≡ whole.block) × (part.place ≡ whole.place + place)

-- the first octets, and what is after them
abbrev pub front : ℕ → Piece → Piece
front n whole = record { octets = take n whole.octets; block = whole.block; place = whole.place }

abbrev pub behind : ℕ → Piece → Piece
behind n whole = record { octets = drop n whole.octets; block = whole.block; place = whole.place + n }
