-- Entries laid out in a circular buffer: where each one's octets are.
use Rattle.std.specs.Prelude.{◌≡◌, ◌≤◌, ℕ, List, [], ◌∷◌, length, take, drop}
use Rattle.entry_ring.specs.declared.room.Place.{Place}
use Rattle.entry_ring.specs.Held.{Held}
use Rattle.entry_ring.specs.Places.{behind}

-- each place is after the one before it, and its octets are there
abbrev pub Laid : ℕ → ℕ → List Place → List ℕ → Type 0
Laid capacity at [] octets = octets ≡ []
Laid capacity at (p ∷ ps) octets = (p.at ≡ at) × (p.len ≤ length octets) × Laid capacity (behind capacity at p.len) ps (drop p.len octets)

-- where the next one goes
abbrev pub end_of : ℕ → ℕ → List Place → ℕ
end_of capacity at [] = at
end_of capacity at (p ∷ ps) = end_of capacity (behind capacity at p.len) ps

abbrev pub held_in : List Place → List ℕ → List Held
held_in [] octets = []
held_in (p ∷ ps) octets = record { moment = p.moment; step = p.step; kept = take p.len octets } ∷ held_in ps (drop p.len octets)
