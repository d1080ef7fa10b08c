-- What a buffer holds.
use Rattle.std.specs.Prelude.{◌≡◌, ◌≤◌, ℕ, ◌/◌}
use Rattle.circular_buffer.specs.Buffer.{Buffer}
use Rattle.entry_ring.specs.declared.room.Place.{Place}
use Rattle.entry_ring.specs.Held.{sizes}
use Rattle.entry_ring.specs.Rows.{Laid, end_of, held_in}

-- the entries are laid out from one place to another, and take n octets, no more than the capacity
pub record IsRoom (capacity begin end total : ℕ) (places : Buffer Place) (octets : Buffer ℕ) : Type 0 where
  pub laid : Laid capacity begin places.items octets.items
  pub begun : begin ≤ capacity
  pub ended : end ≡ end_of capacity begin places.items
  pub sum : total ≡ sizes (held_in places.items octets.items)
  pub within : total ≤ capacity
  pub small : capacity ≤ 4294967295
  pub place_room : places.capacity ≡ capacity / 24
  pub octet_room : octets.capacity ≡ capacity
