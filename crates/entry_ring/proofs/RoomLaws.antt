-- A buffer with one more entry.
use Rattle.std.proofs.Common.{◌≡◌, ◌≤◌, ℕ, ◌+◌, ◌-◌, List, [], ◌∷◌, ◌++◌, length, take, drop, refl, sym, ap, ◌∙◌, arith, length-append}
use Rattle.std.specs.Prelude.{Option, Some, min, slice_get}
use Rattle.std.proofs.lemmas.List.{take_all}
use Rattle.circular_buffer.specs.Buffer.{Buffer, buffer, keep_last}
use Rattle.entry_ring.specs.declared.room.Place.{Place}
use Rattle.entry_ring.specs.Held.{Held}
use Rattle.entry_ring.specs.Places.{behind, offset}
use Rattle.entry_ring.specs.Rows.{held_in}
use Rattle.entry_ring.specs.Rooms.{IsRoom}
use Rattle.entry_ring.proofs.RowLaws.{laid-sizes, laid-snoc, held-snoc, end-snoc, found, offset-behind, behind-within}

-- where all fit, all are kept
pub keep-all : {A : Type 0} (n : ℕ) (xs : List A) → length xs ≤ n → keep_last n xs ≡ xs
keep-all n xs h = let none : length xs - n ≡ 0 = omega (arith, h) in rw none refl

pub record IsPushed (capacity begin end total : ℕ) (places : Buffer Place) (octets : Buffer ℕ) (before : List Held) (e : Held) : Type 0 where
  pub room : IsRoom capacity begin end total places octets
  pub held : held_in places.items octets.items ≡ before ++ e ∷ []

pub pushed : (capacity begin end total : ℕ) (places : Buffer Place) (octets : Buffer ℕ) (p : Place) (row : List ℕ) (more : Buffer Place) (all : Buffer ℕ)
    → IsRoom capacity begin end total places octets → p.at ≡ end → p.len ≡ length row → total + (24 + length row) ≤ capacity
    → more ≡ buffer (keep_last places.capacity (places.items ++ p ∷ [])) places.capacity → all ≡ buffer (octets.items ++ take (min (length row) (octets.capacity - length octets.items)) row) octets.capacity
    → IsPushed capacity begin (behind capacity end (length row)) (total + (24 + length row)) more all (held_in places.items octets.items) (record { moment = p.moment; step = p.step; kept = row })
pushed capacity begin end total places octets p row more all r at len fits m a =
    let sum = laid-sizes capacity begin places.items octets.items r.laid in
    let count : length (places.items ++ p ∷ []) ≤ places.capacity = omega (arith, length-append places.items (p ∷ []), r.place_room, r.sum, sum, fits) in
    let room : length (octets.items ++ row) ≤ octets.capacity = omega (arith, length-append octets.items row, r.octet_room, r.sum, sum, fits) in
    let is_more : more ≡ buffer (places.items ++ p ∷ []) places.capacity = m ∙ ap (λ l. buffer l places.capacity) (keep-all places.capacity (places.items ++ p ∷ []) count) in
    let is_all : all ≡ buffer (octets.items ++ row) octets.capacity = a ∙ ap (λ l. buffer (octets.items ++ l) octets.capacity) (take_all (min (length row) (octets.capacity - length octets.items)) row (omega (arith, room, length-append octets.items row))) in
    let laid = laid-snoc capacity begin places.items octets.items row p r.laid (at ∙ r.ended) len in
    let total_is = laid-sizes capacity begin (places.items ++ p ∷ []) (octets.items ++ row) laid in
    rw (is_more, is_all) (record {
      room = record {
        laid = laid;
        begun = r.begun;
        ended = rw (end-snoc capacity begin places.items p, ← r.ended, len) refl;
        sum = omega (arith, total_is, length-append places.items (p ∷ []), length-append octets.items row, r.sum, sum);
        within = fits;
        small = r.small;
        place_room = r.place_room;
        octet_room = r.octet_room;
      };
      held = held-snoc capacity begin places.items octets.items row p r.laid len;
    })

-- where an entry is found
pub record IsFound (capacity begin : ℕ) (octets : List ℕ) (p : Place) (e : Option Held) : Type 0 where
  pub place : p.at ≤ capacity
  pub within : offset capacity begin p.at + p.len ≤ length octets
  pub entry : e ≡ Some (record { moment = p.moment; step = p.step; kept = take p.len (drop (offset capacity begin p.at) octets) })

pub is_found : (capacity begin end total : ℕ) (places : Buffer Place) (octets : Buffer ℕ) (i : ℕ) (p : Place) → IsRoom capacity begin end total places octets → slice_get places.items i ≡ Some p
    → IsFound capacity begin octets.items p (slice_get (held_in places.items octets.items) i)
is_found capacity begin end total places octets i p r is =
    let sum = laid-sizes capacity begin places.items octets.items r.laid in
    let few : length octets.items ≤ capacity = omega (arith, sum, r.sum, r.within) in
    let f = found capacity begin places.items octets.items i p r.laid r.begun few is in
    let far : f.from ≤ capacity = omega (arith, f.within, few) in
    let back : offset capacity begin p.at ≡ f.from = ap (offset capacity begin) f.place ∙ offset-behind capacity begin f.from r.begun far in
    record {
      place = omega (arith, f.place, behind-within capacity begin f.from r.begun far);
      within = omega (arith, f.within, back);
      entry = f.entry ∙ ap (λ o. Some (record { moment = p.moment; step = p.step; kept = take p.len (drop o octets.items) })) (sym back);
    }
