-- what the loops of `casting::add_roles` keep
use Rattle.std.proofs.Common.{◌≡◌, ◌++◌, map}
use Rattle.race_records.specs.Merged.{lines_in, book_seen}
use Rattle.race_settling.specs.Casting.{script_steps, role_steps, script_place, role_place}
use Rattle.race_settling.proofs.casting.add_roles.Given as goal

abbrev pub invariant-loop-slot : goal.invariant-loop-slot
invariant-loop-slot l =
    (map role_steps l.roles.items ≡ map script_steps l.yielded) × (book_seen l.book.items ≡ map lines_in l.yielded) × (l.yielded ++ l.slot-iterator.rest.items ≡ l.fn.slots.items) × (map role_place l.roles.items ≡ map script_place l.yielded)
