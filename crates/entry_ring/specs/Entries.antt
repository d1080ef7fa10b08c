-- An entry as it is lent.
use Rattle.std.specs.Prelude.{◌++◌}
use Rattle.entry_ring.specs.declared.entry.Entry.{Entry}
use Rattle.entry_ring.specs.Held.{Held}

abbrev pub held_of : Entry → Held
held_of e = record { moment = e.moment; step = e.step; kept = e.first.now ++ e.second.now }
