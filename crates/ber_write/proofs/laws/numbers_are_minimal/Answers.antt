-- why `laws::numbers_are_minimal` answers as its contract says
use Rattle.ber_write.proofs.NumberLaws.{signed_written, unsigned_written}
use Rattle.ber_write.proofs.ShortestLaws.{int_shortest, uint_shortest}
use Rattle.ber_write.proofs.laws.numbers_are_minimal.Goals as goal

pub returns : goal.returns
returns c = record { signed = signed_written; unsigned = unsigned_written; shortest_signed = int_shortest; shortest_unsigned = uint_shortest }
