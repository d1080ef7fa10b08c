-- what the loops of `book::are_members` keep
use Rattle.std.proofs.Common.{◌≡◌, drop}
use Rattle.std.specs.List.{list_all}
use Rattle.data_sets.specs.Books.{is_member}
use Rattle.data_sets.proofs.book.are_members.Given as goal

abbrev pub invariant-loop-member : goal.invariant-loop-member
invariant-loop-member l = list_all (is_member l.rows) (drop l.member-index l.members) ≡ list_all (is_member l.rows) l.members
