-- The numbers of the kinds of refusal.
use Rattle.std.specs.Prelude.{ℕ}

abbrev pub word : ℕ
word = 1

abbrev pub order : ℕ
order = 2

abbrev pub name : ℕ
name = 3

abbrev pub duplicate : ℕ
duplicate = 4

abbrev pub type_ : ℕ
type_ = 5

abbrev pub flags : ℕ
flags = 6

abbrev pub value : ℕ
value = 7

abbrev pub number : ℕ
number = 8

abbrev pub unknown : ℕ
unknown = 9

abbrev pub long : ℕ
long = 10

abbrev pub many : ℕ
many = 11

abbrev pub member : ℕ
member = 12
