-- The kinds of refusal.
use Rattle.std.specs.Prelude.{ℕ}
use Rattle.cfg_parser.specs.declared.fault.Kind.{Kind}
use Rattle.cfg_parser.specs.declared.fault.Kind.TheVariants as kinds

abbrev pub number_of : Kind → ℕ
number_of kinds.Word = 1
number_of kinds.Order = 2
number_of kinds.Name = 3
number_of kinds.Duplicate = 4
number_of kinds.TypeName = 5
number_of kinds.Flags = 6
number_of kinds.Value = 7
number_of kinds.Number = 8
number_of kinds.Unknown = 9
number_of kinds.Long = 10
number_of kinds.Many = 11
number_of kinds.Member = 12
