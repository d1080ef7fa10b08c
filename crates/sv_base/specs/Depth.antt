-- How deep a value is: a plain one 1, a structure one more than its deepest part, and an empty structure 1 (the nesting
-- of ISO 9506-2, Initiate). Whether there is Data in it that is of no attribute's type.
use Rattle.std.specs.Prelude.{ℕ, ◌+◌, max}
use Rattle.sv_base.specs.Tree.{Plain, Seen, Row, plain, structure, none, more, other}
use Rattle.sv_base.specs.Seen.{seen_of}
use Rattle.sv_base.specs.declared.value.Value.{Value}

abbrev mutual
  pub depth_seen : Seen → ℕ
  depth_seen (plain p) = 1
  depth_seen (structure r) = 1 + depth_row r

  -- of the deepest in a row, and 0 where there is none
  pub depth_row : Row → ℕ
  depth_row none = 0
  depth_row (more s r) = max (depth_seen s) (depth_row r)

abbrev pub depth : Value → ℕ
depth v = depth_seen (seen_of v)

abbrev pub IsNotOther : Plain → Type 0
IsNotOther other = ⊥
IsNotOther _ = Unit {0}

abbrev mutual
  pub SeenHasNoOther : Seen → Type 0
  SeenHasNoOther (plain p) = IsNotOther p
  SeenHasNoOther (structure r) = RowHasNoOther r

  pub RowHasNoOther : Row → Type 0
  RowHasNoOther none = Unit {0}
  RowHasNoOther (more s r) = SeenHasNoOther s × RowHasNoOther r

abbrev pub HasNoOther : Value → Type 0
HasNoOther v = SeenHasNoOther (seen_of v)
