-- What a command of a control says, and whether its value is of the type of its node (IEC 61850-7-2, the parameters of
-- SelectWithValue, Operate and Cancel; IEC 61850-8-1, SBOw, Oper and Cancel).
use Rattle.std.specs.Prelude.{ℕ, ℤ, Bool, true, false, not, ◌&&◌, ◌==◌, nat_le, nat_lt, int_le, pos, neg_ℤ, List, length, Option, None, Some}
use Rattle.std.specs.Option.{option_map_or}
use Rattle.std.specs.Ordering.{int_eq}
use Rattle.std.specs.Str.{bytes_eq}
use Rattle.sv_base.specs.Tree.{Seen, Row, plain, structure, none, more, truth, int, uint, bits, time, octets}
use Rattle.sv_base.specs.Same.{is_same_seen, is_same_bit, value_of}
use Rattle.sv_base.specs.declared.value.Value.{Value}
use Rattle.sv_base.specs.declared.value.Value.TheVariants as kinds
use Rattle.bay_model.specs.Model.{Kind, Call, select, operate, cancel}
use Rattle.sv_base.specs.Kinds.{is_kind, is_in_range}

-- what the value of an SBOw, an Oper or a Cancel says: ctlVal, origin, ctlNum and Test; rest is what follows Test
pub record Command : Type 0 where
  pub value : Seen
  pub or_cat : ℤ
  pub or_ident : List ℕ
  pub ctl_num : ℕ
  pub test : Bool
  pub rest : Row

-- the command of a structure of ctlVal, origin (orCat, orIdent), ctlNum, T, Test and what follows
abbrev pub command_of : Value → Option Command
command_of (kinds.Struct (more v (more (structure (more (plain (int cat)) (more (plain (octets ident)) none))) (more (plain (uint n)) (more (plain (time s f q)) (more (plain (truth test)) rest))))))
    = Some (record { value = v; or_cat = cat; or_ident = ident; ctl_num = n; test = test; rest = rest })
command_of _ = None

-- SBOw and Oper end with the two bits of Check, Cancel with Test
abbrev pub is_rest : Call → Row → Bool
is_rest cancel none = true
is_rest select (more (plain (bits b)) none) = length b == 2
is_rest operate (more (plain (bits b)) none) = length b == 2
is_rest _ _ = false

-- the value is of the node's type, range and length included; kind is that of ctlVal
abbrev pub is_command : Kind → Call → Option Command → Bool
is_command kind call None = false
is_command kind call (Some m) = is_kind kind (value_of m.value) && is_in_range kind (value_of m.value) && int_le (neg_ℤ (pos 128)) m.or_cat && int_le m.or_cat (pos 127)
    && nat_le (length m.or_ident) 64 && nat_lt m.ctl_num 256 && is_rest call m.rest

-- a test operate
abbrev pub is_test : Value → Bool
is_test v = option_map_or (λ (m : Command). m.test) (command_of v) false

-- the two differ in ctlVal, origin, ctlNum or Test
abbrev pub differs : Command → Command → Bool
differs m n = not (is_same_seen m.value n.value && int_eq m.or_cat n.or_cat && bytes_eq m.or_ident n.or_ident && (m.ctl_num == n.ctl_num) && is_same_bit m.test n.test)
