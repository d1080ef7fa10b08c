-- What the value of a command says, part by part, and the value that says it (IEC 61850-7-2, the parameters of SelectWithValue,
-- Operate and Cancel).
use Rattle.std.specs.Prelude.{ℕ, ℤ, pos, neg_ℤ, int_le, nat_le, nat_lt, length, Bool, false, ◌&&◌, List, [], ◌∷◌, Option, None, Some, if◌then◌else◌}
use Rattle.std.specs.Option.{option_and_then, option_map}
use Rattle.sv_base.specs.Same.{value_of}
use Rattle.sv_base.specs.Tree.{Seen, Row, plain, structure, none, more, truth, int, uint, bits, time, octets}
use Rattle.sv_base.specs.Seen.{row_of}
use Rattle.sv_base.specs.declared.value.Utc.{Utc}
use Rattle.sv_base.specs.declared.value.Value.{Value}
use Rattle.sv_base.specs.declared.value.Value.TheVariants as kinds
use Rattle.bay_model.specs.Model.{Kind, select, operate, cancel, Call as Calling}
use Rattle.sv_base.specs.Kinds.{is_kind, is_in_range}
use Rattle.bay_model.specs.Model as model
use Rattle.bay_model.specs.Commands.{Command, is_rest}
use Rattle.control_core.specs.declared.command.CtlKind.{CtlKind}
use Rattle.control_core.specs.declared.command.CtlKind.TheVariants as ctl_kinds
use Rattle.control_core.specs.declared.command.CtlVal.{CtlVal}
use Rattle.control_core.specs.declared.command.CtlVal.TheVariants as ctl_vals
use Rattle.control_core.specs.declared.command.Check.{Check}
use Rattle.control_core.specs.declared.command.CommandRef.{CommandRef}

-- a command with its time
pub record Said : Type 0 where
  pub value : Seen
  pub or_cat : ℤ
  pub or_ident : List ℕ
  pub ctl_num : ℕ
  pub at : Utc
  pub test : Bool
  pub rest : Row

abbrev pub command_said : Said → Command
command_said s = record { value = s.value; or_cat = s.or_cat; or_ident = s.or_ident; ctl_num = s.ctl_num; test = s.test; rest = s.rest }

-- what stands in memory that wasn't used yet
abbrev pub blank : Said
blank = record { value = plain (truth false); or_cat = pos 0; or_ident = []; ctl_num = 0; at = record { secs = 0; frac = 0; quality = 0 }; test = false; rest = more (plain (bits (false ∷ false ∷ []))) none }

-- the value that says it
abbrev pub value_said : Said → Value
value_said s = kinds.Struct (more s.value (more (structure (more (plain (int s.or_cat)) (more (plain (octets s.or_ident)) none))) (more (plain (uint s.ctl_num))
    (more (plain (time s.at.secs s.at.frac s.at.quality)) (more (plain (truth s.test)) s.rest)))))

-- the parts of a value, each where it is of its kind
abbrev pub int_in : Seen → Option ℤ
int_in (plain (int z)) = Some z
int_in _ = None

abbrev pub octets_in : Seen → Option (List ℕ)
octets_in (plain (octets o)) = Some o
octets_in _ = None

abbrev pub uint_in : Seen → Option ℕ
uint_in (plain (uint n)) = Some n
uint_in _ = None

abbrev pub time_in : Seen → Option Utc
time_in (plain (time s f q)) = Some (record { secs = s; frac = f; quality = q })
time_in _ = None

abbrev pub bool_in : Seen → Option Bool
bool_in (plain (truth b)) = Some b
bool_in _ = None

-- orCat and orIdent, and nothing after them
abbrev pub origin_end : ℤ → List ℕ → Row → Option (ℤ × List ℕ)
origin_end z o none = Some (z, o)
origin_end z o (more s r) = None

abbrev pub ident_row : ℤ → Row → Option (ℤ × List ℕ)
ident_row z none = None
ident_row z (more i r) = option_and_then (λ o. origin_end z o r) (octets_in i)

abbrev pub origin_row : Row → Option (ℤ × List ℕ)
origin_row none = None
origin_row (more c r) = option_and_then (λ z. ident_row z r) (int_in c)

abbrev pub origin_in : Seen → Option (ℤ × List ℕ)
origin_in (structure r) = origin_row r
origin_in (plain p) = None

-- ctlVal of any kind, origin, ctlNum, T, Test, and what follows
abbrev pub test_row : Seen → ℤ × List ℕ → ℕ → Utc → Row → Option Said
test_row v g m u none = None
test_row v g m u (more x rest) = option_map (λ b. record { value = v; or_cat = g.0; or_ident = g.1; ctl_num = m; at = u; test = b; rest = rest }) (bool_in x)

abbrev pub time_row : Seen → ℤ × List ℕ → ℕ → Row → Option Said
time_row v g m none = None
time_row v g m (more t r) = option_and_then (λ u. test_row v g m u r) (time_in t)

abbrev pub num_row : Seen → ℤ × List ℕ → Row → Option Said
num_row v g none = None
num_row v g (more n r) = option_and_then (λ m. time_row v g m r) (uint_in n)

abbrev pub from_row : Seen → Row → Option Said
from_row v none = None
from_row v (more o r) = option_and_then (λ g. num_row v g r) (origin_in o)

abbrev pub parts_in : Row → Option Said
parts_in none = None
parts_in (more v r) = from_row v r

abbrev pub said_in : Value → Option Said
said_in (kinds.Struct r) = parts_in r
said_in _ = None

-- the ctlVal is of the kind
abbrev pub of_kind : Kind → Option Said → Option Said
of_kind kind s = option_and_then (λ (s : Said). if is_kind kind (value_of s.value) && is_in_range kind (value_of s.value) then Some s else None) s

-- origin, ctlNum and what follows are within their limits
abbrev pub is_limited : Calling → Said → Bool
is_limited call s = int_le (neg_ℤ (pos 128)) s.or_cat && int_le s.or_cat (pos 127) && nat_le (length s.or_ident) 64 && nat_lt s.ctl_num 256 && is_rest call s.rest

abbrev pub kind_in : CtlKind → Kind
kind_in ctl_kinds.Bool = model.truth
kind_in ctl_kinds.Int32 = model.int 32

abbrev pub seen_val : CtlVal → Seen
seen_val (ctl_vals.Bool b) = plain (truth b)
seen_val (ctl_vals.Int z) = plain (int z)

abbrev pub rest_checked : Check → Row
rest_checked c = more (plain (bits (c.synchro ∷ c.interlock ∷ []))) none

-- a command that is lent
abbrev pub said : CommandRef → Said
said r = record { value = seen_val r.value; or_cat = r.origin.cat; or_ident = r.origin.ident.now; ctl_num = r.ctl_num; at = r.time; test = r.test; rest = row_of r.rest.now }
