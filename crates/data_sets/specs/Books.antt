-- The data sets that are there, in the order of the configuration and then of their definition, each with how many report
-- blocks name it (IEC 61850-7-2, DATA-SET).
use Rattle.std.specs.Prelude.{ℕ, ◌<◌, suc, ◌+◌, ◌-◌, Bool, false, not, ◌&&◌, ◌||◌, nat_le, nat_lt, List, [], ◌∷◌, ◌++◌, map, length, take, drop, max, Option, None, Some, Result, Ok, Err, is_some, slice_index_or, slice_set, if◌then◌else◌}
use Rattle.std.specs.Option.{option_map}
use Rattle.std.specs.List.{All, filter, list_all}
use Rattle.std.specs.Str.{bytes_eq}
use Rattle.sv_base.specs.declared.numbers.NodeId.{NodeId}
use Rattle.bay_model.specs.declared.request.SetName.{SetName}
use Rattle.bay_model.specs.declared.request.Target.{Target}
use Rattle.bay_model.specs.declared.request.Target.TheVariants as targets
use Rattle.bay_model.specs.declared.tables.NodeRow.{NodeRow}
use Rattle.bay_model.specs.declared.tables.SetRow.{SetRow}
use Rattle.bay_model.specs.Breaks.{is_empty}
use Rattle.bay_model.specs.Lookups.{reference_of}
use Rattle.set_view.specs.Shapes.{no_row}
use Rattle.data_sets.specs.declared.book.Entry.{Entry}
use Rattle.data_sets.specs.declared.book.DefineFault.{DefineFault}
use Rattle.data_sets.specs.declared.book.DefineFault.TheVariants as define
use Rattle.data_sets.specs.declared.book.DeleteFault.{DeleteFault}
use Rattle.data_sets.specs.declared.book.DeleteFault.TheVariants as delete

-- a data set: its name, its members, and how many blocks name it
pub record Booked : Type 0 where
  pub name : SetName
  pub nodes : List NodeId
  pub holds : ℕ

abbrev pub seen : Entry → Booked
seen e = record { name = e.name; nodes = e.nodes.items; holds = e.holds }

-- the first that many are the configured ones
pub record Book : Type 0 where
  pub configured : ℕ
  pub sets : List Booked

abbrev pub is_name : SetName → SetName → Bool
is_name n m = bytes_eq n.domain m.domain && bytes_eq n.item m.item

abbrev pub reference : Booked → List ℕ
reference b = reference_of b.name.domain b.name.item

-- the number of a set, which is its place: by its name, and by its reference `LD/LN$NAME`
abbrev pub place_of : (Booked → Bool) → List Booked → Option ℕ
place_of p [] = None
place_of p (b ∷ bs) = if p b then Some 0 else option_map suc (place_of p bs)

abbrev pub number_named : SetName → Book → Option ℕ
number_named n b = place_of (λ s. is_name n s.name) b.sets

abbrev pub number_referred : List ℕ → Book → Option ℕ
number_referred r b = place_of (λ s. bytes_eq r (reference s)) b.sets

abbrev pub no_set : Booked
no_set = record { name = record { domain = []; item = [] }; nodes = []; holds = 0 }

abbrev pub set_at : Book → ℕ → Booked
set_at b k = slice_index_or b.sets k no_set

-- the nodes of the set of a number; none where there is no number
abbrev pub nodes_in : Book → Option ℕ → List NodeId
nodes_in b None = []
nodes_in b (Some k) = (set_at b k).nodes

-- the greatest of some numbers, and how many members the largest set has
abbrev pub greatest : List ℕ → ℕ
greatest [] = 0
greatest (n ∷ ns) = max n (greatest ns)

abbrev pub largest_in : List Booked → ℕ
largest_in sets = greatest (map (λ (s : Booked). length s.nodes) sets)

abbrev pub largest : Book → ℕ
largest b = largest_in b.sets

-- the number, where there is one, is that of a set
abbrev pub IsSet : Book → Option ℕ → Type 0
IsSet b None = Unit {0}
IsSet b (Some k) = k < length b.sets

abbrev pub row_of : List NodeRow → NodeId → NodeRow
row_of rows n = slice_index_or rows n.0 no_row

-- the node may be a member: of those that may, with at most 500 octets, asked for without alternate access
abbrev pub is_member : List NodeRow → Target → Bool
is_member rows (targets.Node n name) = (row_of rows n).allowed && nat_le (row_of rows n).octets 500
is_member rows _ = false

abbrev pub node_in : Target → NodeId
node_in (targets.Node n name) = n
node_in _ = record { 0 = 0 }

-- why a set isn't defined, in the order of the tests
abbrev pub define_fault : Book → SetName → Bool → List NodeRow → List Target → Option DefineFault
define_fault b n is_named rows ts =
    if is_some (number_named n b) then Some define.Exists
    else (if not is_named || is_empty ts || not (list_all (is_member rows) ts) then Some define.NoSuchMember
    else (if nat_lt 256 (length ts) || nat_le 64 (length b.sets - b.configured) then Some define.Full else None))

abbrev pub defined_set : SetName → List Target → Booked
defined_set n ts = record { name = n; nodes = map node_in ts; holds = 0 }

-- one more set, after the others
abbrev pub with_set : Booked → Book → Book
with_set s b = record b { sets = b.sets ++ s ∷ [] }

abbrev pub after_define : SetName → List Target → Book → Book
after_define n ts b = with_set (defined_set n ts) b

-- the number of the set that goes, or why it doesn't
abbrev pub deletion_of : Book → Option ℕ → Result ℕ DeleteFault
deletion_of b None = Err delete.NoSuchSet
deletion_of b (Some k) = if nat_lt k b.configured then Err delete.NotDeletable else (if nat_lt 0 (set_at b k).holds then Err delete.InUse else Ok k)

abbrev pub deletion : Book → SetName → Result ℕ DeleteFault
deletion b n = deletion_of b (number_named n b)

abbrev pub after_delete : ℕ → Book → Book
after_delete k b = record b { sets = take k b.sets ++ drop (suc k) b.sets }

abbrev pub held : Booked → Booked
held s = record s { holds = s.holds + 1 }

abbrev pub let_go : Booked → Booked
let_go s = record s { holds = s.holds - 1 }

abbrev pub after_hold : ℕ → Book → Book
after_hold k b = record b { sets = slice_set b.sets k (held (set_at b k)) }

abbrev pub after_release : ℕ → Book → Book
after_release k b = record b { sets = slice_set b.sets k (let_go (set_at b k)) }

-- the items of a domain's sets
abbrev pub items_in : List ℕ → List Booked → List (List ℕ)
items_in domain sets = map (λ (s : Booked). s.name.item) (filter (λ (s : Booked). bytes_eq s.name.domain domain) sets)

-- the configured sets, which nobody holds
abbrev pub booked : SetRow → Booked
booked r = record { name = r.name; nodes = r.nodes; holds = 0 }

abbrev pub opened : List SetRow → Book
opened rows = record { configured = length rows; sets = map booked rows }

-- the node of a target is among that many
abbrev pub IsThere : ℕ → Target → Type 0
IsThere count (targets.Node n name) = n.0 < count
IsThere count _ = Unit {0}

abbrev pub AreTargets : ℕ → List Target → Type 0
AreTargets count ts = All (IsThere count) ts
