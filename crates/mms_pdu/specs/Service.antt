-- What a confirmed service asks (ISO 9506-2, ConfirmedServiceRequest). N is what a name is, octets or a piece of the
-- input, and D what Data are, values or elements in place.
use Rattle.std.specs.Prelude.{ℕ, Bool, List, map, Option}
use Rattle.std.specs.Option.{option_map}
use Rattle.ber_grammar.specs.Place.{Spot, Piece}
use Rattle.sv_base.specs.Tree.{Seen}
use Rattle.mms_pdu.specs.ObjectName.{Name, name_octets}
use Rattle.mms_pdu.specs.Variable.{Variable, variable_octets}
use Rattle.mms_pdu.specs.Datum.{value_at}

-- whose names are asked for
pub data Scope (N : Type 0) : Type 0 where
  of_vmd : Scope N
  of_domain : N → Scope N
  of_association : Scope N

pub data Service (N D : Type 0) : Type 0 where
  status : Service N D
  identify : Service N D
  -- GetNameList: the class of the objects, the scope, and after which name
  names : ℕ → Scope N → Option N → Service N D
  -- GetVariableAccessAttributes
  type_of_node : Name N → Service N D
  -- Read, of variables and of a named variable list, and whether the specification is to come back
  read : List (Variable N) → Bool → Service N D
  read_set : Name N → Bool → Service N D
  -- Write, of variables and of a named variable list
  write_vars : List (Variable N) → List D → Service N D
  write_set : Name N → List D → Service N D
  -- DefineNamedVariableList
  define : Name N → List (Variable N) → Service N D
  -- GetNamedVariableListAttributes
  set_of : Name N → Service N D
  -- DeleteNamedVariableList: the scope of the deletion, and the names
  delete : ℕ → List (Name N) → Service N D

-- ---- what is asked, without where it lies

abbrev pub octets : Piece → List ℕ
octets p = p.octets

abbrev pub scope_octets : Scope Piece → Scope (List ℕ)
scope_octets of_vmd = of_vmd
scope_octets (of_domain d) = of_domain d.octets
scope_octets of_association = of_association

abbrev pub service_octets : Service Piece Spot → Service (List ℕ) Seen
service_octets status = status
service_octets identify = identify
service_octets (names class scope after) = names class (scope_octets scope) (option_map octets after)
service_octets (type_of_node n) = type_of_node (name_octets n)
service_octets (read vs spec) = read (map variable_octets vs) spec
service_octets (read_set n spec) = read_set (name_octets n) spec
service_octets (write_vars vs ds) = write_vars (map variable_octets vs) (map value_at ds)
service_octets (write_set n ds) = write_set (name_octets n) (map value_at ds)
service_octets (define n vs) = define (name_octets n) (map variable_octets vs)
service_octets (set_of n) = set_of (name_octets n)
service_octets (delete scope ns) = delete scope (map name_octets ns)
