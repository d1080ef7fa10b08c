-- Names of sets that are deleted in turn, and why a set isn't defined (ISO 9506-2, DeleteNamedVariableList and
-- DefineNamedVariableList).
use Rattle.std.specs.Prelude.{◌≡◌, ℕ, ◌+◌, Bool, true, false, ◌&&◌, nat_le, List, [], ◌∷◌, ◌++◌, Result, Ok, Err, if◌then◌else◌}
use Rattle.sv_base.specs.declared.numbers.NodeId.{NodeId}
use Rattle.bay_model.specs.declared.request.SetName.{SetName}
use Rattle.bay_model.specs.declared.tables.NodeRow.{NodeRow}
use Rattle.bay_model.specs.Lookups.{node_of}
use Rattle.bay_model.specs.Model.{Model}
use Rattle.data_sets.specs.declared.book.DefineFault.{DefineFault}
use Rattle.data_sets.specs.declared.book.DefineFault.TheVariants as define
use Rattle.data_sets.specs.declared.book.DeleteFault.{DeleteFault}
use Rattle.data_sets.specs.declared.book.DeleteFault.TheVariants as delete
use Rattle.data_sets.specs.Books.{Book, deletion, after_delete, row_of}
use Rattle.bay_model.specs.declared.service_errors.TheConstants.{DEFINITION, RESOURCE, ACCESS, OBJECT_EXISTS, RESOURCE_OTHER, OBJECT_NON_EXISTENT}

-- the error of a refused definition, by class and code
abbrev pub error_of : DefineFault → ℕ × ℕ
error_of define.Exists = (DEFINITION, OBJECT_EXISTS)
error_of define.NoSuchMember = (ACCESS, OBJECT_NON_EXISTENT)
error_of define.Full = (RESOURCE, RESOURCE_OTHER)

-- the rows have the nodes' right to be members
abbrev pub AreRows : Model → List NodeRow → Type 0
AreRows c rows = (n : NodeId) → (node_of c n.0).allowed ≡ ((row_of rows n).allowed && nat_le (row_of rows n).octets 500)

abbrev pub is_going : Result ℕ DeleteFault → Bool
is_going (Ok k) = true
is_going (Err f) = false

abbrev pub is_there : Result ℕ DeleteFault → Bool
is_there (Err delete.NoSuchSet) = false
is_there _ = true

abbrev pub after_one : Result ℕ DeleteFault → Book → Book
after_one (Ok k) b = after_delete k b
after_one (Err f) b = b

-- the names are taken in order: what is left, which sets went, and how many were there at their turn
abbrev pub after_deletes : List SetName → Book → Book
after_deletes [] b = b
after_deletes (n ∷ ns) b = after_deletes ns (after_one (deletion b n) b)

abbrev pub going : List SetName → Book → List SetName
going [] b = []
going (n ∷ ns) b = (if is_going (deletion b n) then n ∷ [] else []) ++ going ns (after_one (deletion b n) b)

abbrev pub there : List SetName → Book → ℕ
there [] b = 0
there (n ∷ ns) b = (if is_there (deletion b n) then 1 else 0) + there ns (after_one (deletion b n) b)
