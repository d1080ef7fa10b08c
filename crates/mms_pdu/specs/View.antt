-- What the program gives, as what the grammar has.
use Rattle.std.specs.Option.{option_map}
use Rattle.ber_grammar.specs.Place.{Spot, Piece, piece}
use Rattle.mms_pdu.specs.declared.object_name.NameView.{NameView}
use Rattle.mms_pdu.specs.declared.object_name.NameView.TheVariants.{Vmd, Domain, Association}
use Rattle.mms_pdu.specs.declared.variable.VariableView.{VariableView}
use Rattle.mms_pdu.specs.declared.service.ScopeView.{ScopeView}
use Rattle.mms_pdu.specs.declared.service.ScopeView.TheVariants as scope_views
use Rattle.mms_pdu.specs.declared.service.ServiceView.{ServiceView}
use Rattle.mms_pdu.specs.declared.service.ServiceView.TheVariants as views
use Rattle.mms_pdu.specs.declared.access.AccessView.{AccessView}
use Rattle.mms_pdu.specs.declared.access.AccessView.TheVariants as accesses
use Rattle.mms_pdu.specs.declared.reading.RequestView.{RequestView}
use Rattle.mms_pdu.specs.declared.reading.RequestView.TheVariants as requests
use Rattle.mms_pdu.specs.ObjectName.{Name, vmd, domain, association}
use Rattle.mms_pdu.specs.Variable.{Variable}
use Rattle.mms_pdu.specs.Service.{Scope, of_vmd, of_domain, of_association, Service}
use Rattle.mms_pdu.specs.Service as services
use Rattle.mms_pdu.specs.Access.{Access, variables, named}
use Rattle.mms_pdu.specs.Request.{Request, confirmed, conclude, disregarded}

abbrev pub name : NameView → Name Piece
name (Vmd o) = vmd (piece o)
name (Domain d i) = domain (piece d) (piece i)
name (Association o) = association (piece o)

abbrev pub variable : VariableView → Variable Piece
variable v = record { name = name v.name; alternate = v.alternate }

abbrev pub scope : ScopeView → Scope Piece
scope scope_views.Vmd = of_vmd
scope (scope_views.Domain d) = of_domain (piece d)
scope scope_views.Association = of_association

abbrev pub access : AccessView → Access Piece
access (accesses.Variables vs) = variables vs
access (accesses.Named n) = named (name n)

-- Lists are seen as what is in them.
abbrev pub service : ServiceView → Service Piece Spot
service views.Status = services.status
service views.Identify = services.identify
service (views.Names class s after) = services.names class (scope s) (option_map piece after)
service (views.TypeOfNode n) = services.type_of_node (name n)
service (views.Read vs spec) = services.read vs spec
service (views.ReadSet n spec) = services.read_set (name n) spec
service (views.WriteVars vs ds) = services.write_vars vs ds
service (views.WriteSet n ds) = services.write_set (name n) ds
service (views.Define n vs) = services.define (name n) vs
service (views.SetOf n) = services.set_of (name n)
service (views.Delete s ns) = services.delete s ns

abbrev pub asked : RequestView → Request Piece Spot
asked (requests.Confirmed invoke s) = confirmed invoke (service s)
asked requests.Conclude = conclude
asked requests.Disregard = disregarded
