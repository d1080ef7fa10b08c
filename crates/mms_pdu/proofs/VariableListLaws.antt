-- Defining and deleting lists of variables: what is read is what is spelled, and what is spelled is read.
use Rattle.std.proofs.Common.{◌≡◌, ℕ, eqb, List, [], ◌∷◌, map, Some, inl, inr, refl, sym, subst, arith}
use Rattle.std.proofs.lemmas.Bool.{eqb-true, eq-eqb, ne_eqb}
use Rattle.list_laws.proofs.Options.{some_is, chosen, either_way}
use Rattle.ber_grammar.specs.Element.{Element}
use Rattle.ber_grammar.specs.Octets.{IsBytes}
use Rattle.ber_grammar.specs.Place.{Spot, Piece, content_piece, elements}
use Rattle.ber_grammar.specs.Reader.{and_then}
use Rattle.ber_grammar.proofs.OctetLaws.{AllBytes}
use Rattle.ber_grammar.proofs.OptionLaws.{then_some}
use Rattle.sv_base.specs.Tree.{Seen}
use Rattle.mms_pdu.specs.Each.{each_in}
use Rattle.mms_pdu.specs.ObjectName.{Name, name_octets, name_at}
use Rattle.mms_pdu.specs.NameList.{octet_at}
use Rattle.mms_pdu.specs.Variable.{Variable, variable_octets, AreVariables, variable_at}
use Rattle.mms_pdu.specs.Service.{Service, service_octets}
use Rattle.mms_pdu.specs.Service as services
use Rattle.mms_pdu.specs.VariableLists.{IsDefine, IsDeleteScope, AreNames, IsDelete, variable_list_at, define_at, names_at, delete_at}
use Rattle.mms_pdu.proofs.ObjectNameLaws.{name_found, name_again}
use Rattle.mms_pdu.proofs.VariableLaws.{variables_found, variables_again, names_found, names_again}
use Rattle.mms_pdu.proofs.NameListLaws.{octet_found, octet_again}

-- ---- define

variable_list_found : (s : Spot) (vs : List (Variable Piece)) → IsBytes s.element.content → variable_list_at s ≡ Some vs → (s.element.tag ≡ 160) × AreVariables s.element.content (map variable_octets vs)
unfolding variable_list_at
variable_list_found s vs fits h =
    let a = chosen (eqb s.element.tag 160) (each_in variable_at (content_piece s)) vs h in
    (eqb-true s.element.tag 160 a.0, variables_found (content_piece s) vs fits a.1)

variable_list_again : (s : Spot) (vs : List (Variable (List ℕ))) → IsBytes s.element.content → s.element.tag ≡ 160 → AreVariables s.element.content vs → (xs : List (Variable Piece)) × (variable_list_at s ≡ Some xs) × (map variable_octets xs ≡ vs)
unfolding variable_list_at
variable_list_again s vs fits tag h =
    let x = variables_again (content_piece s) vs fits h in
    (x.0, rw (tag, x.1) refl, x.2)

-- what is asked is a definition
abbrev pub DefineIs : List Element → Service (List ℕ) Seen → Type 0
DefineIs es (services.define n vs) = IsDefine es n vs
DefineIs es other = ⊥

pub define_found : (ss : List Spot) (service : Service Piece Spot) → AllBytes (elements ss) → define_at ss ≡ Some service → DefineIs (elements ss) (service_octets service)
unfolding define_at
define_found [] service fits h = absurd cc
define_found (s ∷ []) service fits h = absurd cc
define_found (s ∷ t ∷ []) service fits h =
    let x = then_some (name_at s) (λ n. and_then (variable_list_at t) (λ vs. Some (services.define n vs))) service h in
    let y = then_some (variable_list_at t) (λ vs. Some (services.define x.0 vs)) service x.2 in
    let list = variable_list_found t y.0 fits.1.0 y.1 in
    subst (λ (w : Service Piece Spot). DefineIs (s.element ∷ t.element ∷ []) (service_octets w)) (some_is (services.define x.0 y.0) service y.2) (name_found s x.0 x.1, list.0, list.1)
define_found (s ∷ t ∷ u ∷ more) service fits h = absurd cc

pub define_again : (ss : List Spot) (n : Name (List ℕ)) (vs : List (Variable (List ℕ))) → AllBytes (elements ss) → IsDefine (elements ss) n vs
    → (x : Service Piece Spot) × (define_at ss ≡ Some x) × (service_octets x ≡ services.define n vs)
unfolding define_at
define_again [] n vs fits h = absurd h
define_again (s ∷ []) n vs fits h = absurd h
define_again (s ∷ t ∷ []) n vs fits h =
    let x = name_again s n h.0 in
    let y = variable_list_again t vs fits.1.0 h.1 h.2 in
    (services.define x.0 y.0, rw (x.1, y.1) refl, rw (x.2, y.2) refl)
define_again (s ∷ t ∷ u ∷ more) n vs fits h = absurd h

-- ---- delete

-- the names, where they are there
abbrev HasNames : List Element → List (Name (List ℕ)) → Type 0
HasNames [] ns = ns ≡ []
HasNames (e ∷ []) ns = AreNames e ns
HasNames (e ∷ d ∷ es) ns = ⊥

has_names_found : (ss : List Spot) (ns : List (Name Piece)) → AllBytes (elements ss) → names_at ss ≡ Some ns → HasNames (elements ss) (map name_octets ns)
unfolding names_at
has_names_found [] ns fits h = subst (λ (x : List (Name Piece)). HasNames [] (map name_octets x)) (some_is [] ns h) refl
has_names_found (s ∷ []) ns fits h =
    let a = chosen (eqb s.element.tag 161) (each_in name_at (content_piece s)) ns h in
    let b = names_found (content_piece s) ns fits.0 a.1 in
    (eqb-true s.element.tag 161 a.0, b.0, b.1, b.2)
has_names_found (s ∷ t ∷ more) ns fits h = absurd cc

has_names_again : (ss : List Spot) (ns : List (Name (List ℕ))) → AllBytes (elements ss) → HasNames (elements ss) ns → (xs : List (Name Piece)) × (names_at ss ≡ Some xs) × (map name_octets xs ≡ ns)
unfolding names_at
has_names_again [] ns fits h = ([], refl, sym h)
has_names_again (s ∷ []) ns fits h =
    let x = names_again (content_piece s) h.1 ns fits.0 h.2 h.3 in
    (x.0, rw (h.0, x.1) refl, x.2)
has_names_again (s ∷ t ∷ more) ns fits h = absurd h

-- what is asked is a deletion
abbrev pub DeleteIs : List Element → Service (List ℕ) Seen → Type 0
DeleteIs es (services.delete scope ns) = IsDelete es scope ns
DeleteIs es other = ⊥

scoped : (e : Element) (es : List Element) (scope : ℕ) (ns : List (Name (List ℕ))) → IsDeleteScope e scope → HasNames es ns → IsDelete (e ∷ es) scope ns
scoped e [] scope ns is has = inl (is, has)
scoped e (d ∷ []) scope ns is has = (is, has)
scoped e (d ∷ c ∷ es) scope ns is has = absurd has

unscoped : (e : Element) (es : List Element) (ns : List (Name (List ℕ))) → HasNames (e ∷ es) ns → IsDelete (e ∷ es) 0 ns
unscoped e [] ns has = inr (refl, has)
unscoped e (d ∷ es) ns has = absurd has

pub delete_found : (ss : List Spot) (service : Service Piece Spot) → AllBytes (elements ss) → delete_at ss ≡ Some service → DeleteIs (elements ss) (service_octets service)
unfolding delete_at
delete_found [] service fits h = subst (λ (w : Service Piece Spot). DeleteIs [] (service_octets w)) (some_is (services.delete 0 []) service h) (refl, refl)
delete_found (s ∷ more) service fits h =
    let first = and_then (octet_at 128 s) (λ scope. and_then (names_at more) (λ ns. Some (services.delete scope ns))) in
    let second = and_then (names_at (s ∷ more)) (λ ns. Some (services.delete 0 ns)) in
    either_way (eqb s.element.tag 128) first second (Some service) h
    (λ t e. let x = then_some (octet_at 128 s) (λ scope. and_then (names_at more) (λ ns. Some (services.delete scope ns))) service e in
    let y = then_some (names_at more) (λ ns. Some (services.delete x.0 ns)) service x.2 in
    let o = octet_found 128 s x.0 fits.0 x.1 in
    subst (λ (w : Service Piece Spot). DeleteIs (elements (s ∷ more)) (service_octets w)) (some_is (services.delete x.0 y.0) service y.2)
    (scoped s.element (elements more) x.0 (map name_octets y.0) (o.0, o.1, o.2) (has_names_found more y.0 fits.1 y.1)))
    (λ t e. let y = then_some (names_at (s ∷ more)) (λ ns. Some (services.delete 0 ns)) service e in
    subst (λ (w : Service Piece Spot). DeleteIs (elements (s ∷ more)) (service_octets w)) (some_is (services.delete 0 y.0) service y.2)
    (unscoped s.element (elements more) (map name_octets y.0) (has_names_found (s ∷ more) y.0 fits y.1)))

delete_scoped : (s : Spot) (more : List Spot) (scope : ℕ) (ns : List (Name (List ℕ))) → AllBytes (elements (s ∷ more)) → IsDeleteScope s.element scope → HasNames (elements more) ns
    → (x : Service Piece Spot) × (delete_at (s ∷ more) ≡ Some x) × (service_octets x ≡ services.delete scope ns)
unfolding delete_at
delete_scoped s more scope ns fits is has =
    let x = has_names_again more ns fits.1 has in
    (services.delete scope x.0, rw (eq-eqb s.element.tag 128 is.0, octet_again 128 s scope is.0 is.1 is.2, x.1) refl, rw x.2 refl)

pub delete_again : (ss : List Spot) (scope : ℕ) (ns : List (Name (List ℕ))) → AllBytes (elements ss) → IsDelete (elements ss) scope ns
    → (x : Service Piece Spot) × (delete_at ss ≡ Some x) × (service_octets x ≡ services.delete scope ns)
unfolding delete_at
delete_again [] scope ns fits h = (services.delete 0 [], refl, rw (h.0, h.1) refl)
delete_again (s ∷ []) scope ns fits (inl h) = delete_scoped s [] scope ns fits h.0 h.1
delete_again (s ∷ []) scope ns fits (inr h) =
    let x = has_names_again (s ∷ []) ns fits h.1 in
    (services.delete 0 x.0, rw (ne_eqb s.element.tag 128 (λ e. omega (arith, e, h.1.0)), x.1) refl, rw (x.2, h.0) refl)
delete_again (s ∷ t ∷ []) scope ns fits h = delete_scoped s (t ∷ []) scope ns fits h.0 h.1
delete_again (s ∷ t ∷ u ∷ more) scope ns fits h = absurd h
