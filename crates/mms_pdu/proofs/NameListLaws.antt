-- GetNameList-Request: what is read is what is spelled, and what is spelled is read.
use Rattle.std.proofs.Common.{◌≡◌, ℕ, ◌<◌, cond, eqb, List, [], ◌∷◌, length, Option, Some, None, refl, sym, ap, subst}
use Rattle.std.specs.Option.{option_map}
use Rattle.std.proofs.lemmas.Bool.{eqb-true, eq-eqb}
use Rattle.std.proofs.lemmas.List.{nil_from_length}
use Rattle.list_laws.proofs.Options.{some_is, chosen, either_way}
use Rattle.ber_grammar.specs.Content.{IsUint}
use Rattle.ber_grammar.specs.Element.{Element, IsRow}
use Rattle.ber_grammar.specs.Octets.{IsBytes}
use Rattle.ber_grammar.specs.Place.{Spot, Piece, content_piece, elements}
use Rattle.ber_grammar.specs.Reader.{and_then}
use Rattle.ber_grammar.proofs.OctetLaws.{AllBytes}
use Rattle.ber_grammar.proofs.OptionLaws.{then_some}
use Rattle.sv_base.specs.Tree.{Seen}
use Rattle.ber_grammar.specs.Fields.{only_in, spot_in}
use Rattle.mms_elements.specs.Invoke.{below_at}
use Rattle.mms_pdu.specs.Service.{octets, Scope, of_vmd, of_domain, of_association, scope_octets, Service, service_octets}
use Rattle.mms_pdu.specs.Service as services
use Rattle.mms_pdu.specs.NameList.{IsClass, IsScope, IsAfter, IsNameList, octet_at, class_at, inner_scope_at, scope_at, after_at, name_list_at}
use Rattle.ber_grammar.proofs.FieldLaws.{only_found, only_again, only_bytes}
use Rattle.mms_elements.proofs.TaggedLaws.{below_found, below_again}

-- ---- numbers

pub octet_found : (tag : ℕ) (s : Spot) (n : ℕ) → IsBytes s.element.content → octet_at tag s ≡ Some n → (s.element.tag ≡ tag) × IsUint s.element.content n × (n < 256)
unfolding octet_at
octet_found tag s n fits h =
    let a = chosen (eqb s.element.tag tag) (below_at 256 s.element.content) n h in
    let b = below_found 256 s.element.content n fits a.1 in
    (eqb-true s.element.tag tag a.0, b.0, b.1)

pub octet_again : (tag : ℕ) (s : Spot) (n : ℕ) → s.element.tag ≡ tag → IsUint s.element.content n → n < 256 → octet_at tag s ≡ Some n
unfolding octet_at
octet_again tag s n t is lt = rw (eq-eqb s.element.tag tag t, below_again 256 s.element.content n is lt) refl

-- ---- the fields

class_found : (s : Spot) (class : ℕ) → IsBytes s.element.content → class_at s ≡ Some class → IsClass s.element class
unfolding class_at
class_found s class fits h =
    let a = chosen (eqb s.element.tag 160) (and_then (only_in (content_piece s)) (octet_at 128)) class h in
    let b = then_some (only_in (content_piece s)) (octet_at 128) class a.1 in
    let row = only_found (content_piece s) b.0 b.1 in
    let c = octet_found 128 b.0 class (only_bytes s.element.content b.0.element fits row) b.2 in
    (eqb-true s.element.tag 160 a.0, b.0.element, row, c.0, c.1, c.2)

class_again : (s : Spot) (class : ℕ) → IsClass s.element class → class_at s ≡ Some class
unfolding class_at
class_again s class (tag, k, row, inner, is, lt) = rw (tag, only_again (content_piece s) k row, octet_again 128 (spot_in (content_piece s) k) class inner is lt) refl

inner_scope_found : (s : Spot) (scope : Scope Piece) → inner_scope_at s ≡ Some scope → IsScope s.element (scope_octets scope)
inner_scope_found s scope h =
    let none = eqb (length s.element.content) 0 in
    let last = cond (eqb s.element.tag 130) (cond none (Some of_association) None) None in
    either_way (eqb s.element.tag 128) (cond none (Some of_vmd) None) (cond (eqb s.element.tag 129) (Some (of_domain (content_piece s))) last) (Some scope) h
    (λ t e. let a = chosen none (Some of_vmd) scope e in
    subst (λ (x : Scope Piece). IsScope s.element (scope_octets x)) (some_is of_vmd scope a.1) (eqb-true s.element.tag 128 t, nil_from_length s.element.content (eqb-true (length s.element.content) 0 a.0)))
    (λ t e. either_way (eqb s.element.tag 129) (Some (of_domain (content_piece s))) last (Some scope) e
    (λ u f. subst (λ (x : Scope Piece). IsScope s.element (scope_octets x)) (some_is (of_domain (content_piece s)) scope f) (eqb-true s.element.tag 129 u, refl))
    (λ u f. let a = chosen (eqb s.element.tag 130) (cond none (Some of_association) None) scope f in
    let b = chosen none (Some of_association) scope a.1 in
    subst (λ (x : Scope Piece). IsScope s.element (scope_octets x)) (some_is of_association scope b.1) (eqb-true s.element.tag 130 a.0, nil_from_length s.element.content (eqb-true (length s.element.content) 0 b.0))))

inner_scope_again : (s : Spot) (scope : Scope (List ℕ)) → IsScope s.element scope → (x : Scope Piece) × (inner_scope_at s ≡ Some x) × (scope_octets x ≡ scope)
inner_scope_again s of_vmd h = (of_vmd, rw (h.0, h.1) refl, refl)
inner_scope_again s (of_domain d) h = (of_domain (content_piece s), rw h.0 refl, ap (λ (o : List ℕ). of_domain o) (sym h.1))
inner_scope_again s of_association h = (of_association, rw (h.0, h.1) refl, refl)

scope_found : (s : Spot) (scope : Scope Piece) → scope_at s ≡ Some scope → (s.element.tag ≡ 161) × (k : Element) × IsRow s.element.content (k ∷ []) × IsScope k (scope_octets scope)
unfolding scope_at
scope_found s scope h =
    let a = chosen (eqb s.element.tag 161) (and_then (only_in (content_piece s)) inner_scope_at) scope h in
    let b = then_some (only_in (content_piece s)) inner_scope_at scope a.1 in
    (eqb-true s.element.tag 161 a.0, b.0.element, only_found (content_piece s) b.0 b.1, inner_scope_found b.0 scope b.2)

scope_again : (s : Spot) (k : Element) (scope : Scope (List ℕ)) → s.element.tag ≡ 161 → IsRow s.element.content (k ∷ []) → IsScope k scope → (x : Scope Piece) × (scope_at s ≡ Some x) × (scope_octets x ≡ scope)
unfolding scope_at
scope_again s k scope tag row is =
    let x = inner_scope_again (spot_in (content_piece s) k) scope is in
    (x.0, rw (tag, only_again (content_piece s) k row, x.1) refl, x.2)

after_found : (ss : List Spot) (after : Option Piece) → after_at ss ≡ Some after → IsAfter (elements ss) (option_map octets after)
after_found [] after h = subst (λ (x : Option Piece). IsAfter [] (option_map octets x)) (some_is None after h) tt
after_found (s ∷ []) after h =
    let a = chosen (eqb s.element.tag 130) (Some (Some (content_piece s))) after h in
    subst (λ (x : Option Piece). IsAfter (s.element ∷ []) (option_map octets x)) (some_is (Some (content_piece s)) after a.1) (eqb-true s.element.tag 130 a.0, refl)
after_found (s ∷ t ∷ more) after h = absurd cc

after_again : (ss : List Spot) (after : Option (List ℕ)) → IsAfter (elements ss) after → (x : Option Piece) × (after_at ss ≡ Some x) × (option_map octets x ≡ after)
after_again [] None h = (None, refl, refl)
after_again [] (Some o) h = absurd h
after_again (s ∷ []) None h = absurd h
after_again (s ∷ []) (Some o) h = (Some (content_piece s), rw h.0 refl, ap (λ (x : List ℕ). Some x) (sym h.1))
after_again (s ∷ t ∷ more) after h = absurd h

-- ---- the request

-- what is asked is a list of names
abbrev pub NamesAre : List Element → Service (List ℕ) Seen → Type 0
NamesAre es (services.names class scope after) = IsNameList es class scope after
NamesAre es other = ⊥

pub name_list_found : (ss : List Spot) (service : Service Piece Spot) → AllBytes (elements ss) → name_list_at ss ≡ Some service → NamesAre (elements ss) (service_octets service)
unfolding name_list_at
name_list_found [] service fits h = absurd cc
name_list_found (a ∷ []) service fits h = absurd cc
name_list_found (a ∷ b ∷ more) service fits h =
    let x = then_some (class_at a) (λ class. and_then (scope_at b) (λ scope. and_then (after_at more) (λ after. Some (services.names class scope after)))) service h in
    let y = then_some (scope_at b) (λ scope. and_then (after_at more) (λ after. Some (services.names x.0 scope after))) service x.2 in
    let z = then_some (after_at more) (λ after. Some (services.names x.0 y.0 after)) service y.2 in
    let scope = scope_found b y.0 y.1 in
    subst (λ (w : Service Piece Spot). NamesAre (elements (a ∷ b ∷ more)) (service_octets w)) {x = services.names x.0 y.0 z.0} (some_is (services.names x.0 y.0 z.0) service z.2)
    (class_found a x.0 fits.0 x.1, scope.0, scope.1, scope.2, scope.3, after_found more z.0 z.1)

pub name_list_again : (ss : List Spot) (class : ℕ) (scope : Scope (List ℕ)) (after : Option (List ℕ)) → IsNameList (elements ss) class scope after
    → (x : Service Piece Spot) × (name_list_at ss ≡ Some x) × (service_octets x ≡ services.names class scope after)
unfolding name_list_at
name_list_again [] class scope after h = absurd h
name_list_again (a ∷ []) class scope after h = absurd h
name_list_again (a ∷ b ∷ more) class scope after (is_class, tag, k, row, is_scope, is_after) =
    let y = scope_again b k scope tag row is_scope in
    let z = after_again more after is_after in
    (services.names class y.0 z.0, rw (class_again a class is_class, y.1, z.1) refl, rw (y.2, z.2) refl)
