-- A confirmed service: what is read is what is spelled, and what is spelled is read.
use Rattle.std.proofs.Common.{◌≡◌, ℕ, eqb, List, length, Option, Some, refl, subst}
use Rattle.std.proofs.lemmas.Bool.{eqb-true}
use Rattle.std.proofs.lemmas.List.{nil_from_length}
use Rattle.list_laws.proofs.Options.{some_is, chosen, either_way}
use Rattle.ber_grammar.specs.Element.{Element, IsRow}
use Rattle.ber_grammar.specs.Octets.{IsBytes}
use Rattle.ber_grammar.specs.Place.{Spot, Piece, content_piece, elements}
use Rattle.ber_grammar.specs.Reader.{and_then}
use Rattle.ber_grammar.proofs.OctetLaws.{AllBytes, IsRow-bytes}
use Rattle.ber_grammar.proofs.OptionLaws.{then_some}
use Rattle.sv_base.specs.Tree.{Seen}
use Rattle.ber_grammar.specs.Fields.{fields_in, only_in, spot_in, spots}
use Rattle.mms_pdu.specs.ObjectName.{name_at}
use Rattle.mms_pdu.specs.Variable.{named_at}
use Rattle.mms_pdu.specs.Service.{Service, service_octets}
use Rattle.mms_pdu.specs.Service as services
use Rattle.mms_pdu.specs.NameList.{name_list_at}
use Rattle.mms_pdu.specs.Access.{truth_at, read_at, write_at}
use Rattle.mms_pdu.specs.VariableLists.{define_at, delete_at}
use Rattle.mms_pdu.specs.Services.{IsService, status_at, identify_at, type_of_node_at, set_of_at, service_at}
use Rattle.ber_grammar.proofs.FieldLaws.{elements_found, elements_again, in_place, only_found, only_again}
use Rattle.mms_pdu.proofs.VariableLaws.{only_name_found, only_name_again, named_found, named_again}
use Rattle.mms_pdu.proofs.NameListLaws.{NamesAre, name_list_found, name_list_again}
use Rattle.mms_pdu.proofs.AccessLaws.{ReadIs, WriteIs, read_found, read_variables_again, read_set_again, write_found, write_vars_again, write_set_again, truth_found, truth_again}
use Rattle.mms_pdu.proofs.VariableListLaws.{DefineIs, DeleteIs, define_found, define_again, delete_found, delete_again}

-- ---- what is read

-- the fields of a service are what its reader says of them
fields_asked : (s : Spot) (read : List Spot → Option (Service Piece Spot)) (Asks : List Element → Service (List ℕ) Seen → Type 0) (service : Service Piece Spot) → IsBytes s.element.content
    → ((ss : List Spot) → AllBytes (elements ss) → read ss ≡ Some service → Asks (elements ss) (service_octets service))
    → and_then (fields_in (content_piece s)) read ≡ Some service → (es : List Element) × IsRow s.element.content es × Asks es (service_octets service)
fields_asked s read Asks service fits found h =
    let a = then_some (fields_in (content_piece s)) read service h in
    let row = elements_found (content_piece s) a.0 a.1 in
    (elements a.0, row, found a.0 (IsRow-bytes s.element.content (elements a.0) fits row) a.2)

names_service : (e : Element) (es : List Element) (x : Service (List ℕ) Seen) → e.tag ≡ 161 → IsRow e.content es → NamesAre es x → IsService e x
names_service e es (services.names class scope after) tag row h = (tag, es, row, h)
names_service e es other tag row h = absurd h

read_service : (e : Element) (es : List Element) (x : Service (List ℕ) Seen) → e.tag ≡ 164 → IsRow e.content es → ReadIs es x → IsService e x
read_service e es (services.read vs spec) tag row h = (tag, es, row, h)
read_service e es (services.read_set n spec) tag row h = (tag, es, row, h)
read_service e es other tag row h = absurd h

write_service : (e : Element) (es : List Element) (x : Service (List ℕ) Seen) → e.tag ≡ 165 → IsRow e.content es → WriteIs es x → IsService e x
write_service e es (services.write_vars vs values) tag row h = (tag, es, row, h.0, h.1)
write_service e es (services.write_set n values) tag row h = (tag, es, row, h)
write_service e es other tag row h = absurd h

define_service : (e : Element) (es : List Element) (x : Service (List ℕ) Seen) → e.tag ≡ 171 → IsRow e.content es → DefineIs es x → IsService e x
define_service e es (services.define n vs) tag row h = (tag, es, row, h)
define_service e es other tag row h = absurd h

delete_service : (e : Element) (es : List Element) (x : Service (List ℕ) Seen) → e.tag ≡ 173 → IsRow e.content es → DeleteIs es x → IsService e x
delete_service e es (services.delete scope ns) tag row h = (tag, es, row, h)
delete_service e es other tag row h = absurd h

status_found : (s : Spot) (x : Service Piece Spot) → s.element.tag ≡ 128 → status_at s ≡ Some x → IsService s.element (service_octets x)
status_found s x tag h =
    let a = then_some (truth_at s.element.content) (λ extended. Some services.status) x h in
    subst (λ (w : Service Piece Spot). IsService s.element (service_octets w)) (some_is services.status x a.2) (tag, a.0, truth_found s.element.content a.0 a.1)

identify_found : (s : Spot) (x : Service Piece Spot) → s.element.tag ≡ 130 → identify_at s ≡ Some x → IsService s.element (service_octets x)
identify_found s x tag h =
    let a = chosen (eqb (length s.element.content) 0) (Some services.identify) x h in
    subst (λ (w : Service Piece Spot). IsService s.element (service_octets w)) (some_is services.identify x a.1) (tag, nil_from_length s.element.content (eqb-true (length s.element.content) 0 a.0))

type_of_node_found : (s : Spot) (x : Service Piece Spot) → s.element.tag ≡ 166 → type_of_node_at s ≡ Some x → IsService s.element (service_octets x)
type_of_node_found s x tag h =
    let a = then_some (and_then (only_in (content_piece s)) (named_at 160)) (λ n. Some (services.type_of_node n)) x h in
    let b = then_some (only_in (content_piece s)) (named_at 160) a.0 a.1 in
    let n = named_found 160 b.0 a.0 b.2 in
    subst (λ (w : Service Piece Spot). IsService s.element (service_octets w)) (some_is (services.type_of_node a.0) x a.2) (tag, b.0.element, only_found (content_piece s) b.0 b.1, n.0, n.1)

set_of_found : (s : Spot) (x : Service Piece Spot) → s.element.tag ≡ 172 → set_of_at s ≡ Some x → IsService s.element (service_octets x)
set_of_found s x tag h =
    let a = then_some (and_then (only_in (content_piece s)) name_at) (λ n. Some (services.set_of n)) x h in
    subst (λ (w : Service Piece Spot). IsService s.element (service_octets w)) (some_is (services.set_of a.0) x a.2) (tag, only_name_found (content_piece s) a.0 a.1)

pub service_found : (s : Spot) (x : Service Piece Spot) → IsBytes s.element.content → service_at s ≡ Some x → IsService s.element (service_octets x)
unfolding service_at
service_found s x fits h =
    either_way (eqb s.element.tag 128) _ _ (Some x) h (λ t e. status_found s x (eqb-true s.element.tag 128 t) e)
    (λ t e. either_way (eqb s.element.tag 161) _ _ (Some x) e (λ u f. let a = fields_asked s name_list_at NamesAre x fits (λ ss b g. name_list_found ss x b g) f in names_service s.element a.0 (service_octets x) (eqb-true s.element.tag 161 u) a.1 a.2)
    (λ t e. either_way (eqb s.element.tag 130) _ _ (Some x) e (λ u f. identify_found s x (eqb-true s.element.tag 130 u) f)
    (λ t e. either_way (eqb s.element.tag 164) _ _ (Some x) e (λ u f. let a = fields_asked s read_at ReadIs x fits (λ ss b g. read_found ss x b g) f in read_service s.element a.0 (service_octets x) (eqb-true s.element.tag 164 u) a.1 a.2)
    (λ t e. either_way (eqb s.element.tag 165) _ _ (Some x) e (λ u f. let a = fields_asked s write_at WriteIs x fits (λ ss b g. write_found ss x b g) f in write_service s.element a.0 (service_octets x) (eqb-true s.element.tag 165 u) a.1 a.2)
    (λ t e. either_way (eqb s.element.tag 166) _ _ (Some x) e (λ u f. type_of_node_found s x (eqb-true s.element.tag 166 u) f)
    (λ t e. either_way (eqb s.element.tag 171) _ _ (Some x) e (λ u f. let a = fields_asked s define_at DefineIs x fits (λ ss b g. define_found ss x b g) f in define_service s.element a.0 (service_octets x) (eqb-true s.element.tag 171 u) a.1 a.2)
    (λ t e. either_way (eqb s.element.tag 172) _ _ (Some x) e (λ u f. set_of_found s x (eqb-true s.element.tag 172 u) f)
    (λ t e. let b = chosen (eqb s.element.tag 173) (and_then (fields_in (content_piece s)) delete_at) x e in
    let a = fields_asked s delete_at DeleteIs x fits (λ ss c g. delete_found ss x c g) b.1 in
    delete_service s.element a.0 (service_octets x) (eqb-true s.element.tag 173 b.0) a.1 a.2))))))))

-- ---- what is spelled is read

in_bytes : (p : Piece) (es : List Element) → IsBytes p.octets → IsRow p.octets es → AllBytes (elements (spots p es))
in_bytes p es fits row = in_place AllBytes p es (IsRow-bytes p.octets es fits row)

pub service_again : (s : Spot) (y : Service (List ℕ) Seen) → IsBytes s.element.content → IsService s.element y → (x : Service Piece Spot) × (service_at s ≡ Some x) × (service_octets x ≡ y)
unfolding service_at
service_again s services.status fits (tag, b, is) = (services.status, rw (tag, truth_again s.element.content b is) refl, refl)
service_again s services.identify fits (tag, none) = (services.identify, rw (tag, none) refl, refl)
service_again s (services.names class scope after) fits (tag, es, row, h) =
    let x = name_list_again (spots (content_piece s) es) class scope after (in_place (λ ds. NamesAre ds (services.names class scope after)) (content_piece s) es h) in
    (x.0, rw (tag, elements_again (content_piece s) es row, x.1) refl, x.2)
service_again s (services.read vs spec) fits (tag, es, row, h) =
    let x = read_variables_again (spots (content_piece s) es) vs spec (in_bytes (content_piece s) es fits row) (in_place (λ ds. ReadIs ds (services.read vs spec)) (content_piece s) es h) in
    (x.0, rw (tag, elements_again (content_piece s) es row, x.1) refl, x.2)
service_again s (services.read_set n spec) fits (tag, es, row, h) =
    let x = read_set_again (spots (content_piece s) es) n spec (in_bytes (content_piece s) es fits row) (in_place (λ ds. ReadIs ds (services.read_set n spec)) (content_piece s) es h) in
    (x.0, rw (tag, elements_again (content_piece s) es row, x.1) refl, x.2)
service_again s (services.write_vars vs values) fits (tag, es, row, h, count) =
    let k = in_place (λ ds. WriteIs ds (services.write_vars vs values)) (content_piece s) es (h, count) in
    let x = write_vars_again (spots (content_piece s) es) vs values (in_bytes (content_piece s) es fits row) k.0 count in
    (x.0, rw (tag, elements_again (content_piece s) es row, x.1) refl, x.2)
service_again s (services.write_set n values) fits (tag, es, row, h) =
    let x = write_set_again (spots (content_piece s) es) n values (in_bytes (content_piece s) es fits row) (in_place (λ ds. WriteIs ds (services.write_set n values)) (content_piece s) es h) in
    (x.0, rw (tag, elements_again (content_piece s) es row, x.1) refl, x.2)
service_again s (services.type_of_node n) fits (tag, k, row, inner, is) =
    let x = named_again 160 (spot_in (content_piece s) k) n inner is in
    (services.type_of_node x.0, rw (tag, only_again (content_piece s) k row, x.1) refl, rw x.2 refl)
service_again s (services.define n vs) fits (tag, es, row, h) =
    let x = define_again (spots (content_piece s) es) n vs (in_bytes (content_piece s) es fits row) (in_place (λ ds. DefineIs ds (services.define n vs)) (content_piece s) es h) in
    (x.0, rw (tag, elements_again (content_piece s) es row, x.1) refl, x.2)
service_again s (services.set_of n) fits (tag, is) =
    let x = only_name_again (content_piece s) n is in
    (services.set_of x.0, rw (tag, x.1) refl, rw x.2 refl)
service_again s (services.delete scope ns) fits (tag, es, row, h) =
    let x = delete_again (spots (content_piece s) es) scope ns (in_bytes (content_piece s) es fits row) (in_place (λ ds. DeleteIs ds (services.delete scope ns)) (content_piece s) es h) in
    (x.0, rw (tag, elements_again (content_piece s) es row, x.1) refl, x.2)
