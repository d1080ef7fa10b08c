-- Read-Request and Write-Request: what is read is what is spelled, and what is spelled is read.
use Rattle.std.proofs.Common.{◌≡◌, ℕ, Bool, true, false, cond, eqb, List, [], ◌∷◌, length, map, Some, None, refl, sym, ap, subst, ◌∙◌, arith}
use Rattle.std.proofs.lemmas.Bool.{eqb-true, eq-eqb, ne_eqb}
use Rattle.std.proofs.lemmas.List.{length-map}
use Rattle.list_laws.proofs.Options.{some_is, chosen, either_way}
use Rattle.ber_grammar.specs.Content.{IsBoolean}
use Rattle.ber_grammar.specs.Element.{Element}
use Rattle.ber_grammar.specs.Octets.{IsBytes}
use Rattle.ber_grammar.specs.Place.{Spot, Piece, content_piece, elements}
use Rattle.ber_grammar.specs.Reader.{and_then}
use Rattle.ber_grammar.specs.Reading.{boolean_at}
use Rattle.ber_grammar.proofs.BooleanLaws.{boolean_again, boolean_found}
use Rattle.ber_grammar.proofs.OctetLaws.{AllBytes}
use Rattle.ber_grammar.proofs.OptionLaws.{kept_some, then_some}
use Rattle.sv_base.specs.Tree.{Seen}
use Rattle.ber_grammar.specs.Fields.{only_in, spot_in}
use Rattle.mms_pdu.specs.Each.{each_in}
use Rattle.mms_pdu.specs.ObjectName.{Name, name_octets}
use Rattle.mms_pdu.specs.Variable.{Variable, variable_octets, variable_at, named_at}
use Rattle.mms_pdu.specs.Datum.{AreData, datum_at, value_at}
use Rattle.mms_pdu.specs.Service.{Service, service_octets}
use Rattle.mms_pdu.specs.Service as services
use Rattle.mms_pdu.specs.Access.{Access, variables, named, IsAccess, IsReadAccess, IsRead, IsWrite, access_at, truth_at, to_read, read_access_at, read_at, counts_agree_at, to_write, data_list_at, write_at}
use Rattle.ber_grammar.proofs.FieldLaws.{only_found, only_again, only_bytes}
use Rattle.mms_pdu.proofs.EachLaws.{each_fields}
use Rattle.mms_pdu.proofs.VariableLaws.{named_found, named_again, variables_found, variables_again}
use Rattle.mms_pdu.proofs.DatumLaws.{data_found, list_again}

abbrev pub access_octets : Access Piece → Access (List ℕ)
access_octets (variables vs) = variables (map variable_octets vs)
access_octets (named n) = named (name_octets n)

-- ---- variables, or a list of them

pub access_found : (s : Spot) (a : Access Piece) → IsBytes s.element.content → access_at s ≡ Some a → IsAccess s.element (access_octets a)
unfolding access_at
access_found s a fits h =
    let listed = and_then (each_in variable_at (content_piece s)) (λ vs. Some (variables vs)) in
    let other = and_then (named_at 161 s) (λ n. Some (named n)) in
    either_way (eqb s.element.tag 160) listed other (Some a) h
    (λ t e. let x = then_some (each_in variable_at (content_piece s)) (λ vs. Some (variables vs)) a e in
    subst (λ (b : Access Piece). IsAccess s.element (access_octets b)) (some_is (variables x.0) a x.2) (eqb-true s.element.tag 160 t, variables_found (content_piece s) x.0 fits x.1))
    (λ t e. let x = then_some (named_at 161 s) (λ n. Some (named n)) a e in
    subst (λ (b : Access Piece). IsAccess s.element (access_octets b)) (some_is (named x.0) a x.2) (named_found 161 s x.0 x.1))

variables_access : (s : Spot) (vs : List (Variable (List ℕ))) → IsBytes s.element.content → IsAccess s.element (variables vs)
    → (xs : List (Variable Piece)) × (access_at s ≡ Some (variables xs)) × (each_in variable_at (content_piece s) ≡ Some xs) × (map variable_octets xs ≡ vs)
unfolding access_at
variables_access s vs fits h =
    let x = variables_again (content_piece s) vs fits h.1 in
    (x.0, rw (h.0, x.1) refl, x.1, x.2)

named_access : (s : Spot) (n : Name (List ℕ)) → IsAccess s.element (named n) → (x : Name Piece) × (access_at s ≡ Some (named x)) × (name_octets x ≡ n)
unfolding access_at
named_access s n h =
    let x = named_again 161 s n h.0 h.1 in
    (x.0, rw (ne_eqb s.element.tag 160 (λ e. omega (arith, e, h.0)), x.1) refl, x.2)

pub access_again : (s : Spot) (a : Access (List ℕ)) → IsBytes s.element.content → IsAccess s.element a → (x : Access Piece) × (access_at s ≡ Some x) × (access_octets x ≡ a)
access_again s (variables vs) fits h = let x = variables_access s vs fits h in (variables x.0, x.1, ap (λ (y : List (Variable (List ℕ))). variables y) x.3)
access_again s (named n) fits h = let x = named_access s n h in (named x.0, x.1, ap (λ (y : Name (List ℕ)). named y) x.2)

-- the variables that were read
variables_of_access : (s : Spot) (vs : List (Variable Piece)) → access_at s ≡ Some (variables vs) → each_in variable_at (content_piece s) ≡ Some vs
unfolding access_at
variables_of_access s vs h =
    either_way (eqb s.element.tag 160) (and_then (each_in variable_at (content_piece s)) (λ ws. Some (variables ws))) (and_then (named_at 161 s) (λ n. Some (named n))) (Some (variables vs)) h
    (λ t e. let x = then_some (each_in variable_at (content_piece s)) (λ ws. Some (variables ws)) (variables vs) e in
    let same : x.0 ≡ vs = (let q = x.2 in cc) in
    x.1 ∙ ap (λ (y : List (Variable Piece)). Some y) same)
    (λ t e. let x = then_some (named_at 161 s) (λ n. Some (named n)) (variables vs) e in
    let q = x.2 in absurd cc)

-- ---- Read

abbrev read_asks : Bool → Access (List ℕ) → Service (List ℕ) Seen
read_asks spec (variables vs) = services.read vs spec
read_asks spec (named n) = services.read_set n spec

to_read-octets : (spec : Bool) (a : Access Piece) → service_octets (to_read spec a) ≡ read_asks spec (access_octets a)
to_read-octets spec (variables vs) = refl
to_read-octets spec (named n) = refl

-- what is asked is a read
abbrev pub ReadIs : List Element → Service (List ℕ) Seen → Type 0
ReadIs es (services.read vs spec) = IsRead es (variables vs) spec
ReadIs es (services.read_set n spec) = IsRead es (named n) spec
ReadIs es other = ⊥

read_is : (es : List Element) (a : Access (List ℕ)) (spec : Bool) → IsRead es a spec → ReadIs es (read_asks spec a)
read_is es (variables vs) spec h = h
read_is es (named n) spec h = h

read_access_found : (spec : Bool) (s : Spot) (service : Service Piece Spot) → IsBytes s.element.content → read_access_at spec s ≡ Some service
    → (a : Access (List ℕ)) × IsReadAccess s.element a × (read_asks spec a ≡ service_octets service)
unfolding read_access_at
read_access_found spec s service fits h =
    let a = chosen (eqb s.element.tag 161) (and_then (and_then (only_in (content_piece s)) access_at) (λ access. Some (to_read spec access))) service h in
    let b = then_some (and_then (only_in (content_piece s)) access_at) (λ access. Some (to_read spec access)) service a.1 in
    let c = then_some (only_in (content_piece s)) access_at b.0 b.1 in
    let row = only_found (content_piece s) c.0 c.1 in
    let is = access_found c.0 b.0 (only_bytes s.element.content c.0.element fits row) c.2 in
    (access_octets b.0, (eqb-true s.element.tag 161 a.0, c.0.element, row, is), sym (to_read-octets spec b.0) ∙ ap service_octets (some_is (to_read spec b.0) service b.2))

read_access_again : (spec : Bool) (s : Spot) (a : Access (List ℕ)) → IsBytes s.element.content → IsReadAccess s.element a → (x : Service Piece Spot) × (read_access_at spec s ≡ Some x) × (service_octets x ≡ read_asks spec a)
unfolding read_access_at
read_access_again spec s a fits (tag, k, row, is) =
    let x = access_again (spot_in (content_piece s) k) a (only_bytes s.element.content k fits row) is in
    (to_read spec x.0, rw (tag, only_again (content_piece s) k row, x.1) refl, to_read-octets spec x.0 ∙ ap (read_asks spec) x.2)

pub truth_found : (content : List ℕ) (b : Bool) → truth_at content ≡ Some b → IsBoolean content b
truth_found content b h = boolean_found (tt {0}) content b (kept_some (boolean_at (tt {0}) content) b h)

pub truth_again : (content : List ℕ) (b : Bool) → IsBoolean content b → truth_at content ≡ Some b
truth_again content b h = rw (boolean_again (tt {0}) content b h) refl

pub read_found : (ss : List Spot) (service : Service Piece Spot) → AllBytes (elements ss) → read_at ss ≡ Some service → ReadIs (elements ss) (service_octets service)
unfolding read_at
read_found [] service fits h = absurd cc
read_found (s ∷ []) service fits h =
    let x = read_access_found false s service fits.0 h in
    subst (ReadIs (s.element ∷ [])) x.2 (read_is (s.element ∷ []) x.0 false (refl, x.1))
read_found (s ∷ t ∷ []) service fits h =
    let a = chosen (eqb s.element.tag 128) (and_then (truth_at s.element.content) (λ spec. read_access_at spec t)) service h in
    let b = then_some (truth_at s.element.content) (λ spec. read_access_at spec t) service a.1 in
    let x = read_access_found b.0 t service fits.1.0 b.2 in
    subst (ReadIs (s.element ∷ t.element ∷ [])) x.2 (read_is (s.element ∷ t.element ∷ []) x.0 b.0 (eqb-true s.element.tag 128 a.0, truth_found s.element.content b.0 b.1, x.1))
read_found (s ∷ t ∷ u ∷ more) service fits h = absurd cc

read_again : (ss : List Spot) (a : Access (List ℕ)) (spec : Bool) → AllBytes (elements ss) → IsRead (elements ss) a spec → (x : Service Piece Spot) × (read_at ss ≡ Some x) × (service_octets x ≡ read_asks spec a)
unfolding read_at
read_again [] a spec fits h = absurd h
read_again (s ∷ []) a spec fits h =
    let x = read_access_again false s a fits.0 h.1 in
    (x.0, x.1, x.2 ∙ ap (λ (b : Bool). read_asks b a) (sym h.0))
read_again (s ∷ t ∷ []) a spec fits h =
    let x = read_access_again spec t a fits.1.0 h.2 in
    (x.0, rw (h.0, truth_again s.element.content spec h.1, x.1) refl, x.2)
read_again (s ∷ t ∷ u ∷ more) a spec fits h = absurd h

pub read_variables_again : (ss : List Spot) (vs : List (Variable (List ℕ))) (spec : Bool) → AllBytes (elements ss) → IsRead (elements ss) (variables vs) spec → (x : Service Piece Spot) × (read_at ss ≡ Some x) × (service_octets x ≡ services.read vs spec)
read_variables_again ss vs spec fits h = read_again ss (variables vs) spec fits h

pub read_set_again : (ss : List Spot) (n : Name (List ℕ)) (spec : Bool) → AllBytes (elements ss) → IsRead (elements ss) (named n) spec → (x : Service Piece Spot) × (read_at ss ≡ Some x) × (service_octets x ≡ services.read_set n spec)
read_set_again ss n spec fits h = read_again ss (named n) spec fits h

-- ---- Write

-- what is asked is a write
abbrev pub WriteIs : List Element → Service (List ℕ) Seen → Type 0
WriteIs es (services.write_vars vs values) = IsWrite es (variables vs) values × (length vs ≡ length values)
WriteIs es (services.write_set n values) = IsWrite es (named n) values
WriteIs es other = ⊥

data_list_found : (s : Spot) (ds : List Spot) → IsBytes s.element.content → data_list_at s ≡ Some ds → (s.element.tag ≡ 160) × AreData s.element.content (map value_at ds) × (each_in datum_at (content_piece s) ≡ Some ds)
unfolding data_list_at
data_list_found s ds fits h =
    let a = chosen (eqb s.element.tag 160) (each_in datum_at (content_piece s)) ds h in
    (eqb-true s.element.tag 160 a.0, data_found (content_piece s) ds fits a.1, a.1)

data_list_again : (s : Spot) (values : List Seen) → IsBytes s.element.content → s.element.tag ≡ 160 → AreData s.element.content values
    → (ds : List Spot) × (data_list_at s ≡ Some ds) × (map value_at ds ≡ values) × (each_in datum_at (content_piece s) ≡ Some ds)
unfolding data_list_at
data_list_again s values fits tag h =
    let x = list_again (content_piece s) values fits h in
    (x.0, rw (tag, x.1) refl, x.2, x.1)

-- the counts agree where as many were read
counts_found : (s t : Spot) (vs : List (Variable Piece)) (ds : List Spot) → each_in variable_at (content_piece s) ≡ Some vs → each_in datum_at (content_piece t) ≡ Some ds → counts_agree_at s t ≡ Some (eqb (length vs) (length ds))
unfolding counts_agree_at
counts_found s t vs ds h k =
    let a = each_fields variable_at (content_piece s) vs h in
    let b = each_fields datum_at (content_piece t) ds k in
    rw (a.1, b.1, a.2, b.2) refl

written_found : (s t : Spot) (a : Access Piece) (ds : List Spot) (service : Service Piece Spot) → IsBytes s.element.content → access_at s ≡ Some a
    → (t.element.tag ≡ 160) × AreData t.element.content (map value_at ds) × (each_in datum_at (content_piece t) ≡ Some ds) → to_write s t a ds ≡ Some service
    → WriteIs (s.element ∷ t.element ∷ []) (service_octets service)
written_found s t (variables vs) ds service fits h (tag, are, each) e =
    let x = then_some (counts_agree_at s t) (λ agree. cond agree (Some (services.write_vars vs ds)) None) service e in
    let y = chosen x.0 (Some (services.write_vars vs ds)) service x.2 in
    let agree : eqb (length vs) (length ds) ≡ true = some_is (eqb (length vs) (length ds)) true (sym (counts_found s t vs ds (variables_of_access s vs h) each) ∙ x.1 ∙ ap (λ (b : Bool). Some b) y.0) in
    let count : length (map variable_octets vs) ≡ length (map value_at ds) = rw (length-map vs variable_octets, length-map ds value_at) (eqb-true (length vs) (length ds) agree) in
    subst (λ (w : Service Piece Spot). WriteIs (s.element ∷ t.element ∷ []) (service_octets w)) (some_is (services.write_vars vs ds) service y.1) ((access_found s (variables vs) fits h, tag, are), count)
written_found s t (named n) ds service fits h (tag, are, each) e =
    subst (λ (w : Service Piece Spot). WriteIs (s.element ∷ t.element ∷ []) (service_octets w)) (some_is (services.write_set n ds) service e) (access_found s (named n) fits h, tag, are)

pub write_found : (ss : List Spot) (service : Service Piece Spot) → AllBytes (elements ss) → write_at ss ≡ Some service → WriteIs (elements ss) (service_octets service)
unfolding write_at
write_found [] service fits h = absurd cc
write_found (s ∷ []) service fits h = absurd cc
write_found (s ∷ t ∷ []) service fits h =
    let x = then_some (access_at s) (λ access. and_then (data_list_at t) (λ ds. to_write s t access ds)) service h in
    let y = then_some (data_list_at t) (λ ds. to_write s t x.0 ds) service x.2 in
    written_found s t x.0 y.0 service fits.0 x.1 (data_list_found t y.0 fits.1.0 y.1) y.2
write_found (s ∷ t ∷ u ∷ more) service fits h = absurd cc

pub write_vars_again : (ss : List Spot) (vs : List (Variable (List ℕ))) (values : List Seen) → AllBytes (elements ss) → IsWrite (elements ss) (variables vs) values → length vs ≡ length values
    → (x : Service Piece Spot) × (write_at ss ≡ Some x) × (service_octets x ≡ services.write_vars vs values)
unfolding write_at
write_vars_again [] vs values fits h count = absurd h
write_vars_again (s ∷ []) vs values fits h count = absurd h
write_vars_again (s ∷ t ∷ []) vs values fits h count =
    let x = variables_access s vs fits.0 h.0 in
    let y = data_list_again t values fits.1.0 h.1 h.2 in
    let same : length x.0 ≡ length y.0 = sym (length-map x.0 variable_octets) ∙ ap length x.3 ∙ count ∙ sym (ap length y.2) ∙ length-map y.0 value_at in
    let agree = counts_found s t x.0 y.0 x.2 y.3 in
    (services.write_vars x.0 y.0, rw (x.1, y.1, agree, eq-eqb (length x.0) (length y.0) same) refl, rw (x.3, y.2) refl)
write_vars_again (s ∷ t ∷ u ∷ more) vs values fits h count = absurd h

pub write_set_again : (ss : List Spot) (n : Name (List ℕ)) (values : List Seen) → AllBytes (elements ss) → IsWrite (elements ss) (named n) values
    → (x : Service Piece Spot) × (write_at ss ≡ Some x) × (service_octets x ≡ services.write_set n values)
unfolding write_at
write_set_again [] n values fits h = absurd h
write_set_again (s ∷ []) n values fits h = absurd h
write_set_again (s ∷ t ∷ []) n values fits h =
    let x = named_access s n h.0 in
    let y = data_list_again t values fits.1.0 h.1 h.2 in
    (services.write_set x.0 y.0, rw (x.1, y.1) refl, rw (x.2, y.2) refl)
write_set_again (s ∷ t ∷ u ∷ more) n values fits h = absurd h
