-- A request: what is read is what is spelled, what is spelled is read, and each refusal is where no request goes on.
use Rattle.std.proofs.Common.{◌≡◌, ℕ, ◌%◌, ◌^◌, ◌<◌, Bool, true, false, ◌||◌, cond, eqb, List, [], ◌∷◌, ◌++◌, length, Option, Some, None, Result, Ok, Err, inl, inr, ◌⊎◌, refl, sym, ap, subst, ◌∙◌, true≢false, arith}
use Rattle.std.proofs.lemmas.Bool.{eqb-true, eqb-false, ne_eqb, or_cases}
use Rattle.std.proofs.lemmas.List.{nil_from_length, length-append}
use Rattle.list_laws.proofs.Options.{some_is, chosen, ok_is, err_is}
use Rattle.ber_grammar.specs.declared.fault.BerFault.{BerFault}
use Rattle.ber_grammar.specs.Element.{Element, IsTag, Spells, Begins}
use Rattle.ber_grammar.specs.Octets.{IsBytes}
use Rattle.ber_grammar.specs.Place.{Spot, Piece, content_piece}
use Rattle.ber_grammar.specs.Reader.{and_then, kept, Gives, Reads}
use Rattle.ber_grammar.specs.Reading.{first_at}
use Rattle.ber_grammar.proofs.ElementLaws.{FirstTells, first_tells, first_again, IsTag-some}
use Rattle.ber_grammar.proofs.OctetLaws.{Begins-bytes, Spells-bytes}
use Rattle.ber_grammar.proofs.OptionLaws.{kept_some, then_some}
use Rattle.ber_grammar.proofs.ReaderLaws.{exact_from, reads_from, gives_at, refuses_at}
use Rattle.sv_base.specs.Tree.{Seen}
use Rattle.mms_elements.specs.declared.fault.PduFault.{PduFault}
use Rattle.mms_elements.specs.declared.fault.PduFault.TheVariants as faults
use Rattle.ber_grammar.specs.Fields.{only_in, spot_in}
use Rattle.mms_elements.specs.Invoke.{IsInvoked, below_at}
use Rattle.mms_pdu.specs.Service.{Service, service_octets}
use Rattle.mms_pdu.specs.Service as services
use Rattle.mms_pdu.specs.Services.{IsService, is_service, service_at}
use Rattle.mms_pdu.specs.Request.{Request, confirmed, conclude, disregarded, request_octets, is_disregarded, is_pdu, IsRequest, MayBegin, IsOutOfPlace, IsRequestRefused, may_begin, or_fault}
use Rattle.mms_pdu.specs.RequestReading.{behind, invoke_in, service_in, invoked, pdu_at, whole, request_in, without_places, request_at}
use Rattle.ber_grammar.proofs.FieldLaws.{only_found, only_again, row_spells, spells_row}
use Rattle.mms_pdu.proofs.ServiceLaws.{service_found, service_again}
use Rattle.mms_elements.proofs.TaggedLaws.{below_found, below_again}

-- ---- one whole element

abbrev OnlyTells : List ℕ → Option Spot → Type 0
OnlyTells octets (Some s) = Spells octets s.element
OnlyTells octets None = (e : Element) → ¬ Spells octets e

only_tells_at : (p : Piece) (o : Option Spot) → only_in p ≡ o → OnlyTells p.octets o
only_tells_at p (Some s) h = row_spells p.octets s.element (only_found p s h)
only_tells_at p None h = λ e s. let again = only_again p e (spells_row p.octets e s) in cc

only_tells : (p : Piece) → OnlyTells p.octets (only_in p)
only_tells p = only_tells_at p (only_in p) refl

spelled_again : (p : Piece) (e : Element) → Spells p.octets e → only_in p ≡ Some (spot_in p e)
spelled_again p e s = only_again p e (spells_row p.octets e s)

-- ---- how the octets begin

may_found : (test : ℕ → Bool) (octets : List ℕ) → may_begin test octets ≡ true → MayBegin test octets
may_found test [] h = tt
may_found test (a ∷ rest) h = h

may_again : (test : ℕ → Bool) (octets : List ℕ) → MayBegin test octets → may_begin test octets ≡ true
may_again test [] h = refl
may_again test (a ∷ rest) h = h

may_not : (test : ℕ → Bool) (octets : List ℕ) → may_begin test octets ≡ false → (a : ℕ) × (rest : List ℕ) × (octets ≡ a ∷ rest) × (test a ≡ false)
may_not test [] h = absurd cc
may_not test (a ∷ rest) h = (a, rest, refl, h)

-- ---- the invoke number

-- what an invoke number says of the octets after it
abbrev InvokeTells : List ℕ → Option (ℕ × Piece) → Type 0
InvokeTells content (Some x) = IsInvoked content x.0 x.1.octets
InvokeTells content None = (invoke : ℕ) (rest : List ℕ) → ¬ IsInvoked content invoke rest

invoke_found : (p : Piece) (x : ℕ × Piece) → IsBytes p.octets → invoke_in p ≡ Some x → IsInvoked p.octets x.0 x.1.octets
unfolding invoke_in
invoke_found p x fits h =
    let number = λ (first : Element × List ℕ). cond (eqb first.0.tag 2) (and_then (below_at (2 ^ 32) first.0.content) (λ invoke. Some (invoke, behind p first.1))) None in
    let a = then_some (kept (first_at p.octets)) number x h in
    let b = chosen (eqb a.0.0.tag 2) (and_then (below_at (2 ^ 32) a.0.0.content) (λ invoke. Some (invoke, behind p a.0.1))) x a.2 in
    let c = then_some (below_at (2 ^ 32) a.0.0.content) (λ invoke. Some (invoke, behind p a.0.1)) x b.1 in
    let begins : Begins p.octets a.0.0 a.0.1 = subst (λ (r : Result (Element × List ℕ) BerFault). FirstTells p.octets r) (kept_some (first_at p.octets) a.0 a.1) (first_tells p.octets) in
    let is = below_found (2 ^ 32) a.0.0.content c.0 (Begins-bytes p.octets a.0.0 a.0.1 fits begins).0 c.1 in
    subst (λ (y : ℕ × Piece). IsInvoked p.octets y.0 y.1.octets) (some_is (c.0, behind p a.0.1) x c.2) (a.0.0, begins, eqb-true a.0.0.tag 2 b.0, (is.0, is.1))

invoke_again : (p : Piece) (invoke : ℕ) (rest : List ℕ) → IsInvoked p.octets invoke rest → invoke_in p ≡ Some (invoke, behind p rest)
unfolding invoke_in
invoke_again p invoke rest (e, (front, s, q), tag, is) =
    let first : first_at p.octets ≡ Ok (e, rest) = ap first_at q ∙ first_again front rest e s in
    rw (first, tag, below_again (2 ^ 32) e.content invoke is.0 is.1) refl

invoke_tells_at : (p : Piece) (o : Option (ℕ × Piece)) → IsBytes p.octets → invoke_in p ≡ o → InvokeTells p.octets o
invoke_tells_at p (Some x) fits h = invoke_found p x fits h
invoke_tells_at p None fits h = λ invoke rest is. let again = invoke_again p invoke rest is in cc

invoked_bytes : (content : List ℕ) (invoke : ℕ) (rest : List ℕ) → IsBytes content → IsInvoked content invoke rest → IsBytes rest
invoked_bytes content invoke rest fits (e, begins, tag, is) = (Begins-bytes content e rest fits begins).1

-- ---- after the invoke number

abbrev ServiceTells : ℕ → List ℕ → Result (Request Piece Spot) PduFault → Type 0
ServiceTells i rest (Ok r) = (service : Service Piece Spot) × (r ≡ confirmed i service) × (s : Element) × Spells rest s × IsService s (service_octets service)
ServiceTells i rest (Err f) = ((f ≡ faults.UnknownService i) × (a : ℕ) × (more : List ℕ) × (rest ≡ a ∷ more) × (is_service a ≡ false))
    ⊎ ((f ≡ faults.Argument i) × MayBegin is_service rest × ((s : Element) (service : Service (List ℕ) Seen) → Spells rest s → ¬ IsService s service))

-- a service that is spelled is read
read_again : (p : Piece) (s : Element) (y : Service (List ℕ) Seen) → IsBytes p.octets → Spells p.octets s → IsService s y → (x : Service Piece Spot) × (and_then (only_in p) service_at ≡ Some x) × (service_octets x ≡ y)
read_again p s y fits spells is =
    let x = service_again (spot_in p s) y (Spells-bytes p.octets s fits spells) is in
    (x.0, rw (spelled_again p s spells, x.1) refl, x.2)

known_tells : (i : ℕ) (p : Piece) (o : Option (Service Piece Spot)) → IsBytes p.octets → MayBegin is_service p.octets → and_then (only_in p) service_at ≡ o
    → ServiceTells i p.octets (or_fault (and_then o (λ s. Some (confirmed i s))) (faults.Argument i))
known_tells i p (Some x) fits may h =
    let a = then_some (only_in p) service_at x h in
    let spells = row_spells p.octets a.0.element (only_found p a.0 a.1) in
    (x, refl, a.0.element, spells, service_found a.0 x (Spells-bytes p.octets a.0.element fits spells) a.2)
known_tells i p None fits may h = inr (refl, may, λ s y spells is. let again = read_again p s y fits spells is in let q = again.1 in cc)

service_tells : (i : ℕ) (p : Piece) → IsBytes p.octets → ServiceTells i p.octets (service_in i p)
unfolding service_in
service_tells i p fits = tested (may_begin is_service p.octets) refl
  where
    tested : (b : Bool) → may_begin is_service p.octets ≡ b
        → ServiceTells i p.octets (cond b (or_fault (and_then (and_then (only_in p) service_at) (λ s. Some (confirmed i s))) (faults.Argument i)) (Err (faults.UnknownService i)))
    tested true h = known_tells i p (and_then (only_in p) service_at) fits (may_found is_service p.octets h) refl
    tested false h = let n = may_not is_service p.octets h in inl (refl, n.0, n.1, n.2, n.3)

-- ---- the PDU

abbrev RequestTells : List ℕ → Result (Request Piece Spot) PduFault → Type 0
RequestTells input (Ok r) = IsRequest input (request_octets r)
RequestTells input (Err f) = IsRequestRefused input f

from_service : (input : List ℕ) (e : Element) (i : ℕ) (rest : List ℕ) (r : Result (Request Piece Spot) PduFault) → Spells input e → e.tag ≡ 160 → IsInvoked e.content i rest → ServiceTells i rest r → RequestTells input r
from_service input e i rest (Ok r) spells tag is (service, same, s, t, h) = subst (λ (x : Request Piece Spot). IsRequest input (request_octets x)) (sym same) (e, spells, tag, rest, is, s, t, h)
from_service input e i rest (Err f) spells tag is (inl (same, a, more, at, other)) =
    subst (IsRequestRefused input) (sym same) (e, spells, tag, a, more, subst (λ (x : List ℕ). IsInvoked e.content i x) at is, other)
from_service input e i rest (Err f) spells tag is (inr (same, may, never)) = subst (IsRequestRefused input) (sym same) (e, spells, tag, rest, is, may, never)

from_invoke : (input : List ℕ) (s : Spot) (o : Option (ℕ × Piece)) → IsBytes s.element.content → MayBegin is_pdu input → Spells input s.element → s.element.tag ≡ 160 → InvokeTells s.element.content o → RequestTells input (invoked o)
from_invoke input s (Some x) fits may spells tag is = from_service input s.element x.0 x.1.octets (service_in x.0 x.1) spells tag is (service_tells x.0 x.1 (invoked_bytes s.element.content x.0 x.1.octets fits is))
from_invoke input s None fits may spells tag never = (may, inr (s.element, spells, inr (inr (tag, never))))

-- ---- the first octets

either : {P : Type 0} (x y : Bool) → (x || y) ≡ true → (x ≡ true → P) → (y ≡ true → P) → P
either x y h f g = elim (or_cases x y h) [ inl a ↦ f a | inr b ↦ g b ]

-- what is known of each tag of a disregarded PDU
disregarded_cases : (P : ℕ → Type 0) (a : ℕ) → is_disregarded a ≡ true → P 161 → P 162 → P 163 → P 164 → P 169 → P 140 → P a
disregarded_cases P a h p q r t u v =
    either (eqb a 161 || eqb a 162 || eqb a 163 || eqb a 164 || eqb a 169) (eqb a 140) h
    (λ h. either (eqb a 161 || eqb a 162 || eqb a 163 || eqb a 164) (eqb a 169) h
    (λ h. either (eqb a 161 || eqb a 162 || eqb a 163) (eqb a 164) h
    (λ h. either (eqb a 161 || eqb a 162) (eqb a 163) h
    (λ h. either (eqb a 161) (eqb a 162) h (λ h. subst P (sym (eqb-true a 161 h)) p) (λ h. subst P (sym (eqb-true a 162 h)) q))
    (λ h. subst P (sym (eqb-true a 163 h)) r)) (λ h. subst P (sym (eqb-true a 164 h)) t)) (λ h. subst P (sym (eqb-true a 169 h)) u)) (λ h. subst P (sym (eqb-true a 140 h)) v)

-- such an octet is a whole tag
short : (a : ℕ) → is_pdu a ≡ true → a % 32 ≡ 31 → ⊥
short a h =
    either (is_disregarded a || eqb a 160 || eqb a 139) (eqb a 168) h
    (λ h. either (is_disregarded a || eqb a 160) (eqb a 139) h
    (λ h. either (is_disregarded a) (eqb a 160) h
    (λ h. disregarded_cases (λ b. b % 32 ≡ 31 → ⊥) a h (λ m. omega (arith, m)) (λ m. omega (arith, m)) (λ m. omega (arith, m)) (λ m. omega (arith, m)) (λ m. omega (arith, m)) (λ m. omega (arith, m)))
    (λ h m. omega (arith, m, eqb-true a 160 h))) (λ h m. omega (arith, m, eqb-true a 139 h))) (λ h m. omega (arith, m, eqb-true a 168 h))

small : (a : ℕ) → is_disregarded a ≡ true → a < 256
small a h = disregarded_cases (λ b. b < 256) a h (omega arith) (omega arith) (omega arith) (omega arith) (omega arith) (omega arith)

tag_is : (a tag : ℕ) (rest o after : List ℕ) → (a % 32 ≡ 31 → ⊥) → IsTag o tag → a ∷ rest ≡ o ++ after → tag ≡ a
tag_is a tag rest [] after low is q = absurd is
tag_is a tag rest (b ∷ []) after low is q = let same : a ≡ b = cc in is.1 ∙ sym same
tag_is a tag rest (b ∷ c ∷ []) after low is q = let same : a ≡ b = cc in absurd (low (ap (λ (x : ℕ). x % 32) same ∙ is.0))
tag_is a tag rest (b ∷ c ∷ d ∷ []) after low is q = let same : a ≡ b = cc in absurd (low (ap (λ (x : ℕ). x % 32) same ∙ is.0))
tag_is a tag rest (b ∷ c ∷ d ∷ f ∷ more) after low is q = absurd is

begun : (input : List ℕ) (e : Element) → MayBegin is_pdu input → Spells input e → is_pdu e.tag ≡ true
begun [] e may s = absurd (omega (arith, ap length s.whole, length-append s.tag (s.len ++ e.content), IsTag-some s.tag e.tag s.is_tag))
begun (a ∷ rest) e may s = rw (tag_is a e.tag rest s.tag (s.len ++ e.content) (short a may) s.is_tag s.whole) may

-- a tag of one octet is the first octet
small_tag : (o : List ℕ) (tag : ℕ) (input after : List ℕ) → IsTag o tag → tag < 256 → input ≡ o ++ after → (rest : List ℕ) × (input ≡ tag ∷ rest)
small_tag [] tag input after is lt q = absurd is
small_tag (b ∷ []) tag input after is lt q = (after, q ∙ ap (λ (x : ℕ). x ∷ after) (sym is.1))
small_tag (b ∷ c ∷ []) tag input after is lt q = absurd (omega (arith, is.0, is.2, lt))
small_tag (b ∷ c ∷ d ∷ []) tag input after is lt q = absurd (omega (arith, is.0, is.3, lt))
small_tag (b ∷ c ∷ d ∷ f ∷ more) tag input after is lt q = absurd is

may_from : (test : ℕ → Bool) (input : List ℕ) (e : Element) → Spells input e → e.tag < 256 → test e.tag ≡ true → MayBegin test input
may_from test input e s lt h =
    let first = small_tag s.tag e.tag input (s.len ++ e.content) s.is_tag lt s.whole in
    subst (MayBegin test) (sym first.1) h

initiate : (tag : ℕ) → is_pdu tag ≡ true → is_disregarded tag ≡ false → eqb tag 160 ≡ false → eqb tag 139 ≡ false → tag ≡ 168
initiate tag h a b c =
    either (is_disregarded tag || eqb tag 160 || eqb tag 139) (eqb tag 168) h
    (λ k. let no : (is_disregarded tag || eqb tag 160 || eqb tag 139) ≡ false = rw (a, b, c) refl in absurd (true≢false (sym k ∙ no)))
    (λ k. eqb-true tag 168 k)

pdu_tells : (input : List ℕ) (s : Spot) → IsBytes s.element.content → MayBegin is_pdu input → Spells input s.element → RequestTells input (pdu_at s)
unfolding pdu_at
pdu_tells input s fits may spells = by_tag (eqb s.element.tag 160) (eqb s.element.tag 139) (eqb (length s.element.content) 0) (is_disregarded s.element.tag) refl refl refl refl
  where
    out : IsOutOfPlace s.element → RequestTells input (Err faults.Invalid)
    out h = (may, inr (s.element, spells, h))

    by_tag : (a b c d : Bool) → eqb s.element.tag 160 ≡ a → eqb s.element.tag 139 ≡ b → eqb (length s.element.content) 0 ≡ c → is_disregarded s.element.tag ≡ d
        → RequestTells input (cond a (invoked (invoke_in (content_piece s))) (cond b (cond c (Ok conclude) (Err faults.Invalid)) (cond d (Ok disregarded) (Err faults.Invalid))))
    by_tag true b c d ha hb hc hd = from_invoke input s (invoke_in (content_piece s)) fits may spells (eqb-true s.element.tag 160 ha) (invoke_tells_at (content_piece s) (invoke_in (content_piece s)) fits refl)
    by_tag false true true d ha hb hc hd = (s.element, spells, eqb-true s.element.tag 139 hb, nil_from_length s.element.content (eqb-true (length s.element.content) 0 hc))
    by_tag false true false d ha hb hc hd = out (inr (inl (eqb-true s.element.tag 139 hb, λ none. eqb-false (length s.element.content) 0 hc (ap length none))))
    by_tag false false c true ha hb hc hd = (s.element, spells, hd)
    by_tag false false c false ha hb hc hd = out (inl (initiate s.element.tag (begun input s.element may spells) hd ha hb))

from_whole : (p : Piece) (o : Option Spot) → IsBytes p.octets → MayBegin is_pdu p.octets → OnlyTells p.octets o → RequestTells p.octets (whole o)
from_whole p (Some s) fits may spells = pdu_tells p.octets s (Spells-bytes p.octets s.element fits spells) may spells
from_whole p None fits may never = (may, inl never)

request_tells : (p : Piece) → IsBytes p.octets → RequestTells p.octets (request_in p)
unfolding request_in
request_tells p fits = tested (may_begin is_pdu p.octets) refl
  where
    tested : (b : Bool) → may_begin is_pdu p.octets ≡ b → RequestTells p.octets (cond b (whole (only_in p)) (Err faults.UnknownPdu))
    tested true h = from_whole p (only_in p) fits (may_found is_pdu p.octets h) (only_tells p)
    tested false h = may_not is_pdu p.octets h

-- ---- what is spelled is read

-- what is read of a PDU's element is read of the octets
pdu_again : (p : Piece) (e : Element) → Spells p.octets e → MayBegin is_pdu p.octets → request_in p ≡ pdu_at (spot_in p e)
unfolding request_in
pdu_again p e s may = rw (may_again is_pdu p.octets may, spelled_again p e s) refl

service_small : (s : Element) (y : Service (List ℕ) Seen) → IsService s y → (s.tag < 256) × (is_service s.tag ≡ true)
service_small s services.status h = (omega (arith, h.0), rw h.0 refl)
service_small s services.identify h = (omega (arith, h.0), rw h.0 refl)
service_small s (services.names class scope after) h = (omega (arith, h.0), rw h.0 refl)
service_small s (services.type_of_node n) h = (omega (arith, h.0), rw h.0 refl)
service_small s (services.read vs spec) h = (omega (arith, h.0), rw h.0 refl)
service_small s (services.read_set n spec) h = (omega (arith, h.0), rw h.0 refl)
service_small s (services.write_vars vs values) h = (omega (arith, h.0), rw h.0 refl)
service_small s (services.write_set n values) h = (omega (arith, h.0), rw h.0 refl)
service_small s (services.define n vs) h = (omega (arith, h.0), rw h.0 refl)
service_small s (services.set_of n) h = (omega (arith, h.0), rw h.0 refl)
service_small s (services.delete scope ns) h = (omega (arith, h.0), rw h.0 refl)

-- what is read after an invoke number is read of the PDU
invoked_again : (p : Piece) (e : Element) (invoke : ℕ) (rest : List ℕ) → Spells p.octets e → e.tag ≡ 160 → IsInvoked e.content invoke rest → request_in p ≡ service_in invoke (behind (content_piece (spot_in p e)) rest)
unfolding pdu_at
invoked_again p e invoke rest spells tag is =
    pdu_again p e spells (may_from is_pdu p.octets e spells (omega (arith, tag)) (rw tag refl)) ∙ rw (tag, invoke_again (content_piece (spot_in p e)) invoke rest is) refl

request_again : (p : Piece) (y : Request (List ℕ) Seen) → IsBytes p.octets → IsRequest p.octets y → (x : Request Piece Spot) × (request_in p ≡ Ok x) × (request_octets x ≡ y)
unfolding pdu_at service_in
request_again p (confirmed invoke service) fits (e, spells, tag, rest, is, s, here, h) =
    let inner = behind (content_piece (spot_in p e)) rest in
    let x = read_again inner s service (invoked_bytes e.content invoke rest (Spells-bytes p.octets e fits spells) is) here h in
    let known = service_small s service h in
    let may : may_begin is_service rest ≡ true = may_again is_service rest (may_from is_service rest s here known.0 known.1) in
    (confirmed invoke x.0, invoked_again p e invoke rest spells tag is ∙ rw (may, x.1) refl, ap (λ (z : Service (List ℕ) Seen). confirmed invoke z) x.2)
request_again p conclude fits (e, spells, tag, none) = (conclude, pdu_again p e spells (may_from is_pdu p.octets e spells (omega (arith, tag)) (rw tag refl)) ∙ rw (tag, none) refl, refl)
request_again p disregarded fits (e, spells, known) =
    let other = disregarded_cases (λ a. (eqb a 160 ≡ false) × (eqb a 139 ≡ false)) e.tag known (refl, refl) (refl, refl) (refl, refl) (refl, refl) (refl, refl) (refl, refl) in
    (disregarded, pdu_again p e spells (may_from is_pdu p.octets e spells (small e.tag known) (rw known refl)) ∙ rw (other.0, other.1, known) refl, refl)

-- ---- each refusal comes where it is said

none_only : (p : Piece) (o : Option Spot) → OnlyTells p.octets o → ((e : Element) → ¬ Spells p.octets e) → o ≡ None
none_only p (Some s) spells never = absurd (never s.element spells)
none_only p None spells never = refl

none_invoked : (content : List ℕ) (o : Option (ℕ × Piece)) → InvokeTells content o → ((invoke : ℕ) (rest : List ℕ) → ¬ IsInvoked content invoke rest) → o ≡ None
none_invoked content (Some x) is never = absurd (never x.0 x.1.octets is)
none_invoked content None is never = refl

none_asked : (p : Piece) (o : Option (Service Piece Spot)) → IsBytes p.octets → and_then (only_in p) service_at ≡ o → ((s : Element) (service : Service (List ℕ) Seen) → Spells p.octets s → ¬ IsService s service) → o ≡ None
none_asked p (Some x) fits h never =
    let a = then_some (only_in p) service_at x h in
    let spells = row_spells p.octets a.0.element (only_found p a.0 a.1) in
    absurd (never a.0.element (service_octets x) spells (service_found a.0 x (Spells-bytes p.octets a.0.element fits spells) a.2))
none_asked p None fits h never = refl

out_of_place : (p : Piece) (e : Element) → IsBytes e.content → IsOutOfPlace e → pdu_at (spot_in p e) ≡ Err faults.Invalid
unfolding pdu_at
out_of_place p e fits (inl tag) = rw tag refl
out_of_place p e fits (inr (inl (tag, some))) = rw (tag, ne_eqb (length e.content) 0 (λ none. some (nil_from_length e.content none))) refl
out_of_place p e fits (inr (inr (tag, never))) =
    let inner = content_piece (spot_in p e) in
    let none : invoke_in inner ≡ None = none_invoked e.content (invoke_in inner) (invoke_tells_at inner (invoke_in inner) fits refl) never in
    rw (tag, none) refl

refused_again : (p : Piece) (f : PduFault) → IsBytes p.octets → IsRequestRefused p.octets f → request_in p ≡ Err f
unfolding request_in service_in
refused_again p faults.UnknownPdu fits (a, rest, q, other) =
    let no_pdu : may_begin is_pdu p.octets ≡ false = ap (may_begin is_pdu) q ∙ other in
    rw no_pdu refl
refused_again p faults.Invalid fits (may, inl never) = rw (may_again is_pdu p.octets may, none_only p (only_in p) (only_tells p) never) refl
refused_again p faults.Invalid fits (may, inr (e, spells, out)) = pdu_again p e spells may ∙ out_of_place p e (Spells-bytes p.octets e fits spells) out
refused_again p (faults.UnknownService i) fits (e, spells, tag, a, rest, is, other) = invoked_again p e i (a ∷ rest) spells tag is ∙ rw other refl
refused_again p (faults.Argument i) fits (e, spells, tag, rest, is, may, never) =
    let inner = behind (content_piece (spot_in p e)) rest in
    let none : and_then (only_in inner) service_at ≡ None = none_asked inner (and_then (only_in inner) service_at) (invoked_bytes e.content i rest (Spells-bytes p.octets e fits spells) is) refl never in
    invoked_again p e i rest spells tag is ∙ rw (may_again is_service rest may, none) refl
refused_again p (faults.SmallSize n) fits h = absurd h

-- ---- the reader's promises

abbrev OctetsTell : List ℕ → Result (Request (List ℕ) Seen) PduFault → Type 0
OctetsTell input (Ok y) = IsRequest input y
OctetsTell input (Err f) = IsRequestRefused input f

without_tells : (input : List ℕ) (r : Result (Request Piece Spot) PduFault) → RequestTells input r → OctetsTell input (without_places r)
without_tells input (Ok r) h = h
without_tells input (Err f) h = h

placed_exact : (p : Piece) → IsBytes p.octets → Reads (λ (y : Request (List ℕ) Seen). y) (without_places (request_in p)) (IsRequest p.octets) (IsRequestRefused p.octets)
placed_exact p fits =
    exact_from (without_places (request_in p)) (IsRequest p.octets) (IsRequestRefused p.octets) (OctetsTell p.octets) (λ y h. h) (λ f h. h) (without_tells p.octets (request_in p) (request_tells p fits))
    (λ y is. let x = request_again p y fits is in ap without_places x.1 ∙ ap (λ (z : Request (List ℕ) Seen). Ok z) x.2)
    (λ f h. ap without_places (refused_again p f fits h))

pub request_exact : (input : List ℕ) → IsBytes input → Reads (λ (y : Request (List ℕ) Seen). y) (request_at input) (IsRequest input) (IsRequestRefused input)
unfolding request_at
request_exact input fits = placed_exact (record { octets = input; block = 0; place = 0 }) fits

-- what is spelled is read
pub request_spelled : (input : List ℕ) (y : Request (List ℕ) Seen) → IsBytes input → IsRequest input y → request_at input ≡ Ok y
request_spelled input y fits h = sym (gives_at (request_at input) y ((request_exact input fits).only y h))

request_fails : (input : List ℕ) (f : PduFault) → IsBytes input → IsRequestRefused input f → request_at input ≡ Err f
request_fails input f fits h = sym (refuses_at (request_at input) f ((request_exact input fits).refuses f h))

-- ---- the laws

pub one_request : (input : List ℕ) (x y : Request (List ℕ) Seen) → IsBytes input → IsRequest input x → IsRequest input y → x ≡ y
one_request input x y fits p q = ok_is {F = PduFault} x y (sym (request_spelled input x fits p) ∙ request_spelled input y fits q)

pub one_fault : (input : List ℕ) (f g : PduFault) → IsBytes input → IsRequestRefused input f → IsRequestRefused input g → f ≡ g
one_fault input f g fits p q = err_is {A = Request (List ℕ) Seen} f g (sym (request_fails input f fits p) ∙ request_fails input g fits q)

pub not_both : (input : List ℕ) (x : Request (List ℕ) Seen) (f : PduFault) → IsBytes input → IsRequest input x → IsRequestRefused input f → ⊥
not_both input x f fits p q = let one = request_spelled input x fits p in let two = request_fails input f fits q in cc

either_of : (input : List ℕ) (r : Result (Request Piece Spot) PduFault) → RequestTells input r → ((x : Request (List ℕ) Seen) × IsRequest input x) ⊎ ((f : PduFault) × IsRequestRefused input f)
either_of input (Ok r) h = inl (request_octets r, h)
either_of input (Err f) h = inr (f, h)

pub read_or_refused : (input : List ℕ) → IsBytes input → ((x : Request (List ℕ) Seen) × IsRequest input x) ⊎ ((f : PduFault) × IsRequestRefused input f)
read_or_refused input fits = let p : Piece = record { octets = input; block = 0; place = 0 } in either_of input (request_in p) (request_tells p fits)

-- where the octets lie changes nothing of what is asked
same_read : (input : List ℕ) (read : Result (Request (List ℕ) Seen) PduFault) (r : Result (Request (List ℕ) Seen) PduFault) → OctetsTell input r → Reads (λ (y : Request (List ℕ) Seen). y) read (IsRequest input) (IsRequestRefused input) → read ≡ r
same_read input read (Ok y) h reads = sym (gives_at read y (reads.only y h))
same_read input read (Err f) h reads = sym (refuses_at read f (reads.refuses f h))

anywhere : (p : Piece) → IsBytes p.octets → request_at p.octets ≡ without_places (request_in p)
anywhere p fits = same_read p.octets (request_at p.octets) (without_places (request_in p)) (without_tells p.octets (request_in p) (request_tells p fits)) (request_exact p.octets fits)

gives_octets : {X : Type 0} (view : X → Request Piece Spot) (r : Result X PduFault) (read : Result (Request Piece Spot) PduFault) → Gives view r read → Gives (λ x. request_octets (view x)) r (without_places read)
gives_octets view (Ok x) read g = ap without_places g
gives_octets view (Err f) read g = ap without_places g

gives_same : {X Y F : Type 0} (view : X → Y) (r : Result X F) (read other : Result Y F) → other ≡ read → Gives view r read → Gives view r other
gives_same view (Ok x) read other e g = e ∙ g
gives_same view (Err f) read other e g = e ∙ g

pub request_gives : {X : Type 0} (view : X → Request Piece Spot) (r : Result X PduFault) (p : Piece) → IsBytes p.octets → Gives view r (request_in p) → Gives (λ x. request_octets (view x)) r (request_at p.octets)
request_gives view r p fits g = gives_same (λ x. request_octets (view x)) r (without_places (request_in p)) (request_at p.octets) (anywhere p fits) (gives_octets view r (request_in p) g)

pub request_reads : {X : Type 0} (view : X → Request Piece Spot) (r : Result X PduFault) (p : Piece) → IsBytes p.octets → Gives view r (request_in p) → Reads (λ x. request_octets (view x)) r (IsRequest p.octets) (IsRequestRefused p.octets)
request_reads view r p fits g = reads_from (λ x. request_octets (view x)) r (request_at p.octets) (IsRequest p.octets) (IsRequestRefused p.octets) (request_exact p.octets fits) (request_gives view r p fits g)
