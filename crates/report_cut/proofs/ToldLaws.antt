-- The members that a PDU of a report says, both ways.
use Rattle.std.proofs.Common.{◌≡◌, ℕ, ◌+◌, eqb, Bool, true, false, List, [], ◌∷◌, ◌++◌, length, refl, sym, ap, subst, ◌∙◌, append_assoc, Some, Ok}
use Rattle.std.proofs.lemmas.Bool.{eqb-true}
use Rattle.std.proofs.lemmas.List.{nil_from_length, append-nil}
use Rattle.list_laws.proofs.Options.{some_is, chosen}
use Rattle.ber_grammar.specs.Octets.{IsBytes}
use Rattle.ber_grammar.specs.Content.{IsText}
use Rattle.ber_grammar.specs.Element.{Element, Begins}
use Rattle.ber_grammar.specs.Reader.{kept, and_then}
use Rattle.ber_grammar.specs.Reading.{first_at}
use Rattle.ber_grammar.proofs.OptionLaws.{kept_some, then_some}
use Rattle.ber_grammar.proofs.ElementLaws.{first_again}
use Rattle.ber_grammar.proofs.FieldLaws.{begins_of}
use Rattle.ber_grammar.proofs.OctetLaws.{Begins-bytes}
use Rattle.bay_model.specs.declared.report.Member.{Member}
use Rattle.report_cut.specs.Part.{Takes, TakesData, IsReasons, no_reasons, AreMarked, AreTold}
use Rattle.report_cut.specs.PartReading.{taken_at, text_in, reasons_in, data_in, behind_each, member_at, members_at}
use Rattle.report_cut.proofs.ContentLaws.{text_is, text_comes, reasons_are, reasons_come, data_are, data_come}
use Rattle.report_cut.proofs.TakingLaws.{takes_found, takes_again}

-- one member, with what follows its reference, its Data and its reasons
abbrev pub IsOne : Bool → Bool → ℕ → List ℕ → List ℕ → List ℕ → Member × List ℕ × List ℕ × List ℕ → Type 0
IsOne referred reasoned n a b c x = (x.0.number.0 ≡ n) × Takes 138 IsText referred [] a x.1 x.0.reference × TakesData b x.2 x.0.octets × Takes 132 IsReasons reasoned no_reasons c x.3 x.0.reasons

abbrev AreAllBytes : List ℕ → List ℕ → List ℕ → Type 0
AreAllBytes a b c = IsBytes a × IsBytes b × IsBytes c

one_found : (referred reasoned : Bool) (n : ℕ) (a b c : List ℕ) (x : Member × List ℕ × List ℕ × List ℕ) → AreAllBytes a b c → member_at referred reasoned n a b c ≡ Some x
    → IsOne referred reasoned n a b c x × AreAllBytes x.1 x.2 x.3
unfolding member_at
one_found referred reasoned n a b c x fits h =
    let made = λ (r : List ℕ × List ℕ) (d : List ℕ × List ℕ) (w : _ × List ℕ). Some (record { number = record { 0 = n }; reference = r.0; octets = d.0; reasons = w.0 }, r.1, d.1, w.1) in
    let i = then_some (taken_at 138 text_in referred [] a) (λ r. and_then (data_in b) (λ d. and_then (taken_at 132 reasons_in reasoned no_reasons c) (λ w. made r d w))) x h in
    let j = then_some (data_in b) (λ d. and_then (taken_at 132 reasons_in reasoned no_reasons c) (λ w. made i.0 d w)) x i.2 in
    let k = then_some (taken_at 132 reasons_in reasoned no_reasons c) (λ w. made i.0 j.0 w) x j.2 in
    let p = takes_found 138 text_in IsText text_is text_comes referred [] a i.0 fits.0 i.1 in
    let q = data_are b j.0.0 j.0.1 fits.1 j.1 in
    let r = takes_found 132 reasons_in IsReasons reasons_are reasons_come reasoned no_reasons c k.0 fits.2 k.1 in
    subst (λ (y : Member × List ℕ × List ℕ × List ℕ). IsOne referred reasoned n a b c y × AreAllBytes y.1 y.2 y.3)
    (some_is (record { number = record { 0 = n }; reference = i.0.0; octets = j.0.0; reasons = k.0.0 }, i.0.1, j.0.1, k.0.1) x k.2)
    ((refl, p.0, q.0, r.0), (p.1, q.1, r.1))

one_again : (referred reasoned : Bool) (n : ℕ) (a b c : List ℕ) (x : Member × List ℕ × List ℕ × List ℕ) → IsBytes b → IsOne referred reasoned n a b c x → member_at referred reasoned n a b c ≡ Some x
unfolding member_at
one_again referred reasoned n a b c x fits (is, p, q, r) =
    rw (takes_again 138 text_in IsText text_is text_comes referred [] a x.1 x.0.reference p, (data_come b x.0.octets x.2 fits q).0, takes_again 132 reasons_in IsReasons reasons_are reasons_come reasoned no_reasons c x.3 x.0.reasons r)
    (ap (λ (k : ℕ). Some (record { number = record { 0 = k }; reference = x.0.reference; octets = x.0.octets; reasons = x.0.reasons }, x.1, x.2, x.3)) (sym is))

-- ---- all of them

-- what is told of members after those so far
abbrev pub Told : Bool → Bool → ℕ → List Bool → List ℕ → List ℕ → List ℕ → List Member → List Member → Type 0
Told referred reasoned n bits a b c so_far all = (ms : List Member) × (x y : List ℕ) × (all ≡ so_far ++ ms) × AreMarked n bits ms × AreTold referred reasoned a x b y c [] ms

pub members_found : (referred reasoned : Bool) (n : ℕ) (bits : List Bool) (a b c : List ℕ) (so_far all : List Member) → AreAllBytes a b c → members_at referred reasoned n bits a b c so_far ≡ Some all
    → Told referred reasoned n bits a b c so_far all
members_found referred reasoned n [] a b c so_far all fits h =
    let k = chosen (eqb (length c) 0) (Some so_far) all h in
    ([], a, b, sym (some_is so_far all k.1) ∙ sym (append-nil so_far), tt, (refl, refl, nil_from_length c (eqb-true (length c) 0 k.0)))
members_found referred reasoned n (false ∷ bits) a b c so_far all fits h = members_found referred reasoned (n + 1) bits a b c so_far all fits h
members_found referred reasoned n (true ∷ bits) a b c so_far all fits h =
    let i = then_some (member_at referred reasoned n a b c) (λ x. members_at referred reasoned (n + 1) bits x.1 x.2 x.3 (so_far ++ x.0 ∷ [])) all h in
    let one = one_found referred reasoned n a b c i.0 fits i.1 in
    let more = members_found referred reasoned (n + 1) bits i.0.1 i.0.2 i.0.3 (so_far ++ i.0.0 ∷ []) all one.1 i.2 in
    (i.0.0 ∷ more.0, more.1, more.2, more.3 ∙ append_assoc so_far (i.0.0 ∷ []) more.0, (one.0.0, more.4), (i.0.1, i.0.2, i.0.3, one.0.1, one.0.2, one.0.3, more.5))

pub members_again : (referred reasoned : Bool) (n : ℕ) (bits : List Bool) (a x b y c : List ℕ) (so_far ms : List Member) → IsBytes b → AreMarked n bits ms → AreTold referred reasoned a x b y c [] ms
    → members_at referred reasoned n bits a b c so_far ≡ Some (so_far ++ ms)
members_again referred reasoned n [] a x b y c so_far [] fits marked (p, q, r) = rw (r, append-nil so_far) refl
members_again referred reasoned n [] a x b y c so_far (m ∷ ms) fits marked told = absurd marked
members_again referred reasoned n (false ∷ bits) a x b y c so_far ms fits marked told = members_again referred reasoned (n + 1) bits a x b y c so_far ms fits marked told
members_again referred reasoned n (true ∷ bits) a x b y c so_far [] fits marked told = absurd marked
members_again referred reasoned n (true ∷ bits) a x b y c so_far (m ∷ ms) fits marked (k, l, o, p, q, r, more) =
    rw (one_again referred reasoned n a b c (m, k, l, o) fits (marked.0, p, q, r))
    (members_again referred reasoned (n + 1) bits k x l y o (so_far ++ m ∷ []) ms (data_come b m.octets l fits q).1 marked.1 more ∙ ap (λ (z : List Member). Some z) (append_assoc so_far (m ∷ []) ms))

-- ---- how many elements there are

begun : (octets rest : List ℕ) (e : Element) → Begins octets e rest → first_at octets ≡ Ok (e, rest)
begun octets rest e (front, s, p) = ap first_at p ∙ first_again front rest e s

-- after the references stand the Data
pub references_end : (reasoned : Bool) (n : ℕ) (bits : List Bool) (a x b y c z : List ℕ) (ms : List Member) → AreMarked n bits ms → AreTold true reasoned a x b y c z ms → behind_each bits a ≡ Some x
references_end reasoned n [] a x b y c z [] marked (p, q, r) = ap (λ (o : List ℕ). Some o) p
references_end reasoned n [] a x b y c z (m ∷ ms) marked told = absurd marked
references_end reasoned n (false ∷ bits) a x b y c z ms marked told = references_end reasoned (n + 1) bits a x b y c z ms marked told
references_end reasoned n (true ∷ bits) a x b y c z [] marked told = absurd marked
references_end reasoned n (true ∷ bits) a x b y c z (m ∷ ms) marked (k, l, o, (e, begins, is_tag, is), q, r, more) =
    let first = begun a k e begins in rw (first) (references_end reasoned (n + 1) bits k x l y o z ms marked.1 more)

pub none_end : (reasoned : Bool) (a x b y c z : List ℕ) (ms : List Member) → AreTold false reasoned a x b y c z ms → a ≡ x
none_end reasoned a x b y c z [] (p, q, r) = p
none_end reasoned a x b y c z (m ∷ ms) (k, l, o, (none, same), q, r, more) = sym same ∙ none_end reasoned k x l y o z ms more

-- after the Data stand the reasons
pub values_end : (referred reasoned : Bool) (n : ℕ) (bits : List Bool) (a x b y c z : List ℕ) (ms : List Member) → AreMarked n bits ms → AreTold referred reasoned a x b y c z ms → behind_each bits b ≡ Some y
values_end referred reasoned n [] a x b y c z [] marked (p, q, r) = ap (λ (o : List ℕ). Some o) q
values_end referred reasoned n [] a x b y c z (m ∷ ms) marked told = absurd marked
values_end referred reasoned n (false ∷ bits) a x b y c z ms marked told = values_end referred reasoned (n + 1) bits a x b y c z ms marked told
values_end referred reasoned n (true ∷ bits) a x b y c z [] marked told = absurd marked
values_end referred reasoned n (true ∷ bits) a x b y c z (m ∷ ms) marked (k, l, o, p, (at, v, (e, s, within)), r, more) =
    let first = begun b l e (m.octets, s, at) in rw (first) (values_end referred reasoned (n + 1) bits k x l y o z ms marked.1 more)

-- octets after elements are octets
pub behind_bytes : (bits : List Bool) (octets rest : List ℕ) → IsBytes octets → behind_each bits octets ≡ Some rest → IsBytes rest
behind_bytes [] octets rest fits h = subst (λ (o : List ℕ). IsBytes o) (some_is octets rest h) fits
behind_bytes (false ∷ bits) octets rest fits h = behind_bytes bits octets rest fits h
behind_bytes (true ∷ bits) octets rest fits h =
    let i = then_some (kept (first_at octets)) (λ x. behind_each bits x.1) rest h in
    behind_bytes bits i.0.1 rest (Begins-bytes octets i.0.0 i.0.1 fits (begins_of octets i.0 (kept_some (first_at octets) i.0 i.1))).1 i.2
