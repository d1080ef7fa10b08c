-- What is read of an initiate is what it spells, and what it spells is read.
use Rattle.std.proofs.Common.{◌≡◌, ℕ, ◌<◌, ◌⊎◌, inl, inr, true, ◌&&◌, cond, ltb, eqb, ◌++◌, List, [], ◌∷◌, Option, Some, None, Result, Ok, Err, refl, sym, ap, subst, ◌∙◌, arith}
use Rattle.std.specs.Prelude.{MatchResult}
use Rattle.std.proofs.lemmas.Bool.{eqb-true, eq-eqb, ne_eqb, ltb-true, ltb-false, lt-ltb, le-ltb, and_parts, cond_both}
use Rattle.list_laws.proofs.Options.{some_is, chosen, sides, err_is}
use Rattle.ber_grammar.specs.Octets.{IsBytes}
use Rattle.ber_grammar.specs.Element.{Element, IsRow}
use Rattle.ber_grammar.specs.Reader.{Gives, Reads, and_then, kept}
use Rattle.ber_grammar.specs.Rows.{parts_at}
use Rattle.ber_grammar.proofs.OptionLaws.{then_some}
use Rattle.ber_grammar.proofs.OctetLaws.{AllBytes, IsRow-bytes, Spells-bytes}
use Rattle.ber_grammar.proofs.ReaderLaws.{exact_from, reads_from, refuses_at, gives_itself}
use Rattle.mms_elements.specs.declared.fault.PduFault.{PduFault}
use Rattle.mms_elements.specs.declared.fault.PduFault.TheVariants.{UnknownPdu, UnknownService, Argument, Invalid, SmallSize}
use Rattle.mms_initiate.specs.declared.initiate.Initiate.{Initiate}
use Rattle.mms_initiate.specs.Initiate.{IsOptional, AreDetails, AreFields, IsInitiate, IsAccepted, IsInitiateRefused}
use Rattle.mms_initiate.specs.InitiateReading.{are_details, detail_at, nesting_at, calls_at, fields_at, tagged_at, proposal_at, judged, initiate_at}
use Rattle.ber_grammar.specs.Fields.{whole_at}
use Rattle.mms_elements.specs.Tagged.{IsNumber, number_at}
use Rattle.ber_grammar.proofs.FieldLaws.{whole_again, whole_found, row_found, row_kept}
use Rattle.mms_elements.proofs.TaggedLaws.{number_again, number_found}

abbrev made : ℕ → ℕ → ℕ → ℕ → Initiate
made size calling called nesting = record { size = size; calling = calling; called = called; nesting = nesting }

-- ---- what is spelled is read

details_again : (ds : List Element) → AreDetails ds → are_details ds ≡ true
details_again [] h = absurd h
details_again (a ∷ []) h = absurd h
details_again (a ∷ b ∷ []) h = absurd h
details_again (a ∷ b ∷ c ∷ []) h = rw (h.0, h.1, h.2) refl
details_again (a ∷ b ∷ c ∷ d ∷ es) h = absurd h

detail_again : (i : Initiate) (d : Element) (ds : List Element) → d.tag ≡ 164 → IsRow d.content ds → AreDetails ds → detail_at i (d ∷ []) ≡ Some i
unfolding detail_at
detail_again i d ds t row are = rw (t, row_kept d.content ds row, details_again ds are) refl

nesting_again : (size calling called : ℕ) (ns : List Element) (nesting : ℕ) (d : Element) (ds : List Element) → IsOptional 131 10 ns nesting → d.tag ≡ 164 → IsRow d.content ds → AreDetails ds
    → nesting_at size calling called (ns ++ d ∷ []) ≡ Some (made size calling called nesting)
unfolding nesting_at
nesting_again size calling called [] nesting d ds h t row are = rw (ne_eqb d.tag 131 (omega (arith, t)), h) (detail_again (made size calling called 10) d ds t row are)
nesting_again size calling called (n ∷ []) nesting d ds h t row are = rw (eq-eqb n.tag 131 h.0, number_again 131 n nesting h) (detail_again (made size calling called nesting) d ds t row are)
nesting_again size calling called (n ∷ m ∷ ns) nesting d ds h t row are = absurd h

calls_again : (size : ℕ) (a b : Element) (es : List Element) (calling called : ℕ) → IsNumber 129 a calling → IsNumber 130 b called → calls_at size (a ∷ b ∷ es) ≡ nesting_at size calling called es
unfolding calls_at
calls_again size a b es calling called h k = rw (number_again 129 a calling h, number_again 130 b called k) refl

fields_at_size : (ss : List Element) (size : ℕ) (a : Element) (es : List Element) → IsOptional 128 65000 ss size → a.tag ≡ 129 → fields_at (ss ++ a ∷ es) ≡ calls_at size (a ∷ es)
unfolding fields_at
fields_at_size [] size a es h t = rw (ne_eqb a.tag 128 (omega (arith, t)), h) refl
fields_at_size (s ∷ []) size a es h t = rw (eq-eqb s.tag 128 h.0, number_again 128 s size h) refl
fields_at_size (s ∷ r ∷ ss) size a es h t = absurd h

pub fields_again : (es : List Element) (i : Initiate) → AreFields es i → fields_at es ≡ Some i
fields_again es i f =
    ap fields_at f.whole
    ∙ fields_at_size f.size i.size f.calling (f.called ∷ (f.nesting ++ f.detail ∷ [])) f.is_size f.is_calling.0
    ∙ calls_again i.size f.calling f.called (f.nesting ++ f.detail ∷ []) i.calling i.called f.is_calling f.is_called
    ∙ nesting_again i.size i.calling i.called f.nesting i.nesting f.detail f.details f.is_nesting f.is_detail f.row f.are_details

pub proposal_again : (tag : ℕ) (input : List ℕ) (i : Initiate) → IsInitiate tag input i → proposal_at tag input ≡ Some i
proposal_again tag input i (e, es, s, t, row, f) = rw (whole_again input e s, eq-eqb e.tag tag t, row_kept e.content es row) (fields_again es i f)

pub one_initiate : (tag : ℕ) (input : List ℕ) (i j : Initiate) → IsInitiate tag input i → IsInitiate tag input j → i ≡ j
one_initiate tag input i j is also = some_is i j (sym (proposal_again tag input i is) ∙ proposal_again tag input j also)

-- ---- what is read is spelled

details_found : (ds : List Element) → are_details ds ≡ true → AreDetails ds
details_found [] h = absurd cc
details_found (a ∷ []) h = absurd cc
details_found (a ∷ b ∷ []) h = absurd cc
details_found (a ∷ b ∷ c ∷ []) h =
    let p = and_parts (eqb a.tag 128 && eqb b.tag 129) (eqb c.tag 130) h in
    let q = and_parts (eqb a.tag 128) (eqb b.tag 129) p.0 in
    (eqb-true a.tag 128 q.0, eqb-true b.tag 129 q.1, eqb-true c.tag 130 p.1)
details_found (a ∷ b ∷ c ∷ d ∷ es) h = absurd cc

-- the detail that is the last of the fields
abbrev IsLast : List Element → Type 0
IsLast es = (d : Element) × (ds : List Element) × (es ≡ d ∷ []) × (d.tag ≡ 164) × IsRow d.content ds × AreDetails ds

detail_found : (i j : Initiate) (es : List Element) → detail_at i es ≡ Some j → (i ≡ j) × IsLast es
unfolding detail_at
detail_found i j [] h = absurd cc
detail_found i j (d ∷ []) h =
    let step = λ (ds : List Element). cond (are_details ds) (Some i) None in
    let a = chosen (eqb d.tag 164) (and_then (kept (parts_at d.content)) step) j h in
    let b = then_some (kept (parts_at d.content)) step j a.1 in
    let c = chosen (are_details b.0) (Some i) j b.2 in
    (some_is i j c.1, (d, b.0, refl, eqb-true d.tag 164 a.0, row_found d.content b.0 b.1, details_found b.0 c.0))
detail_found i j (d ∷ e ∷ es) h = absurd cc

-- a nesting or none, and the detail
abbrev AreLast : ℕ → List Element → Type 0
AreLast nesting es = (ns : List Element) × (d : Element) × (ds : List Element) × (es ≡ ns ++ d ∷ []) × IsOptional 131 10 ns nesting × (d.tag ≡ 164) × IsRow d.content ds × AreDetails ds

nesting_found : (size calling called : ℕ) (es : List Element) (i : Initiate) → AllBytes es → nesting_at size calling called es ≡ Some i → (made size calling called i.nesting ≡ i) × AreLast i.nesting es
unfolding nesting_at
nesting_found size calling called [] i fits h = absurd cc
nesting_found size calling called (e ∷ es) i fits h =
    let step = λ (n : ℕ). detail_at (made size calling called n) es in
    elim (sides (eqb e.tag 131) (and_then (number_at 131 e) step) (detail_at (made size calling called 10) (e ∷ es)) (Some i) h) [
      | inl a ↦ let b = then_some (number_at 131 e) step i a.1 in
          let last = detail_found (made size calling called b.0) i es b.2 in
          let same : b.0 ≡ i.nesting = ap (λ (x : Initiate). x.nesting) last.0 in
          let n = number_found 131 e b.0 fits.0 b.1 in
          (ap (made size calling called) (sym same) ∙ last.0, (e ∷ [], last.1.0, last.1.1, ap (λ (x : List Element). e ∷ x) last.1.2, subst (λ (x : ℕ). IsNumber 131 e x) same n, last.1.3, last.1.4, last.1.5))
      | inr a ↦ let last = detail_found (made size calling called 10) i (e ∷ es) a.1 in
          let same : 10 ≡ i.nesting = ap (λ (x : Initiate). x.nesting) last.0 in
          (ap (made size calling called) (sym same) ∙ last.0, ([], last.1.0, last.1.1, last.1.2, sym same, last.1.3, last.1.4, last.1.5))
    ]

-- the calls, and what follows
abbrev AreCalls : List Element → Initiate → Type 0
AreCalls es i = (a b : Element) × (more : List Element) × (es ≡ a ∷ b ∷ more) × IsNumber 129 a i.calling × IsNumber 130 b i.called × AreLast i.nesting more

calls_found : (size : ℕ) (es : List Element) (i : Initiate) → AllBytes es → calls_at size es ≡ Some i → (size ≡ i.size) × AreCalls es i
unfolding calls_at
calls_found size [] i fits h = absurd cc
calls_found size (a ∷ []) i fits h = absurd cc
calls_found size (a ∷ b ∷ es) i fits h =
    let p = then_some (number_at 129 a) (λ calling. and_then (number_at 130 b) (λ called. nesting_at size calling called es)) i h in
    let q = then_some (number_at 130 b) (λ called. nesting_at size p.0 called es) i p.2 in
    let last = nesting_found size p.0 q.0 es i fits.1.1 q.2 in
    let calling = subst (λ (x : ℕ). IsNumber 129 a x) (ap (λ (x : Initiate). x.calling) last.0) (number_found 129 a p.0 fits.0 p.1) in
    let called = subst (λ (x : ℕ). IsNumber 130 b x) (ap (λ (x : Initiate). x.called) last.0) (number_found 130 b q.0 fits.1.0 q.1) in
    (ap (λ (x : Initiate). x.size) last.0, (a, b, es, refl, calling, called, last.1))

fields_from : (ss es : List Element) (i : Initiate) → IsOptional 128 65000 ss i.size → AreCalls es i → AreFields (ss ++ es) i
fields_from ss es i size (a, b, more, p, calling, called, (ns, d, ds, q, nesting, t, row, are)) =
    record {
      size = ss;
      calling = a;
      called = b;
      nesting = ns;
      detail = d;
      details = ds;
      whole = ap (λ (x : List Element). ss ++ x) (p ∙ ap (λ (x : List Element). a ∷ b ∷ x) q);
      is_size = size;
      is_calling = calling;
      is_called = called;
      is_nesting = nesting;
      is_detail = t;
      row = row;
      are_details = are;
    }

pub fields_found : (es : List Element) (i : Initiate) → AllBytes es → fields_at es ≡ Some i → AreFields es i
unfolding fields_at
fields_found [] i fits h = absurd cc
fields_found (e ∷ es) i fits h =
    let step = λ (n : ℕ). calls_at n es in
    elim (sides (eqb e.tag 128) (and_then (number_at 128 e) step) (calls_at 65000 (e ∷ es)) (Some i) h) [
      | inl a ↦ let b = then_some (number_at 128 e) step i a.1 in
          let calls = calls_found b.0 es i fits.1 b.2 in
          fields_from (e ∷ []) es i (subst (λ (x : ℕ). IsNumber 128 e x) calls.0 (number_found 128 e b.0 fits.0 b.1)) calls.1
      | inr a ↦ let calls = calls_found 65000 (e ∷ es) i fits a.1 in fields_from [] (e ∷ es) i (sym calls.0) calls.1
    ]

pub proposal_found : (tag : ℕ) (input : List ℕ) (i : Initiate) → IsBytes input → proposal_at tag input ≡ Some i → IsInitiate tag input i
proposal_found tag input i fits h =
    let a = then_some (whole_at input) (tagged_at tag) i h in
    let b = chosen (eqb a.0.tag tag) (and_then (kept (parts_at a.0.content)) fields_at) i a.2 in
    let c = then_some (kept (parts_at a.0.content)) fields_at i b.1 in
    let s = whole_found input a.0 a.1 in
    let row : IsRow a.0.content c.0 = row_found a.0.content c.0 c.1 in
    (a.0, c.0, s, eqb-true a.0.tag tag b.0, row, fields_found c.0 i (IsRow-bytes a.0.content c.0 (Spells-bytes input a.0 fits s) row) c.2)

-- ---- the readers

abbrev Tells : ℕ → List ℕ → Result Initiate PduFault → Type 0
Tells tag input (Ok i) = IsAccepted tag input i
Tells tag input (Err f) = IsInitiateRefused tag input f

judged_tells : (tag : ℕ) (input : List ℕ) (o : Option Initiate) → IsBytes input → proposal_at tag input ≡ o → Tells tag input (judged o)
judged_tells tag input None fits h = λ i is. none i (sym (proposal_again tag input i is) ∙ h)
  where
    none : (i : Initiate) → Some i ≡ None → ⊥
    none i e = cc
judged_tells tag input (Some i) fits h =
    let is = proposal_found tag input i fits h in
    cond_both (ltb i.size 1024) (Err (SmallSize i.size)) (Ok i) (Tells tag input) (λ e. (i, is, refl, ltb-true i.size 1024 e)) (λ e. (is, ltb-false i.size 1024 e))

pub accepted_again : (tag : ℕ) (input : List ℕ) (i : Initiate) → IsAccepted tag input i → initiate_at tag input ≡ Ok i
unfolding initiate_at
accepted_again tag input i h = rw (proposal_again tag input i h.0, le-ltb i.size 1024 h.1) refl

refused_again : (tag : ℕ) (input : List ℕ) (f : PduFault) → IsBytes input → IsInitiateRefused tag input f → judged (proposal_at tag input) ≡ Err f
refused_again tag input (SmallSize size) fits (i, is, e, lt) = rw (proposal_again tag input i is, lt-ltb i.size 1024 (subst (λ (x : ℕ). x < 1024) (sym e) lt), e) refl
refused_again tag input Invalid fits h = none (proposal_at tag input) refl
  where
    none : (o : Option Initiate) → proposal_at tag input ≡ o → judged o ≡ Err Invalid
    none None e = refl
    none (Some i) e = absurd (h i (proposal_found tag input i fits e))
refused_again tag input UnknownPdu fits h = absurd h
refused_again tag input (UnknownService invoke) fits h = absurd h
refused_again tag input (Argument invoke) fits h = absurd h

pub initiate_reads : {X : Type 0} (view : X → Initiate) (r : Result X PduFault) (tag : ℕ) (input : List ℕ) → IsBytes input → Gives view r (initiate_at tag input) → Reads view r (IsAccepted tag input) (IsInitiateRefused tag input)
unfolding initiate_at
initiate_reads view r tag input fits g =
    reads_from view r (judged (proposal_at tag input)) (IsAccepted tag input) (IsInitiateRefused tag input)
    (exact_from (judged (proposal_at tag input)) (IsAccepted tag input) (IsInitiateRefused tag input) (Tells tag input) (λ y h. h) (λ f h. h) (judged_tells tag input (proposal_at tag input) fits refl)
    (accepted_again tag input)
    (λ f h. refused_again tag input f fits h))
    g

-- ---- an initiate says one thing

pub initiate_exact : (tag : ℕ) (input : List ℕ) → IsBytes input → Reads (λ (i : Initiate). i) (initiate_at tag input) (IsAccepted tag input) (IsInitiateRefused tag input)
initiate_exact tag input fits = initiate_reads (λ i. i) (initiate_at tag input) tag input fits (gives_itself (initiate_at tag input))

either : (tag : ℕ) (input : List ℕ) (r : Result Initiate PduFault) → MatchResult r (IsAccepted tag input) (IsInitiateRefused tag input) → ((i : Initiate) × IsAccepted tag input i) ⊎ ((f : PduFault) × IsInitiateRefused tag input f)
either tag input (Ok i) h = inl (i, h)
either tag input (Err f) h = inr (f, h)

pub initiate_answered : (tag : ℕ) (input : List ℕ) → IsBytes input → ((i : Initiate) × IsAccepted tag input i) ⊎ ((f : PduFault) × IsInitiateRefused tag input f)
initiate_answered tag input fits = either tag input (initiate_at tag input) (initiate_exact tag input fits).tells

pub initiate_unique : (tag : ℕ) (input : List ℕ) (i j : Initiate) → IsAccepted tag input i → IsAccepted tag input j → i ≡ j
initiate_unique tag input i j a b = one_initiate tag input i j a.0 b.0

pub initiate_one_cause : (tag : ℕ) (input : List ℕ) (f g : PduFault) → IsBytes input → IsInitiateRefused tag input f → IsInitiateRefused tag input g → f ≡ g
initiate_one_cause tag input f g fits a b =
    let e = initiate_exact tag input fits in
    err_is {A = Initiate} f g (refuses_at (initiate_at tag input) f (e.refuses f a) ∙ sym (refuses_at (initiate_at tag input) g (e.refuses g b)))

pub initiate_not_both : (tag : ℕ) (input : List ℕ) (i : Initiate) (f : PduFault) → IsBytes input → IsAccepted tag input i → IsInitiateRefused tag input f → ⊥
initiate_not_both tag input i f fits a b = let both = sym (accepted_again tag input i a) ∙ sym (refuses_at (initiate_at tag input) f ((initiate_exact tag input fits).refuses f b)) in cc
