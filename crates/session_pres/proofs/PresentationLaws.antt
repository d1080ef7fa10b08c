-- CP and CPA are read as they are spelled.
use Rattle.std.proofs.Common.{◌≡◌, ℕ, eqb, List, [], ◌∷◌, Option, Some, None, Result, refl, ap, subst, ◌∙◌}
use Rattle.std.specs.Prelude.{bytes_eq}
use Rattle.std.proofs.lemmas.Bool.{eqb-true, eq-eqb}
use Rattle.list_laws.proofs.Options.{some_is, chosen}
use Rattle.list_laws.proofs.Distinct.{octets_same, octets_equal}
use Rattle.ber_grammar.specs.Place.{Spot, Piece, content_piece}
use Rattle.ber_grammar.specs.Reader.{and_then, Gives, Reads}
use Rattle.ber_grammar.proofs.OptionLaws.{then_some}
use Rattle.ber_grammar.proofs.ReaderLaws.{reads_from}
use Rattle.session_pres.specs.declared.codes.TheConstants.{ACCEPT, MODE_SELECTOR, MODE_VALUE, NORMAL_MODE_PARAMETERS, CONTEXT_DEFINITION_LIST, CONTEXT_RESULT_LIST, RESULT, TRANSFER_SYNTAX, FULLY_ENCODED_DATA, SEQUENCE, SET}
use Rattle.session_pres.specs.declared.fault.SpFault.{SpFault}
use Rattle.session_pres.specs.declared.fault.SpFault.TheVariants as faults
use Rattle.ber_grammar.specs.Steps.{IsLacking, required}
use Rattle.ber_grammar.specs.Fields.{AreFields, IsOnly, fields_in, only_with, first_with, field_with}
use Rattle.session_pres.specs.Units.{HasData, IsDataRefused}
use Rattle.session_pres.specs.UnitReading.{data_of}
use Rattle.session_pres.specs.UserData.{pdv_list_at}
use Rattle.session_pres.specs.ContextList.{IsContextList, IsChosen, ber, acse, mms}
use Rattle.session_pres.specs.ContextReading.{context_list_at, chosen_at}
use Rattle.session_pres.specs.Presentation.{IsTagged, IsNormal, IsUser, Request, request, HasParameters, AreParametersRefused, IsCp, IsCpRefused, IsAcceptance, first_in, second_in, IsAccepted, IsCpa, IsCpaRefused, IsAc, IsAcRefused}
use Rattle.session_pres.specs.PresentationReading.{if_octets, normal_at, parameters_in, if_context, user_in, cp_at, accepted_at, cpa_at, ac_at}
use Rattle.ber_grammar.proofs.FieldLaws.{fields_found, fields_again, only_with-found, only_with-again, field_with-found, field_with-again}
use Rattle.session_pres.proofs.UserDataLaws.{pdv_list_found, pdv_list_again}
use Rattle.session_pres.proofs.ListLaws.{context_list_found, context_list_again, chosen_found, chosen_again}
use Rattle.session_pres.proofs.UnitLaws.{data_exact}
use Rattle.ber_grammar.proofs.StepLaws.{Exact, then_exact, step_exact, required_exact, made_exact}

-- ---- the mode

if_octets_found : (octets : List ℕ) (o : Option Piece) (part : Piece) → if_octets octets o ≡ Some part → (o ≡ Some part) × (part.octets ≡ octets)
if_octets_found octets None part h = absurd cc
if_octets_found octets (Some p) part h =
    let c = chosen (bytes_eq p.octets octets) (Some p) part h in
    (c.1, subst (λ (x : Piece). x.octets ≡ octets) (some_is p part c.1) (octets_same p.octets octets c.0))

if_octets_again : (octets : List ℕ) (o : Option Piece) (part : Piece) → o ≡ Some part → part.octets ≡ octets → if_octets octets o ≡ Some part
if_octets_again octets o part p q = rw p (rw (octets_equal part.octets octets q) refl)

normal_found : (fields : List Spot) (mode : Piece) → normal_at fields ≡ Some mode → IsNormal fields mode
unfolding normal_at
normal_found fields mode h =
    let c = if_octets_found (1 ∷ []) (and_then (first_with MODE_SELECTOR fields) (field_with MODE_VALUE)) mode h in
    let selector = then_some (first_with MODE_SELECTOR fields) (field_with MODE_VALUE) mode c.0 in
    (selector.0, selector.1, field_with-found MODE_VALUE selector.0 mode selector.2, c.1)

normal_again : (fields : List Spot) (mode : Piece) → IsNormal fields mode → normal_at fields ≡ Some mode
unfolding normal_at
normal_again fields mode (selector, at, is, octets) =
    if_octets_again (1 ∷ []) (and_then (first_with MODE_SELECTOR fields) (field_with MODE_VALUE)) mode (rw at (field_with-again MODE_VALUE selector mode is)) octets

pub parameters_exact : (input : Piece) → Exact (parameters_in input) (HasParameters input) (AreParametersRefused input)
unfolding parameters_in
parameters_exact input =
    step_exact (only_with SET input) faults.Parameter _ (IsOnly SET input) _ _ (only_with-found SET input) (only_with-again SET input) (λ content s.
    step_exact (fields_in content) faults.Parameter _ (AreFields content) _ _ (fields_found content) (fields_again content) (λ set t.
    step_exact (normal_at set) faults.Mode _ (IsNormal set) _ _ (normal_found set) (normal_again set) (λ mode u.
    required_exact (first_with NORMAL_MODE_PARAMETERS set) faults.NoAcseContext (IsTagged NORMAL_MODE_PARAMETERS set) (λ x h. h) (λ x h. h))))

-- ---- the user data

if_context_found : (number : ℕ) (o : Option (ℕ × Piece)) (user : Piece) → if_context number o ≡ Some user → o ≡ Some (number, user)
if_context_found number None user h = absurd cc
if_context_found number (Some pdv) user h =
    let c = chosen (eqb pdv.0 number) (Some pdv.1) user h in
    ap (λ (n : ℕ). let x : Option (ℕ × Piece) = Some (n, pdv.1) in x) (eqb-true pdv.0 number c.0) ∙ ap (λ (u : Piece). let x : Option (ℕ × Piece) = Some (number, u) in x) (some_is pdv.1 user c.1)

user_found : (fields : List Spot) (number : ℕ) (user : Piece) → user_in fields number ≡ Some user → IsUser fields number user
unfolding user_in
user_found fields number user h =
    let values = then_some (first_with FULLY_ENCODED_DATA fields) pdv_list_at (number, user) (if_context_found number (and_then (first_with FULLY_ENCODED_DATA fields) pdv_list_at) user h) in
    (values.0, values.1, pdv_list_found values.0 (number, user) values.2)

user_again : (fields : List Spot) (number : ℕ) (user : Piece) → IsUser fields number user → user_in fields number ≡ Some user
unfolding user_in
user_again fields number user (values, at, is) = rw (at, pdv_list_again values (number, user) is, eq-eqb number number refl) refl

-- ---- CP

pub cp_exact : (input : Piece) → Exact (cp_at input) (IsCp input) (IsCpRefused input)
unfolding cp_at
cp_exact input =
    then_exact (parameters_in input) _ (HasParameters input) (AreParametersRefused input) _ _ (parameters_exact input) (λ parameters p.
    step_exact (fields_in parameters) faults.Parameter _ (AreFields parameters) _ _ (fields_found parameters) (fields_again parameters) (λ fields q.
    step_exact (first_with CONTEXT_DEFINITION_LIST fields) faults.NoAcseContext _ (IsTagged CONTEXT_DEFINITION_LIST fields) _ _ (λ x h. h) (λ x h. h) (λ content r.
    step_exact (context_list_at content) faults.Parameter _ (IsContextList content) _ _ (context_list_found content) (context_list_again content) (λ contexts s.
    step_exact (chosen_at acse contexts) faults.NoAcseContext _ (IsChosen acse contexts) _ _ (chosen_found acse contexts) (chosen_again acse contexts) (λ a t.
    step_exact (chosen_at mms contexts) faults.NoMmsContext _ (IsChosen mms contexts) _ _ (chosen_found mms contexts) (chosen_again mms contexts) (λ m u.
    made_exact (required faults.Pdv (user_in fields a.number)) (request contexts a m) (IsUser fields a.number) (IsLacking faults.Pdv (IsUser fields a.number))
    (required_exact (user_in fields a.number) faults.Pdv (IsUser fields a.number) (user_found fields a.number) (user_again fields a.number))))))))

pub cp_reads : {X : Type 0} (view : X → Request) (r : Result X SpFault) (input : Piece) → Gives view r (cp_at input) → Reads view r (IsCp input) (IsCpRefused input)
cp_reads view r input g = reads_from view r (cp_at input) (IsCp input) (IsCpRefused input) (cp_exact input) g

-- ---- CPA

acceptance_found : (s : Spot) → (fields : List Spot) → AreFields (content_piece s) fields → (result syntax : Piece) → if_octets (0 ∷ []) (first_with RESULT fields) ≡ Some result → if_octets ber (first_with TRANSFER_SYNTAX fields) ≡ Some syntax → s.element.tag ≡ SEQUENCE → IsAcceptance s
acceptance_found s fields are result syntax p q t =
    let a = if_octets_found (0 ∷ []) (first_with RESULT fields) result p in
    let b = if_octets_found ber (first_with TRANSFER_SYNTAX fields) syntax q in
    (t, fields, are, result, syntax, a.0, a.1, b.0, b.1)

accepted_found : (o : Option Spot) (s : Spot) → accepted_at o ≡ Some s → IsAccepted o s
unfolding accepted_at
accepted_found None s h = absurd cc
accepted_found (Some x) s h =
    let t = chosen (eqb x.element.tag SEQUENCE) (and_then (fields_in (content_piece x)) (λ fields. and_then (if_octets (0 ∷ []) (first_with RESULT fields)) (λ result. and_then (if_octets ber (first_with TRANSFER_SYNTAX fields)) (λ syntax. Some x)))) s h in
    let fields = then_some (fields_in (content_piece x)) (λ fields. and_then (if_octets (0 ∷ []) (first_with RESULT fields)) (λ result. and_then (if_octets ber (first_with TRANSFER_SYNTAX fields)) (λ syntax. Some x))) s t.1 in
    let result = then_some (if_octets (0 ∷ []) (first_with RESULT fields.0)) (λ result. and_then (if_octets ber (first_with TRANSFER_SYNTAX fields.0)) (λ syntax. Some x)) s fields.2 in
    let syntax = then_some (if_octets ber (first_with TRANSFER_SYNTAX fields.0)) (λ syntax. Some x) s result.2 in
    (syntax.2, subst IsAcceptance (some_is x s syntax.2) (acceptance_found x fields.0 (fields_found (content_piece x) fields.0 fields.1) result.0 syntax.0 result.1 syntax.1 (eqb-true x.element.tag SEQUENCE t.0)))

accepted_again : (o : Option Spot) (s : Spot) → IsAccepted o s → accepted_at o ≡ Some s
unfolding accepted_at
accepted_again o s (at, (t, fields, are, result, syntax, p, q, u, v)) =
    rw at (rw (eq-eqb s.element.tag SEQUENCE t, fields_again (content_piece s) fields are, if_octets_again (0 ∷ []) (first_with RESULT fields) result p q, if_octets_again ber (first_with TRANSFER_SYNTAX fields) syntax u v) refl)

pub cpa_exact : (input : Piece) → Exact (cpa_at input) (IsCpa input) (IsCpaRefused input)
unfolding cpa_at
cpa_exact input =
    then_exact (parameters_in input) _ (HasParameters input) (AreParametersRefused input) _ _ (parameters_exact input) (λ parameters p.
    step_exact (fields_in parameters) faults.Parameter _ (AreFields parameters) _ _ (fields_found parameters) (fields_again parameters) (λ fields q.
    step_exact (first_with CONTEXT_RESULT_LIST fields) faults.NoAcseContext _ (IsTagged CONTEXT_RESULT_LIST fields) _ _ (λ x h. h) (λ x h. h) (λ content r.
    step_exact (fields_in content) faults.Parameter _ (AreFields content) _ _ (fields_found content) (fields_again content) (λ results s.
    step_exact (accepted_at (first_in results)) faults.NoAcseContext _ (IsAccepted (first_in results)) _ _ (accepted_found (first_in results)) (accepted_again (first_in results)) (λ a t.
    step_exact (accepted_at (second_in results)) faults.NoMmsContext _ (IsAccepted (second_in results)) _ _ (accepted_found (second_in results)) (accepted_again (second_in results)) (λ m u.
    required_exact (user_in fields 1) faults.Pdv (IsUser fields 1) (user_found fields 1) (user_again fields 1)))))))

pub ac_exact : (input : Piece) → Exact (ac_at input) (IsAc input) (IsAcRefused input)
unfolding ac_at
ac_exact input = then_exact (data_of ACCEPT input) cpa_at (HasData ACCEPT input) (IsDataRefused ACCEPT input) IsCpa IsCpaRefused (data_exact ACCEPT input) (λ cpa s. cpa_exact cpa)

pub ac_reads : {X : Type 0} (view : X → Piece) (r : Result X SpFault) (input : Piece) → Gives view r (ac_at input) → Reads view r (IsAc input) (IsAcRefused input)
ac_reads view r input g = reads_from view r (ac_at input) (IsAc input) (IsAcRefused input) (ac_exact input) g
