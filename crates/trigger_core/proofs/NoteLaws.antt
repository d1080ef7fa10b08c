-- What is noted of the changes of a point is its note.
use Rattle.std.proofs.Common.{◌≡◌, refl, ap, ap₂, sym, ◌∙◌, subst, ℕ, suc, Bool, true, false, not, ◌&&◌, List, [], ◌∷◌, ◌++◌, map, Option, Some, None, unwrap_or, is_some, if◌then◌else◌}
use Rattle.std.specs.Option.{option_map, option_map_or}
use Rattle.sv_base.specs.Same.{is_same}
use Rattle.sv_base.specs.declared.numbers.AttrId.{AttrId}
use Rattle.sv_base.specs.declared.value.Value.{Value}
use Rattle.bay_model.specs.declared.flags.Change.{Change}
use Rattle.bay_model.specs.declared.report.Reasons.{Reasons}
use Rattle.bay_model.specs.declared.tables.MemberShape.{MemberShape}
use Rattle.bay_model.specs.Model.{Model}
use Rattle.bay_model.specs.Lookups.{attr_of, node_of}
use Rattle.bay_model.specs.Points.{Deed, Point, Past, valued, put, activated, confirmed, opened, lost, finished, blocked, wrote, copied, edited, called, selected_control, answered, took, terminated, reported, nothing}
use Rattle.bay_model.specs.Parameters.{parameters_at}
use Rattle.bay_model.specs.Sets.{members}
use Rattle.sv_base.specs.Data.{data_of}
use Rattle.std.proofs.lemmas.List.{map-append}
use Rattle.bay_model.specs.Values.{value_at, gives, whole}
use Rattle.bay_model.specs.Notes.{no_reason, union, is_any, reasons_of, union_of, noted as noted_by, note, note_at, note_by, Kept}
use Rattle.trigger_core.specs.Noted.{change_of, reasons_by, reasons_in, noted}
use Rattle.trigger_core.specs.Points.{trg_of, change_to, AreChanges, AreShapes, mention}
use Rattle.list_laws.proofs.Truths.{and-none}

pub and_true : (a b : Bool) → (a && b && true) ≡ (a && b)
and_true true true = refl
and_true true false = refl
and_true false b = refl

-- the reasons of three triggers
abbrev pub triggered : Bool → Bool → Bool → Reasons
triggered d q u = record { dchg = d; qchg = q; dupd = u; intg = false; gi = false }

pub same_triggers : {a b d e f g : Bool} → a ≡ b → d ≡ e → f ≡ g → triggered a d f ≡ triggered b e g
same_triggers {a = a} {b = b} {d = d} {e = e} {f = f} {g = g} i j k = ap (λ x. triggered x d f) i ∙ (ap (λ x. triggered b x f) j ∙ ap (λ x. triggered b e x) k)

-- what an attribute is given decides its reasons
pub reasons_by_value : (c : Model) (trg : List Bool) (x : ℕ) (before : Past) (given : Option Value)
    → unwrap_or (option_map (reasons_by (trg_of trg)) (option_map (change_to c x before) given)) no_reason
    ≡ triggered ((attr_of c x).dchg && (trg_of trg).dchg && option_map_or (λ v. not (is_same v (value_at c x before))) given false)
    ((attr_of c x).qchg && (trg_of trg).qchg && option_map_or (λ v. not (is_same v (value_at c x before))) given false) ((attr_of c x).dupd && (trg_of trg).dupd && is_some given)
reasons_by_value c trg x before None = same_triggers (sym (and-none (attr_of c x).dchg (trg_of trg).dchg)) (sym (and-none (attr_of c x).qchg (trg_of trg).qchg)) (sym (and-none (attr_of c x).dupd (trg_of trg).dupd))
reasons_by_value c trg x before (Some v) = same_triggers refl refl (sym (and_true (attr_of c x).dupd (trg_of trg).dupd))

pub reasons_of_one : (c : Model) (trg : List Bool) (deed : Deed) (before : Past) (changes : List Change) (x : AttrId) → AreChanges c deed before changes
    → unwrap_or (option_map (reasons_by (trg_of trg)) (change_of changes x)) no_reason ≡ reasons_of c trg deed before x.0
reasons_of_one c trg deed before changes x are = ap (λ o. unwrap_or (option_map (reasons_by (trg_of trg)) o) no_reason) (are x.0) ∙ reasons_by_value c trg x.0 before (gives c x.0 deed before)

pub reasons_of_all : (c : Model) (trg : List Bool) (deed : Deed) (before : Past) (changes : List Change) (xs : List AttrId) → AreChanges c deed before changes
    → reasons_in changes (trg_of trg) xs ≡ union_of c trg deed before (map (λ x. x.0) xs)
reasons_of_all c trg deed before changes [] are = refl
reasons_of_all c trg deed before changes (x ∷ xs) are = ap₂ union (reasons_of_one c trg deed before changes x are) (reasons_of_all c trg deed before changes xs are)

-- a member, if it is noted
pub mentioned : (b : Bool) (k : Kept) → map mention (if b then k ∷ [] else []) ≡ (if b then mention k ∷ [] else [])
mentioned true k = refl
mentioned false k = refl

pub noted_alike : (c : Model) (trg : List Bool) (deed : Deed) (before past : Past) (changes : List Change) (i : ℕ) (shapes : List MemberShape) (nodes : List ℕ)
    → AreChanges c deed before changes → AreShapes c nodes shapes
    → noted changes (trg_of trg) i shapes ≡ map mention (noted_by c (λ n. union_of c trg deed before (node_of c n).attrs) past i nodes)
noted_alike c trg deed before past changes i [] [] are fit = refl
noted_alike c trg deed before past changes i [] (n ∷ ns) are fit = elim fit [ ]
noted_alike c trg deed before past changes i (m ∷ ms) [] are fit = elim fit [ ]
noted_alike c trg deed before past changes i (m ∷ ms) (n ∷ ns) are fit =
    let same : reasons_in changes (trg_of trg) m.attrs ≡ union_of c trg deed before (node_of c n).attrs = reasons_of_all c trg deed before changes m.attrs are ∙ ap (λ xs. union_of c trg deed before xs) fit.0 in
    ap₂ (λ (r : Reasons) l. (if is_any r then record { member = record { 0 = i }; reasons = r } ∷ [] else []) ++ l) same (noted_alike c trg deed before past changes (suc i) ms ns are fit.1)
    ∙ (ap (λ l. l ++ map mention (noted_by c (λ n. union_of c trg deed before (node_of c n).attrs) past (suc i) ns)) (sym (mentioned (is_any (union_of c trg deed before (node_of c n).attrs)) (record { number = i; reasons = union_of c trg deed before (node_of c n).attrs; octets = data_of (whole c past (node_of c n).tree) })))
    ∙ sym (map-append mention (if is_any (union_of c trg deed before (node_of c n).attrs) then record { number = i; reasons = union_of c trg deed before (node_of c n).attrs; octets = data_of (whole c past (node_of c n).tree) } ∷ [] else [])
    (noted_by c (λ n. union_of c trg deed before (node_of c n).attrs) past (suc i) ns)))

-- where nothing is set, nothing is noted
abbrev pub SetsNothing : Model → Deed → Past → Type 0
SetsNothing c deed before = (x : ℕ) → gives c x deed before ≡ None

pub quiet_one : (c : Model) (trg : List Bool) (deed : Deed) (before : Past) (x : ℕ) → SetsNothing c deed before → reasons_of c trg deed before x ≡ no_reason
quiet_one c trg deed before x quiet = ap (λ o. triggered ((attr_of c x).dchg && (trg_of trg).dchg && option_map_or (λ v. not (is_same v (value_at c x before))) o false)
    ((attr_of c x).qchg && (trg_of trg).qchg && option_map_or (λ v. not (is_same v (value_at c x before))) o false) ((attr_of c x).dupd && (trg_of trg).dupd && is_some o)) (quiet x)
    ∙ same_triggers (and-none (attr_of c x).dchg (trg_of trg).dchg) (and-none (attr_of c x).qchg (trg_of trg).qchg) (and-none (attr_of c x).dupd (trg_of trg).dupd)

pub quiet_all : (c : Model) (trg : List Bool) (deed : Deed) (before : Past) (xs : List ℕ) → SetsNothing c deed before → union_of c trg deed before xs ≡ no_reason
quiet_all c trg deed before [] quiet = refl
quiet_all c trg deed before (x ∷ xs) quiet = ap₂ union (quiet_one c trg deed before x quiet) (quiet_all c trg deed before xs quiet)

pub quiet_note : (c : Model) (trg : List Bool) (deed : Deed) (before past : Past) (i : ℕ) (nodes : List ℕ) → SetsNothing c deed before
    → noted_by c (λ n. union_of c trg deed before (node_of c n).attrs) past i nodes ≡ []
quiet_note c trg deed before past i [] quiet = refl
quiet_note c trg deed before past i (n ∷ ns) quiet =
    ap (λ (r : Reasons). (if is_any r then record { number = i; reasons = r; octets = data_of (whole c past (node_of c n).tree) } ∷ [] else []) ++ noted_by c (λ n. union_of c trg deed before (node_of c n).attrs) past (suc i) ns) (quiet_all c trg deed before (node_of c n).attrs quiet)
    ∙ quiet_note c trg deed before past (suc i) ns quiet

-- the note of a point whose deed sets nothing
pub quiet_by : (c : Model) (b : ℕ) (p : Point) (before : Past) (deed : Deed) → p.deed ≡ deed → SetsNothing c deed before → note_by c b p before ≡ []
quiet_by c b p before deed is quiet = quiet_note c (parameters_at c b before).trg_ops p.deed before (p ∷ before) 1 (members c b before) (subst (λ d. SetsNothing c d before) (sym is) quiet)

-- what of all deeds the note by the deed is
pub note_of_all : (c : Model) (b : ℕ) (p : Point) (before : Past) (deed : Deed) → p.deed ≡ deed → note_by c b p before ≡ note_at c b p before deed
note_of_all c b p before (valued settings) is = refl
note_of_all c b p before (put a x v) is = refl
note_of_all c b p before (activated a d n) is = refl
note_of_all c b p before (confirmed a d) is = refl
note_of_all c b p before (opened a o w size owner) is = quiet_by c b p before (opened a o w size owner) is (λ x. refl)
note_of_all c b p before (lost a) is = quiet_by c b p before (lost a) is (λ x. refl)
note_of_all c b p before (finished k g) is = quiet_by c b p before (finished k g) is (λ x. refl)
note_of_all c b p before (blocked k g) is = quiet_by c b p before (blocked k g) is (λ x. refl)
note_of_all c b p before (wrote a k comp v) is = quiet_by c b p before (wrote a k comp v) is (λ x. refl)
note_of_all c b p before (copied a x v) is = quiet_by c b p before (copied a x v) is (λ x. refl)
note_of_all c b p before (edited a d n) is = quiet_by c b p before (edited a d n) is (λ x. refl)
note_of_all c b p before (called a k call v) is = quiet_by c b p before (called a k call v) is (λ x. refl)
note_of_all c b p before (selected_control a k) is = quiet_by c b p before (selected_control a k) is (λ x. refl)
note_of_all c b p before (answered a o ch) is = quiet_by c b p before (answered a o ch) is (λ x. refl)
note_of_all c b p before (took a) is = quiet_by c b p before (took a) is (λ x. refl)
note_of_all c b p before (terminated a k) is = quiet_by c b p before (terminated a k) is (λ x. refl)
note_of_all c b p before (reported a k n) is = quiet_by c b p before (reported a k n) is (λ x. refl)
note_of_all c b p before nothing is = quiet_by c b p before nothing is (λ x. refl)

pub note_is_noted : (c : Model) (b : ℕ) (p : Point) (before : Past) (changes : List Change) (shapes : List MemberShape)
    → AreChanges c p.deed before changes → AreShapes c (members c b before) shapes
    → noted changes (trg_of (parameters_at c b before).trg_ops) 1 shapes ≡ map mention (note c b p before)
note_is_noted c b p before changes shapes are fit = noted_alike c (parameters_at c b before).trg_ops p.deed before (p ∷ before) changes 1 shapes (members c b before) are fit
    ∙ ap (λ l. map mention l) (note_of_all c b p before p.deed refl)
