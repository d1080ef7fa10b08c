-- What comes of a client's write of a component of a setting group block.
use Rattle.std.proofs.Common.{◌≡◌, ◌≤◌, ◌<◌, ℕ, Bool, true, false, not, ◌∷◌, length, refl, sym, ap, ap₂, ◌∙◌, arith, Option, None, Some, is_some, Result, Ok, Err, true≢false}
use Rattle.std.specs.Prelude.{◌==◌, ◌||◌, ◌&&◌, nat_lt, if◌then◌else◌}
use Rattle.std.specs.Option.{option_map_or}
use Rattle.std.proofs.lemmas.Bool.Decides.{nat_tests}
use Rattle.sv_base.specs.declared.value.Value.{Value}
use Rattle.sv_base.specs.declared.value.Value.TheVariants as kinds
use Rattle.sv_base.specs.declared.components.SettingComp.{SettingComp}
use Rattle.sv_base.specs.declared.components.SettingComp.TheVariants.{NumOfSG, ActSG, EditSG, CnfEdit, LActTm}
use Rattle.bay_model.specs.Components.{read_setting, utc_of, no_utc}
use Rattle.bay_model.specs.Lookups.{attr_of, groups_of}
use Rattle.bay_model.specs.Model.{Model}
use Rattle.bay_model.specs.Outcomes.{first_code, first_of, outcome_by}
use Rattle.bay_model.specs.Points.{Deed, Past, now, activated, copied, edited, confirmed, nothing}
use Rattle.bay_model.specs.Model as model
use Rattle.bay_model.specs.Reads.{read_attribute}
use Rattle.bay_model.specs.Settings.{Edit, copy, edit, is_held_by, stored}
use Rattle.bay_model.specs.SettingWrites.{act_refusals, attribute_refusals, edit_refusals, confirm_refusals, holds_edit, write_attribute, write_part}
use Rattle.bay_model.proofs.RefusalLaws.{as_answered}
use Rattle.setting_groups.specs.Grouped.{Domained, Grouped, Settled, act_answer, copy_answer, domain_at, edit_answer, edit_number, holds, is_on, number_in, setting_at, stored_answer}
use Rattle.setting_groups.specs.Parts.{told, part_answer, part_deed, part_read, after_part}
use Rattle.setting_groups.specs.Standing.{IsTwin, Stands, StandsBlock, at}
use Rattle.setting_groups.proofs.SettingLaws.{edits, confirms}
use Rattle.setting_groups.proofs.StandLaws.{acts, quiets}

-- ---- what it is answered

by-told : {A : Type 0} (is_set : Bool) (r : Result A ℕ) (deed : Deed) → outcome_by (told is_set r) deed ≡ outcome_by r deed
by-told is_set (Ok done) deed = refl
by-told is_set (Err code) deed = refl

module _ (c : Model) (s : Grouped) (d : ℕ) (past : Past) (block : StandsBlock (domain_at s d) c d past) where
  abbrev own : Domained
  own = domain_at s d

  act-told : (a : ℕ) (v : Value) → write_part c a d ActSG v past ≡ outcome_by (act_answer own v) (activated a d (number_in v))
  act-told a (kinds.Uint n) = ap (λ k. first_code (act_refusals k n) (activated a d n)) (sym block.count) ∙ as_answered (act_refusals own.count n) tt (activated a d n)
  act-told a (kinds.Bool b) = refl
  act-told a (kinds.Int z) = refl
  act-told a (kinds.Bits bs) = refl
  act-told a (kinds.Time t) = refl
  act-told a (kinds.Stamp t) = refl
  act-told a (kinds.Text t) = refl
  act-told a (kinds.Octets o) = refl
  act-told a (kinds.Struct vs) = refl
  act-told a kinds.Other = refl

  edit-told : (a : ℕ) (v : Value) → write_part c a d EditSG v past ≡ outcome_by (edit_answer a own v) (edited a d (number_in v))
  edit-told a (kinds.Uint n) = ap₂ (λ k e. first_code (edit_refusals a k n e) (edited a d n)) (sym block.count) (sym block.edit) ∙ as_answered (edit_refusals a own.count n own.edit) tt (edited a d n)
  edit-told a (kinds.Bool b) = refl
  edit-told a (kinds.Int z) = refl
  edit-told a (kinds.Bits bs) = refl
  edit-told a (kinds.Time t) = refl
  edit-told a (kinds.Stamp t) = refl
  edit-told a (kinds.Text t) = refl
  edit-told a (kinds.Octets o) = refl
  edit-told a (kinds.Struct vs) = refl
  edit-told a kinds.Other = refl

  confirm-told : (a : ℕ) (v : Value) → write_part c a d CnfEdit v past ≡ outcome_by (stored_answer a own v) (if is_on v then confirmed a d else nothing)
  confirm-told a (kinds.Bool on) = ap (λ e. first_code (confirm_refusals a e) (if on then confirmed a d else nothing)) (sym block.edit)
      ∙ as_answered (confirm_refusals a own.edit) (on && (edit_number own == own.active)) (if on then confirmed a d else nothing)
  confirm-told a (kinds.Uint n) = refl
  confirm-told a (kinds.Int z) = refl
  confirm-told a (kinds.Bits bs) = refl
  confirm-told a (kinds.Time t) = refl
  confirm-told a (kinds.Stamp t) = refl
  confirm-told a (kinds.Text t) = refl
  confirm-told a (kinds.Octets o) = refl
  confirm-told a (kinds.Struct vs) = refl
  confirm-told a kinds.Other = refl

  pub answered : (a : ℕ) (part : SettingComp) (v : Value) → write_part c a d part v past ≡ outcome_by (part_answer a own part v) (part_deed a d part v)
  answered a NumOfSG v = refl
  answered a ActSG v = act-told a v ∙ sym (by-told true (act_answer own v) (activated a d (number_in v)))
  answered a EditSG v = edit-told a v ∙ sym (by-told false (edit_answer a own v) (edited a d (number_in v)))
  answered a CnfEdit v = confirm-told a v
  answered a LActTm v = refl

  pub reads : (part : SettingComp) → read_setting c d part past ≡ part_read own part
  reads NumOfSG = ap kinds.Uint (sym block.count)
  reads ActSG = ap kinds.Uint (sym block.active)
  reads EditSG = ap (λ e. kinds.Uint (option_map_or (λ (x : Edit). x.group) e 0)) (sym block.edit)
  reads CnfEdit = refl
  reads LActTm = ap (λ o. kinds.Time (option_map_or utc_of o no_utc)) (sym block.last)

-- what the edit copy of an attribute reads
pub copy-reads : (c : Model) (s : Grouped) (k y : ℕ) (past : Past) → Stands s c past → k < length s.settings → IsTwin c y (setting_at s k)
    → read_attribute c model.edited y past ≡ (if is_some (domain_at s (setting_at s k).domain).edit then Ok (setting_at s k).copy.value else Err 2)
copy-reads c s k y past h below twin =
    let t : Settled = setting_at s k in
    let block_ = h.blocks t.domain (h.within k below) (h.grouped k below) in
    ap₂ (λ (d x : ℕ). if is_some (edit d past) then Ok (stored c x past copy) else Err 2) twin.domain twin.original
    ∙ (by (edit t.domain past) (λ some. sym ((h.settings k below).copy some)) ∙ ap (λ o. if is_some o then Ok t.copy.value else Err 2) (sym block_.edit))
  where
    by : (o : Option Edit) → (is_some o ≡ true → stored c (setting_at s k).attr past copy ≡ (setting_at s k).copy.value)
        → ◌≡◌ {A = Result Value ℕ} (if is_some o then Ok (stored c (setting_at s k).attr past copy) else Err 2) (if is_some o then Ok (setting_at s k).copy.value else Err 2)
    by None same = refl
    by (Some e) same = ap Ok (same refl)

-- what comes of a write into it
pub copy-written : (c : Model) (s : Grouped) (a k y : ℕ) (v : Value) (past : Past) → Stands s c past → k < length s.settings → IsTwin c y (setting_at s k)
    → write_attribute c a y v model.edited past ≡ outcome_by (copy_answer (holds a (domain_at s (setting_at s k).domain)) (setting_at s k) v) (copied a (setting_at s k).attr v)
copy-written c s a k y v past h below twin =
    let t = setting_at s k in
    let block_ = h.blocks t.domain (h.within k below) (h.grouped k below) in
    let held : holds_edit a (attr_of c y).domain past ≡ holds a (domain_at s t.domain) = ap (λ d. holds_edit a d past) twin.domain ∙ ap (is_held_by a) (sym block_.edit) in
    ap (λ q. first_code (attribute_refusals q v (not (holds_edit a (attr_of c y).domain past))) (copied a (attr_of c y).original v)) twin.kind
    ∙ (ap (λ b. first_code (attribute_refusals t.copy.kind v (not b)) (copied a (attr_of c y).original v)) held
    ∙ (ap (λ x. first_code (attribute_refusals t.copy.kind v (not (holds a (domain_at s t.domain)))) (copied a x v)) twin.original
    ∙ as_answered (attribute_refusals t.copy.kind v (not (holds a (domain_at s t.domain)))) tt (copied a t.attr v)))

-- ---- what is so where it is accepted

-- ActSG names a group
pub act-range : (count n : ℕ) (b : Bool) → told {A = Unit {0}} true (first_of (act_refusals count n) tt) ≡ Ok b → (1 ≤ n) × (n ≤ count) × (b ≡ true)
act-range count n b is = by ((n == 0) || nat_lt count n) refl is
  where
    by : (t : Bool) → ((n == 0) || nat_lt count n) ≡ t → told {A = Unit {0}} true (if t then Err 11 else Ok tt) ≡ Ok b → (1 ≤ n) × (n ≤ count) × (b ≡ true)
    by true test is = cc
    by false test is = (grind (arith, nat_tests, test), grind (arith, nat_tests, test), cc)

-- EditSG a group or none
pub edit-range : (a count n : ℕ) (e : Option Edit) (b : Bool) → told {A = Unit {0}} false (first_of (edit_refusals a count n e) tt) ≡ Ok b → (n ≤ count) × (b ≡ false)
edit-range a count n e b is = by (option_map_or (λ (x : Edit). not (x.holder == a)) e false) (nat_lt count n) refl is
  where
    by : (t u : Bool) → nat_lt count n ≡ u → told {A = Unit {0}} false (if t then Err 2 else (if u then Err 11 else Ok tt)) ≡ Ok b → (n ≤ count) × (b ≡ false)
    by true u test is = cc
    by false true test is = cc
    by false false test is = (grind (arith, nat_tests, test), cc)

held-some : (a : ℕ) (e : Option Edit) → is_held_by a e ≡ true → is_some e ≡ true
held-some a None is = absurd (true≢false (sym is))
held-some a (Some e) is = refl

-- CnfEdit comes from who holds the edit
pub confirm-held : (a : ℕ) (e : Option Edit) (done b : Bool) → first_of (confirm_refusals a e) done ≡ Ok b → (is_some e ≡ true) × (b ≡ done)
confirm-held a e done b is = by (is_held_by a e) refl is
  where
    by : (t : Bool) → is_held_by a e ≡ t → ◌≡◌ {A = Result Bool ℕ} (if not t then Err 2 else Ok done) (Ok b) → (is_some e ≡ true) × (b ≡ done)
    by true test is = (held-some a e test, cc)
    by false test is = cc

-- ---- the groups stand for the point

module _ (c : Model) (before : Past) (n m : ℕ) (s : Grouped) (h : Stands s c before) (d : ℕ) (there : d < length s.domains) (some : 0 < (groups_of c d).count) where
  block : StandsBlock (domain_at s d) c d before
  block = h.blocks d there some

  abbrev IsAfter : ℕ → SettingComp → Value → Type 0
  IsAfter a part v = Stands (after_part d a part v (now (at n m (part_deed a d part v) ∷ before)) s) c (at n m (part_deed a d part v) ∷ before)

  act-stands : (a : ℕ) (v : Value) (b : Bool) → told true (act_answer (domain_at s d) v) ≡ Ok b → IsAfter a ActSG v
  act-stands a (kinds.Uint k) b is = let r = act-range (domain_at s d).count k b is in acts c before n m s h a d k there r.0 (omega (arith, r.1, block.count))
  act-stands a (kinds.Bool q) b is = cc
  act-stands a (kinds.Int z) b is = cc
  act-stands a (kinds.Bits bs) b is = cc
  act-stands a (kinds.Time t) b is = cc
  act-stands a (kinds.Stamp t) b is = cc
  act-stands a (kinds.Text t) b is = cc
  act-stands a (kinds.Octets o) b is = cc
  act-stands a (kinds.Struct vs) b is = cc
  act-stands a kinds.Other b is = cc

  edit-stands : (a : ℕ) (v : Value) (b : Bool) → told false (edit_answer a (domain_at s d) v) ≡ Ok b → IsAfter a EditSG v
  edit-stands a (kinds.Uint k) b is = let r = edit-range a (domain_at s d).count k (domain_at s d).edit b is in edits c before n m s h a d k there (omega (arith, r.0, block.count))
  edit-stands a (kinds.Bool q) b is = cc
  edit-stands a (kinds.Int z) b is = cc
  edit-stands a (kinds.Bits bs) b is = cc
  edit-stands a (kinds.Time t) b is = cc
  edit-stands a (kinds.Stamp t) b is = cc
  edit-stands a (kinds.Text t) b is = cc
  edit-stands a (kinds.Octets o) b is = cc
  edit-stands a (kinds.Struct vs) b is = cc
  edit-stands a kinds.Other b is = cc

  confirm-stands : (a : ℕ) (v : Value) (b : Bool) → stored_answer a (domain_at s d) v ≡ Ok b → IsAfter a CnfEdit v
  confirm-stands a (kinds.Bool true) b is = let held = confirm-held a (domain_at s d).edit (edit_number (domain_at s d) == (domain_at s d).active) b is in
      confirms c before n m s h a d there (ap is_some (sym block.edit) ∙ held.0)
  confirm-stands a (kinds.Bool false) b is = quiets c before n m nothing s tt h
  confirm-stands a (kinds.Uint k) b is = cc
  confirm-stands a (kinds.Int z) b is = cc
  confirm-stands a (kinds.Bits bs) b is = cc
  confirm-stands a (kinds.Time t) b is = cc
  confirm-stands a (kinds.Stamp t) b is = cc
  confirm-stands a (kinds.Text t) b is = cc
  confirm-stands a (kinds.Octets o) b is = cc
  confirm-stands a (kinds.Struct vs) b is = cc
  confirm-stands a kinds.Other b is = cc

  pub part-stands : (a : ℕ) (part : SettingComp) (v : Value) (b : Bool) → part_answer a (domain_at s d) part v ≡ Ok b → IsAfter a part v
  part-stands a NumOfSG v b is = cc
  part-stands a ActSG v b is = act-stands a v b is
  part-stands a EditSG v b is = edit-stands a v b is
  part-stands a CnfEdit v b is = confirm-stands a v b is
  part-stands a LActTm v b is = cc
