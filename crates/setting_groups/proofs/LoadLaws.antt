-- What a write of ActSG or CnfEdit gives each attribute is what the active group then holds.
use Rattle.std.proofs.Common.{◌≡◌, ◌≢◌, ◌≤◌, ◌<◌, ◌-◌, ℕ, suc, Bool, true, false, List, [], ◌∷◌, length, map, refl, sym, ap, ap₂, subst, ◌∙◌, arith, Option, None, Some, is_some, Ok, slice_index_or, slice_set, true≢false, ◌⊎◌, inl, inr}
use Rattle.std.specs.Prelude.{◌==◌, ◌&&◌, if◌then◌else◌}
use Rattle.std.specs.Option.{option_map, option_map_or, option_or}
use Rattle.std.proofs.lemmas.Bool.Decides.{eqb_tells}
use Rattle.std.proofs.lemmas.List.{get_or-map, length-map}
use Rattle.sv_base.specs.declared.value.Value.{Value}
use Rattle.sv_base.specs.declared.value.Value.TheVariants as kinds
use Rattle.sv_base.specs.declared.components.SettingComp.{SettingComp}
use Rattle.sv_base.specs.declared.components.SettingComp.TheVariants.{NumOfSG, ActSG, EditSG, CnfEdit, LActTm}
use Rattle.bay_model.specs.declared.step.Setting.{Setting}
use Rattle.bay_model.specs.Lookups.{attr_of, groups_of}
use Rattle.bay_model.specs.Model as model
use Rattle.bay_model.specs.Model.{Model, Access}
use Rattle.bay_model.specs.Points.{Past, activated, confirmed}
use Rattle.bay_model.specs.Settings.{Edit, active, edit, is_edited, set_to, stored, copy, group}
use Rattle.bay_model.specs.Values.{gives, is_active_setting, is_setting_of}
use Rattle.list_laws.proofs.Places.{at_set, same-number, swap-number}
use Rattle.setting_groups.specs.Frames.{IsComplete}
use Rattle.setting_groups.specs.Grouped.{Domained, Settled, Grouped, domain_at, setting_at, no_domain, no_setting, activated as act, unedited, stored_in, active_place, edit_place, edit_number, place_in, act_answer, edit_answer, stored_answer, after_act, after_confirm}
use Rattle.setting_groups.specs.Loaded.{loading, loading_if, loadings, active_settings}
use Rattle.setting_groups.specs.Parts.{told, part_answer, part_deed, after_part}
use Rattle.setting_groups.specs.Standing.{Stands, StandsBlock, IsEdit}
use Rattle.setting_groups.proofs.PartLaws.{act-range, confirm-held, edit-range}
use Rattle.setting_groups.proofs.ValueLaws.{IsPlace, is_place}
use Rattle.list_laws.proofs.Truths.{and-false}

-- ---- what the settings of a domain are set to

-- no two have one attribute
abbrev Differ : List Settled → Type 0
Differ ts = (j k : ℕ) → j < length ts → k < length ts → (slice_index_or ts j no_setting).attr ≡ (slice_index_or ts k no_setting).attr → j ≡ k

differ-later : (t : Settled) (ts : List Settled) → Differ (t ∷ ts) → Differ ts
differ-later t ts are = λ j k lj lk e. let one : suc j ≡ suc k = are (suc j) (suc k) (omega (arith, lj)) (omega (arith, lk)) e in omega (arith, one)

abbrev value_if : ℕ → ℕ → Settled → Option Value
value_if d i t = if t.domain == d then Some (loading i t).value else None

pub left : (o : Option Value) → option_or o None ≡ o
left None = refl
left (Some v) = refl

-- one in front that has the attribute, where no later one has, and one that hasn't
head-value : (d i x : ℕ) (t : Settled) (more : List Setting) → (x == t.attr) ≡ true → set_to x more ≡ None → set_to x (loading_if d i t more) ≡ value_if d i t
head-value d i x t more test none = by (t.domain == d)
  where
    by : (b : Bool) → set_to x (if b then loading i t ∷ more else more) ≡ (if b then Some (loading i t).value else None)
    by true = ap₂ (λ l f. option_or l (if f then Some (loading i t).value else None)) none (swap-number t.attr x ∙ test)
    by false = none

later-value : (d i x : ℕ) (t : Settled) (more : List Setting) → (x == t.attr) ≡ false → set_to x (loading_if d i t more) ≡ set_to x more
later-value d i x t more test = by (t.domain == d)
  where
    by : (b : Bool) → set_to x (if b then loading i t ∷ more else more) ≡ set_to x more
    by true = ap (λ f. option_or (set_to x more) (if f then Some (loading i t).value else None)) (swap-number t.attr x ∙ test) ∙ left (set_to x more)
    by false = refl

-- nothing of an attribute that none of them has
absent : (d i x : ℕ) (ts : List Settled) → place_in x ts ≡ None → set_to x (loadings d i ts) ≡ None
absent d i x [] is = refl
absent d i x (t ∷ ts) is = by (x == t.attr) refl (place_in x ts) (absent d i x ts) is
  where
    by : (e : Bool) → (x == t.attr) ≡ e → (o : Option ℕ) → (o ≡ None → set_to x (loadings d i ts) ≡ None) → (if e then Some 0 else option_map suc o) ≡ None → set_to x (loadings d i (t ∷ ts)) ≡ None
    by true test o later none = cc
    by false test (Some k) later none = cc
    by false test None later none = later-value d i x t (loadings d i ts) test ∙ later refl

nobody : (x : ℕ) (t : Settled) (ts : List Settled) → Differ (t ∷ ts) → (x == t.attr) ≡ true → place_in x ts ≡ None
nobody x t ts are test = by (place_in x ts) (is_place x ts)
  where
    same : x ≡ t.attr
    same = grind (arith, test)

    by : (o : Option ℕ) → IsPlace x ts o → o ≡ None
    by None is = refl
    by (Some k) is = let one : 0 ≡ suc k = are 0 (suc k) (omega arith) (omega (arith, is.0)) (sym same ∙ is.1) in absurd (omega (arith, one))

-- of an attribute that one of them has, what the group at the place holds of it, where it is of the domain
pub present : (d i x : ℕ) (ts : List Settled) (k : ℕ) → Differ ts → place_in x ts ≡ Some k → set_to x (loadings d i ts) ≡ value_if d i (slice_index_or ts k no_setting)
present d i x [] k are is = cc
present d i x (t ∷ ts) k are is = by (x == t.attr) refl (place_in x ts) (λ j. present d i x ts j (differ-later t ts are)) is
  where
    here : 0 ≡ k → value_if d i t ≡ value_if d i (slice_index_or (t ∷ ts) k no_setting)
    here e = ap (λ j. value_if d i (slice_index_or (t ∷ ts) j no_setting)) e

    there : (j : ℕ) → suc j ≡ k → value_if d i (slice_index_or ts j no_setting) ≡ value_if d i (slice_index_or (t ∷ ts) k no_setting)
    there j e = ap (λ n. value_if d i (slice_index_or (t ∷ ts) n no_setting)) e

    by : (e : Bool) → (x == t.attr) ≡ e → (o : Option ℕ) → ((j : ℕ) → o ≡ Some j → set_to x (loadings d i ts) ≡ value_if d i (slice_index_or ts j no_setting))
        → (if e then Some 0 else option_map suc o) ≡ Some k → set_to x (loadings d i (t ∷ ts)) ≡ value_if d i (slice_index_or (t ∷ ts) k no_setting)
    by true test o later at = head-value d i x t (loadings d i ts) test (absent d i x ts (nobody x t ts are test)) ∙ here cc
    by false test None later at = cc
    by false test (Some j) later at = later-value d i x t (loadings d i ts) test ∙ (later j refl ∙ there j cc)

-- ---- what a deed gives

no-access : (access : Access) → access ≢ model.active → is_active_setting access ≡ false
no-access model.reported other = refl
no-access model.writable other = refl
no-access model.active other = absurd (other refl)
no-access model.edited other = refl

module _ (c : Model) (before : Past) (s : Grouped) (h : Stands s c before) (complete : IsComplete c s) (d : ℕ) (there : d < length s.domains) (some : 0 < (groups_of c d).count) where
  block : StandsBlock (domain_at s d) c d before
  block = h.blocks d there some

  -- an attribute that is no SG attribute
  other : (x : ℕ) → place_in x s.settings ≡ None → is_setting_of c d x ≡ false
  other x none = ap (λ b. b && ((attr_of c x).domain == d)) (no-access (attr_of c x).access (λ is. true≢false (sym (complete x is) ∙ ap is_some none)))

  -- and one that is
  own : (x k : ℕ) → place_in x s.settings ≡ Some k → (k < length s.settings) × (x ≡ (setting_at s k).attr)
  own x k is = subst (IsPlace x s.settings) is (is_place x s.settings)

  told-own : (x k : ℕ) → place_in x s.settings ≡ Some k → is_setting_of c d x ≡ ((setting_at s k).domain == d)
  told-own x k is =
      let at = own x k is in
      let o = h.settings k at.0 in
      ap (λ y. is_active_setting (attr_of c y).access && ((attr_of c y).domain == d)) at.1
      ∙ (ap (λ a. is_active_setting a && ((attr_of c (setting_at s k).attr).domain == d)) o.access
      ∙ ap (λ e. e == d) (sym o.domain))

  -- where the settings are as before but for what they hold, and what the group at the place holds is what is given
  given : (i : ℕ) (ts : List Settled) (v : ℕ → Value) → ((x : ℕ) → place_in x ts ≡ place_in x s.settings) → Differ ts
      → ((k : ℕ) → k < length s.settings → (slice_index_or ts k no_setting).domain ≡ (setting_at s k).domain)
      → ((k : ℕ) → k < length s.settings → (setting_at s k).domain ≡ d → (loading i (slice_index_or ts k no_setting)).value ≡ v (setting_at s k).attr)
      → (x : ℕ) → set_to x (loadings d i ts) ≡ (if is_setting_of c d x then Some (v x) else None)
  given i ts v places differ owners values x = by (place_in x s.settings) refl
    where
      by : (o : Option ℕ) → place_in x s.settings ≡ o → set_to x (loadings d i ts) ≡ (if is_setting_of c d x then Some (v x) else None)
      by None none = absent d i x ts (places x ∙ none) ∙ sym (ap (λ b. if b then Some (v x) else None) (other x none))
      by (Some k) is =
          let at = own x k is in
          present d i x ts k differ (places x ∙ is)
          ∙ (ap (λ e. if e == d then Some (loading i (slice_index_or ts k no_setting)).value else None) (owners k at.0)
          ∙ (which (eqb_tells (setting_at s k).domain d)
          ∙ sym (ap (λ b. if b then Some (v x) else None) (told-own x k is))))
        where
          at-k : (k < length s.settings) × (x ≡ (setting_at s k).attr)
          at-k = own x k is

          which : (((setting_at s k).domain == d) ≡ true) × ((setting_at s k).domain ≡ d) ⊎ (((setting_at s k).domain == d) ≡ false) × ((setting_at s k).domain ≢ d)
              → (if (setting_at s k).domain == d then Some (loading i (slice_index_or ts k no_setting)).value else None) ≡ (if (setting_at s k).domain == d then Some (v x) else None)
          which (inl t) = rw t.0 (ap Some (values k at-k.0 t.1 ∙ ap v (sym at-k.1)))
          which (inr t) = rw t.0 refl

  -- what group g holds
  act-gives : (a g now x : ℕ) → 1 ≤ g → g ≤ (domain_at s d).count → set_to x (active_settings d (after_act d g now s)) ≡ gives c x (activated a d g) before
  act-gives a g now x from to =
      ap (λ (m : Domained). set_to x (loadings d (active_place m) s.settings)) (at_set s.domains d d (act g now (domain_at s d)) no_domain there ∙ ap (λ b. if b then act g now (domain_at s d) else domain_at s d) (same-number d))
      ∙ given (g - 1) s.settings (λ y. stored c y before (group g)) (λ y. refl) h.apart (λ k below. refl)
      (λ k below is.
      let o = h.settings k below in
      let within : g - 1 < length (setting_at s k).groups = omega (arith, from, to, block.count, o.count, ap (λ e. (groups_of c e).count) is) in
      o.groups (g - 1) within ∙ ap (λ n. stored c (setting_at s k).attr before (group n)) (omega (arith, from)))
      x

  -- what the copy holds, where the active group was edited
  module _ (e : Edit) (is : (domain_at s d).edit ≡ Some e) where
    abbrev place : ℕ
    place = edit_place (domain_at s d)

    place-is : place ≡ e.group - 1
    place-is = ap (λ o. option_map_or (λ (y : Edit). y.group - 1) o 0) is

    edit-is : edit d before ≡ Some e
    edit-is = sym block.edit ∙ is

    in-range : (1 ≤ e.group) × (e.group ≤ (domain_at s d).count)
    in-range = subst (IsEdit (domain_at s d).count) is block.edited

    abbrev after : Settled → Settled
    after t = stored_in d place t

    after-attr : (t : Settled) → (after t).attr ≡ t.attr
    after-attr t = by (t.domain == d)
      where
        by : (b : Bool) → (if b then record t { groups = slice_set t.groups place t.copy } else t).attr ≡ t.attr
        by true = refl
        by false = refl

    after-domain : (t : Settled) → (after t).domain ≡ t.domain
    after-domain t = by (t.domain == d)
      where
        by : (b : Bool) → (if b then record t { groups = slice_set t.groups place t.copy } else t).domain ≡ t.domain
        by true = refl
        by false = refl

    places-after : (x : ℕ) (ts : List Settled) → place_in x (map after ts) ≡ place_in x ts
    places-after x [] = refl
    places-after x (t ∷ ts) = ap₂ (λ q o. if x == q then Some 0 else option_map suc o) (after-attr t) (places-after x ts)

    at-after : (k : ℕ) → k < length s.settings → slice_index_or (map after s.settings) k no_setting ≡ after (setting_at s k)
    at-after k below = get_or-map after s.settings k no_setting no_setting below

    confirm-gives : (a x : ℕ) → (e.group == (domain_at s d).active) ≡ true → set_to x (active_settings d (after_confirm d s)) ≡ gives c x (confirmed a d) before
    confirm-gives a x active_ =
        ap (λ (m : Domained). set_to x (loadings d (active_place m) (map after s.settings))) (at_set s.domains d d (unedited (domain_at s d)) no_domain there ∙ ap (λ b. if b then unedited (domain_at s d) else domain_at s d) (same-number d))
        ∙ (given ((domain_at s d).active - 1) (map after s.settings) (λ y. stored c y before copy) (λ y. places-after y s.settings)
        (λ j k lj lk q. h.apart j k (under j lj) (under k lk) (sym (attr-at j (under j lj)) ∙ (q ∙ attr-at k (under k lk))))
        (λ k below. ap (λ (t : Settled). t.domain) (at-after k below) ∙ after-domain (setting_at s k))
        (λ k below own_. value-at k below own_) x
        ∙ ap (λ b. if b then Some (stored c x before copy) else None) (sym (edited-told x)))
      where
        same : e.group ≡ (domain_at s d).active
        same = grind (arith, active_)

        under : (k : ℕ) → k < length (map after s.settings) → k < length s.settings
        under k below = omega (arith, below, length-map s.settings after)

        attr-at : (k : ℕ) → k < length s.settings → (slice_index_or (map after s.settings) k no_setting).attr ≡ (setting_at s k).attr
        attr-at k below = ap (λ (t : Settled). t.attr) (at-after k below) ∙ after-attr (setting_at s k)

        edited-told : (x : ℕ) → (is_setting_of c d x && is_edited d (active c d before) before) ≡ is_setting_of c d x
        edited-told x = ap (λ b. is_setting_of c d x && b) (ap (λ o. option_map_or (λ (y : Edit). y.group == active c d before) o false) edit-is ∙ (ap (λ n. e.group == n) (sym block.active) ∙ active_)) ∙ keeps (is_setting_of c d x)
          where
            keeps : (b : Bool) → (b && true) ≡ b
            keeps true = refl
            keeps false = refl

        value-at : (k : ℕ) → k < length s.settings → (setting_at s k).domain ≡ d → (loading ((domain_at s d).active - 1) (slice_index_or (map after s.settings) k no_setting)).value ≡ stored c (setting_at s k).attr before copy
        value-at k below own_ =
            let t = setting_at s k in
            let o = h.settings k below in
            let i = (domain_at s d).active - 1 in
            let is-place : place ≡ i = place-is ∙ ap (λ n. n - 1) same in
            let within : i < length t.groups = omega (arith, in-range.0, in-range.1, same, block.count, o.count, ap (λ q. (groups_of c q).count) own_) in
            let test : (t.domain == d) ≡ true = ap (λ q. q == d) own_ ∙ same-number d in
            ap (λ (u : Settled). (slice_index_or u.groups i u.copy).value) (at-after k below ∙ ap (λ b. if b then record t { groups = slice_set t.groups place t.copy } else t) test)
            ∙ (ap (λ p. (slice_index_or (slice_set t.groups p t.copy) i t.copy).value) is-place
            ∙ (ap (λ (v : _). v.value) (at_set t.groups i i t.copy t.copy within ∙ ap (λ b. if b then t.copy else slice_index_or t.groups i t.copy) (same-number i))
            ∙ o.copy (ap (λ q. is_some (edit q before)) own_ ∙ ap is_some edit-is)))

    confirm-nothing : (a x : ℕ) → (e.group == (domain_at s d).active) ≡ false → None ≡ gives c x (confirmed a d) before
    confirm-nothing a x other_ = sym (ap (λ b. if is_setting_of c d x && b then Some (stored c x before copy) else None) (ap (λ o. option_map_or (λ (y : Edit). y.group == active c d before) o false) edit-is ∙ (ap (λ n. e.group == n) (sym block.active) ∙ other_))
        ∙ ap (λ b. if b then Some (stored c x before copy) else None) (and-false (is_setting_of c d x)))

  -- ---- by the component

  abbrev Gives : ℕ → SettingComp → Value → Bool → ℕ → ℕ → Type 0
  Gives a part v is_set now x = set_to x (if is_set then active_settings d (after_part d a part v now s) else []) ≡ gives c x (part_deed a d part v) before

  given-by-act : (a now x : ℕ) (v : Value) (b : Bool) → told true (act_answer (domain_at s d) v) ≡ Ok b → Gives a ActSG v b now x
  given-by-act a now x (kinds.Uint g) b is = let r = act-range (domain_at s d).count g b is in
      ap (λ t. set_to x (if t then active_settings d (after_act d g now s) else [])) r.2 ∙ act-gives a g now x r.0 r.1
  given-by-act a now x (kinds.Bool q) b is = cc
  given-by-act a now x (kinds.Int z) b is = cc
  given-by-act a now x (kinds.Bits bs) b is = cc
  given-by-act a now x (kinds.Time t) b is = cc
  given-by-act a now x (kinds.Stamp t) b is = cc
  given-by-act a now x (kinds.Text t) b is = cc
  given-by-act a now x (kinds.Octets o) b is = cc
  given-by-act a now x (kinds.Struct vs) b is = cc
  given-by-act a now x kinds.Other b is = cc

  given-by-edit : (a now x : ℕ) (v : Value) (b : Bool) → told false (edit_answer a (domain_at s d) v) ≡ Ok b → Gives a EditSG v b now x
  given-by-edit a now x (kinds.Uint g) b is = let r = edit-range a (domain_at s d).count g (domain_at s d).edit b is in
      ap (λ t. set_to x (if t then active_settings d (after_part d a EditSG (kinds.Uint g) now s) else [])) r.1
  given-by-edit a now x (kinds.Bool q) b is = cc
  given-by-edit a now x (kinds.Int z) b is = cc
  given-by-edit a now x (kinds.Bits bs) b is = cc
  given-by-edit a now x (kinds.Time t) b is = cc
  given-by-edit a now x (kinds.Stamp t) b is = cc
  given-by-edit a now x (kinds.Text t) b is = cc
  given-by-edit a now x (kinds.Octets o) b is = cc
  given-by-edit a now x (kinds.Struct vs) b is = cc
  given-by-edit a now x kinds.Other b is = cc

  confirmed-by : (a x : ℕ) (o : Option Edit) → (domain_at s d).edit ≡ o → is_some o ≡ true → (b : Bool) → b ≡ (option_map_or (λ (e : Edit). e.group) o 0 == (domain_at s d).active)
      → set_to x (if b then active_settings d (after_confirm d s) else []) ≡ gives c x (confirmed a d) before
  confirmed-by a x None is some_ b told_ = absurd (true≢false (sym some_))
  confirmed-by a x (Some e) is some_ true told_ = confirm-gives e is a x (sym told_)
  confirmed-by a x (Some e) is some_ false told_ = confirm-nothing e is a x (sym told_)

  given-by-confirm : (a now x : ℕ) (v : Value) (b : Bool) → stored_answer a (domain_at s d) v ≡ Ok b → Gives a CnfEdit v b now x
  given-by-confirm a now x (kinds.Bool true) b is = let r = confirm-held a (domain_at s d).edit (edit_number (domain_at s d) == (domain_at s d).active) b is in
      confirmed-by a x (domain_at s d).edit refl r.0 b r.1
  given-by-confirm a now x (kinds.Bool false) b is = let r = confirm-held a (domain_at s d).edit false b is in
      ap (λ t. set_to x (if t then active_settings d s else [])) r.1
  given-by-confirm a now x (kinds.Uint n) b is = cc
  given-by-confirm a now x (kinds.Int z) b is = cc
  given-by-confirm a now x (kinds.Bits bs) b is = cc
  given-by-confirm a now x (kinds.Time t) b is = cc
  given-by-confirm a now x (kinds.Stamp t) b is = cc
  given-by-confirm a now x (kinds.Text t) b is = cc
  given-by-confirm a now x (kinds.Octets o) b is = cc
  given-by-confirm a now x (kinds.Struct vs) b is = cc
  given-by-confirm a now x kinds.Other b is = cc

  pub part-gives : (a now x : ℕ) (part : SettingComp) (v : Value) (b : Bool) → part_answer a (domain_at s d) part v ≡ Ok b → Gives a part v b now x
  part-gives a now x NumOfSG v b is = cc
  part-gives a now x ActSG v b is = given-by-act a now x v b is
  part-gives a now x EditSG v b is = given-by-edit a now x v b is
  part-gives a now x CnfEdit v b is = given-by-confirm a now x v b is
  part-gives a now x LActTm v b is = cc
