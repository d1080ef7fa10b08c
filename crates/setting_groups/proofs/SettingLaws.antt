-- The values go as the history goes.
use Rattle.std.proofs.Common.{◌≡◌, ◌≢◌, ◌≤◌, ◌<◌, ◌-◌, ℕ, suc, Bool, true, false, not, List, ◌∷◌, length, map, refl, sym, ap, subst, ◌∙◌, arith, ◌⊎◌, inl, inr, Option, None, Some, is_some, slice_index_or, slice_set, true≢false}
use Rattle.std.specs.Prelude.{◌==◌, ◌&&◌, nat_lt, if◌then◌else◌}
use Rattle.std.specs.Option.{option_map_or}
use Rattle.std.proofs.lemmas.Bool.Decides.{eqb_tells, leb_tells}
use Rattle.std.proofs.lemmas.List.{get_or-map, length-map, length-set}
use Rattle.sv_base.specs.declared.value.Value.{Value}
use Rattle.bay_model.specs.Model.{Model}
use Rattle.bay_model.specs.Lookups.{attr_of, groups_of}
use Rattle.bay_model.specs.Points.{Past, Point, edited as edited_deed, confirmed, copied as copied_deed}
use Rattle.bay_rooms.specs.Slots.{Held}
use Rattle.bay_model.specs.Settings.{Edit, edit, stored, group, is_edited}
use Rattle.setting_groups.specs.Grouped.{Domained, Settled, Grouped, domain_at, setting_at, no_domain, no_setting, loaded, stored_in, copied, after_edit, after_copy, after_confirm, edit_place}
use Rattle.setting_groups.specs.Standing.{Stands, StandsBlock, StandsSetting, IsEdit, at}
use Rattle.list_laws.proofs.Places.{at_own, at_any, at_set, swap-number, suc_suc, equal-number}
use Rattle.setting_groups.proofs.BlockLaws.{edit_block, confirm_block}

-- each setting is changed in what it holds alone
pub record Keeps (f : Settled → Settled) : Type 0 where
  pub attr : (t : Settled) → (f t).attr ≡ t.attr
  pub domain : (t : Settled) → (f t).domain ≡ t.domain

pub mapped : (c : Model) (before : Past) (p : Point) (s : Grouped) (h : Stands s c before) (f : Settled → Settled) → Keeps f → (ds : List Domained) → length ds ≡ length s.domains
    → ((e : ℕ) → e < length s.domains → 0 < (groups_of c e).count → StandsBlock (slice_index_or ds e no_domain) c e (p ∷ before))
    → ((k : ℕ) → k < length s.settings → StandsSetting (f (setting_at s k)) c (p ∷ before))
    → Stands (record { domains = ds; settings = map f s.settings }) c (p ∷ before)
mapped c before p s h f keeps ds same blocks settings = record {
  blocks = λ e within. blocks e (omega (arith, within, same));
  settings = λ k within. subst (λ (t : Settled). StandsSetting t c (p ∷ before)) (sym (here k (there k within))) (settings k (there k within));
  within = λ k within. omega (arith, same, h.within k (there k within), ap (λ (t : Settled). t.domain) (here k (there k within)), keeps.domain (setting_at s k));
  grouped = λ k within. omega (arith, h.grouped k (there k within), ap (λ (t : Settled). (groups_of c t.domain).count) (here k (there k within)), ap (λ d. (groups_of c d).count) (keeps.domain (setting_at s k)));
  apart = λ j k lj lk e. h.apart j k (there j lj) (there k lk) (sym (own j (there j lj)) ∙ (e ∙ own k (there k lk)));
}
  where
    here : (k : ℕ) → k < length s.settings → slice_index_or (map f s.settings) k no_setting ≡ f (setting_at s k)
    here k below = get_or-map f s.settings k no_setting no_setting below

    there : (k : ℕ) → k < length (map f s.settings) → k < length s.settings
    there k below = omega (arith, below, length-map s.settings f)

    own : (k : ℕ) → k < length s.settings → (slice_index_or (map f s.settings) k no_setting).attr ≡ (setting_at s k).attr
    own k below = ap (λ (t : Settled). t.attr) (here k below) ∙ keeps.attr (setting_at s k)

-- the same settings
pub as_they_were : (c : Model) (before : Past) (p : Point) (s : Grouped) (h : Stands s c before) → (ds : List Domained) → length ds ≡ length s.domains
    → ((e : ℕ) → e < length s.domains → 0 < (groups_of c e).count → StandsBlock (slice_index_or ds e no_domain) c e (p ∷ before))
    → ((k : ℕ) → k < length s.settings → StandsSetting (setting_at s k) c (p ∷ before))
    → Stands (record { domains = ds; settings = s.settings }) c (p ∷ before)
as_they_were c before p s h ds same blocks settings = record {
  blocks = λ e within. blocks e (omega (arith, within, same));
  settings = settings;
  within = λ k within. omega (arith, same, h.within k within);
  grouped = h.grouped;
  apart = h.apart;
}

if_keeps : (b : Bool) (t u : Settled) → u.attr ≡ t.attr → u.domain ≡ t.domain → ((if b then u else t).attr ≡ t.attr) × ((if b then u else t).domain ≡ t.domain)
if_keeps true t u a d = (a, d)
if_keeps false t u a d = (refl, refl)

pub loaded_keeps : (d i : ℕ) → Keeps (loaded d i)
loaded_keeps d i = record {
  attr = λ t. (if_keeps (t.domain == d) t (record t { copy = slice_index_or t.groups i t.copy }) refl refl).0;
  domain = λ t. (if_keeps (t.domain == d) t (record t { copy = slice_index_or t.groups i t.copy }) refl refl).1;
}

and_no : (b : Bool) (v w : Value) → (if b && false then v else w) ≡ w
and_no true v w = refl
and_no false v w = refl

above_zero : (g : ℕ) → g ≢ 0 → nat_lt 0 g ≡ true
above_zero g h = elim (leb_tells 1 g) [ inl t ↦ t.0 | inr t ↦ absurd (omega (arith, t.1, h)) ]

kind_by : (b : Bool) (x y : Held) → x.kind ≡ y.kind → (if b then y else x).kind ≡ y.kind
kind_by true x y e = refl
kind_by false x y e = e

pub stored_keeps : (d i : ℕ) → Keeps (stored_in d i)
stored_keeps d i = record {
  attr = λ t. (if_keeps (t.domain == d) t (record t { groups = slice_set t.groups i t.copy }) refl refl).0;
  domain = λ t. (if_keeps (t.domain == d) t (record t { groups = slice_set t.groups i t.copy }) refl refl).1;
}

-- one setting is changed in what it holds alone
pub one_set : (c : Model) (before : Past) (p : Point) (s : Grouped) (h : Stands s c before) (f : Settled → Settled) → Keeps f → (k : ℕ) → k < length s.settings
    → ((e : ℕ) → e < length s.domains → 0 < (groups_of c e).count → StandsBlock (domain_at s e) c e (p ∷ before))
    → ((j : ℕ) → j < length s.settings → StandsSetting (if k == j then f (setting_at s j) else setting_at s j) c (p ∷ before))
    → Stands (record s { settings = slice_set s.settings k (f (setting_at s k)) }) c (p ∷ before)
one_set c before p s h f keeps k below blocks settings = record {
  blocks = blocks;
  settings = λ j within. subst (λ (t : Settled). StandsSetting t c (p ∷ before)) (sym (here j)) (settings j (there j within));
  within = λ j within. subst (λ d. d < length s.domains) (sym (own j).1) (h.within j (there j within));
  grouped = λ j within. subst (λ d. 0 < (groups_of c d).count) (sym (own j).1) (h.grouped j (there j within));
  apart = λ i j li lj e. h.apart i j (there i li) (there j lj) (sym (own i).0 ∙ (e ∙ (own j).0));
}
  where
    new : List Settled
    new = slice_set s.settings k (f (setting_at s k))

    here : (j : ℕ) → slice_index_or new j no_setting ≡ (if k == j then f (setting_at s j) else setting_at s j)
    here j = at_own f s.settings k j no_setting below

    there : (j : ℕ) → j < length new → j < length s.settings
    there j within = omega (arith, within, length-set s.settings k (f (setting_at s k)))

    own : (j : ℕ) → ((slice_index_or new j no_setting).attr ≡ (setting_at s j).attr) × ((slice_index_or new j no_setting).domain ≡ (setting_at s j).domain)
    own j = let kept = if_keeps (k == j) (setting_at s j) (f (setting_at s j)) (keeps.attr (setting_at s j)) (keeps.domain (setting_at s j)) in
        (ap (λ (t : Settled). t.attr) (here j) ∙ kept.0, ap (λ (t : Settled). t.domain) (here j) ∙ kept.1)

copied_keeps : (v : Value) → Keeps (copied v)
copied_keeps v = record { attr = λ t. refl; domain = λ t. refl }

module _ (c : Model) (before : Past) (n m : ℕ) (s : Grouped) (h : Stands s c before) where
  module _ (t : Settled) (o : StandsSetting t c before) (a d : ℕ) where
    -- the domain of the setting by its number, as the model tests it
    tested : (b : Bool) → (t.domain == d) ≡ b → (d == (attr_of c t.attr).domain) ≡ b
    tested b is = ap (λ x. d == x) (sym o.domain) ∙ (swap-number d t.domain ∙ is)

    untested : (b : Bool) → (t.domain == d) ≡ b → (d == t.domain) ≡ b
    untested b is = swap-number d t.domain ∙ is

    edit_other : (g : ℕ) → (t.domain == d) ≡ false → StandsSetting t c (at n m (edited_deed a d g) ∷ before)
    edit_other g not = record {
      domain = o.domain;
      access = o.access;
      count = o.count;
      kind = o.kind;
      kinds = o.kinds;
      groups = o.groups;
      copy = rw (untested false not, tested false not) o.copy;
    }

    edit_none : (t.domain == d) ≡ true → StandsSetting t c (at n m (edited_deed a d 0) ∷ before)
    edit_none is = record {
      domain = o.domain;
      access = o.access;
      count = o.count;
      kind = o.kind;
      kinds = o.kinds;
      groups = o.groups;
      copy = rw (untested true is) (λ some. absurd (true≢false (sym some)));
    }

    edit_this : (g : ℕ) → g ≢ 0 → g ≤ (groups_of c t.domain).count → (t.domain == d) ≡ true
        → StandsSetting (record t { copy = slice_index_or t.groups (g - 1) t.copy }) c (at n m (edited_deed a d g) ∷ before)
    edit_this g some to is =
        let there : g - 1 < length t.groups = omega (arith, some, to, o.count) in
        let next : suc (g - 1) ≡ g = omega (arith, some) in
        record {
          domain = o.domain;
          access = o.access;
          count = o.count;
          kind = o.kinds (g - 1) there ∙ o.kind;
          kinds = λ i below. ap (λ (v : _). v.kind) (at_any t.groups i (slice_index_or t.groups (g - 1) t.copy) t.copy below) ∙ (o.kinds i below ∙ sym (o.kinds (g - 1) there));
          groups = λ i below. ap (λ (v : _). v.value) (at_any t.groups i (slice_index_or t.groups (g - 1) t.copy) t.copy below) ∙ o.groups i below;
          copy = rw (tested true is, above_zero g some) (λ h. o.groups (g - 1) there ∙ ap (λ k. stored c t.attr before (group k)) next);
        }

  pub edits : (a d g : ℕ) → d < length s.domains → g ≤ (groups_of c d).count → Stands (after_edit d a g s) c (at n m (edited_deed a d g) ∷ before)
  edits a d g there to = by (eqb_tells g 0)
    where
      blocks : (e : ℕ) → e < length s.domains → 0 < (groups_of c e).count → StandsBlock (domain_at (after_edit d a g s) e) c e (at n m (edited_deed a d g) ∷ before)
      blocks e within some = edit_block c before n m s h e within some a d g there to

      with_settings : List Settled → Type 0
      with_settings ss = Stands (record { domains = (after_edit d a g s).domains; settings = ss }) c (at n m (edited_deed a d g) ∷ before)

      not_edited : (t : Settled) → StandsSetting t c before → g ≡ 0 → ((t.domain == d) ≡ true) × (t.domain ≡ d) ⊎ ((t.domain == d) ≡ false) × (t.domain ≢ d) → StandsSetting t c (at n m (edited_deed a d g) ∷ before)
      not_edited t o z (inl u) = subst (λ x. StandsSetting t c (at n m (edited_deed a d x) ∷ before)) (sym z) (edit_none t o a d u.0)
      not_edited t o z (inr u) = edit_other t o a d g u.0

      is_loaded : (t : Settled) → StandsSetting t c before → g ≢ 0 → ((t.domain == d) ≡ true) × (t.domain ≡ d) ⊎ ((t.domain == d) ≡ false) × (t.domain ≢ d) → StandsSetting (loaded d (g - 1) t) c (at n m (edited_deed a d g) ∷ before)
      is_loaded t o some (inl u) = rw u.0 (edit_this t o a d g some (omega (arith, to, ap (λ x. (groups_of c x).count) u.1)) u.0)
      is_loaded t o some (inr u) = rw u.0 (edit_other t o a d g u.0)

      by : ((g == 0) ≡ true) × (g ≡ 0) ⊎ ((g == 0) ≡ false) × (g ≢ 0) → Stands (after_edit d a g s) c (at n m (edited_deed a d g) ∷ before)
      by (inl z) = subst with_settings (sym (ap (λ b. if b then s.settings else map (loaded d (g - 1)) s.settings) z.0)) (as_they_were c before (at n m (edited_deed a d g)) s h _ (length-set s.domains d _) blocks (λ k within. not_edited (setting_at s k) (h.settings k within) z.1 (eqb_tells (setting_at s k).domain d)))
      by (inr z) = subst with_settings (sym (ap (λ b. if b then s.settings else map (loaded d (g - 1)) s.settings) z.0)) (mapped c before (at n m (edited_deed a d g)) s h (loaded d (g - 1)) (loaded_keeps d (g - 1)) _ (length-set s.domains d _) blocks (λ k within. is_loaded (setting_at s k) (h.settings k within) z.1 (eqb_tells (setting_at s k).domain d)))

  -- ---- a write into the copy

  copied_setting : (a k j : ℕ) (v : Value) → k < length s.settings → j < length s.settings → ((k == j) ≡ true) × (k ≡ j) ⊎ ((k == j) ≡ false) × (k ≢ j)
      → StandsSetting (if k == j then copied v (setting_at s j) else setting_at s j) c (at n m (copied_deed a (setting_at s k).attr v) ∷ before)
  copied_setting a k j v lk lj (inl t) =
      let o = h.settings j lj in
      let same : ((setting_at s k).attr == (setting_at s j).attr) ≡ true = equal-number _ _ (ap (λ i. (setting_at s i).attr) t.1) in
      rw t.0 (record {
        domain = o.domain;
        access = o.access;
        count = o.count;
        kind = o.kind;
        kinds = λ i below. ap (λ (x : _). x.kind) (at_any (setting_at s j).groups i _ (setting_at s j).copy below) ∙ o.kinds i below;
        groups = λ i below. ap (λ (x : _). x.value) (at_any (setting_at s j).groups i _ (setting_at s j).copy below) ∙ o.groups i below;
        copy = rw same (λ some. refl);
      })
  copied_setting a k j v lk lj (inr t) =
      let o = h.settings j lj in
      let other : ((setting_at s k).attr == (setting_at s j).attr) ≡ false = elim (eqb_tells (setting_at s k).attr (setting_at s j).attr) [ inl u ↦ absurd (t.1 (h.apart k j lk lj u.1)) | inr u ↦ u.0 ] in
      rw t.0 (record { domain = o.domain; access = o.access; count = o.count; kind = o.kind; kinds = o.kinds; groups = o.groups; copy = rw other o.copy })

  pub copies : (a k : ℕ) (v : Value) → k < length s.settings → Stands (after_copy k v s) c (at n m (copied_deed a (setting_at s k).attr v) ∷ before)
  copies a k v below = one_set c before (at n m (copied_deed a (setting_at s k).attr v)) s h (copied v) (copied_keeps v) k below
      (λ e within some. let was = h.blocks e within some in record { count = was.count; active = was.active; edit = was.edit; last = was.last; from = was.from; to = was.to; edited = was.edited })
      (λ j within. copied_setting a k j v below within (eqb_tells k j))

  -- ---- the copy is stored

  module _ (t : Settled) (o : StandsSetting t c before) (a d : ℕ) where
    confirm_other : (t.domain == d) ≡ false → StandsSetting t c (at n m (confirmed a d) ∷ before)
    confirm_other not = record {
      domain = o.domain;
      access = o.access;
      count = o.count;
      kind = o.kind;
      kinds = o.kinds;
      groups = λ i below. rw (tested t o a d false not) (o.groups i below);
      copy = rw (untested t o a d false not) o.copy;
    }

    confirm_this : (e : Edit) → edit d before ≡ Some e → 1 ≤ e.group → e.group ≤ length t.groups → (t.domain == d) ≡ true → t.domain ≡ d
        → StandsSetting (record t { groups = slice_set t.groups (e.group - 1) t.copy }) c (at n m (confirmed a d) ∷ before)
    confirm_this e is_edit from to is same = record {
      domain = o.domain;
      access = o.access;
      count = length-set t.groups (e.group - 1) t.copy ∙ o.count;
      kind = o.kind;
      kinds = λ j below. ap (λ (x : _). x.kind) (at_set t.groups (e.group - 1) j t.copy t.copy (omega (arith, from, to))) ∙ kind_by (e.group - 1 == j) (slice_index_or t.groups j t.copy) t.copy (o.kinds j (omega (arith, below, length-set t.groups (e.group - 1) t.copy)));
      groups = λ j below. ap (λ (x : _). x.value) (at_set t.groups (e.group - 1) j t.copy t.copy (omega (arith, from, to))) ∙ by j (omega (arith, below, length-set t.groups (e.group - 1) t.copy)) (eqb_tells (e.group - 1) j);
      copy = rw (untested t o a d true is) (λ some. absurd (true≢false (sym some)));
    }
      where
        edited_test : (j : ℕ) (b : Bool) → (e.group - 1 == j) ≡ b → is_edited d (suc j) before ≡ b
        edited_test j b test = let next : e.group ≡ suc (e.group - 1) = omega (arith, from) in
            ap (λ x. option_map_or (λ (y : Edit). y.group == suc j) x false) is_edit ∙ (ap (λ g. g == suc j) next ∙ (suc_suc (e.group - 1) j ∙ test))

        some_edit : is_some (edit t.domain before) ≡ true
        some_edit = ap (λ x. is_some (edit x before)) same ∙ ap is_some is_edit

        by : (j : ℕ) → j < length t.groups → ((e.group - 1 == j) ≡ true) × (e.group - 1 ≡ j) ⊎ ((e.group - 1 == j) ≡ false) × (e.group - 1 ≢ j)
            → (if e.group - 1 == j then t.copy else slice_index_or t.groups j t.copy).value ≡ stored c t.attr (at n m (confirmed a d) ∷ before) (group (suc j))
        by j below (inl u) = rw (u.0, tested t o a d true is, edited_test j true u.0) (o.copy some_edit)
        by j below (inr u) = rw (u.0, tested t o a d true is, edited_test j false u.0) (o.groups j below)

  pub confirms : (a d : ℕ) → d < length s.domains → is_some (edit d before) ≡ true → Stands (after_confirm d s) c (at n m (confirmed a d) ∷ before)
  confirms a d there some = mapped c before (at n m (confirmed a d)) s h (stored_in d (edit_place (domain_at s d))) (stored_keeps d (edit_place (domain_at s d))) _ (length-set s.domains d _)
      (λ e within are. confirm_block c before n m s h e within are a d there)
      (λ k within. by k within (h.settings k within) (eqb_tells (setting_at s k).domain d))
    where
      this : (t : Settled) → StandsSetting t c before → (o : Option Edit) → edit d before ≡ o → is_some o ≡ true → StandsBlock (domain_at s d) c d before → (t.domain == d) ≡ true → t.domain ≡ d
          → StandsSetting (record t { groups = slice_set t.groups (edit_place (domain_at s d)) t.copy }) c (at n m (confirmed a d) ∷ before)
      this t o None is are block test same = absurd (true≢false (sym are))
      this t o (Some e) is are block test same =
          let own : (domain_at s d).edit ≡ Some e = block.edit ∙ is in
          let range : IsEdit (domain_at s d).count (Some e) = subst (IsEdit (domain_at s d).count) own block.edited in
          let place : edit_place (domain_at s d) ≡ e.group - 1 = ap (λ x. option_map_or (λ (y : Edit). y.group - 1) x 0) own in
          subst (λ i. StandsSetting (record t { groups = slice_set t.groups i t.copy }) c (at n m (confirmed a d) ∷ before)) (sym place)
          (confirm_this t o a d e is range.0 (omega (arith, range.1, block.count, o.count, ap (λ x. (groups_of c x).count) same)) test same)

      by : (k : ℕ) → k < length s.settings → StandsSetting (setting_at s k) c before → (((setting_at s k).domain == d) ≡ true) × ((setting_at s k).domain ≡ d) ⊎ (((setting_at s k).domain == d) ≡ false) × ((setting_at s k).domain ≢ d)
          → StandsSetting (stored_in d (edit_place (domain_at s d)) (setting_at s k)) c (at n m (confirmed a d) ∷ before)
      by k within o (inl t) = rw t.0 (this (setting_at s k) o (edit d before) refl some (h.blocks d there (omega (arith, h.grouped k within, ap (λ x. (groups_of c x).count) t.1))) t.0 t.1)
      by k within o (inr t) = rw t.0 (confirm_other (setting_at s k) o a d t.0)
