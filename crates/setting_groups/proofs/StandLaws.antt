-- The setting groups stand for an arrival, and for the point whose deed leaves them, chooses an active group or loses an association.
use Rattle.std.proofs.Common.{◌≡◌, ◌≤◌, ◌<◌, ℕ, Bool, true, false, ◌∷◌, length, refl, sym, ap, ◌∙◌, Option, None, is_some, true≢false}
use Rattle.std.specs.Prelude.{if◌then◌else◌}
use Rattle.std.proofs.lemmas.List.{length-set, length-map}
use Rattle.bay_model.specs.Model.{Model}
use Rattle.bay_model.specs.Lookups.{groups_of}
use Rattle.bay_model.specs.Points.{Deed, Point, Past, now, opened, lost, valued, finished, blocked, wrote, put, copied, activated, edited, confirmed, called, selected_control, answered, took, terminated, reported, nothing}
use Rattle.bay_model.specs.Settings.{Edit, Place, active, activation, edit, is_held_by, stored}
use Rattle.bay_model.specs.Singles.{arrival}
use Rattle.setting_groups.specs.Grouped.{Grouped, Settled, setting_at, after_act, after_loss, left_by}
use Rattle.setting_groups.specs.Standing.{Stands, StandsSetting, IsQuiet, at}
use Rattle.setting_groups.proofs.BlockLaws.{act_block, loss_block}
use Rattle.setting_groups.proofs.SettingLaws.{as_they_were}

-- a point that leaves all of them
pub record IsSame (c : Model) (p : Point) (before : Past) : Type 0 where
  pub active : (d : ℕ) → active c d (p ∷ before) ≡ active c d before
  pub activation : (d : ℕ) → activation d (p ∷ before) ≡ activation d before
  pub edit : (d : ℕ) → edit d (p ∷ before) ≡ edit d before
  pub stored : (x : ℕ) (place : Place) → stored c x (p ∷ before) place ≡ stored c x before place

quiet-same : (c : Model) (before : Past) (n m : ℕ) (d : Deed) → IsQuiet d → IsSame c (at n m d) before
quiet-same c before n m (opened a o w k owner) is = record { active = λ e. refl; activation = λ e. refl; edit = λ e. refl; stored = λ x place. refl }
quiet-same c before n m (lost a) is = absurd is
quiet-same c before n m (valued vs) is = absurd is
quiet-same c before n m (finished k b) is = record { active = λ e. refl; activation = λ e. refl; edit = λ e. refl; stored = λ x place. refl }
quiet-same c before n m (blocked k b) is = record { active = λ e. refl; activation = λ e. refl; edit = λ e. refl; stored = λ x place. refl }
quiet-same c before n m (wrote a b k v) is = record { active = λ e. refl; activation = λ e. refl; edit = λ e. refl; stored = λ x place. refl }
quiet-same c before n m (put a x v) is = record { active = λ e. refl; activation = λ e. refl; edit = λ e. refl; stored = λ y place. refl }
quiet-same c before n m (copied a x v) is = absurd is
quiet-same c before n m (activated a d g) is = absurd is
quiet-same c before n m (edited a d g) is = absurd is
quiet-same c before n m (confirmed a d) is = absurd is
quiet-same c before n m (called a k call v) is = record { active = λ e. refl; activation = λ e. refl; edit = λ e. refl; stored = λ x place. refl }
quiet-same c before n m (selected_control a k) is = record { active = λ e. refl; activation = λ e. refl; edit = λ e. refl; stored = λ x place. refl }
quiet-same c before n m (answered a o k) is = record { active = λ e. refl; activation = λ e. refl; edit = λ e. refl; stored = λ x place. refl }
quiet-same c before n m (took a) is = record { active = λ e. refl; activation = λ e. refl; edit = λ e. refl; stored = λ x place. refl }
quiet-same c before n m (terminated a k) is = record { active = λ e. refl; activation = λ e. refl; edit = λ e. refl; stored = λ x place. refl }
quiet-same c before n m (reported a b k) is = record { active = λ e. refl; activation = λ e. refl; edit = λ e. refl; stored = λ x place. refl }
quiet-same c before n m nothing is = record { active = λ e. refl; activation = λ e. refl; edit = λ e. refl; stored = λ x place. refl }

module _ (c : Model) (before : Past) (p : Point) where
  -- what a setting holds stays, and nobody begins to edit
  setting-same : (t : Settled) → ((x : ℕ) (place : Place) → stored c x (p ∷ before) place ≡ stored c x before place) → (is_some (edit t.domain (p ∷ before)) ≡ true → is_some (edit t.domain before) ≡ true)
      → StandsSetting t c before → StandsSetting t c (p ∷ before)
  setting-same t same still o = record {
    domain = o.domain;
    access = o.access;
    count = o.count;
    kind = o.kind;
    kinds = o.kinds;
    groups = λ i below. o.groups i below ∙ sym (same t.attr _);
    copy = λ some. o.copy (still some) ∙ sym (same t.attr _);
  }

  pub stands-same : (s : Grouped) → IsSame c p before → Stands s c before → Stands s c (p ∷ before)
  stands-same s same h = as_they_were c before p s h s.domains refl
      (λ e within some. let was = h.blocks e within some in record {
        count = was.count;
        active = was.active ∙ sym (same.active e);
        edit = was.edit ∙ sym (same.edit e);
        last = was.last ∙ sym (same.activation e);
        from = was.from;
        to = was.to;
        edited = was.edited;
      })
      (λ k within. setting-same (setting_at s k) same.stored (λ some. ap is_some (sym (same.edit (setting_at s k).domain)) ∙ some) (h.settings k within))

pub quiets : (c : Model) (before : Past) (n m : ℕ) (d : Deed) (s : Grouped) → IsQuiet d → Stands s c before → Stands s c (at n m d ∷ before)
quiets c before n m d s is = stands-same c before (at n m d) s (quiet-same c before n m d is)

pub arrives : (c : Model) (before : Past) (n m : ℕ) (s : Grouped) → Stands s c before → Stands s c (arrival n m ∷ before)
arrives c before n m s = quiets c before n m nothing s tt

-- and they stood for what was before an arrival
pub arrived : (c : Model) (before : Past) (n m : ℕ) (s : Grouped) → Stands s c (arrival n m ∷ before) → Stands s c before
arrived c before n m s h = record {
  blocks = λ e within some. let was = h.blocks e within some in record { count = was.count; active = was.active; edit = was.edit; last = was.last; from = was.from; to = was.to; edited = was.edited };
  settings = λ k within. let o = h.settings k within in record { domain = o.domain; access = o.access; count = o.count; kind = o.kind; kinds = o.kinds; groups = λ i below. o.groups i below; copy = λ some. o.copy some };
  within = h.within;
  grouped = h.grouped;
  apart = h.apart;
}

pub acts : (c : Model) (before : Past) (n m : ℕ) (s : Grouped) (h : Stands s c before) (a d g : ℕ) → d < length s.domains → 1 ≤ g → g ≤ (groups_of c d).count
    → Stands (after_act d g (now (at n m (activated a d g) ∷ before)) s) c (at n m (activated a d g) ∷ before)
acts c before n m s h a d g there from to = as_they_were c before (at n m (activated a d g)) s h _ (length-set s.domains d _)
    (λ e within some. act_block c before n m s h e within some a d g there from to)
    (λ k within. setting-same c before (at n m (activated a d g)) (setting_at s k) (λ x place. refl) (λ some. some) (h.settings k within))

pub loses : (c : Model) (before : Past) (n m : ℕ) (s : Grouped) (h : Stands s c before) (a : ℕ) → Stands (after_loss a s) c (at n m (lost a) ∷ before)
loses c before n m s h a = as_they_were c before (at n m (lost a)) s h _ (length-map s.domains (left_by a))
    (λ e within some. loss_block c before n m s h e within some a)
    (λ k within. setting-same c before (at n m (lost a)) (setting_at s k) (λ x place. refl) (still (edit (setting_at s k).domain before)) (h.settings k within))
  where
    still : (o : Option Edit) → is_some (if is_held_by a o then None else o) ≡ true → is_some o ≡ true
    still o = by (is_held_by a o)
      where
        by : (b : Bool) → is_some (if b then None else o) ≡ true → is_some o ≡ true
        by true some = absurd (true≢false (sym some))
        by false some = some
