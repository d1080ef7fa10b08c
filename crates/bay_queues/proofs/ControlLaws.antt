-- The controls of a bay are configured as they were, whatever comes of them.
use Rattle.std.proofs.Common.{◌≡◌, ℕ, zero, suc, List, [], ◌∷◌, length, map, refl, ap, sym, ◌∙◌}
use Rattle.std.specs.Prelude.{Option, None, Some, slice_set}
use Rattle.std.proofs.lemmas.List.{length-map}
use Rattle.bay_model.specs.Model.{Control, select, operate, cancel}
use Rattle.bay_model.specs.Points.{Deed, opened, lost, valued, finished, blocked, wrote, put, copied, activated, edited, confirmed, called, selected_control, answered, took, terminated, reported, nothing}
use Rattle.assoc_table.specs.declared.waiting.Waiting.{Waiting}
use Rattle.assoc_table.specs.declared.waiting.Waiting.TheVariants.{Reply, Termination}
use Rattle.control_core.specs.Controls.{ControlState, called_by, done, lost_by, selected_by, stopped, blocked_as}
use Rattle.control_core.specs.Tables.{Table, control_at, changed, after_deed}
use Rattle.bay_queues.specs.Queued.{configs}
use Rattle.bay_queues.specs.Taken.{table_left}

set-kept : (xs : List ControlState) (k : ℕ) (s : ControlState) → s.config ≡ (control_at xs k).config → map (λ (x : ControlState). x.config) (slice_set xs k s) ≡ map (λ (x : ControlState). x.config) xs
set-kept [] k s same = refl
set-kept (x ∷ xs) zero s same = ap (λ c. c ∷ map (λ (x : ControlState). x.config) xs) same
set-kept (x ∷ xs) (suc k) s same = ap (λ cs. x.config ∷ cs) (set-kept xs k s same)

configs-changed : (t : Table) (k : ℕ) (s : ControlState) → s.config ≡ (control_at t.controls k).config → configs (changed t k s) ≡ configs t
configs-changed t k s same = set-kept t.controls k s same

lost-kept : (a : ℕ) (xs : List ControlState) → map (λ (x : ControlState). x.config) (map (lost_by a) xs) ≡ map (λ (x : ControlState). x.config) xs
lost-kept a [] = refl
lost-kept a (x ∷ xs) = ap (λ cs. x.config ∷ cs) (lost-kept a xs)

pub configs-deed : (d : Deed) (t : Table) → configs (after_deed d t) ≡ configs t
configs-deed (selected_control a k) t = configs-changed t k (selected_by t.moment a None (control_at t.controls k)) refl
configs-deed (called a k select v) t = configs-changed t k (called_by t.moment select a v (control_at t.controls k)) refl
configs-deed (called a k operate v) t = configs-changed t k (called_by t.moment operate a v (control_at t.controls k)) refl
configs-deed (called a k cancel v) t = configs-changed t k (called_by t.moment cancel a v (control_at t.controls k)) refl
configs-deed (finished k good) t = configs-changed t k (done (control_at t.controls k)) refl
configs-deed (terminated a k) t = configs-changed t k (stopped (control_at t.controls k)) refl
configs-deed (blocked k flag) t = configs-changed t k (blocked_as flag (control_at t.controls k)) refl
configs-deed (lost a) t = lost-kept a t.controls
configs-deed (opened a o w size owner) t = refl
configs-deed (valued ss) t = refl
configs-deed (wrote a b comp v) t = refl
configs-deed (put a x v) t = refl
configs-deed (copied a x v) t = refl
configs-deed (activated a d g) t = refl
configs-deed (edited a d g) t = refl
configs-deed (confirmed a d) t = refl
configs-deed (answered a o ch) t = refl
configs-deed (took a) t = refl
configs-deed (reported a b i) t = refl
configs-deed nothing t = refl

-- when what waited longest is taken
pub configs-left : (w : Option Waiting) (t : Table) → configs (table_left w t) ≡ configs t
configs-left None t = refl
configs-left (Some (Reply output)) t = refl
configs-left (Some (Termination k good)) t = configs-changed t k.0 (stopped (control_at t.controls k.0)) refl

-- they are as many as are configured
pub control-count : (t : Table) (cs : List Control) → configs t ≡ cs → length t.controls ≡ length cs
control-count t cs are = sym (length-map t.controls (λ (s : ControlState). s.config)) ∙ ap (λ (l : List Control). length l) are
