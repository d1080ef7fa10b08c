-- The controls stand for the past, point by point.
use Rattle.std.proofs.Common.{◌≡◌, ◌≢◌, ◌<◌, ◌≤◌, ℕ, zero, suc, Bool, List, [], ◌∷◌, length, map, refl, sym, ap, ap₂, ◌∙◌, subst, arith, inl, inr, None, max}
use Rattle.std.specs.Prelude.{◌↔◌, slice_set, slice_get, unwrap_or}
use Rattle.std.proofs.lemmas.Bool.Decides.{eqb_tells}
use Rattle.std.proofs.lemmas.List.{get_or-set_same, get_or-set_other, length-set, length-map, get_or-map}
use Rattle.std.proofs.Math.Nat.{le-max_right, max-le}
use Rattle.list_laws.proofs.Places.{same-number as same, other-number as apart}
use Rattle.sv_base.specs.declared.value.Value.{Value}
use Rattle.bay_model.specs.Model.{Model, Control, Call, select, operate, cancel}
use Rattle.bay_model.specs.Points.{Deed, Point, Past, now, opened, lost, valued, finished, blocked, wrote, put, copied, activated, edited, confirmed, called, selected_control, answered, took, terminated, reported, nothing}
use Rattle.bay_model.specs.Calls.{Went, went, ComesTo}
use Rattle.bay_model.proofs.CallLaws.{calls_come_to_one}
use Rattle.bay_model.specs.Singles.{arrival}
use Rattle.control_core.specs.Controls.{ControlState, idle, went_at, selected_by, called_by, done, lost_by, stopped, blocked_as}
use Rattle.control_core.specs.Tables.{Table, no_control, control_at, changed, opened_of, at_moment, after_deed}
use Rattle.control_core.specs.Standing.{Stands, at_past, point_of}

-- one control is another, the others stand as before
moved : (c : Model) (k : ℕ) (s : ControlState) (n m : ℕ) (d : Deed) (before : Past) (t : Table) → Stands t c (arrival n m ∷ before)
    → (k < length c.controls → s ≡ at_past c k (point_of n m d ∷ before))
    → ((e : ℕ) → e ≢ k → at_past c e (arrival n m ∷ before) ≡ at_past c e (point_of n m d ∷ before))
    → Stands (changed t k s) c (point_of n m d ∷ before)
moved c k s n m d before t h here others = record {
  moment = h.moment;
  count = length-set t.controls k s ∙ h.count;
  each = λ e below. elim (eqb_tells e k) [
    | inl is ↦ subst (λ i. control_at (slice_set t.controls k s) i ≡ at_past c i (point_of n m d ∷ before)) (sym is.1)
        (get_or-set_same t.controls k s (idle no_control) (omega (arith, h.count, below, is.1)) ∙ here (omega (arith, below, is.1)))
    | inr not ↦ get_or-set_other t.controls k e s (idle no_control) not.1 ∙ (h.each e below ∙ others e not.1)
  ];
}

-- a deed that concerns no control
stays : (c : Model) (n m : ℕ) (d : Deed) (before : Past) (t : Table) → Stands t c (arrival n m ∷ before)
    → ((k : ℕ) → at_past c k (arrival n m ∷ before) ≡ at_past c k (point_of n m d ∷ before))
    → Stands t c (point_of n m d ∷ before)
stays c n m d before t h same = record { moment = h.moment; count = h.count; each = λ k below. h.each k below ∙ same k }

pub stands-arrival : (c : Model) (n m : ℕ) (before : Past) (t : Table) → Stands t c before → Stands (at_moment (now (arrival n m ∷ before)) t) c (arrival n m ∷ before)
stands-arrival c n m before t h = record { moment = refl; count = h.count; each = h.each }

no-later : (a b : ℕ) → a ≤ b → b ≡ max a b
no-later a b h = omega (arith, h, le-max_right a b, max-le {a = a} {b = b} {k = b} h (omega arith))

pub stands-again : (c : Model) (n m : ℕ) (q : Point) (before : Past) (t : Table) → m ≤ now (q ∷ before) → Stands t c (q ∷ before) → Stands t c (arrival n m ∷ q ∷ before)
stands-again c n m q before t later h = record { moment = h.moment ∙ no-later m (now (q ∷ before)) later; count = h.count; each = h.each }

idle-at : (cs : List Control) (k : ℕ) → control_at (map idle cs) k ≡ idle (unwrap_or (slice_get cs k) no_control)
idle-at [] k = refl
idle-at (c ∷ cs) zero = refl
idle-at (c ∷ cs) (suc k) = idle-at cs k

pub stands-opened : (c : Model) → Stands (opened_of c.controls) c []
stands-opened c = record { moment = refl; count = length-map c.controls idle; each = λ k below. idle-at c.controls k }

-- what a deed of control k makes of it
selects : (c : Model) (a k n m : ℕ) (before : Past) → selected_by (now (arrival n m ∷ before)) a None (at_past c k (arrival n m ∷ before)) ≡ at_past c k (point_of n m (selected_control a k) ∷ before)
selects c a k n m before = rw same refl

calls : (c : Model) (a k n m : ℕ) (call : Call) (v : Value) (before : Past) → called_by (now (arrival n m ∷ before)) call a v (at_past c k (arrival n m ∷ before)) ≡ at_past c k (point_of n m (called a k call v) ∷ before)
calls c a k n m select v before = rw same refl
calls c a k n m operate v before = rw same refl
calls c a k n m cancel v before = rw same refl

finishes : (c : Model) (k n m : ℕ) (good : Bool) (before : Past) → done (at_past c k (arrival n m ∷ before)) ≡ at_past c k (point_of n m (finished k good) ∷ before)
finishes c k n m good before = rw same refl

blocks : (c : Model) (k n m : ℕ) (flag : Bool) (before : Past) → blocked_as flag (at_past c k (arrival n m ∷ before)) ≡ at_past c k (point_of n m (blocked k flag) ∷ before)
blocks c k n m flag before = rw same refl

stops : (c : Model) (a k n m : ℕ) (before : Past) → stopped (at_past c k (arrival n m ∷ before)) ≡ at_past c k (point_of n m (terminated a k) ∷ before)
stops c a k n m before = rw same refl

call-leaves : (c : Model) (a k n m : ℕ) (call : Call) (v : Value) (before : Past) (e : ℕ) → e ≢ k → at_past c e (arrival n m ∷ before) ≡ at_past c e (point_of n m (called a k call v) ∷ before)
call-leaves c a k n m select v before e h = rw (apart k e h) refl
call-leaves c a k n m operate v before e h = rw (apart k e h) refl
call-leaves c a k n m cancel v before e h = rw (apart k e h) refl

lost-at : (a : ℕ) (rows : List ControlState) (k : ℕ) → k < length rows → control_at (map (lost_by a) rows) k ≡ lost_by a (control_at rows k)
lost-at a rows k below = get_or-map (lost_by a) rows k (idle no_control) (idle no_control) below

pub stands-deed : (c : Model) (n m : ℕ) (d : Deed) (before : Past) (t : Table) → Stands t c (arrival n m ∷ before) → Stands (after_deed d t) c (point_of n m d ∷ before)
stands-deed c n m (selected_control a k) before t h = moved c k (selected_by t.moment a None (control_at t.controls k)) n m (selected_control a k) before t h
    (λ below. ap₂ (λ w s. selected_by w a None s) h.moment (h.each k below) ∙ selects c a k n m before) (λ e not. rw (apart k e not) refl)
stands-deed c n m (called a k call v) before t h = moved c k (called_by t.moment call a v (control_at t.controls k)) n m (called a k call v) before t h
    (λ below. ap₂ (λ w s. called_by w call a v s) h.moment (h.each k below) ∙ calls c a k n m call v before) (call-leaves c a k n m call v before)
stands-deed c n m (finished k good) before t h = moved c k (done (control_at t.controls k)) n m (finished k good) before t h
    (λ below. ap done (h.each k below) ∙ finishes c k n m good before) (λ e not. rw (apart k e not) refl)
stands-deed c n m (terminated a k) before t h = moved c k (stopped (control_at t.controls k)) n m (terminated a k) before t h
    (λ below. ap stopped (h.each k below) ∙ stops c a k n m before) (λ e not. rw (apart k e not) refl)
stands-deed c n m (blocked k flag) before t h = moved c k (blocked_as flag (control_at t.controls k)) n m (blocked k flag) before t h
    (λ below. ap (blocked_as flag) (h.each k below) ∙ blocks c k n m flag before) (λ e not. rw (apart k e not) refl)
stands-deed c n m (lost a) before t h = record {
  moment = h.moment;
  count = length-map t.controls (lost_by a) ∙ h.count;
  each = λ k below. lost-at a t.controls k (omega (arith, h.count, below)) ∙ ap (lost_by a) (h.each k below);
}
stands-deed c n m (opened a o w size owner) before t h = stays c n m (opened a o w size owner) before t h (λ k. refl)
stands-deed c n m (valued ss) before t h = stays c n m (valued ss) before t h (λ k. refl)
stands-deed c n m (wrote a b comp v) before t h = stays c n m (wrote a b comp v) before t h (λ k. refl)
stands-deed c n m (put a x v) before t h = stays c n m (put a x v) before t h (λ k. refl)
stands-deed c n m (copied a x v) before t h = stays c n m (copied a x v) before t h (λ k. refl)
stands-deed c n m (activated a d g) before t h = stays c n m (activated a d g) before t h (λ k. refl)
stands-deed c n m (edited a d g) before t h = stays c n m (edited a d g) before t h (λ k. refl)
stands-deed c n m (confirmed a d) before t h = stays c n m (confirmed a d) before t h (λ k. refl)
stands-deed c n m (answered a o ch) before t h = stays c n m (answered a o ch) before t h (λ k. refl)
stands-deed c n m (took a) before t h = stays c n m (took a) before t h (λ k. refl)
stands-deed c n m (reported a b i) before t h = stays c n m (reported a b i) before t h (λ k. refl)
stands-deed c n m nothing before t h = stays c n m nothing before t h (λ k. refl)

-- ---- what a call comes to

went-stands : (c : Model) (k : ℕ) (call : Call) (a : ℕ) (v : Value) (past : Past) (t : Table) → Stands t c past → k < length c.controls → went_at t.moment call a v (control_at t.controls k) ≡ went c k call a v past
went-stands c k call a v past t h below = ap₂ (λ m s. went_at m call a v s) h.moment (h.each k below) ∙ by call where
  by : (call : Call) → went_at (now past) call a v (at_past c k past) ≡ went c k call a v past
  by select = refl
  by operate = refl
  by cancel = refl

pub comes-to_one : (c : Model) (k : ℕ) (call : Call) (a : ℕ) (v : Value) (past : Past) (t : Table) (r : Went) → Stands t c past → k < length c.controls
    → ComesTo c k call a v past r ↔ (r ≡ went_at t.moment call a v (control_at t.controls k))
comes-to_one c k call a v past t r h below = subst (λ w. ComesTo c k call a v past r ↔ (r ≡ w)) (sym (went-stands c k call a v past t h below)) (calls_come_to_one c k call a v past r)
