-- A report block stands for each past: from a past to the arrival of the next point, from there to the point, and to a further
-- arrival.
use Rattle.std.proofs.Common.{◌≡◌, ◌≢◌, ◌≤◌, ◌⊎◌, inl, inr, ℕ, Bool, true, false, List, [], ◌∷◌, ◌++◌, map, refl, sym, subst, ap, ap₂, ◌∙◌, arith, append-nil}
use Rattle.std.specs.Prelude.{if◌then◌else◌, ◌==◌, ◌||◌, ◌&&◌, not, nat_lt, ◌-◌, ◌/◌, Option, None, Some, unwrap_or, max}
use Rattle.std.specs.Option.{option_map_or}
use Rattle.std.specs.List.{All, list_any}
use Rattle.std.proofs.lemmas.Bool.Decides.{eqb_tells}
use Rattle.std.proofs.lemmas.Grind.{common_steps}
use Rattle.std.proofs.lemmas.List.Elements.{All-append, All-nil, All-cons}
use Rattle.sv_base.specs.declared.value.Value.{Value}
use Rattle.sv_base.specs.declared.value.Value.TheVariants as kinds
use Rattle.sv_base.specs.declared.components.Comp.{Comp}
use Rattle.sv_base.specs.declared.components.Comp.TheVariants as comps
use Rattle.bay_model.specs.Model.{Model, Parameters}
use Rattle.bay_model.specs.Lookups.{block_of}
use Rattle.bay_model.specs.Points.{Deed, wrote, Point, Past, now}
use Rattle.bay_model.specs.Parameters.{parameters_at, written_to, is_changed_by, is_purging_change, is_interrogation, purges, bit}
use Rattle.bay_model.specs.Retained.{front}
use Rattle.bay_model.specs.Notes.{Kept, note, all_members, no_reason}
use Rattle.bay_model.specs.Breaks.{integrity, cuts, breaks, is_empty, is_period_over, origin}
use Rattle.bay_model.specs.Groups.{Event, event_of, if_open, shares, open_group}
use Rattle.bay_model.specs.Entries.{Entry, selected, closed_entry, integrity_entry, general_entry, own_entry}
use Rattle.bay_model.specs.Singles.{arrival}
use Rattle.bay_model.proofs.Again.{selected-again, open_group-again}
use Rattle.bay_model.proofs.OpenGroup.{open_group-quiet, open_group-event}
use Rattle.brcb_state.specs.Changes.{configured, written}
use Rattle.bay_model.specs.Associations.{address}
use Rattle.brcb_state.specs.Standing.{Stands as AttributesStand, after_deed, writers_address, OpensNoEnabler}
use Rattle.brcb_state.specs.declared.block.Block.{Block}
use Rattle.brcb_state.proofs.WriteLaws.{stands-arrived, stands-wrote, stands-written, stands-deed}
use Rattle.entry_ring.specs.Ringed.{Ringed, after_purge}
use Rattle.entry_ring.specs.Standing.{Holds, after_all, empty as empty_ring}
use Rattle.entry_ring.proofs.HoldLaws.{holds-opened, holds-point, holds-deed, holds-again}
use Rattle.window_core.specs.Pieces.{Piece}
use Rattle.window_core.specs.Windows.{Windowed, closed, after_time, over_at, empty as empty_window}
use Rattle.window_core.specs.Standing.{Stands as WindowStands, Body, bodies, body_of, piece_of}
use Rattle.window_core.specs.Points.{at, closed_then}
use Rattle.window_core.proofs.DeedLaws.{event-plain, event-same, unbroken-unchanged, unchanged}
use Rattle.window_core.proofs.GroupLaws.{entered, time, period, goes, event_comes, block_breaks, broken-none, stays, comes_again}
use Rattle.report_block.specs.declared.block.ReportBlock.{ReportBlock}
use Rattle.report_block.specs.Standing.{IsMemberKept, IsReadable, IsReadableEvent, origin_of, Stands}
use Rattle.report_block.specs.Coming.{after_bodies, purged_if, body_at, is_due, origin_after, arrived_if, arrived, Coming, closed_at, window_after, general_body, came, AreOf, IsComing}
use Rattle.report_block.proofs.BodyLaws.{bodies-all, bodies-append, body-of-all, time_entries, time-selected, deed_entries, deed-selected, readable-appended, readable-if, closed-readable, then-readable, own-readable, group-left}
use Rattle.list_laws.proofs.Truths.{or-left}
use Rattle.list_laws.proofs.Places.{same-unless}

-- ---- how it begins

pub opened : (c : Model) (b : ℕ) (part : ReportBlock) → part.block ≡ configured (block_of c b) → part.ring ≡ empty_ring (block_of c b).capacity
    → part.window ≡ empty_window part.window.members (block_of c b).initial.buf_tm → part.origin ≡ None → Stands part c b []
opened c b part block ring window none = record {
  block = subst (λ s. AttributesStand s c b []) (sym block) (record { reference = refl; options = refl; revision = refl; owner = refl; enabler = refl; reservation = refl; seconds = tt; cursor = refl; count = refl });
  ring = subst (λ r. Holds r c b []) (sym ring) (holds-opened c b);
  window = subst (λ w. WindowStands w c b []) (sym window) (record { buf_tm = refl; gathered = refl; timed = tt; at_once = λ z. refl });
  origin = λ off. none;
  readable = All-nil IsReadable;
  group = All-nil IsReadableEvent;
}

-- ---- whether an integrity period ended

never : (x y z w : Bool) → z ≡ true → (x && y && not z && w) ≡ false
never true true z w h = rw h refl
never true false z w h = refl
never false y z w h = refl

period-off : (o : Parameters) (x was moment : ℕ) → (o.intg_pd == 0) ≡ true → is_period_over o x was moment ≡ false
period-off o x was moment off = never (not (is_empty o.dat_set)) (bit 4 o.trg_ops) (o.intg_pd == 0) (nat_lt ((was - x) / o.intg_pd) ((moment - x) / o.intg_pd)) off

pub due-off : (x : Option ℕ) (o : Parameters) (was moment : ℕ) → (o.intg_pd == 0) ≡ true → option_map_or (λ k. is_period_over o k was moment) x false ≡ false
due-off None o was moment off = refl
due-off (Some k) o was moment off = period-off o k was moment off

pub integrity-off : (c : Model) (b m n : ℕ) (before : Past) → ((parameters_at c b before).intg_pd == 0) ≡ true → integrity c b (arrival n m) before ≡ false
integrity-off c b m n [] off = refl
integrity-off c b m n (q ∷ before) off = period-off (parameters_at c b (q ∷ before)) (origin c b (q ∷ before)) (now (q ∷ before)) (max m (now (q ∷ before))) off

pub idle : (was moment step : ℕ) (all : List Piece) (part : ReportBlock) → (part.block.options.intg_pd == 0) ≡ true → part.window.gathered ≡ None → arrived was moment step all part ≡ part
idle was moment step all part off none =
    ap (λ t. arrived_if t moment step all part) (due-off part.origin part.block.options was moment off)
    ∙ (ap₂ (λ t w. record part { window = w; origin = if t then part.origin else Some (unwrap_or part.origin moment); ring = after_bodies part.ring (body_of step (over_at moment part.window)) }) off (stays-empty part.window none)
    ∙ ap (λ r. record part { ring = r }) (brings-none part.window none))
  where
    stays-empty : (w : Windowed) → w.gathered ≡ None → after_time moment w ≡ w
    stays-empty w none = by w.gathered none where
      by : (g : _) → g ≡ None → after_time moment (record w { gathered = g }) ≡ record w { gathered = g }
      by None is = refl
      by (Some g) is = cc

    brings-none : (w : Windowed) → w.gathered ≡ None → after_bodies part.ring (body_of step (over_at moment w)) ≡ part.ring
    brings-none w none = by w.gathered none where
      by : (g : _) → g ≡ None → after_bodies part.ring (body_of step (over_at moment (record w { gathered = g }))) ≡ part.ring
      by None is = refl
      by (Some g) is = cc

-- ---- arrival

module _ (c : Model) (b m n : ℕ) (before : Past) (part : ReportBlock) (all : List Piece) (s : Stands part c b before) where
  pub due-told : is_due (now before) (max m (now before)) part ≡ integrity c b (arrival n m) before
  due-told = by ((parameters_at c b before).intg_pd == 0) refl
    where
      told : (past : Past) (x : Option ℕ) (o : Parameters) → x ≡ origin_of c b past → o ≡ parameters_at c b past → option_map_or (λ k. is_period_over o k (now past) (max m (now past))) x false ≡ integrity c b (arrival n m) past
      told [] x o h k = ap (λ y. option_map_or (λ k. is_period_over o k (now []) (max m (now []))) y false) h
      told (q ∷ past) x o h k = ap₂ (λ (y : Option ℕ) (p : Parameters). option_map_or (λ k. is_period_over p k (now (q ∷ past)) (max m (now (q ∷ past)))) y false) h k

      by : (t : Bool) → ((parameters_at c b before).intg_pd == 0) ≡ t → is_due (now before) (max m (now before)) part ≡ integrity c b (arrival n m) before
      by true off = due-off part.origin part.block.options (now before) (max m (now before)) (ap (λ (o : Parameters). o.intg_pd == 0) s.block.options ∙ off) ∙ sym (integrity-off c b m n before off)
      by false on = told before part.origin part.block.options (s.origin on) s.block.options

  arrived-origin : ((parameters_at c b before).intg_pd == 0) ≡ false → origin_after (max m (now before)) part ≡ origin_of c b (arrival n m ∷ before)
  arrived-origin on = ap (λ t. if t then part.origin else Some (unwrap_or part.origin (max m (now before)))) (ap (λ (o : Parameters). o.intg_pd == 0) s.block.options ∙ on)
      ∙ (ap (λ o. Some (unwrap_or o (max m (now before)))) (s.origin on) ∙ by before)
    where
      by : (past : Past) → Some (unwrap_or (origin_of c b past) (max m (now past))) ≡ origin_of c b (arrival n m ∷ past)
      by [] = refl
      by (q ∷ past) = refl

  arrived-with : (w : Windowed) (bs : List Body) → WindowStands w c b (arrival n m ∷ before) → bs ≡ bodies (time_entries c b m n before) → All IsReadable (integrity_entry c b (arrival n m) before)
      → Stands (record part { window = w; ring = after_bodies part.ring bs; origin = origin_after (max m (now before)) part }) c b (arrival n m ∷ before)
  arrived-with w bs window are readable = record {
    block = stands-arrived c b m n before part.block s.block;
    ring = subst (λ r. Holds r c b (arrival n m ∷ before)) (sym (bodies-all part.ring (time_entries c b m n before)) ∙ ap (after_bodies part.ring) (sym are))
        (holds-point c b (arrival n m) before part.ring (time_entries c b m n before) s.ring (time-selected c b m n before));
    window = window;
    origin = arrived-origin;
    readable = subst (All IsReadable) (sym (time-selected c b m n before)) (readable-appended (selected c b before) (time_entries c b m n before) s.readable
        (All-append IsReadable (closed_entry c b (arrival n m) before (open_group c b before)) (integrity_entry c b (arrival n m) before) (closed-readable c b (arrival n m) before (open_group c b before) s.group) readable));
    group = subst (All IsReadableEvent) (sym (open_group-quiet c b (arrival n m) before refl)) (group-left (breaks c b (arrival n m) before) (max m (now before)) (open_group c b before) s.group);
  }

  pub arrival-stands : (integrity c b (arrival n m) before ≡ true → AreOf all (all_members c b (record no_reason { intg = true }) before before))
      → Stands (arrived (now before) (max m (now before)) n all part) c b (arrival n m ∷ before)
  arrival-stands members = subst (λ t. Stands (arrived_if t (max m (now before)) n all part) c b (arrival n m ∷ before)) (sym due-told) (either (integrity c b (arrival n m) before) refl)
    where
      entry : Entry
      entry = record { moment = max m (now before); step = n; members = all_members c b (record no_reason { intg = true }) before before }

      either : (t : Bool) → integrity c b (arrival n m) before ≡ t → Stands (arrived_if t (max m (now before)) n all part) c b (arrival n m ∷ before)
      either true is =
          let w = period c b m n before part.window s.window is in
          let own : integrity_entry c b (arrival n m) before ≡ entry ∷ [] = ap (λ t. if t then entry ∷ [] else []) is in
          arrived-with (closed part.window) (body_of n part.window.gathered ++ body_at (max m (now before)) n all ∷ []) w.0
          (ap₂ (λ (xs ys : List Body). xs ++ ys) w.1 (body-of-all (max m (now before)) n all entry.members (members is).are ∙ ap bodies (sym own))
          ∙ sym (bodies-append (closed_entry c b (arrival n m) before (open_group c b before)) (integrity_entry c b (arrival n m) before)))
          (readable-if (integrity c b (arrival n m) before) entry (λ is. (members is).readable))
      either false is =
          let w = time c b m n before part.window s.window is in
          let own : integrity_entry c b (arrival n m) before ≡ [] = ap (λ t. if t then entry ∷ [] else []) is in
          arrived-with (after_time (max m (now before)) part.window) (body_of n (over_at (max m (now before)) part.window)) w.0
          (w.1 ∙ ap bodies (sym (append-nil (closed_entry c b (arrival n m) before (open_group c b before))) ∙ ap (λ es. closed_entry c b (arrival n m) before (open_group c b before) ++ es) (sym own)))
          (readable-if (integrity c b (arrival n m) before) entry (λ is. (members is).readable))

-- ---- the deed: the attributes

module _ (c : Model) (b m n : ℕ) (before : Past) (s : Block) where
  pub attributes-stand : (d : Deed) (here : ℕ) (owner : List ℕ) → here ≡ front c b (arrival n m ∷ before) → owner ≡ writers_address d before → OpensNoEnabler b d before
      → AttributesStand s c b (arrival n m ∷ before) → AttributesStand (after_deed b d here (max m (now before)) owner s) c b (at n m d ∷ before)
  attributes-stand (wrote a k comp v) here owner is from opens st = either (eqb_tells k b)
    where
      either : (((k == b) ≡ true) × (k ≡ b)) ⊎ (((k == b) ≡ false) × (k ≢ b)) → AttributesStand (after_deed b (wrote a k comp v) here (max m (now before)) owner s) c b (at n m (wrote a k comp v) ∷ before)
      either (inl t) = subst (λ u. AttributesStand (if u then written (record { 0 = a }) owner (max m (now before)) comp v here s else s) c b (at n m (wrote a k comp v) ∷ before)) (sym t.0)
          (subst (λ j. AttributesStand (written (record { 0 = a }) owner (max m (now before)) comp v here s) c b (at n m (wrote a j comp v) ∷ before)) (sym t.1)
          (subst (λ o. AttributesStand (written (record { 0 = a }) o (max m (now before)) comp v here s) c b (at n m (wrote a b comp v) ∷ before)) (sym from)
          (subst (λ f. AttributesStand (written (record { 0 = a }) (address a before) (max m (now before)) comp v f s) c b (at n m (wrote a b comp v) ∷ before)) (sym is) (stands-written c (record { 0 = a }) b n m before comp v s st))))
      either (inr t) = subst (λ u. AttributesStand (if u then written (record { 0 = a }) owner (max m (now before)) comp v here s else s) c b (at n m (wrote a k comp v) ∷ before)) (sym t.0)
          (stands-wrote c a b k n m before comp v s st false t.0)
  attributes-stand d here owner is from opens st = stands-deed c b n m d before s opens st

period-still : (comp : Comp) (v : Value) (was : Parameters) → is_changed_by comp v was ≡ false → (written_to comp v was).intg_pd ≡ was.intg_pd
period-still comps.RptID (kinds.Text t) was h = refl
period-still comps.DatSet (kinds.Text t) was h = refl
period-still comps.OptFlds (kinds.Bits o) was h = refl
period-still comps.BufTm (kinds.Uint k) was h = refl
period-still comps.TrgOps (kinds.Bits o) was h = refl
period-still comps.IntgPd (kinds.Uint k) was h = same-unless k was.intg_pd h
period-still _ _ was h = refl

module _ (c : Model) (b m n : ℕ) (before : Past) where
  period-unchanged : (d : Deed) → is_purging_change c b d before ≡ false → (parameters_at c b (at n m d ∷ before)).intg_pd ≡ (parameters_at c b before).intg_pd
  period-unchanged (wrote a k comp v) h = by (k == b) h
    where
      left : (x : Bool) → (x && true) ≡ false → x ≡ false
      left true e = cc
      left false e = refl

      by : (t : Bool) → (is_changed_by comp v (parameters_at c b before) && t) ≡ false → (if t then written_to comp v (parameters_at c b before) else parameters_at c b before).intg_pd ≡ (parameters_at c b before).intg_pd
      by true e = period-still comp v (parameters_at c b before) (left (is_changed_by comp v (parameters_at c b before)) e)
      by false e = refl
  period-unchanged _ h = refl

  origin-came : (d : Deed) (change : Bool) (was : Option ℕ) → change ≡ is_purging_change c b d before → (((parameters_at c b before).intg_pd == 0) ≡ false → was ≡ origin_of c b (arrival n m ∷ before))
      → ((parameters_at c b (at n m d ∷ before)).intg_pd == 0) ≡ false → (if change then Some (max m (now before)) else was) ≡ origin_of c b (at n m d ∷ before)
  origin-came d true was told h on = by (is_empty before) ∙ ap (λ t. Some (if is_empty before || t then max m (now before) else origin c b before)) told
    where
      by : (t : Bool) → Some (max m (now before)) ≡ Some (if t || true then max m (now before) else origin c b before)
      by true = refl
      by false = refl
  origin-came d false was told h on =
      h (ap (λ k. k == 0) (sym (period-unchanged d (sym told))) ∙ on) ∙ ap (λ t. Some (if is_empty before || t then max m (now before) else origin c b before)) told

-- ---- the deed: what is gathered, and the entries that come

abbrev AllReadable : List Kept → Type 0
AllReadable ks = All IsMemberKept ks

entered-readable : (q : Event) (g : List Event) → AllReadable q.note → All IsReadableEvent g → All IsReadableEvent (entered q g)
entered-readable q [] is all = All-cons IsReadableEvent q [] is (All-nil IsReadableEvent)
entered-readable q (e ∷ es) is all = by (list_any (λ (f : Event). shares q.note f.note) (e ∷ es))
  where
    by : (t : Bool) → All IsReadableEvent (if t then q ∷ [] else q ∷ e ∷ es)
    by true = All-cons IsReadableEvent q [] is (All-nil IsReadableEvent)
    by false = All-cons IsReadableEvent q (e ∷ es) is all

-- three rows of entries, of which the second or the third is empty
rows-own : (xs gs os : List Entry) (bs hs : List Body) → gs ≡ [] → hs ≡ [] → bs ≡ bodies (xs ++ os) → bs ++ hs ≡ bodies (xs ++ (gs ++ os))
rows-own xs gs os bs hs g h are = ap (λ l. bs ++ l) h ∙ (append-nil bs ∙ (are ∙ ap (λ l. bodies (xs ++ (l ++ os))) (sym g)))

rows-general : (xs gs os : List Entry) (bs hs : List Body) → os ≡ [] → hs ≡ bodies gs → bs ≡ bodies xs → bs ++ hs ≡ bodies (xs ++ (gs ++ os))
rows-general xs gs os bs hs o h are = ap₂ (λ (x y : List Body). x ++ y) are h ∙ (sym (bodies-append xs gs) ∙ ap (λ l. bodies (xs ++ l)) (sym (append-nil gs) ∙ ap (λ l. gs ++ l) (sym o)))

module _ (c : Model) (b m n : ℕ) (d : Deed) (before : Past) (k : Coming) (told : IsComing k c b m n d before) (w : Windowed) (st : WindowStands w c b (arrival n m ∷ before)) where
  abbrev moment : ℕ
  moment = max m (now before)

  cuts-told : (k.general || k.purge) ≡ cuts c b d before
  cuts-told = ap₂ (λ x y. x || y) told.general told.purge

  -- what is gathered after the deed, and the bodies of the entries that it brings
  record Goes (breaking : Bool) (ps : List Piece) (buf_tm : ℕ) : Type 0 where
    window : WindowStands (window_after breaking moment ps buf_tm w) c b (at n m d ∷ before)
    brings : body_of n (closed_at breaking moment ps w) ++ general_body moment n k ≡ bodies (deed_entries c b m n before d)
    group : All IsReadableEvent (open_group c b (arrival n m ∷ before)) → All IsReadableEvent (open_group c b (at n m d ∷ before))

  abbrev general : Entry
  general = record { moment = moment; step = n; members = all_members c b (record no_reason { gi = true }) before (at n m d ∷ before) }

  general-same : general_body moment n k ≡ bodies (general_entry c b (at n m d) before)
  general-same = by k.general (is_interrogation b d) told.general told.all
    where
      by : (s t : Bool) → s ≡ t → (t ≡ true → AreOf k.all general.members) → (if s then body_at moment n k.all ∷ [] else []) ≡ bodies (if t then general ∷ [] else [])
      by true true is all = body-of-all moment n k.all general.members (all refl).are
      by false false is all = refl
      by true false is all = cc
      by false true is all = cc

  none-general : cuts c b d before ≡ false → general_entry c b (at n m d) before ≡ []
  none-general plain = ap (λ t. if t then general ∷ [] else []) (or-left (is_interrogation b d) (purges c b d before) plain)

  none-general-body : cuts c b d before ≡ false → general_body moment n k ≡ []
  none-general-body plain = general-same ∙ ap bodies (none-general plain)

  goes-event : (x : Kept) (xs : List Kept) (buf_tm : ℕ) → note c b (at n m d) before ≡ x ∷ xs → AllReadable (x ∷ xs) → Goes false (map piece_of (x ∷ xs)) buf_tm
  goes-event x xs buf_tm is readable =
      let plain = event-plain c b m n before d x xs is in
      let came = event_comes c b m n before d w x xs st is plain (event-same c b m n before d x xs is) in
      let own : own_entry c b (at n m d) before (x ∷ xs) ≡ own_entry c b (at n m d) before (note c b (at n m d) before) = ap (own_entry c b (at n m d) before) (sym is) in
      record {
        window = came.0;
        brings = rows-own (closed_then c b n m d before (open_group c b (arrival n m ∷ before))) (general_entry c b (at n m d) before) (own_entry c b (at n m d) before (note c b (at n m d) before)) _ (general_body moment n k)
            (none-general plain) (none-general-body plain) (came.1 ∙ ap (λ os. bodies (closed_then c b n m d before (open_group c b (arrival n m ∷ before)) ++ os)) own);
        group = λ all. subst (All IsReadableEvent) (sym (open_group-event c b (at n m d) before (ap is_empty is) ∙ ap (if_open false moment) (goes c b m n before d plain)))
            (group-left false moment (entered (event_of c b (at n m d) before) (open_group c b (arrival n m ∷ before))) (entered-readable (event_of c b (at n m d) before) (open_group c b (arrival n m ∷ before)) (subst AllReadable (sym is) readable) all));
      }

  goes-broken : (ps : List Piece) (buf_tm : ℕ) → note c b (at n m d) before ≡ [] → cuts c b d before ≡ true → buf_tm ≡ (parameters_at c b (at n m d ∷ before)).buf_tm → Goes true ps buf_tm
  goes-broken ps buf_tm none is time =
      let came = block_breaks c b m n before d w st none is in
      record {
        window = subst (λ t. WindowStands (empty_window w.members t) c b (at n m d ∷ before)) (sym time) came.0;
        brings = rows-general (closed_then c b n m d before (open_group c b (arrival n m ∷ before))) (general_entry c b (at n m d) before) (own_entry c b (at n m d) before (note c b (at n m d) before)) _ (general_body moment n k)
            (ap (own_entry c b (at n m d) before) none) general-same came.1;
        group = λ all. subst (All IsReadableEvent) (sym (broken-none c b m n before d none is)) (All-nil IsReadableEvent);
      }

  goes-quiet : (buf_tm : ℕ) → note c b (at n m d) before ≡ [] → cuts c b d before ≡ false → Goes false [] buf_tm
  goes-quiet buf_tm none plain =
      let came = stays c b m n before d w st none plain (unchanged c b m n before d (unbroken-unchanged c b m n before d plain)).buf_tm in
      record {
        window = came.0;
        brings = rows-own (closed_then c b n m d before (open_group c b (arrival n m ∷ before))) (general_entry c b (at n m d) before) (own_entry c b (at n m d) before (note c b (at n m d) before)) [] (general_body moment n k)
            (none-general plain) (none-general-body plain) (sym (ap₂ (λ (x y : List Entry). bodies (x ++ y)) came.1 (ap (own_entry c b (at n m d) before) none)));
        group = λ all. subst (All IsReadableEvent)
            (open_group-quiet c b (arrival n m) before refl ∙ sym (open_group-quiet c b (at n m d) before (ap is_empty none) ∙ ap (λ t. if_open (integrity c b (arrival n m) before || t) moment (open_group c b before)) plain)) all;
      }

  goes-all : (buf_tm : ℕ) → buf_tm ≡ (parameters_at c b (at n m d ∷ before)).buf_tm → Goes (k.general || k.purge) k.note buf_tm
  goes-all buf_tm time = subst (λ ps. Goes (k.general || k.purge) ps buf_tm) (sym told.note.are) (subst (λ t. Goes t (map piece_of (note c b (at n m d) before)) buf_tm) (sym cuts-told) (by (note c b (at n m d) before) refl told.note.readable))
    where
      plainly : (t : Bool) → cuts c b d before ≡ t → note c b (at n m d) before ≡ [] → Goes (cuts c b d before) [] buf_tm
      plainly true is none = subst (λ t. Goes t [] buf_tm) (sym is) (goes-broken [] buf_tm none is time)
      plainly false is none = subst (λ t. Goes t [] buf_tm) (sym is) (goes-quiet buf_tm none is)

      by : (ns : List Kept) → note c b (at n m d) before ≡ ns → AllReadable ns → Goes (cuts c b d before) (map piece_of ns) buf_tm
      by [] none all = plainly (cuts c b d before) refl none
      by (x ∷ xs) is all = subst (λ t. Goes t (map piece_of (x ∷ xs)) buf_tm) (sym (event-plain c b m n before d x xs is)) (goes-event x xs buf_tm is all)

-- ---- the deed

ring-same : (t u : Bool) (r r' : Ringed) → t ≡ u → r ≡ r' → purged_if t r ≡ (if u then after_purge r' else r')
ring-same true u r r' is same = ap (λ v. if v then after_purge r else r) is ∙ ap (λ x. if u then after_purge x else x) same
ring-same false u r r' is same = ap (λ v. if v then after_purge r else r) is ∙ ap (λ x. if u then after_purge x else x) same

pub deed-stands : (c : Model) (b m n : ℕ) (d : Deed) (before : Past) (part : ReportBlock) (k : Coming) → Stands part c b (arrival n m ∷ before) → IsComing k c b m n d before
    → Stands (came b d (max m (now before)) n k part) c b (at n m d ∷ before)
deed-stands c b m n d before part k s told =
    let moment : ℕ = max m (now before) in
    let block = attributes-stand c b m n before part.block d part.ring.front k.owner s.ring.front told.address told.opens s.block in
    let w = goes-all c b m n d before k told part.window s.window (after_deed b d part.ring.front moment k.owner part.block).options.buf_tm (ap (λ (o : Parameters). o.buf_tm) block.options) in
    let es = deed_entries c b m n before d in
    record {
      block = block;
      ring = subst (λ r. Holds r c b (at n m d ∷ before)) (sym (ring-same k.purge (purges c b d before) _ (after_all part.ring es) told.purge (ap (after_bodies part.ring) w.brings ∙ bodies-all part.ring es)))
          (holds-deed c b (at n m d) before part.ring es s.ring (deed-selected c b m n before d));
      window = w.window;
      origin = origin-came c b m n before d k.change part.origin told.change s.origin;
      readable = subst (All IsReadable) (sym (deed-selected c b m n before d)) (readable-appended (selected c b (arrival n m ∷ before)) es s.readable
          (All-append IsReadable (closed_then c b n m d before (open_group c b (arrival n m ∷ before))) _ (then-readable c b n m d before (open_group c b (arrival n m ∷ before)) s.group)
          (All-append IsReadable (general_entry c b (at n m d) before) _ (readable-if (is_interrogation b d) _ (λ is. (told.all is).readable)) (own-readable c b (at n m d) before (note c b (at n m d) before) told.note.readable))));
      group = w.group s.group;
    }

-- ---- a further arrival

pub again-stands : (c : Model) (b m n : ℕ) (q : Point) (before : Past) (part : ReportBlock) → m ≤ now (q ∷ before) → Stands part c b (q ∷ before) → Stands part c b (arrival n m ∷ q ∷ before)
again-stands c b m n q before part same s = record {
  block = stands-arrived c b m n (q ∷ before) part.block s.block;
  ring = holds-again c b m n q before part.ring same s.ring;
  window = (comes_again c b m n q before same part.window s.window).0;
  origin = s.origin;
  readable = subst (All IsReadable) (sym (selected-again c b m n q before same)) s.readable;
  group = subst (All IsReadableEvent) (sym (open_group-again c b m n q before same)) s.group;
}
