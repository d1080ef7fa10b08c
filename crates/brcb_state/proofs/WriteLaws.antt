-- A block stands for each past: at the arrival of the next point, and after the point.
use Rattle.std.proofs.Common.{◌≡◌, ◌≤◌, ℕ, max, Bool, true, false, List, [], ◌∷◌, refl, sym, ap, ap₂, ◌∙◌, subst, arith}
use Rattle.std.specs.Prelude.{◌==◌, ◌&&◌, ◌%◌, min, is_none, Option, None, Some, if◌then◌else◌}
use Rattle.std.specs.Option.{option_map}
use Rattle.std.proofs.lemmas.Grind.{common_steps}
use Rattle.std.proofs.lemmas.Bool.Decides.{nat_tests}
use Rattle.sv_base.specs.declared.numbers.AssocNo.{AssocNo}
use Rattle.sv_base.specs.declared.value.Value.{Value}
use Rattle.sv_base.specs.declared.value.Value.TheVariants as kinds
use Rattle.sv_base.specs.declared.components.Comp.{Comp}
use Rattle.sv_base.specs.declared.components.Comp.TheVariants as comps
use Rattle.bay_model.specs.Model.{Model, Parameters}
use Rattle.bay_model.specs.Points.{Deed, opened, wrote, lost, reported, Point, Past, now}
use Rattle.bay_model.specs.Parameters.{parameters_at, conf_rev, written_to, is_changed_by, next_revision}
use Rattle.bay_model.specs.Retained.{front}
use Rattle.bay_model.specs.Associations.{address}
use Rattle.bay_model.specs.Blocks.{enabler, sent, cursor, sq_num, entry_id}
use Rattle.bay_model.specs.Reservations.{reservation, lasting, reservation_by, without_writer}
use Rattle.bay_model.specs.Singles.{arrival}
use Rattle.brcb_state.specs.declared.block.Block.{Block}
use Rattle.brcb_state.specs.declared.block.Holder.{Holder}
use Rattle.brcb_state.specs.Changes.{written, attributes_written, after_report}
use Rattle.brcb_state.specs.Standing.{Stands, OpensNoEnabler, writers_address, after_deed}
use Rattle.list_laws.proofs.Places.{same-number}
use Rattle.list_laws.proofs.Truths.{and-false}
use Rattle.brcb_state.proofs.HolderLaws.{number, address_of, lost-number, lost-address, opened-address}
use Rattle.brcb_state.proofs.ReservedLaws.{lasting-later, fresh, written-seconds, lasting-seconds, lost-lasting, lost-seconds}

-- the landed part of standing: what neither time nor an opening touches
record Attributes (s : Block) (c : Model) (b : ℕ) (past : Past) : Type 0 where
  options : s.options ≡ parameters_at c b past
  revision : s.revision ≡ conf_rev c b past
  owner : option_map address_of s.enabler ≡ option_map (λ e. address e past) (enabler b past)
  enabler : option_map number s.enabler ≡ enabler b past
  cursor : s.cursor ≡ cursor c b past
  count : s.count ≡ sq_num b past

attributes : (s : Block) (c : Model) (b : ℕ) (past : Past) → Stands s c b past → Attributes s c b past
attributes s c b past st = record { options = st.options; revision = st.revision; enabler = st.enabler; owner = st.owner; cursor = st.cursor; count = st.count }

-- ---- the arrival

later : (m n : ℕ) → n ≤ max m n
later m n = omega arith

pub stands-arrived : (c : Model) (b m n : ℕ) (before : Past) (s : Block) → Stands s c b before → Stands s c b (arrival n m ∷ before)
stands-arrived c b m n before s st = record {
  reference = st.reference;
  options = st.options;
  revision = st.revision;
  enabler = st.enabler;
  owner = st.owner;
  reservation = sym (lasting-later (now before) (max m (now before)) s.reservation (later m (now before))) ∙ ap (lasting (max m (now before))) st.reservation;
  seconds = st.seconds;
  cursor = st.cursor;
  count = st.count;
}

-- ---- a write

module _ (c : Model) (a : AssocNo) (b n m : ℕ) (before : Past) where
  abbrev at : Comp → Value → Point
  at comp v = record { moment = m; step = n; deed = wrote a.0 b comp v }

  -- the front counts for an EntryID alone
  pub written-front : (comp : Comp) (v : Value) (o : List ℕ) (t : ℕ) (s : Block) → written a o t comp v (front c b (at comp v ∷ before)) s ≡ written a o t comp v (front c b (arrival n m ∷ before)) s
  written-front comps.EntryID (kinds.Octets i) o t s = refl
  written-front comps.EntryID _ o t s = refl
  written-front comps.RptEna (kinds.Bool on) o t s = refl
  written-front comps.RptEna _ o t s = refl
  written-front _ v o t s = refl

module _ (c : Model) (a b k n m : ℕ) (before : Past) where
  abbrev by : Comp → Value → Point
  by comp v = record { moment = m; step = n; deed = wrote a k comp v }

  abbrev point_of : Comp → Value → Past
  point_of comp v = by comp v ∷ before

  -- to another block
  module _ (is : (k == b) ≡ false) where
    revision-other : (comp : Comp) (v : Value) → conf_rev c b before ≡ conf_rev c b (point_of comp v)
    revision-other comps.DatSet v = rw (is, and-false (is_changed_by comps.DatSet v (parameters_at c b before))) refl
    revision-other _ v = refl

    enabler-other : (comp : Comp) (v : Value) → enabler b before ≡ enabler b (point_of comp v)
    enabler-other comps.RptEna (kinds.Bool on) = rw is refl
    enabler-other comps.RptEna _ = refl
    enabler-other _ v = refl

    cursor-other : (comp : Comp) (v : Value) → cursor c b before ≡ cursor c b (point_of comp v)
    cursor-other comps.EntryID (kinds.Octets o) = rw is refl
    cursor-other comps.EntryID _ = refl
    cursor-other _ v = refl

    sent-other : (comp : Comp) (v : Value) → sq_num b before ≡ sq_num b (point_of comp v)
    sent-other comps.RptEna (kinds.Bool on) = rw is refl
    sent-other comps.RptEna _ = refl
    sent-other _ v = refl

    attributes-other : (comp : Comp) (v : Value) (s : Block) → Attributes s c b (arrival n m ∷ before) → Attributes s c b (point_of comp v)
    attributes-other comp v s st = record {
      options = rw is st.options;
      revision = st.revision ∙ revision-other comp v;
      owner = st.owner ∙ ap (option_map (λ e. address e before)) (enabler-other comp v);
      enabler = st.enabler ∙ enabler-other comp v;
      cursor = st.cursor ∙ cursor-other comp v;
      count = st.count ∙ sent-other comp v;
    }

  -- to this block
  module _ (is : (k == b) ≡ true) (f : ℕ) (s : Block) where
    abbrev made : Comp → Value → Block
    made comp v = attributes_written (record { 0 = a }) (address a before) comp v f s

    options-own : (comp : Comp) (v : Value) → s.options ≡ parameters_at c b before → (made comp v).options ≡ parameters_at c b (point_of comp v)
    options-own comps.RptEna (kinds.Bool on) h = rw is h
    options-own comps.RptEna v h = rw is (ap (written_to comps.RptEna v) h)
    options-own comps.EntryID (kinds.Octets o) h = rw is h
    options-own comps.EntryID v h = rw is (ap (written_to comps.EntryID v) h)
    options-own comp v h = rw is (ap (written_to comp v) h)

    renewed : (x y : ℕ) (o p : Parameters) (v : Value) → x ≡ y → o ≡ p
        → (if is_changed_by comps.DatSet v o then next_revision x else x) ≡ (if is_changed_by comps.DatSet v p && true then next_revision y else y)
    renewed x y o p v e g = ap₂ (λ (i : ℕ) (q : Parameters). if is_changed_by comps.DatSet v q then next_revision i else i) e g
        ∙ ap (λ t. if t then next_revision y else y) (and-true (is_changed_by comps.DatSet v p))
      where
        and-true : (t : Bool) → t ≡ (t && true)
        and-true true = refl
        and-true false = refl

    revision-own : (comp : Comp) (v : Value) → s.options ≡ parameters_at c b before → s.revision ≡ conf_rev c b before → (made comp v).revision ≡ conf_rev c b (point_of comp v)
    revision-own comps.DatSet v o h = rw is (renewed s.revision (conf_rev c b before) s.options (parameters_at c b before) v h o)
    revision-own comps.RptEna (kinds.Bool on) o h = h
    revision-own comps.RptEna _ o h = h
    revision-own comps.EntryID (kinds.Octets i) o h = h
    revision-own comps.EntryID _ o h = h
    revision-own _ v o h = h

    enabler-own : (comp : Comp) (v : Value) → option_map number s.enabler ≡ enabler b before → option_map number (made comp v).enabler ≡ enabler b (point_of comp v)
    enabler-own comps.RptEna (kinds.Bool true) h = rw is refl
    enabler-own comps.RptEna (kinds.Bool false) h = rw is refl
    enabler-own comps.RptEna _ h = h
    enabler-own comps.EntryID (kinds.Octets o) h = h
    enabler-own comps.EntryID _ h = h
    enabler-own _ v h = h

    owner-own : (comp : Comp) (v : Value) → option_map address_of s.enabler ≡ option_map (λ e. address e before) (enabler b before)
        → option_map address_of (made comp v).enabler ≡ option_map (λ e. address e before) (enabler b (point_of comp v))
    owner-own comps.RptEna (kinds.Bool true) h = rw is refl
    owner-own comps.RptEna (kinds.Bool false) h = rw is refl
    owner-own comps.RptEna _ h = h
    owner-own comps.EntryID (kinds.Octets o) h = h
    owner-own comps.EntryID _ h = h
    owner-own _ v h = h

    cursor-own : (comp : Comp) (v : Value) → f ≡ front c b (point_of comp v) → s.cursor ≡ cursor c b before → (made comp v).cursor ≡ cursor c b (point_of comp v)
    cursor-own comps.EntryID (kinds.Octets o) g h = rw is (ap₂ (λ (x y : ℕ). if entry_id o == 0 then min x y else entry_id o) h g)
    cursor-own comps.EntryID _ g h = h
    cursor-own comps.RptEna (kinds.Bool on) g h = h
    cursor-own comps.RptEna _ g h = h
    cursor-own _ v g h = h

    none-same : (x : Option Holder) (e : Option ℕ) → option_map number x ≡ e → is_none x ≡ is_none e
    none-same x e h = by x ∙ ap is_none h where
      by : (x : Option Holder) → is_none x ≡ is_none (option_map number x)
      by None = refl
      by (Some y) = refl

    counted : (on x y : Bool) (i j : ℕ) → x ≡ y → i ≡ j % 65536 → (if on && x then 0 else i) ≡ (if on && y then 0 else j) % 65536
    counted on x y i j e h = subst (λ y. (if on && x then 0 else i) ≡ (if on && y then 0 else j) % 65536) e (by on x) where
      by : (on x : Bool) → (if on && x then 0 else i) ≡ (if on && x then 0 else j) % 65536
      by true true = refl
      by true false = h
      by false x = h

    count-own : (comp : Comp) (v : Value) → option_map number s.enabler ≡ enabler b before → s.count ≡ sq_num b before → (made comp v).count ≡ sq_num b (point_of comp v)
    count-own comps.RptEna (kinds.Bool on) e h = rw is (counted on (is_none s.enabler) (is_none (enabler b before)) s.count (sent b before) (none-same s.enabler (enabler b before) e) h)
    count-own comps.RptEna _ e h = h
    count-own comps.EntryID (kinds.Octets o) e h = h
    count-own comps.EntryID _ e h = h
    count-own _ v e h = h

    attributes-own : (comp : Comp) (v : Value) → f ≡ front c b (point_of comp v) → Attributes s c b (arrival n m ∷ before) → Attributes (made comp v) c b (point_of comp v)
    attributes-own comp v g st = record {
      options = options-own comp v st.options;
      revision = revision-own comp v st.options st.revision;
      owner = owner-own comp v st.owner;
      enabler = enabler-own comp v st.enabler;
      cursor = cursor-own comp v g st.cursor;
      count = count-own comp v st.enabler st.count;
    }

  abbrev moment : ℕ
  moment = max m (now before)

  abbrev after : Comp → Value → Block → Block
  after comp v s = written (record { 0 = a }) (address a before) moment comp v (front c b (by comp v ∷ before)) s

  same-reference : (comp : Comp) (v : Value) (o : List ℕ) (f : ℕ) (s : Block) → (attributes_written (record { 0 = a }) o comp v f s).reference ≡ s.reference
  same-reference comps.RptEna (kinds.Bool on) o f s = refl
  same-reference comps.RptEna _ o f s = refl
  same-reference comps.EntryID (kinds.Octets i) o f s = refl
  same-reference comps.EntryID _ o f s = refl
  same-reference _ v o f s = refl

  pub stands-wrote : (comp : Comp) (v : Value) (s : Block) → Stands s c b (arrival n m ∷ before) → (t : Bool) → (k == b) ≡ t → Stands (if t then after comp v s else s) c b (by comp v ∷ before)
  stands-wrote comp v s st true is =
      let x : Attributes (attributes_written (record { 0 = a }) (address a before) comp v (front c b (by comp v ∷ before)) s) c b (by comp v ∷ before) =
      attributes-own is (front c b (by comp v ∷ before)) s comp v refl (attributes s c b (arrival n m ∷ before) st) in
      record {
        reference = same-reference comp v (address a before) (front c b (by comp v ∷ before)) s ∙ st.reference;
        options = x.options;
        revision = x.revision;
        enabler = x.enabler;
        owner = x.owner;
        reservation = fresh moment a (address a before) comp v (lasting moment s.reservation)
            ∙ (ap (reservation_by moment a (address a before) comp v) st.reservation
            ∙ sym (ap (λ t. if t then reservation_by moment a (address a before) comp v (lasting moment (reservation b before)) else lasting moment (reservation b before)) is));
        seconds = written-seconds moment a (address a before) comp v (lasting moment s.reservation) (lasting-seconds moment s.reservation st.seconds);
        cursor = x.cursor;
        count = x.count;
      }
  stands-wrote comp v s st false is =
      let x : Attributes s c b (by comp v ∷ before) =
      attributes-other is comp v s (attributes s c b (arrival n m ∷ before) st) in
      record {
        reference = st.reference;
        options = x.options;
        revision = x.revision;
        enabler = x.enabler;
        owner = x.owner;
        reservation = st.reservation
            ∙ sym (ap (λ t. if t then reservation_by moment a (address a before) comp v (lasting moment (reservation b before)) else lasting moment (reservation b before)) is);
        seconds = st.seconds;
        cursor = x.cursor;
        count = x.count;
      }

-- an accepted write, by the front at its arrival
pub stands-written : (c : Model) (a : AssocNo) (b n m : ℕ) (before : Past) (comp : Comp) (v : Value) (s : Block) → Stands s c b (arrival n m ∷ before)
    → Stands (written a (address a.0 before) (max m (now before)) comp v (front c b (arrival n m ∷ before)) s) c b (record { moment = m; step = n; deed = wrote a.0 b comp v } ∷ before)
stands-written c a b n m before comp v s st = rw (← written-front c a b n m before comp v (address a.0 before) (max m (now before)) s)
    (stands-wrote c a.0 b b n m before comp v s st true (same-number b))

-- ---- a report

module _ (c : Model) (a b k i n m : ℕ) (before : Past) where
  abbrev point_reported : Point
  point_reported = record { moment = m; step = n; deed = reported a k i }

  attributes-reported : (s : Block) → Attributes s c b (arrival n m ∷ before) → Attributes (if k == b then after_report i s else s) c b (point_reported ∷ before)
  attributes-reported s st = grind (arith, common_steps)

  pub stands-reported : (s : Block) → Stands s c b (arrival n m ∷ before) → (t : Bool) → (k == b) ≡ t → Stands (if t then after_report i s else s) c b (point_reported ∷ before)
  stands-reported s st true is =
      let x : Attributes (after_report i s) c b (point_reported ∷ before) =
      subst (λ t. Attributes (if t then after_report i s else s) c b (point_reported ∷ before)) is (attributes-reported s (attributes s c b (arrival n m ∷ before) st)) in
      record { reference = st.reference; options = x.options; revision = x.revision; enabler = x.enabler; owner = x.owner; reservation = st.reservation; seconds = st.seconds; cursor = x.cursor; count = x.count }
  stands-reported s st false is =
      let x : Attributes s c b (point_reported ∷ before) =
      subst (λ t. Attributes (if t then after_report i s else s) c b (point_reported ∷ before)) is (attributes-reported s (attributes s c b (arrival n m ∷ before) st)) in
      record { reference = st.reference; options = x.options; revision = x.revision; enabler = x.enabler; owner = x.owner; reservation = st.reservation; seconds = st.seconds; cursor = x.cursor; count = x.count }

-- ---- every deed

pub stands-deed : (c : Model) (b n m : ℕ) (d : Deed) (before : Past) (s : Block) → OpensNoEnabler b d before → Stands s c b (arrival n m ∷ before)
    → Stands (after_deed b d (front c b (record { moment = m; step = n; deed = d } ∷ before)) (max m (now before)) (writers_address d before) s) c b (record { moment = m; step = n; deed = d } ∷ before)
stands-deed c b n m (opened a o w size owner) before s other st = record {
  reference = st.reference;
  options = st.options;
  revision = st.revision;
  enabler = st.enabler;
  owner = st.owner ∙ opened-address a o w size owner (λ e. address e before) (enabler b before) other;
  reservation = st.reservation;
  seconds = st.seconds;
  cursor = st.cursor;
  count = st.count;
}
stands-deed c b n m (wrote a k comp v) before s other st = stands-wrote c a b k n m before comp v s st (k == b) refl
stands-deed c b n m (reported a k i) before s other st = stands-reported c a b k i n m before s st (k == b) refl
stands-deed c b n m (lost a) before s other st = record {
  reference = st.reference;
  options = st.options;
  revision = st.revision;
  enabler = lost-number a s.enabler (enabler b before) st.enabler;
  owner = lost-address a (λ e. address e before) s.enabler (enabler b before) st.enabler st.owner;
  reservation = lost-lasting (max m (now before)) a s.reservation st.seconds ∙ ap (option_map (without_writer (max m (now before)) a)) st.reservation;
  seconds = lost-seconds (max m (now before)) a s.reservation st.seconds;
  cursor = st.cursor;
  count = st.count;
}
stands-deed c b n m _ before s other st = record {
  reference = st.reference;
  options = st.options;
  revision = st.revision;
  enabler = st.enabler;
  owner = st.owner;
  reservation = st.reservation;
  seconds = st.seconds;
  cursor = st.cursor;
  count = st.count;
}
