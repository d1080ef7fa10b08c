-- What a component reads at the moment of a step that is still to be made.
use Rattle.std.proofs.Common.{◌≡◌, ◌≤◌, ℕ, suc, Bool, true, false, List, [], ◌∷◌, ◌++◌, length, refl, sym, subst, ap, ap₂, ◌∙◌, arith, length-append}
use Rattle.std.specs.Prelude.{if◌then◌else◌, ◌&&◌, nat_lt, nat_le, Option, None, Some, max}
use Rattle.std.proofs.lemmas.Bool.{le-leb}
use Rattle.sv_base.specs.declared.components.Comp.{Comp}
use Rattle.sv_base.specs.declared.components.Comp.TheVariants as comps
use Rattle.bay_model.specs.Model.{Model}
use Rattle.bay_model.specs.Points.{Past, now}
use Rattle.bay_model.specs.Breaks.{integrity, is_empty, breaks}
use Rattle.bay_model.specs.Groups.{Event, first, continues, if_open, is_over, event_of, open_group}
use Rattle.bay_model.specs.Notes.{note, all_members, no_reason}
use Rattle.bay_model.specs.Entries.{Entry, selected, appended, last_number, closed_entry, integrity_entry}
use Rattle.bay_model.specs.Components.{read_component}
use Rattle.bay_model.specs.Singles.{arrival}
use Rattle.bay_model.proofs.OpenGroup.{joined, open_group-quiet, open_group-event}
use Rattle.brcb_state.specs.declared.block.Block.{Block}
use Rattle.brcb_state.specs.declared.told.Retained.{Retained}
use Rattle.brcb_state.specs.Components.{read_of}
use Rattle.brcb_state.specs.Standing.{Stands as AttributesStand, kept_at, newest_of}
use Rattle.brcb_state.proofs.ReadLaws.{reads}
use Rattle.brcb_state.proofs.WriteLaws.{stands-arrived}
use Rattle.entry_ring.specs.Standing.{newest_moment}
use Rattle.entry_ring.proofs.HoldLaws.{newest-last}
use Rattle.window_core.specs.Windows.{Gathered, Windowed, is_over as is_over_at, over_at}
use Rattle.window_core.specs.Standing.{Body, bodies, body_of, gathered_of}
use Rattle.window_core.proofs.GroupLaws.{time, period}
use Rattle.report_block.specs.declared.block.ReportBlock.{ReportBlock}
use Rattle.report_block.specs.declared.reading.Newest.{Newest}
use Rattle.report_block.specs.Standing.{Stands}
use Rattle.report_block.specs.Reading.{newest_in, with_entry, with_group, is_moment, moment_of, foretold_if, foretold, reading}
use Rattle.report_block.proofs.BodyLaws.{time_entries, time-selected, bodies-append}
use Rattle.report_block.proofs.StandLaws.{due-told}

-- ---- how many entries, and the moment of the newest

abbrev pub listed : List Entry → Newest
listed es = record { count = length es; moment = newest_moment es }

abbrev pub with_bodies : List Body → Newest → Newest
with_bodies [] w = w
with_bodies (e ∷ es) w = with_bodies es (with_entry e.moment w)

one-more : (so_far : List Entry) (e : Entry) → listed (if nat_lt (length so_far) last_number then so_far ++ e ∷ [] else so_far) ≡ with_entry e.moment (listed so_far)
one-more so_far e = by (nat_lt (length so_far) last_number)
  where
    more : length (so_far ++ e ∷ []) ≡ suc (length so_far)
    more = omega (arith, length-append so_far (e ∷ []))

    by : (t : Bool) → listed (if t then so_far ++ e ∷ [] else so_far) ≡ (if t then record { count = suc (length so_far); moment = Some e.moment } else listed so_far)
    by true = ap₂ (λ (k : ℕ) (x : Option ℕ). record { count = k; moment = x }) more (newest-last so_far e)
    by false = refl

pub listed-appended : (so_far es : List Entry) → listed (appended so_far es) ≡ with_bodies (bodies es) (listed so_far)
listed-appended so_far [] = refl
listed-appended so_far (e ∷ es) = listed-appended (if nat_lt (length so_far) last_number then so_far ++ e ∷ [] else so_far) es ∙ ap (with_bodies (bodies es)) (one-more so_far e)

with-both : (xs ys : List Body) (w : Newest) → with_bodies (xs ++ ys) w ≡ with_bodies ys (with_bodies xs w)
with-both [] ys w = refl
with-both (x ∷ xs) ys w = with-both xs ys (with_entry x.moment w)

-- the moment of what is gathered is one that a step can have
abbrev pub IsDated : Option Gathered → Type 0
IsDated None = Unit {0}
IsDated (Some g) = is_moment g.moment ≡ true

with-closed : (step : ℕ) (g : Option Gathered) (w : Newest) → IsDated g → with_bodies (body_of step g) w ≡ with_group (moment_of g) w
with-closed step None w h = refl
with-closed step (Some g) w h = ap (λ t. with_group (if t then Some g.moment else None) w) (sym h)

over-dated : (moment : ℕ) (w : Windowed) → IsDated w.gathered → IsDated (over_at moment w)
over-dated moment w h = by (is_over_at moment w)
  where
    by : (t : Bool) → IsDated (if t then w.gathered else None)
    by true = h
    by false = tt

same-newest : (es : List Entry) → newest_moment es ≡ newest_of es
same-newest [] = refl
same-newest (e ∷ []) = refl
same-newest (e ∷ f ∷ es) = same-newest (f ∷ es)

module _ (c : Model) (b m n : ℕ) (before : Past) (part : ReportBlock) (s : Stands part c b before) (dates : IsDated part.window.gathered) where
  ring-listed : newest_in part.ring ≡ listed (selected c b before)
  ring-listed = ap₂ (λ (k : ℕ) (x : Option ℕ). record { count = k; moment = x }) s.ring.newest s.ring.newest_moment

  told : listed (selected c b (arrival n m ∷ before)) ≡ with_bodies (bodies (integrity_entry c b (arrival n m) before)) (with_bodies (bodies (closed_entry c b (arrival n m) before (open_group c b before))) (newest_in part.ring))
  told = ap listed (time-selected c b m n before)
      ∙ (listed-appended (selected c b before) (time_entries c b m n before)
      ∙ (ap (λ bs. with_bodies bs (listed (selected c b before))) (bodies-append (closed_entry c b (arrival n m) before (open_group c b before)) (integrity_entry c b (arrival n m) before))
      ∙ (with-both (bodies (closed_entry c b (arrival n m) before (open_group c b before))) (bodies (integrity_entry c b (arrival n m) before)) (listed (selected c b before))
      ∙ ap (λ w. with_bodies (bodies (integrity_entry c b (arrival n m) before)) (with_bodies (bodies (closed_entry c b (arrival n m) before (open_group c b before))) w)) (sym ring-listed))))

  abbrev entry : Entry
  entry = record { moment = max m (now before); step = n; members = all_members c b (record no_reason { intg = true }) before before }

  -- what is foretold is what will be
  pub foretold-told : foretold (now before) (max m (now before)) part ≡ listed (selected c b (arrival n m ∷ before))
  foretold-told = ap (λ t. foretold_if t (max m (now before)) part) (due-told c b m n before part [] s) ∙ (either (integrity c b (arrival n m) before) refl ∙ sym told)
    where
      either : (t : Bool) → integrity c b (arrival n m) before ≡ t
          → foretold_if t (max m (now before)) part ≡ with_bodies (bodies (integrity_entry c b (arrival n m) before)) (with_bodies (bodies (closed_entry c b (arrival n m) before (open_group c b before))) (newest_in part.ring))
      either true is =
          let own : integrity_entry c b (arrival n m) before ≡ entry ∷ [] = ap (λ t. if t then entry ∷ [] else []) is in
          ap (with_entry (max m (now before))) (sym (with-closed n part.window.gathered (newest_in part.ring) dates) ∙ ap (λ bs. with_bodies bs (newest_in part.ring)) (period c b m n before part.window s.window is).1)
          ∙ ap (λ es. with_bodies (bodies es) (with_bodies (bodies (closed_entry c b (arrival n m) before (open_group c b before))) (newest_in part.ring))) (sym own)
      either false is =
          let own : integrity_entry c b (arrival n m) before ≡ [] = ap (λ t. if t then entry ∷ [] else []) is in
          sym (with-closed n (over_at (max m (now before)) part.window) (newest_in part.ring) (over-dated (max m (now before)) part.window dates)) ∙ (ap (λ bs. with_bodies bs (newest_in part.ring)) (time c b m n before part.window s.window is).1
          ∙ ap (λ es. with_bodies (bodies es) (with_bodies (bodies (closed_entry c b (arrival n m) before (open_group c b before))) (newest_in part.ring))) (sym own))

-- ---- the moment of what is gathered

abbrev AreWithin : ℕ → List Event → Type 0
AreWithin most [] = Unit {0}
AreWithin most (e ∷ es) = (441763200000 ≤ e.moment) × (e.moment ≤ most) × AreWithin most es

within-more : (most more : ℕ) (g : List Event) → most ≤ more → AreWithin most g → AreWithin more g
within-more most more [] le h = tt
within-more most more (e ∷ es) le h = (h.0, omega (arith, h.1, le), within-more most more es le h.2)

within-open : (t : Bool) (moment most : ℕ) (g : List Event) → AreWithin most g → AreWithin most (if_open t moment g)
within-open t moment most [] h = tt
within-open true moment most (e ∷ es) h = tt
within-open false moment most (e ∷ es) h = by (is_over e es moment)
  where
    by : (u : Bool) → AreWithin most (if u then [] else e ∷ es)
    by true = tt
    by false = h

within-joined : (most : ℕ) (q : Event) (g : List Event) → 441763200000 ≤ q.moment → q.moment ≤ most → AreWithin most g → AreWithin most (joined q g)
within-joined most q [] low high h = (low, high, tt)
within-joined most q (e ∷ es) low high h = by (continues q e es)
  where
    by : (t : Bool) → AreWithin most (if t then q ∷ e ∷ es else q ∷ [])
    by true = (low, high, h)
    by false = (low, high, tt)

least-now : (past : Past) → 441763200000 ≤ now past
least-now [] = omega arith
least-now (p ∷ before) = omega (arith, least-now before)

group-within : (c : Model) (b : ℕ) (past : Past) → AreWithin (now past) (open_group c b past)
group-within c b [] = tt
group-within c b (p ∷ before) = by (is_empty (note c b p before)) refl (within-more (now before) (now (p ∷ before)) (open_group c b before) (omega arith) (group-within c b before))
  where
    by : (t : Bool) → is_empty (note c b p before) ≡ t → AreWithin (now (p ∷ before)) (open_group c b before) → AreWithin (now (p ∷ before)) (open_group c b (p ∷ before))
    by true is earlier = subst (AreWithin (now (p ∷ before))) (sym (open_group-quiet c b p before is)) (within-open (breaks c b p before) (now (p ∷ before)) (now (p ∷ before)) (open_group c b before) earlier)
    by false is earlier = subst (AreWithin (now (p ∷ before))) (sym (open_group-event c b p before is))
        (within-open false (now (p ∷ before)) (now (p ∷ before)) (joined (event_of c b p before) (open_group c b before))
        (within-joined (now (p ∷ before)) (event_of c b p before) (open_group c b before) (least-now (p ∷ before)) (omega arith) earlier))

first-within : (most : ℕ) (e : Event) (es : List Event) → AreWithin most (e ∷ es) → (441763200000 ≤ (first e es).moment) × ((first e es).moment ≤ most)
first-within most e [] h = (h.0, h.1)
first-within most e (f ∷ fs) h = first-within most f fs h.2

both : (x y : Bool) → x ≡ true → y ≡ true → (x && y) ≡ true
both true y h k = k
both false y h k = h

dated : (most : ℕ) (g : List Event) → most ≤ 4294967295999 → AreWithin most g → IsDated (gathered_of g)
dated most [] le h = tt
dated most (e ∷ es) le h = let is = first-within most e es h in
    both (nat_le 441763200000 (first e es).moment) (nat_le (first e es).moment 4294967295999) (le-leb 441763200000 (first e es).moment is.0) (le-leb (first e es).moment 4294967295999 (omega (arith, is.1, le)))

pub is-dated : (c : Model) (b : ℕ) (past : Past) (part : ReportBlock) → Stands part c b past → now past ≤ 4294967295999 → IsDated part.window.gathered
is-dated c b past part s le = subst IsDated (sym s.window.gathered) (dated (now past) (open_group c b past) le (group-within c b past))

-- ---- the component

only-count : (comp : Comp) (k j : Retained) (x : Option ℕ) (t : ℕ) (s : Block) → k.len ≡ j.len → read_of comp k x t s ≡ read_of comp j x t s
only-count comps.EntryID k j x t s h = ap (λ l. read_of comps.EntryID (record { front = 0; len = l }) x t s) h
only-count comps.RptID k j x t s h = refl
only-count comps.RptEna k j x t s h = refl
only-count comps.DatSet k j x t s h = refl
only-count comps.ConfRev k j x t s h = refl
only-count comps.OptFlds k j x t s h = refl
only-count comps.BufTm k j x t s h = refl
only-count comps.SqNum k j x t s h = refl
only-count comps.TrgOps k j x t s h = refl
only-count comps.IntgPd k j x t s h = refl
only-count comps.GI k j x t s h = refl
only-count comps.PurgeBuf k j x t s h = refl
only-count comps.TimeofEntry k j x t s h = refl
only-count comps.ResvTms k j x t s h = refl
only-count comps.Owner k j x t s h = refl

pub reads-ahead : (c : Model) (b m n : ℕ) (comp : Comp) (before : Past) (part : ReportBlock) → Stands part c b before → now before ≤ 4294967295999
    → reading (now before) (max m (now before)) comp part ≡ read_component c b comp (arrival n m ∷ before)
reads-ahead c b m n comp before part s le =
    let is = foretold-told c b m n before part s (is-dated c b before part s le) in
    let here : AttributesStand part.block c b (arrival n m ∷ before) = stands-arrived c b m n before part.block s.block in
    only-count comp (record { front = part.ring.front; len = (foretold (now before) (max m (now before)) part).count }) (kept_at c b (arrival n m ∷ before)) (foretold (now before) (max m (now before)) part).moment (max m (now before)) part.block (ap (λ (w : Newest). w.count) is)
    ∙ (ap (λ x. read_of comp (kept_at c b (arrival n m ∷ before)) x (max m (now before)) part.block) (ap (λ (w : Newest). w.moment) is ∙ same-newest (selected c b (arrival n m ∷ before)))
    ∙ reads c b comp (arrival n m ∷ before) part.block here)

-- at moments that are told so
pub read-as : (part : ReportBlock) (comp : Comp) (was later : ℕ) → was ≤ 4294967295999 → (c : Model) (b n m : ℕ) (past : Past) → Stands part c b past → was ≡ now past → later ≡ max m was
    → reading was later comp part ≡ read_component c b comp (arrival n m ∷ past)
read-as part comp was later le c b n m past s at_ then_ =
    ap₂ (λ w t. reading w t comp part) at_ (then_ ∙ ap (max m) at_) ∙ reads-ahead c b m n comp past part s (subst (λ w. w ≤ 4294967295999) at_ le)
