-- The blocks of a bay, and the bay, at the arrival of a point: time has passed up to its moment.
use Rattle.std.proofs.Common.{◌≡◌, ◌≤◌, ◌∙◌, ◌∷◌, ℕ, max, true, Bool, false, List, [], length, refl, sym, ap, ap₂, subst, arith}
use Rattle.std.specs.Prelude.{Some, if◌then◌else◌, slice_get}
use Rattle.std.proofs.lemmas.List.{length-map}
use Rattle.std.specs.List.{All}
use Rattle.std.proofs.lemmas.List.Elements.{All-nil, All-cons, All-head, All-tail}
use Rattle.list_laws.proofs.Places.{got-map}
use Rattle.sv_base.specs.declared.config.Config.{Config}
use Rattle.sv_base.specs.declared.numbers.AssocNo.{AssocNo}
use Rattle.sv_base.specs.declared.value.Value.{Value}
use Rattle.sv_base.specs.Filled.{Filled}
use Rattle.sv_base.specs.declared.components.Comp.{Comp}
use Rattle.bay_model.specs.Notes.{all_members, no_reason}
use Rattle.window_core.specs.Points.{at}
use Rattle.report_block.specs.Coming.{AreOf}
use Rattle.block_reports.specs.Blanks.{AreShortTexts}
use Rattle.bay_model.specs.Reports.{report_id}
use Rattle.brcb_state.specs.declared.block.Block.{Block}
use Rattle.setting_groups.proofs.StandLaws as settings
use Rattle.bay_core.specs.Put.{AreGeneral}
use Rattle.bay_model.specs.declared.tables.MemberShape.{MemberShape}
use Rattle.bay_model.specs.declared.tables.NodeRow.{NodeRow}
use Rattle.bay_model.specs.Model.{Parameters}
use Rattle.bay_model.specs.Named.{configured_model}
use Rattle.bay_model.specs.Points.{Past, now, wrote}
use Rattle.bay_model.specs.Sets.{sets}
use Rattle.bay_model.specs.Singles.{arrival}
use Rattle.object_model.specs.Nodes.{node_rows}
use Rattle.data_sets.specs.Books.{Book}
use Rattle.value_store.specs.Stored.{Stored}
use Rattle.value_store.specs.Wholes.{Stands as ValuesStand}
use Rattle.value_store.proofs.StandLaws as values
use Rattle.control_core.specs.Standing.{Stands as ControlsStand}
use Rattle.control_core.specs.Tables.{at_moment}
use Rattle.bay_queues.specs.Standing.{Stands as QueuesStand}
use Rattle.bay_queues.proofs.StandLaws as waits
use Rattle.report_block.specs.declared.block.ReportBlock.{ReportBlock}
use Rattle.report_block.specs.Alls.{all_pieces, for_general, for_integrity}
use Rattle.window_core.specs.Pieces.{Piece}
use Rattle.window_core.specs.Windows.{closed, is_over}
use Rattle.report_block.specs.Coming.{arrived, arrived_if, is_due}
use Rattle.report_block.specs.Standing.{Stands as BlockStands, BlocksStand}
use Rattle.report_block.proofs.StandLaws.{arrival-stands}
use Rattle.bay_config.specs.Servable.{IsServable}
use Rattle.bay_core.specs.Standing.{StandsAt}
use Rattle.block_watch.specs.Served.{AreServedSets}
use Rattle.bay_core.specs.State.{State, IsFurnished}
use Rattle.bay_values.specs.Held.{AreHeld}
use Rattle.block_watch.specs.declared.watch.Watch.{Watch}
use Rattle.block_events.specs.Timed.{arrived_part, arrived_all}
use Rattle.bay_core.specs.Timed.{at_arrival}
use Rattle.block_watch.specs.Watched.{members_in}
use Rattle.block_events.proofs.AllLaws.{all-are}
use Rattle.bay_core.proofs.FurnishLaws.{furnished-map}
use Rattle.bay_core.proofs.MoveLaws.{queued, queues-stand}
use Rattle.block_watch.proofs.ShapeLaws.{served_members, sets_in}

-- each part has the members of the data set that its DatSet names
abbrev pub HaveMembers : List NodeRow → Book → Config → List ReportBlock → Type 0
HaveMembers rows book c parts = (b : ℕ) (part : ReportBlock) → slice_get parts b ≡ Some part → members_in rows book part ≡ served_members c book part.block.options.dat_set

-- what a bay has beside what it stands for: its configuration and its data sets can be served, each attribute has a value of its type,
-- and the members of each part are those of its DatSet
pub record HasAll (c : Config) (stored : List Stored) (book : Book) (parts : List ReportBlock) : Type 0 where
  pub servable : IsServable c
  pub sets : AreServedSets c book
  pub values : AreHeld c stored
  pub members : HaveMembers (node_rows c) book c parts

pub part-arrives : (c : Config) (b n t : ℕ) (past : Past) (part : ReportBlock) (stored : List Stored) (book : Book) (shapes : List MemberShape) → IsServable c → AreServedSets c book → AreHeld c stored → ValuesStand stored (configured_model c) past
    → shapes ≡ served_members c book part.block.options.dat_set → sets_in book ≡ sets (configured_model c) past → BlockStands part (configured_model c) b past
    → BlockStands (arrived (now past) (max t (now past)) n (all_pieces stored shapes for_integrity) part) (configured_model c) b (arrival n t ∷ past)
part-arrives c b n t past part stored book shapes served booked held values has same st =
    arrival-stands (configured_model c) b t n past part (all_pieces stored shapes for_integrity) st
    (λ ended. all-are c b for_integrity refl past past stored book shapes part.block.options.dat_set served booked held values has (ap (λ (o : Parameters). o.dat_set) st.block.options) same)

pub parts-arrive : (c : Config) (n t : ℕ) (past : Past) (parts : List ReportBlock) (stored : List Stored) (book : Book) → HasAll c stored book parts → ValuesStand stored (configured_model c) past → sets_in book ≡ sets (configured_model c) past
    → BlocksStand (configured_model c) past parts
    → BlocksStand (configured_model c) (arrival n t ∷ past) (arrived_all (node_rows c) book stored (now past) (max t (now past)) n parts)
parts-arrive c n t past parts stored book all values same st = λ b part there.
    let was = got-map (arrived_part (node_rows c) book stored (now past) (max t (now past)) n) parts b part there in
    subst (λ p. BlockStands p (configured_model c) b (arrival n t ∷ past)) was.2
    (part-arrives c b n t past was.0 stored book (members_in (node_rows c) book was.0) all.servable all.sets all.values values (all.members b was.0 was.1) same (st b was.0 was.1))

-- time has passed, up to the moment of a step
pub arrives : (s : State) (c : Config) (n t : ℕ) (past : Past) → HasAll s.config s.stored s.book s.parts → StandsAt s c n past → StandsAt (at_arrival t s) c n (arrival n t ∷ past)
arrives s c n t past all st = record {
  is_config = st.is_config;
  is_steps = st.is_steps;
  is_latest = latest;
  values = values.stands-arrival s.stored (configured_model c) t n past st.values;
  associations = wait.associations;
  groups = settings.arrives (configured_model c) past n t s.groups st.groups;
  controls = subst (λ m. ControlsStand (at_moment m s.controls) (configured_model c) (arrival n t ∷ past)) (sym latest) wait.controls;
  sets = st.sets;
  configured = st.configured;
  blocks = subst (BlocksStand (configured_model c) (arrival n t ∷ past)) (sym same)
      (parts-arrive c n t past s.parts s.stored s.book (subst (λ d. HasAll d s.stored s.book s.parts) st.is_config all) st.values st.sets st.blocks);
} where
  latest : max s.latest t ≡ now (arrival n t ∷ past)
  latest = omega (arith, st.is_latest)

  wait : QueuesStand (record { rows = s.rows; table = at_moment (now (arrival n t ∷ past)) s.controls }) (configured_model c) (arrival n t ∷ past)
  wait = waits.stands-arrival (configured_model c) n t past (queued s) (queues-stand s c n past st)

  same : (at_arrival t s).parts ≡ arrived_all (node_rows c) s.book s.stored (now past) (max t (now past)) n s.parts
  same = ap (λ (d : Config). arrived_all (node_rows d) s.book s.stored s.latest (max s.latest t) s.steps s.parts) st.is_config
      ∙ (ap₂ (λ (was moment : ℕ). arrived_all (node_rows c) s.book s.stored was moment s.steps s.parts) st.is_latest latest
      ∙ ap (λ (k : ℕ). arrived_all (node_rows c) s.book s.stored (now past) (max t (now past)) k s.parts) st.is_steps)

-- the blocks are as many as before
pub arrived-count : (s : State) (t : ℕ) → length (at_arrival t s).parts ≡ length s.parts
arrived-count s t = length-map s.parts (arrived_part (node_rows s.config) s.book s.stored s.latest (max s.latest t) s.steps)

-- all members of a block, as a general interrogation takes them, are those of the model
pub general-are : (s : State) (a : AssocNo) (b : ℕ) (comp : Comp) (v : Value) (part : ReportBlock) → HasAll s.config s.stored s.book s.parts → slice_get s.parts b ≡ Some part → AreGeneral a b comp v part s
general-are s a b comp v part has there = λ c n t past here.
    let all = subst (λ d. HasAll d s.stored s.book s.parts) here.is_config has in
    subst (λ (d : Config). AreOf (all_pieces s.stored (members_in (node_rows d) s.book part) for_general) (all_members (configured_model c) b (record no_reason { gi = true }) past (at n t (wrote a.0 b comp v) ∷ past))) (sym here.is_config)
    (all-are c b for_general refl past (at n t (wrote a.0 b comp v) ∷ past) s.stored s.book (members_in (node_rows c) s.book part) part.block.options.dat_set all.servable all.sets all.values here.values (all.members b part there)
    (ap (λ (o : Parameters). o.dat_set) (here.blocks b part there).block.options) here.sets)

-- ---- the parts fit the configuration then

-- the data set of a part, the memory of what it gathers, and its attributes stay
record IsKept (part new : ReportBlock) : Type 0 where
  set : new.set ≡ part.set
  room : new.window.members ≡ part.window.members
  options : new.block.options ≡ part.block.options

kept-by : (t : Bool) (now step : ℕ) (all : List Piece) (part : ReportBlock) → IsKept part (arrived_if t now step all part)
kept-by true now step all part = record { set = refl; room = refl; options = refl }
kept-by false now step all part = record { set = refl; room = by (is_over now part.window); options = refl } where
  by : (t : Bool) → (if t then closed part.window else part.window).members ≡ part.window.members
  by true = refl
  by false = refl

pub furnished-arrived : (c : Config) (stored lent : List Stored) (book : Book) (parts : List ReportBlock) (w : Watch) (octets kept : Filled ℕ) (room : ℕ) (rows : List NodeRow) (was now step : ℕ)
    → IsFurnished c stored book parts w octets room → kept.room ≡ 129024 → IsFurnished c stored book (arrived_all rows book lent was now step parts) w kept room
furnished-arrived c stored lent book parts w octets kept room rows was now step old entry =
    let same : (p : ReportBlock) → IsKept p (arrived_part rows book lent was now step p) = λ p. kept-by (is_due was now p) now step (all_pieces lent (members_in rows book p) for_integrity) p in
    let f = furnished-map c stored book parts w octets room old (arrived_part rows book lent was now step) (λ p. (same p).set) (λ p. (same p).room) (λ p. (same p).options) in
    record { servable = f.servable; values = f.values; count = f.count; booked = f.booked; sets = f.sets; dat_sets = f.dat_sets; windows = f.windows; watch = f.watch; entry = entry; changes = f.changes }

-- ---- the texts of their reports

block-stays : (t : Bool) (now step : ℕ) (all : List Piece) (part : ReportBlock) → (arrived_if t now step all part).block ≡ part.block
block-stays true now step all part = refl
block-stays false now step all part = refl

-- they are as long as before
pub texts-arrived : (n : ℕ) (rows : List NodeRow) (book : Book) (stored : List Stored) (was now step : ℕ) (parts : List ReportBlock) → All (AreShortTexts n) parts → All (AreShortTexts n) (arrived_all rows book stored was now step parts)
texts-arrived n rows book stored was now step [] all = All-nil (AreShortTexts n)
texts-arrived n rows book stored was now step (p ∷ parts) all =
    let q = arrived_part rows book stored was now step p in
    let same = block-stays (is_due was now p) now step (all_pieces stored (members_in rows book p) for_integrity) p in
    All-cons (AreShortTexts n) q (arrived_all rows book stored was now step parts)
    (subst (λ (k : Block). (length (report_id k.options.rpt_id k.reference) ≤ n) × (length k.options.dat_set ≤ n)) (sym same) (All-head (AreShortTexts n) p parts all))
    (texts-arrived n rows book stored was now step parts (All-tail (AreShortTexts n) p parts all))
