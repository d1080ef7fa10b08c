-- A point at which the process sets attributes: each block gets the entry of its events.
use Rattle.std.proofs.Common.{true, false, ◌≡◌, ◌≤◌, ℕ, suc, max, List, [], ◌∷◌, length, map, slice_index_or, refl, ap, ap₂, sym, ◌∙◌, subst, arith}
use Rattle.std.specs.List.{All}
use Rattle.std.proofs.lemmas.Option.{slice_get-get_or}
use Rattle.list_laws.proofs.Places.{got-map}
use Rattle.sv_base.specs.declared.config.Config.{Config}
use Rattle.bay_model.specs.declared.flags.Change.{Change}
use Rattle.bay_model.specs.declared.note.Mention.{Mention}
use Rattle.bay_model.specs.declared.report.Reasons.{Reasons}
use Rattle.bay_model.specs.declared.step.Setting.{Setting}
use Rattle.bay_model.specs.declared.tables.MemberShape.{MemberShape}
use Rattle.bay_model.specs.declared.tables.NodeRow.{NodeRow}
use Rattle.object_model.specs.Nodes.{node_rows}
use Rattle.data_sets.specs.Books.{Book}
use Rattle.bay_model.specs.declared.step.Step.TheVariants as steps
use Rattle.bay_model.specs.Answers.{History, points}
use Rattle.bay_model.specs.Lookups.{node_of}
use Rattle.bay_model.specs.Model.{Parameters}
use Rattle.bay_model.specs.Named.{configured_model}
use Rattle.bay_model.specs.Notes.{note, note_by, union_of}
use Rattle.bay_model.specs.Parameters.{parameters_at, is_interrogation, is_purging_change, purges}
use Rattle.bay_model.specs.Singles.{arrival}
use Rattle.bay_model.specs.Points.{Deed, Past, now, valued, put}
use Rattle.sv_base.specs.Filled.{Filled}
use Rattle.bay_model.specs.Sets.{members, sets as model_sets}
use Rattle.object_model.specs.Fits.{fits}
use Rattle.trigger_core.specs.Noted.{noted}
use Rattle.trigger_core.specs.Points.{AreChanges, mention, trg_of}
use Rattle.trigger_core.proofs.NoteLaws.{note_is_noted}
use Rattle.value_store.specs.Stored.{Stored, attribute}
use Rattle.value_store.specs.Wholes.{Stands as ValuesStand}
use Rattle.setting_groups.specs.Grouped.{Grouped, after_values}
use Rattle.setting_groups.specs.Standing.{Stands as GroupsStand}
use Rattle.setting_groups.proofs.StandLaws.{arrived}
use Rattle.setting_groups.proofs.ValueLaws.{values as values-put}
use Rattle.report_block.specs.declared.block.ReportBlock.{ReportBlock}
use Rattle.bay_values.specs.Changed.{last_set, AreMade, AreFit}
use Rattle.block_events.specs.Events.{mentions_of, after_event, after_events, IsReady, AreReady}
use Rattle.window_core.specs.Points.{at}
use Rattle.window_core.specs.Standing.{piece_of}
use Rattle.window_core.specs.Pieces.{Piece}
use Rattle.report_block.specs.Coming.{noting}
use Rattle.report_block.specs.Events.{after_noting, pieces_of}
use Rattle.report_block.specs.Standing.{Stands as BlockStands, BlocksStand, AreKeptMembers}
use Rattle.brcb_state.specs.Standing.{after_deed, writers_address, OpensNoEnabler}
use Rattle.brcb_state.specs.declared.block.Block.{Block}
use Rattle.assoc_table.specs.Seats.{Row}
use Rattle.sv_base.specs.declared.value.Value.{Value}
use Rattle.bay_model.specs.Model.{Model}
use Rattle.report_block.proofs.PassLaws.{event-came}
use Rattle.report_block.proofs.StandLaws.{deed-stands}
use Rattle.report_block.specs.EntryOctets.{IsWritable}
use Rattle.bay_config.specs.Servable.{IsServable}
use Rattle.bay_core.specs.Standing.{StandsAt, StandsFor}
use Rattle.block_watch.specs.Served.{AreServedSets}
use Rattle.bay_core.specs.State.{State, IsFurnished}
use Rattle.bay_values.specs.Held.{AreHeld}
use Rattle.block_watch.specs.declared.watch.Watch.{Watch}
use Rattle.block_watch.specs.Watched.{IsIndexed, IsLent, IsWatching, AreBlank, members_in}
use Rattle.std.proofs.lemmas.List.{length-map}
use Rattle.block_watch.proofs.BookLaws.{part-lent, part-members}
use Rattle.bay_core.proofs.ArriveLaws.{HaveMembers}
use Rattle.bay_values.proofs.ChangeLaws.{Sets, IsThere, values-stand, are-changes, settings-there, typed-settings, held-after}
use Rattle.block_events.proofs.EventLaws.{note-kept, note-readable, all-writable}
use Rattle.bay_core.proofs.FurnishLaws.{furnished-map}
use Rattle.control_core.specs.Tables as tables
use Rattle.control_core.specs.Tables.{Table}
use Rattle.bay_core.proofs.MoveLaws.{IsSilent, rows_after, came-quiet, counts, accepted-as}
use Rattle.block_watch.proofs.ShapeLaws.{AreServed, node_shapes, nodes_named, served-few, served_members, served-set, sets_in, members-named, are-shapes}
use Rattle.list_laws.proofs.Truths.{never as off}

-- The deed sets attributes, as these settings have it: it is an event of the blocks, and touches nothing else.
pub record IsSetting (m : Model) (n t : ℕ) (d : Deed) (past : Past) (settings : List Setting) : Type 0 where
  pub sets : Sets m d past settings
  pub is_noted : (b : ℕ) → note m b (at n t d) past ≡ note_by m b (at n t d) past
  pub general : (b : ℕ) → false ≡ is_interrogation b d
  pub purge : (b : ℕ) → false ≡ purges m b d past
  pub change : (b : ℕ) → false ≡ is_purging_change m b d past
  pub address : [] ≡ writers_address d past
  pub opens : (b : ℕ) → OpensNoEnabler b d past
  pub block : (b front now : ℕ) (k : Block) → after_deed b d front now [] k ≡ k
  pub silent : IsSilent m n t d past
  pub rows : (rs : List Row) → rows_after d rs ≡ rs
  pub controls : (u : Table) → tables.after_deed d u ≡ u

pub process-sets : (m : Model) (n t : ℕ) (settings : List Setting) (past : Past) → IsSetting m n t (valued settings) past settings
process-sets m n t settings past = record {
  sets = λ x. refl;
  is_noted = λ b. refl;
  general = λ b. refl;
  purge = λ b. refl;
  change = λ b. refl;
  address = refl;
  opens = λ b. tt;
  block = λ b front now k. refl;
  silent = record { number = tt; puts = λ a. refl; sets = refl };
  rows = λ rs. refl;
  controls = λ u. refl;
}

-- a client's write of an attribute
abbrev pub one_set : ℕ → Value → List Setting
one_set x v = record { attr = record { 0 = x }; value = v } ∷ []

pub client-sets : (m : Model) (n t a x : ℕ) (v : Value) (past : Past) → IsSetting m n t (put a x v) past (one_set x v)
client-sets m n t a x v past = record {
  sets = λ y. refl;
  is_noted = λ b. refl;
  general = λ b. refl;
  purge = λ b. refl;
  change = λ b. refl;
  address = refl;
  opens = λ b. tt;
  block = λ b front now k. refl;
  silent = record { number = tt; puts = λ e. refl; sets = refl };
  rows = λ rs. refl;
  controls = λ u. refl;
}

-- ---- a block

module _ (c : Config) (b n t : ℕ) (d : Deed) (settings : List Setting) (past : Past) (part : ReportBlock) (book : Book) (shapes : List MemberShape) (stored : List Stored) (changes : List Change) (served : IsServable c) (booked : AreServedSets c book) (held : AreHeld c stored)
    (sets : IsSetting (configured_model c) n t d past settings) (values : ValuesStand stored (configured_model c) (at n t d ∷ past)) (made : AreChanges (configured_model c) d past changes)
    (has : shapes ≡ served_members c book part.block.options.dat_set) (same : sets_in book ≡ model_sets (configured_model c) past) (st : BlockStands part (configured_model c) b (arrival n t ∷ past)) where
  nodes-same : members (configured_model c) b past ≡ nodes_named (sets_in book) part.block.options.dat_set
  nodes-same = members-named (configured_model c) b past book part.block.options.dat_set (ap (λ (o : Parameters). o.dat_set) st.block.options) same

  nodes-served : AreServed c (members (configured_model c) b past)
  nodes-served = subst (AreServed c) (sym nodes-same) (served-set c book part.block.options.dat_set booked)

  shapes-are : shapes ≡ node_shapes c (members (configured_model c) b past)
  shapes-are = has ∙ ap (node_shapes c) (sym nodes-same)

  mentions-are : mentions_of changes shapes part ≡ map mention (note (configured_model c) b (at n t d) past)
  mentions-are = ap₂ (λ (o : Parameters) (l : List MemberShape). noted changes (trg_of o.trg_ops) 1 l) st.block.options shapes-are
      ∙ note_is_noted (configured_model c) b (at n t d) past changes (node_shapes c (members (configured_model c) b past)) made (are-shapes c (members (configured_model c) b past) nodes-served.members)

  -- why each node is a member of the note
  abbrev reasons : ℕ → Reasons
  reasons k = union_of (configured_model c) (parameters_at (configured_model c) b past).trg_ops d past (node_of (configured_model c) k).attrs

  pieces-are : pieces_of stored shapes (mentions_of changes shapes part) ≡ map piece_of (note (configured_model c) b (at n t d) past)
  pieces-are = ap₂ (λ (l : List MemberShape) (ms : List Mention). pieces_of stored l ms) shapes-are mentions-are
      ∙ subst (λ ks. pieces_of stored (node_shapes c (members (configured_model c) b past)) (map mention ks) ≡ map piece_of ks) (sym (sets.is_noted b))
      (note-kept c stored (at n t d ∷ past) (members (configured_model c) b past) served held values nodes-served reasons)

  pub part-set : BlockStands (after_noting (max t (now past)) n (pieces_of stored shapes (mentions_of changes shapes part)) part) (configured_model c) b (at n t d ∷ past)
  part-set =
      let ps = pieces_of stored shapes (mentions_of changes shapes part) in
      subst (λ x. BlockStands x (configured_model c) b (at n t d ∷ past)) (event-came b d (max t (now past)) n ps part (sets.block b part.ring.front (max t (now past)) part.block))
      (deed-stands (configured_model c) b t n d past part (noting ps) st (record {
        address = sets.address;
        opens = sets.opens b;
        note = record { are = pieces-are; readable = subst AreKeptMembers (sym (sets.is_noted b)) (note-readable c stored (at n t d ∷ past) (members (configured_model c) b past) served held values nodes-served reasons) };
        general = sets.general b;
        all = λ is. off (sets.general b ∙ is);
        purge = sets.purge b;
        change = sets.change b;
      }))

-- ---- all blocks

module _ (rows : List NodeRow) (book : Book) where
  parts-set : (c : Config) (n t : ℕ) (d : Deed) (settings : List Setting) (past : Past) (parts : List ReportBlock) (stored : List Stored) (changes : List Change) → IsServable c → AreServedSets c book → AreHeld c stored
      → IsSetting (configured_model c) n t d past settings → ValuesStand stored (configured_model c) (at n t d ∷ past) → AreChanges (configured_model c) d past changes
      → HaveMembers rows book c parts → sets_in book ≡ model_sets (configured_model c) past → BlocksStand (configured_model c) (arrival n t ∷ past) parts
      → BlocksStand (configured_model c) (at n t d ∷ past) (after_events rows book stored changes (max t (now past)) n parts)
  parts-set c n t d settings past parts stored changes served booked held sets values made has same st = λ b part there.
      let was = got-map (after_event rows book stored changes (max t (now past)) n) parts b part there in
      subst (λ x. BlockStands x (configured_model c) b (at n t d ∷ past)) was.2
      (part-set c b n t d settings past was.0 book (members_in rows book was.0) stored changes served booked held sets values made (has b was.0 was.1) same (st b was.0 was.1))

module _ (rows : List NodeRow) where
  -- what the setting makes of the state at its arrival
  abbrev pub set_at : State → List Stored → Grouped → List Change → State
  set_at a stored groups changes = record a { stored = stored; parts = after_events rows a.book stored changes a.latest a.steps a.parts; groups = groups }

  pub stands-set : (a : State) (c : Config) (n t : ℕ) (d : Deed) (settings : List Setting) (past : Past) (stored : List Stored) (groups : Grouped) (changes : List Change) → IsServable c → AreServedSets c a.book → AreHeld c stored
      → IsSetting (configured_model c) n t d past settings → All (IsThere a.stored) settings
      → HaveMembers rows a.book c a.parts → ((x : ℕ) → attribute stored x ≡ last_set settings x (attribute a.stored x)) → length stored ≡ length a.stored → AreMade c a.stored settings changes
      → GroupsStand groups (configured_model c) (at n t d ∷ past) → StandsAt a c n (arrival n t ∷ past) → StandsAt (set_at a stored groups changes) c n (at n t d ∷ past)
  stands-set a c n t d settings past stored groups changes served booked held sets there has set count made grouped here =
      let m = configured_model c in
      let values = values-stand m n t d past a.stored stored settings sets.sets here.values set count in
      let are = are-changes c d past a.stored settings changes sets.sets here.values there made in
      let after : List ReportBlock = after_events rows a.book stored changes a.latest a.steps a.parts in
      came-quiet a c n t d past stored after groups sets.silent sets.rows sets.controls values
      (subst (BlocksStand m (at n t d ∷ past)) (ap₂ (λ (now step : ℕ). after_events rows a.book stored changes now step a.parts) (sym here.is_latest) (sym here.is_steps))
      (parts-set rows a.book c n t d settings past a.parts stored changes served booked held sets values are has here.sets here.blocks)) grouped here

  -- the same of a step of a history, with what is known of the configuration that the state has
  pub set-for : (s a t : State) (c : Config) (h : History) (moment actor : ℕ) (settings : List Setting) (stored : List Stored) (changes : List Change)
      → IsServable a.config → AreServedSets a.config a.book → AreHeld a.config stored → AreFit a.stored settings → HaveMembers rows a.book a.config a.parts
      → ((x : ℕ) → attribute stored x ≡ last_set settings x (attribute a.stored x)) → length stored ≡ length a.stored → AreMade a.config a.stored settings changes
      → StandsAt a c (length h) (arrival (length h) moment ∷ points (configured_model c) h) → t ≡ record (set_at a stored (after_values settings a.groups) changes) { steps = suc a.steps } → StandsFor s c h
      → StandsFor t c (record { moment = moment; actor = actor; step = steps.Value settings } ∷ h)
  set-for s a t c h moment actor settings stored changes served booked held fit has set count made here is st =
      let same = here.is_config in
      let past : Past = points (configured_model c) h in
      let point : Past = at (length h) moment (valued settings) ∷ past in
      accepted-as s t (record (set_at a stored (after_values settings a.groups) changes) { steps = suc a.steps }) c h (record { moment = moment; actor = actor; step = steps.Value settings }) st refl is
      (counts (set_at a stored (after_values settings a.groups) changes) c (length h) point
      (stands-set a c (length h) moment (valued settings) settings past stored (after_values settings a.groups) changes (subst IsServable same served) (subst (λ q. AreServedSets q a.book) same booked) (subst (λ q. AreHeld q stored) same held)
      (process-sets (configured_model c) (length h) moment settings past) (settings-there a.config a.stored settings fit)
      (subst (λ q. HaveMembers rows a.book q a.parts) same has) set count (subst (λ q. AreMade q a.stored settings changes) same made)
      (values-put (configured_model c) past (length h) moment a.groups (arrived (configured_model c) past (length h) moment a.groups here.groups) settings) here))

-- ---- the parts fit the configuration afterwards

-- each attribute keeps a value of its type
pub held-set : (s : State) (c : Config) (old new : List Stored) (settings lent : List Setting) → c ≡ s.config → fits s.config (steps.Value settings) ≡ true → AreHeld c old → lent ≡ settings
    → ((x : ℕ) → attribute new x ≡ last_set lent x (attribute old x)) → length new ≡ length old → AreHeld c new
held-set s c old new settings lent is fit held same set count =
    held-after c old new settings held (typed-settings c settings (ap (λ q. fits q (steps.Value settings)) is ∙ fit)) (λ x. set x ∙ ap (λ l. last_set l x (attribute old x)) same) count

-- the memory of what is gathered stays
same-window : (moment step : ℕ) (part : ReportBlock) (ps : List Piece) → (after_noting moment step ps part).window.members ≡ part.window.members
same-window moment step part [] = refl
same-window moment step part (p ∷ ps) = refl

pub furnished-all : (c : Config) (book : Book) (old stored lent : List Stored) (parts : List ReportBlock) (w v : Watch) (octets kept : Filled ℕ) (room more : ℕ) (changes : List Change) (rows : List NodeRow) (moment step : ℕ)
    → IsFurnished c old book parts w octets room → AreHeld c stored → length stored ≡ length old → v ≡ record w { notes = v.notes } → AreBlank (length parts) v.notes → kept.room ≡ 129024 → room ≤ more
    → IsFurnished c stored book (after_events rows book lent changes moment step parts) v kept more
furnished-all c book old stored lent parts w v octets kept room more changes rows moment step was held same is blank entry grew =
    let after = after_event rows book lent changes moment step in
    let shapes = members_in rows book in
    let f = furnished-map c old book parts w octets room was after (λ p. refl) (λ p. same-window moment step p (pieces_of lent (shapes p) (mentions_of changes (shapes p) p))) (λ p. refl) in
    record {
      servable = was.servable;
      values = held;
      count = f.count;
      booked = f.booked;
      sets = f.sets;
      dat_sets = f.dat_sets;
      windows = f.windows;
      watch = subst (IsWatching (node_rows c) book (length stored) (map after parts)) (sym is) (record {
        index = subst (λ n. IsIndexed (node_rows c) book n (map after parts) w.index) (sym same) f.watch.index;
        options = f.watch.options;
        notes = subst (λ n. AreBlank n v.notes) (sym (length-map parts after)) blank;
      });
      entry = entry;
      changes = omega (arith, was.changes, same, grew);
    }

-- each part has capacity for its entry
ready-at : (c : Config) (rows : List NodeRow) (book : Book) (stored : List Stored) (part : ReportBlock) → IsServable c → AreServedSets c book → AreHeld c stored → IsLent rows book part → members_in rows book part ≡ served_members c book part.block.options.dat_set
    → part.window.members ≡ 256 → IsReady rows book stored part
ready-at c rows book stored part served booked held lent has rooms =
    let reference = part.block.options.dat_set in
    let are = served-set c book reference booked in
    record {
      lent = lent;
      few = omega (arith, served-few c book booked reference, ap length has);
      writable = subst (All (IsWritable stored)) (sym has) (all-writable c stored (nodes_named (sets_in book) reference) served held are.members);
      within = omega (arith, served-few c book booked reference, ap length has, rooms);
      gathers = omega (arith, rooms);
    }

pub are-ready : (c : Config) (rows : List NodeRow) (old stored : List Stored) (book : Book) (parts : List ReportBlock) (w : Watch) (octets : Filled ℕ) (room : ℕ) → rows ≡ node_rows c → IsFurnished c old book parts w octets room → AreHeld c stored
    → AreReady rows book stored parts
are-ready c rows old stored book parts w octets room same was held = subst (λ all. AreReady all book stored parts) (sym same) (λ b d below.
    let part = slice_index_or parts b d in
    let has = was.sets b part (slice_get-get_or parts b d below) in
    ready-at c (node_rows c) book stored part was.servable was.booked.served held (part-lent c book was.booked.served part has) (part-members c book was.booked.served part has) (was.windows b part (slice_get-get_or parts b d below)))

-- and the members of the data set that its DatSet names
pub have-members : (c : Config) (rows : List NodeRow) (stored : List Stored) (book : Book) (parts : List ReportBlock) (w : Watch) (octets : Filled ℕ) (room : ℕ) → rows ≡ node_rows c → IsFurnished c stored book parts w octets room → HaveMembers rows book c parts
have-members c rows stored book parts w octets room same was = subst (λ all. HaveMembers all book c parts) (sym same) (λ b part at. part-members c book was.booked.served part (was.sets b part at))
