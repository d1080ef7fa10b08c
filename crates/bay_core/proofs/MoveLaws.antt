-- A step of one point: the state of a bay from its arrival to what its deed makes of it.
use Rattle.std.proofs.Common.{◌≡◌, ◌≤◌, ℕ, suc, List, [], ◌∷◌, ◌++◌, None, refl, ap, arith, ◌∙◌, sym, subst}
use Rattle.std.specs.Prelude.{length, max, unwrap_or}
use Rattle.sv_base.specs.declared.config.Config.{Config}
use Rattle.bay_model.specs.Model.{Model, DataSet}
use Rattle.bay_model.specs.Named.{configured_model}
use Rattle.bay_model.specs.Points.{Deed, Point, Past, nothing, now}
use Rattle.bay_model.specs.Values.{gives}
use Rattle.bay_model.specs.Sets.{dynamic}
use Rattle.bay_model.specs.Singles.{arrival}
use Rattle.bay_model.specs.Waiting.{put_by}
use Rattle.bay_model.specs.Answers.{Turn, History, points, turned}
use Rattle.bay_model.specs.Acceptance.{fault}
use Rattle.value_store.specs.Stored.{Stored, attribute}
use Rattle.value_store.specs.Wholes.{Stands as ValuesStand}
use Rattle.value_store.proofs.StandLaws as values
use Rattle.setting_groups.specs.Grouped.{Grouped}
use Rattle.setting_groups.specs.Standing.{IsQuiet, Stands as GroupsStand}
use Rattle.setting_groups.proofs.StandLaws as settings
use Rattle.assoc_table.specs.Seats.{Row}
use Rattle.assoc_table.specs.Coming.{Coming, IsComing, nothing_put, came, IsNumbered}
use Rattle.bay_queues.specs.Queued.{Queued}
use Rattle.bay_queues.specs.Standing.{Stands as QueuesStand, passed_by}
use Rattle.bay_queues.proofs.StandLaws as waits
use Rattle.control_core.specs.Tables.{Table, after_deed}
use Rattle.window_core.specs.Points.{at}
use Rattle.report_block.specs.declared.block.ReportBlock.{ReportBlock}
use Rattle.bay_core.specs.State.{State}
use Rattle.report_block.specs.Standing.{BlocksStand}
use Rattle.report_block.proofs.StandLaws.{again-stands}
use Rattle.bay_core.specs.Standing.{StandsAt, StandsFor}
use Rattle.block_events.proofs.PartLaws.{IsApart, AreLeft, parts-left}

-- a deed that puts nothing, and defines and deletes no data set
pub record IsSilent (m : Model) (n t : ℕ) (d : Deed) (past : Past) : Type 0 where
  pub number : IsNumbered d
  pub puts : (a : ℕ) → put_by m a n d past ≡ []
  pub sets : dynamic (at n t d ∷ past) ≡ dynamic past

-- the associations after a deed that puts nothing
abbrev pub rows_after : Deed → List Row → List Row
rows_after d rows = came d nothing_put rows

-- what waits in a state, and its controls
abbrev pub queued : State → Queued
queued s = record { rows = s.rows; table = s.controls }

pub queues-stand : (s : State) (c : Config) (n : ℕ) (past : Past) → StandsAt s c n past → QueuesStand (queued s) (configured_model c) past
queues-stand s c n past st = record { associations = st.associations; controls = st.controls }

-- after a deed of a step that is being made, which leaves these queues, values, blocks and setting groups
pub came-stand : (s : State) (c : Config) (n t : ℕ) (d : Deed) (past : Past) (q : Queued) (stored : List Stored) (parts : List ReportBlock) (groups : Grouped) → QueuesStand q (configured_model c) (at n t d ∷ past) → dynamic (at n t d ∷ past) ≡ dynamic past
    → ValuesStand stored (configured_model c) (at n t d ∷ past) → BlocksStand (configured_model c) (at n t d ∷ past) parts → GroupsStand groups (configured_model c) (at n t d ∷ past) → StandsAt s c n (arrival n t ∷ past)
    → StandsAt (record s { stored = stored; parts = parts; rows = q.rows; groups = groups; controls = q.table }) c n (at n t d ∷ past)
came-stand s c n t d past q stored parts groups wait same values blocks held st = record {
  is_config = st.is_config;
  is_steps = st.is_steps;
  is_latest = st.is_latest;
  values = values;
  associations = wait.associations;
  groups = held;
  controls = wait.controls;
  sets = st.sets ∙ ap (λ (all : List DataSet). (configured_model c).sets ++ all) (sym same);
  configured = st.configured;
  blocks = blocks;
}

-- which puts this
pub came-with : (s : State) (c : Config) (n t : ℕ) (d : Deed) (past : Past) (k : Coming) (stored : List Stored) (parts : List ReportBlock) (groups : Grouped) → IsComing k (configured_model c) n d past → dynamic (at n t d ∷ past) ≡ dynamic past
    → ValuesStand stored (configured_model c) (at n t d ∷ past) → BlocksStand (configured_model c) (at n t d ∷ past) parts → GroupsStand groups (configured_model c) (at n t d ∷ past) → StandsAt s c n (arrival n t ∷ past)
    → StandsAt (record s { stored = stored; parts = parts; rows = came d k s.rows; groups = groups; controls = after_deed d s.controls }) c n (at n t d ∷ past)
came-with s c n t d past k stored parts groups coming same values blocks held st = came-stand s c n t d past (passed_by d k (queued s)) stored parts groups
    (waits.stands-deed (configured_model c) n t d k past (queued s) (queues-stand s c n (arrival n t ∷ past) st) coming) same values blocks held st

-- which puts nothing
pub came-of : (s : State) (c : Config) (n t : ℕ) (d : Deed) (past : Past) (stored : List Stored) (parts : List ReportBlock) (groups : Grouped) → IsSilent (configured_model c) n t d past
    → ValuesStand stored (configured_model c) (at n t d ∷ past) → BlocksStand (configured_model c) (at n t d ∷ past) parts → GroupsStand groups (configured_model c) (at n t d ∷ past) → StandsAt s c n (arrival n t ∷ past)
    → StandsAt (record s { stored = stored; parts = parts; rows = rows_after d s.rows; groups = groups; controls = after_deed d s.controls }) c n (at n t d ∷ past)
came-of s c n t d past stored parts groups silent values blocks held st = came-with s c n t d past nothing_put stored parts groups
    (record { number = silent.number; puts = silent.puts 0; for_one = λ some. absurd (some refl); for_no_other = λ e other. silent.puts e }) silent.sets values blocks held st

-- and opens, ends and takes nothing and touches no control
pub came-quiet : (s : State) (c : Config) (n t : ℕ) (d : Deed) (past : Past) (stored : List Stored) (parts : List ReportBlock) (groups : Grouped) → IsSilent (configured_model c) n t d past → ((rs : List Row) → rows_after d rs ≡ rs) → ((u : Table) → after_deed d u ≡ u)
    → ValuesStand stored (configured_model c) (at n t d ∷ past) → BlocksStand (configured_model c) (at n t d ∷ past) parts → GroupsStand groups (configured_model c) (at n t d ∷ past) → StandsAt s c n (arrival n t ∷ past)
    → StandsAt (record s { stored = stored; parts = parts; groups = groups }) c n (at n t d ∷ past)
came-quiet s c n t d past stored parts groups silent same stay values blocks held st =
    subst (λ (rs : List Row). StandsAt (record s { stored = stored; parts = parts; rows = rs; groups = groups }) c n (at n t d ∷ past)) (same s.rows)
    (subst (λ (u : Table). StandsAt (record s { stored = stored; parts = parts; rows = rows_after d s.rows; groups = groups; controls = u }) c n (at n t d ∷ past)) (stay s.controls)
    (came-of s c n t d past stored parts groups silent values blocks held st))

-- the step is counted
pub counts : (s : State) (c : Config) (n : ℕ) (past : Past) → StandsAt s c n past → StandsAt (record s { steps = suc s.steps }) c (suc n) past
counts s c n past st = record {
  is_config = st.is_config;
  is_steps = ap suc st.is_steps;
  is_latest = st.is_latest;
  values = st.values;
  associations = st.associations;
  groups = st.groups;
  controls = st.controls;
  sets = st.sets;
  configured = st.configured;
  blocks = st.blocks;
}

-- a further point of the step: its arrival brings nothing
pub again : (s : State) (c : Config) (n t : ℕ) (q : Point) (past : Past) → t ≤ now (q ∷ past) → StandsAt s c n (q ∷ past) → StandsAt s c n (arrival n t ∷ q ∷ past)
again s c n t q past same st =
    let wait = waits.stands-again (configured_model c) n t q past (queued s) same (queues-stand s c n (q ∷ past) st) in record {
      is_config = st.is_config;
      is_steps = st.is_steps;
      is_latest = omega (arith, same, st.is_latest);
      values = st.values;
      associations = wait.associations;
      groups = settings.arrives (configured_model c) (q ∷ past) n t s.groups st.groups;
      controls = wait.controls;
      sets = st.sets;
      configured = st.configured;
      blocks = λ b part there. again-stands (configured_model c) b t n q past part same (st.blocks b part there);
    }

-- after the deed of a step, which leaves these values, blocks and setting groups
pub done : (s : State) (c : Config) (n t : ℕ) (d : Deed) (past : Past) (stored : List Stored) (parts : List ReportBlock) (groups : Grouped) → IsSilent (configured_model c) n t d past
    → ValuesStand stored (configured_model c) (at n t d ∷ past) → BlocksStand (configured_model c) (at n t d ∷ past) parts → GroupsStand groups (configured_model c) (at n t d ∷ past) → StandsAt s c n (arrival n t ∷ past)
    → StandsAt (record s { steps = suc s.steps; stored = stored; parts = parts; rows = rows_after d s.rows; groups = groups; controls = after_deed d s.controls }) c (suc n) (at n t d ∷ past)
done s c n t d past stored parts groups silent values blocks held st =
    counts (record s { stored = stored; parts = parts; rows = rows_after d s.rows; groups = groups; controls = after_deed d s.controls }) c n (at n t d ∷ past) (came-of s c n t d past stored parts groups silent values blocks held st)

-- a step whose deed leaves all values, and the entries of all blocks
pub passed : (s : State) (c : Config) (n t : ℕ) (d : Deed) (past : Past) (parts : List ReportBlock) (groups : Grouped) → IsSilent (configured_model c) n t d past
    → ((x : ℕ) → gives (configured_model c) x d past ≡ None) → IsApart (configured_model c) n t d past → AreLeft d (max t (now past)) s.parts parts → GroupsStand groups (configured_model c) (at n t d ∷ past) → StandsAt s c n (arrival n t ∷ past)
    → StandsAt (record s { steps = suc s.steps; parts = parts; rows = rows_after d s.rows; groups = groups; controls = after_deed d s.controls }) c (suc n) (at n t d ∷ past)
passed s c n t d past parts groups silent same apart left held here =
    done s c n t d past s.stored parts groups silent (values-same here.values) (parts-left (configured_model c) n t d past s.parts parts apart left here.blocks) held here
  where
    values-same : ValuesStand s.stored (configured_model c) (arrival n t ∷ past) → ValuesStand s.stored (configured_model c) (at n t d ∷ past)
    values-same stand = values.stands-deed s.stored s.stored (configured_model c) t n d past stand refl (λ x below. ap (λ o. unwrap_or o (attribute s.stored x).held.value) (sym (same x)))

-- the setting groups stay as they are where the deed isn't one of theirs
pub groups-quiet : (s : State) (c : Config) (n t : ℕ) (d : Deed) (past : Past) → IsQuiet d → StandsAt s c n (arrival n t ∷ past) → GroupsStand s.groups (configured_model c) (at n t d ∷ past)
groups-quiet s c n t d past is here = settings.quiets (configured_model c) past n t d s.groups is (settings.arrived (configured_model c) past n t s.groups here.groups)

-- all blocks stay as they are where the deed isn't one of theirs
pub left-as-they-are : (now : ℕ) (parts : List ReportBlock) → AreLeft nothing now parts parts
left-as-they-are now parts = λ b q there. (q, there, refl)

-- a step that nothing came of
pub still : (s : State) (c : Config) (n t : ℕ) (past : Past) → StandsAt s c n (arrival n t ∷ past) → StandsAt (record s { steps = suc s.steps }) c (suc n) (arrival n t ∷ past)
still s c n t past here = passed s c n t nothing past s.parts s.groups (record { number = tt; puts = λ a. refl; sets = refl }) (λ x. refl)
    (record { address = refl; opens = λ b. tt; note = λ b. refl; cuts = λ b. refl }) (left-as-they-are (max t (now past)) s.parts) (groups-quiet s c n t nothing past tt here) here

-- an accepted step, of a state that is known by an equation
pub accepted-as : (s t u : State) (c : Config) (h : History) (turn : Turn) → StandsFor s c h → fault (configured_model c) h turn ≡ None → t ≡ u
    → StandsAt u c (suc (length h)) (turned (configured_model c) (length h) turn (points (configured_model c) h)) → StandsFor t c (turn ∷ h)
accepted-as s t u c h turn st none is at = ((st.0, none), subst (λ v. StandsAt v c (suc (length h)) (turned (configured_model c) (length h) turn (points (configured_model c) h))) (sym is) at)

-- a step that nothing came of; the second state is that at its arrival
pub still-for : (s a t : State) (c : Config) (h : History) (turn : Turn) → StandsAt a c (length h) (arrival (length h) turn.moment ∷ points (configured_model c) h) → t ≡ record a { steps = suc a.steps } → StandsFor s c h
    → fault (configured_model c) h turn ≡ None → turned (configured_model c) (length h) turn (points (configured_model c) h) ≡ arrival (length h) turn.moment ∷ points (configured_model c) h → StandsFor t c (turn ∷ h)
still-for s a t c h turn here is st none quiet = accepted-as s t (record a { steps = suc a.steps }) c h turn st none is
    (subst (λ past. StandsAt (record a { steps = suc a.steps }) c (suc (length h)) past) (sym quiet) (still a c (length h) turn.moment (points (configured_model c) h) here))
