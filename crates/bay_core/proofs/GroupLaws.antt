-- Writes of setting groups: what the bay makes of them is what the definitions have.
use Rattle.std.proofs.Common.{◌≡◌, ◌<◌, ◌∙◌, ℕ, suc, Bool, true, false, List, [], ◌∷◌, None, Result, Ok, Err, length, refl, ap, ap₂, sym, subst, arith, unwrap_or, not, true≢false}
use Rattle.std.specs.Prelude.{◌&&◌, ◌+◌, max, is_some, if◌then◌else◌, OnOk, OnErr}
use Rattle.std.specs.List.{All}
use Rattle.std.specs.Option.{option_map_or}
use Rattle.sv_base.specs.Same.{is_same}
use Rattle.sv_base.specs.declared.config.Config.{Config}
use Rattle.sv_base.specs.declared.value.Value.{Value}
use Rattle.sv_base.specs.declared.value.Value.TheVariants as kinds
use Rattle.sv_base.specs.declared.components.SettingComp.{SettingComp}
use Rattle.sv_base.specs.declared.components.SettingComp.TheVariants.{NumOfSG, ActSG, EditSG, CnfEdit, LActTm}
use Rattle.bay_model.specs.declared.flags.Change.{Change}
use Rattle.bay_model.specs.declared.report.Reasons.{Reasons}
use Rattle.bay_model.specs.declared.tables.NodeRow.{NodeRow}
use Rattle.bay_model.specs.Breaks.{cuts}
use Rattle.bay_model.specs.Lookups.{attr_of, groups_of, node_of}
use Rattle.bay_model.specs.Model as model
use Rattle.bay_model.specs.Model.{Model}
use Rattle.bay_model.specs.Named.{configured_model}
use Rattle.bay_model.specs.NamedLines.{generated}
use Rattle.bay_model.specs.Notes.{note, note_by, noted, no_reason, reasons_of, union, union_of}
use Rattle.bay_model.specs.Outcomes.{Outcome, did, refused, outcome_by}
use Rattle.bay_model.specs.Parameters.{bit, is_interrogation, is_purging_change, parameters_at, purges}
use Rattle.bay_model.specs.Points.{Deed, Past, now, activated, copied, edited, confirmed, nothing}
use Rattle.bay_model.specs.Sets.{members}
use Rattle.bay_model.specs.Settings.{set_to}
use Rattle.bay_model.specs.SettingWrites.{write_attribute, write_part}
use Rattle.bay_model.specs.Singles.{arrival}
use Rattle.bay_model.specs.Values.{gives, value_at}
use Rattle.object_model.specs.Fits.{is_sound}
use Rattle.brcb_state.specs.Standing.{after_deed, writers_address, OpensNoEnabler}
use Rattle.brcb_state.specs.declared.block.Block.{Block}
use Rattle.assoc_table.specs.Seats.{Row}
use Rattle.report_block.specs.declared.block.ReportBlock.{ReportBlock}
use Rattle.value_store.specs.Stored.{Stored, attribute}
use Rattle.value_store.proofs.StandLaws as values
use Rattle.window_core.specs.Points.{at}
use Rattle.setting_groups.specs.Frames.{IsComplete}
use Rattle.setting_groups.specs.Grouped.{Grouped, after_copy, copy_answer, domain_at, edit_answer, holds, setting_at}
use Rattle.setting_groups.specs.Loaded.{active_settings}
use Rattle.setting_groups.specs.Parts.{after_part, part_answer, part_deed, told}
use Rattle.setting_groups.specs.Standing.{IsTwin, Stands as GroupsStand}
use Rattle.setting_groups.proofs.FirstLaws.{complete, domain-within, is-twin, settings-count, twin-edited}
use Rattle.setting_groups.proofs.FrameLaws.{fit-copy, fit-part}
use Rattle.setting_groups.proofs.LoadLaws.{part-gives}
use Rattle.setting_groups.proofs.PartLaws.{answered, confirm-held, copy-written, part-stands}
use Rattle.setting_groups.proofs.SettingLaws.{copies}
use Rattle.setting_groups.proofs.StandLaws.{arrived}
use Rattle.bay_config.specs.Servable.{IsServable}
use Rattle.bay_replies.specs.Given.{copies_from}
use Rattle.bay_values.specs.Changed.{AreMade, AreTyped, last_set}
use Rattle.bay_values.specs.Held.{AreGrouped, AreHeld, IsSoundCell}
use Rattle.bay_values.proofs.ChangeLaws.{IsThere, held-after}
use Rattle.bay_values.proofs.GroupLaws.{active-typed, copy-sound}
use Rattle.bay_core.specs.Asked.{IsWrite}
use Rattle.bay_core.specs.Standing.{StandsAt}
use Rattle.block_watch.specs.Served.{AreServedSets}
use Rattle.bay_core.specs.State.{State}
use Rattle.bay_core.proofs.ArriveLaws.{HaveMembers}
use Rattle.control_core.specs.Tables as tables
use Rattle.control_core.specs.Tables.{Table}
use Rattle.bay_core.proofs.MoveLaws.{IsSilent, again, came-quiet, rows_after}
use Rattle.block_events.proofs.PartLaws.{parts-left}
use Rattle.bay_core.proofs.SettingLaws.{IsSetting, set_at, stands-set}
use Rattle.bay_core.proofs.SingleLaws.{by-outcome, refused-write}
use Rattle.list_laws.proofs.Truths.{and-none}

-- ---- deeds of setting groups

-- a deed that puts nothing, writes no component, opens no association, and breaks and changes no block
pub record IsOfGroups (m : Model) (n t : ℕ) (d : Deed) (past : Past) : Type 0 where
  pub silent : IsSilent m n t d past
  pub rows : (rs : List Row) → rows_after d rs ≡ rs
  pub controls : (u : Table) → tables.after_deed d u ≡ u
  pub address : [] ≡ writers_address d past
  pub opens : (b : ℕ) → OpensNoEnabler b d past
  pub block : (b front now : ℕ) (k : Block) → after_deed b d front now [] k ≡ k
  pub general : (b : ℕ) → false ≡ is_interrogation b d
  pub purge : (b : ℕ) → false ≡ purges m b d past
  pub change : (b : ℕ) → false ≡ is_purging_change m b d past
  pub cuts : (b : ℕ) → cuts m b d past ≡ false

of-act : (m : Model) (n t a d g : ℕ) (past : Past) → IsOfGroups m n t (activated a d g) past
of-act m n t a d g past = record { silent = record { number = tt; puts = λ e. refl; sets = refl }; rows = λ rs. refl; controls = λ u. refl; address = refl; opens = λ b. tt; block = λ b front now k. refl; general = λ b. refl; purge = λ b. refl; change = λ b. refl; cuts = λ b. refl }

of-edit : (m : Model) (n t a d g : ℕ) (past : Past) → IsOfGroups m n t (edited a d g) past
of-edit m n t a d g past = record { silent = record { number = tt; puts = λ e. refl; sets = refl }; rows = λ rs. refl; controls = λ u. refl; address = refl; opens = λ b. tt; block = λ b front now k. refl; general = λ b. refl; purge = λ b. refl; change = λ b. refl; cuts = λ b. refl }

of-confirm : (m : Model) (n t a d : ℕ) (past : Past) → IsOfGroups m n t (confirmed a d) past
of-confirm m n t a d past = record { silent = record { number = tt; puts = λ e. refl; sets = refl }; rows = λ rs. refl; controls = λ u. refl; address = refl; opens = λ b. tt; block = λ b front now k. refl; general = λ b. refl; purge = λ b. refl; change = λ b. refl; cuts = λ b. refl }

of-nothing : (m : Model) (n t : ℕ) (past : Past) → IsOfGroups m n t nothing past
of-nothing m n t past = record { silent = record { number = tt; puts = λ e. refl; sets = refl }; rows = λ rs. refl; controls = λ u. refl; address = refl; opens = λ b. tt; block = λ b front now k. refl; general = λ b. refl; purge = λ b. refl; change = λ b. refl; cuts = λ b. refl }

of-copy : (m : Model) (n t a x : ℕ) (v : Value) (past : Past) → IsOfGroups m n t (copied a x v) past
of-copy m n t a x v past = record { silent = record { number = tt; puts = λ e. refl; sets = refl }; rows = λ rs. refl; controls = λ u. refl; address = refl; opens = λ b. tt; block = λ b front now k. refl; general = λ b. refl; purge = λ b. refl; change = λ b. refl; cuts = λ b. refl }

of-confirmed : (m : Model) (n t a d : ℕ) (on : Bool) (past : Past) → IsOfGroups m n t (if on then confirmed a d else nothing) past
of-confirmed m n t a d true past = of-confirm m n t a d past
of-confirmed m n t a d false past = of-nothing m n t past

of-part : (m : Model) (n t a d : ℕ) (part : SettingComp) (v : Value) (past : Past) → IsOfGroups m n t (part_deed a d part v) past
of-part m n t a d NumOfSG v past = of-nothing m n t past
of-part m n t a d ActSG v past = of-act m n t a d _ past
of-part m n t a d EditSG v past = of-edit m n t a d _ past
of-part m n t a d CnfEdit v past = of-confirmed m n t a d _ past
of-part m n t a d LActTm v past = of-nothing m n t past

-- ---- a point that gives no attribute anything is no event

module _ (m : Model) (deed : Deed) (before : Past) (none : (x : ℕ) → gives m x deed before ≡ None) where
  reasons-none : (trg : List Bool) (x : ℕ) → reasons_of m trg deed before x ≡ no_reason
  reasons-none trg x =
      let a = attr_of m x in
      ap (λ o. record {
        dchg = a.dchg && bit 1 trg && option_map_or (λ v. not (is_same v (value_at m x before))) o false;
        qchg = a.qchg && bit 2 trg && option_map_or (λ v. not (is_same v (value_at m x before))) o false;
        dupd = a.dupd && bit 3 trg && is_some o;
        intg = false;
        gi = false;
      }) (none x)
      ∙ (ap (λ (b : Bool). record { dchg = b; qchg = a.qchg && bit 2 trg && false; dupd = a.dupd && bit 3 trg && false; intg = false; gi = false }) (and-none a.dchg (bit 1 trg))
      ∙ (ap (λ (b : Bool). record { dchg = false; qchg = b; dupd = a.dupd && bit 3 trg && false; intg = false; gi = false }) (and-none a.qchg (bit 2 trg))
      ∙ ap (λ (b : Bool). record { dchg = false; qchg = false; dupd = b; intg = false; gi = false }) (and-none a.dupd (bit 3 trg))))

  unions-none : (trg : List Bool) (xs : List ℕ) → union_of m trg deed before xs ≡ no_reason
  unions-none trg [] = refl
  unions-none trg (x ∷ xs) = ap₂ union (reasons-none trg x) (unions-none trg xs)

  noted-none : (reasons : ℕ → Reasons) (past : Past) (i : ℕ) (ns : List ℕ) → ((k : ℕ) → reasons k ≡ no_reason) → noted m reasons past i ns ≡ []
  noted-none reasons past i [] are = refl
  noted-none reasons past i (k ∷ ns) are = rw (are k) (noted-none reasons past (suc i) ns are)

  note-none : (b n t : ℕ) → note_by m b (at n t deed) before ≡ []
  note-none b n t = noted-none (λ k. union_of m (parameters_at m b before).trg_ops deed before (node_of m k).attrs) (at n t deed ∷ before) 1 (members m b before) (λ k. unions-none (parameters_at m b before).trg_ops (node_of m k).attrs)

-- the note of a write that sets nothing
quiet-note : (m : Model) (a d b n t : ℕ) (part : SettingComp) (v : Value) (before : Past) → ((x : ℕ) → gives m x (part_deed a d part v) before ≡ None) → note m b (at n t (part_deed a d part v)) before ≡ []
quiet-note m a d b n t NumOfSG v before none = refl
quiet-note m a d b n t ActSG v before none = note-none m (part_deed a d ActSG v) before none b n t
quiet-note m a d b n t EditSG v before none = refl
quiet-note m a d b n t CnfEdit v before none = by v none
  where
    by : (v : Value) → ((x : ℕ) → gives m x (part_deed a d CnfEdit v) before ≡ None) → note m b (at n t (part_deed a d CnfEdit v)) before ≡ []
    by (kinds.Bool true) none = note-none m (confirmed a d) before none b n t
    by (kinds.Bool false) none = refl
    by (kinds.Int z) none = refl
    by (kinds.Uint k) none = refl
    by (kinds.Bits bs) none = refl
    by (kinds.Time u) none = refl
    by (kinds.Stamp u) none = refl
    by (kinds.Text u) none = refl
    by (kinds.Octets o) none = refl
    by (kinds.Struct vs) none = refl
    by kinds.Other none = refl
quiet-note m a d b n t LActTm v before none = refl

-- of one that sets attributes
no-code : (code : ℕ) (b : Bool) → ◌≡◌ {A = Result Bool ℕ} (Err code) (Ok b) → ⊥
no-code code b is = cc

none-told : (r : Result (Unit {0}) ℕ) → told false r ≡ Ok true → ⊥
none-told (Ok u) is = cc
none-told (Err code) is = cc

set-note : (m : Model) (s : Grouped) (a d b n t : ℕ) (part : SettingComp) (v : Value) (before : Past) → part_answer a (domain_at s d) part v ≡ Ok true → note m b (at n t (part_deed a d part v)) before ≡ note_by m b (at n t (part_deed a d part v)) before
set-note m s a d b n t NumOfSG v before is = absurd (no-code _ true is)
set-note m s a d b n t ActSG v before is = refl
set-note m s a d b n t EditSG v before is = absurd (none-told (edit_answer a (domain_at s d) v) is)
set-note m s a d b n t CnfEdit (kinds.Bool true) before is = refl
set-note m s a d b n t CnfEdit (kinds.Bool false) before is = absurd (true≢false (confirm-held a (domain_at s d).edit false true is).1)
set-note m s a d b n t CnfEdit (kinds.Int z) before is = absurd (no-code 7 true is)
set-note m s a d b n t CnfEdit (kinds.Uint k) before is = absurd (no-code 7 true is)
set-note m s a d b n t CnfEdit (kinds.Bits bs) before is = absurd (no-code 7 true is)
set-note m s a d b n t CnfEdit (kinds.Time u) before is = absurd (no-code 7 true is)
set-note m s a d b n t CnfEdit (kinds.Stamp u) before is = absurd (no-code 7 true is)
set-note m s a d b n t CnfEdit (kinds.Text u) before is = absurd (no-code 7 true is)
set-note m s a d b n t CnfEdit (kinds.Octets o) before is = absurd (no-code 7 true is)
set-note m s a d b n t CnfEdit (kinds.Struct vs) before is = absurd (no-code 7 true is)
set-note m s a d b n t CnfEdit kinds.Other before is = absurd (no-code 7 true is)
set-note m s a d b n t LActTm v before is = absurd (no-code _ true is)

-- ---- a state whose groups were written

module _ (z : State) (c : Config) (n t : ℕ) (d : Deed) (past : Past) (groups : Grouped) (of : IsOfGroups (configured_model c) n t d past) (none : (x : ℕ) → gives (configured_model c) x d past ≡ None) (quiet : (b : ℕ) → note (configured_model c) b (at n t d) past ≡ [])
    (stand : GroupsStand groups (configured_model c) (at n t d ∷ past)) (here : StandsAt z c n (arrival n t ∷ past)) where
  -- nothing but the groups changed
  pub groups-wrote : StandsAt (record z { groups = groups }) c n (arrival n t ∷ at n t d ∷ past)
  groups-wrote = again (record z { groups = groups }) c n t (at n t d) past (omega arith)
      (came-quiet z c n t d past z.stored z.parts groups of.silent of.rows of.controls
      (values.stands-deed z.stored z.stored (configured_model c) t n d past here.values refl (λ x below. ap (λ o. unwrap_or o (attribute z.stored x).held.value) (sym (none x))))
      (parts-left (configured_model c) n t d past z.parts z.parts (record { address = of.address; opens = of.opens; note = quiet; cuts = of.cuts }) (λ b q there. (q, there, kept b q)) here.blocks) stand here)
    where
      kept : (b : ℕ) (q : ReportBlock) → record q { block = after_deed b d q.ring.front (max t (now past)) [] q.block } ≡ q
      kept b q = ap (λ (k : Block). record q { block = k }) (of.block b q.ring.front (max t (now past)) q.block)

module _ (z : State) (served : IsServable z.config) (held : AreHeld z.config z.stored) (fit : AreGrouped z.config z.groups) where
  -- ---- a component of a setting group block

  module _ (a d : ℕ) (part : SettingComp) (v : Value) (some : 0 < (groups_of (configured_model z.config) d).count) where
    below : d < length z.groups.domains
    below = domain-within z.config served.grouped z.groups fit.framed d some

    abbrev comes : Model → Past → Outcome
    comes m past = write_part m a d part v past

    abbrev after : Grouped
    after = after_part d a part v z.latest z.groups

    came : (c : Config) (n t : ℕ) (past : Past) → StandsAt z c n (arrival n t ∷ past) → comes (configured_model c) (arrival n t ∷ past) ≡ outcome_by (part_answer a (domain_at z.groups d) part v) (part_deed a d part v)
    came c n t past here = answered (configured_model c) z.groups d (arrival n t ∷ past) (here.groups.blocks d below (subst (λ (q : Config). 0 < (groups_of (configured_model q) d).count) here.is_config some)) a part v

    pub part-refused : (code : ℕ) → Err code ≡ part_answer a (domain_at z.groups d) part v → IsWrite z z comes (Err code)
    part-refused code is = by-outcome z z comes (λ m past. refused code) (Err code) (λ c n t past here. came c n t past here ∙ ap (λ r. outcome_by r (part_deed a d part v)) (sym is)) (refused-write z code)

    stand-after : (is_set : Bool) → part_answer a (domain_at z.groups d) part v ≡ Ok is_set → (c : Config) (n t : ℕ) (past : Past) → StandsAt z c n (arrival n t ∷ past) → GroupsStand after (configured_model c) (at n t (part_deed a d part v) ∷ past)
    stand-after is_set is c n t past here =
        subst (λ k. GroupsStand (after_part d a part v k z.groups) (configured_model c) (at n t (part_deed a d part v) ∷ past)) (sym here.is_latest)
        (part-stands (configured_model c) past n t z.groups (arrived (configured_model c) past n t z.groups here.groups) d below (subst (λ (q : Config). 0 < (groups_of (configured_model q) d).count) here.is_config some) a part v is_set is)

    gives-after : (is_set : Bool) → part_answer a (domain_at z.groups d) part v ≡ Ok is_set → (c : Config) (n t x : ℕ) (past : Past) → StandsAt z c n (arrival n t ∷ past)
        → set_to x (if is_set then active_settings d after else []) ≡ gives (configured_model c) x (part_deed a d part v) past
    gives-after is_set is c n t x past here =
        part-gives (configured_model c) past z.groups (arrived (configured_model c) past n t z.groups here.groups) (subst (λ (q : Config). IsComplete (configured_model q) z.groups) here.is_config (complete z.config z.groups fit.framed)) d below
        (subst (λ (q : Config). 0 < (groups_of (configured_model q) d).count) here.is_config some) a z.latest x part v is_set is

    -- one that sets no attribute
    pub part-quiet : (u : State) → Ok false ≡ part_answer a (domain_at z.groups d) part v → u ≡ record z { groups = after } → IsWrite z u comes (Ok tt)
    part-quiet u is same = by-outcome z u comes (λ m past. did (part_deed a d part v)) (Ok tt) (λ c n t past here. came c n t past here ∙ ap (λ r. outcome_by r (part_deed a d part v)) (sym is))
        (λ c n t past here. (
          refl,
          let none : (x : ℕ) → gives (configured_model c) x (part_deed a d part v) past ≡ None = λ x. sym (gives-after false (sym is) c n t x past here) in
              subst (λ w. StandsAt w c n (arrival n t ∷ at n t (part_deed a d part v) ∷ past)) (sym same)
              (groups-wrote z c n t (part_deed a d part v) past after (of-part (configured_model c) n t a d part v past) none (λ b. quiet-note (configured_model c) a d b n t part v past none) (stand-after false (sym is) c n t past here) here),
        ))

    pub fit-after : AreGrouped z.config after
    fit-after = fit-part z.config IsSoundCell z.groups fit d a part v z.latest below

    pub typed-after : AreTyped z.config (active_settings d after)
    typed-after = active-typed z.config served z.stored held after fit-after d

    pub held-loaded : (stored : List Stored) → ((x : ℕ) → attribute stored x ≡ last_set (active_settings d after) x (attribute z.stored x)) → length stored ≡ length z.stored → AreHeld z.config stored
    held-loaded stored set count = held-after z.config z.stored stored (active_settings d after) held typed-after set count

    -- one that sets the SG attributes of the domain
    pub part-set : (u : State) (rows : List NodeRow) (stored : List Stored) (changes : List Change) → AreServedSets z.config z.book → HaveMembers rows z.book z.config z.parts
        → Ok true ≡ part_answer a (domain_at z.groups d) part v → ((x : ℕ) → attribute stored x ≡ last_set (active_settings d after) x (attribute z.stored x)) → length stored ≡ length z.stored
        → AreMade z.config z.stored (active_settings d after) changes → u ≡ set_at rows z stored after changes → IsWrite z u comes (Ok tt)
    part-set u rows stored changes booked has is set count made same =
        by-outcome z u comes (λ m past. did (part_deed a d part v)) (Ok tt) (λ c n t past here. came c n t past here ∙ ap (λ r. outcome_by r (part_deed a d part v)) (sym is))
        (λ c n t past here. (
          refl,
          let m = configured_model c in
              let config = here.is_config in
              let deed : Deed = part_deed a d part v in
              let of = of-part m n t a d part v past in
              let setting : IsSetting m n t deed past (active_settings d after) = record {
                sets = λ x. gives-after true (sym is) c n t x past here;
                is_noted = λ b. set-note m z.groups a d b n t part v past (sym is);
                general = of.general;
                purge = of.purge;
                change = of.change;
                address = of.address;
                opens = of.opens;
                block = of.block;
                silent = of.silent;
                rows = of.rows;
                controls = of.controls;
              } in
              let there : All (IsThere z.stored) (active_settings d after) = λ k e within. omega (arith, (typed-after k e within).there, held.count) in
              let stands = stands-set rows z c n t deed (active_settings d after) past stored after changes (subst IsServable config served) (subst (λ q. AreServedSets q z.book) config booked) (subst (λ q. AreHeld q stored) config (held-loaded stored set count))
              setting there (subst (λ q. HaveMembers rows z.book q z.parts) config has) set count (subst (λ q. AreMade q z.stored (active_settings d after) changes) config made) (stand-after true (sym is) c n t past here) here in
              again u c n t (at n t deed) past (omega arith) (subst (λ w. StandsAt w c n (at n t deed ∷ past)) (sym same) stands),
        ))

  -- ---- an edit copy

  module _ (a k : ℕ) (v : Value) (within : k < length z.groups.settings) where
    -- the number of the copy: the copies stand after all other attributes
    abbrev number : ℕ
    number = copies_from z.stored z.groups + k

    copies-are : copies_from z.stored z.groups ≡ length z.config.attrs + length (generated z.config)
    copies-are = omega (arith, held.count, settings-count z.config z.groups fit.framed)

    abbrev copy_comes : Model → Past → Outcome
    copy_comes m past = write_attribute m a number v (attr_of m number).access past

    abbrev answer : Result (Unit {0}) ℕ
    answer = copy_answer (holds a (domain_at z.groups (setting_at z.groups k).domain)) (setting_at z.groups k) v

    copy-came : (c : Config) (n t : ℕ) (past : Past) → StandsAt z c n (arrival n t ∷ past) → copy_comes (configured_model c) (arrival n t ∷ past) ≡ outcome_by answer (copied a (setting_at z.groups k).attr v)
    copy-came c n t past here =
        let edited_ : (attr_of (configured_model z.config) number).access ≡ model.edited = subst (λ f. (attr_of (configured_model z.config) (f + k)).access ≡ model.edited) (sym copies-are) (twin-edited z.config z.groups fit.framed k within) in
        let twin = subst (λ f. IsTwin (configured_model z.config) (f + k) (setting_at z.groups k)) (sym copies-are) (is-twin z.config z.groups fit.framed k within) in
        ap (λ access. write_attribute (configured_model c) a number v access (arrival n t ∷ past)) (subst (λ (q : Config). (attr_of (configured_model q) number).access ≡ model.edited) here.is_config edited_)
        ∙ copy-written (configured_model c) z.groups a k number v (arrival n t ∷ past) here.groups within (subst (λ (q : Config). IsTwin (configured_model q) number (setting_at z.groups k)) here.is_config twin)

    pub copy-refused : (code : ℕ) → Err code ≡ answer → IsWrite z z copy_comes (Err code)
    copy-refused code is = by-outcome z z copy_comes (λ m past. refused code) (Err code) (λ c n t past here. copy-came c n t past here ∙ ap (λ r. outcome_by r (copied a (setting_at z.groups k).attr v)) (sym is)) (refused-write z code)

    pub copy-set : (u : State) → Ok tt ≡ answer → u ≡ record z { groups = after_copy k v z.groups } → IsWrite z u copy_comes (Ok tt)
    copy-set u is same = by-outcome z u copy_comes (λ m past. did (copied a (setting_at z.groups k).attr v)) (Ok tt) (λ c n t past here. copy-came c n t past here ∙ ap (λ r. outcome_by r (copied a (setting_at z.groups k).attr v)) (sym is))
        (λ c n t past here. (
          refl,
          subst (λ w. StandsAt w c n (arrival n t ∷ at n t (copied a (setting_at z.groups k).attr v) ∷ past)) (sym same)
              (groups-wrote z c n t (copied a (setting_at z.groups k).attr v) past (after_copy k v z.groups) (of-copy (configured_model c) n t a (setting_at z.groups k).attr v past) (λ x. refl) (λ b. refl)
              (copies (configured_model c) past n t z.groups (arrived (configured_model c) past n t z.groups here.groups) a k v within) here),
        ))

    pub fit-copied : Ok tt ≡ answer → is_sound v ≡ true → AreGrouped z.config (after_copy k v z.groups)
    fit-copied is sound = fit-copy z.config IsSoundCell z.groups fit k v within (copy-sound (setting_at z.groups k) v (holds a (domain_at z.groups (setting_at z.groups k).domain)) (sym is) sound)

    pub copy-done : (g : Grouped) (code : Result (Unit {0}) ℕ) → code ≡ answer → OnOk code (g ≡ after_copy k v z.groups) → OnErr code (g ≡ z.groups) → IsWrite z (record z { groups = g }) copy_comes code
    copy-done g (Ok u) is set kept = copy-set (record z { groups = g }) is (ap (λ (q : Grouped). record z { groups = q }) set)
    copy-done g (Err e) is set kept = subst (λ (q : Grouped). IsWrite z (record z { groups = q }) copy_comes (Err e)) (sym kept) (copy-refused e is)

    pub fit-done : (g : Grouped) (code : Result (Unit {0}) ℕ) → code ≡ answer → OnOk code (g ≡ after_copy k v z.groups) → OnErr code (g ≡ z.groups) → is_sound v ≡ true → AreGrouped z.config g
    fit-done g (Ok u) is set kept sound = subst (AreGrouped z.config) (sym set) (fit-copied is sound)
    fit-done g (Err e) is set kept sound = subst (AreGrouped z.config) (sym kept) fit
