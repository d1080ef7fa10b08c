-- A bay after the reads of variables of a request, and the reply to it.
use Rattle.std.proofs.Common.{◌≡◌, ◌<◌, ◌∙◌, ℕ, zero, List, [], ◌∷◌, map, length, refl, sym, ap, subst, arith, unwrap_or}
use Rattle.std.specs.Prelude.{Bool, if◌then◌else◌, Some, Result}
use Rattle.std.specs.Option.{option_map}
use Rattle.sv_base.specs.declared.config.Config.{Config}
use Rattle.sv_base.specs.declared.value.Value.{Value}
use Rattle.bay_model.specs.declared.reply.Asked.{Asked}
use Rattle.bay_model.specs.declared.reply.Asked.TheVariants as spelled
use Rattle.bay_model.specs.declared.reply.Reply.{Reply}
use Rattle.bay_model.specs.declared.request.Service.TheVariants as services
use Rattle.bay_model.specs.declared.request.Target.{Target}
use Rattle.bay_model.specs.declared.request.Target.TheVariants as targets
use Rattle.bay_model.specs.Attributes.{attributes}
use Rattle.bay_model.specs.Lookups.{node_of}
use Rattle.bay_model.specs.Model.{Model, Role, selecting}
use Rattle.bay_model.specs.Named.{configured_model}
use Rattle.bay_model.specs.Outcomes.{deed_of, result_of}
use Rattle.bay_model.specs.Points.{Deed, Past, nothing, selected_control}
use Rattle.bay_model.specs.Services.{read_reply, reply}
use Rattle.bay_model.specs.Singles.{arrival, outcome_at, outcomes, after_single, after_singles, read_of}
use Rattle.bay_model.specs.Sizes.{size_of}
use Rattle.assoc_table.specs.declared.waiting.Ends.{Ends}
use Rattle.assoc_table.specs.Tables.{IsNumber, row_of}
use Rattle.control_core.specs.Tables.{Table, after_deed}
use Rattle.data_sets.specs.Books.{Book}
use Rattle.data_sets.specs.Standing.{data_set}
use Rattle.report_block.specs.Standing.{BlocksStand}
use Rattle.setting_groups.specs.Opened.{IsGrouped}
use Rattle.setting_groups.specs.Standing.{Stands as GroupsStand}
use Rattle.value_store.specs.Wholes.{Stands as ValuesStand}
use Rattle.bay_replies.specs.declared.replies.Replies.{Replies}
use Rattle.bay_replies.specs.Plain.{HasGroups, IsPlainRole}
use Rattle.bay_replies.specs.Reading.{selecting_of, selecting_in, IsReadBy}
use Rattle.bay_replies.specs.Standing.{StandAt}
use Rattle.bay_replies.proofs.GivenLaws.{node-told, plain-at}
use Rattle.window_core.specs.Points.{at}
use Rattle.bay_core.specs.Asked.{IsAnswered}
use Rattle.bay_core.specs.Standing.{StandsAt}
use Rattle.bay_core.specs.State.{State}
use Rattle.bay_core.specs.Turned.{after_turn, after_turns, in_turns, reply_of, IsLent}
use Rattle.bay_core.proofs.AskLaws.{size-told}
use Rattle.bay_core.proofs.IdleLaws.{IsIdle, idle-target}
use Rattle.bay_core.proofs.MoveLaws.{again, came-of, groups-quiet}
use Rattle.block_events.proofs.PartLaws.{parts-left}
use Rattle.bay_core.proofs.TurnLaws.{reply-told, target-turn}

-- ---- the controls that are selected are there

role-there : (attrs blocks controls : ℕ) (G : ℕ → Type 0) (role : Role) → IsPlainRole attrs blocks controls G role → (k : ℕ) → selecting_of role ≡ Some k → k < controls
role-there attrs blocks controls G (selecting j) plain k is = let same : j ≡ k = cc in subst (λ i. i < controls) same plain
role-there attrs blocks controls G _ plain k is = cc

pub selecting-there : (c : Config) → IsGrouped c → (x k : ℕ) → selecting_of (node_of (configured_model c) x).role ≡ Some k → k < length c.controls
selecting-there c grouped x = role-there (length (attributes c)) (length c.blocks) (length c.controls) (HasGroups c) (node_of (configured_model c) x).role (plain-at c grouped x).role

pub target-there : (c : Config) → IsGrouped c → (x : Target) (k : ℕ) → selecting_in c x ≡ Some k → k < length c.controls
target-there c grouped (targets.Node id name) k is = selecting-there c grouped id.0 k is
target-there c grouped (targets.Missing name) k is = cc
target-there c grouped (targets.Alternate name) k is = cc

-- ---- the bay after the reads

idled : (z : State) (c : Config) (n t : ℕ) (d : Deed) (past : Past) → IsIdle d → StandsAt z c n (arrival n t ∷ past) → StandsAt (record z { controls = after_deed d z.controls }) c n (at n t d ∷ past)
idled z c n t nothing past is here = here
idled z c n t (selected_control a k) past is here =
    came-of z c n t (selected_control a k) past z.stored z.parts z.groups (record { number = tt; puts = λ e. refl; sets = refl }) here.values
    (parts-left (configured_model c) n t (selected_control a k) past z.parts z.parts (record { address = refl; opens = λ b. tt; note = λ b. refl; cuts = λ b. refl }) (λ b q there. (q, there, refl)) here.blocks) (groups-quiet z c n t (selected_control a k) past tt here) here
idled z c n t _ past is here = absurd is

module _ (c : Config) (grouped : IsGrouped c) (a n t : ℕ) where
  abbrev m : Model
  m = configured_model c

  pub turned : (z : State) (ts : List Target) (past : Past) → StandsAt z c n (arrival n t ∷ past) → StandsAt (record z { controls = after_turns a c ts z.controls }) c n (arrival n t ∷ after_singles m a n t (map read_of ts) past)
  turned z [] past here = here
  turned z (x ∷ ts) past here =
      let d : Deed = deed_of (outcome_at m a n t (read_of x) past) in
      let st = again (record z { controls = after_deed d z.controls }) c n t (at n t d) past (omega arith) (idled z c n t d past (idle-target m a n t x past) here) in
      turned (record z { controls = after_turn a (selecting_in c x) z.controls }) ts (after_single m a n t (read_of x) past)
      (subst (λ (tb : Table). StandsAt (record z { controls = tb }) c n (arrival n t ∷ at n t d ∷ past)) (sym (target-turn c a n t (selecting-there c grouped) z.controls past here.controls x)) st)

-- ---- the reply

module _ (old z new : State) (moment a : ℕ) (r : Replies) (lent : IsLent r old moment) (number : IsNumber a) (ts : List Target) (spec : Bool) (size : ℕ) (spelling : Asked) (results : List (Result Value ℕ)) (is_cut : Bool) (given : Reply)
    (sized : size ≡ unwrap_or (option_map (λ (e : Ends). e.size) (row_of old.rows a).ends) 0) (asked : spelling ≡ (if spec then spelled.Vars ts else spelled.No)) (read : IsReadBy r size ts results is_cut)
    (left : new ≡ record z { controls = after_turns a z.config ts z.controls }) (gives : given ≡ reply_of size spelling is_cut (in_turns a z.config ts z.controls results))
    (arrived : (c : Config) (n : ℕ) (past : Past) → StandsAt old c n past → StandsAt z c n (arrival n moment ∷ past)) where
  abbrev mine : Model
  mine = configured_model r.model.now

  abbrev IsGiven : Config → ℕ → Past → Type 0
  IsGiven c n past = given ≡ reply (configured_model c) past (size_of a past) (services.Read ts spec) (outcomes (configured_model c) a n moment (map read_of ts) past)

  lent-stand : (n : ℕ) (past : Past) → StandsAt old r.model.now n past → StandAt r.model.now r.store.now r.groups.now r.blocks.now r.book.now r.was past
  lent-stand n past st = record {
    values = subst (λ l. ValuesStand l mine past) (sym lent.store) st.values;
    blocks = subst (BlocksStand mine past) (sym lent.blocks) st.blocks;
    sets = record {
      sets = ap (λ (b : Book). map data_set b.sets) lent.book ∙ st.sets;
      count = ap (λ (b : Book). b.configured) lent.book ∙ st.configured;
    };
    is_latest = lent.was ∙ st.is_latest;
    settings = subst (λ g. GroupsStand g mine past) (sym lent.groups) st.groups;
  }

  given-for : (n : ℕ) (past : Past) → StandsAt old r.model.now n past → IsGiven r.model.now n past
  given-for n past st =
      let here = arrived r.model.now n past st in
      let told = node-told r lent.served moment n past (lent-stand n past st) (omega (arith, lent.was, lent.now)) lent.within a zero in
      let all = map result_of (outcomes mine a n moment (map read_of ts) past) in
      gives ∙ (ap (λ (d : Config). reply_of size spelling is_cut (in_turns a d ts z.controls results)) here.is_config
      ∙ (reply-told r a n moment (selecting-there r.model.now lent.served.grouped) size spelling ts z.controls past results is_cut here.controls told read
      ∙ (ap (λ (k : ℕ). read_reply k spelling all) (sized ∙ size-told mine old.rows past a st.associations number) ∙ ap (λ (s : Asked). read_reply (size_of a past) s all) asked)))

  pub variables-answered : IsAnswered old new moment a (services.Read ts spec) given
  variables-answered = (
    (λ c n past st. subst (λ d. StandsAt old d n past → IsGiven d n past) (lent.model ∙ st.is_config) (given-for n past) st),
    (λ c n past st.
        let here = arrived c n past st in
        let grouped = subst IsGrouped (lent.model ∙ st.is_config) lent.served.grouped in
        subst (λ (s : State). StandsAt s c n (arrival n moment ∷ after_singles (configured_model c) a n moment (map read_of ts) past))
        (sym (left ∙ ap (λ (d : Config). record z { controls = after_turns a d ts z.controls }) here.is_config))
        (turned c grouped a n moment z ts past here)),
  )
