-- A request is answered, and its reply waits with the terminations of its tests after it.
use Rattle.std.proofs.Common.{◌≡◌, ◌∙◌, ℕ, suc, true, false, List, [], ◌∷◌, ◌++◌, map, Option, None, Some, length, refl, ap, ap₂, sym, subst, arith, unwrap_or}
use Rattle.std.specs.Prelude.{◌==◌, nat_le, if◌then◌else◌}
use Rattle.std.specs.Option.{option_map, option_map_or}
use Rattle.std.specs.List.{All}
use Rattle.std.proofs.lemmas.List.Elements.{All-head, All-tail}
use Rattle.list_laws.proofs.Places.{equal-number}
use Rattle.sv_base.specs.declared.config.Config.{Config}
use Rattle.sv_base.specs.declared.numbers.ActorNo.{ActorNo}
use Rattle.sv_base.specs.declared.numbers.AssocNo.{AssocNo}
use Rattle.sv_base.specs.declared.numbers.CtlNo.{CtlNo}
use Rattle.bay_model.specs.declared.answer.Answer.TheVariants as answers
use Rattle.bay_model.specs.declared.answer.Output.{Output}
use Rattle.bay_model.specs.declared.answer.Output.TheVariants as outputs
use Rattle.bay_model.specs.declared.control.ApplError.{ApplError}
use Rattle.bay_model.specs.declared.reply.Reply.{Reply}
use Rattle.bay_model.specs.declared.request.Request.{Request}
use Rattle.bay_model.specs.declared.request.Service.{Service}
use Rattle.bay_model.specs.declared.request.Service.TheVariants as services
use Rattle.bay_model.specs.declared.request.SetName.{SetName}
use Rattle.bay_model.specs.declared.step.Step.TheVariants as steps
use Rattle.bay_model.specs.Acceptance.{fault, if_open, QueueFull}
use Rattle.bay_model.specs.Answers.{Turn, History, answer, points, output_for}
use Rattle.bay_model.specs.Associations as model
use Rattle.bay_model.specs.Associations.{ends}
use Rattle.bay_model.specs.Lookups.{node_of}
use Rattle.bay_model.specs.Model.{Model, DataSet, Role, Tree, single, several, selecting, calling}
use Rattle.bay_model.specs.Named.{configured_model}
use Rattle.bay_model.specs.Outcomes.{deed_of}
use Rattle.bay_model.specs.Points.{Deed, Change, Past, nothing, answered, unchanged}
use Rattle.bay_model.specs.Reads.{read_role, read_tree}
use Rattle.bay_model.specs.Services.{singles_of, set_found, set_name, change_of}
use Rattle.bay_model.specs.Sets.{is_named, sets}
use Rattle.bay_model.specs.Singles.{Single, reads, writes, fails, arrival, outcome_of, outcome_at, outcomes, after_singles}
use Rattle.bay_model.specs.Sizes.{size_of}
use Rattle.bay_model.specs.Waiting.{tests, waiting_replies}
use Rattle.assoc_table.specs.declared.waiting.Ends.{Ends}
use Rattle.assoc_table.specs.Seats.{Row, replies}
use Rattle.assoc_table.specs.Standing.{Stands as AssociationsStand, ends_of}
use Rattle.assoc_table.specs.Tables.{IsNumber, row_of, extended}
use Rattle.control_core.specs.Standing.{Stands as ControlsStand}
use Rattle.control_core.specs.Tables.{Table}
use Rattle.bay_model.proofs.AskedLaws.{no-tests}
use Rattle.bay_queues.specs.Standing.{reply_coming}
use Rattle.bay_queues.specs.Taken.{reply_and}
use Rattle.bay_queues.proofs.StandLaws as waits
use Rattle.bay_config.specs.Servable.{IsMember, IsServedSet}
use Rattle.bay_replies.specs.Asking.{IsReading}
use Rattle.bay_replies.specs.Plain.{SelectsNothing}
use Rattle.data_sets.specs.Standing.{data_set}
use Rattle.report_block.specs.Standing.{BlocksStand}
use Rattle.setting_groups.specs.Standing.{Stands as GroupsStand}
use Rattle.value_store.specs.Wholes.{Stands as ValuesStand}
use Rattle.window_core.specs.Points.{at}
use Rattle.bay_core.specs.declared.asking.Came.{Came}
use Rattle.bay_core.specs.Asked.{IsAnswered, IsReplied, replied}
use Rattle.bay_core.specs.Came.{IsCome, put_after, replied_with}
use Rattle.bay_core.specs.Commanded.{CallsNothing}
use Rattle.block_watch.specs.Served.{AreServedSets}
use Rattle.bay_core.specs.State.{State}
use Rattle.bay_core.specs.Standing.{StandsAt, StandsFor}
use Rattle.bay_core.proofs.EndLaws.{opener-told}
use Rattle.bay_queues.proofs.HeardLaws.{quiet-among, tests-after}
use Rattle.bay_core.proofs.MoveLaws.{counts, again, accepted-as, groups-quiet, queued, queues-stand}
use Rattle.block_events.proofs.PartLaws.{parts-left}
use Rattle.bay_queues.proofs.QueueLaws.{replies-told}
use Rattle.block_watch.proofs.ShapeLaws.{all-served, found}
use Rattle.bay_core.proofs.UncalledLaws.{member-plain, quiet-all, service-uncalled}
use Rattle.bay_replies.proofs.PointLaws.{nothing-read}

-- ---- single reads that select nothing

abbrev pub IsStill : Model → Single → Type 0
IsStill m (reads n) = SelectsNothing (node_of m n).role
IsStill m (writes n v) = ⊥
IsStill m (fails code) = Unit {0}

abbrev pub AreStill : Model → List Single → Type 0
AreStill m [] = Unit {0}
AreStill m (s ∷ ss) = IsStill m s × AreStill m ss

still-role : (m : Model) (a : ℕ) (r : Role) (t : Tree) (past : Past) → SelectsNothing r → deed_of (read_role m a r t past) ≡ nothing
still-role m a (single l) t past is = nothing-read (read_tree m past t)
still-role m a (selecting k) t past is = absurd is
still-role m a (calling k call) t past is = absurd is
still-role m a several t past is = nothing-read (read_tree m past t)

still-single : (m : Model) (a : ℕ) (s : Single) (past : Past) → IsStill m s → deed_of (outcome_of m a s past) ≡ nothing
still-single m a (reads n) past is = still-role m a (node_of m n).role (node_of m n).tree past is
still-single m a (writes n v) past is = absurd is
still-single m a (fails code) past is = refl

-- the bay stands for them as it is
singles-stand : (z : State) (c : Config) (a n t : ℕ) (ss : List Single) (past : Past) → AreStill (configured_model c) ss → StandsAt z c n (arrival n t ∷ past)
    → StandsAt z c n (arrival n t ∷ after_singles (configured_model c) a n t ss past)
singles-stand z c a n t [] past are here = here
singles-stand z c a n t (s ∷ ss) past are here =
    let m = configured_model c in
    let d : Deed = deed_of (outcome_at m a n t s past) in
    let st = subst (λ (e : Deed). StandsAt z c n (at n t e ∷ past)) (sym (still-single m a s (arrival n t ∷ past) are.0)) here in
    singles-stand z c a n t ss (at n t d ∷ past) are.1 (again z c n t (at n t d) past (omega arith) st)

still-nodes : (c : Config) (ns : List ℕ) → All (IsMember c) ns → AreStill (configured_model c) (map reads ns)
still-nodes c [] all = tt
still-nodes c (n ∷ ns) all = (member-plain c n (All-head (IsMember c) n ns all).allowed, still-nodes c ns (All-tail (IsMember c) n ns all))

-- the data sets of the book are those of the past
pub served-sets : (s : State) (c : Config) (n : ℕ) (past : Past) → AreServedSets s.config s.book → StandsAt s c n past → All (IsServedSet c) (sets (configured_model c) past)
served-sets s c n past served st = subst (All (IsServedSet c)) st.sets (all-served c s.book (subst (λ (d : Config). AreServedSets d s.book) st.is_config served))

module _ (c : Config) (past : Past) (served : All (IsServedSet c) (sets (configured_model c) past)) where
  still-set : (name : SetName) (o : Option DataSet) → set_found (configured_model c) past name ≡ o → AreStill (configured_model c) (option_map_or (λ (s : DataSet). map reads s.nodes) o [])
  still-set name None is = tt
  still-set name (Some s) is = still-nodes c s.nodes (found (IsServedSet c) (is_named name) (sets (configured_model c) past) served s is).members

  reads-still : (service : Service) → IsReading service → AreStill (configured_model c) (singles_of (configured_model c) past service)
  reads-still (services.Read ts spec) is = absurd is
  reads-still (services.ReadSet domain item spec) is = still-set (set_name domain item) (set_found (configured_model c) past (set_name domain item)) refl
  reads-still (services.WriteVars ws) is = absurd is
  reads-still (services.WriteSet domain item vs) is = absurd is
  reads-still (services.Define domain item members) is = absurd is
  reads-still (services.Delete scope names) is = absurd is
  reads-still _ is = tt

  pub reads-stand : (z : State) (a n t : ℕ) (service : Service) → IsReading service → StandsAt z c n (arrival n t ∷ past) → StandsAt z c n (arrival n t ∷ after_singles (configured_model c) a n t (singles_of (configured_model c) past service) past)
  reads-stand z a n t service is here = singles-stand z c a n t (singles_of (configured_model c) past service) past (reads-still service is) here

-- ---- services

-- no data set is defined or deleted
abbrev pub IsQuietService : Service → Type 0
IsQuietService (services.Define domain item members) = ⊥
IsQuietService (services.Delete scope names) = ⊥
IsQuietService _ = Unit {0}

pub quiet-read : (service : Service) → IsReading service → IsQuietService service
quiet-read (services.Define domain item members) is = absurd is
quiet-read (services.Delete scope names) is = absurd is
quiet-read _ is = tt

unchanged-by : (m : Model) (past : Past) (service : Service) → IsQuietService service → change_of m past service ≡ unchanged
unchanged-by m past (services.Define domain item members) is = absurd is
unchanged-by m past (services.Delete scope names) is = absurd is
unchanged-by m past _ is = refl

-- ---- the reply

-- after a reply with what came of the data sets, and the terminations of the step's tests, where the book and the numbers of the blocks'
-- sets are those then
pub changed-with : (z w : State) (c : Config) (n t a : ℕ) (output : Output) (change : Change) (ks : List CtlNo) (past : Past) → map (λ (k : CtlNo). k.0) ks ≡ tests (configured_model c) n past → IsNumber a → StandsAt z c n (arrival n t ∷ past)
    → w ≡ record z { book = w.book; parts = w.parts } → BlocksStand (configured_model c) (arrival n t ∷ past) w.parts
    → map data_set w.book.sets ≡ sets (configured_model c) (at n t (answered a output change) ∷ past) → w.book.configured ≡ z.book.configured
    → StandsAt (replied_with w a output ks) c n (at n t (answered a output change) ∷ past)
changed-with z w c n t a output change ks past told number here same blocks all configured =
    let m = configured_model c in
    let d : Deed = answered a output change in
    let wait = waits.stands-deed m n t d (reply_coming a output ks) past (queued z) (queues-stand z c n (arrival n t ∷ past) here) (waits.reply-comes m n a output change ks past number told) in
    record {
      is_config = ap (λ (s : State). s.config) same ∙ here.is_config;
      is_steps = ap (λ (s : State). s.steps) same ∙ here.is_steps;
      is_latest = ap (λ (s : State). s.latest) same ∙ here.is_latest;
      values = subst (λ l. ValuesStand l m (at n t d ∷ past)) (sym (ap (λ (s : State). s.stored) same)) here.values;
      associations = subst (λ rows. AssociationsStand (extended rows a (reply_and output ks)) m (at n t d ∷ past)) (sym (ap (λ (s : State). s.rows) same)) wait.associations;
      groups = subst (λ g. GroupsStand g m (at n t d ∷ past)) (sym (ap (λ (s : State). s.groups) same)) (groups-quiet z c n t d past tt here);
      controls = subst (λ (table : Table). ControlsStand table m (at n t d ∷ past)) (sym (ap (λ (s : State). s.controls) same)) wait.controls;
      sets = all;
      configured = configured ∙ here.configured;
      blocks = parts-left m n t d past w.parts w.parts (record { address = refl; opens = λ b. tt; note = λ b. refl; cuts = λ b. refl }) (λ b q there. (q, there, refl)) blocks;
    }

-- where nothing was tested
pub changed-at : (z w : State) (c : Config) (n t a : ℕ) (output : Output) (change : Change) (past : Past) → tests (configured_model c) n past ≡ [] → IsNumber a → StandsAt z c n (arrival n t ∷ past)
    → w ≡ record z { book = w.book; parts = w.parts } → BlocksStand (configured_model c) (arrival n t ∷ past) w.parts
    → map data_set w.book.sets ≡ sets (configured_model c) (at n t (answered a output change) ∷ past) → w.book.configured ≡ z.book.configured
    → StandsAt (replied w a output) c n (at n t (answered a output change) ∷ past)
changed-at z w c n t a output change past none number here same blocks all configured = changed-with z w c n t a output change [] past (sym none) number here same blocks all configured

-- and nothing came of the data sets
pub answered-with : (z : State) (c : Config) (n t a : ℕ) (output : Output) (ks : List CtlNo) (past : Past) → map (λ (k : CtlNo). k.0) ks ≡ tests (configured_model c) n past → IsNumber a → StandsAt z c n (arrival n t ∷ past)
    → StandsAt (replied_with z a output ks) c n (at n t (answered a output unchanged) ∷ past)
answered-with z c n t a output ks past told number here = changed-with z z c n t a output unchanged ks past told number here refl here.blocks here.sets refl

pub answered-at : (z : State) (c : Config) (n t a : ℕ) (output : Output) (past : Past) → tests (configured_model c) n past ≡ [] → IsNumber a → StandsAt z c n (arrival n t ∷ past)
    → StandsAt (replied z a output) c n (at n t (answered a output unchanged) ∷ past)
answered-at z c n t a output past none number here = answered-with z c n t a output [] past (sym none) number here

-- a request that calls nothing and leaves the data sets alone is answered, and its reply put
pub answered-replied : (old new : State) (moment a : ℕ) (service : Service) (r : Reply) → AreServedSets old.config old.book → IsNumber a → IsQuietService service → CallsNothing service → IsAnswered old new moment a service r → IsReplied old new moment a service r
answered-replied old new moment a service r served number quiet uncalled is = (
  is.0,
  λ c n past output st none.
      let m = configured_model c in
      let ss = singles_of m past service in
      let os = outcomes m a n moment ss past in
      let after : Past = after_singles m a n moment ss past in
      let still : tests m n after ≡ [] = tests-after m a n moment ss past
      ∙ ap₂ (λ (xs ys : List ℕ). xs ++ ys) none (quiet-among m os (quiet-all m a n moment ss past (service-uncalled c past (served-sets old c n past served st) service uncalled))) in
      subst (λ (k : Change). StandsAt (replied new a output) c n (at n moment (answered a output k) ∷ after)) (sym (unchanged-by m past service quiet))
      (answered-at new c n moment a output after still number (is.1 c n past st)),
)

-- ---- a request is answered, and the bay stands for it

pub size-told : (m : Model) (rows : List Row) (past : Past) (a : ℕ) → AssociationsStand rows m past → IsNumber a → unwrap_or (option_map (λ (e : Ends). e.size) (row_of rows a).ends) 0 ≡ size_of a past
size-told m rows past a st number = by (row_of rows a).ends (ends a past) (st.each a number).ends where
  by : (e : Option Ends) (f : Option model.Ends) → option_map ends_of e ≡ f → unwrap_or (option_map (λ (x : Ends). x.size) e) 0 ≡ option_map_or (λ (x : model.Ends). x.size) f 0
  by None f is = ap (λ (g : Option model.Ends). option_map_or (λ (x : model.Ends). x.size) g 0) is
  by (Some e) f is = ap (λ (g : Option model.Ends). option_map_or (λ (x : model.Ends). x.size) g 0) is

ask-fault : (m : Model) (past : Past) (actor a : ℕ) (e : model.Ends) → ends a past ≡ Some e → (actor == e.opener) ≡ true → nat_le 16 (waiting_replies m a past) ≡ false
    → if_open (ends a past) a (λ f. actor == f.opener) (if nat_le 16 (waiting_replies m a past) then Some (QueueFull a) else None) ≡ None
ask-fault m past actor a e is yours room = rw (is, yours, room) refl

full-fault : (m : Model) (past : Past) (actor a : ℕ) (e : model.Ends) → ends a past ≡ Some e → (actor == e.opener) ≡ true → nat_le 16 (waiting_replies m a past) ≡ true
    → Some (QueueFull a) ≡ if_open (ends a past) a (λ f. actor == f.opener) (if nat_le 16 (waiting_replies m a past) then Some (QueueFull a) else None)
full-fault m past actor a e is yours full = rw (is, yours, full) refl

-- who asks may: whether 16 replies wait is what the bay says
module _ (s : State) (c : Config) (h : History) (t : ℕ) (actor : ActorNo) (a : AssocNo) (r : Request) (opener : ActorNo) (number : IsNumber a.0) (st : StandsFor s c h)
    (is : option_map (λ (e : Ends). e.opener) (row_of s.rows a.0).ends ≡ Some opener) (yours : actor.0 ≡ opener.0) where
  abbrev turn : Turn
  turn = record { moment = t; actor = actor.0; step = steps.Ask a r }

  abbrev past : Past
  past = points (configured_model c) h

  count-told : nat_le 16 (waiting_replies (configured_model c) a.0 past) ≡ nat_le 16 (replies (row_of s.rows a.0).waiting)
  count-told = ap (nat_le 16) (replies-told (configured_model c) s.rows past a.0 st.1.associations number)

  pub full-for : nat_le 16 (replies (row_of s.rows a.0).waiting) ≡ true → Some (QueueFull a.0) ≡ fault (configured_model c) h turn
  full-for full =
      let e = opener-told (configured_model c) s.rows past a.0 opener st.1.associations number is in
      full-fault (configured_model c) past actor.0 a.0 e.0 e.1 (equal-number actor.0 e.0.opener (yours ∙ sym e.2)) (count-told ∙ full)

  pub fine-for : nat_le 16 (replies (row_of s.rows a.0).waiting) ≡ false → fault (configured_model c) h turn ≡ None
  fine-for room =
      let e = opener-told (configured_model c) s.rows past a.0 opener st.1.associations number is in
      ask-fault (configured_model c) past actor.0 a.0 e.0 e.1 (equal-number actor.0 e.0.opener (yours ∙ sym e.2)) (count-told ∙ room)

  -- the second state is that before what the request came to is put
  pub asked-for : (z u : State) (x : Came) → nat_le 16 (replies (row_of s.rows a.0).waiting) ≡ false → IsCome s z t a.0 r.service x → u ≡ record (put_after a.0 r.invoke x z) { steps = suc z.steps }
      → (answers.Asked x.acts.items ≡ answer (configured_model c) h turn) × StandsFor u c (turn ∷ h)
  asked-for z u x room come behind =
      let m = configured_model c in
      let n = length h in
      let ss = singles_of m past r.service in
      let change = change_of m past r.service in
      let told = come.is c n past st.1 in
      let output = outputs.Reply x.before.items r.invoke x.reply in
      let same : output ≡ output_for m n t a.0 r past = ap₂ (λ (es : List ApplError) (p : Reply). outputs.Reply es r.invoke p) told.before told.reply in
      let w : State = put_after a.0 r.invoke x z in
      let stands = counts w c n (at n t (answered a.0 output change) ∷ after_singles m a.0 n t ss past) (come.stands c n past output st.1 (no-tests m h)) in
      let deed : answered a.0 output change ≡ answered a.0 (output_for m n t a.0 r past) change = ap (λ (o : Output). answered a.0 o change) same in (
        ap answers.Asked told.acts,
        accepted-as s u (record w { steps = suc w.steps }) c h turn st (fine-for room) behind
            (subst (λ (d : Deed). StandsAt (record w { steps = suc w.steps }) c (suc n) (at n t d ∷ after_singles m a.0 n t ss past)) deed stands),
      )
