-- A bay after a Take.
use Rattle.std.proofs.Common.{◌≡◌, ℕ, suc, max, true, List, [], ◌∷◌, Option, None, Some, length, refl, ap, arith, ◌∙◌, sym, subst, slice_set, inl, inr}
use Rattle.std.specs.Prelude.{slice_get, ◌==◌, if◌then◌else◌}
use Rattle.list_laws.proofs.Places.{got-set, same-number, other-number}
use Rattle.std.specs.Option.{option_and_then, option_map}
use Rattle.std.proofs.lemmas.List.{length-map}
use Rattle.std.proofs.lemmas.Bool.Decides.{nat_tests}
use Rattle.sv_base.specs.declared.config.Config.{Config}
use Rattle.sv_base.specs.declared.numbers.ActorNo.{ActorNo}
use Rattle.sv_base.specs.declared.numbers.AssocNo.{AssocNo}
use Rattle.bay_model.specs.declared.answer.Answer.{Answer}
use Rattle.bay_model.specs.declared.answer.Answer.TheVariants as answers
use Rattle.bay_model.specs.declared.answer.Output.TheVariants as outputs
use Rattle.bay_model.specs.declared.report.Report.{Report}
use Rattle.bay_model.specs.declared.tables.MemberShape.{MemberShape}
use Rattle.bay_model.specs.declared.step.Step.TheVariants as steps
use Rattle.bay_model.specs.Acceptance.{fault}
use Rattle.bay_model.specs.Answers.{Turn, History, answer, points}
use Rattle.bay_model.specs.Associations as model
use Rattle.bay_model.specs.Associations.{ends}
use Rattle.bay_model.specs.Configured.{block_defined}
use Rattle.bay_model.specs.Model.{Model, Parameters}
use Rattle.bay_model.specs.Named.{configured_model}
use Rattle.bay_model.specs.Notes.{Kept}
use Rattle.bay_model.specs.Outputs.{output_of}
use Rattle.bay_model.specs.Points.{Past, now, reported, nothing, took, terminated}
use Rattle.bay_model.specs.Waiting as queue
use Rattle.bay_model.specs.Singles.{arrival}
use Rattle.bay_model.specs.Takes.{Given, deed_of_waiting, taken}
use Rattle.assoc_table.specs.declared.waiting.Ends.{Ends}
use Rattle.assoc_table.specs.Seats.{Row}
use Rattle.assoc_table.specs.Standing.{Stands as AssociationsStand, ends_of, waiting_of}
use Rattle.bay_queues.proofs.QueueLaws.{given-then, left-then, nothing-waits}
use Rattle.assoc_table.specs.declared.waiting.Waiting.{Waiting}
use Rattle.control_core.specs.Tables.{Table}
use Rattle.bay_queues.specs.Queued.{Queued, IsQueued}
use Rattle.bay_queues.specs.Standing.{Stands as QueuesStand}
use Rattle.bay_queues.specs.Taken.{after_take, given_of, next_of, oldest}
use Rattle.bay_queues.proofs.StandLaws.{oldest-taken}
use Rattle.bay_model.specs.declared.answer.Output.{Output}
use Rattle.assoc_table.specs.Tables.{IsNumber, row_of}
use Rattle.report_block.specs.declared.block.ReportBlock.{ReportBlock}
use Rattle.block_reports.specs.Blanks.{AreFew}
use Rattle.report_block.specs.Offers.{Offered, first_offered}
use Rattle.report_block.specs.Writes.{reported_by}
use Rattle.window_core.specs.Points.{at}
use Rattle.brcb_state.specs.Changes.{after_report}
use Rattle.block_reports.specs.Reporting.{report_by}
use Rattle.bay_config.specs.Servable.{IsServable}
use Rattle.bay_core.specs.Standing.{StandsAt, StandsFor}
use Rattle.block_watch.specs.Served.{AreServedSets}
use Rattle.bay_core.specs.State.{State}
use Rattle.bay_core.specs.Timed.{at_arrival}
use Rattle.bay_core.proofs.MoveLaws.{queued, queues-stand, groups-quiet, passed, still, came-stand, counts, accepted-as}
use Rattle.block_events.proofs.PartLaws.{AreLeft, parts-left}
use Rattle.block_events.proofs.ServedLaws.{served-now}
use Rattle.block_watch.proofs.ShapeLaws.{served_members}
use Rattle.block_events.proofs.TakeLaws.{none, given, closed}

-- after the report of an entry of block b
pub reported-at : (s : State) (c : Config) (n t a b id : ℕ) (part : ReportBlock) (past : Past) → slice_get s.parts b ≡ Some part → StandsAt s c n (arrival n t ∷ past)
    → StandsAt (record s { steps = suc s.steps; parts = slice_set s.parts b (reported_by id part) }) c (suc n) (at n t (reported a b id) ∷ past)
reported-at s c n t a b id part past there st = passed s c n t (reported a b id) past (slice_set s.parts b (reported_by id part)) s.groups
    (record { number = tt; puts = λ k. refl; sets = refl }) (λ x. refl) (record { address = refl; opens = λ k. tt; note = λ k. refl; cuts = λ k. refl }) left (groups-quiet s c n t (reported a b id) past tt st) st
  where
    left : AreLeft (reported a b id) (max t (now past)) s.parts (slice_set s.parts b (reported_by id part))
    left = λ k q got. elim (got-set s.parts b k (reported_by id part) q got) [
      | inl i ↦ (part, ap (slice_get s.parts) i.0 ∙ there, ap (λ u. record part { block = if u then after_report id part.block else part.block }) (ap (λ j. b == j) i.0 ∙ same-number b) ∙ sym i.1)
      | inr i ↦ (q, i.1, ap (λ u. record q { block = if u then after_report id q.block else q.block }) (other-number b k i.0))
    ]

-- a place has one element
pub same-part : (parts : List ReportBlock) (b : ℕ) (x y : ReportBlock) → slice_get parts b ≡ Some x → slice_get parts b ≡ Some y → x ≡ y
same-part parts b x y one other = cc

-- ---- who takes for an association

pub writer-told : (m : Model) (rows : List Row) (past : Past) (a : ℕ) (writer : ActorNo) → AssociationsStand rows m past → IsNumber a → option_map (λ (e : Ends). e.writer) (row_of rows a).ends ≡ Some writer
    → (e : model.Ends) × (ends a past ≡ Some e) × (e.writer ≡ writer.0)
writer-told m rows past a writer st number is = by (row_of rows a).ends (ends a past) (st.each a number).ends is where
  by : (e : Option Ends) (f : Option model.Ends) → option_map ends_of e ≡ f → option_map (λ (x : Ends). x.writer) e ≡ Some writer → (g : model.Ends) × (f ≡ Some g) × (g.writer ≡ writer.0)
  by None f same is = cc
  by (Some e) f same is = (ends_of e, sym same, let one : e.writer ≡ writer = cc in ap (λ (x : ActorNo). x.0) one)

pub nobody-told : (m : Model) (rows : List Row) (past : Past) (a : ℕ) → AssociationsStand rows m past → IsNumber a → option_map (λ (e : Ends). e.writer) (row_of rows a).ends ≡ None → ends a past ≡ None
nobody-told m rows past a st number none = by (row_of rows a).ends (ends a past) (st.each a number).ends none where
  by : (e : Option Ends) (f : Option model.Ends) → option_map ends_of e ≡ f → option_map (λ (x : Ends). x.writer) e ≡ None → f ≡ None
  by None f same none = sym same
  by (Some e) f same none = cc

-- ---- a Take is answered, and the bay stands for it

-- the second state is that at the arrival of the step
module _ (s at new : State) (c : Config) (h : History) (t : ℕ) (actor : ActorNo) (a : AssocNo) (served : IsServable c) (number : IsNumber a.0) (st : StandsFor s c h)
    (here : StandsAt at c (length h) (arrival (length h) t ∷ points (configured_model c) h)) where
  abbrev m : Model
  m = configured_model c

  abbrev past : Past
  past = points m h

  abbrev turn : Turn
  turn = record { moment = t; actor = actor.0; step = steps.Take a }

  abbrev IsDone : Answer → Type 0
  IsDone g = (g ≡ answer m h turn) × StandsFor new c (turn ∷ h)

  abbrev gave : Given → Type 0
  gave g = taken m a.0 (arrival (length h) t ∷ past) ≡ g

  count : length at.parts ≡ length c.blocks → length at.parts ≡ length m.blocks
  count all = all ∙ sym (length-map c.blocks block_defined)

  writer-may : (w : ActorNo) → option_map (λ (e : Ends). e.writer) (row_of s.rows a.0).ends ≡ Some w → actor.0 ≡ w.0 → fault m h turn ≡ None
  writer-may w is same =
      let e = writer-told m s.rows past a.0 w st.1.associations number is in
      let yours : (actor.0 == e.0.writer) ≡ true = grind (arith, nat_tests, same, e.2) in
      rw (e.1, yours) refl

  nothing-came : (g : Answer) → new ≡ record at { steps = suc at.steps } → fault m h turn ≡ None → gave (record { answer = g; deed = nothing }) → IsDone g
  nothing-came g is fine came = (
    sym (ap (λ (g : Given). g.answer) came),
    accepted-as s new (record at { steps = suc at.steps }) c h turn st fine is
        (subst (λ (g : Given). StandsAt (record at { steps = suc at.steps }) c (suc (length h)) (record { moment = t; step = length h; deed = g.deed } ∷ past)) (sym came) (still at c (length h) t past here)),
  )

  pub closed-for : new ≡ record at { steps = suc at.steps } → option_map (λ (e : Ends). e.writer) (row_of s.rows a.0).ends ≡ None → IsDone answers.Closed
  closed-for is nobody =
      let shut = nobody-told m s.rows past a.0 st.1.associations number nobody in
      let fine : fault m h turn ≡ None = rw shut refl in
      nothing-came answers.Closed is fine (closed m a (length h) t past shut)

  pub empty-for : (w : ActorNo) → new ≡ record at { steps = suc at.steps } → option_map (λ (e : Ends). e.writer) (row_of s.rows a.0).ends ≡ Some w → actor.0 ≡ w.0 → (row_of s.rows a.0).waiting ≡ []
      → length at.parts ≡ length c.blocks → first_offered a 0 at.parts ≡ None → IsDone answers.Empty
  empty-for w is writer same empty all nothing_left =
      let e = writer-told m s.rows past a.0 w st.1.associations number writer in
      nothing-came answers.Empty is (writer-may w writer same) (none m a (length h) t past at.parts (count all) here.blocks e.0 nothing_left e.1 (nothing-waits m s.rows past a.0 st.1.associations number empty))

  pub given-for : (w : ActorNo) (o : Offered) (shapes : List MemberShape) (part : ReportBlock) (r : Report) → new ≡ record at { steps = suc at.steps; parts = slice_set at.parts o.block (reported_by o.next.id part) }
      → option_map (λ (e : Ends). e.writer) (row_of s.rows a.0).ends ≡ Some w → actor.0 ≡ w.0 → (row_of s.rows a.0).waiting ≡ [] → length at.parts ≡ length c.blocks → first_offered a 0 at.parts ≡ Some o → slice_get at.parts o.block ≡ Some part
      → AreServedSets c at.book → shapes ≡ served_members c at.book part.block.options.dat_set → ((ks : List Kept) → AreFew 256 o.entry.kept ks → r ≡ report_by m shapes part o ks) → IsDone (answers.Taken (outputs.Report r))
  given-for w o shapes part r is writer same empty all first there booked are is_report =
      let e = writer-told m s.rows past a.0 w st.1.associations number writer in
      let dat_set = ap (λ (p : Parameters). p.dat_set) (here.blocks o.block part there).block.options in
      let nodes = served-now c at.book booked part.block.options.dat_set o.block past shapes are dat_set here.sets in
      let came = given m a (length h) t past at.parts (count all) here.blocks e.0 o shapes part r first e.1 (nothing-waits m s.rows past a.0 st.1.associations number empty) there nodes is_report in
      let after : State = record at { steps = suc at.steps; parts = slice_set at.parts o.block (reported_by o.next.id part) } in (
        sym (ap (λ (g : Given). g.answer) came),
        accepted-as s new after c h turn st (writer-may w writer same) is
            (subst (λ (g : Given). StandsAt after c (suc (length h)) (record { moment = t; step = length h; deed = g.deed } ∷ past)) (sym came) (reported-at at c (length h) t a.0 o.block o.next.id part past there here)),
      )

-- ---- a Take of what waits: what waits longest is given, and taken

took-at : (z : State) (c : Config) (n t a : ℕ) (past : Past) (w : queue.Waiting) (q : Queued) → QueuesStand q (configured_model c) (at n t (deed_of_waiting a w) ∷ past) → StandsAt z c n (arrival n t ∷ past)
    → StandsAt (record z { rows = q.rows; controls = q.table }) c n (at n t (deed_of_waiting a w) ∷ past)
took-at z c n t a past (queue.reply output) q wait st =
    came-stand z c n t (took a) past q z.stored z.parts z.groups wait refl st.values
    (parts-left (configured_model c) n t (took a) past z.parts z.parts (record { address = refl; opens = λ b. tt; note = λ b. refl; cuts = λ b. refl }) (λ b q there. (q, there, refl)) st.blocks) (groups-quiet z c n t (took a) past tt st) st
took-at z c n t a past (queue.ending k good) q wait st =
    came-stand z c n t (terminated a k) past q z.stored z.parts z.groups wait refl st.values
    (parts-left (configured_model c) n t (terminated a k) past z.parts z.parts (record { address = refl; opens = λ b. tt; note = λ b. refl; cuts = λ b. refl }) (λ b q there. (q, there, refl)) st.blocks) (groups-quiet z c n t (terminated a k) past tt st) st

first-given : (m : Model) (a n t : ℕ) (past : Past) (e : model.Ends) (w : queue.Waiting) (rest : List queue.Waiting) → ends a past ≡ Some e → queue.waiting m a (arrival n t ∷ past) ≡ w ∷ rest
    → taken m a (arrival n t ∷ past) ≡ record { answer = answers.Taken (output_of m (arrival n t ∷ past) w); deed = deed_of_waiting a w }
first-given m a n t past e w rest opened waits_ = rw (opened, waits_) refl

-- the state once what waited longest was taken
abbrev pub left_of : ℕ → State → State
left_of a s = record s { rows = (after_take a (queued s)).rows; controls = (after_take a (queued s)).table }

module _ (s u : State) (c : Config) (h : History) (t : ℕ) (actor : ActorNo) (a : AssocNo) (output : Output) (w : ActorNo) (number : IsNumber a.0) (st : StandsFor s c h) (is_queued : IsQueued s.rows s.controls)
    (writer : option_map (λ (e : Ends). e.writer) (row_of s.rows a.0).ends ≡ Some w) (same : actor.0 ≡ w.0) (here : StandsAt (at_arrival t s) c (length h) (arrival (length h) t ∷ points (configured_model c) h))
    (behind : u ≡ record (at_arrival t (left_of a.0 s)) { steps = suc s.steps }) where
  took-one : (x : Waiting) → oldest a.0 (queued s) ≡ Some x → Some output ≡ given_of s.controls x
      → (answers.Taken output ≡ answer (configured_model c) h (record { moment = t; actor = actor.0; step = steps.Take a })) × StandsFor u c (record { moment = t; actor = actor.0; step = steps.Take a } ∷ h)
  took-one x first given =
      let m = configured_model c in
      let n = length h in
      let past : Past = points m h in
      let turn : Turn = record { moment = t; actor = actor.0; step = steps.Take a } in
      let z : State = at_arrival t s in
      let e = writer-told m s.rows past a.0 w st.1.associations number writer in
      let yours : (actor.0 == e.0.writer) ≡ true = grind (arith, nat_tests, same, e.2) in
      let fine : fault m h turn ≡ None = rw (e.1, yours) refl in
      let r = oldest-taken m n t a.0 past (queued z) (queues-stand z c n (arrival n t ∷ past) here) (record { count = is_queued.count; few = is_queued.few; due = is_queued.due }) number x first in
      let gave = first-given m a.0 n t past e.0 (waiting_of x) r.1.0 e.1 r.1.1 in
      let told : Some output ≡ Some (output_of m (arrival n t ∷ past) (waiting_of x)) = given ∙ (sym (given-then (max s.latest t) s.controls x) ∙ (sym (ap (option_and_then (given_of z.controls)) first) ∙ r.0)) in
      let is : output ≡ output_of m (arrival n t ∷ past) (waiting_of x) = cc in
      let q : Queued = after_take a.0 (queued z) in
      let after : State = record z { rows = q.rows; controls = q.table } in
      let moved : u ≡ record after { steps = suc z.steps } = behind ∙ ap (λ (v : Table). record z { steps = suc s.steps; rows = q.rows; controls = v }) (left-then (oldest a.0 (queued s)) (max s.latest t) s.controls) in (
        ap answers.Taken is ∙ sym (ap (λ (g : Given). g.answer) gave),
        accepted-as s u (record after { steps = suc z.steps }) c h turn st fine moved
            (subst (λ (g : Given). StandsAt (record after { steps = suc z.steps }) c (suc n) (at n t g.deed ∷ past)) (sym gave)
            (counts after c n (at n t (deed_of_waiting a.0 (waiting_of x)) ∷ past) (took-at z c n t a.0 past (waiting_of x) q r.2 here))),
      )

  pub took-for : Some output ≡ next_of a.0 (queued s) → (answers.Taken output ≡ answer (configured_model c) h (record { moment = t; actor = actor.0; step = steps.Take a })) × StandsFor u c (record { moment = t; actor = actor.0; step = steps.Take a } ∷ h)
  took-for given = by (oldest a.0 (queued s)) refl given where
    by : (o : Option Waiting) → oldest a.0 (queued s) ≡ o → Some output ≡ option_and_then (given_of s.controls) o
        → (answers.Taken output ≡ answer (configured_model c) h (record { moment = t; actor = actor.0; step = steps.Take a })) × StandsFor u c (record { moment = t; actor = actor.0; step = steps.Take a } ∷ h)
    by None first given = absurd cc
    by (Some x) first given = took-one x first given

-- where there is no memory for what is taken, the Take is no fault
pub take-fine : (s : State) (c : Config) (h : History) (t : ℕ) (actor : ActorNo) (a : AssocNo) (w : ActorNo) → IsNumber a.0 → StandsFor s c h → option_map (λ (e : Ends). e.writer) (row_of s.rows a.0).ends ≡ Some w → actor.0 ≡ w.0
    → None ≡ fault (configured_model c) h (record { moment = t; actor = actor.0; step = steps.Take a })
take-fine s c h t actor a w number st writer same =
    let e = writer-told (configured_model c) s.rows (points (configured_model c) h) a.0 w st.1.associations number writer in
    let yours : (actor.0 == e.0.writer) ≡ true = grind (arith, nat_tests, same, e.2) in
    rw (e.1, yours) refl
