-- What a control executes: its last Oper, and what came after that.
use Rattle.std.proofs.Common.{◌≡◌, ℕ, ◌≤◌, Bool, true, false, List, [], ◌∷◌, ◌++◌, map, length, refl, append-nil, append_assoc, sym, ap, ◌∙◌, subst, arith, ◌==◌}
use Rattle.std.specs.Prelude.{Option, None, Some, is_none, not, ◌&&◌, ◌||◌, if◌then◌else◌}
use Rattle.std.specs.Option.{option_and_then, option_map, option_map_or}
use Rattle.std.proofs.Math.Bool.{and-false}
use Rattle.sv_base.specs.declared.value.Value.{Value}
use Rattle.bay_model.specs.declared.answer.Answer.TheVariants as answers
use Rattle.sv_base.specs.declared.numbers.AssocNo.{AssocNo}
use Rattle.bay_model.specs.declared.request.Request.{Request}
use Rattle.bay_model.specs.declared.step.Step.{Step}
use Rattle.bay_model.specs.declared.step.Step.TheVariants as steps
use Rattle.bay_model.specs.Model.{Model, Call, select, operate, cancel}
use Rattle.bay_model.specs.Points.{Deed, Point, Past, opened, lost, valued, finished, blocked, wrote, put, copied, activated, edited, confirmed, called, selected_control, answered, took, terminated, reported, nothing}
use Rattle.bay_model.specs.Associations.{ends}
use Rattle.bay_model.specs.Commands.{is_test}
use Rattle.bay_model.specs.Controls.{Execution, execution, execution_after, is_enhanced, underway, ended, orphaned, ends_by_done, ends_by_loss}
use Rattle.bay_model.specs.Waiting.{Waiting, reply, ending, waiting, ends_for, tests, tests_of, put_by}
use Rattle.bay_model.specs.Outcomes.{deed_of}
use Rattle.bay_model.specs.Singles.{Single, arrival, outcome_at, outcomes, after_single, after_singles}
use Rattle.bay_model.specs.Services.{singles_of}
use Rattle.bay_model.specs.Reports.{Offer, first_offer}
use Rattle.bay_model.specs.Takes.{taken, given_by, given_report}
use Rattle.bay_model.specs.Answers.{Turn, History, points, deed_at, singles_after, outcomes_of, output_for}
use Rattle.bay_model.specs.Acceptance.{IsHistory}
use Rattle.control_core.specs.TerminationsWait.{endings, due_for, asked}
use Rattle.control_core.specs.ExecutionsAre.{Operated, followed, last_oper, is_done, is_loss, gives, was_done, was_lost, lost_before, is_among, is_over, tests_in, executed, first_for, ends_by}
use Rattle.list_laws.proofs.Places.{same-number as same, same-of}
use Rattle.control_core.proofs.SingleLaws.{IsQuiet, OfSingles, outcome, write-quiet}
use Rattle.control_core.proofs.TurnLaws.{terminations_wait}
use Rattle.list_laws.proofs.Truths.{or-all, never}
use Rattle.bay_model.proofs.AskedLaws.{no-tests as fresh_tests}

abbrev point : ℕ → ℕ → Deed → Point
point n m d = record { moment = m; step = n; deed = d }

-- ---- how far an Oper has come, by six answers: it is a test; a Done came before a loss; a loss came before the termination was put; a loss came;
-- a Done came; it is over

data State : Type 0 where
  begun : State
  told : State
  left : State
  over : State

abbrev IsState : State → Bool → Bool → Bool → Bool → Bool → Bool → Type 0
IsState begun t s o l d v = (t ≡ false) × (s ≡ false) × (o ≡ false) × (l ≡ false) × (d ≡ false) × (v ≡ false)
IsState told t s o l d v = ((t || s) ≡ true) × (o ≡ false) × (v ≡ false) × ((t || d) ≡ true)
IsState left t s o l d v = ((t || s) ≡ false) × (o ≡ true) × (l ≡ true) × (v ≡ false)
IsState over t s o l d v = (v ≡ true) × ((t || (d || l)) ≡ true)

deep-true : (b d : Bool) → (b || (d || true)) ≡ true
deep-true true d = refl
deep-true false d = or-all d

or-more : (t s x : Bool) → (t || s) ≡ true → (t || (x || s)) ≡ true
or-more true s x h = refl
or-more false s true h = refl
or-more false s false h = h

or-wider : (t d l : Bool) → (t || d) ≡ true → (t || (d || l)) ≡ true
or-wider true d l h = refl
or-wider false true l h = refl
or-wider false false l h = absurd (never h)

abbrev after_done : State → State
after_done begun = told
after_done told = told
after_done left = over
after_done over = over

done-moves : (st : State) (t s o l d v : Bool) → IsState st t s o l d v → IsState (after_done st) t (not l || s) o l true (o || v)
done-moves begun t s o l d v h = (rw (h.0, h.3) refl, h.2, rw (h.2, h.5) refl, or-all t)
done-moves told t s o l d v h = (or-more t s (not l) h.0, h.1, rw (h.1, h.2) refl, or-all t)
done-moves left t s o l d v h = (rw h.1 refl, or-all t)
done-moves over t s o l d v h = (rw h.0 (or-all o), or-all t)

abbrev after_loss : State → State
after_loss begun = left
after_loss told = over
after_loss left = left
after_loss over = over

loss-moves : (st : State) (t s o l d v : Bool) → IsState st t s o l d v → IsState (after_loss st) t s (not (t || s) || o) true d (((t || s) || false) || v)
loss-moves begun t s o l d v h = (rw (h.0, h.1) refl, rw (h.0, h.1) refl, refl, rw (h.0, h.1, h.5) refl)
loss-moves told t s o l d v h = (rw h.0 refl, deep-true t d)
loss-moves left t s o l d v h = (h.0, rw h.0 refl, refl, rw (h.0, h.3) refl)
loss-moves over t s o l d v h = (rw h.0 (or-all ((t || s) || false)), deep-true t d)

abbrev state_run : ℕ → Value → State → Option Execution
state_run a v begun = Some (record { by = a; oper = v; phase = underway })
state_run a v told = Some (record { by = a; oper = v; phase = ended })
state_run a v left = Some (record { by = a; oper = v; phase = orphaned })
state_run a v over = None

-- ---- the last Oper and what runs

abbrev done_first : ℕ → ℕ → Past → Bool
done_first k a after = is_among (λ d between. is_done k d && not (was_lost a between)) after

abbrev IsAt : ℕ → Operated → State → Type 0
IsAt k o st = IsState st (is_test o.oper) (done_first k o.by o.after) (lost_before k o.by o.oper o.after) (was_lost o.by o.after) (was_done k o.after) (is_over k o.by o.oper o.after)

record Reads (k : ℕ) (o : Operated) (x : Option Execution) : Type 0 where
  state : State
  is_at : IsAt k o state
  runs : x ≡ state_run o.by o.oper state

abbrev ReadsLast : ℕ → Option Operated → Option Execution → Type 0
ReadsLast k None x = x ≡ None
ReadsLast k (Some o) x = Reads k o x

still-one : (k n m : ℕ) (d : Deed) (o : Operated) (x : Option Execution) → is_done k d ≡ false → is_loss o.by d ≡ false → gives o.by k d ≡ false → Reads k o x → Reads k (followed (point n m d) o) x
still-one k n m d o x e f g h = record { state = h.state; is_at = rw (e, f, g) h.is_at; runs = h.runs }

still : (k n m : ℕ) (d : Deed) (last : Option Operated) (x : Option Execution) → is_done k d ≡ false → ((a : ℕ) → is_loss a d ≡ false) → ((a : ℕ) → gives a k d ≡ false) → ReadsLast k last x
    → ReadsLast k (option_map (followed (point n m d)) last) x
still k n m d None x e f g h = h
still k n m d (Some o) x e f g h = still-one k n m d o x e (f o.by) (g o.by) h

fresh : (k a : ℕ) (v : Value) (u : Bool) → is_test v ≡ u → Reads k (record { by = a; oper = v; after = [] }) (Some (record { by = a; oper = v; phase = if u then ended else underway }))
fresh k a v true e = record { state = told; is_at = (rw e refl, refl, refl, rw e refl); runs = refl }
fresh k a v false e = record { state = begun; is_at = (e, refl, refl, refl, refl, refl); runs = refl }

done-one : (k n m j : ℕ) (good : Bool) (o : Operated) (x : Option Execution) → (j == k) ≡ true → Reads k o x
    → Reads k (followed (point n m (finished j good)) o) (option_and_then (λ (e : Execution). ends_by_done e e.phase) x)
done-one k n m j good o x e h = record {
  state = after_done h.state;
  is_at = rw e (done-moves h.state _ _ _ _ _ _ h.is_at);
  runs = ap (λ y. option_and_then (λ (e : Execution). ends_by_done e e.phase) y) h.runs ∙ moves h.state;
} where
  moves : (st : State) → option_and_then (λ (e : Execution). ends_by_done e e.phase) (state_run o.by o.oper st) ≡ state_run o.by o.oper (after_done st)
  moves begun = refl
  moves told = refl
  moves left = refl
  moves over = refl

done-last : (k n m j : ℕ) (good : Bool) (last : Option Operated) (x : Option Execution) → (j == k) ≡ true → ReadsLast k last x
    → ReadsLast k (option_map (followed (point n m (finished j good))) last) (option_and_then (λ (e : Execution). ends_by_done e e.phase) x)
done-last k n m j good None x e h = rw h refl
done-last k n m j good (Some o) x e h = done-one k n m j good o x e h

abbrev without : ℕ → Option Execution → Option Execution
without b x = option_and_then (λ (e : Execution). if e.by == b then ends_by_loss e e.phase else Some e) x

turned-same : (a b : ℕ) → (a == b) ≡ true → (b == a) ≡ true
turned-same a b h = subst (λ i. (i == a) ≡ true) (same-of a b h) (same a)

loss-one : (k n m b : ℕ) (o : Operated) (x : Option Execution) → Reads k o x → Reads k (followed (point n m (lost b)) o) (without b x)
loss-one k n m b o x h = either (b == o.by) refl where
  own : (st : State) → (o.by == b) ≡ true → without b (state_run o.by o.oper st) ≡ state_run o.by o.oper (after_loss st)
  own begun e = rw e refl
  own told e = rw e refl
  own left e = rw e refl
  own over e = refl

  others : (st : State) → (o.by == b) ≡ false → without b (state_run o.by o.oper st) ≡ state_run o.by o.oper st
  others begun e = rw e refl
  others told e = rw e refl
  others left e = rw e refl
  others over e = refl

  apart : (b == o.by) ≡ false → (o.by == b) ≡ false
  apart e = by (o.by == b) refl where
    by : (u : Bool) → (o.by == b) ≡ u → u ≡ false
    by false f = refl
    by true f = absurd (never (sym e ∙ turned-same o.by b f))

  either : (u : Bool) → (b == o.by) ≡ u → Reads k (followed (point n m (lost b)) o) (without b x)
  either true e = record {
    state = after_loss h.state;
    is_at = rw e (loss-moves h.state _ _ _ _ _ _ h.is_at);
    runs = ap (without b) h.runs ∙ own h.state (turned-same b o.by e);
  }
  either false e = still-one k n m (lost b) o (without b x) refl e refl (record { state = h.state; is_at = h.is_at; runs = ap (without b) h.runs ∙ others h.state (apart e) })

loss-last : (k n m b : ℕ) (last : Option Operated) (x : Option Execution) → ReadsLast k last x → ReadsLast k (option_map (followed (point n m (lost b))) last) (without b x)
loss-last k n m b None x h = rw h refl
loss-last k n m b (Some o) x h = loss-one k n m b o x h

-- a Take gives the termination of what runs
given-moves : (t s o l d v : Bool) → IsState told t s o l d v → IsState over t s o l d (((t || s) || false) || v)
given-moves t s o l d v h = (rw h.0 refl, or-wider t d l h.3)

given-over : (k n m b j : ℕ) (o : Operated) → (j == k) ≡ true → (b == o.by) ≡ true → IsAt k o told → IsAt k (followed (point n m (terminated b j)) o) over
given-over k n m b j o e own is = rw (own, e)
    (given-moves (is_test o.oper) (done_first k o.by o.after) (lost_before k o.by o.oper o.after) (was_lost o.by o.after) (was_done k o.after) (is_over k o.by o.oper o.after) is)

given-one : (k n m b j : ℕ) (o : Operated) (x : Option Execution) → (j == k) ≡ true → Reads k o x → 1 ≤ due_for b x → Reads k (followed (point n m (terminated b j)) o) None
given-one k n m b j o x e h due = by h.state h.is_at (subst (λ y. 1 ≤ due_for b y) h.runs due) where
  by : (st : State) → IsAt k o st → 1 ≤ due_for b (state_run o.by o.oper st) → Reads k (followed (point n m (terminated b j)) o) None
  by begun is w = absurd (omega (arith, w))
  by left is w = absurd (omega (arith, w))
  by over is w = absurd (omega (arith, w))
  by told is w = mine (o.by == b) refl w where
    mine : (u : Bool) → (o.by == b) ≡ u → 1 ≤ (if u then 1 else 0) → Reads k (followed (point n m (terminated b j)) o) None
    mine false f w = absurd (omega (arith, w))
    mine true f w = record { state = over; is_at = given-over k n m b j o e (turned-same o.by b f) is; runs = refl }

given-last : (k n m b j : ℕ) (last : Option Operated) (x : Option Execution) → (j == k) ≡ true → ReadsLast k last x → 1 ≤ due_for b x
    → ReadsLast k (option_map (followed (point n m (terminated b j))) last) None
given-last k n m b j None x e h due = refl
given-last k n m b j (Some o) x e h due = given-one k n m b j o x e h due

-- ---- over a history

module _ (c : Model) (k : ℕ) (enhanced : is_enhanced c k ≡ true) where
  abbrev Holds : Past → Type 0
  Holds past = ReadsLast k (last_oper k past) (execution c k past)

  still_ : (n m : ℕ) (d : Deed) (before : Past) → is_done k d ≡ false → ((a : ℕ) → is_loss a d ≡ false) → ((a : ℕ) → gives a k d ≡ false) → Holds before → ReadsLast k (option_map (followed (point n m d)) (last_oper k before)) (execution c k before)
  still_ n m d before e f g h = still k n m d (last_oper k before) (execution c k before) e f g h

  quietly : (n m : ℕ) (d : Deed) (before : Past) → IsQuiet d → Holds before → Holds (point n m d ∷ before)
  quietly n m nothing before q h = still_ n m nothing before refl (λ i. refl) (λ i. refl) h
  quietly n m (wrote a b comp v) before q h = still_ n m (wrote a b comp v) before refl (λ i. refl) (λ i. refl) h
  quietly n m (put a x v) before q h = still_ n m (put a x v) before refl (λ i. refl) (λ i. refl) h
  quietly n m (copied a x v) before q h = still_ n m (copied a x v) before refl (λ i. refl) (λ i. refl) h
  quietly n m (activated a e g) before q h = still_ n m (activated a e g) before refl (λ i. refl) (λ i. refl) h
  quietly n m (edited a e g) before q h = still_ n m (edited a e g) before refl (λ i. refl) (λ i. refl) h
  quietly n m (confirmed a e) before q h = still_ n m (confirmed a e) before refl (λ i. refl) (λ i. refl) h
  quietly n m (called a j select v) before q h = still_ n m (called a j select v) before refl (λ i. refl) (λ i. refl) h
  quietly n m (called a j cancel v) before q h = still_ n m (called a j cancel v) before refl (λ i. refl) (λ i. refl) h
  quietly n m (selected_control a j) before q h = still_ n m (selected_control a j) before refl (λ i. refl) (λ i. refl) h
  quietly n m (valued s) before q h = still_ n m (valued s) before refl (λ i. refl) (λ i. refl) h
  quietly n m (blocked j flag) before q h = still_ n m (blocked j flag) before refl (λ i. refl) (λ i. refl) h
  quietly n m (reported a b i) before q h = still_ n m (reported a b i) before refl (λ i. refl) (λ i. refl) h
  quietly n m (called a j operate v) before q h = absurd q
  quietly n m (opened a o w size owner) before q h = absurd q
  quietly n m (lost a) before q h = absurd q
  quietly n m (finished j good) before q h = absurd q
  quietly n m (answered a o ch) before q h = absurd q
  quietly n m (took a) before q h = absurd q
  quietly n m (terminated a j) before q h = absurd q

  operates : (n m a j : ℕ) (v : Value) (before : Past) → Holds before → Holds (point n m (called a j operate v) ∷ before)
  operates n m a j v before h = either (j == k) where
    either : (t : Bool) → ReadsLast k (if t then Some (record { by = a; oper = v; after = [] }) else option_map (followed (point n m (called a j operate v))) (last_oper k before))
        (if t && is_enhanced c k then Some (record { by = a; oper = v; phase = if is_test v then ended else underway }) else execution c k before)
    either true = rw enhanced (fresh k a v (is_test v) refl)
    either false = still_ n m (called a j operate v) before refl (λ i. refl) (λ i. refl) h

  calls : (n m a j : ℕ) (call : Call) (v : Value) (before : Past) → Holds before → Holds (point n m (called a j call v) ∷ before)
  calls n m a j select v before h = quietly n m (called a j select v) before tt h
  calls n m a j operate v before h = operates n m a j v before h
  calls n m a j cancel v before h = quietly n m (called a j cancel v) before tt h

  dones : (n m j : ℕ) (good : Bool) (before : Past) → Holds before → Holds (point n m (finished j good) ∷ before)
  dones n m j good before h = either (j == k) refl where
    either : (t : Bool) → (j == k) ≡ t → ReadsLast k (option_map (followed (point n m (finished j good))) (last_oper k before))
        (if t then option_and_then (λ (e : Execution). ends_by_done e e.phase) (execution c k before) else execution c k before)
    either true e = done-last k n m j good (last_oper k before) (execution c k before) e h
    either false e = still_ n m (finished j good) before e (λ i. refl) (λ i. refl) h

  -- a Take that gives a termination
  terminates : (n m b j : ℕ) (before : Past) → Holds before → (1 ≤ endings j (waiting c b before)) → ((e : ℕ) → endings e (waiting c b before) ≡ due_for b (execution c e before)) → Holds (point n m (terminated b j) ∷ before)
  terminates n m b j before h some waits = either (j == k) refl where
    either : (t : Bool) → (j == k) ≡ t → ReadsLast k (option_map (followed (point n m (terminated b j))) (last_oper k before)) (if t then None else execution c k before)
    either true e = given-last k n m b j (last_oper k before) (execution c k before) e h (omega (arith, subst (λ i. 1 ≤ endings i (waiting c b before)) (same-of j k e) some, waits k))
    either false e = still_ n m (terminated b j) before refl (λ i. refl) (λ i. rw e (and-false (b == i))) h

  takes : (n m b : ℕ) (past : Past) → Holds past → ((e : ℕ) → endings e (waiting c b past) ≡ due_for b (execution c e past)) → Holds (point n m (taken c b (arrival n m ∷ past)).deed ∷ past)
  takes n m b past h waits = either (is_none (ends b past)) (waiting c b past) refl where
    report : (o : Option Offer) → Holds (point n m (given_report c b (arrival n m ∷ past) o).deed ∷ past)
    report None = quietly n m nothing past tt h
    report (Some o) = quietly n m (reported b o.block o.id) past tt h

    first : (j : ℕ) (good : Bool) (ws : List Waiting) → 1 ≤ endings j (ending j good ∷ ws)
    first j good ws = rw same (omega arith)

    either : (x : Bool) (ws : List Waiting) → waiting c b past ≡ ws
        → Holds (point n m (if x then record { answer = answers.Closed; deed = nothing } else given_by c b (arrival n m ∷ past) ws).deed ∷ past)
    either true ws e = quietly n m nothing past tt h
    either false [] e = report (first_offer c b (arrival n m ∷ past) 0 c.blocks)
    either false (reply o ∷ ws) e = still_ n m (took b) past refl (λ i. refl) (λ i. refl) h
    either false (ending j good ∷ ws) e = terminates n m b j past h (subst (λ l. 1 ≤ endings j l) (sym e) (first j good ws)) waits

  of_singles : (n m b : ℕ) (past : Past) → Holds past → OfSingles c b (arrival n m ∷ past) (λ d. Holds (point n m d ∷ past))
  of_singles n m b past h = record {
    of_quiet = λ d quiet is. quietly n m d past quiet h;
    of_called = λ j call v is. calls n m b j call v past h;
    of_selected = λ j is. quietly n m (selected_control b j) past tt h;
  }

  singles : (n m b : ℕ) (ss : List Single) (past : Past) → Holds past → Holds (after_singles c b n m ss past)
  singles n m b [] past h = h
  singles n m b (s ∷ ss) past h = singles n m b ss (after_single c b n m s past) (outcome c b (arrival n m ∷ past) (λ d. Holds (point n m d ∷ past)) (of_singles n m b past h) s)

  turn : (n : ℕ) (t : Turn) (s : Step) (past : Past) → ((b e : ℕ) → endings e (waiting c b past) ≡ due_for b (execution c e past)) → Holds past → Holds (point n t.moment (deed_at c n t past s) ∷ singles_after c n t past s)
  turn n t (steps.Open b size writer owner) past waits h = still_ n t.moment (opened b.0 t.actor writer.0 size owner) past refl (λ i. refl) (λ i. refl) h
  turn n t (steps.Ask b r) past waits h = still_ n t.moment (deed_at c n t past (steps.Ask b r)) (after_singles c b.0 n t.moment (singles_of c past r.service) past) refl (λ i. refl) (λ i. refl)
      (singles n t.moment b.0 (singles_of c past r.service) past h)
  turn n t (steps.Write b x comp v) past waits h = quietly n t.moment (deed_at c n t past (steps.Write b x comp v)) past (write-quiet c b.0 x.0 comp v (arrival n t.moment ∷ past)) h
  turn n t (steps.Take b) past waits h = takes n t.moment b.0 past h (waits b.0)
  turn n t (steps.Lost b) past waits h = loss-last k n t.moment b.0 (last_oper k past) (execution c k past) h
  turn n t (steps.Value settings) past waits h = quietly n t.moment (valued settings) past tt h
  turn n t (steps.Done j good) past waits h = dones n t.moment j.0 good past h
  turn n t (steps.Block j flag) past waits h = quietly n t.moment (blocked j.0 flag) past tt h
  turn n t steps.Tick past waits h = quietly n t.moment nothing past tt h

  held : (h : History) → IsHistory c h → Holds (points c h)
  held [] is = refl
  held (t ∷ h) is = turn (length h) t t.step (points c h) (terminations_wait c h is.0) (held h is.0)

-- nothing runs under normal security
abbrev nobody : Option Execution
nobody = None

module _ (c : Model) (k : ℕ) (normal : is_enhanced c k ≡ false) where
  idle-deed : (d : Deed) (x : Option Execution) → x ≡ None → execution_after c k d x ≡ None
  idle-deed nothing x h = h
  idle-deed (wrote a b comp v) x h = h
  idle-deed (put a i v) x h = h
  idle-deed (copied a i v) x h = h
  idle-deed (activated a e g) x h = h
  idle-deed (edited a e g) x h = h
  idle-deed (confirmed a e) x h = h
  idle-deed (called a j select v) x h = h
  idle-deed (called a j cancel v) x h = h
  idle-deed (selected_control a j) x h = h
  idle-deed (valued s) x h = h
  idle-deed (blocked j flag) x h = h
  idle-deed (reported a b i) x h = h
  idle-deed (opened a o w size owner) x h = h
  idle-deed (answered a o ch) x h = h
  idle-deed (took a) x h = h
  idle-deed (called a j operate v) x h = rw normal (either (j == k)) where
    either : (t : Bool) → (if t && false then Some (record { by = a; oper = v; phase = if is_test v then ended else underway }) else x) ≡ None
    either true = h
    either false = h
  idle-deed (finished j good) x h = rw h (either (j == k)) where
    either : (t : Bool) → (if t then option_and_then (λ (e : Execution). ends_by_done e e.phase) None else None) ≡ None
    either true = refl
    either false = refl
  idle-deed (lost a) x h = rw h refl
  idle-deed (terminated a j) x h = rw h (either (j == k)) where
    either : (t : Bool) → (if t then nobody else nobody) ≡ nobody
    either true = refl
    either false = refl

  idle : (past : Past) → execution c k past ≡ None
  idle [] = refl
  idle (p ∷ before) = idle-deed p.deed (execution c k before) (idle before)

-- ---- the laws

read : (k : ℕ) (last : Option Operated) (x : Option Execution) → ReadsLast k last x → x ≡ executed k last
read k None x h = h
read k (Some o) x h = h.runs ∙ by h.state h.is_at where
  shown : (st : State) (t s o_ l d v : Bool) → IsState st t s o_ l d v
      → state_run o.by o.oper st ≡ (if v then None else Some (record { by = o.by; oper = o.oper; phase = if t || s then ended else (if o_ then orphaned else underway) }))
  shown begun t s o_ l d v h = rw (h.0, h.1, h.2, h.5) refl
  shown told t s o_ l d v h = rw (h.0, h.2) refl
  shown left t s o_ l d v h = rw (h.0, h.1, h.3) refl
  shown over t s o_ l d v h = rw h.0 refl

  by : (st : State) → IsAt k o st → state_run o.by o.oper st ≡ executed k (Some o)
  by st is = shown st _ _ _ _ _ _ is

pub executions_are : (c : Model) (h : History) → IsHistory c h → (k : ℕ) → execution c k (points c h) ≡ (if is_enhanced c k then executed k (last_oper k (points c h)) else None)
executions_are c h is k = either (is_enhanced c k) refl where
  either : (t : Bool) → is_enhanced c k ≡ t → execution c k (points c h) ≡ (if t then executed k (last_oper k (points c h)) else None)
  either true e = read k (last_oper k (points c h)) (execution c k (points c h)) (held c k e h is)
  either false e = idle c k e (points c h)

abbrev put_if : ℕ → Bool → Bool → List Waiting
put_if k good t = if t then ending k good ∷ [] else []

puts : (k a : ℕ) (good : Bool) (last : Option Operated) (x : Option Execution) → ReadsLast k last x → ends_for a k good x ≡ first_for a k good last
puts k a good None x h = rw h refl
puts k a good (Some o) x h = ap (ends_for a k good) h.runs ∙ by h.state h.is_at where
  first : (st : State) (t s o_ l d v : Bool) → IsState st t s o_ l d v → ends_for a k good (state_run o.by o.oper st) ≡ put_if k good ((o.by == a) && (not t && not d && not l))
  first begun t s o_ l d v h = rw (h.0, h.3, h.4) refl
  first told t s o_ l d v h = ap (put_if k good) (rest t d l h.3) where
    rest : (t d l : Bool) → (t || d) ≡ true → ((o.by == a) && false) ≡ ((o.by == a) && (not t && not d && not l))
    rest true d l h = refl
    rest false true l h = refl
    rest false false l h = absurd (never h)
  first left t s o_ l d v h = ap (put_if k good) (rest t d l h.2) where
    rest : (t d l : Bool) → l ≡ true → ((o.by == a) && false) ≡ ((o.by == a) && (not t && not d && not l))
    rest true d l h = refl
    rest false true l h = refl
    rest false false l h = rw h refl
  first over t s o_ l d v h = rest t d l h.1 where
    rest : (t d l : Bool) → (t || (d || l)) ≡ true → [] ≡ put_if k good ((o.by == a) && (not t && not d && not l))
    rest true d l h = rw (and-false (o.by == a)) refl
    rest false true l h = rw (and-false (o.by == a)) refl
    rest false false true h = rw (and-false (o.by == a)) refl
    rest false false false h = absurd (never h)

  by : (st : State) → IsAt k o st → ends_for a k good (state_run o.by o.oper st) ≡ first_for a k good (Some o)
  by st is = first st _ _ _ _ _ _ is

pub terminations_are : (c : Model) (h : History) → IsHistory c h → (a k : ℕ) (good : Bool)
    → ends_for a k good (execution c k (points c h)) ≡ (if is_enhanced c k then first_for a k good (last_oper k (points c h)) else [])
terminations_are c h is a k good = either (is_enhanced c k) refl where
  either : (t : Bool) → is_enhanced c k ≡ t → ends_for a k good (execution c k (points c h)) ≡ (if t then first_for a k good (last_oper k (points c h)) else [])
  either true e = puts k a good (last_oper k (points c h)) (execution c k (points c h)) (held c k e h is)
  either false e = ap (ends_for a k good) (idle c k e (points c h))

abbrev finish : Option Execution → Option Execution
finish x = option_and_then (λ (e : Execution). ends_by_done e e.phase) x

rests : (k : ℕ) (last : Option Operated) (x : Option Execution) → ReadsLast k last x → option_map_or (λ (o : Operated). ends_by k o) last false ≡ false
    → option_and_then (λ (e : Execution). ends_by_done e e.phase) x ≡ x
rests k None x h none = rw h refl
rests k (Some o) x h none = ap finish h.runs ∙ (by h.state h.is_at none ∙ sym h.runs) where
  same_ : (st : State) (t s o_ l d v : Bool) → IsState st t s o_ l d v → ((not t && not d && not l) || (o_ && not v)) ≡ false → finish (state_run o.by o.oper st) ≡ state_run o.by o.oper st
  same_ told t s o_ l d v h none = refl
  same_ over t s o_ l d v h none = refl
  same_ begun t s o_ l d v h none = absurd (never (sym none ∙ rw (h.0, h.3, h.4) refl))
  same_ left t s o_ l d v h none = absurd (never (sym none ∙ rw (h.1, h.3) (or-all (not t && not d && not l))))

  by : (st : State) → IsAt k o st → ends_by k o ≡ false → finish (state_run o.by o.oper st) ≡ state_run o.by o.oper st
  by st is none = same_ st _ _ _ _ _ _ is none

pub other_dones : (c : Model) (h : History) → IsHistory c h → (k : ℕ) (good : Bool) → (is_enhanced c k && option_map_or (λ (o : Operated). ends_by k o) (last_oper k (points c h)) false) ≡ false
    → execution_after c k (finished k good) (execution c k (points c h)) ≡ execution c k (points c h)
other_dones c h is k good none = rw same (either (is_enhanced c k) refl none) where
  either : (t : Bool) → is_enhanced c k ≡ t → (t && option_map_or (λ (o : Operated). ends_by k o) (last_oper k (points c h)) false) ≡ false
      → option_and_then (λ (e : Execution). ends_by_done e e.phase) (execution c k (points c h)) ≡ execution c k (points c h)
  either true e f = rests k (last_oper k (points c h)) (execution c k (points c h)) (held c k e h is) f
  either false e f = rw (idle c k e (points c h)) refl

-- ---- after a reply

tests-singles : (c : Model) (a n m : ℕ) (ss : List Single) (past : Past) → tests c n (after_singles c a n m ss past) ≡ tests c n past ++ tests_in c (outcomes c a n m ss past)
tests-singles c a n m [] past = sym (append-nil (tests c n past))
tests-singles c a n m (s ∷ ss) past = tests-singles c a n m ss (after_single c a n m s past) ∙ (ap (λ ks. ks ++ tests_in c (outcomes c a n m ss (after_single c a n m s past))) one
    ∙ append_assoc (tests c n past) (tests_of c (deed_of (outcome_at c a n m s past))) (tests_in c (outcomes c a n m ss (after_single c a n m s past)))) where
      one : tests c n (after_single c a n m s past) ≡ tests c n past ++ tests_of c (deed_of (outcome_at c a n m s past))
      one = rw same refl

pub tests_follow : (c : Model) (h : History) (t : Turn) (a : AssocNo) (r : Request) → put_by c a.0 (length h) (deed_at c (length h) t (points c h) (steps.Ask a r)) (asked c h t a.0 r)
    ≡ reply (output_for c (length h) t.moment a.0 r (points c h)) ∷ map (λ k. ending k true) (tests_in c (outcomes_of c (length h) t.moment a.0 r (points c h)))
tests_follow c h t a r = rw same (ap (λ ks. reply (output_for c (length h) t.moment a.0 r (points c h)) ∷ map (λ k. ending k true) ks)
    (tests-singles c a.0 (length h) t.moment (singles_of c (points c h) r.service) (points c h)
    ∙ ap (λ ks. ks ++ tests_in c (outcomes_of c (length h) t.moment a.0 r (points c h))) (fresh_tests c h)))
