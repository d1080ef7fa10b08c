-- What a turn of a seat means for its pass.
use Rattle.std.proofs.Common.{◌≡◌, ℕ, ◌+◌, ◌-◌, ◌<◌, ◌≢◌, ◌⊎◌, List, [], ◌∷◌, ◌++◌, length, Ok, Err, sym, refl, ap, ◌∙◌, subst, inl, inr, ⊎_elim, eqb, eq-eqb, arith, cond, Bool, true, false, Option, ltb}
use mathlib.Core.Logic.{dite}
use native.Mathlib.Decide.{dec_le}
use Rattle.bay_model.specs.declared.step.Step.{Step}
use Rattle.bay_model.specs.declared.answer.Answer.{Answer}
use Rattle.bay_histories.specs.declared.fault.StepFault.{StepFault}
use Rattle.bay_model.specs.Answers.{Turn, History}
use Rattle.sv_base.specs.declared.config.Config.{Config}
use Rattle.bay_histories.specs.Rules.{Rules}
use Rattle.atomic_table.specs.declared.shared.Seat.{Seat}
use Rattle.history_lock.specs.declared.fault.TurnFault.TheVariants as faults
use Rattle.history_lock.specs.declared.history.Pass.TheInside.{Inside}
use Rattle.history_lock.specs.declared.view.View.{View}
use Rattle.bay_histories.specs.Histories.{IsEarlier, turn_of, by, answers_of, places_of}
use Rattle.history_lock.specs.Views.{total, inside, mine}
use Rattle.history_lock.specs.Plays.{Seated, Others, joined, settled, Agree, Beside}
use Rattle.history_lock.specs.Seats.{Took, at_rest, config_or, others_of, known}
use Rattle.history_lock.specs.Passes.{Known, IsIn, InSome, HasNumber, OfOthers, Turned, later, own, Joined, told, placed, IsBehind}
use Rattle.history_lock.proofs.Steps.{by-append, by_mine}
use Rattle.history_lock.proofs.Parts.{inside_below, inside_within, inside_above}
use Rattle.list_laws.proofs.Options.{none_chosen, not_chosen}

pub counted : (k : ℕ) (rs : List (ℕ × ℕ)) → InSome k rs → 0 < total (inside k) rs
counted k [] h = absurd h
counted k (r ∷ rs) h = ⊎_elim (λ (x : IsIn k r). omega (arith, inside_within k r.0 r.1 x.0 x.1)) (λ (x : InSome k rs). omega (arith, counted k rs x)) h

pub found : (k : ℕ) (rs : List (ℕ × ℕ)) → 0 < total (inside k) rs → InSome k rs
found k [] h = absurd (omega arith)
found k (r ∷ rs) h = dite (dec_le r.0 k)
    (λ from. dite (dec_le (r.0 + r.1) k) (λ above. inr (found k rs (omega (arith, h, inside_above k r.0 r.1 above)))) (λ under. inl (from, omega arith)))
    (λ below. inr (found k rs (omega (arith, h, inside_below k r.0 r.1 (omega arith)))))

longer_length : (b : Bool) (xs ys : History) → cond b (length ys) (length xs) ≡ length (cond b ys xs)
longer_length true xs ys = refl
longer_length false xs ys = refl

longer_one : (b : Bool) (xs ys : History) → (cond b ys xs ≡ xs) ⊎ (cond b ys xs ≡ ys)
longer_one true xs ys = inr refl
longer_one false xs ys = inl refl

module _ {M : Type 0} where
  -- what a contract sees of the pass
  abbrev pub known_of : Inside M → Known
  known_of i = known i.seat.table_id i.seat.me i.first i.count i.left

  abbrev pub IsRest : Inside M → Type 0
  IsRest i = i.seat.me ≡ at_rest (config_or i.seat.me.0.config) i.first i.count (others_of i.seat.me.0.ranges) i.left i.seat.me.0.seen

  pub not_ours : (i : Inside M) → IsRest i → (between : History) → Others i.seat.me.0 between → OfOthers (known_of i) between
  not_ours i rest between others k has = others k
      (subst (λ (rs : List (ℕ × ℕ)). 0 < total (inside k) rs) (sym (ap (λ (m : Seated M). m.0.ranges) rest))
      (counted k ((i.first, i.count) ∷ others_of i.seat.me.0.ranges) has))

  -- what another has seen, beside what the pass has
  pub behind : (i o : Inside M) → IsRest i → Beside i.seat.me.0 o.seat.me.0.seen
      → IsBehind (known_of i) (known_of o) ⊎ IsEarlier (known_of o).seen (known_of i).seen
  behind i o rest beside = ⊎_elim (λ b. inl (b.0, b.1, not_ours i rest b.0 b.2)) (λ e. inr e) beside

  abbrev after : Inside M → Seat (Option M) View → ℕ → Inside M
  after i s n = record { seat = s; first = i.first; count = i.count; left = i.left - 1; seen = n }

  came : (i : Inside M) (s : Seat (Option M) View) (n : ℕ) (seen : History) → s.table_id ≡ i.seat.table_id → s.me.0.config ≡ i.seat.me.0.config
      → s.me.0.ranges ≡ i.seat.me.0.ranges → s.me.0.seen ≡ seen → known_of (after i s n) ≡ later (known_of i) seen
  came i s n seen table config ranges is = λ j. record {
    table = table j;
    config = config_or (config j);
    first = i.first;
    count = i.count;
    joined = others_of (ranges j);
    left = i.left - 1;
    seen = is j;
  }

  pub turned_ok : (rules : Rules) (i : Inside M) (s : Seat (Option M) View) (n moment : ℕ) (answer : Answer) (place : ℕ) (step : Step) → IsRest i → i.left ≢ 0
      → s.table_id ≡ i.seat.table_id
      → Took rules (config_or i.seat.me.0.config) i.seat.me (turn_of moment i.first step) (Ok (answer, place)) s.me
      → Turned rules (known_of i) moment step (Ok (answer, place)) (known_of (after i s n))
  turned_ok rules i s n moment answer place step rest some_left table t = (
    omega arith,
    t.0,
    not_ours i rest t.0 t.2,
    (
      came i s n (turn_of moment i.first step ∷ t.0 ++ i.seat.me.0.seen) table (ap (λ (m : Seated M). m.0.config) t.1) (ap (λ (m : Seated M). m.0.ranges) t.1)
          (ap (λ (m : Seated M). m.0.seen) t.1),
      t.3,
      t.4,
      t.6,
    ),
  )

  pub turned_err : (rules : Rules) (i : Inside M) (s : Seat (Option M) View) (n moment : ℕ) (f : StepFault) (count : ℕ) (step : Step) → IsRest i → i.left ≢ 0
      → s.table_id ≡ i.seat.table_id
      → Took rules (config_or i.seat.me.0.config) i.seat.me (turn_of moment i.first step) (Err (f, count)) s.me
      → Turned rules (known_of i) moment step (Err (faults.Step f)) (known_of (after i s n))
  turned_err rules i s n moment f count step rest some_left table t = (
    omega arith,
    t.0,
    not_ours i rest t.0 t.2,
    (
      came i s n (t.0 ++ i.seat.me.0.seen) table (ap (λ (m : Seated M). m.0.config) t.1) (ap (λ (m : Seated M). m.0.ranges) t.1)
          (ap (λ (m : Seated M). m.0.seen) t.1),
      t.3,
      t.5,
    ),
  )

  -- the pass after a join
  abbrev both : Inside M → Inside M → Seat (Option M) View → ℕ → Inside M
  both i o s n = record { seat = s; first = i.first; count = i.count; left = i.left + o.left; seen = n }

  pub joined_rest : (i o : Inside M) (s : Seat (Option M) View) (n : ℕ) → IsRest i → IsRest o → s.me ≡ (settled (joined i.seat.me.0 o.seat.me.0), [])
      → IsRest (both i o s n)
  joined_rest i o s n rest rest' me =
      let at : settled (joined i.seat.me.0 o.seat.me.0) ≡ settled
      (joined (at_rest {M = M} (config_or i.seat.me.0.config) i.first i.count (others_of i.seat.me.0.ranges) i.left i.seat.me.0.seen).0
      (at_rest {M = M} (config_or o.seat.me.0.config) o.first o.count (others_of o.seat.me.0.ranges) o.left o.seat.me.0.seen).0) =
      λ j. settled (joined (rest j).0 (rest' j).0) in
      let now : s.me ≡ (
        settled (joined (at_rest {M = M} (config_or i.seat.me.0.config) i.first i.count (others_of i.seat.me.0.ranges) i.left i.seat.me.0.seen).0
            (at_rest {M = M} (config_or o.seat.me.0.config) o.first o.count (others_of o.seat.me.0.ranges) o.left o.seat.me.0.seen).0),
        [],
      ) = me ∙ (λ j. (at j, [])) in
      let G : Seated M → Type 0 = λ m. m ≡ at_rest (config_or m.0.config) i.first i.count (others_of m.0.ranges) (i.left + o.left) m.0.seen in
      subst G (sym now) refl

  pub joined_seen : (i o : Inside M) (s : Seat (Option M) View) (n : ℕ) → i.seen ≡ length i.seat.me.0.seen → o.seen ≡ length o.seat.me.0.seen
      → s.me ≡ (settled (joined i.seat.me.0 o.seat.me.0), []) → n ≡ cond (ltb i.seen o.seen) o.seen i.seen → n ≡ length s.me.0.seen
  joined_seen i o s n a b me is =
      is ∙ ((λ j. cond (ltb (a j) (b j)) (b j) (a j))
      ∙ (longer_length (ltb (length i.seat.me.0.seen) (length o.seat.me.0.seen)) i.seat.me.0.seen o.seat.me.0.seen
      ∙ ap (λ (m : Seated M). length m.0.seen) (sym me)))

  pub joined_ok : (i o : Inside M) (s : Seat (Option M) View) (n : ℕ) → IsRest i → IsRest o → s.table_id ≡ i.seat.table_id
      → s.me ≡ (settled (joined i.seat.me.0 o.seat.me.0), []) → Agree (joined i.seat.me.0 o.seat.me.0) s.me.0.seen
      → Joined (known_of i) (known_of o) (known_of (both i o s n))
  joined_ok i o s n rest rest' table me agree =
      let ranges : i.seat.me.0.ranges ≡ (i.first, i.count) ∷ others_of i.seat.me.0.ranges = ap (λ (m : Seated M). m.0.ranges) rest in
      let ranges' : o.seat.me.0.ranges ≡ (o.first, o.count) ∷ others_of o.seat.me.0.ranges = ap (λ (m : Seated M). m.0.ranges) rest' in record {
        place = (table, ap (λ (m : Seated M). config_or m.0.config) me, refl, refl);
        ranges = ap (λ (m : Seated M). others_of m.0.ranges) me ∙ ((λ j. others_of (ranges j ++ ranges' j)));
        turns = refl;
        longer = ⊎_elim (λ e. inl (ap (λ (m : Seated M). m.0.seen) me ∙ e)) (λ e. inr (ap (λ (m : Seated M). m.0.seen) me ∙ e))
            (longer_one (ltb (length i.seat.me.0.seen) (length o.seat.me.0.seen)) i.seat.me.0.seen o.seat.me.0.seen);
        this = agree.this;
        that = agree.that;
        ours = λ k has. agree.here k (subst (λ (rs : List (ℕ × ℕ)). 0 < total (inside k) rs) (sym ranges)
            (counted k ((i.first, i.count) ∷ others_of i.seat.me.0.ranges) has));
        theirs = λ k has. agree.there k (subst (λ (rs : List (ℕ × ℕ)). 0 < total (inside k) rs) (sym ranges')
            (counted k ((o.first, o.count) ∷ others_of o.seat.me.0.ranges) has));
      }

  pub all_of : (i : Inside M) (actors : ℕ) → IsRest i → ((k : ℕ) → k < actors → HasNumber (known_of i) k) → (k : ℕ) → k < actors → 0 < mine k i.seat.me.0
  all_of i actors rest all k near = subst (λ (rs : List (ℕ × ℕ)). 0 < total (inside k) rs) (sym (ap (λ (m : Seated M). m.0.ranges) rest))
      (counted k ((i.first, i.count) ∷ others_of i.seat.me.0.ranges) (all k near))

-- the own steps of a pass after a turn
mine_between : (p : Known) (between : History) → 0 < p.count → OfOthers p between → by p.first between ≡ []
mine_between p between some others = others p.first (inl (omega arith, omega arith))

own_between : (p : Known) (between : History) → 0 < p.count → OfOthers p between → by p.first (between ++ p.seen) ≡ own p
own_between p between some others = by-append p.first between p.seen ∙ ap (λ (l : History). l ++ own p) (mine_between p between some others)

pub own_ok : (rules : Rules) (p q : Known) (moment : ℕ) (answer : Answer) (place : ℕ) (step : Step) → 0 < p.count → Turned rules p moment step (Ok (answer, place)) q
    → own q ≡ turn_of moment p.first step ∷ own p
own_ok rules p q moment answer place step some t =
    let e : Turn = turn_of moment p.first step in
    ap own t.3.0 ∙ (by_mine p.first (t.1 ++ p.seen) e refl ∙ ap (λ (l : History). e ∷ l) (own_between p t.1 some t.2))

pub own_err : (rules : Rules) (p q : Known) (moment : ℕ) (f : StepFault) (step : Step) → 0 < p.count → Turned rules p moment step (Err (faults.Step f)) q → own q ≡ own p
own_err rules p q moment f step some t = ap own t.3.0 ∙ own_between p t.1 some t.2

-- steps of others tell the actor nothing
answers_skip : (rules : Rules) (c : Config) (k : ℕ) (between h : History) → by k between ≡ [] → answers_of rules c k (between ++ h) ≡ answers_of rules c k h
answers_skip rules c k [] h none = refl
answers_skip rules c k (e ∷ es) h none =
    not_chosen (eqb e.actor k) e (by k es) (rules.answer c (es ++ h) e ∷ answers_of rules c k (es ++ h)) (answers_of rules c k (es ++ h)) none
    ∙ answers_skip rules c k es h (none_chosen (eqb e.actor k) e (by k es) none)

pub told_ok : (rules : Rules) (p q : Known) (moment : ℕ) (answer : Answer) (place : ℕ) (step : Step) → 0 < p.count → Turned rules p moment step (Ok (answer, place)) q
    → told rules q ≡ answer ∷ told rules p
told_ok rules p q moment a place step some t =
    let e : Turn = turn_of moment p.first step in
    let before : History = t.1 ++ p.seen in
    let one : told rules (later p (e ∷ before)) ≡ rules.answer p.config before e ∷ answers_of rules p.config p.first before =
    ap (λ b. cond b (rules.answer p.config before e ∷ answers_of rules p.config p.first before) (answers_of rules p.config p.first before))
    (eq-eqb p.first p.first refl) in
    ap (told rules) t.3.0 ∙ (one ∙ (λ i. sym t.3.1 i ∷ answers_skip rules p.config p.first t.1 p.seen (mine_between p t.1 some t.2) i))

pub told_err : (rules : Rules) (p q : Known) (moment : ℕ) (f : StepFault) (step : Step) → 0 < p.count → Turned rules p moment step (Err (faults.Step f)) q → told rules q ≡ told rules p
told_err rules p q moment f step some t = ap (told rules) t.3.0 ∙ answers_skip rules p.config p.first t.1 p.seen (mine_between p t.1 some t.2)

places_skip : (k : ℕ) (between h : History) → by k between ≡ [] → places_of k (between ++ h) ≡ places_of k h
places_skip k [] h none = refl
places_skip k (e ∷ es) h none =
    not_chosen (eqb e.actor k) e (by k es) (length (es ++ h) ∷ places_of k (es ++ h)) (places_of k (es ++ h)) none
    ∙ places_skip k es h (none_chosen (eqb e.actor k) e (by k es) none)

pub placed_ok : (rules : Rules) (p q : Known) (moment : ℕ) (answer : Answer) (place : ℕ) (step : Step) → 0 < p.count → Turned rules p moment step (Ok (answer, place)) q
    → placed q ≡ place ∷ placed p
placed_ok rules p q moment a place step some t =
    let e : Turn = turn_of moment p.first step in
    let before : History = t.1 ++ p.seen in
    let one : placed (later p (e ∷ before)) ≡ length before ∷ places_of p.first before =
    ap (λ b. cond b (length before ∷ places_of p.first before) (places_of p.first before)) (eq-eqb p.first p.first refl) in
    ap placed t.3.0 ∙ (one ∙ (λ i. sym t.3.2 i ∷ places_skip p.first t.1 p.seen (mine_between p t.1 some t.2) i))

pub placed_err : (rules : Rules) (p q : Known) (moment : ℕ) (f : StepFault) (step : Step) → 0 < p.count → Turned rules p moment step (Err (faults.Step f)) q → placed q ≡ placed p
placed_err rules p q moment f step some t = ap placed t.3.0 ∙ places_skip p.first t.1 p.seen (mine_between p t.1 some t.2)
