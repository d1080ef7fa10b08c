-- Who has a control selected: by one holder, and association by association.
use Rattle.std.proofs.Common.{◌≡◌, ℕ, suc, ◌+◌, ◌≤◌, ◌<◌, Bool, true, false, List, [], ◌∷◌, length, refl, sym, ap, ◌∙◌, ◌⊎◌, subst, arith, inl, inr, ◌==◌}
use Rattle.std.specs.Prelude.{⊤, Option, None, Some, is_some, is_none, ◌&&◌, not, if◌then◌else◌, nat_lt}
use Rattle.std.specs.Option.{option_and_then, option_map, option_map_or}
use Rattle.std.proofs.Math.Nat.{le-max_right}
use Rattle.std.proofs.lemmas.Bool.Decides.{leb_tells}
use Rattle.sv_base.specs.declared.value.Value.{Value}
use Rattle.bay_model.specs.declared.answer.Answer.TheVariants as answers
use Rattle.bay_model.specs.declared.step.Step.{Step}
use Rattle.bay_model.specs.declared.step.Step.TheVariants as steps
use Rattle.bay_model.specs.Model.{Model, Call, select, operate, cancel}
use Rattle.bay_model.specs.Lookups.{control_of}
use Rattle.bay_model.specs.Points.{Deed, Point, Past, now, opened, lost, valued, finished, blocked, wrote, put, copied, activated, edited, confirmed, called, selected_control, answered, took, terminated, reported, nothing}
use Rattle.bay_model.specs.Associations.{ends}
use Rattle.bay_model.specs.Commands.{is_command, command_of, Command}
use Rattle.bay_model.specs.Controls.{execution, is_blocked}
use Rattle.bay_model.specs.Selections.{Selection, selection, standing, without_a, operated}
use Rattle.bay_model.specs.Calls.{is_selectable, is_by, is_by_another, is_other_command, accepted, mistyped, went, went_by, first_cause, causes, can_select}
use Rattle.bay_model.specs.Waiting.{Waiting, reply, ending, waiting}
use Rattle.bay_model.specs.Singles.{Single, arrival, after_single, after_singles}
use Rattle.bay_model.specs.Services.{singles_of}
use Rattle.bay_model.specs.Reports.{Offer, first_offer}
use Rattle.bay_model.specs.Takes.{taken, given_by, given_report}
use Rattle.bay_model.specs.Answers.{Turn, History, points, deed_at, singles_after}
use Rattle.control_core.specs.SelectionsAre.{started, has_selected}
use Rattle.list_laws.proofs.Places.{same-number as same, same-of}
use Rattle.control_core.proofs.SingleLaws.{IsBare, OfSingles, outcome, write-bare}
use Rattle.control_core.proofs.TurnLaws.{no-cause}
use Rattle.list_laws.proofs.Truths.{never}

abbrev point : ℕ → ℕ → Deed → Point
point n m d = record { moment = m; step = n; deed = d }

-- below, or not
nat_lt_tells : (n l : ℕ) → ((nat_lt n l ≡ true) × (n < l)) ⊎ ((nat_lt n l ≡ false) × (l ≤ n))
nat_lt_tells n l = elim (leb_tells (suc n) l) [ inl t ↦ inl (t.0, omega (arith, t.1)) | inr t ↦ inr (t.0, omega (arith, t.1)) ]

-- the time is over
abbrev IsOver : ℕ → ℕ → Option ℕ → Type 0
IsOver here timeout None = ⊤
IsOver here timeout (Some s) = s + timeout ≤ here

abbrev AgreesBy : ℕ → ℕ → ℕ → Bool → Option ℕ → Type 0
AgreesBy here timeout since true y = y ≡ Some since
AgreesBy here timeout since false y = IsOver here timeout y

-- a's start is that of the selection where it is a's, and else its time is over
abbrev Agrees : ℕ → ℕ → ℕ → Option Selection → Option ℕ → Type 0
Agrees a here timeout None y = IsOver here timeout y
Agrees a here timeout (Some s) y = AgreesBy here timeout s.since (s.by == a) y

abbrev lasting : ℕ → ℕ → Option Selection → Option Selection
lasting here timeout x = option_and_then (λ (s : Selection). if nat_lt here (s.since + timeout) then Some s else None) x

over-later : (here later timeout : ℕ) (y : Option ℕ) → here ≤ later → IsOver here timeout y → IsOver later timeout y
over-later here later timeout None le h = tt
over-later here later timeout (Some s) le h = omega (arith, le, h)

agrees-later : (a here later timeout : ℕ) (x : Option Selection) (y : Option ℕ) → here ≤ later → Agrees a here timeout x y → Agrees a later timeout x y
agrees-later a here later timeout None y le h = over-later here later timeout y le h
agrees-later a here later timeout (Some s) y le h = by (s.by == a) h where
  by : (t : Bool) → AgreesBy here timeout s.since t y → AgreesBy later timeout s.since t y
  by true h = h
  by false h = over-later here later timeout y le h

-- where no selection stands, everybody's time is over
over-all : (a here timeout : ℕ) (x : Option Selection) (y : Option ℕ) → is_some (lasting here timeout x) ≡ false → Agrees a here timeout x y → IsOver here timeout y
over-all a here timeout None y none h = h
over-all a here timeout (Some s) y none h = by (s.by == a) h where
  past_ : s.since + timeout ≤ here
  past_ = elim (nat_lt_tells here (s.since + timeout)) [
    | inl t ↦ absurd (never (sym none ∙ ap (λ b. is_some (if b then Some s else None)) t.0))
    | inr t ↦ t.1
  ]

  by : (t : Bool) → AgreesBy here timeout s.since t y → IsOver here timeout y
  by true h = subst (IsOver here timeout) (sym h) past_
  by false h = h

-- b selects where no selection stands
agrees-selects : (a b here timeout : ℕ) (x : Option Selection) (y : Option ℕ) (m : Option Command) → is_some (lasting here timeout x) ≡ false → Agrees a here timeout x y
    → Agrees a here timeout (Some (record { by = b; since = here; command = m })) (if true && (b == a) then Some here else y)
agrees-selects a b here timeout x y m none h = by (b == a) where
  by : (t : Bool) → AgreesBy here timeout here t (if true && t then Some here else y)
  by true = refl
  by false = over-all a here timeout x y none h

-- b's selection ends
agrees-ends : (a b here timeout : ℕ) (x : Option Selection) (y : Option ℕ) → Agrees a here timeout x y → Agrees a here timeout (without_a b x) (if b == a then None else y)
agrees-ends a b here timeout None y h = by (b == a) where
  by : (t : Bool) → IsOver here timeout (if t then None else y)
  by true = tt
  by false = h
agrees-ends a b here timeout (Some s) y h = by (s.by == b) (s.by == a) (b == a) refl refl refl h where
  by : (t u w : Bool) → (s.by == b) ≡ t → (s.by == a) ≡ u → (b == a) ≡ w → AgreesBy here timeout s.since u y → Agrees a here timeout (if t then None else Some s) (if w then None else y)
  by true u true e f g h = tt
  by true true false e f g h = absurd (never (sym g ∙ (ap (λ i. i == a) (sym (same-of s.by b e)) ∙ f)))
  by true false false e f g h = h
  by false true true e f g h = absurd (never (sym e ∙ (ap (λ i. s.by == i) (same-of b a g ∙ sym (same-of s.by a f)) ∙ same s.by)))
  by false false true e f g h = subst (λ i. AgreesBy here timeout s.since i None) (sym f) tt
  by false u false e f g h = subst (λ i. AgreesBy here timeout s.since i y) (sym f) h

-- the time of b's selection, which stands, starts again
agrees-renews : (a b here timeout : ℕ) (x : Option Selection) (y : Option ℕ) → is_by b (lasting here timeout x) ≡ true → Agrees a here timeout x y
    → Agrees a here timeout (option_and_then (λ (s : Selection). Some (if s.by == b then record s { since = here } else s)) x) (if b == a then option_map (λ s. here) y else y)
agrees-renews a b here timeout None y mine h = absurd (never mine)
agrees-renews a b here timeout (Some s) y mine h = by (s.by == b) (s.by == a) (b == a) refl refl refl (is_mine (nat_lt here (s.since + timeout)) mine) h where
  is_mine : (t : Bool) → is_by b (if t then Some s else None) ≡ true → (s.by == b) ≡ true
  is_mine true h = h
  is_mine false h = absurd (never h)

  by : (t u w : Bool) → (s.by == b) ≡ t → (s.by == a) ≡ u → (b == a) ≡ w → (s.by == b) ≡ true → AgreesBy here timeout s.since u y
      → Agrees a here timeout (Some (if t then record s { since = here } else s)) (if w then option_map (λ s. here) y else y)
  by false u w e f g mine h = absurd (never (sym e ∙ mine))
  by true true true e f g mine h = subst (λ i. AgreesBy here timeout here i (option_map (λ s. here) y)) (sym f) (ap (option_map (λ s. here)) h)
  by true false false e f g mine h = subst (λ i. AgreesBy here timeout here i y) (sym f) h
  by true true false e f g mine h = absurd (never (sym g ∙ (ap (λ i. i == a) (sym (same-of s.by b e)) ∙ f)))
  by true false true e f g mine h = absurd (never (sym f ∙ (ap (λ i. s.by == i) (sym (same-of b a g)) ∙ e)))

module _ (c : Model) (k : ℕ) (selectable : is_selectable c k ≡ true) where
  abbrev timeout : ℕ
  timeout = (control_of c k).timeout

  abbrev Holds : Past → Type 0
  Holds past = (a : ℕ) → Agrees a (now past) timeout (selection c k past) (started c k a past)

  arrived : (n m : ℕ) (before : Past) → Holds before → Holds (arrival n m ∷ before)
  arrived n m before h a = agrees-later a (now before) (now (arrival n m ∷ before)) timeout (selection c k before) (started c k a before) (le-max_right m (now before)) (h a)

  bare : (n m : ℕ) (d : Deed) (before : Past) → Holds before → IsBare d → Holds (point n m d ∷ before)
  bare n m nothing before h is = arrived n m before h
  bare n m (wrote a b comp v) before h is = arrived n m before h
  bare n m (put a x v) before h is = arrived n m before h
  bare n m (copied a x v) before h is = arrived n m before h
  bare n m (activated a d g) before h is = arrived n m before h
  bare n m (edited a d g) before h is = arrived n m before h
  bare n m (confirmed a d) before h is = arrived n m before h
  bare n m (opened a o w size owner) before h is = arrived n m before h
  bare n m (valued s) before h is = arrived n m before h
  bare n m (finished j good) before h is = arrived n m before h
  bare n m (blocked j flag) before h is = arrived n m before h
  bare n m (answered a o ch) before h is = arrived n m before h
  bare n m (took a) before h is = arrived n m before h
  bare n m (terminated a j) before h is = arrived n m before h
  bare n m (reported a b i) before h is = arrived n m before h
  bare n m (called a j call v) before h is = absurd is
  bare n m (selected_control a j) before h is = absurd is
  bare n m (lost a) before h is = absurd is

  loses : (n m b : ℕ) (before : Past) → Holds before → Holds (point n m (lost b) ∷ before)
  loses n m b before h a = agrees-ends a b (now (arrival n m ∷ before)) timeout (selection c k before) (started c k a before) (arrived n m before h a)

  -- the causes of an accepted call
  typed : (j b : ℕ) (call : Call) (v : Value) (past : Past) → went c j call b v past ≡ accepted → went_by (first_cause (causes c j call b (command_of v) past)) ≡ accepted
  typed j b call v past h = either (is_command (control_of c j).kind call (command_of v)) h where
    either : (t : Bool) → (if t then went_by (first_cause (causes c j call b (command_of v) past)) else mistyped) ≡ accepted → went_by (first_cause (causes c j call b (command_of v) past)) ≡ accepted
    either true i = i
    either false i = absurd (cc i)

  unselected : (b : ℕ) (v : Value) (past : Past) → went c k select b v past ≡ accepted → is_some (standing c k past) ≡ false
  unselected b v past h =
      let one = no-cause (is_some (execution c k past), 12) ((is_some (standing c k past), 19) ∷ (is_blocked k past, 9) ∷ []) (typed k b select v past h) in
      (no-cause (is_some (standing c k past), 19) ((is_blocked k past, 9) ∷ []) one.1).0

  abbrev from_other : ℕ → Value → Past → List (Bool × ℕ)
  from_other b v past = (((control_of c k).model == 4) && is_other_command (command_of v) (standing c k past), 26) ∷ (is_blocked k past, 9) ∷ []

  abbrev from_unselected : ℕ → Value → Past → List (Bool × ℕ)
  from_unselected b v past = (is_selectable c k && not (is_by b (standing c k past)), 18) ∷ from_other b v past

  abbrev from_locked : ℕ → Value → Past → List (Bool × ℕ)
  from_locked b v past = (is_selectable c k && is_by_another b (standing c k past), 27) ∷ from_unselected b v past

  abbrev from_running : ℕ → Value → Past → List (Bool × ℕ)
  from_running b v past = (is_some (execution c k past), 12) ∷ from_locked b v past

  own : (b : ℕ) (v : Value) (past : Past) → went c k operate b v past ≡ accepted → is_by b (standing c k past) ≡ true
  own b v past h =
      let one = no-cause ((control_of c k).model == 0, 1) (from_running b v past) (typed k b operate v past h) in
      let two = no-cause (is_some (execution c k past), 12) (from_locked b v past) one.1 in
      let three = no-cause (is_selectable c k && is_by_another b (standing c k past), 27) (from_unselected b v past) two.1 in
      let four = no-cause (is_selectable c k && not (is_by b (standing c k past)), 18) (from_other b v past) three.1 in
      yes (is_selectable c k) (is_by b (standing c k past)) selectable four.0 where
        yes : (s t : Bool) → s ≡ true → (s && not t) ≡ false → t ≡ true
        yes true true h i = refl
        yes true false h i = absurd (never (sym i))
        yes false t h i = absurd (never h)

  calls : (n m b j : ℕ) (call : Call) (v : Value) (before : Past) → Holds before → went c j call b v (arrival n m ∷ before) ≡ accepted → Holds (point n m (called b j call v) ∷ before)
  calls n m b j select v before h is a = either (j == k) refl where
    either : (t : Bool) → (j == k) ≡ t → Agrees a (now (arrival n m ∷ before)) timeout (if t then Some (record { by = b; since = now (arrival n m ∷ before); command = command_of v }) else selection c k before)
        (if t && (b == a) then Some (now (arrival n m ∷ before)) else started c k a before)
    either true e = agrees-selects a b (now (arrival n m ∷ before)) timeout (selection c k before) (started c k a before) (command_of v)
        (unselected b v (arrival n m ∷ before) (subst (λ i. went c i select b v (arrival n m ∷ before) ≡ accepted) (same-of j k e) is)) (arrived n m before h a)
    either false e = arrived n m before h a
  calls n m b j cancel v before h is a = either (j == k) where
    either : (t : Bool) → Agrees a (now (arrival n m ∷ before)) timeout (if t then without_a b (selection c k before) else selection c k before) (if t && (b == a) then None else started c k a before)
    either true = agrees-ends a b (now (arrival n m ∷ before)) timeout (selection c k before) (started c k a before) (arrived n m before h a)
    either false = arrived n m before h a
  calls n m b j operate v before h is a = either (j == k) refl where
    once : (t : Bool) → is_by b (standing c k (arrival n m ∷ before)) ≡ true
        → Agrees a (now (arrival n m ∷ before)) timeout (if t then without_a b (selection c k before) else option_and_then (λ (s : Selection). Some (if s.by == b then record s { since = now (arrival n m ∷ before) } else s)) (selection c k before))
        (if true && (b == a) then (if t then None else option_map (λ s. now (arrival n m ∷ before)) (started c k a before)) else started c k a before)
    once true mine = agrees-ends a b (now (arrival n m ∷ before)) timeout (selection c k before) (started c k a before) (arrived n m before h a)
    once false mine = agrees-renews a b (now (arrival n m ∷ before)) timeout (selection c k before) (started c k a before) mine (arrived n m before h a)

    either : (t : Bool) → (j == k) ≡ t → Agrees a (now (arrival n m ∷ before)) timeout (if t then operated c k b (now (arrival n m ∷ before)) (selection c k before) else selection c k before)
        (if t && (b == a) then (if (control_of c k).sbo_class == 0 then None else option_map (λ s. now (arrival n m ∷ before)) (started c k a before)) else started c k a before)
    either true e = once ((control_of c k).sbo_class == 0) (own b v (arrival n m ∷ before) (subst (λ i. went c i operate b v (arrival n m ∷ before) ≡ accepted) (same-of j k e) is))
    either false e = arrived n m before h a

  selects : (n m b j : ℕ) (before : Past) → Holds before → can_select c j (arrival n m ∷ before) ≡ true → Holds (point n m (selected_control b j) ∷ before)
  selects n m b j before h is a = either (j == k) refl where
    free : (x y z : Bool) → (x && y && z) ≡ true → z ≡ true
    free true true z h = h
    free true false z h = absurd (never h)
    free false y z h = absurd (never h)

    none_ : (x : Option Selection) → is_none x ≡ true → is_some x ≡ false
    none_ None h = refl
    none_ (Some s) h = absurd (never h)

    either : (t : Bool) → (j == k) ≡ t → Agrees a (now (arrival n m ∷ before)) timeout (if t then Some (record { by = b; since = now (arrival n m ∷ before); command = None }) else selection c k before)
        (if t && (b == a) then Some (now (arrival n m ∷ before)) else started c k a before)
    either true e = agrees-selects a b (now (arrival n m ∷ before)) timeout (selection c k before) (started c k a before) None
        (none_ (standing c k (arrival n m ∷ before)) (free (is_none (execution c k (arrival n m ∷ before))) (not (is_blocked k (arrival n m ∷ before))) (is_none (standing c k (arrival n m ∷ before)))
        (subst (λ i. can_select c i (arrival n m ∷ before) ≡ true) (same-of j k e) is))) (arrived n m before h a)
    either false e = arrived n m before h a

  of_singles : (n m b : ℕ) (past : Past) → Holds past → OfSingles c b (arrival n m ∷ past) (λ d. Holds (point n m d ∷ past))
  of_singles n m b past h = record {
    of_quiet = λ d quiet is. bare n m d past h is;
    of_called = λ j call v is. calls n m b j call v past h is;
    of_selected = λ j is. selects n m b j past h is;
  }

  singles : (n m b : ℕ) (ss : List Single) (past : Past) → Holds past → Holds (after_singles c b n m ss past)
  singles n m b [] past h = h
  singles n m b (s ∷ ss) past h = singles n m b ss (after_single c b n m s past) (outcome c b (arrival n m ∷ past) (λ d. Holds (point n m d ∷ past)) (of_singles n m b past h) s)

  take-bare : (b : ℕ) (past : Past) → IsBare (taken c b past).deed
  take-bare b past = either (is_none (ends b past)) (waiting c b past) where
    report : (o : Option Offer) → IsBare (given_report c b past o).deed
    report None = tt
    report (Some o) = tt

    either : (x : Bool) (ws : List Waiting) → IsBare (if x then record { answer = answers.Closed; deed = nothing } else given_by c b past ws).deed
    either true ws = tt
    either false [] = report (first_offer c b past 0 c.blocks)
    either false (reply o ∷ ws) = tt
    either false (ending j good ∷ ws) = tt

  turn : (n : ℕ) (t : Turn) (s : Step) (past : Past) → Holds past → Holds (point n t.moment (deed_at c n t past s) ∷ singles_after c n t past s)
  turn n t (steps.Open b size writer owner) past h = bare n t.moment (opened b.0 t.actor writer.0 size owner) past h tt
  turn n t (steps.Ask b r) past h = bare n t.moment (deed_at c n t past (steps.Ask b r)) (after_singles c b.0 n t.moment (singles_of c past r.service) past) (singles n t.moment b.0 (singles_of c past r.service) past h) tt
  turn n t (steps.Write b x comp v) past h = bare n t.moment (deed_at c n t past (steps.Write b x comp v)) past h (write-bare c b.0 x.0 comp v (arrival n t.moment ∷ past))
  turn n t (steps.Take b) past h = bare n t.moment (deed_at c n t past (steps.Take b)) past h (take-bare b.0 (arrival n t.moment ∷ past))
  turn n t (steps.Lost b) past h = loses n t.moment b.0 past h
  turn n t (steps.Value settings) past h = bare n t.moment (valued settings) past h tt
  turn n t (steps.Done j good) past h = bare n t.moment (finished j.0 good) past h tt
  turn n t (steps.Block j flag) past h = bare n t.moment (blocked j.0 flag) past h tt
  turn n t steps.Tick past h = bare n t.moment nothing past h tt

  held : (h : History) → Holds (points c h)
  held [] = λ a. tt
  held (t ∷ h) = turn (length h) t t.step (points c h) (held h)

  answers_ : (a here : ℕ) (x : Option Selection) (y : Option ℕ) → Agrees a here timeout x y → is_by a (lasting here timeout x) ≡ option_map_or (λ s. nat_lt here (s + timeout)) y false
  answers_ a here None None h = refl
  answers_ a here None (Some s) h = sym (is_late here (s + timeout) h) where
    is_late : (n l : ℕ) → l ≤ n → nat_lt n l ≡ false
    is_late n l h = elim (nat_lt_tells n l) [ inl t ↦ absurd (omega (arith, t.1, h)) | inr t ↦ t.0 ]
  answers_ a here (Some s) y h = by (s.by == a) refl h where
    is_late : (n l : ℕ) → l ≤ n → nat_lt n l ≡ false
    is_late n l h = elim (nat_lt_tells n l) [ inl t ↦ absurd (omega (arith, t.1, h)) | inr t ↦ t.0 ]

    late_ : (y : Option ℕ) → IsOver here timeout y → false ≡ option_map_or (λ s. nat_lt here (s + timeout)) y false
    late_ None h = refl
    late_ (Some s) h = sym (is_late here (s + timeout) h)

    stands : (u : Bool) → is_by a (if u then Some s else None) ≡ (if u then s.by == a else false)
    stands true = refl
    stands false = refl

    yes : (u : Bool) → (if u then true else false) ≡ u
    yes true = refl
    yes false = refl

    no : (u : Bool) → (if u then false else false) ≡ false
    no true = refl
    no false = refl

    by : (t : Bool) → (s.by == a) ≡ t → AgreesBy here timeout s.since t y → is_by a (lasting here timeout (Some s)) ≡ option_map_or (λ s. nat_lt here (s + timeout)) y false
    by true e h = stands (nat_lt here (s.since + timeout)) ∙ (ap (λ b. if nat_lt here (s.since + timeout) then b else false) e ∙ (yes (nat_lt here (s.since + timeout)) ∙ ap (λ o. option_map_or (λ s. nat_lt here (s + timeout)) o false) (sym h)))
    by false e h = stands (nat_lt here (s.since + timeout)) ∙ (ap (λ b. if nat_lt here (s.since + timeout) then b else false) e ∙ (no (nat_lt here (s.since + timeout)) ∙ late_ y h))

  pub selections_are : (h : History) (a : ℕ) → is_by a (standing c k (points c h)) ≡ has_selected c k a (points c h)
  selections_are h a = answers_ a (now (points c h)) (selection c k (points c h)) (started c k a (points c h)) (held h a)
