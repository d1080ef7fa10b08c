-- The cursor of a reserved block is moved by associations of the reserved address alone.
use Rattle.std.proofs.Common.{◌≡◌, ◌≢◌, ℕ, Bool, true, false, not, List, [], ◌∷◌, ◌++◌, length, refl, sym, ap, ◌∙◌, subst, ◌⊎◌, inl, inr, true≢false}
use Rattle.std.specs.Prelude.{⊤, ◌==◌, Option, None, Some, is_some, is_none, if◌then◌else◌}
use Rattle.std.specs.Option.{option_map_or}
use Rattle.std.specs.Str.{bytes_eq}
use Rattle.std.proofs.lemmas.Slice.Eq.{bytes_eq-Decides}
use Rattle.sv_base.specs.declared.value.Value.{Value}
use Rattle.sv_base.specs.declared.value.Value.TheVariants as kinds
use Rattle.sv_base.specs.declared.components.Comp.{Comp}
use Rattle.sv_base.specs.declared.components.Comp.TheVariants.{EntryID, RptEna}
use Rattle.bay_model.specs.declared.answer.Answer.TheVariants as answers
use Rattle.bay_model.specs.declared.step.Step.{Step}
use Rattle.bay_model.specs.declared.step.Step.TheVariants as steps
use Rattle.bay_model.specs.Model.{Model}
use Rattle.bay_model.specs.Points.{Deed, opened, lost, wrote, reported, nothing, Point, Past}
use Rattle.bay_model.specs.Retained.{front}
use Rattle.bay_model.specs.Associations.{Ends, ends, ends_after, address}
use Rattle.bay_model.specs.Blocks.{enabler, enabler_after, is_mine, is_enabled_by, is_held, cursor, cursor_after}
use Rattle.bay_model.specs.Reservations.{Reservation, reservation, is_for_another, is_reserved_for_another}
use Rattle.bay_model.specs.Waiting.{Waiting, reply, ending, waiting}
use Rattle.bay_model.specs.Outcomes.{deed_of}
use Rattle.bay_model.specs.Singles.{Single, arrival, outcome_of, after_single, after_singles}
use Rattle.bay_model.specs.Services.{singles_of}
use Rattle.bay_model.specs.Reports.{Offer, first_offer}
use Rattle.bay_model.specs.Takes.{taken, given_by, given_report}
use Rattle.bay_model.specs.Answers.{Turn, History, points, deed_at, singles_after}
use Rattle.bay_model.specs.Acceptance.{IsOpen, IsHistory, fault_at}
use Rattle.bay_model.specs.ReservationLaw.{is_reserved_for, StaysReserved, IsFrom}
use Rattle.bay_model.proofs.Deeds.{OfSingles, outcome, component_}
use Rattle.bay_model.proofs.EveryPoint.{Every, every-at, every-from, point, OfPoints, every-point}
use Rattle.bay_model.proofs.AskedLaws.{open-if}
use Rattle.list_laws.proofs.Places.{same-of, swap-number}
use Rattle.list_laws.proofs.Truths.{or-left, or-right}

-- ---- what a single comes to is its asker's

abbrev IsOf : ℕ → Deed → Type 0
IsOf a (opened e o w size owner) = ⊥
IsOf a (lost e) = ⊥
IsOf a (wrote e b comp v) = e ≡ a
IsOf a _ = ⊤

of_asker : (c : Model) (a : ℕ) (past : Past) → OfSingles c a past (IsOf a)
of_asker c a past = record {
  of_nothing = tt;
  of_wrote = λ b comp v h. refl;
  of_put = λ x v e. tt;
  of_copied = λ x v. tt;
  of_activated = λ d n. tt;
  of_edited = λ d n free. tt;
  of_confirmed = λ d holds. tt;
  of_called = λ k j v. tt;
  of_selected = λ k. tt;
}

-- ---- whoever has enabled a block is open

abbrev AreOpen : Past → Type 0
AreOpen past = (b e : ℕ) → is_enabled_by b e past ≡ true → is_some (ends e past) ≡ true

turned : (a i : ℕ) → (i == a) ≡ false → (a == i) ≡ false
turned a i h = swap-number a i ∙ h

enables : (a b e : ℕ) (d : Deed) (was : Option ℕ) → IsOf a d → is_mine (λ i. i == e) (enabler_after b d was) ≡ true → (is_mine (λ i. i == e) was ≡ true) ⊎ (a ≡ e)
enables a b e (opened i o w size owner) was q h = absurd q
enables a b e (lost i) was q h = absurd q
enables a b e (wrote i k RptEna (kinds.Bool on)) was q h = either (k == b) on h where
  either : (t on : Bool) → is_mine (λ i. i == e) (if t then (if on then Some i else None) else was) ≡ true → (is_mine (λ i. i == e) was ≡ true) ⊎ (a ≡ e)
  either true true h = inr (sym q ∙ same-of i e h)
  either true false h = absurd (true≢false (sym h))
  either false on h = inl h
enables a b e _ was q h = inl h

keeps : (a e : ℕ) (d : Deed) (was : Option Ends) → IsOf a d → ends_after e d was ≡ was
keeps a e (opened i o w size owner) was q = absurd q
keeps a e (lost i) was q = absurd q
keeps a e _ was q = refl

own-deed : (a n m : ℕ) (d : Deed) (past : Past) → IsOf a d → is_some (ends a past) ≡ true → AreOpen past → AreOpen (point n m d ∷ past)
own-deed a n m d past q is_open all b e h = either (enables a b e d (enabler b past) q h) where
  either : (is_mine (λ i. i == e) (enabler b past) ≡ true) ⊎ (a ≡ e) → is_some (ends_after e d (ends e past)) ≡ true
  either (inl was) = ap is_some (keeps a e d (ends e past) q) ∙ all b e was
  either (inr is) = ap is_some (keeps a e d (ends e past) q) ∙ subst (λ i. is_some (ends i past) ≡ true) is is_open

module _ (c : Model) where
  singles-open : (a n m : ℕ) (ss : List Single) (past : Past) → is_some (ends a past) ≡ true → AreOpen past → AreOpen (after_singles c a n m ss past)
  singles-open a n m [] past is_open all = all
  singles-open a n m (s ∷ ss) past is_open all =
      let q : IsOf a (deed_of (outcome_of c a s (arrival n m ∷ past))) = outcome c a (arrival n m ∷ past) (IsOf a) (of_asker c a (arrival n m ∷ past)) s in
      singles-open a n m ss (after_single c a n m s past) (ap is_some (keeps a a (deed_of (outcome_of c a s (arrival n m ∷ past))) (ends a past) q) ∙ is_open)
      (own-deed a n m (deed_of (outcome_of c a s (arrival n m ∷ past))) past q is_open all)

  abbrev IsQuiet : Deed → Type 0
  IsQuiet d = ((b : ℕ) (was : Option ℕ) → enabler_after b d was ≡ was) × ((e : ℕ) (was : Option Ends) → ends_after e d was ≡ was)

  take-quiet : (a : ℕ) (past : Past) → IsQuiet (taken c a past).deed
  take-quiet a past = either (is_none (ends a past)) (waiting c a past) where
    report : (o : Option Offer) → IsQuiet (given_report c a past o).deed
    report None = (λ b was. refl, λ e was. refl)
    report (Some o) = (λ b was. refl, λ e was. refl)

    either : (x : Bool) (ws : List Waiting) → IsQuiet (if x then record { answer = answers.Closed; deed = nothing } else given_by c a past ws).deed
    either true ws = (λ b was. refl, λ e was. refl)
    either false [] = report (first_offer c a past 0 c.blocks)
    either false (reply o ∷ ws) = (λ b was. refl, λ e was. refl)
    either false (ending k good ∷ ws) = (λ b was. refl, λ e was. refl)

  quiet-open : (n m : ℕ) (d : Deed) (past : Past) → IsQuiet d → AreOpen past → AreOpen (point n m d ∷ past)
  quiet-open n m d past q all b e h = ap is_some (q.1 e (ends e past)) ∙ all b e (ap (is_mine (λ i. i == e)) (sym (q.0 b (enabler b past))) ∙ h)

  lost-open : (a e : ℕ) (was : Option ℕ) (x : Option Ends) → (is_mine (λ i. i == e) was ≡ true → is_some x ≡ true)
      → is_mine (λ i. i == e) (if option_map_or (λ i. i == a) was false then None else was) ≡ true → is_some (if a == e then None else x) ≡ true
  lost-open a e None x all h = absurd (true≢false (sym h))
  lost-open a e (Some i) x all h = either (i == a) refl h where
    either : (t : Bool) → (i == a) ≡ t → is_mine (λ i. i == e) (if t then None else Some i) ≡ true → is_some (if a == e then None else x) ≡ true
    either true is h = absurd (true≢false (sym h))
    either false is h = rw (turned a e (subst (λ j. (j == a) ≡ false) (same-of i e h) is)) (all h)

  some-opened : (a e : ℕ) (x : Ends) (y : Option Ends) → is_some y ≡ true → is_some (if a == e then Some x else y) ≡ true
  some-opened a e x y h = either (a == e) where
    either : (t : Bool) → is_some (if t then Some x else y) ≡ true
    either true = refl
    either false = h

  step-open : (n : ℕ) (t : Turn) (past : Past) (s : Step) → fault_at c t.actor past s ≡ None → AreOpen past → AreOpen (point n t.moment (deed_at c n t past s) ∷ singles_after c n t past s)
  step-open n t past (steps.Open a size writer owner) fine all b e h = some-opened a.0 e (record { opener = t.actor; writer = writer.0; size = size }) (ends e past) (all b e h)
  step-open n t past (steps.Ask a r) fine all b e h = singles-open a.0 n t.moment (singles_of c past r.service) past (open-if (ends a.0 past) a.0 _ _ fine) all b e h
  step-open n t past (steps.Write a k comp v) fine all b e h = own-deed a.0 n t.moment (deed_at c n t past (steps.Write a k comp v)) past
      (component_ c a.0 (arrival n t.moment ∷ past) (IsOf a.0) (of_asker c a.0 (arrival n t.moment ∷ past)) k.0 comp v) (open-if (ends a.0 past) a.0 _ _ fine) all b e h
  step-open n t past (steps.Take a) fine all b e h = quiet-open n t.moment (deed_at c n t past (steps.Take a)) past (take-quiet a.0 (arrival n t.moment ∷ past)) all b e h
  step-open n t past (steps.Lost a) fine all b e h = lost-open a.0 e (enabler b past) (ends e past) (all b e) h
  step-open n t past (steps.Value settings) fine all b e h = all b e h
  step-open n t past (steps.Done k good) fine all b e h = all b e h
  step-open n t past (steps.Block k flag) fine all b e h = all b e h
  step-open n t past steps.Tick fine all b e h = all b e h

  are_open : (h : History) → IsHistory c h → AreOpen (points c h)
  are_open [] is = λ b e h. absurd (true≢false (sym h))
  are_open (t ∷ h) is = step-open (length h) t (points c h) t.step is.1 (are_open h is.0)

pub enablers_are_open : (c : Model) (h : History) (b a : ℕ) → IsHistory c h → is_enabled_by b a (points c h) ≡ true → is_some (ends a (points c h)) ≡ true
enablers_are_open c h b a is mine = are_open c h is b a mine

-- ---- whoever is opened has enabled nothing

abbrev Opens : Past → Deed → Type 0
Opens before (opened a o w size owner) = (b : ℕ) → is_enabled_by b a before ≡ false
Opens before _ = ⊤

abbrev AllOpen : Past → Type 0
AllOpen past = Every (λ p before. Opens before p.deed) past

opens-none : (a : ℕ) (d : Deed) (past : Past) → IsOf a d → Opens past d
opens-none a (opened e o w size owner) past q = absurd q
opens-none a _ past q = tt

module _ (c : Model) where
  singles-opens : (a n m : ℕ) (ss : List Single) (past : Past) → AllOpen past → AllOpen (after_singles c a n m ss past)
  singles-opens a n m [] past all = all
  singles-opens a n m (s ∷ ss) past all = singles-opens a n m ss (after_single c a n m s past)
      (all, opens-none a (deed_of (outcome_of c a s (arrival n m ∷ past))) past (outcome c a (arrival n m ∷ past) (IsOf a) (of_asker c a (arrival n m ∷ past)) s))

  take-opens : (a : ℕ) (past before : Past) → Opens before (taken c a past).deed
  take-opens a past before = either (is_none (ends a past)) (waiting c a past) where
    report : (o : Option Offer) → Opens before (given_report c a past o).deed
    report None = tt
    report (Some o) = tt

    either : (x : Bool) (ws : List Waiting) → Opens before (if x then record { answer = answers.Closed; deed = nothing } else given_by c a past ws).deed
    either true ws = tt
    either false [] = report (first_offer c a past 0 c.blocks)
    either false (reply o ∷ ws) = tt
    either false (ending k good ∷ ws) = tt

  closed : (x : Option Ends) (a : ℕ) → (if is_some x then Some (IsOpen a) else None) ≡ None → is_some x ≡ false
  closed None a h = refl
  closed (Some e) a h = absurd (cc h)

  unenabled : (a : ℕ) (past : Past) → AreOpen past → is_some (ends a past) ≡ false → (b : ℕ) → is_enabled_by b a past ≡ false
  unenabled a past all none b = either (is_enabled_by b a past) refl where
    either : (t : Bool) → is_enabled_by b a past ≡ t → t ≡ false
    either true is = sym (all b a is) ∙ none
    either false is = refl

  step-opens : (n : ℕ) (t : Turn) (past : Past) (s : Step) → fault_at c t.actor past s ≡ None → AreOpen past → AllOpen past → AllOpen (point n t.moment (deed_at c n t past s) ∷ singles_after c n t past s)
  step-opens n t past (steps.Open a size writer owner) fine is_open all = (all, unenabled a.0 past is_open (closed (ends a.0 past) a.0 fine))
  step-opens n t past (steps.Ask a r) fine is_open all = (singles-opens a.0 n t.moment (singles_of c past r.service) past all, tt)
  step-opens n t past (steps.Write a k comp v) fine is_open all = (
    all,
    opens-none a.0 (deed_at c n t past (steps.Write a k comp v)) past
        (component_ c a.0 (arrival n t.moment ∷ past) (IsOf a.0) (of_asker c a.0 (arrival n t.moment ∷ past)) k.0 comp v),
  )
  step-opens n t past (steps.Take a) fine is_open all = (all, take-opens a.0 (arrival n t.moment ∷ past) past)
  step-opens n t past (steps.Lost a) fine is_open all = (all, tt)
  step-opens n t past (steps.Value settings) fine is_open all = (all, tt)
  step-opens n t past (steps.Done k good) fine is_open all = (all, tt)
  step-opens n t past (steps.Block k flag) fine is_open all = (all, tt)
  step-opens n t past steps.Tick fine is_open all = (all, tt)

  all_open : (h : History) → IsHistory c h → AllOpen (points c h)
  all_open [] is = tt
  all_open (t ∷ h) is = step-opens (length h) t (points c h) t.step is.1 (are_open c h is.0) (all_open h is.0)

-- ---- an accepted write isn't held, and a report is its enabler's

abbrev NotForeign : Point → Past → Deed → Type 0
NotForeign p before (wrote a b comp v) = is_reserved_for_another b a (arrival p.step p.moment ∷ before) ≡ false
NotForeign p before _ = ⊤

abbrev Free : Past → Deed → Type 0
Free before (wrote a b EntryID v) = is_some (enabler b before) ≡ false
Free before _ = ⊤

abbrev Mine : Past → Deed → Type 0
Mine before (reported a b n) = is_enabled_by b a before ≡ true
Mine before _ = ⊤

free : (a b : ℕ) (comp : Comp) (v : Value) (past : Past) → is_held (λ e. e == a) comp v (enabler b past) ≡ false → Free past (wrote a b comp v)
free a b EntryID v past h = h
free a b _ v past h = tt

abbrev Fact : Point → Past → Type 0
Fact p before = NotForeign p before p.deed × Free before p.deed × Mine before p.deed

facts : (c : Model) → OfPoints c Fact
facts c = record {
  of_single = λ n m a past. record {
    of_nothing = (tt, tt, tt);
    of_wrote = λ b comp v h. (
      or-left (is_reserved_for_another b a (arrival n m ∷ past)) (is_held (λ e. e == a) comp v (enabler b past)) h,
      free a b comp v past (or-right (is_reserved_for_another b a (arrival n m ∷ past)) (is_held (λ e. e == a) comp v (enabler b past)) h),
      tt,
    );
    of_put = λ x v e. (tt, tt, tt);
    of_copied = λ x v. (tt, tt, tt);
    of_activated = λ d n. (tt, tt, tt);
    of_edited = λ d n free. (tt, tt, tt);
    of_confirmed = λ d holds. (tt, tt, tt);
    of_called = λ k j v. (tt, tt, tt);
    of_selected = λ k. (tt, tt, tt);
  };
  of_opened = λ n m past a o w size owner. (tt, tt, tt);
  of_lost = λ n m past a. (tt, tt, tt);
  of_valued = λ n m past s. (tt, tt, tt);
  of_finished = λ n m past k good. (tt, tt, tt);
  of_blocked = λ n m past k flag. (tt, tt, tt);
  of_answered = λ n m past a o ch. (tt, tt, tt);
  of_took = λ n m past a. (tt, tt, tt);
  of_terminated = λ n m past a k. (tt, tt, tt);
  of_reported = λ n m past a b i h mine. (tt, tt, mine);
  of_nothing = λ n m past. (tt, tt, tt);
}

-- ---- the law

own-address : (r : Option Reservation) (o owner : List ℕ) → option_map_or (λ (r : Reservation). bytes_eq r.owner owner) r false ≡ true → option_map_or (is_for_another o) r false ≡ false → o ≡ owner
own-address None o owner h i = absurd (true≢false (sym h))
own-address (Some r) o owner h i = sym ((bytes_eq-Decides r.owner o).0 (not-false (bytes_eq r.owner o) i)) ∙ (bytes_eq-Decides r.owner owner).0 h
  where
    not-false : (t : Bool) → not t ≡ false → t ≡ true
    not-false true h = refl
    not-false false h = absurd (true≢false h)

module _ (c : Model) (b : ℕ) (owner : List ℕ) where
  abbrev IsOwners : Past → Type 0
  IsOwners past = (e : ℕ) → is_enabled_by b e past ≡ true → address e past ≡ owner

  lost-mine : (a e : ℕ) (was : Option ℕ) → is_mine (λ i. i == e) (if option_map_or (λ i. i == a) was false then None else was) ≡ true → is_mine (λ i. i == e) was ≡ true
  lost-mine a e None h = h
  lost-mine a e (Some i) h = either (i == a) h where
    either : (t : Bool) → is_mine (λ i. i == e) (if t then None else Some i) ≡ true → (i == e) ≡ true
    either true h = absurd (true≢false (sym h))
    either false h = h

  -- an accepted write to the block, while it is reserved for the address, is of that address
  written-own : (n m a k : ℕ) (past : Past) → (k == b) ≡ true → is_reserved_for_another k a (arrival n m ∷ past) ≡ false → is_reserved_for b owner (arrival n m ∷ past) ≡ true → address a past ≡ owner
  written-own n m a k past same mine reserved = own-address (reservation b (arrival n m ∷ past)) (address a past) owner reserved
      (subst (λ j. is_reserved_for_another j a (arrival n m ∷ past) ≡ false) (same-of k b same) mine)

  stays : (n m : ℕ) (d : Deed) (past : Past) → Opens past d → NotForeign (point n m d) past d → is_reserved_for b owner (arrival n m ∷ past) ≡ true → IsOwners past → IsOwners (point n m d ∷ past)
  stays n m (opened a o w size from) past opens mine reserved all e h = either (a == e) refl where
    either : (t : Bool) → (a == e) ≡ t → (if t then from else address e past) ≡ owner
    either true is = absurd (true≢false (sym h ∙ subst (λ i. is_enabled_by b i past ≡ false) (same-of a e is) (opens b)))
    either false is = all e h
  stays n m (lost a) past opens mine reserved all e h = all e (lost-mine a e (enabler b past) h)
  stays n m (wrote a k RptEna (kinds.Bool on)) past opens mine reserved all e h = either (k == b) on refl h where
    either : (t on : Bool) → (k == b) ≡ t → is_mine (λ i. i == e) (if t then (if on then Some a else None) else enabler b past) ≡ true → address e past ≡ owner
    either true true is h = subst (λ i. address i past ≡ owner) (same-of a e h) (written-own n m a k past is mine reserved)
    either true false is h = absurd (true≢false (sym h))
    either false on is h = all e h
  stays n m _ past opens mine reserved all e h = all e h

  begins : (m n a : ℕ) (v : Value) (past : Past) → is_some (enabler b past) ≡ false → IsOwners (point n m (wrote a b EntryID v) ∷ past)
  begins m n a v past none e h = absurd (no (enabler b past) none h) where
    no : (was : Option ℕ) → is_some was ≡ false → is_mine (λ i. i == e) was ≡ true → ⊥
    no None none h = true≢false (sym h)
    no (Some i) none h = true≢false none

  since : (from : Past) (ps : List Point) → IsOwners from → StaysReserved b owner from ps → AllOpen (ps ++ from) → Every Fact (ps ++ from) → IsOwners (ps ++ from)
  since from [] first reserved opens fact = first
  since from (p ∷ ps) first reserved opens fact = stays p.step p.moment p.deed (ps ++ from) opens.1 fact.1.0 reserved.1 (since from ps first reserved.0 opens.0 fact.0)

  by-owner : (n m : ℕ) (d : Deed) (past : Past) (f was : ℕ) → NotForeign (point n m d) past d → Mine past d → is_reserved_for b owner (arrival n m ∷ past) ≡ true → IsOwners past
      → cursor_after b d f was ≢ was → IsFrom owner past d
  by-owner n m (reported a k i) past f was foreign mine reserved all moved = either (k == b) refl where
    either : (t : Bool) → (k == b) ≡ t → address a past ≡ owner
    either true is = all a (subst (λ j. is_enabled_by j a past ≡ true) (same-of k b is) mine)
    either false is = absurd (moved (rw is refl))
  by-owner n m (wrote a k EntryID (kinds.Octets o)) past f was foreign mine reserved all moved = either (k == b) refl where
    either : (t : Bool) → (k == b) ≡ t → address a past ≡ owner
    either true is = written-own n m a k past is foreign reserved
    either false is = absurd (moved (rw is refl))
  by-owner n m _ past f was foreign mine reserved all moved = absurd (moved refl)

pub moved_by_owner : (c : Model) (h : History) (a b m n : ℕ) (v : Value) (owner : List ℕ) (later ps : List Point) (p : Point) (before : Past)
    → IsHistory c h → points c h ≡ later ++ p ∷ (ps ++ record { moment = m; step = n; deed = wrote a b EntryID v } ∷ before)
    → address a before ≡ owner
    → StaysReserved b owner (record { moment = m; step = n; deed = wrote a b EntryID v } ∷ before) (p ∷ ps)
    → cursor c b (p ∷ (ps ++ record { moment = m; step = n; deed = wrote a b EntryID v } ∷ before)) ≢ cursor c b (ps ++ record { moment = m; step = n; deed = wrote a b EntryID v } ∷ before)
    → IsFrom owner (ps ++ record { moment = m; step = n; deed = wrote a b EntryID v } ∷ before) p.deed
moved_by_owner c h a b m n v owner later ps p before is e own reserved moved =
    let from : Past = point n m (wrote a b EntryID v) ∷ before in
    let opens : AllOpen (p ∷ (ps ++ from)) = every-from (λ q past. Opens past q.deed) later (p ∷ (ps ++ from)) (subst AllOpen e (all_open c h is)) in
    let fact : Every Fact (p ∷ (ps ++ from)) = every-from Fact later (p ∷ (ps ++ from)) (subst (Every Fact) e (every-point c Fact (facts c) h)) in
    let at : Fact (point n m (wrote a b EntryID v)) before = every-at Fact (p ∷ ps) (point n m (wrote a b EntryID v)) before fact in
    by-owner c b owner p.step p.moment p.deed (ps ++ from) (front c b (p ∷ (ps ++ from))) (cursor c b (ps ++ from)) fact.1.0 fact.1.2 reserved.1
    (since c b owner from ps (begins c b owner m n a v before at.1) reserved.0 opens.0 fact.0) moved
