-- What waits is the rest of what was put, point by point.
use Rattle.std.proofs.Common.{◌≡◌, ℕ, zero, suc, ◌≤◌, Bool, true, false, List, [], ◌∷◌, ◌++◌, length, drop, refl, sym, ap, ◌∙◌, subst, arith, ◌==◌, append-nil}
use Rattle.std.specs.Prelude.{Option, None, Some, is_some, is_none, slice_get, if◌then◌else◌}
use Rattle.list_laws.proofs.Places.{same-number, same-of}
use Rattle.sv_base.specs.declared.numbers.AssocNo.{AssocNo}
use Rattle.bay_model.specs.declared.answer.Answer.TheVariants as answers
use Rattle.bay_model.specs.declared.step.Step.{Step}
use Rattle.bay_model.specs.declared.step.Step.TheVariants as steps
use Rattle.bay_model.specs.Model.{Model}
use Rattle.bay_model.specs.Points as points
use Rattle.bay_model.specs.Points.{Deed, Point, Past, took, terminated, reported, nothing}
use Rattle.bay_model.specs.Associations.{Ends, ends}
use Rattle.bay_model.specs.Waiting.{Waiting, reply, ending, waiting, put, put_by, extended, is_start, is_giving}
use Rattle.bay_model.specs.Outputs.{output_of}
use Rattle.bay_model.specs.Singles.{Single, arrival, after_single, after_singles}
use Rattle.bay_model.specs.Services.{singles_of, change_of}
use Rattle.bay_model.specs.Reports.{Offer, first_offer}
use Rattle.bay_model.specs.Takes.{taken, given_by, given_report, deed_of_waiting}
use Rattle.bay_model.specs.Answers.{Turn, History, points, deed_at, singles_after, output_for, answer}
use Rattle.bay_model.proofs.Deeds.{OfSingles, outcome, component_}
use Rattle.bay_model.proofs.EveryPoint.{Every, point}
use Rattle.history_laws.specs.WaitsFor.{given_to, take_of}
use Rattle.list_laws.proofs.Truths.{never}

-- ---- queues

extended-append : (ws vs : List Waiting) → extended ws vs ≡ ws ++ vs
extended-append ws [] = sym (append-nil ws)
extended-append ws (v ∷ vs) = refl

drop-more : (n : ℕ) (ws vs : List Waiting) → n ≤ length ws → drop n ws ++ vs ≡ drop n (ws ++ vs)
drop-more zero ws vs h = refl
drop-more (suc n) [] vs h = absurd (omega (arith, h))
drop-more (suc n) (w ∷ ws) vs h = drop-more n ws vs (omega (arith, h))

drop-next : (n : ℕ) (ws : List Waiting) → drop 1 (drop n ws) ≡ drop (suc n) ws
drop-next zero ws = refl
drop-next (suc n) [] = refl
drop-next (suc n) (w ∷ ws) = drop-next n ws

length-more : (ws vs : List Waiting) → length ws ≤ length (ws ++ vs)
length-more [] vs = omega arith
length-more (w ∷ ws) vs = omega (arith, length-more ws vs)

length-rest : (n : ℕ) (ws : List Waiting) → 1 ≤ length (drop n ws) → suc n ≤ length ws
length-rest zero ws h = h
length-rest (suc n) [] h = absurd (omega (arith, h))
length-rest (suc n) (w ∷ ws) h = omega (arith, length-rest n ws h)

-- ---- one point more

-- at its point a Take gives an output only where one waits
abbrev Gives : Model → Point → Past → Type 0
Gives c p before = (a : ℕ) → is_giving a p.deed ≡ true → 1 ≤ length (waiting c a before)

giving-puts-nothing : (c : Model) (a n : ℕ) (d : Deed) (before : Past) → is_giving a d ≡ true → put_by c a n d before ≡ []
giving-puts-nothing c a n (took e) before is = refl
giving-puts-nothing c a n (terminated e k) before is = refl
giving-puts-nothing c a n _ before is = absurd (never is)

abbrev IsRest : List Waiting → ℕ → List Waiting → Type 0
IsRest ws n all = (ws ≡ drop n all) × (n ≤ length all)

one : (start giving : Bool) (ws all vs : List Waiting) (n : ℕ) → IsRest ws n all → (giving ≡ true → (1 ≤ length ws) × (vs ≡ []))
    → IsRest (if start then [] else (if giving then drop 1 ws else extended ws vs)) (if start then 0 else (if giving then suc n else n)) (if start then [] else extended all vs)
one true giving ws all vs n rest some = (refl, omega arith)
one false true ws all vs n rest some = subst (λ l. IsRest (drop 1 ws) (suc n) (extended all l)) (sym (some refl).1)
    (ap (drop 1) rest.0 ∙ drop-next n all, length-rest n all (subst (λ l. 1 ≤ length l) rest.0 (some refl).0))
one false false ws all vs n rest some = (
  extended-append ws vs ∙ (ap (λ l. l ++ vs) rest.0 ∙ (drop-more n all vs rest.1 ∙ ap (drop n) (sym (extended-append all vs)))),
  omega (arith, rest.1, length-more all vs, ap length (extended-append all vs)),
)

rest-of : (c : Model) (past : Past) → Every (Gives c) past → (a : ℕ) → IsRest (waiting c a past) (given_to a past) (put c a past)
rest-of c [] every a = (refl, omega arith)
rest-of c (p ∷ before) every a = one (is_start a p.deed) (is_giving a p.deed) (waiting c a before) (put c a before) (put_by c a p.step p.deed before) (given_to a before)
    (rest-of c before every.0 a) (λ is. (every.1 a is, giving-puts-nothing c a p.step p.deed before is))

-- ---- every point

module _ (c : Model) where
  quiet : (d : Deed) → ((a : ℕ) → is_giving a d ≡ false) → (n m : ℕ) (past : Past) → Gives c (point n m d) past
  quiet d not n m past a is = absurd (never (sym (not a) ∙ is))

  of-singles : (n m a : ℕ) (past : Past) → OfSingles c a (arrival n m ∷ past) (λ d. Gives c (point n m d) past)
  of-singles n m a past = record {
    of_nothing = quiet nothing (λ a. refl) n m past;
    of_wrote = λ b comp v free. quiet (points.wrote a b comp v) (λ a. refl) n m past;
    of_put = λ x v is. quiet (points.put a x v) (λ a. refl) n m past;
    of_copied = λ x v. quiet (points.copied a x v) (λ a. refl) n m past;
    of_activated = λ d i. quiet (points.activated a d i) (λ a. refl) n m past;
    of_edited = λ d i free. quiet (points.edited a d i) (λ a. refl) n m past;
    of_confirmed = λ d is. quiet (points.confirmed a d) (λ a. refl) n m past;
    of_called = λ k j v. quiet (points.called a k j v) (λ a. refl) n m past;
    of_selected = λ k. quiet (points.selected_control a k) (λ a. refl) n m past;
  }

  singles : (a n m : ℕ) (ss : List Single) (past : Past) → Every (Gives c) past → Every (Gives c) (after_singles c a n m ss past)
  singles a n m [] past h = h
  singles a n m (s ∷ ss) past h = singles a n m ss (after_single c a n m s past)
      (h, outcome c a (arrival n m ∷ past) (λ d. Gives c (point n m d) past) (of-singles n m a past) s)

  own : (a b : ℕ) (w : Waiting) (ws : List Waiting) (past : Past) → waiting c a past ≡ w ∷ ws → (a == b) ≡ true → 1 ≤ length (waiting c b past)
  own a b w ws past first is = subst (λ x. 1 ≤ length (waiting c x past)) (same-of a b is) (omega (arith, ap length first))

  takes : (a n m : ℕ) (past : Past) → Gives c (point n m (taken c a (arrival n m ∷ past)).deed) past
  takes a n m past = either (is_none (ends a past)) (waiting c a past) refl where
    report : (o : Option Offer) → Gives c (point n m (given_report c a (arrival n m ∷ past) o).deed) past
    report None = quiet nothing (λ a. refl) n m past
    report (Some o) = quiet (reported a o.block o.id) (λ a. refl) n m past

    either : (x : Bool) (ws : List Waiting) → waiting c a past ≡ ws
        → Gives c (point n m (if x then record { answer = answers.Closed; deed = nothing } else given_by c a (arrival n m ∷ past) ws).deed) past
    either true ws e = quiet nothing (λ a. refl) n m past
    either false [] e = report (first_offer c a (arrival n m ∷ past) 0 c.blocks)
    either false (reply o ∷ ws) e = λ b is. own a b (reply o) ws past e is
    either false (ending k good ∷ ws) e = λ b is. own a b (ending k good) ws past e is

  turn : (n : ℕ) (t : Turn) (past : Past) (s : Step) → Every (Gives c) past → Every (Gives c) (point n t.moment (deed_at c n t past s) ∷ singles_after c n t past s)
  turn n t past (steps.Ask a r) h = (
    singles a.0 n t.moment (singles_of c past r.service) past h,
    quiet (points.answered a.0 (output_for c n t.moment a.0 r past) (change_of c past r.service)) (λ a. refl) n t.moment (after_singles c a.0 n t.moment (singles_of c past r.service) past),
  )
  turn n t past (steps.Write a b comp v) h = (h, component_ c a.0 (arrival n t.moment ∷ past) (λ d. Gives c (point n t.moment d) past) (of-singles n t.moment a.0 past) b.0 comp v)
  turn n t past (steps.Take a) h = (h, takes a.0 n t.moment past)
  turn n t past (steps.Open a size writer owner) h = (h, quiet (points.opened a.0 t.actor writer.0 size owner) (λ a. refl) n t.moment past)
  turn n t past (steps.Lost a) h = (h, quiet (points.lost a.0) (λ a. refl) n t.moment past)
  turn n t past (steps.Value settings) h = (h, quiet (points.valued settings) (λ a. refl) n t.moment past)
  turn n t past (steps.Done k good) h = (h, quiet (points.finished k.0 good) (λ a. refl) n t.moment past)
  turn n t past (steps.Block k flag) h = (h, quiet (points.blocked k.0 flag) (λ a. refl) n t.moment past)
  turn n t past steps.Tick h = (h, quiet nothing (λ a. refl) n t.moment past)

  every-gives : (h : History) → Every (Gives c) (points c h)
  every-gives [] = tt
  every-gives (t ∷ h) = turn (length h) t (points c h) t.step (every-gives h)

-- ---- the laws

pub waits_are_the_rest : (c : Model) (h : History) (a : ℕ) → waiting c a (points c h) ≡ drop (given_to a (points c h)) (put c a (points c h))
waits_are_the_rest c h a = (rest-of c (points c h) (every-gives c h) a).0

pub given_are_few : (c : Model) (h : History) (a : ℕ) → given_to a (points c h) ≤ length (put c a (points c h))
given_are_few c h a = (rest-of c (points c h) (every-gives c h) a).1

-- the first of the rest
first-of : (n : ℕ) (all : List Waiting) (w : Waiting) → slice_get all n ≡ Some w → drop n all ≡ w ∷ drop (suc n) all
first-of n [] w is = cc
first-of zero (x ∷ xs) w is = let same : x ≡ w = cc in ap (λ v. v ∷ xs) same
first-of (suc n) (x ∷ xs) w is = first-of n xs w is

gives-first : (c : Model) (n m a : ℕ) (past : Past) (w : Waiting) (ws : List Waiting) → is_some (ends a past) ≡ true → waiting c a past ≡ w ∷ ws
    → taken c a (arrival n m ∷ past) ≡ record { answer = answers.Taken (output_of c (arrival n m ∷ past) w); deed = deed_of_waiting a w }
gives-first c n m a past w ws is first = either (ends a past) is where
  either : (e : Option Ends) → is_some e ≡ true
      → (if is_none e then record { answer = answers.Closed; deed = nothing } else given_by c a (arrival n m ∷ past) (waiting c a past)) ≡ record { answer = answers.Taken (output_of c (arrival n m ∷ past) w); deed = deed_of_waiting a w }
  either None o = absurd (never o)
  either (Some e) o = ap (given_by c a (arrival n m ∷ past)) first

one-more : (n m a : ℕ) (past : Past) (w : Waiting) → given_to a (point n m (deed_of_waiting a w) ∷ past) ≡ suc (given_to a past)
one-more n m a past (reply o) = rw (same-number a) refl
one-more n m a past (ending k good) = rw (same-number a) refl

pub takes_are_in_order : (c : Model) (h : History) (moment actor : ℕ) (a : AssocNo) (w : Waiting) → is_some (ends a.0 (points c h)) ≡ true
    → slice_get (put c a.0 (points c h)) (given_to a.0 (points c h)) ≡ Some w
    → (answer c h (take_of moment actor a) ≡ answers.Taken (output_of c (arrival (length h) moment ∷ points c h) w))
    × (given_to a.0 (points c (take_of moment actor a ∷ h)) ≡ suc (given_to a.0 (points c h)))
takes_are_in_order c h moment actor a w is next =
    let n = given_to a.0 (points c h) in
    let gives = gives-first c (length h) moment a.0 (points c h) w (drop (suc n) (put c a.0 (points c h))) is (waits_are_the_rest c h a.0 ∙ first-of n (put c a.0 (points c h)) w next) in
    (ap (λ g. g.answer) gives, ap (λ g. given_to a.0 (point (length h) moment g.deed ∷ points c h)) gives ∙ one-more (length h) moment a.0 (points c h) w)
