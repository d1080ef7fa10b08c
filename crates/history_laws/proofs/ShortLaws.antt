-- At most 16 replies wait, turn by turn.
use Rattle.std.proofs.Common.{◌≡◌, ℕ, suc, ◌+◌, ◌≤◌, Bool, true, false, List, [], ◌∷◌, ◌++◌, map, length, drop, refl, sym, subst, arith, ◌==◌}
use Rattle.std.specs.Prelude.{Option, None, Some, ◌&&◌, is_none, nat_le, if◌then◌else◌}
use Rattle.std.proofs.lemmas.Bool.{leb-false}
use Rattle.bay_model.specs.declared.answer.Output.{Output}
use Rattle.bay_model.specs.declared.answer.Answer.TheVariants as answers
use Rattle.bay_model.specs.declared.step.Step.{Step}
use Rattle.bay_model.specs.declared.step.Step.TheVariants as steps
use Rattle.bay_model.specs.Model.{Model}
use Rattle.bay_model.specs.Points as points
use Rattle.bay_model.specs.Points.{Deed, Change, Past, took, terminated, reported, nothing, answered, finished}
use Rattle.bay_model.specs.Associations.{Ends, ends}
use Rattle.bay_model.specs.Controls.{Execution, execution}
use Rattle.bay_model.specs.Waiting.{Waiting, reply, ending, waiting, put_by, extended, is_start, is_giving, is_underway, ends_for, tests, replies_in, waiting_replies}
use Rattle.bay_model.specs.Singles.{Single, arrival, after_single, after_singles}
use Rattle.bay_model.specs.Services.{singles_of, change_of}
use Rattle.bay_model.specs.Reports.{Offer, first_offer}
use Rattle.bay_model.specs.Takes.{taken, given_by, given_report}
use Rattle.bay_model.specs.Answers.{Turn, History, points, deed_at, singles_after, output_for}
use Rattle.bay_model.specs.Acceptance.{IsHistory, QueueFull, fault_at, if_open, if_yours}
use Rattle.bay_model.proofs.Deeds.{OfSingles, outcome, component_}
use Rattle.bay_model.proofs.EveryPoint.{point}
use Rattle.list_laws.proofs.Places.{same-of}

-- ---- replies in queues

pub replies-append : (ws vs : List Waiting) → replies_in (ws ++ vs) ≡ replies_in ws + replies_in vs
replies-append [] vs = omega arith
replies-append (reply o ∷ ws) vs = omega (arith, replies-append ws vs)
replies-append (ending k good ∷ ws) vs = replies-append ws vs

pub replies-extended : (ws vs : List Waiting) → replies_in (extended ws vs) ≡ replies_in ws + replies_in vs
replies-extended ws [] = omega arith
replies-extended ws (v ∷ vs) = replies-append ws (v ∷ vs)

replies-rest : (ws : List Waiting) → replies_in (drop 1 ws) ≤ replies_in ws
replies-rest [] = omega arith
replies-rest (reply o ∷ ws) = omega arith
replies-rest (ending k good ∷ ws) = omega arith

pub replies-told : (ks : List ℕ) → replies_in (map (λ k. ending k true) ks) ≡ 0
replies-told [] = refl
replies-told (k ∷ ks) = replies-told ks

replies-ended : (a k : ℕ) (good : Bool) (e : Option Execution) → replies_in (ends_for a k good e) ≡ 0
replies-ended a k good None = refl
replies-ended a k good (Some e) = either ((e.by == a) && is_underway e.phase) where
  either : (b : Bool) → replies_in (if b then ending k good ∷ [] else []) ≡ 0
  either true = refl
  either false = refl

-- ---- one point more

more : (start giving : Bool) (ws vs : List Waiting) → replies_in (if start then [] else (if giving then drop 1 ws else extended ws vs)) ≤ replies_in ws + replies_in vs
more true giving ws vs = omega arith
more false true ws vs = omega (arith, replies-rest ws)
more false false ws vs = omega (arith, replies-extended ws vs)

module _ (c : Model) where
  grows : (a n m : ℕ) (d : Deed) (past : Past) → waiting_replies c a (point n m d ∷ past) ≤ waiting_replies c a past + replies_in (put_by c a n d past)
  grows a n m d past = more (is_start a d) (is_giving a d) (waiting c a past) (put_by c a n d past)

  -- a deed that puts no reply
  abbrev IsMute : ℕ → Past → Deed → Type 0
  IsMute n past d = (a : ℕ) → replies_in (put_by c a n d past) ≡ 0

  mute : (a n m : ℕ) (d : Deed) (past : Past) → IsMute n past d → waiting_replies c a (point n m d ∷ past) ≤ waiting_replies c a past
  mute a n m d past none = omega (arith, grows a n m d past, none a)

  of-singles : (n m e : ℕ) (past : Past) → OfSingles c e (arrival n m ∷ past) (IsMute n past)
  of-singles n m e past = record {
    of_nothing = λ a. refl;
    of_wrote = λ b comp v free a. refl;
    of_put = λ x v is a. refl;
    of_copied = λ x v a. refl;
    of_activated = λ d i a. refl;
    of_edited = λ d i free a. refl;
    of_confirmed = λ d is a. refl;
    of_called = λ k j v a. refl;
    of_selected = λ k a. refl;
  }

  singles : (a e n m : ℕ) (ss : List Single) (past : Past) → waiting_replies c a (after_singles c e n m ss past) ≤ waiting_replies c a past
  singles a e n m [] past = omega arith
  singles a e n m (s ∷ ss) past = omega (
    arith,
    singles a e n m ss (after_single c e n m s past),
    mute a n m _ past (outcome c e (arrival n m ∷ past) (IsMute n past) (of-singles n m e past) s),
  )

  takes : (a n m : ℕ) (past : Past) → IsMute n past (taken c a (arrival n m ∷ past)).deed
  takes a n m past = either (is_none (ends a past)) (waiting c a past) where
    report : (o : Option Offer) → IsMute n past (given_report c a (arrival n m ∷ past) o).deed
    report None = λ b. refl
    report (Some o) = λ b. refl

    either : (x : Bool) (ws : List Waiting) → IsMute n past (if x then record { answer = answers.Closed; deed = nothing } else given_by c a (arrival n m ∷ past) ws).deed
    either true ws = λ b. refl
    either false [] = report (first_offer c a (arrival n m ∷ past) 0 c.blocks)
    either false (reply o ∷ ws) = λ b. refl
    either false (ending k good ∷ ws) = λ b. refl

  -- a reply is one more for its association, and none for another
  reply-for : (a e n : ℕ) (o : Output) (ch : Change) (past : Past) (few : ℕ) → (a ≡ e → suc few ≤ 16) → few ≤ 16 → few + replies_in (put_by c a n (answered e o ch) past) ≤ 16
  reply-for a e n o ch past few own any = either (e == a) refl where
    either : (b : Bool) → (e == a) ≡ b → few + replies_in (if b then reply o ∷ map (λ k. ending k true) (tests c n past) else []) ≤ 16
    either true is = omega (arith, own (sym (same-of e a is)), replies-told (tests c n past))
    either false is = omega (arith, any)

-- an Ask is accepted where fewer than 16 replies wait
has-room : (x : Option Ends) (a n : ℕ) (f : Ends → Bool) → if_open x a f (if nat_le 16 n then Some (QueueFull a) else None) ≡ None → suc n ≤ 16
has-room None a n f h = absurd (cc h)
has-room (Some e) a n f h = either (f e) (nat_le 16 n) refl h where
  either : (y b : Bool) → nat_le 16 n ≡ b → if_yours y a (if b then Some (QueueFull a) else None) ≡ None → suc n ≤ 16
  either false b is h = absurd (cc h)
  either true true is h = absurd (cc h)
  either true false is h = leb-false 16 n is

abbrev AreFew : Model → Past → Type 0
AreFew c past = (a : ℕ) → waiting_replies c a past ≤ 16

turn : (c : Model) (n : ℕ) (t : Turn) (s : Step) (past : Past) → AreFew c past → fault_at c t.actor past s ≡ None → AreFew c (point n t.moment (deed_at c n t past s) ∷ singles_after c n t past s)
turn c n t (steps.Ask e r) past few none a = asks (after_singles c e.0 n t.moment (singles_of c past r.service) past) (output_for c n t.moment e.0 r past) (change_of c past r.service) (singles c a e.0 n t.moment (singles_of c past r.service) past) where
  asks : (after : Past) (o : Output) (ch : Change) → waiting_replies c a after ≤ waiting_replies c a past → waiting_replies c a (point n t.moment (answered e.0 o ch) ∷ after) ≤ 16
  asks after o ch less = omega (
    arith,
    grows c a n t.moment (answered e.0 o ch) after,
    less,
    reply-for c a e.0 n o ch after (waiting_replies c a past) (λ same. subst (λ b. suc (waiting_replies c b past) ≤ 16) (sym same) (has-room (ends e.0 past) e.0 (waiting_replies c e.0 past) (λ x. t.actor == x.opener) none)) (few a),
  )
turn c n t (steps.Write e b comp v) past few none a = omega (arith, few a, mute c a n t.moment _ past (component_ c e.0 (arrival n t.moment ∷ past) (IsMute c n past) (of-singles c n t.moment e.0 past) b.0 comp v))
turn c n t (steps.Take e) past few none a = omega (arith, few a, mute c a n t.moment _ past (takes c e.0 n t.moment past))
turn c n t (steps.Open e size writer owner) past few none a = omega (arith, few a, mute c a n t.moment (points.opened e.0 t.actor writer.0 size owner) past (λ b. refl))
turn c n t (steps.Lost e) past few none a = omega (arith, few a, mute c a n t.moment (points.lost e.0) past (λ b. refl))
turn c n t (steps.Value settings) past few none a = omega (arith, few a, mute c a n t.moment (points.valued settings) past (λ b. refl))
turn c n t (steps.Done k good) past few none a = omega (arith, few a, mute c a n t.moment (finished k.0 good) past (λ b. replies-ended b k.0 good (execution c k.0 past)))
turn c n t (steps.Block k flag) past few none a = omega (arith, few a, mute c a n t.moment (points.blocked k.0 flag) past (λ b. refl))
turn c n t steps.Tick past few none a = omega (arith, few a, mute c a n t.moment nothing past (λ b. refl))

pub queues_are_short : (c : Model) (h : History) → IsHistory c h → (a : ℕ) → waiting_replies c a (points c h) ≤ 16
queues_are_short c [] is a = omega arith
queues_are_short c (t ∷ h) is a = turn c (length h) t t.step (points c h) (queues_are_short c h is.0) is.1 a
