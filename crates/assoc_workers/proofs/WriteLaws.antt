-- Takes whose outputs are written: one more, and how they end.
use Rattle.std.proofs.Common.{◌≡◌, ◌≢◌, ℕ, List, [], ◌∷◌, ◌++◌, ap, sym, ◌∙◌, subst, refl, append-nil, Ok, Err, inl, inr}
use Rattle.std.specs.Prelude.{Option, Result, take, ◌⊎◌}
use Rattle.std.proofs.lemmas.Grind.{flat_map-append}
use Rattle.std.specs.Io.KnownBytes.{Appends}
use Rattle.std.proofs.KnownBytes.{Appends-trans, Appends-nil}
use Rattle.sv_base.specs.declared.config.Config.{Config}
use Rattle.sv_base.specs.declared.numbers.AssocNo.{AssocNo}
use Rattle.bay_model.specs.declared.step.Step.TheVariants as steps
use Rattle.bay_model.specs.declared.answer.Answer.{Answer}
use Rattle.bay_model.specs.declared.answer.Answer.TheVariants as answers
use Rattle.bay_histories.specs.Rules.{Rules}
use Rattle.bay_histories.specs.declared.fault.StepFault.TheVariants as stepfaults
use Rattle.osi_stack.specs.declared.events.Line.{Line}
use Rattle.history_lock.specs.declared.fault.TurnFault.{TurnFault}
use Rattle.history_lock.specs.declared.fault.TurnFault.TheVariants as faults
use Rattle.history_lock.specs.Passes.{Known, Turned}
use Rattle.assoc_workers.specs.declared.ends.WriteEnd.{WriteEnd}
use Rattle.assoc_workers.specs.declared.ends.WriteEnd.TheVariants as ends
use Rattle.assoc_workers.specs.declared.taking.Went.{Went}
use Rattle.assoc_workers.specs.declared.taking.Went.TheVariants as wents
use Rattle.assoc_workers.specs.Made.{MadeStep, Moved, AreAt, IsRefusedAfter, HasGivenUp}
use Rattle.assoc_workers.specs.Writing.{octets_given, octets_of, sent, AreTakes, AreOpen, IsWritten, IsCutShort, HasWritten, HasLeft, Writes}
use Rattle.assoc_workers.specs.Taking.{Takes, TakesOne, IsRefusedAs, IsCut}
use Rattle.assoc_workers.proofs.MadeLaws.{moved_none, moved_both, moved_still, all_append, at_append, at_none, refused_after}

-- ---- what is sent

pub sent_append : (c : Config) (line : Line) (xs ys : List MadeStep) → sent c line (xs ++ ys) ≡ sent c line xs ++ sent c line ys
sent_append c line xs ys = flat_map-append (λ (m : MadeStep). octets_given c line m.answer) xs ys

pub sent_more : (c : Config) (line : Line) (xs : List MadeStep) (m : MadeStep) → sent c line (xs ++ m ∷ []) ≡ sent c line xs ++ octets_given c line m.answer
sent_more c line xs m = sent_append c line xs (m ∷ []) ∙ ap (λ (l : List ℕ). sent c line xs ++ l) (append-nil (octets_given c line m.answer))

-- ---- takes so far

pub record TakesSoFar (rules : Rules) (c : Config) (a : AssocNo) (line : Line) (clock : Option ℕ) (p q : Known) (old new : Option (List ℕ)) : Type 0 where
  pub takes : List MadeStep
  pub moved : Moved rules p takes q
  pub are_takes : AreTakes a takes
  pub are_open : AreOpen takes
  pub written : IsWritten c line takes old new
  pub moments : AreAt clock takes

module _ (rules : Rules) (c : Config) (a : AssocNo) (line : Line) (clock : Option ℕ) (p : Known) (old : Option (List ℕ)) where
  pub so_far_none : TakesSoFar rules c a line clock p p old old
  so_far_none = record { takes = []; moved = moved_none rules p; are_takes = tt; are_open = tt; written = Appends-nil old; moments = at_none clock }

  -- one more, whose output is written
  so_far_one : (q r : Known) (mid new : Option (List ℕ)) (m : MadeStep) → TakesSoFar rules c a line clock p q old mid → Moved rules q (m ∷ []) r
      → m.step ≡ steps.Take a → AreAt clock (m ∷ []) → m.answer ≢ answers.Closed → Appends mid new (octets_given c line m.answer)
      → TakesSoFar rules c a line clock p r old new
  so_far_one q r mid new m s moved step at not_closed written = record {
    takes = s.takes ++ m ∷ [];
    moved = moved_both rules p q r s.takes (m ∷ []) s.moved moved;
    are_takes = all_append (λ (n : MadeStep). n.step ≡ steps.Take a) s.takes (m ∷ []) s.are_takes (step, tt);
    are_open = all_append (λ (n : MadeStep). n.answer ≢ answers.Closed) s.takes (m ∷ []) s.are_open (not_closed, tt);
    written = subst (Appends old new) (sym (sent_more c line s.takes m)) (Appends-trans old mid new (sent c line s.takes) (octets_given c line m.answer) s.written written);
    moments = at_append clock s.takes (m ∷ []) s.moments at;
  }

  -- a take after which the side goes on
  so_far_written_so : (q r : Known) (mid new : Option (List ℕ)) → TakesSoFar rules c a line clock p q old mid
      → TakesOne rules c a line clock (Ok wents.Written) q r mid new → TakesSoFar rules c a line clock p r old new
  so_far_written_so q r mid new s (inl t) = so_far_one q r mid new t.0 s t.1 t.2 t.3 t.4.0 t.4.1
  so_far_written_so q r mid new s (inr t) = absurd t.2

  pub so_far_written : (q r : Known) (mid new : Option (List ℕ)) → (went : Went) → went ≡ wents.Written → TakesSoFar rules c a line clock p q old mid
      → TakesOne rules c a line clock (Ok went) q r mid new → TakesSoFar rules c a line clock p r old new
  so_far_written q r mid new went is s t = so_far_written_so q r mid new s (subst (λ (w : Went). TakesOne rules c a line clock (Ok w) q r mid new) is t)

  so_far_empty_so : (q r : Known) (mid new : Option (List ℕ)) → TakesSoFar rules c a line clock p q old mid
      → TakesOne rules c a line clock (Ok wents.Empty) q r mid new → TakesSoFar rules c a line clock p r old new
  so_far_empty_so q r mid new s (inl t) = so_far_one q r mid new t.0 s t.1 t.2 t.3 t.4.0 t.4.1
  so_far_empty_so q r mid new s (inr t) = absurd t.2

  pub so_far_empty : (q r : Known) (mid new : Option (List ℕ)) → (went : Went) → went ≡ wents.Empty → TakesSoFar rules c a line clock p q old mid
      → TakesOne rules c a line clock (Ok went) q r mid new → TakesSoFar rules c a line clock p r old new
  so_far_empty q r mid new went is s t = so_far_empty_so q r mid new s (subst (λ (w : Went). TakesOne rules c a line clock (Ok w) q r mid new) is t)

  -- ---- the last take

  -- one more, of which this is written
  last_take : (end : WriteEnd) (q r : Known) (mid new : Option (List ℕ)) (m : MadeStep) (s : TakesSoFar rules c a line clock p q old mid) → Moved rules q (m ∷ []) r
      → m.step ≡ steps.Take a → AreAt clock (m ∷ []) → HasWritten c line end (s.takes ++ m ∷ []) old new → Takes rules c a line clock end p r old new
  last_take end q r mid new m s moved step at written = record {
    takes = s.takes ++ m ∷ [];
    moved = moved_both rules p q r s.takes (m ∷ []) s.moved moved;
    are_takes = all_append (λ (n : MadeStep). n.step ≡ steps.Take a) s.takes (m ∷ []) s.are_takes (step, tt);
    written = written;
    moments = at_append clock s.takes (m ∷ []) s.moments at;
  }

  -- the association isn't open
  closed_so : (q r : Known) (mid new : Option (List ℕ)) → TakesSoFar rules c a line clock p q old mid
      → TakesOne rules c a line clock (Ok wents.Closed) q r mid new → Takes rules c a line clock ends.Closed p r old new
  closed_so q r mid new s (inr t) = absurd t.2
  closed_so q r mid new s (inl t) = last_take ends.Closed q r mid new t.0 s t.1 t.2 t.3 ((s.takes, t.0, refl, s.are_open, t.4.0), whole)
    where
      none_of : (x : Answer) → x ≡ answers.Closed → octets_given c line x ≡ []
      none_of x e = ap (octets_given c line) e

      whole : Appends old new (sent c line (s.takes ++ t.0 ∷ []))
      whole = subst (Appends old new)
          (sym (sent_more c line s.takes t.0 ∙ ap (λ (l : List ℕ). sent c line s.takes ++ l) (none_of t.0.answer t.4.0)))
          (Appends-trans old mid new (sent c line s.takes) [] s.written t.4.1)

  pub takes_closed : (q r : Known) (mid new : Option (List ℕ)) → (went : Went) → went ≡ wents.Closed → TakesSoFar rules c a line clock p q old mid
      → TakesOne rules c a line clock (Ok went) q r mid new → Takes rules c a line clock ends.Closed p r old new
  takes_closed q r mid new went is s t = closed_so q r mid new s (subst (λ (w : Went). TakesOne rules c a line clock (Ok w) q r mid new) is t)

  -- a front of its output is written
  cut_after : (q r : Known) (mid new : Option (List ℕ)) (m : MadeStep) (s : TakesSoFar rules c a line clock p q old mid) → IsCut c line m.answer mid new
      → AreOpen (s.takes ++ m ∷ []) × IsCutShort c line (s.takes ++ m ∷ []) old new
  cut_after q r mid new m s cut = (
    all_append (λ (n : MadeStep). n.answer ≢ answers.Closed) s.takes (m ∷ []) s.are_open (not_closed m.answer cut.1, tt),
    (s.takes, m, cut.0, refl, cut.1, cut.2, cut.3, Appends-trans old mid new (sent c line s.takes) (take cut.2 (octets_of c line cut.0)) s.written cut.4),
  )
    where
      not_closed : (x : Answer) → x ≡ answers.Taken cut.0 → x ≢ answers.Closed
      not_closed x e closed = absurd (differ (sym e ∙ closed))
        where
          differ : answers.Taken cut.0 ≡ answers.Closed → ⊥
          differ f = cc f

  -- nothing was taken
  still : (end : WriteEnd) (q r : Known) (mid new : Option (List ℕ)) (s : TakesSoFar rules c a line clock p q old mid) → Moved rules q [] r → Appends mid new []
      → (IsWritten c line s.takes old new → HasWritten c line end s.takes old new) → Takes rules c a line clock end p r old new
  still end q r mid new s moved none has = record {
    takes = s.takes;
    moved = moved_still rules p q r s.takes s.moved moved;
    are_takes = s.are_takes;
    written = has (subst (Appends old new) (append-nil (sent c line s.takes)) (Appends-trans old mid new (sent c line s.takes) [] s.written none));
    moments = s.moments;
  }

  refused_end : (end : WriteEnd) (made : List MadeStep) (new : Option (List ℕ)) (f : TurnFault) → IsRefusedAs f end → AreOpen made → IsWritten c line made old new
      → HasWritten c line end made old new
  refused_end end made new faults.Ended is are w = subst (λ (e : WriteEnd). HasWritten c line e made old new) (sym is) (are, w)
  refused_end end made new (faults.Step stepfaults.Memory) is are w = subst (λ (e : WriteEnd). HasWritten c line e made old new) (sym is) (are, inl w)
  refused_end end made new (faults.Step (stepfaults.IsOpen x)) is are w = subst (λ (e : WriteEnd). HasWritten c line e made old new) (sym is) (are, w)
  refused_end end made new (faults.Step (stepfaults.NotOpen x)) is are w = subst (λ (e : WriteEnd). HasWritten c line e made old new) (sym is) (are, w)
  refused_end end made new (faults.Step (stepfaults.NotYours x)) is are w = subst (λ (e : WriteEnd). HasWritten c line e made old new) (sym is) (are, w)
  refused_end end made new (faults.Step (stepfaults.QueueFull x)) is are w = subst (λ (e : WriteEnd). HasWritten c line e made old new) (sym is) (are, w)

  -- the side ends by a fault, or by a refusal
  pub takes_ended : (end : WriteEnd) (q r : Known) (mid new : Option (List ℕ)) → TakesSoFar rules c a line clock p q old mid
      → TakesOne rules c a line clock (Err end) q r mid new → Takes rules c a line clock end p r old new
  takes_ended end q r mid new s (inr t) = still end q r mid new s t.0 t.1 (refused_end end s.takes new t.2.0 t.2.1 s.are_open)
  takes_ended ends.WriteFault q r mid new s (inl t) = last_take ends.WriteFault q r mid new t.0 s t.1 t.2 t.3 (cut_after q r mid new t.0 s t.4)
  takes_ended ends.Memory q r mid new s (inl t) =
      let both = cut_after q r mid new t.0 s t.4 in last_take ends.Memory q r mid new t.0 s t.1 t.2 t.3 (both.0, inr both.1)
  takes_ended ends.Closed q r mid new s (inl t) = absurd t.4
  takes_ended ends.Idle q r mid new s (inl t) = absurd t.4
  takes_ended ends.Foreign q r mid new s (inl t) = absurd t.4
  takes_ended ends.Ended q r mid new s (inl t) = absurd t.4

  -- no refusal is an end of these
  not_as : (end : WriteEnd) → (end ≢ ends.Ended) → (end ≢ ends.Memory) → (end ≢ ends.Foreign) → (f : TurnFault) → IsRefusedAs f end → ⊥
  not_as end x y z faults.Ended is = x is
  not_as end x y z (faults.Step stepfaults.Memory) is = y is
  not_as end x y z (faults.Step (stepfaults.IsOpen n)) is = z is
  not_as end x y z (faults.Step (stepfaults.NotOpen n)) is = z is
  not_as end x y z (faults.Step (stepfaults.NotYours n)) is = z is
  not_as end x y z (faults.Step (stepfaults.QueueFull n)) is = z is

  -- a take never ends the side as idle, or as closed by a fault
  pub never_idle : (q r : Known) (mid new : Option (List ℕ)) → TakesOne rules c a line clock (Err ends.Idle) q r mid new → ⊥
  never_idle q r mid new (inl t) = t.4
  never_idle q r mid new (inr t) = not_as ends.Idle (λ e. cc) (λ e. cc) (λ e. cc) t.2.0 t.2.1

  pub never_closed : (q r : Known) (mid new : Option (List ℕ)) → TakesOne rules c a line clock (Err ends.Closed) q r mid new → ⊥
  never_closed q r mid new (inl t) = t.4
  never_closed q r mid new (inr t) = not_as ends.Closed (λ e. cc) (λ e. cc) (λ e. cc) t.2.0 t.2.1

  -- after the takes the association is given up, or nothing more is made
  pub writes_all : (q r : Known) (new : Option (List ℕ)) (end : WriteEnd) (last : List MadeStep) → Takes rules c a line clock end p q old new → Moved rules q last r
      → HasLeft rules a end last r → AreAt clock last → Writes rules c a line clock end p r old new
  writes_all q r new end last t m l at = record {
    takes = t.takes;
    last = last;
    moved = moved_both rules p q r t.takes last t.moved m;
    are_takes = t.are_takes;
    written = t.written;
    has_left = l;
    moments = at_append clock t.takes last t.moments at;
  }

  -- it is given up where the sink failed, or when out of memory
  pub writes_lost : (q r : Known) (new : Option (List ℕ)) (end : WriteEnd) → (end ≡ ends.WriteFault) ⊎ (end ≡ ends.Memory) → Takes rules c a line clock end p q old new
      → (last : List MadeStep) × Moved rules q last r × HasGivenUp rules a last r × AreAt clock last → Writes rules c a line clock end p r old new
  writes_lost q r new end (inl is) t l = writes_all q r new end l.0 t l.1 (subst (λ (e : WriteEnd). HasLeft rules a e l.0 r) (sym is) l.2) l.3
  writes_lost q r new end (inr is) t l = writes_all q r new end l.0 t l.1 (subst (λ (e : WriteEnd). HasLeft rules a e l.0 r) (sym is) l.2) l.3

  -- nothing more is made
  pub writes_takes : (q : Known) (new : Option (List ℕ)) (end : WriteEnd) → Takes rules c a line clock end p q old new → HasLeft rules a end [] q
      → Writes rules c a line clock end p q old new
  writes_takes q new end t l = writes_all q q new end [] t (moved_none rules q) l (at_none clock)

-- ---- why a take is refused

-- an end as another's has a refusal that names a fault
pub refused_foreign : (rules : Rules) (a : AssocNo) (p q : Known) (moment : ℕ) (f : TurnFault) → IsRefusedAs f ends.Foreign
    → Turned rules p moment (steps.Take a) (Err f) q → IsRefusedAfter rules (steps.Take a) q
refused_foreign rules a p q moment faults.Ended is t = absurd cc is
refused_foreign rules a p q moment (faults.Step stepfaults.Memory) is t = absurd cc is
refused_foreign rules a p q moment (faults.Step (stepfaults.IsOpen x)) is t = refused_after rules p q moment (steps.Take a) (stepfaults.IsOpen x) _ refl t
refused_foreign rules a p q moment (faults.Step (stepfaults.NotOpen x)) is t = refused_after rules p q moment (steps.Take a) (stepfaults.NotOpen x) _ refl t
refused_foreign rules a p q moment (faults.Step (stepfaults.NotYours x)) is t = refused_after rules p q moment (steps.Take a) (stepfaults.NotYours x) _ refl t
refused_foreign rules a p q moment (faults.Step (stepfaults.QueueFull x)) is t = refused_after rules p q moment (steps.Take a) (stepfaults.QueueFull x) _ refl t

-- and an end of the pass finds it without a turn left
pub refused_ended : (rules : Rules) (a : AssocNo) (p q : Known) (moment : ℕ) (f : TurnFault) → IsRefusedAs f ends.Ended
    → Turned rules p moment (steps.Take a) (Err f) q → q.left ≡ 0
refused_ended rules a p q moment faults.Ended is t = ap (λ (k : Known). k.left) t.1 ∙ t.0
refused_ended rules a p q moment (faults.Step stepfaults.Memory) is t = absurd cc is
refused_ended rules a p q moment (faults.Step (stepfaults.IsOpen x)) is t = absurd cc is
refused_ended rules a p q moment (faults.Step (stepfaults.NotOpen x)) is t = absurd cc is
refused_ended rules a p q moment (faults.Step (stepfaults.NotYours x)) is t = absurd cc is
refused_ended rules a p q moment (faults.Step (stepfaults.QueueFull x)) is t = absurd cc is

abbrev ended_as : WriteEnd → Result Went WriteEnd
ended_as end = Err end

pub ends_foreign : (rules : Rules) (a : AssocNo) (p q : Known) (moment : ℕ) (f : TurnFault) (end : WriteEnd) → IsRefusedAs f end
    → Turned rules p moment (steps.Take a) (Err f) q → ended_as end ≡ ended_as ends.Foreign → IsRefusedAfter rules (steps.Take a) q
ends_foreign rules a p q moment f end is t same = refused_foreign rules a p q moment f (subst as_refused same is) t
  where
    as_refused : Result Went WriteEnd → Type 0
    as_refused (Ok went) = Unit {0}
    as_refused (Err e) = IsRefusedAs f e
