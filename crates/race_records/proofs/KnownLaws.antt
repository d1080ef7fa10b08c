-- What comes of a race is known from the scripts: an actor stops at the first request for which its own script leaves no capacity.
use Rattle.std.proofs.Common.{◌≡◌, ◌+◌, ◌||◌, ◌&&◌, ℕ, zero, suc, Bool, true, false, cond, not, List, [], ◌∷◌, ◌++◌, length, take, map, get_or, refl, sym, ap, ap₂, subst, ◌∙◌, arith, inl, inr}
use Rattle.std.specs.Prelude.{Option, None, Some, nat_le, slice_get, if◌then◌else◌}
use Rattle.std.specs.Option.{option_map}
use Rattle.std.proofs.lemmas.Bool.Decides.{eqb_tells, leb_tells}
use Rattle.std.proofs.lemmas.List.{take_all}
use Rattle.sv_base.specs.declared.config.Config.{Config}
use Rattle.bay_model.specs.declared.step.Step.{Step}
use Rattle.bay_model.specs.declared.step.Step.TheVariants as steps
use Rattle.bay_model.specs.Model.{Model}
use Rattle.bay_model.specs.Named.{configured_model}
use Rattle.bay_model.specs.Acceptance.{Fault, IsOpen, NotOpen, NotYours, QueueFull, IsHistory, fault}
use Rattle.bay_model.specs.Answers.{History, points}
use Rattle.bay_model.specs.Waiting.{waiting_replies}
use Rattle.bay_histories.specs.declared.fault.StepFault.{StepFault}
use Rattle.bay_histories.specs.declared.fault.StepFault.TheVariants as faults
use Rattle.bay_histories.specs.Faults.{named}
use Rattle.record_steps.specs.Forms.{is_shut}
use Rattle.record_outcome.specs.Histories.{form_at, onto}
use Rattle.bay_histories.specs.Histories as histories
use Rattle.bay_histories.specs.Rules.{bay_rules}
use Rattle.bay_histories.specs.Histories.{by, IsShuffle}
use Rattle.actor_scripts.specs.Stops.{StopsAt}
use Rattle.actor_scripts.specs.Raced.{actors, beginnings, IsPart, AreParts}
use Rattle.actor_scripts.specs.Scripts.{turns_onto, turns_by}
use Rattle.actor_scripts.specs.declared.part.Part.{Part}
use Rattle.actor_scripts.specs.declared.script.Script.{Script as Played}
use Rattle.actor_scripts.specs.declared.script.TimedStep.{TimedStep}
use Rattle.history_laws.specs.Opers.{AreApart}
use Rattle.history_laws.specs.Queues.{open_behind, is_open, waits, opers, IsItsOwn, AreTheirOwn, IsInOrder, own_fault}
use Rattle.history_laws.proofs.QueueLaws.{waits_by_steps, accepted_by_steps}
use Rattle.text_configs.proofs.Served.{served}
use Rattle.script_plans.specs.Plans.{Script, Plan, script_of}
use Rattle.script_plans.specs.Sound.{IsTold, AreTold, IsScriptOrNone, IsSound}
use Rattle.script_plans.specs.declared.line.StepLine.{StepLine}
use Rattle.script_plans.proofs.SoundLaws.{texts}
use Rattle.race_records.specs.Merged.{lines_in, book_of}
use Rattle.race_records.proofs.BackLaws.{steps_in, steps_by, lines_by, IsWithin, newest, earlier, told}
use Rattle.race_records.proofs.Listed.{book-at, length-turns, told-at}
use Rattle.race_records.specs.Verdicts.{number_at, full_by, full_line, lesser, lowest_full, went, all_went, wants_memory, lacks_memory}
use Rattle.race_records.specs.Bounds.{is_beyond, first_beyond, beyond_in, lowest_from, lowest_beyond, IsBeyond, IsBeyondIn, IsBeyondOf, WriteNoOper, WritesNoOper, IsWithoutOpers}
use Rattle.race_records.specs.Known.{Role, role_of, roles_from, VerdictsAreKnown}
use Rattle.race_records.proofs.Lows.{lesser-swap}
use Rattle.race_records.proofs.Owns.{own-waits, own-opers, own-opened, NeverFull, never-full, own-earlier, legal-earlier}
use Rattle.race_records.proofs.BoundLaws.{more-beyond, NoneBeyond, forwards, NoneBound, front-idle, bound-idle, none-first, bound, some-first, at-beyond, lesser-none, lesser-one, none-of}
use Rattle.race_records.proofs.ApartLaws.{are-apart}
use Rattle.list_laws.proofs.Options.{some_is}
use Rattle.race_records.proofs.Orders.{own-step, in-order, open-more}

-- ---- lists

take-zero : {A : Type 0} (xs : List A) → take 0 xs ≡ []
take-zero [] = refl
take-zero (x ∷ xs) = refl

take-long : {A : Type 0} (m : ℕ) (xs : List A) → take (length (take m xs)) xs ≡ take m xs
take-long zero xs = ap (λ (l : List _). take (length l) xs) (take-zero xs) ∙ (take-zero xs ∙ sym (take-zero xs))
take-long (suc m) [] = refl
take-long (suc m) (x ∷ xs) = ap (λ (l : List _). x ∷ l) (take-long m xs)

none-here : (n : ℕ) (s : TimedStep) → slice_get [] n ≡ Some s → ⊥
none-here n s e = absurd (cc e)

-- ---- what the association of a script is

opened-at : (c : Config) (k : ℕ) (acc : List (List ℕ)) (ls : List StepLine) (ss : List TimedStep) (n : ℕ) (turns : History) → AreTold c k acc ls ss → not (is_shut (form_at k acc)) ≡ is_open k turns
    → not (is_shut (form_at k (onto acc (texts (take n ls))))) ≡ is_open k (turns_onto k (take n ss) turns)
opened-at c k acc [] [] zero turns are agrees = agrees
opened-at c k acc [] [] (suc n) turns are agrees = agrees
opened-at c k acc [] (s ∷ ss) n turns are agrees = absurd are
opened-at c k acc (l ∷ ls) [] n turns are agrees = absurd are
opened-at c k acc (l ∷ ls) (s ∷ ss) zero turns are agrees = agrees
opened-at c k acc (l ∷ ls) (s ∷ ss) (suc n) turns are agrees =
    opened-at c k (l.text ∷ acc) ls ss n (histories.turn_of s.moment k s.step ∷ turns) are.1
    (open-more c k acc l s are.0 ∙ ap (open_behind k s.step) agrees)

-- ---- faults of steps in order

asked-full : (e : ℕ) (b : Bool) (o : Fault) → Some o ≡ (if b then Some (QueueFull e) else None) → (b ≡ true) × (o ≡ QueueFull e)
asked-full e true o h = (refl, cc)
asked-full e false o h = absurd cc

-- a step that is refused so is a request for which there is no memory
full-beyond : (k m : ℕ) (s : Step) (n : ℕ → ℕ) (o : Fault) → IsItsOwn (histories.turn_of m k s) s → Some o ≡ own_fault s n → (is_beyond (n k) s ≡ true) × (e : ℕ) × (o ≡ QueueFull e)
full-beyond k m (steps.Ask e r) n o own h = let f = asked-full e.0 (nat_le 16 (n e.0)) o h in (ap (λ a. nat_le 16 (n a)) own ∙ f.0, e.0, f.1)
full-beyond k m (steps.Open e size writer owner) n o own h = absurd cc
full-beyond k m (steps.Write e b comp v) n o own h = absurd cc
full-beyond k m (steps.Take e) n o own h = absurd cc
full-beyond k m (steps.Lost e) n o own h = absurd cc
full-beyond k m (steps.Value settings) n o own h = absurd cc
full-beyond k m (steps.Done x good) n o own h = absurd cc
full-beyond k m (steps.Block x flag) n o own h = absurd cc
full-beyond k m steps.Tick n o own h = absurd cc

module _ (p : Plan) (sound : IsSound p) where
  abbrev c : Config
  c = p.config

  abbrev model : Model
  model = configured_model c

  apart : AreApart model
  apart = are-apart c (served p.text c sound.text.config)

  -- ---- the scripts that are run

  abbrev there : ℕ → Option Script
  there k = script_of p k

  abbrev AllOfPlan : List Role → Type 0
  AllOfPlan [] = Unit {0}
  AllOfPlan (r ∷ rs) = (steps_in (there r.0) ≡ r.1) × AllOfPlan rs

  of-push : (rs : List Role) (r : Role) → AllOfPlan rs → steps_in (there r.0) ≡ r.1 → AllOfPlan (rs ++ r ∷ [])
  of-push [] r all is = (is, tt)
  of-push (x ∷ xs) r all is = (all.0, of-push xs r all.1 is)

  abbrev IsTail : ℕ → List (Option Script) → Type 0
  IsTail n scs = (j : ℕ) → get_or scs j None ≡ there (n + j)

  tail-rest : (n : ℕ) (s : Option Script) (scs : List (Option Script)) → IsTail n (s ∷ scs) → IsTail (suc n) scs
  tail-rest n s scs at j = let same : n + suc j ≡ suc n + j = omega arith in at (suc j) ∙ ap there same

  tail-first : (n : ℕ) (s : Option Script) (scs : List (Option Script)) → IsTail n (s ∷ scs) → there n ≡ s
  tail-first n s scs at = let same : n ≡ n + 0 = omega arith in ap there same ∙ sym (at 0)

  of-plan : (n : ℕ) (scs : List (Option Script)) → IsTail n scs → AllOfPlan (roles_from n scs)
  of-plan n [] at = tt
  of-plan n (None ∷ scs) at = of-plan (suc n) scs (tail-rest n None scs at)
  of-plan n (Some s ∷ scs) at = of-push (roles_from (suc n) scs) (n, s.steps) (of-plan (suc n) scs (tail-rest n (Some s) scs at)) (ap steps_in (tail-first n (Some s) scs at))

  -- the lowest line of that many
  abbrev lowest_of : List Role → Option ℕ
  lowest_of [] = None
  lowest_of (r ∷ rs) = lesser (beyond_in model r.0 (there r.0)) (lowest_of rs)

  lowest-push : (rs : List Role) (r : Role) → lowest_of (rs ++ r ∷ []) ≡ lesser (beyond_in model r.0 (there r.0)) (lowest_of rs)
  lowest-push [] r = refl
  lowest-push (x ∷ xs) r = ap (lesser (beyond_in model x.0 (there x.0))) (lowest-push xs r) ∙ lesser-swap (beyond_in model x.0 (there x.0)) (beyond_in model r.0 (there r.0)) (lowest_of xs)

  lowest-plan : (n : ℕ) (scs : List (Option Script)) → IsTail n scs → lowest_of (roles_from n scs) ≡ lowest_from model n scs
  lowest-plan n [] at = refl
  lowest-plan n (None ∷ scs) at = lowest-plan (suc n) scs (tail-rest n None scs at)
  lowest-plan n (Some s ∷ scs) at =
      lowest-push (roles_from (suc n) scs) (n, s.steps)
      ∙ (ap (λ o. lesser (beyond_in model n o) (lowest_of (roles_from (suc n) scs))) (tail-first n (Some s) scs at)
      ∙ ap (lesser (beyond_in model n (Some s))) (lowest-plan (suc n) scs (tail-rest n (Some s) scs at)))

  -- ---- the history has of each actor a beginning of its script

  begins : (ss : List Played) (ps : List Part) (k : ℕ) → AllOfPlan (map role_of ss) → (m : ℕ) × (beginnings ss ps k ≡ turns_by k (take m (steps_by p sound k)))
  begins [] ps k all = (0, ap (turns_by k) (sym (take-zero (steps_by p sound k))))
  begins (s ∷ ss) [] k all = (0, ap (turns_by k) (sym (take-zero (steps_by p sound k))))
  begins (s ∷ ss) (q ∷ qs) k all = elim (eqb_tells s.actor k) [
    | inl e ↦ (
      length q.replies.items,
      ap (λ b. cond b (turns_by k (take (length q.replies.items) s.steps.items)) (beginnings ss qs k)) e.0
          ∙ ap (λ l. turns_by k (take (length q.replies.items) l)) (sym all.0 ∙ ap (steps_by p sound) e.1),
    )
    | inr e ↦
        let rest = begins ss qs k all.1 in
        (rest.0, ap (λ b. cond b (turns_by k (take (length q.replies.items) s.steps.items)) (beginnings ss qs k)) e.0 ∙ rest.1)
  ]

  within-by : (k m : ℕ) (h : History) → by k h ≡ turns_by k (take m (steps_by p sound k)) → by k h ≡ turns_by k (take (length (by k h)) (steps_by p sound k))
  within-by k m h is =
      let long : length (by k h) ≡ length (take m (steps_by p sound k)) = omega (arith, ap (λ (l : History). length l) is, length-turns k (take m (steps_by p sound k)) []) in
      is ∙ ap (turns_by k) (sym (ap (λ n. take n (steps_by p sound k)) long ∙ take-long m (steps_by p sound k)))

  within : (ss : List Played) (ps : List Part) (h : History) → AllOfPlan (map role_of ss) → IsShuffle actors (beginnings ss ps) h → IsWithin p sound h
  within ss ps h all shuffle k = elim (leb_tells (suc k) 33) [
    | inl t ↦ let begun = begins ss ps k all in within-by k begun.0 h (shuffle.0 k t.1 ∙ begun.1)
    | inr t ↦ within-by k 0 h (shuffle.1 k (omega (arith, t.1)) ∙ ap (turns_by k) (sym (take-zero (steps_by p sound k))))
  ]

  their-own : (h : History) → IsWithin p sound h → AreTheirOwn h
  their-own [] w = tt
  their-own (t ∷ h) w =
      let new = newest p sound t h w in
      let line = told p sound t h w in
      (their-own h (earlier p sound t h w), subst (λ u. IsItsOwn u u.step) (sym new.turn) (own-step c t.actor (onto [] (texts (take (length (by t.actor h)) (lines_by p sound t.actor)))) line.0 new.step line.2))

  -- ---- what came of a script

  told-all : (k : ℕ) (o : Option Script) → IsScriptOrNone c k o → AreTold c k [] (lines_in o) (steps_in o)
  told-all k None is = tt
  told-all k (Some s) is = is.told

  in-all : (k : ℕ) (o : Option Script) → first_beyond model k 0 0 (lines_in o) (steps_in o) ≡ beyond_in model k o
  in-all k None = refl
  in-all k (Some s) = refl

  beyond-all : (k : ℕ) (o : Option Script) (line : ℕ) → IsBeyond model k 0 0 (lines_in o) (steps_in o) line → IsBeyondIn model k o line
  beyond-all k None line is = is
  beyond-all k (Some s) line is = is

  idle-all : (o : Option Script) → WritesNoOper model o → WriteNoOper model (steps_in o)
  idle-all None idle = tt
  idle-all (Some s) idle = idle

  record IsVerdict (k : ℕ) (q : Part) : Type 0 where
    beyond : (line : ℕ) → full_line (book_of p) q ≡ Some line → IsBeyondIn model k (there k) line
    exact : WritesNoOper model (there k) → full_line (book_of p) q ≡ beyond_in model k (there k)
    all : full_line (book_of p) q ≡ None → went q.fault ≡ true

  module _ (h : History) (legal : IsHistory model h) (own : AreTheirOwn h) (s : Played) (q : Part) (is : IsPart bay_rules c h s q) (mine : steps_in (there s.actor) ≡ s.steps.items) where
    abbrev k : ℕ
    k = s.actor

    abbrev n : ℕ
    n = length q.replies.items

    abbrev before : History
    before = is.before

    own-before : AreTheirOwn before
    own-before = own-earlier before h is.earlier own

    legal-before : IsHistory model before
    legal-before = legal-earlier model before h is.earlier legal

    made : by k before ≡ turns_by k (take n (steps_in (there k)))
    made = is.own ∙ ap (λ l. turns_by k (take n l)) (sym mine)

    room-before : NoneBeyond k 0 (take n (steps_in (there k)))
    room-before = (forwards k (take n (steps_in (there k))) [] (subst (NeverFull k) made (never-full model apart k before legal-before own-before))).0

    -- the same of the bound
    bound-before : WritesNoOper model (there k) → NoneBound model k 0 0 (take n (steps_in (there k)))
    bound-before idle = bound-idle model k 0 0 (take n (steps_in (there k))) (front-idle model k n (steps_in (there k)) (idle-all (there k) idle)) refl room-before

    are-told : AreTold c k [] (lines_in (there k)) (steps_in (there k))
    are-told = told-all k (there k) (sound.scripts k)

    -- all went
    went-whole : n ≡ length s.steps.items → WritesNoOper model (there k) → None ≡ beyond_in model k (there k)
    went-whole whole idle =
        let all-of : take n (steps_in (there k)) ≡ steps_in (there k) = take_all n (steps_in (there k)) (omega (arith, whole, ap (λ (l : List TimedStep). length l) mine)) in
        sym (none-first model k 0 0 (lines_in (there k)) (steps_in (there k)) (subst (NoneBound model k 0 0) all-of (bound-before idle))) ∙ in-all k (there k)

    -- a turn was refused
    module _ (f : StepFault) (o : Fault) (names : named f ≡ Some o) (step : TimedStep) (at : slice_get s.steps.items n ≡ Some step) (no : named f ≡ fault (configured_model c) before (histories.turn_of step.moment k step.step)) where
      line : (l : StepLine) × (slice_get (lines_in (there k)) n ≡ Some l) × IsTold c k (onto [] (texts (take n (lines_in (there k))))) l step
      line = told-at c k [] (lines_in (there k)) (steps_in (there k)) n step are-told (ap (λ l. slice_get l n) mine ∙ at)

      mine-step : IsItsOwn (histories.turn_of step.moment k step.step) step.step
      mine-step = own-step c k (onto [] (texts (take n (lines_in (there k))))) line.0 step line.2

      opened : is_open k before ≡ not (is_shut (form_at k (onto [] (texts (take n (lines_in (there k)))))))
      opened = own-opened k before own-before ∙ (ap (is_open k) made ∙ sym (opened-at c k [] (lines_in (there k)) (steps_in (there k)) n [] are-told refl))

      ordered : IsInOrder (λ a. is_open a before) step.step
      ordered = in-order c k (onto [] (texts (take n (lines_in (there k))))) line.0 step line.2 (λ a. is_open a before) opened

      beyond : (is_beyond (waiting_replies model k (points model before)) step.step ≡ true) × (e : ℕ) × (o ≡ QueueFull e)
      beyond = full-beyond k step.moment step.step (λ a. waiting_replies model a (points model before)) o mine-step
          (sym names ∙ (no ∙ accepted_by_steps model before own-before (histories.turn_of step.moment k step.step) mine-step ordered))

      waited : bound model k before ≡ bound model k (turns_onto k (take n (steps_in (there k))) [])
      waited = ap₂ (λ x y. x + y) (own-waits k before own-before ∙ ap (waits k) made) (own-opers model k before own-before ∙ ap (opers model k) made)

      so-full : is_beyond (bound model k (turns_onto k (take n (steps_in (there k))) [])) step.step ≡ true
      so-full = ap (λ x. is_beyond x step.step) (sym waited) ∙ more-beyond (waiting_replies model k (points model before)) (bound model k before) step.step (waits_by_steps model apart before legal-before k).1 beyond.0

      mine-at : slice_get (steps_in (there k)) n ≡ Some step
      mine-at = ap (λ l. slice_get l n) mine ∙ at

      one : IsBeyondIn model k (there k) line.0.number
      one = beyond-all k (there k) line.0.number (at-beyond model k [] (lines_in (there k)) (steps_in (there k)) n line.0 step line.1 mine-at so-full)

      first : WritesNoOper model (there k) → beyond_in model k (there k) ≡ Some line.0.number
      first idle = sym (in-all k (there k)) ∙ some-first model k [] (lines_in (there k)) (steps_in (there k)) n line.0 step (bound-before idle) line.1 mine-at so-full

      numbered : number_at (book_of p) q.actor n ≡ Some line.0.number
      numbered =
          ap (λ a. number_at (book_of p) a n) is.actor
          ∙ (ap (λ ls. option_map (λ (l : StepLine). l.number) (slice_get ls n)) (book-at p.scripts k) ∙ ap (option_map (λ (l : StepLine). l.number)) line.1)

    -- by its fault
    abbrev Judged : Option StepFault → Type 0
    Judged g = ((line : ℕ) → full_by (book_of p) q g ≡ Some line → IsBeyondIn model k (there k) line) × (WritesNoOper model (there k) → full_by (book_of p) q g ≡ beyond_in model k (there k)) × (full_by (book_of p) q g ≡ None → went g ≡ true)

    by-fault : (g : Option StepFault) → q.fault ≡ g → StopsAt bay_rules c k s.steps.items n g before → wants_memory g ≡ false → Judged g
    by-fault None g stops lean = (λ line e. absurd (cc e), went-whole stops, λ e. refl)
    by-fault (Some faults.Memory) g stops lean = absurd cc
    by-fault (Some (faults.QueueFull a)) g stops lean =
        let r = numbered (faults.QueueFull a) (QueueFull a.0) refl stops.0 stops.1 stops.2 in (
          λ line e. subst (IsBeyondIn model k (there k)) (some_is _ line (sym r ∙ e)) (one (faults.QueueFull a) (QueueFull a.0) refl stops.0 stops.1 stops.2),
          λ idle. r ∙ sym (first (faults.QueueFull a) (QueueFull a.0) refl stops.0 stops.1 stops.2 idle),
          λ e. absurd (cc (sym r ∙ e)),
        )
    by-fault (Some (faults.IsOpen a)) g stops lean = let r = beyond (faults.IsOpen a) (IsOpen a.0) refl stops.0 stops.1 stops.2 in absurd (cc r.2)
    by-fault (Some (faults.NotOpen a)) g stops lean = let r = beyond (faults.NotOpen a) (NotOpen a.0) refl stops.0 stops.1 stops.2 in absurd (cc r.2)
    by-fault (Some (faults.NotYours a)) g stops lean = let r = beyond (faults.NotYours a) (NotYours a.0) refl stops.0 stops.1 stops.2 in absurd (cc r.2)

    verdict : wants_memory q.fault ≡ false → IsVerdict k q
    verdict lean = let v = by-fault q.fault refl is.stops lean in record { beyond = v.0; exact = v.1; all = v.2 }

  -- ---- of all scripts

  or-parts : (a b : Bool) → (a || b) ≡ false → (a ≡ false) × (b ≡ false)
  or-parts true b h = absurd cc
  or-parts false b h = (refl, h)

  both-went : (a b : Bool) → a ≡ true → b ≡ true → (a && b) ≡ true
  both-went a b e f = ap (λ x. x && b) e ∙ f

  abbrev full : List Part → Option ℕ
  full ps = lowest_full (book_of p) ps

  record AreJudged (ss : List Played) (ps : List Part) : Type 0 where
    beyond : (line : ℕ) → full ps ≡ Some line → IsBeyondOf p line
    exact : IsWithoutOpers p → full ps ≡ lowest_of (map role_of ss)
    went_ : full ps ≡ None → all_went ps ≡ true

  all-verdicts : (h : History) → IsHistory model h → AreTheirOwn h → (ss : List Played) (ps : List Part) → AreParts bay_rules c h ss ps → AllOfPlan (map role_of ss) → lacks_memory ps ≡ false → AreJudged ss ps
  all-verdicts h legal own [] [] are all lean = record { beyond = λ line e. absurd (cc e); exact = λ idle. refl; went_ = λ e. refl }
  all-verdicts h legal own [] (q ∷ qs) are all lean = absurd are
  all-verdicts h legal own (s ∷ ss) [] are all lean = absurd are
  all-verdicts h legal own (s ∷ ss) (q ∷ qs) are all lean =
      let leans = or-parts (wants_memory q.fault) (lacks_memory qs) lean in
      let v = verdict h legal own s q are.0 all.0 leans.0 in
      let rest = all-verdicts h legal own ss qs are.1 all.1 leans.1 in
      record {
        beyond = λ line e. elim (lesser-one (full_line (book_of p) q) (full qs) line e) [ inl i ↦ (s.actor, v.beyond line i) | inr i ↦ rest.beyond line i ];
        exact = λ idle i. lesser (v.exact (idle s.actor) i) (rest.exact idle i);
        went_ = λ e. let nones = lesser-none (full_line (book_of p) q) (full qs) e in both-went (went q.fault) (all_went qs) (v.all nones.0) (rest.went_ nones.1);
      }

-- no line was full where there is no such line
none-full : (p : Plan) (o : Option ℕ) → ((line : ℕ) → o ≡ Some line → IsBeyondOf p line) → lowest_beyond p ≡ None → o ≡ None
none-full p None has none = refl
none-full p (Some line) has none = absurd (none-of p line none (has line refl))

pub verdicts_are_known : VerdictsAreKnown
verdicts_are_known p ss ps h sound are raced lean =
    let whole : IsTail p sound 0 p.scripts = λ j. let same : j ≡ 0 + j = omega arith in ap (script_of p) same in
    let all = subst (AllOfPlan p sound) (sym are) (of-plan p sound 0 p.scripts whole) in
    let own = their-own p sound h (within p sound ss ps h all raced.shuffle) in
    let v = all-verdicts p sound h raced.legal own ss ps raced.parts_ all lean in
    record {
      beyond = v.beyond;
      exact = λ idle. v.exact idle ∙ (ap (lowest_of p sound) are ∙ lowest-plan p sound 0 p.scripts whole);
      within = none-full p (lowest_full (book_of p) ps) v.beyond;
      went = v.went_;
    }
