-- The lines of steps that were made are read back as the history that was made.
use Rattle.std.proofs.Common.{◌≡◌, ◌≤◌, ◌<◌, ◌==◌, ℕ, zero, suc, Bool, true, false, cond, List, [], ◌∷◌, ◌++◌, length, take, eq-eqb, refl, sym, ap, subst, ◌∙◌, arith, inl, inr}
use Rattle.std.specs.Prelude.{Option, None, Some, Ok, codes, decimal, slice_get, is_some, if◌then◌else◌}
use Rattle.std.specs.List.{All}
use Rattle.std.proofs.lemmas.Bool.{eqb-true}
use Rattle.std.proofs.lemmas.Bool.Decides.{eqb_tells, leb_tells}
use Rattle.std.proofs.lemmas.Fmt.{length-decimal-le}
use Rattle.std.proofs.lemmas.List.{take_all}
use Rattle.std.proofs.lemmas.List.Elements.{All-nil, All-cons, All-push, All-head, All-tail}
use Rattle.sv_base.specs.declared.config.Config.{Config}
use Rattle.bay_model.specs.Named.{configured_model}
use Rattle.bay_model.specs.Points.{least_moment}
use Rattle.bay_model.specs.Answers.{Turn, History, answer}
use Rattle.answer_text.specs.Texts as answer_texts
use Rattle.run_record.specs.Grammar.{Spells}
use Rattle.run_record.specs.Judging.{line_at}
use Rattle.run_record.specs.Spelled.{spelled, words}
use Rattle.run_record.proofs.ReadLaws.{line-read}
use Rattle.run_record.proofs.WordLaws.{all-words}
use Rattle.text_words.proofs.SpelledWordLaws.{decimal-word}
use Rattle.run_record.specs.declared.line.RecLine.TheVariants as lines
use Rattle.record_steps.specs.Forms.{shut, shape_of, form_behind}
use Rattle.record_steps.specs.Resolved.{association_of, told_of}
use Rattle.record_steps.specs.Told.{pass_to, turn}
use Rattle.record_outcome.specs.Histories.{form_after, form_at, form_of, said_in, said, moment_after, moment_of, stepped, parts_in, steps_of, onto}
use Rattle.record_outcome.specs.Texts.{parts_of, turns_of, turns_in, text_behind, text_of}
use Rattle.bay_histories.specs.Rules.{bay_rules}
use Rattle.bay_histories.specs.Histories.{by, IsShuffle}
use Rattle.bay_histories.specs.Histories as histories
use Rattle.script_lines.specs.Parties.{may_have}
use Rattle.script_lines.specs.declared.party.Party.{Party}
use Rattle.script_lines.specs.declared.party.Party.TheVariants as parties
use Rattle.actor_scripts.specs.Raced.{actors}
use Rattle.actor_scripts.specs.Scripts.{turns_by, made_from, made_of}
use Rattle.actor_scripts.specs.declared.made.Made.{Made}
use Rattle.actor_scripts.specs.declared.script.TimedStep.{TimedStep}
use Rattle.history_laws.specs.Written.{actor_of, as_written, history_written}
use Rattle.history_laws.proofs.WrittenLaws.{answer_written}
use Rattle.script_plans.specs.Forms.{form_in}
use Rattle.script_plans.specs.Plans as plans
use Rattle.script_plans.specs.Plans.{Script, Plan, script_of, script_turns}
use Rattle.script_plans.specs.Sound.{IsActor, IsTold, AreTold, IsScriptOrNone, IsSound}
use Rattle.script_plans.specs.declared.line.StepLine.{StepLine}
use Rattle.script_plans.proofs.SoundLaws.{texts, newest-push}
use Rattle.script_plans.proofs.TellLaws.{association-made, process-made, others-stay, process-stays}
use Rattle.race_records.specs.Merged.{Book, lines_in, book_of, line_of, at_lines, lines_behind, moment_behind, merged, lines_told, answer_to, answered, HasLine, IsAnswerable}
use Rattle.race_records.proofs.Listed.{take-get, book-at, onto-append, length-turns, IsNewest, newest-turn, told-at, was_after, was-push, merged-push, answered-push}

abbrev pub steps_in : Option Script → List TimedStep
steps_in None = []
steps_in (Some s) = s.steps

abbrev no_lines : List StepLine
no_lines = []

-- ---- an `at` line

at-spells : (m : ℕ) → 441763200000 ≤ m → m ≤ 4294967295999 → Spells (spelled (lines.At m)) (lines.At m)
unfolding words
at-spells m early late =
    let short : length (decimal m) ≤ 13 = length-decimal-le 13 m (omega arith) (omega (arith, late)) (omega (arith, late)) in
    record {
      short = omega (arith, short);
      text_ = refl;
      words_ = all-words (codes "at" ∷ decimal m ∷ []) ((omega arith, refl), (decimal-word m (omega (arith, late)), tt));
      ranges = (early, late);
    }

pub at-line : (m : ℕ) → 441763200000 ≤ m → m ≤ 4294967295999 → line_at (spelled (lines.At m)) ≡ Ok (lines.At m)
at-line m early late = line-read (spelled (lines.At m)) (lines.At m) (at-spells m early late)

-- what stands before a line, where an `at` line may stand between
record IsBetween (c : Config) (moment : ℕ) (before between : List (List ℕ)) : Type 0 where
  now : moment_of c between ≡ moment
  form : (a : ℕ) → form_at a between ≡ form_at a before
  parts : parts_of (steps_of c between) ≡ parts_of (steps_of c before)

at-said : (c : Config) (before : List (List ℕ)) (text : List ℕ) (m : ℕ) → line_at text ≡ Ok (lines.At m) → said c before text ≡ pass_to m
unfolding told_of
at-said c before text m reads = ap (λ r. said_in c (form_of before r) r) reads

at-between : (c : Config) (before : List (List ℕ)) (m : ℕ) → 441763200000 ≤ m → m ≤ 4294967295999 → IsBetween c m before (spelled (lines.At m) ∷ before)
at-between c before m early late =
    let reads = at-line m early late in
    let says = at-said c before (spelled (lines.At m)) m reads in
    record {
      now = ap (λ t. moment_after t (moment_of c before)) says;
      form = λ a. ap (λ r. form_after a r (form_at a before)) reads;
      parts = ap (λ t. parts_in (moment_of c before) (form_of before (line_at (spelled (lines.At m)))) t ++ parts_of (steps_of c before)) says;
    }

between : (c : Config) (before : List (List ℕ)) (was m : ℕ) → moment_of c before ≡ was → 441763200000 ≤ m → m ≤ 4294967295999 → IsBetween c m before (onto before (at_lines was m))
between c before was m is early late = by (was == m) refl where
  by : (b : Bool) → (was == m) ≡ b → IsBetween c m before (onto before (if b then [] else spelled (lines.At m) ∷ []))
  by true e = record { now = is ∙ eqb-true was m e; form = λ a. refl; parts = refl }
  by false e = at-between c before m early late

-- ---- a line

-- the line gives the step of its script, and its association is what it was there
record IsSaid (c : Config) (before : List (List ℕ)) (l : StepLine) (k : ℕ) (s : TimedStep) : Type 0 where
  form : form_of before (line_at l.text) ≡ form_in l.form
  told : said c before l.text ≡ turn (actor_of k s.step) s.step

module _ (c : Config) (k : ℕ) (own before : List (List ℕ)) (l : StepLine) (s : TimedStep) (is : IsTold c k own l s) where
  said-by : form_at (association_of is.line) before ≡ form_in l.form → IsSaid c before l k s
  said-by form = record {
    form = ap (form_of before) is.read ∙ form;
    told = ap (λ r. said_in c (form_of before r) r) is.read ∙ (ap (λ f. told_of c f is.line) form ∙ is.told);
  }

  said-here : (form_at k before ≡ form_at k own) → (form_at 0 before ≡ shut) → IsSaid c before l k s
  said-here same none = by is.party is.may is.actor where
    by : (party : Party) → may_have party is.line ≡ true → IsActor k party own l.form → IsSaid c before l k s
    by (parties.Association a) may actor =
        let made = association-made c (form_in l.form) (actor_of k s.step) s.step a is.line may is.told in
        said-by (ap (λ n. form_at n before) (made.0 ∙ sym actor.0) ∙ (same ∙ sym actor.1))
    by parties.Process may actor =
        let made = process-made c (form_in l.form) (actor_of k s.step) s.step is.line may is.told in
        said-by (ap (λ n. form_at n before) made.0 ∙ (none ∙ sym (ap form_in actor.1)))

  -- what the line makes of the associations: of its actor's what it makes of it in its script, and of others nothing
  own-behind : form_at k before ≡ form_at k own → form_at k (l.text ∷ before) ≡ form_at k (l.text ∷ own)
  own-behind same = ap (form_after k (line_at l.text)) same

  other-behind : (a : ℕ) → (k ≡ a → ⊥) → form_at a (l.text ∷ before) ≡ form_at a before
  other-behind a other = ap (λ r. form_after a r (form_at a before)) is.read ∙ by is.party is.may is.actor where
    by : (party : Party) → may_have party is.line ≡ true → IsActor k party own l.form → form_behind a is.line (form_at a before) ≡ form_at a before
    by (parties.Association b) may actor = others-stay b is.line a (form_at a before) may (λ e. other (actor.0 ∙ e))
    by parties.Process may actor = process-stays is.line a (form_at a before) may

-- ---- a history within the scripts

module _ (p : Plan) (sound : IsSound p) where
  abbrev c : Config
  c = p.config

  abbrev book : Book
  book = book_of p

  abbrev pub steps_by : ℕ → List TimedStep
  steps_by k = steps_in (script_of p k)

  abbrev pub lines_by : ℕ → List StepLine
  lines_by k = lines_in (script_of p k)

  -- of each actor the history has a beginning of its script
  abbrev pub IsWithin : History → Type 0
  IsWithin h = (k : ℕ) → by k h ≡ turns_by k (take (length (by k h)) (steps_by k))

  script-turns : (k : ℕ) (o : Option Script) → script_turns k o ≡ turns_by k (steps_in o)
  script-turns k None = refl
  script-turns k (Some s) = refl

  told-all : (k : ℕ) (o : Option Script) → IsScriptOrNone c k o → AreTold c k [] (lines_in o) (steps_in o)
  told-all k None is = tt
  told-all k (Some s) is = is.told

  none-first : (o : Option Script) → IsScriptOrNone c 0 o → lines_in o ≡ []
  none-first None is = refl
  none-first (Some s) is = absurd (omega (arith, is.some))

  own-turns : (k : ℕ) (steps : List TimedStep) (h : History) → h ≡ turns_by k steps → h ≡ turns_by k (take (length h) steps)
  own-turns k steps h is =
      let many : length h ≡ length steps = omega (arith, ap (λ (l : History). length l) is, length-turns k steps []) in
      is ∙ ap (turns_by k) (sym (take_all (length h) steps (omega (arith, many))))

  low-within : (h : History) → IsShuffle actors (plans.turns_of p) h → (k : ℕ) → k < 33 → by k h ≡ turns_by k (take (length (by k h)) (steps_by k))
  low-within h shuffle k low = own-turns k (steps_by k) (by k h) (shuffle.0 k low ∙ script-turns k (script_of p k))

  high-within : (h : History) → IsShuffle actors (plans.turns_of p) h → (k : ℕ) → 33 ≤ k → by k h ≡ turns_by k (take (length (by k h)) (steps_by k))
  high-within h shuffle k high = let none : by k h ≡ [] = shuffle.1 k high in none ∙ ap (λ (l : History). turns_by k (take (length l) (steps_by k))) (sym none)

  whole-within : (h : History) → IsShuffle actors (plans.turns_of p) h → IsWithin h
  whole-within h shuffle k = elim (leb_tells (suc k) 33) [
    | inl t ↦ low-within h shuffle k t.1
    | inr t ↦ high-within h shuffle k (omega (arith, t.1))
  ]

  -- ---- the newest step

  module _ (t : Turn) (h : History) (within : IsWithin (t ∷ h)) where
    mine : by t.actor (t ∷ h) ≡ t ∷ by t.actor h
    mine = ap (λ b. cond b (t ∷ by t.actor h) (by t.actor h)) (eq-eqb t.actor t.actor refl)

    pub newest : IsNewest t.actor (steps_by t.actor) t (by t.actor h)
    newest = newest-turn t.actor (steps_by t.actor) t (by t.actor h)
        (sym mine ∙ (within t.actor ∙ ap (λ (l : History). turns_by t.actor (take (length l) (steps_by t.actor))) mine))

    other-turns : (k : ℕ) → (t.actor ≡ k → ⊥) → by k (t ∷ h) ≡ by k h
    other-turns k other = elim (eqb_tells t.actor k) [
      | inl e ↦ absurd (other e.1)
      | inr e ↦ ap (λ b. cond b (t ∷ by k h) (by k h)) e.0
    ]

    pub earlier : IsWithin h
    earlier k = elim (eqb_tells t.actor k) [
      | inl e ↦ subst (λ k. by k h ≡ turns_by k (take (length (by k h)) (steps_by k))) e.1 newest.before
      | inr e ↦ sym (other-turns k e.1) ∙ (within k ∙ ap (λ (l : History). turns_by k (take (length l) (steps_by k))) (other-turns k e.1))
    ]

    pub told : (l : StepLine) × (slice_get (lines_by t.actor) (length (by t.actor h)) ≡ Some l) × IsTold c t.actor (onto [] (texts (take (length (by t.actor h)) (lines_by t.actor)))) l newest.step
    told = told-at c t.actor [] (lines_by t.actor) (steps_by t.actor) (length (by t.actor h)) newest.step (told-all t.actor (script_of p t.actor) (sound.scripts t.actor)) newest.there

    line-is : line_of book (made_from bay_rules c h t) ≡ Some told.0
    line-is = ap (λ ls. slice_get ls (length (by t.actor h))) (book-at p.scripts t.actor) ∙ told.1

  -- ---- what is read back

  abbrev written : History → List (List ℕ)
  written h = merged book least_moment (made_of bay_rules c h)

  abbrev back : History → List (List ℕ)
  back h = onto [] (written h)

  -- the lines of actor a so far
  abbrev so_far : ℕ → History → List (List ℕ)
  so_far a h = onto [] (texts (take (length (by a h)) (lines_by a)))

  record IsBack (h : History) : Type 0 where
    now : moment_of c (back h) ≡ was_after book least_moment (made_of bay_rules c h)
    form : (a : ℕ) → form_at a (back h) ≡ form_at a (so_far a h)
    turns : turns_in (steps_of c (back h)) ≡ history_written h
    text : text_of c (steps_of c (back h)) ≡ answered c book (made_of bay_rules c h)

  first-shut : (h : History) → form_at 0 (so_far 0 h) ≡ shut
  first-shut h = ap (λ ls. form_at 0 (onto [] (texts (take (length (by 0 h)) ls)))) (none-first (script_of p 0) (sound.scripts 0)) ∙ empty (length (by 0 h)) where
    empty : (n : ℕ) → form_at 0 (onto [] (texts (take n no_lines))) ≡ shut
    empty zero = refl
    empty (suc n) = refl

  module _ (t : Turn) (h : History) (within : IsWithin (t ∷ h)) (is : IsBack h) where
    abbrev l : StepLine
    l = (told t h within).0

    abbrev s : TimedStep
    s = (newest t h within).step

    abbrev k : ℕ
    k = t.actor

    abbrev was : ℕ
    was = was_after book least_moment (made_of bay_rules c h)

    abbrev before : List (List ℕ)
    before = onto (back h) (at_lines was l.moment)

    line-told : IsTold c k (so_far k h) l s
    line-told = (told t h within).2

    here : IsBetween c l.moment (back h) before
    here = between c (back h) was l.moment is.now line-told.early line-told.late

    back-is : back (t ∷ h) ≡ l.text ∷ before
    back-is =
        ap (onto []) (merged-push book least_moment (made_of bay_rules c h) (made_from bay_rules c h t) ∙ ap (λ o. written h ++ lines_behind was o) (line-is t h within))
        ∙ (onto-append [] (written h) (at_lines was l.moment ++ l.text ∷ []) ∙ onto-append (back h) (at_lines was l.moment) (l.text ∷ []))

    said-so : IsSaid c before l k s
    said-so = said-here c k (so_far k h) before l s line-told (here.form k ∙ is.form k) (here.form 0 ∙ (is.form 0 ∙ first-shut h))

    -- the step that is read
    abbrev read : Turn
    read = record { moment = l.moment; actor = actor_of k s.step; step = s.step }

    read-is : read ≡ as_written t
    read-is =
        let turn_is : t ≡ histories.turn_of s.moment k s.step = (newest t h within).turn in
        (λ i. record { moment = line-told.moment i; actor = actor_of k s.step; step = s.step }) ∙ sym (ap as_written turn_is)

    parts : parts_of (steps_of c (l.text ∷ before)) ≡ stepped read (shape_of (form_in l.form)) ∷ parts_of (steps_of c (back h))
    parts =
        (λ i. parts_in (here.now i) (said-so.form i) (said-so.told i) ++ here.parts i)

    turns-more : turns_in (steps_of c (back (t ∷ h))) ≡ history_written (t ∷ h)
    turns-more =
        ap (λ b. turns_in (steps_of c b)) back-is
        ∙ (ap turns_of parts
        ∙ ((λ i. read-is i ∷ turns_of (parts_of (steps_of c (back h)))) ∙ ap (λ (ts : History). as_written t ∷ ts) is.turns))

    answer-is : answer (configured_model c) (turns_of (parts_of (steps_of c (back h)))) read ≡ answer (configured_model c) h t
    answer-is =
        (λ i. answer (configured_model c) (is.turns i) (read-is i)) ∙ answer_written (configured_model c) h t

    told-alone : said_in c (form_in l.form) (line_at l.text) ≡ turn (actor_of k s.step) s.step
    told-alone = ap (said_in c (form_in l.form)) line-told.read ∙ line-told.told

    answer-told : answer_to c (line_of book (made_from bay_rules c h t)) (answer (configured_model c) h t) ≡ answer_texts.lines_of c (shape_of (form_in l.form)) s.step (answer (configured_model c) h t)
    answer-told =
        ap (λ o. answer_to c o (answer (configured_model c) h t)) (line-is t h within) ∙ ap (λ said. lines_told c (shape_of (form_in l.form)) said (answer (configured_model c) h t)) told-alone

    text-more : text_of c (steps_of c (back (t ∷ h))) ≡ answered c book (made_of bay_rules c (t ∷ h))
    text-more =
        ap (λ b. text_of c (steps_of c b)) back-is
        ∙ (ap (text_behind c) parts
        ∙ ((λ i. is.text i ++ answer_texts.lines_of c (shape_of (form_in l.form)) s.step (answer-is i))
        ∙ (ap (λ o. answered c book (made_of bay_rules c h) ++ o) (sym answer-told) ∙ sym (answered-push c book (made_of bay_rules c h) (made_from bay_rules c h t)))))

    now-more : moment_of c (back (t ∷ h)) ≡ was_after book least_moment (made_of bay_rules c (t ∷ h))
    now-more =
        ap (moment_of c) back-is
        ∙ (ap (λ said. moment_after said (moment_of c before)) said-so.told
        ∙ (here.now ∙ sym (was-push book least_moment (made_of bay_rules c h) (made_from bay_rules c h t) ∙ ap (moment_behind was) (line-is t h within))))

    so-far-more : so_far k (t ∷ h) ≡ l.text ∷ so_far k h
    so-far-more =
        ap (λ (ts : History). onto [] (texts (take (length ts) (lines_by k)))) (mine t h within)
        ∙ (ap (λ ls. onto [] (texts ls)) (take-get (lines_by k) (length (by k h)) l (told t h within).1) ∙ newest-push (take (length (by k h)) (lines_by k)) l)

    so-far-other : (a : ℕ) → (k ≡ a → ⊥) → so_far a (t ∷ h) ≡ so_far a h
    so-far-other a other = ap (λ (ts : History). onto [] (texts (take (length ts) (lines_by a)))) (other-turns t h within a other)

    own-more : form_at k (l.text ∷ before) ≡ form_at k (so_far k (t ∷ h))
    own-more = own-behind c k (so_far k h) before l s line-told (here.form k ∙ is.form k) ∙ ap (form_at k) (sym so-far-more)

    form-more : (a : ℕ) → form_at a (back (t ∷ h)) ≡ form_at a (so_far a (t ∷ h))
    form-more a = ap (form_at a) back-is ∙ elim (eqb_tells k a) [
      | inl e ↦ subst (λ a. form_at a (l.text ∷ before) ≡ form_at a (so_far a (t ∷ h))) e.1 own-more
      | inr e ↦ other-behind c k (so_far k h) before l s line-told a e.1 ∙ (here.form a ∙ (is.form a ∙ ap (form_at a) (sym (so-far-other a e.1))))
    ]

    back-more : IsBack (t ∷ h)
    back-more = record { now = now-more; form = form-more; turns = turns-more; text = text-more }

  none-so-far : (a : ℕ) → form_at a (so_far a []) ≡ shut
  none-so-far a = refl

  reads-back : (h : History) → IsWithin h → IsBack h
  reads-back [] within = record { now = refl; form = λ a. sym (none-so-far a); turns = refl; text = refl }
  reads-back (t ∷ h) within = back-more t h within (reads-back h (earlier t h within))

-- each step that was made has its line, which gives a step
answerable : (p : Plan) (sound : IsSound p) (h : History) → IsWithin p sound h → All (IsAnswerable p.config (book_of p)) (made_of bay_rules p.config h)
answerable p sound [] within = All-nil (IsAnswerable p.config (book_of p))
answerable p sound (t ∷ h) within =
    let l = told p sound t h within in
    let s = newest p sound t h within in
    All-push (IsAnswerable p.config (book_of p)) (made_of bay_rules p.config h) (made_from bay_rules p.config h t) (answerable p sound h (earlier p sound t h within)) (record {
      line = l.0;
      there = line-is p sound t h within;
      tells = (l.2.fit, actor_of t.actor s.step.step, s.step.step, ap (said_in p.config (form_in l.0.form)) l.2.read ∙ l.2.told);
    })

pub made-answerable : (p : Plan) (h : History) → IsSound p → IsShuffle actors (plans.turns_of p) h → All (IsAnswerable p.config (book_of p)) (made_of bay_rules p.config h)
made-answerable p h sound shuffle = answerable p sound h (whole-within p sound h shuffle)

-- so each has its line
pub lines-there : (c : Config) (book : Book) (ms : List Made) → All (IsAnswerable c book) ms → All (HasLine book) ms
lines-there c book [] all = All-nil (HasLine book)
lines-there c book (m ∷ ms) all =
    let first = All-head (IsAnswerable c book) m ms all in
    All-cons (HasLine book) m ms (ap is_some first.there) (lines-there c book ms (All-tail (IsAnswerable c book) m ms all))

pub turns-back : (p : Plan) (h : History) → IsSound p → IsShuffle actors (plans.turns_of p) h
    → turns_in (steps_of p.config (onto [] (merged (book_of p) least_moment (made_of bay_rules p.config h)))) ≡ history_written h
turns-back p h sound shuffle = (reads-back p sound h (whole-within p sound h shuffle)).turns

pub text-back : (p : Plan) (h : History) → IsSound p → IsShuffle actors (plans.turns_of p) h
    → text_of p.config (steps_of p.config (onto [] (merged (book_of p) least_moment (made_of bay_rules p.config h)))) ≡ answered p.config (book_of p) (made_of bay_rules p.config h)
text-back p h sound shuffle = (reads-back p sound h (whole-within p sound h shuffle)).text
