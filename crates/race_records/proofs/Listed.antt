-- Lists that grow at their ends.
use Rattle.std.proofs.Common.{◌≡◌, ◌≤◌, ℕ, zero, suc, List, [], ◌∷◌, ◌++◌, length, take, map, get_or, refl, sym, ap, subst, ◌+◌, ◌∙◌, arith, append_assoc, append-nil}
use Rattle.std.specs.Prelude.{Option, None, Some, slice_get}
use Rattle.sv_base.specs.declared.config.Config.{Config}
use Rattle.bay_model.specs.Answers.{Turn, History}
use Rattle.bay_histories.specs.Histories.{turn_of}
use Rattle.record_outcome.specs.Histories.{onto}
use Rattle.actor_scripts.specs.Scripts.{turns_onto, turns_by}
use Rattle.actor_scripts.specs.declared.made.Made.{Made}
use Rattle.actor_scripts.specs.declared.script.TimedStep.{TimedStep}
use Rattle.actor_scripts.proofs.Lists.{turns_more}
use Rattle.script_plans.specs.Plans.{Script}
use Rattle.script_plans.specs.Sound.{IsTold, AreTold}
use Rattle.script_plans.specs.declared.line.StepLine.{StepLine}
use Rattle.script_plans.proofs.SoundLaws.{texts}
use Rattle.race_records.specs.Merged.{Book, lines_in, line_of, lines_behind, moment_behind, merged, answer_to, answered}

pub take-get : {A : Type 0} (xs : List A) (n : ℕ) (x : A) → slice_get xs n ≡ Some x → take (suc n) xs ≡ take n xs ++ x ∷ []
take-get [] n x e = absurd (cc e)
take-get (y ∷ ys) zero x e = let is : y ≡ x = cc e in ap (λ z. z ∷ []) is
take-get (y ∷ ys) (suc n) x e = ap (λ (l : List _). y ∷ l) (take-get ys n x e)

-- lists of all lists
pub book-at : (scripts : List (Option Script)) (k : ℕ) → get_or (map lines_in scripts) k [] ≡ lines_in (get_or scripts k None)
book-at [] k = refl
book-at (s ∷ ss) zero = refl
book-at (s ∷ ss) (suc k) = book-at ss k

pub onto-append : (acc xs ys : List (List ℕ)) → onto acc (xs ++ ys) ≡ onto (onto acc xs) ys
onto-append acc [] ys = refl
onto-append acc (x ∷ xs) ys = onto-append (x ∷ acc) xs ys

-- ---- the turns of a script

pub length-turns : (k : ℕ) (steps : List TimedStep) (before : History) → length (turns_onto k steps before) ≡ length before + length steps
length-turns k [] before = omega arith
length-turns k (s ∷ ss) before = omega (arith, length-turns k ss (turn_of s.moment k s.step ∷ before))

-- the newest of n turns, and those before it
pub record IsNewest (k : ℕ) (steps : List TimedStep) (t : Turn) (h : History) : Type 0 where
  pub step : TimedStep
  pub there : slice_get steps (length h) ≡ Some step
  pub turn : t ≡ turn_of step.moment k step.step
  pub before : h ≡ turns_by k (take (length h) steps)

take-past : {A : Type 0} (n : ℕ) (xs : List A) → slice_get xs n ≡ None → take (suc n) xs ≡ take n xs
take-past zero [] e = refl
take-past (suc n) [] e = refl
take-past zero (x ∷ xs) e = absurd (cc e)
take-past (suc n) (x ∷ xs) e = ap (λ (l : List _). x ∷ l) (take-past n xs e)

length-take-le : {A : Type 0} (n : ℕ) (xs : List A) → length (take n xs) ≤ n
length-take-le zero xs = omega arith
length-take-le (suc n) [] = omega arith
length-take-le (suc n) (x ∷ xs) = omega (arith, length-take-le n xs)

pub newest-turn : (k : ℕ) (steps : List TimedStep) (t : Turn) (h : History) → t ∷ h ≡ turns_by k (take (suc (length h)) steps) → IsNewest k steps t h
newest-turn k steps t h is = by (slice_get steps (length h)) refl where
  by : (o : Option TimedStep) → slice_get steps (length h) ≡ o → IsNewest k steps t h
  by None e =
      let short : length (t ∷ h) ≡ length (turns_by k (take (length h) steps)) = ap (λ (l : History). length l) is ∙ ap (λ (l : List TimedStep). length (turns_by k l)) (take-past (length h) steps e) in
      absurd (omega (arith, short, length-turns k (take (length h) steps) [], length-take-le (length h) steps))
  by (Some s) e =
      let whole : t ∷ h ≡ turn_of s.moment k s.step ∷ turns_by k (take (length h) steps) =
      is ∙ (ap (λ (l : List TimedStep). turns_by k l) (take-get steps (length h) s e) ∙ turns_more k (take (length h) steps) s []) in
      record { step = s; there = e; turn = cc; before = cc }

-- ---- the line of a step

pub told-at : (c : Config) (k : ℕ) (acc : List (List ℕ)) (ls : List StepLine) (ss : List TimedStep) (n : ℕ) (s : TimedStep) → AreTold c k acc ls ss → slice_get ss n ≡ Some s
    → (l : StepLine) × (slice_get ls n ≡ Some l) × IsTold c k (onto acc (texts (take n ls))) l s
told-at c k acc [] [] n s are e = absurd (cc e)
told-at c k acc [] (y ∷ ys) n s are e = absurd are
told-at c k acc (x ∷ xs) [] n s are e = absurd are
told-at c k acc (x ∷ xs) (y ∷ ys) zero s are e = let is : y ≡ s = cc e in (x, refl, subst (IsTold c k acc x) is are.0)
told-at c k acc (x ∷ xs) (y ∷ ys) (suc n) s are e = told-at c k (x.text ∷ acc) xs ys n s are.1 e

-- ---- one step more

abbrev pub was_after : Book → ℕ → List Made → ℕ
was_after book was [] = was
was_after book was (m ∷ ms) = was_after book (moment_behind was (line_of book m)) ms

pub was-push : (book : Book) (was : ℕ) (ms : List Made) (m : Made) → was_after book was (ms ++ m ∷ []) ≡ moment_behind (was_after book was ms) (line_of book m)
was-push book was [] m = refl
was-push book was (x ∷ xs) m = was-push book (moment_behind was (line_of book x)) xs m

pub merged-push : (book : Book) (was : ℕ) (ms : List Made) (m : Made) → merged book was (ms ++ m ∷ []) ≡ merged book was ms ++ lines_behind (was_after book was ms) (line_of book m)
merged-push book was [] m = append-nil (lines_behind was (line_of book m))
merged-push book was (x ∷ xs) m =
    ap (λ l. lines_behind was (line_of book x) ++ l) (merged-push book (moment_behind was (line_of book x)) xs m)
    ∙ sym (append_assoc (lines_behind was (line_of book x)) (merged book (moment_behind was (line_of book x)) xs) (lines_behind (was_after book (moment_behind was (line_of book x)) xs) (line_of book m)))

pub answered-push : (c : Config) (book : Book) (ms : List Made) (m : Made) → answered c book (ms ++ m ∷ []) ≡ answered c book ms ++ answer_to c (line_of book m) m.answer
answered-push c book [] m = append-nil (answer_to c (line_of book m) m.answer)
answered-push c book (x ∷ xs) m =
    ap (λ l. answer_to c (line_of book x) x.answer ++ l) (answered-push c book xs m)
    ∙ sym (append_assoc (answer_to c (line_of book x) x.answer) (answered c book xs) (answer_to c (line_of book m) m.answer))
