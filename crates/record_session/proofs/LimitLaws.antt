-- Where a limit is passed, or a line isn't there.
use Rattle.std.proofs.Common.{Bool, ◌≡◌, ◌≤◌, ◌<◌, ℕ, true, false, List, [], sym, ap, subst, refl, ◌∙◌, append-nil}
use Rattle.std.specs.Prelude.{Option, Some, Vec, nat_lt, ◌&&◌, if◌then◌else◌}
use Rattle.std.proofs.lemmas.Bool.{lt-ltb}
use Rattle.std.specs.declared.alloc.Global.{Global}
use Rattle.cfg_parser.specs.Looking.{config_at}
use Rattle.record_outcome.specs.Moves.{Place, opening, configuring, playing, stops}
use Rattle.record_outcome.specs.Records.{most_lines, lines_at, line_at, passed, missing, refused_before, unended, ended}
use Rattle.record_session.specs.Sessions.{IsAt, Advances, AdvancesOn}
use Rattle.record_session.specs.declared.playing.Playing.{Playing}
use Rattle.record_session.specs.declared.stage.Stage.{Stage}
use Rattle.record_session.specs.declared.stage.Stage.TheVariants as stages
use Rattle.record_outcome.specs.declared.status.Status.{Status}
use Rattle.record_outcome.specs.declared.status.Status.TheVariants as statuses
use Rattle.list_laws.proofs.Places.{not-below}

-- a limit is passed
pub passed-opening : (which number : ℕ) (old : Stage) → old ≡ stages.Opening → (place : Place) → IsAt old place → statuses.Limit which number ≡ passed which number place
passed-opening which number old is place at = by place (subst (λ s. IsAt s place) is at) where
  by : (place : Place) → IsAt stages.Opening place → statuses.Limit which number ≡ passed which number place
  by opening at = refl
  by (configuring b t) at = absurd at
  by (playing c s) at = absurd at

pub passed-playing : (which number : ℕ) (p : Playing) (old : Stage) → old ≡ stages.Playing p → (place : Place) → IsAt old place → statuses.Limit which number ≡ passed which number place
passed-playing which number p old is place at = by place (subst (λ s. IsAt s place) is at) where
  by : (place : Place) → IsAt (stages.Playing p) place → statuses.Limit which number ≡ passed which number place
  by opening at = absurd at
  by (configuring b t) at = absurd at
  by (playing c s) at = refl

pub passed-configuring : (which number before : ℕ) (text : Vec ℕ Global) (octets : List ℕ) (status : Status) (old : Stage) → old ≡ stages.Configuring before text → octets ≡ text.items
    → status ≡ refused_before number before (statuses.Limit which number) (config_at octets) → (place : Place) → IsAt old place → status ≡ passed which number place
passed-configuring which number before text octets status old is same told place at = by place (subst (λ s. IsAt s place) is at) where
  by : (place : Place) → IsAt (stages.Configuring before text) place → status ≡ passed which number place
  by opening at = absurd at
  by (configuring b t) at = told ∙ (ap (λ o. refused_before number before (statuses.Limit which number) (config_at o)) (same ∙ at.1) ∙ ap (λ n. refused_before number n (statuses.Limit which number) (config_at t)) at.0)
  by (playing c s) at = absurd at

-- a line isn't there
pub missing-opening : (number : ℕ) (old : Stage) → old ≡ stages.Opening → (place : Place) → IsAt old place → statuses.Record number 7 ≡ missing number place
missing-opening number old is place at = by place (subst (λ s. IsAt s place) is at) where
  by : (place : Place) → IsAt stages.Opening place → statuses.Record number 7 ≡ missing number place
  by opening at = refl
  by (configuring b t) at = absurd at
  by (playing c s) at = absurd at

pub missing-playing : (number : ℕ) (p : Playing) (old : Stage) → old ≡ stages.Playing p → (place : Place) → IsAt old place → statuses.Record number 7 ≡ missing number place
missing-playing number p old is place at = by place (subst (λ s. IsAt s place) is at) where
  by : (place : Place) → IsAt (stages.Playing p) place → statuses.Record number 7 ≡ missing number place
  by opening at = absurd at
  by (configuring b t) at = absurd at
  by (playing c s) at = refl

pub missing-configuring : (number before : ℕ) (text : Vec ℕ Global) (octets : List ℕ) (status : Status) (old : Stage) → old ≡ stages.Configuring before text → octets ≡ text.items
    → status ≡ refused_before number before (statuses.Config number 2) (config_at octets) → (place : Place) → IsAt old place → status ≡ missing number place
missing-configuring number before text octets status old is same told place at = by place (subst (λ s. IsAt s place) is at) where
  by : (place : Place) → IsAt (stages.Configuring before text) place → status ≡ missing number place
  by opening at = absurd at
  by (configuring b t) at = told ∙ (ap (λ o. refused_before number before (statuses.Config number 2) (config_at o)) (same ∙ at.1) ∙ ap (λ n. refused_before number n (statuses.Config number 2) (config_at t)) at.0)
  by (playing c s) at = absurd at

-- among the lines that may be read, and after them
pub over-lines : (status : Status) (old : Stage) (number : ℕ) (line out : List ℕ) → most_lines < number → ((place : Place) → IsAt old place → status ≡ passed 1 number place)
    → AdvancesOn (Some status) old old (λ place. line_at number place line) out out
unfolding line_at
over-lines status old number line out lt told = λ place at.
    subst (λ b. Advances (Some status) old (if b then stops (passed 1 number place) [] else lines_at number place line) out out) (sym (lt-ltb most_lines number lt)) (told place at, sym (append-nil out))

pub below-lines : (status : Option Status) (old new : Stage) (number : ℕ) (line before now : List ℕ) → number ≤ most_lines → AdvancesOn status old new (λ place. lines_at number place line) before now
    → AdvancesOn status old new (λ place. line_at number place line) before now
unfolding line_at
below-lines status old new number line before now le on = λ place at.
    subst (λ b. Advances status new (if b then stops (passed 1 number place) [] else lines_at number place line) before now) (sym (not-below most_lines number le)) (on place at)

-- after the last newline
pub ended-long : (status : Status) (long begun : Bool) (number next : ℕ) (place : Place) → long ≡ true → number ≡ next → status ≡ passed 3 number place → status ≡ ended long begun next place
unfolding ended
ended-long status long begun number next place is same told = told ∙ (ap (λ n. passed 3 n place) same ∙ ap (λ l. if l then passed 3 next place else unended begun next place) (sym is))

pub ended-short : (status : Status) (long begun : Bool) (number next : ℕ) (place : Place) → long ≡ false → number ≡ next → status ≡ unended begun number place → status ≡ ended long begun next place
unfolding ended
ended-short status long begun number next place is same told = told ∙ (ap (λ n. unended begun n place) same ∙ ap (λ l. if l then passed 3 next place else unended begun next place) (sym is))

pub unended-over : (status : Status) (begun over : Bool) (number : ℕ) (place : Place) → over ≡ (begun && nat_lt most_lines number) → over ≡ true → status ≡ passed 1 number place → status ≡ unended begun number place
unfolding unended
unended-over status begun over number place is beyond told = told ∙ ap (λ o. if o then passed 1 number place else missing number place) (sym beyond ∙ is)

pub unended-missing : (status : Status) (begun over : Bool) (number : ℕ) (place : Place) → over ≡ (begun && nat_lt most_lines number) → over ≡ false → status ≡ missing number place → status ≡ unended begun number place
unfolding unended
unended-missing status begun over number place is within told = told ∙ ap (λ o. if o then passed 1 number place else missing number place) (sym within ∙ is)
