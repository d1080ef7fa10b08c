-- What a line makes of each part of a record.
use Rattle.std.proofs.Common.{◌≡◌, ◌≤◌, suc, arith, ℕ, true, false, List, [], ◌∷◌, ◌++◌, sym, ap, subst, refl, ◌∙◌, append-nil}
use Rattle.std.specs.Prelude.{Option, None, Some, IfNone, Vec, codes, if◌then◌else◌}
use Rattle.std.specs.Str.{bytes_eq}
use Rattle.std.specs.declared.alloc.Global.{Global}
use Rattle.cfg_parser.specs.Looking.{config_at}
use Rattle.record_outcome.specs.Moves.{Place, opening, configuring, playing, Move, goes, stops}
use Rattle.record_outcome.specs.Openings.{opening_at, started, configuring_at}
use Rattle.record_outcome.specs.Steps.{step_at}
use Rattle.record_outcome.specs.Records.{lines_at}
use Rattle.record_outcome.specs.Opens.{Opens}
use Rattle.record_session.specs.Plays.{PlaysTo, PlaysOn}
use Rattle.record_session.specs.Sessions.{IsAt, Advances, AdvancesOn, OpensOn, Settles}
use Rattle.record_outcome.specs.declared.openings.Opened.{Opened}
use Rattle.record_outcome.specs.declared.openings.Opened.TheVariants as openeds
use Rattle.record_session.specs.declared.playing.Playing.{Playing}
use Rattle.record_session.specs.declared.stage.Stage.{Stage}
use Rattle.record_session.specs.declared.stage.Stage.TheVariants as stages
use Rattle.record_outcome.specs.declared.status.Status.{Status}

pub opens-head : (new : Stage) (number : ℕ) (text : Vec ℕ Global) (line : List ℕ) (opened : Opened) → new ≡ stages.Configuring number text → text.items ≡ [] → opened ≡ openeds.Head → Opens opened line
    → OpensOn None new (opening_at number line)
opens-head new number text line opened is none head opens = (
  configuring number [],
  subst (λ s. IsAt s (configuring number [])) (sym is) (refl, none),
  subst (λ o. Opens o line) head opens number,
)

-- before the configuration
pub on-opening : (status : Option Status) (old new : Stage) (number : ℕ) (line out : List ℕ) → old ≡ stages.Opening → OpensOn status new (opening_at number line)
    → AdvancesOn status old new (λ place. lines_at number place line) out out
on-opening status old new number line out is opens = λ place at. by place (subst (λ s. IsAt s place) is at) where
  told : (status : Option Status) → OpensOn status new (opening_at number line) → Advances status new (opening_at number line) out out
  told None o = subst (λ m. Advances None new m out out) (sym o.2) (o.1, sym (append-nil out))
  told (Some status) o = subst (λ m. Advances (Some status) new m out out) (sym o) (refl, sym (append-nil out))

  by : (place : Place) → IsAt stages.Opening place → Advances status new (lines_at number place line) out out
  by opening at = told status opens
  by (configuring before text) at = absurd at
  by (playing c s) at = absurd at

-- among the lines of the configuration
pub on-gathered : (before : ℕ) (text more : Vec ℕ Global) (old new : Stage) (number : ℕ) (line out : List ℕ) → old ≡ stages.Configuring before text → new ≡ stages.Configuring before more
    → more.items ≡ text.items ++ (line ++ 10 ∷ []) → bytes_eq line (codes "end") ≡ false → AdvancesOn None old new (λ place. lines_at number place line) out out
unfolding configuring_at
on-gathered before text more old new number line out was is all last = λ place at. by place (subst (λ s. IsAt s place) was at) where
  by : (place : Place) → IsAt (stages.Configuring before text) place → Advances None new (lines_at number place line) out out
  by opening at = absurd at
  by (configuring b t) at = subst (λ e. Advances None new (if e then started b (config_at (t ++ (line ++ 10 ∷ []))) else goes (configuring b (t ++ (line ++ 10 ∷ []))) []) out out) (sym last)
      (subst (λ s. IsAt s (configuring b (t ++ (line ++ 10 ∷ [])))) (sym is) (at.0, all ∙ ap (λ o. o ++ (line ++ 10 ∷ [])) at.1), sym (append-nil out))
  by (playing c s) at = absurd at

-- at its last line
pub on-started : (before : ℕ) (text : Vec ℕ Global) (octets : List ℕ) (status : Option Status) (old new : Stage) (number : ℕ) (line out : List ℕ) → old ≡ stages.Configuring before text
    → octets ≡ text.items ++ (line ++ 10 ∷ []) → bytes_eq line (codes "end") ≡ true → Settles status new (started before (config_at octets)) → AdvancesOn status old new (λ place. lines_at number place line) out out
unfolding configuring_at
on-started before text octets status old new number line out was all last settles = λ place at. by place (subst (λ s. IsAt s place) was at) where
  told : (status : Option Status) (m : Move) → Settles status new m → Advances status new m out out
  told None (goes place text) s = (s.0, sym (ap (λ t. out ++ t) s.1 ∙ append-nil out))
  told None (stops st text) s = absurd s
  told (Some status) (goes place text) s = absurd s
  told (Some status) (stops st text) s = (s.0, sym (ap (λ t. out ++ t) s.1 ∙ append-nil out))

  by : (place : Place) → IsAt (stages.Configuring before text) place → Advances status new (lines_at number place line) out out
  by opening at = absurd at
  by (configuring b t) at =
      let same : octets ≡ t ++ (line ++ 10 ∷ []) = all ∙ ap (λ o. o ++ (line ++ 10 ∷ [])) at.1 in
      subst (λ e. Advances status new (if e then started b (config_at (t ++ (line ++ 10 ∷ []))) else goes (configuring b (t ++ (line ++ 10 ∷ []))) []) out out) (sym last)
      (subst (λ o. Advances status new (started b (config_at o)) out out) same (subst (λ n. Advances status new (started n (config_at octets)) out out) at.0 (told status (started before (config_at octets)) settles)))
  by (playing c s) at = absurd at

-- among the steps
pub on-playing : (status : Option Status) (p q : Playing) (old new : Stage) (number : ℕ) (line before now : List ℕ) → old ≡ stages.Playing p → new ≡ stages.Playing q
    → PlaysOn status p q (λ c s. step_at number c s line) before now → AdvancesOn status old new (λ place. lines_at number place line) before now
on-playing status p q old new number line before now was is plays = λ place at. subst (λ s. Advances status s (lines_at number place line) before now) (sym is) (by place (subst (λ s. IsAt s place) was at)) where
  told : (status : Option Status) (m : Move) → PlaysTo status q m before now → Advances status (stages.Playing q) m before now
  told None (goes opening text) h = absurd h
  told None (goes (configuring b t) text) h = absurd h
  told None (goes (playing c s) text) h = h
  told None (stops st text) h = absurd h
  told (Some status) (goes place text) h = absurd h
  told (Some status) (stops st text) h = h

  by : (place : Place) → IsAt (stages.Playing p) place → Advances status (stages.Playing q) (lines_at number place line) before now
  by opening at = absurd at
  by (configuring b t) at = absurd at
  by (playing c s) at = told status (step_at number c s line) (plays c s at)

pub few-none : (status : Option Status) (n m : ℕ) → IfNone status (n ≡ 0) → IfNone status (n ≤ suc m)
few-none None n m is = omega (arith, is)
few-none (Some status) n m is = tt
