-- The rule of the lock: of its words ticket, serving, count and the bells, of the machine where it is at home, and of what the seats know.
use Rattle.std.specs.Prelude.{ℕ, ◌≡◌, ◌+◌, ◌<◌, ◌≤◌, ◌^◌, List, [], ◌∷◌, length, Option, Some, None}
use mathlib.Core.Option.{some}
use lib.ListN.{get_elem?}
use Rattle.atomic_table.specs.Table.{State}
use Rattle.bay_model.specs.Answers.{History}
use Rattle.sv_base.specs.declared.config.Config.{Config}
use Rattle.history_lock.specs.declared.view.View.{View}
use Rattle.history_lock.specs.declared.view.Phase.{Phase}
use Rattle.history_lock.specs.declared.view.Phase.TheVariants.{Idle, Drawn, Busy, Added}
use Rattle.bay_histories.specs.Rules.{Rules}
use Rattle.bay_histories.specs.Histories.{IsEarlier, by, IsLegal}
use Rattle.history_lock.specs.Views.{Stands, view, total, has, busy, added, mine, aside_of, holds_number, left_of}

-- the seat that is served has seen the whole history
abbrev pub FitsPhase : ℕ → History → History → Phase → Type 0
FitsPhase serving log seen Idle = Unit {0}
FitsPhase serving log seen (Drawn n) = Unit {0}
FitsPhase serving log seen (Busy n) = (n ≡ serving) × (seen ≡ log)
FitsPhase serving log seen (Added n) = (n ≡ serving) × (seen ≡ log)

-- the history begins with what the seat has seen, which has all steps of its numbers
pub record Fits (config : Config) (serving : ℕ) (log : History) (v : View) : Type 0 where
  pub told_config : (c : Config) → v.config ≡ Some c → c ≡ config
  pub front : IsEarlier v.seen log
  pub phase : FitsPhase serving log v.seen v.phase
  pub own : (k : ℕ) → 0 < mine k v → by k log ≡ by k v.seen
  -- and so of what a joined seat had seen
  pub back : IsEarlier v.told log
  pub own_aside : (k : ℕ) → 0 < aside_of k v → by k log ≡ by k v.told

abbrev pub Table : Type 0 → Type 0
Table M = State (Option M) View

abbrev pub AtHome : {M : Type 0} → Stands M → Config → Table M → History → Type 0
AtHome {M} stands config s log = (machine : M) × (get_elem? s.homes 0 ≡ some (some (Some machine))) × stands machine config log

pub record FollowsRule {M : Type 0} (rules : Rules) (stands : Stands M) (actors : ℕ) (config : Config) (s : Table M) : Type 0 where
  pub ticket : ℕ
  pub serving : ℕ
  pub log : History
  pub bells : List ℕ
  pub words : s.words ≡ ticket ∷ serving ∷ length log ∷ bells
  -- of the bells nothing is said but their number
  pub sixteen : length bells ≡ 16
  -- each ticket from serving up and below ticket is one seat's, and no other ticket is
  pub waiting : (t : ℕ) → serving ≤ t → t < ticket → total (has t) s.views ≡ 1
  pub served : (t : ℕ) → t < serving → total (has t) s.views ≡ 0
  pub undrawn : (t : ℕ) → ticket ≤ t → total (has t) s.views ≡ 0
  pub room : ticket + total left_of s.views ≤ 2 ^ 62
  pub order : serving ≤ ticket
  pub few : length log ≤ serving + total added s.views
  -- where no seat has the machine, it is at home
  pub home : total busy s.views ≡ 0 → AtHome stands config s log
  pub seats : (j : ℕ) (v : View) → get_elem? s.views j ≡ some v → Fits config serving log v
  -- a number is one seat's at most, and only those below actors are given
  pub apart : (k : ℕ) → total (holds_number k) s.views ≤ 1
  pub given : (k : ℕ) → actors ≤ k → total (holds_number k) s.views ≡ 0
  pub unmade : (k : ℕ) → actors ≤ k → by k log ≡ []
  -- each step of the history was accepted after those before it
  pub legal : IsLegal rules config log

-- the first seat
abbrev pub whole : ℕ → Config → View
whole actors config = view (Some config) ((0, actors) ∷ []) (2 ^ 62) Idle [] [] []

-- a seat that was joined
abbrev pub spent : View
spent = view None [] 0 Idle [] [] []
