-- What a contract sees of a history and of a pass, and what the calls make of them.
use Rattle.std.specs.Prelude.{ℕ, ◌≡◌, ◌≢◌, ◌+◌, ◌-◌, ◌<◌, ◌≤◌, ◌^◌, false, List, [], ◌∷◌, ◌++◌, length, Result, MatchResult, Ok, Err, ◌⊎◌}
use Rattle.atomic_table.specs.Seated.{TableId}
use Rattle.sv_base.specs.declared.config.Config.{Config}
use Rattle.bay_model.specs.declared.answer.Answer.{Answer}
use Rattle.bay_model.specs.declared.step.Step.{Step}
use Rattle.bay_model.specs.Answers.{History}
use Rattle.bay_histories.specs.declared.fault.StepFault.TheVariants as stepfaults
use Rattle.bay_histories.specs.Rules.{Rules}
use Rattle.bay_histories.specs.Turns.{is_lean, is_process}
use Rattle.history_lock.specs.declared.fault.TurnFault.{TurnFault}
use Rattle.history_lock.specs.declared.fault.TurnFault.TheVariants as faults
use Rattle.bay_histories.specs.Histories.{IsEarlier, turn_of, by, answers_of, places_of, IsLegal, IsRefused}

-- a history: of this configuration, and of n actors
pub record Site : Type 0 where
  pub table : TableId
  pub actors : ℕ
  pub config : Config

-- a pass: the range of numbers that is its own to cut, the ranges of those that it joined, its turns left, and the history
-- as far as it has seen it
pub record Known : Type 0 where
  pub table : TableId
  pub config : Config
  pub first : ℕ
  pub count : ℕ
  pub joined : List (ℕ × ℕ)
  pub left : ℕ
  pub seen : History

-- ---- the numbers of a pass

abbrev pub IsIn : ℕ → ℕ × ℕ → Type 0
IsIn k r = (r.0 ≤ k) × (k < r.0 + r.1)

abbrev pub InSome : ℕ → List (ℕ × ℕ) → Type 0
InSome k [] = ⊥
InSome k (r ∷ rs) = IsIn k r ⊎ InSome k rs

-- the number is the pass's own, or of a pass that it joined
abbrev pub HasNumber : Known → ℕ → Type 0
HasNumber p k = InSome k ((p.first, p.count) ∷ p.joined)

-- others made these steps
abbrev pub OfOthers : Known → History → Type 0
OfOthers p between = (k : ℕ) → HasNumber p k → by k between ≡ []

-- ---- the first pass, and passes that are split

abbrev pub first_of : Site → Known
first_of h = record { table = h.table; config = h.config; first = 0; count = h.actors; joined = []; left = 2 ^ 62; seen = [] }

-- the pass that keeps the lower numbers and the rest of the turns
abbrev pub kept_of : Known → ℕ → ℕ → Known
kept_of p numbers turns = record {
  table = p.table;
  config = p.config;
  first = p.first;
  count = p.count - numbers;
  joined = p.joined;
  left = p.left - turns;
  seen = p.seen;
}

-- the new pass, which has seen the same
abbrev pub new_of : Known → ℕ → ℕ → Known
new_of p numbers turns = record {
  table = p.table;
  config = p.config;
  first = p.first + (p.count - numbers);
  count = numbers;
  joined = [];
  left = turns;
  seen = p.seen;
}

-- ---- a turn

-- the same pass with one turn fewer, which has seen this history
abbrev pub later : Known → History → Known
later p seen = record { table = p.table; config = p.config; first = p.first; count = p.count; joined = p.joined; left = p.left - 1; seen = seen }

-- What a turn gives. Others made the steps between those that the pass had seen and its own. An accepted step is then the
-- newest, at the place that is answered, and its answer is the rules' after all steps before it. A refused one adds
-- nothing, and the refusal's condition holds after these steps. Where no turn is left, nothing is done.
abbrev pub Turned : Rules → Known → ℕ → Step → Result (Answer × ℕ) TurnFault → Known → Type 0
Turned rules p moment step (Ok r) q = (0 < p.left) × (between : History) × OfOthers p between
    × (let before = between ++ p.seen in let t = turn_of moment p.first step in
    (q ≡ later p (t ∷ before)) × (r.0 ≡ rules.answer p.config before t) × (r.1 ≡ length before) × IsLegal rules p.config (t ∷ before))
Turned rules p moment step (Err faults.Ended) q = (p.left ≡ 0) × (q ≡ p)
Turned rules p moment step (Err (faults.Step f)) q = (0 < p.left) × (between : History) × OfOthers p between
    × (let before = between ++ p.seen in (q ≡ later p before) × IsRefused rules p.config before (turn_of moment p.first step) f × IsLegal rules p.config before)

-- a pass of the same history, with the same numbers
abbrev pub IsSamePass : Known → Known → Type 0
IsSamePass p q = (q.table ≡ p.table) × (q.config ≡ p.config) × (q.first ≡ p.first) × (q.count ≡ p.count) × (q.joined ≡ p.joined)

-- the steps of the pass's own number, what they were answered, and their places
abbrev pub own : Known → History
own p = by p.first p.seen

abbrev pub told : Rules → Known → List Answer
told rules p = answers_of rules p.config p.first p.seen

abbrev pub placed : Known → List ℕ
placed p = places_of p.first p.seen

-- an accepted turn is one more of the pass's own steps, and a refused one is none; so with the answers and the places
abbrev pub OwnGrew : Known → ℕ → Step → Result (Answer × ℕ) TurnFault → Known → Type 0
OwnGrew p moment step result q = MatchResult result (λ _. own q ≡ turn_of moment p.first step ∷ own p) (λ _. own q ≡ own p)

abbrev pub ToldGrew : Rules → Known → Result (Answer × ℕ) TurnFault → Known → Type 0
ToldGrew rules p result q = MatchResult result (λ r. told rules q ≡ r.0 ∷ told rules p) (λ _. told rules q ≡ told rules p)

abbrev pub PlacedGrew : Known → Result (Answer × ℕ) TurnFault → Known → Type 0
PlacedGrew p result q = MatchResult result (λ r. placed q ≡ r.1 ∷ placed p) (λ _. placed q ≡ placed p)

-- a turn with a step that needs no memory is not refused as out of memory
abbrev pub IsLeanTurn : Step → Result (Answer × ℕ) TurnFault → Type 0
IsLeanTurn step (Err (faults.Step stepfaults.Memory)) = is_lean step ≡ false
IsLeanTurn step _ = Unit {0}

-- a turn with what the process does, and with time that passes, is accepted, where the pass has a turn left
abbrev pub IsProcessTurn : Step → Result (Answer × ℕ) TurnFault → Type 0
IsProcessTurn step (Err (faults.Step f)) = is_process step ≡ false
IsProcessTurn step _ = Unit {0}

-- ---- a join

-- the pass r is p with q joined: both have seen one history, in which what r has seen has all steps of the numbers of each
pub record Joined (p q r : Known) : Type 0 where
  pub place : (r.table ≡ p.table) × (r.config ≡ p.config) × (r.first ≡ p.first) × (r.count ≡ p.count)
  pub ranges : r.joined ≡ p.joined ++ (q.first, q.count) ∷ q.joined
  pub turns : r.left ≡ p.left + q.left
  pub longer : (r.seen ≡ p.seen) ⊎ (r.seen ≡ q.seen)
  pub this : IsEarlier p.seen r.seen
  pub that : IsEarlier q.seen r.seen
  pub ours : (k : ℕ) → HasNumber p k → by k r.seen ≡ by k p.seen
  pub theirs : (k : ℕ) → HasNumber q k → by k r.seen ≡ by k q.seen

-- The pass q with the number k became another: it was split, made turns under another number, took in a pass, or was taken in.
-- What it had seen of the steps of k is all that the other has seen of them.
pub data Became (rules : Rules) (k : ℕ) (q : Known) : Known → Type 0 where
  itself : HasNumber q k → Became rules k q q
  was_split : (p r : Known) (numbers turns : ℕ) → Became rules k q p → (r ≡ kept_of p numbers turns) ⊎ (r ≡ new_of p numbers turns) → HasNumber r k
      → Became rules k q r
  made_turn : (p r : Known) (moment : ℕ) (step : Step) (result : Result (Answer × ℕ) TurnFault) → Became rules k q p → p.first ≢ k
      → Turned rules p moment step result r → Became rules k q r
  took_in : (p o r : Known) → Became rules k q p → Joined p o r → Became rules k q r
  was_taken_in : (p o r : Known) → Became rules k q o → Joined p o r → Became rules k q r

-- ---- two passes that are compared

-- q has seen what p has, and then steps of others
abbrev pub IsBehind : Known → Known → Type 0
IsBehind p q = (between : History) × (between ++ p.seen ≡ q.seen) × OfOthers p between

-- what one of them has seen begins what the other has
abbrev pub AreOfOne : Known → Known → Type 0
AreOfOne p q = IsBehind p q ⊎ IsBehind q p
