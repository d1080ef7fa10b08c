-- What each step says: of the step, the seat before, the number found and the seat after. The machine stands for a history as its own definitions have it.
use Rattle.std.specs.Prelude.{ℕ, ◌≡◌, ◌≢◌, ◌+◌, ◌-◌, ◌<◌, ◌≤◌, ◌^◌, ◌⊎◌, List, [], ◌∷◌, ◌++◌, length, Option, Some, None, cond, nat_lt}
use Rattle.atomic_table.specs.Table.{Me, Step, rest}
use Rattle.bay_model.specs.Answers.{Turn, History}
use Rattle.sv_base.specs.declared.config.Config.{Config}
use Rattle.history_lock.specs.declared.view.View.{View}
use Rattle.history_lock.specs.declared.view.Phase.TheVariants.{Idle, Drawn, Busy, Added}
use Rattle.bay_histories.specs.Histories.{IsEarlier, by}
use Rattle.history_lock.specs.Views.{Stands, view, moved_to, ticket_of, mine, aside_of}

abbrev pub Seated : Type 0 → Type 0
Seated M = Me (Option M) View

abbrev pub Play : Type 0 → Type 1
Play M = Step (Option M) → Seated M → ℕ → Seated M → Type 0

-- a ticket is drawn
abbrev pub drawn : View → ℕ → View
drawn v t = moved_to v (v.left - 1) (Drawn t) v.seen

abbrev pub draws : {M : Type 0} → Play M
draws st m r n = n ≡ (drawn m.0 r, m.1)

-- it is the seat's turn: it has seen the whole history, and has the machine
abbrev pub served : View → ℕ → History → View
served v t between = moved_to v v.left (Busy t) (between ++ v.seen)

-- others made the steps between
abbrev pub Others : View → History → Type 0
Others v between = (k : ℕ) → 0 < mine k v → by k between ≡ []

abbrev pub Got : {M : Type 0} → Stands M → Seated M → ℕ → Seated M → Type 0
Got {M} stands m t n = (machine : M) × (between : History) × (n ≡ (served m.0 t between, (0, Some machine) ∷ m.1))
    × ((config : Config) → m.0.config ≡ Some config → stands machine config (between ++ m.0.seen)) × Others m.0 between
    × (length (between ++ m.0.seen) < 2 ^ 62)

abbrev pub looks : {M : Type 0} → Stands M → Play M
looks stands st m r n = (r ≡ ticket_of m.0.phase → Got stands m r n) × (r ≢ ticket_of m.0.phase → n ≡ m)

-- the step is added to the history
abbrev pub extended : View → ℕ → Turn → View
extended v t e = moved_to v v.left (Added t) (e ∷ v.seen)

abbrev pub appends : {M : Type 0} → Turn → Play M
appends e st m r n = (r ≡ length m.0.seen) × (n ≡ (extended m.0 (ticket_of m.0.phase) e, m.1))

-- the machine goes back, and the next ticket is served
abbrev pub resting : View → View
resting v = moved_to v v.left Idle v.seen

abbrev pub passes : {M : Type 0} → Play M
passes st m r n = n ≡ (resting m.0, rest m.1)

-- a bell is rung, which tells the seat nothing
abbrev pub rings : {M : Type 0} → Play M
rings st m r n = n ≡ m

-- the seat keeps the lower numbers of its first range
abbrev pub kept_ranges : List (ℕ × ℕ) → ℕ → List (ℕ × ℕ)
kept_ranges [] n = []
kept_ranges (r ∷ rs) n = (r.0, r.1 - n) ∷ rs

abbrev pub cut_ranges : List (ℕ × ℕ) → ℕ → List (ℕ × ℕ)
cut_ranges [] n = []
cut_ranges (r ∷ rs) n = (r.0 + (r.1 - n), n) ∷ []

abbrev pub kept_part : ℕ → ℕ → View → View
kept_part n turns v = view v.config (kept_ranges v.ranges n) (v.left - turns) v.phase v.seen v.aside v.told

abbrev pub cut_part : ℕ → ℕ → View → View
cut_part n turns v = view v.config (cut_ranges v.ranges n) turns Idle v.seen [] []

-- a seat takes in another
abbrev pub joined : View → View → View
joined v w = view v.config v.ranges (v.left + w.left) v.phase v.seen w.ranges w.seen

abbrev pub longer : History → History → History
longer xs ys = cond (nat_lt (length xs) (length ys)) ys xs

-- and compares what it had seen with what the other had
abbrev pub settled : View → View
settled v = view v.config (v.ranges ++ v.aside) v.left v.phase (longer v.seen v.told) [] []

-- both began one history, in which the longer has all steps of the numbers of each
pub record Agree (v : View) (seen : History) : Type 0 where
  pub this : IsEarlier v.seen seen
  pub that : IsEarlier v.told seen
  pub here : (k : ℕ) → 0 < mine k v → by k seen ≡ by k v.seen
  pub there : (k : ℕ) → 0 < aside_of k v → by k seen ≡ by k v.told

abbrev pub compares : {M : Type 0} → Play M
compares st m r n = (n ≡ (settled m.0, m.1)) × Agree m.0 n.0.seen × (n.0.left ≤ 2 ^ 62)

-- a seat that has seen the same, without numbers and turns
abbrev pub witness : View → View
witness v = view None [] 0 Idle v.seen [] []

-- a seat forgets what another had seen
abbrev pub alone : View → View
alone v = view v.config v.ranges v.left v.phase v.seen [] []

-- another has seen what the seat has, and then steps of others; or the seat has seen what the other has
abbrev pub Beside : View → History → Type 0
Beside v theirs = ((between : History) × (between ++ v.seen ≡ theirs) × Others v between) ⊎ IsEarlier theirs v.seen

abbrev pub hears : {M : Type 0} → Play M
hears st m r n = (n ≡ (alone m.0, m.1)) × Beside m.0 m.0.told

-- a seat that has the machine reads how long the history is
abbrev pub counts : {M : Type 0} → Play M
counts st m r n = (n ≡ m) × (r ≡ length m.0.seen)
