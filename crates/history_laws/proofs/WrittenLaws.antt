-- Who made a step of the process is of no account.
use Rattle.std.proofs.Common.{◌≡◌, ℕ, [], ◌∷◌, length, refl, ◌∙◌}
use Rattle.std.proofs.lemmas.List.{length-map}
use Rattle.bay_model.specs.declared.step.Step.{Step}
use Rattle.bay_model.specs.declared.step.Step.TheVariants as steps
use Rattle.bay_model.specs.Model.{Model}
use Rattle.bay_model.specs.Points.{Past}
use Rattle.bay_model.specs.Answers.{Turn, History, turned, points, answer_at, answer}
use Rattle.bay_model.specs.Acceptance.{fault_at, fault, IsHistory}
use Rattle.history_laws.specs.Written.{actor_of, as_written, history_written}

abbrev turn_of : ℕ → ℕ → Step → Turn
turn_of m k s = record { moment = m; actor = k; step = s }

turned_by : (c : Model) (n m k : ℕ) (past : Past) (s : Step) → turned c n (turn_of m (actor_of k s) s) past ≡ turned c n (turn_of m k s) past
turned_by c n m k past (steps.Open a size writer owner) = refl
turned_by c n m k past (steps.Ask a r) = refl
turned_by c n m k past (steps.Write a b comp v) = refl
turned_by c n m k past (steps.Take a) = refl
turned_by c n m k past (steps.Lost a) = refl
turned_by c n m k past (steps.Value settings) = refl
turned_by c n m k past (steps.Done x good) = refl
turned_by c n m k past (steps.Block x flag) = refl
turned_by c n m k past steps.Tick = refl

answered_by : (c : Model) (n m k : ℕ) (past : Past) (s : Step) → answer_at c n (turn_of m (actor_of k s) s) past s ≡ answer_at c n (turn_of m k s) past s
answered_by c n m k past (steps.Open a size writer owner) = refl
answered_by c n m k past (steps.Ask a r) = refl
answered_by c n m k past (steps.Write a b comp v) = refl
answered_by c n m k past (steps.Take a) = refl
answered_by c n m k past (steps.Lost a) = refl
answered_by c n m k past (steps.Value settings) = refl
answered_by c n m k past (steps.Done x good) = refl
answered_by c n m k past (steps.Block x flag) = refl
answered_by c n m k past steps.Tick = refl

refused_by : (c : Model) (k : ℕ) (past : Past) (s : Step) → fault_at c (actor_of k s) past s ≡ fault_at c k past s
refused_by c k past (steps.Open a size writer owner) = refl
refused_by c k past (steps.Ask a r) = refl
refused_by c k past (steps.Write a b comp v) = refl
refused_by c k past (steps.Take a) = refl
refused_by c k past (steps.Lost a) = refl
refused_by c k past (steps.Value settings) = refl
refused_by c k past (steps.Done x good) = refl
refused_by c k past (steps.Block x flag) = refl
refused_by c k past steps.Tick = refl

pub points_written : (c : Model) (h : History) → points c (history_written h) ≡ points c h
points_written c [] = refl
points_written c (t ∷ h) = (λ i. turned c (length-map h as_written i) (as_written t) (points_written c h i)) ∙ turned_by c (length h) t.moment t.actor (points c h) t.step

pub answer_written : (c : Model) (h : History) (t : Turn) → answer c (history_written h) (as_written t) ≡ answer c h t
answer_written c h t = (λ i. answer_at c (length-map h as_written i) (as_written t) (points_written c h i) t.step) ∙ answered_by c (length h) t.moment t.actor (points c h) t.step

pub fault_written : (c : Model) (h : History) (t : Turn) → fault c (history_written h) (as_written t) ≡ fault c h t
fault_written c h t = (λ i. fault_at c (actor_of t.actor t.step) (points_written c h i) t.step) ∙ refused_by c t.actor (points c h) t.step

pub legal_written : (c : Model) (h : History) → IsHistory c h → IsHistory c (history_written h)
legal_written c [] legal = legal
legal_written c (t ∷ h) legal = (legal_written c h legal.0, fault_written c h t ∙ legal.1)
