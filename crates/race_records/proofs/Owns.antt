-- The steps of a history whose associations make their own.
use Rattle.std.proofs.Common.{◌≡◌, ◌==◌, ℕ, suc, ◌-◌, ◌+◌, Bool, true, false, cond, [], ◌∷◌, ◌++◌, refl, sym, ap, subst, ◌∙◌, inl, inr}
use Rattle.std.specs.Prelude.{nat_le, if◌then◌else◌}
use Rattle.std.proofs.lemmas.Bool.Decides.{eqb_tells}
use Rattle.bay_model.specs.declared.step.Step.{Step}
use Rattle.bay_model.specs.declared.step.Step.TheVariants as steps
use Rattle.bay_model.specs.Model.{Model}
use Rattle.bay_model.specs.Answers.{Turn, History}
use Rattle.bay_model.specs.Acceptance.{IsHistory}
use Rattle.bay_histories.specs.Histories.{IsEarlier, by}
use Rattle.history_laws.specs.Opers.{opers_of, AreApart}
use Rattle.history_laws.specs.Queues.{open_behind, is_open, waits_behind, waits, opers_behind, opers, IsItsOwn, AreTheirOwn}
use Rattle.history_laws.proofs.QueueLaws.{asked_with_room}
use Rattle.race_records.specs.Bounds.{is_beyond}

-- a step of another association
unlike : (a e k : ℕ) → a ≡ e → (a ≡ k → ⊥) → (e == k) ≡ false
unlike a e k is other = elim (eqb_tells e k) [ inl t ↦ absurd (other (is ∙ t.1)) | inr t ↦ t.0 ]

other-waits : (k n : ℕ) (t : Turn) (s : Step) → IsItsOwn t s → (t.actor ≡ k → ⊥) → waits_behind k s n ≡ n
other-waits k n t (steps.Open e size writer owner) own other = ap (λ b. if b then 0 else n) (unlike t.actor e.0 k own.0 other)
other-waits k n t (steps.Ask e r) own other = ap (λ b. if b then suc n else n) (unlike t.actor e.0 k own other)
other-waits k n t (steps.Write e b comp v) own other = refl
other-waits k n t (steps.Take e) own other = ap (λ b. if b then n - 1 else n) (unlike t.actor e.0 k own other)
other-waits k n t (steps.Lost e) own other = ap (λ b. if b then 0 else n) (unlike t.actor e.0 k own other)
other-waits k n t (steps.Value settings) own other = refl
other-waits k n t (steps.Done c good) own other = refl
other-waits k n t (steps.Block c flag) own other = refl
other-waits k n t steps.Tick own other = refl

other-opers : (c : Model) (k n : ℕ) (t : Turn) (s : Step) → IsItsOwn t s → (t.actor ≡ k → ⊥) → opers_behind c k s n ≡ n
other-opers c k n t (steps.Open e size writer owner) own other = ap (λ b. if b then 0 else n) (unlike t.actor e.0 k own.0 other)
other-opers c k n t (steps.Ask e r) own other = ap (λ b. if b then n + opers_of c r.service else n) (unlike t.actor e.0 k own other)
other-opers c k n t (steps.Write e b comp v) own other = refl
other-opers c k n t (steps.Take e) own other = refl
other-opers c k n t (steps.Lost e) own other = ap (λ b. if b then 0 else n) (unlike t.actor e.0 k own other)
other-opers c k n t (steps.Value settings) own other = refl
other-opers c k n t (steps.Done x good) own other = refl
other-opers c k n t (steps.Block x flag) own other = refl
other-opers c k n t steps.Tick own other = refl

other-opened : (k : ℕ) (was : Bool) (t : Turn) (s : Step) → IsItsOwn t s → (t.actor ≡ k → ⊥) → open_behind k s was ≡ was
other-opened k was t (steps.Open e size writer owner) own other = ap (λ b. if b then true else was) (unlike t.actor e.0 k own.0 other)
other-opened k was t (steps.Ask e r) own other = refl
other-opened k was t (steps.Write e b comp v) own other = refl
other-opened k was t (steps.Take e) own other = refl
other-opened k was t (steps.Lost e) own other = ap (λ b. if b then false else was) (unlike t.actor e.0 k own other)
other-opened k was t (steps.Value settings) own other = refl
other-opened k was t (steps.Done c good) own other = refl
other-opened k was t (steps.Block c flag) own other = refl
other-opened k was t steps.Tick own other = refl

-- what is of an association is of its own steps
pub own-waits : (k : ℕ) (h : History) → AreTheirOwn h → waits k h ≡ waits k (by k h)
own-waits k [] own = refl
own-waits k (t ∷ h) own = elim (eqb_tells t.actor k) [
  | inl e ↦ ap (waits_behind k t.step) (own-waits k h own.0) ∙ sym (ap (λ b. waits k (cond b (t ∷ by k h) (by k h))) e.0)
  | inr e ↦ other-waits k (waits k h) t t.step own.1 e.1 ∙ (own-waits k h own.0 ∙ sym (ap (λ b. waits k (cond b (t ∷ by k h) (by k h))) e.0))
]

pub own-opers : (c : Model) (k : ℕ) (h : History) → AreTheirOwn h → opers c k h ≡ opers c k (by k h)
own-opers c k [] own = refl
own-opers c k (t ∷ h) own = elim (eqb_tells t.actor k) [
  | inl e ↦ ap (opers_behind c k t.step) (own-opers c k h own.0) ∙ sym (ap (λ b. opers c k (cond b (t ∷ by k h) (by k h))) e.0)
  | inr e ↦ other-opers c k (opers c k h) t t.step own.1 e.1 ∙ (own-opers c k h own.0 ∙ sym (ap (λ b. opers c k (cond b (t ∷ by k h) (by k h))) e.0))
]

pub own-opened : (k : ℕ) (h : History) → AreTheirOwn h → is_open k h ≡ is_open k (by k h)
own-opened k [] own = refl
own-opened k (t ∷ h) own = elim (eqb_tells t.actor k) [
  | inl e ↦ ap (open_behind k t.step) (own-opened k h own.0) ∙ sym (ap (λ b. is_open k (cond b (t ∷ by k h) (by k h))) e.0)
  | inr e ↦ other-opened k (is_open k h) t t.step own.1 e.1 ∙ (own-opened k h own.0 ∙ sym (ap (λ b. is_open k (cond b (t ∷ by k h) (by k h))) e.0))
]

-- no request of these steps was one too many
abbrev pub NeverFull : ℕ → History → Type 0
NeverFull k [] = Unit {0}
NeverFull k (t ∷ h) = NeverFull k h × (is_beyond (waits k h) t.step ≡ false)

room : (c : Model) → AreApart c → (h : History) → IsHistory c h → AreTheirOwn h → (t : Turn) (s : Step) → t.step ≡ s → IsHistory c (t ∷ h) → IsItsOwn t s → is_beyond (waits t.actor h) s ≡ false
room c apart h legal own t (steps.Ask e r) is next mine = ap (λ a. nat_le 16 (waits a h)) mine ∙ asked_with_room c apart h legal t e r is next.1
room c apart h legal own t (steps.Open e size writer owner) is next mine = refl
room c apart h legal own t (steps.Write e b comp v) is next mine = refl
room c apart h legal own t (steps.Take e) is next mine = refl
room c apart h legal own t (steps.Lost e) is next mine = refl
room c apart h legal own t (steps.Value settings) is next mine = refl
room c apart h legal own t (steps.Done k good) is next mine = refl
room c apart h legal own t (steps.Block k flag) is next mine = refl
room c apart h legal own t steps.Tick is next mine = refl

pub never-full : (c : Model) → AreApart c → (k : ℕ) (h : History) → IsHistory c h → AreTheirOwn h → NeverFull k (by k h)
never-full c apart k [] legal own = tt
never-full c apart k (t ∷ h) legal own = elim (eqb_tells t.actor k) [
  | inl e ↦ subst (λ b. NeverFull k (cond b (t ∷ by k h) (by k h))) (sym e.0) (
    never-full c apart k h legal.0 own.0,
    ap (λ n. is_beyond n t.step) (sym (own-waits k h own.0) ∙ ap (λ a. waits a h) (sym e.1)) ∙ room c apart h legal.0 own.0 t t.step refl legal own.1,
  )
  | inr e ↦ subst (λ b. NeverFull k (cond b (t ∷ by k h) (by k h))) (sym e.0) (never-full c apart k h legal.0 own.0)
]

-- of a history that goes on from another
own-since : (since h : History) → AreTheirOwn (since ++ h) → AreTheirOwn h
own-since [] h own = own
own-since (t ∷ since) h own = own-since since h own.0

pub own-earlier : (h log : History) → IsEarlier h log → AreTheirOwn log → AreTheirOwn h
own-earlier h log is own = own-since is.0 h (subst AreTheirOwn (sym is.1) own)

legal-since : (c : Model) (since h : History) → IsHistory c (since ++ h) → IsHistory c h
legal-since c [] h legal = legal
legal-since c (t ∷ since) h legal = legal-since c since h legal.0

pub legal-earlier : (c : Model) (h log : History) → IsEarlier h log → IsHistory c log → IsHistory c h
legal-earlier c h log is legal = legal-since c is.0 h (subst (IsHistory c) (sym is.1) legal)
