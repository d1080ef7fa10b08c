-- Each report of a history is of the next entry of its block: no other deed is a report.
use Rattle.std.proofs.Common.{◌≡◌, ℕ, ◌≤◌, ◌<◌, true, false, [], ◌∷◌, length, sym, ap, ◌∙◌, subst, ◌⊎◌, inl, inr}
use Rattle.std.specs.Prelude.{None, Some, nat_le, if◌then◌else◌}
use Rattle.std.proofs.lemmas.Bool.Decides.{leb_tells}
use Rattle.bay_model.specs.Model.{Model}
use Rattle.bay_model.specs.Points.{Point, Past}
use Rattle.bay_model.specs.Entries.{selected}
use Rattle.bay_model.specs.Blocks.{next, next_number}
use Rattle.bay_model.specs.Answers.{History, points}
use Rattle.bay_model.specs.Successors.{IsNext, AllNext}
use Rattle.bay_model.proofs.EveryPoint.{Every, OfPoints, every-point}
use Rattle.list_laws.proofs.Options.{some_is}

abbrev Next : Model → Point → Past → Type 0
Next c p before = IsNext c p before p.deed

facts : (c : Model) → OfPoints c (Next c)
facts c = record {
  of_single = λ n m a past. record {
    of_nothing = tt;
    of_wrote = λ b comp v h. tt;
    of_put = λ x v e. tt;
    of_copied = λ x v. tt;
    of_activated = λ d n. tt;
    of_edited = λ d n free. tt;
    of_confirmed = λ d holds. tt;
    of_called = λ k j v. tt;
    of_selected = λ k. tt;
  };
  of_opened = λ n m past a o w size owner. tt;
  of_lost = λ n m past a. tt;
  of_valued = λ n m past s. tt;
  of_finished = λ n m past k good. tt;
  of_blocked = λ n m past k flag. tt;
  of_answered = λ n m past a o ch. tt;
  of_took = λ n m past a. tt;
  of_terminated = λ n m past a k. tt;
  of_reported = λ n m past a b i h mine. h;
  of_nothing = λ n m past. tt;
}

all : (c : Model) (past : Past) → Every (Next c) past → AllNext c past
all c [] h = tt
all c (p ∷ before) h = (all c before h.0, h.1)

pub reports_are_next : (c : Model) (h : History) → AllNext c (points c h)
reports_are_next c h = all c (points c h) (every-point c (Next c) (facts c) h)

-- the next entry is there, and of the least number above the cursor and the front
pub next-is : (c : Model) (b : ℕ) (past : Past) (n : ℕ) → next c b past ≡ Some n → (n ≡ next_number c b past) × (n ≤ length (selected c b past))
next-is c b past n h = found (next_number c b past) (length (selected c b past)) n h where
  found : (N L n : ℕ) → (if nat_le N L then Some N else None) ≡ Some n → (n ≡ N) × (n ≤ L)
  found N L n h = either (leb_tells N L) where
    either : ((nat_le N L ≡ true) × (N ≤ L)) ⊎ ((nat_le N L ≡ false) × (L < N)) → (n ≡ N) × (n ≤ L)
    either (inl a) = let e : N ≡ n = some_is N n (sym (ap (λ t. if t then Some N else None) a.0) ∙ h) in (sym e, subst (λ x. x ≤ L) e a.1)
    either (inr a) = let e : None ≡ Some n = sym (ap (λ t. if t then Some N else None) a.0) ∙ h in cc
