-- The cursor of an enabled block rises only by reports.
use Rattle.std.proofs.Common.{◌≡◌, ◌≢◌, ℕ, suc, max, ◌<◌, true, false, List, ◌∷◌, ◌++◌, refl, ap, ◌∙◌, subst, ◌⊎◌, inl, inr, arith}
use Rattle.std.specs.Prelude.{⊤, is_some, ◌==◌}
use Rattle.std.proofs.lemmas.Bool.Decides.{eqb_tells, Decides-eqb}
use Rattle.sv_base.specs.declared.value.Value.{Value}
use Rattle.sv_base.specs.declared.value.Value.TheVariants as kinds
use Rattle.sv_base.specs.declared.components.Comp.{Comp}
use Rattle.sv_base.specs.declared.components.Comp.TheVariants.{EntryID}
use Rattle.bay_model.specs.Model.{Model}
use Rattle.bay_model.specs.Points.{Deed, wrote, reported, Point, Past}
use Rattle.bay_model.specs.Retained.{front}
use Rattle.bay_model.specs.Blocks.{enabler, enabler_after, is_held, cursor, cursor_after}
use Rattle.bay_model.specs.Reservations.{is_reserved_for_another}
use Rattle.bay_model.specs.Singles.{arrival}
use Rattle.list_laws.proofs.Truths.{or-right}
use Rattle.bay_model.specs.Answers.{History, points}
use Rattle.bay_model.specs.CursorLaws.{is_report}
use Rattle.bay_model.proofs.EveryPoint.{Every, every-at, OfPoints, every-point}
use Rattle.bay_model.proofs.Reported.{next-is}

-- an EntryID is accepted only where nobody has enabled the block, and a report is of an entry above the cursor
abbrev Fact : Model → Past → Deed → Type 0
Fact c before (wrote a b EntryID v) = is_some (enabler b before) ≡ false
Fact c before (reported a b n) = cursor c b before < n
Fact c before _ = ⊤

written : (c : Model) (n m : ℕ) (past : Past) (a b : ℕ) (comp : Comp) (v : Value) → is_held (λ e. e == a) comp v (enabler b (arrival n m ∷ past)) ≡ false → Fact c past (wrote a b comp v)
written c n m past a b EntryID v h = h
written c n m past a b _ v h = tt

above : (x y n : ℕ) → n ≡ suc (max x y) → x < n
above x y n e = omega (arith, e)

facts : (c : Model) → OfPoints c (λ p before. Fact c before p.deed)
facts c = record {
  of_single = λ n m a past. record {
    of_nothing = tt;
    of_wrote = λ b comp v h. written c n m past a b comp v (or-right (is_reserved_for_another b a (arrival n m ∷ past)) (is_held (λ e. e == a) comp v (enabler b past)) h);
    of_put = λ x v e. tt;
    of_copied = λ x v. tt;
    of_activated = λ d n. tt;
    of_edited = λ d n free. tt;
    of_confirmed = λ d holds. tt;
    of_called = λ k j v. tt;
    of_selected = λ k. tt;
  };
  of_opened = λ n m past a o w size owner. tt;
  of_lost = λ n m past a. tt;
  of_valued = λ n m past s. tt;
  of_finished = λ n m past k good. tt;
  of_blocked = λ n m past k flag. tt;
  of_answered = λ n m past a o ch. tt;
  of_took = λ n m past a. tt;
  of_terminated = λ n m past a k. tt;
  of_reported = λ n m past a b i h mine. above (cursor c b past) (front c b (arrival n m ∷ past)) i (next-is c b (arrival n m ∷ past) i h).0;
  of_nothing = λ n m past. tt;
}

at_point : (c : Model) (h : History) (ps : List Point) (p : Point) (before : Past) → points c h ≡ ps ++ p ∷ before → Fact c before p.deed
at_point c h ps p before e = every-at (λ p before. Fact c before p.deed) ps p before (subst (λ l. Every (λ p before. Fact c before p.deed) l) e (every-point c (λ p before. Fact c before p.deed) (facts c) h))

rests : (c : Model) (b : ℕ) (before : Past) (d : Deed) (f was : ℕ) → Fact c before d → is_some (enabler_after b d (enabler b before)) ≡ true → is_report b d ≡ false → cursor_after b d f was ≡ was
rests c b before (reported a k n) f was fact enabled none = rw none refl
rests c b before (wrote a k EntryID (kinds.Octets o)) f was fact enabled none = either (eqb_tells k b) where
  either : ((k == b) ≡ true) × (k ≡ b) ⊎ ((k == b) ≡ false) × (k ≢ b) → cursor_after b (wrote a k EntryID (kinds.Octets o)) f was ≡ was
  either (inl e) = let none : is_some (enabler b before) ≡ false = subst (λ j. is_some (enabler j before) ≡ false) e.1 fact in cc (none, enabled)
  either (inr e) = rw e.0 refl
rests c b before _ f was fact enabled none = refl

pub cursor_rests : (c : Model) (h : History) (b : ℕ) (ps : List Point) (p : Point) (before : Past)
    → points c h ≡ ps ++ p ∷ before → is_some (enabler b (p ∷ before)) ≡ true → is_report b p.deed ≡ false
    → cursor c b (p ∷ before) ≡ cursor c b before
cursor_rests c h b ps p before e enabled none = rests c b before p.deed (front c b (p ∷ before)) (cursor c b before) (at_point c h ps p before e) enabled none

pub reports_raise : (c : Model) (h : History) (a b n : ℕ) (ps : List Point) (p : Point) (before : Past)
    → points c h ≡ ps ++ p ∷ before → p.deed ≡ reported a b n
    → (cursor c b (p ∷ before) ≡ n) × (cursor c b before < n)
reports_raise c h a b n ps p before e is = (
  ap (λ d. cursor_after b d (front c b (p ∷ before)) (cursor c b before)) is ∙ rw ((Decides-eqb b b).1 refl) refl,
  subst (Fact c before) is (at_point c h ps p before e),
)
