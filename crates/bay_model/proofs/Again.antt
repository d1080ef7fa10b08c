-- A further point of a step, at the same moment, brings nothing by the passing of time.
use Rattle.std.proofs.Common.{◌≡◌, ℕ, suc, ◌-◌, ◌/◌, ◌≤◌, ◌<◌, Bool, true, false, not, List, [], ◌∷◌, refl, sym, ◌∙◌, arith, ◌⊎◌, inl, inr}
use Rattle.std.specs.Prelude.{if◌then◌else◌, ◌==◌, nat_le, nat_lt, ◌||◌, ◌&&◌}
use Rattle.std.proofs.lemmas.Bool.Decides.{leb_tells}
use Rattle.bay_model.specs.Model.{Model, Parameters}
use Rattle.bay_model.specs.Points.{Point, Past, now}
use Rattle.bay_model.specs.Parameters.{parameters_at, bit}
use Rattle.bay_model.specs.Breaks.{is_empty, integrity, is_period_over, origin}
use Rattle.bay_model.specs.Groups.{Event, is_over, is_broken, if_open, open_group, newest, groups, events}
use Rattle.bay_model.specs.Entries.{selected, closed_entry}
use Rattle.bay_model.specs.Singles.{arrival}
use Rattle.bay_model.proofs.OpenGroup.{open_group-quiet, if_open-more}
use Rattle.list_laws.proofs.Truths.{and-false}

not-less : (x : ℕ) → nat_lt x x ≡ false
not-less x = either (leb_tells (suc x) x) where
  either : ((nat_le (suc x) x ≡ true) × (suc x ≤ x)) ⊎ ((nat_le (suc x) x ≡ false) × (x < suc x)) → nat_lt x x ≡ false
  either (inl a) = absurd (omega (arith, a.1))
  either (inr a) = a.0

module _ (c : Model) (b m n : ℕ) (q : Point) (before : Past) (same : m ≤ now (q ∷ before)) where
  now-again : now (arrival n m ∷ q ∷ before) ≡ now (q ∷ before)
  now-again = omega (arith, same)

  period-again : (p : Parameters) (o w moment : ℕ) → moment ≡ w → is_period_over p o w moment ≡ false
  period-again p o w moment e = rw (e, not-less ((w - o) / p.intg_pd)) (and-false (not (is_empty p.dat_set) && bit 4 p.trg_ops && not (p.intg_pd == 0)))

  pub integrity-again : integrity c b (arrival n m) (q ∷ before) ≡ false
  integrity-again = period-again (parameters_at c b (q ∷ before)) (origin c b (q ∷ before)) (now (q ∷ before)) (now (arrival n m ∷ q ∷ before)) now-again

  pub open_group-again : open_group c b (arrival n m ∷ q ∷ before) ≡ open_group c b (q ∷ before)
  open_group-again = open_group-quiet c b (arrival n m) (q ∷ before) refl
      ∙ rw (integrity-again, now-again) (sym (if_open-more false (is_broken c b (q ∷ before)) (now (q ∷ before)) (now (q ∷ before)) (newest (groups (events c b (q ∷ before)))) (omega arith)))

  none_closes : (g : List Event) → closed_entry c b (arrival n m) (q ∷ before) (if_open (is_broken c b (q ∷ before)) (now (q ∷ before)) g) ≡ []
  none_closes [] = refl
  none_closes (e ∷ es) = either (is_broken c b (q ∷ before)) (is_over e es (now (q ∷ before))) refl where
    either : (x t : Bool) → is_over e es (now (q ∷ before)) ≡ t → closed_entry c b (arrival n m) (q ∷ before) (if x || t then [] else e ∷ es) ≡ []
    either true t is = refl
    either false true is = refl
    either false false is = rw (integrity-again, now-again, is) refl

  pub selected-again : selected c b (arrival n m ∷ q ∷ before) ≡ selected c b (q ∷ before)
  selected-again = rw (none_closes (newest (groups (events c b (q ∷ before)))), integrity-again) refl
