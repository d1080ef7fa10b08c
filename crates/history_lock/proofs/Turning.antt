-- The seat within its turn, from step to step.
use Rattle.std.proofs.Common.{◌≡◌, ℕ, ◌<◌, ◌^◌, List, [], ◌∷◌, ◌++◌, length, sym, ap, ◌∙◌, subst, Option, Some, None}
use Rattle.sv_base.specs.declared.config.Config.{Config}
use Rattle.bay_model.specs.Answers.{Turn, History}
use Rattle.atomic_table.specs.Table.{rest}
use Rattle.history_lock.specs.declared.view.View.{View}
use Rattle.history_lock.specs.declared.view.Phase.TheVariants.{Busy}
use Rattle.history_lock.specs.Views.{Stands}
use Rattle.history_lock.specs.Plays.{Seated, Got, Others, drawn, served, extended}

module _ {M : Type 0} where
  some_is : (x y : M) → Some x ≡ Some y → x ≡ y
  some_is x y e = cc e

  head_is : (x y : ℕ × Option M) (xs ys : List (ℕ × Option M)) → x ∷ xs ≡ y ∷ ys → x ≡ y
  head_is x y xs ys e = cc e

  -- the seat m drew the ticket t and is d, and waited and is w: the machine that it found stands for the history that it has seen
  pub stands_now : (stands : Stands M) (m d w : Seated M) (t : ℕ) (config : Config) (machine : M) (found : Option M) → d ≡ (drawn m.0 t, m.1) → m.0.config ≡ Some config
      → (got : Got stands d t w) → w.1 ≡ (0, found) ∷ rest w.1 → found ≡ Some machine → stands machine config (got.1 ++ m.0.seen)
  stands_now stands m d w t config machine found drew is got holds some_bay =
      let taken : (0, Some got.0) ≡ (0, found) = head_is (0, Some got.0) (0, found) d.1 (rest w.1) (sym (ap (λ (n : Seated M). n.1) got.2) ∙ holds) in
      let same : got.0 ≡ machine = some_is got.0 machine (ap (λ (p : ℕ × Option M). p.1) taken ∙ some_bay) in
      let before : stands got.0 config (got.1 ++ d.0.seen) = got.3 config (ap (λ (n : Seated M). n.0.config) drew ∙ is) in
      subst (λ (z : M × History). stands z.0 config (got.1 ++ z.1)) (λ i. (same i, (drew i).0.seen)) before

  pub few_now : (stands : Stands M) (m d w : Seated M) (t : ℕ) → d ≡ (drawn m.0 t, m.1) → (got : Got stands d t w) → length (got.1 ++ m.0.seen) < 2 ^ 62
  few_now stands m d w t drew got = subst (λ (h : History). length (got.1 ++ h) < 2 ^ 62) (ap (λ (n : Seated M). n.0.seen) drew) got.5

  pub others_now : (stands : Stands M) (m d w : Seated M) (t : ℕ) → d ≡ (drawn m.0 t, m.1) → (got : Got stands d t w) → Others m.0 got.1
  others_now stands m d w t drew got = subst (λ (v : View). Others v got.1) (ap (λ (n : Seated M). n.0) drew) got.4

  -- the machine was moved out, and is moved in
  pub back_in : (stands : Stands M) (m d w x y : Seated M) (t : ℕ) (machine : M) → d ≡ (drawn m.0 t, m.1) → m.1 ≡ [] → (got : Got stands d t w) → x ≡ (w.0, (0, None) ∷ rest w.1)
      → y ≡ (x.0, (0, Some machine) ∷ rest x.1) → y ≡ (served (drawn m.0 t) t got.1, (0, Some machine) ∷ [])
  back_in stands m d w x y t machine drew none got out back =
      back
      ∙ ((λ i. ((out i).0, (0, Some machine) ∷ rest (out i).1))
      ∙ ((λ i. ((got.2 i).0, (0, Some machine) ∷ rest (got.2 i).1))
      ∙ ((λ i. (served (drew i).0 t got.1, (0, Some machine) ∷ (drew i).1))
      ∙ (λ i. (served (drawn m.0 t) t got.1, (0, Some machine) ∷ none i)))))

  -- the step was added
  pub added_now : (m y a : Seated M) (t : ℕ) (between : History) (machine : M) (turn : Turn) → y ≡ (served (drawn m.0 t) t between, (0, Some machine) ∷ [])
      → ((n : ℕ) → y.0.phase ≡ Busy n → a ≡ (extended y.0 n turn, y.1)) → a ≡ (extended (served (drawn m.0 t) t between) t turn, (0, Some machine) ∷ [])
  added_now m y a t between machine turn is adds = adds t (ap (λ (n : Seated M). n.0.phase) is) ∙ (λ i. (extended (is i).0 t turn, (is i).1))
