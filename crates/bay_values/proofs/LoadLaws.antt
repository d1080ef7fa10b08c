-- One SG attribute more is given what its active group holds.
use Rattle.std.proofs.Common.{◌≡◌, ◌≢◌, ◌<◌, ◌+◌, ◌∷◌, ◌∙◌, ℕ, Bool, true, false, List, drop, length, is_some, refl, sym, ap, subst, arith, slice_set, if◌then◌else◌, ◌⊎◌, inl, inr}
use Rattle.std.specs.Prelude.{◌==◌}
use Rattle.std.specs.Option.{option_map}
use Rattle.std.proofs.lemmas.Bool.Decides.{eqb_tells}
use Rattle.std.proofs.lemmas.List.{length-set, drop_more}
use Rattle.sv_base.specs.declared.config.Config.{Config}
use Rattle.sv_base.specs.declared.value.Value.{Value}
use Rattle.bay_model.specs.declared.flags.Change.{Change}
use Rattle.bay_model.specs.declared.step.Setting.{Setting}
use Rattle.list_laws.proofs.Places.{at_own, same-number}
use Rattle.value_store.specs.Stored.{Stored, attribute, no_attribute, with_value}
use Rattle.setting_groups.specs.Grouped.{Grouped, active_place, domain_at, no_setting, setting_at}
use Rattle.setting_groups.specs.Loaded.{loading_if, loadings}
use Rattle.bay_values.specs.Changed.{change_from, given}
use Rattle.bay_values.specs.Loaded.{AreLoadable, active_setting}
use Rattle.bay_values.specs.Marked.{IsDone, is_marked}
use Rattle.bay_values.proofs.SettingSteps.{passed}

-- one that was given before
pub done_passed : (c : Config) (before after : List Stored) (s : Setting) (later : List Setting) (marks : List Bool) (changes : List Change) → is_marked marks s.attr.0 ≡ true
    → IsDone c before later after marks changes → IsDone c before (s ∷ later) after marks changes
done_passed c before after s later marks changes mark done =
    let some = sym (done.marked s.attr.0) ∙ mark in
    record {
      count = done.count;
      values = λ x. done.values x ∙ ap (λ o. given o (attribute before x)) (sym (passed x s later some));
      marked = λ x. done.marked x ∙ ap is_some (sym (passed x s later some));
      made = λ x. done.made x ∙ ap (option_map (change_from c before x)) (sym (passed x s later some));
      once = done.once;
      noted = done.noted;
    }

-- the kinds stay
pub loadable-after : (stored : List Stored) (s : Grouped) (x : ℕ) (v : Value) → x < length stored → AreLoadable stored s → AreLoadable (slice_set stored x (with_value v (attribute stored x))) s
loadable-after stored s x v below are = λ k within. let was = are k within in record {
  setting = was.setting;
  there = omega (arith, was.there, length-set stored x (with_value v (attribute stored x)));
  domain = was.domain;
  kind = was.kind ∙ sym (ap (λ (c : Stored). c.held.kind) (at_own (with_value v) stored x (setting_at s k).attr no_attribute below) ∙ by (x == (setting_at s k).attr) (attribute stored (setting_at s k).attr));
}
  where
    by : (b : Bool) (c : Stored) → (if b then with_value v c else c).held.kind ≡ c.held.kind
    by true c = refl
    by false c = refl

module _ (s : Grouped) (d : ℕ) where
  abbrev place : ℕ
  place = active_place (domain_at s d)

  -- those from a place on, one more at a time
  pub one-before : (k : ℕ) → k < length s.settings → loadings d place (drop k s.settings) ≡ loading_if d place (setting_at s k) (loadings d place (drop (k + 1) s.settings))
  one-before k below = ap (loadings d place) (drop_more s.settings k no_setting below)

  pub loaded-here : (k : ℕ) (more : List Setting) → (setting_at s k).domain ≡ d → loading_if d place (setting_at s k) more ≡ active_setting s k ∷ more
  loaded-here k more is = own d is
    where
      own : (e : ℕ) → (setting_at s k).domain ≡ e → loading_if e (active_place (domain_at s e)) (setting_at s k) more ≡ active_setting s k ∷ more
      own e same = subst (λ f. loading_if f (active_place (domain_at s f)) (setting_at s k) more ≡ active_setting s k ∷ more) same (rw (same-number (setting_at s k).domain) refl)

  pub passed-here : (k : ℕ) (more : List Setting) → ((setting_at s k).domain ≡ d → ⊥) → loading_if d place (setting_at s k) more ≡ more
  passed-here k more other = rw (other-one (eqb_tells (setting_at s k).domain d)) refl
    where
      other-one : (((setting_at s k).domain == d) ≡ true) × ((setting_at s k).domain ≡ d) ⊎ (((setting_at s k).domain == d) ≡ false) × ((setting_at s k).domain ≢ d) → ((setting_at s k).domain == d) ≡ false
      other-one (inl t) = absurd (other t.1)
      other-one (inr t) = t.0
