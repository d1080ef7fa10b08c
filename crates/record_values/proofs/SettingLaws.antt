-- The settings of pairs, one after another.
use Rattle.std.proofs.Common.{◌≡◌, ◌++◌, ◌∷◌, [], ℕ, List, Bool, true, false, refl, sym, ap, subst, ◌∙◌}
use Rattle.std.specs.Prelude.{Option, None, Some, is_some, ◌&&◌}
use Rattle.std.specs.Option.{option_map}
use Rattle.sv_base.specs.declared.config.Config.{Config}
use Rattle.sv_base.specs.declared.value.Value.{Value}
use Rattle.bay_model.specs.declared.step.Setting.{Setting}
use Rattle.run_record.specs.declared.pairs.Pair.{Pair}
use Rattle.record_values.specs.Settings.{number_at, are_named, typed_at, setting, setting_of, setting_at, behind_those, settings_from, settings_at, IsPut}

-- the settings so far, if each text was a value
abbrev pub kept_if : Bool → List Setting → Option (List Setting)
kept_if true ss = Some ss
kept_if false ss = None

-- what is known where some pairs are left
abbrev pub IsOn : Config → List Pair → List Pair → Bool → List Setting → Type 0
IsOn c all left spelled ss = (are_named c all ≡ are_named c left) × (settings_at c all ≡ settings_from c (kept_if spelled ss) left)

module _ (c : Config) (all : List Pair) (p : Pair) (ps : List Pair) (ss : List Setting) where
  pub unnamed : (spelled : Bool) → IsOn c all (p ∷ ps) spelled ss → number_at c p ≡ None → are_named c all ≡ false
  unnamed spelled on is = on.0 ∙ ap (λ o. is_some o && are_named c ps) is

  module _ (x : ℕ) (named : number_at c p ≡ Some x) where
    names : are_named c (p ∷ ps) ≡ are_named c ps
    names = ap (λ o. is_some o && are_named c ps) named

    read : setting_at c p ≡ option_map (setting x) (typed_at c p.value x)
    read = ap (setting_of c p.value) named

    pub unspelled : (spelled : Bool) → IsOn c all (p ∷ ps) spelled ss → typed_at c p.value x ≡ None → IsOn c all ps false ss
    unspelled false on none = (on.0 ∙ names, on.1)
    unspelled true on none = (on.0 ∙ names, on.1 ∙ ap (λ o. settings_from c (behind_those ss o) ps) (read ∙ ap (option_map (setting x)) none))

    pub spelled_as : (spelled : Bool) → IsOn c all (p ∷ ps) spelled ss → (v : Value) → typed_at c p.value x ≡ Some v → (more : List Setting) → more ≡ ss ++ setting x v ∷ [] → IsOn c all ps spelled more
    spelled_as false on v is more behind = (on.0 ∙ names, on.1)
    spelled_as true on v is more behind =
        (on.0 ∙ names, on.1 ∙ (ap (λ o. settings_from c (behind_those ss o) ps) (read ∙ ap (option_map (setting x)) is) ∙ ap (λ l. settings_from c (Some l) ps) (sym behind)))

    -- with what its text spells
    pub put-on : (there spelled : Bool) (more : List Setting) → IsOn c all (p ∷ ps) spelled ss → IsPut there x (typed_at c p.value x) ss more → IsOn c all ps (there && spelled) more
    put-on there spelled more on put = by (typed_at c p.value x) refl put
      where
        by : (o : Option Value) → typed_at c p.value x ≡ o → IsPut there x o ss more → IsOn c all ps (there && spelled) more
        by None is put = subst (λ b. IsOn c all ps (b && spelled) more) (sym put.0) (subst (IsOn c all ps false) (sym put.1) (unspelled spelled on is))
        by (Some v) is put = subst (λ b. IsOn c all ps (b && spelled) more) (sym put.0) (spelled_as spelled on v is more put.1)
