-- The settings that a line says fit the configuration: each is of an attribute that is there, and of its type.
use Rattle.std.proofs.Common.{◌≡◌, ℕ, ◌≤◌, inl, inr, true, List, [], ◌∷◌, ◌++◌, refl, sym, ap, subst, ◌∙◌, arith}
use Rattle.std.specs.Prelude.{Option, None, Some, slice_get}
use Rattle.std.specs.Option.{option_map, option_and_then}
use Rattle.std.specs.List.{All, list_all}
use Rattle.std.proofs.lemmas.Bool.{and_from}
use Rattle.std.proofs.lemmas.Bool.Decides.{nat_tests}
use Rattle.std.proofs.lemmas.List.Folds.{list_all-append}
use Rattle.std.proofs.lemmas.Option.{slice_get_within, get_or_from_slice_get}
use Rattle.sv_base.specs.declared.config.Config.{Config}
use Rattle.sv_base.specs.declared.types.TypeOf.{TypeOf}
use Rattle.sv_base.specs.declared.types.TypeOf.TheVariants as types
use Rattle.sv_base.specs.declared.value.Value.{Value}
use Rattle.sv_base.specs.declared.value.Value.TheVariants as values
use Rattle.bay_model.specs.declared.step.Setting.{Setting}
use Rattle.bay_model.specs.declared.step.Step.TheVariants as steps
use Rattle.sv_base.specs.Kinds.{kind_of}
use Rattle.sv_base.specs.Kinds.{is_in_range}
use Rattle.bay_rooms.specs.Slots.{IsSettable}
use Rattle.object_model.specs.Fits.{attr_types, is_typed, setting_fits, fits}
use Rattle.text_words.specs.Numbers.{greatest}
use Rattle.text_words.specs.Values.{value_at}
use Rattle.text_words.specs.Grammar.{IsOfType}
use Rattle.list_laws.proofs.Options.{some_is}
use Rattle.text_words.proofs.ReadWordLaws.{value-tells}
use Rattle.text_values.proofs.ValueLaws.{of-kind, sound, in-range}
use Rattle.run_record.specs.declared.pairs.Pair.{Pair}
use Rattle.record_values.specs.Settings.{number_at, typed_at, setting, setting_of, setting_at, behind_those, settings_from, settings_at}

uint-64 : (n : ℕ) → n ≤ greatest 64 → is_in_range (kind_of (types.Uint 64)) (values.Uint n) ≡ true
uint-64 n h = grind (arith, nat_tests)

-- a value of the type of an attribute is in its range
in-reach : (k : TypeOf) (v : Value) → IsSettable k → IsOfType k v → is_in_range (kind_of k) v ≡ true
in-reach types.Bool (values.Bool b) t h = refl
in-reach (types.Int w) (values.Int z) t h = in-range (types.Int w) (values.Int z) t h
in-reach (types.Uint w) (values.Uint n) (inl e) h = in-range (types.Uint w) (values.Uint n) (inl e) h
in-reach (types.Uint w) (values.Uint n) (inr (inl e)) h = in-range (types.Uint w) (values.Uint n) (inr (inl e)) h
in-reach (types.Uint w) (values.Uint n) (inr (inr (inl e))) h = in-range (types.Uint w) (values.Uint n) (inr (inr e)) h
in-reach (types.Uint w) (values.Uint n) (inr (inr (inr e))) h = subst (λ w. n ≤ greatest w → is_in_range (kind_of (types.Uint w)) (values.Uint n) ≡ true) (sym e) (uint-64 n) h
in-reach (types.Bits n) (values.Bits b) t h = refl
in-reach types.Time (values.Time u) t h = refl
in-reach (types.Text most) (values.Text o) t h = grind (arith, nat_tests)
in-reach (types.Octets most) (values.Octets o) t h = grind (arith, nat_tests)
in-reach _ _ t h = absurd h

module _ (c : Config) (settable : All IsSettable (attr_types c)) where
  abbrev AreFit : List Setting → Type 0
  AreFit ss = list_all (setting_fits (attr_types c)) ss ≡ true

  typed-fits : (word : List ℕ) (x : ℕ) (v : Value) → typed_at c word x ≡ Some v → setting_fits (attr_types c) (setting x v) ≡ true
  typed-fits word x v is = by (slice_get (attr_types c) x) refl is where
    by : (o : Option TypeOf) → slice_get (attr_types c) x ≡ o → option_and_then (λ (kind : TypeOf). value_at kind word) o ≡ Some v → setting_fits (attr_types c) (setting x v) ≡ true
    by None there is = absurd cc
    by (Some kind) there is =
        let of = (value-tells kind word v is).0 in
        let type : IsSettable kind = subst IsSettable (get_or_from_slice_get (attr_types c) x kind kind there) (settable x kind (slice_get_within (attr_types c) x kind there)) in
        and_from _ _ (ap (λ o. is_typed o v) there ∙ and_from _ _ (of-kind kind v of) (in-reach kind v type of)) (sound kind v of)

  one-fits : (p : Pair) (s : Setting) → setting_at c p ≡ Some s → setting_fits (attr_types c) s ≡ true
  one-fits p s is = by (number_at c p) is where
    typed : (x : ℕ) (o : Option Value) → typed_at c p.value x ≡ o → option_map (setting x) o ≡ Some s → setting_fits (attr_types c) s ≡ true
    typed x None read is = absurd cc
    typed x (Some v) read is = subst (λ s. setting_fits (attr_types c) s ≡ true) (some_is (setting x v) s is) (typed-fits p.value x v read)

    by : (o : Option ℕ) → setting_of c p.value o ≡ Some s → setting_fits (attr_types c) s ≡ true
    by None is = absurd cc
    by (Some x) is = typed x (typed_at c p.value x) refl is

  none-stays : (ps : List Pair) → settings_from c None ps ≡ None
  none-stays [] = refl
  none-stays (p ∷ ps) = none-stays ps

  from-none : (ps : List Pair) (ss : List Setting) → settings_from c None ps ≡ Some ss → ⊥
  from-none ps ss is = none-some (sym (none-stays ps) ∙ is) where
    none-some : None ≡ Some ss → ⊥
    none-some same = cc

  one-more : (before : List Setting) (p : Pair) (ps : List Pair) (ss : List Setting) (o : Option Setting) → setting_at c p ≡ o → AreFit before → settings_from c (behind_those before o) ps ≡ Some ss
      → ((more : List Setting) → AreFit more → settings_from c (Some more) ps ≡ Some ss → AreFit ss) → AreFit ss
  one-more before p ps ss None at fit is rest = absurd (from-none ps ss is)
  one-more before p ps ss (Some s) at fit is rest =
      rest (before ++ s ∷ []) (list_all-append (setting_fits (attr_types c)) before (s ∷ []) ∙ and_from _ _ fit (and_from _ _ (one-fits p s at) refl)) is

  from-fit : (before : List Setting) (ps : List Pair) (ss : List Setting) → AreFit before → settings_from c (Some before) ps ≡ Some ss → AreFit ss
  from-fit before [] ss fit is = subst AreFit (some_is before ss is) fit
  from-fit before (p ∷ ps) ss fit is = one-more before p ps ss (setting_at c p) refl fit is (λ more. from-fit more ps ss)

  pub settings-fit : (pairs : List Pair) (ss : List Setting) → settings_at c pairs ≡ Some ss → fits c (steps.Value ss) ≡ true
  settings-fit pairs ss is = from-fit [] pairs ss refl is
