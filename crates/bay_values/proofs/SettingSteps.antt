-- One more setting, before those that were made.
use Rattle.std.proofs.Common.{◌≡◌, ◌≢◌, refl, ap, sym, ◌∙◌, ◌<◌, ◌≤◌, ◌+◌, ℕ, ◌==◌, Bool, true, false, not, List, [], ◌∷◌, ◌++◌, length, Option, Some, None, is_some, slice_set, slice_index_or, arith, if◌then◌else◌, ◌⊎◌, inl, inr}
use Rattle.std.specs.Option.{option_map, option_or}
use Rattle.std.proofs.lemmas.Bool.Decides.{eqb_tells}
use Rattle.std.proofs.lemmas.List.{length-set, length_push, get_or-set_other}
use Rattle.std.proofs.lemmas.Grind.{get_or-set_at}
use Rattle.std.proofs.lemmas.List.Folds.{find-append}
use Rattle.std.proofs.lemmas.List.Sums.{sum_by-set, sum_by-le}
use Rattle.list_laws.proofs.Places.{at_set, same-of as same}
use Rattle.sv_base.specs.Same.{is_same}
use Rattle.sv_base.specs.declared.config.Config.{Config}
use Rattle.sv_base.specs.declared.value.Value.{Value}
use Rattle.bay_model.specs.declared.flags.Change.{Change}
use Rattle.bay_model.specs.declared.step.Setting.{Setting}
use Rattle.bay_model.specs.Lookups.{attr_of}
use Rattle.bay_model.specs.Named.{configured_model}
use Rattle.bay_model.specs.Settings.{set_to}
use Rattle.object_model.specs.Tables.{flags_of}
use Rattle.value_store.specs.Stored.{Stored, attribute, no_attribute, with_value}
use Rattle.trigger_core.specs.Noted.{change_of}
use Rattle.bay_values.specs.Changed.{given, change_from}
use Rattle.bay_values.specs.Marked.{is_marked, one_if, marked_in, IsDone}
use Rattle.bay_values.proofs.DistinctChanges.{distinct-push}
use Rattle.setting_groups.proofs.LoadLaws.{left}

-- ---- an attribute that a later setting names

or_some : (o d : Option Value) → is_some o ≡ true → option_or o d ≡ o
or_some None d is = cc
or_some (Some v) d is = refl

passed_by : (b : Bool) (o : Option Value) (v : Value) → (b ≡ true → is_some o ≡ true) → option_or o (if b then Some v else None) ≡ o
passed_by true o v is = or_some o (Some v) (is refl)
passed_by false o v is = left o

-- it counts for nothing
pub passed : (x : ℕ) (s : Setting) (later : List Setting) → is_some (set_to s.attr.0 later) ≡ true → set_to x (s ∷ later) ≡ set_to x later
passed x s later is = passed_by (s.attr.0 == x) (set_to x later) s.value (λ e. ap (λ y. is_some (set_to y later)) (sym (same s.attr.0 x e)) ∙ is)

-- ---- an attribute that none names

none_of : (o : Option Value) → is_some o ≡ false → o ≡ None
none_of None is = refl
none_of (Some v) is = cc

value_by : (b : Bool) (o : Option Value) (v : Value) (here there was : Stored) → (b ≡ true → o ≡ None) → (b ≡ true → here ≡ was) → there ≡ given o was
    → (if b then with_value v here else there) ≡ given (option_or o (if b then Some v else None)) was
value_by true o v here there was none is are = rw (none refl, is refl) refl
value_by false o v here there was none is are = are ∙ ap (λ p. given p was) (sym (left o))

mark_by : (b : Bool) (o : Option Value) (v : Value) (was : Bool) → (b ≡ true → o ≡ None) → was ≡ is_some o → (if b then true else was) ≡ is_some (option_or o (if b then Some v else None))
mark_by true o v was none is = rw (none refl) refl
mark_by false o v was none is = is ∙ ap is_some (sym (left o))

change_by : (b : Bool) (o : Option Value) (v : Value) (was : Option Change) (new : Change) (f : Value → Change) → (b ≡ true → o ≡ None) → (b ≡ true → new ≡ f v) → was ≡ option_map f o
    → option_or was (if b then Some new else None) ≡ option_map f (option_or o (if b then Some v else None))
change_by true o v was new f none is are = rw (are, none refl, is refl) refl
change_by false None v was new f none is are = rw are refl
change_by false (Some w) v was new f none is are = rw are refl

change_same : (c : Config) (before after : List Stored) (y x : ℕ) (v : Value) → y ≡ x → attribute after y ≡ attribute before y → change_from c after y v ≡ change_from c before x v
change_same c before after y x v is here =
    ap (λ (s : Stored). record { attr = record { 0 = y }; flags = flags_of (attr_of (configured_model c) y); differs = not (is_same v s.held.value) }) here
    ∙ ap (λ z. change_from c before z v) is

pub mark_at : (marks : List Bool) (y x : ℕ) (b : Bool) → y < length marks → is_marked (slice_set marks y b) x ≡ (if y == x then b else is_marked marks x)
mark_at marks y x b below = by (eqb_tells y x) where
  by : ((y == x) ≡ true) × (y ≡ x) ⊎ ((y == x) ≡ false) × (y ≢ x) → is_marked (slice_set marks y b) x ≡ (if y == x then b else is_marked marks x)
  by (inl e) = rw e.0 (get_or-set_at marks y x b false (sym e.1) below)
  by (inr e) = rw e.0 (get_or-set_other marks y x b false (λ i. e.1 (sym i)))

-- one attribute more is marked
one_more : (marks : List Bool) (x : ℕ) → is_marked marks x ≡ false → x < length marks → marked_in (slice_set marks x true) ≡ marked_in marks + 1
one_more marks x free below = omega (arith, sum_by-set one_if marks x true false below, ap one_if free)

at_most : (b : Bool) → one_if b ≤ 1
at_most true = omega arith
at_most false = omega arith

-- where an attribute is not marked, fewer are than there are
pub room_left : (marks : List Bool) (x : ℕ) → is_marked marks x ≡ false → x < length marks → marked_in marks < length marks
room_left marks x free below = omega (arith, one_more marks x free below, sum_by-le one_if 1 (slice_set marks x true) (λ k d near. at_most (slice_index_or (slice_set marks x true) k d)), length-set marks x true)

pub done_set : (c : Config) (before after : List Stored) (s : Setting) (later : List Setting) (marks : List Bool) (changes : List Change)
    → is_marked marks s.attr.0 ≡ false → s.attr.0 < length after → s.attr.0 < length marks → IsDone c before later after marks changes
    → IsDone c before (s ∷ later) (slice_set after s.attr.0 (with_value s.value (attribute after s.attr.0))) (slice_set marks s.attr.0 true) (changes ++ change_from c after s.attr.0 s.value ∷ [])
done_set c before after s later marks changes mark there there_too done =
    let none : set_to s.attr.0 later ≡ None = none_of (set_to s.attr.0 later) (sym (done.marked s.attr.0) ∙ mark) in
    let here : attribute after s.attr.0 ≡ attribute before s.attr.0 = done.values s.attr.0 ∙ ap (λ o. given o (attribute before s.attr.0)) none in
    let at : (x : ℕ) → (s.attr.0 == x) ≡ true → set_to x later ≡ None = λ x e. ap (λ y. set_to y later) (sym (same s.attr.0 x e)) ∙ none in
    record {
      count = length-set after s.attr.0 (with_value s.value (attribute after s.attr.0)) ∙ done.count;
      values = λ x. at_set after s.attr.0 x (with_value s.value (attribute after s.attr.0)) no_attribute there
          ∙ value_by (s.attr.0 == x) (set_to x later) s.value (attribute after s.attr.0) (attribute after x) (attribute before x) (at x) (λ e. here ∙ ap (attribute before) (same s.attr.0 x e)) (done.values x);
      marked = λ x. mark_at marks s.attr.0 x true there_too ∙ mark_by (s.attr.0 == x) (set_to x later) s.value (is_marked marks x) (at x) (done.marked x);
      made = λ x. find-append (λ (ch : Change). ch.attr.0 == x) changes (change_from c after s.attr.0 s.value ∷ [])
          ∙ change_by (s.attr.0 == x) (set_to x later) s.value (change_of changes (record { 0 = x })) (change_from c after s.attr.0 s.value) (change_from c before x) (at x) (λ e. change_same c before after s.attr.0 x s.value (same s.attr.0 x e) here) (done.made x);
      once = distinct-push changes (change_from c after s.attr.0 s.value) done.once
          (ap is_some (done.made s.attr.0 ∙ ap (option_map (change_from c before s.attr.0)) none));
      noted = omega (arith, done.noted, length_push changes (change_from c after s.attr.0 s.value), one_more marks s.attr.0 mark there_too);
    }
