-- A store stands for a longer history after each setting.
use Rattle.std.proofs.Common.{◌≡◌, refl, ap, sym, ◌∙◌, ◌<◌, ℕ, ◌==◌, Bool, true, false, List, [], ◌∷◌, length, Option, Some, None, unwrap_or, slice_set, arith, if◌then◌else◌}
use Rattle.std.specs.Option.{option_or}
use Rattle.std.proofs.lemmas.List.{length-set}
use Rattle.std.proofs.lemmas.List.Elements.{All-tail}
use Rattle.list_laws.proofs.Places.{at_set}
use Rattle.sv_base.specs.declared.value.Value.{Value}
use Rattle.bay_model.specs.declared.step.Setting.{Setting}
use Rattle.bay_model.specs.Model.{Model}
use Rattle.bay_model.specs.Points.{Past, Point, Deed, valued, put}
use Rattle.bay_model.specs.Singles.{arrival}
use Rattle.bay_model.specs.Settings.{set_to}
use Rattle.bay_model.specs.Values.{value_at, gives}
use Rattle.value_store.specs.Stored.{Stored, attribute, no_attribute, with_value}
use Rattle.value_store.specs.Wholes.{Stands, AreSettable, stored_after}

pub value_if : (b : Bool) (w a : Stored) → (if b then w else a).held.value ≡ (if b then w.held.value else a.held.value)
value_if true w a = refl
value_if false w a = refl

pub value_set : (all : List Stored) (y x : ℕ) (v : Value) → y < length all
    → (attribute (slice_set all y (with_value v (attribute all y))) x).held.value ≡ unwrap_or (if y == x then Some v else None) (attribute all x).held.value
value_set all y x v below = ap (λ (s : Stored). s.held.value) (at_set all y x (with_value v (attribute all y)) no_attribute below) ∙ (value_if (y == x) (with_value v (attribute all y)) (attribute all x) ∙ by (y == x))
  where
    by : (b : Bool) → (if b then v else (attribute all x).held.value) ≡ unwrap_or (if b then Some v else None) (attribute all x).held.value
    by true = refl
    by false = refl

pub later_first : (a b : Option Value) (was : Value) → unwrap_or a (unwrap_or b was) ≡ unwrap_or (option_or a b) was
later_first None b was = refl
later_first (Some v) b was = refl

pub value_after : (all : List Stored) (settings : List Setting) (x : ℕ) → AreSettable all settings
    → (attribute (stored_after all settings) x).held.value ≡ unwrap_or (set_to x settings) (attribute all x).held.value
value_after all [] x are = refl
value_after all (s ∷ later) x are =
    let now = slice_set all s.attr.0 (with_value s.value (attribute all s.attr.0)) in
    let here : s.attr.0 < length all = are 0 s (omega arith) in
    let others : AreSettable now later = λ k d below. omega (arith, All-tail (λ (t : Setting). t.attr.0 < length all) s later are k d below, length-set all s.attr.0 (with_value s.value (attribute all s.attr.0))) in
    value_after now later x others ∙ (ap (λ v. unwrap_or (set_to x later) v) (value_set all s.attr.0 x s.value here) ∙ later_first (set_to x later) (if s.attr.0 == x then Some s.value else None) (attribute all x).held.value)

pub length_after : (all : List Stored) (settings : List Setting) → length (stored_after all settings) ≡ length all
length_after all [] = refl
length_after all (s ∷ later) = length_after (slice_set all s.attr.0 (with_value s.value (attribute all s.attr.0))) later ∙ length-set all s.attr.0 (with_value s.value (attribute all s.attr.0))

pub settings_stand : (all : List Stored) (c : Model) (before : Past) (p : Point) (settings : List Setting)
    → Stands all c before → AreSettable all settings → p.deed ≡ valued settings → Stands (stored_after all settings) c (p ∷ before)
settings_stand all c before p settings stands are is = λ x below.
    value_after all settings x are ∙ (ap (λ v. unwrap_or (set_to x settings) v) (stands x (omega (arith, below, length_after all settings)))
    ∙ ap (λ (d : Deed). unwrap_or (gives c x d before) (value_at c x before)) (sym is))

pub write_stands : (all : List Stored) (c : Model) (before : Past) (p : Point) (a x : ℕ) (v : Value)
    → Stands all c before → x < length all → p.deed ≡ put a x v → Stands (slice_set all x (with_value v (attribute all x))) c (p ∷ before)
write_stands all c before p a x v stands there is = λ y below.
    value_set all x y v there ∙ (ap (λ w. unwrap_or (if x == y then Some v else None) w) (stands y (omega (arith, below, length-set all x (with_value v (attribute all x)))))
    ∙ ap (λ (d : Deed). unwrap_or (gives c y d before) (value_at c y before)) (sym is))

-- ---- the arrival of a point, and its deed

pub stands-arrival : (all : List Stored) (c : Model) (m n : ℕ) (before : Past) → Stands all c before → Stands all c (arrival n m ∷ before)
stands-arrival all c m n before stands = stands

pub stands-deed : (all new : List Stored) (c : Model) (m n : ℕ) (d : Deed) (before : Past) → Stands all c (arrival n m ∷ before) → length new ≡ length all
    → ((x : ℕ) → x < length all → (attribute new x).held.value ≡ unwrap_or (gives c x d before) (attribute all x).held.value) → Stands new c (record { moment = m; step = n; deed = d } ∷ before)
stands-deed all new c m n d before stands count given = λ x below.
    let there : x < length all = omega (arith, below, count) in
    given x there ∙ ap (unwrap_or (gives c x d before)) (stands x there)
