-- The setting groups of a configuration that is served fit the values of its attributes, whatever was written.
use Rattle.std.proofs.Common.{◌≡◌, ◌<◌, ◌∙◌, ℕ, zero, suc, Bool, true, false, List, [], ◌∷◌, length, Some, Ok, Err, refl, sym, ap, subst, arith, slice_index_or, slice_get, unwrap_or, if◌then◌else◌}
use Rattle.std.specs.Prelude.{◌==◌, not, Result}
use Rattle.std.specs.List.{All}
use Rattle.std.proofs.lemmas.List.Elements.{All-head, All-tail, All-nil, All-cons}
use Rattle.sv_base.specs.Same.{values_of}
use Rattle.sv_base.specs.declared.config.Config.{Config}
use Rattle.sv_base.specs.declared.config.AttrDef.{AttrDef}
use Rattle.sv_base.specs.declared.value.Value.{Value}
use Rattle.sv_base.specs.Kinds.{is_kind, is_in_range, kind_of}
use Rattle.bay_rooms.specs.Slots.{Held}
use Rattle.bay_model.specs.declared.step.Setting.{Setting}
use Rattle.bay_model.specs.Attributes.{attributes}
use Rattle.bay_model.specs.Lookups.{no_attr}
use Rattle.bay_model.specs.Model as model
use Rattle.bay_model.specs.Model.{Attr}
use Rattle.bay_model.specs.NamedLines.{domains}
use Rattle.list_laws.proofs.Places.{at-or}
use Rattle.object_model.specs.Fits.{is_sound}
use Rattle.value_store.specs.Stored.{Stored, attribute}
use Rattle.setting_groups.specs.Frames.{AreHeldOnce, ArePut, Holds}
use Rattle.setting_groups.specs.Grouped.{Grouped, Settled, active_of, active_place, copy_answer, domain_at, no_setting, place_in, setting_at, with_value}
use Rattle.setting_groups.specs.Loaded.{active_settings, loading, loadings}
use Rattle.setting_groups.specs.Opened.{held_as, opened, HasValues}
use Rattle.setting_groups.proofs.FirstLaws.{access-at, first-fit, kind-at, within}
use Rattle.setting_groups.proofs.FrameLaws.{place-within}
use Rattle.setting_groups.proofs.ValueLaws.{IsPlace, is_place}
use Rattle.bay_config.specs.Servable.{HasSoundValues, IsServable, attr_type}
use Rattle.bay_values.specs.Changed.{AreTyped, IsTyped}
use Rattle.bay_values.specs.Held.{AreGrouped, AreHeld, IsSoundCell}
use Rattle.bay_values.specs.Loaded.{AreLoadable}
use Rattle.bay_values.proofs.FirstValues.{kind-told}

-- ---- how they begin

sound-line : (a : AttrDef) → HasValues a → HasSoundValues a → All (λ v. IsSoundCell (held_as a.kind v)) (values_of a.values)
sound-line a has sound = λ k d below. let h = has.held k d below in record { kind = h.kind; range = h.range; sound = sound k d below }

sound-lines : (as_ : List AttrDef) → All HasValues as_ → All HasSoundValues as_ → All (λ (a : AttrDef). All (λ v. IsSoundCell (held_as a.kind v)) (values_of a.values)) as_
sound-lines as_ has sound = λ k d below. sound-line (slice_index_or as_ k d) (has k d below) (sound k d below)

pub grouped-first : (c : Config) → IsServable c → AreGrouped c (opened c (domains c))
grouped-first c served = first-fit c IsSoundCell served.grouped (sound-lines c.attrs served.grouped.values served.sound)

-- ---- an SG attribute and its value

attr-there : (as_ : List Attr) (x : ℕ) → (unwrap_or (slice_get as_ x) no_attr).access ≡ model.active → x < length as_
attr-there [] x is = cc
attr-there (a ∷ as_) zero is = omega arith
attr-there (a ∷ as_) (suc x) is = omega (arith, attr-there as_ x is)

module _ (c : Config) (served : IsServable c) (stored : List Stored) (held : AreHeld c stored) (s : Grouped) (fit : AreGrouped c s) where
  pub attr-within : (k : ℕ) → k < length s.settings → (setting_at s k).attr < length stored
  attr-within k below = omega (arith, held.count, attr-there (attributes c) (setting_at s k).attr (access-at c served.grouped s fit.framed k below))

  -- what it holds is of its kind
  pub kind-of : (k : ℕ) → k < length s.settings → (setting_at s k).copy.kind ≡ (attribute stored (setting_at s k).attr).held.kind
  kind-of k below = kind-at c served.grouped s fit.framed k below ∙ kind-told c stored (setting_at s k).attr served held (attr-within k below)

  pub type-of : (k : ℕ) → k < length s.settings → (setting_at s k).copy.kind ≡ kind_of (attr_type c (setting_at s k).attr)
  type-of k below = kind-of k below ∙ held.kinds (setting_at s k).attr (attr-within k below)

  pub holds-at : (k : ℕ) → k < length s.settings → Holds IsSoundCell (setting_at s k)
  holds-at k below = fit.holds k no_setting below

  active-kind : (k : ℕ) → k < length s.settings → (active_of s k).kind ≡ (setting_at s k).copy.kind
  active-kind k below = at-or (λ (h : Held). h.kind ≡ (setting_at s k).copy.kind) (setting_at s k).groups (active_place (domain_at s (setting_at s k).domain)) (setting_at s k).copy refl (holds-at k below).kinds

  pub loadable : AreLoadable stored s
  loadable k below = record {
    setting = below;
    there = attr-within k below;
    domain = within c served.grouped s fit.framed k below;
    kind = active-kind k below ∙ kind-of k below;
  }

  -- ---- what the active group gives

  one-typed : (i k : ℕ) → k < length s.settings → IsTyped c (loading i (setting_at s k))
  one-typed i k below =
      let t : Settled = setting_at s k in
      let h : Held = slice_index_or t.groups i t.copy in
      let cell : IsSoundCell h = at-or IsSoundCell t.groups i t.copy (holds-at k below).copy (holds-at k below).groups in
      let kind : h.kind ≡ kind_of (attr_type c t.attr) = at-or (λ (x : Held). x.kind ≡ t.copy.kind) t.groups i t.copy refl (holds-at k below).kinds ∙ type-of k below in
      record {
        there = omega (arith, attr-within k below, held.count);
        typed = record { kind = ap (λ q. is_kind q h.value) (sym kind) ∙ cell.kind; range = ap (λ q. is_in_range q h.value) (sym kind) ∙ cell.range; sound = cell.sound };
      }

  typed-among : (d i : ℕ) (ts : List Settled) → All (λ (t : Settled). IsTyped c (loading i t)) ts → AreTyped c (loadings d i ts)
  typed-among d i [] are = All-nil (IsTyped c)
  typed-among d i (t ∷ ts) are = by (t.domain == d) (typed-among d i ts (All-tail (λ (u : Settled). IsTyped c (loading i u)) t ts are))
    where
      by : (b : Bool) → AreTyped c (loadings d i ts) → AreTyped c (if b then loading i t ∷ loadings d i ts else loadings d i ts)
      by true more = All-cons (IsTyped c) (loading i t) (loadings d i ts) (All-head (λ (u : Settled). IsTyped c (loading i u)) t ts are) more
      by false more = more

  pub active-typed : (d : ℕ) → AreTyped c (active_settings d s)
  active-typed d = let i = active_place (domain_at s d) in
      typed-among d i s.settings (λ k e below. subst (λ (t : Settled). IsTyped c (loading i t)) (sym (get-any s.settings k e below)) (one-typed i k below))
    where
      get-any : (ts : List Settled) (k : ℕ) (e : Settled) → k < length ts → slice_index_or ts k e ≡ slice_index_or ts k no_setting
      get-any [] k e below = absurd (omega (arith, below))
      get-any (t ∷ ts) zero e below = refl
      get-any (t ∷ ts) (suc k) e below = get-any ts k e (omega (arith, below))

  -- ---- what the process sets

  own-attr : (x k : ℕ) → place_in x s.settings ≡ Some k → x ≡ (setting_at s k).attr
  own-attr x k is = (subst (IsPlace x s.settings) is (is_place x s.settings)).1

  pub are-put : (settings : List Setting) → AreTyped c settings → ArePut s settings
  are-put settings typed = λ n d below k is.
      let t : Setting = slice_index_or settings n d in
      let v = (typed n d below).typed in
      let there = place-within t.attr.0 s.settings k is in
      let kind : (setting_at s k).copy.kind ≡ kind_of (attr_type c t.attr.0) = type-of k there ∙ ap (λ x. kind_of (attr_type c x)) (sym (own-attr t.attr.0 k is)) in
      record {
        domain = within c served.grouped s fit.framed k there;
        kind = ap (λ q. is_kind q t.value) kind ∙ v.kind;
        range = ap (λ q. is_in_range q t.value) kind ∙ v.range;
      }

  pub are-held-once : (settings : List Setting) → AreTyped c settings → AreHeldOnce IsSoundCell s settings
  are-held-once settings typed = λ n d below k is.
      let t : Setting = slice_index_or settings n d in
      let put = are-put settings typed n d below k is in
      record { kind = put.kind; range = put.range; sound = (typed n d below).typed.sound }

-- ---- what a client writes into a copy

by-answer : (k h r : Bool) → ◌≡◌ {A = Result (Unit {0}) ℕ} (if not k then Err 7 else (if not h then Err 2 else (if not r then Err 11 else Ok tt))) (Ok tt) → (k ≡ true) × (r ≡ true)
by-answer true true true is = (refl, refl)
by-answer true true false is = cc
by-answer true false r is = cc
by-answer false h r is = cc

pub copy-sound : (t : Settled) (v : Value) (is_held : Bool) → copy_answer is_held t v ≡ Ok tt → is_sound v ≡ true → IsSoundCell (with_value v t.copy)
copy-sound t v is_held is sound = let h = by-answer (is_kind t.copy.kind v) is_held (is_in_range t.copy.kind v) is in record { kind = h.0; range = h.1; sound = sound }
