-- After every history whose steps fit, each attribute has a value of its type, and so have the setting groups and the copy that is edited.
use Rattle.std.proofs.Common.{◌≡◌, ℕ, zero, suc, ◌-◌, ◌<◌, ◌≤◌, Bool, true, false, ◌&&◌, List, [], ◌∷◌, length, refl, sym, ap, subst, ◌∙◌, arith}
use Rattle.std.specs.Prelude.{◌==◌, nat_lt, Option, None, Some, unwrap_or, slice_get, if◌then◌else◌}
use Rattle.std.specs.Option.{option_map_or}
use Rattle.std.specs.List.{All}
use Rattle.std.proofs.lemmas.Bool.{and_parts, eqb-true, eqb-false, ltb-true, ltb-false}
use Rattle.std.proofs.lemmas.List.Elements.{All-head, All-tail}
use Rattle.list_laws.proofs.Among.{at-among, of-all}
use Rattle.sv_base.specs.Kinds.{kind_of, is_kind, is_in_range}
use Rattle.sv_base.specs.Same.{values_of}
use Rattle.sv_base.specs.declared.config.Config.{Config}
use Rattle.sv_base.specs.declared.config.AttrDef.{AttrDef}
use Rattle.sv_base.specs.declared.value.Value.{Value}
use Rattle.sv_base.specs.declared.value.Value.TheVariants as kinds
use Rattle.bay_model.specs.declared.step.Setting.{Setting}
use Rattle.bay_model.specs.Attributes.{attributes}
use Rattle.bay_model.specs.Lookups.{attr_of, groups_of}
use Rattle.bay_model.specs.Model as model
use Rattle.bay_model.specs.Model.{Model, Attr, Access}
use Rattle.bay_model.specs.Named.{configured_model}
use Rattle.bay_model.specs.NamedLines.{is_setting}
use Rattle.bay_model.specs.Points.{Deed, Point, Past, valued, put, copied, activated, edited, confirmed, lost}
use Rattle.bay_model.specs.Settings.{Edit, edit, is_held_by, active, set_to, copy, group, stored}
use Rattle.bay_model.specs.Values.{value_at, gives, is_setting_of, is_active_setting}
use Rattle.bay_config.specs.Servable.{IsServable, HasSoundValues, attr_type}
use Rattle.bay_values.specs.Changed.{IsValueOf, AreTyped}
use Rattle.bay_values.specs.Held.{AreHeld}
use Rattle.bay_values.proofs.ChangeLaws.{set-value}
use Rattle.bay_values.proofs.FirstValues.{opened-held}
use Rattle.object_model.specs.Fits.{is_sound}
use Rattle.setting_groups.specs.Opened.{HasValues, IsHeld, IsSetting}
use Rattle.value_store.specs.Opened.{opened}
use Rattle.value_store.specs.Stored.{attribute}
use Rattle.value_store.proofs.OpenedLaws.{opened_stands, length_opened, groups_at}
use Rattle.output_laws.proofs.AttrLaws.{IsLineAt, line-below, active-line}
use Rattle.output_laws.proofs.DeedLaws.{IsFine, AreFine, kind-is}

get-all : {X : Type 0} (P : X → Type 0) (xs : List X) (i : ℕ) (d : X) → i < length xs → All P xs → P (unwrap_or (slice_get xs i) d)
get-all P [] i d below all = absurd (omega (arith, below))
get-all P (x ∷ xs) zero d below all = All-head P x xs all
get-all P (x ∷ xs) (suc i) d below all = get-all P xs i d (omega (arith, below)) (All-tail P x xs all)

typed-set : (c : Config) (settings : List Setting) → AreTyped c settings → All (λ (s : Setting). IsValueOf c s.attr.0 s.value) settings
typed-set c settings are = λ k d below. (are k d below).typed

-- what settings make of a value of attribute x
set-typed : (c : Config) (x : ℕ) (settings : List Setting) (was : Value) → AreTyped c settings → IsValueOf c x was → IsValueOf c x (unwrap_or (set_to x settings) was)
set-typed c x settings was are h = by (set_to x settings) (set-value (IsValueOf c) x settings (typed-set c settings are))
  where
    by : (o : Option Value) → ((v : Value) → o ≡ Some v → IsValueOf c x v) → IsValueOf c x (unwrap_or o was)
    by None go = h
    by (Some v) go = go v refl

-- ---- setting groups

-- attribute y is that of a line under SG: what each group holds, and the copy while somebody edits one
pub record AreStoredAt (c : Config) (y : ℕ) (past : Past) : Type 0 where
  pub in_groups : (g : ℕ) → 1 ≤ g → g ≤ (groups_of (configured_model c) (attr_of (configured_model c) y).domain).count → IsValueOf c y (stored (configured_model c) y past (group g))
  pub in_range : (e : Edit) → edit (attr_of (configured_model c) y).domain past ≡ Some e → (1 ≤ e.group) × (e.group ≤ (groups_of (configured_model c) (attr_of (configured_model c) y).domain).count)
  pub in_copy : (e : Edit) → edit (attr_of (configured_model c) y).domain past ≡ Some e → IsValueOf c y (stored (configured_model c) y past copy)

module _ (c : Config) (served : IsServable c) (y : ℕ) (line : IsLineAt c y) (setting : is_setting line.line ≡ true) where
  abbrev dom : ℕ
  dom = (attr_of (configured_model c) y).domain

  abbrev count : ℕ
  count = (groups_of (configured_model c) (attr_of (configured_model c) y).domain).count

  first-value : (i : ℕ) → i < length (values_of line.line.values) → IsValueOf c y (unwrap_or (slice_get (attr_of (configured_model c) y).initial i) kinds.Other)
  first-value i below =
      let a : AttrDef = line.line in
      let same : (attr_of (configured_model c) y).initial ≡ values_of a.values = ap (λ (t : Attr). t.initial) line.is in
      let kind : kind_of a.kind ≡ kind_of (attr_type c y) = sym (ap (λ (t : Attr). t.kind) line.is) ∙ kind-is c served y (line-below c y a line.at) in
      let h : IsHeld a.kind (unwrap_or (slice_get (values_of a.values) i) kinds.Other) = get-all (IsHeld a.kind) (values_of a.values) i kinds.Other below (of-all HasValues c.attrs a served.grouped.values (at-among y a c.attrs line.at)).held in
      let s = get-all (λ v. is_sound v ≡ true) (values_of a.values) i kinds.Other below (of-all HasSoundValues c.attrs a served.sound (at-among y a c.attrs line.at)) in
      subst (λ vs. IsValueOf c y (unwrap_or (slice_get vs i) kinds.Other)) (sym same)
      (record { kind = ap (λ k. is_kind k (unwrap_or (slice_get (values_of a.values) i) kinds.Other)) (sym kind) ∙ h.kind; range = ap (λ k. is_in_range k (unwrap_or (slice_get (values_of a.values) i) kinds.Other)) (sym kind) ∙ h.range; sound = s })

  count-is : count ≡ length (values_of line.line.values)
  count-is =
      let s : IsSetting c line.line = of-all (λ (a : AttrDef). is_setting a ≡ true → IsSetting c a) c.attrs line.line served.grouped.settings (at-among y line.line c.attrs line.at) setting in
      ap (λ d. (groups_of (configured_model c) d).count) (ap (λ (t : Attr). t.domain) line.is)
      ∙ (ap (λ (g : model.Groups). g.count) (groups_at c line.line.domain s.domain) ∙ sym s.values)

  none-some : {X : Type 0} (x : X) → None ≡ Some x → ⊥
  none-some x e = cc e

  first-stored : AreStoredAt c y []
  first-stored = record {
    in_groups = λ g one few. first-value (g - 1) (omega (arith, one, few, count-is));
    in_range = λ e is. absurd (cc is);
    in_copy = λ e is. absurd (cc is);
  }

  -- nothing comes of it
  module _ (p : Point) (before : Past) (was : AreStoredAt c y before) where
    copied-stored : (a x : ℕ) (v : Value) → p.deed ≡ copied a x v → IsFine c (copied a x v) → AreStoredAt c y (p ∷ before)
    copied-stored a x v is fine = subst (λ d. AreStoredAt c y (record p { deed = d } ∷ before)) (sym is) (record {
      in_groups = was.in_groups;
      in_range = was.in_range;
      in_copy = λ e i. by (x == y) refl e i;
    })
      where
        by : (b : Bool) → (x == y) ≡ b → (e : Edit) → edit dom before ≡ Some e → IsValueOf c y (if b then v else stored (configured_model c) y before copy)
        by true same e i = subst (λ z. IsValueOf c z v) (eqb-true x y same) fine.1
        by false same e i = was.in_copy e i

    edited-stored : (a d n : ℕ) → p.deed ≡ edited a d n → IsFine c (edited a d n) → AreStoredAt c y (p ∷ before)
    edited-stored a d n is fine = subst (λ q. AreStoredAt c y (record p { deed = q } ∷ before)) (sym is) (record {
      in_groups = was.in_groups;
      in_range = λ e i. (by (d == dom) (n == 0) (nat_lt 0 n) refl refl refl fine e i).0;
      in_copy = λ e i. (by (d == dom) (n == 0) (nat_lt 0 n) refl refl refl fine e i).1;
    })
      where
        by : (b z l : Bool) → (d == dom) ≡ b → (n == 0) ≡ z → nat_lt 0 n ≡ l → n ≤ (groups_of (configured_model c) d).count → (e : Edit)
            → (if b then (if z then None else Some (record { holder = a; group = n })) else edit dom before) ≡ Some e
            → ((1 ≤ e.group) × (e.group ≤ count)) × IsValueOf c y (if b && l then stored (configured_model c) y before (group n) else stored (configured_model c) y before copy)
        by true true l same none some few e i = absurd (cc i)
        by true false true same none some few e i =
            let g : e.group ≡ n = ap (λ (o : Option Edit). option_map_or (λ (f : Edit). f.group) o 0) (sym i) in
            let least : 1 ≤ n = ltb-true 0 n some in
            let most : n ≤ count = subst (λ d. n ≤ (groups_of (configured_model c) d).count) (eqb-true d dom same) few in
            ((omega (arith, g, least), omega (arith, g, most)), was.in_groups n least most)
        by true false false same none some few e i = absurd (eqb-false n 0 none (omega (arith, ltb-false 0 n some)))
        by false z l same none some few e i = (was.in_range e i, was.in_copy e i)

    confirmed-stored : (a d : ℕ) → p.deed ≡ confirmed a d → AreStoredAt c y (p ∷ before)
    confirmed-stored a d is = subst (λ q. AreStoredAt c y (record p { deed = q } ∷ before)) (sym is) (record {
      in_groups = λ g one few. by (d == dom) refl (edit d before) refl g one few;
      in_range = λ e i. still (d == dom) e i;
      in_copy = λ e i. was.in_copy e (same-edit (d == dom) e i);
    })
      where
        inside : (b : Bool) (g : ℕ) → 1 ≤ g → g ≤ count → (b ≡ true → IsValueOf c y (stored (configured_model c) y before copy)) → IsValueOf c y (if b then stored (configured_model c) y before copy else stored (configured_model c) y before (group g))
        inside true g one few go = go refl
        inside false g one few go = was.in_groups g one few

        by : (b : Bool) → (d == dom) ≡ b → (o : Option Edit) → edit d before ≡ o → (g : ℕ) → 1 ≤ g → g ≤ count
            → IsValueOf c y (if b && option_map_or (λ (e : Edit). e.group == g) o false then stored (configured_model c) y before copy else stored (configured_model c) y before (group g))
        by true same (Some e) i g one few = inside (e.group == g) g one few (λ t. was.in_copy e (ap (λ z. edit z before) (sym (eqb-true d dom same)) ∙ i))
        by true same None i g one few = was.in_groups g one few
        by false same o i g one few = was.in_groups g one few

        same-edit : (b : Bool) (e : Edit) → (if b then None else edit dom before) ≡ Some e → edit dom before ≡ Some e
        same-edit true e i = absurd (cc i)
        same-edit false e i = i

        still : (b : Bool) (e : Edit) → (if b then None else edit dom before) ≡ Some e → (1 ≤ e.group) × (e.group ≤ count)
        still true e i = absurd (cc i)
        still false e i = was.in_range e i

    lost-stored : (a : ℕ) → p.deed ≡ lost a → AreStoredAt c y (p ∷ before)
    lost-stored a is = subst (λ q. AreStoredAt c y (record p { deed = q } ∷ before)) (sym is) (record {
      in_groups = was.in_groups;
      in_range = λ e i. was.in_range e (same-edit (is_held_by a (edit dom before)) e i);
      in_copy = λ e i. was.in_copy e (same-edit (is_held_by a (edit dom before)) e i);
    })
      where
        same-edit : (b : Bool) (e : Edit) → (if b then None else edit dom before) ≡ Some e → edit dom before ≡ Some e
        same-edit true e i = absurd (cc i)
        same-edit false e i = i

    valued-stored : (settings : List Setting) → p.deed ≡ valued settings → AreTyped c settings → AreStoredAt c y (p ∷ before)
    valued-stored settings is fine = subst (λ q. AreStoredAt c y (record p { deed = q } ∷ before)) (sym is) (record {
      in_groups = λ g one few. by (active (configured_model c) dom before == g) g one few;
      in_range = was.in_range;
      in_copy = was.in_copy;
    })
      where
        by : (b : Bool) (g : ℕ) → 1 ≤ g → g ≤ count → IsValueOf c y (if b then unwrap_or (set_to y settings) (stored (configured_model c) y before (group g)) else stored (configured_model c) y before (group g))
        by true g one few = set-typed c y settings (stored (configured_model c) y before (group g)) fine (was.in_groups g one few)
        by false g one few = was.in_groups g one few

  next-stored : (p : Point) (before : Past) (d : Deed) → p.deed ≡ d → IsFine c d → AreStoredAt c y before → AreStoredAt c y (p ∷ before)
  next-stored p before (copied a x v) is fine was = copied-stored p before was a x v is fine
  next-stored p before (edited a d n) is fine was = edited-stored p before was a d n is fine
  next-stored p before (confirmed a d) is fine was = confirmed-stored p before was a d is
  next-stored p before (lost a) is fine was = lost-stored p before was a is
  next-stored p before (valued settings) is fine was = valued-stored p before was settings is fine
  next-stored p before d is fine was = subst (λ q. AreStoredAt c y (record p { deed = q } ∷ before)) (sym is) (record { in_groups = was.in_groups; in_range = was.in_range; in_copy = was.in_copy })

  pub stored-at : (past : Past) → AreFine c past → AreStoredAt c y past
  stored-at [] fine = first-stored
  stored-at (p ∷ before) fine = next-stored p before p.deed refl fine.1 (stored-at before fine.0)

-- ---- attributes

module _ (c : Config) (served : IsServable c) (x : ℕ) (below : x < length (attributes c)) where
  configured-typed : IsValueOf c x (value_at (configured_model c) x [])
  configured-typed =
      let there : x < length (opened c) = omega (arith, below, length_opened c served.domains) in
      let held : AreHeld c (opened c) = opened-held c served in
      let kind = held.kinds x there in
      let cell = held.sound x there in
      subst (IsValueOf c x) (opened_stands c served.domains x there) (record {
        kind = ap (λ k. is_kind k (attribute (opened c) x).held.value) (sym kind) ∙ cell.kind;
        range = ap (λ k. is_in_range k (attribute (opened c) x).held.value) (sym kind) ∙ cell.range;
        sound = cell.sound;
      })

  -- it stands under SG
  of-setting : (d : ℕ) → is_setting_of (configured_model c) d x ≡ true → ((attr_of (configured_model c) x).access ≡ model.active) × ((attr_of (configured_model c) x).domain ≡ d)
  of-setting d is =
      let b = and_parts (is_active_setting (attr_of (configured_model c) x).access) ((attr_of (configured_model c) x).domain == d) is in
      (active-is (attr_of (configured_model c) x).access b.0, eqb-true (attr_of (configured_model c) x).domain d b.1)
    where
      active-is : (k : Access) → is_active_setting k ≡ true → k ≡ model.active
      active-is model.active h = refl
      active-is model.reported h = absurd (cc h)
      active-is model.writable h = absurd (cc h)
      active-is model.edited h = absurd (cc h)

  stored-of : (d : ℕ) (past : Past) → AreFine c past → is_setting_of (configured_model c) d x ≡ true → AreStoredAt c x past
  stored-of d past fine is = let l = active-line c x (of-setting d is).0 in stored-at c served x l.0 l.1 past fine

  abbrev Given : Option Value → Type 0
  Given None = Unit {0}
  Given (Some v) = IsValueOf c x v

  gives-typed : (d : Deed) (before : Past) → IsFine c d → AreFine c before → Given (gives (configured_model c) x d before)
  gives-typed (valued settings) before fine all = by (set_to x settings) (set-value (IsValueOf c) x settings (typed-set c settings fine))
    where
      by : (o : Option Value) → ((v : Value) → o ≡ Some v → IsValueOf c x v) → Given o
      by None go = tt
      by (Some v) go = go v refl
  gives-typed (put a y v) before fine all = by (y == x) refl
    where
      by : (b : Bool) → (y == x) ≡ b → Given (if b then Some v else None)
      by true same = subst (λ z. IsValueOf c z v) (eqb-true y x same) fine.1
      by false same = tt
  gives-typed (activated a d n) before fine all = by (is_setting_of (configured_model c) d x) refl
    where
      by : (b : Bool) → is_setting_of (configured_model c) d x ≡ b → Given (if b then Some (stored (configured_model c) x before (group n)) else None)
      by true is = (stored-of d before all is).in_groups n fine.0 (subst (λ e. n ≤ (groups_of (configured_model c) e).count) (sym (of-setting d is).1) fine.1)
      by false is = tt
  gives-typed (confirmed a d) before fine all = by (is_setting_of (configured_model c) d x) refl (edit d before) refl
    where
      copy-if : (b : Bool) → IsValueOf c x (stored (configured_model c) x before copy) → Given (if b then Some (stored (configured_model c) x before copy) else None)
      copy-if true h = h
      copy-if false h = tt

      by : (b : Bool) → is_setting_of (configured_model c) d x ≡ b → (o : Option Edit) → edit d before ≡ o
          → Given (if b && option_map_or (λ (e : Edit). e.group == active (configured_model c) d before) o false then Some (stored (configured_model c) x before copy) else None)
      by true is (Some e) i = copy-if (e.group == active (configured_model c) d before) ((stored-of d before all is).in_copy e (ap (λ z. edit z before) (of-setting d is).1 ∙ i))
      by true is None i = tt
      by false is o i = tt
  gives-typed _ before fine all = tt

  pub value-typed : (past : Past) → AreFine c past → IsValueOf c x (value_at (configured_model c) x past)
  value-typed [] fine = configured-typed
  value-typed (p ∷ before) fine = by (gives (configured_model c) x p.deed before) (gives-typed p.deed before fine.1 fine.0) (value-typed before fine.0)
    where
      by : (o : Option Value) → Given o → IsValueOf c x (value_at (configured_model c) x before) → IsValueOf c x (unwrap_or o (value_at (configured_model c) x before))
      by None h was = was
      by (Some v) h was = h
