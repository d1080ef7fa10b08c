-- What the frame of a configuration says of the setting groups: which attributes are among them, and in which domains.
use Rattle.std.proofs.Common.{◌≡◌, ◌≢◌, ◌≤◌, ◌<◌, ◌+◌, ℕ, zero, suc, Bool, true, false, List, [], ◌∷◌, ◌++◌, length, map, flat_map, refl, sym, ap, ap₂, subst, ◌∙◌, arith, Option, None, Some, is_some, slice_index_or, slice_get, unwrap_or, length-append, position, inl, inr, ◌⊎◌, true≢false}
use Rattle.std.specs.Prelude.{◌==◌, ◌||◌, codes, nat_lt, if◌then◌else◌}
use Rattle.std.specs.List.{All, find}
use Rattle.std.specs.Option.{option_map}
use Rattle.std.specs.Str.{bytes_eq}
use Rattle.std.proofs.lemmas.Bool.{ltb-true, ltb-false}
use Rattle.std.proofs.lemmas.List.{length-map}
use Rattle.std.proofs.lemmas.List.Elements.{All-head, All-tail, All-nil, All-cons, All-append, All-map}
use Rattle.sv_base.specs.Same.{values_of}
use Rattle.sv_base.specs.declared.config.Config.{Config}
use Rattle.sv_base.specs.declared.config.AttrDef.{AttrDef}
use Rattle.sv_base.specs.declared.config.CtlDef.{CtlDef}
use Rattle.sv_base.specs.declared.config.SgDef.{SgDef}
use Rattle.sv_base.specs.declared.value.Value.TheVariants as kinds
use Rattle.sv_base.specs.Kinds.{kind_of}
use Rattle.bay_rooms.specs.Slots.{Held}
use Rattle.bay_model.specs.Attributes.{attributes, attrs_defined, attr_defined, attrs_generated, access_of, twins}
use Rattle.bay_model.specs.Configured.{groups_defined}
use Rattle.bay_model.specs.Lookups.{attr_of, groups_of, no_attr}
use Rattle.bay_model.specs.Model as model
use Rattle.bay_model.specs.Model.{Access, Attr, Groups, Model}
use Rattle.bay_model.specs.Named.{configured_model}
use Rattle.bay_model.specs.Generated.{Parameter, parameters}
use Rattle.bay_model.specs.NamedLines.{domain_number, domains, generated, is_setting}
use Rattle.list_laws.proofs.Among.{Among}
use Rattle.list_laws.proofs.Places.{at_position, equal-number}
use Rattle.setting_groups.specs.Frames.{Frame, frame, count_in, IsFramed, IsComplete, Holds, IsFit}
use Rattle.setting_groups.specs.Grouped.{Settled, Grouped, no_setting, setting_at, place_in}
use Rattle.setting_groups.specs.Opened.{block_defined, held_as, opened, place_in as place_of, setting_defined, settings_from, HasValues, IsGrouped}
use Rattle.setting_groups.specs.Standing.{AreApart, IsTwin, Stands}
use Rattle.setting_groups.proofs.OpenLaws.{opened_stands, place_is}
use Rattle.list_laws.proofs.Distinct.{octets_own}

-- ---- two with the same frames

place-frames : (x : ℕ) (ts us : List Settled) → map frame ts ≡ map frame us → place_in x ts ≡ place_in x us
place-frames x [] [] same = refl
place-frames x [] (u ∷ us) same = cc
place-frames x (t ∷ ts) [] same = cc
place-frames x (t ∷ ts) (u ∷ us) same =
    let one : frame t ≡ frame u = cc in
    let rest : map frame ts ≡ map frame us = cc in
    ap₂ (λ e o. if x == e then Some 0 else option_map suc o) (ap (λ (f : Frame). f.attr) one) (place-frames x ts us rest)

frame-at : (ts us : List Settled) (k : ℕ) → map frame ts ≡ map frame us → frame (slice_index_or ts k no_setting) ≡ frame (slice_index_or us k no_setting)
frame-at [] [] k same = refl
frame-at [] (u ∷ us) k same = cc
frame-at (t ∷ ts) [] k same = cc
frame-at (t ∷ ts) (u ∷ us) zero same = cc
frame-at (t ∷ ts) (u ∷ us) (suc k) same = let rest : map frame ts ≡ map frame us = cc in frame-at ts us k rest

same-length : {A B : Type 0} (f : A → B) (xs ys : List A) → map f xs ≡ map f ys → length xs ≡ length ys
same-length f xs ys same = sym (length-map xs f) ∙ (ap length same ∙ length-map ys f)

-- ---- the lines under SG, and their twins

line-placed : (ds : List (List ℕ)) (x : ℕ) (as_ : List AttrDef) (p : ℕ) (a : AttrDef) → slice_get as_ p ≡ Some a → is_setting a ≡ true → is_some (place_in (x + p) (settings_from ds x as_)) ≡ true
line-placed ds x [] p a there is = cc
line-placed ds x (b ∷ bs) zero a there is =
    let same : b ≡ a = cc in
    let own : is_setting b ≡ true = ap is_setting same ∙ is in
    rw (own, equal-number (x + 0) x (omega arith)) refl
line-placed ds x (b ∷ bs) (suc p) a there is = by (is_setting b) (line-placed ds (x + 1) bs p a there is)
  where
    more : List Settled
    more = settings_from ds (x + 1) bs

    next : is_some (place_in (x + 1 + p) more) ≡ true → is_some (place_in (x + suc p) more) ≡ true
    next h = ap (λ y. is_some (place_in y more)) (let e : x + suc p ≡ x + 1 + p = omega arith in e) ∙ h

    behind : (b : Bool) (o : Option ℕ) → is_some o ≡ true → is_some (if b then Some 0 else option_map suc o) ≡ true
    behind true o h = refl
    behind false None h = h
    behind false (Some k) h = refl

    by : (t : Bool) → is_some (place_in (x + 1 + p) more) ≡ true → is_some (place_in (x + suc p) (if t then setting_defined x (place_of ds b.domain) b ∷ more else more)) ≡ true
    by true h = behind (x + suc p == x) (place_in (x + suc p) more) (next h)
    by false h = next h

-- the twin of a setting
record IsTwinOf (c : Config) (a : Attr) (t : Settled) : Type 0 where
  original : a.original ≡ t.attr
  domain : a.domain ≡ t.domain
  kind : a.kind ≡ t.copy.kind

twin-first : (c : Config) (x y : ℕ) (a : AttrDef) → x ≡ y → is_setting a ≡ true → IsTwinOf c (record (attr_defined c x a) { access = model.edited }) (setting_defined y (place_of (domains c) a.domain) a)
twin-first c x y a same is = record { original = rw is same; domain = sym (ap (λ p. unwrap_or p 0) (place_is a.domain (domains c))); kind = refl }

twin-at : (c : Config) (x y : ℕ) (as_ : List AttrDef) (k : ℕ) → x ≡ y → k < length (settings_from (domains c) y as_)
    → IsTwinOf c (unwrap_or (slice_get (twins c x as_) k) no_attr) (slice_index_or (settings_from (domains c) y as_) k no_setting)
twin-at c x y [] k same below = absurd (omega (arith, below))
twin-at c x y (a ∷ as_) k same below = by (is_setting a) refl (λ j. twin-at c (1 + x) (y + 1) as_ j (omega (arith, same))) k below
  where
    first : Settled
    first = setting_defined y (place_of (domains c) a.domain) a

    more : List Settled
    more = settings_from (domains c) (y + 1) as_

    by : (b : Bool) → is_setting a ≡ b → ((j : ℕ) → j < length more → IsTwinOf c (unwrap_or (slice_get (twins c (1 + x) as_) j) no_attr) (slice_index_or more j no_setting)) → (k : ℕ) → k < length (if b then first ∷ more else more)
        → IsTwinOf c (unwrap_or (slice_get (if b then record (attr_defined c x a) { access = model.edited } ∷ twins c (1 + x) as_ else twins c (1 + x) as_) k) no_attr) (slice_index_or (if b then first ∷ more else more) k no_setting)
    by true is later zero below = twin-first c x y a same is
    by true is later (suc k) below = later k (omega (arith, below))
    by false is later k below = later k below

-- as many as there are twins
twins-count : (c : Config) (ds : List (List ℕ)) (x y : ℕ) (as_ : List AttrDef) → length (settings_from ds y as_) ≡ length (twins c x as_)
twins-count c ds x y [] = refl
twins-count c ds x y (a ∷ as_) = by (is_setting a) (twins-count c ds (1 + x) (y + 1) as_)
  where
    by : (b : Bool) → length (settings_from ds (y + 1) as_) ≡ length (twins c (1 + x) as_)
        → length (if b then setting_defined y (place_of ds a.domain) a ∷ settings_from ds (y + 1) as_ else settings_from ds (y + 1) as_) ≡ length (if b then record (attr_defined c x a) { access = model.edited } ∷ twins c (1 + x) as_ else twins c (1 + x) as_)
    by true h = ap suc h
    by false h = h

pub lines-count : (c : Config) (x : ℕ) (as_ : List AttrDef) → length (attrs_defined c x as_) ≡ length as_
lines-count c x [] = refl
lines-count c x (a ∷ as_) = ap suc (lines-count c (1 + x) as_)

-- ---- what stands at a number

own-at : (c : Config) (x : ℕ) (as_ : List AttrDef) (others : List Attr) (p : ℕ) → p < length as_ → (a : AttrDef) × (slice_get as_ p ≡ Some a) × ((unwrap_or (slice_get (attrs_defined c x as_ ++ others) p) no_attr).access ≡ access_of a.fc)
own-at c x [] others p below = absurd (omega (arith, below))
own-at c x (a ∷ as_) others zero below = (a, refl, refl)
own-at c x (a ∷ as_) others (suc p) below = own-at c (1 + x) as_ others p (omega (arith, below))

behind : (c : Config) (x : ℕ) (as_ : List AttrDef) (others : List Attr) (p : ℕ) → length as_ ≤ p → (k : ℕ) × (p ≡ length as_ + k) × (slice_get (attrs_defined c x as_ ++ others) p ≡ slice_get others k)
behind c x [] others p from = (p, omega arith, refl)
behind c x (a ∷ as_) others zero from = absurd (omega (arith, from))
behind c x (a ∷ as_) others (suc p) from = let r = behind c (1 + x) as_ others p (omega (arith, from)) in (r.0, omega (arith, r.1), r.2)

active-setting : (a : AttrDef) → access_of a.fc ≡ model.active → is_setting a ≡ true
active-setting a is = by (bytes_eq a.fc (codes "SG")) (bytes_eq a.fc (codes "CF") || bytes_eq a.fc (codes "DC") || bytes_eq a.fc (codes "SP") || bytes_eq a.fc (codes "SV")) is
  where
    by : (s t : Bool) → (if s then model.active else (if t then model.writable else model.reported)) ≡ model.active → s ≡ true
    by true t e = refl
    by false true e = cc
    by false false e = cc

no-active : (ts : List Attr) (k : ℕ) → All (λ (a : Attr). a.access ≢ model.active) ts → (unwrap_or (slice_get ts k) no_attr).access ≢ model.active
no-active [] k all = λ e. cc
no-active (t ∷ ts) zero all = All-head (λ (a : Attr). a.access ≢ model.active) t ts all
no-active (t ∷ ts) (suc k) all = no-active ts k (All-tail (λ (a : Attr). a.access ≢ model.active) t ts all)

twins-edit : (c : Config) (x : ℕ) (as_ : List AttrDef) → All (λ (a : Attr). a.access ≢ model.active) (twins c x as_)
twins-edit c x [] = All-nil (λ (a : Attr). a.access ≢ model.active)
twins-edit c x (a ∷ as_) = by (is_setting a) (twins-edit c (1 + x) as_)
  where
    by : (b : Bool) → All (λ (t : Attr). t.access ≢ model.active) (twins c (1 + x) as_) → All (λ (t : Attr). t.access ≢ model.active) (if b then record (attr_defined c x a) { access = model.edited } ∷ twins c (1 + x) as_ else twins c (1 + x) as_)
    by true h = All-cons (λ (t : Attr). t.access ≢ model.active) (record (attr_defined c x a) { access = model.edited }) (twins c (1 + x) as_) (λ e. cc) h
    by false h = h

module _ (c : Config) (k : CtlDef) where
  abbrev generated_of : Parameter → Attr
  generated_of p = record { access = model.reported; kind = kind_of p.kind; dchg = false; qchg = false; dupd = false; initial = p.value ∷ []; domain = domain_number c k.domain; original = 0 }

  own-report : (ps : List Parameter) → All (λ (a : Attr). a.access ≢ model.active) (map generated_of ps)
  own-report [] = All-nil (λ (a : Attr). a.access ≢ model.active)
  own-report (p ∷ ps) = All-cons (λ (a : Attr). a.access ≢ model.active) (generated_of p) (map generated_of ps) (λ e. cc) (own-report ps)

generated-report : (c : Config) (ks : List CtlDef) → All (λ (a : Attr). a.access ≢ model.active) (flat_map (attrs_generated c) ks)
generated-report c [] = All-nil (λ (a : Attr). a.access ≢ model.active)
generated-report c (k ∷ ks) = All-append (λ (a : Attr). a.access ≢ model.active) (attrs_generated c k) (flat_map (attrs_generated c) ks) (own-report c k (parameters k)) (generated-report c ks)

pub generated-count : (c : Config) (ks : List CtlDef) → length (flat_map (attrs_generated c) ks) ≡ length (flat_map parameters ks)
generated-count c [] = refl
generated-count c (k ∷ ks) = omega (arith, length-append (attrs_generated c k) (flat_map (attrs_generated c) ks), length-append (parameters k) (flat_map parameters ks), length-map (parameters k) (generated_of c k), generated-count c ks)

slice-behind : {A : Type 0} (xs ys : List A) (p k : ℕ) → p ≡ length xs + k → slice_get (xs ++ ys) p ≡ slice_get ys k
slice-behind [] ys p k e = ap (slice_get ys) (let same : p ≡ k = omega (arith, e) in same)
slice-behind (x ∷ xs) ys zero k e = absurd (omega (arith, e))
slice-behind (x ∷ xs) ys (suc p) k e = slice-behind xs ys p k (omega (arith, e))

module _ (c : Config) where
  -- what stands after the lines, and where the twins begin
  abbrev behind_lines : List Attr
  behind_lines = flat_map (attrs_generated c) c.controls ++ twins c 0 c.attrs

  abbrev twins_from : ℕ
  twins_from = length c.attrs + length (generated c)

  -- an SG attribute is one of a line under SG
  active-line : (x : ℕ) → (attr_of (configured_model c) x).access ≡ model.active → (a : AttrDef) × (slice_get c.attrs x ≡ Some a) × (is_setting a ≡ true)
  active-line x is = by (nat_lt x (length c.attrs)) refl
    where
      none : All (λ (a : Attr). a.access ≢ model.active) behind_lines
      none = All-append (λ (a : Attr). a.access ≢ model.active) (flat_map (attrs_generated c) c.controls) (twins c 0 c.attrs) (generated-report c c.controls) (twins-edit c 0 c.attrs)

      by : (t : Bool) → nat_lt x (length c.attrs) ≡ t → (a : AttrDef) × (slice_get c.attrs x ≡ Some a) × (is_setting a ≡ true)
      by true test = let r = own-at c 0 c.attrs behind_lines x (ltb-true x (length c.attrs) test) in (r.0, r.1, active-setting r.0 (sym r.2 ∙ is))
      by false test = let r = behind c 0 c.attrs behind_lines x (ltb-false x (length c.attrs) test) in
          absurd (no-active behind_lines r.0 none (ap (λ (o : Option Attr). (unwrap_or o no_attr).access) (sym r.2) ∙ is))

  twin-place : (k : ℕ) → attr_of (configured_model c) (twins_from + k) ≡ unwrap_or (slice_get (twins c 0 c.attrs) k) no_attr
  twin-place k = ap (λ (o : Option Attr). unwrap_or o no_attr)
      (slice-behind (attrs_defined c 0 c.attrs) behind_lines (twins_from + k) (length (generated c) + k) (omega (arith, lines-count c 0 c.attrs))
      ∙ slice-behind (flat_map (attrs_generated c) c.controls) (twins c 0 c.attrs) (length (generated c) + k) k (omega (arith, generated-count c c.controls)))

  module _ (s : Grouped) (framed : IsFramed c s) where
    pub complete : IsComplete (configured_model c) s
    complete x is =
        let line = active-line x is in
        ap is_some (place-frames x s.settings (settings_from (domains c) 0 c.attrs) framed.settings)
        ∙ (ap (λ y. is_some (place_in y (settings_from (domains c) 0 c.attrs))) (let e : x ≡ 0 + x = omega arith in e) ∙ line-placed (domains c) 0 c.attrs x line.0 line.1 line.2)

    -- as many as there are settings
    twins-same : length (twins c 0 c.attrs) ≡ length s.settings
    twins-same = omega (arith, twins-count c (domains c) 0 0 c.attrs, same-length frame s.settings (settings_from (domains c) 0 c.attrs) framed.settings)

    -- the twins stand after the lines and what controls generate, in the order of the settings
    pub settings-count : length (attributes c) ≡ length c.attrs + length (generated c) + length s.settings
    settings-count = omega (arith, length-append (attrs_defined c 0 c.attrs) behind_lines, length-append (flat_map (attrs_generated c) c.controls) (twins c 0 c.attrs), lines-count c 0 c.attrs, generated-count c c.controls, twins-same)

    pub is-twin : (k : ℕ) → k < length s.settings → IsTwin (configured_model c) (length c.attrs + length (generated c) + k) (setting_at s k)
    is-twin k below =
        let o : Settled = slice_index_or (settings_from (domains c) 0 c.attrs) k no_setting in
        let same : frame (setting_at s k) ≡ frame o = frame-at s.settings (settings_from (domains c) 0 c.attrs) k framed.settings in
        let t = twin-at c 0 0 c.attrs k refl (omega (arith, below, same-length frame s.settings (settings_from (domains c) 0 c.attrs) framed.settings)) in
        record {
          original = ap (λ (a : Attr). a.original) (twin-place k) ∙ (t.original ∙ sym (ap (λ (f : Frame). f.attr) same));
          domain = ap (λ (a : Attr). a.domain) (twin-place k) ∙ (t.domain ∙ sym (ap (λ (f : Frame). f.domain) same));
          kind = ap (λ (a : Attr). a.kind) (twin-place k) ∙ (t.kind ∙ sym (ap (λ (f : Frame). f.kind) same));
        }

    -- it stands under SE
    pub twin-edited : (k : ℕ) → k < length s.settings → (attr_of (configured_model c) (length c.attrs + length (generated c) + k)).access ≡ model.edited
    twin-edited k below = ap (λ (a : Attr). a.access) (twin-place k) ∙ edited-at (twins c 0 c.attrs) k (all-edited 0 c.attrs) (omega (arith, below, twins-same))
      where
        edited-at : (ts : List Attr) (j : ℕ) → All (λ (a : Attr). a.access ≡ model.edited) ts → j < length ts → (unwrap_or (slice_get ts j) no_attr).access ≡ model.edited
        edited-at [] j all below = absurd (omega (arith, below))
        edited-at (t ∷ ts) zero all below = All-head (λ (a : Attr). a.access ≡ model.edited) t ts all
        edited-at (t ∷ ts) (suc j) all below = edited-at ts j (All-tail (λ (a : Attr). a.access ≡ model.edited) t ts all) (omega (arith, below))

        all-edited : (x : ℕ) (as_ : List AttrDef) → All (λ (a : Attr). a.access ≡ model.edited) (twins c x as_)
        all-edited x [] = All-nil (λ (a : Attr). a.access ≡ model.edited)
        all-edited x (a ∷ as_) = by (is_setting a) (all-edited (1 + x) as_)
          where
            by : (b : Bool) → All (λ (t : Attr). t.access ≡ model.edited) (twins c (1 + x) as_) → All (λ (t : Attr). t.access ≡ model.edited) (if b then record (attr_defined c x a) { access = model.edited } ∷ twins c (1 + x) as_ else twins c (1 + x) as_)
            by true h = All-cons (λ (t : Attr). t.access ≡ model.edited) (record (attr_defined c x a) { access = model.edited }) (twins c (1 + x) as_) refl h
            by false h = h

-- ---- of a configuration that is grouped

module _ (c : Config) (h : IsGrouped c) (s : Grouped) (framed : IsFramed c s) where
  abbrev first : Grouped
  first = opened c (domains c)

  stands-first : Stands first (configured_model c) []
  stands-first = opened_stands c h

  settings-same : length s.settings ≡ length first.settings
  settings-same = same-length frame s.settings first.settings framed.settings

  domains-same : length s.domains ≡ length first.domains
  domains-same = same-length count_in s.domains first.domains framed.domains

  pub domains-count : length s.domains ≡ length (domains c)
  domains-count = domains-same ∙ length-map (domains c) (λ d. block_defined (groups_defined c.groups d))

  frame-first : (k : ℕ) → frame (setting_at s k) ≡ frame (setting_at first k)
  frame-first k = frame-at s.settings first.settings k framed.settings

  pub within : (k : ℕ) → k < length s.settings → (setting_at s k).domain < length s.domains
  within k below = omega (arith, stands-first.within k (omega (arith, below, settings-same)), ap (λ (f : Frame). f.domain) (frame-first k), domains-same)

  pub kind-at : (k : ℕ) → k < length s.settings → (setting_at s k).copy.kind ≡ (attr_of (configured_model c) (setting_at s k).attr).kind
  kind-at k below = ap (λ (f : Frame). f.kind) (frame-first k) ∙ ((stands-first.settings k (omega (arith, below, settings-same))).kind ∙ ap (λ x. (attr_of (configured_model c) x).kind) (sym (ap (λ (f : Frame). f.attr) (frame-first k))))

  pub access-at : (k : ℕ) → k < length s.settings → (attr_of (configured_model c) (setting_at s k).attr).access ≡ model.active
  access-at k below = ap (λ x. (attr_of (configured_model c) x).access) (ap (λ (f : Frame). f.attr) (frame-first k)) ∙ (stands-first.settings k (omega (arith, below, settings-same))).access

  pub apart : AreApart s
  apart = λ j k lj lk e. stands-first.apart j k (omega (arith, lj, settings-same)) (omega (arith, lk, settings-same)) (sym (ap (λ (f : Frame). f.attr) (frame-first j)) ∙ (e ∙ ap (λ (f : Frame). f.attr) (frame-first k)))

  -- a domain that has groups is there
  pub domain-within : (d : ℕ) → 0 < (groups_of (configured_model c) d).count → d < length s.domains
  domain-within d some = let e : length s.domains ≡ length (map (groups_defined c.groups) (domains c)) = domains-count ∙ sym (length-map (domains c) (groups_defined c.groups)) in
      omega (arith, e, got (map (groups_defined c.groups) (domains c)) d some)
    where
      got : (gs : List Groups) (d : ℕ) → 0 < (unwrap_or (slice_get gs d) (record { count = 0; active = 0 })).count → d < length gs
      got [] d some = absurd (omega (arith, some))
      got (g ∷ gs) zero some = omega arith
      got (g ∷ gs) (suc d) some = omega (arith, got gs d some)

-- ---- how they begin

module _ (c : Config) (P : Held → Type 0) where
  abbrev AreSo : AttrDef → Type 0
  AreSo a = All (λ v. P (held_as a.kind v)) (values_of a.values)

  first-holds : (ds : List (List ℕ)) (x : ℕ) (as_ : List AttrDef) → All HasValues as_ → All AreSo as_ → All (Holds P) (settings_from ds x as_)
  first-holds ds x [] some so = All-nil (Holds P)
  first-holds ds x (a ∷ as_) some so = by (is_setting a) (first-holds ds (x + 1) as_ (All-tail HasValues a as_ some) (All-tail AreSo a as_ so))
    where
      own : AreSo a
      own = All-head AreSo a as_ so

      one : Holds P (setting_defined x (place_of ds a.domain) a)
      one = record {
        copy = own 0 kinds.Other (All-head HasValues a as_ some).some;
        groups = All-map P (held_as a.kind) (values_of a.values) own;
        kinds = All-map (λ (h : Held). h.kind ≡ kind_of a.kind) (held_as a.kind) (values_of a.values) (λ k d below. refl);
      }

      by : (b : Bool) → All (Holds P) (settings_from ds (x + 1) as_) → All (Holds P) (if b then setting_defined x (place_of ds a.domain) a ∷ settings_from ds (x + 1) as_ else settings_from ds (x + 1) as_)
      by true h = All-cons (Holds P) (setting_defined x (place_of ds a.domain) a) (settings_from ds (x + 1) as_) one h
      by false h = h

  pub first-fit : IsGrouped c → All AreSo c.attrs → IsFit c P (opened c (domains c))
  first-fit h so = record { framed = record { settings = refl; domains = refl }; holds = first-holds (domains c) 0 c.attrs h.values so }

-- ---- the domains of the blocks have groups

some-count : (gs : List SgDef) (d : List ℕ) (g : SgDef) → All (λ (q : SgDef). (1 ≤ q.active) × (q.active ≤ q.count)) gs → Among g gs → bytes_eq d g.domain ≡ true → 0 < (groups_defined gs d).count
some-count [] d g are i is = absurd i
some-count (q ∷ gs) d g are i is = by (bytes_eq d q.domain) refl i (some-count gs d g (All-tail (λ (k : SgDef). (1 ≤ k.active) × (k.active ≤ k.count)) q gs are))
  where
    own : (1 ≤ q.active) × (q.active ≤ q.count)
    own = All-head (λ (k : SgDef). (1 ≤ k.active) × (k.active ≤ k.count)) q gs are

    by : (b : Bool) → bytes_eq d q.domain ≡ b → (g ≡ q) ⊎ Among g gs → (Among g gs → bytes_eq d g.domain ≡ true → 0 < (groups_defined gs d).count)
        → 0 < (unwrap_or {T = Groups} (option_map (λ (k : SgDef). record { count = k.count; active = k.active }) (if b then Some q else find (λ (k : SgDef). bytes_eq d k.domain) gs)) (record { count = 0; active = 0 })).count
    by true test j later = omega (arith, own.0, own.1)
    by false test (inl e) later = absurd (true≢false (sym (ap (λ (k : SgDef). bytes_eq d k.domain) (sym e) ∙ is) ∙ test))
    by false test (inr j) later = later j is

pub groups-there : (c : Config) → IsGrouped c → (g : SgDef) → Among g c.groups → 0 < (groups_of (configured_model c) (domain_number c g.domain)).count
groups-there c h g i =
    let there : is_some (position (bytes_eq g.domain) (domains c)) ≡ true = among-all (λ (q : SgDef). is_some (position (bytes_eq q.domain) (domains c)) ≡ true) c.groups h.there g i in
    let same : groups_of (configured_model c) (domain_number c g.domain) ≡ groups_defined c.groups g.domain = at_position (groups_defined c.groups) (record { count = 0; active = 0 }) g.domain (domains c) there in
    omega (arith, ap (λ (k : Groups). k.count) same, some-count c.groups g.domain g h.groups i (octets_own g.domain))
  where
    among-all : {X : Type 0} (P : X → Type 0) (xs : List X) → All P xs → (x : X) → Among x xs → P x
    among-all P [] all x i = absurd i
    among-all P (y ∷ ys) all x (inl e) = subst P (sym e) (All-head P y ys all)
    among-all P (y ∷ ys) all x (inr i) = among-all P ys (All-tail P y ys all) x i
