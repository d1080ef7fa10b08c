-- The attributes of a configuration by their numbers: those of lines, those that controls generate, and the SE twins of settings.
use Rattle.std.proofs.Common.{◌≡◌, ℕ, zero, suc, ◌+◌, ◌<◌, ◌⊎◌, inl, inr, Bool, true, false, ◌||◌, List, [], ◌∷◌, ◌++◌, map, flat_map, length, refl, sym, ap, subst, ◌∙◌, arith, length-append}
use Rattle.std.specs.Prelude.{codes, slice_get, unwrap_or, if◌then◌else◌}
use Rattle.std.specs.Str.{bytes_eq}
use Rattle.list_laws.proofs.Among.{Each, each-both, At, at-within}
use Rattle.sv_base.specs.declared.config.Config.{Config}
use Rattle.sv_base.specs.declared.config.AttrDef.{AttrDef}
use Rattle.sv_base.specs.declared.config.CtlDef.{CtlDef}
use Rattle.bay_model.specs.Attributes.{attributes, attrs_defined, attr_defined, attrs_generated, twins, access_of}
use Rattle.bay_model.specs.Generated.{parameters}
use Rattle.bay_model.specs.Lookups.{attr_of, no_attr}
use Rattle.bay_model.specs.Model as model
use Rattle.bay_model.specs.Model.{Attr, Access}
use Rattle.bay_model.specs.Named.{configured_model}
use Rattle.bay_model.specs.NamedLines.{is_setting, domain_number}
use Rattle.setting_groups.proofs.FirstLaws.{lines-count}

abbrev get : List Attr → ℕ → Attr
get as_ x = unwrap_or (slice_get as_ x) no_attr

-- attribute x is that of a line
pub record IsLineAt (c : Config) (x : ℕ) : Type 0 where
  pub line : AttrDef
  pub at : At x line c.attrs
  pub number : ℕ
  pub is : attr_of (configured_model c) x ≡ attr_defined c number line

-- attribute x is the edit copy of a setting
pub record IsTwinAt (c : Config) (x : ℕ) : Type 0 where
  pub line : AttrDef
  pub at : At (attr_of (configured_model c) x).original line c.attrs
  pub setting : is_setting line ≡ true
  pub access : (attr_of (configured_model c) x).access ≡ model.edited
  pub domain : (attr_of (configured_model c) x).domain ≡ domain_number c line.domain
  pub below : (attr_of (configured_model c) x).original < length (attributes c)
  pub kind : (attr_of (configured_model c) (attr_of (configured_model c) x).original).kind ≡ (attr_of (configured_model c) x).kind

-- ---- lines

line-get : (c : Config) (z : ℕ) (as_ : List AttrDef) (others : List Attr) (x : ℕ) (a : AttrDef) → At x a as_ → (n : ℕ) × (get (attrs_defined c z as_ ++ others) x ≡ attr_defined c n a)
line-get c z [] others x a at = absurd at
line-get c z (b ∷ as_) others zero a at = (z, ap (attr_defined c z) (sym at))
line-get c z (b ∷ as_) others (suc x) a at = line-get c (1 + z) as_ others x a at

pub line-at : (c : Config) (x : ℕ) (a : AttrDef) → At x a c.attrs → IsLineAt c x
line-at c x a at = let g = line-get c 0 c.attrs (flat_map (attrs_generated c) c.controls ++ twins c 0 c.attrs) x a at in record { line = a; at = at; number = g.0; is = g.1 }

-- with that line
pub line-told : (c : Config) (x : ℕ) (a : AttrDef) → At x a c.attrs → (l : IsLineAt c x) × (l.line ≡ a)
line-told c x a at = let g = line-get c 0 c.attrs (flat_map (attrs_generated c) c.controls ++ twins c 0 c.attrs) x a at in (record { line = a; at = at; number = g.0; is = g.1 }, refl)

pub line-below : (c : Config) (x : ℕ) (a : AttrDef) → At x a c.attrs → x < length (attributes c)
line-below c x a at = omega (arith, at-within x a c.attrs at, length-append (attrs_defined c 0 c.attrs) (flat_map (attrs_generated c) c.controls ++ twins c 0 c.attrs), lines-count c 0 c.attrs)

-- at a line, or beyond them
line-or : (c : Config) (z : ℕ) (as_ : List AttrDef) (others : List Attr) (x : ℕ) → ((a : AttrDef) × At x a as_) ⊎ ((k : ℕ) × (get (attrs_defined c z as_ ++ others) x ≡ get others k))
line-or c z [] others x = inr (x, refl)
line-or c z (b ∷ as_) others zero = inl (b, refl)
line-or c z (b ∷ as_) others (suc x) = line-or c (1 + z) as_ others x

-- ---- what is reported, or beyond

abbrev IsReported : Attr → Type 0
IsReported a = a.access ≡ model.reported

reported-or : (xs ys : List Attr) (k : ℕ) → Each IsReported xs → (IsReported (get (xs ++ ys) k)) ⊎ ((j : ℕ) × (get (xs ++ ys) k ≡ get ys j))
reported-or [] ys k h = inr (k, refl)
reported-or (x ∷ xs) ys zero h = inl h.0
reported-or (x ∷ xs) ys (suc k) h = reported-or xs ys k h.1

each-map : {X Y : Type 0} (P : Y → Type 0) (f : X → Y) (xs : List X) → ((x : X) → P (f x)) → Each P (map f xs)
each-map P f [] h = tt
each-map P f (x ∷ xs) h = (h x, each-map P f xs h)

generated-reported : (c : Config) (ks : List CtlDef) → Each IsReported (flat_map (attrs_generated c) ks)
generated-reported c [] = tt
generated-reported c (k ∷ ks) = each-both IsReported (attrs_generated c k) (flat_map (attrs_generated c) ks) (each-map IsReported _ (parameters k) (λ p. refl)) (generated-reported c ks)

-- ---- twins

abbrev IsTwinOf : Config → ℕ → List AttrDef → Attr → Type 0
IsTwinOf c z as_ t = (y : ℕ) × (n : ℕ) × (a : AttrDef) × (n ≡ z + y) × At y a as_ × (is_setting a ≡ true) × (t ≡ record (attr_defined c n a) { access = model.edited })

twin-or : (c : Config) (z : ℕ) (as_ : List AttrDef) (k : ℕ) → IsTwinOf c z as_ (get (twins c z as_) k) ⊎ (IsReported (get (twins c z as_) k))
twin-or c z [] k = inr refl
twin-or c z (a ∷ as_) k = by (is_setting a) refl k (twin-or c (1 + z) as_)
  where
    deeper : (t : Attr) → IsTwinOf c (1 + z) as_ t ⊎ IsReported t → IsTwinOf c z (a ∷ as_) t ⊎ IsReported t
    deeper t (inl i) = inl (suc i.0, i.1, i.2, omega (arith, i.3), i.4, i.5, i.6)
    deeper t (inr r) = inr r

    by : (b : Bool) → is_setting a ≡ b → (k : ℕ) → ((j : ℕ) → IsTwinOf c (1 + z) as_ (get (twins c (1 + z) as_) j) ⊎ IsReported (get (twins c (1 + z) as_) j))
        → IsTwinOf c z (a ∷ as_) (get (if b then record (attr_defined c z a) { access = model.edited } ∷ twins c (1 + z) as_ else twins c (1 + z) as_) k)
        ⊎ IsReported (get (if b then record (attr_defined c z a) { access = model.edited } ∷ twins c (1 + z) as_ else twins c (1 + z) as_) k)
    by true is zero go = inl (0, z, a, omega arith, refl, is, refl)
    by true is (suc k) go = deeper (get (twins c (1 + z) as_) k) (go k)
    by false is k go = deeper (get (twins c (1 + z) as_) k) (go k)

-- ---- any attribute

access-line : (fc : List ℕ) → access_of fc ≡ model.edited → ⊥
access-line fc is = by (bytes_eq fc (codes "SG")) (bytes_eq fc (codes "CF") || bytes_eq fc (codes "DC") || bytes_eq fc (codes "SP") || bytes_eq fc (codes "SV")) is
  where
    by : (s t : Bool) → (if s then model.active else (if t then model.writable else model.reported)) ≡ model.edited → ⊥
    by true t e = cc
    by false true e = cc
    by false false e = cc

access-setting : (fc : List ℕ) → access_of fc ≡ model.active → bytes_eq fc (codes "SG") ≡ true
access-setting fc is = by (bytes_eq fc (codes "SG")) (bytes_eq fc (codes "CF") || bytes_eq fc (codes "DC") || bytes_eq fc (codes "SP") || bytes_eq fc (codes "SV")) is
  where
    by : (s t : Bool) → (if s then model.active else (if t then model.writable else model.reported)) ≡ model.active → s ≡ true
    by true t e = refl
    by false true e = cc
    by false false e = cc

module _ (c : Config) (x : ℕ) where
  original-is : (n : ℕ) (a : AttrDef) (b : Bool) → b ≡ true → (if b then n else 0) ≡ n
  original-is n a true h = refl
  original-is n a false h = cc

  twin-told : IsTwinOf c 0 c.attrs (attr_of (configured_model c) x) → IsTwinAt c x
  twin-told t =
      let t_is : attr_of (configured_model c) x ≡ record (attr_defined c t.1 t.2) { access = model.edited } = t.6 in
      let o : (attr_of (configured_model c) x).original ≡ t.0 = ap (λ (a : Attr). a.original) t_is ∙ (original-is t.1 t.2 (is_setting t.2) t.5 ∙ omega (arith, t.3)) in
      record {
        line = t.2;
        at = subst (λ y. At y t.2 c.attrs) (sym o) t.4;
        setting = t.5;
        access = ap (λ (a : Attr). a.access) t_is;
        domain = ap (λ (a : Attr). a.domain) t_is;
        below = let b = line-below c t.0 t.2 t.4 in omega (arith, b, o);
        kind = ap (λ y. (attr_of (configured_model c) y).kind) o ∙ (ap (λ (a : Attr). a.kind) (line-get c 0 c.attrs (flat_map (attrs_generated c) c.controls ++ twins c 0 c.attrs) t.0 t.2 t.4).1 ∙ sym (ap (λ (a : Attr). a.kind) t_is));
      }

  beyond : (k : ℕ) → attr_of (configured_model c) x ≡ get (flat_map (attrs_generated c) c.controls ++ twins c 0 c.attrs) k → IsReported (attr_of (configured_model c) x) ⊎ IsTwinAt c x
  beyond k is = by (reported-or (flat_map (attrs_generated c) c.controls) (twins c 0 c.attrs) k (generated-reported c c.controls))
    where
      last : (j : ℕ) → attr_of (configured_model c) x ≡ get (twins c 0 c.attrs) j → IsTwinOf c 0 c.attrs (get (twins c 0 c.attrs) j) ⊎ IsReported (get (twins c 0 c.attrs) j) → IsReported (attr_of (configured_model c) x) ⊎ IsTwinAt c x
      last j e (inl t) = inr (twin-told (subst (IsTwinOf c 0 c.attrs) (sym e) t))
      last j e (inr r) = inl (subst IsReported (sym e) r)

      by : IsReported (get (flat_map (attrs_generated c) c.controls ++ twins c 0 c.attrs) k) ⊎ ((j : ℕ) × (get (flat_map (attrs_generated c) c.controls ++ twins c 0 c.attrs) k ≡ get (twins c 0 c.attrs) j)) → IsReported (attr_of (configured_model c) x) ⊎ IsTwinAt c x
      by (inl r) = inl (subst IsReported (sym is) r)
      by (inr (j, e)) = last j (is ∙ e) (twin-or c 0 c.attrs j)

  pub attr-case : IsLineAt c x ⊎ (IsReported (attr_of (configured_model c) x) ⊎ IsTwinAt c x)
  attr-case = by (line-or c 0 c.attrs (flat_map (attrs_generated c) c.controls ++ twins c 0 c.attrs) x)
    where
      by : ((a : AttrDef) × At x a c.attrs) ⊎ ((k : ℕ) × (get (attributes c) x ≡ get (flat_map (attrs_generated c) c.controls ++ twins c 0 c.attrs) k)) → IsLineAt c x ⊎ (IsReported (attr_of (configured_model c) x) ⊎ IsTwinAt c x)
      by (inl (a, at)) = inl (line-at c x a at)
      by (inr (k, e)) = inr (beyond k e)

-- what stands under SE is the twin of a setting
pub edited-twin : (c : Config) (x : ℕ) → (attr_of (configured_model c) x).access ≡ model.edited → IsTwinAt c x
edited-twin c x is = by (attr-case c x)
  where
    by : IsLineAt c x ⊎ (IsReported (attr_of (configured_model c) x) ⊎ IsTwinAt c x) → IsTwinAt c x
    by (inl l) = absurd (access-line l.line.fc (sym (ap (λ (a : Attr). a.access) l.is) ∙ is))
    by (inr (inl r)) = absurd (cc (sym r ∙ is))
    by (inr (inr t)) = t

-- what stands under SG is a setting's line
pub active-line : (c : Config) (x : ℕ) → (attr_of (configured_model c) x).access ≡ model.active → (l : IsLineAt c x) × (is_setting l.line ≡ true)
active-line c x is = by (attr-case c x)
  where
    by : IsLineAt c x ⊎ (IsReported (attr_of (configured_model c) x) ⊎ IsTwinAt c x) → (l : IsLineAt c x) × (is_setting l.line ≡ true)
    by (inl l) = (l, access-setting l.line.fc (sym (ap (λ (a : Attr). a.access) l.is) ∙ is))
    by (inr (inl r)) = absurd (cc (sym r ∙ is))
    by (inr (inr t)) = absurd (cc (sym t.access ∙ is))
