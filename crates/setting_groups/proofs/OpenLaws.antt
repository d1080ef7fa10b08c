-- Groups that are opened stand for the empty history of their configuration.
use Rattle.std.proofs.Common.{◌≡◌, ◌≤◌, ◌<◌, ◌+◌, ◌-◌, ℕ, zero, suc, Bool, true, false, List, [], ◌∷◌, ◌++◌, length, map, refl, sym, ap, subst, ◌∙◌, arith, slice_index_or, slice_get, unwrap_or, Option, None, Some, is_some, position, true≢false, if◌then◌else◌, cond}
use Rattle.std.specs.Option.{option_map}
use Rattle.std.specs.List.{All, find}
use Rattle.std.specs.Str.{bytes_eq}
use Rattle.std.proofs.lemmas.List.{length-map}
use Rattle.std.proofs.lemmas.List.Elements.{All-head, All-tail}
use Rattle.list_laws.proofs.Places.{place-cons, at_position}
use Rattle.sv_base.specs.Same.{values_of}
use Rattle.sv_base.specs.declared.config.Config.{Config}
use Rattle.sv_base.specs.declared.config.AttrDef.{AttrDef}
use Rattle.sv_base.specs.declared.config.SgDef.{SgDef}
use Rattle.sv_base.specs.declared.types.TypeOf.{TypeOf}
use Rattle.sv_base.specs.declared.value.Value.{Value}
use Rattle.sv_base.specs.declared.value.Value.TheVariants as kinds
use Rattle.sv_base.specs.Kinds.{kind_of}
use Rattle.bay_rooms.specs.Slots.{Held}
use Rattle.bay_model.specs.Model as model
use Rattle.bay_model.specs.Model.{Model, Access, Attr, Groups}
use Rattle.bay_model.specs.Attributes.{attrs_defined, attr_defined, access_of}
use Rattle.bay_model.specs.Configured.{groups_defined}
use Rattle.bay_model.specs.Lookups.{attr_of, groups_of, no_attr}
use Rattle.bay_model.specs.Named.{configured_model}
use Rattle.bay_model.specs.NamedLines.{is_setting, domains, domain_number}
use Rattle.setting_groups.specs.Grouped.{Domained, Settled, Grouped, domain_at, setting_at, no_domain, no_setting}
use Rattle.setting_groups.specs.Standing.{Stands, StandsBlock, StandsSetting}
use Rattle.setting_groups.specs.Opened.{slots_of, held_as, place_at, place_in, block_defined, setting_defined, settings_from, opened, IsGrouped, IsSetting}
use Rattle.list_laws.proofs.Options.{none_some}

pub kind_at : (t : TypeOf) (vs : List Value) (k : ℕ) (d : Held) → k < length (slots_of t vs) → (slice_index_or (slots_of t vs) k d).kind ≡ kind_of t
kind_at t [] k d below = absurd (omega (arith, below))
kind_at t (v ∷ vs) zero d below = refl
kind_at t (v ∷ vs) (suc k) d below = kind_at t vs k d (omega (arith, below))

value_at_place : (t : TypeOf) (vs : List Value) (k : ℕ) (d : Held) → k < length (slots_of t vs) → (slice_index_or (slots_of t vs) k d).value ≡ unwrap_or (slice_get vs k) kinds.Other
value_at_place t [] k d below = absurd (omega (arith, below))
value_at_place t (v ∷ vs) zero d below = refl
value_at_place t (v ∷ vs) (suc k) d below = value_at_place t vs k d (omega (arith, below))

-- ---- domains by their places

pub place_is : (d : List ℕ) (ds : List (List ℕ)) → place_at d ds ≡ position (bytes_eq d) ds
place_is d [] = refl
place_is d (e ∷ es) = ap (λ p. cond (bytes_eq d e) (Some 0) (option_map (λ n. n + 1) p)) (place_is d es) ∙ sym (place-cons (bytes_eq d) e es)

pub place_within : (d : List ℕ) (ds : List (List ℕ)) → is_some (place_at d ds) ≡ true → unwrap_or (place_at d ds) 0 < length ds
place_within d [] there = absurd (true≢false (sym there))
place_within d (e ∷ es) there = by (bytes_eq d e) (place_at d es) there (place_within d es)
  where
    by : (b : Bool) (p : Option ℕ) → is_some (if b then Some 0 else option_map (λ n. n + 1) p) ≡ true → (is_some p ≡ true → unwrap_or p 0 < length es)
        → unwrap_or (if b then Some 0 else option_map (λ n. n + 1) p) 0 < length (e ∷ es)
    by true p h go = omega arith
    by false None h go = absurd (true≢false (sym h))
    by false (Some n) h go = omega (arith, go refl)

block_at : (g : List ℕ → Groups) (ds : List (List ℕ)) (d : ℕ) → d < length ds
    → slice_index_or (map (λ e. block_defined (g e)) ds) d no_domain ≡ block_defined (unwrap_or (slice_get (map g ds) d) (record { count = 0; active = 0 }))
block_at g [] d below = absurd (omega (arith, below))
block_at g (e ∷ es) zero below = refl
block_at g (e ∷ es) (suc d) below = block_at g es d (omega (arith, below))

-- the active group is one of them
abbrev IsActive : Groups → Type 0
IsActive g = 0 < g.count → (1 ≤ g.active) × (g.active ≤ g.count)

abbrev none_of : Groups
none_of = record { count = 0; active = 0 }

active_defined : (gs : List SgDef) (d : List ℕ) → All (λ (g : SgDef). (1 ≤ g.active) × (g.active ≤ g.count)) gs → IsActive (groups_defined gs d)
active_defined [] d are = λ some. absurd (omega (arith, some))
active_defined (g ∷ gs) d are = by (bytes_eq d g.domain) (active_defined gs d (All-tail (λ (h : SgDef). (1 ≤ h.active) × (h.active ≤ h.count)) g gs are))
  where
    by : (b : Bool) → IsActive (groups_defined gs d) → IsActive (unwrap_or (option_map (λ (h : SgDef). record { count = h.count; active = h.active }) (cond b (Some g) (find (λ (h : SgDef). bytes_eq d h.domain) gs))) none_of)
    by true later = λ some. All-head (λ (h : SgDef). (1 ≤ h.active) × (h.active ≤ h.count)) g gs are
    by false later = later

active_at : (g : List ℕ → Groups) (ds : List (List ℕ)) (d : ℕ) → ((e : List ℕ) → IsActive (g e)) → IsActive (unwrap_or (slice_get (map g ds) d) none_of)
active_at g [] d are = λ some. absurd (omega (arith, some))
active_at g (e ∷ es) zero are = are e
active_at g (e ∷ es) (suc d) are = active_at g es d are

-- ---- settings by their places

-- a setting is that of a line under SG, by the number of its attribute
record IsOf (ds : List (List ℕ)) (x : ℕ) (as_ : List AttrDef) (t : Settled) : Type 0 where
  place : ℕ
  line : AttrDef
  there : slice_get as_ place ≡ Some line
  setting : is_setting line ≡ true
  made : t ≡ setting_defined (x + place) (place_in ds line.domain) line

one_on : (ds : List (List ℕ)) (x : ℕ) (a : AttrDef) (rest : List AttrDef) (t : Settled) → IsOf ds (x + 1) rest t → IsOf ds x (a ∷ rest) t
one_on ds x a rest t h = record {
  place = suc h.place;
  line = h.line;
  there = h.there;
  setting = h.setting;
  made = h.made ∙ ap (λ n. setting_defined n (place_in ds h.line.domain) h.line) (omega arith);
}

of_line : (ds : List (List ℕ)) (x : ℕ) (as_ : List AttrDef) (k : ℕ) → k < length (settings_from ds x as_) → IsOf ds x as_ (slice_index_or (settings_from ds x as_) k no_setting)
of_line ds x [] k below = absurd (omega (arith, below))
of_line ds x (a ∷ rest) k below = by (is_setting a) refl (λ j. of_line ds (x + 1) rest j) k below
  where
    first : Settled
    first = setting_defined x (place_in ds a.domain) a

    by : (b : Bool) → is_setting a ≡ b → ((j : ℕ) → j < length (settings_from ds (x + 1) rest) → IsOf ds (x + 1) rest (slice_index_or (settings_from ds (x + 1) rest) j no_setting)) → (k : ℕ) → k < length (if b then first ∷ settings_from ds (x + 1) rest else settings_from ds (x + 1) rest)
        → IsOf ds x (a ∷ rest) (slice_index_or (if b then first ∷ settings_from ds (x + 1) rest else settings_from ds (x + 1) rest) k no_setting)
    by true is later zero below = record { place = 0; line = a; there = refl; setting = is; made = ap (λ n. setting_defined n (place_in ds a.domain) a) (omega arith) }
    by true is later (suc k) below = one_on ds x a rest _ (later k (omega (arith, below)))
    by false is later k below = one_on ds x a rest _ (later k below)

above : (ds : List (List ℕ)) (x : ℕ) (as_ : List AttrDef) (k : ℕ) → k < length (settings_from ds x as_) → x ≤ (slice_index_or (settings_from ds x as_) k no_setting).attr
above ds x as_ k below = let h = of_line ds x as_ k below in omega (arith, ap (λ (t : Settled). t.attr) h.made)

apart_from : (ds : List (List ℕ)) (x : ℕ) (as_ : List AttrDef) (j k : ℕ) → j < length (settings_from ds x as_) → k < length (settings_from ds x as_)
    → (slice_index_or (settings_from ds x as_) j no_setting).attr ≡ (slice_index_or (settings_from ds x as_) k no_setting).attr → j ≡ k
apart_from ds x [] j k lj lk e = absurd (omega (arith, lj))
apart_from ds x (a ∷ rest) j k lj lk e = by (is_setting a) (λ j k. apart_from ds (x + 1) rest j k) j k lj lk e
  where
    more : List Settled
    more = settings_from ds (x + 1) rest

    first : Settled
    first = setting_defined x (place_in ds a.domain) a

    by : (b : Bool) → ((j k : ℕ) → j < length more → k < length more → (slice_index_or more j no_setting).attr ≡ (slice_index_or more k no_setting).attr → j ≡ k) → (j k : ℕ) → j < length (if b then first ∷ more else more) → k < length (if b then first ∷ more else more)
        → (slice_index_or (if b then first ∷ more else more) j no_setting).attr ≡ (slice_index_or (if b then first ∷ more else more) k no_setting).attr → j ≡ k
    by true later zero zero lj lk e = refl
    by true later zero (suc k) lj lk e = absurd (omega (arith, e, above ds (x + 1) rest k (omega (arith, lk))))
    by true later (suc j) zero lj lk e = absurd (omega (arith, e, above ds (x + 1) rest j (omega (arith, lj))))
    by true later (suc j) (suc k) lj lk e = ap suc (later j k (omega (arith, lj)) (omega (arith, lk)) e)
    by false later j k lj lk e = later j k lj lk e

attr_at : (c : Config) (x : ℕ) (as_ : List AttrDef) (others : List Attr) (p : ℕ) (a : AttrDef) → slice_get as_ p ≡ Some a → slice_get (attrs_defined c x as_ ++ others) p ≡ Some (attr_defined c (x + p) a)
attr_at c x [] others p a there = absurd (none_some a there)
attr_at c x (b ∷ bs) others zero a there = ap (λ (o : Option AttrDef). option_map (λ (q : AttrDef). attr_defined c x q) o) there ∙ ap (λ n. Some (attr_defined c n a)) (omega arith)
attr_at c x (b ∷ bs) others (suc p) a there = attr_at c (1 + x) bs others p a there ∙ ap (λ n. Some (attr_defined c n a)) (omega arith)

line_holds : (P : AttrDef → Type 0) (as_ : List AttrDef) (p : ℕ) (a : AttrDef) → All P as_ → slice_get as_ p ≡ Some a → P a
line_holds P [] p a all there = absurd (none_some a there)
line_holds P (b ∷ bs) zero a all there = subst (λ (o : Option AttrDef). P (unwrap_or o b)) there (All-head P b bs all)
line_holds P (b ∷ bs) (suc p) a all there = line_holds P bs p a (All-tail P b bs all) there

zero_on : (n : ℕ) → 0 + n ≡ n
zero_on n = omega arith

-- ---- all of them

module _ (c : Config) (h : IsGrouped c) where
  abbrev s : Grouped
  s = opened c (domains c)

  block : (d : ℕ) → d < length s.domains → 0 < (groups_of (configured_model c) d).count → StandsBlock (domain_at s d) (configured_model c) d []
  block d below some =
      let here = active_at (groups_defined c.groups) (domains c) d (λ e. active_defined c.groups e h.groups) some in
      subst (λ (m : Domained). StandsBlock m (configured_model c) d []) (sym (block_at (groups_defined c.groups) (domains c) d (omega (arith, below, length-map (domains c) (λ d. block_defined (groups_defined c.groups d))))))
      (record { count = refl; active = refl; edit = refl; last = refl; from = here.0; to = here.1; edited = tt })

  line : (k : ℕ) → k < length s.settings → IsOf (domains c) 0 c.attrs (setting_at s k)
  line k below = of_line (domains c) 0 c.attrs k below

  told : (k : ℕ) (below : k < length s.settings) → IsSetting c (line k below).line
  told k below = line_holds (λ a. is_setting a ≡ true → IsSetting c a) c.attrs (line k below).place (line k below).line h.settings (line k below).there (line k below).setting

  number : (k : ℕ) (below : k < length s.settings) → (setting_at s k).domain ≡ domain_number c (line k below).line.domain
  number k below = ap (λ (t : Settled). t.domain) (line k below).made ∙ ap (λ p. unwrap_or p 0) (place_is (line k below).line.domain (domains c))

  groups_are : (k : ℕ) (below : k < length s.settings) → groups_of (configured_model c) (setting_at s k).domain ≡ groups_defined c.groups (line k below).line.domain
  groups_are k below = ap (λ d. groups_of (configured_model c) d) (number k below) ∙ at_position (groups_defined c.groups) (record { count = 0; active = 0 }) (line k below).line.domain (domains c) (told k below).domain

  attr_is : (k : ℕ) (below : k < length s.settings) → attr_of (configured_model c) (setting_at s k).attr ≡ attr_defined c (line k below).place (line k below).line
  attr_is k below =
      let l = line k below in
      let own : (setting_at s k).attr ≡ l.place = ap (λ (t : Settled). t.attr) l.made ∙ zero_on l.place in
      ap (λ x. attr_of (configured_model c) x) own ∙ (ap (λ (o : Option Attr). unwrap_or o no_attr) (attr_at c 0 c.attrs _ l.place l.line l.there) ∙ ap (λ n. attr_defined c n l.line) (zero_on l.place))

  setting : (k : ℕ) → k < length s.settings → StandsSetting (setting_at s k) (configured_model c) []
  setting k below =
      let l = line k below in
      let t : Settled = setting_at s k in
      let groups : t.groups ≡ slots_of l.line.kind (values_of l.line.values) = ap (λ (u : Settled). u.groups) l.made in
      let copy : t.copy ≡ held_as l.line.kind (slice_index_or (values_of l.line.values) 0 kinds.Other) = ap (λ (u : Settled). u.copy) l.made in
      let count : length t.groups ≡ length (values_of l.line.values) = ap length groups ∙ length-map (values_of l.line.values) (held_as l.line.kind) in
      let under : (i : ℕ) → i < length t.groups → i < length (slots_of l.line.kind (values_of l.line.values)) = λ i b. omega (arith, b, ap length groups) in
      record {
        domain = number k below ∙ sym (ap (λ (a : Attr). a.domain) (attr_is k below));
        access = ap (λ (a : Attr). a.access) (attr_is k below) ∙ under_sg l.line l.setting;
        count = count ∙ ((told k below).values ∙ sym (ap (λ (g : Groups). g.count) (groups_are k below)));
        kind = ap (λ (x : Held). x.kind) copy ∙ sym (ap (λ (a : Attr). a.kind) (attr_is k below));
        kinds = λ i b. ap (λ (hs : List Held). (slice_index_or hs i t.copy).kind) groups ∙ (kind_at l.line.kind (values_of l.line.values) i t.copy (under i b) ∙ sym (ap (λ (x : Held). x.kind) copy));
        groups = λ i b. ap (λ (hs : List Held). (slice_index_or hs i t.copy).value) groups ∙ (value_at_place l.line.kind (values_of l.line.values) i t.copy (under i b)
            ∙ (ap (λ j. unwrap_or (slice_get (values_of l.line.values) j) kinds.Other) (omega arith) ∙ sym (ap (λ (a : Attr). unwrap_or (slice_get a.initial (suc i - 1)) kinds.Other) (attr_is k below))));
        copy = λ some. absurd (true≢false (sym some));
      }
    where
      under_sg : (a : AttrDef) → is_setting a ≡ true → access_of a.fc ≡ model.active
      under_sg a is = rw is refl

  pub opened_stands : Stands (opened c (domains c)) (configured_model c) []
  opened_stands = record {
    blocks = block;
    settings = setting;
    within = λ k below. let d = (line k below).line.domain in
        omega (arith, ap (λ (t : Settled). t.domain) (line k below).made, length-map (domains c) (λ e. block_defined (groups_defined c.groups e)), place_within d (domains c) (ap is_some (place_is d (domains c)) ∙ (told k below).domain));
    grouped = λ k below. omega (arith, (told k below).some, ap (λ (g : Groups). g.count) (groups_are k below));
    apart = apart_from (domains c) 0 c.attrs;
  }
