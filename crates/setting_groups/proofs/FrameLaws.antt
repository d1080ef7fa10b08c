-- What stays of the setting groups whatever is written: their frame, and what is so of all that they hold.
use Rattle.std.proofs.Common.{◌≡◌, ◌<◌, ℕ, zero, suc, Bool, true, false, List, [], ◌∷◌, length, map, refl, sym, ap, ap₂, subst, ◌∙◌, arith, Option, None, Some, slice_index_or, slice_set}
use Rattle.std.specs.Prelude.{◌-◌, ◌==◌, if◌then◌else◌}
use Rattle.std.specs.List.{All}
use Rattle.std.specs.Option.{option_map, option_map_or}
use Rattle.std.proofs.lemmas.List.{length-set}
use Rattle.std.proofs.lemmas.List.Elements.{All-head, All-tail, All-map, All-set}
use Rattle.sv_base.specs.declared.config.Config.{Config}
use Rattle.sv_base.specs.declared.value.Value.{Value}
use Rattle.sv_base.specs.Kinds.{Kind, is_kind, is_in_range}
use Rattle.bay_rooms.specs.Slots.{Held}
use Rattle.sv_base.specs.declared.components.SettingComp.{SettingComp}
use Rattle.sv_base.specs.declared.components.SettingComp.TheVariants.{NumOfSG, ActSG, EditSG, CnfEdit, LActTm}
use Rattle.bay_model.specs.declared.step.Setting.{Setting}
use Rattle.list_laws.proofs.Places.{at_set, at-or}
use Rattle.setting_groups.specs.Frames.{Frame, frame, count_in, Holds, IsFit, ArePut, AreHeldOnce}
use Rattle.setting_groups.specs.Grouped.{Domained, Settled, Grouped, domain_at, setting_at, no_domain, no_setting, activated, edited, unedited, left_by, holds as holds_edit, with_value, copied, loaded, stored_in, put_in, active_place, edit_place, number_in, is_on, place_in, after_act, after_edit, after_copy, after_confirm, after_loss, after_put, after_setting, after_values}
use Rattle.setting_groups.specs.Parts.{after_part}

-- ---- lists

map-set : {A B : Type 0} (g : A → B) (xs : List A) (k : ℕ) (y z : A) → k < length xs → g y ≡ g (slice_index_or xs k z) → map g (slice_set xs k y) ≡ map g xs
map-set g [] k y z below same = absurd (omega (arith, below))
map-set g (x ∷ xs) zero y z below same = ap (λ e. e ∷ map g xs) same
map-set g (x ∷ xs) (suc k) y z below same = ap (λ l. g x ∷ l) (map-set g xs k y z (omega (arith, below)) same)

map-keeps : {A B : Type 0} (g : A → B) (f : A → A) (P : A → Type 0) → ((x : A) → P x → g (f x) ≡ g x) → (xs : List A) → All P xs → map g (map f xs) ≡ map g xs
map-keeps g f P same [] all = refl
map-keeps g f P same (x ∷ xs) all = ap₂ (λ e l. e ∷ l) (same x (All-head P x xs all)) (map-keeps g f P same xs (All-tail P x xs all))

map-all : {A B : Type 0} (g : A → B) (f : A → A) → ((x : A) → g (f x) ≡ g x) → (xs : List A) → map g (map f xs) ≡ map g xs
map-all g f same [] = refl
map-all g f same (x ∷ xs) = ap₂ (λ e l. e ∷ l) (same x) (map-all g f same xs)

all-maps : {A : Type 0} (P : A → Type 0) (f : A → A) → ((x : A) → P x → P (f x)) → (xs : List A) → All P xs → All P (map f xs)
all-maps P f keeps xs all = All-map P f xs (λ k d below. keeps (slice_index_or xs k d) (all k d below))

-- ---- one setting

module _ (P : Held → Type 0) where
  loaded-holds : (d i : ℕ) (t : Settled) → Holds P t → Holds P (loaded d i t)
  loaded-holds d i t h = by (t.domain == d)
    where
      v : Held
      v = slice_index_or t.groups i t.copy

      same : v.kind ≡ t.copy.kind
      same = at-or (λ (x : Held). x.kind ≡ t.copy.kind) t.groups i t.copy refl h.kinds

      by : (b : Bool) → Holds P (if b then record t { copy = v } else t)
      by true = record { copy = at-or P t.groups i t.copy h.copy h.groups; groups = h.groups; kinds = λ k e below. h.kinds k e below ∙ sym same }
      by false = h

  stored-holds : (d i : ℕ) (t : Settled) → Holds P t → Holds P (stored_in d i t)
  stored-holds d i t h = by (t.domain == d)
    where
      by : (b : Bool) → Holds P (if b then record t { groups = slice_set t.groups i t.copy } else t)
      by true = record { copy = h.copy; groups = All-set P t.groups i t.copy h.copy h.groups; kinds = All-set (λ (x : Held). x.kind ≡ t.copy.kind) t.groups i t.copy refl h.kinds }
      by false = h

  copied-holds : (v : Value) (t : Settled) → P (with_value v t.copy) → Holds P t → Holds P (copied v t)
  copied-holds v t is h = record { copy = is; groups = h.groups; kinds = h.kinds }

  put-holds : (i : ℕ) (v : Value) (t : Settled) → P (with_value v t.copy) → Holds P t → Holds P (put_in i v t)
  put-holds i v t is h = record { copy = h.copy; groups = All-set P t.groups i (with_value v t.copy) is h.groups; kinds = All-set (λ (x : Held). x.kind ≡ t.copy.kind) t.groups i (with_value v t.copy) refl h.kinds }

  loaded-frame : (d i : ℕ) (t : Settled) → Holds P t → frame (loaded d i t) ≡ frame t
  loaded-frame d i t h = by (t.domain == d)
    where
      by : (b : Bool) → frame (if b then record t { copy = slice_index_or t.groups i t.copy } else t) ≡ frame t
      by true = ap (λ (k : Kind). record { attr = t.attr; domain = t.domain; kind = k; groups = length t.groups }) (at-or (λ (x : Held). x.kind ≡ t.copy.kind) t.groups i t.copy refl h.kinds)
      by false = refl

longer : (t : Settled) (n : ℕ) → n ≡ length t.groups → ◌≡◌ {A = Frame} (record { attr = t.attr; domain = t.domain; kind = t.copy.kind; groups = n }) (frame t)
longer t n is = ap (λ m. record { attr = t.attr; domain = t.domain; kind = t.copy.kind; groups = m }) is

stored-frame : (d i : ℕ) (t : Settled) → frame (stored_in d i t) ≡ frame t
stored-frame d i t = by (t.domain == d)
  where
    by : (b : Bool) → frame (if b then record t { groups = slice_set t.groups i t.copy } else t) ≡ frame t
    by true = longer t _ (length-set t.groups i t.copy)
    by false = refl

left-count : (a : ℕ) (d : Domained) → count_in (left_by a d) ≡ count_in d
left-count a d = by (holds_edit a d)
  where
    by : (b : Bool) → count_in (if b then unedited d else d) ≡ count_in d
    by true = refl
    by false = refl

-- ---- all of them

module _ (c : Config) (P : Held → Type 0) (s : Grouped) (h : IsFit c P s) where
  with-domain : (d : ℕ) (m : Domained) → d < length s.domains → m.count ≡ (domain_at s d).count → IsFit c P (record s { domains = slice_set s.domains d m })
  with-domain d m below same = record {
    framed = record { settings = h.framed.settings; domains = map-set count_in s.domains d m no_domain below same ∙ h.framed.domains };
    holds = h.holds;
  }

  pub fit-act : (d n now : ℕ) → d < length s.domains → IsFit c P (after_act d n now s)
  fit-act d n now below = with-domain d (activated n now (domain_at s d)) below refl

  pub fit-edit : (d a n : ℕ) → d < length s.domains → IsFit c P (after_edit d a n s)
  fit-edit d a n below = by (n == 0)
    where
      at-domain : IsFit c P (record s { domains = slice_set s.domains d (edited a n (domain_at s d)) })
      at-domain = with-domain d (edited a n (domain_at s d)) below refl

      by : (b : Bool) → IsFit c P (record { domains = slice_set s.domains d (edited a n (domain_at s d)); settings = if b then s.settings else map (loaded d (n - 1)) s.settings })
      by true = record { framed = record { settings = h.framed.settings; domains = at-domain.framed.domains }; holds = h.holds }
      by false = record {
        framed = record { settings = map-keeps frame (loaded d (n - 1)) (Holds P) (loaded-frame P d (n - 1)) s.settings h.holds ∙ h.framed.settings; domains = at-domain.framed.domains };
        holds = all-maps (Holds P) (loaded d (n - 1)) (loaded-holds P d (n - 1)) s.settings h.holds;
      }

  pub fit-confirm : (d : ℕ) → d < length s.domains → IsFit c P (after_confirm d s)
  fit-confirm d below = let place = edit_place (domain_at s d) in record {
    framed = record {
      settings = map-all frame (stored_in d place) (stored-frame d place) s.settings ∙ h.framed.settings;
      domains = (with-domain d (unedited (domain_at s d)) below refl).framed.domains;
    };
    holds = all-maps (Holds P) (stored_in d place) (stored-holds P d place) s.settings h.holds;
  }

  pub fit-loss : (a : ℕ) → IsFit c P (after_loss a s)
  fit-loss a = record {
    framed = record { settings = h.framed.settings; domains = map-all count_in (left_by a) (left-count a) s.domains ∙ h.framed.domains };
    holds = h.holds;
  }

  with-setting : (k : ℕ) (t : Settled) → k < length s.settings → frame t ≡ frame (setting_at s k) → Holds P t → IsFit c P (record s { settings = slice_set s.settings k t })
  with-setting k t below same is = record {
    framed = record { settings = map-set frame s.settings k t no_setting below same ∙ h.framed.settings; domains = h.framed.domains };
    holds = All-set (Holds P) s.settings k t is h.holds;
  }

  pub fit-copy : (k : ℕ) (v : Value) → k < length s.settings → P (with_value v (setting_at s k).copy) → IsFit c P (after_copy k v s)
  fit-copy k v below is = with-setting k (copied v (setting_at s k)) below refl (copied-holds P v (setting_at s k) is (h.holds k no_setting below))

  pub fit-put : (k : ℕ) (v : Value) → k < length s.settings → P (with_value v (setting_at s k).copy) → IsFit c P (after_put k v s)
  fit-put k v below is = let t : Settled = setting_at s k in let i = active_place (domain_at s t.domain) in
      with-setting k (put_in i v t) below (longer t _ (length-set t.groups i (with_value v t.copy))) (put-holds P i v t is (h.holds k no_setting below))

  pub fit-part : (d a : ℕ) (part : SettingComp) (v : Value) (now : ℕ) → d < length s.domains → IsFit c P (after_part d a part v now s)
  fit-part d a NumOfSG v now below = h
  fit-part d a ActSG v now below = fit-act d (number_in v) now below
  fit-part d a EditSG v now below = fit-edit d a (number_in v) below
  fit-part d a CnfEdit v now below = by (is_on v)
    where
      by : (b : Bool) → IsFit c P (if b then after_confirm d s else s)
      by true = fit-confirm d below
      by false = h
  fit-part d a LActTm v now below = h

-- ---- what the process sets

-- a setting that is put keeps its attribute, its domain and its copy
place-set : (x : ℕ) (ts : List Settled) (k : ℕ) (t : Settled) → k < length ts → t.attr ≡ (slice_index_or ts k no_setting).attr → place_in x (slice_set ts k t) ≡ place_in x ts
place-set x [] k t below same = absurd (omega (arith, below))
place-set x (u ∷ ts) zero t below same = ap (λ e. if x == e then Some 0 else option_map suc (place_in x ts)) same
place-set x (u ∷ ts) (suc k) t below same = ap (λ o. if x == u.attr then Some 0 else option_map suc o) (place-set x ts k t (omega (arith, below)) same)

pub record IsLike (s u : Grouped) : Type 0 where
  pub places : (x : ℕ) → place_in x u.settings ≡ place_in x s.settings
  pub copies : (k : ℕ) → (setting_at u k).copy ≡ (setting_at s k).copy
  pub owners : (k : ℕ) → (setting_at u k).domain ≡ (setting_at s k).domain
  pub domains : u.domains ≡ s.domains

like-put : (s : Grouped) (j : ℕ) (v : Value) → j < length s.settings → IsLike s (after_put j v s)
like-put s j v below = record {
  places = λ x. place-set x s.settings j (put_in i v t) below refl;
  copies = λ k. ap (λ (u : Settled). u.copy) (at_set s.settings j k (put_in i v t) no_setting below) ∙ (kept k (j == k) refl).0;
  owners = λ k. ap (λ (u : Settled). u.domain) (at_set s.settings j k (put_in i v t) no_setting below) ∙ (kept k (j == k) refl).1;
  domains = refl;
}
  where
    t : Settled
    t = setting_at s j

    i : ℕ
    i = active_place (domain_at s t.domain)

    kept : (k : ℕ) (b : Bool) → (j == k) ≡ b → ((if b then put_in i v t else setting_at s k).copy ≡ (setting_at s k).copy) × ((if b then put_in i v t else setting_at s k).domain ≡ (setting_at s k).domain)
    kept k true is = let e : setting_at s j ≡ setting_at s k = ap (setting_at s) (same-of j k is) in (ap (λ (u : Settled). u.copy) e, ap (λ (u : Settled). u.domain) e)
      where
        same-of : (m n : ℕ) → (m == n) ≡ true → m ≡ n
        same-of m n test = grind (arith, test)
    kept k false is = (refl, refl)

pub like-one : (s : Grouped) (v : Setting) → ((k : ℕ) → place_in v.attr.0 s.settings ≡ Some k → k < length s.settings) → IsLike s (after_setting v s)
like-one s v within = by (place_in v.attr.0 s.settings) refl
  where
    by : (o : Option ℕ) → place_in v.attr.0 s.settings ≡ o → IsLike s (option_map_or (λ k. after_put k v.value s) o s)
    by None is = record { places = λ x. refl; copies = λ k. refl; owners = λ k. refl; domains = refl }
    by (Some k) is = like-put s k v.value (within k is)

-- the rest may be put as before
pub put-like : (s u : Grouped) (vs : List Setting) → IsLike s u → ArePut s vs → ArePut u vs
put-like s u vs like are = λ n d below k is.
    let was = are n d below k (sym (like.places (slice_index_or vs n d).attr.0) ∙ is) in
    record {
      domain = subst (λ (ds : List Domained). (setting_at u k).domain < length ds) (sym like.domains) (subst (λ e. e < length s.domains) (sym (like.owners k)) was.domain);
      kind = ap (λ (x : Held). is_kind x.kind (slice_index_or vs n d).value) (like.copies k) ∙ was.kind;
      range = ap (λ (x : Held). is_in_range x.kind (slice_index_or vs n d).value) (like.copies k) ∙ was.range;
    }

held-like : (P : Held → Type 0) (s u : Grouped) (vs : List Setting) → IsLike s u → AreHeldOnce P s vs → AreHeldOnce P u vs
held-like P s u vs like are = λ n d below k is.
    let v = slice_index_or vs n d in
    subst (λ (x : Held). P (with_value v.value x)) (sym (like.copies k)) (are n d below k (sym (like.places v.attr.0) ∙ is))

-- a place is one among them
pub place-within : (x : ℕ) (ts : List Settled) (k : ℕ) → place_in x ts ≡ Some k → k < length ts
place-within x [] k is = cc
place-within x (t ∷ ts) k is = by (x == t.attr) (place_in x ts) (λ j. place-within x ts j) is
  where
    by : (b : Bool) (o : Option ℕ) → ((j : ℕ) → o ≡ Some j → j < length ts) → (if b then Some 0 else option_map suc o) ≡ Some k → k < length (t ∷ ts)
    by true o later e = let z : 0 ≡ k = cc in omega (arith, z)
    by false None later e = cc
    by false (Some j) later e = let z : suc j ≡ k = cc in omega (arith, z, later j refl)

pub fit-values : (c : Config) (P : Held → Type 0) (vs : List Setting) (s : Grouped) → IsFit c P s → AreHeldOnce P s vs → IsFit c P (after_values vs s)
fit-values c P [] s h are = h
fit-values c P (v ∷ later) s h are =
    let like = like-one s v (place-within v.attr.0 s.settings) in
    fit-values c P later (after_setting v s) (by (place_in v.attr.0 s.settings) refl) (held-like P s (after_setting v s) later like (All-tail (λ (t : Setting). (k : ℕ) → place_in t.attr.0 s.settings ≡ Some k → P (with_value t.value (setting_at s k).copy)) v later are))
  where
    by : (o : Option ℕ) → place_in v.attr.0 s.settings ≡ o → IsFit c P (option_map_or (λ k. after_put k v.value s) o s)
    by None is = h
    by (Some k) is = fit-put c P s h k v.value (place-within v.attr.0 s.settings k is) (All-head (λ (t : Setting). (k : ℕ) → place_in t.attr.0 s.settings ≡ Some k → P (with_value t.value (setting_at s k).copy)) v later are k is)
