-- Who has enabled a block, with the address: as the model has it.
use Rattle.std.proofs.Common.{◌≡◌, ℕ, Bool, true, false, List, refl, sym, ap, ◌∙◌, subst, ◌==◌}
use Rattle.std.specs.Prelude.{not, Option, None, Some, is_some, if◌then◌else◌}
use Rattle.std.specs.Option.{option_map, option_map_or}
use Rattle.sv_base.specs.declared.numbers.AssocNo.{AssocNo}
use Rattle.sv_base.specs.declared.value.Value.{Value}
use Rattle.sv_base.specs.declared.value.Value.TheVariants as kinds
use Rattle.sv_base.specs.declared.components.Comp.{Comp}
use Rattle.sv_base.specs.declared.components.Comp.TheVariants as comps
use Rattle.bay_model.specs.Blocks.{is_mine, is_anothers, is_held}
use Rattle.bay_model.specs.Associations.{address_after}
use Rattle.bay_model.specs.Points.{opened}
use Rattle.list_laws.proofs.Places.{swap-number}
use Rattle.brcb_state.specs.declared.block.Holder.{Holder}
use Rattle.brcb_state.specs.Changes.{is_its, is_by}

-- the number of the association
abbrev pub number : Holder → ℕ
number e = e.by.0

abbrev pub address_of : Holder → List ℕ
address_of e = e.owner

-- ---- what it holds

mine-same : (a : AssocNo) (x : Option Holder) → is_mine (is_its a) x ≡ is_mine (λ e. e == a.0) (option_map number x)
mine-same a None = refl
mine-same a (Some e) = refl

anothers-same : (a : AssocNo) (x : Option Holder) → is_anothers (is_its a) x ≡ is_anothers (λ e. e == a.0) (option_map number x)
anothers-same a None = refl
anothers-same a (Some e) = refl

any-same : (x : Option Holder) → is_some x ≡ is_some (option_map number x)
any-same None = refl
any-same (Some e) = refl

pub held-same : (a : AssocNo) (comp : Comp) (v : Value) (x : Option Holder) → is_held (is_its a) comp v x ≡ is_held (λ e. e == a.0) comp v (option_map number x)
held-same a comps.RptEna v x = anothers-same a x
held-same a comps.ResvTms v x = anothers-same a x
held-same a comps.GI (kinds.Bool true) x = ap not (mine-same a x)
held-same a comps.GI (kinds.Bool false) x = anothers-same a x
held-same a comps.GI _ x = any-same x
held-same a _ v x = any-same x

-- ---- a loss

pub lost-number : (a : ℕ) (x : Option Holder) (e : Option ℕ) → option_map number x ≡ e
    → option_map number (if is_by (record { 0 = a }) x then None else x) ≡ (if option_map_or (λ i. i == a) e false then None else e)
lost-number a x e is = subst (λ o. option_map number (if is_by (record { 0 = a }) x then None else x) ≡ (if option_map_or (λ i. i == a) o false then None else o)) is (by x)
  where
    by : (x : Option Holder) → option_map number (if is_by (record { 0 = a }) x then None else x) ≡ (if option_map_or (λ i. i == a) (option_map number x) false then None else option_map number x)
    by None = refl
    by (Some h) = either (h.by.0 == a) where
      either : (t : Bool) → option_map number (if t then None else Some h) ≡ (if t then None else Some h.by.0)
      either true = refl
      either false = refl

pub lost-address : (a : ℕ) (f : ℕ → List ℕ) (x : Option Holder) (e : Option ℕ) → option_map number x ≡ e → option_map address_of x ≡ option_map f e
    → option_map address_of (if is_by (record { 0 = a }) x then None else x) ≡ option_map f (if option_map_or (λ i. i == a) e false then None else e)
lost-address a f x e is of = subst (λ o. option_map address_of x ≡ option_map f o → option_map address_of (if is_by (record { 0 = a }) x then None else x) ≡ option_map f (if option_map_or (λ i. i == a) o false then None else o)) is (by x) of
  where
    by : (x : Option Holder) → option_map address_of x ≡ option_map f (option_map number x)
        → option_map address_of (if is_by (record { 0 = a }) x then None else x) ≡ option_map f (if option_map_or (λ i. i == a) (option_map number x) false then None else option_map number x)
    by None h = refl
    by (Some k) h = either (k.by.0 == a) where
      either : (t : Bool) → option_map address_of (if t then None else Some k) ≡ option_map f (if t then None else Some k.by.0)
      either true = refl
      either false = h

-- ---- an opening of another association

pub opened-address : (a o w size : ℕ) (owner : List ℕ) (f : ℕ → List ℕ) (e : Option ℕ) → is_mine (λ i. i == a) e ≡ false
    → option_map f e ≡ option_map (λ i. address_after i (opened a o w size owner) (f i)) e
opened-address a o w size owner f None other = refl
opened-address a o w size owner f (Some i) other = ap Some (sym (ap (λ t. if t then owner else f i) (swap-number a i ∙ other)))
