-- The Data of rows of values, one value more at a time.
use Rattle.std.proofs.Common.{◌≡◌, ℕ, ◌+◌, zero, suc, ◌<◌, ◌≤◌, List, [], ◌∷◌, ◌++◌, length, take, get_or, refl, sym, ap, subst, ◌∙◌, append_assoc, arith}
use denote.Param.Weighed.{most}
use Rattle.std.proofs.lemmas.List.{append-nil, length-append, take_at, take-take}
use Rattle.sv_base.specs.Seen.{row_of}
use Rattle.sv_base.specs.Data.{data_of, data_row}
use Rattle.sv_base.specs.Depth.{HasNoOther, RowHasNoOther}
use Rattle.sv_base.specs.declared.value.Values.TheDeep.{size-Value}
use Rattle.sv_base.specs.Tree.{Row}
use Rattle.sv_base.specs.declared.value.Value.{Value}
use Rattle.sv_base.specs.declared.value.Value.TheVariants as kinds
use Rattle.mms_data.specs.Writable.{Fits, FitsRow}

pub data_row-more : (vs : List Value) (i : ℕ) (v : Value) → i < length vs → v ≡ get_or vs i v → data_row (row_of (take (i + 1) vs)) ≡ data_row (row_of (take i vs)) ++ data_of v
data_row-more [] i v lt is = absurd (omega (arith, lt))
data_row-more (w ∷ vs) zero v lt is = append-nil (data_of w) ∙ ap data_of (sym is)
data_row-more (w ∷ vs) (suc i) v lt is =
    let next : suc i + 1 ≡ suc (i + 1) = omega arith in
    rw next (ap (λ (x : List ℕ). data_of w ++ x) (data_row-more vs i v (omega (arith, lt)) is) ∙ sym (append_assoc (data_of w) (data_row (row_of (take i vs))) (data_of v)))

-- what a list still begins with
keeps : {X : Type 0} (a b x : List X) → take (length (a ++ b)) x ≡ a ++ b → take (length a) x ≡ a
keeps {X} a b x h =
    sym (take-take (length a) (length (a ++ b)) x (omega (arith, length-append a b))) ∙ ap (λ (y : List X). take (length a) y) h ∙ take_at a b (length a) refl

pub keeps_after : {X : Type 0} (a b m x : List X) → m ≡ a ++ b → take (length m) x ≡ m → take (length a) x ≡ a
keeps_after {X} a b m x e h = keeps a b x (subst (λ (y : List X). take (length y) x ≡ y) e h)

pub HasNoOther-at : (vs : List Value) (i : ℕ) (v : Value) → i < length vs → v ≡ get_or vs i v → RowHasNoOther (row_of vs) → HasNoOther v
HasNoOther-at [] i v lt is h = absurd (omega (arith, lt))
HasNoOther-at (w ∷ vs) zero v lt is h = subst HasNoOther (sym is) h.0
HasNoOther-at (w ∷ vs) (suc i) v lt is h = HasNoOther-at vs i v (omega (arith, lt)) is h.1

pub Fits-at : (vs : List Value) (i : ℕ) (v : Value) → i < length vs → v ≡ get_or vs i v → FitsRow (row_of vs) → Fits v
Fits-at [] i v lt is h = absurd (omega (arith, lt))
Fits-at (w ∷ vs) zero v lt is h = subst Fits (sym is) h.0
Fits-at (w ∷ vs) (suc i) v lt is h = Fits-at vs i v (omega (arith, lt)) is h.1

pub grown : (a b c m s x : List ℕ) → m ≡ a ++ b → x ≡ m ++ s → c ≡ b ++ s → x ≡ a ++ c
grown a b c m s x p q r = q ∙ ap (λ (y : List ℕ). y ++ s) p ∙ append_assoc a b s ∙ ap (λ (y : List ℕ). a ++ y) (sym r)

-- the values of a structure
pub no_other_inside : (v : Value) (r : Row) (vs : List Value) → v ≡ kinds.Struct r → row_of vs ≡ r → HasNoOther v → RowHasNoOther (row_of vs)
no_other_inside v r vs is row h = subst RowHasNoOther (sym row) (subst HasNoOther is h)

pub fits_inside : (v : Value) (r : Row) (vs : List Value) → v ≡ kinds.Struct r → row_of vs ≡ r → Fits v → FitsRow (row_of vs)
fits_inside v r vs is row h = subst FitsRow (sym row) (subst Fits is h).1

-- none is larger than the largest
pub size-at : (vs : List Value) (i : ℕ) (v : Value) → i < length vs → v ≡ get_or vs i v → size-Value v ≤ most size-Value vs
size-at [] i v lt is = absurd (omega (arith, lt))
size-at (w ∷ vs) zero v lt is = omega (arith, ap size-Value is)
size-at (w ∷ vs) (suc i) v lt is = omega (arith, size-at vs i v (omega (arith, lt)) is)
