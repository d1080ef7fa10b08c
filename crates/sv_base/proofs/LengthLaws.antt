-- How many octets a packed row of bits has, and an element whose content is counted up to 4294967295.
use Rattle.std.proofs.Common.{◌≡◌, ℕ, ◌+◌, ◌/◌, ◌<◌, Bool, List, [], ◌∷◌, length, take, get_or, zero, suc, if◌then◌else◌, arith, length-append, append-nil, refl}
use Rattle.sv_base.specs.Data.{packed, data_of, data_row}
use Rattle.sv_base.specs.Seen.{row_of}
use Rattle.sv_base.specs.declared.value.Value.{Value}

mutual
  pub length-packed : (sum : ℕ) (bs : List Bool) → length (packed 128 sum bs) ≡ (length bs + 7) / 8
  length-packed sum [] = refl
  length-packed sum (b ∷ bs) = omega (arith, from-64 (sum + (if b then 128 else 0)) bs)

  from-64 : (sum : ℕ) (bs : List Bool) → length (packed 64 sum bs) ≡ (length bs + 8) / 8
  from-64 sum [] = refl
  from-64 sum (b ∷ bs) = omega (arith, from-32 (sum + (if b then 64 else 0)) bs)

  from-32 : (sum : ℕ) (bs : List Bool) → length (packed 32 sum bs) ≡ (length bs + 9) / 8
  from-32 sum [] = refl
  from-32 sum (b ∷ bs) = omega (arith, from-16 (sum + (if b then 32 else 0)) bs)

  from-16 : (sum : ℕ) (bs : List Bool) → length (packed 16 sum bs) ≡ (length bs + 10) / 8
  from-16 sum [] = refl
  from-16 sum (b ∷ bs) = omega (arith, from-8 (sum + (if b then 16 else 0)) bs)

  from-8 : (sum : ℕ) (bs : List Bool) → length (packed 8 sum bs) ≡ (length bs + 11) / 8
  from-8 sum [] = refl
  from-8 sum (b ∷ bs) = omega (arith, from-4 (sum + (if b then 8 else 0)) bs)

  from-4 : (sum : ℕ) (bs : List Bool) → length (packed 4 sum bs) ≡ (length bs + 12) / 8
  from-4 sum [] = refl
  from-4 sum (b ∷ bs) = omega (arith, from-2 (sum + (if b then 4 else 0)) bs)

  from-2 : (sum : ℕ) (bs : List Bool) → length (packed 2 sum bs) ≡ (length bs + 13) / 8
  from-2 sum [] = refl
  from-2 sum (b ∷ bs) = omega (arith, from-1 (sum + (if b then 2 else 0)) bs)

  from-1 : (sum : ℕ) (bs : List Bool) → length (packed 1 sum bs) ≡ (length bs + 14) / 8
  from-1 sum [] = refl
  from-1 sum (b ∷ bs) = omega (arith, length-packed 0 bs)

pub length-data_row-more : (vs : List Value) (i : ℕ) (v : Value) → i < length vs → v ≡ get_or vs i v
    → length (data_row (row_of (take (i + 1) vs))) ≡ length (data_row (row_of (take i vs))) + length (data_of v)
length-data_row-more [] i v lt is = absurd (omega (arith, lt))
length-data_row-more (w ∷ vs) zero v lt is = rw (append-nil, is) (omega arith)
length-data_row-more (w ∷ vs) (suc i) v lt is =
    let next : suc i + 1 ≡ suc (i + 1) = omega arith in
    rw next (omega (
      arith,
      length-append (data_of w) (data_row (row_of (take i vs))),
      length-append (data_of w) (data_row (row_of (take (i + 1) vs))),
      length-data_row-more vs i v (omega (arith, lt)) is,
    ))
