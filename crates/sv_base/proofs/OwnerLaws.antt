-- An address and its 64 octets.
use Rattle.std.proofs.Common.{◌≡◌, ◌≤◌, ◌-◌, ◌+◌, ℕ, List, length, take, drop, ◌++◌, refl, sym, ap, ◌∙◌, arith}
use Rattle.std.specs.Prelude.{replicate}
use Rattle.std.proofs.lemmas.List.{length-append, length-replicate, take_at, drop-replicate}
use Rattle.sv_base.specs.Owners.{IsAddress, filled}

pub rest_of_none : (row : List ℕ) → row ++ drop (length row) (replicate 64 0) ≡ filled row
rest_of_none row = ap (λ l. row ++ l) (drop-replicate (length row) 64 0)

pub begins : (row : List ℕ) → take (length row) (filled row) ≡ row
begins row = take_at row (replicate (64 - length row) 0) (length row) refl

pub is_address : (row : List ℕ) → 1 ≤ length row → length row ≤ 64 → IsAddress (length row) (filled row)
is_address row least most = record {
  least = least;
  most = most;
  all = length-append row (replicate (64 - length row) 0) ∙ (ap (λ n. length row + n) (length-replicate (64 - length row) 0) ∙ omega (arith, most));
  rest = ap (λ l. l ++ replicate (64 - length row) 0) (sym (begins row));
}
