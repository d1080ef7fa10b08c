-- The largest Data of one more part.
use Rattle.std.proofs.Common.{◌≡◌, ℕ, zero, suc, ◌+◌, ◌<◌, List, [], ◌∷◌, length, take, get_or, arith, ap}
use Rattle.sv_base.specs.Fields.{fields_of}
use Rattle.sv_base.specs.declared.types.Part1.{Part1}
use Rattle.bay_model.specs.Places.{largest_fields, largest}

pub largest-more : (ps : List Part1) (i : ℕ) (p : Part1) → i < length ps → p ≡ get_or ps i p
    → largest_fields (fields_of (take (i + 1) ps)) ≡ largest_fields (fields_of (take i ps)) + largest p.kind
largest-more [] i p lt is = absurd (omega (arith, lt))
largest-more (q ∷ ps) zero p lt is = omega (arith, ap (λ (x : Part1). largest x.kind) is)
largest-more (q ∷ ps) (suc i) p lt is = let next : suc i + 1 ≡ suc (i + 1) = omega arith in
    rw next (omega (arith, largest-more ps i p (omega (arith, lt)) is))
