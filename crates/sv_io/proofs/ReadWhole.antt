-- A source that was read to its end, or as far as it is read.
use Rattle.std.proofs.Common.{◌≡◌, ◌≤◌, ◌+◌, ℕ, List, [], ◌++◌, length, take, ap, sym, ◌∙◌, arith, append-nil}
use Rattle.std.specs.Prelude.{Option, None, Some, IfSome}
use Rattle.std.specs.Io.KnownBytes.{Consumes, IsAtEnd}
use Rattle.std.proofs.KnownBytes.{Consumes-nil, Consumes-trans}
use Rattle.std.proofs.lemmas.List.{take_all}
use Rattle.std.proofs.Math.Seq.{take-append_seam}
use Rattle.sv_io.specs.Taken.{TakesAtMost}
use Rattle.sv_io.proofs.TakenLaws.{takes-more}

-- what was read so far: no more than n octets
pub record ReadSoFar (left now : Option (List ℕ)) (octets : List ℕ) (most : ℕ) : Type 0 where
  pub consumed : Consumes left now octets
  pub within : length octets ≤ most

pub reading-none : (left : Option (List ℕ)) (octets : List ℕ) (most : ℕ) → octets ≡ [] → ReadSoFar left left octets most
reading-none left octets most is = rw is (record { consumed = Consumes-nil left; within = omega arith })

pub reading-more : (left mid now : Option (List ℕ)) (octets piece all : List ℕ) (most : ℕ) → ReadSoFar left mid octets most → Consumes mid now piece → all ≡ octets ++ piece → length all ≤ most → ReadSoFar left now all most
reading-more left mid now octets piece all most r eaten is fits = record { consumed = rw is (Consumes-trans left mid now octets piece r.consumed eaten); within = fits }

pub whole_at_end : (left now : Option (List ℕ)) (octets : List ℕ) (most : ℕ) → ReadSoFar left now octets most → IsAtEnd now → IfSome left (λ b. octets ≡ take most b)
whole_at_end None now octets most r end = tt
whole_at_end (Some b) None octets most r end = absurd r.consumed
whole_at_end (Some b) (Some rest) octets most r end =
    let all : b ≡ octets = r.consumed ∙ ap (λ l. octets ++ l) end ∙ append-nil octets in
    rw all (sym (take_all most octets r.within))

pub whole_at_most : (left now : Option (List ℕ)) (octets : List ℕ) (most : ℕ) → ReadSoFar left now octets most → most ≤ length octets → IfSome left (λ b. octets ≡ take most b)
whole_at_most None now octets most r full = tt
whole_at_most (Some b) None octets most r full = absurd r.consumed
whole_at_most (Some b) (Some rest) octets most r full =
    let count : most ≡ length octets = omega (arith, r.within, full) in
    rw (r.consumed, count) (sym (take-append_seam octets rest))

-- and some octets more, whatever becomes of them
pub taken-more : (left mid now : Option (List ℕ)) (octets : List ℕ) (most room : ℕ) → ReadSoFar left mid octets most → TakesAtMost room mid now → length octets + room ≤ most → TakesAtMost most left now
taken-more left mid now octets most room r t le = takes-more (length octets) room most left mid now (octets, omega arith, r.consumed) t le
