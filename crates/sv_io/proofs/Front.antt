-- What is read from the front of octets in memory, and what is written piece by piece.
use Rattle.std.proofs.Common.{◌≡◌, ◌≤◌, ◌<◌, ◌+◌, ◌-◌, ℕ, List, [], ◌++◌, length, take, drop, ap, sym, ◌∙◌, arith, length-take, length-drop, length-append, min, subst}
use Rattle.std.proofs.lemmas.List.{drop-drop, take-append-drop, take_all, nil_from_length}
use Rattle.std.proofs.Math.Seq.{take-append_seam, take-add}
use Rattle.std.specs.Prelude.{Option, None, Some}
use Rattle.std.specs.Io.KnownBytes.{Appends, Keeps}
use Rattle.std.proofs.KnownBytes.{Appends-trans}

pub reads : (octets buf copied : List ℕ) (start n : ℕ) → copied ≡ take n (drop start octets) → n ≤ length (drop start octets)
    → drop start octets ≡ take n (copied ++ buf) ++ drop (start + n) octets
reads octets buf copied start n e h =
    let len : length copied ≡ n = ap length e ∙ rw length-take (omega arith) in
    let front : take n (copied ++ buf) ≡ copied = ap (λ k. take k (copied ++ buf)) (sym len) ∙ take-append_seam copied buf in
    sym (rw (front, e, ← drop-drop n start octets) (take-append-drop n (drop start octets)))

-- a buffer that has capacity after the copying had it before
pub room : (rest buf copied : List ℕ) (n : ℕ) → copied ≡ take n rest → n ≡ min (length rest) (length buf) → 0 < length (copied ++ drop n buf) → 0 < length buf
room rest buf copied n e is h =
    let len : length copied ≡ n = ap length e ∙ rw length-take (omega arith) in
    omega (arith, rw (length-append copied (drop n buf), length-drop n buf) at h)

-- where nothing was read into a buffer that has capacity, nothing is left
pub ended : (octets : List ℕ) (start n room : ℕ) → n ≡ min (length (drop start octets)) room → 0 < room → n ≡ 0 → drop (start + n) octets ≡ []
ended octets start n room e h z = nil_from_length (drop (start + n) octets) (rw length-drop (omega (arith, rw length-drop at e)))

pub whole : (octets : List ℕ) (start : ℕ) → take (length octets - start) (drop start octets) ≡ drop start octets
whole octets start = take_all (length octets - start) (drop start octets) (rw length-drop (omega arith))

-- a front of the piece was appended, and this is the rest of it
abbrev pub IsWritten : Option (List ℕ) → Option (List ℕ) → List ℕ → List ℕ → Type 0
IsWritten old now piece rest = (n : ℕ) × (n ≤ length piece) × (rest ≡ drop n piece) × Appends old now (take n piece)

pub written_more : (first middle last : Option (List ℕ)) (piece rest : List ℕ) (k : ℕ) → IsWritten first middle piece rest → k ≤ length rest → Appends middle last (take k rest)
    → IsWritten first last piece (take (length rest - k) (drop k rest))
written_more first middle last piece rest k p h q = (
  p.0 + k,
  omega (arith, p.1, rw (p.2, length-drop) at h),
  whole rest k ∙ (ap (drop k) p.2 ∙ drop-drop k p.0 piece),
  rw (take-add p.0 k piece) (Appends-trans first middle last (take p.0 piece) (take k (drop p.0 piece)) p.3 (subst (λ z. Appends middle last (take k z)) p.2 q)),
)

pub keeps_appended : (first middle last : Option (List ℕ)) (piece : List ℕ) → Appends first middle piece → Keeps middle last → Appends first last piece
keeps_appended None middle last piece p q = tt
keeps_appended (Some xs) None last piece p q = absurd p
keeps_appended (Some xs) (Some ys) None piece p q = absurd q
keeps_appended (Some xs) (Some ys) (Some zs) piece p q = q ∙ p
