-- What is written.
use Rattle.std.proofs.Common.{◌≡◌, ℕ, zero, suc, ◌+◌, ◌-◌, ◌*◌, ◌/◌, ◌%◌, ◌^◌, ◌<◌, ◌≤◌, List, [], ◌∷◌, ◌++◌, length, take, drop, refl, sym, ap, ◌∙◌, inl, inr, append_assoc, arith}
use Rattle.std.specs.List.{flat_map}
use Rattle.std.proofs.Math.Nat.{div-eq_of_lt, div-mul-le_self, pow-le-pow_right, lt-mul-div-succ}
use Rattle.std.proofs.lemmas.Nat.{div-add-mod', div-mul-add}
use Rattle.std.proofs.lemmas.List.{append-nil, length-append, length-take, length-drop, take-append-drop, take_at, drop_at}
use Rattle.std.proofs.lemmas.List.Concat.{flat_map-cons}
use Rattle.tpkt_cotp.specs.declared.codes.TheConstants.{DT, END_OF_TSDU}
use Rattle.tpkt_cotp.specs.Packet.{packet}
use Rattle.tpkt_cotp.specs.Written.{IsExponent, room, AreSegments, segments_at, segments_of, tsdu_of}

pub exponent_bounds : (e : ℕ) → IsExponent e → (128 ≤ 2 ^ e) × (2 ^ e ≤ 65536)
exponent_bounds e (inl (low, high)) = (pow-le-pow_right {n = 2} (omega arith) {i = 7} {j = e} low, omega (arith, pow-le-pow_right {n = 2} (omega arith) {i = e} {j = 13} high))
exponent_bounds e (inr same) = (rw same (omega arith), rw same (omega arith))

pub room_bounds : (e : ℕ) → IsExponent e → (125 ≤ room e) × (room e ≤ 65528)
room_bounds e is = let b = exponent_bounds e is in (omega (arith, b.0), omega arith)

-- ---- one DT more

one_more : (n most : ℕ) → 0 < most → most < n → (n - 1) / most ≡ suc ((n - most - 1) / most)
one_more n most some lt =
    let k : ℕ = n - most - 1 in
    let split : k / most * most + k % most ≡ k = div-add-mod' k most in
    let whole : n - 1 ≡ suc (k / most) * most + k % most = omega (arith, split) in
    ap (λ (m : ℕ). m / most) whole ∙ div-mul-add (suc (k / most)) most (k % most) (omega arith)

pub segments_more : (most : ℕ) (xs : List ℕ) → 0 < most → most < length xs → segments_of most xs ≡ (2 ∷ DT ∷ 0 ∷ take most xs) ∷ segments_of most (drop most xs)
unfolding segments_of
segments_more most xs some lt =
    ap (λ (n : ℕ). segments_at n most xs) (one_more (length xs) most some lt)
    ∙ ap (λ (n : ℕ). (2 ∷ DT ∷ 0 ∷ take most xs) ∷ segments_at ((n - 1) / most) most (drop most xs)) (sym (length-drop most xs))

pub segments_last : (most : ℕ) (xs : List ℕ) → 0 < most → length xs ≤ most → segments_of most xs ≡ (2 ∷ DT ∷ END_OF_TSDU ∷ xs) ∷ []
unfolding segments_of
segments_last most xs some le =
    let lt : length xs - 1 < most = omega arith in
    ap (λ (n : ℕ). segments_at n most xs) (div-eq_of_lt lt)

pub begun : (e r : ℕ) (out xs : List ℕ) → out ≡ [] → r ≡ room e → tsdu_of e xs ≡ out ++ flat_map packet (segments_of r xs)
unfolding tsdu_of
begun e r out xs none same = rw (none, same) refl

pub written_more : (r : ℕ) (whole out rest later : List ℕ) → 0 < r → r < length rest → whole ≡ out ++ flat_map packet (segments_of r rest) → later ≡ out ++ packet (2 ∷ DT ∷ 0 ∷ take r rest) → whole ≡ later ++ flat_map packet (segments_of r (drop r rest))
written_more r whole out rest later some lt is grown =
    is ∙ ap (λ (x : List (List ℕ)). out ++ flat_map packet x) (segments_more r rest some lt)
    ∙ ap (λ (x : List ℕ). out ++ x) (flat_map-cons packet (2 ∷ DT ∷ 0 ∷ take r rest) (segments_of r (drop r rest)))
    ∙ sym (append_assoc out (packet (2 ∷ DT ∷ 0 ∷ take r rest)) (flat_map packet (segments_of r (drop r rest)))) ∙ ap (λ (x : List ℕ). x ++ flat_map packet (segments_of r (drop r rest))) (sym grown)

pub written_last : (r : ℕ) (whole out rest later : List ℕ) → 0 < r → length rest ≤ r → whole ≡ out ++ flat_map packet (segments_of r rest) → later ≡ out ++ packet (2 ∷ DT ∷ END_OF_TSDU ∷ rest) → later ≡ whole
written_last r whole out rest later some le is grown =
    grown ∙ ap (λ (x : List ℕ). out ++ x) (sym (append-nil (packet (2 ∷ DT ∷ END_OF_TSDU ∷ rest))) ∙ sym (flat_map-cons packet (2 ∷ DT ∷ END_OF_TSDU ∷ rest) []))
    ∙ ap (λ (x : List (List ℕ)). out ++ flat_map packet x) (sym (segments_last r rest some le)) ∙ sym is

-- ---- the DTs of a TSDU are the ones that are spelled so

are_at : (n most : ℕ) (xs : List ℕ) → 0 < most → length xs ≤ most * suc n → most * n ≤ length xs - 1 → AreSegments most xs (segments_at n most xs)
are_at zero most xs some high low = (omega (arith, high), refl)
are_at (suc zero) most xs some high low =
    let len : length xs ≡ length (take most xs) + length (drop most xs) = omega (arith, length-take most xs, length-drop most xs) in
    (take most xs, drop most xs, sym (take-append-drop most xs), omega (arith, length-take most xs, low, high), omega (arith, length-drop most xs, low, high), refl, are_at zero most (drop most xs) some (omega (arith, length-drop most xs, high)) (omega arith))
are_at (suc (suc n)) most xs some high low =
    let more : most * suc n ≤ most * suc (suc n) - most = omega arith in (
      take most xs,
      drop most xs,
      sym (take-append-drop most xs),
      omega (arith, length-take most xs, low, high),
      omega (arith, length-drop most xs, low, high),
      refl,
      are_at (suc n) most (drop most xs) some (omega (arith, length-drop most xs, high)) (omega (arith, length-drop most xs, low)),
    )

pub segments_are : (most : ℕ) (xs : List ℕ) → 0 < most → AreSegments most xs (segments_of most xs)
unfolding segments_of
segments_are most xs some =
    let low : (length xs - 1) / most * most ≤ length xs - 1 = div-mul-le_self (length xs - 1) most in
    let high : length xs - 1 < most * ((length xs - 1) / most + 1) = lt-mul-div-succ (length xs - 1) some in
    are_at ((length xs - 1) / most) most xs some (omega (arith, high)) (omega (arith, low))

pub segments_only : (most : ℕ) (xs : List ℕ) (tpdus : List (List ℕ)) → 0 < most → AreSegments most xs tpdus → tpdus ≡ segments_of most xs
segments_only most xs [] some are = absurd are
segments_only most xs (tpdu ∷ []) some (few, is) = ap (λ (x : List ℕ). x ∷ []) is ∙ sym (segments_last most xs some few)
segments_only most xs (tpdu ∷ next ∷ more) some (front, rest, whole, count, left, is, are) =
    let lt : most < length xs = omega (arith, ap length whole, length-append front rest, count, left) in
    let head : take most xs ≡ front = ap (λ (x : List ℕ). take most x) whole ∙ take_at front rest most count in
    let tail : drop most xs ≡ rest = ap (λ (x : List ℕ). drop most x) whole ∙ drop_at front rest most count in
    let one : tpdu ≡ 2 ∷ DT ∷ 0 ∷ take most xs = is ∙ ap (λ (x : List ℕ). 2 ∷ DT ∷ 0 ∷ x) (sym head) in
    ap (λ (x : List ℕ). x ∷ next ∷ more) one ∙ ap (λ (x : List (List ℕ)). (2 ∷ DT ∷ 0 ∷ take most xs) ∷ x) (segments_only most rest (next ∷ more) some are ∙ ap (λ (x : List ℕ). segments_of most x) (sym tail)) ∙ sym (segments_more most xs some lt)
