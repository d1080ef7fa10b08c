-- The response of a list of names that is cut.
use Rattle.std.proofs.Common.{◌≡◌, ◌≢◌, ◌<◌, ◌≤◌, ◌+◌, ℕ, Bool, true, false, List, [], ◌∷◌, ◌++◌, length, refl, sym, ap, ap₂, subst, ◌∙◌, append_assoc, append-nil, length-append, arith}
use Rattle.std.specs.Prelude.{◌^◌, All, nat_lt, if◌then◌else◌}
use Rattle.std.specs.List.{flat_map}
use Rattle.std.proofs.lemmas.Bool.{lt-leb, lt-ltb}
use Rattle.std.proofs.lemmas.List.Elements.{All-nil, All-cons, All-head, All-tail}
use Rattle.ber_write.specs.Minimal.{uint_octets, element_size}
use Rattle.mms_data.proofs.MinimalLaws.{octets-element}
use Rattle.bay_model.specs.Sizes.{identifier, within}
use Rattle.bay_model.proofs.SizeLaws.{rest_is_beyond}
use Rattle.bay_answers.specs.RepliesContents.{identifiers}
use Rattle.bay_answers.specs.RepliesSizes.{names_size, service_size}
use Rattle.bay_answers.specs.Replies.{names_octets, names_fit, fitting, shown, names_response}
use Rattle.bay_answers.proofs.RepliesNamesLaws.{fit_by_sums}
use Rattle.bay_answers.proofs.RepliesSizeLaws.{size_above}

abbrev AreShort : List (List ℕ) → Type 0
AreShort names = All (λ n. length n < 2 ^ 32) names

-- the identifiers of names are those that the size is reckoned by
same-octets : (names : List (List ℕ)) → AreShort names → flat_map identifier names ≡ identifiers names
same-octets [] short = refl
same-octets (n ∷ ns) short =
    ap₂ (λ (x y : List ℕ). x ++ y) (sym (octets-element 0x1a n (omega arith) (All-head (λ m. length m < 2 ^ 32) n ns short))) (same-octets ns (All-tail (λ m. length m < 2 ^ 32) n ns short))

module _ {A : Type 0} (fits : List A → Bool) where
  -- where a list doesn't fit, what follows it changes nothing, and what fits of it is shorter
  cut-fitting : (so_far front rest : List A) → front ≢ [] → fits (so_far ++ front) ≡ false
      → (fitting fits so_far (front ++ rest) ≡ fitting fits so_far front) × (length (fitting fits so_far front) < length so_far + length front)
  cut-fitting so_far [] rest some over = absurd (some refl)
  cut-fitting so_far (x ∷ []) rest some over = rw over (refl, omega arith)
  cut-fitting so_far (x ∷ y ∷ front) rest some over = by (fits (so_far ++ x ∷ [])) (cut-fitting (so_far ++ x ∷ []) (y ∷ front) rest (λ e. cc) (ap fits (append_assoc so_far (x ∷ []) (y ∷ front)) ∙ over)) where
    by : (b : Bool)
        → (fitting fits (so_far ++ x ∷ []) (y ∷ front ++ rest) ≡ fitting fits (so_far ++ x ∷ []) (y ∷ front)) × (length (fitting fits (so_far ++ x ∷ []) (y ∷ front)) < length (so_far ++ x ∷ []) + length (y ∷ front))
        → ((if b then fitting fits (so_far ++ x ∷ []) (y ∷ front ++ rest) else so_far) ≡ (if b then fitting fits (so_far ++ x ∷ []) (y ∷ front) else so_far))
        × (length (if b then fitting fits (so_far ++ x ∷ []) (y ∷ front) else so_far) < length so_far + length (x ∷ y ∷ front))
    by true r = (r.0, omega (arith, r.1, length-append so_far (x ∷ [])))
    by false r = (refl, omega arith)

-- the PDU is longer than its identifiers
longer : (invoke n : ℕ) → n ≤ names_size invoke n
unfolding names_size service_size
longer invoke n = omega (arith, size_above n, size_above (element_size n + 3), size_above (element_size (length (uint_octets invoke)) + element_size (element_size n + 3)))

-- more octets than the size don't fit
over-size : (size invoke : ℕ) (names : List (List ℕ)) → AreShort names → size < length (flat_map identifier names) → names_fit size invoke names ≡ false
over-size size invoke names short over =
    fit_by_sums size invoke names
    ∙ lt-leb (names_size invoke (length (identifiers names))) size (omega (arith, over, ap length (same-octets names short), longer invoke (length (identifiers names))))

front-short : (front rest : List (List ℕ)) → AreShort (front ++ rest) → AreShort front
front-short [] rest short = All-nil (λ m. length m < 2 ^ 32)
front-short (n ∷ ns) rest short =
    All-cons (λ m. length m < 2 ^ 32) n ns (All-head (λ m. length m < 2 ^ 32) n (ns ++ rest) short) (front-short ns rest (All-tail (λ m. length m < 2 ^ 32) n (ns ++ rest) short))

pub cut_alike : (size invoke : ℕ) (names : List (List ℕ)) → size < 2 ^ 32 → AreShort names → names_response size invoke (within size names) ≡ names_response size invoke names
cut_alike size invoke names low short = by (within size names) (rest_is_beyond size names).0 (rest_is_beyond size names).1 (rest_is_beyond size names).2 where
  by : (front rest : List (List ℕ)) → front ++ rest ≡ names → (rest ≢ [] → size < length (flat_map identifier front)) → names_response size invoke front ≡ names_response size invoke names
  by front [] whole over = ap (names_response size invoke) (sym (append-nil front) ∙ whole)
  by [] (r ∷ rest) whole over = absurd (omega (arith, over (λ e. cc)))
  by (n ∷ front) (r ∷ rest) whole over =
      let f : List (List ℕ) = n ∷ front in
      let few : AreShort f = front-short f (r ∷ rest) (subst AreShort (sym whole) short) in
      let cut = cut-fitting (names_fit size invoke) [] f (r ∷ rest) (λ e. cc) (over-size size invoke f few (over (λ e. cc))) in
      let same : shown size invoke (f ++ r ∷ rest) ≡ shown size invoke f = cut.0 in
      let fewer : length (shown size invoke f) < length f = omega (arith, cut.1) in
      let one : nat_lt (length (shown size invoke f)) (length f) ≡ true = lt-ltb (length (shown size invoke f)) (length f) fewer in
      let other : nat_lt (length (shown size invoke (f ++ r ∷ rest))) (length (f ++ r ∷ rest)) ≡ true =
      lt-ltb (length (shown size invoke (f ++ r ∷ rest))) (length (f ++ r ∷ rest)) (omega (arith, fewer, ap length same, length-append f (r ∷ rest))) in
      ap (names_octets invoke (shown size invoke f)) one
      ∙ sym (ap₂ (names_octets invoke) same other)
      ∙ ap (names_response size invoke) whole
