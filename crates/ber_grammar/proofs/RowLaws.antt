-- A row whose elements are read further: one step, and the loop over it.
use Rattle.std.proofs.Common.{◌≡◌, ℕ, zero, suc, true, false, eqb, ◌<◌, ◌≤◌, ◌⊎◌, inl, inr, List, [], ◌∷◌, ◌++◌, length, Result, Ok, Err, refl, sym, ap, ◌∙◌, append_assoc, arith}
use Rattle.std.proofs.Math.Nat.{pos_of_ne-zero}
use Rattle.std.proofs.lemmas.Bool.{eqb-true, eqb-false}
use Rattle.std.proofs.lemmas.List.{append-nil, nil_from_length}
use Rattle.ber_grammar.specs.declared.fault.BerFault.{BerFault}
use Rattle.ber_grammar.specs.Element.{Element, Begins, IsRow}
use Rattle.ber_grammar.specs.Reader.{◌>>=◌, with_fault}
use Rattle.ber_grammar.specs.Reading.{first_at}
use Rattle.ber_grammar.specs.Rows.{bounded_row, row_at}
use Rattle.ber_grammar.proofs.ElementLaws.{FirstTells, first_tells, first_again, first_shorter, Begins-shorter}

module _ {A F : Type 0} (read : Element → Result A F) (broken : BerFault → F) where
  after : (n m : ℕ) (r : Result (Element × List ℕ) BerFault) → ((e : Element) (rest : List ℕ) → r ≡ Ok (e, rest) → (length rest ≤ n) × (length rest ≤ m))
      → ((rest : List ℕ) → length rest ≤ n → length rest ≤ m → bounded_row read broken n rest ≡ bounded_row read broken m rest)
      → (with_fault broken r >>= λ first. read first.0 >>= λ one. bounded_row read broken n first.1 >>= λ others. Ok (one ∷ others))
      ≡ (with_fault broken r >>= λ first. read first.0 >>= λ one. bounded_row read broken m first.1 >>= λ others. Ok (one ∷ others))
  after n m (Ok (e, rest)) short ih = let s = short e rest refl in rw (ih rest s.0 s.1) refl
  after n m (Err f) short ih = refl

  -- a larger bound changes nothing
  enough : (n m : ℕ) (octets : List ℕ) → length octets ≤ n → length octets ≤ m → bounded_row read broken n octets ≡ bounded_row read broken m octets
  unfolding bounded_row
  enough zero zero [] p q = refl
  enough zero (suc m) [] p q = refl
  enough (suc n) zero [] p q = refl
  enough (suc n) (suc m) [] p q = refl
  enough zero m (a ∷ octets) p q = absurd (omega (arith, p))
  enough (suc n) zero (a ∷ octets) p q = absurd (omega (arith, q))
  enough (suc n) (suc m) (a ∷ octets) p q =
      after n m (first_at (a ∷ octets)) (λ e rest h. let lt = first_shorter (a ∷ octets) e rest h in (omega (arith, lt, p), omega (arith, lt, q))) (enough n m)

  pub row_none : row_at read broken [] ≡ Ok []
  unfolding row_at bounded_row
  row_none = refl

  pub row_step : (octets : List ℕ) (e : Element) (rest : List ℕ) → first_at octets ≡ Ok (e, rest)
      → row_at read broken octets ≡ (read e >>= λ one. row_at read broken rest >>= λ others. Ok (one ∷ others))
  unfolding row_at bounded_row
  row_step [] e rest h = absurd (omega (arith, first_shorter [] e rest h))
  row_step (a ∷ octets) e rest h =
      let lt = first_shorter (a ∷ octets) e rest h in
      let same : bounded_row read broken (length octets) rest ≡ bounded_row read broken (length rest) rest = enough (length octets) (length rest) rest (omega (arith, lt)) (omega arith) in
      rw (h, same) refl

  pub row_stop : (octets : List ℕ) (f : BerFault) → first_at octets ≡ Err f → 0 < length octets → row_at read broken octets ≡ Err (broken f)
  unfolding row_at bounded_row
  row_stop [] f h some = absurd (omega (arith, some))
  row_stop (a ∷ octets) f h some = rw h refl

  -- ---- a loop

  -- what was read of the front, and what the rest gives, are what all give
  abbrev pub Goes : List A → List ℕ → List ℕ → Type 0
  Goes front octets rest = row_at read broken octets ≡ (row_at read broken rest >>= λ others. Ok (front ++ others))

  none_read : (r : Result (List A) F) → r ≡ (r >>= λ others. Ok ([] ++ others))
  none_read (Ok es) = refl
  none_read (Err f) = refl

  pub Goes-none : (octets : List ℕ) → Goes [] octets octets
  Goes-none octets = none_read (row_at read broken octets)

  more_read : (front : List A) (one : A) (r : Result (List A) F) → ((r >>= λ others. Ok (one ∷ others)) >>= λ others. Ok (front ++ others)) ≡ (r >>= λ others. Ok ((front ++ one ∷ []) ++ others))
  more_read front one (Ok es) = ap (λ (x : List A). Ok x) (sym (append_assoc front (one ∷ []) es))
  more_read front one (Err f) = refl

  pub Goes-more : (front : List A) (octets rest after : List ℕ) (e : Element) (one : A) → Goes front octets rest → first_at rest ≡ Ok (e, after) → read e ≡ Ok one → Goes (front ++ one ∷ []) octets after
  Goes-more front octets rest after e one h first this =
      h ∙ ap (λ (r : Result (List A) F). r >>= λ others. Ok (front ++ others)) (row_step rest e after first ∙ rw this refl) ∙ more_read front one (row_at read broken after)

  pub Goes-broken : (front : List A) (octets rest : List ℕ) (f : BerFault) → Goes front octets rest → first_at rest ≡ Err f → eqb (length rest) 0 ≡ false → row_at read broken octets ≡ Err (broken f)
  Goes-broken front octets rest f h first some = let ne = eqb-false (length rest) 0 some in h ∙ rw (row_stop rest f first (pos_of_ne-zero ne)) refl

  pub Goes-refused : (front : List A) (octets rest after : List ℕ) (e : Element) (f : F) → Goes front octets rest → first_at rest ≡ Ok (e, after) → read e ≡ Err f → row_at read broken octets ≡ Err f
  Goes-refused front octets rest after e f h first this = h ∙ rw (row_step rest e after first, this) refl

  pub Goes-all : (front : List A) (octets rest : List ℕ) → Goes front octets rest → eqb (length rest) 0 ≡ true → row_at read broken octets ≡ Ok front
  Goes-all front octets rest h none =
      h ∙ ap (λ (x : List ℕ). row_at read broken x >>= λ others. Ok (front ++ others)) (nil_from_length rest (eqb-true _ _ none)) ∙ rw row_none (ap (λ (x : List A). Ok x) (append-nil front))

  -- ---- what a row reads as

  -- each element is read so
  abbrev pub AllRead : List Element → List A → Type 0
  AllRead [] [] = Unit {0}
  AllRead [] (v ∷ vs) = ⊥
  AllRead (e ∷ es) [] = ⊥
  AllRead (e ∷ es) (v ∷ vs) = (read e ≡ Ok v) × AllRead es vs

  -- after whole elements that are read, the rest is no element, or the next is refused
  abbrev pub StopsAt : List ℕ → F → Type 0
  StopsAt rest f = ((g : BerFault) × (f ≡ broken g) × (first_at rest ≡ Err g)) ⊎ ((e : Element) × (after : List ℕ) × (first_at rest ≡ Ok (e, after)) × (read e ≡ Err f))

  abbrev pub RowTells : List ℕ → Result (List A) F → Type 0
  RowTells octets (Ok vs) = (es : List Element) × IsRow octets es × AllRead es vs
  RowTells octets (Err f) = (es : List Element) × (vs : List A) × (front rest : List ℕ) × IsRow front es × AllRead es vs × (octets ≡ front ++ rest) × (0 < length rest) × StopsAt rest f

  after_one : (octets : List ℕ) (e : Element) (rest : List ℕ) (v : A) (r : Result (List A) F) → Begins octets e rest → read e ≡ Ok v → RowTells rest r → RowTells octets (r >>= λ others. Ok (v ∷ others))
  after_one octets e rest v (Ok vs) (front, s, p) this (es, row, all) = (e ∷ es, (front, rest, s, p, row), (this, all))
  after_one octets e rest v (Err f) (front, s, p) this (es, vs, front', bad, row, all, q, some, stop) =
      (e ∷ es, v ∷ vs, front ++ front', bad, (front, front', s, refl, row), (this, all), p ∙ ap (λ (x : List ℕ). front ++ x) q ∙ sym (append_assoc front front' bad), some, stop)

  after_read : (n : ℕ) (octets : List ℕ) (e : Element) (rest : List ℕ) (r : Result A F) → read e ≡ r → first_at octets ≡ Ok (e, rest) → 0 < length octets → Begins octets e rest → RowTells rest (bounded_row read broken n rest)
      → RowTells octets (r >>= λ one. bounded_row read broken n rest >>= λ others. Ok (one ∷ others))
  after_read n octets e rest (Ok v) this first some b h = after_one octets e rest v (bounded_row read broken n rest) b this h
  after_read n octets e rest (Err f) this first some b h = ([], [], [], octets, refl, tt, refl, some, inr (e, rest, first, this))

  after_first : (n : ℕ) (octets : List ℕ) (r : Result (Element × List ℕ) BerFault) → first_at octets ≡ r → 0 < length octets → length octets ≤ suc n → FirstTells octets r → ((rest : List ℕ) → length rest ≤ n → RowTells rest (bounded_row read broken n rest))
      → RowTells octets (with_fault broken r >>= λ first. read first.0 >>= λ one. bounded_row read broken n first.1 >>= λ others. Ok (one ∷ others))
  after_first n octets (Ok (e, rest)) first some le b ih = after_read n octets e rest (read e) refl first some b (ih rest (omega (arith, le, Begins-shorter octets e rest b)))
  after_first n octets (Err g) first some le b ih = ([], [], [], octets, refl, tt, refl, some, inl (g, refl, first))

  bounded_tells : (n : ℕ) (octets : List ℕ) → length octets ≤ n → RowTells octets (bounded_row read broken n octets)
  unfolding bounded_row
  bounded_tells zero [] le = ([], refl, tt)
  bounded_tells zero (a ∷ octets) le = absurd (omega (arith, le))
  bounded_tells (suc n) [] le = ([], refl, tt)
  bounded_tells (suc n) (a ∷ octets) le = after_first n (a ∷ octets) (first_at (a ∷ octets)) refl (omega arith) le (first_tells (a ∷ octets)) (bounded_tells n)

  pub row_tells : (octets : List ℕ) → RowTells octets (row_at read broken octets)
  unfolding row_at
  row_tells octets = bounded_tells (length octets) octets (omega arith)

  pub row_again : (octets : List ℕ) (es : List Element) (vs : List A) → IsRow octets es → AllRead es vs → row_at read broken octets ≡ Ok vs
  row_again octets [] [] row all = ap (row_at read broken) row ∙ row_none
  row_again octets [] (v ∷ vs) row all = absurd all
  row_again octets (e ∷ es) [] row all = absurd all
  row_again octets (e ∷ es) (v ∷ vs) (front, rest, s, p, row) all =
      row_step octets e rest (ap first_at p ∙ first_again front rest e s) ∙ rw (all.0, row_again rest es vs row all.1) refl

  pub row_refused : (octets : List ℕ) (f : F) (es : List Element) (vs : List A) (front rest : List ℕ) → IsRow front es → AllRead es vs → octets ≡ front ++ rest → 0 < length rest → StopsAt rest f → row_at read broken octets ≡ Err f
  row_refused octets f [] [] front rest row all p some (inl (g, e, first)) = ap (row_at read broken) (p ∙ ap (λ (x : List ℕ). x ++ rest) row) ∙ row_stop rest g first some ∙ ap (λ (x : F). Err x) (sym e)
  row_refused octets f [] [] front rest row all p some (inr (e, after, first, this)) = ap (row_at read broken) (p ∙ ap (λ (x : List ℕ). x ++ rest) row) ∙ row_step rest e after first ∙ rw this refl
  row_refused octets f [] (v ∷ vs) front rest row all p some stop = absurd all
  row_refused octets f (e ∷ es) [] front rest row all p some stop = absurd all
  row_refused octets f (e ∷ es) (v ∷ vs) front rest (first, others, s, q, row) all p some stop =
      let whole : octets ≡ first ++ (others ++ rest) = p ∙ ap (λ (x : List ℕ). x ++ rest) q ∙ append_assoc first others rest in
      row_step octets e (others ++ rest) (ap first_at whole ∙ first_again first (others ++ rest) e s) ∙ rw (all.0, row_refused (others ++ rest) f es vs others rest row all.1 refl some stop) refl
