-- Rows found by their numbers, and after one more.
use Rattle.std.proofs.Common.{◌≡◌, ◌<◌, ℕ, zero, suc, Bool, true, false, List, [], ◌∷◌, ◌++◌, length, take, Option, None, Some, refl, sym, ap, subst, ◌∙◌, arith, length-append, get_or, ◌+◌, if◌then◌else◌, inl, inr, ◌⊎◌, true≢false}
use Rattle.std.specs.Prelude.{nat_eq}
use Rattle.std.specs.List.{All}
use Rattle.std.specs.Option.{option_or}
use Rattle.std.specs.Str.{bytes_eq}
use Rattle.std.specs.Cmp.{unsigned_Decides}
use Rattle.std.proofs.lemmas.Bool.{eq-eqb}
use Rattle.std.proofs.lemmas.Slice.Eq.{bytes_eq-Decides}
use Rattle.std.proofs.lemmas.List.Elements.{All-head, All-tail, All-nil, All-cons, All-push}
use Rattle.std.proofs.lemmas.List.{take_more}
use Rattle.list_laws.proofs.Places.{position-push}
use Rattle.octet_rows.specs.Hashing.{hash_at}
use Rattle.octet_rows.specs.Found.{place_in, is_at, first_at, with_first, found, Finds, IsSame, IsNoted, noted_where}

some-same : {m n : ℕ} → Some m ≡ Some n → m ≡ n
some-same e = cc e

or-none : (r : Option ℕ) → option_or r None ≡ r
or-none (Some x) = refl
or-none None = refl

-- a place within the rows has the same row after one more
at-more : (rows : List (List ℕ)) (more row : List ℕ) (place : ℕ) → place < length rows → is_at (rows ++ more ∷ []) row place ≡ is_at rows row place
at-more [] more row place lt = absurd (omega (arith, lt))
at-more (r ∷ rows) more row zero lt = refl
at-more (r ∷ rows) more row (suc place) lt = at-more rows more row place (omega (arith, lt))

-- the last place has the row that is one more
at-last : (rows : List (List ℕ)) (more row : List ℕ) → is_at (rows ++ more ∷ []) row (length rows) ≡ bytes_eq row more
at-last [] more row = refl
at-last (r ∷ rows) more row = at-last rows more row

-- with one more, a row stands where it stood, or at the last place
at-cases : (rows : List (List ℕ)) (more row : List ℕ) (place : ℕ) → is_at (rows ++ more ∷ []) row place ≡ true → (is_at rows row place ≡ true) ⊎ ((place ≡ length rows) × (bytes_eq row more ≡ true))
at-cases [] more row zero is = inr (refl, is)
at-cases [] more row (suc place) is = absurd (true≢false (sym is))
at-cases (r ∷ rows) more row zero is = inl is
at-cases (r ∷ rows) more row (suc place) is = elim (at-cases rows more row place is) [ inl there ↦ inl there | inr last ↦ inr (ap suc last.0, last.1) ]

first-more : (rows : List (List ℕ)) (more row : List ℕ) (places : List ℕ) → All (λ place. place < length rows) places → first_at (rows ++ more ∷ []) row places ≡ first_at rows row places
first-more rows more row [] all = refl
first-more rows more row (place ∷ places) all = ap (λ b. if b then Some place else first_at (rows ++ more ∷ []) row places) (at-more rows more row place (All-head (λ place. place < length rows) place places all))
    ∙ ap (λ r. if is_at rows row place then Some place else r) (first-more rows more row places (All-tail (λ place. place < length rows) place places all))

-- one more place
push-or : (b t : Bool) (p q : ℕ) (r : Option ℕ) → (if b then Some p else option_or r (if t then Some q else None)) ≡ option_or (if b then Some p else r) (if t then Some q else None)
push-or true t p q r = refl
push-or false t p q r = refl

first-push : (rows : List (List ℕ)) (row : List ℕ) (places : List ℕ) (place : ℕ) → first_at rows row (places ++ place ∷ []) ≡ option_or (first_at rows row places) (if is_at rows row place then Some place else None)
first-push rows row [] place = refl
first-push rows row (p ∷ places) place = ap (λ r. if is_at rows row p then Some p else r) (first-push rows row places place) ∙ push-or (is_at rows row p) (is_at rows row place) p place (first_at rows row places)

with-push : (first : Option ℕ) (further : List ℕ) (place : ℕ) → with_first first (further ++ place ∷ []) ≡ with_first first further ++ place ∷ []
with-push None further place = refl
with-push (Some p) further place = refl

-- ---- one more row, whose place is noted
module _ (rows : List (List ℕ)) (first : ℕ → Option ℕ) (further : List ℕ) (finds : Finds rows first further) (more : List ℕ) where
  within : (row : List ℕ) (p : Option ℕ) → first (hash_at row) ≡ p → All (λ place. place < length rows) (with_first p further)
  within row None e = finds.further_within
  within row (Some place) e = by (finds.first_within (hash_at row) place e)
    where
      by : place < length rows → All (λ place. place < length rows) (place ∷ further)
      by lt = All-cons (λ place. place < length rows) place further lt finds.further_within

  -- what was found is found at its place still
  kept : (row : List ℕ) → first_at (rows ++ more ∷ []) row (with_first (first (hash_at row)) further) ≡ place_in rows row
  kept row = first-more rows more row (with_first (first (hash_at row)) further) (within row (first (hash_at row)) refl) ∙ finds.places row

  longer : (place : ℕ) → place < length rows → place < length (rows ++ more ∷ [])
  longer place lt = omega (arith, lt, length-append rows (more ∷ []))

  last-within : length rows < length (rows ++ more ∷ [])
  last-within = omega (arith, length-append rows (more ∷ []))

  all-longer : (places : List ℕ) → All (λ place. place < length rows) places → All (λ place. place < length (rows ++ more ∷ [])) places
  all-longer [] all = All-nil (λ place. place < length (rows ++ more ∷ []))
  all-longer (place ∷ places) all = All-cons (λ place. place < length (rows ++ more ∷ [])) place places (longer place (All-head (λ place. place < length rows) place places all)) (all-longer places (All-tail (λ place. place < length rows) place places all))

  pushed-behind : (next : ℕ → Option ℕ) (others : List ℕ) (other : ℕ) → first (hash_at more) ≡ Some other → others ≡ further ++ length rows ∷ [] → ((q : ℕ) → next q ≡ first q) → Finds (rows ++ more ∷ []) next others
  pushed-behind next others other there es each = record {
    places = λ row. ap (λ p. first_at (rows ++ more ∷ []) row (with_first p others)) (each (hash_at row))
        ∙ (ap (λ ps. first_at (rows ++ more ∷ []) row (with_first (first (hash_at row)) ps)) es
        ∙ (ap (first_at (rows ++ more ∷ []) row) (with-push (first (hash_at row)) further (length rows))
        ∙ (first-push (rows ++ more ∷ []) row (with_first (first (hash_at row)) further) (length rows)
        ∙ (ap (λ r. option_or r (if is_at (rows ++ more ∷ []) row (length rows) then Some (length rows) else None)) (kept row)
        ∙ (ap (λ b. option_or (place_in rows row) (if b then Some (length rows) else None)) (at-last rows more row)
        ∙ sym (position-push (bytes_eq row) rows more))))));
    absent = λ row none. by row none (bytes_eq row more) refl;
    first_within = λ hash place is. longer place (finds.first_within hash place (sym (each hash) ∙ is));
    further_within = subst (All (λ place. place < length (rows ++ more ∷ []))) (sym es) (All-push (λ place. place < length (rows ++ more ∷ [])) further (length rows) (all-longer further finds.further_within) last-within);
    alone = λ row place none is. absurd (omega (arith, ap length (sym es ∙ none), length-append further (length rows ∷ [])));
  }
    where
      by : (row : List ℕ) → next (hash_at row) ≡ None → (b : Bool) → bytes_eq row more ≡ b → place_in (rows ++ more ∷ []) row ≡ None
      by row none true e = absurd (cc (sym there ∙ (ap (λ r. first (hash_at r)) (sym ((bytes_eq-Decides row more).0 e)) ∙ (sym (each (hash_at row)) ∙ none))))
      by row none false e = position-push (bytes_eq row) rows more ∙ (ap (λ b. option_or (place_in rows row) (if b then Some (length rows) else None)) e ∙ (or-none (place_in rows row) ∙ finds.absent row (sym (each (hash_at row)) ∙ none)))

  pushed-first : (next : ℕ → Option ℕ) (others : List ℕ) → first (hash_at more) ≡ None → others ≡ further → ((q : ℕ) → next q ≡ (if nat_eq (hash_at more) q then Some (length rows) else first q)) → Finds (rows ++ more ∷ []) next others
  pushed-first next others none es each = record {
    places = λ row. found-by row (nat_eq (hash_at more) (hash_at row)) refl;
    absent = λ row is. absent-by row is (nat_eq (hash_at more) (hash_at row)) refl;
    first_within = λ hash place is. within-by hash place is (nat_eq (hash_at more) hash) refl;
    further_within = subst (All (λ place. place < length (rows ++ more ∷ []))) (sym es) (all-longer further finds.further_within);
    alone = λ row place nothing is. elim (at-cases rows more row place is) [ inl there ↦ stood row place (finds.alone row place (sym es ∙ nothing) there) | inr last ↦ stands row place last.0 last.1 ];
  }
    where
      at : (row : List ℕ) (b : Bool) → nat_eq (hash_at more) (hash_at row) ≡ b → next (hash_at row) ≡ (if b then Some (length rows) else first (hash_at row))
      at row b e = each (hash_at row) ∙ ap (λ b. if b then Some (length rows) else first (hash_at row)) e

      apart : (row : List ℕ) → nat_eq (hash_at more) (hash_at row) ≡ false → bytes_eq row more ≡ false
      apart row e = by (bytes_eq row more) refl
        where
          by : (b : Bool) → bytes_eq row more ≡ b → b ≡ false
          by true is = sym (eq-eqb (hash_at more) (hash_at row) (ap hash_at (sym ((bytes_eq-Decides row more).0 is)))) ∙ e
          by false is = refl

      here : (row : List ℕ) (b : Bool) (r : Option ℕ) → (b ≡ false → r ≡ None) → r ≡ None → (if b then Some (length rows) else r) ≡ option_or None (if b then Some (length rows) else None)
      here row true r f is = refl
      here row false r f is = is

      found-by : (row : List ℕ) (b : Bool) → nat_eq (hash_at more) (hash_at row) ≡ b → found (rows ++ more ∷ []) next others row ≡ place_in (rows ++ more ∷ []) row
      found-by row true e =
          let same : hash_at more ≡ hash_at row = (unsigned_Decides (hash_at more) (hash_at row)).0 e in
          let free : first (hash_at row) ≡ None = ap first (sym same) ∙ none in
          let gone : place_in rows row ≡ None = finds.absent row free in
          let rest : first_at (rows ++ more ∷ []) row further ≡ None = ap (λ p. first_at (rows ++ more ∷ []) row (with_first p further)) (sym free) ∙ (kept row ∙ gone) in
          ap (λ p. first_at (rows ++ more ∷ []) row (with_first p others)) (at row true e)
          ∙ (ap (λ b. if b then Some (length rows) else first_at (rows ++ more ∷ []) row others) (at-last rows more row)
          ∙ (ap (λ ps. if bytes_eq row more then Some (length rows) else first_at (rows ++ more ∷ []) row ps) es
          ∙ (here row (bytes_eq row more) (first_at (rows ++ more ∷ []) row further) (λ h. rest) rest
          ∙ sym (position-push (bytes_eq row) rows more ∙ ap (λ r. option_or r (if bytes_eq row more then Some (length rows) else None)) gone))))
      found-by row false e =
          ap (λ p. first_at (rows ++ more ∷ []) row (with_first p others)) (at row false e)
          ∙ (ap (λ ps. first_at (rows ++ more ∷ []) row (with_first (first (hash_at row)) ps)) es
          ∙ (kept row
          ∙ sym (position-push (bytes_eq row) rows more ∙ (ap (λ b. option_or (place_in rows row) (if b then Some (length rows) else None)) (apart row e) ∙ or-none (place_in rows row)))))

      absent-by : (row : List ℕ) → next (hash_at row) ≡ None → (b : Bool) → nat_eq (hash_at more) (hash_at row) ≡ b → place_in (rows ++ more ∷ []) row ≡ None
      absent-by row is true e = absurd (cc (sym (at row true e) ∙ is))
      absent-by row is false e = position-push (bytes_eq row) rows more ∙ (ap (λ b. option_or (place_in rows row) (if b then Some (length rows) else None)) (apart row e) ∙ (or-none (place_in rows row) ∙ finds.absent row (sym (at row false e) ∙ is)))

      stood : (row : List ℕ) (place : ℕ) → place_in rows row ≡ Some place → place_in (rows ++ more ∷ []) row ≡ Some place
      stood row place is = position-push (bytes_eq row) rows more ∙ ap (λ r. option_or r (if bytes_eq row more then Some (length rows) else None)) is

      stands : (row : List ℕ) (place : ℕ) → place ≡ length rows → bytes_eq row more ≡ true → place_in (rows ++ more ∷ []) row ≡ Some place
      stands row place last is =
          let gone : place_in rows row ≡ None = ap (place_in rows) ((bytes_eq-Decides row more).0 is) ∙ finds.absent more none in
          position-push (bytes_eq row) rows more ∙ (ap (λ r. option_or r (if bytes_eq row more then Some (length rows) else None)) gone
          ∙ (ap (λ b. option_or None (if b then Some (length rows) else None)) is ∙ ap (λ n. Some n) (sym last)))

      within-by : (hash place : ℕ) → next hash ≡ Some place → (b : Bool) → nat_eq (hash_at more) hash ≡ b → place < length (rows ++ more ∷ [])
      within-by hash place is true e = subst (λ p. p < length (rows ++ more ∷ [])) (some-same (sym (each hash ∙ ap (λ b. if b then Some (length rows) else first hash) e) ∙ is)) last-within
      within-by hash place is false e = longer place (finds.first_within hash place (sym (each hash ∙ ap (λ b. if b then Some (length rows) else first hash) e) ∙ is))

  pub pushed : (next : ℕ → Option ℕ) (others : List ℕ) → IsNoted first further next others (hash_at more) (length rows) → Finds (rows ++ more ∷ []) next others
  pushed next others noted = by (first (hash_at more)) refl noted
    where
      by : (p : Option ℕ) → first (hash_at more) ≡ p → noted_where p first further next others (hash_at more) (length rows) → Finds (rows ++ more ∷ []) next others
      by None e is = pushed-first next others e is.0 is.1
      by (Some other) e is = pushed-behind next others other e is.0 is.1

pub taken : (rows : List (List ℕ)) (row : List ℕ) → take (length rows) (rows ++ row ∷ []) ≡ rows
taken [] row = refl
taken (r ∷ rows) row = ap (λ rs. r ∷ rs) (taken rows row)

pub same : (rows : List (List ℕ)) (first next : ℕ → Option ℕ) (further others : List ℕ) → Finds rows first further → IsSame first further next others → Finds rows next others
same rows first next further others finds is = record {
  places = λ row. ap (λ p. first_at rows row (with_first p others)) (is.1 (hash_at row)) ∙ (ap (λ ps. first_at rows row (with_first (first (hash_at row)) ps)) is.0 ∙ finds.places row);
  absent = λ row none. finds.absent row (sym (is.1 (hash_at row)) ∙ none);
  first_within = λ hash place there. finds.first_within hash place (sym (is.1 hash) ∙ there);
  further_within = subst (All (λ place. place < length rows)) (sym is.0) finds.further_within;
  alone = λ row place none there. finds.alone row place (sym is.0 ∙ none) there;
}

-- ---- the first of some places
module _ (rows : List (List ℕ)) (row : List ℕ) where
  pub first-found : (places : List ℕ) (i d : ℕ) → i < length places → first_at rows row (take i places) ≡ None → is_at rows row (get_or places i d) ≡ true → first_at rows row places ≡ Some (get_or places i d)
  first-found [] i d lt none is = absurd (omega (arith, lt))
  first-found (p ∷ ps) zero d lt none is = ap (λ b. if b then Some p else first_at rows row ps) is
  first-found (p ∷ ps) (suc i) d lt none is = by (is_at rows row p) refl none (λ h. first-found ps i d (omega (arith, lt)) h is)
    where
      by : (b : Bool) → is_at rows row p ≡ b → (if b then Some p else first_at rows row (take i ps)) ≡ None → (first_at rows row (take i ps) ≡ None → first_at rows row ps ≡ Some (get_or ps i d)) → first_at rows row (p ∷ ps) ≡ Some (get_or ps i d)
      by true e h rest = absurd (cc h)
      by false e h rest = ap (λ b. if b then Some p else first_at rows row ps) e ∙ rest h

  pub first-next : (places : List ℕ) (i d : ℕ) → i < length places → first_at rows row (take i places) ≡ None → is_at rows row (get_or places i d) ≡ false → first_at rows row (take (i + 1) places) ≡ None
  first-next places i d lt none is = ap (first_at rows row) (take_more places i d lt) ∙ (first-push rows row (take i places) (get_or places i d)
      ∙ (ap (λ r. option_or r (if is_at rows row (get_or places i d) then Some (get_or places i d) else None)) none ∙ ap (λ b. if b then Some (get_or places i d) else None) is))
