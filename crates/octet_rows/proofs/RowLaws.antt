-- Rows that lie one after the other, with one more.
use Rattle.std.proofs.Common.{◌≡◌, ℕ, suc, ◌-◌, ◌≤◌, List, [], ◌∷◌, ◌++◌, length, take, drop, Result, Ok, Err, refl, ap, ap₂, ◌∙◌, arith}
use Rattle.std.specs.Prelude.{OnErr}
use Rattle.std.proofs.lemmas.List.{map-append, length-append, length-drop, drop-append-le, take-append-le}
use Rattle.std.proofs.Math.Seq.{drop-append_seam, take-length}
use Rattle.octet_rows.specs.Laid.{row_in, rows_in, AreWithin}
use Rattle.octet_rows.specs.declared.rows.Extent.{Extent}

pub on-err : {X E : Type 0} (r : Result X E) {P : Type 0} → P → OnErr r P
on-err (Ok x) p = tt
on-err (Err e) p = p

row-more : (octets more : List ℕ) (e : Extent) → (e.start ≤ e.end) × (e.end ≤ length octets) → row_in (octets ++ more) e ≡ row_in octets e
row-more octets more e lies =
    let within : e.start ≤ length octets = omega (arith, lies.0, lies.1) in
    let room : e.end - e.start ≤ length (drop e.start octets) = omega (arith, length-drop e.start octets, lies.0, lies.1) in
    ap (take (e.end - e.start)) (drop-append-le e.start octets more within) ∙ take-append-le (e.end - e.start) (drop e.start octets) more room

rows-more : (octets more : List ℕ) (es : List Extent) → AreWithin octets es → rows_in (octets ++ more) es ≡ rows_in octets es
rows-more octets more [] all = refl
rows-more octets more (e ∷ es) all = ap₂ (λ (r : List ℕ) (rs : List (List ℕ)). r ∷ rs) (row-more octets more e (all 0 e (omega arith))) (rows-more octets more es (λ k d lt. all (suc k) d (omega (arith, lt))))

row-last : (octets row : List ℕ) (e : Extent) → e.start ≡ length octets → e.end ≡ length (octets ++ row) → row_in (octets ++ row) e ≡ row
row-last octets row e first last =
    let count : e.end - e.start ≡ length row = omega (arith, length-append octets row, first, last) in
    ap₂ (λ n (xs : List ℕ). take n xs) count (ap (λ n. drop n (octets ++ row)) first ∙ drop-append_seam octets row) ∙ take-length row

module _ (octets next row : List ℕ) (es : List Extent) (is : next ≡ octets ++ row) (all : AreWithin octets es) where
  -- more octets leave the rows as they are
  pub kept : rows_in next es ≡ rows_in octets es
  kept = ap (λ o. rows_in o es) is ∙ rows-more octets row es all

  pub pushed : (e : Extent) → e.start ≡ length octets → e.end ≡ length next → rows_in next (es ++ e ∷ []) ≡ rows_in octets es ++ row ∷ []
  pushed e first last =
      let end : e.end ≡ length (octets ++ row) = last ∙ ap length is in
      map-append (row_in next) es (e ∷ []) ∙ ap₂ (λ (rs : List (List ℕ)) (r : List ℕ). rs ++ r ∷ []) kept (ap (λ o. row_in o e) is ∙ row-last octets row e first end)
