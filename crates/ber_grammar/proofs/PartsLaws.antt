-- A row of elements.
use Rattle.std.proofs.Common.{◌≡◌, ℕ, true, false, eqb, ◌<◌, inl, inr, List, [], ◌∷◌, ◌++◌, length, Result, Ok, Err, refl, sym, ap, subst, ◌∙◌}
use Rattle.std.proofs.lemmas.List.{nil_from_length}
use Rattle.std.proofs.Math.Nat.{pos_of_ne-zero}
use Rattle.std.proofs.lemmas.Bool.{eqb-true, eqb-false}
use Rattle.std.specs.Result.{result_unwrap_or}
use Rattle.list_laws.proofs.Options.{ok_is}
use Rattle.ber_grammar.specs.declared.fault.BerFault.{BerFault}
use Rattle.ber_grammar.specs.Element.{Element, IsRefused, IsRow, IsRowRefused}
use Rattle.ber_grammar.specs.Reader.{◌>>=◌, Gives, Reads}
use Rattle.ber_grammar.specs.Reading.{first_at}
use Rattle.ber_grammar.specs.Rows.{row_at, parts_at, row_of}
use Rattle.ber_grammar.proofs.ReaderLaws.{exact_from, reads_from}
use Rattle.ber_grammar.proofs.ElementLaws.{FirstTells, first_tells, refused_again}
use Rattle.ber_grammar.proofs.RowLaws as rows

-- each element as it is, each fault as it is
abbrev as_is : Element → Result Element BerFault
as_is e = Ok e

abbrev same_fault : BerFault → BerFault
same_fault f = f

abbrev Reads-all : List Element → List Element → Type 0
Reads-all es ds = rows.AllRead as_is same_fault es ds

-- ---- one element more

pub parts_none : parts_at [] ≡ Ok []
unfolding parts_at
parts_none = rows.row_none as_is same_fault

pub parts_step : (bytes : List ℕ) (e : Element) (rest : List ℕ) → first_at bytes ≡ Ok (e, rest) → parts_at bytes ≡ (parts_at rest >>= λ es. Ok (e ∷ es))
unfolding parts_at
parts_step bytes e rest h = rows.row_step as_is same_fault bytes e rest h

pub parts_stop : (bytes : List ℕ) (f : BerFault) → first_at bytes ≡ Err f → 0 < length bytes → parts_at bytes ≡ Err f
unfolding parts_at
parts_stop bytes f h some = rows.row_stop as_is same_fault bytes f h some

-- ---- the laws

all_same : (es ds : List Element) → Reads-all es ds → es ≡ ds
all_same [] [] h = refl
all_same [] (d ∷ ds) h = absurd h
all_same (e ∷ es) [] h = absurd h
all_same (e ∷ es) (d ∷ ds) h = rw (ok_is {F = BerFault} e d h.0, all_same es ds h.1) refl

same_all : (es : List Element) → Reads-all es es
same_all [] = tt
same_all (e ∷ es) = (refl, same_all es)

pub row_again : (bytes : List ℕ) (es : List Element) → IsRow bytes es → parts_at bytes ≡ Ok es
unfolding parts_at
row_again bytes es row = rows.row_again as_is same_fault bytes es es row (same_all es)

pub row_refused_again : (bytes : List ℕ) (f : BerFault) (es : List Element) (front rest : List ℕ) → IsRow front es → bytes ≡ front ++ rest → 0 < length rest → IsRefused rest f → parts_at bytes ≡ Err f
unfolding parts_at
row_refused_again bytes f es front rest row p some h = rows.row_refused as_is same_fault bytes f es es front rest row (same_all es) p some (inl (f, refl, refused_again rest f h))

abbrev pub PartsTells : List ℕ → Result (List Element) BerFault → Type 0
PartsTells input (Ok es) = IsRow input es
PartsTells input (Err f) = IsRowRefused input f

refused_of : (rest : List ℕ) (f : BerFault) → first_at rest ≡ Err f → IsRefused rest f
refused_of rest f h = subst (λ (r : Result (Element × List ℕ) BerFault). FirstTells rest r) h (first_tells rest)

tells_of : (octets : List ℕ) (r : Result (List Element) BerFault) → rows.RowTells as_is same_fault octets r → PartsTells octets r
tells_of octets (Ok es) (ds, row, all) = subst (λ (x : List Element). IsRow octets x) (all_same ds es all) row
tells_of octets (Err f) (es, ds, front, rest, row, all, p, some, inl (g, e, h)) = (es, front, rest, row, p, some, subst (λ (x : BerFault). IsRefused rest x) (sym e) (refused_of rest g h))
tells_of octets (Err f) (es, ds, front, rest, row, all, p, some, inr (e, after, first, this)) = absurd cc

pub parts_tells : (bytes : List ℕ) → PartsTells bytes (parts_at bytes)
unfolding parts_at
parts_tells bytes = tells_of bytes (row_at as_is same_fault bytes) (rows.row_tells as_is same_fault bytes)

pub parts_exact : (bytes : List ℕ) → Reads (λ (y : List Element). y) (parts_at bytes) (IsRow bytes) (IsRowRefused bytes)
parts_exact bytes = exact_from (parts_at bytes) (IsRow bytes) (IsRowRefused bytes) (PartsTells bytes) (λ y h. h) (λ f h. h) (parts_tells bytes)
    (row_again bytes)
    (λ f (es, front, rest, row, p, some, h). row_refused_again bytes f es front rest row p some h)

-- ---- a loop over the octets

-- elements in front of what the rest gives
abbrev pub WithFront : List ℕ → List ℕ → Type 0
WithFront octets rest = (front : List Element) × rows.Goes as_is same_fault front octets rest

pub WithFront-none : (octets : List ℕ) → WithFront octets octets
WithFront-none octets = ([], rows.Goes-none as_is same_fault octets)

pub WithFront-more : (octets rest after : List ℕ) (e : Element) → WithFront octets rest → first_at rest ≡ Ok (e, after) → WithFront octets after
WithFront-more octets rest after e (front, h) one = (front ++ e ∷ [], rows.Goes-more as_is same_fault front octets rest after e e h one refl)

pub WithFront-stop : (octets rest : List ℕ) (f : BerFault) → WithFront octets rest → first_at rest ≡ Err f → eqb (length rest) 0 ≡ false → parts_at octets ≡ Err f
unfolding parts_at
WithFront-stop octets rest f (front, h) one some = rows.Goes-broken as_is same_fault front octets rest f h one some

pub WithFront-all : (octets rest : List ℕ) → WithFront octets rest → eqb (length rest) 0 ≡ true → parts_at octets ≡ Ok (row_of octets)
unfolding parts_at row_of
WithFront-all octets rest (front, h) none =
    let all : row_at as_is same_fault octets ≡ Ok front = rows.Goes-all as_is same_fault front octets rest h none in
    all ∙ ap (λ (x : List Element). Ok x) (sym (ap (λ (r : Result (List Element) BerFault). result_unwrap_or r []) all))

pub IsRow-row_of : (octets : List ℕ) → parts_at octets ≡ Ok (row_of octets) → IsRow octets (row_of octets)
IsRow-row_of octets h = subst (λ (r : Result (List Element) BerFault). PartsTells octets r) h (parts_tells octets)

pub parts_reads : {X : Type 0} (view : X → List Element) (r : Result X BerFault) (bytes : List ℕ) → Gives view r (parts_at bytes) → Reads view r (IsRow bytes) (IsRowRefused bytes)
parts_reads view r bytes g = reads_from view r (parts_at bytes) (IsRow bytes) (IsRowRefused bytes) (parts_exact bytes) g

-- ---- the iterator's step

row_of-at : (octets : List ℕ) (es : List Element) → parts_at octets ≡ Ok es → row_of octets ≡ es
unfolding row_of
row_of-at octets es h = rw h refl

pub row_of-none : (octets : List ℕ) → eqb (length octets) 0 ≡ true → row_of octets ≡ []
row_of-none octets none = row_of-at octets [] (ap parts_at (nil_from_length octets (eqb-true _ _ none)) ∙ parts_none)

step_at : (octets after : List ℕ) (e : Element) (r : Result (List Element) BerFault) → parts_at after ≡ r → (r >>= λ es. Ok (e ∷ es)) ≡ Ok (row_of octets) → (row_of octets ≡ e ∷ row_of after) × IsRow after (row_of after)
step_at octets after e (Ok es) h p =
    let at : row_of after ≡ es = row_of-at after es h in
    (sym (ok_is {F = BerFault} (e ∷ es) (row_of octets) p) ∙ ap (λ (x : List Element). e ∷ x) (sym at), IsRow-row_of after (h ∙ ap (λ (x : List Element). Ok x) (sym at)))
step_at octets after e (Err f) h p = absurd cc

pub row_of-more : (octets after : List ℕ) (e : Element) → IsRow octets (row_of octets) → first_at octets ≡ Ok (e, after) → (row_of octets ≡ e ∷ row_of after) × IsRow after (row_of after)
row_of-more octets after e row one = step_at octets after e (parts_at after) refl (sym (parts_step octets e after one) ∙ row_again octets (row_of octets) row)

pub row_of-goes_on : (octets : List ℕ) (f : BerFault) → IsRow octets (row_of octets) → first_at octets ≡ Err f → eqb (length octets) 0 ≡ false → ⊥
row_of-goes_on octets f row one some =
    let stop : parts_at octets ≡ Err f = parts_stop octets f one (pos_of_ne-zero (eqb-false (length octets) 0 some)) in
    let go = row_again octets (row_of octets) row in
    cc
