-- The opened book stands for the empty history, once each configured DatSet names its set.
use Rattle.std.proofs.Common.{◌≡◌, ◌<◌, ◌+◌, ℕ, zero, suc, List, [], ◌∷◌, ◌++◌, length, map, refl, sym, ap, subst, ◌∙◌, arith, inl, inr, Option, None, Some, is_some, slice_index_or, slice_set, true≢false, append_assoc, length-append}
use Rattle.std.specs.Prelude.{unwrap_or, slice_get}
use Rattle.std.specs.List.{All, find}
use Rattle.std.specs.Str.{bytes_eq}
use Rattle.std.proofs.lemmas.List.{length-map}
use Rattle.std.proofs.lemmas.List.Elements.{All-head, All-tail}
use Rattle.bay_model.specs.declared.tables.SetRow.{SetRow}
use Rattle.bay_model.specs.Lookups.{reference_of, block_of}
use Rattle.bay_model.specs.Model.{Model, DataSet, Block}
use Rattle.bay_model.specs.Parameters.{parameters_at}
use Rattle.bay_model.specs.Sets.{set_referred}
use Rattle.data_sets.specs.Books.{Booked, Book, reference, place_of, number_referred, no_set, set_at, booked, opened, after_hold}
use Rattle.data_sets.specs.Standing.{Stands, StandsFor, IsPlain, data_set, dat_sets}
use Rattle.data_sets.specs.Opening.{AreSets, AreNamed, IsReferred, set_reference, after_name, after_names}
use Rattle.data_sets.proofs.BookLaws.{holds_more, counted_none, no-reference}
use Rattle.data_sets.proofs.HistoryLaws.{found, dat_at, dat_count}
use Rattle.data_sets.proofs.PlaceLaws.{no_place}
use Rattle.list_laws.proofs.Places.{at_any}
use Rattle.list_laws.proofs.Options.{some_mapped}

-- ---- no DatSet is written yet

abbrev blank : List (List ℕ) → List (List ℕ)
blank ds = map (λ d. []) ds

blank_at : (ds : List (List ℕ)) (j : ℕ) → slice_index_or (blank ds) j [] ≡ []
blank_at [] j = refl
blank_at (d ∷ ds) zero = refl
blank_at (d ∷ ds) (suc j) = blank_at ds j

pub opened_at : (rows : List SetRow) (k : ℕ) → (slice_index_or (map booked rows) k no_set).holds ≡ 0
opened_at [] k = refl
opened_at (r ∷ rows) zero = refl
opened_at (r ∷ rows) (suc k) = opened_at rows k

seen_at : (bs : List Booked) (k : ℕ) → data_set (slice_index_or bs k no_set) ≡ slice_index_or (map data_set bs) k (data_set no_set)
seen_at [] k = refl
seen_at (b ∷ bs) zero = refl
seen_at (b ∷ bs) (suc k) = seen_at bs k

seen_rows : (rows : List SetRow) → map data_set (map booked rows) ≡ map (λ (r : SetRow). data_set (booked r)) rows
seen_rows [] = refl
seen_rows (r ∷ rows) = ap (λ l. data_set (booked r) ∷ l) (seen_rows rows)

module _ (c : Model) (rows : List SetRow) (are : AreSets rows c.sets) (named : AreNamed c) where
  sets_are : map data_set (map booked rows) ≡ c.sets
  sets_are = seen_rows rows ∙ are

  count_is : length (map booked rows) ≡ length c.sets
  count_is = sym (length-map (map booked rows) data_set) ∙ ap length sets_are

  set_is : (k : ℕ) → data_set (set_at (opened rows) k) ≡ slice_index_or c.sets k (data_set no_set)
  set_is k = seen_at (map booked rows) k ∙ ap (λ l. slice_index_or l k (data_set no_set)) sets_are

  begins : (ds : List (List ℕ)) → StandsFor (opened rows) (length c.sets) c.sets (blank ds)
  begins ds = record {
    sets = sets_are;
    count = sym (length-map rows booked) ∙ count_is;
    holds = λ k below. opened_at rows k ∙ sym (counted_none (reference (set_at (opened rows) k)) (blank ds) (λ j lj. ap (λ d. bytes_eq d (reference (set_at (opened rows) k))) (blank_at ds j) ∙ no-reference (set_at (opened rows) k).name.domain (set_at (opened rows) k).name.item));
    apart = λ j k lj lk e. named.apart j k (data_set no_set) (omega (arith, lj, count_is)) (omega (arith, lk, count_is)) (ap set_reference (sym (set_is j)) ∙ (e ∙ ap set_reference (set_is k)));
    plain = λ k below. subst (λ (s : DataSet). IsPlain s.domain) (sym (set_is k)) (named.plain k (data_set no_set) (omega (arith, below, count_is)));
    named = λ j below. inl (blank_at ds j);
  }

-- ---- a DatSet names its set

no_empty : (bs : List Booked) → place_of (λ s. bytes_eq [] (reference s)) bs ≡ None
no_empty bs = no_place (λ s. bytes_eq [] (reference s)) bs (λ j below. no-reference (slice_index_or bs j no_set).name.domain (slice_index_or bs j no_set).name.item)

at_middle : (front : List (List ℕ)) (x : List ℕ) (rest : List (List ℕ)) → slice_index_or (front ++ x ∷ rest) (length front) [] ≡ x
at_middle [] x rest = refl
at_middle (f ∷ front) x rest = at_middle front x rest

set_middle : (front : List (List ℕ)) (x y : List ℕ) (rest : List (List ℕ)) → slice_set (front ++ x ∷ rest) (length front) y ≡ front ++ y ∷ rest
set_middle [] x y rest = refl
set_middle (f ∷ front) x y rest = ap (λ l. f ∷ l) (set_middle front x y rest)

middle_below : (front : List (List ℕ)) (x : List ℕ) (rest : List (List ℕ)) → length front < length (front ++ x ∷ rest)
middle_below front x rest = omega (arith, length-append front (x ∷ rest))

-- it names one in the book exactly where it names one of the sets
pub some_referred : (b : Book) (n : ℕ) (all : List DataSet) (used : List (List ℕ)) (d : List ℕ) → StandsFor b n all used → is_some (number_referred d b) ≡ is_some (set_referred d all)
some_referred b n all used d h = sym (some_mapped (λ k. data_set (set_at b k)) (number_referred d b))
    ∙ ap is_some (found (λ s. bytes_eq d (reference s)) (λ (s : DataSet). bytes_eq d (reference_of s.domain s.item)) (λ s. refl) b.sets ∙ ap (find (λ (s : DataSet). bytes_eq d (reference_of s.domain s.item))) h.sets)

module _ (n : ℕ) (all : List DataSet) where
  step : (b : Book) (front rest : List (List ℕ)) (d : List ℕ) → IsReferred all d → StandsFor b n all (front ++ [] ∷ rest) → StandsFor (after_name (number_referred d b) b) n all (front ++ d ∷ rest)
  step b front rest d (inl e) h = subst (λ x. StandsFor (after_name (number_referred x b) b) n all (front ++ x ∷ rest)) (sym e) (subst (λ o. StandsFor (after_name o b) n all (front ++ [] ∷ rest)) (sym (no_empty b.sets)) h)
  step b front rest d (inr some) h = by (number_referred d b) refl
    where
      by : (o : Option ℕ) → number_referred d b ≡ o → StandsFor (after_name o b) n all (front ++ d ∷ rest)
      by None is = absurd (true≢false (sym (some_referred b n all (front ++ [] ∷ rest) d h ∙ some) ∙ ap is_some is))
      by (Some k) is = subst (λ u. StandsFor (after_hold k b) n all u) (set_middle front [] d rest)
          (holds_more b n all (front ++ [] ∷ rest) h (length front) k d (middle_below front [] rest) (at_middle front [] rest) is)

  take_up : (ds front : List (List ℕ)) (b : Book) → All (IsReferred all) ds → StandsFor b n all (front ++ blank ds) → StandsFor (after_names ds b) n all (front ++ ds)
  take_up [] front b named h = h
  take_up (d ∷ ds) front b named h =
      let next : Book = after_name (number_referred d b) b in
      let one : StandsFor next n all (front ++ d ∷ blank ds) = step b front (blank ds) d (All-head (IsReferred all) d ds named) h in
      subst (λ u. StandsFor (after_names ds next) n all u) (append_assoc front (d ∷ []) ds)
      (take_up ds (front ++ d ∷ []) next (All-tail (IsReferred all) d ds named) (subst (λ u. StandsFor next n all u) (sym (append_assoc front (d ∷ []) (blank ds))) one))

-- ---- the configured DatSets

got_or : {A : Type 0} (xs : List A) (k : ℕ) (d : A) → unwrap_or (slice_get xs k) d ≡ slice_index_or xs k d
got_or [] k d = refl
got_or (x ∷ xs) zero d = refl
got_or (x ∷ xs) (suc k) d = got_or xs k d

first : (j : ℕ) → 0 + j ≡ j
first j = omega arith

all_named : (c : Model) → AreNamed c → All (IsReferred c.sets) (dat_sets c [])
all_named c named j d below =
    let within : j < length c.blocks = omega (arith, below, dat_count c [] 0 c.blocks) in
    let is : slice_index_or (dat_sets c []) j d ≡ (block_of c j).initial.dat_set = at_any (dat_sets c []) j d [] below ∙ (dat_at c [] 0 j c.blocks within ∙ ap (λ x. (parameters_at c x []).dat_set) (first j)) in
    subst (IsReferred c.sets) (sym (is ∙ ap (λ (b : Block). b.initial.dat_set) (got_or c.blocks j _))) (named.named j _ within)

pub opens : (c : Model) (rows : List SetRow) → AreSets rows c.sets → AreNamed c → Stands (after_names (dat_sets c []) (opened rows)) c []
opens c rows are named =
    let same : c.sets ++ [] ≡ c.sets = append_nil c.sets in
    subst (λ l. StandsFor (after_names (dat_sets c []) (opened rows)) (length c.sets) l (dat_sets c [])) (sym same)
    (take_up (length c.sets) c.sets (dat_sets c []) [] (opened rows) (all_named c named) (begins c rows are named (dat_sets c [])))
  where
    append_nil : (l : List DataSet) → l ++ [] ≡ l
    append_nil [] = refl
    append_nil (s ∷ ss) = ap (λ l. s ∷ l) (append_nil ss)
