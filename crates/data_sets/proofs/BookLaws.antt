-- The book goes as the data sets and the DatSets go.
use Rattle.std.proofs.Common.{◌≡◌, ◌≢◌, ◌≤◌, ◌<◌, ◌+◌, ℕ, zero, suc, Bool, true, false, not, List, [], ◌∷◌, ◌++◌, length, map, filter, take, drop, refl, sym, ap, ap₂, subst, ◌∙◌, arith, ◌⊎◌, inl, inr, Option, None, Some, is_some, Result, Ok, Err, slice_index_or, slice_set, true≢false}
use Rattle.std.specs.Prelude.{◌==◌, ◌&&◌, ◌||◌, nat_lt, if◌then◌else◌}
use Rattle.std.specs.Option.{option_map}
use Rattle.std.specs.List.{list_any}
use Rattle.std.specs.Str.{bytes_eq}
use Rattle.std.proofs.lemmas.Bool.Decides.{eqb_tells, leb_tells}
use Rattle.std.proofs.lemmas.List.{length-set, map-append}
use Rattle.bay_model.specs.declared.request.SetName.{SetName}
use Rattle.bay_model.specs.declared.request.Target.{Target}
use Rattle.bay_model.specs.Model.{DataSet}
use Rattle.bay_model.specs.Lookups.{reference_of}
use Rattle.bay_model.specs.Sets.{without, is_named}
use Rattle.data_sets.specs.Books.{Booked, Book, is_name, reference, place_of, number_named, number_referred, no_set, set_at, defined_set, held, let_go, deletion, deletion_of, after_define, after_delete, after_hold, after_release}
use Rattle.data_sets.specs.declared.book.DeleteFault.{DeleteFault}
use Rattle.data_sets.specs.declared.book.DeleteFault.TheVariants as faults
use Rattle.data_sets.specs.Standing.{StandsFor, IsPlain, IsNamed, data_set, counted}
use Rattle.list_laws.proofs.Places.{at_own, at_set}
use Rattle.list_laws.proofs.Truths.{or-right, or-left}
use Rattle.list_laws.proofs.Distinct.{octets_same, octets_equal}

-- ---- octets

tells : (d e : List ℕ) → ((bytes_eq d e ≡ true) × (d ≡ e)) ⊎ ((bytes_eq d e ≡ false) × (d ≢ e))
tells d e = by (bytes_eq d e) refl
  where
    by : (b : Bool) → bytes_eq d e ≡ b → ((bytes_eq d e ≡ true) × (d ≡ e)) ⊎ ((bytes_eq d e ≡ false) × (d ≢ e))
    by true is = inl (is, octets_same d e is)
    by false is = inr (is, λ same. true≢false (sym (octets_equal d e same) ∙ is))

head-same : (o p : ℕ) (os ps : List ℕ) → o ∷ os ≡ p ∷ ps → o ≡ p
head-same o p os ps e = ap (λ l. slice_index_or l 0 0) e

tail-same : (o p : ℕ) (os ps : List ℕ) → o ∷ os ≡ p ∷ ps → os ≡ ps
tail-same o p os ps e = ap (λ l. drop 1 l) e

slash : (o : ℕ) → (o == 47) ≡ false → o ≢ 47
slash o h e = elim (eqb_tells o 47) [ inl t ↦ true≢false (sym t.0 ∙ h) | inr t ↦ t.1 e ]

-- a reference has one domain and one item
pub parted : (d e i j : List ℕ) → IsPlain d → IsPlain e → reference_of d i ≡ reference_of e j → (d ≡ e) × (i ≡ j)
parted [] [] i j p q h = (refl, tail-same 47 47 i j h)
parted [] (o ∷ os) i j p q h = absurd (slash o (or-left (o == 47) _ q) (sym (head-same 47 o i (os ++ 47 ∷ j) h)))
parted (o ∷ os) [] i j p q h = absurd (slash o (or-left (o == 47) _ p) (head-same o 47 (os ++ 47 ∷ i) j h))
parted (o ∷ os) (u ∷ us) i j p q h =
    let rest = parted os us i j (or-right (o == 47) _ p) (or-right (u == 47) _ q) (tail-same o u (os ++ 47 ∷ i) (us ++ 47 ∷ j) h) in
    (ap₂ (λ x xs. x ∷ xs) (head-same o u (os ++ 47 ∷ i) (us ++ 47 ∷ j) h) rest.0, rest.1)

pub no-reference : (d i : List ℕ) → bytes_eq [] (reference_of d i) ≡ false
no-reference [] i = refl
no-reference (o ∷ os) i = refl

-- ---- places

abbrev pub IsPlace : (Booked → Bool) → List Booked → Option ℕ → Type 0
IsPlace p bs (Some k) = (k < length bs) × (p (slice_index_or bs k no_set) ≡ true)
IsPlace p bs None = (k : ℕ) → k < length bs → p (slice_index_or bs k no_set) ≡ false

place_next : (p : Booked → Bool) (b : Booked) (bs : List Booked) (o : Option ℕ) → p b ≡ false → IsPlace p bs o → IsPlace p (b ∷ bs) (option_map suc o)
place_next p b bs (Some k) not is = (omega (arith, is.0), is.1)
place_next p b bs None not is = none
  where
    none : (k : ℕ) → k < length (b ∷ bs) → p (slice_index_or (b ∷ bs) k no_set) ≡ false
    none zero below = not
    none (suc k) below = is k (omega (arith, below))

pub is_place : (p : Booked → Bool) (bs : List Booked) → IsPlace p bs (place_of p bs)
is_place p [] = λ k below. absurd (omega (arith, below))
is_place p (b ∷ bs) = by (p b) refl (is_place p bs)
  where
    by : (t : Bool) → p b ≡ t → IsPlace p bs (place_of p bs) → IsPlace p (b ∷ bs) (if t then Some 0 else option_map suc (place_of p bs))
    by true is later = (omega arith, is)
    by false is later = place_next p b bs (place_of p bs) is later

some-next : (o : Option ℕ) → is_some (option_map suc o) ≡ is_some o
some-next None = refl
some-next (Some k) = refl

pub some-place : (p : Booked → Bool) (bs : List Booked) → is_some (place_of p bs) ≡ list_any p bs
some-place p [] = refl
some-place p (b ∷ bs) = by (p b) (some-place p bs)
  where
    by : (t : Bool) → is_some (place_of p bs) ≡ list_any p bs → is_some (if t then Some 0 else option_map suc (place_of p bs)) ≡ (t || list_any p bs)
    by true later = refl
    by false later = some-next (place_of p bs) ∙ later

-- the place doesn't depend on what the test doesn't
pub place_set : (p : Booked → Bool) (bs : List Booked) (k : ℕ) (w : Booked) → k < length bs → p w ≡ p (slice_index_or bs k no_set) → place_of p (slice_set bs k w) ≡ place_of p bs
place_set p [] k w below same = absurd (omega (arith, below))
place_set p (b ∷ bs) zero w below same = ap (λ t. if t then Some 0 else option_map suc (place_of p bs)) same
place_set p (b ∷ bs) (suc k) w below same = ap (λ o. if p b then Some 0 else option_map suc o) (place_set p bs k w (omega (arith, below)) same)

-- ---- lists

pub at_front : {A : Type 0} (xs : List A) (x d : A) (k : ℕ) → k < length xs → slice_index_or (xs ++ x ∷ []) k d ≡ slice_index_or xs k d
at_front [] x d k below = absurd (omega (arith, below))
at_front (y ∷ ys) x d zero below = refl
at_front (y ∷ ys) x d (suc k) below = at_front ys x d k (omega (arith, below))

pub at_last : {A : Type 0} (xs : List A) (x d : A) → slice_index_or (xs ++ x ∷ []) (length xs) d ≡ x
at_last [] x d = refl
at_last (y ∷ ys) x d = at_last ys x d

pub length_more : {A : Type 0} (xs : List A) (x : A) → length (xs ++ x ∷ []) ≡ suc (length xs)
length_more [] x = refl
length_more (y ∷ ys) x = ap suc (length_more ys x)

any_more : (p : Booked → Bool) (xs : List Booked) (x : Booked) → list_any p xs ≡ true → list_any p (xs ++ x ∷ []) ≡ true
any_more p [] x h = absurd (true≢false (sym h))
any_more p (y ∷ ys) x h = by (p y) h (any_more p ys x)
  where
    by : (t : Bool) → (t || list_any p ys) ≡ true → (list_any p ys ≡ true → list_any p (ys ++ x ∷ []) ≡ true) → (t || list_any p (ys ++ x ∷ [])) ≡ true
    by true h go = refl
    by false h go = go h

-- ---- what is counted

unit : Bool → ℕ
unit b = if b then 1 else 0

pub counted_set : (r d : List ℕ) (used : List (List ℕ)) (j : ℕ) → j < length used
    → counted r (slice_set used j d) + (if bytes_eq (slice_index_or used j []) r then 1 else 0) ≡ counted r used + (if bytes_eq d r then 1 else 0)
counted_set r d [] j below = absurd (omega (arith, below))
counted_set r d (u ∷ us) zero below = turn (if bytes_eq d r then 1 else 0) (counted r us) (if bytes_eq u r then 1 else 0)
  where
    turn : (x y z : ℕ) → (x + y) + z ≡ (z + y) + x
    turn x y z = omega arith
counted_set r d (u ∷ us) (suc j) below = more (if bytes_eq u r then 1 else 0) _ _ _ _ (counted_set r d us j (omega (arith, below)))
  where
    more : (x a b e f : ℕ) → a + b ≡ e + f → (x + a) + b ≡ (x + e) + f
    more x a b e f h = omega (arith, h)

pub counted_none : (r : List ℕ) (used : List (List ℕ)) → ((j : ℕ) → j < length used → bytes_eq (slice_index_or used j []) r ≡ false) → counted r used ≡ 0
counted_none r [] h = refl
counted_none r (u ∷ us) h = ap (λ t. (if t then 1 else 0) + counted r us) (h 0 (omega arith)) ∙ ap (λ n. 0 + n) (counted_none r us (λ j below. h (suc j) (omega (arith, below))))

pub counted_some : (r : List ℕ) (used : List (List ℕ)) (j : ℕ) → j < length used → bytes_eq (slice_index_or used j []) r ≡ true → 0 < counted r used
counted_some r [] j below h = absurd (omega (arith, below))
counted_some r (u ∷ us) zero below h = subst (λ t. 0 < (if t then 1 else 0) + counted r us) (sym h) (omega arith)
counted_some r (u ∷ us) (suc j) below h = omega (arith, counted_some r us j (omega (arith, below)) h)

-- ---- a set is defined

module _ (b : Book) (n : ℕ) (all : List DataSet) (used : List (List ℕ)) (h : StandsFor b n all used) where
  -- a DatSet that is named is the reference of a set that is there
  names_one : (d : List ℕ) → (o : Option ℕ) → IsPlace (λ s. bytes_eq d (reference s)) b.sets o → is_some o ≡ true → (r : List ℕ) → d ≡ r → ((k : ℕ) → k < length b.sets → reference (set_at b k) ≢ r) → ⊥
  names_one d None is some r same other = true≢false (sym some)
  names_one d (Some k) is some r same other = other k is.0 (sym (octets_same d (reference (set_at b k)) is.1) ∙ same)

  module _ (name : SetName) (ts : List Target) (none : number_named name b ≡ None) (plain : IsPlain name.domain) where
    not_named : (k : ℕ) → k < length b.sets → is_name name (set_at b k).name ≡ false
    not_named = subst (IsPlace (λ s. is_name name s.name) b.sets) none (is_place (λ s. is_name name s.name) b.sets)

    and_both : (x y : Bool) → x ≡ true → y ≡ true → (x && y) ≡ true
    and_both x y p q = ap₂ (λ u v. u && v) p q

    new_apart : (k : ℕ) → k < length b.sets → reference (set_at b k) ≢ reference (defined_set name ts)
    new_apart k below same =
        let parts = parted (set_at b k).name.domain name.domain (set_at b k).name.item name.item (h.plain k below) plain same in
        true≢false (sym (and_both _ _ (octets_equal name.domain (set_at b k).name.domain (sym parts.0)) (octets_equal name.item (set_at b k).name.item (sym parts.1))) ∙ not_named k below)

    fresh : (j : ℕ) → j < length used → bytes_eq (slice_index_or used j []) (reference (defined_set name ts)) ≡ false
    fresh j below = elim (h.named j below) [
      | inl e ↦ ap (λ d. bytes_eq d (reference (defined_set name ts))) e ∙ no-reference name.domain name.item
      | inr some ↦ elim (tells (slice_index_or used j []) (reference (defined_set name ts))) [
        | inl t ↦ absurd (names_one (slice_index_or used j []) _ (is_place (λ s. bytes_eq (slice_index_or used j []) (reference s)) b.sets) some (reference (defined_set name ts)) t.1 new_apart)
        | inr t ↦ t.0
      ]
    ]

    abbrev more : List Booked
    more = b.sets ++ defined_set name ts ∷ []

    -- an old set, or the new one
    abbrev At : ℕ → Type 0
    At k = ((k < length b.sets) × (slice_index_or more k no_set ≡ set_at b k)) ⊎ ((k ≡ length b.sets) × (slice_index_or more k no_set ≡ defined_set name ts))

    which : (k : ℕ) → k < length more → At k
    which k below = elim (leb_tells (suc k) (length b.sets)) [
      | inl t ↦ inl (t.1, at_front b.sets (defined_set name ts) no_set k t.1)
      | inr t ↦ let last : k ≡ length b.sets = omega (arith, t.1, below, length_more b.sets (defined_set name ts)) in
          inr (last, ap (λ i. slice_index_or more i no_set) last ∙ at_last b.sets (defined_set name ts) no_set)
    ]

    holds_by : (k : ℕ) → At k → (slice_index_or more k no_set).holds ≡ counted (reference (slice_index_or more k no_set)) used
    holds_by k (inl t) = ap (λ (s : Booked). s.holds) t.1 ∙ (h.holds k t.0 ∙ ap (λ (s : Booked). counted (reference s) used) (sym t.1))
    holds_by k (inr t) = ap (λ (s : Booked). s.holds) t.1 ∙ (sym (counted_none (reference (defined_set name ts)) used fresh) ∙ ap (λ (s : Booked). counted (reference s) used) (sym t.1))

    apart_by : (j k : ℕ) → At j → At k → reference (slice_index_or more j no_set) ≡ reference (slice_index_or more k no_set) → j ≡ k
    apart_by j k (inl t) (inl u) e = h.apart j k t.0 u.0 (ap reference (sym t.1) ∙ (e ∙ ap reference u.1))
    apart_by j k (inl t) (inr u) e = absurd (new_apart j t.0 (ap reference (sym t.1) ∙ (e ∙ ap reference u.1)))
    apart_by j k (inr t) (inl u) e = absurd (new_apart k u.0 (ap reference (sym u.1) ∙ (sym e ∙ ap reference t.1)))
    apart_by j k (inr t) (inr u) e = t.0 ∙ sym u.0

    plain_by : (k : ℕ) → At k → IsPlain (slice_index_or more k no_set).name.domain
    plain_by k (inl t) = subst (λ (s : Booked). IsPlain s.name.domain) (sym t.1) (h.plain k t.0)
    plain_by k (inr t) = subst (λ (s : Booked). IsPlain s.name.domain) (sym t.1) plain

    named_by : (d : List ℕ) → IsNamed b d → IsNamed (after_define name ts b) d
    named_by d (inl e) = inl e
    named_by d (inr some) = let p : Booked → Bool = λ s. bytes_eq d (reference s) in
        inr (some-place p more ∙ any_more p b.sets (defined_set name ts) (sym (some-place p b.sets) ∙ some))

    pub defines : StandsFor (after_define name ts b) n (all ++ data_set (defined_set name ts) ∷ []) used
    defines = record {
      sets = map-append data_set b.sets (defined_set name ts ∷ []) ∙ ap (λ l. l ++ data_set (defined_set name ts) ∷ []) h.sets;
      count = h.count;
      holds = λ k below. holds_by k (which k below);
      apart = λ j k lj lk e. apart_by j k (which j lj) (which k lk) e;
      plain = λ k below. plain_by k (which k below);
      named = λ j below. named_by (slice_index_or used j []) (h.named j below);
    }

-- ---- a set is deleted

-- the place before a deletion of what stands at a place after it
abbrev pub old : ℕ → ℕ → ℕ
old zero j = suc j
old (suc k) zero = zero
old (suc k) (suc j) = suc (old k j)

old_not : (k j : ℕ) → old k j ≢ k
old_not zero j e = absurd (omega (arith, e))
old_not (suc k) zero e = absurd (omega (arith, e))
old_not (suc k) (suc j) e = old_not k j (omega (arith, e))

pub old_one : (k i j : ℕ) → old k i ≡ old k j → i ≡ j
old_one zero i j e = omega (arith, e)
old_one (suc k) zero zero e = refl
old_one (suc k) zero (suc j) e = absurd (omega (arith, e))
old_one (suc k) (suc i) zero e = absurd (omega (arith, e))
old_one (suc k) (suc i) (suc j) e = ap suc (old_one k i j (omega (arith, e)))

pub at_removed : (bs : List Booked) (k j : ℕ) → slice_index_or (take k bs ++ drop (suc k) bs) j no_set ≡ slice_index_or bs (old k j) no_set
at_removed [] zero j = refl
at_removed [] (suc k) zero = refl
at_removed [] (suc k) (suc j) = refl
at_removed (x ∷ xs) zero j = refl
at_removed (x ∷ xs) (suc k) zero = refl
at_removed (x ∷ xs) (suc k) (suc j) = at_removed xs k j

pub old_below : (bs : List Booked) (k j : ℕ) → j < length (take k bs ++ drop (suc k) bs) → old k j < length bs
old_below [] zero j below = absurd (omega (arith, below))
old_below [] (suc k) j below = absurd (omega (arith, below))
old_below (x ∷ xs) zero j below = omega (arith, below)
old_below (x ∷ xs) (suc k) zero below = omega arith
old_below (x ∷ xs) (suc k) (suc j) below = omega (arith, old_below xs k j (omega (arith, below)))

any_removed : (p : Booked → Bool) (bs : List Booked) (k : ℕ) → p (slice_index_or bs k no_set) ≡ false → list_any p bs ≡ true → list_any p (take k bs ++ drop (suc k) bs) ≡ true
any_removed p [] k not any = absurd (true≢false (sym any))
any_removed p (x ∷ xs) zero not any = sym (ap (λ t. t || list_any p xs) not) ∙ any
any_removed p (x ∷ xs) (suc k) not any = by (p x) any (any_removed p xs k not)
  where
    by : (t : Bool) → (t || list_any p xs) ≡ true → (list_any p xs ≡ true → list_any p (take k xs ++ drop (suc k) xs) ≡ true) → (t || list_any p (take k xs ++ drop (suc k) xs)) ≡ true
    by true any go = refl
    by false any go = go any

module _ (name : SetName) where
  abbrev stays : DataSet → Bool
  stays s = not (is_named name s)

  all_stay : (bs : List Booked) → ((j : ℕ) → j < length bs → is_name name (slice_index_or bs j no_set).name ≡ false) → filter stays (map data_set bs) ≡ map data_set bs
  all_stay [] none = refl
  all_stay (x ∷ xs) none = ap (λ t. if not t then data_set x ∷ filter stays (map data_set xs) else filter stays (map data_set xs)) (none 0 (omega arith))
      ∙ ap (λ l. data_set x ∷ l) (all_stay xs (λ j below. none (suc j) (omega (arith, below))))

  pub removed_is : (bs : List Booked) (k : ℕ) → k < length bs → is_name name (slice_index_or bs k no_set).name ≡ true
      → ((j : ℕ) → j < length bs → j ≢ k → is_name name (slice_index_or bs j no_set).name ≡ false) → map data_set (take k bs ++ drop (suc k) bs) ≡ filter stays (map data_set bs)
  removed_is [] k below is others = absurd (omega (arith, below))
  removed_is (x ∷ xs) zero below is others = sym (ap (λ t. if not t then data_set x ∷ filter stays (map data_set xs) else filter stays (map data_set xs)) is
      ∙ all_stay xs (λ j lj. others (suc j) (omega (arith, lj)) (λ e. absurd (omega (arith, e)))))
  removed_is (x ∷ xs) (suc k) below is others = ap (λ l. data_set x ∷ l) (removed_is xs k (omega (arith, below)) is (λ j lj not. others (suc j) (omega (arith, lj)) (λ e. not (omega (arith, e)))))
      ∙ sym (ap (λ t. if not t then data_set x ∷ filter stays (map data_set xs) else filter stays (map data_set xs)) (others 0 (omega arith) (λ e. absurd (omega (arith, e)))))

record IsGone (b : Book) (o : Option ℕ) (k : ℕ) : Type 0 where
  is : o ≡ Some k
  free : (set_at b k).holds ≡ 0

abbrev ok_of : Result ℕ DeleteFault → ℕ
ok_of (Ok i) = i
ok_of (Err f) = 0

is_gone : (b : Book) (o : Option ℕ) (k : ℕ) → deletion_of b o ≡ Ok k → IsGone b o k
is_gone b None k e = cc
is_gone b (Some j) k e = by (nat_lt j b.configured) (leb_tells 1 (set_at b j).holds) e
  where
    last : j ≡ k → (suc (set_at b j).holds ≤ 1) → IsGone b (Some j) k
    last same not = record { is = ap Some same; free = ap (λ i. (set_at b i).holds) (sym same) ∙ omega (arith, not) }

    by : (t : Bool) → ((nat_lt 0 (set_at b j).holds ≡ true) × (1 ≤ (set_at b j).holds)) ⊎ ((nat_lt 0 (set_at b j).holds ≡ false) × (suc (set_at b j).holds ≤ 1))
        → (if t then Err faults.NotDeletable else (if nat_lt 0 (set_at b j).holds then Err faults.InUse else Ok j)) ≡ Ok k → IsGone b (Some j) k
    by true u e = cc
    by false (inl u) e = cc
    by false (inr u) e = last (ap ok_of (sym (ap (λ t. if t then Err faults.InUse else Ok j) u.0) ∙ e)) u.1

module _ (b : Book) (n k : ℕ) (all : List DataSet) (used : List (List ℕ)) (name : SetName) (h : StandsFor b n all used) (goes : deletion b name ≡ Ok k) where
  gone : IsGone b (number_named name b) k
  gone = is_gone b (number_named name b) k goes

  there : (k < length b.sets) × (is_name name (set_at b k).name ≡ true)
  there = subst (IsPlace (λ s. is_name name s.name) b.sets) gone.is (is_place (λ s. is_name name s.name) b.sets)

  and_left : (x y : Bool) → (x && y) ≡ true → x ≡ true
  and_left true y e = refl
  and_left false y e = absurd (true≢false (sym e))

  and_right : (x y : Bool) → (x && y) ≡ true → y ≡ true
  and_right true y e = e
  and_right false y e = absurd (true≢false (sym e))

  has_reference : (j : ℕ) → is_name name (set_at b j).name ≡ true → reference_of name.domain name.item ≡ reference (set_at b j)
  has_reference j is = ap₂ reference_of (octets_same name.domain (set_at b j).name.domain (and_left _ _ is)) (octets_same name.item (set_at b j).name.item (and_right _ _ is))

  others : (j : ℕ) → j < length b.sets → j ≢ k → is_name name (set_at b j).name ≡ false
  others j below not = by (is_name name (set_at b j).name) refl
    where
      by : (t : Bool) → is_name name (set_at b j).name ≡ t → t ≡ false
      by true is = absurd (not (h.apart j k below there.0 (sym (has_reference j is) ∙ has_reference k there.1)))
      by false is = refl

  abbrev rest : List Booked
  rest = take k b.sets ++ drop (suc k) b.sets

  unnamed : (j : ℕ) → j < length used → bytes_eq (slice_index_or used j []) (reference (set_at b k)) ≡ false
  unnamed j below = by (bytes_eq (slice_index_or used j []) (reference (set_at b k))) refl
    where
      by : (t : Bool) → bytes_eq (slice_index_or used j []) (reference (set_at b k)) ≡ t → t ≡ false
      by true is = absurd (omega (arith, counted_some (reference (set_at b k)) used j below is, h.holds k there.0, gone.free))
      by false is = refl

  still : (d : List ℕ) → bytes_eq d (reference (set_at b k)) ≡ false → IsNamed b d → IsNamed (after_delete k b) d
  still d not (inl e) = inl e
  still d not (inr some) = let p : Booked → Bool = λ s. bytes_eq d (reference s) in
      inr (some-place p rest ∙ any_removed p b.sets k not (sym (some-place p b.sets) ∙ some))

  pub deletes : StandsFor (after_delete k b) n (without name all) used
  deletes = record {
    sets = removed_is name b.sets k there.0 there.1 others ∙ ap (λ l. filter (stays name) l) h.sets;
    count = h.count;
    holds = λ j below. ap (λ (s : Booked). s.holds) (at_removed b.sets k j) ∙ (h.holds (old k j) (old_below b.sets k j below) ∙ ap (λ (s : Booked). counted (reference s) used) (sym (at_removed b.sets k j)));
    apart = λ i j li lj e. old_one k i j (h.apart (old k i) (old k j) (old_below b.sets k i li) (old_below b.sets k j lj) (ap reference (sym (at_removed b.sets k i)) ∙ (e ∙ ap reference (at_removed b.sets k j))));
    plain = λ j below. subst (λ (s : Booked). IsPlain s.name.domain) (sym (at_removed b.sets k j)) (h.plain (old k j) (old_below b.sets k j below));
    named = λ j below. still (slice_index_or used j []) (unnamed j below) (h.named j below);
  }

-- ---- a DatSet changes

pub record Keeps (f : Booked → Booked) : Type 0 where
  pub name : (s : Booked) → (f s).name ≡ s.name
  pub nodes : (s : Booked) → (f s).nodes ≡ s.nodes

map_same : (bs : List Booked) (k : ℕ) (w : Booked) → k < length bs → data_set w ≡ data_set (slice_index_or bs k no_set) → map data_set (slice_set bs k w) ≡ map data_set bs
map_same [] k w below same = absurd (omega (arith, below))
map_same (x ∷ xs) zero w below same = ap (λ d. d ∷ map data_set xs) same
map_same (x ∷ xs) (suc k) w below same = ap (λ l. data_set x ∷ l) (map_same xs k w (omega (arith, below)) same)

module _ (b : Book) (n : ℕ) (all : List DataSet) (used : List (List ℕ)) (h : StandsFor b n all used) where
  module _ (f : Booked → Booked) (keeps : Keeps f) (k i : ℕ) (d : List ℕ) (below : k < length b.sets) (within : i < length used) where
    name_if : (t : Bool) (s : Booked) → (if t then f s else s).name ≡ s.name
    name_if true s = keeps.name s
    name_if false s = refl

    name_at : (j : ℕ) → (slice_index_or (slice_set b.sets k (f (set_at b k))) j no_set).name ≡ (set_at b j).name
    name_at j = ap (λ (s : Booked). s.name) (at_own f b.sets k j no_set below) ∙ name_if (k == j) (set_at b j)

    same_reference : (j : ℕ) → reference (slice_index_or (slice_set b.sets k (f (set_at b k))) j no_set) ≡ reference (set_at b j)
    same_reference j = ap (λ (m : SetName). reference_of m.domain m.item) (name_at j)

    same_named : (e : List ℕ) → IsNamed b e → IsNamed (record b { sets = slice_set b.sets k (f (set_at b k)) }) e
    same_named e (inl z) = inl z
    same_named e (inr some) = inr (ap is_some (place_set (λ s. bytes_eq e (reference s)) b.sets k (f (set_at b k)) below (ap (λ (m : SetName). bytes_eq e (reference_of m.domain m.item)) (keeps.name (set_at b k)))) ∙ some)

    named_at : (j : ℕ) → j < length used → IsNamed b d → IsNamed b (slice_index_or (slice_set used i d) j [])
    named_at j lj is = subst (IsNamed b) (sym (at_set used i j d [] within)) (by (i == j) (h.named j lj))
      where
        by : (t : Bool) → IsNamed b (slice_index_or used j []) → IsNamed b (if t then d else slice_index_or used j [])
        by true was = is
        by false was = was

    pub changes : IsNamed b d → ((j : ℕ) → j < length b.sets → (if k == j then f (set_at b j) else set_at b j).holds ≡ counted (reference (set_at b j)) (slice_set used i d))
        → StandsFor (record b { sets = slice_set b.sets k (f (set_at b k)) }) n all (slice_set used i d)
    changes is counts = record {
      sets = map_same b.sets k (f (set_at b k)) below (ap₂ (λ (m : SetName) ns. record { domain = m.domain; item = m.item; nodes = map (λ x. x.0) ns }) (keeps.name (set_at b k)) (keeps.nodes (set_at b k))) ∙ h.sets;
      count = h.count;
      holds = λ j lj. ap (λ (s : Booked). s.holds) (at_own f b.sets k j no_set below) ∙ (counts j (omega (arith, lj, length-set b.sets k (f (set_at b k)))) ∙ ap (λ r. counted r (slice_set used i d)) (sym (same_reference j)));
      apart = λ j m lj lm e. h.apart j m (omega (arith, lj, length-set b.sets k (f (set_at b k)))) (omega (arith, lm, length-set b.sets k (f (set_at b k)))) (sym (same_reference j) ∙ (e ∙ same_reference m));
      plain = λ j lj. subst (λ (m : SetName). IsPlain m.domain) (sym (name_at j)) (h.plain j (omega (arith, lj, length-set b.sets k (f (set_at b k)))));
      named = λ j lj. same_named (slice_index_or (slice_set used i d) j []) (named_at j (omega (arith, lj, length-set used i d)) is);
    }

  referred : (r : List ℕ) (k : ℕ) → number_referred r b ≡ Some k → (k < length b.sets) × (bytes_eq r (reference (set_at b k)) ≡ true)
  referred r k is = subst (IsPlace (λ s. bytes_eq r (reference s)) b.sets) is (is_place (λ s. bytes_eq r (reference s)) b.sets)

  other : (r : List ℕ) (k j : ℕ) → number_referred r b ≡ Some k → j < length b.sets → k ≢ j → bytes_eq r (reference (set_at b j)) ≡ false
  other r k j is lj not = elim (tells r (reference (set_at b j))) [
    | inl t ↦ absurd (not (h.apart k j (referred r k is).0 lj (sym (octets_same r (reference (set_at b k)) (referred r k is).1) ∙ t.1)))
    | inr t ↦ t.0
  ]

  one : (r : List ℕ) (k j : ℕ) → number_referred r b ≡ Some k → k ≡ j → bytes_eq r (reference (set_at b j)) ≡ true
  one r k j is same = ap (λ x. bytes_eq r (reference (set_at b x))) (sym same) ∙ (referred r k is).1

  pub holds_more : (j k : ℕ) (r : List ℕ) → j < length used → slice_index_or used j [] ≡ [] → number_referred r b ≡ Some k → StandsFor (after_hold k b) n all (slice_set used j r)
  holds_more i k r within was is = changes held (record { name = λ s. refl; nodes = λ s. refl }) k i r (referred r k is).0 within (inr (ap is_some is)) (λ j lj. by j lj (eqb_tells k j))
    where
      counts : (j : ℕ) → counted (reference (set_at b j)) (slice_set used i r) + 0 ≡ counted (reference (set_at b j)) used + (if bytes_eq r (reference (set_at b j)) then 1 else 0)
      counts j = ap (λ t. counted (reference (set_at b j)) (slice_set used i r) + (if t then 1 else 0)) (sym (ap (λ d. bytes_eq d (reference (set_at b j))) was ∙ no-reference (set_at b j).name.domain (set_at b j).name.item))
          ∙ counted_set (reference (set_at b j)) r used i within

      by : (j : ℕ) → j < length b.sets → ((k == j) ≡ true) × (k ≡ j) ⊎ ((k == j) ≡ false) × (k ≢ j) → (if k == j then held (set_at b j) else set_at b j).holds ≡ counted (reference (set_at b j)) (slice_set used i r)
      by j lj (inl t) = rw t.0 (omega (arith, h.holds j lj, counts j ∙ ap (λ x. counted (reference (set_at b j)) used + (if x then 1 else 0)) (one r k j is t.1)))
      by j lj (inr t) = rw t.0 (omega (arith, h.holds j lj, counts j ∙ ap (λ x. counted (reference (set_at b j)) used + (if x then 1 else 0)) (other r k j is lj t.1)))

  pub holds_less : (j k : ℕ) → j < length used → number_referred (slice_index_or used j []) b ≡ Some k → StandsFor (after_release k b) n all (slice_set used j [])
  holds_less i k within is = changes let_go (record { name = λ s. refl; nodes = λ s. refl }) k i [] (referred (slice_index_or used i []) k is).0 within (inl refl) (λ j lj. by j lj (eqb_tells k j))
    where
      counts : (j : ℕ) → counted (reference (set_at b j)) (slice_set used i []) + (if bytes_eq (slice_index_or used i []) (reference (set_at b j)) then 1 else 0) ≡ counted (reference (set_at b j)) used + 0
      counts j = counted_set (reference (set_at b j)) [] used i within ∙ ap (λ t. counted (reference (set_at b j)) used + (if t then 1 else 0)) (no-reference (set_at b j).name.domain (set_at b j).name.item)

      by : (j : ℕ) → j < length b.sets → ((k == j) ≡ true) × (k ≡ j) ⊎ ((k == j) ≡ false) × (k ≢ j) → (if k == j then let_go (set_at b j) else set_at b j).holds ≡ counted (reference (set_at b j)) (slice_set used i [])
      by j lj (inl t) = rw t.0 (omega (arith, h.holds j lj, sym (counts j) ∙ ap (λ x. counted (reference (set_at b j)) (slice_set used i []) + (if x then 1 else 0)) (one (slice_index_or used i []) k j is t.1)))
      by j lj (inr t) = rw t.0 (omega (arith, h.holds j lj, sym (counts j) ∙ ap (λ x. counted (reference (set_at b j)) (slice_set used i []) + (if x then 1 else 0)) (other (slice_index_or used i []) k j is lj t.1)))
