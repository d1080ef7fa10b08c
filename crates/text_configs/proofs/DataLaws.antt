-- Places that hold data beside others that hold none, as do the components of a setting group block and what stands above them.
use Rattle.std.proofs.Common.{◌≡◌, ℕ, zero, suc, ◌+◌, ◌<◌, ◌≤◌, ◌==◌, Bool, true, false, cond, not, ◌&&◌, ◌⊎◌, inl, inr, List, [], ◌∷◌, ◌++◌, length, map, filter, Option, Some, unwrap_or, refl, sym, ap, subst, ◌∙◌, arith, true≢false, length-append}
use Rattle.std.specs.Option.{option_map}
use Rattle.std.specs.List.{find}
use Rattle.std.specs.Str.{bytes_eq}
use Rattle.std.proofs.lemmas.Bool.{and_parts, and_right}
use Rattle.list_laws.proofs.Distinct.{octets_same}
use Rattle.bay_model.specs.Model.{Role, several}
use Rattle.bay_model.specs.Generated.{Named}
use Rattle.bay_model.specs.NameTree.{first_name, rest_of, is_itself, below, first_names, role_of, own_type, grown}
use Rattle.bay_model.specs.Places.{Place, place, places, is_data_role, are_data}
use Rattle.list_laws.proofs.Among.{Among, kept}
use Rattle.text_configs.proofs.JoinedLaws.{first, rest, rest-alone, split-at}
use Rattle.text_configs.proofs.NamedLaws.{IsFirst, IsPlaced, first-of, is-first, below-of, is-below, place_at, deeper, forest, placed, is-placed, is-deeper}
use Rattle.text_configs.proofs.PlaceLaws.{first-without}

abbrev pub is_held : Named → Bool
is_held n = is_data_role n.role

-- no item has more octets
abbrev pub AreWithin : ℕ → List Named → Type 0
AreWithin l ns = (n : Named) → Among n ns → length n.item ≤ l

-- none of them holds data
abbrev pub AreNone : List Named → Type 0
AreNone ns = (n : Named) → Among n ns → is_held n ≡ false

-- what holds data and what holds none begin with other names
abbrev pub AreApart : List Named → Type 0
AreApart ns = (m n : Named) → Among m ns → Among n ns → first_name m ≡ first_name n → is_held m ≡ true → is_held n ≡ false → ⊥

-- ---- items below a name are shorter

some-octets : (k : ℕ) → (k == 0) ≡ false → 0 < k
some-octets zero e = absurd (true≢false e)
some-octets (suc k) e = omega arith

rest-shorter : (item : List ℕ) → 0 < length item → length (rest item) + 1 ≤ length item
rest-shorter item some = by (split-at item)
  where
    by : (item ≡ first item ++ 36 ∷ rest item) ⊎ (item ≡ first item) → length (rest item) + 1 ≤ length item
    by (inl s) = omega (arith, ap length s, length-append (first item) (36 ∷ rest item))
    by (inr s) = let empty : rest item ≡ [] = ap rest s ∙ rest-alone (first item) (first-without item) in omega (arith, some, ap length empty)

pub within-below : (l : ℕ) (ns : List Named) (f : List ℕ) → AreWithin (suc l) ns → AreWithin l (below f ns)
within-below l ns f h m i =
    let o = below-of ns f m i in
    let left : length m.item ≡ length (rest o.0.item) = ap (λ (x : Named). length x.item) o.1.left in
    omega (arith, left, rest-shorter o.0.item (some-octets (length o.0.item) o.1.longer), h o.0 o.1.there)

-- ---- what holds none

none-below : (ns : List Named) (f : List ℕ) → ((n : Named) → Among n ns → f ≡ first_name n → is_held n ≡ false) → AreNone (below f ns)
none-below ns f h m i = let o = below-of ns f m i in ap is_held o.1.left ∙ h o.0 o.1.there o.1.is

abbrev role_from : Option Named → Role
role_from o = unwrap_or (option_map (λ (n : Named). n.role) o) several

role-told : (ns : List Named) → AreNone ns → ((n : Named) → Among n ns → is_itself n ≡ false) ⊎ (is_data_role (role_of ns) ≡ false)
role-told [] h = inl (λ n i. absurd i)
role-told (n ∷ ns) h = by (is_itself n) refl (role-told ns (λ m i. h m (inr i)))
  where
    each : is_itself n ≡ false → ((m : Named) → Among m ns → is_itself m ≡ false) → (m : Named) → Among m (n ∷ ns) → is_itself m ≡ false
    each e go m (inl s) = ap is_itself s ∙ e
    each e go m (inr j) = go m j

    by : (b : Bool) → is_itself n ≡ b → ((m : Named) → Among m ns → is_itself m ≡ false) ⊎ (is_data_role (role_of ns) ≡ false) → ((m : Named) → Among m (n ∷ ns) → is_itself m ≡ false) ⊎ (is_data_role (role_of (n ∷ ns)) ≡ false)
    by true e go = inr (ap (λ b. is_data_role (role_from (cond b (Some n) (find is_itself ns)))) e ∙ h n (inl refl))
    by false e (inl go) = inl (each e go)
    by false e (inr go) = inr (ap (λ b. is_data_role (role_from (cond b (Some n) (find is_itself ns)))) e ∙ go)

and-first : (a b : Bool) → a ≡ false → (a && b) ≡ false
and-first true b h = absurd (true≢false h)
and-first false b h = refl

three-first : (a b c : Bool) → (a && b) ≡ false → (a && b && c) ≡ false
three-first true true c h = absurd (true≢false h)
three-first true false c h = refl
three-first false b c h = refl

three-last : (a b c : Bool) → c ≡ false → (a && b && c) ≡ false
three-last true true c h = h
three-last true false c h = refl
three-last false b c h = refl

-- the place of a name holds data
abbrev holds : ℕ → List Named → List ℕ → Bool
holds l ns f = is_data_role (role_of (below f ns)) && are_data (grown l (below f ns))

forest-none : (l : ℕ) (ns : List Named) (names : List (List ℕ)) (f : List ℕ) → Among f names → holds l ns f ≡ false → are_data (forest l ns names) ≡ false
forest-none l ns [] f i h = absurd i
forest-none l ns (g ∷ gs) f (inl e) h = three-first (is_data_role (role_of (below g ns))) (are_data (grown l (below g ns))) (are_data (forest l ns gs)) (subst (λ x. holds l ns x ≡ false) e h)
forest-none l ns (g ∷ gs) f (inr i) h = three-last (is_data_role (role_of (below g ns))) (are_data (grown l (below g ns))) (are_data (forest l ns gs)) (forest-none l ns gs f i h)

name-none : (l : ℕ) (ns : List Named) (f : List ℕ) (n : Named) → AreNone (below f ns) → AreWithin l ns → Among n ns → is_itself n ≡ false → f ≡ first_name n → holds l ns f ≡ false
name-none zero ns f n none within i longer is = absurd (omega (arith, within n i, some-octets (length n.item) longer))
name-none (suc l) ns f n none within i longer is = by (role-told (below f ns) none) (name-none l (below f ns) (first_name (rest_of n)) (rest_of n))
  where
    there : Among (rest_of n) (below f ns)
    there = is-below ns f n i longer is

    by : ((m : Named) → Among m (below f ns) → is_itself m ≡ false) ⊎ (is_data_role (role_of (below f ns)) ≡ false)
        → (AreNone (below (first_name (rest_of n)) (below f ns)) → AreWithin l (below f ns) → Among (rest_of n) (below f ns) → is_itself (rest_of n) ≡ false → first_name (rest_of n) ≡ first_name (rest_of n) → holds l (below f ns) (first_name (rest_of n)) ≡ false)
        → holds (suc l) ns f ≡ false
    by (inr e) go = and-first (is_data_role (role_of (below f ns))) (are_data (grown (suc l) (below f ns))) e
    by (inl each) go = and_right (is_data_role (role_of (below f ns))) (are_data (grown (suc l) (below f ns)))
        (forest-none l (below f ns) (first_names (below f ns)) (first_name (rest_of n)) (is-first (below f ns) (rest_of n) there (each (rest_of n) there))
        (go (none-below (below f ns) (first_name (rest_of n)) (λ m j k. none m j)) (within-below l ns f within) there (each (rest_of n) there) refl))

-- a place of such a name, and each below it
place-none : (l : ℕ) (ns : List Named) (before : List ℕ) (p : Place) (f : List ℕ) (n : Named) → AreNone (below f ns) → AreWithin l ns → Among n ns → is_itself n ≡ false → f ≡ first_name n
    → (p ≡ place_at before l ns f) ⊎ Among p (deeper before l ns f) → p.is_data ≡ false
place-none l ns before p f n none within i longer is (inl e) = ap (λ (q : Place). q.is_data) e ∙ name-none l ns f n none within i longer is
place-none zero ns before p f n none within i longer is (inr j) = absurd j
place-none (suc l) ns before p f n none within i longer is (inr j) =
    let m = below f ns in
    let s = placed (before ++ f ++ 36 ∷ []) l m p j in
    let o = first-of m s.0 s.1.name in
    place-none l m (before ++ f ++ 36 ∷ []) p s.0 o.0 (none-below m s.0 (λ q k e. none q k)) (within-below l ns f within) o.1.there o.1.longer o.1.is s.1.at

-- ---- what holds data, by itself

abbrev pub held_of : List Named → List Named
held_of ns = filter is_held ns

filter-twice : {X : Type 0} (q d : X → Bool) (xs : List X) → ((x : X) → Among x xs → q x ≡ true → d x ≡ true) → filter q xs ≡ filter q (filter d xs)
filter-twice q d [] h = refl
filter-twice q d (x ∷ xs) h = by (q x) (d x) refl refl (filter-twice q d xs (λ y i. h y (inr i)))
  where
    step : (a : Bool) → q x ≡ a → filter q (x ∷ xs) ≡ cond a (x ∷ filter q xs) (filter q xs)
    step a e = ap (λ t. cond t (x ∷ filter q xs) (filter q xs)) e

    further : (b : Bool) → d x ≡ b → filter d (x ∷ xs) ≡ cond b (x ∷ filter d xs) (filter d xs)
    further b e = ap (λ t. cond t (x ∷ filter d xs) (filter d xs)) e

    onward : (a : Bool) → q x ≡ a → filter q (x ∷ filter d xs) ≡ cond a (x ∷ filter q (filter d xs)) (filter q (filter d xs))
    onward a e = ap (λ t. cond t (x ∷ filter q (filter d xs)) (filter q (filter d xs))) e

    by : (a b : Bool) → q x ≡ a → d x ≡ b → filter q xs ≡ filter q (filter d xs) → filter q (x ∷ xs) ≡ filter q (filter d (x ∷ xs))
    by true true e f go = step true e ∙ (ap (λ l. x ∷ l) go ∙ (sym (onward true e) ∙ ap (filter q) (sym (further true f))))
    by true false e f go = absurd (true≢false (sym (h x (inl refl) e) ∙ f))
    by false true e f go = step false e ∙ (go ∙ (sym (onward false e) ∙ ap (filter q) (sym (further true f))))
    by false false e f go = step false e ∙ (go ∙ ap (filter q) (sym (further false f)))

filter-all : {X : Type 0} (d : X → Bool) (xs : List X) → ((x : X) → Among x xs → d x ≡ true) → xs ≡ filter d xs
filter-all d [] h = refl
filter-all d (x ∷ xs) h = ap (λ l. x ∷ l) (filter-all d xs (λ y i. h y (inr i))) ∙ sym (ap (λ t. cond t (x ∷ filter d xs) (filter d xs)) (h x (inl refl)))

same-below : (ns : List Named) (f : List ℕ) → ((n : Named) → Among n ns → f ≡ first_name n → is_held n ≡ true) → below f ns ≡ below f (held_of ns)
same-below ns f h = ap (map rest_of) (filter-twice (λ (n : Named). not (is_itself n) && bytes_eq f (first_name n)) is_held ns (λ n i e. h n i (octets_same f (first_name n) (and_parts (not (is_itself n)) (bytes_eq f (first_name n)) e).1)))

-- a place of a name below which all holds data
pub held-place : (l : ℕ) (ns : List Named) (before : List ℕ) (p : Place) (f : List ℕ) → IsPlaced before l ns p f → ((n : Named) → Among n ns → f ≡ first_name n → is_held n ≡ true) → Among p (places before (grown (suc l) (held_of ns)))
held-place l ns before p f s each = by (same-below ns f each) s.at
  where
    name-of : (n : Named) → IsFirst ns f n → Among f (first_names (held_of ns))
    name-of n o = subst (λ x. Among x (first_names (held_of ns))) (sym o.is) (is-first (held_of ns) n (kept is_held n ns o.there (each n o.there o.is)) o.longer)

    name : Among f (first_names (held_of ns))
    name = let n = first-of ns f s.name in name-of n.0 n.1

    by : below f ns ≡ below f (held_of ns) → (p ≡ place_at before l ns f) ⊎ Among p (deeper before l ns f) → Among p (places before (grown (suc l) (held_of ns)))
    by same (inl e) = subst (λ q. Among q (places before (grown (suc l) (held_of ns)))) (sym (e ∙ ap (λ m. place (before ++ f) (role_of m) (own_type m) (grown l m)) same)) (is-placed before l (held_of ns) f name)
    by same (inr j) = is-deeper before l (held_of ns) f p name (subst (λ m. Among p (places (before ++ f ++ 36 ∷ []) (grown l m))) same j)

-- a place that holds data stands in the tree of what holds data
pub data-place : (l : ℕ) (ns : List Named) (before : List ℕ) (p : Place) → AreApart ns → AreWithin l ns → p.is_data ≡ true → Among p (places before (grown (suc l) ns)) → Among p (places before (grown (suc l) (held_of ns)))
data-place l ns before p apart within sure i = let s = placed before l ns p i in let n = first-of ns s.0 s.1.name in on s.0 s.1 n.0 n.1.there n.1.longer n.1.is (is_held n.0) refl
  where
    yes : (m n : Named) → Among m ns → Among n ns → first_name m ≡ first_name n → is_held m ≡ true → (b : Bool) → is_held n ≡ b → b ≡ true
    yes m n j k same e true f = refl
    yes m n j k same e false f = absurd (apart m n j k same e f)

    no : (m n : Named) → Among m ns → Among n ns → first_name m ≡ first_name n → is_held m ≡ false → (b : Bool) → is_held n ≡ b → b ≡ false
    no m n j k same e true f = absurd (apart n m k j (sym same) f e)
    no m n j k same e false f = refl

    on : (f : List ℕ) → IsPlaced before l ns p f → (n : Named) → Among n ns → is_itself n ≡ false → f ≡ first_name n → (b : Bool) → is_held n ≡ b → Among p (places before (grown (suc l) (held_of ns)))
    on f at n there longer is true e = held-place l ns before p f at (λ m j k. yes n m there j (sym is ∙ k) e (is_held m) refl)
    on f at n there longer is false e = absurd (true≢false (sym sure ∙ place-none l ns before p f n (none-below ns f (λ m j k. no n m there j (sym is ∙ k) e (is_held m) refl)) within there longer is at.at))

-- where all of it holds data, each does
pub all-held : (l : ℕ) (ns : List Named) (f : List ℕ) → AreApart (below f ns) → AreWithin l ns → ((n : Named) → Among n (below f ns) → is_held n ≡ false → is_itself n ≡ false) → are_data (grown l (below f ns)) ≡ true → below f ns ≡ held_of (below f ns)
all-held l ns f apart within longer sure = filter-all is_held (below f ns) (each l within sure)
  where
    each : (l : ℕ) → AreWithin l ns → are_data (grown l (below f ns)) ≡ true → (n : Named) → Among n (below f ns) → is_held n ≡ true
    each zero within sure n i = let o = below-of ns f n i in absurd (omega (arith, within o.0 o.1.there, some-octets (length o.0.item) o.1.longer))
    each (suc l) within sure n i = by (is_held n) refl
      where
        no : (m : Named) → Among m (below f ns) → first_name n ≡ first_name m → is_held n ≡ false → (b : Bool) → is_held m ≡ b → b ≡ false
        no m k same e true g = absurd (apart m n k i (sym same) g e)
        no m k same e false g = refl

        by : (b : Bool) → is_held n ≡ b → b ≡ true
        by true e = refl
        by false e = absurd (true≢false (sym sure ∙ forest-none l (below f ns) (first_names (below f ns)) (first_name n) (is-first (below f ns) n i (longer n i e))
            (name-none l (below f ns) (first_name n) n (none-below (below f ns) (first_name n) (λ m k is. no m k is e (is_held m) refl)) (within-below l ns f within) i (longer n i e) refl)))
