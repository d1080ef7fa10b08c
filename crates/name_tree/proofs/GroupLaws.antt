-- What one more name does to the groups by first names.
use Rattle.std.proofs.Common.{◌≡◌, ℕ, ◌+◌, ◌<◌, length, get_or, take, Bool, true, false, cond, not, ◌&&◌, ◌||◌, List, [], ◌∷◌, ◌++◌, map, filter, refl, sym, ap, ◌∙◌, true≢false, fold, if◌then◌else◌, append-nil}
use Rattle.std.specs.List.{list_any}
use Rattle.std.specs.Str.{bytes_eq}
use Rattle.std.specs.Cmp.Lexicographic.{bytes_decides}
use Rattle.std.proofs.lemmas.List.{map-append, take_more}
use Rattle.std.proofs.lemmas.List.Elements.{filter-append}
use Rattle.list_laws.proofs.Distinct.{octets_same, octets_apart, Absent, Distinct, distinct-new}
use Rattle.list_laws.proofs.Truths.{or-left, or-right}
use Rattle.bay_model.specs.Generated.{Named}
use Rattle.std.proofs.lemmas.List.Folds.{list_any-append}
use Rattle.name_tree.specs.Groups.{Group, group_at, groups, with_cut, put, with_named}
use Rattle.bay_model.specs.NameTree.{first_name, rest_of, is_itself, below, with_name, first_names}

-- a fold goes on
fold-more : (acc : List (List ℕ)) (ns ms : List (List ℕ)) → fold with_name acc (ns ++ ms) ≡ fold with_name (fold with_name acc ns) ms
fold-more acc [] ms = refl
fold-more acc (n ∷ ns) ms = fold-more (with_name acc n) ns ms

abbrev kept : Named → Bool
kept n = not (is_itself n)

-- an item that is the name itself changes no group
pub first_names-itself : (ns : List Named) (x : Named) → is_itself x ≡ true → first_names (ns ++ x ∷ []) ≡ first_names ns
first_names-itself ns x h = ap (λ l. fold with_name [] (map first_name l)) (filter-append kept ns (x ∷ []) ∙ (ap (λ b. filter kept ns ++ cond (not b) (x ∷ []) []) h ∙ append-nil (filter kept ns)))

pub first_names-more : (ns : List Named) (x : Named) → is_itself x ≡ false → first_names (ns ++ x ∷ []) ≡ with_name (first_names ns) (first_name x)
first_names-more ns x h = ap (λ l. fold with_name [] (map first_name l)) (filter-append kept ns (x ∷ []) ∙ ap (λ b. filter kept ns ++ cond (not b) (x ∷ []) []) h)
    ∙ (ap (λ l. fold with_name [] l) (map-append first_name (filter kept ns) (x ∷ [])) ∙ fold-more [] (map first_name (filter kept ns)) (first_name x ∷ []))

abbrev stands : List ℕ → Named → Bool
stands name n = not (is_itself n) && bytes_eq name (first_name n)

below-append : (name : List ℕ) (ns : List Named) (x : Named) → below name (ns ++ x ∷ []) ≡ below name ns ++ map rest_of (filter (stands name) (x ∷ []))
below-append name ns x = ap (map rest_of) (filter-append (stands name) ns (x ∷ [])) ∙ map-append rest_of (filter (stands name) ns) (filter (stands name) (x ∷ []))

pub below-itself : (name : List ℕ) (ns : List Named) (x : Named) → is_itself x ≡ true → below name (ns ++ x ∷ []) ≡ below name ns
below-itself name ns x h = below-append name ns x ∙ (ap (λ b. below name ns ++ map rest_of (cond (not b && bytes_eq name (first_name x)) (x ∷ []) [])) h ∙ append-nil (below name ns))

pub below-other : (name : List ℕ) (ns : List Named) (x : Named) → bytes_eq name (first_name x) ≡ false → below name (ns ++ x ∷ []) ≡ below name ns
below-other name ns x h = below-append name ns x ∙ (by (not (is_itself x)) (bytes_eq name (first_name x)) h ∙ append-nil (below name ns))
  where
    by : (a b : Bool) → b ≡ false → below name ns ++ map rest_of (cond (a && b) (x ∷ []) []) ≡ below name ns ++ []
    by true true e = absurd (true≢false e)
    by true false e = refl
    by false b e = refl

pub below-same : (ns : List Named) (x : Named) → is_itself x ≡ false → below (first_name x) (ns ++ x ∷ []) ≡ below (first_name x) ns ++ rest_of x ∷ []
below-same ns x h = below-append (first_name x) ns x ∙ (ap (λ b. below (first_name x) ns ++ map rest_of (cond (not b && bytes_eq (first_name x) (first_name x)) (x ∷ []) [])) h
    ∙ ap (λ b. below (first_name x) ns ++ map rest_of (cond (true && b) (x ∷ []) [])) ((bytes_decides (first_name x) (first_name x)).1 refl))

-- each name once
pub distinct-with : (ns : List (List ℕ)) (f : List ℕ) → Distinct ns → Distinct (with_name ns f)
distinct-with ns f d = distinct-new f ns d

distinct-fold : (acc ns : List (List ℕ)) → Distinct acc → Distinct (fold with_name acc ns)
distinct-fold acc [] d = d
distinct-fold acc (n ∷ ns) d = distinct-fold (with_name acc n) ns (distinct-with acc n d)

pub distinct : (ns : List Named) → Distinct (first_names ns)
distinct ns = distinct-fold [] (map first_name (filter kept ns)) tt

-- no name is left out
none-after : (f : List ℕ) (acc ms : List (List ℕ)) → list_any (bytes_eq f) (fold with_name acc ms) ≡ false → (list_any (bytes_eq f) acc ≡ false) × (list_any (bytes_eq f) ms ≡ false)
none-after f acc [] h = (h, refl)
none-after f acc (m ∷ ms) h = let go = none-after f (with_name acc m) ms h in by (list_any (bytes_eq m) acc) refl go.0 go.1
  where
    other : list_any (bytes_eq m) acc ≡ true → list_any (bytes_eq f) acc ≡ false → (b : Bool) → bytes_eq f m ≡ b → b ≡ false
    other t n true e = absurd (true≢false (sym (ap (λ x. list_any (bytes_eq x) acc) (octets_same f m e) ∙ t) ∙ n))
    other t n false e = refl

    by : (b : Bool) → list_any (bytes_eq m) acc ≡ b → list_any (bytes_eq f) (if b then acc else acc ++ m ∷ []) ≡ false → list_any (bytes_eq f) ms ≡ false → (list_any (bytes_eq f) acc ≡ false) × (bytes_eq f m || list_any (bytes_eq f) ms ≡ false)
    by true t n r = (n, ap (λ b. b || list_any (bytes_eq f) ms) (other t n (bytes_eq f m) refl) ∙ r)
    by false t n r = let both = sym (list_any-append (bytes_eq f) acc (m ∷ [])) ∙ n in
        (or-left (list_any (bytes_eq f) acc) (bytes_eq f m || false) both, ap (λ b. b || list_any (bytes_eq f) ms) (or-left (bytes_eq f m) false (or-right (list_any (bytes_eq f) acc) (bytes_eq f m || false) both)) ∙ r)

none-below : (f : List ℕ) (ns : List Named) → list_any (bytes_eq f) (map first_name (filter kept ns)) ≡ false → below f ns ≡ []
none-below f [] h = refl
none-below f (n ∷ ns) h = by (none-below f ns) (is_itself n) (bytes_eq f (first_name n)) refl h
  where
    by : (list_any (bytes_eq f) (map first_name (filter kept ns)) ≡ false → below f ns ≡ []) → (a b : Bool) → bytes_eq f (first_name n) ≡ b → list_any (bytes_eq f) (map first_name (cond (not a) (n ∷ filter kept ns) (filter kept ns))) ≡ false → map rest_of (cond (not a && b) (n ∷ filter (stands f) ns) (filter (stands f) ns)) ≡ []
    by go true b e g = go g
    by go false true e g = absurd (true≢false (sym e ∙ or-left (bytes_eq f (first_name n)) (list_any (bytes_eq f) (map first_name (filter kept ns))) g))
    by go false false e g = go (or-right (bytes_eq f (first_name n)) (list_any (bytes_eq f) (map first_name (filter kept ns))) g)

below-absent : (f : List ℕ) (ns : List Named) → list_any (bytes_eq f) (first_names ns) ≡ false → below f ns ≡ []
below-absent f ns h = none-below f ns (none-after f [] (map first_name (filter kept ns)) h).1

-- the groups of other names stay
others-stay : (ns : List Named) (x : Named) (n : List ℕ) (names : List (List ℕ)) → first_name x ≡ n → Absent n names → map (group_at (ns ++ x ∷ [])) names ≡ map (group_at ns) names
others-stay ns x n [] e a = refl
others-stay ns x n (m ∷ ms) e a = ap (λ l. record { name = m; names = l } ∷ map (group_at (ns ++ x ∷ [])) ms) (below-other m ns x (ap (bytes_eq m) e ∙ a.0)) ∙ ap (λ l. group_at ns m ∷ l) (others-stay ns x n ms e a.1)

all-stay : (ns : List Named) (x : Named) (names : List (List ℕ)) → is_itself x ≡ true → map (group_at (ns ++ x ∷ [])) names ≡ map (group_at ns) names
all-stay ns x [] h = refl
all-stay ns x (m ∷ ms) h = ap (λ l. record { name = m; names = l } ∷ map (group_at (ns ++ x ∷ [])) ms) (below-itself m ns x h) ∙ ap (λ l. group_at ns m ∷ l) (all-stay ns x ms h)

put-is : (ns : List Named) (x : Named) (names : List (List ℕ)) → is_itself x ≡ false → Distinct names → (list_any (bytes_eq (first_name x)) names ≡ false → below (first_name x) ns ≡ [])
    → put (map (group_at ns) names) (first_name x) (rest_of x) ≡ map (group_at (ns ++ x ∷ [])) (with_name names (first_name x))
put-is ns x [] h d none = ap (λ l. record { name = first_name x; names = l } ∷ []) (sym (below-same ns x h ∙ ap (λ l. l ++ rest_of x ∷ []) (none refl)))
put-is ns x (m ∷ ms) h d none = by (put-is ns x ms h d.1) (bytes_eq (first_name x) m) refl
  where
    more : (b : Bool) → map (group_at (ns ++ x ∷ [])) (if b then m ∷ ms else m ∷ (ms ++ first_name x ∷ [])) ≡ group_at (ns ++ x ∷ []) m ∷ map (group_at (ns ++ x ∷ [])) (if b then ms else ms ++ first_name x ∷ [])
    more true = refl
    more false = refl

    by : ((list_any (bytes_eq (first_name x)) ms ≡ false → below (first_name x) ns ≡ []) → put (map (group_at ns) ms) (first_name x) (rest_of x) ≡ map (group_at (ns ++ x ∷ [])) (with_name ms (first_name x))) → (b : Bool) → bytes_eq (first_name x) m ≡ b → (if b then with_cut (group_at ns m) (rest_of x) ∷ map (group_at ns) ms else group_at ns m ∷ put (map (group_at ns) ms) (first_name x) (rest_of x))
        ≡ map (group_at (ns ++ x ∷ [])) (if b || list_any (bytes_eq (first_name x)) ms then m ∷ ms else m ∷ (ms ++ first_name x ∷ []))
    by go true e = let is = octets_same (first_name x) m e in
        ap (λ l. record { name = m; names = l } ∷ map (group_at ns) ms) (sym (ap (λ n. below n (ns ++ x ∷ [])) (sym is) ∙ (below-same ns x h ∙ ap (λ n. below n ns ++ rest_of x ∷ []) is)))
        ∙ ap (λ l. group_at (ns ++ x ∷ []) m ∷ l) (sym (others-stay ns x m ms is d.0))
    by go false e = ap (λ l. record { name = m; names = l } ∷ put (map (group_at ns) ms) (first_name x) (rest_of x)) (sym (below-other m ns x (octets_apart (first_name x) m e)))
        ∙ (ap (λ l. group_at (ns ++ x ∷ []) m ∷ l) (go (λ n. none (ap (λ b. b || list_any (bytes_eq (first_name x)) ms) e ∙ n)))
        ∙ sym (more (list_any (bytes_eq (first_name x)) ms)))

-- one more that is named
pub groups-more : (ns : List Named) (x : Named) → groups (ns ++ x ∷ []) ≡ with_named (groups ns) x
groups-more ns x = by (is_itself x) refl
  where
    by : (b : Bool) → is_itself x ≡ b → groups (ns ++ x ∷ []) ≡ (if b then groups ns else put (groups ns) (first_name x) (rest_of x))
    by true h = ap (map (group_at (ns ++ x ∷ []))) (first_names-itself ns x h) ∙ all-stay ns x (first_names ns) h
    by false h = ap (map (group_at (ns ++ x ∷ []))) (first_names-more ns x h) ∙ sym (put-is ns x (first_names ns) h (distinct ns) (below-absent (first_name x) ns))

pub groups-next : (xs : List Named) (i : ℕ) (x : Named) (out more : List Group) → i < length xs → x ≡ get_or xs i x → out ≡ groups (take i xs) → more ≡ with_named out x → more ≡ groups (take (i + 1) xs)
groups-next xs i x out more h e o m = m ∙ (ap (λ g. with_named g x) o ∙ sym (ap groups (take_more xs i x h) ∙ (groups-more (take i xs) (get_or xs i x) ∙ ap (with_named (groups (take i xs))) (sym e))))
