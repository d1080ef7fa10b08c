-- The first names of what is named, what stands below a name, and the places of the tree that grows of it.
use Rattle.std.proofs.Common.{◌≡◌, ℕ, suc, Bool, true, false, not, ◌&&◌, ◌⊎◌, inl, inr, List, [], ◌∷◌, ◌++◌, map, filter, fold, refl, sym, ap, subst, if◌then◌else◌}
use Rattle.std.specs.List.{list_any}
use Rattle.std.specs.Str.{bytes_eq}
use Rattle.std.proofs.lemmas.Bool.{and_parts, and_from}
use Rattle.list_laws.proofs.Distinct.{octets_same, octets_equal}
use Rattle.bay_model.specs.Generated.{Named}
use Rattle.bay_model.specs.NameTree.{Forest, named, first_name, rest_of, is_itself, below, with_name, first_names, role_of, own_type, side_by_side, grown}
use Rattle.bay_model.specs.Places.{Place, place, places}
use Rattle.list_laws.proofs.Among.{Among, left, right, either, mapped, source, kept, passed, some-passes}
use Rattle.list_laws.proofs.Truths.{not-true}

-- a name that is added where it isn't there
pub with-back : (f : List ℕ) (acc : List (List ℕ)) (m : List ℕ) → Among f (with_name acc m) → Among f acc ⊎ (f ≡ m)
with-back f acc m i = by (list_any (bytes_eq m) acc) i
  where
    last : Among f acc ⊎ Among f (m ∷ []) → Among f acc ⊎ (f ≡ m)
    last (inl j) = inl j
    last (inr (inl e)) = inr e
    last (inr (inr j)) = absurd j

    by : (b : Bool) → Among f (if b then acc else acc ++ m ∷ []) → Among f acc ⊎ (f ≡ m)
    by true j = inl j
    by false j = last (either f acc (m ∷ []) j)

pub with-old : (f : List ℕ) (acc : List (List ℕ)) (m : List ℕ) → Among f acc → Among f (with_name acc m)
with-old f acc m i = by (list_any (bytes_eq m) acc)
  where
    by : (b : Bool) → Among f (if b then acc else acc ++ m ∷ [])
    by true = i
    by false = left f acc (m ∷ []) i

pub with-new : (acc : List (List ℕ)) (m : List ℕ) → Among m (with_name acc m)
with-new acc m = by (list_any (bytes_eq m) acc) refl
  where
    by : (b : Bool) → list_any (bytes_eq m) acc ≡ b → Among m (if b then acc else acc ++ m ∷ [])
    by true e = let s = some-passes (bytes_eq m) acc e in subst (λ x. Among x acc) (sym (octets_same m s.0 s.2)) s.1
    by false e = right m acc (m ∷ []) (inl refl)

fold-back : (f : List ℕ) (acc ms : List (List ℕ)) → Among f (fold with_name acc ms) → Among f acc ⊎ Among f ms
fold-back f acc [] i = inl i
fold-back f acc (m ∷ ms) i = by (fold-back f (with_name acc m) ms i)
  where
    here : Among f acc ⊎ (f ≡ m) → Among f acc ⊎ Among f (m ∷ ms)
    here (inl j) = inl j
    here (inr e) = inr (inl e)

    by : Among f (with_name acc m) ⊎ Among f ms → Among f acc ⊎ Among f (m ∷ ms)
    by (inl j) = here (with-back f acc m j)
    by (inr j) = inr (inr j)

fold-old : (f : List ℕ) (acc ms : List (List ℕ)) → Among f acc → Among f (fold with_name acc ms)
fold-old f acc [] i = i
fold-old f acc (m ∷ ms) i = fold-old f (with_name acc m) ms (with-old f acc m i)

fold-new : (f : List ℕ) (acc ms : List (List ℕ)) → Among f ms → Among f (fold with_name acc ms)
fold-new f acc [] i = absurd i
fold-new f acc (m ∷ ms) (inl e) = fold-old f (with_name acc m) ms (subst (λ x. Among x (with_name acc m)) (sym e) (with-new acc m))
fold-new f acc (m ∷ ms) (inr i) = fold-new f (with_name acc m) ms i

-- the first name of one that is more than the name itself
pub record IsFirst (ns : List Named) (f : List ℕ) (n : Named) : Type 0 where
  pub there : Among n ns
  pub longer : is_itself n ≡ false
  pub is : f ≡ first_name n

pub first-of : (ns : List Named) (f : List ℕ) → Among f (first_names ns) → (n : Named) × IsFirst ns f n
first-of ns f i = by (fold-back f [] (map first_name (filter (λ n. not (is_itself n)) ns)) i)
  where
    by : ⊥ ⊎ Among f (map first_name (filter (λ n. not (is_itself n)) ns)) → (n : Named) × IsFirst ns f n
    by (inl j) = absurd j
    by (inr j) = let s = source first_name f (filter (λ n. not (is_itself n)) ns) j in
        let p = passed (λ n. not (is_itself n)) s.0 ns s.1 in
        (s.0, record { there = p.0; longer = not-true (is_itself s.0) p.1; is = s.2 })

pub is-first : (ns : List Named) (n : Named) → Among n ns → is_itself n ≡ false → Among (first_name n) (first_names ns)
is-first ns n i e = fold-new (first_name n) [] (map first_name (filter (λ n. not (is_itself n)) ns)) (mapped first_name n _ (kept (λ n. not (is_itself n)) n ns i (ap not e)))

-- what stands below a name
pub record IsBelow (ns : List Named) (name : List ℕ) (m n : Named) : Type 0 where
  pub there : Among n ns
  pub longer : is_itself n ≡ false
  pub is : name ≡ first_name n
  pub left : m ≡ rest_of n

pub below-of : (ns : List Named) (name : List ℕ) (m : Named) → Among m (below name ns) → (n : Named) × IsBelow ns name m n
below-of ns name m i =
    let s = source rest_of m (filter (λ n. not (is_itself n) && bytes_eq name (first_name n)) ns) i in
    let p = passed (λ n. not (is_itself n) && bytes_eq name (first_name n)) s.0 ns s.1 in
    let both = and_parts (not (is_itself s.0)) (bytes_eq name (first_name s.0)) p.1 in
    (s.0, record { there = p.0; longer = not-true (is_itself s.0) both.0; is = octets_same name (first_name s.0) both.1; left = s.2 })

pub is-below : (ns : List Named) (name : List ℕ) (n : Named) → Among n ns → is_itself n ≡ false → name ≡ first_name n → Among (rest_of n) (below name ns)
is-below ns name n i e is = mapped rest_of n _ (kept (λ n. not (is_itself n) && bytes_eq name (first_name n)) n ns i (and_from (not (is_itself n)) (bytes_eq name (first_name n)) (ap not e) (octets_equal name (first_name n) is)))

-- ---- the places of a tree

abbrev pub place_at : List ℕ → ℕ → List Named → List ℕ → Place
place_at before l ns f = place (before ++ f) (role_of (below f ns)) (own_type (below f ns)) (grown l (below f ns))

abbrev pub deeper : List ℕ → ℕ → List Named → List ℕ → List Place
deeper before l ns f = places (before ++ f ++ 36 ∷ []) (grown l (below f ns))

pub record IsPlaced (before : List ℕ) (l : ℕ) (ns : List Named) (p : Place) (f : List ℕ) : Type 0 where
  pub name : Among f (first_names ns)
  pub at : (p ≡ place_at before l ns f) ⊎ Among p (deeper before l ns f)

abbrev pub forest : ℕ → List Named → List (List ℕ) → Forest
forest l ns names = side_by_side (λ name others. named name (role_of (below name ns)) (own_type (below name ns)) (grown l (below name ns)) others) names

side-of : (before : List ℕ) (l : ℕ) (ns : List Named) (names : List (List ℕ)) (p : Place) → Among p (places before (forest l ns names)) → (f : List ℕ) × Among f names × ((p ≡ place_at before l ns f) ⊎ Among p (deeper before l ns f))
side-of before l ns [] p i = absurd i
side-of before l ns (f ∷ fs) p (inl e) = (f, inl refl, inl e)
side-of before l ns (f ∷ fs) p (inr i) = by (either p (deeper before l ns f) (places before (forest l ns fs)) i) (side-of before l ns fs p)
  where
    by : Among p (deeper before l ns f) ⊎ Among p (places before (forest l ns fs)) → (Among p (places before (forest l ns fs)) → (g : List ℕ) × Among g fs × ((p ≡ place_at before l ns g) ⊎ Among p (deeper before l ns g))) → (g : List ℕ) × Among g (f ∷ fs) × ((p ≡ place_at before l ns g) ⊎ Among p (deeper before l ns g))
    by (inl j) go = (f, inl refl, inr j)
    by (inr j) go = let g = go j in (g.0, inr g.1, g.2)

pub placed : (before : List ℕ) (l : ℕ) (ns : List Named) (p : Place) → Among p (places before (grown (suc l) ns)) → (f : List ℕ) × IsPlaced before l ns p f
placed before l ns p i = let s = side-of before l ns (first_names ns) p i in (s.0, record { name = s.1; at = s.2 })

side-here : (before : List ℕ) (l : ℕ) (ns : List Named) (names : List (List ℕ)) (f : List ℕ) → Among f names → Among (place_at before l ns f) (places before (forest l ns names))
side-here before l ns [] f i = absurd i
side-here before l ns (g ∷ gs) f (inl e) = inl (ap (place_at before l ns) e)
side-here before l ns (g ∷ gs) f (inr i) = inr (right (place_at before l ns f) (deeper before l ns g) (places before (forest l ns gs)) (side-here before l ns gs f i))

side-deeper : (before : List ℕ) (l : ℕ) (ns : List Named) (names : List (List ℕ)) (f : List ℕ) (p : Place) → Among f names → Among p (deeper before l ns f) → Among p (places before (forest l ns names))
side-deeper before l ns [] f p i j = absurd i
side-deeper before l ns (g ∷ gs) f p (inl e) j = inr (left p (deeper before l ns g) (places before (forest l ns gs)) (subst (λ h. Among p (deeper before l ns h)) e j))
side-deeper before l ns (g ∷ gs) f p (inr i) j = inr (right p (deeper before l ns g) (places before (forest l ns gs)) (side-deeper before l ns gs f p i j))

pub is-placed : (before : List ℕ) (l : ℕ) (ns : List Named) (f : List ℕ) → Among f (first_names ns) → Among (place_at before l ns f) (places before (grown (suc l) ns))
is-placed before l ns f i = side-here before l ns (first_names ns) f i

pub is-deeper : (before : List ℕ) (l : ℕ) (ns : List Named) (f : List ℕ) (p : Place) → Among f (first_names ns) → Among p (deeper before l ns f) → Among p (places before (grown (suc l) ns))
is-deeper before l ns f p i j = side-deeper before l ns (first_names ns) f p i j
