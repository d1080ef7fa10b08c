-- Names in ascending order, with those that are empty in front.
use Rattle.std.proofs.Common.{◌≡◌, ◌<◌, ℕ, zero, suc, ◌+◌, Bool, true, false, cond, ◌&&◌, List, [], ◌∷◌, ◌++◌, length, map, filter, position, refl, sym, ap, ◌∙◌, arith, Option, None, Some, is_some, true≢false}
use Rattle.std.specs.Prelude.{if◌then◌else◌, slice_get, unwrap_or}
use Rattle.std.specs.Option.{option_map}
use Rattle.std.specs.Str.{bytes_eq}
use Rattle.list_laws.proofs.Places.{place-cons}
use Rattle.bay_model.specs.Model.{Node}
use Rattle.bay_model.specs.Names.{is_below, insert_name, sorted}
use Rattle.name_order.specs.Sorting.{names_above}
use Rattle.bay_replies.specs.Replied.{empty_if}
use Rattle.list_laws.proofs.Distinct.{octets_turned as turned, octets_same, octets_equal}
use Rattle.list_laws.proofs.Truths.{and-left, and-right}

-- ---- names, of which that many are empty

abbrev IsSome : List ℕ → Type 0
IsSome n = is_below [] n ≡ true

-- the first that many are empty, and no other one
abbrev IsSplit : ℕ → List (List ℕ) → Type 0
IsSplit zero [] = Unit {0}
IsSplit zero (n ∷ ns) = IsSome n × IsSplit zero ns
IsSplit (suc k) [] = ⊥
IsSplit (suc k) (n ∷ ns) = (n ≡ []) × IsSplit k ns

insert-empty : (k : ℕ) (ns : List (List ℕ)) → IsSplit k ns → IsSplit (suc k) (insert_name [] ns)
insert-empty zero [] h = (refl, tt)
insert-empty zero ([] ∷ ns) h = absurd (true≢false (sym h.0))
insert-empty zero ((o ∷ os) ∷ ns) h = (refl, h)
insert-empty (suc k) [] h = absurd h
insert-empty (suc k) ([] ∷ ns) h = (refl, insert-empty k ns h.1)
insert-empty (suc k) ((o ∷ os) ∷ ns) h = absurd cc

insert-some : (o : ℕ) (os : List ℕ) (k : ℕ) (ns : List (List ℕ)) → IsSplit k ns → IsSplit k (insert_name (o ∷ os) ns)
insert-some o os zero [] h = (refl, tt)
insert-some o os zero (n ∷ ns) h = by (is_below (o ∷ os) n) (insert-some o os zero ns h.1)
  where
    by : (t : Bool) → IsSplit zero (insert_name (o ∷ os) ns) → IsSplit zero (if t then (o ∷ os) ∷ n ∷ ns else n ∷ insert_name (o ∷ os) ns)
    by true go = (refl, h)
    by false go = (h.0, go)
insert-some o os (suc k) [] h = absurd h
insert-some o os (suc k) ([] ∷ ns) h = (refl, insert-some o os k ns h.1)
insert-some o os (suc k) ((p ∷ ps) ∷ ns) h = absurd cc

abbrev pub empties : List (List ℕ) → ℕ
empties [] = 0
empties ([] ∷ ns) = suc (empties ns)
empties ((o ∷ os) ∷ ns) = empties ns

split : (ns : List (List ℕ)) → IsSplit (empties ns) (sorted ns)
split [] = tt
split ([] ∷ ns) = insert-empty (empties ns) (sorted ns) (split ns)
split ((o ∷ os) ∷ ns) = insert-some o os (empties ns) (sorted ns) (split ns)

abbrev front : ℕ → List (List ℕ)
front zero = []
front (suc k) = [] ∷ front k

parted : (k : ℕ) (ns : List (List ℕ)) → IsSplit k ns → ns ≡ front k ++ filter (λ n. is_below [] n) ns
parted zero [] h = refl
parted zero (n ∷ ns) h = ap (λ l. n ∷ l) (parted zero ns h.1) ∙ ap (λ t. cond t (n ∷ filter (λ n. is_below [] n) ns) (filter (λ n. is_below [] n) ns)) (sym h.0)
parted (suc k) [] h = absurd h
parted (suc k) ([] ∷ ns) h = ap (λ l. [] ∷ l) (parted k ns h.1)
parted (suc k) ((o ∷ os) ∷ ns) h = absurd cc

pub filter-all : (ns : List (List ℕ)) → filter (λ n. true) ns ≡ ns
filter-all [] = refl
filter-all (n ∷ ns) = ap (λ l. n ∷ l) (filter-all ns)

-- all names, where at most one of them is empty
pub all-names : (ns : List (List ℕ)) (b : Bool) → empties ns ≡ (if b then 1 else 0) → empty_if b ++ names_above ns [] ≡ filter (λ n. true) (sorted ns)
all-names ns b h = by b h ∙ (sym (parted (empties ns) (sorted ns) (split ns)) ∙ sym (filter-all (sorted ns)))
  where
    by : (b : Bool) → empties ns ≡ (if b then 1 else 0) → empty_if b ++ names_above ns [] ≡ front (empties ns) ++ names_above ns []
    by true h = ap (λ k. front k ++ names_above ns []) (sym h)
    by false h = ap (λ k. front k ++ names_above ns []) (sym h)

-- ---- nodes of which no two have the same name

abbrev pub has_name : List ℕ → List ℕ → Node → Bool
has_name domain item n = bytes_eq domain n.domain && bytes_eq item n.item

abbrev nameless : List ℕ → List Node → ℕ
nameless domain [] = 0
nameless domain (n ∷ ns) = if has_name domain [] n then suc (nameless domain ns) else nameless domain ns

empties-nameless : (domain : List ℕ) (ns : List Node) → empties (map (λ (n : Node). n.item) (filter (λ (n : Node). bytes_eq n.domain domain) ns)) ≡ nameless domain ns
empties-nameless domain [] = refl
empties-nameless domain (n ∷ ns) =
    ap (λ t. empties (map (λ (n : Node). n.item) (cond t (n ∷ filter (λ (n : Node). bytes_eq n.domain domain) ns) (filter (λ (n : Node). bytes_eq n.domain domain) ns)))) (turned n.domain domain)
    ∙ by (bytes_eq domain n.domain) n.item (empties-nameless domain ns)
  where
    items : List (List ℕ)
    items = map (λ (n : Node). n.item) (filter (λ (n : Node). bytes_eq n.domain domain) ns)

    named : (t : Bool) → empties (map (λ (n : Node). n.item) (cond t (n ∷ filter (λ (n : Node). bytes_eq n.domain domain) ns) (filter (λ (n : Node). bytes_eq n.domain domain) ns))) ≡ empties (if t then n.item ∷ items else items)
    named true = refl
    named false = refl

    item-by : (i : List ℕ) → empties items ≡ nameless domain ns → empties (i ∷ items) ≡ (if bytes_eq [] i then suc (nameless domain ns) else nameless domain ns)
    item-by [] go = ap suc go
    item-by (o ∷ os) go = go

    either : (t : Bool) (i : List ℕ) → empties items ≡ nameless domain ns → empties (if t then i ∷ items else items) ≡ (if t && bytes_eq [] i then suc (nameless domain ns) else nameless domain ns)
    either true i go = item-by i go
    either false i go = go

    by : (t : Bool) (i : List ℕ) → empties items ≡ nameless domain ns
        → empties (map (λ (n : Node). n.item) (cond (bytes_eq domain n.domain) (n ∷ filter (λ (n : Node). bytes_eq n.domain domain) ns) (filter (λ (n : Node). bytes_eq n.domain domain) ns)))
        ≡ (if bytes_eq domain n.domain && bytes_eq [] n.item then suc (nameless domain ns) else nameless domain ns)
    by t i go = named (bytes_eq domain n.domain) ∙ either (bytes_eq domain n.domain) n.item go

-- no two of them have this name
abbrev AreApart : List ℕ → List Node → Type 0
AreApart domain ns = (j k : ℕ) (x y : Node) → slice_get ns j ≡ Some x → slice_get ns k ≡ Some y → has_name domain [] x ≡ true → has_name domain [] y ≡ true → j ≡ k

none-nameless : (domain : List ℕ) (ns : List Node) → ((k : ℕ) (y : Node) → slice_get ns k ≡ Some y → has_name domain [] y ≡ true → ⊥) → nameless domain ns ≡ 0
none-nameless domain [] h = refl
none-nameless domain (n ∷ ns) h = by (has_name domain [] n) refl (none-nameless domain ns (λ k y. h (suc k) y))
  where
    by : (t : Bool) → has_name domain [] n ≡ t → nameless domain ns ≡ 0 → (if t then suc (nameless domain ns) else nameless domain ns) ≡ 0
    by true is go = absurd (h 0 n refl is)
    by false is go = go

nameless-found : (domain : List ℕ) (ns : List Node) → AreApart domain ns → nameless domain ns ≡ (if is_some (position (has_name domain []) ns) then 1 else 0)
nameless-found domain [] h = refl
nameless-found domain (n ∷ ns) h =
    by (has_name domain [] n) refl (nameless-found domain ns (λ j k x y a b p q. omega (arith, h (suc j) (suc k) x y a b p q)))
    ∙ ap (λ o. if is_some o then 1 else 0) (sym (place-cons (has_name domain []) n ns))
  where
    next : (o : Option ℕ) → is_some (option_map (λ k. k + 1) o) ≡ is_some o
    next None = refl
    next (Some k) = refl

    by : (t : Bool) → has_name domain [] n ≡ t → nameless domain ns ≡ (if is_some (position (has_name domain []) ns) then 1 else 0)
        → (if t then suc (nameless domain ns) else nameless domain ns) ≡ (if is_some (cond t (Some 0) (option_map (λ k. k + 1) (position (has_name domain []) ns))) then 1 else 0)
    by true is go = ap suc (none-nameless domain ns (λ k y there q. omega (arith, h 0 (suc k) n y refl there is q)))
    by false is go = go ∙ ap (λ t. if t then 1 else 0) (sym (next (position (has_name domain []) ns)))

got-below : {X : Type 0} (xs : List X) (n : ℕ) (x : X) → slice_get xs n ≡ Some x → n < length xs
got-below [] n x is = absurd cc
got-below (y ∷ ys) zero x is = omega arith
got-below (y ∷ ys) (suc n) x is = omega (arith, got-below ys n x is)

-- each node is found by its name
abbrev pub AreFound : Node → List Node → Type 0
AreFound none ns = (n : ℕ) → n < length ns → position (has_name (unwrap_or (slice_get ns n) none).domain (unwrap_or (slice_get ns n) none).item) ns ≡ Some n

found-apart : (none : Node) (domain : List ℕ) (ns : List Node) → AreFound none ns → AreApart domain ns
found-apart none domain ns h j k x y a b p q = cc (at j x a p, at k y b q)
  where
    at : (n : ℕ) (z : Node) → slice_get ns n ≡ Some z → has_name domain [] z ≡ true → position (has_name domain []) ns ≡ Some n
    at n z is named =
        let same : unwrap_or (slice_get ns n) none ≡ z = ap (λ o. unwrap_or o none) is in
        let d : domain ≡ z.domain = octets_same domain z.domain (and-left (bytes_eq domain z.domain) (bytes_eq [] z.item) named) in
        let i : [] ≡ z.item = octets_same [] z.item (and-right (bytes_eq domain z.domain) (bytes_eq [] z.item) named) in
        ap (λ e. position (has_name e []) ns) d ∙ (ap (λ e. position (has_name z.domain e) ns) i ∙ (ap (λ (w : Node). position (has_name w.domain w.item) ns) (sym same) ∙ h n (got-below ns n z is)))

pub empty-variables : (none : Node) (domain : List ℕ) (ns : List Node) → AreFound none ns
    → empties (map (λ (n : Node). n.item) (filter (λ (n : Node). bytes_eq n.domain domain) ns)) ≡ (if is_some (position (has_name domain []) ns) then 1 else 0)
empty-variables none domain ns h = empties-nameless domain ns ∙ nameless-found domain ns (found-apart none domain ns h)
