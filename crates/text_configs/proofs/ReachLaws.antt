-- The structures above a reference, and what is directly below a structure.
use Rattle.std.proofs.Common.{◌≡◌, ℕ, zero, suc, ◌+◌, ◌<◌, ◌≤◌, ◌==◌, Bool, true, false, ◌⊎◌, inl, inr, List, [], ◌∷◌, ◌++◌, length, take, drop, fold, refl, sym, ap, subst, ◌∙◌, arith, length-append, append_assoc, append-nil, ◌-◌, true≢false, if◌then◌else◌}
use Rattle.std.specs.Prelude.{slice_index}
use Rattle.std.specs.Str.{bytes_eq}
use Rattle.std.proofs.lemmas.Bool.Decides.{nat_tests, eqb_tells}
use Rattle.std.proofs.lemmas.List.{take_at}
use Rattle.cfg_lines.specs.Keys.{is_among, added}
use Rattle.cfg_lines.specs.Paths.{above_within, above}
use Rattle.cfg_lines.specs.Sizes.{edges_within, edges, with_edge, with_name, children}
use Rattle.list_laws.proofs.Distinct.{octets_same, octets_equal}
use Rattle.list_laws.proofs.Among.{Among, some-passes, passes}
use Rattle.text_configs.proofs.JoinedLaws.{NoDollar}
use Rattle.text_configs.proofs.NamedLaws.{with-old, with-new}

pub index-at : (front : List ℕ) (o : ℕ) (more : List ℕ) → slice_index (front ++ o ∷ more) (length front) ≡ o
index-at [] o more = refl
index-at (x ∷ front) o more = index-at front o more

pub split-index : (path : List ℕ) (k : ℕ) → k < length path → path ≡ take k path ++ slice_index path k ∷ drop (suc k) path
split-index [] k h = absurd (omega (arith, h))
split-index (x ∷ path) zero h = refl
split-index (x ∷ path) (suc k) h = ap (λ l. x ∷ l) (split-index path k (omega (arith, h)))

yes : (x : ℕ) → x ≡ 36 → (x == 36) ≡ true
yes x e = ap (λ y. y == 36) e

-- ---- above

within-has : (n : ℕ) (path : List ℕ) (k : ℕ) → k < n → slice_index path k ≡ 36 → Among (take k path) (above_within n path)
within-has zero path k h is = absurd (omega (arith, h))
within-has (suc n) path k h is = by (slice_index path n == 36) refl (eqb_tells k n) (within-has n path k)
  where
    by : (b : Bool) → (slice_index path n == 36) ≡ b → ((k == n) ≡ true × (k ≡ n)) ⊎ ((k == n) ≡ false × (k ≡ n → ⊥)) → (k < n → slice_index path k ≡ 36 → Among (take k path) (above_within n path))
        → Among (take k path) (if b then take n path ∷ above_within n path else above_within n path)
    by true e (inl s) go = inl (ap (λ m. take m path) s.1)
    by true e (inr s) go = inr (go (omega (arith, h, s.1)) is)
    by false e (inl s) go = absurd (true≢false (sym (yes (slice_index path n) (sym (ap (slice_index path) s.1) ∙ is)) ∙ e))
    by false e (inr s) go = go (omega (arith, h, s.1)) is

pub above-has : (front more : List ℕ) → is_among (above (front ++ 36 ∷ more)) front ≡ true
above-has front more =
    let i : Among (take (length front) (front ++ 36 ∷ more)) (above (front ++ 36 ∷ more)) =
    within-has (length (front ++ 36 ∷ more)) (front ++ 36 ∷ more) (length front) (omega (arith, length-append front (36 ∷ more))) (index-at front 36 more) in
    passes (λ k. bytes_eq front k) front (above (front ++ 36 ∷ more)) (subst (λ l. Among l (above (front ++ 36 ∷ more))) (take_at front (36 ∷ more) (length front) refl) i) (octets_equal front front refl)

pub record IsAbove (path node : List ℕ) : Type 0 where
  pub more : List ℕ
  pub is : path ≡ node ++ 36 ∷ more

within-back : (n : ℕ) (path node : List ℕ) → n ≤ length path → Among node (above_within n path) → IsAbove path node
within-back zero path node h i = absurd i
within-back (suc n) path node h i = by (slice_index path n == 36) refl i (within-back n path node (omega (arith, h)))
  where
    here : (slice_index path n == 36) ≡ true → node ≡ take n path → IsAbove path node
    here e is = record { more = drop (suc n) path; is = split-index path n (omega (arith, h)) ∙ (ap (λ o. take n path ++ o ∷ drop (suc n) path) (number (slice_index path n) e) ∙ ap (λ l. l ++ 36 ∷ drop (suc n) path) (sym is)) }
      where
        number : (x : ℕ) → (x == 36) ≡ true → x ≡ 36
        number x e = grind (arith, nat_tests)

    by : (b : Bool) → (slice_index path n == 36) ≡ b → Among node (if b then take n path ∷ above_within n path else above_within n path) → (Among node (above_within n path) → IsAbove path node) → IsAbove path node
    by true e (inl is) go = here e is
    by true e (inr j) go = go j
    by false e j go = go j

pub above-back : (path node : List ℕ) → is_among (above path) node ≡ true → IsAbove path node
above-back path node h = let s = some-passes (λ k. bytes_eq node k) (above path) h in
    subst (IsAbove path) (sym (octets_same node s.0 s.2)) (within-back (length path) path s.0 (omega arith) s.1)

-- ---- directly below

-- a `$` at f, and none after it up to l
pub record IsSpan (path : List ℕ) (f l : ℕ) : Type 0 where
  pub order : f < l
  pub dollar : slice_index path f ≡ 36
  pub between : (k : ℕ) → f < k → k < l → (slice_index path k == 36) ≡ false

edge-short : (n : ℕ) (part path : List ℕ) (f l : ℕ) → f < n → n ≤ l → IsSpan path f l → Among (take f path, part) (edges_within n part path)
edge-short zero part path f l h k s = absurd (omega (arith, h))
edge-short (suc n) part path f l h k s = by (slice_index path n == 36) refl (eqb_tells f n) (λ g. edge-short n part path f l g (omega (arith, k)) s)
  where
    by : (b : Bool) → (slice_index path n == 36) ≡ b → ((f == n) ≡ true × (f ≡ n)) ⊎ ((f == n) ≡ false × (f ≡ n → ⊥)) → (f < n → Among (take f path, part) (edges_within n part path))
        → Among (take f path, part) (if b then (take n path, part) ∷ edges_within n (take n path) path else edges_within n part path)
    by true e (inl t) go = inl (ap (λ m. (take m path, part)) t.1)
    by true e (inr t) go = absurd (true≢false (sym e ∙ s.between n (omega (arith, h, t.1)) (omega (arith, k))))
    by false e (inl t) go = absurd (true≢false (sym (yes (slice_index path n) (sym (ap (slice_index path) t.1) ∙ s.dollar)) ∙ e))
    by false e (inr t) go = go (omega (arith, h, t.1))

edge-long : (n : ℕ) (part path : List ℕ) (f l : ℕ) → l < n → slice_index path l ≡ 36 → IsSpan path f l → Among (take f path, take l path) (edges_within n part path)
edge-long zero part path f l h d s = absurd (omega (arith, h))
edge-long (suc n) part path f l h d s = by (slice_index path n == 36) refl (eqb_tells l n) (λ p g. edge-long n p path f l g d s)
  where
    by : (b : Bool) → (slice_index path n == 36) ≡ b → ((l == n) ≡ true × (l ≡ n)) ⊎ ((l == n) ≡ false × (l ≡ n → ⊥)) → ((p : List ℕ) → l < n → Among (take f path, take l path) (edges_within n p path))
        → Among (take f path, take l path) (if b then (take n path, part) ∷ edges_within n (take n path) path else edges_within n part path)
    by true e (inl t) go = inr (subst (λ m. Among (take f path, take l path) (edges_within m (take m path) path)) t.1 (edge-short l (take l path) path f l s.order (omega arith) s))
    by true e (inr t) go = inr (go (take n path) (omega (arith, h, t.1)))
    by false e (inl t) go = absurd (true≢false (sym (yes (slice_index path n) (sym (ap (slice_index path) t.1) ∙ d)) ∙ e))
    by false e (inr t) go = go part (omega (arith, h, t.1))

no-dollar-at : (name more : List ℕ) (k : ℕ) → NoDollar name → k < length name → (slice_index (name ++ more) k == 36) ≡ false
no-dollar-at [] more k h l = absurd (omega (arith, l))
no-dollar-at (o ∷ name) more zero h l = h.0
no-dollar-at (o ∷ name) more (suc k) h l = no-dollar-at name more k h.1 (omega (arith, l))

index-behind : (front more : List ℕ) (k : ℕ) → slice_index (front ++ more) (length front + k) ≡ slice_index more k
index-behind [] more k = ap (slice_index more) (omega arith)
index-behind (x ∷ front) more k = let next : length (x ∷ front) + k ≡ suc (length front + k) = omega arith in ap (slice_index (x ∷ front ++ more)) next ∙ index-behind front more k

span : (front name more : List ℕ) → NoDollar name → IsSpan (front ++ 36 ∷ (name ++ more)) (length front) (length front + suc (length name))
span front name more h = record {
  order = omega arith;
  dollar = index-at front 36 (name ++ more);
  between = λ k a b. by k (k - suc (length front)) (omega (arith, a)) (omega (arith, a, b));
}
  where
    by : (k j : ℕ) → k ≡ length front + suc j → j < length name → (slice_index (front ++ 36 ∷ (name ++ more)) k == 36) ≡ false
    by k j e l = ap (λ m. slice_index (front ++ 36 ∷ (name ++ more)) m == 36) e ∙ (ap (λ o. o == 36) (index-behind front (36 ∷ (name ++ more)) (suc j)) ∙ no-dollar-at name more j h l)

take-span : (front name more : List ℕ) → take (length front + suc (length name)) (front ++ 36 ∷ (name ++ more)) ≡ front ++ 36 ∷ name
take-span front name more = ap (take (length front + suc (length name))) (sym (append_assoc front (36 ∷ name) more)) ∙ take_at (front ++ 36 ∷ name) more (length front + suc (length name)) (length-append front (36 ∷ name))

edges-alone : (front name : List ℕ) → NoDollar name → Among (front, front ++ 36 ∷ name) (edges (front ++ 36 ∷ name))
edges-alone front name h =
    let path : List ℕ = front ++ 36 ∷ name in
    let same : front ++ 36 ∷ (name ++ []) ≡ path = ap (λ l. front ++ 36 ∷ l) (append-nil name) in
    let s : IsSpan path (length front) (length front + suc (length name)) = subst (λ p. IsSpan p (length front) (length front + suc (length name))) same (span front name [] h) in
    subst (λ f. Among (f, path) (edges path)) (take_at front (36 ∷ name) (length front) refl)
    (edge-short (length path) path path (length front) (length front + suc (length name)) (omega (arith, length-append front (36 ∷ name))) (omega (arith, length-append front (36 ∷ name))) s)

edges-more : (front name more : List ℕ) → NoDollar name → Among (front, front ++ 36 ∷ name) (edges (front ++ 36 ∷ (name ++ 36 ∷ more)))
edges-more front name more h =
    let path : List ℕ = front ++ 36 ∷ (name ++ 36 ∷ more) in
    let l : ℕ = length front + suc (length name) in
    let dollar : slice_index path l ≡ 36 = index-behind front (36 ∷ (name ++ 36 ∷ more)) (suc (length name)) ∙ index-at name 36 more in
    let i : Among (take (length front) path, take l path) (edges path) = edge-long (length path) path path (length front) l (omega (arith, length-append front (36 ∷ (name ++ 36 ∷ more)), length-append name (36 ∷ more))) dollar (span front name (36 ∷ more) h) in
    subst (λ f. Among (f, front ++ 36 ∷ name) (edges path)) (take_at front (36 ∷ (name ++ 36 ∷ more)) (length front) refl) (subst (λ p. Among (take (length front) path, p) (edges path)) (take-span front name (36 ∷ more)) i)

-- ---- children

edge-old : (node x : List ℕ) (parts : List (List ℕ)) (edge : List ℕ × List ℕ) → Among x parts → Among x (with_edge node parts edge)
edge-old node x parts edge i = by (bytes_eq node edge.0)
  where
    by : (b : Bool) → Among x (if b then added parts edge.1 else parts)
    by true = with-old x parts edge.1 i
    by false = i

edges-old : (node x : List ℕ) (es : List (List ℕ × List ℕ)) (parts : List (List ℕ)) → Among x parts → Among x (fold (with_edge node) parts es)
edges-old node x [] parts i = i
edges-old node x (e ∷ es) parts i = edges-old node x es (with_edge node parts e) (edge-old node x parts e i)

edges-new : (node x : List ℕ) (es : List (List ℕ × List ℕ)) (parts : List (List ℕ)) → Among (node, x) es → Among x (fold (with_edge node) parts es)
edges-new node x [] parts i = absurd i
edges-new node x (e ∷ es) parts (inl is) = edges-old node x es (with_edge node parts e) (subst (λ (f : List ℕ × List ℕ). Among x (with_edge node parts f)) is
    (subst (λ b. Among x (if b then added parts x else parts)) (sym (octets_equal node node refl)) (with-new parts x)))
edges-new node x (e ∷ es) parts (inr i) = edges-new node x es (with_edge node parts e) i

names-old : (node x : List ℕ) (names parts : List (List ℕ)) → Among x parts → Among x (fold (with_name node) parts names)
names-old node x [] parts i = i
names-old node x (n ∷ ns) parts i = names-old node x ns (with_name node parts n) (edges-old node x (edges n) parts i)

names-new : (node x name : List ℕ) (names parts : List (List ℕ)) → Among name names → Among (node, x) (edges name) → Among x (fold (with_name node) parts names)
names-new node x name [] parts i j = absurd i
names-new node x name (n ∷ ns) parts (inl e) j = names-old node x ns (with_name node parts n) (edges-new node x (edges n) parts (subst (λ m. Among (node, x) (edges m)) e j))
names-new node x name (n ∷ ns) parts (inr i) j = names-new node x name ns (with_name node parts n) i j

-- a name after a front, alone or before others, is directly below the front
pub child-alone : (front name : List ℕ) (names : List (List ℕ)) → NoDollar name → Among (front ++ 36 ∷ name) names → Among (front ++ 36 ∷ name) (children names front)
child-alone front name names h i = names-new front (front ++ 36 ∷ name) (front ++ 36 ∷ name) names [] i (edges-alone front name h)

pub child-more : (front name more : List ℕ) (names : List (List ℕ)) → NoDollar name → Among (front ++ 36 ∷ (name ++ 36 ∷ more)) names → Among (front ++ 36 ∷ name) (children names front)
child-more front name more names h i = names-new front (front ++ 36 ∷ name) (front ++ 36 ∷ (name ++ 36 ∷ more)) names [] i (edges-more front name more h)
