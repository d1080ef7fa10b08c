-- How deep a tree is that grows of names, and where it has a leaf that is withheld.
use Rattle.std.proofs.Common.{◌≡◌, ℕ, zero, suc, ◌+◌, ◌<◌, ◌≤◌, ◌==◌, max, Bool, true, false, not, ◌⊎◌, inl, inr, List, [], ◌∷◌, ◌++◌, length, refl, sym, ap, subst, ◌∙◌, arith, true≢false}
use Rattle.std.specs.Prelude.{Some, unwrap_or, if◌then◌else◌}
use Rattle.std.specs.Option.{option_map}
use Rattle.std.specs.List.{find, list_any}
use Rattle.std.proofs.lemmas.Bool.{ne_eqb}
use Rattle.list_laws.proofs.Among.{Among, some-passes, passes, nil-of}
use Rattle.list_laws.proofs.Truths.{not-true}
use Rattle.bay_model.specs.Generated.{Named}
use Rattle.bay_model.specs.Model as model
use Rattle.bay_model.specs.Model.{Role, Tree, Trees, single, selecting, calling, several}
use Rattle.bay_model.specs.NameTree.{first_name, rest_of, is_itself, below, first_names, role_of, grown}
use Rattle.bay_model.specs.Places.{Place, places, trees, tree_with}
use Rattle.text_configs.proofs.DataLaws.{AreWithin, within-below}
use Rattle.text_configs.proofs.JoinedLaws.{ArePlain, joined, first, rest, joined-some, first-joined, rest-joined}
use Rattle.text_configs.proofs.NamedLaws.{first-of, is-first, below-of, is-below, forest, place_at, deeper, placed}

-- ---- how deep a tree is

abbrev mutual
  pub depth_tree : Tree → ℕ
  depth_tree (model.leaf l) = 1
  depth_tree (model.structure ts) = 1 + depth_trees ts

  pub depth_trees : Trees → ℕ
  depth_trees model.none = 0
  depth_trees (model.more t ts) = max (depth_tree t) (depth_trees ts)

pub with-depth : (r : Role) (ts : Trees) → depth_tree (tree_with r ts) ≤ 1 + depth_trees ts
with-depth (single l) model.none = omega arith
with-depth (single l) (model.more t ts) = omega arith
with-depth (selecting k) model.none = omega arith
with-depth (selecting k) (model.more t ts) = omega arith
with-depth (calling k j) ts = omega arith
with-depth several ts = omega arith

-- an item of so many names at most
pub record HasNames (m : ℕ) (item : List ℕ) : Type 0 where
  pub names : List (List ℕ)
  pub plain : ArePlain names
  pub is : item ≡ joined names
  pub few : length names ≤ m

abbrev pub AreFew : ℕ → List Named → Type 0
AreFew m ns = (n : Named) → Among n ns → HasNames m n.item

empty-itself : (n : Named) → n.item ≡ [] → is_itself n ≡ true
empty-itself n is = ap (λ (i : List ℕ). length i == 0) is

-- what is more than the name itself has a name
longer-some : (m : ℕ) (n : Named) → is_itself n ≡ false → HasNames m n.item → 1 ≤ m
longer-some m n longer h = by h.names h.is h.few
  where
    by : (names : List (List ℕ)) → n.item ≡ joined names → length names ≤ m → 1 ≤ m
    by [] is few = absurd (true≢false (sym (empty-itself n is) ∙ longer))
    by (a ∷ names) is few = omega (arith, few)

pub rest-few : (m : ℕ) (n : Named) → is_itself n ≡ false → HasNames (suc m) n.item → HasNames m (rest_of n).item
rest-few m n longer h = by h.names h.plain h.is h.few
  where
    by : (names : List (List ℕ)) → ArePlain names → n.item ≡ joined names → length names ≤ suc m → HasNames m (rest_of n).item
    by [] plain is few = absurd (true≢false (sym (empty-itself n is) ∙ longer))
    by (a ∷ names) plain is few = record { names = names; plain = plain.1; is = ap (λ i. rest i) is ∙ rest-joined a names plain.0.1; few = omega (arith, few) }

pub few-below : (m : ℕ) (ns : List Named) (f : List ℕ) → AreFew (suc m) ns → AreFew m (below f ns)
few-below m ns f h q i =
    let o = below-of ns f q i in
    subst (λ (x : Named). HasNames m x.item) (sym o.1.left) (rest-few m o.0 o.1.longer (h o.0 o.1.there))

side-depth : (m l : ℕ) (ns : List Named) (names : List (List ℕ)) → ((f : List ℕ) → Among f names → 1 + depth_trees (trees (grown l (below f ns))) ≤ m) → depth_trees (trees (forest l ns names)) ≤ m
side-depth m l ns [] h = omega arith
side-depth m l ns (f ∷ fs) h =
    let one = h f (inl refl) in
    let more = side-depth m l ns fs (λ g i. h g (inr i)) in
    omega (arith, one, more, with-depth (role_of (below f ns)) (trees (grown l (below f ns))))

pub forest-depth : (l m : ℕ) (ns : List Named) → AreFew m ns → depth_trees (trees (grown l ns)) ≤ m
forest-depth zero m ns h = omega arith
forest-depth (suc l) m ns h = side-depth m l ns (first_names ns) (λ f i. let n = first-of ns f i in by m f h (longer-some m n.0 n.1.longer (h n.0 n.1.there)) (λ k few. forest-depth l k (below f ns) few))
  where
    by : (m : ℕ) (f : List ℕ) → AreFew m ns → 1 ≤ m → ((k : ℕ) → AreFew k (below f ns) → depth_trees (trees (grown l (below f ns))) ≤ k) → 1 + depth_trees (trees (grown l (below f ns))) ≤ m
    by zero f h some go = absurd (omega (arith, some))
    by (suc k) f h some go = omega (arith, go k (few-below k ns f h))

at-depth : (l m : ℕ) (ns : List Named) (before : List ℕ) (p : Place) (f : List ℕ) → AreFew m ns → 1 ≤ m → (p ≡ place_at before l ns f) ⊎ Among p (deeper before l ns f)
    → ((k : ℕ) → AreFew k (below f ns) → Among p (deeper before l ns f) → depth_tree p.tree ≤ k) → depth_tree p.tree ≤ m
at-depth l zero ns before p f h some at go = absurd (omega (arith, some))
at-depth l (suc k) ns before p f h some (inl e) go = omega (arith, ap (λ (q : Place). depth_tree q.tree) e, with-depth (role_of (below f ns)) (trees (grown l (below f ns))), forest-depth l k (below f ns) (few-below k ns f h))
at-depth l (suc k) ns before p f h some (inr j) go = omega (arith, go k (few-below k ns f h) j)

-- a place in a tree
pub place-depth : (l m : ℕ) (ns : List Named) (before : List ℕ) (p : Place) → AreFew m ns → Among p (places before (grown (suc l) ns)) → depth_tree p.tree ≤ m
place-depth zero m ns before p h i =
    let s = placed before zero ns p i in
    let n = first-of ns s.0 s.1.name in
    at-depth zero m ns before p s.0 h (longer-some m n.0 n.1.longer (h n.0 n.1.there)) s.1.at (λ k few j. absurd j)
place-depth (suc l) m ns before p h i =
    let s = placed before (suc l) ns p i in
    let n = first-of ns s.0 s.1.name in
    at-depth (suc l) m ns before p s.0 h (longer-some m n.0 n.1.longer (h n.0 n.1.there)) s.1.at (λ k few j. place-depth l k (below s.0 ns) (before ++ s.0 ++ 36 ∷ []) p few j)

-- ---- a leaf that is withheld

abbrev mutual
  pub HasWithheld : Tree → Type 0
  HasWithheld (model.leaf model.withheld) = Unit {0}
  HasWithheld (model.leaf _) = ⊥
  HasWithheld (model.structure ts) = HaveWithheld ts

  pub HaveWithheld : Trees → Type 0
  HaveWithheld model.none = ⊥
  HaveWithheld (model.more t ts) = HasWithheld t ⊎ HaveWithheld ts

pub with-withheld : (r : Role) (ts : Trees) → HaveWithheld ts → HasWithheld (tree_with r ts)
with-withheld r model.none h = absurd h
with-withheld (single l) (model.more t ts) h = h
with-withheld (selecting k) (model.more t ts) h = h
with-withheld (calling k j) (model.more t ts) h = h
with-withheld several (model.more t ts) h = h

abbrev pub IsEnd : Role → Type 0
IsEnd (single model.withheld) = Unit {0}
IsEnd (selecting k) = Unit {0}
IsEnd _ = ⊥

end-withheld : (r : Role) (ts : Trees) → IsEnd r → ts ≡ model.none → HasWithheld (tree_with r ts)
end-withheld (single model.withheld) ts h is = subst (λ t. HasWithheld (tree_with (single model.withheld) t)) (sym is) tt
end-withheld (selecting k) ts h is = subst (λ t. HasWithheld (tree_with (selecting k) t)) (sym is) tt
end-withheld (single (model.attribute x)) ts h is = absurd h
end-withheld (single (model.component b k)) ts h is = absurd h
end-withheld (single (model.setting d k)) ts h is = absurd h
end-withheld (calling k j) ts h is = absurd h
end-withheld several ts h is = absurd h

-- one stands under the other
pub record IsUnder (n w : Named) : Type 0 where
  pub fore : List (List ℕ)
  pub name : List ℕ
  pub behind : List (List ℕ)
  pub plain : ArePlain (fore ++ name ∷ behind)
  pub low : n.item ≡ joined fore
  pub high : w.item ≡ joined (fore ++ name ∷ behind)

-- each ends in a leaf that is withheld, or something stands under it
abbrev pub AreEnding : List Named → Type 0
AreEnding ns = (n : Named) → Among n ns → IsEnd n.role ⊎ ((w : Named) × Among w ns × IsUnder n w)

some-joined : (fore : List (List ℕ)) (name : List ℕ) (behind : List (List ℕ)) → ArePlain (fore ++ name ∷ behind) → 0 < length (joined (fore ++ name ∷ behind))
some-joined [] name behind plain = joined-some name behind plain.0.0
some-joined (a ∷ fore) name behind plain = joined-some a (fore ++ name ∷ behind) plain.0.0

under-longer : (n w : Named) → IsUnder n w → is_itself w ≡ false
under-longer n w u = by (length w.item) (omega (arith, some-joined u.fore u.name u.behind u.plain, ap length u.high))
  where
    by : (k : ℕ) → 0 < k → (k == 0) ≡ false
    by zero h = absurd (omega (arith, h))
    by (suc k) h = ne_eqb (suc k) 0 (λ e. omega (arith, e))

-- below its first name
pub under-below : (ns : List Named) (o w : Named) → is_itself o ≡ false → Among w ns → IsUnder o w → Among (rest_of w) (below (first_name o) ns) × IsUnder (rest_of o) (rest_of w)
under-below ns o w longer i u = by u.fore u.plain u.low u.high
  where
    by : (fore : List (List ℕ)) → ArePlain (fore ++ u.name ∷ u.behind) → o.item ≡ joined fore → w.item ≡ joined (fore ++ u.name ∷ u.behind) → Among (rest_of w) (below (first_name o) ns) × IsUnder (rest_of o) (rest_of w)
    by [] plain low high = absurd (true≢false (sym (empty-itself o low) ∙ longer))
    by (a ∷ fore) plain low high =
        let of_o : first_name o ≡ a = ap first low ∙ first-joined a fore plain.0.1 in
        let of_w : first_name w ≡ a = ap first high ∙ first-joined a (fore ++ u.name ∷ u.behind) plain.0.1 in (
          is-below ns (first_name o) w i (under-longer o w u) (of_o ∙ sym of_w),
          record { fore = fore; name = u.name; behind = u.behind; plain = plain.1; low = ap rest low ∙ rest-joined a fore plain.0.1; high = ap rest high ∙ rest-joined a (fore ++ u.name ∷ u.behind) plain.0.1 },
        )

pub ending-below : (ns : List Named) (f : List ℕ) → AreEnding ns → AreEnding (below f ns)
ending-below ns f h q i =
    let o = below-of ns f q i in by o.0 o.1.there o.1.longer o.1.is o.1.left (h o.0 o.1.there)
  where
    by : (o : Named) → Among o ns → is_itself o ≡ false → f ≡ first_name o → q ≡ rest_of o → IsEnd o.role ⊎ ((w : Named) × Among w ns × IsUnder o w) → IsEnd q.role ⊎ ((w : Named) × Among w (below f ns) × IsUnder q w)
    by o there longer is left (inl e) = inl (subst (λ (x : Named). IsEnd x.role) (sym left) e)
    by o there longer is left (inr (w, j, u)) =
        let b = under-below ns o w longer j u in
        inr (rest_of w, subst (λ g. Among (rest_of w) (below g ns)) (sym is) b.0, subst (λ x. IsUnder x (rest_of w)) (sym left) b.1)

side-withheld : (l : ℕ) (ns : List Named) (names : List (List ℕ)) (f : List ℕ) → Among f names → HasWithheld (tree_with (role_of (below f ns)) (trees (grown l (below f ns)))) → HaveWithheld (trees (forest l ns names))
side-withheld l ns [] f i h = absurd i
side-withheld l ns (g ∷ gs) f (inl e) h = inl (subst (λ x. HasWithheld (tree_with (role_of (below x ns)) (trees (grown l (below x ns))))) e h)
side-withheld l ns (g ∷ gs) f (inr i) h = inr (side-withheld l ns gs f i h)

pub forest-withheld : (l : ℕ) (ns : List Named) (f : List ℕ) → Among f (first_names ns) → HasWithheld (tree_with (role_of (below f ns)) (trees (grown l (below f ns)))) → HaveWithheld (trees (grown (suc l) ns))
forest-withheld l ns f i h = side-withheld l ns (first_names ns) f i h

-- the first of them, where each is the name itself
role-first : (b : Named) (bs : List Named) → is_itself b ≡ true → role_of (b ∷ bs) ≡ b.role
role-first b bs is = ap (λ t. unwrap_or (option_map (λ (n : Named). n.role) (if t then Some b else find is_itself bs)) several) is

no-first : (ns : List Named) → list_any (λ n. not (is_itself n)) ns ≡ false → first_names ns ≡ []
no-first ns h = nil-of (first_names ns) (λ f i. let n = first-of ns f i in true≢false (sym (passes (λ n. not (is_itself n)) n.0 ns n.1.there (ap not n.1.longer)) ∙ h))

all-itself : (ns : List Named) (n : Named) → list_any (λ n. not (is_itself n)) ns ≡ false → Among n ns → is_itself n ≡ true
all-itself ns n h i = by (is_itself n) refl
  where
    by : (t : Bool) → is_itself n ≡ t → t ≡ true
    by true e = refl
    by false e = absurd (true≢false (sym (passes (λ n. not (is_itself n)) n ns i (ap not e)) ∙ h))

pub tree-withheld : (l : ℕ) (ns : List Named) (f : List ℕ) → AreEnding (below f ns) → AreWithin l ns → Among f (first_names ns) → HasWithheld (tree_with (role_of (below f ns)) (trees (grown l (below f ns))))
tree-withheld zero ns f h within i =
    let n = first-of ns f i in absurd (short n.0 (within n.0 n.1.there) n.1.longer)
  where
    short : (n : Named) → length n.item ≤ 0 → is_itself n ≡ false → ⊥
    short n le longer = let none : length n.item ≡ 0 = omega (arith, le) in true≢false (sym (ap (λ k. k == 0) none) ∙ longer)
tree-withheld (suc k) ns f h within i = either (list_any (λ n. not (is_itself n)) (below f ns)) refl
    (λ g j. tree-withheld k (below f ns) g (ending-below (below f ns) g h) (within-below k ns f within) j)
  where
    ends : list_any (λ n. not (is_itself n)) (below f ns) ≡ false → (bs : List Named) → below f ns ≡ bs → (b : Named) → Among b bs → IsEnd (role_of bs)
    ends quiet [] is b j = absurd j
    ends quiet (q ∷ qs) is b j =
        let there : Among q (below f ns) = subst (Among q) (sym is) (inl refl) in
        let own = all-itself (below f ns) q quiet there in
        by (h q there) own
      where
        by : IsEnd q.role ⊎ ((w : Named) × Among w (below f ns) × IsUnder q w) → is_itself q ≡ true → IsEnd (role_of (q ∷ qs))
        by (inl e) own = subst IsEnd (sym (role-first q qs own)) e
        by (inr (w, m, u)) own = absurd (true≢false (sym (all-itself (below f ns) w quiet m) ∙ under-longer q w u))

    either : (t : Bool) → list_any (λ n. not (is_itself n)) (below f ns) ≡ t
        → ((g : List ℕ) → Among g (first_names (below f ns)) → HasWithheld (tree_with (role_of (below g (below f ns))) (trees (grown k (below g (below f ns))))))
        → HasWithheld (tree_with (role_of (below f ns)) (trees (grown (suc k) (below f ns))))
    either true is go =
        let b = some-passes (λ n. not (is_itself n)) (below f ns) is in
        let g = is-first (below f ns) b.0 b.1 (not-true (is_itself b.0) b.2) in
        with-withheld (role_of (below f ns)) (trees (grown (suc k) (below f ns))) (forest-withheld k (below f ns) (first_name b.0) g (go (first_name b.0) g))
    either false is go =
        let n = first-of ns f i in
        let b = is-below ns f n.0 n.1.there n.1.longer n.1.is in
        end-withheld (role_of (below f ns)) (trees (grown (suc k) (below f ns))) (ends is (below f ns) refl (rest_of n.0) b) (ap (λ names. trees (forest k (below f ns) names)) (no-first (below f ns) is))

pub place-withheld : (l : ℕ) (ns : List Named) (before : List ℕ) (p : Place) → AreEnding ns → AreWithin l ns → Among p (places before (grown (suc l) ns)) → HasWithheld p.tree
place-withheld zero ns before p h within i =
    let s = placed before zero ns p i in by s.0 s.1.name s.1.at
  where
    by : (f : List ℕ) → Among f (first_names ns) → (p ≡ place_at before zero ns f) ⊎ Among p (deeper before zero ns f) → HasWithheld p.tree
    by f name (inl e) = subst (λ (q : Place). HasWithheld q.tree) (sym e) (tree-withheld zero ns f (ending-below ns f h) within name)
    by f name (inr j) = absurd j
place-withheld (suc k) ns before p h within i =
    let s = placed before (suc k) ns p i in by s.0 s.1.name s.1.at (λ j. place-withheld k (below s.0 ns) (before ++ s.0 ++ 36 ∷ []) p (ending-below ns s.0 h) (within-below k ns s.0 within) j)
  where
    by : (f : List ℕ) → Among f (first_names ns) → (p ≡ place_at before (suc k) ns f) ⊎ Among p (deeper before (suc k) ns f) → (Among p (deeper before (suc k) ns f) → HasWithheld p.tree) → HasWithheld p.tree
    by f name (inl e) go = subst (λ (q : Place). HasWithheld q.tree) (sym e) (tree-withheld (suc k) ns f (ending-below ns f h) within name)
    by f name (inr j) go = go j
