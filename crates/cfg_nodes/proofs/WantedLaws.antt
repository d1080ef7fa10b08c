-- What is asked for is found among the nodes without parts that are wanted as it is among all.
use Rattle.std.proofs.Common.{◌≡◌, ℕ, zero, suc, ◌<◌, ◌≤◌, ◌==◌, ◌⊎◌, inl, inr, Bool, true, false, cond, ◌||◌, List, [], ◌∷◌, ◌++◌, map, length, take, get_or, fold, Some, refl, sym, ap, ap₂, ◌∙◌, arith}
use Rattle.std.specs.Prelude.{slice_index}
use Rattle.std.specs.List.{list_any}
use Rattle.std.specs.Str.{bytes_eq}
use Rattle.std.proofs.lemmas.Bool.{or_cases, or_right, cond_both, eqb-true}
use Rattle.std.proofs.lemmas.List.{length-take-le, get_or-take, take-take}
use Rattle.std.proofs.lemmas.Slice.Eq.{bytes_eq-Decides}
use Rattle.list_laws.proofs.Among.{Each}
use Rattle.cfg_lines.specs.declared.leaf.Leaf.{Leaf}
use Rattle.cfg_lines.specs.Keys.{is_among, added}
use Rattle.cfg_lines.specs.Paths.{above, above_within}
use Rattle.cfg_lines.specs.Sizes.{edges_within, with_edge, with_name, children, leaf_octets}
use Rattle.cfg_lines.specs.Nodes.{reaches}
use Rattle.cfg_lines.proofs.KeyLaws.{any-among}
use Rattle.cfg_lines.proofs.PathLaws.{above-found}
use Rattle.cfg_nodes.specs.Asked.{is_wanted, wanted}
use Rattle.list_laws.proofs.Truths.{or-right, fails-back as fails, or-left}

abbrev Names : Type 0
Names = List (List ℕ)

abbrev names_of : List Leaf → Names
names_of leaves = map (λ leaf. leaf.name) leaves

-- ---- what is above what is above a path

-- the first octets of a path have the same structures above them
above-first : (n i : ℕ) (path : List ℕ) → n ≤ i → above_within n (take i path) ≡ above_within n path
above-first zero i path le = refl
above-first (suc n) i path le =
    ap₂ (λ octet front. cond (octet == 36) (front ∷ above_within n (take i path)) (above_within n (take i path))) (get_or-take i path n 0 (omega (arith, le))) (take-take n i path (omega (arith, le)))
    ∙ ap (λ fronts. cond (slice_index path n == 36) (take n path ∷ fronts) fronts) (above-first n i path (omega (arith, le)))

above-front : (i : ℕ) (path : List ℕ) → i ≤ length path → above (take i path) ≡ above_within i path
above-front i path le = ap (λ n. above_within n (take i path)) (length-take-le i path le) ∙ above-first i i path (omega arith)

-- a test that a structure above one of those passes
above-further : (p : List ℕ → Bool) (node path : List ℕ) (n : ℕ) → n ≤ length path → is_among (above_within n path) node ≡ true → list_any p (above node) ≡ true → list_any p (above_within n path) ≡ true
above-further p node path zero le is passes = absurd cc
above-further p node path (suc n) le is passes = by (slice_index path n == 36) is (λ rest. above-further p node path n (omega (arith, le)) rest passes)
  where
    either : (bytes_eq node (take n path) ≡ true) ⊎ (is_among (above_within n path) node ≡ true) → (is_among (above_within n path) node ≡ true → list_any p (above_within n path) ≡ true) → list_any p (above_within n path) ≡ true
    either (inl here) go = sym (ap (λ front. list_any p (above front)) ((bytes_eq-Decides node (take n path)).0 here) ∙ ap (list_any p) (above-front n path (omega (arith, le)))) ∙ passes
    either (inr rest) go = go rest

    by : (b : Bool) → is_among (cond b (take n path ∷ above_within n path) (above_within n path)) node ≡ true → (is_among (above_within n path) node ≡ true → list_any p (above_within n path) ≡ true)
        → list_any p (cond b (take n path ∷ above_within n path) (above_within n path)) ≡ true
    by true is go = or_right (p (take n path)) _ (either (or_cases _ _ is) go)
    by false is go = go is

-- what lies below what is wanted is wanted
pub wanted-below : (refs : Names) (node name : List ℕ) → is_among (above name) node ≡ true → is_wanted refs node ≡ true → is_wanted refs name ≡ true
wanted-below refs node name is wants = or_right (is_among refs name) _ (by (or_cases _ _ wants))
  where
    by : (is_among refs node ≡ true) ⊎ (list_any (λ front. is_among refs front) (above node) ≡ true) → list_any (λ front. is_among refs front) (above name) ≡ true
    by (inl here) = any-among (λ front. is_among refs front) (above name) node is here
    by (inr further) = above-further (λ front. is_among refs front) node name (length name) (omega arith) is further

-- ---- what isn't wanted is nowhere above or at what is

edges-apart : (node path : List ℕ) (n : ℕ) (part : List ℕ) (parts : Names) → is_among (above_within n path) node ≡ false → fold (with_edge node) parts (edges_within n part path) ≡ parts
edges-apart node path zero part parts off = refl
edges-apart node path (suc n) part parts off = by (slice_index path n == 36) off (edges-apart node path n (take n path)) (edges-apart node path n part)
  where
    by : (b : Bool) → is_among (cond b (take n path ∷ above_within n path) (above_within n path)) node ≡ false
        → ((ps : Names) → is_among (above_within n path) node ≡ false → fold (with_edge node) ps (edges_within n (take n path) path) ≡ ps)
        → ((ps : Names) → is_among (above_within n path) node ≡ false → fold (with_edge node) ps (edges_within n part path) ≡ ps)
        → fold (with_edge node) parts (cond b ((take n path, part) ∷ edges_within n (take n path) path) (edges_within n part path)) ≡ parts
    by true off here rest = ap (λ b. fold (with_edge node) (cond b (added parts part) parts) (edges_within n (take n path) path)) (or-left (bytes_eq node (take n path)) _ off)
        ∙ here parts (or-right (bytes_eq node (take n path)) _ off)
    by false off here rest = rest parts off

module _ (refs : Names) (node : List ℕ) (wants : is_wanted refs node ≡ true) where
  same-wanted : (name : List ℕ) → bytes_eq node name ≡ true → is_wanted refs name ≡ true
  same-wanted name is = sym (ap (is_wanted refs) ((bytes_eq-Decides node name).0 is)) ∙ wants

  reached-wanted : (name : List ℕ) → (bytes_eq node name || is_among (above name) node) ≡ true → is_wanted refs name ≡ true
  reached-wanted name is = by (or_cases _ _ is)
    where
      by : (bytes_eq node name ≡ true) ⊎ (is_among (above name) node ≡ true) → is_wanted refs name ≡ true
      by (inl here) = same-wanted name here
      by (inr higher) = wanted-below refs node name higher wants

  pub octets-wanted : (leaves : List Leaf) → leaf_octets (wanted refs leaves) node ≡ leaf_octets leaves node
  octets-wanted [] = refl
  octets-wanted (leaf ∷ leaves) = by (is_wanted refs leaf.name) refl (octets-wanted leaves)
    where
      by : (b : Bool) → is_wanted refs leaf.name ≡ b → leaf_octets (wanted refs leaves) node ≡ leaf_octets leaves node
          → leaf_octets (cond b (leaf ∷ wanted refs leaves) (wanted refs leaves)) node ≡ cond (bytes_eq node leaf.name) (Some leaf.octets) (leaf_octets leaves node)
      by true e same = ap (cond (bytes_eq node leaf.name) (Some leaf.octets)) same
      by false e same = same ∙ sym (ap (λ b. cond b (Some leaf.octets) (leaf_octets leaves node)) (fails (bytes_eq node leaf.name) _ (same-wanted leaf.name) e))

  pub reaches-wanted : (leaves : List Leaf) → reaches (names_of (wanted refs leaves)) node ≡ reaches (names_of leaves) node
  reaches-wanted [] = refl
  reaches-wanted (leaf ∷ leaves) = by (is_wanted refs leaf.name) refl (reaches-wanted leaves)
    where
      by : (b : Bool) → is_wanted refs leaf.name ≡ b → reaches (names_of (wanted refs leaves)) node ≡ reaches (names_of leaves) node
          → reaches (names_of (cond b (leaf ∷ wanted refs leaves) (wanted refs leaves))) node ≡ ((bytes_eq node leaf.name || is_among (above leaf.name) node) || reaches (names_of leaves) node)
      by true e same = ap (λ b. (bytes_eq node leaf.name || is_among (above leaf.name) node) || b) same
      by false e same = same ∙ sym (ap (λ b. b || reaches (names_of leaves) node) (fails (bytes_eq node leaf.name || is_among (above leaf.name) node) _ (reached-wanted leaf.name) e))

  parts-wanted : (leaves : List Leaf) (parts : Names) → fold (with_name node) parts (names_of (wanted refs leaves)) ≡ fold (with_name node) parts (names_of leaves)
  parts-wanted [] parts = refl
  parts-wanted (leaf ∷ leaves) parts = by (is_wanted refs leaf.name) refl (parts-wanted leaves)
    where
      by : (b : Bool) → is_wanted refs leaf.name ≡ b → ((ps : Names) → fold (with_name node) ps (names_of (wanted refs leaves)) ≡ fold (with_name node) ps (names_of leaves))
          → fold (with_name node) parts (names_of (cond b (leaf ∷ wanted refs leaves) (wanted refs leaves))) ≡ fold (with_name node) (with_name node parts leaf.name) (names_of leaves)
      by true e same = same (with_name node parts leaf.name)
      by false e same = same parts ∙ sym (ap (λ ps. fold (with_name node) ps (names_of leaves))
          (edges-apart node leaf.name (length leaf.name) leaf.name parts (fails (is_among (above leaf.name) node) _ (λ higher. wanted-below refs node leaf.name higher wants) e)))

  pub children-wanted : (leaves : List Leaf) → children (names_of (wanted refs leaves)) node ≡ children (names_of leaves) node
  children-wanted leaves = parts-wanted leaves []

-- ---- the parts of a node have it above them
abbrev Lies : List ℕ → List ℕ → Type 0
Lies node part = is_among (above part) node ≡ true

each-last : (P : List ℕ → Type 0) (parts : Names) (part : List ℕ) → Each P parts → P part → Each P (parts ++ part ∷ [])
each-last P [] part all is = (is, tt)
each-last P (p ∷ parts) part all is = (all.0, each-last P parts part all.1 is)

edge-lies : (node front part : List ℕ) (parts : Names) → Lies front part → Each (Lies node) parts → Each (Lies node) (with_edge node parts (front, part))
edge-lies node front part parts is all = cond_both (bytes_eq node front) (added parts part) parts (Each (Lies node))
    (λ e. cond_both (is_among parts part) parts (parts ++ part ∷ []) (Each (Lies node)) (λ there. all)
    (λ there. each-last (Lies node) parts part all (ap (is_among (above part)) ((bytes_eq-Decides node front).0 e) ∙ is)))
    (λ e. all)

edges-lie : (node path : List ℕ) (n : ℕ) (part : List ℕ) (parts : Names) → n ≤ length path → ((i : ℕ) → i < n → get_or path i 0 ≡ 36 → Lies (take i path) part)
    → Each (Lies node) parts → Each (Lies node) (fold (with_edge node) parts (edges_within n part path))
edges-lie node path zero part parts le lies all = all
edges-lie node path (suc n) part parts le lies all = by (slice_index path n == 36) refl
    (λ ps. edges-lie node path n (take n path) ps (omega (arith, le)) fronts) (edges-lie node path n part parts (omega (arith, le)) (λ i lt is. lies i (omega (arith, lt)) is) all)
  where
    fronts : (i : ℕ) → i < n → get_or path i 0 ≡ 36 → Lies (take i path) (take n path)
    fronts i lt is = ap (λ names. is_among names (take i path)) (above-front n path (omega (arith, le)))
        ∙ above-found (bytes_eq (take i path)) path n i lt is ((bytes_eq-Decides (take i path) (take i path)).1 refl)

    by : (b : Bool) → (slice_index path n == 36) ≡ b → ((ps : Names) → Each (Lies node) ps → Each (Lies node) (fold (with_edge node) ps (edges_within n (take n path) path)))
        → Each (Lies node) (fold (with_edge node) parts (edges_within n part path))
        → Each (Lies node) (fold (with_edge node) parts (cond b ((take n path, part) ∷ edges_within n (take n path) path) (edges_within n part path)))
    by true e here rest = here _ (edge-lies node (take n path) part parts (lies n (omega arith) (eqb-true (slice_index path n) 36 e)) all)
    by false e here rest = rest

names-lie : (node : List ℕ) (names parts : Names) → Each (Lies node) parts → Each (Lies node) (fold (with_name node) parts names)
names-lie node [] parts all = all
names-lie node (name ∷ names) parts all = names-lie node names (with_name node parts name) (edges-lie node name (length name) name parts (omega arith)
    (λ i lt is. above-found (bytes_eq (take i name)) name (length name) i lt is ((bytes_eq-Decides (take i name) (take i name)).1 refl)) all)

each-wanted : (refs : Names) (node : List ℕ) → is_wanted refs node ≡ true → (parts : Names) → Each (Lies node) parts → Each (λ part. is_wanted refs part ≡ true) parts
each-wanted refs node wants [] all = tt
each-wanted refs node wants (part ∷ parts) all = (wanted-below refs node part all.0 wants, each-wanted refs node wants parts all.1)

-- the parts of what is wanted are wanted
pub parts-are-wanted : (refs : Names) (node : List ℕ) (names : Names) → is_wanted refs node ≡ true → Each (λ part. is_wanted refs part ≡ true) (children names node)
parts-are-wanted refs node names wants = each-wanted refs node wants (children names node) (names-lie node names [] tt)
