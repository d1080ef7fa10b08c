-- What is counted for a reference is the largest Data of what is named at it and below it.
use Rattle.std.proofs.Common.{◌≡◌, ℕ, zero, suc, ◌<◌, ◌≤◌, ◌==◌, ◌⊎◌, inl, inr, true, false, List, [], ◌∷◌, ◌++◌, map, length, Option, Some, unwrap_or, refl, sym, ap, subst, ◌∙◌, append_assoc, arith, true≢false, if◌then◌else◌}
use Rattle.std.specs.List.{sum_by}
use Rattle.std.specs.Option.{option_map}
use Rattle.std.proofs.lemmas.List.{append_cancel_left}
use Rattle.std.proofs.lemmas.List.Sums.{sum_by-cons}
use Rattle.list_laws.proofs.Among.{Among, mapped, source, nil-of, tails}
use Rattle.list_laws.proofs.Distinct.{differ, differ-map, octets_equal}
use Rattle.list_laws.proofs.Sums.{sum-among}
use Rattle.sv_base.specs.Types.{Fields, no_field, field}
use Rattle.sv_base.specs.declared.types.TypeOf.{TypeOf}
use Rattle.sv_base.specs.declared.types.TypeOf.TheVariants as types
use Rattle.bay_model.specs.Generated.{Named}
use Rattle.bay_model.specs.NameTree.{Forest, nothing, named, first_name, rest_of, is_itself, below, first_names, role_of, own_type, side_by_side, grown}
use Rattle.bay_model.specs.Places.{type_with, fields, headed, largest, largest_fields}
use Rattle.name_tree.proofs.GroupLaws.{distinct}
use Rattle.cfg_lines.specs.Sizes.{element_octets, leaf_octets, children, octets_of}
use Rattle.cfg_lines.specs.declared.leaf.Leaf.{Leaf}
use Rattle.text_configs.proofs.JoinedLaws.{NoDollar, IsPlain, ArePlain, joined, first, rest, first-joined, rest-joined, joined-some, first-alone, first-before, rest-before, rest-alone}
use Rattle.text_configs.proofs.NamedLaws.{first-of, is-first, below-of, is-below}
use Rattle.text_configs.proofs.ReachLaws.{child-alone, child-more}
use Rattle.text_configs.proofs.CountLaws.{octets-leaf, octets-node, lookup-found, lookup-none}
use Rattle.name_trees.proofs.FrontLaws.{IsFront}
use Rattle.name_trees.proofs.EdgeLaws.{child-of, distinct-children}
use Rattle.name_trees.proofs.SubLaws.{not-empty, AreWithin, within-one, sub-one, IsEnd, IsOpen, ends-or-not}

-- ---- the octets of a leaf, and that there is none

largest-composed : (fs : Fields) → largest (type_with (types.Struct no_field) fs) ≡ headed (largest_fields fs)
largest-composed no_field = refl
largest-composed (field name s fs) = refl

headed-is : (n m : ℕ) → n ≡ m → headed n ≡ element_octets m
headed-is n m e = ap headed e ∙ omega arith

-- the reference of the names of a path below another
abbrev pub reference : List ℕ → List (List ℕ) → List ℕ
reference r [] = r
reference r (name ∷ names) = r ++ 36 ∷ joined (name ∷ names)

reference-next : (r name : List ℕ) (names : List (List ℕ)) → reference r (name ∷ names) ≡ reference (r ++ 36 ∷ name) names
reference-next r name [] = refl
reference-next r name (n ∷ names) = sym (append_assoc r (36 ∷ name) (36 ∷ joined (n ∷ names)))

-- leaves, each counted once, none above another
module _ (all : List Leaf) (same : (a b : Leaf) → Among a all → Among b all → a.name ≡ b.name → a.octets ≡ b.octets) (apart : (a b : Leaf) (more : List ℕ) → Among a all → Among b all → b.name ≡ a.name ++ 36 ∷ more → ⊥) where
  abbrev names : List (List ℕ)
  names = map (λ (leaf : Leaf). leaf.name) all

  abbrev pub counted : ℕ → List ℕ → ℕ
  counted depth r = octets_of depth (leaf_octets all) (children names) r

  -- what is named is a leaf
  pub record IsKnown (r : List ℕ) (depth : ℕ) (m : Named) : Type 0 where
    pub leaf : Leaf
    pub there : Among leaf all
    pub octets : leaf.octets ≡ largest m.kind
    pub path : List (List ℕ)
    pub plain : ArePlain path
    pub short : length path ≤ depth
    pub item : m.item ≡ joined path
    pub name : leaf.name ≡ reference r path

  -- what is named below a reference is the leaves there
  pub record AreLeaves (r : List ℕ) (depth : ℕ) (sub : List Named) : Type 0 where
    pub known : (m : Named) → Among m sub → IsKnown r depth m
    pub ends : (a : Leaf) → Among a all → a.name ≡ r → (m : Named) × Among m sub × (m.item ≡ [])
    pub goes : (a : Leaf) (x : List ℕ) → Among a all → a.name ≡ r ++ 36 ∷ x → (m : Named) × Among m sub × (m.item ≡ x)

  -- the path of one that isn't itself
  pub record IsLonger (m : Named) (path : List (List ℕ)) : Type 0 where
    pub name : List ℕ
    pub more : List (List ℕ)
    pub is : path ≡ name ∷ more
    pub plain : IsPlain name
    pub first : first_name m ≡ name
    pub left : rest m.item ≡ joined more

  longer-path : (m : Named) (path : List (List ℕ)) → is_itself m ≡ false → ArePlain path → m.item ≡ joined path → IsLonger m path
  longer-path m [] e plain is = absurd (true≢false (sym (ap (λ x. length x == 0) is) ∙ e))
  longer-path m (n ∷ ns) e plain is = record { name = n; more = ns; is = refl; plain = plain.0; first = ap first is ∙ first-joined n ns plain.0.1; left = ap rest is ∙ rest-joined n ns plain.0.1 }

  -- a first name, with a leaf below it
  pub record IsFirstLeaf (r : List ℕ) (depth : ℕ) (sub : List Named) (f : List ℕ) : Type 0 where
    pub name : Named
    pub there : Among name sub
    pub known : IsKnown r depth name
    pub more : List (List ℕ)
    pub path : known.path ≡ f ∷ more
    pub plain : IsPlain f

  first-leaf : (r : List ℕ) (depth : ℕ) (sub : List Named) (f : List ℕ) → AreLeaves r depth sub → Among f (first_names sub) → IsFirstLeaf r depth sub f
  first-leaf r depth sub f h i =
      let n = first-of sub f i in
      let k = h.known n.0 n.1.there in
      let l = longer-path n.0 k.path n.1.longer k.plain k.item in
      let e : f ≡ l.name = n.1.is ∙ l.first in
      record { name = n.0; there = n.1.there; known = k; more = l.more; path = l.is ∙ ap (λ x. x ∷ l.more) (sym e); plain = subst IsPlain (sym e) l.plain }

  below-leaves : (r : List ℕ) (depth : ℕ) (sub : List Named) (f : List ℕ) → AreLeaves r (suc depth) sub → Among f (first_names sub) → AreLeaves (r ++ 36 ∷ f) depth (below f sub)
  below-leaves r depth sub f h i = record {
    known = λ m j. let b = below-of sub f m j in known-below m b.0 b.1.is b.1.left (h.known b.0 b.1.there) (longer-path b.0 (h.known b.0 b.1.there).path b.1.longer (h.known b.0 b.1.there).plain (h.known b.0 b.1.there).item);
    ends = λ a j e. let m = h.goes a f j e in (rest_of m.0, is-below sub f m.0 m.1 (not-empty m.0.item (omega (arith, ap length m.2, plain.0))) (sym (ap first m.2 ∙ first-alone f plain.1)), ap rest m.2 ∙ rest-alone f plain.1);
    goes = λ a x j e. let m = h.goes a (f ++ 36 ∷ x) j (e ∙ append_assoc r (36 ∷ f) (36 ∷ x)) in
        (rest_of m.0, is-below sub f m.0 m.1 (not-empty m.0.item (some m.0.item x m.2)) (sym (ap first m.2 ∙ first-before f x plain.1)), ap rest m.2 ∙ rest-before f x plain.1);
  }
    where
      plain : IsPlain f
      plain = (first-leaf r (suc depth) sub f h i).plain

      some : (item x : List ℕ) → item ≡ f ++ 36 ∷ x → 0 < length item
      some item x e = go f plain.0 e
        where
          go : (f : List ℕ) → 0 < length f → item ≡ f ++ 36 ∷ x → 0 < length item
          go [] l e = absurd (omega (arith, l))
          go (o ∷ f) l e = omega (arith, ap length e)

      known-below : (m n : Named) → f ≡ first_name n → m ≡ rest_of n → (k : IsKnown r (suc depth) n) → IsLonger n k.path → IsKnown (r ++ 36 ∷ f) depth m
      known-below m n is left k l =
          let e : f ≡ l.name = is ∙ l.first in
          record {
            leaf = k.leaf;
            there = k.there;
            octets = k.octets ∙ ap (λ (x : Named). largest x.kind) (sym left);
            path = l.more;
            plain = (subst ArePlain l.is k.plain).1;
            short = omega (arith, k.short, ap length l.is);
            item = ap (λ (x : Named). x.item) left ∙ l.left;
            name = k.name ∙ (ap (reference r) l.is ∙ (reference-next r l.name l.more ∙ ap (λ x. reference (r ++ 36 ∷ x) l.more) (sym e)));
          }

  -- a first name is a part, and each part is a first name
  first-child : (r : List ℕ) (depth : ℕ) (sub : List Named) (f : List ℕ) → AreLeaves r depth sub → Among f (first_names sub) → Among (r ++ 36 ∷ f) (children names r)
  first-child r depth sub f h i = let l = first-leaf r depth sub f h i in
      by l.more (subst (λ x. Among x names) (l.known.name ∙ ap (reference r) l.path) (mapped (λ (leaf : Leaf). leaf.name) l.known.leaf all l.known.there)) l.plain
    where
      by : (more : List (List ℕ)) → Among (reference r (f ∷ more)) names → IsPlain f → Among (r ++ 36 ∷ f) (children names r)
      by [] j plain = child-alone r f names plain.1 j
      by (n ∷ more) j plain = child-more r f (joined (n ∷ more)) names plain.1 j

  child-first : (r : List ℕ) (depth : ℕ) (sub : List Named) (x : List ℕ) → AreLeaves r depth sub → Among x (children names r) → Among x (map (λ f. r ++ 36 ∷ f) (first_names sub))
  child-first r depth sub x h i = let c = child-of names r x i in
      let a = source (λ (leaf : Leaf). leaf.name) c.path all c.there in
      by c.edge.name c.edge.plain c.edge.is a.0 a.1 (subst (IsFront x) a.2 c.edge.front)
    where
      -- one that is named, which goes on from r
      at : (f item : List ℕ) (a : Leaf) (m : Named) → Among a all → Among m sub → a.name ≡ r ++ 36 ∷ item → m.item ≡ item → first item ≡ f → Among f (first_names sub)
      at f item a m j k e is head = go (h.known m k).path refl
        where
          go : (path : List (List ℕ)) → (h.known m k).path ≡ path → Among f (first_names sub)
          go [] p = absurd (apart (h.known m k).leaf a item (h.known m k).there j (e ∙ ap (λ y. y ++ 36 ∷ item) (sym ((h.known m k).name ∙ ap (reference r) p))))
          go (q ∷ qs) p = subst (λ g. Among g (first_names sub)) (ap first is ∙ head)
              (is-first sub m k (not-empty m.item (omega (arith, ap length ((h.known m k).item ∙ ap joined p), joined-some q qs (subst ArePlain p (h.known m k).plain).0.0))))

      found : (f : List ℕ) → x ≡ r ++ 36 ∷ f → Among f (first_names sub) → Among x (map (λ f. r ++ 36 ∷ f) (first_names sub))
      found f is j = subst (λ y. Among y (map (λ f. r ++ 36 ∷ f) (first_names sub))) (sym is) (mapped (λ f. r ++ 36 ∷ f) f (first_names sub) j)

      by : (f : List ℕ) → NoDollar f → x ≡ r ++ 36 ∷ f → (a : Leaf) → Among a all → IsFront x a.name → Among x (map (λ f. r ++ 36 ∷ f) (first_names sub))
      by f plain is a j (inl e) = let m = h.goes a f j (e ∙ is) in found f is (at f f a m.0 j m.1 (e ∙ is) m.2 (first-alone f plain))
      by f plain is a j (inr t) =
          let e : a.name ≡ r ++ 36 ∷ (f ++ 36 ∷ t.0) = t.1 ∙ (ap (λ y. y ++ 36 ∷ t.0) is ∙ append_assoc r (36 ∷ f) (36 ∷ t.0)) in
          let m = h.goes a (f ++ 36 ∷ t.0) j e in found f is (at f (f ++ 36 ∷ t.0) a m.0 j m.1 e m.2 (first-before f t.0 plain))

  same-child : (r a b : List ℕ) → r ++ 36 ∷ a ≡ r ++ 36 ∷ b → a ≡ b
  same-child r a b e = tails 36 36 a b (append_cancel_left r (36 ∷ a) (36 ∷ b) e)

  -- what is counted for the parts
  parts-sum : (r : List ℕ) (depth : ℕ) (sub : List Named) → AreLeaves r depth sub → sum_by (counted depth) (map (λ f. r ++ 36 ∷ f) (first_names sub)) ≡ sum_by (counted depth) (children names r)
  parts-sum r depth sub h = omega (
    arith,
    sum-among (counted depth) (map (λ f. r ++ 36 ∷ f) (first_names sub)) (children names r) (differ-map (λ f. r ++ 36 ∷ f) (first_names sub) (same-child r) (differ (first_names sub) (distinct sub)))
        (λ x i. let s = source (λ f. r ++ 36 ∷ f) x (first_names sub) i in subst (λ y. Among y (children names r)) (sym s.2) (first-child r depth sub s.0 h s.1)),
    sum-among (counted depth) (children names r) (map (λ f. r ++ 36 ∷ f) (first_names sub)) (differ (children names r) (distinct-children names r)) (λ x i. child-first r depth sub x h i),
  )

  abbrev pub type_at : ℕ → List Named → TypeOf
  type_at l ns = type_with (own_type ns) (fields (grown l ns))

  abbrev Summed : ℕ → Type 0
  Summed l = (r : List ℕ) (depth : ℕ) (sub : List Named) → AreLeaves r depth sub → AreWithin l sub → largest_fields (fields (grown l sub)) ≡ sum_by (counted depth) (children names r)

  nothing-grown : (l : ℕ) (sub : List Named) → first_names sub ≡ [] → grown l sub ≡ nothing
  nothing-grown zero sub e = refl
  nothing-grown (suc l) sub e = ap (side_by_side (λ name others. named name (role_of (below name sub)) (own_type (below name sub)) (grown l (below name sub)) others)) e

  typed : (l : ℕ) (r : List ℕ) (depth : ℕ) (sub : List Named) → Summed l → AreLeaves r depth sub → AreWithin l sub → largest (type_at l sub) ≡ counted (suc depth) r
  typed l r depth sub go h within = by (ends-or-not sub)
    where
      own : Option Named → TypeOf
      own o = unwrap_or (option_map (λ (n : Named). n.kind) o) (types.Struct no_field)

      ended : (m : Named) → IsEnd sub m → IsKnown r depth m → largest (type_at l sub) ≡ counted (suc depth) r
      ended m e k =
          ap (λ f. largest (type_with (own_type sub) (fields f))) (nothing-grown l sub (nil-of (first_names sub) (λ f i. let n = first-leaf r depth sub f h i in
          apart k.leaf n.known.leaf (joined (f ∷ n.more)) k.there n.known.there (n.known.name ∙ (ap (reference r) n.path ∙ ap (λ x. x ++ 36 ∷ joined (f ∷ n.more)) (sym is))))))
          ∙ (ap (λ o. largest (own o)) e.found ∙ sym (octets-leaf depth (leaf_octets all) (children names) r (largest m.kind)
          (ap (leaf_octets all) (sym is) ∙ (lookup-found all k.leaf k.there (λ b j. same k.leaf b k.there j) ∙ ap Some k.octets))))
        where
          is : k.leaf.name ≡ r
          is = by_path k.path k.plain k.item k.name
            where
              by_path : (path : List (List ℕ)) → ArePlain path → m.item ≡ joined path → k.leaf.name ≡ reference r path → k.leaf.name ≡ r
              by_path [] plain i n = n
              by_path (p ∷ ps) plain i n = absurd (true≢false (sym e.ends ∙ not-empty m.item (omega (arith, ap length i, joined-some p ps plain.0.0))))

      opened : IsOpen sub → largest (type_at l sub) ≡ counted (suc depth) r
      opened o =
          ap (λ n. largest (type_with (own n) (fields (grown l sub)))) o.found
          ∙ (largest-composed (fields (grown l sub)) ∙ (headed-is (largest_fields (fields (grown l sub))) (sum_by (counted depth) (children names r)) (go r depth sub h within)
          ∙ sym (octets-node depth (leaf_octets all) (children names) r (lookup-none all r (λ b j e. let m = h.ends b j (sym e) in true≢false (ap (λ x. length x == 0) (sym m.2) ∙ o.longer m.0 m.1))))))

      by : ((m : Named) × IsEnd sub m) ⊎ IsOpen sub → largest (type_at l sub) ≡ counted (suc depth) r
      by (inl m) = ended m.0 m.1 (h.known m.0 m.1.there)
      by (inr o) = opened o

  abbrev side : ℕ → List Named → List (List ℕ) → Forest
  side l ns ms = side_by_side (λ name others. named name (role_of (below name ns)) (own_type (below name ns)) (grown l (below name ns)) others) ms

  side-sum : (l depth : ℕ) (r : List ℕ) (sub : List Named) (ms : List (List ℕ)) → ((f : List ℕ) → Among f ms → largest (type_at l (below f sub)) ≡ counted depth (r ++ 36 ∷ f))
      → largest_fields (fields (side l sub ms)) ≡ sum_by (counted depth) (map (λ f. r ++ 36 ∷ f) ms)
  side-sum l depth r sub [] h = refl
  side-sum l depth r sub (f ∷ fs) h = omega (arith, h f (inl refl), side-sum l depth r sub fs (λ g i. h g (inr i)), sum_by-cons (counted depth) (r ++ 36 ∷ f) (map (λ f. r ++ 36 ∷ f) fs))

  child : (l depth : ℕ) (r : List ℕ) (sub : List Named) (f : List ℕ) → Summed l → AreLeaves r depth sub → AreWithin (suc l) sub → Among f (first_names sub) → largest (type_at l (below f sub)) ≡ counted depth (r ++ 36 ∷ f)
  child l zero r sub f go h within i = let n = first-leaf r zero sub f h i in absurd (omega (arith, n.known.short, ap length n.path))
  child l (suc depth) r sub f go h within i = let n = first-leaf r (suc depth) sub f h i in
      typed l (r ++ 36 ∷ f) depth (below f sub) go (below-leaves r depth sub f h i) (within-one sub f l (below f sub) (sub-one sub f n.plain.1 n.plain.0) within)

  summed : (l : ℕ) → Summed l
  summed zero r depth sub h within =
      ap (λ ms. sum_by (counted depth) (map (λ f. r ++ 36 ∷ f) ms)) (sym (nil-of (first_names sub) (λ f i. let n = first-leaf r depth sub f h i in
      omega (arith, within n.name n.there, ap length (n.known.item ∙ ap joined n.path), joined-some f n.more n.plain.0)))) ∙ parts-sum r depth sub h
  summed (suc l) r depth sub h within = side-sum l depth r sub (first_names sub) (λ f i. child l depth r sub f (summed l) h within i) ∙ parts-sum r depth sub h

  -- the largest Data of what is named at a reference and below it
  pub counted-is : (l : ℕ) (r : List ℕ) (depth : ℕ) (sub : List Named) → AreLeaves r depth sub → AreWithin l sub → largest (type_at l sub) ≡ counted (suc depth) r
  counted-is l r depth sub h within = typed l r depth sub (summed l) h within
