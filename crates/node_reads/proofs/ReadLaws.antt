-- What a tree reads as by what its leaves read as.
use Rattle.std.proofs.Common.{◌≡◌, ◌≤◌, ℕ, ◌+◌, List, [], ◌∷◌, ◌++◌, map, length, drop, get_or, ◌<◌, append_assoc, append-nil, refl, sym, ap, ap₂, ◌∙◌, subst, arith, Result, Ok, Err, length-append}
use Rattle.std.proofs.lemmas.List.{map-append, drop-append-le, length-drop, drop_more, drop_all}
use Rattle.std.proofs.Math.Seq.{drop-append_seam}
use Rattle.sv_base.specs.Seen.{seen_of}
use Rattle.sv_base.specs.Same.{value_of}
use Rattle.sv_base.proofs.RowLaws.{value-seen}
use Rattle.sv_base.specs.Types.{Shape, Fields, Kind, simple, composed, no_field, field}
use Rattle.sv_base.specs.Tree.{Seen, more, structure}
use Rattle.sv_base.specs.Fields.{shape_of}
use Rattle.sv_base.specs.declared.types.TypeOf.{TypeOf}
use Rattle.sv_base.specs.declared.value.Value.{Value}
use Rattle.bay_model.specs.Model as model
use Rattle.bay_model.specs.Model.{Model, Tree, Trees, Leaf}
use Rattle.bay_model.specs.Points.{Past}
use Rattle.bay_model.specs.Reads.{read_tree, read_trees, read_leaf, joined, structured}
use Rattle.name_leaves.specs.Leaves.{leaves, leaves_side, leaf_seen}
use Rattle.name_leaves.specs.declared.leaves.Leaf.{Leaf as CodeLeaf}
use Rattle.value_store.specs.Members.{value_with, row_with}
use Rattle.value_store.specs.Members as members
use Rattle.node_reads.specs.Reading.{read_by, read_side, leaf_read, leaf_at, put_front, all_or_first, typed, HasShape, HaveShapes}

-- ---- values in rows

abbrev pub both : Result (List Value) ℕ → Result (List Value) ℕ → Result (List Value) ℕ
both (Ok vs) (Ok ws) = Ok (vs ++ ws)
both (Ok vs) (Err e) = Err e
both (Err e) r = Err e

front-both : (v : Value) (x y : Result (List Value) ℕ) → put_front v (both x y) ≡ both (put_front v x) y
front-both v (Ok vs) (Ok ws) = refl
front-both v (Ok vs) (Err e) = refl
front-both v (Err e) y = refl

all-both : (xs ys : List (Result Value ℕ)) → all_or_first (xs ++ ys) ≡ both (all_or_first xs) (all_or_first ys)
all-both [] ys = by (all_or_first ys)
  where
    by : (y : Result (List Value) ℕ) → y ≡ both (Ok []) y
    by (Ok vs) = refl
    by (Err e) = refl
all-both (Ok v ∷ xs) ys = ap (put_front v) (all-both xs ys) ∙ front-both v (all_or_first xs) (all_or_first ys)
all-both (Err e ∷ xs) ys = refl

-- leaf by leaf
module _ {X : Type 0} (f : X → Result Value ℕ) where
  abbrev pub gathered : List X → Result (List Value) ℕ
  gathered xs = all_or_first (map f xs)

  pub gather-none : (xs : List X) → gathered xs ≡ both (Ok []) (gathered (drop 0 xs))
  gather-none xs = by (gathered xs)
    where
      by : (y : Result (List Value) ℕ) → y ≡ both (Ok []) y
      by (Ok vs) = refl
      by (Err e) = refl

  pub gather-more : (xs : List X) (i : ℕ) (x : X) (v : Value) (ws next : List Value) → i < length xs → x ≡ get_or xs i x → f x ≡ Ok v → next ≡ ws ++ v ∷ [] → gathered xs ≡ both (Ok ws) (gathered (drop i xs))
      → gathered xs ≡ both (Ok next) (gathered (drop (i + 1) xs))
  gather-more xs i x v ws next h e is n g = let rest : Result (List Value) ℕ = gathered (drop (i + 1) xs) in
      g ∙ (ap (λ l. both (Ok ws) (gathered l)) (drop_more xs i x h ∙ ap (λ y. y ∷ drop (i + 1) xs) (sym e)) ∙ (ap (λ r. both (Ok ws) (all_or_first (r ∷ map f (drop (i + 1) xs)))) is ∙ (by rest ∙ ap (λ l. both (Ok l) rest) (sym n))))
    where
      by : (r : Result (List Value) ℕ) → both (Ok ws) (put_front v r) ≡ both (Ok (ws ++ v ∷ [])) r
      by (Ok vs) = ap Ok (sym (append_assoc ws (v ∷ []) vs))
      by (Err d) = refl

  pub gather-code : (xs : List X) (i : ℕ) (x : X) (code : ℕ) (ws : List Value) → i < length xs → x ≡ get_or xs i x → f x ≡ Err code → gathered xs ≡ both (Ok ws) (gathered (drop i xs)) → Err code ≡ gathered xs
  gather-code xs i x code ws h e is g = sym (g ∙ (ap (λ l. both (Ok ws) (gathered l)) (drop_more xs i x h ∙ ap (λ y. y ∷ drop (i + 1) xs) (sym e)) ∙ ap (λ r. both (Ok ws) (all_or_first (r ∷ map f (drop (i + 1) xs)))) is))

  pub gather-all : (xs : List X) (i : ℕ) (ws : List Value) → length xs ≤ i → gathered xs ≡ both (Ok ws) (gathered (drop i xs)) → Ok ws ≡ gathered xs
  gather-all xs i ws h g = sym (g ∙ (ap (λ l. both (Ok ws) (gathered l)) (drop_all i xs h) ∙ ap Ok (append-nil ws)))

-- as many values as a type has leaves, where none is refused
abbrev HasCount : Result (List Value) ℕ → ℕ → Type 0
HasCount (Ok vs) n = length vs ≡ n
HasCount (Err e) n = Unit {0}

count-one : (r : Result Value ℕ) → HasCount (all_or_first (r ∷ [])) 1
count-one (Ok v) = refl
count-one (Err e) = tt

count-both : (x y : Result (List Value) ℕ) (m n : ℕ) → HasCount x m → HasCount y n → HasCount (both x y) (m + n)
count-both (Ok vs) (Ok ws) m n h k = omega (arith, length-append vs ws, h, k)
count-both (Ok vs) (Err e) m n h k = tt
count-both (Err e) y m n h k = tt

-- more values after change nothing
mutual
  with-front : (s : Shape) (vs ws : List Value) → members.leaves s ≤ length vs → value_with s (vs ++ ws) ≡ value_with s vs
  with-front (simple k) [] ws h = absurd (omega (arith, h))
  with-front (simple k) (v ∷ vs) ws h = refl
  with-front (composed fs) vs ws h = ap structure (row-front fs vs ws h)

  row-front : (fs : Fields) (vs ws : List Value) → members.leaves_in fs ≤ length vs → row_with fs (vs ++ ws) ≡ row_with fs vs
  row-front no_field vs ws h = refl
  row-front (field n s fs) vs ws h = ap₂ more (with-front s vs ws (omega (arith, h)))
      (ap (row_with fs) (drop-append-le (members.leaves s) vs ws (omega (arith, h))) ∙ row-front fs (drop (members.leaves s) vs) ws (omega (arith, h, length-drop (members.leaves s) vs)))

-- ---- a node, as its value is seen

abbrev pub on_ok : {A B : Type 0} → (A → B) → Result A ℕ → Result B ℕ
on_ok f (Ok x) = Ok (f x)
on_ok f (Err e) = Err e

un : {A : Type 0} → A → Result A ℕ → A
un d (Ok x) = x
un d (Err e) = d

code : {A : Type 0} → Result A ℕ → ℕ
code (Ok x) = 0
code (Err e) = e

abbrev okay : Seen → Result Seen ℕ
okay x = Ok x

abbrev erred : ℕ → Result Seen ℕ
erred e = Err e

same-ok : (x y : Seen) → okay x ≡ okay y → x ≡ y
unfolding un
same-ok x y h = ap (un x) h

same-code : (d e : ℕ) → erred d ≡ erred e → d ≡ e
unfolding code
same-code d e h = ap code h

behind : (s : Shape) (fs : Fields) (vs ws : List Value) → length vs ≡ members.leaves s → row_with fs (drop (members.leaves s) (vs ++ ws)) ≡ row_with fs ws
behind s fs vs ws h = ap (λ n. row_with fs (drop n (vs ++ ws))) (sym h) ∙ ap (row_with fs) (drop-append_seam vs ws)

join-step : (n : List ℕ) (s : Shape) (fs : Fields) (x : Result Value ℕ) (vs ws : Result (List Value) ℕ) → HasCount vs (members.leaves s) → on_ok seen_of x ≡ on_ok (value_with s) vs
    → joined x (on_ok (row_with fs) ws) ≡ on_ok (row_with (field n s fs)) (both vs ws)
join-step n s fs (Ok v) (Ok vs) (Ok ws) h i = ap Ok (ap₂ more (same-ok (seen_of v) (value_with s vs) i ∙ sym (with-front s vs ws (omega (arith, h)))) (sym (behind s fs vs ws h)))
join-step n s fs (Ok v) (Ok vs) (Err e) h i = refl
join-step n s fs (Ok v) (Err e) ws h i = cc
join-step n s fs (Err d) (Ok vs) ws h i = cc
join-step n s fs (Err d) (Err e) ws h i = ap Err (same-code d e i)

struct-read : (fs : Fields) (r : Result (List Value) ℕ) → on_ok seen_of (structured (on_ok (row_with fs) r)) ≡ on_ok (value_with (composed fs)) r
struct-read fs (Ok vs) = refl
struct-read fs (Err e) = refl

leaf-same : (r : Result Value ℕ) (k : Kind) → on_ok seen_of r ≡ on_ok (value_with (simple k)) (all_or_first (r ∷ []))
leaf-same (Ok v) k = refl
leaf-same (Err e) k = refl

module _ (given : Leaf → Result Value ℕ) where
  abbrev read : List Leaf → Result (List Value) ℕ
  read ls = all_or_first (map (leaf_read given) ls)

  read-both : (ls ms : List Leaf) → read (ls ++ ms) ≡ both (read ls) (read ms)
  read-both ls ms = ap all_or_first (map-append (leaf_read given) ls ms) ∙ all-both (map (leaf_read given) ls) (map (leaf_read given) ms)

  mutual
    counted : (t : Tree) (s : Shape) → HasShape t s → HasCount (read (leaves t)) (members.leaves s)
    counted (model.leaf (model.attribute x)) (simple k) h = count-one (given (model.attribute x))
    counted (model.leaf (model.component b comp)) (simple k) h = count-one (given (model.component b comp))
    counted (model.leaf (model.setting d comp)) (simple k) h = count-one (given (model.setting d comp))
    counted (model.leaf model.withheld) s h = tt
    counted (model.leaf (model.attribute x)) (composed fs) h = absurd h
    counted (model.leaf (model.component b comp)) (composed fs) h = absurd h
    counted (model.leaf (model.setting d comp)) (composed fs) h = absurd h
    counted (model.structure ts) (simple k) h = absurd h
    counted (model.structure ts) (composed fs) h = counted-side ts fs h

    counted-side : (ts : Trees) (fs : Fields) → HaveShapes ts fs → HasCount (read (leaves_side ts)) (members.leaves_in fs)
    counted-side model.none no_field h = refl
    counted-side model.none (field n s fs) h = absurd h
    counted-side (model.more t ts) no_field h = absurd h
    counted-side (model.more t ts) (field n s fs) h = subst (λ r. HasCount r (members.leaves s + members.leaves_in fs)) (sym (read-both (leaves t) (leaves_side ts)))
        (count-both (read (leaves t)) (read (leaves_side ts)) (members.leaves s) (members.leaves_in fs) (counted t s h.0) (counted-side ts fs h.1))

  mutual
    tree-read : (t : Tree) (s : Shape) → HasShape t s → on_ok seen_of (read_by (leaf_read given) t) ≡ on_ok (value_with s) (read (leaves t))
    tree-read (model.leaf (model.attribute x)) (simple k) h = leaf-same (given (model.attribute x)) k
    tree-read (model.leaf (model.component b comp)) (simple k) h = leaf-same (given (model.component b comp)) k
    tree-read (model.leaf (model.setting d comp)) (simple k) h = leaf-same (given (model.setting d comp)) k
    tree-read (model.leaf model.withheld) s h = refl
    tree-read (model.leaf (model.attribute x)) (composed fs) h = absurd h
    tree-read (model.leaf (model.component b comp)) (composed fs) h = absurd h
    tree-read (model.leaf (model.setting d comp)) (composed fs) h = absurd h
    tree-read (model.structure ts) (simple k) h = absurd h
    tree-read (model.structure ts) (composed fs) h = ap (λ r. on_ok seen_of (structured r)) (side-read ts fs h) ∙ struct-read fs (read (leaves_side ts))

    side-read : (ts : Trees) (fs : Fields) → HaveShapes ts fs → read_side (leaf_read given) ts ≡ on_ok (row_with fs) (read (leaves_side ts))
    side-read model.none no_field h = refl
    side-read model.none (field n s fs) h = absurd h
    side-read (model.more t ts) no_field h = absurd h
    side-read (model.more t ts) (field n s fs) h = ap (joined (read_by (leaf_read given) t)) (side-read ts fs h.1)
        ∙ (join-step n s fs (read_by (leaf_read given) t) (read (leaves t)) (read (leaves_side ts)) (counted t s h.0) (tree-read t s h.0)
        ∙ ap (on_ok (row_with (field n s fs))) (sym (read-both (leaves t) (leaves_side ts))))

  back : (r : Result Value ℕ) → on_ok value_of (on_ok seen_of r) ≡ r
  back (Ok v) = ap Ok (value-seen v)
  back (Err e) = refl

  as-typed : (k : TypeOf) (r : Result (List Value) ℕ) → on_ok value_of (on_ok (value_with (shape_of k)) r) ≡ typed k r
  as-typed k (Ok vs) = refl
  as-typed k (Err e) = refl

  pub of-leaves : (t : Tree) (k : TypeOf) → HasShape t (shape_of k) → read_by (leaf_read given) t ≡ typed k (all_or_first (map (leaf_read given) (leaves t)))
  of-leaves t k h = sym (back (read_by (leaf_read given) t)) ∙ (ap (on_ok value_of) (tree-read t (shape_of k) h) ∙ as-typed k (read (leaves t)))

  through : (ls : List CodeLeaf) → map (leaf_at given) ls ≡ map (leaf_read given) (map leaf_seen ls)
  through [] = refl
  through (l ∷ ls) = ap (λ rs. leaf_at given l ∷ rs) (through ls)

  -- by the leaves and the type as the code has them
  pub node-read : (kind : TypeOf) (ls : List CodeLeaf) (t : Tree) (k : TypeOf) → kind ≡ k → map leaf_seen ls ≡ leaves t → HasShape t (shape_of k) → typed kind (all_or_first (map (leaf_at given) ls)) ≡ read_by (leaf_read given) t
  node-read kind ls t k e l h = ap (λ k. typed k (all_or_first (map (leaf_at given) ls))) e ∙ (ap (λ rs. typed k (all_or_first rs)) (through ls ∙ ap (map (leaf_read given)) l) ∙ sym (of-leaves t k h))

-- ---- what a bay's nodes read as

module _ (c : Model) (past : Past) where
  withheld-same : (l : Leaf) → leaf_read (read_leaf c past) l ≡ read_leaf c past l
  withheld-same (model.attribute x) = refl
  withheld-same (model.component b comp) = refl
  withheld-same (model.setting d comp) = refl
  withheld-same model.withheld = refl

  mutual
    pub same-tree : (t : Tree) → read_by (leaf_read (read_leaf c past)) t ≡ read_tree c past t
    same-tree (model.leaf l) = withheld-same l
    same-tree (model.structure ts) = ap structured (same-side ts)

    same-side : (ts : Trees) → read_side (leaf_read (read_leaf c past)) ts ≡ read_trees c past ts
    same-side model.none = refl
    same-side (model.more t ts) = ap₂ joined (same-tree t) (same-side ts)
