-- What is directly below a node, by the references that go on from it.
use Rattle.std.proofs.Common.{◌≡◌, ℕ, zero, suc, ◌<◌, ◌≤◌, ◌==◌, ◌⊎◌, inl, inr, Bool, true, false, List, [], ◌∷◌, ◌++◌, length, take, drop, fold, refl, sym, ap, ap₂, subst, ◌∙◌, append_assoc, append-nil, arith, if◌then◌else◌}
use Rattle.std.specs.Prelude.{slice_index}
use Rattle.std.specs.Str.{bytes_eq}
use Rattle.std.proofs.lemmas.Bool.Decides.{nat_tests}
use Rattle.std.proofs.lemmas.List.{take_at}
use Rattle.list_laws.proofs.Among.{Among}
use Rattle.list_laws.proofs.Distinct.{Distinct, octets_same}
use Rattle.name_tree.proofs.GroupLaws.{distinct-with}
use Rattle.cfg_lines.specs.Keys.{added}
use Rattle.cfg_lines.specs.Sizes.{edges_within, edges, with_edge, with_name, children}
use Rattle.text_configs.proofs.JoinedLaws.{NoDollar}
use Rattle.text_configs.proofs.NamedLaws.{with-back}
use Rattle.text_configs.proofs.ReachLaws.{split-index}
use Rattle.name_trees.proofs.FrontLaws.{IsFront}

-- a structure above a path and what is directly below it on the way there
pub record IsEdge (path a b : List ℕ) : Type 0 where
  pub name : List ℕ
  pub plain : NoDollar name
  pub is : b ≡ a ++ 36 ∷ name
  pub front : IsFront b path

abbrev pair : List ℕ → List ℕ → List ℕ × List ℕ
pair a b = (a, b)

take-next : (path : List ℕ) (n : ℕ) → n < length path → take (suc n) path ≡ take n path ++ slice_index path n ∷ []
take-next [] n h = absurd (omega (arith, h))
take-next (o ∷ path) zero h = refl
take-next (o ∷ path) (suc n) h = ap (λ l. o ∷ l) (take-next path n (omega (arith, h)))

number : (x : ℕ) → (x == 36) ≡ true → x ≡ 36
number x e = grind (arith, nat_tests)

within-edge : (n : ℕ) (path part tail a b : List ℕ) → n ≤ length path → part ≡ take n path ++ tail → NoDollar tail → IsFront part path → Among (pair a b) (edges_within n part path) → IsEdge path a b
within-edge zero path part tail a b le is plain front i = absurd i
within-edge (suc n) path part tail a b le is plain front i = by (slice_index path n == 36) refl i (λ p t e q f j. within-edge n path p t a b (omega (arith, le)) e q f j)
  where
    split : part ≡ take n path ++ slice_index path n ∷ tail
    split = is ∙ (ap (λ l. l ++ tail) (take-next path n (omega (arith, le))) ∙ append_assoc (take n path) (slice_index path n ∷ []) tail)

    here : slice_index path n ≡ 36 → pair a b ≡ pair (take n path) part → IsEdge path a b
    here e s = record {
      name = tail;
      plain = plain;
      is = ap (λ (x : List ℕ × List ℕ). x.1) s ∙ (split ∙ (ap (λ o. take n path ++ o ∷ tail) e ∙ ap (λ l. l ++ 36 ∷ tail) (sym (ap (λ (x : List ℕ × List ℕ). x.0) s))));
      front = subst (λ x. IsFront x path) (sym (ap (λ (x : List ℕ × List ℕ). x.1) s)) front;
    }

    above : slice_index path n ≡ 36 → IsFront (take n path) path
    above e = inr (drop (suc n) path, split-index path n (omega (arith, le)) ∙ ap (λ o. take n path ++ o ∷ drop (suc n) path) e)

    by : (t : Bool) → (slice_index path n == 36) ≡ t → Among (pair a b) (if t then pair (take n path) part ∷ edges_within n (take n path) path else edges_within n part path)
        → ((p t : List ℕ) → p ≡ take n path ++ t → NoDollar t → IsFront p path → Among (pair a b) (edges_within n p path) → IsEdge path a b) → IsEdge path a b
    by true e (inl s) go = here (number (slice_index path n) e) s
    by true e (inr j) go = go (take n path) [] (sym (append-nil (take n path))) tt (above (number (slice_index path n) e)) j
    by false e j go = go part (slice_index path n ∷ tail) split (e, plain) front j

edge-of : (path a b : List ℕ) → Among (pair a b) (edges path) → IsEdge path a b
edge-of path a b i = within-edge (length path) path path [] a b (omega arith) whole tt (inl refl) i
  where
    whole : path ≡ take (length path) path ++ []
    whole = sym (append-nil (take (length path) path) ∙ (sym (ap (take (length path)) (append-nil path)) ∙ take_at path [] (length path) refl))

-- ---- the nodes directly below a node

edge-back : (node x : List ℕ) (parts : List (List ℕ)) (edge : List ℕ × List ℕ) → Among x (with_edge node parts edge) → Among x parts ⊎ (pair node x ≡ edge)
edge-back node x parts edge i = by (bytes_eq node edge.0) refl i
  where
    last : node ≡ edge.0 → Among x parts ⊎ (x ≡ edge.1) → Among x parts ⊎ (pair node x ≡ edge)
    last e (inl j) = inl j
    last e (inr f) = inr (ap₂ pair e f)

    by : (t : Bool) → bytes_eq node edge.0 ≡ t → Among x (if t then added parts edge.1 else parts) → Among x parts ⊎ (pair node x ≡ edge)
    by true e j = last (octets_same node edge.0 e) (with-back x parts edge.1 j)
    by false e j = inl j

edges-back : (node x : List ℕ) (es : List (List ℕ × List ℕ)) (parts : List (List ℕ)) → Among x (fold (with_edge node) parts es) → Among x parts ⊎ Among (pair node x) es
edges-back node x [] parts i = inl i
edges-back node x (e ∷ es) parts i = by (edges-back node x es (with_edge node parts e) i)
  where
    here : Among x parts ⊎ (pair node x ≡ e) → Among x parts ⊎ Among (pair node x) (e ∷ es)
    here (inl j) = inl j
    here (inr s) = inr (inl s)

    by : Among x (with_edge node parts e) ⊎ Among (pair node x) es → Among x parts ⊎ Among (pair node x) (e ∷ es)
    by (inl j) = here (edge-back node x parts e j)
    by (inr j) = inr (inr j)

pub record IsChild (names : List (List ℕ)) (node x : List ℕ) : Type 0 where
  pub path : List ℕ
  pub there : Among path names
  pub edge : IsEdge path node x

names-back : (node x : List ℕ) (names parts : List (List ℕ)) → Among x (fold (with_name node) parts names) → Among x parts ⊎ IsChild names node x
names-back node x [] parts i = inl i
names-back node x (n ∷ ns) parts i = by (names-back node x ns (with_name node parts n) i)
  where
    here : Among x parts ⊎ Among (pair node x) (edges n) → Among x parts ⊎ IsChild (n ∷ ns) node x
    here (inl j) = inl j
    here (inr j) = inr (record { path = n; there = inl refl; edge = edge-of n node x j })

    by : Among x (with_name node parts n) ⊎ IsChild ns node x → Among x parts ⊎ IsChild (n ∷ ns) node x
    by (inl j) = here (edges-back node x (edges n) parts j)
    by (inr c) = inr (record { path = c.path; there = inr c.there; edge = c.edge })

pub child-of : (names : List (List ℕ)) (node x : List ℕ) → Among x (children names node) → IsChild names node x
child-of names node x i = by (names-back node x names [] i)
  where
    by : ⊥ ⊎ IsChild names node x → IsChild names node x
    by (inl j) = absurd j
    by (inr c) = c

-- each once
distinct-edge : (node : List ℕ) (parts : List (List ℕ)) (edge : List ℕ × List ℕ) → Distinct parts → Distinct (with_edge node parts edge)
distinct-edge node parts edge d = by (bytes_eq node edge.0)
  where
    by : (t : Bool) → Distinct (if t then added parts edge.1 else parts)
    by true = distinct-with parts edge.1 d
    by false = d

distinct-edges : (node : List ℕ) (es : List (List ℕ × List ℕ)) (parts : List (List ℕ)) → Distinct parts → Distinct (fold (with_edge node) parts es)
distinct-edges node [] parts d = d
distinct-edges node (e ∷ es) parts d = distinct-edges node es (with_edge node parts e) (distinct-edge node parts e d)

distinct-names : (node : List ℕ) (names parts : List (List ℕ)) → Distinct parts → Distinct (fold (with_name node) parts names)
distinct-names node [] parts d = d
distinct-names node (n ∷ ns) parts d = distinct-names node ns (with_name node parts n) (distinct-edges node (edges n) parts d)

pub distinct-children : (names : List (List ℕ)) (node : List ℕ) → Distinct (children names node)
distinct-children names node = distinct-names node names [] tt
