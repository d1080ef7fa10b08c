-- The nodes of a tree are the fronts of what is named.
use Rattle.std.proofs.Common.{◌≡◌, ℕ, zero, suc, ◌==◌, ◌⊎◌, inl, inr, Bool, true, false, List, [], ◌∷◌, ◌++◌, length, refl, sym, ap, subst, ◌∙◌, append_assoc, arith, true≢false}
use Rattle.std.proofs.lemmas.Bool.Decides.{nat_tests}
use Rattle.bay_model.specs.Generated.{Named}
use Rattle.bay_model.specs.NameTree.{is_itself, first_names, below, grown}
use Rattle.bay_model.specs.Places.{Place, places}
use Rattle.list_laws.proofs.Among.{Among}
use Rattle.text_configs.proofs.JoinedLaws.{NoDollar, first, rest, first-alone, first-before, rest-alone, rest-before}
use Rattle.text_configs.proofs.NamedLaws.{first-of, below-of, place_at, deeper, placed}

-- an item, and what stands before one of its `$`
abbrev pub IsFront : List ℕ → List ℕ → Type 0
IsFront front item = (item ≡ front) ⊎ ((more : List ℕ) × (item ≡ front ++ 36 ∷ more))

pub front-trans : (a b c : List ℕ) → IsFront a b → IsFront b c → IsFront a c
front-trans a b c (inl e) k = subst (λ x. IsFront x c) e k
front-trans a b c (inr h) (inl k) = inr (h.0, k ∙ h.1)
front-trans a b c (inr h) (inr k) = inr (h.0 ++ 36 ∷ k.0, k.1 ∙ (ap (λ l. l ++ 36 ∷ k.0) h.1 ∙ append_assoc a (36 ∷ h.0) (36 ∷ k.0)))

-- a name without `$`, alone or before others
abbrev pub Cut : List ℕ → Type 0
Cut item = NoDollar item ⊎ ((a b : List ℕ) × NoDollar a × (item ≡ a ++ 36 ∷ b))

pub cut : (item : List ℕ) → Cut item
cut [] = inl tt
cut (o ∷ os) = by (o == 36) refl (cut os)
  where
    number : (x : ℕ) → (x == 36) ≡ true → x ≡ 36
    number x e = grind (arith, nat_tests)

    by : (b : Bool) → (o == 36) ≡ b → Cut os → Cut (o ∷ os)
    by true e go = inr ([], os, tt, ap (λ x. x ∷ os) (number o e))
    by false e (inl h) = inl (e, h)
    by false e (inr h) = inr (o ∷ h.0, h.1, (e, h.2), ap (λ l. o ∷ l) h.3)

-- the first name
pub front-first : (item : List ℕ) → IsFront (first item) item
front-first item = by (cut item)
  where
    by : Cut item → IsFront (first item) item
    by (inl h) = inl (sym (first-alone item h))
    by (inr h) = inr (h.1, h.3 ∙ ap (λ l. l ++ 36 ∷ h.1) (sym (ap first h.3 ∙ first-before h.0 h.1 h.2)))

-- the first name and what stands after it
pub whole : (item : List ℕ) → (length (rest item) == 0) ≡ false → item ≡ first item ++ 36 ∷ rest item
whole item some = by (cut item)
  where
    by : Cut item → item ≡ first item ++ 36 ∷ rest item
    by (inl h) = absurd (true≢false (ap (λ l. length l == 0) (sym (rest-alone item h)) ∙ some))
    by (inr h) = h.3 ∙ (ap (λ l. l ++ 36 ∷ h.1) (sym (ap first h.3 ∙ first-before h.0 h.1 h.2)) ∙ ap (λ l. first item ++ 36 ∷ l) (sym (ap rest h.3 ∙ rest-before h.0 h.1 h.2)))

pub behind : (f item : List ℕ) (m : Named) → IsFront item m.item → (full : List ℕ) → full ≡ f ++ 36 ∷ m.item → IsFront (f ++ 36 ∷ item) full
behind f item m (inl e) full is = inl (is ∙ ap (λ l. f ++ 36 ∷ l) e)
behind f item m (inr h) full is = inr (h.0, is ∙ (ap (λ l. f ++ 36 ∷ l) h.1 ∙ sym (append_assoc f (36 ∷ item) (36 ∷ h.0))))

-- what is named at a place or below it
pub record IsNamedAt (before : List ℕ) (ns : List Named) (p : Place) : Type 0 where
  pub name : Named
  pub there : Among name ns
  pub longer : is_itself name ≡ false
  pub item : List ℕ
  pub is : p.item ≡ before ++ item
  pub front : IsFront item name.item

pub named-at : (levels : ℕ) (before : List ℕ) (ns : List Named) (p : Place) → Among p (places before (grown levels ns)) → IsNamedAt before ns p
named-at zero before ns p i = absurd i
named-at (suc l) before ns p i = let s = placed before l ns p i in by s.0 s.1.name s.1.at (λ f j. named-at l (before ++ f ++ 36 ∷ []) (below f ns) p j)
  where
    here : (f : List ℕ) → Among f (first_names ns) → p ≡ place_at before l ns f → IsNamedAt before ns p
    here f i e = let n = first-of ns f i in record {
      name = n.0;
      there = n.1.there;
      longer = n.1.longer;
      item = f;
      is = ap (λ (q : Place). q.item) e;
      front = subst (λ g. IsFront g n.0.item) (sym n.1.is) (front-first n.0.item);
    }

    further : (f : List ℕ) → IsNamedAt (before ++ f ++ 36 ∷ []) (below f ns) p → IsNamedAt before ns p
    further f g = let b = below-of ns f g.name g.there in
        let left : g.name.item ≡ rest b.0.item = ap (λ (x : Named). x.item) b.1.left in
        let full : b.0.item ≡ f ++ 36 ∷ g.name.item = whole b.0.item (ap (λ l. length l == 0) (sym left) ∙ g.longer) ∙ (ap (λ l. l ++ 36 ∷ rest b.0.item) (sym b.1.is) ∙ ap (λ l. f ++ 36 ∷ l) (sym left)) in
        record {
          name = b.0;
          there = b.1.there;
          longer = b.1.longer;
          item = f ++ 36 ∷ g.item;
          is = g.is ∙ (append_assoc (before ++ f) (36 ∷ []) g.item ∙ append_assoc before f (36 ∷ g.item));
          front = behind f g.item g.name g.front b.0.item full;
        }

    by : (f : List ℕ) → Among f (first_names ns) → (p ≡ place_at before l ns f) ⊎ Among p (deeper before l ns f) → ((f : List ℕ) → Among p (deeper before l ns f) → IsNamedAt (before ++ f ++ 36 ∷ []) (below f ns) p) → IsNamedAt before ns p
    by f i (inl e) go = here f i e
    by f i (inr j) go = further f (go f j)
