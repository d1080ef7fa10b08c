-- Where the node of an item stands in a tree: it is there, and it stands below the names of its item.
use Rattle.std.proofs.Common.{◌≡◌, ℕ, zero, suc, ◌+◌, ◌<◌, ◌≤◌, ◌==◌, Bool, true, false, cond, not, ◌⊎◌, inl, inr, List, [], ◌∷◌, ◌++◌, length, take, refl, sym, ap, subst, ◌∙◌, arith, append_assoc, true≢false}
use Rattle.std.proofs.lemmas.Bool.Decides.{nat_tests}
use Rattle.std.specs.List.{position_or_len}
use Rattle.std.proofs.lemmas.List.{append_cancel_left}
use Rattle.bay_model.specs.Generated.{Named}
use Rattle.bay_model.specs.NameTree.{Forest, nothing, named, first_name, rest_of, is_itself, below, first_names, grown}
use Rattle.bay_model.specs.Places.{Place, places}
use Rattle.list_laws.proofs.Among.{Among, either}
use Rattle.text_configs.proofs.JoinedLaws.{NoDollar, ArePlain, joined, first, rest, first-joined, rest-joined, joined-some, first-before}
use Rattle.text_configs.proofs.NamedLaws.{first-of, is-first, is-below, place_at, deeper, placed, is-placed, is-deeper}

-- a first name has no `$`
pub first-without : (item : List ℕ) → NoDollar (first item)
first-without [] = tt
first-without (o ∷ os) = by (o == 36) refl (first-without os)
  where
    by : (b : Bool) → (o == 36) ≡ b → NoDollar (first os) → NoDollar (take (cond (not b) (1 + position_or_len (λ o. o == 36) os) 0) (o ∷ os))
    by true e go = tt
    by false e go = let next : suc (position_or_len (λ o. o == 36) os) ≡ 1 + position_or_len (λ o. o == 36) os = omega arith in
        subst (λ n. NoDollar (take n (o ∷ os))) next (e, go)

pub dollar-within : (a b : List ℕ) → NoDollar (a ++ 36 ∷ b) → ⊥
dollar-within [] b h = true≢false h.0
dollar-within (o ∷ a) b h = dollar-within a b h.1

-- an item of a place begins with what stands before it
pub item-behind : (before : List ℕ) (f : Forest) (p : Place) → Among p (places before f) → (g : List ℕ) × (p.item ≡ before ++ g)
item-behind before nothing p i = absurd i
item-behind before (named name r k parts others) p (inl e) = (name, ap (λ (q : Place). q.item) e)
item-behind before (named name r k parts others) p (inr i) = by (either p (places (before ++ name ++ 36 ∷ []) parts) (places before others) i) (item-behind (before ++ name ++ 36 ∷ []) parts p) (item-behind before others p)
  where
    inside : (g : List ℕ) × (p.item ≡ (before ++ name ++ 36 ∷ []) ++ g) → (g : List ℕ) × (p.item ≡ before ++ g)
    inside s = ((name ++ 36 ∷ []) ++ s.0, s.1 ∙ (ap (λ l. l ++ s.0) (append_assoc before name (36 ∷ [])) ∙ append_assoc before (name ++ 36 ∷ []) s.0))

    by : Among p (places (before ++ name ++ 36 ∷ []) parts) ⊎ Among p (places before others) → (Among p (places (before ++ name ++ 36 ∷ []) parts) → (g : List ℕ) × (p.item ≡ (before ++ name ++ 36 ∷ []) ++ g))
        → (Among p (places before others) → (g : List ℕ) × (p.item ≡ before ++ g)) → (g : List ℕ) × (p.item ≡ before ++ g)
    by (inl j) go further = inside (go j)
    by (inr j) go further = further j

-- a place whose item goes on after a name stands below it
pub descend-one : (before : List ℕ) (l : ℕ) (ns : List Named) (p : Place) (a b : List ℕ) (more : List (List ℕ)) → NoDollar a → p.item ≡ before ++ joined (a ∷ b ∷ more) → Among p (places before (grown (suc l) ns))
    → Among p (places (before ++ a ++ 36 ∷ []) (grown l (below a ns)))
descend-one before l ns p a b more plain is i = let s = placed before l ns p i in
    let without : NoDollar s.0 = let n = first-of ns s.0 s.1.name in subst NoDollar (sym n.1.is) (first-without n.0.item) in by s.0 without s.1.at
  where
    by : (f : List ℕ) → NoDollar f → (p ≡ place_at before l ns f) ⊎ Among p (deeper before l ns f) → Among p (places (before ++ a ++ 36 ∷ []) (grown l (below a ns)))
    by f without (inl e) = absurd (dollar-within a (joined (b ∷ more)) (subst NoDollar (append_cancel_left before f (joined (a ∷ b ∷ more)) (sym (ap (λ (q : Place). q.item) e) ∙ is)) without))
    by f without (inr j) =
        let g = item-behind (before ++ f ++ 36 ∷ []) (grown l (below f ns)) p j in
        let tail : f ++ 36 ∷ g.0 ≡ joined (a ∷ b ∷ more) = append_cancel_left before (f ++ 36 ∷ g.0) (joined (a ∷ b ∷ more)) (sym (g.1 ∙ (append_assoc (before ++ f) (36 ∷ []) g.0 ∙ append_assoc before f (36 ∷ g.0))) ∙ is) in
        let same : f ≡ a = sym (first-before f g.0 without) ∙ (ap first tail ∙ first-joined a (b ∷ more) plain) in
        subst (λ x. Among p (places (before ++ x ++ 36 ∷ []) (grown l (below x ns)))) same j

pub descend : (before : List ℕ) (levels : ℕ) (ns : List Named) (p : Place) (a b : List ℕ) (more : List (List ℕ)) → NoDollar a → p.item ≡ before ++ joined (a ∷ b ∷ more) → Among p (places before (grown levels ns))
    → (l : ℕ) × Among p (places (before ++ a ++ 36 ∷ []) (grown l (below a ns)))
descend before zero ns p a b more plain is i = absurd i
descend before (suc l) ns p a b more plain is i = (l, descend-one before l ns p a b more plain is i)

-- the names before others in an item that is named have a place
pub exists : (levels : ℕ) (ns : List Named) (before : List ℕ) (names more : List (List ℕ)) (n : Named) → ArePlain names → 0 < length names → length names ≤ levels → Among n ns → n.item ≡ joined (names ++ more)
    → (p : Place) × Among p (places before (grown levels ns)) × (p.item ≡ before ++ joined names)
exists levels ns before [] more n plain some le i is = absurd (omega (arith, some))
exists zero ns before (a ∷ names) more n plain some le i is = absurd (omega (arith, le))
exists (suc l) ns before (a ∷ names) more n plain some le i is = by names plain.1 (omega (arith, le)) is (exists l)
  where
    longer : (names : List (List ℕ)) → n.item ≡ joined (a ∷ (names ++ more)) → is_itself n ≡ false
    longer names is = let long : 0 < length (joined (a ∷ (names ++ more))) = joined-some a (names ++ more) plain.0.0 in ap (λ l. length l == 0) is ∙ grind (arith, nat_tests)

    name : (names : List (List ℕ)) → n.item ≡ joined (a ∷ (names ++ more)) → first_name n ≡ a
    name names is = ap first is ∙ first-joined a (names ++ more) plain.0.1

    there : (names : List (List ℕ)) → n.item ≡ joined (a ∷ (names ++ more)) → Among a (first_names ns)
    there names is = subst (λ f. Among f (first_names ns)) (name names is) (is-first ns n i (longer names is))

    by : (names : List (List ℕ)) → ArePlain names → length names ≤ l → n.item ≡ joined (a ∷ (names ++ more))
        → ((ns : List Named) (before : List ℕ) (names more : List (List ℕ)) (n : Named) → ArePlain names → 0 < length names → length names ≤ l → Among n ns → n.item ≡ joined (names ++ more) → (p : Place) × Among p (places before (grown l ns)) × (p.item ≡ before ++ joined names))
        → (p : Place) × Among p (places before (grown (suc l) ns)) × (p.item ≡ before ++ joined (a ∷ names))
    by [] plain le is go = (place_at before l ns a, is-placed before l ns a (there [] is), refl)
    by (b ∷ names) plains le is go =
        let down = go (below a ns) (before ++ a ++ 36 ∷ []) (b ∷ names) more (rest_of n) plains (omega arith) le
        (is-below ns a n i (longer (b ∷ names) is) (sym (name (b ∷ names) is))) (ap rest is ∙ rest-joined a ((b ∷ names) ++ more) plain.0.1) in
        (down.0, is-deeper before l ns a down.0 (there (b ∷ names) is) down.1, down.2 ∙ (append_assoc (before ++ a) (36 ∷ []) (joined (b ∷ names)) ∙ append_assoc before a (36 ∷ joined (b ∷ names))))
