-- The number of a node by the number of its domain and the place of its item there.
use Rattle.std.proofs.Common.{◌≡◌, ℕ, zero, suc, ◌+◌, Bool, true, false, cond, ◌&&◌, List, [], ◌∷◌, ◌++◌, map, flat_map, length, take, get_or, position, Option, None, Some, refl, sym, ap, ◌∙◌, true≢false, arith, length-append}
use Rattle.std.specs.Str.{bytes_eq}
use Rattle.std.specs.Option.{option_map, option_or}
use Rattle.std.specs.Cmp.Lexicographic.{bytes_decides}
use Rattle.std.proofs.lemmas.List.{length-map, map-append}
use Rattle.std.proofs.lemmas.List.Elements.{filter-append}
use Rattle.std.proofs.Common.{filter, append-nil}
use Rattle.name_tree.specs.Sorting.{names_above, variables_after}
use Rattle.sv_base.specs.declared.config.Config.{Config}
use Rattle.sv_base.specs.declared.config.LnDef.{LnDef}
use Rattle.bay_model.specs.Model.{Node}
use Rattle.bay_model.specs.Configured.{with_domain, domains_after}
use Rattle.bay_model.specs.NamedLines.{domains}
use Rattle.bay_model.specs.Places.{Place, node_at}
use Rattle.bay_model.specs.Named.{nodes, places_in}
use Rattle.name_leaves.specs.Numbers.{number_in}
use Rattle.name_tree.specs.Directories.{items_of, domain_at, first_of}
use Rattle.name_tree.specs.Finding.{node_named}
use Rattle.list_laws.proofs.Options.{some_is, not_some}
use Rattle.list_laws.proofs.Places.{place-cons, position-append}
use Rattle.list_laws.proofs.Distinct.{octets_apart, Absent, Distinct, distinct-new}

pub distinct-domains : (ds : List (List ℕ)) (ns : List LnDef) → Distinct ds → Distinct (domains_after ds ns)
distinct-domains ds [] d = d
distinct-domains ds (n ∷ ns) d = distinct-domains (with_domain ds n.domain) ns (distinct-new n.domain ds d)

module _ (places_of : List ℕ → List Place) (domain item : List ℕ) where
  abbrev blocks : List (List ℕ) → List Node
  blocks ds = flat_map (λ d. map (node_at d) (places_of d)) ds

  abbrev is_at : Node → Bool
  is_at n = bytes_eq domain n.domain && bytes_eq item n.item

  here : (d : List ℕ) (ps : List Place) → bytes_eq domain d ≡ true → position is_at (map (node_at d) ps) ≡ number_in (items_of ps) item
  here d [] h = refl
  here d (p ∷ ps) h = place-cons is_at (node_at d p) (map (node_at d) ps) ∙ (ap (λ b. cond (b && bytes_eq item p.item) (Some 0) (option_map (λ i. i + 1) (position is_at (map (node_at d) ps)))) h
      ∙ (ap (λ r. cond (bytes_eq item p.item) (Some 0) (option_map (λ i. i + 1) r)) (here d ps h) ∙ sym (place-cons (bytes_eq item) p.item (items_of ps))))

  other : (d : List ℕ) (ps : List Place) → bytes_eq domain d ≡ false → position is_at (map (node_at d) ps) ≡ None
  other d [] h = refl
  other d (p ∷ ps) h = place-cons is_at (node_at d p) (map (node_at d) ps) ∙ (ap (λ b. cond (b && bytes_eq item p.item) (Some 0) (option_map (λ i. i + 1) (position is_at (map (node_at d) ps)))) h
      ∙ ap (option_map (λ i. i + 1)) (other d ps h))

  one : (d : List ℕ) (ds : List (List ℕ)) → position is_at (blocks (d ∷ ds)) ≡ option_or (position is_at (map (node_at d) (places_of d))) (option_map (λ i. length (places_of d) + i) (position is_at (blocks ds)))
  one d ds = position-append is_at (map (node_at d) (places_of d)) (blocks ds) ∙ ap (λ n. option_or (position is_at (map (node_at d) (places_of d))) (option_map (λ i. n + i) (position is_at (blocks ds)))) (length-map (places_of d) (node_at d))

  pub no_domain : (ds : List (List ℕ)) → number_in ds domain ≡ None → position is_at (blocks ds) ≡ None
  no_domain [] h = refl
  no_domain (d ∷ ds) h = one d ds ∙ by (no_domain ds) (bytes_eq domain d) refl (number_in ds domain) refl (sym (place-cons (bytes_eq domain) d ds) ∙ h)
    where
      by : (number_in ds domain ≡ None → position is_at (blocks ds) ≡ None) → (b : Bool) → bytes_eq domain d ≡ b → (o : Option ℕ) → number_in ds domain ≡ o → cond b (Some 0) (option_map (λ i. i + 1) o) ≡ None
          → option_or (position is_at (map (node_at d) (places_of d))) (option_map (λ i. length (places_of d) + i) (position is_at (blocks ds))) ≡ None
      by go true e o q r = absurd (not_some 0 r)
      by go false e (Some x) q r = absurd (not_some (x + 1) r)
      by go false e None q r = ap (λ s. option_or s (option_map (λ i. length (places_of d) + i) (position is_at (blocks ds)))) (other d (places_of d) e) ∙ ap (option_map (λ i. length (places_of d) + i)) (go q)

  absent-none : (d : List ℕ) (ds : List (List ℕ)) → domain ≡ d → Absent d ds → number_in ds domain ≡ None
  absent-none d [] e a = refl
  absent-none d (x ∷ xs) e a = place-cons (bytes_eq domain) x xs ∙ (ap (λ b. cond b (Some 0) (option_map (λ i. i + 1) (number_in xs domain))) (ap (λ y. bytes_eq y x) e ∙ turn (bytes_eq d x) refl) ∙ ap (option_map (λ i. i + 1)) (absent-none d xs e a.1))
    where
      turn : (b : Bool) → bytes_eq d x ≡ b → b ≡ false
      turn false q = refl
      turn true q = absurd (true≢false (sym ((bytes_decides x d).1 (sym ((bytes_decides d x).0 q))) ∙ a.0))

  or-none : (r : Option ℕ) (n : ℕ) (s : Option ℕ) → s ≡ None → option_or r (option_map (λ i. n + i) s) ≡ option_map (λ i. 0 + i) r
  or-none (Some x) n s e = ap Some (omega arith)
  or-none None n s e = ap (option_map (λ i. n + i)) e

  more : (a b : ℕ) (r : Option ℕ) → option_map (λ i. a + i) (option_map (λ i. b + i) r) ≡ option_map (λ i. a + b + i) r
  more a b (Some x) = ap Some (omega arith)
  more a b None = refl

  pub at_domain : (ds : List (List ℕ)) (k : ℕ) → Distinct ds → number_in ds domain ≡ Some k → position is_at (blocks ds) ≡ option_map (λ i. length (flat_map places_of (take k ds)) + i) (number_in (items_of (places_of (get_or ds k []))) item)
  at_domain [] k u h = absurd (not_some k (sym h))
  at_domain (d ∷ ds) k u h = one d ds ∙ by (λ j. at_domain ds j u.1) (bytes_eq domain d) refl (number_in ds domain) refl (sym (place-cons (bytes_eq domain) d ds) ∙ h)
    where
      first : (q : ℕ) → bytes_eq domain d ≡ true → 0 ≡ q → option_or (position is_at (map (node_at d) (places_of d))) (option_map (λ i. length (places_of d) + i) (position is_at (blocks ds)))
          ≡ option_map (λ i. length (flat_map places_of (take q (d ∷ ds))) + i) (number_in (items_of (places_of (get_or (d ∷ ds) q []))) item)
      first zero e z = ap (λ s. option_or s (option_map (λ i. length (places_of d) + i) (position is_at (blocks ds)))) (here d (places_of d) e)
          ∙ or-none (number_in (items_of (places_of d)) item) (length (places_of d)) (position is_at (blocks ds)) (no_domain ds (absent-none d ds ((bytes_decides domain d).0 e) u.0))
      first (suc q) e z = absurd (omega (arith, z))

      later : (q r : ℕ) → bytes_eq domain d ≡ false → r + 1 ≡ q → position is_at (blocks ds) ≡ option_map (λ i. length (flat_map places_of (take r ds)) + i) (number_in (items_of (places_of (get_or ds r []))) item)
          → option_or (position is_at (map (node_at d) (places_of d))) (option_map (λ i. length (places_of d) + i) (position is_at (blocks ds))) ≡ option_map (λ i. length (flat_map places_of (take q (d ∷ ds))) + i) (number_in (items_of (places_of (get_or (d ∷ ds) q []))) item)
      later zero r e z g = absurd (omega (arith, z))
      later (suc q) r e z g = let s : r ≡ q = omega (arith, z) in
          ap (λ s. option_or s (option_map (λ i. length (places_of d) + i) (position is_at (blocks ds)))) (other d (places_of d) e)
          ∙ (ap (option_map (λ i. length (places_of d) + i)) g ∙ (more (length (places_of d)) (length (flat_map places_of (take r ds))) (number_in (items_of (places_of (get_or ds r []))) item)
          ∙ (ap (λ n. option_map (λ i. n + i) (number_in (items_of (places_of (get_or ds r []))) item)) (sym (length-append (places_of d) (flat_map places_of (take r ds))))
          ∙ ap (λ n. option_map (λ i. length (places_of d ++ flat_map places_of (take n ds)) + i) (number_in (items_of (places_of (get_or ds n []))) item)) s)))

      by : ((j : ℕ) → number_in ds domain ≡ Some j → position is_at (blocks ds) ≡ option_map (λ i. length (flat_map places_of (take j ds)) + i) (number_in (items_of (places_of (get_or ds j []))) item)) → (b : Bool) → bytes_eq domain d ≡ b → (o : Option ℕ) → number_in ds domain ≡ o → cond b (Some 0) (option_map (λ i. i + 1) o) ≡ Some k
          → option_or (position is_at (map (node_at d) (places_of d))) (option_map (λ i. length (places_of d) + i) (position is_at (blocks ds))) ≡ option_map (λ i. length (flat_map places_of (take k (d ∷ ds))) + i) (number_in (items_of (places_of (get_or (d ∷ ds) k []))) item)
      by go true e o q r = first k e (some_is 0 k r)
      by go false e (Some x) q r = later k x e (some_is (x + 1) k r) (go x q)
      by go false e None q r = absurd (not_some k (sym r))

-- the items of a domain
module _ (places_of : List ℕ → List Place) (domain : List ℕ) where
  abbrev all_nodes : List (List ℕ) → List Node
  all_nodes ds = flat_map (λ d. map (node_at d) (places_of d)) ds

  abbrev is_in : Node → Bool
  is_in n = bytes_eq n.domain domain

  abbrev items_in : List Node → List (List ℕ)
  items_in ns = map (λ (n : Node). n.item) (filter is_in ns)

  items-one : (d : List ℕ) (ds : List (List ℕ)) → items_in (all_nodes (d ∷ ds)) ≡ items_in (map (node_at d) (places_of d)) ++ items_in (all_nodes ds)
  items-one d ds = ap (map (λ (n : Node). n.item)) (filter-append is_in (map (node_at d) (places_of d)) (all_nodes ds)) ∙ map-append (λ (n : Node). n.item) (filter is_in (map (node_at d) (places_of d))) (filter is_in (all_nodes ds))

  items-here : (d : List ℕ) (ps : List Place) → bytes_eq d domain ≡ true → items_in (map (node_at d) ps) ≡ items_of ps
  items-here d [] h = refl
  items-here d (p ∷ ps) h = ap (λ b. map (λ (n : Node). n.item) (cond b (node_at d p ∷ filter is_in (map (node_at d) ps)) (filter is_in (map (node_at d) ps)))) h ∙ ap (λ l. p.item ∷ l) (items-here d ps h)

  items-other : (d : List ℕ) (ps : List Place) → bytes_eq d domain ≡ false → items_in (map (node_at d) ps) ≡ []
  items-other d [] h = refl
  items-other d (p ∷ ps) h = ap (λ b. map (λ (n : Node). n.item) (cond b (node_at d p ∷ filter is_in (map (node_at d) ps)) (filter is_in (map (node_at d) ps)))) h ∙ items-other d ps h

  items-none : (ds : List (List ℕ)) → number_in ds domain ≡ None → items_in (all_nodes ds) ≡ []
  items-none [] h = refl
  items-none (d ∷ ds) h = items-one d ds ∙ by (items-none ds) (bytes_eq domain d) refl (number_in ds domain) refl (sym (place-cons (bytes_eq domain) d ds) ∙ h)
    where
      by : (number_in ds domain ≡ None → items_in (all_nodes ds) ≡ []) → (b : Bool) → bytes_eq domain d ≡ b → (o : Option ℕ) → number_in ds domain ≡ o → cond b (Some 0) (option_map (λ i. i + 1) o) ≡ None → items_in (map (node_at d) (places_of d)) ++ items_in (all_nodes ds) ≡ []
      by go true e o q r = absurd (not_some 0 r)
      by go false e (Some x) q r = absurd (not_some (x + 1) r)
      by go false e None q r = ap (λ l. l ++ items_in (all_nodes ds)) (items-other d (places_of d) (octets_apart domain d e)) ∙ go q

  items-some : (ds : List (List ℕ)) (k : ℕ) → Distinct ds → number_in ds domain ≡ Some k → items_in (all_nodes ds) ≡ items_of (places_of (get_or ds k []))
  items-some [] k u h = absurd (not_some k (sym h))
  items-some (d ∷ ds) k u h = items-one d ds ∙ by (λ j. items-some ds j u.1) (bytes_eq domain d) refl (number_in ds domain) refl (sym (place-cons (bytes_eq domain) d ds) ∙ h)
    where
      first : (q : ℕ) → bytes_eq domain d ≡ true → 0 ≡ q → items_in (map (node_at d) (places_of d)) ++ items_in (all_nodes ds) ≡ items_of (places_of (get_or (d ∷ ds) q []))
      first zero e z = let is : domain ≡ d = (bytes_decides domain d).0 e in
          ap (λ l. l ++ items_in (all_nodes ds)) (items-here d (places_of d) ((bytes_decides d domain).1 (sym is)))
          ∙ (ap (λ l. items_of (places_of d) ++ l) (items-none ds (absent-none places_of domain [] d ds is u.0)) ∙ append-nil (items_of (places_of d)))
      first (suc q) e z = absurd (omega (arith, z))

      later : (q r : ℕ) → bytes_eq domain d ≡ false → r + 1 ≡ q → items_in (all_nodes ds) ≡ items_of (places_of (get_or ds r [])) → items_in (map (node_at d) (places_of d)) ++ items_in (all_nodes ds) ≡ items_of (places_of (get_or (d ∷ ds) q []))
      later zero r e z g = absurd (omega (arith, z))
      later (suc q) r e z g = let s : r ≡ q = omega (arith, z) in
          ap (λ l. l ++ items_in (all_nodes ds)) (items-other d (places_of d) (octets_apart domain d e)) ∙ (g ∙ ap (λ n. items_of (places_of (get_or ds n []))) s)

      by : ((j : ℕ) → number_in ds domain ≡ Some j → items_in (all_nodes ds) ≡ items_of (places_of (get_or ds j []))) → (b : Bool) → bytes_eq domain d ≡ b → (o : Option ℕ) → number_in ds domain ≡ o → cond b (Some 0) (option_map (λ i. i + 1) o) ≡ Some k
          → items_in (map (node_at d) (places_of d)) ++ items_in (all_nodes ds) ≡ items_of (places_of (get_or (d ∷ ds) k []))
      by go true e o q r = first k e (some_is 0 k r)
      by go false e (Some x) q r = later k x e (some_is (x + 1) k r) (go x q)
      by go false e None q r = absurd (not_some k (sym r))

pub no_variables : (c : Config) (domain after : List ℕ) → number_in (domains c) domain ≡ None → variables_after c domain after ≡ []
no_variables c domain after h = ap (λ l. names_above l after) (items-none (places_in c) domain (domains c) h)

pub variables : (c : Config) (domain after : List ℕ) (k : ℕ) → number_in (domains c) domain ≡ Some k → variables_after c domain after ≡ names_above (items_of (places_in c (domain_at c k))) after
variables c domain after k h = ap (λ l. names_above l after) (items-some (places_in c) domain (domains c) k (distinct-domains [] c.nodes tt) h)

pub unresolved : (c : Config) (domain item : List ℕ) → number_in (domains c) domain ≡ None → node_named (nodes c) domain item ≡ None
unresolved c domain item h = no_domain (places_in c) domain item (domains c) h

pub resolved : (c : Config) (domain item : List ℕ) (k : ℕ) → number_in (domains c) domain ≡ Some k → node_named (nodes c) domain item ≡ option_map (λ i. first_of c k + i) (number_in (items_of (places_in c (domain_at c k))) item)
resolved c domain item k h = at_domain (places_in c) domain item (domains c) k (distinct-domains [] c.nodes tt) h
