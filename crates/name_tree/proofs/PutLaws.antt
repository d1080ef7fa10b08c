-- The group of a name by its place.
use Rattle.std.proofs.Common.{◌≡◌, ℕ, zero, suc, ◌+◌, ◌-◌, ◌<◌, take, take_all, length-append, length-take, Bool, true, false, cond, List, [], ◌∷◌, ◌++◌, map, length, get_or, set, Option, None, Some, refl, sym, ap, subst, ◌∙◌, arith, if◌then◌else◌}
use Rattle.std.specs.Str.{bytes_eq}
use Rattle.std.specs.Option.{option_map, option_or}
use Rattle.std.proofs.Math.Seq.{map-set_same, take-append_seam}
use Rattle.bay_model.specs.Generated.{Named}
use Rattle.name_tree.specs.Groups.{Group, group_name, group_at, with_cut, put, AreGroups, PlacesFront}
use Rattle.name_tree.proofs.GroupLaws.{distinct}
use Rattle.bay_model.specs.NameTree.{first_names}
use Rattle.name_leaves.specs.Numbers.{number_in, number_or}
use Rattle.name_leaves.specs.Indexes.{PlacesOf}
use Rattle.name_leaves.specs.declared.places.Places.{Places}
use Rattle.std.proofs.lemmas.List.{map-append, length-map, take_more}
use Rattle.list_laws.proofs.Options.{some_is, not_some}
use Rattle.list_laws.proofs.Places.{place-cons, position-push}
use Rattle.list_laws.proofs.Distinct.{Absent, Distinct, octets_same, octets_equal}

abbrev pub place_of : List Group → List ℕ → Option ℕ
place_of gs name = number_in (map group_name gs) name

-- where the name has a group
pub record PutAt (gs : List Group) (name : List ℕ) (rest : Named) (p : ℕ) : Type 0 where
  pub within : p < length gs
  pub is : (d : Group) → set gs p (with_cut (get_or gs p d) rest) ≡ put gs name rest

pub put-at : (gs : List Group) (name : List ℕ) (rest : Named) (p : ℕ) → place_of gs name ≡ Some p → PutAt gs name rest p
put-at [] name rest p e = absurd (not_some p (sym e))
put-at (g ∷ gs) name rest p e = by (λ r a. put-at gs name rest r a) (bytes_eq name g.name) refl (place_of gs name) refl (sym (place-cons (bytes_eq name) g.name (map group_name gs)) ∙ e)
  where
    here : (q : ℕ) → bytes_eq name g.name ≡ true → 0 ≡ q → PutAt (g ∷ gs) name rest q
    here zero h z = record { within = omega arith; is = λ d. ap (λ b. if b then with_cut g rest ∷ gs else g ∷ put gs name rest) (sym h) }
    here (suc q) h z = absurd (omega (arith, z))

    there : (q r : ℕ) → bytes_eq name g.name ≡ false → PutAt gs name rest r → r + 1 ≡ q → PutAt (g ∷ gs) name rest q
    there zero r h a z = absurd (omega (arith, z))
    there (suc q) r h a z = let s : q ≡ r = omega (arith, z) in record {
      within = omega (arith, a.within, s);
      is = λ d. ap (λ n. g ∷ set gs n (with_cut (get_or gs n d) rest)) s ∙ (ap (λ l. g ∷ l) (a.is d) ∙ ap (λ b. if b then with_cut g rest ∷ gs else g ∷ put gs name rest) (sym h));
    }

    by : ((r : ℕ) → place_of gs name ≡ Some r → PutAt gs name rest r) → (b : Bool) → bytes_eq name g.name ≡ b → (o : Option ℕ) → place_of gs name ≡ o → cond b (Some 0) (option_map (λ n. n + 1) o) ≡ Some p → PutAt (g ∷ gs) name rest p
    by go true h o r q = here p h (some_is 0 p q)
    by go false h (Some r) a q = there p r h (go r a) (some_is (r + 1) p q)
    by go false h None a q = absurd (not_some p (sym q))

-- where it has none
pub put-none : (gs : List Group) (name : List ℕ) (rest : Named) → place_of gs name ≡ None → put gs name rest ≡ gs ++ record { name = name; names = rest ∷ [] } ∷ []
put-none [] name rest e = refl
put-none (g ∷ gs) name rest e = by (λ a. put-none gs name rest a) (bytes_eq name g.name) (place_of gs name) refl (sym (place-cons (bytes_eq name) g.name (map group_name gs)) ∙ e)
  where
    by : (place_of gs name ≡ None → put gs name rest ≡ gs ++ record { name = name; names = rest ∷ [] } ∷ []) → (b : Bool) (o : Option ℕ) → place_of gs name ≡ o → cond b (Some 0) (option_map (λ n. n + 1) o) ≡ None → (if b then with_cut g rest ∷ gs else g ∷ put gs name rest) ≡ g ∷ (gs ++ record { name = name; names = rest ∷ [] } ∷ [])
    by go true o h q = absurd (not_some 0 q)
    by go false (Some r) h q = absurd (not_some (r + 1) q)
    by go false None h q = ap (λ l. g ∷ l) (go h)

-- the names of the groups stay
pub names-stay : (gs : List Group) (rest : Named) (p : ℕ) (d : Group) → map group_name (set gs p (with_cut (get_or gs p d) rest)) ≡ map group_name gs
names-stay gs rest p d = map-set_same group_name gs p (with_cut (get_or gs p d) rest) d refl

-- all but the last of a list
front-of : {X : Type 0} (xs : List X) (x : X) → take (length (xs ++ x ∷ []) - 1) (xs ++ x ∷ []) ≡ xs
front-of xs x = ap (λ n. take n (xs ++ x ∷ [])) (omega (arith, length-append xs (x ∷ []))) ∙ take-append_seam xs (x ∷ [])

abbrev front : List Group → List (List ℕ)
front gs = take (length (map group_name gs) - 1) (map group_name gs)

-- the names of groups are those of all but the last, and the last one's
names-front : (gs : List Group) (last : Group) → 0 < length gs → last ≡ get_or gs (length gs - 1) last → map group_name gs ≡ front gs ++ last.name ∷ []
names-front gs last h e =
    let split : gs ≡ take (length gs - 1) gs ++ last ∷ [] = sym (take_all (length gs - 1 + 1) gs (omega (arith, h))) ∙ (take_more gs (length gs - 1) last (omega (arith, h)) ∙ ap (λ x. take (length gs - 1) gs ++ x ∷ []) (sym e)) in
    let names : map group_name gs ≡ map group_name (take (length gs - 1) gs) ++ last.name ∷ [] = ap (map group_name) split ∙ map-append group_name (take (length gs - 1) gs) (last ∷ []) in
    names ∙ ap (λ l. l ++ last.name ∷ []) (sym (ap (λ l. take (length l - 1) l) names ∙ front-of (map group_name (take (length gs - 1) gs)) last.name))

count-front : (gs : List Group) → 0 < length gs → length (front gs) ≡ length gs - 1
count-front gs h = omega (arith, h, length-take (length (map group_name gs) - 1) (map group_name gs), length-map gs group_name)

-- the place of a name is that among all but the last, else the last
place-split : (gs : List Group) (last : Group) (name : List ℕ) → 0 < length gs → last ≡ get_or gs (length gs - 1) last → place_of gs name ≡ number_or (number_in (front gs) name) (bytes_eq name last.name) (length gs - 1)
place-split gs last name h e = ap (λ l. number_in l name) (names-front gs last h e) ∙ (position-push (bytes_eq name) (front gs) last.name
    ∙ ap (λ n. number_or (number_in (front gs) name) (bytes_eq name last.name) n) (count-front gs h))

-- the last of names that stand once each is not among those before it
absent-last : (m n : List ℕ) (ms : List (List ℕ)) → Absent m (ms ++ n ∷ []) → bytes_eq n m ≡ false
absent-last m n [] a = a.0
absent-last m n (k ∷ ms) a = absent-last m n ms a.1

not-before : (names : List (List ℕ)) (n : List ℕ) → Distinct (names ++ n ∷ []) → number_in names n ≡ None
not-before [] n d = refl
not-before (m ∷ ms) n d = place-cons (bytes_eq n) m ms ∙ (ap (λ b. cond b (Some 0) (option_map (λ i. i + 1) (number_in ms n))) (absent-last m n ms d.0) ∙ ap (λ o. option_map (λ i. i + 1) o) (not-before ms n d.1))

names-of : (ns : List Named) (names : List (List ℕ)) → map group_name (map (group_at ns) names) ≡ names
names-of ns [] = refl
names-of ns (n ∷ names) = ap (λ l. n ∷ l) (names-of ns names)

distinct-groups : (gs : List Group) → AreGroups gs → Distinct (map group_name gs)
distinct-groups gs are = subst Distinct (sym (ap (map group_name) are.1 ∙ names-of are.0 (first_names are.0))) (distinct are.0)

pub none-before : (gs : List Group) (last : Group) (name : List ℕ) → AreGroups gs → 0 < length gs → last ≡ get_or gs (length gs - 1) last → bytes_eq name last.name ≡ true → number_in (front gs) name ≡ None
none-before gs last name are h e t = ap (number_in (front gs)) (octets_same name last.name t) ∙ not-before (front gs) last.name (subst Distinct (names-front gs last h e) (distinct-groups gs are))

pub place-end : (gs : List Group) (last : Group) (name : List ℕ) → AreGroups gs → 0 < length gs → last ≡ get_or gs (length gs - 1) last → bytes_eq name last.name ≡ true → Some (length gs - 1) ≡ place_of gs name
place-end gs last name are h e t = sym (place-split gs last name h e ∙ (ap (λ o. number_or o (bytes_eq name last.name) (length gs - 1)) (none-before gs last name are h e t) ∙ ap (λ b. if b then Some (length gs - 1) else None) t))

-- the place of another name is that among all but the last
or-none : (o : Option ℕ) → o ≡ option_or o None
or-none (Some n) = refl
or-none None = refl

pub place-front : (gs : List Group) (last : Group) (name : List ℕ) → 0 < length gs → last ≡ get_or gs (length gs - 1) last → bytes_eq name last.name ≡ false → number_in (front gs) name ≡ place_of gs name
place-front gs last name h e f = or-none (number_in (front gs) name) ∙ sym (place-split gs last name h e ∙ ap (λ b. number_or (number_in (front gs) name) b (length gs - 1)) f)

-- the places of all but the last, and then of the last
pub empty_front : (places : Places) (gs : List Group) → length gs < 1 → PlacesFront places (map group_name gs) → PlacesOf places (map group_name gs)
empty_front places [] h is = is
empty_front places (g ∷ gs) h is = absurd (omega (arith, h))

pub names-last : (old new : Places) (gs : List Group) (last : Group) (name : List ℕ) (n : ℕ) → 0 < length gs → last ≡ get_or gs (length gs - 1) last → name ≡ last.name → n ≡ length gs - 1 → PlacesFront old (map group_name gs)
    → ((names : List (List ℕ)) → PlacesOf old names → n ≡ length names → PlacesOf new (names ++ name ∷ [])) → PlacesOf new (map group_name gs)
names-last old new gs last name n h e is k found step = λ other. step (front gs) found (omega (arith, k, count-front gs h)) other ∙ ap (λ l. number_in l other) (ap (λ x. front gs ++ x ∷ []) is ∙ sym (names-front gs last h e))

pub more-front : (places : Places) (gs more : List Group) (g : Group) → more ≡ gs ++ g ∷ [] → PlacesOf places (map group_name gs) → PlacesFront places (map group_name more)
more-front places gs more g e is = λ other. is other ∙ ap (λ l. number_in l other) (sym (ap front e ∙ (ap (λ l. take (length l - 1) l) (map-append group_name gs (g ∷ [])) ∙ front-of (map group_name gs) g.name)))
