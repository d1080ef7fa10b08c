-- A place of a tree stands for what is named at its item and below it.
use Rattle.std.proofs.Common.{◌≡◌, ℕ, zero, suc, ◌<◌, ◌≤◌, ◌==◌, ◌⊎◌, inl, inr, Bool, true, false, cond, ◌&&◌, List, [], ◌∷◌, ◌++◌, length, Some, None, unwrap_or, refl, sym, ap, subst, ◌∙◌, append_assoc, arith, true≢false}
use Rattle.std.specs.List.{find}
use Rattle.std.specs.Option.{option_map}
use Rattle.std.proofs.lemmas.Bool.{and_parts, and_from}
use Rattle.std.proofs.lemmas.Bool.Decides.{nat_tests}
use Rattle.std.proofs.lemmas.List.{append_cancel_left}
use Rattle.bay_model.specs.Model.{several}
use Rattle.bay_model.specs.Generated.{Named}
use Rattle.bay_model.specs.NameTree.{Forest, named, first_name, rest_of, is_itself, below, first_names, role_of, own_type, side_by_side, grown}
use Rattle.bay_model.specs.Places.{Place, place, places, is_data_role, are_data}
use Rattle.list_laws.proofs.Among.{Among}
use Rattle.text_configs.proofs.JoinedLaws.{NoDollar, ArePlain, joined, first, rest, first-alone, first-before, rest-alone, rest-before, first-joined, rest-joined, joined-some}
use Rattle.text_configs.proofs.NamedLaws.{IsBelow, first-of, is-first, below-of, is-below, place_at, deeper, placed}
use Rattle.text_configs.proofs.PlaceLaws.{first-without, dollar-within, item-behind, descend-one}
use Rattle.name_trees.proofs.FrontLaws.{IsFront, Cut, cut, front-first, whole, behind}
use Rattle.cfg_text.proofs.WholeLaws.{empty-is as empty}

abbrev pub moved : List ℕ → Named → Named
moved item n = record n { item = item }

pub not-empty : (item : List ℕ) → 0 < length item → (length item == 0) ≡ false
not-empty item h = grind (arith, nat_tests)

-- what is named at an item or below it comes from what is named
pub record IsFrom (ns : List Named) (item : List ℕ) (m n : Named) : Type 0 where
  pub there : Among n ns
  pub is : m ≡ moved m.item n
  pub at : ((n.item ≡ item) × (m.item ≡ [])) ⊎ (n.item ≡ item ++ 36 ∷ m.item)

pub record IsSub (ns : List Named) (item : List ℕ) (sub : List Named) : Type 0 where
  pub of : (m : Named) → Among m sub → (n : Named) × IsFrom ns item m n
  pub there : (n : Named) → Among n ns → n.item ≡ item → Among (moved [] n) sub
  pub under : (n : Named) (x : List ℕ) → Among n ns → n.item ≡ item ++ 36 ∷ x → Among (moved x n) sub

pub sub-one : (ns : List Named) (a : List ℕ) → NoDollar a → 0 < length a → IsSub ns a (below a ns)
sub-one ns a plain some = record {
  of = λ m i. let b = below-of ns a m i in (b.0, from m b.0 b.1 (cut b.0.item));
  there = λ n i e. subst (λ x. Among (moved x n) (below a ns)) (ap rest e ∙ rest-alone a plain) (is-below ns a n i (not-empty n.item (omega (arith, ap length e, some))) (sym (ap first e ∙ first-alone a plain)));
  under = λ n x i e. subst (λ y. Among (moved y n) (below a ns)) (ap rest e ∙ rest-before a x plain) (is-below ns a n i (not-empty n.item (behind-some n.item x e)) (sym (ap first e ∙ first-before a x plain)));
}
  where
    behind-some : (item x : List ℕ) → item ≡ a ++ 36 ∷ x → 0 < length item
    behind-some item x e = by a some e
      where
        by : (a : List ℕ) → 0 < length a → item ≡ a ++ 36 ∷ x → 0 < length item
        by [] h e = absurd (omega (arith, h))
        by (o ∷ a) h e = omega (arith, ap length e)

    from : (m n : Named) → IsBelow ns a m n → Cut n.item → IsFrom ns a m n
    from m n b (inl h) =
        let left : m.item ≡ rest n.item = ap (λ (x : Named). x.item) b.left in
        record { there = b.there; is = b.left ∙ ap (λ x. moved x n) (sym left); at = inl (sym (b.is ∙ first-alone n.item h), left ∙ rest-alone n.item h) }
    from m n b (inr h) =
        let left : m.item ≡ rest n.item = ap (λ (x : Named). x.item) b.left in
        let head : a ≡ h.0 = b.is ∙ (ap first h.3 ∙ first-before h.0 h.1 h.2) in
        let tail : m.item ≡ h.1 = left ∙ (ap rest h.3 ∙ rest-before h.0 h.1 h.2) in
        record { there = b.there; is = b.left ∙ ap (λ x. moved x n) (sym left); at = inr (h.3 ∙ (ap (λ x. x ++ 36 ∷ h.1) (sym head) ∙ ap (λ y. a ++ 36 ∷ y) (sym tail))) }

pub sub-more : (ns mid sub : List Named) (a g : List ℕ) → 0 < length g → IsSub ns a mid → IsSub mid g sub → IsSub ns (a ++ 36 ∷ g) sub
sub-more ns mid sub a g some t s = record {
  of = λ m i. let u = s.of m i in let v = t.of u.0 u.1.there in (v.0, from m u.0 v.0 u.1 v.1 v.1.at u.1.at);
  there = λ n i e. s.there (moved g n) (t.under n g i e) refl;
  under = λ n x i e. s.under (moved (g ++ 36 ∷ x) n) x (t.under n (g ++ 36 ∷ x) i (e ∙ append_assoc a (36 ∷ g) (36 ∷ x))) refl;
}
  where
    none : (g x item : List ℕ) → 0 < length g → item ≡ [] → item ≡ g ++ 36 ∷ x → ⊥
    none [] x item h e f = absurd (omega (arith, h))
    none (o ∷ g) x item h e f = absurd (omega (arith, ap length (sym e ∙ f)))

    from : (m k n : Named) → IsFrom mid g m k → IsFrom ns a k n → ((n.item ≡ a) × (k.item ≡ [])) ⊎ (n.item ≡ a ++ 36 ∷ k.item) → ((k.item ≡ g) × (m.item ≡ [])) ⊎ (k.item ≡ g ++ 36 ∷ m.item) → IsFrom ns (a ++ 36 ∷ g) m n
    from m k n u v (inl e) (inl f) = absurd (omega (arith, some, ap length (sym e.1 ∙ f.0)))
    from m k n u v (inl e) (inr f) = absurd (none g m.item k.item some e.1 f)
    from m k n u v (inr e) (inl f) = record { there = v.there; is = u.is ∙ ap (moved m.item) v.is; at = inl (e ∙ ap (λ x. a ++ 36 ∷ x) f.0, f.1) }
    from m k n u v (inr e) (inr f) = record { there = v.there; is = u.is ∙ ap (moved m.item) v.is; at = inr (e ∙ (ap (λ x. a ++ 36 ∷ x) f ∙ sym (append_assoc a (36 ∷ g) (36 ∷ m.item)))) }

abbrev pub AreWithin : ℕ → List Named → Type 0
AreWithin levels ns = (n : Named) → Among n ns → length n.item ≤ levels

pub within-one : (ns : List Named) (a : List ℕ) (l : ℕ) (sub : List Named) → IsSub ns a sub → AreWithin (suc l) ns → AreWithin l sub
within-one ns a l sub s h m i = let u = s.of m i in by u.0 (h u.0 u.1.there) u.1.at
  where
    longer : (a item x : List ℕ) → item ≡ a ++ 36 ∷ x → suc (length x) ≤ length item
    longer [] item x e = omega (arith, ap length e)
    longer (o ∷ a) [] x e = absurd (omega (arith, ap length e))
    longer (o ∷ a) (p ∷ item) x e = omega (arith, longer a (a ++ 36 ∷ x) x refl, ap length e)

    by : (n : Named) → length n.item ≤ suc l → ((n.item ≡ a) × (m.item ≡ [])) ⊎ (n.item ≡ a ++ 36 ∷ m.item) → length m.item ≤ l
    by n le (inl e) = omega (arith, ap length e.1)
    by n le (inr e) = omega (arith, le, longer a n.item m.item e)

-- what a place stands for
pub record IsPlaceOf (levels : ℕ) (before item : List ℕ) (ns : List Named) (p : Place) : Type 0 where
  pub level : ℕ
  pub sub : List Named
  pub is_sub : IsSub ns item sub
  pub is : p ≡ place (before ++ item) (role_of sub) (own_type sub) (grown level sub)
  pub within : AreWithin levels ns → AreWithin level sub

pub place-of : (names : List (List ℕ)) (levels : ℕ) (before : List ℕ) (ns : List Named) (p : Place) → ArePlain names → 0 < length names → Among p (places before (grown levels ns)) → p.item ≡ before ++ joined names → IsPlaceOf levels before (joined names) ns p
place-of [] levels before ns p plain some i is = absurd (omega (arith, some))
place-of (a ∷ names) zero before ns p plain some i is = absurd i
place-of (a ∷ []) (suc l) before ns p plain some i is = let s = placed before l ns p i in let n = first-of ns s.0 s.1.name in by s.0 (subst NoDollar (sym n.1.is) (first-without n.0.item)) s.1.at
  where
    here : (f : List ℕ) → p ≡ place_at before l ns f → f ≡ a → IsPlaceOf (suc l) before a ns p
    here f e same = let one = sub-one ns a plain.0.1 plain.0.0 in record { level = l; sub = below a ns; is_sub = one; is = e ∙ ap (place_at before l ns) same; within = within-one ns a l (below a ns) one }

    by : (f : List ℕ) → NoDollar f → (p ≡ place_at before l ns f) ⊎ Among p (deeper before l ns f) → IsPlaceOf (suc l) before a ns p
    by f without (inl e) = here f e (append_cancel_left before f a (sym (ap (λ (q : Place). q.item) e) ∙ is))
    by f without (inr j) =
        let g = item-behind (before ++ f ++ 36 ∷ []) (grown l (below f ns)) p j in
        let same : f ++ 36 ∷ g.0 ≡ a = append_cancel_left before (f ++ 36 ∷ g.0) a (sym (g.1 ∙ (append_assoc (before ++ f) (36 ∷ []) g.0 ∙ append_assoc before f (36 ∷ g.0))) ∙ is) in
        absurd (dollar-within f g.0 (subst NoDollar (sym same) plain.0.1))
place-of (a ∷ b ∷ more) (suc l) before ns p plain some i is =
    let apart : before ++ (a ++ 36 ∷ joined (b ∷ more)) ≡ (before ++ a ++ 36 ∷ []) ++ joined (b ∷ more) = sym (append_assoc (before ++ a) (36 ∷ []) (joined (b ∷ more)) ∙ append_assoc before a (36 ∷ joined (b ∷ more))) in
    let go = place-of (b ∷ more) l (before ++ a ++ 36 ∷ []) (below a ns) p plain.1 (omega arith) (descend-one before l ns p a b more plain.0.1 is i) (is ∙ apart) in
    let one = sub-one ns a plain.0.1 plain.0.0 in
    record {
      level = go.level;
      sub = go.sub;
      is_sub = sub-more ns (below a ns) go.sub a (joined (b ∷ more)) (joined-some b more plain.1.0.0) one go.is_sub;
      is = go.is ∙ ap (λ x. place x (role_of go.sub) (own_type go.sub) (grown go.level go.sub)) (sym apart);
      within = λ h. go.within (within-one ns a l (below a ns) one h);
    }

-- ---- what ends at an item

pub record IsEnd (ns : List Named) (m : Named) : Type 0 where
  pub there : Among m ns
  pub ends : is_itself m ≡ true
  pub found : find is_itself ns ≡ Some m

pub record IsOpen (ns : List Named) : Type 0 where
  pub longer : (m : Named) → Among m ns → is_itself m ≡ false
  pub found : find is_itself ns ≡ None

pub ends-or-not : (ns : List Named) → ((m : Named) × IsEnd ns m) ⊎ IsOpen ns
ends-or-not [] = inr (record { longer = λ m i. absurd i; found = refl })
ends-or-not (n ∷ ns) = by (is_itself n) refl (ends-or-not ns)
  where
    either_of : is_itself n ≡ false → ((m : Named) → Among m ns → is_itself m ≡ false) → (m : Named) → (m ≡ n) ⊎ Among m ns → is_itself m ≡ false
    either_of e h m (inl s) = ap is_itself s ∙ e
    either_of e h m (inr i) = h m i

    by : (b : Bool) → is_itself n ≡ b → ((m : Named) × IsEnd ns m) ⊎ IsOpen ns → ((m : Named) × IsEnd (n ∷ ns) m) ⊎ IsOpen (n ∷ ns)
    by true e go = inl (n, record { there = inl refl; ends = e; found = ap (λ b. cond b (Some n) (find is_itself ns)) e })
    by false e (inl h) = inl (h.0, record { there = inr h.1.there; ends = h.1.ends; found = ap (λ b. cond b (Some n) (find is_itself ns)) e ∙ h.1.found })
    by false e (inr h) = inr (record { longer = either_of e h.longer; found = ap (λ b. cond b (Some n) (find is_itself ns)) e ∙ h.found })

-- ---- what may be a member

abbrev pub AreData : List Named → Type 0
AreData ns = (n : Named) → Among n ns → is_data_role n.role ≡ true

pub role-data : (ns : List Named) → AreData ns → is_data_role (role_of ns) ≡ true
role-data ns h = by (ends-or-not ns)
  where
    by : ((m : Named) × IsEnd ns m) ⊎ IsOpen ns → is_data_role (role_of ns) ≡ true
    by (inl m) = ap (λ o. is_data_role (unwrap_or (option_map (λ (n : Named). n.role) o) several)) m.1.found ∙ h m.0 m.1.there
    by (inr o) = ap (λ o. is_data_role (unwrap_or (option_map (λ (n : Named). n.role) o) several)) o.found

below-data : (ns : List Named) (f : List ℕ) → AreData ns → AreData (below f ns)
below-data ns f h m i = let b = below-of ns f m i in ap (λ (x : Named). is_data_role x.role) b.1.left ∙ h b.0 b.1.there

abbrev side : ℕ → List Named → List (List ℕ) → Forest
side l ns names = side_by_side (λ name others. named name (role_of (below name ns)) (own_type (below name ns)) (grown l (below name ns)) others) names

pub all-data : (l : ℕ) (ns : List Named) → AreData ns → are_data (grown l ns) ≡ true
all-data zero ns h = refl
all-data (suc l) ns h = by (first_names ns) (λ f. all-data l (below f ns) (below-data ns f h))
  where
    by : (names : List (List ℕ)) → ((f : List ℕ) → are_data (grown l (below f ns)) ≡ true) → are_data (side l ns names) ≡ true
    by [] go = refl
    by (f ∷ fs) go = and_from (is_data_role (role_of (below f ns)) && are_data (grown l (below f ns))) (are_data (side l ns fs))
        (and_from (is_data_role (role_of (below f ns))) (are_data (grown l (below f ns))) (role-data (below f ns) (below-data ns f h)) (go f)) (by fs go)

-- what is named at an item or below it holds data
pub record IsSeen (ns : List Named) (item : List ℕ) : Type 0 where
  pub name : Named
  pub there : Among name ns
  pub front : IsFront item name.item
  pub data_role : is_data_role name.role ≡ true

ended-data : (ns : List Named) (n : Named) → Among n ns → is_itself n ≡ true → is_data_role (role_of ns) ≡ true → (m : Named) × Among m ns × (is_data_role m.role ≡ true) × (is_itself m ≡ true)
ended-data ns n i is h = by (ends-or-not ns)
  where
    by : ((m : Named) × IsEnd ns m) ⊎ IsOpen ns → (m : Named) × Among m ns × (is_data_role m.role ≡ true) × (is_itself m ≡ true)
    by (inl m) = (m.0, m.1.there, sym (ap (λ o. is_data_role (unwrap_or (option_map (λ (n : Named). n.role) o) several)) m.1.found) ∙ h, m.1.ends)
    by (inr o) = absurd (true≢false (sym is ∙ o.longer n i))

pub record IsDataSide (l : ℕ) (ns : List Named) (f : List ℕ) : Type 0 where
  pub role : is_data_role (role_of (below f ns)) ≡ true
  pub parts : are_data (grown l (below f ns)) ≡ true

side-data : (l : ℕ) (ns : List Named) (names : List (List ℕ)) (f : List ℕ) → are_data (side l ns names) ≡ true → Among f names → IsDataSide l ns f
side-data l ns [] f h i = absurd i
side-data l ns (g ∷ gs) f h i = by (and_parts (is_data_role (role_of (below g ns)) && are_data (grown l (below g ns))) (are_data (side l ns gs)) h) i (λ k j. side-data l ns gs f k j)
  where
    by : (is_data_role (role_of (below g ns)) && are_data (grown l (below g ns)) ≡ true) × (are_data (side l ns gs) ≡ true) → (f ≡ g) ⊎ Among f gs → (are_data (side l ns gs) ≡ true → Among f gs → IsDataSide l ns f) → IsDataSide l ns f
    by b (inl e) go = let c = and_parts (is_data_role (role_of (below g ns))) (are_data (grown l (below g ns))) b.0 in subst (IsDataSide l ns) (sym e) (record { role = c.0; parts = c.1 })
    by b (inr j) go = go b.1 j

data-seen : (l : ℕ) (ns : List Named) (names : List (List ℕ)) (n : Named) → are_data (grown l ns) ≡ true → AreWithin l ns → Among n ns → n.item ≡ joined names → ArePlain names → 0 < length names → IsSeen ns n.item
data-seen l ns [] n h within i is plain some = absurd (omega (arith, some))
data-seen zero ns (a ∷ names) n h within i is plain some = absurd (omega (arith, within n i, ap length is, joined-some a names plain.0.0))
data-seen (suc l) ns (a ∷ names) n h within i is plain some = by names is plain.1 (λ names m k j e p s. data-seen l (below a ns) names m k (within-one ns a l (below a ns) (sub-one ns a plain.0.1 plain.0.0) within) j e p s)
  where
    longer : is_itself n ≡ false
    longer = not-empty n.item (omega (arith, ap length is, joined-some a names plain.0.0))

    name : a ≡ first_name n
    name = sym (ap first is ∙ first-joined a names plain.0.1)

    data_side : IsDataSide l ns a
    data_side = side-data l ns (first_names ns) a h (subst (λ f. Among f (first_names ns)) (sym name) (is-first ns n i longer))

    down : Among (rest_of n) (below a ns)
    down = is-below ns a n i longer name

    here : n.item ≡ a → is_itself (rest_of n) ≡ true → IsSeen ns n.item
    here e ends =
        let m = ended-data (below a ns) (rest_of n) down ends data_side.role in
        let b = below-of ns a m.0 m.1 in
        record { name = b.0; there = b.1.there; front = subst (λ x. IsFront x b.0.item) (sym (e ∙ b.1.is)) (front-first b.0.item); data_role = sym (ap (λ (x : Named). is_data_role x.role) b.1.left) ∙ m.2 }

    further : (x : List ℕ) → 0 < length x → n.item ≡ a ++ 36 ∷ x → IsSeen (below a ns) x → IsSeen ns n.item
    further x long e g =
        let b = below-of ns a g.name g.there in
        let left : g.name.item ≡ rest b.0.item = ap (λ (y : Named). y.item) b.1.left in
        let full : b.0.item ≡ a ++ 36 ∷ g.name.item = whole b.0.item (not-empty (rest b.0.item) (omega (arith, ap length (sym left), front-some x g.name.item long g.front))) ∙ (ap (λ l. l ++ 36 ∷ rest b.0.item) (sym b.1.is) ∙ ap (λ l. a ++ 36 ∷ l) (sym left)) in
        record { name = b.0; there = b.1.there; front = subst (λ y. IsFront y b.0.item) (sym e) (behind a x g.name g.front b.0.item full); data_role = sym (ap (λ (y : Named). is_data_role y.role) b.1.left) ∙ g.data_role }
      where
        front-some : (x item : List ℕ) → 0 < length x → IsFront x item → 0 < length item
        front-some x item h (inl e) = omega (arith, h, ap length e)
        front-some [] item h (inr e) = absurd (omega (arith, h))
        front-some (o ∷ x) item h (inr e) = omega (arith, ap length e.1)

    by : (names : List (List ℕ)) → n.item ≡ joined (a ∷ names) → ArePlain names
        → ((names : List (List ℕ)) (m : Named) → are_data (grown l (below a ns)) ≡ true → Among m (below a ns) → m.item ≡ joined names → ArePlain names → 0 < length names → IsSeen (below a ns) m.item) → IsSeen ns n.item
    by [] e plains go = here e (ap (λ x. length x == 0) (ap rest e ∙ rest-alone a plain.0.1))
    by (b ∷ more) e plains go =
        let left : rest n.item ≡ joined (b ∷ more) = ap rest e ∙ rest-joined a (b ∷ more) plain.0.1 in
        further (joined (b ∷ more)) (joined-some b more plains.0.0) e (subst (IsSeen (below a ns)) left (go (b ∷ more) (rest_of n) data_side.parts down left plains (omega arith)))

-- of a place whose parts all hold data, what is named there, alone or before others
pub place-seen : (l : ℕ) (sub : List Named) (names : List (List ℕ)) (m : Named) → is_data_role (role_of sub) && are_data (grown l sub) ≡ true → AreWithin l sub → Among m sub → m.item ≡ joined names → ArePlain names → IsSeen sub m.item
place-seen l sub [] m h within i is plain = let e = ended-data sub m i (ap (λ x. length x == 0) is) (and_parts (is_data_role (role_of sub)) (are_data (grown l sub)) h).0 in
    record { name = e.0; there = e.1; front = inl (empty e.0.item e.3 ∙ sym is); data_role = e.2 }
place-seen l sub (a ∷ names) m h within i is plain = data-seen l sub (a ∷ names) m (and_parts (is_data_role (role_of sub)) (are_data (grown l sub)) h).1 within i is plain (omega arith)
