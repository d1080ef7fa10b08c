-- Names, paths and references: what the reading tests, and what the format says.
use Rattle.std.proofs.Common.{◌≡◌, ℕ, zero, suc, ◌<◌, ◌≤◌, ◌⊎◌, ◌↔◌, inl, inr, Bool, true, false, cond, ◌&&◌, ◌||◌, not, List, [], ◌∷◌, ◌++◌, length, take, drop, get_or, nat_lt, nat_le, ◌==◌, length-append, refl, sym, ap, ◌∙◌, arith, true≢false}
use Rattle.std.specs.Prelude.{codes}
use Rattle.std.specs.List.{All, list_all, list_any, count_by, join_with_byte, slice_split}
use Rattle.std.specs.Str.{bytes_eq}
use Rattle.std.proofs.lemmas.Bool.{and_parts, and_from, or_cases, or_left, or_right, leb-true, le-leb, le-ltb, ltb-false, eqb-true, false_from_ne_true, not_from_false, not-true, false≢true}
use Rattle.std.proofs.lemmas.Bool.Decides.{nat_tests}
use Rattle.std.proofs.lemmas.List.Splits.{slice_split_at, slice_split_none, join_with_byte-slice_split, length-slice_split}
use Rattle.std.proofs.lemmas.Slice.Eq.{bytes_eq-Decides}
use Rattle.text_words.specs.Names.{is_letter, is_name_octet, is_dollar, is_slash, is_name, is_path, are_member, is_member, is_fc}
use Rattle.cfg_lines.specs.Keys.{is_among}
use Rattle.cfg_lines.specs.Paths.{below, above_within, above, clashes, is_taken}
use Rattle.cfg_lines.specs.Nodes.{reaches, leaves, leaf_names, closed, is_node, is_member_node}
use Rattle.cfg_lines.specs.Sizes.{octets_of, leaf_octets, children}
use Rattle.cfg_lines.proofs.PathLaws.{above-found}
use Rattle.cfg_lines.specs.declared.line.Line.{Line}
use Rattle.cfg_laws.specs.Names.{AnyIs, IsAmong, IsName, AreNames, IsPath, IsReference, IsConstraint, IsAbove, Clashes, IsTaken, Reaches}
use Rattle.cfg_laws.specs.Texts.{IsNode, MayBeMember}

-- one of these passes a test
pub any-is : {X : Type 0} (p : X → Bool) (P : X → Type 0) → ((x : X) → (p x ≡ true) ↔ P x) → (xs : List X) → (list_any p xs ≡ true) ↔ AnyIs P xs
any-is p P is [] = (λ e. absurd (false≢true e), λ a. absurd a)
any-is p P is (x ∷ xs) = let more = any-is p P is xs in (λ e. there (or_cases (p x) (list_any p xs) e) more.0, λ a. back a more.1)
  where
    there : (p x ≡ true) ⊎ (list_any p xs ≡ true) → (list_any p xs ≡ true → AnyIs P xs) → AnyIs P (x ∷ xs)
    there (inl e) more = inl ((is x).0 e)
    there (inr e) more = inr (more e)

    back : AnyIs P (x ∷ xs) → (AnyIs P xs → list_any p xs ≡ true) → list_any p (x ∷ xs) ≡ true
    back (inl a) more = or_left _ _ ((is x).1 a)
    back (inr a) more = or_right (p x) _ (more a)

pub none-is : (b : Bool) (P : Type 0) → ((b ≡ true) ↔ P) → (b ≡ false) ↔ (P → ⊥)
none-is b P is = (λ e a. true≢false (sym (is.1 a) ∙ e), λ never. false_from_ne_true b (λ e. never (is.0 e)))

pub among-is : (keys : List (List ℕ)) (key : List ℕ) → (is_among keys key ≡ true) ↔ IsAmong keys key
among-is keys key = any-is (λ k. bytes_eq key k) (λ k. key ≡ k) (λ k. ((bytes_eq-Decides key k).0, (bytes_eq-Decides key k).1)) keys

pub constraint-is : (fc : List ℕ) → (is_fc fc ≡ true) ↔ IsConstraint fc
constraint-is fc = among-is (codes "ST" ∷ codes "MX" ∷ codes "CF" ∷ codes "DC" ∷ codes "SP" ∷ codes "SV" ∷ codes "SG" ∷ codes "EX" ∷ []) fc

pub name-is : (word : List ℕ) → (is_name word ≡ true) ↔ IsName word
name-is [] = (λ e. absurd (false≢true e), λ is. absurd cc is.2)
name-is (octet ∷ octets) = (there, back)
  where
    there : is_name (octet ∷ octets) ≡ true → IsName (octet ∷ octets)
    there e =
        let outer = and_parts (is_letter octet && list_all is_name_octet octets) (nat_le (length octets) 31) e in
        let inner = and_parts (is_letter octet) (list_all is_name_octet octets) outer.0 in
        (octet, octets, refl, inner.0, inner.1, leb-true (length octets) 31 outer.1)

    back : IsName (octet ∷ octets) → is_name (octet ∷ octets) ≡ true
    back (letter, more, same, first, rest, few) = ap is_name same ∙ and_from _ _ (and_from _ _ first rest) (le-leb (length more) 31 few)

-- no `$` and no `/` stands in a name
plain-octet : (octet : ℕ) → is_name_octet octet ≡ true → (is_dollar octet ≡ false) × (is_slash octet ≡ false)
plain-octet octet e = (grind (arith, nat_tests), grind (arith, nat_tests))

letter-octet : (octet : ℕ) → is_letter octet ≡ true → is_name_octet octet ≡ true
letter-octet octet e = or_left _ _ (or_left _ _ e)

plain-octets : (p : ℕ → Bool) → ((octet : ℕ) → is_name_octet octet ≡ true → p octet ≡ false) → (octets : List ℕ) → list_all is_name_octet octets ≡ true → All (λ octet. p octet ≡ false) octets
plain-octets p one [] e k d lt = absurd (omega (arith, lt))
plain-octets p one (octet ∷ octets) e zero d lt = one octet (and_parts _ _ e).0
plain-octets p one (octet ∷ octets) e (suc k) d lt = plain-octets p one octets (and_parts _ _ e).1 k d (omega (arith, lt))

name-octets : (name : List ℕ) → IsName name → list_all is_name_octet name ≡ true
name-octets name (letter, more, same, first, rest, few) = ap (list_all is_name_octet) same ∙ and_from _ _ (letter-octet letter first) rest

name-without : (p : ℕ → Bool) → ((octet : ℕ) → is_name_octet octet ≡ true → p octet ≡ false) → (name : List ℕ) → IsName name → All (λ octet. p octet ≡ false) name
name-without p one name is = plain-octets p one name (name-octets name is)

-- paths
all-names : (names : List (List ℕ)) → (list_all is_name names ≡ true) ↔ AreNames names
all-names [] = (λ e. tt, λ a. refl)
all-names (name ∷ names) = (λ e. let both = and_parts (is_name name) (list_all is_name names) e in ((name-is name).0 both.0, (all-names names).0 both.1), λ a. and_from _ _ ((name-is name).1 a.0) ((all-names names).1 a.1))

split-names : (name : List ℕ) (names : List (List ℕ)) → AreNames (name ∷ names) → slice_split is_dollar (join_with_byte 36 (name ∷ names)) ≡ name ∷ names
split-names name [] are = slice_split_none is_dollar name (name-without is_dollar (λ o e. (plain-octet o e).0) name are.0)
split-names name (next ∷ names) are = slice_split_at is_dollar name 36 (join_with_byte 36 (next ∷ names)) (name-without is_dollar (λ o e. (plain-octet o e).0) name are.0) refl
    ∙ ap (λ (ns : List (List ℕ)). name ∷ ns) (split-names next names are.1)

pub path-is : (path : List ℕ) → (is_path path ≡ true) ↔ IsPath path
path-is path = (λ e. there (slice_split is_dollar path) refl e, back)
  where
    there : (names : List (List ℕ)) → slice_split is_dollar path ≡ names → list_all is_name names ≡ true → IsPath path
    there [] split e = absurd (omega (arith, length-slice_split is_dollar path, ap length split))
    there (name ∷ names) split e = (name, names, sym (join_with_byte-slice_split 36 path) ∙ ap (join_with_byte 36) split, (all-names (name ∷ names)).0 e)

    back : IsPath path → is_path path ≡ true
    back (name, names, same, are) = ap (λ p. list_all is_name (slice_split is_dollar p)) same ∙ (ap (list_all is_name) (split-names name names are) ∙ (all-names (name ∷ names)).1 are)

-- references
joined-without : (name : List ℕ) (names : List (List ℕ)) → AreNames (name ∷ names) → slice_split is_slash (join_with_byte 36 (name ∷ names)) ≡ join_with_byte 36 (name ∷ names) ∷ []
joined-without name names are = slice_split_none is_slash (join_with_byte 36 (name ∷ names)) (without name names are)
  where
    both : (a : List ℕ) (octet : ℕ) (b : List ℕ) → is_slash octet ≡ false → All (λ o. is_slash o ≡ false) a → All (λ o. is_slash o ≡ false) b → All (λ o. is_slash o ≡ false) (a ++ octet ∷ b)
    both [] octet b e left right zero d lt = e
    both [] octet b e left right (suc k) d lt = right k d (omega (arith, lt))
    both (o ∷ a) octet b e left right zero d lt = left zero d (omega arith)
    both (o ∷ a) octet b e left right (suc k) d lt = both a octet b e (λ j d l. left (suc j) d (omega (arith, l))) right k d (omega (arith, lt))

    without : (name : List ℕ) (names : List (List ℕ)) → AreNames (name ∷ names) → All (λ o. is_slash o ≡ false) (join_with_byte 36 (name ∷ names))
    without name [] are = name-without is_slash (λ o e. (plain-octet o e).1) name are.0
    without name (next ∷ names) are = both name 36 (join_with_byte 36 (next ∷ names)) refl (name-without is_slash (λ o e. (plain-octet o e).1) name are.0) (without next names are.1)

pub reference-is : (word : List ℕ) → (is_member word ≡ true) ↔ IsReference word
reference-is word = (λ e. there (slice_split is_slash word) refl e, back)
  where
    there : (parts : List (List ℕ)) → slice_split is_slash word ≡ parts → are_member parts ≡ true → IsReference word
    there [] split e = absurd (false≢true e)
    there (a ∷ []) split e = absurd (false≢true e)
    there (a ∷ b ∷ d ∷ more) split e = absurd (false≢true e)
    there (domain ∷ item ∷ []) split e =
        let outer = and_parts (is_name domain && is_path item) (nat_le 2 (count_by is_dollar item)) e in
        let inner = and_parts (is_name domain) (is_path item) outer.0 in
        (domain, item, sym (join_with_byte-slice_split 47 word) ∙ ap (join_with_byte 47) split, (name-is domain).0 inner.0, (path-is item).0 inner.1, leb-true 2 (count_by is_dollar item) outer.1)

    item-whole : (item : List ℕ) → IsPath item → slice_split is_slash item ≡ item ∷ []
    item-whole item (name, names, same, are) = ap (slice_split is_slash) same ∙ (joined-without name names are ∙ ap (λ (i : List ℕ). i ∷ []) (sym same))

    back : IsReference word → is_member word ≡ true
    back (domain, item, same, named, path, deep) =
        ap (λ w. are_member (slice_split is_slash w)) same
        ∙ (ap are_member (slice_split_at is_slash domain 47 item (name-without is_slash (λ o e. (plain-octet o e).1) domain named) refl ∙ ap (λ (ps : List (List ℕ)). domain ∷ ps) (item-whole item path))
        ∙ and_from _ _ (and_from _ _ ((name-is domain).1 named) ((path-is item).1 path)) (le-leb 2 (count_by is_dollar item) deep))

-- structures
cut-at : (n : ℕ) (name : List ℕ) → n < length name → get_or name n 0 ≡ 36 → name ≡ below (take n name) (drop (suc n) name)
cut-at n [] lt is = absurd (omega (arith, lt))
cut-at zero (octet ∷ octets) lt is = ap (λ (o : ℕ). o ∷ octets) is
cut-at (suc n) (octet ∷ octets) lt is = ap (λ (os : List ℕ). octet ∷ os) (cut-at n octets (omega (arith, lt)) is)

within-is : (structure name : List ℕ) (n : ℕ) → n ≤ length name → is_among (above_within n name) structure ≡ true → IsAbove structure name
within-is structure name zero le e = absurd (false≢true e)
within-is structure name (suc n) le e = by (get_or name n 0 == 36) refl e (λ f. within-is structure name n (omega (arith, le)) f)
  where
    one : get_or name n 0 ≡ 36 → (is_among (above_within n name) structure ≡ true → IsAbove structure name) → (bytes_eq structure (take n name) ≡ true) ⊎ (is_among (above_within n name) structure ≡ true) → IsAbove structure name
    one at go (inl e) = (drop (suc n) name, cut-at n name (omega (arith, le)) at ∙ ap (λ s. below s (drop (suc n) name)) (sym ((bytes_eq-Decides structure (take n name)).0 e)))
    one at go (inr e) = go e

    by : (b : Bool) → (get_or name n 0 == 36) ≡ b → is_among (cond b (take n name ∷ above_within n name) (above_within n name)) structure ≡ true → (is_among (above_within n name) structure ≡ true → IsAbove structure name) → IsAbove structure name
    by true at e go = one (eqb-true (get_or name n 0) 36 at) go (or_cases _ _ e)
    by false at e go = go e

get-there : (structure rest : List ℕ) → get_or (below structure rest) (length structure) 0 ≡ 36
get-there [] rest = refl
get-there (octet ∷ octets) rest = get-there octets rest

take-there : (structure rest : List ℕ) → take (length structure) (below structure rest) ≡ structure
take-there [] rest = refl
take-there (octet ∷ octets) rest = ap (λ (os : List ℕ). octet ∷ os) (take-there octets rest)

pub above-is : (structure name : List ℕ) → (is_among (above name) structure ≡ true) ↔ IsAbove structure name
above-is structure name = (λ e. within-is structure name (length name) (omega arith) e, back)
  where
    back : IsAbove structure name → is_among (above name) structure ≡ true
    back (rest, same) =
        above-found (λ k. bytes_eq structure k) name (length name) (length structure) (omega (arith, ap length same, length-append structure (36 ∷ rest)))
        (ap (λ n. get_or n (length structure) 0) same ∙ get-there structure rest)
        ((bytes_eq-Decides structure (take (length structure) name)).1 (sym (ap (take (length structure)) same ∙ take-there structure rest)))

clash-is : (name other : List ℕ) → (clashes name other ≡ true) ↔ Clashes name other
clash-is name other = (λ e. outer (or_cases (bytes_eq name other || is_among (above other) name) (is_among (above name) other) e), back)
  where
    inner : (bytes_eq name other ≡ true) ⊎ (is_among (above other) name ≡ true) → Clashes name other
    inner (inl e) = inl ((bytes_eq-Decides name other).0 e)
    inner (inr e) = inr (inl ((above-is name other).0 e))

    outer : ((bytes_eq name other || is_among (above other) name) ≡ true) ⊎ (is_among (above name) other ≡ true) → Clashes name other
    outer (inl e) = inner (or_cases (bytes_eq name other) (is_among (above other) name) e)
    outer (inr e) = inr (inr ((above-is other name).0 e))

    back : Clashes name other → clashes name other ≡ true
    back (inl e) = or_left _ _ (or_left _ _ ((bytes_eq-Decides name other).1 e))
    back (inr (inl a)) = or_left _ _ (or_right (bytes_eq name other) _ ((above-is name other).1 a))
    back (inr (inr a)) = or_right (bytes_eq name other || is_among (above other) name) _ ((above-is other name).1 a)

pub taken-is : (others : List (List ℕ)) (name : List ℕ) → (is_taken others name ≡ true) ↔ IsTaken others name
taken-is others name = any-is (λ other. clashes name other) (Clashes name) (clash-is name) others

-- nodes
reaches-is : (names : List (List ℕ)) (node : List ℕ) → (reaches names node ≡ true) ↔ Reaches names node
reaches-is names node = any-is (λ name. bytes_eq node name || is_among (above name) node) (λ name. (node ≡ name) ⊎ IsAbove node name) (λ name. (λ e. there name (or_cases (bytes_eq node name) (is_among (above name) node) e), back name)) names
  where
    there : (name : List ℕ) → (bytes_eq node name ≡ true) ⊎ (is_among (above name) node ≡ true) → (node ≡ name) ⊎ IsAbove node name
    there name (inl e) = inl ((bytes_eq-Decides node name).0 e)
    there name (inr e) = inr ((above-is node name).0 e)

    back : (name : List ℕ) → (node ≡ name) ⊎ IsAbove node name → (bytes_eq node name || is_among (above name) node) ≡ true
    back name (inl e) = or_left _ _ ((bytes_eq-Decides node name).1 e)
    back name (inr a) = or_right (bytes_eq node name) _ ((above-is node name).1 a)

pub node-is : (all : List Line) (node : List ℕ) → (is_node all node ≡ true) ↔ IsNode all node
node-is all node = (λ e. there (or_cases (reaches (leaf_names all) node) (reaches (closed all) node) e), back)
  where
    there : (reaches (leaf_names all) node ≡ true) ⊎ (reaches (closed all) node ≡ true) → IsNode all node
    there (inl e) = inl ((reaches-is (leaf_names all) node).0 e)
    there (inr e) = inr ((reaches-is (closed all) node).0 e)

    back : IsNode all node → is_node all node ≡ true
    back (inl a) = or_left _ _ ((reaches-is (leaf_names all) node).1 a)
    back (inr a) = or_right (reaches (leaf_names all) node) _ ((reaches-is (closed all) node).1 a)

pub member-is : (all : List Line) (node : List ℕ) → (is_member_node all node ≡ true) ↔ MayBeMember all node
member-is all node = (there, λ may. and_from _ _ (not_from_false _ ((none-is (reaches (closed all) node) _ (reaches-is (closed all) node)).1 may.0)) (not_from_false _ (le-ltb 500 _ may.1)))
  where
    there : is_member_node all node ≡ true → MayBeMember all node
    there e =
        let octets = octets_of 10 (leaf_octets (leaves all)) (children (leaf_names all)) node in
        let both = and_parts (not (reaches (closed all) node)) (not (nat_lt 500 octets)) e in
        ((none-is (reaches (closed all) node) _ (reaches-is (closed all) node)).0 (not-true (reaches (closed all) node) both.0), ltb-false 500 octets (not-true (nat_lt 500 octets) both.1))
