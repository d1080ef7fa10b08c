-- The names that references are made of: a domain and a logical node, a functional constraint, and those of a path.
use Rattle.std.proofs.Common.{◌≡◌, ℕ, ◌+◌, ◌<◌, ◌≤◌, ◌==◌, true, false, ◌&&◌, List, [], ◌∷◌, ◌++◌, length, refl, sym, ap, subst, ◌∙◌, arith, append_assoc, true≢false, nat_le}
use Rattle.std.specs.Prelude.{codes}
use Rattle.std.specs.List.{list_all, list_any, slice_split, count_by, join_with_byte}
use Rattle.std.specs.Str.{bytes_eq}
use Rattle.std.proofs.lemmas.Bool.{and_parts}
use Rattle.std.proofs.lemmas.Bool.Decides.{nat_tests}
use Rattle.std.proofs.lemmas.List.Splits.{join_with_byte-slice_split, length-slice_split}
use Rattle.list_laws.proofs.Distinct.{octets_same}
use Rattle.sv_base.specs.declared.config.AttrDef.{AttrDef}
use Rattle.bay_model.specs.NamedLines.{path_item}
use Rattle.bay_model.specs.Places.{member_constraints}
use Rattle.text_words.specs.Names.{is_letter, is_name_octet, is_name, is_path, is_dollar, is_slash, are_member, is_member}
use Rattle.text_words.specs.Names.{is_fc}
use Rattle.list_laws.proofs.Among.{Among, Each, of-each, some-passes, heads, tails}
use Rattle.text_configs.proofs.JoinedLaws.{NoDollar, IsPlain, ArePlain, joined, first, rest, first-joined, rest-joined, first-before, rest-before}
use Rattle.text_configs.proofs.AttrLaws.{key_of}

-- ---- names

octets-plain : (octets : List ℕ) → list_all is_name_octet octets ≡ true → NoDollar octets
octets-plain [] h = tt
octets-plain (o ∷ octets) h = (one o (and_parts _ _ h).0, octets-plain octets (and_parts _ _ h).1)
  where
    one : (o : ℕ) → is_name_octet o ≡ true → (o == 36) ≡ false
    one o e = grind (arith, nat_tests)

pub name-plain : (name : List ℕ) → is_name name ≡ true → IsPlain name
name-plain [] h = absurd (true≢false (sym h))
name-plain (o ∷ octets) h =
    let front = (and_parts (is_letter o && list_all is_name_octet octets) (nat_le (length octets) 31) h).0 in
    (omega arith, (letter o (and_parts _ _ front).0, octets-plain octets (and_parts _ _ front).1))
  where
    letter : (o : ℕ) → is_letter o ≡ true → (o == 36) ≡ false
    letter o e = grind (arith, nat_tests)

abbrev pub NoSlash : List ℕ → Type 0
NoSlash [] = Unit {0}
NoSlash (o ∷ octets) = ((o == 47) ≡ false) × NoSlash octets

octets-whole : (octets : List ℕ) → list_all is_name_octet octets ≡ true → NoSlash octets
octets-whole [] h = tt
octets-whole (o ∷ octets) h = (one o (and_parts _ _ h).0, octets-whole octets (and_parts _ _ h).1)
  where
    one : (o : ℕ) → is_name_octet o ≡ true → (o == 47) ≡ false
    one o e = grind (arith, nat_tests)

pub name-whole : (name : List ℕ) → is_name name ≡ true → NoSlash name
name-whole [] h = tt
name-whole (o ∷ octets) h =
    let front = (and_parts (is_letter o && list_all is_name_octet octets) (nat_le (length octets) 31) h).0 in
    (letter o (and_parts _ _ front).0, octets-whole octets (and_parts _ _ front).1)
  where
    letter : (o : ℕ) → is_letter o ≡ true → (o == 47) ≡ false
    letter o e = grind (arith, nat_tests)

slash-not : (o : ℕ) → o ≡ 47 → (o == 47) ≡ false → ⊥
slash-not o e h = true≢false (sym (ap (λ x. x == 47) e) ∙ h)

-- a reference says its domain and its item
pub same-reference : (d e : List ℕ) (item other : List ℕ) → NoSlash d → NoSlash e → d ++ 47 ∷ item ≡ e ++ 47 ∷ other → (d ≡ e) × (item ≡ other)
same-reference [] [] item other h k is = (refl, tails 47 47 item other is)
same-reference [] (o ∷ e) item other h k is = absurd (slash-not o (sym (heads 47 o item (e ++ 47 ∷ other) is)) k.0)
same-reference (o ∷ d) [] item other h k is = absurd (slash-not o (heads o 47 (d ++ 47 ∷ item) other is) h.0)
same-reference (o ∷ d) (p ∷ e) item other h k is =
    let go = same-reference d e item other h.1 k.1 (tails o p (d ++ 47 ∷ item) (e ++ 47 ∷ other) is) in
    (ap (λ x. x ∷ d) (heads o p (d ++ 47 ∷ item) (e ++ 47 ∷ other) is) ∙ ap (λ l. p ∷ l) go.0, go.1)

-- ---- functional constraints

abbrev fcs : List (List ℕ)
fcs = codes "ST" ∷ codes "MX" ∷ codes "CF" ∷ codes "DC" ∷ codes "SP" ∷ codes "SV" ∷ codes "SG" ∷ codes "EX" ∷ []

fc-among : (fc : List ℕ) → is_fc fc ≡ true → Among fc fcs
fc-among fc h = let s = some-passes (λ known. bytes_eq fc known) fcs h in subst (λ f. Among f fcs) (sym (octets_same fc s.0 s.2)) s.1

all-plain : Each IsPlain fcs
all-plain = ((omega arith, (refl, (refl, tt))), ((omega arith, (refl, (refl, tt))), ((omega arith, (refl, (refl, tt))), ((omega arith, (refl, (refl, tt))), ((omega arith, (refl, (refl, tt))), ((omega arith, (refl, (refl, tt))), ((omega arith, (refl, (refl, tt))), ((omega arith, (refl, (refl, tt))), tt))))))))

pub fc-plain : (fc : List ℕ) → is_fc fc ≡ true → IsPlain fc
fc-plain fc h = of-each IsPlain fcs fc all-plain (fc-among fc h)

all-members : Each (λ fc. list_any (bytes_eq fc) member_constraints ≡ true) fcs
all-members = (refl, (refl, (refl, (refl, (refl, (refl, (refl, (refl, tt))))))))

pub fc-member : (fc : List ℕ) → is_fc fc ≡ true → list_any (bytes_eq fc) member_constraints ≡ true
fc-member fc h = of-each (λ fc. list_any (bytes_eq fc) member_constraints ≡ true) fcs fc all-members (fc-among fc h)

pub fc-of-block : (fc : List ℕ) → is_fc fc ≡ true → fc ≡ codes "BR" → ⊥
fc-of-block fc h e = true≢false (sym h ∙ ap is_fc e)

pub fc-of-edit : (fc : List ℕ) → is_fc fc ≡ true → fc ≡ codes "SE" → ⊥
fc-of-edit fc h e = true≢false (sym h ∙ ap is_fc e)

pub fc-of-command : (fc : List ℕ) → is_fc fc ≡ true → fc ≡ codes "CO" → ⊥
fc-of-command fc h e = true≢false (sym h ∙ ap is_fc e)

-- ---- paths

abbrev pub names_in : List ℕ → List (List ℕ)
names_in path = slice_split is_dollar path

names-plain : (names : List (List ℕ)) → list_all is_name names ≡ true → ArePlain names
names-plain [] h = tt
names-plain (n ∷ names) h = (name-plain n (and_parts _ _ h).0, names-plain names (and_parts _ _ h).1)

pub path-plain : (path : List ℕ) → is_path path ≡ true → ArePlain (names_in path)
path-plain path h = names-plain (names_in path) h

pub path-joined : (path : List ℕ) → joined (names_in path) ≡ path
path-joined path = join_with_byte-slice_split 36 path

pub path-count : (path : List ℕ) → length (names_in path) ≡ count_by is_dollar path + 1
path-count path = length-slice_split is_dollar path

pub behind-two : (x y : List ℕ) (names : List (List ℕ)) (path : List ℕ) → joined names ≡ path → 0 < length names → (x ++ 36 ∷ y) ++ 36 ∷ path ≡ joined (x ∷ y ∷ names)
behind-two x y [] path is some = absurd (omega (arith, some))
behind-two x y (n ∷ names) path is some = append_assoc x (36 ∷ y) (36 ∷ path) ∙ ap (λ l. x ++ 36 ∷ (y ++ 36 ∷ l)) (sym is)

-- the names of an attribute's item, and of its reference
abbrev pub item_names : AttrDef → List (List ℕ)
item_names a = a.ln ∷ a.fc ∷ names_in a.path

abbrev pub reference_names : AttrDef → List (List ℕ)
reference_names a = (a.domain ++ 47 ∷ a.ln) ∷ a.fc ∷ names_in a.path

some-names : (path : List ℕ) → 0 < length (names_in path)
some-names path = omega (arith, path-count path)

pub item-joined : (a : AttrDef) → path_item a.ln a.fc a.path ≡ joined (item_names a)
item-joined a = behind-two a.ln a.fc (names_in a.path) a.path (path-joined a.path) (some-names a.path)

pub key-joined : (a : AttrDef) → key_of a ≡ joined (reference_names a)
key-joined a = behind-two (a.domain ++ 47 ∷ a.ln) a.fc (names_in a.path) a.path (path-joined a.path) (some-names a.path)

-- the domain before the item
pub joined-domain : (d x : List ℕ) (names : List (List ℕ)) → joined ((d ++ 47 ∷ x) ∷ names) ≡ d ++ 47 ∷ joined (x ∷ names)
joined-domain d x [] = refl
joined-domain d x (n ∷ names) = append_assoc d (47 ∷ x) (36 ∷ joined (n ∷ names))

-- ---- names that go on

pub record GoOn (full names : List (List ℕ)) : Type 0 where
  pub more : List (List ℕ)
  pub is : full ≡ names ++ more

pub prefix-joined : (full names : List (List ℕ)) (behind : List ℕ) → ArePlain full → ArePlain names → 0 < length names → joined full ≡ joined names ++ 36 ∷ behind → GoOn full names
prefix-joined full [] behind h k some is = absurd (omega (arith, some))
prefix-joined [] (n ∷ names) behind h k some is = none (joined (n ∷ names)) is
  where
    none : (l : List ℕ) → [] ≡ l ++ 36 ∷ behind → GoOn [] (n ∷ names)
    none [] e = absurd (omega (arith, ap length e))
    none (o ∷ l) e = absurd (omega (arith, ap length e))
prefix-joined (f ∷ full) (n ∷ []) behind h k some is =
    let same : f ≡ n = sym (first-joined f full h.0.1) ∙ (ap first is ∙ first-before n behind k.0.1) in
    record { more = full; is = ap (λ x. x ∷ full) same }
prefix-joined (f ∷ full) (n ∷ m ∷ names) behind h k some is =
    let apart : (n ++ 36 ∷ joined (m ∷ names)) ++ 36 ∷ behind ≡ n ++ 36 ∷ (joined (m ∷ names) ++ 36 ∷ behind) = append_assoc n (36 ∷ joined (m ∷ names)) (36 ∷ behind) in
    let same : f ≡ n = sym (first-joined f full h.0.1) ∙ (ap first (is ∙ apart) ∙ first-before n (joined (m ∷ names) ++ 36 ∷ behind) k.0.1) in
    let left : joined full ≡ joined (m ∷ names) ++ 36 ∷ behind = sym (rest-joined f full h.0.1) ∙ (ap rest (is ∙ apart) ∙ rest-before n (joined (m ∷ names) ++ 36 ∷ behind) k.0.1) in
    let go = prefix-joined full (m ∷ names) behind h.1 k.1 (omega arith) left in
    record { more = go.more; is = ap (λ x. x ∷ full) same ∙ ap (λ l. n ∷ l) go.is }

-- ---- members

-- a domain, and an item of three names or more
pub record IsReference (r : List ℕ) : Type 0 where
  pub domain : List ℕ
  pub item : List ℕ
  pub is : r ≡ domain ++ 47 ∷ item
  pub domain_name : is_name domain ≡ true
  pub path : is_path item ≡ true
  pub many : 3 ≤ length (names_in item)

pub reference-of : (r : List ℕ) → is_member r ≡ true → IsReference r
reference-of r h = by (slice_split is_slash r) refl h
  where
    enough : (n : ℕ) → nat_le 2 n ≡ true → 2 ≤ n
    enough n e = grind (arith, nat_tests)

    by : (parts : List (List ℕ)) → slice_split is_slash r ≡ parts → are_member parts ≡ true → IsReference r
    by [] e m = absurd (true≢false (sym m))
    by (a ∷ []) e m = absurd (true≢false (sym m))
    by (domain ∷ item ∷ []) e m =
        let outer = and_parts (is_name domain && is_path item) (nat_le 2 (count_by is_dollar item)) m in
        let inner = and_parts (is_name domain) (is_path item) outer.0 in
        record {
          domain = domain;
          item = item;
          is = sym (join_with_byte-slice_split 47 r) ∙ ap (join_with_byte 47) e;
          domain_name = inner.0;
          path = inner.1;
          many = omega (arith, path-count item, enough (count_by is_dollar item) outer.1);
        }
    by (a ∷ b ∷ c ∷ parts) e m = absurd (true≢false (sym m))
