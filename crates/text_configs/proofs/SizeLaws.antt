-- The largest Data of the nodes of a tree of attributes is no larger than what is counted for their references.
use Rattle.std.proofs.Common.{◌≡◌, ℕ, zero, suc, ◌+◌, ◌<◌, ◌≤◌, ◌⊎◌, inl, inr, List, [], ◌∷◌, ◌++◌, map, length, refl, sym, ap, subst, ◌∙◌, arith, length-append, append_assoc, if◌then◌else◌}
use Rattle.std.specs.List.{sum_by}
use Rattle.std.proofs.lemmas.List.{append_cancel_left}
use Rattle.std.proofs.lemmas.List.Sums.{sum_by-cons}
use Rattle.list_laws.proofs.Distinct.{differ, differ-map, octets_equal}
use Rattle.list_laws.proofs.Sums.{one-part, sum-among}
use Rattle.sv_base.specs.Data.{length_field}
use Rattle.sv_base.specs.Types.{Fields, no_field, field}
use Rattle.sv_base.specs.declared.types.TypeOf.{TypeOf}
use Rattle.sv_base.specs.declared.types.TypeOf.TheVariants as types
use Rattle.bay_model.specs.Generated.{Named}
use Rattle.bay_model.specs.NameTree.{Forest, named, below, first_names, role_of, own_type, side_by_side, grown}
use Rattle.bay_model.specs.Places.{Place, places, type_with, fields, headed, largest, largest_fields}
use Rattle.name_tree.proofs.GroupLaws.{distinct}
use Rattle.list_laws.proofs.Among.{Among, each-of, left, right, source, tails}
use Rattle.text_configs.proofs.JoinedLaws.{joined, joined-behind}
use Rattle.text_configs.proofs.NamedLaws.{place_at, deeper, IsPlaced, placed}
use Rattle.text_configs.proofs.EntryLaws.{Entry, entry, PlainEntry, named_of, under, below-under, under-of, cut}
use Rattle.text_configs.proofs.TreeLaws.{AreEntries, entries-under, IsEnd, IsOpen, ends-or-not, head-of, nothing-below, type-ended, type-open}
use Rattle.text_configs.proofs.LengthLaws.{field-grows}

-- What is counted for a reference, as far down as the number says: for those that are known to be an attribute's, and for
-- those above them, by what is directly below.
pub record IsCount (kind : ℕ → TypeOf) (Known : List (List ℕ) → ℕ → Type 0) (octets : ℕ → List ℕ → ℕ) (parts : List ℕ → List (List ℕ)) : Type 0 where
  pub leaf : (p : List (List ℕ)) (x : ℕ) (depth : ℕ) → Known p x → largest (kind x) ≤ octets (suc depth) (joined p)
  pub node : (q : List (List ℕ)) (name : List ℕ) (more : List (List ℕ)) (x : ℕ) (depth : ℕ) → 0 < length q → Known (q ++ name ∷ more) x
      → octets (suc depth) (joined q) ≡ 1 + (length (length_field (sum_by (octets depth) (parts (joined q)))) + sum_by (octets depth) (parts (joined q)))
  pub part : (q : List (List ℕ)) (name : List ℕ) (more : List (List ℕ)) (x : ℕ) → 0 < length q → Known (q ++ name ∷ more) x → Among (joined (q ++ name ∷ [])) (parts (joined q))

largest-composed : (fs : Fields) → largest (type_with (types.Struct no_field) fs) ≡ headed (largest_fields fs)
largest-composed no_field = refl
largest-composed (field name s fs) = refl

is-under : (es : List Entry) (e : Entry) (name : List ℕ) (more : List (List ℕ)) → Among e es → e.path ≡ name ∷ more → Among (entry more e.number) (under name es)
is-under [] e name more i is = absurd i
is-under (d ∷ es) e name more (inl same) is = left (entry more e.number) (cut name d.path d.number) (under name es)
    (subst (λ (x : Entry). Among (entry more e.number) (cut name x.path x.number)) same (subst (λ path. Among (entry more e.number) (cut name path e.number)) (sym is) here))
  where
    here : Among (entry more e.number) (cut name (name ∷ more) e.number)
    here = subst (λ b. Among (entry more e.number) (if b then entry more e.number ∷ [] else [])) (sym (octets_equal name name refl)) (inl refl)
is-under (d ∷ es) e name more (inr i) is = right (entry more e.number) (cut name d.path d.number) (under name es) (is-under es e name more i is)

module _ (kind : ℕ → TypeOf) (n : ℕ) (Known : List (List ℕ) → ℕ → Type 0) (octets : ℕ → List ℕ → ℕ) (parts : List ℕ → List (List ℕ)) (count : IsCount kind Known octets parts) where
  -- attributes below a front, of at most n names
  pub record AreBelow (front : List (List ℕ)) (depth : ℕ) (es : List Entry) : Type 0 where
    pub entries : AreEntries kind n es
    pub known : (e : Entry) → Among e es → Known (front ++ e.path) e.number
    pub some : 0 < length front
    pub short : (e : Entry) → Among e es → length e.path ≤ depth

  abbrev pub type_at : ℕ → List Named → TypeOf
  type_at l ns = type_with (own_type ns) (fields (grown l ns))

  abbrev pub reference : List (List ℕ) → List ℕ → List ℕ
  reference front name = joined (front ++ name ∷ [])

  abbrev total : ℕ → List (List ℕ) → ℕ
  total depth front = sum_by (octets depth) (parts (joined front))

  abbrev Bounded : ℕ → Type 0
  Bounded l = (depth : ℕ) (es : List Entry) (front : List (List ℕ)) → AreBelow front depth es → (name : List ℕ) (more : List (List ℕ)) (x : ℕ) → Known (front ++ name ∷ more) x → total depth front ≤ 500
      → largest_fields (fields (grown l (map (named_of kind) es))) ≤ total depth front

  below-name : (front : List (List ℕ)) (depth below : ℕ) (es : List Entry) (name : List ℕ) → AreBelow front depth es → depth ≤ suc below → AreBelow (front ++ name ∷ []) below (under name es)
  below-name front depth below es name h le = record {
    entries = entries-under kind n es name h.entries;
    known = λ d i. let a = under-of es name d i in subst (λ p. Known p d.number) (sym (append_assoc front (name ∷ []) d.path)) (subst (λ x. Known (front ++ name ∷ d.path) x) a.1.number (subst (λ p. Known (front ++ p) a.0.number) a.1.path (h.known a.0 a.1.there)));
    some = omega (arith, length-append front (name ∷ []));
    short = λ d i. let a = under-of es name d i in omega (arith, ap length a.1.path, h.short a.0 a.1.there, le);
  }

  -- the node of a first name
  child : (l depth : ℕ) (es : List Entry) (front : List (List ℕ)) → AreBelow front (suc depth) es → Bounded l → (f : List ℕ) → Among f (first_names (map (named_of kind) es)) → octets (suc depth) (reference front f) ≤ 500
      → largest (type_at l (map (named_of kind) (under f es))) ≤ octets (suc depth) (reference front f)
  child l depth es front h go f i few = by (ends-or-not kind (under f es) inner.entries.plain)
    where
      inner : AreBelow (front ++ f ∷ []) depth (under f es)
      inner = below-name front (suc depth) depth es f h (omega arith)

      leaf-kind : (d : Entry) → IsEnd kind (under f es) d → type_at l (map (named_of kind) (under f es)) ≡ kind d.number
      leaf-kind d e = ap (λ k. type_with k (fields (grown l (map (named_of kind) (under f es))))) (type-ended kind (under f es) d e) ∙ ap (λ g. type_with (kind d.number) (fields g)) (nothing-below kind l (under f es) d inner.entries.plain inner.entries.apart e)

      ended : (d : Entry) → IsEnd kind (under f es) d → largest (type_at l (map (named_of kind) (under f es))) ≤ octets (suc depth) (reference front f)
      ended d e = let a = under-of es f d e.there in
          let known : Known (front ++ f ∷ []) d.number = subst (λ x. Known (front ++ f ∷ []) x) a.1.number (subst (λ p. Known (front ++ p) a.0.number) (a.1.path ∙ ap (λ l. f ∷ l) e.ends) (h.known a.0 a.1.there)) in
          omega (arith, ap largest (leaf-kind d e), count.leaf (front ++ f ∷ []) d.number depth known)

      sized : (more : List (List ℕ)) (x : ℕ) → IsOpen kind (under f es) → 0 < length more → Known ((front ++ f ∷ []) ++ more) x → largest (type_at l (map (named_of kind) (under f es))) ≤ octets (suc depth) (reference front f)
      sized [] x o some known = absurd (omega (arith, some))
      sized (next ∷ more) x o some known =
          let fs : Fields = fields (grown l (map (named_of kind) (under f es))) in
          let sum : ℕ = total depth (front ++ f ∷ []) in
          let is = count.node (front ++ f ∷ []) next more x depth inner.some known in
          let le = go depth (under f es) (front ++ f ∷ []) inner next more x known (omega (arith, is, few)) in
          let kind_is : largest (type_at l (map (named_of kind) (under f es))) ≡ headed (largest_fields fs) = ap (λ k. largest (type_with k fs)) (type-open kind (under f es) o) ∙ largest-composed fs in
          omega (arith, kind_is, is, le, field-grows (largest_fields fs) sum le (omega (arith, is, few)))

      goes_on : IsOpen kind (under f es) → largest (type_at l (map (named_of kind) (under f es))) ≤ octets (suc depth) (reference front f)
      goes_on o = let e = head-of kind es f h.entries.plain i in
          let j = is-under es e.0 f e.1.more e.1.there e.1.path in
          sized e.1.more e.0.number o (o.longer (entry e.1.more e.0.number) j) (inner.known (entry e.1.more e.0.number) j)

      by : ((d : Entry) × IsEnd kind (under f es) d) ⊎ IsOpen kind (under f es) → largest (type_at l (map (named_of kind) (under f es))) ≤ octets (suc depth) (reference front f)
      by (inl d) = ended d.0 d.1
      by (inr o) = goes_on o

  -- names side by side
  abbrev side : ℕ → List Named → List (List ℕ) → Forest
  side l ns names = side_by_side (λ name others. named name (role_of (below name ns)) (own_type (below name ns)) (grown l (below name ns)) others) names

  side-sum : (l depth : ℕ) (ns : List Named) (front : List (List ℕ)) (names : List (List ℕ)) → ((f : List ℕ) → Among f names → largest (type_at l (below f ns)) ≤ octets depth (reference front f))
      → largest_fields (fields (side l ns names)) ≤ sum_by (octets depth) (map (reference front) names)
  side-sum l depth ns front [] h = omega arith
  side-sum l depth ns front (f ∷ fs) h = omega (arith, h f (inl refl), side-sum l depth ns front fs (λ g i. h g (inr i)), sum_by-cons (octets depth) (reference front f) (map (reference front) fs))

  same-reference : (front : List (List ℕ)) → 0 < length front → (a b : List ℕ) → reference front a ≡ reference front b → a ≡ b
  same-reference front some a b e = tails 36 36 a b (append_cancel_left (joined front) (36 ∷ a) (36 ∷ b) (sym (joined-behind front a [] some) ∙ (e ∙ joined-behind front b [] some)))

  -- a first name is a part
  is-part : (depth : ℕ) (es : List Entry) (front : List (List ℕ)) → AreBelow front depth es → (f : List ℕ) → Among f (first_names (map (named_of kind) es)) → Among (reference front f) (parts (joined front))
  is-part depth es front h f i = let e = head-of kind es f h.entries.plain i in
      count.part front f e.1.more e.0.number h.some (subst (λ p. Known (front ++ p) e.0.number) e.1.path (h.known e.0 e.1.there))

  child-below : (l depth : ℕ) (es : List Entry) (front : List (List ℕ)) → AreBelow front depth es → Bounded l → (f : List ℕ) → Among f (first_names (map (named_of kind) es)) → octets depth (reference front f) ≤ 500
      → largest (type_at l (below f (map (named_of kind) es))) ≤ octets depth (reference front f)
  child-below l zero es front h go f i few = let e = head-of kind es f h.entries.plain i in absurd (omega (arith, h.short e.0 e.1.there, ap length e.1.path))
  child-below l (suc depth) es front h go f i few =
      subst (λ ns. largest (type_at l ns) ≤ octets (suc depth) (reference front f)) (sym (below-under kind f es (each-of PlainEntry es h.entries.plain))) (child l depth es front h go f i few)

  pub bounded : (l : ℕ) → Bounded l
  bounded zero depth es front h name more x known few = omega arith
  bounded (suc l) depth es front h name more x known few =
      let ns : List Named = map (named_of kind) es in
      let each : (f : List ℕ) → Among f (first_names ns) → largest (type_at l (below f ns)) ≤ octets depth (reference front f) =
      λ f i. child-below l depth es front h (bounded l) f i (omega (arith, few, one-part (octets depth) (reference front f) (parts (joined front)) (is-part depth es front h f i))) in
      let among : (q : List ℕ) → Among q (map (reference front) (first_names ns)) → Among q (parts (joined front)) =
      λ q i. let s = source (reference front) q (first_names ns) i in subst (λ z. Among z (parts (joined front))) (sym s.2) (is-part depth es front h s.0 s.1) in
      omega (arith, side-sum l depth ns front (first_names ns) each, sum-among (octets depth) (map (reference front) (first_names ns)) (parts (joined front)) (differ-map (reference front) (first_names ns) (same-reference front h.some) (differ (first_names ns) (distinct ns))) among)

  -- all places
  abbrev pub IsSmall : List ℕ → ℕ → Place → Type 0
  IsSmall domain depth p = octets depth (domain ++ 47 ∷ p.item) ≤ 500 → largest p.kind ≤ octets depth (domain ++ 47 ∷ p.item)

  deeper-name : (domain before : List ℕ) (front : List (List ℕ)) (f g : List ℕ) → domain ++ 47 ∷ (before ++ f) ≡ reference front f → domain ++ 47 ∷ ((before ++ f ++ 36 ∷ []) ++ g) ≡ reference (front ++ f ∷ []) g
  deeper-name domain before front f g is =
      ap (λ l. domain ++ 47 ∷ l) (append_assoc (before ++ f) (36 ∷ []) g) ∙ (sym (append_assoc domain (47 ∷ (before ++ f)) (36 ∷ g))
      ∙ (ap (λ l. l ++ 36 ∷ g) is ∙ sym (joined-behind (front ++ f ∷ []) g [] (omega (arith, length-append front (f ∷ []))))))

  pub places-small : (l depth : ℕ) (es : List Entry) (front : List (List ℕ)) (domain before : List ℕ) → AreBelow front depth es → ((f : List ℕ) → domain ++ 47 ∷ (before ++ f) ≡ reference front f)
      → (p : Place) → Among p (places before (grown l (map (named_of kind) es))) → IsSmall domain depth p
  places-small zero depth es front domain before h names p i = absurd i
  places-small (suc l) depth es front domain before h names p i = let s = placed before l (map (named_of kind) es) p i in
      by s.0 s.1 s.1.at (λ j. places-small l depth (under s.0 es) (front ++ s.0 ∷ []) domain (before ++ s.0 ++ 36 ∷ []) (below-name front depth depth es s.0 h (omega arith)) (λ g. deeper-name domain before front s.0 g (names s.0)) p j)
    where
      here : (f : List ℕ) → Among f (first_names (map (named_of kind) es)) → IsSmall domain depth (place_at before l (map (named_of kind) es) f)
      here f i few = subst (λ r. largest (type_at l (below f (map (named_of kind) es))) ≤ octets depth r) (sym (names f)) (child-below l depth es front h (bounded l) f i (subst (λ r. octets depth r ≤ 500) (names f) few))

      by : (f : List ℕ) → IsPlaced before l (map (named_of kind) es) p f → (p ≡ place_at before l (map (named_of kind) es) f) ⊎ Among p (deeper before l (map (named_of kind) es) f)
          → (Among p (places (before ++ f ++ 36 ∷ []) (grown l (map (named_of kind) (under f es)))) → IsSmall domain depth p) → IsSmall domain depth p
      by f s (inl e) go = subst (IsSmall domain depth) (sym e) (here f s.name)
      by f s (inr j) go = go (subst (λ ns. Among p (places (before ++ f ++ 36 ∷ []) (grown l ns))) (below-under kind f es (each-of PlainEntry es h.entries.plain)) j)
