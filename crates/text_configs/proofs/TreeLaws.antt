-- The tree that grows of attributes of which no path goes on from where another ends.
use Rattle.std.proofs.Common.{◌≡◌, ℕ, zero, suc, ◌<◌, ◌==◌, false, cond, ◌⊎◌, inl, inr, List, [], ◌∷◌, ◌++◌, map, length, Some, None, refl, sym, ap, subst, ◌∙◌, arith, true≢false, unwrap_or}
use Rattle.std.specs.Option.{option_map}
use Rattle.std.specs.List.{find}
use Rattle.std.proofs.lemmas.Bool.Decides.{nat_tests}
use Rattle.sv_base.specs.Types.{no_field}
use Rattle.sv_base.specs.declared.types.TypeOf.{TypeOf}
use Rattle.sv_base.specs.declared.types.TypeOf.TheVariants as types
use Rattle.bay_model.specs.Model.{Role, single, several, attribute}
use Rattle.bay_model.specs.Generated.{Named}
use Rattle.bay_model.specs.NameTree.{Forest, nothing, named, first_name, is_itself, below, first_names, role_of, own_type, side_by_side, grown}
use Rattle.list_laws.proofs.Among.{Among, each-of, source, nil-of}
use Rattle.text_configs.proofs.JoinedLaws.{ArePlain, joined, first-joined, joined-some}
use Rattle.text_configs.proofs.NamedLaws.{first-of}
use Rattle.text_configs.proofs.EntryLaws.{Entry, PlainEntry, named_of, at_path, under, below-under, under-of, AreApart, apart-under, plain-under}
use Rattle.text_configs.proofs.FormLaws.{IsNumber, IsPart, IsTree}

-- entries that may stand in a tree
pub record AreEntries (kind : ℕ → TypeOf) (n : ℕ) (es : List Entry) : Type 0 where
  pub plain : (e : Entry) → Among e es → ArePlain e.path
  pub apart : AreApart es
  pub numbers : (e : Entry) → Among e es → IsNumber kind n e.number

pub entries-under : (kind : ℕ → TypeOf) (n : ℕ) (es : List Entry) (name : List ℕ) → AreEntries kind n es → AreEntries kind n (under name es)
entries-under kind n es name h = record {
  plain = plain-under es name h.plain;
  apart = apart-under es name h.apart;
  numbers = λ d i. let a = under-of es name d i in subst (IsNumber kind n) a.1.number (h.numbers a.0 a.1.there);
}

-- the one that ends here, or none does
pub record IsEnd (kind : ℕ → TypeOf) (es : List Entry) (d : Entry) : Type 0 where
  pub there : Among d es
  pub ends : d.path ≡ []
  pub found : find is_itself (map (named_of kind) es) ≡ Some (named_of kind d)

pub record IsOpen (kind : ℕ → TypeOf) (es : List Entry) : Type 0 where
  pub longer : (d : Entry) → Among d es → 0 < length d.path
  pub found : find is_itself (map (named_of kind) es) ≡ None

not-itself : (path : List (List ℕ)) → 0 < length path → ArePlain path → (length (joined path) == 0) ≡ false
not-itself [] h k = absurd (omega (arith, h))
not-itself (p ∷ ps) h k = let some : 0 < length (joined (p ∷ ps)) = joined-some p ps k.0.0 in grind (arith, nat_tests)

pub ends-or-not : (kind : ℕ → TypeOf) (es : List Entry) → ((e : Entry) → Among e es → ArePlain e.path) → ((d : Entry) × IsEnd kind es d) ⊎ IsOpen kind es
ends-or-not kind [] plain = inr (record { longer = λ d i. absurd i; found = refl })
ends-or-not kind (e ∷ es) plain = by e.path refl (ends-or-not kind es (λ d i. plain d (inr i)))
  where
    ended : e.path ≡ [] → IsEnd kind (e ∷ es) e
    ended is = record { there = inl refl; ends = is; found = ap (λ path. cond (length (joined path) == 0) (Some (named_of kind e)) (find is_itself (map (named_of kind) es))) is }

    passes : 0 < length e.path → find is_itself (map (named_of kind) (e ∷ es)) ≡ find is_itself (map (named_of kind) es)
    passes some = ap (λ b. cond b (Some (named_of kind e)) (find is_itself (map (named_of kind) es))) (not-itself e.path some (plain e (inl refl)))

    longer : 0 < length e.path → IsOpen kind es → (d : Entry) → Among d (e ∷ es) → 0 < length d.path
    longer some h d (inl is) = subst (λ (x : Entry). 0 < length x.path) (sym is) some
    longer some h d (inr i) = h.longer d i

    rest : 0 < length e.path → ((d : Entry) × IsEnd kind es d) ⊎ IsOpen kind es → ((d : Entry) × IsEnd kind (e ∷ es) d) ⊎ IsOpen kind (e ∷ es)
    rest some (inl h) = inl (h.0, record { there = inr h.1.there; ends = h.1.ends; found = passes some ∙ h.1.found })
    rest some (inr h) = inr (record { longer = longer some h; found = passes some ∙ h.found })

    by : (path : List (List ℕ)) → e.path ≡ path → ((d : Entry) × IsEnd kind es d) ⊎ IsOpen kind es → ((d : Entry) × IsEnd kind (e ∷ es) d) ⊎ IsOpen kind (e ∷ es)
    by [] is go = inl (e, ended is)
    by (p ∷ ps) is go = rest (subst (λ l. 0 < length l) (sym is) (omega arith)) go

-- an entry with a first name
pub record IsHead (es : List Entry) (f : List ℕ) (e : Entry) : Type 0 where
  pub there : Among e es
  pub more : List (List ℕ)
  pub path : e.path ≡ f ∷ more

pub head-of : (kind : ℕ → TypeOf) (es : List Entry) (f : List ℕ) → ((e : Entry) → Among e es → ArePlain e.path) → Among f (first_names (map (named_of kind) es)) → (e : Entry) × IsHead es f e
head-of kind es f plain i =
    let n = first-of (map (named_of kind) es) f i in
    let s = source (named_of kind) n.0 es n.1.there in
    by s.0 s.1 s.0.path refl (ap is_itself (sym s.2) ∙ n.1.longer) (n.1.is ∙ ap first_name s.2)
  where
    by : (e : Entry) → Among e es → (path : List (List ℕ)) → e.path ≡ path → is_itself (named_of kind e) ≡ false → f ≡ first_name (named_of kind e) → (e : Entry) × IsHead es f e
    by e j [] is itself h = absurd (true≢false (ap (λ (path : List (List ℕ)). length (joined path) == 0) (sym is) ∙ itself))
    by e j (p ∷ ps) is itself h =
        let same : f ≡ p = h ∙ (ap (λ path. first_name (at_path kind path e.number)) is ∙ first-joined p ps (subst ArePlain is (plain e j)).0.1) in
        (e, record { there = j; more = ps; path = is ∙ ap (λ q. q ∷ ps) (sym same) })

-- where one ends there is nothing below
none-below : (kind : ℕ → TypeOf) (es : List Entry) (d : Entry) → ((e : Entry) → Among e es → ArePlain e.path) → AreApart es → IsEnd kind es d → first_names (map (named_of kind) es) ≡ []
none-below kind es d plain apart h = nil-of _ (λ f i. let e = head-of kind es f plain i in
    let is : d ≡ e.0 = apart d e.0 e.0.path h.there e.1.there (ap (λ l. l ++ e.0.path) (sym h.ends)) in
    no f e.1.more (sym h.ends ∙ (ap (λ (x : Entry). x.path) is ∙ e.1.path)))
  where
    no : (f : List ℕ) (more : List (List ℕ)) → [] ≡ f ∷ more → ⊥
    no f more e = absurd (omega (arith, ap length e))

pub nothing-below : (kind : ℕ → TypeOf) (l : ℕ) (es : List Entry) (d : Entry) → ((e : Entry) → Among e es → ArePlain e.path) → AreApart es → IsEnd kind es d → grown l (map (named_of kind) es) ≡ nothing
nothing-below kind zero es d plain apart h = refl
nothing-below kind (suc l) es d plain apart h = ap (λ names. side_by_side (λ name others. named name (role_of (below name ns)) (own_type (below name ns)) (grown l (below name ns)) others) names) (none-below kind es d plain apart h)
  where
    ns : List Named
    ns = map (named_of kind) es

pub role-ended : (kind : ℕ → TypeOf) (es : List Entry) (d : Entry) → IsEnd kind es d → role_of (map (named_of kind) es) ≡ single (attribute d.number)
role-ended kind es d h = ap (λ o. unwrap_or (option_map (λ (n : Named). n.role) o) several) h.found

pub type-ended : (kind : ℕ → TypeOf) (es : List Entry) (d : Entry) → IsEnd kind es d → own_type (map (named_of kind) es) ≡ kind d.number
type-ended kind es d h = ap (λ o. unwrap_or (option_map (λ (n : Named). n.kind) o) (types.Struct no_field)) h.found

pub role-open : (kind : ℕ → TypeOf) (es : List Entry) → IsOpen kind es → role_of (map (named_of kind) es) ≡ several
role-open kind es h = ap (λ o. unwrap_or (option_map (λ (n : Named). n.role) o) several) h.found

pub type-open : (kind : ℕ → TypeOf) (es : List Entry) → IsOpen kind es → own_type (map (named_of kind) es) ≡ types.Struct no_field
type-open kind es h = ap (λ o. unwrap_or (option_map (λ (n : Named). n.kind) o) (types.Struct no_field)) h.found

-- ---- the tree

module _ (kind : ℕ → TypeOf) (n : ℕ) where
  abbrev part : ℕ → List Named → Type 0
  part l ns = IsPart kind n (role_of ns) (own_type ns) (grown l ns) × IsTree kind n (grown l ns)

  pub part-of : (l : ℕ) (es : List Entry) → AreEntries kind n es → IsTree kind n (grown l (map (named_of kind) es)) → part l (map (named_of kind) es)
  part-of l es h tree = by (ends-or-not kind es h.plain)
    where
      ended : (r : Role) (k : TypeOf) (parts : Forest) (x : ℕ) → r ≡ single (attribute x) → k ≡ kind x → parts ≡ nothing → IsNumber kind n x → IsPart kind n r k parts
      ended r k parts x e f g number = subst (λ q. IsPart kind n q k parts) (sym e) (f, g, number)

      by : ((d : Entry) × IsEnd kind es d) ⊎ IsOpen kind es → part l (map (named_of kind) es)
      by (inl d) = (ended _ _ _ d.0.number (role-ended kind es d.0 d.1) (type-ended kind es d.0 d.1) (nothing-below kind l es d.0 h.plain h.apart d.1) (h.numbers d.0 d.1.there), tree)
      by (inr o) = (subst (λ q. IsPart kind n q (own_type (map (named_of kind) es)) (grown l (map (named_of kind) es))) (sym (role-open kind es o)) (type-open kind es o), tree)

  side : (l : ℕ) (ns : List Named) (names : List (List ℕ)) → ((name : List ℕ) → part l (below name ns)) → IsTree kind n (side_by_side (λ name others. named name (role_of (below name ns)) (own_type (below name ns)) (grown l (below name ns)) others) names)
  side l ns [] h = tt
  side l ns (name ∷ names) h = ((h name).0, (h name).1, side l ns names h)

  pub grown-tree : (levels : ℕ) (es : List Entry) → AreEntries kind n es → IsTree kind n (grown levels (map (named_of kind) es))
  grown-tree zero es h = tt
  grown-tree (suc l) es h = side l (map (named_of kind) es) (first_names (map (named_of kind) es)) (λ name.
      subst (part l) (sym (below-under kind name es (each-of PlainEntry es h.plain))) (part-of l (under name es) (entries-under kind n es name h) (grown-tree l (under name es) (entries-under kind n es name h))))
