-- Attributes by the names of their paths: what stands below a name, and that no path goes on from where another ends.
use Rattle.std.proofs.Common.{◌≡◌, ℕ, ◌<◌, ◌==◌, Bool, true, false, cond, not, ◌&&◌, inl, inr, List, [], ◌∷◌, ◌++◌, map, filter, flat_map, length, refl, sym, ap, subst, ◌∙◌, arith, if◌then◌else◌}
use Rattle.std.specs.Str.{bytes_eq}
use Rattle.std.proofs.lemmas.Bool.Decides.{nat_tests}
use Rattle.list_laws.proofs.Distinct.{octets_same}
use Rattle.sv_base.specs.declared.types.TypeOf.{TypeOf}
use Rattle.bay_model.specs.Model.{attribute}
use Rattle.bay_model.specs.Generated.{Named, end_named}
use Rattle.bay_model.specs.NameTree.{first_name, rest_of, is_itself, below}
use Rattle.list_laws.proofs.Among.{Among, Each, gathered, tails}
use Rattle.text_configs.proofs.JoinedLaws.{ArePlain, joined, first, first-joined, rest-joined, joined-some}

pub record Entry : Type 0 where
  pub path : List (List ℕ)
  pub number : ℕ

abbrev pub entry : List (List ℕ) → ℕ → Entry
entry path number = record { path = path; number = number }

-- an attribute at the names of a path
abbrev pub at_path : (ℕ → TypeOf) → List (List ℕ) → ℕ → Named
at_path kind path x = end_named (joined path) (attribute x) (kind x)

abbrev pub named_of : (ℕ → TypeOf) → Entry → Named
named_of kind e = at_path kind e.path e.number

abbrev pub cut : List ℕ → List (List ℕ) → ℕ → List Entry
cut name [] x = []
cut name (n ∷ names) x = if bytes_eq name n then entry names x ∷ [] else []

abbrev pub under : List ℕ → List Entry → List Entry
under name es = flat_map (λ (e : Entry). cut name e.path e.number) es

abbrev pub PlainEntry : Entry → Type 0
PlainEntry e = ArePlain e.path

itself-not : (n : List ℕ) (names : List (List ℕ)) → 0 < length n → (length (joined (n ∷ names)) == 0) ≡ false
itself-not n names h = let some : 0 < length (joined (n ∷ names)) = joined-some n names h in grind (arith, nat_tests)

-- below a name stand the entries that are cut
module _ (kind : ℕ → TypeOf) (name : List ℕ) where
  abbrev stands : Named → Bool
  stands n = not (is_itself n) && bytes_eq name (first_name n)

  step : (path : List (List ℕ)) (x : ℕ) (ns : List Named) (es : List Entry) → ArePlain path → below name ns ≡ map (named_of kind) es → below name (at_path kind path x ∷ ns) ≡ map (named_of kind) (cut name path x ++ es)
  step [] x ns es h go = go
  step (n ∷ names) x ns es h go =
      ap (λ b. map rest_of (cond (not b && bytes_eq name (first (joined (n ∷ names)))) (at_path kind (n ∷ names) x ∷ filter stands ns) (filter stands ns))) (itself-not n names h.0.0)
      ∙ (ap (λ f. map rest_of (cond (true && bytes_eq name f) (at_path kind (n ∷ names) x ∷ filter stands ns) (filter stands ns))) (first-joined n names h.0.1) ∙ by (bytes_eq name n))
    where
      by : (b : Bool) → map rest_of (cond (true && b) (at_path kind (n ∷ names) x ∷ filter stands ns) (filter stands ns)) ≡ map (named_of kind) ((if b then entry names x ∷ [] else []) ++ es)
      by true = ap (λ i. end_named i (attribute x) (kind x) ∷ below name ns) (rest-joined n names h.0.1) ∙ ap (λ l. at_path kind names x ∷ l) go
      by false = go

  pub below-under : (es : List Entry) → Each PlainEntry es → below name (map (named_of kind) es) ≡ map (named_of kind) (under name es)
  below-under [] h = refl
  below-under (e ∷ es) h = step e.path e.number (map (named_of kind) es) (under name es) h.0 (below-under es h.1)

-- an entry that is cut
pub uncut : (name : List ℕ) (path : List (List ℕ)) (x : ℕ) (d : Entry) → Among d (cut name path x) → (path ≡ name ∷ d.path) × (x ≡ d.number)
uncut name [] x d i = absurd i
uncut name (n ∷ names) x d i = by (bytes_eq name n) refl i
  where
    by : (b : Bool) → bytes_eq name n ≡ b → Among d (if b then entry names x ∷ [] else []) → (n ∷ names ≡ name ∷ d.path) × (x ≡ d.number)
    by true e (inl is) = (ap (λ m. m ∷ names) (sym (octets_same name n e)) ∙ ap (λ (y : Entry). name ∷ y.path) (sym is), ap (λ (y : Entry). y.number) (sym is))
    by true e (inr j) = absurd j
    by false e j = absurd j

pub record IsUnder (es : List Entry) (name : List ℕ) (d e : Entry) : Type 0 where
  pub there : Among e es
  pub path : e.path ≡ name ∷ d.path
  pub number : e.number ≡ d.number

pub under-of : (es : List Entry) (name : List ℕ) (d : Entry) → Among d (under name es) → (e : Entry) × IsUnder es name d e
under-of es name d i = let g = gathered (λ (e : Entry). cut name e.path e.number) d es i in
    let u = uncut name g.0.path g.0.number d g.2 in (g.0, record { there = g.1; path = u.0; number = u.1 })

-- no path goes on from where another ends
abbrev pub AreApart : List Entry → Type 0
AreApart es = (d e : Entry) (more : List (List ℕ)) → Among d es → Among e es → e.path ≡ d.path ++ more → d ≡ e

pub same-entry : (d e : Entry) → d.path ≡ e.path → d.number ≡ e.number → d ≡ e
same-entry d e h k = both d.path e.path d.number e.number h k
  where
    both : (p q : List (List ℕ)) (x y : ℕ) → p ≡ q → x ≡ y → entry p x ≡ entry q y
    both p q x y h k = cc

pub apart-under : (es : List Entry) (name : List ℕ) → AreApart es → AreApart (under name es)
apart-under es name apart d e more i j is =
    let a = under-of es name d i in
    let b = under-of es name e j in
    let same : a.0 ≡ b.0 = apart a.0 b.0 more a.1.there b.1.there (b.1.path ∙ (ap (λ l. name ∷ l) is ∙ ap (λ l. l ++ more) (sym a.1.path))) in
    let paths : name ∷ d.path ≡ name ∷ e.path = sym a.1.path ∙ (ap (λ (x : Entry). x.path) same ∙ b.1.path) in
    let numbers : d.number ≡ e.number = sym a.1.number ∙ (ap (λ (x : Entry). x.number) same ∙ b.1.number) in
    same-entry d e (tails name name d.path e.path paths) numbers

pub plain-under : (es : List Entry) (name : List ℕ) → ((e : Entry) → Among e es → ArePlain e.path) → (d : Entry) → Among d (under name es) → ArePlain d.path
plain-under es name plain d i = let a = under-of es name d i in (subst ArePlain a.1.path (plain a.0 a.1.there)).1
