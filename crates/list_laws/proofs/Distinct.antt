-- Lists in which no element stands twice, by the octets of names and by equality.
use Rattle.std.proofs.Common.{◌≡◌, ℕ, Bool, true, false, if◌then◌else◌, inl, inr, List, [], ◌∷◌, ◌++◌, map, refl, sym, subst, ◌∙◌, true≢false}
use Rattle.std.specs.List.{list_any}
use Rattle.std.specs.Str.{bytes_eq}
use Rattle.std.specs.Cmp.Lexicographic.{bytes_decides}
use Rattle.list_laws.proofs.Among.{Among, source}
use Rattle.list_laws.proofs.Truths.{or-left, or-right, both-ways}

-- ---- octets that are the same, or are not

pub octets_same : (a b : List ℕ) → bytes_eq a b ≡ true → a ≡ b
octets_same a b h = (bytes_decides a b).0 h

pub octets_equal : (a b : List ℕ) → a ≡ b → bytes_eq a b ≡ true
octets_equal a b h = (bytes_decides a b).1 h

pub octets_own : (a : List ℕ) → bytes_eq a a ≡ true
octets_own a = octets_equal a a refl

pub octets_turned : (a b : List ℕ) → bytes_eq a b ≡ bytes_eq b a
octets_turned a b = both-ways (bytes_eq a b) (bytes_eq b a) (λ h. octets_equal b a (sym (octets_same a b h))) (λ h. octets_equal a b (sym (octets_same b a h)))

pub octets_apart : (a b : List ℕ) → bytes_eq a b ≡ false → bytes_eq b a ≡ false
octets_apart a b h = octets_turned b a ∙ h

-- ---- each name once

abbrev pub Absent : List ℕ → List (List ℕ) → Type 0
Absent n [] = Unit {0}
Absent n (m ∷ ms) = (bytes_eq m n ≡ false) × Absent n ms

abbrev pub Distinct : List (List ℕ) → Type 0
Distinct [] = Unit {0}
Distinct (n ∷ ns) = Absent n ns × Distinct ns

absent-more : (n f : List ℕ) (ns : List (List ℕ)) → Absent n ns → bytes_eq f n ≡ false → Absent n (ns ++ f ∷ [])
absent-more n f [] a h = (h, tt)
absent-more n f (m ∷ ms) a h = (a.0, absent-more n f ms a.1 h)

pub distinct-more : (f : List ℕ) (ns : List (List ℕ)) → Distinct ns → list_any (bytes_eq f) ns ≡ false → Distinct (ns ++ f ∷ [])
distinct-more f [] d h = (tt, tt)
distinct-more f (n ∷ ns) d h = (absent-more n f ns d.0 (or-left (bytes_eq f n) (list_any (bytes_eq f) ns) h), distinct-more f ns d.1 (or-right (bytes_eq f n) (list_any (bytes_eq f) ns) h))

-- a name that isn't there is added
pub distinct-new : (f : List ℕ) (ns : List (List ℕ)) → Distinct ns → Distinct (if list_any (bytes_eq f) ns then ns else ns ++ f ∷ [])
distinct-new f ns d = by (list_any (bytes_eq f) ns) refl
  where
    by : (b : Bool) → list_any (bytes_eq f) ns ≡ b → Distinct (if b then ns else ns ++ f ∷ [])
    by true e = d
    by false e = distinct-more f ns d e

-- ---- no element stands twice

abbrev pub Differ : {X : Type 0} → List X → Type 0
Differ [] = Unit {0}
Differ (x ∷ xs) = (Among x xs → ⊥) × Differ xs

not-absent : (n : List ℕ) (ns : List (List ℕ)) → Absent n ns → Among n ns → ⊥
not-absent n [] a i = i
not-absent n (m ∷ ms) a (inl e) = true≢false (sym ((bytes_decides m n).1 (sym e)) ∙ a.0)
not-absent n (m ∷ ms) a (inr i) = not-absent n ms a.1 i

pub differ : (ns : List (List ℕ)) → Distinct ns → Differ ns
differ [] d = tt
differ (n ∷ ns) d = (not-absent n ns d.0, differ ns d.1)

pub differ-map : {X Y : Type 0} (g : X → Y) (ns : List X) → ((a b : X) → g a ≡ g b → a ≡ b) → Differ ns → Differ (map g ns)
differ-map g [] same d = tt
differ-map g (n ∷ ns) same d = ((λ i. let s = source g (g n) ns i in d.0 (subst (λ x. Among x ns) (sym (same n s.0 s.2)) s.1)), differ-map g ns same d.1)
