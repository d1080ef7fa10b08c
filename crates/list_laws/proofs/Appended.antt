-- Lists that are added one after another, and how far a loop has come.
use Rattle.std.proofs.Common.{◌≡◌, ◌≤◌, ℕ, ◌+◌, ◌-◌, ◌<◌, List, [], ◌∷◌, ◌++◌, map, flat_map, take, length, get_or, refl, sym, ap, ◌∙◌, append_assoc, append-nil, length-append, subst, arith}
use Rattle.std.proofs.lemmas.List.{take_more, map-append, take-take}
use Rattle.std.proofs.Math.Seq.{take-append_seam, take-append-add}

pub two : {X : Type 0} (o a b x y : List X) → a ≡ o ++ x → b ≡ a ++ y → b ≡ o ++ (x ++ y)
two o a b x y e f = f ∙ (ap (λ l. l ++ y) e ∙ append_assoc o x y)

-- one more of a list whose images are added one after another
pub map-more : {X Y : Type 0} (f : X → Y) (xs : List X) (i : ℕ) (x : X) (init out more : List Y) → i < length xs → x ≡ get_or xs i x → out ≡ init ++ map f (take i xs) → more ≡ out ++ f x ∷ [] → more ≡ init ++ map f (take (i + 1) xs)
map-more f xs i x init out more h e o m = m ∙ (ap (λ l. l ++ f x ∷ []) o ∙ (append_assoc init (map f (take i xs)) (f x ∷ []) ∙ ap (λ l. init ++ l) (sym (ap (map f) (take_more xs i x h) ∙ (map-append f (take i xs) (get_or xs i x ∷ []) ∙ ap (λ z. map f (take i xs) ++ f z ∷ []) (sym e))))))

-- one more of a list whose rows are added one after another
pub flat-more : {X Y : Type 0} (f : X → List Y) (xs : List X) (x : X) → flat_map f (xs ++ x ∷ []) ≡ flat_map f xs ++ f x
flat-more f [] x = append-nil (f x)
flat-more f (y ∷ ys) x = ap (λ l. f y ++ l) (flat-more f ys x) ∙ sym (append_assoc (f y) (flat_map f ys) (f x))

pub map-map : {X Y Z : Type 0} (f : Y → Z) (g : X → Y) (xs : List X) → map f (map g xs) ≡ map (λ x. f (g x)) xs
map-map f g [] = refl
map-map f g (x ∷ xs) = ap (λ l. f (g x) ∷ l) (map-map f g xs)

-- a list with one element more is not empty
pub some-left : {X : Type 0} (xs : List X) (x : X) → xs ++ x ∷ [] ≡ [] → ⊥
some-left [] x e = cc
some-left (y ∷ ys) x e = cc

-- ---- fronts

pub still-begins : (a b m x : List ℕ) → m ≡ a ++ b → take (length m) x ≡ m → take (length a) x ≡ a
still-begins a b m x e h =
    let same : take (length (a ++ b)) x ≡ a ++ b = subst (λ y. take (length y) x ≡ y) e h in
    sym (take-take (length a) (length (a ++ b)) x (omega (arith, length-append a b))) ∙ ap (λ y. take (length a) y) same ∙ take-append_seam a b

pub take-front : (n : ℕ) (xs ys : List ℕ) → length xs ≤ n → take n (xs ++ ys) ≡ xs ++ take (n - length xs) ys
take-front n xs ys low = let same : n ≡ length xs + (n - length xs) = omega (arith, low) in ap (λ m. take m (xs ++ ys)) same ∙ take-append-add xs ys (n - length xs)
