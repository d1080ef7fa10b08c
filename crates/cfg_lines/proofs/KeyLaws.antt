-- A key among others, and after one more.
use Rattle.std.proofs.Common.{◌≡◌, ℕ, ◌+◌, Bool, true, false, cond, ◌||◌, List, [], ◌∷◌, ◌++◌, map, position, Option, None, Some, is_some, refl, sym, ap, ◌∙◌}
use Rattle.std.specs.Option.{option_map}
use Rattle.std.specs.List.{list_any}
use Rattle.std.specs.Str.{bytes_eq}
use Rattle.std.proofs.lemmas.Bool.{cond_both, or_right}
use Rattle.std.proofs.lemmas.Slice.Eq.{bytes_eq-Decides}
use Rattle.list_laws.proofs.Places.{place-cons}
use Rattle.cfg_lines.specs.Keys.{is_among, added}
use Rattle.list_laws.proofs.Truths.{or-turn as turned}

pub any-last : {X : Type 0} (p : X → Bool) (xs : List X) (x : X) → list_any p (xs ++ x ∷ []) ≡ (p x || list_any p xs)
any-last p [] x = refl
any-last p (y ∷ ys) x = ap (λ b. p y || b) (any-last p ys x) ∙ turned (p y) (p x) (list_any p ys)

there : (b c : Bool) → (b ≡ true → c ≡ true) → c ≡ (b || c)
there true c h = h refl
there false c h = refl

among-side : (p : List ℕ → Bool) (k : List ℕ) (ks : List (List ℕ)) (key : List ℕ) (b : Bool) → bytes_eq key k ≡ b → (b || is_among ks key) ≡ true → p key ≡ true
    → (is_among ks key ≡ true → list_any p ks ≡ true) → (p k || list_any p ks) ≡ true
among-side p k ks key true e h passes rest = ap (λ (x : Bool). x || list_any p ks) (ap p (sym ((bytes_eq-Decides key k).0 e)) ∙ passes)
among-side p k ks key false e h passes rest = or_right (p k) (list_any p ks) (rest h)

-- a test that a key passes is passed by one of those among which it is
pub any-among : (p : List ℕ → Bool) (keys : List (List ℕ)) (key : List ℕ) → is_among keys key ≡ true → p key ≡ true → list_any p keys ≡ true
any-among p [] key is passes = absurd cc
any-among p (k ∷ ks) key is passes = among-side p k ks key (bytes_eq key k) refl is passes (λ h. any-among p ks key h passes)

pub any-added : (p : List ℕ → Bool) (keys : List (List ℕ)) (key : List ℕ) → list_any p (added keys key) ≡ (p key || list_any p keys)
any-added p keys key = cond_both (is_among keys key) keys (keys ++ key ∷ []) (λ new. list_any p new ≡ (p key || list_any p keys))
    (λ e. there (p key) (list_any p keys) (λ passes. any-among p keys key e passes))
    (λ e. any-last p keys key)

pub any-map : {X Y : Type 0} (p : Y → Bool) (f : X → Y) (xs : List X) → list_any p (map f xs) ≡ list_any (λ x. p (f x)) xs
any-map p f [] = refl
any-map p f (x ∷ xs) = ap (λ b. p (f x) || b) (any-map p f xs)

pub shifted : (a b c : Bool) → (c || (a || b)) ≡ ((a || c) || b)
shifted true b true = refl
shifted true b false = refl
shifted false b c = refl

-- a key is among others exactly where it has a place among them
place-shown : (b : Bool) (r : Option ℕ) → is_some (cond b (Some 0) (option_map (λ n. n + 1) r)) ≡ (b || is_some r)
place-shown true r = refl
place-shown false (Some x) = refl
place-shown false None = refl

pub placed : {X : Type 0} (p : X → Bool) (xs : List X) → is_some (position p xs) ≡ list_any p xs
placed p [] = refl
placed p (x ∷ xs) = ap is_some (place-cons p x xs) ∙ (place-shown (p x) (position p xs) ∙ ap (λ b. p x || b) (placed p xs))
