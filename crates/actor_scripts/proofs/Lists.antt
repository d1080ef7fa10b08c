-- Replies and steps of a history, by their places.
use Rattle.std.proofs.Common.{◌≡◌, ℕ, zero, suc, ◌<◌, ◌≤◌, Bool, true, false, cond, eqb, List, [], ◌∷◌, ◌++◌, length, get_or, map, set, sym, refl, ap, ◌∙◌, arith, length-append, Some, inl, inr, ◌⊎◌}
use Rattle.std.specs.Prelude.{Option, Result, Ok, Err, IfOk, slice_get}
use Rattle.std.specs.List.{All}
use Rattle.std.proofs.lemmas.Bool.{eqb-true}
use Rattle.sv_base.specs.declared.config.Config.{Config}
use Rattle.bay_model.specs.Answers.{Turn, History}
use Rattle.bay_histories.specs.Rules.{Rules}
use Rattle.bay_histories.specs.Histories.{turn_of, by}
use Rattle.actor_scripts.specs.declared.script.TimedStep.{TimedStep}
use Rattle.actor_scripts.specs.declared.part.Reply.{Reply}
use Rattle.actor_scripts.specs.declared.made.Made.{Made}
use Rattle.actor_scripts.specs.Scripts.{turns_onto, reply_to, replies_of, made_from, made_of, made}
use Rattle.actor_scripts.specs.Merging.{AreRight}
use Rattle.list_laws.proofs.Options.{none_chosen, not_chosen}

-- ---- elements of a list that one was added to

pub get_left : {A : Type 0} (xs : List A) (y x : A) (i : ℕ) → slice_get xs i ≡ Some x → slice_get (xs ++ y ∷ []) i ≡ Some x
get_left [] y x i e = absurd (cc e)
get_left (z ∷ zs) y x zero e = e
get_left (z ∷ zs) y x (suc i) e = get_left zs y x i e

pub get_last : {A : Type 0} (xs : List A) (y : A) (i : ℕ) → i ≡ length xs → slice_get (xs ++ y ∷ []) i ≡ Some y
get_last [] y zero e = refl
get_last [] y (suc i) e = absurd (omega (arith, e))
get_last (z ∷ zs) y zero e = absurd (omega (arith, e))
get_last (z ∷ zs) y (suc i) e = get_last zs y i (omega (arith, e))

-- an element is one of the list, or the one that was added
pub data Pushed {A : Type 0} (xs : List A) (y x : A) (i : ℕ) : Type 0 where
  old : slice_get xs i ≡ Some x → Pushed xs y x i
  last : i ≡ length xs → x ≡ y → Pushed xs y x i

pub get_pushed : {A : Type 0} (xs : List A) (y x : A) (i : ℕ) → slice_get (xs ++ y ∷ []) i ≡ Some x → Pushed xs y x i
get_pushed [] y x zero e = last refl (sym (cc e))
get_pushed [] y x (suc i) e = absurd (cc e)
get_pushed (z ∷ zs) y x zero e = old e
get_pushed (z ∷ zs) y x (suc i) e = on (get_pushed zs y x i e)
  where
    on : Pushed zs y x i → Pushed (z ∷ zs) y x (suc i)
    on (old g) = old g
    on (last n is) = last (ap suc n) is

-- ---- the steps of one actor

pub length_made : (rules : Rules) (c : Config) (h : History) → length (made_of rules c h) ≡ length h
length_made rules c [] = refl
length_made rules c (t ∷ h) = omega (arith, length_made rules c h, length-append (made_of rules c h) (made_from rules c h t ∷ []))

counted : (b : Bool) (t : Turn) (h : History) (rs : List Reply) (r : Reply) → length rs ≡ length h → length (cond b (rs ++ r ∷ []) rs) ≡ length (cond b (t ∷ h) h)
counted true t h rs r e = omega (arith, e, length-append rs (r ∷ []))
counted false t h rs r e = e

-- there is a reply to each step of an actor
pub as_many : (rules : Rules) (c : Config) (k : ℕ) (h : History) → length (replies_of rules c k h) ≡ length (by k h)
as_many rules c k [] = refl
as_many rules c k (t ∷ h) = counted (eqb t.actor k) t (by k h) (replies_of rules c k h) (reply_to rules c h t) (as_many rules c k h)

module _ (rules : Rules) (c : Config) (k : ℕ) (t : Turn) (h : History) (before : (j : ℕ) (r : Reply) → slice_get (replies_of rules c k h) j ≡ Some r → slice_get (made_of rules c h) r.place ≡ Some (made k j r)) where
  newest : (j : ℕ) (r : Reply) → t.actor ≡ k → j ≡ length (replies_of rules c k h) → r ≡ reply_to rules c h t → slice_get (made_of rules c h ++ made_from rules c h t ∷ []) r.place ≡ Some (made k j r)
  newest j r mine n is =
      get_last (made_of rules c h) (made_from rules c h t) r.place (ap (λ (r : Reply). r.place) is ∙ sym (length_made rules c h))
      ∙ (λ i. Some (record { actor = mine i; index = (ap (λ (m : ℕ). length (by m h)) mine ∙ sym (as_many rules c k h) ∙ sym n) i; answer = (sym (ap (λ (r : Reply). r.answer) is)) i }))

  of_pushed : (j : ℕ) (r : Reply) → t.actor ≡ k → Pushed (replies_of rules c k h) (reply_to rules c h t) r j → slice_get (made_of rules c h ++ made_from rules c h t ∷ []) r.place ≡ Some (made k j r)
  of_pushed j r mine (old g) = get_left (made_of rules c h) (made_from rules c h t) (made k j r) r.place (before j r g)
  of_pushed j r mine (last n is) = newest j r mine n is

  one_more : (b : Bool) → b ≡ eqb t.actor k → (j : ℕ) (r : Reply) → slice_get (cond b (replies_of rules c k h ++ reply_to rules c h t ∷ []) (replies_of rules c k h)) j ≡ Some r
      → slice_get (made_of rules c h ++ made_from rules c h t ∷ []) r.place ≡ Some (made k j r)
  one_more true is j r g = of_pushed j r (eqb-true t.actor k (sym is)) (get_pushed (replies_of rules c k h) (reply_to rules c h t) r j g)
  one_more false is j r g = get_left (made_of rules c h) (made_from rules c h t) (made k j r) r.place (before j r g)

-- a step stands where its reply says
pub stands_there : (rules : Rules) (c : Config) (k : ℕ) (h : History) (j : ℕ) (r : Reply) → slice_get (replies_of rules c k h) j ≡ Some r → slice_get (made_of rules c h) r.place ≡ Some (made k j r)
stands_there rules c k [] j r g = absurd (cc g)
stands_there rules c k (t ∷ h) j r g = one_more rules c k t h (stands_there rules c k h) (eqb t.actor k) refl j r g

-- ---- a script

-- one step more is the newest turn
pub turns_more : (k : ℕ) (steps : List TimedStep) (s : TimedStep) (before : History) → turns_onto k (steps ++ s ∷ []) before ≡ turn_of s.moment k s.step ∷ turns_onto k steps before
turns_more k [] s before = refl
turns_more k (x ∷ steps) s before = turns_more k steps s (turn_of x.moment k x.step ∷ before)

pub replies_skip : (rules : Rules) (c : Config) (k : ℕ) (between h : History) → by k between ≡ [] → replies_of rules c k (between ++ h) ≡ replies_of rules c k h
replies_skip rules c k [] h none = refl
replies_skip rules c k (e ∷ es) h none =
    not_chosen (eqb e.actor k) e (by k es) (replies_of rules c k (es ++ h) ++ reply_to rules c (es ++ h) e ∷ []) (replies_of rules c k (es ++ h)) none
    ∙ replies_skip rules c k es h (none_chosen (eqb e.actor k) e (by k es) none)

-- ---- places

pub get_here : {A : Type 0} (xs ys : List A) (x : A) (i : ℕ) → i ≡ length xs → slice_get (xs ++ x ∷ ys) i ≡ Some x
get_here [] ys x zero e = refl
get_here [] ys x (suc i) e = absurd (omega (arith, e))
get_here (z ∷ zs) ys x zero e = absurd (omega (arith, e))
get_here (z ∷ zs) ys x (suc i) e = get_here zs ys x i (omega (arith, e))

get_set : {A : Type 0} (xs : List A) (i p : ℕ) (y z : A) → slice_get (set xs i y) p ≡ Some z → (slice_get xs p ≡ Some z) ⊎ ((p ≡ i) × (y ≡ z))
get_set [] i p y z e = inl e
get_set (x ∷ xs) zero zero y z e = inr (refl, cc e)
get_set (x ∷ xs) zero (suc p) y z e = inl e
get_set (x ∷ xs) (suc i) zero y z e = inl e
get_set (x ∷ xs) (suc i) (suc p) y z e = on (get_set xs i p y z e)
  where
    on : (slice_get xs p ≡ Some z) ⊎ ((p ≡ i) × (y ≡ z)) → (slice_get xs p ≡ Some z) ⊎ ((suc p ≡ suc i) × (y ≡ z))
    on (inl g) = inl g
    on (inr g) = inr (ap suc g.0, g.1)

pub right_set : (ms : List Made) (places : List (Option Made)) (place : ℕ) (m : Made) → slice_get ms place ≡ Some m → AreRight ms places → AreRight ms (set places place (Some m))
right_set ms places place m here right p z g = on (get_set places place p (Some m) (Some z) g)
  where
    on : (slice_get places p ≡ Some (Some z)) ⊎ ((p ≡ place) × (Some m ≡ Some z)) → slice_get ms p ≡ Some z
    on (inl before) = right p z before
    on (inr new) = ap (slice_get ms) new.0 ∙ (here ∙ ap (λ (x : Made). Some x) (cc new.1))

-- places that are all filled have the list
pub all_right : (ms steps : List Made) → length ms ≡ length steps → AreRight ms (map Some steps) → steps ≡ ms
all_right [] [] e right = refl
all_right [] (x ∷ xs) e right = absurd (omega (arith, e))
all_right (m ∷ ms) [] e right = absurd (omega (arith, e))
all_right (m ∷ ms) (x ∷ xs) e right =
    let first : Some m ≡ Some x = right 0 x refl in
    let same : x ≡ m = cc first in
    λ i. same i ∷ all_right ms xs (omega (arith, e)) (λ p z g. right (suc p) z g) i

pub set_past : {A : Type 0} (xs : List A) (i : ℕ) (y : A) → length xs ≤ i → set xs i y ≡ xs
set_past [] i y e = refl
set_past (x ∷ xs) zero y e = absurd (omega (arith, e))
set_past (x ∷ xs) (suc i) y e = ap (λ (l : List _). x ∷ l) (set_past xs i y (omega (arith, e)))

pub get_some : {A : Type 0} (xs : List A) (i : ℕ) (x : A) → i < length xs → get_or xs i x ≡ x → slice_get xs i ≡ Some x
get_some [] i x near is = absurd (omega (arith, near))
get_some (y ∷ ys) zero x near is = ap (λ (z : _). Some z) is
get_some (y ∷ ys) (suc i) x near is = get_some ys i x (omega (arith, near)) is

-- ---- elements of which all are so

pub all_here : {A : Type 0} (P : A → Type 0) (xs ys : List A) (x : A) → All P (xs ++ x ∷ ys) → P x
all_here P [] ys x all = all 0 x (omega arith)
all_here P (z ∷ zs) ys x all = all_here P zs ys x (λ k d near. all (suc k) d (omega (arith, near)))

pub map_last : {A B : Type 0} (f : A → B) (xs : List A) (x : A) → map f (xs ++ x ∷ []) ≡ map f xs ++ f x ∷ []
map_last f [] x = refl
map_last f (y ∷ ys) x = ap (λ (l : List _). f y ∷ l) (map_last f ys x)

pub ok_with : {A E : Type 0} (P Q R S : A → Type 0) (r : Result A E) → IfOk r P → IfOk r Q → IfOk r R → ((a : A) → P a → Q a → R a → S a) → IfOk r S
ok_with P Q R S (Ok a) p q s f = f a p q s
ok_with P Q R S (Err e) p q s f = p
