-- Steps that may give nothing or fail, and which way a test went.
use Rattle.std.proofs.Common.{◌≡◌, true, false, Bool, cond, List, [], ◌∷◌, ◌⊎◌, inl, inr, Option, Some, None, is_some, Result, Ok, Err, refl}
use Rattle.std.specs.Option.{option_map, option_and_then}
use Rattle.std.specs.Prelude.{not, is_none, IfOk}

pub some_is : {A : Type 0} (x y : A) → Some x ≡ Some y → x ≡ y
some_is x y e = cc

pub not_some : {A : Type 0} (x : A) → Some x ≡ None → ⊥
not_some x e = cc

pub none_some : {A : Type 0} (x : A) → None ≡ Some x → ⊥
none_some x e = cc

-- nothing that is there
pub none_of : {A : Type 0} (o : Option A) → is_some o ≡ false → o ≡ None
none_of None h = refl
none_of (Some x) h = absurd cc

pub none_is : {A : Type 0} (o : Option A) → is_none o ≡ not (is_some o)
none_is None = refl
none_is (Some x) = refl

pub some_mapped : {A : Type 0} {B : Type 0} (f : A → B) (o : Option A) → is_some (option_map f o) ≡ is_some o
some_mapped f None = refl
some_mapped f (Some x) = refl

-- what a value that was given is, it still is
pub ok_map : {A E : Type 0} (r : Result A E) (P Q : A → Type 0) → ((v : A) → P v → Q v) → IfOk r P → IfOk r Q
ok_map (Ok v) P Q f h = f v h
ok_map (Err e) P Q f h = tt

abbrev pub done : {A F : Type 0} → A → Result A F
done x = Ok x

abbrev pub failed : {A F : Type 0} → F → Result A F
failed f = Err f

pub ok_is : {A F : Type 0} (x y : A) → done {F = F} x ≡ done y → x ≡ y
ok_is x y e = cc

pub err_is : {A F : Type 0} (f g : F) → failed {A = A} f ≡ failed g → f ≡ g
err_is f g e = cc

-- a value that is there
pub some_of : {A : Type 0} (o : Option A) → is_some o ≡ true → (x : A) × (o ≡ Some x)
some_of (Some x) h = (x, refl)
some_of None h = absurd cc

pub map_some : {A B : Type 0} (f : A → B) (o : Option A) (y : B) → option_map f o ≡ Some y → (x : A) × (o ≡ Some x) × (f x ≡ y)
map_some f (Some x) y e = (x, refl, some_is (f x) y e)
map_some f None y e = absurd cc

pub then_some : {A B : Type 0} (f : A → Option B) (o : Option A) (y : B) → option_and_then f o ≡ Some y → (x : A) × (o ≡ Some x) × (f x ≡ Some y)
then_some f (Some x) y e = (x, refl, e)
then_some f None y e = absurd cc

-- the value came from the only side that gives one, so the test held
pub chosen : {A : Type 0} (b : Bool) (o : Option A) (y : A) → cond b o None ≡ Some y → (b ≡ true) × (o ≡ Some y)
chosen true o y e = (refl, e)
chosen false o y e = absurd cc

-- which way a test went
pub sides : {A : Type 0} (b : Bool) (o p : A) (y : A) → cond b o p ≡ y → ((b ≡ true) × (o ≡ y)) ⊎ ((b ≡ false) × (p ≡ y))
sides true o p y e = inl (refl, e)
sides false o p y e = inr (refl, e)

-- and what follows of it
pub either_way : {A P : Type 0} (b : Bool) (o p y : A) → cond b o p ≡ y → (b ≡ true → o ≡ y → P) → (b ≡ false → p ≡ y → P) → P
either_way true o p y e f g = f refl e
either_way false o p y e f g = g refl e

-- what is nothing has nothing in front
pub none_chosen : {X : Type 0} (b : Bool) (x : X) (xs : List X) → cond b (x ∷ xs) xs ≡ [] → xs ≡ []
none_chosen true x xs h = absurd (cc h)
none_chosen false x xs h = h

pub not_chosen : {X Y : Type 0} (b : Bool) (x : X) (xs : List X) (u v : Y) → cond b (x ∷ xs) xs ≡ [] → cond b u v ≡ v
not_chosen true x xs u v h = absurd (cc h)
not_chosen false x xs u v h = refl
