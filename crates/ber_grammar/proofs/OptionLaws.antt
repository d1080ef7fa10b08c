-- Steps that may give nothing.
use Rattle.std.proofs.Common.{◌≡◌, Option, Some, None, Result, Ok, Err, refl, ap}
use Rattle.list_laws.proofs.Options.{some_is}
use Rattle.ber_grammar.specs.Reader.{and_then, kept, first_of_two}

pub kept_some : {A F : Type 0} (r : Result A F) (x : A) → kept r ≡ Some x → r ≡ Ok x
kept_some (Ok y) x e = ap (λ (z : _). Ok z) (some_is y x e)
kept_some (Err f) x e = absurd cc

pub then_some : {A B : Type 0} (o : Option A) (f : A → Option B) (y : B) → and_then o f ≡ Some y → (x : A) × (o ≡ Some x) × (f x ≡ Some y)
then_some (Some x) f y e = (x, refl, e)
then_some None f y e = absurd cc

-- ---- the first of two

pub first_none : {A : Type 0} (a : Option A) → first_of_two a None ≡ a
first_none (Some x) = refl
first_none None = refl

pub first_first : {A : Type 0} (a b c : Option A) → first_of_two a (first_of_two b c) ≡ first_of_two (first_of_two a b) c
first_first (Some x) b c = refl
first_first None b c = refl
