-- What reads and writes do to a link, one after the other.
use Rattle.std.proofs.Common.{◌≡◌, ℕ, ◌+◌, ◌≤◌, List, [], ◌∷◌, ◌++◌, length, take, Option, Result, Ok, Err, MatchResult, refl, sym, subst, arith}
use Rattle.std.specs.Result.{IsErrAnd}
use Rattle.std.proofs.Math.Seq.{take-length, take-append-add}
use Rattle.std.proofs.lemmas.List.{take-append-le, length-append}
use Rattle.std.specs.Io.KnownBytes.{Consumes, Appends}
use Rattle.std.proofs.KnownBytes.{Consumes-nil, Appends-nil, Appends-trans}
use Rattle.sv_io.specs.Causes.{Rose, GrowsByFront}

pub Consumes-same : (a b : Option (List ℕ)) → b ≡ a → Consumes a b []
Consumes-same a b e = subst (λ (x : Option (List ℕ)). Consumes a x []) (sym e) (Consumes-nil a)

pub Appends-same : (a b : Option (List ℕ)) → b ≡ a → Appends a b []
Appends-same a b e = subst (λ (x : Option (List ℕ)). Appends a x []) (sym e) (Appends-nil a)

pub rose_later : (a m b : ℕ) → a ≤ m → Rose m b → Rose a b
rose_later a m b le rose = omega arith

-- ---- what was written

pub front_whole : (a b : Option (List ℕ)) (o : List ℕ) → Appends a b o → GrowsByFront a b o
front_whole a b o h = (length o, omega arith, subst (λ (x : List ℕ). Appends a b x) (sym (take-length o)) h)

pub front_none : (a b : Option (List ℕ)) (o : List ℕ) → b ≡ a → GrowsByFront a b o
front_none a b o same = (0, omega arith, subst (λ (x : List ℕ). Appends a b x) (sym (take-zero o)) (Appends-same a b same))
  where
    take-zero : (xs : List ℕ) → take 0 xs ≡ []
    take-zero [] = refl
    take-zero (x ∷ xs) = refl

-- a whole piece, and then a front of another
pub front_then : (a m b : Option (List ℕ)) (o p : List ℕ) → Appends a m o → GrowsByFront m b p → GrowsByFront a b (o ++ p)
front_then a m b o p first (n, few, second) =
    (length o + n, omega (arith, length-append o p), subst (λ (x : List ℕ). Appends a b x) (sym (take-append-add o p n)) (Appends-trans a m b o (take n p) first second))

-- a front of the first of two pieces
pub front_of_first : (a b : Option (List ℕ)) (o p : List ℕ) → GrowsByFront a b o → GrowsByFront a b (o ++ p)
front_of_first a b o p (n, few, h) = (n, omega (arith, length-append o p), subst (λ (x : List ℕ). Appends a b x) (sym (take-append-le n o p few)) h)

-- ---- a fault passed on

pub passed_on : {A E : Type 0} (r : Result A E) (f : E) (P : A → Type 0) (Q : E → Type 0) → IsErrAnd r (λ e. e ≡ f) → Q f → MatchResult r P Q
passed_on (Ok x) f P Q h q = absurd h
passed_on (Err e) f P Q h q = subst Q (sym h) q
