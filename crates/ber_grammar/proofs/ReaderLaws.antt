-- From what a function on lists reads to what the program's reader promises.
use Rattle.std.proofs.Common.{◌≡◌, Option, Some, None, Result, Ok, Err, refl, sym, ap, ◌∙◌, subst}
use Rattle.std.specs.Prelude.{MatchResult, IfSome}
use Rattle.list_laws.proofs.Options.{failed}
use Rattle.ber_grammar.specs.Reader.{◌>>=◌, Gives, Reads, GivesOrMemory, ReadsOrMemory}

-- the value of a step that did not fail
pub bind_ok : {A B F : Type 0} (r : Result A F) (f : A → Result B F) (y : B) → (r >>= f) ≡ Ok y → (x : A) × (r ≡ Ok x) × (f x ≡ Ok y)
bind_ok (Ok x) f y e = (x, refl, e)
bind_ok (Err d) f y e = absurd cc

tells_at : {Y F : Type 0} (r : Result Y F) (S : Y → Type 0) (R : F → Type 0) (T : Result Y F → Type 0) → ((y : Y) → T (Ok y) → S y) → ((f : F) → T (Err f) → R f) → T r → MatchResult r S R
tells_at (Ok y) S R T s e h = s y h
tells_at (Err f) S R T s e h = e f h

gives_self : {Y F : Type 0} (r : Result Y F) (y : Y) → r ≡ Ok y → Gives (λ (z : Y). z) r (Ok y)
gives_self (Ok x) y e = sym e
gives_self (Err f) y e = sym e

refuses_self : {Y F : Type 0} (r : Result Y F) (f : F) → r ≡ Err f → Gives (λ (z : Y). z) r (Err f)
refuses_self (Ok x) f e = sym e
refuses_self (Err g) f e = sym e

pub gives_itself : {Y F : Type 0} (r : Result Y F) → Gives (λ (y : Y). y) r r
gives_itself (Ok y) = refl
gives_itself (Err f) = refl

pub exact_from : {Y F : Type 0} (r : Result Y F) (S : Y → Type 0) (R : F → Type 0) (T : Result Y F → Type 0) → ((y : Y) → T (Ok y) → S y) → ((f : F) → T (Err f) → R f) → T r
    → ((y : Y) → S y → r ≡ Ok y) → ((f : F) → R f → r ≡ Err f) → Reads (λ (y : Y). y) r S R
exact_from r S R T s e h only refuses = record { tells = tells_at r S R T s e h; only = λ y p. gives_self r y (only y p); refuses = λ f p. refuses_self r f (refuses f p) }

pub told_of : {Y F : Type 0} (r : Result Y F) (y : Y) (S : Y → Type 0) (R : F → Type 0) → r ≡ Ok y → MatchResult r S R → S y
told_of (Ok x) y S R e h = subst S (cc) h
told_of (Err f) y S R e h = absurd cc

refusal_of : {Y F : Type 0} (r : Result Y F) (f : F) (S : Y → Type 0) (R : F → Type 0) → r ≡ Err f → MatchResult r S R → R f
refusal_of (Ok x) f S R e h = absurd cc
refusal_of (Err g) f S R e h = subst R (cc) h

pub gives_at : {Y F : Type 0} (r : Result Y F) (y : Y) → Gives (λ (z : Y). z) r (Ok y) → Ok y ≡ r
gives_at (Ok x) y e = e
gives_at (Err f) y e = e

pub refuses_at : {Y F : Type 0} (r : Result Y F) (f : F) → Gives (λ (z : Y). z) r (Err f) → Err f ≡ r
refuses_at (Ok x) f e = e
refuses_at (Err g) f e = e

-- what is promised of a list's reader is promised of the program's that gives what it gives
pub reads_from : {X Y F : Type 0} (view : X → Y) (r : Result X F) (read : Result Y F) (S : Y → Type 0) (R : F → Type 0) → Reads (λ (y : Y). y) read S R → Gives view r read → Reads view r S R
reads_from view (Ok x) read S R h g = record { tells = told_of read (view x) S R g h.tells; only = λ y p. gives_at read y (h.only y p) ∙ g; refuses = λ f p. refuses_at read f (h.refuses f p) ∙ g }
reads_from view (Err d) read S R h g = record { tells = refusal_of read d S R g h.tells; only = λ y p. gives_at read y (h.only y p) ∙ g; refuses = λ f p. refuses_at read f (h.refuses f p) ∙ g }

clash : {Y F : Type 0} (g : F) (y : Y) → failed {A = Y} g ≡ Ok y → ⊥
clash g y e = cc

-- a reader with one refusal, which comes where nothing is spelled
pub one_refusal : {Y F : Type 0} (r : Result Y F) (S : Y → Type 0) (fault : F) → ((y : Y) → r ≡ Ok y → S y) → ((y : Y) → S y → r ≡ Ok y) → ((f : F) → r ≡ Err f → f ≡ fault)
    → Reads (λ (y : Y). y) r S (λ f. (f ≡ fault) × ((y : Y) → ¬ S y))
one_refusal (Ok x) S fault found only same = record {
  tells = found x refl;
  only = λ y h. sym (only y h);
  refuses = λ f (e, none). absurd (none x (found x refl));
}
one_refusal (Err g) S fault found only same = record {
  tells = (same g refl, λ y h. clash g y (only y h));
  only = λ y h. absurd (clash g y (only y h));
  refuses = λ f (e, none). ap (λ (x : _). Err x) (e ∙ sym (same g refl));
}

-- ---- the same with memory

fault_tells : {Y F : Type 0} (o : Option F) (read : Result Y F) (S : Y → Type 0) (R : F → Type 0) → Reads (λ (y : Y). y) read S R → IfSome o (λ f. read ≡ Err f) → IfSome o R
fault_tells (Some f) read S R h g = refusal_of read f S R g h.tells
fault_tells None read S R h g = g

fault_is_not : {Y F : Type 0} (o : Option F) (read : Result Y F) (s : Result Y F) → s ≡ read → IfSome o (λ f. read ≡ Err f) → IfSome o (λ f. s ≡ Err f)
fault_is_not (Some f) read s e g = e ∙ g
fault_is_not None read s e g = g

-- what is promised of a list's reader is promised of the program's that gives what it gives, unless memory runs out
pub reads_or_memory_from : {X Y E F : Type 0} (fault_of : E → Option F) (view : X → Y) (r : Result X E) (read : Result Y F) (S : Y → Type 0) (R : F → Type 0) → Reads (λ (y : Y). y) read S R → GivesOrMemory fault_of view r read → ReadsOrMemory fault_of view r S R
reads_or_memory_from fault_of view (Ok x) read S R h g = record { tells = told_of read (view x) S R g h.tells; only = λ y p. gives_at read y (h.only y p) ∙ g; refuses = λ f p. refuses_at read f (h.refuses f p) ∙ g }
reads_or_memory_from fault_of view (Err e) read S R h g = record { tells = fault_tells (fault_of e) read S R h g; only = λ y p. fault_is_not (fault_of e) read (Ok y) (gives_at read y (h.only y p)) g; refuses = λ f p. fault_is_not (fault_of e) read (Err f) (refuses_at read f (h.refuses f p)) g }
