-- A reader whose steps are each exact is exact.
use Rattle.std.proofs.Common.{◌≡◌, inl, inr, Option, Some, None, Result, Ok, Err, refl, sym, ap, subst, ◌∙◌}
use Rattle.std.specs.Prelude.{MatchResult}
use Rattle.list_laws.proofs.Options.{some_is, ok_is, err_is}
use Rattle.ber_grammar.specs.Reader.{◌>>=◌, Gives, Reads}
use Rattle.ber_grammar.specs.Steps.{Then, IsLacking, Or, Else, required}

abbrev pub Exact : {Y F : Type 0} → Result Y F → (Y → Type 0) → (F → Type 0) → Type 0
Exact r S R = Reads (λ y. y) r S R

tells_later : {A B F : Type 0} (r : Result B F) (x : A) (S : A → Type 0) (R : F → Type 0) (T : A → B → Type 0) (Q : A → F → Type 0) → S x → MatchResult r (T x) (Q x) → MatchResult r (Then S T) (Or R S Q)
tells_later (Ok y) x S R T Q s h = (x, s, h)
tells_later (Err f) x S R T Q s h = inr (x, s, h)

refused_later : {A B F : Type 0} (g : A → Result B F) (x : A) (S : A → Type 0) (R : F → Type 0) (T : A → B → Type 0) (Q : A → F → Type 0) (f : F)
    → Exact (Ok x) S R → Exact (g x) (T x) (Q x) → Or R S Q f → Gives (λ (y : B). y) (g x) (Err f)
refused_later {A = A} {F = F} g x S R T Q f h next (inl r) = absurd (let e = h.refuses f r in cc)
refused_later {A = A} {F = F} g x S R T Q f h next (inr (z, s, q)) = let same : z ≡ x = ok_is {F = F} z x (h.only z s) in next.refuses f (subst (λ (a : A). Q a f) same q)

refused_first : {A B F : Type 0} (d : F) (S : A → Type 0) (R : F → Type 0) (Q : A → F → Type 0) (f : F) → Exact (let e : Result A F = Err d in e) S R → Or R S Q f → (let e : Result B F = Err f in e) ≡ Err d
refused_first {A = A} {F = F} d S R Q f h (inl r) = ap (λ (x : F). Err x) (err_is {A = A} f d (h.refuses f r))
refused_first {A = A} {F = F} d S R Q f h (inr (z, s, q)) = absurd (let e = h.only z s in cc)

pub then_exact : {A B F : Type 0} (r : Result A F) (g : A → Result B F) (S : A → Type 0) (R : F → Type 0) (T : A → B → Type 0) (Q : A → F → Type 0)
    → Exact r S R → ((x : A) → S x → Exact (g x) (T x) (Q x)) → Exact (r >>= g) (Then S T) (Or R S Q)
then_exact {A = A} {B = B} {F = F} (Ok x) g S R T Q h k = let next = k x h.tells in record {
  tells = tells_later (g x) x S R T Q h.tells next.tells;
  only = λ y (z, s, t). let same : z ≡ x = ok_is {F = F} z x (h.only z s) in next.only y (subst (λ (a : A). T a y) same t);
  refuses = λ f q. refused_later g x S R T Q f h next q;
}
then_exact {A = A} {B = B} {F = F} (Err d) g S R T Q h k = record {
  tells = inl h.tells;
  only = λ y (z, s, t). absurd (let e = h.only z s in cc);
  refuses = λ f q. refused_first d S R Q f h q;
}

pub required_exact : {A F : Type 0} (o : Option A) (fault : F) (S : A → Type 0) → ((x : A) → o ≡ Some x → S x) → ((x : A) → S x → o ≡ Some x) → Exact (required fault o) S (IsLacking fault S)
required_exact {A = A} {F = F} (Some x) fault S found again = record {
  tells = found x refl;
  only = λ y s. ap (λ (z : A). let e : Result A F = Ok z in e) (sym (some_is x y (again y s)));
  refuses = λ f (e, none). absurd (none x (found x refl));
}
required_exact {A = A} {F = F} None fault S found again = record {
  tells = (refl, λ x s. let e = again x s in absurd cc);
  only = λ y s. absurd (let e = again y s in cc);
  refuses = λ f (e, none). ap (λ (z : F). let e : Result A F = Err z in e) e;
}

pub made_exact : {A B F : Type 0} (r : Result A F) (make : A → B) (S : A → Type 0) (R : F → Type 0) → Exact r S R → Exact (r >>= λ x. Ok (make x)) (Then S (λ x y. y ≡ make x)) R
made_exact {A = A} {B = B} {F = F} (Ok x) make S R h = record {
  tells = (x, h.tells, refl);
  only = λ y (z, s, t). let same : z ≡ x = ok_is {F = F} z x (h.only z s) in ap (λ (b : B). let e : Result B F = Ok b in e) (t ∙ ap make same);
  refuses = λ f q. absurd (let e = h.refuses f q in cc);
}
made_exact {A = A} {B = B} {F = F} (Err d) make S R h = record {
  tells = h.tells;
  only = λ y (z, s, t). absurd (let e = h.only z s in cc);
  refuses = λ f q. ap (λ (x : F). let e : Result B F = Err x in e) (err_is {A = A} f d (h.refuses f q));
}

-- a first step that only lacks something
pub step_exact : {A B F : Type 0} (o : Option A) (fault : F) (g : A → Result B F) (S : A → Type 0) (T : A → B → Type 0) (Q : A → F → Type 0)
    → ((x : A) → o ≡ Some x → S x) → ((x : A) → S x → o ≡ Some x) → ((x : A) → S x → Exact (g x) (T x) (Q x)) → Exact (required fault o >>= g) (Then S T) (Else fault S Q)
step_exact o fault g S T Q found again k = then_exact (required fault o) g S (IsLacking fault S) T Q (required_exact o fault S found again) k
