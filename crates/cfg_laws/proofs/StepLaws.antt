-- A step of the reading that refuses, and the kind that the format has for it.
use Rattle.std.proofs.Common.{◌≡◌, ℕ, ◌↔◌, inl, inr, Bool, true, false, cond, ◌==◌, refl, sym, ap, ◌∙◌, true≢false}
use Rattle.std.proofs.lemmas.Bool.{false≢true}
use Rattle.std.specs.Prelude.{Option, Some, None, Result, Ok, Err, if◌then◌else◌}
use Rattle.cfg_parser.specs.declared.fault.Kind.{Kind}
use Rattle.cfg_parser.specs.declared.fault.Kind.TheVariants as kinds
use Rattle.cfg_parser.specs.Kinds.{number_of}
use Rattle.cfg_parser.specs.Reader.{◌>>=◌, given}
use Rattle.cfg_laws.specs.Words.{Else}
use Rattle.list_laws.proofs.Options.{none_some}

pub itself : {A : Type 0} → A ↔ A
itself = (λ a. a, λ a. a)

abbrev pub err_of : (A : Type 0) → Kind → Result A Kind
err_of A kind = Err kind

-- different kinds have different numbers
kind_of : ℕ → Kind
kind_of n =
    if n == 1 then kinds.Word
    else if n == 2 then kinds.Order
    else if n == 3 then kinds.Name
    else if n == 4 then kinds.Duplicate
    else if n == 5 then kinds.TypeName
    else if n == 6 then kinds.Flags
    else if n == 7 then kinds.Value
    else if n == 8 then kinds.Number
    else if n == 9 then kinds.Unknown
    else if n == 10 then kinds.Long
    else if n == 11 then kinds.Many
    else kinds.Member

back : (kind : Kind) → kind_of (number_of kind) ≡ kind
unfolding kind_of
back kinds.Word = refl
back kinds.Order = refl
back kinds.Name = refl
back kinds.Duplicate = refl
back kinds.TypeName = refl
back kinds.Flags = refl
back kinds.Value = refl
back kinds.Number = refl
back kinds.Unknown = refl
back kinds.Long = refl
back kinds.Many = refl
back kinds.Member = refl

pub same-kind : (a b : Kind) → number_of a ≡ number_of b → a ≡ b
same-kind a b e = sym (back a) ∙ (ap kind_of e ∙ back b)

pub err-is : {A : Type 0} (a b : Kind) → err_of A a ≡ err_of A b → a ≡ b
err-is a b e = cc

pub refuses : (A : Type 0) (cause kind : Kind) → (err_of A cause ≡ err_of A kind) ↔ (number_of kind ≡ number_of cause)
refuses A cause kind = (λ e. ap number_of (sym (err-is cause kind e)), λ e. ap (err_of A) (sym (same-kind kind cause e)))

pub nothing : {A : Type 0} (x : A) (kind : Kind) → (Ok x ≡ err_of A kind) ↔ ⊥
nothing x kind = (λ e. absurd cc e, λ a. absurd a)

stops : {A : Type 0} (cause kind : Kind) (Right After : Type 0) → (Right → ⊥) → (err_of A cause ≡ err_of A kind) ↔ Else (number_of kind) (number_of cause) Right After
stops {A} cause kind Right After never = (λ e. inl (never, (refuses A cause kind).0 e), by)
  where
    by : Else (number_of kind) (number_of cause) Right After → err_of A cause ≡ err_of A kind
    by (inl x) = (refuses A cause kind).1 x.1
    by (inr x) = absurd (never x.0)

goes : {A : Type 0} (r : Result A Kind) (cause kind : Kind) (Right After : Type 0) → Right → ((r ≡ err_of A kind) ↔ After) → (r ≡ err_of A kind) ↔ Else (number_of kind) (number_of cause) Right After
goes {A} r cause kind Right After right step = (λ e. inr (right, step.0 e), by)
  where
    by : Else (number_of kind) (number_of cause) Right After → r ≡ err_of A kind
    by (inl x) = absurd (x.0 right)
    by (inr x) = step.1 x.1

pub if-right : {A : Type 0} (b : Bool) (r : Result A Kind) (cause kind : Kind) (Right After : Type 0) → ((b ≡ true) ↔ Right) → (b ≡ true → (r ≡ err_of A kind) ↔ After)
    → (cond b r (Err cause) ≡ err_of A kind) ↔ Else (number_of kind) (number_of cause) Right After
if-right true r cause kind Right After is step = goes r cause kind Right After (is.0 refl) (step refl)
if-right false r cause kind Right After is step = stops cause kind Right After (λ right. false≢true (is.1 right))

pub if-wrong : {A : Type 0} (b : Bool) (r : Result A Kind) (cause kind : Kind) (Right After : Type 0) → ((b ≡ false) ↔ Right) → (b ≡ false → (r ≡ err_of A kind) ↔ After)
    → (cond b (Err cause) r ≡ err_of A kind) ↔ Else (number_of kind) (number_of cause) Right After
if-wrong false r cause kind Right After is step = goes r cause kind Right After (is.0 refl) (step refl)
if-wrong true r cause kind Right After is step = stops cause kind Right After (λ right. true≢false (is.1 right))

-- there is something exactly where it is right
abbrev pub Reads : {A : Type 0} → Option A → Type 0 → Type 0
Reads {A} o Right = ((x : A) → o ≡ Some x → Right) × (Right → (x : A) × (o ≡ Some x))

pub given-right : {A B C : Type 0} (o : Option A) (f : A → Result B Kind) (on : Result B Kind → Result C Kind) (cause kind : Kind) (Right After : Type 0)
    → ((k : Kind) → on (Err k) ≡ err_of C k) → Reads o Right → ((x : A) → o ≡ Some x → (on (f x) ≡ err_of C kind) ↔ After)
    → (on (given cause o >>= f) ≡ err_of C kind) ↔ Else (number_of kind) (number_of cause) Right After
given-right {A} {B} {C} None f on cause kind Right After keeps reads step =
    let at = stops {A = C} cause kind Right After (λ right. let x = reads.1 right in none_some x.0 x.1) in
    (λ e. at.0 (sym (keeps cause) ∙ e), λ w. keeps cause ∙ at.1 w)
given-right {A} {B} {C} (Some x) f on cause kind Right After keeps reads step = goes (on (f x)) cause kind Right After (reads.0 x refl) (step x refl)

-- a test that is passed
pub if-done : {A : Type 0} (b : Bool) (r other : Result A Kind) (kind : Kind) (After : Type 0) → b ≡ true → ((r ≡ err_of A kind) ↔ After) → (cond b r other ≡ err_of A kind) ↔ After
if-done true r other kind After e step = step
if-done false r other kind After e step = absurd (false≢true e)
