-- Reading a command part by part is reading it at once.
use Rattle.std.proofs.lemmas.Bool.Decides.{eqb_tells}
use Rattle.std.proofs.Common.{sym, subst, ap, ◌∙◌, ℤ, inl, inr, ◌≡◌, ℕ, ◌≤◌, ◌<◌, Bool, true, false, List, [], ◌∷◌, length, refl, arith, None, Some, is_some}
use Rattle.std.specs.Prelude.{if◌then◌else◌, Option, ◌==◌, ◌&&◌}
use Rattle.std.specs.Option.{option_map, option_and_then}
use Rattle.sv_base.specs.Tree.{plain, structure, none, more, truth, int, uint, bits, time, stamp, text, octets, other}
use Rattle.sv_base.specs.Seen.{row_of, seen_of}
use Rattle.sv_base.specs.declared.value.Utc.{Utc}
use Rattle.sv_base.specs.Same.{value_of}
use Rattle.sv_base.specs.declared.value.Value.{Value}
use Rattle.sv_base.specs.declared.value.Value.TheVariants as kinds
use Rattle.bay_model.specs.Model.{operate, cancel, Kind, Call}
use Rattle.sv_base.specs.Kinds.{is_kind, is_in_range}
use Rattle.bay_model.specs.Commands.{command_of, is_command, is_rest}
use Rattle.control_core.specs.Commands.{Said, of_kind, is_limited, said_in, command_said, value_said, origin_row, parts_in, origin_in, uint_in, time_in, int_in, octets_in}

-- the command, and the value that says it
pub command_is : (v : Value) → (command_of v ≡ option_map command_said (said_in v)) × (option_map value_said (said_in v) ≡ (if is_some (said_in v) then Some v else None))
command_is (kinds.Bool b) = (refl, refl)
command_is (kinds.Int z) = (refl, refl)
command_is (kinds.Uint n) = (refl, refl)
command_is (kinds.Bits l) = (refl, refl)
command_is (kinds.Time t) = (refl, refl)
command_is (kinds.Stamp t) = (refl, refl)
command_is (kinds.Text t) = (refl, refl)
command_is (kinds.Octets o) = (refl, refl)
command_is kinds.Other = (refl, refl)
command_is (kinds.Struct none) = (refl, refl)
command_is (kinds.Struct (more v none)) = (refl, refl)
command_is (kinds.Struct (more v (more (plain (truth b)) r))) = (refl, refl)
command_is (kinds.Struct (more v (more (plain (int z)) r))) = (refl, refl)
command_is (kinds.Struct (more v (more (plain (uint n)) r))) = (refl, refl)
command_is (kinds.Struct (more v (more (plain (bits l)) r))) = (refl, refl)
command_is (kinds.Struct (more v (more (plain (time s f q)) r))) = (refl, refl)
command_is (kinds.Struct (more v (more (plain (stamp m d)) r))) = (refl, refl)
command_is (kinds.Struct (more v (more (plain (text t)) r))) = (refl, refl)
command_is (kinds.Struct (more v (more (plain (octets o)) r))) = (refl, refl)
command_is (kinds.Struct (more v (more (plain other) r))) = (refl, refl)
command_is (kinds.Struct (more v (more (structure none) r))) = (refl, refl)
command_is (kinds.Struct (more v (more (structure (more (structure s) e)) r))) = (refl, refl)
command_is (kinds.Struct (more v (more (structure (more (plain (truth b)) e)) r))) = (refl, refl)
command_is (kinds.Struct (more v (more (structure (more (plain (uint n)) e)) r))) = (refl, refl)
command_is (kinds.Struct (more v (more (structure (more (plain (bits l)) e)) r))) = (refl, refl)
command_is (kinds.Struct (more v (more (structure (more (plain (time s f q)) e)) r))) = (refl, refl)
command_is (kinds.Struct (more v (more (structure (more (plain (stamp m d)) e)) r))) = (refl, refl)
command_is (kinds.Struct (more v (more (structure (more (plain (text t)) e)) r))) = (refl, refl)
command_is (kinds.Struct (more v (more (structure (more (plain (octets o)) e)) r))) = (refl, refl)
command_is (kinds.Struct (more v (more (structure (more (plain other) e)) r))) = (refl, refl)
command_is (kinds.Struct (more v (more (structure (more (plain (int i)) none)) r))) = (refl, refl)
command_is (kinds.Struct (more v (more (structure (more (plain (int i)) (more (structure s) e))) r))) = (refl, refl)
command_is (kinds.Struct (more v (more (structure (more (plain (int i)) (more (plain (truth b)) e))) r))) = (refl, refl)
command_is (kinds.Struct (more v (more (structure (more (plain (int i)) (more (plain (int z)) e))) r))) = (refl, refl)
command_is (kinds.Struct (more v (more (structure (more (plain (int i)) (more (plain (uint n)) e))) r))) = (refl, refl)
command_is (kinds.Struct (more v (more (structure (more (plain (int i)) (more (plain (bits l)) e))) r))) = (refl, refl)
command_is (kinds.Struct (more v (more (structure (more (plain (int i)) (more (plain (time s f q)) e))) r))) = (refl, refl)
command_is (kinds.Struct (more v (more (structure (more (plain (int i)) (more (plain (stamp m d)) e))) r))) = (refl, refl)
command_is (kinds.Struct (more v (more (structure (more (plain (int i)) (more (plain (text t)) e))) r))) = (refl, refl)
command_is (kinds.Struct (more v (more (structure (more (plain (int i)) (more (plain other) e))) r))) = (refl, refl)
command_is (kinds.Struct (more v (more (structure (more (plain (int i)) (more (plain (octets w)) (more s e)))) r))) = (refl, refl)
command_is (kinds.Struct (more v (more (structure (more (plain (int i)) (more (plain (octets w)) none))) none))) = (refl, refl)
command_is (kinds.Struct (more v (more (structure (more (plain (int i)) (more (plain (octets w)) none))) (more (structure s) r)))) = (refl, refl)
command_is (kinds.Struct (more v (more (structure (more (plain (int i)) (more (plain (octets w)) none))) (more (plain (truth b)) r)))) = (refl, refl)
command_is (kinds.Struct (more v (more (structure (more (plain (int i)) (more (plain (octets w)) none))) (more (plain (int z)) r)))) = (refl, refl)
command_is (kinds.Struct (more v (more (structure (more (plain (int i)) (more (plain (octets w)) none))) (more (plain (bits l)) r)))) = (refl, refl)
command_is (kinds.Struct (more v (more (structure (more (plain (int i)) (more (plain (octets w)) none))) (more (plain (time s f q)) r)))) = (refl, refl)
command_is (kinds.Struct (more v (more (structure (more (plain (int i)) (more (plain (octets w)) none))) (more (plain (stamp m d)) r)))) = (refl, refl)
command_is (kinds.Struct (more v (more (structure (more (plain (int i)) (more (plain (octets w)) none))) (more (plain (text t)) r)))) = (refl, refl)
command_is (kinds.Struct (more v (more (structure (more (plain (int i)) (more (plain (octets w)) none))) (more (plain (octets o)) r)))) = (refl, refl)
command_is (kinds.Struct (more v (more (structure (more (plain (int i)) (more (plain (octets w)) none))) (more (plain other) r)))) = (refl, refl)
command_is (kinds.Struct (more v (more (structure (more (plain (int i)) (more (plain (octets w)) none))) (more (plain (uint k)) none)))) = (refl, refl)
command_is (kinds.Struct (more v (more (structure (more (plain (int i)) (more (plain (octets w)) none))) (more (plain (uint k)) (more (structure s) r))))) = (refl, refl)
command_is (kinds.Struct (more v (more (structure (more (plain (int i)) (more (plain (octets w)) none))) (more (plain (uint k)) (more (plain (truth b)) r))))) = (refl, refl)
command_is (kinds.Struct (more v (more (structure (more (plain (int i)) (more (plain (octets w)) none))) (more (plain (uint k)) (more (plain (int z)) r))))) = (refl, refl)
command_is (kinds.Struct (more v (more (structure (more (plain (int i)) (more (plain (octets w)) none))) (more (plain (uint k)) (more (plain (uint n)) r))))) = (refl, refl)
command_is (kinds.Struct (more v (more (structure (more (plain (int i)) (more (plain (octets w)) none))) (more (plain (uint k)) (more (plain (bits l)) r))))) = (refl, refl)
command_is (kinds.Struct (more v (more (structure (more (plain (int i)) (more (plain (octets w)) none))) (more (plain (uint k)) (more (plain (stamp m d)) r))))) = (refl, refl)
command_is (kinds.Struct (more v (more (structure (more (plain (int i)) (more (plain (octets w)) none))) (more (plain (uint k)) (more (plain (text t)) r))))) = (refl, refl)
command_is (kinds.Struct (more v (more (structure (more (plain (int i)) (more (plain (octets w)) none))) (more (plain (uint k)) (more (plain (octets o)) r))))) = (refl, refl)
command_is (kinds.Struct (more v (more (structure (more (plain (int i)) (more (plain (octets w)) none))) (more (plain (uint k)) (more (plain other) r))))) = (refl, refl)
command_is (kinds.Struct (more v (more (structure (more (plain (int i)) (more (plain (octets w)) none))) (more (plain (uint k)) (more (plain (time y g h)) none))))) = (refl, refl)
command_is (kinds.Struct (more v (more (structure (more (plain (int i)) (more (plain (octets w)) none))) (more (plain (uint k)) (more (plain (time y g h)) (more (structure s) r)))))) = (refl, refl)
command_is (kinds.Struct (more v (more (structure (more (plain (int i)) (more (plain (octets w)) none))) (more (plain (uint k)) (more (plain (time y g h)) (more (plain (truth b)) r)))))) = (refl, refl)
command_is (kinds.Struct (more v (more (structure (more (plain (int i)) (more (plain (octets w)) none))) (more (plain (uint k)) (more (plain (time y g h)) (more (plain (int z)) r)))))) = (refl, refl)
command_is (kinds.Struct (more v (more (structure (more (plain (int i)) (more (plain (octets w)) none))) (more (plain (uint k)) (more (plain (time y g h)) (more (plain (uint n)) r)))))) = (refl, refl)
command_is (kinds.Struct (more v (more (structure (more (plain (int i)) (more (plain (octets w)) none))) (more (plain (uint k)) (more (plain (time y g h)) (more (plain (bits l)) r)))))) = (refl, refl)
command_is (kinds.Struct (more v (more (structure (more (plain (int i)) (more (plain (octets w)) none))) (more (plain (uint k)) (more (plain (time y g h)) (more (plain (time s f q)) r)))))) = (refl, refl)
command_is (kinds.Struct (more v (more (structure (more (plain (int i)) (more (plain (octets w)) none))) (more (plain (uint k)) (more (plain (time y g h)) (more (plain (stamp m d)) r)))))) = (refl, refl)
command_is (kinds.Struct (more v (more (structure (more (plain (int i)) (more (plain (octets w)) none))) (more (plain (uint k)) (more (plain (time y g h)) (more (plain (text t)) r)))))) = (refl, refl)
command_is (kinds.Struct (more v (more (structure (more (plain (int i)) (more (plain (octets w)) none))) (more (plain (uint k)) (more (plain (time y g h)) (more (plain (octets o)) r)))))) = (refl, refl)
command_is (kinds.Struct (more v (more (structure (more (plain (int i)) (more (plain (octets w)) none))) (more (plain (uint k)) (more (plain (time y g h)) (more (plain other) r)))))) = (refl, refl)

and-none : {A B : Type 0} (f : A → Option B) (x : Option A) → ((a : A) → f a ≡ None) → option_and_then f x ≡ None
and-none f None h = refl
and-none f (Some a) h = h a

-- a row that is too short says nothing
pub short_row : (vs : List Value) → length vs < 5 → parts_in (row_of vs) ≡ None
short_row [] h = refl
short_row (v ∷ []) h = refl
short_row (v ∷ o ∷ []) h = and-none _ _ (λ g. refl)
short_row (v ∷ o ∷ n ∷ []) h = and-none {A = ℤ × List ℕ} _ (origin_in (seen_of o)) (λ g. and-none {A = ℕ} _ (uint_in (seen_of n)) (λ m. refl))
short_row (v ∷ o ∷ n ∷ t ∷ []) h = and-none {A = ℤ × List ℕ} _ (origin_in (seen_of o)) (λ g. and-none {A = ℕ} _ (uint_in (seen_of n)) (λ m. and-none {A = Utc} _ (time_in (seen_of t)) (λ u. refl)))
short_row (v ∷ o ∷ n ∷ t ∷ x ∷ vs) h = absurd (omega (arith, h))

-- an origin has two parts
pub short_origin : (vs : List Value) → length vs < 2 → origin_row (row_of vs) ≡ None
short_origin [] h = refl
short_origin (v ∷ []) h = and-none _ _ (λ z. refl)
short_origin (v ∷ w ∷ vs) h = absurd (omega (arith, h))

pub long_origin : (vs : List Value) → 3 ≤ length vs → origin_row (row_of vs) ≡ None
long_origin [] h = absurd (omega (arith, h))
long_origin (v ∷ []) h = absurd (omega (arith, h))
long_origin (v ∷ w ∷ []) h = absurd (omega (arith, h))
long_origin (v ∷ w ∷ x ∷ vs) h = and-none {A = ℤ} _ (int_in (seen_of v)) (λ z. and-none {A = List ℕ} _ (octets_in (seen_of w)) (λ o. refl))

pub long_rest : (vs : List Value) → 2 ≤ length vs → is_rest operate (row_of vs) ≡ false
long_rest [] h = absurd (omega (arith, h))
long_rest (v ∷ []) h = absurd (omega (arith, h))
long_rest ((kinds.Bool b) ∷ w ∷ vs) h = refl
long_rest ((kinds.Int z) ∷ w ∷ vs) h = refl
long_rest ((kinds.Uint n) ∷ w ∷ vs) h = refl
long_rest ((kinds.Bits l) ∷ w ∷ vs) h = refl
long_rest ((kinds.Time t) ∷ w ∷ vs) h = refl
long_rest ((kinds.Stamp t) ∷ w ∷ vs) h = refl
long_rest ((kinds.Text t) ∷ w ∷ vs) h = refl
long_rest ((kinds.Octets o) ∷ w ∷ vs) h = refl
long_rest (kinds.Other ∷ w ∷ vs) h = refl
long_rest ((kinds.Struct r) ∷ w ∷ vs) h = refl

pub empty_rest : (vs : List Value) → is_rest cancel (row_of vs) ≡ (length vs == 0)
empty_rest [] = refl
empty_rest (v ∷ vs) = elim (eqb_tells (length (v ∷ vs)) 0) [ inl t ↦ absurd (omega (arith, t.1)) | inr t ↦ sym t.0 ]

-- a command of its kind is typed where it is within its limits
limited : (kind : Kind) (call : Call) (s : Said) → is_kind kind (value_of s.value) ≡ true → is_in_range kind (value_of s.value) ≡ true → is_command kind call (Some (command_said s)) ≡ is_limited call s
limited kind call s k r = rw (k, r) refl

-- what was read of a kind: the value says it, and it is typed where it is within its limits
pub record IsRead (kind : Kind) (v : Value) (s : Said) : Type 0 where
  pub value : v ≡ value_said s
  pub typed : (call : Call) → is_command kind call (command_of v) ≡ is_limited call s

pub is_read : (kind : Kind) (v : Value) (s : Said) → Some s ≡ of_kind kind (said_in v) → IsRead kind v s
is_read kind v s h = some (said_in v) refl h where
  some : (x : Option Said) → said_in v ≡ x → Some s ≡ of_kind kind x → IsRead kind v s
  some None e f = absurd (cc f)
  some (Some t) e f = typed (is_kind kind (value_of t.value)) (is_in_range kind (value_of t.value)) refl refl f where
    typed : (a b : Bool) → is_kind kind (value_of t.value) ≡ a → is_in_range kind (value_of t.value) ≡ b → Some s ≡ (if a && b then Some t else None) → IsRead kind v s
    typed true true k r g =
        let same : s ≡ t = cc g in
        let is : Some (value_said t) ≡ Some v = subst (λ x. option_map value_said x ≡ (if is_some x then Some v else None)) e (command_is v).1 in
        record {
          value = cc (is, ap value_said same);
          typed = λ call. ap (is_command kind call) ((command_is v).0 ∙ ap (option_map command_said) e) ∙ (limited kind call t k r ∙ ap (is_limited call) (sym same));
        }
    typed true false k r g = absurd (cc g)
    typed false b k r g = absurd (cc g)

pub is_unread : (kind : Kind) (v : Value) → None ≡ of_kind kind (said_in v) → (call : Call) → is_command kind call (command_of v) ≡ false
is_unread kind v h call = some (said_in v) refl h where
  some : (x : Option Said) → said_in v ≡ x → None ≡ of_kind kind x → is_command kind call (command_of v) ≡ false
  some None e f = ap (is_command kind call) ((command_is v).0 ∙ ap (option_map command_said) e)
  some (Some t) e f = ap (is_command kind call) ((command_is v).0 ∙ ap (option_map command_said) e) ∙ typed (is_kind kind (value_of t.value)) (is_in_range kind (value_of t.value)) refl refl f where
    typed : (a b : Bool) → is_kind kind (value_of t.value) ≡ a → is_in_range kind (value_of t.value) ≡ b → None ≡ (if a && b then Some t else None) → is_command kind call (Some (command_said t)) ≡ false
    typed true true k r g = absurd (cc g)
    typed true false k r g = rw (k, r) refl
    typed false b k r g = rw k refl
