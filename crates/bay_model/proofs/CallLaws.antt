-- What a call comes to as a relation and as a function.
use Rattle.std.proofs.Common.{◌≡◌, ℕ, Bool, true, false, List, [], ◌∷◌, refl, sym, subst, ◌∙◌, inl, inr}
use Rattle.std.specs.Prelude.{if◌then◌else◌, ◌↔◌, Some}
use Rattle.sv_base.specs.declared.value.Value.{Value}
use Rattle.bay_model.specs.Model.{Model, Call}
use Rattle.bay_model.specs.Lookups.{control_of}
use Rattle.bay_model.specs.Points.{Past}
use Rattle.bay_model.specs.Commands.{is_command, command_of}
use Rattle.bay_model.specs.Calls.{Went, mistyped, went_by, first_cause, causes, went, IsFirst, ComesTo}

-- the first cause gives what the relation says
pub first_is : (ts : List (Bool × ℕ)) → IsFirst ts (went_by (first_cause ts))
first_is [] = refl
first_is (t ∷ ts) = either t.0 refl (first_is ts) where
  either : (b : Bool) → t.0 ≡ b → IsFirst ts (went_by (first_cause ts)) → IsFirst (t ∷ ts) (went_by (if b then Some t.1 else first_cause ts))
  either true is later = inl (is, refl)
  either false is later = inr (is, later)

pub first_one : (ts : List (Bool × ℕ)) (r : Went) → IsFirst ts r → r ≡ went_by (first_cause ts)
first_one [] r h = h
first_one (t ∷ ts) r (inl h) = rw h.0 h.1
first_one (t ∷ ts) r (inr h) = rw h.0 (first_one ts r h.1)

pub calls_come_to_one : (c : Model) (k : ℕ) (call : Call) (a : ℕ) (v : Value) (past : Past) (r : Went) → ComesTo c k call a v past r ↔ (r ≡ went c k call a v past)
calls_come_to_one c k call a v past r = (there, back) where
  there : ComesTo c k call a v past r → r ≡ went c k call a v past
  there (inl h) = rw h.0 h.1
  there (inr h) = rw h.0 (first_one (causes c k call a (command_of v) past) r h.1)

  typed : is_command (control_of c k).kind call (command_of v) ≡ true → went c k call a v past ≡ went_by (first_cause (causes c k call a (command_of v) past))
  typed is = rw is refl

  untyped : is_command (control_of c k).kind call (command_of v) ≡ false → went c k call a v past ≡ mistyped
  untyped is = rw is refl

  back : r ≡ went c k call a v past → ComesTo c k call a v past r
  back e = either (is_command (control_of c k).kind call (command_of v)) refl where
    either : (b : Bool) → is_command (control_of c k).kind call (command_of v) ≡ b → ComesTo c k call a v past r
    either true is = inr (is, subst (IsFirst (causes c k call a (command_of v) past)) (sym (e ∙ typed is)) (first_is (causes c k call a (command_of v) past)))
    either false is = inl (is, e ∙ untyped is)
