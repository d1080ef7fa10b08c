-- What a call comes to, and what is heard of it.
use Rattle.std.proofs.Common.{◌≡◌, ℕ, ◌<◌, Bool, true, false, List, [], ◌∷◌, ◌++◌, length, map, refl, sym, ap, ◌∙◌, append-nil}
use Rattle.std.specs.Prelude.{Option, None, Some, is_some, Result, Ok, ◌&&◌, if◌then◌else◌, slice_index_or}
use Rattle.std.specs.Option.{option_map, option_map_or}
use Rattle.std.proofs.lemmas.List.{get_or-map}
use Rattle.sv_base.specs.Same.{value_of}
use Rattle.sv_base.specs.declared.value.Value.{Value}
use Rattle.bay_model.specs.declared.control.Act.{Act}
use Rattle.bay_model.specs.declared.control.ApplError.{ApplError}
use Rattle.bay_model.specs.Model.{Control, Call, select, operate, cancel}
use Rattle.bay_model.specs.Commands.{Command, command_of, is_command, is_test}
use Rattle.bay_model.specs.Calls.{accepted, mistyped, barred, went_by, first_cause}
use Rattle.bay_model.specs.Outcomes as outcomes
use Rattle.bay_model.specs.Outcomes.{Outcome, did, refused, deed_of}
use Rattle.bay_model.specs.Model as model
use Rattle.bay_model.specs.Outputs as outputs
use Rattle.bay_model.specs.Outputs.{no_command}
use Rattle.bay_model.specs.Points.{called}
use Rattle.control_core.specs.declared.control.Went.TheVariants as effects
use Rattle.control_core.specs.Answers.{effect_in}
use Rattle.control_core.specs.Controls.{ControlState, idle, causes_at, went_at, error_at}
use Rattle.control_core.specs.Tables.{Table, no_control, control_at}
use Rattle.bay_queues.specs.Calling.{blame_of, blame_in, outcome_by, outcome_at}
use Rattle.bay_queues.specs.Heard.{Heard, heard_with, listed, ctl_no}
use Rattle.bay_queues.specs.Queued.{configs}

-- ---- what is heard

-- of an outcome that acts on nothing, whose error and tests are none
pub hears-code : (h : Heard) (code : Result (Unit {0}) ℕ) → record h { codes = h.codes ++ code ∷ [] } ≡ record { codes = h.codes ++ code ∷ []; before = h.before ++ []; acts = h.acts ++ []; tests = h.tests ++ []; room = h.room }
hears-code h code = rw (append-nil h.before, append-nil h.acts, append-nil h.tests) refl

-- of an accepted Oper
module _ (a k : ℕ) (h : Heard) where
  abbrev act_by : Option Command → Option Act
  act_by o = option_map_or (λ (m : Command). if m.test then None else Some (record { control = record { 0 = k }; value = value_of m.value; by = record { 0 = a } })) o None

  abbrev test_by : Option Command → Bool
  test_by o = option_map_or (λ (m : Command). m.test) o false

  abbrev heard_by : Option Command → Bool → Heard
  heard_by o e = record { codes = h.codes ++ Ok tt ∷ []; before = h.before ++ []; acts = h.acts ++ listed (act_by o); tests = h.tests ++ map ctl_no (if e && test_by o then k ∷ [] else []); room = h.room }

  acts-by : (o : Option Command) (e : Bool) (said : Value) → option_map (λ (m : Command). value_of m.value) o ≡ Some said → effects.Act ≡ effect_in (test_by o) e
      → record h { codes = h.codes ++ Ok tt ∷ []; acts = h.acts ++ record { control = record { 0 = k }; value = said; by = record { 0 = a } } ∷ [] } ≡ heard_by o e
  acts-by None e said is effect = absurd cc
  acts-by (Some m) e said is effect = by m.test refl e effect where
    by : (b : Bool) → m.test ≡ b → (e : Bool) → effects.Act ≡ effect_in b e
        → record h { codes = h.codes ++ Ok tt ∷ []; acts = h.acts ++ record { control = record { 0 = k }; value = said; by = record { 0 = a } } ∷ [] } ≡ heard_by (Some m) e
    by false t true effect = let same : value_of m.value ≡ said = cc in rw (t, same, append-nil h.before, append-nil h.tests) refl
    by false t false effect = let same : value_of m.value ≡ said = cc in rw (t, same, append-nil h.before, append-nil h.tests) refl
    by true t true effect = absurd cc
    by true t false effect = absurd cc

  tests-by : (o : Option Command) (e : Bool) → effects.Tested ≡ effect_in (test_by o) e → record h { codes = h.codes ++ Ok tt ∷ []; tests = h.tests ++ ctl_no k ∷ [] } ≡ heard_by o e
  tests-by None e effect = absurd cc
  tests-by (Some m) e effect = by m.test refl e effect where
    by : (b : Bool) → m.test ≡ b → (e : Bool) → effects.Tested ≡ effect_in b e → record h { codes = h.codes ++ Ok tt ∷ []; tests = h.tests ++ ctl_no k ∷ [] } ≡ heard_by (Some m) e
    by false t e effect = absurd cc
    by true t false effect = absurd cc
    by true t true effect = rw (t, append-nil h.before, append-nil h.acts) refl

  plain-by : (o : Option Command) (e : Bool) → effects.Plain ≡ effect_in (test_by o) e → record h { codes = h.codes ++ Ok tt ∷ [] } ≡ heard_by o e
  plain-by None e effect = absurd cc
  plain-by (Some m) e effect = by m.test refl e effect where
    by : (b : Bool) → m.test ≡ b → (e : Bool) → effects.Plain ≡ effect_in b e → record h { codes = h.codes ++ Ok tt ∷ [] } ≡ heard_by (Some m) e
    by false t e effect = absurd cc
    by true t true effect = absurd cc
    by true t false effect = rw (t, append-nil h.before, append-nil h.acts, append-nil h.tests) refl

pub hears-act : (a k : ℕ) (v said : Value) (h : Heard) (enhanced : ℕ → Bool) → option_map (λ (m : Command). value_of m.value) (command_of v) ≡ Some said → effects.Act ≡ effect_in (is_test v) (enhanced k)
    → record h { codes = h.codes ++ Ok tt ∷ []; acts = h.acts ++ record { control = record { 0 = k }; value = said; by = record { 0 = a } } ∷ [] } ≡ heard_with enhanced (did (called a k operate v)) h
hears-act a k v said h enhanced is effect = acts-by a k h (command_of v) (enhanced k) said is effect

pub hears-test : (a k : ℕ) (v : Value) (h : Heard) (enhanced : ℕ → Bool) → effects.Tested ≡ effect_in (is_test v) (enhanced k)
    → record h { codes = h.codes ++ Ok tt ∷ []; tests = h.tests ++ ctl_no k ∷ [] } ≡ heard_with enhanced (did (called a k operate v)) h
hears-test a k v h enhanced effect = tests-by a k h (command_of v) (enhanced k) effect

pub hears-plain : (a k : ℕ) (v : Value) (h : Heard) (enhanced : ℕ → Bool) → effects.Plain ≡ effect_in (is_test v) (enhanced k)
    → record h { codes = h.codes ++ Ok tt ∷ [] } ≡ heard_with enhanced (did (called a k operate v)) h
hears-plain a k v h enhanced effect = plain-by a k h (command_of v) (enhanced k) effect

pub hears-select : (a k : ℕ) (v : Value) (h : Heard) (enhanced : ℕ → Bool) → record h { codes = h.codes ++ Ok tt ∷ [] } ≡ heard_with enhanced (did (called a k select v)) h
hears-select a k v h enhanced = hears-code h (Ok tt)

pub hears-cancel : (a k : ℕ) (v : Value) (h : Heard) (enhanced : ℕ → Bool) → record h { codes = h.codes ++ Ok tt ∷ [] } ≡ heard_with enhanced (did (called a k cancel v)) h
hears-cancel a k v h enhanced = hears-code h (Ok tt)

-- ---- whether the value is of its type

pub config-at : (t : Table) (k : ℕ) → k < length t.controls → slice_index_or (configs t) k no_control ≡ (control_at t.controls k).config
config-at t k below = get_or-map (λ (s : ControlState). s.config) t.controls k (idle no_control) no_control below

module _ (t : Table) (a k : ℕ) (call : Call) (v : Value) (below : k < length t.controls) where
  abbrev s : ControlState
  s = control_at t.controls k

  blamed : blame_in (configs t) k call v ≡ blame_of s.config call v
  blamed = ap (λ c. blame_of c call v) (config-at t k below)

  typed-by : (b : Bool) (e : Option ApplError) → is_command s.config.kind call (command_of v) ≡ b → (if b then Some (error_at s.config.reference call v 0) else None) ≡ e → is_some e ≡ b
  typed-by true None is h = absurd cc
  typed-by true (Some e) is h = refl
  typed-by false None is h = refl
  typed-by false (Some e) is h = absurd cc

  -- no error was made: the value isn't of the type
  pub not-typed : blame_in (configs t) k call v ≡ None → is_command s.config.kind call (command_of v) ≡ false
  not-typed h = by (is_command s.config.kind call (command_of v)) refl where
    by : (b : Bool) → is_command s.config.kind call (command_of v) ≡ b → b ≡ false
    by true is = absurd (none-some (sym (ap (λ b. if b then Some (error_at s.config.reference call v 0) else None) is) ∙ (sym blamed ∙ h))) where
      none-some : {e : ApplError} → Some e ≡ None → ⊥
      none-some e = cc
    by false is = refl

  pub is-typed : (e : ApplError) → blame_in (configs t) k call v ≡ Some e → (is_command s.config.kind call (command_of v) ≡ true) × (e ≡ error_at s.config.reference call v 0)
  is-typed e h = by (is_command s.config.kind call (command_of v)) refl where
    by : (b : Bool) → is_command s.config.kind call (command_of v) ≡ b → (b ≡ true) × (e ≡ error_at s.config.reference call v 0)
    by true is = let same : Some (error_at s.config.reference call v 0) ≡ Some e = sym (ap (λ b. if b then Some (error_at s.config.reference call v 0) else None) is) ∙ (sym blamed ∙ h) in (refl, cc)
    by false is = let same : None ≡ Some e = sym (ap (λ b. if b then Some (error_at s.config.reference call v 0) else None) is) ∙ (sym blamed ∙ h) in absurd cc

  -- the outcome
  pub comes-mistyped : is_command s.config.kind call (command_of v) ≡ false → outcome_at t a k call v ≡ refused 7
  comes-mistyped h = ap (λ b. outcome_by a k call v s (if b then went_by (first_cause (causes_at t.moment call a (command_of v) s)) else mistyped)) h

  pub comes-done : accepted ≡ went_at t.moment call a v s → outcome_at t a k call v ≡ did (called a k call v)
  comes-done h = ap (outcome_by a k call v s) (sym h)

  pub comes-barred : (cause : ℕ) → barred cause ≡ went_at t.moment call a v s → outcome_at t a k call v ≡ outcomes.barred (error_at s.config.reference call v cause)
  comes-barred cause h = ap (outcome_by a k call v s) (sym h)

-- the same error with another AddCause
pub caused : (reference : List ℕ) (kind : model.Kind) (call : Call) (v : Value) (cause : ℕ) → is_command kind call (command_of v) ≡ true → record (error_at reference call v 0) { cause = cause } ≡ error_at reference call v cause
caused reference kind call v cause h = by (command_of v) h where
  by : (o : Option Command) → is_command kind call o ≡ true
      → record (option_map_or (λ (m : Command). record { object = reference ++ outputs.name_of_call call; or_cat = m.or_cat; or_ident = m.or_ident; ctl_num = m.ctl_num; cause = 0 }) o no_command) { cause = cause }
      ≡ option_map_or (λ (m : Command). record { object = reference ++ outputs.name_of_call call; or_cat = m.or_cat; or_ident = m.or_ident; ctl_num = m.ctl_num; cause = cause }) o no_command
  by None h = absurd cc
  by (Some m) h = refl
