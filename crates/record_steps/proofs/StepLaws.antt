-- The steps that lines give fit the configuration: associations are 1 to 16, blocks are there, and values are sound.
use Rattle.std.proofs.Common.{◌≡◌, ℕ, ◌<◌, ◌≤◌, Bool, true, false, cond, List, length, refl, sym, ap, ◌∙◌, arith}
use Rattle.std.specs.Prelude.{None, Some, nat_lt, if◌then◌else◌}
use Rattle.std.specs.List.{position_or_len}
use Rattle.std.specs.Str.{bytes_eq}
use Rattle.std.proofs.lemmas.Bool.{and_from, le-leb}
use Rattle.std.proofs.lemmas.List.{length-map}
use Rattle.std.proofs.lemmas.Bool.Decides.{nat_tests}
use Rattle.sv_base.specs.declared.config.Config.{Config}
use Rattle.sv_base.specs.declared.numbers.ActorNo.{ActorNo}
use Rattle.sv_base.specs.declared.numbers.AssocNo.{AssocNo}
use Rattle.sv_base.specs.declared.numbers.BlockNo.{BlockNo}
use Rattle.sv_base.specs.declared.numbers.CtlNo.{CtlNo}
use Rattle.sv_base.specs.declared.value.Value.{Value}
use Rattle.sv_base.specs.declared.components.Comp.{Comp}
use Rattle.bay_model.specs.declared.request.Request.{Request}
use Rattle.bay_requests.specs.Requests.{IsFitting}
use Rattle.bay_model.specs.declared.step.Step.{Step}
use Rattle.bay_model.specs.declared.step.Step.TheVariants as steps
use Rattle.object_model.specs.Fits.{fits, is_association}
use Rattle.name_leaves.specs.Numbers.{number_in}
use Rattle.object_model.specs.References.{block_references, control_references}
use Rattle.run_record.specs.Grammar.{IsAssoc}
use Rattle.record_values.specs.Shapes.{shape_at}
use Rattle.record_values.proofs.ShapeLaws.{sound-shape}
use Rattle.record_steps.specs.Resolved.{turn_of, ended_as, blocked_as}
use Rattle.record_steps.specs.Told.{turn, refused}

-- the place of an element is one of the list's
place-within : (m n i : ℕ) → cond (nat_lt m n) (Some m) None ≡ Some i → i < n
place-within m n i h = by (nat_lt m n) refl h where
  by : (b : Bool) → nat_lt m n ≡ b → cond b (Some m) None ≡ Some i → i < n
  by true e h = let same : m ≡ i = cc in grind (arith, nat_tests)
  by false e h = absurd cc

pub block-within : (c : Config) (word : List ℕ) (b : ℕ) → number_in (block_references c) word ≡ Some b → nat_lt b (length c.blocks) ≡ true
block-within c word b h = let low = place-within (position_or_len (bytes_eq word) (block_references c)) (length (block_references c)) b h in grind (arith, nat_tests, length-map)

pub control-within : (c : Config) (word : List ℕ) (k : ℕ) → number_in (control_references c) word ≡ Some k → nat_lt k (length c.controls) ≡ true
control-within c word k h = let low = place-within (position_or_len (bytes_eq word) (control_references c)) (length (control_references c)) k h in grind (arith, nat_tests, length-map)

-- the steps
is_numbered : (a : AssocNo) → IsAssoc a → is_association a.0 ≡ true
is_numbered a h = grind (arith, nat_tests)

module _ (c : Config) (a : AssocNo) (is : IsAssoc a) where
  fitting : (actor : ℕ) (step : Step) → fits c step ≡ true → turn actor step ≡ turn_of c actor step
  fitting actor step h = sym (ap (λ b. if b then turn actor step else refused 4) h)

  pub open-told : (writer : ActorNo) (size : ℕ) (owner : List ℕ) → 1024 ≤ size → size ≤ 65000 → turn a.0 (steps.Open a size writer owner) ≡ turn_of c a.0 (steps.Open a size writer owner)
  open-told writer size owner least most = fitting a.0 (steps.Open a size writer owner) (and_from _ _ (is_numbered a is) (and_from _ _ (le-leb 1024 size least) (le-leb size 65000 most)))

  pub ask-told : (r : Request) → IsFitting c r → turn a.0 (steps.Ask a r) ≡ turn_of c a.0 (steps.Ask a r)
  ask-told r fit = fitting a.0 (steps.Ask a r) (fit a (is_numbered a is))

  pub take-told : turn a.0 (steps.Take a) ≡ turn_of c a.0 (steps.Take a)
  take-told = fitting a.0 (steps.Take a) (is_numbered a is)

  pub lost-told : turn a.0 (steps.Lost a) ≡ turn_of c a.0 (steps.Lost a)
  lost-told = fitting a.0 (steps.Lost a) (is_numbered a is)

  pub write-told : (reference word : List ℕ) (b : BlockNo) (comp : Comp) (v : Value) → number_in (block_references c) reference ≡ Some b.0 → shape_at comp word ≡ Some v
      → turn a.0 (steps.Write a b comp v) ≡ turn_of c a.0 (steps.Write a b comp v)
  write-told reference word b comp v there shape =
      fitting a.0 (steps.Write a b comp v) (and_from _ _ (is_numbered a is) (and_from _ _ (block-within c reference b.0 there) (sound-shape comp word v shape)))

-- of the process, whose control has this number
module _ (c : Config) (reference : List ℕ) (k : CtlNo) (there : number_in (control_references c) reference ≡ Some k.0) where
  telling-it : (step : Step) → fits c step ≡ true → turn 0 step ≡ turn_of c 0 step
  telling-it step h = sym (ap (λ b. if b then turn 0 step else refused 4) h)

  pub done-told : (well : Bool) → turn 0 (steps.Done k well) ≡ ended_as c (number_in (control_references c) reference) well
  done-told well = telling-it (steps.Done k well) (control-within c reference k.0 there) ∙ sym (ap (λ o. ended_as c o well) there)

  pub block-told : (on : Bool) → turn 0 (steps.Block k on) ≡ blocked_as c (number_in (control_references c) reference) on
  block-told on = telling-it (steps.Block k on) (control-within c reference k.0 there) ∙ sym (ap (λ o. blocked_as c o on) there)
