-- The steps that the lines of a script say are its association's own, and in order.
use Rattle.std.proofs.Common.{◌≡◌, ◌==◌, ℕ, zero, suc, Bool, true, false, not, List, ◌∷◌, refl, sym, ap, subst, ◌∙◌}
use Rattle.std.specs.Prelude.{Option, None, Some, if◌then◌else◌}
use Rattle.sv_base.specs.declared.config.Config.{Config}
use Rattle.sv_base.specs.declared.numbers.AssocNo.{AssocNo}
use Rattle.sv_base.specs.declared.value.Value.{Value}
use Rattle.sv_base.specs.declared.components.Comp.{Comp}
use Rattle.bay_model.specs.declared.request.Request.{Request}
use Rattle.bay_model.specs.declared.step.Setting.{Setting}
use Rattle.bay_model.specs.declared.step.Step.{Step}
use Rattle.bay_model.specs.declared.step.Step.TheVariants as steps
use Rattle.sv_base.specs.ComponentTable.{comp_named}
use Rattle.name_leaves.specs.Numbers.{number_in}
use Rattle.object_model.specs.References.{block_references, control_references}
use Rattle.text_words.specs.Values.{hex_at}
use Rattle.run_record.specs.declared.line.OpenForm.{OpenForm}
use Rattle.run_record.specs.declared.line.OpenForm.TheVariants as opens
use Rattle.run_record.specs.declared.line.RecLine.{RecLine}
use Rattle.run_record.specs.declared.line.RecLine.TheVariants as lines
use Rattle.run_record.specs.declared.pairs.Pair.{Pair}
use Rattle.record_steps.specs.Asks.{asked_by}
use Rattle.record_steps.specs.Forms.{Form, shut, direct, mms, dialling, wire, is_shut, is_direct, form_behind}
use Rattle.record_steps.specs.Own.{IsOwn, own_opening}
use Rattle.record_steps.specs.Resolved.{opened_in, opened_as, valued_as, written_as, lost_as, asked_as, spelled_as, sent_as, piece_as, fed_as, set_to, set_as, ended_as, blocked_as, told_of}
use Rattle.record_steps.specs.Settings.{are_named, settings_at}
use Rattle.record_steps.specs.Shapes.{shape_at}
use Rattle.record_steps.specs.Streams.{piece_at}
use Rattle.record_steps.specs.Told.{turn, refused}
use Rattle.record_steps.specs.declared.heard.Wired.{Wired}
use Rattle.record_steps.specs.declared.heard.Wired.TheVariants.{Dialling, On}
use Rattle.record_steps.proofs.ToldLaws.{told-own}
use Rattle.record_outcome.specs.Histories.{form_after, form_at}
use Rattle.bay_histories.specs.Histories as histories
use Rattle.script_lines.specs.Parties.{may_have}
use Rattle.script_lines.specs.declared.party.Party.{Party}
use Rattle.script_lines.specs.declared.party.Party.TheVariants as parties
use Rattle.actor_scripts.specs.declared.script.TimedStep.{TimedStep}
use Rattle.history_laws.specs.Written.{actor_of}
use Rattle.history_laws.specs.Queues.{open_behind, IsItsOwn, IsInOrder}
use Rattle.script_plans.specs.Forms.{form_in}
use Rattle.script_plans.specs.Sound.{IsActor, IsTold}
use Rattle.script_plans.specs.declared.line.StepLine.{StepLine}
use Rattle.script_plans.proofs.TellLaws.{made, association-made, process-made, process-stays}

-- ---- what a line that gives a step makes of an association

module _ (c : Config) (k actor : ℕ) (step : Step) where
  -- the step opens and loses nothing
  abbrev IsStill : ℕ → Step → Type 0
  IsStill actor s = (was : Bool) → open_behind k s was ≡ was

  value-still : (a : AssocNo) (b : ℕ) (comp : Comp) (o : Option Value) → valued_as c a b comp o ≡ turn actor step → IsStill actor step
  value-still a b comp None h = absurd cc
  value-still a b comp (Some v) h = made c a.0 actor (steps.Write a (record { 0 = b }) comp v) step IsStill h (λ was. refl)

  write-still : (f : Form) (a : AssocNo) (block : Option ℕ) (comp : Option Comp) (word : List ℕ) → written_as c f a block comp word ≡ turn actor step → IsStill actor step
  write-still f a (Some b) (Some comp) word h = by (is_direct f) h where
    by : (d : Bool) → (if d then valued_as c a b comp (shape_at comp word) else refused 5) ≡ turn actor step → IsStill actor step
    by true h = value-still a b comp (shape_at comp word) h
    by false h = absurd cc
  write-still f a None None word h = absurd cc
  write-still f a None (Some comp) word h = absurd cc
  write-still f a (Some b) None word h = absurd cc

  ask-still : (a : AssocNo) (o : Option Request) → asked_as c a o ≡ turn actor step → IsStill actor step
  ask-still a None h = absurd cc
  ask-still a (Some r) h = made c a.0 actor (steps.Ask a r) step IsStill h (λ was. refl)

  spelled-still : (a : AssocNo) (o : Option (List ℕ)) → spelled_as c a o ≡ turn actor step → IsStill actor step
  spelled-still a None h = absurd cc
  spelled-still a (Some octets) h = ask-still a (asked_by c octets) h

  send-still : (a : AssocNo) (hex : List ℕ) (f : Form) → sent_as c f a hex ≡ turn actor step → IsStill actor step
  send-still a hex shut h = absurd cc
  send-still a hex direct h = absurd cc
  send-still a hex (mms size) h = spelled-still a (hex_at hex) h
  send-still a hex (dialling octets) h = absurd cc
  send-still a hex (wire line octets) h = absurd cc

  set-still : (pairs : List Pair) → set_as c pairs ≡ turn actor step → IsStill actor step
  set-still pairs h = by (are_named c pairs) (settings_at c pairs) h where
    by : (t : Bool) (o : Option (List Setting)) → (if t then set_to c o else refused 3) ≡ turn actor step → IsStill actor step
    by true (Some settings) h = made c 0 actor (steps.Value settings) step IsStill h (λ was. refl)
    by true None h = absurd cc
    by false o h = absurd cc

  end-still : (o : Option ℕ) (well : Bool) → ended_as c o well ≡ turn actor step → IsStill actor step
  end-still None well h = absurd cc
  end-still (Some n) well h = made c 0 actor (steps.Done (record { 0 = n }) well) step IsStill h (λ was. refl)

  block-still : (o : Option ℕ) (on : Bool) → blocked_as c o on ≡ turn actor step → IsStill actor step
  block-still None on h = absurd cc
  block-still (Some n) on h = made c 0 actor (steps.Block (record { 0 = n }) on) step IsStill h (λ was. refl)

  piece-never : (w : Wired) (a : AssocNo) (octets : List ℕ) (o : Option (List ℕ)) → piece_as c w a octets o ≡ turn actor step → ⊥
  piece-never w a octets None h = absurd cc
  piece-never w a octets (Some piece) h = absurd cc

  fed-never : (a : AssocNo) (hex : List ℕ) (f : Form) → fed_as c f a hex ≡ turn actor step → ⊥
  fed-never a hex shut h = absurd cc
  fed-never a hex direct h = absurd cc
  fed-never a hex (mms size) h = absurd cc
  fed-never a hex (dialling octets) h = piece-never Dialling a octets (piece_at hex) h
  fed-never a hex (wire line octets) h = piece-never (On line) a octets (piece_at hex) h

  open-if : (b : Bool) (g f : Form) → is_shut g ≡ false → not (is_shut (if b then g else f)) ≡ (if b then true else not (is_shut f))
  open-if true g f is = ap not is
  open-if false g f is = refl

  shut-if : (b : Bool) (f : Form) → not (is_shut (if b then shut else f)) ≡ (if b then false else not (is_shut f))
  shut-if true f = refl
  shut-if false f = refl

  abbrev Agrees : RecLine → Form → ℕ → Step → Type 0
  Agrees line f actor s = not (is_shut (form_behind k line f)) ≡ open_behind k s (not (is_shut f))

  open-agrees : (a : AssocNo) (asked : OpenForm) (f : Form) → opened_in c a asked ≡ turn actor step → Agrees (lines.Open a asked) f actor step
  open-agrees a opens.Direct f h = made c a.0 actor (own_opening a 65000) step (Agrees (lines.Open a opens.Direct) f) h (open-if (a.0 == k) direct f refl)
  open-agrees a (opens.Mms size) f h = made c a.0 actor (own_opening a size) step (Agrees (lines.Open a (opens.Mms size)) f) h (open-if (a.0 == k) (mms size) f refl)
  open-agrees a opens.Wire f h = absurd cc

  opened-agrees : (a : AssocNo) (asked : OpenForm) (f : Form) → opened_as c f a asked ≡ turn actor step → Agrees (lines.Open a asked) f actor step
  opened-agrees a asked f h = by (is_shut f) h where
    by : (b : Bool) → (if b then opened_in c a asked else refused 5) ≡ turn actor step → Agrees (lines.Open a asked) f actor step
    by true h = open-agrees a asked f h
    by false h = absurd cc

  lost-agrees : (a : AssocNo) (f : Form) → lost_as c f a ≡ turn actor step → Agrees (lines.Lost a) f actor step
  lost-agrees a shut h = absurd cc
  lost-agrees a direct h = made c a.0 actor (steps.Lost a) step (Agrees (lines.Lost a) direct) h (shut-if (a.0 == k) direct)
  lost-agrees a (mms size) h = made c a.0 actor (steps.Lost a) step (Agrees (lines.Lost a) (mms size)) h (shut-if (a.0 == k) (mms size))
  lost-agrees a (dialling octets) h = absurd cc
  lost-agrees a (wire line octets) h = made c a.0 actor (steps.Lost a) step (Agrees (lines.Lost a) (wire line octets)) h (shut-if (a.0 == k) (wire line octets))

  line-agrees : (f : Form) (line : RecLine) → told_of c f line ≡ turn actor step → Agrees line f actor step
  unfolding told_of
  line-agrees f lines.Skip h = absurd cc
  line-agrees f (lines.At moment) h = absurd cc
  line-agrees f (lines.Open a asked) h = opened-agrees a asked f h
  line-agrees f (lines.Write a block comp value) h = sym (write-still f a (number_in (block_references c) block) (comp_named comp) value h (not (is_shut f)))
  line-agrees f (lines.Pdu a hex) h = sym (send-still a hex f h (not (is_shut f)))
  line-agrees f (lines.Piece a hex) h = absurd (fed-never a hex f h)
  line-agrees f (lines.Take a) h = sym (made c a.0 actor (steps.Take a) step IsStill h (λ was. refl) (not (is_shut f)))
  line-agrees f (lines.Lost a) h = lost-agrees a f h
  line-agrees f (lines.Set pairs) h = sym (set-still pairs h (not (is_shut f)))
  line-agrees f (lines.Done control well) h = sym (end-still (number_in (control_references c) control) well h (not (is_shut f)))
  line-agrees f (lines.Block control on) h = sym (block-still (number_in (control_references c) control) on h (not (is_shut f)))
  line-agrees f lines.Tick h = sym (made c 0 actor steps.Tick step IsStill h (λ was. refl) (not (is_shut f)))
  line-agrees f lines.End h = absurd cc

-- ---- steps of the process

-- every actor's is written as 0's
abbrev IsOfNone : Step → Type 0
IsOfNone s = (k : ℕ) → actor_of k s ≡ 0

none-one : (n : ℕ) → n ≡ 1 → n ≡ 0 → ⊥
none-one zero is other = absurd (cc is)
none-one (suc n) is other = absurd (cc other)

process-own : (k m : ℕ) (s : Step) → IsOfNone s → IsItsOwn (histories.turn_of m k s) s
process-own k m (steps.Open e size writer owner) h = absurd (none-one 1 refl (h 1))
process-own k m (steps.Ask e r) h = absurd (none-one 1 refl (h 1))
process-own k m (steps.Write e b comp v) h = absurd (none-one 1 refl (h 1))
process-own k m (steps.Take e) h = absurd (none-one 1 refl (h 1))
process-own k m (steps.Lost e) h = absurd (none-one 1 refl (h 1))
process-own k m (steps.Value settings) h = tt
process-own k m (steps.Done n good) h = tt
process-own k m (steps.Block n flag) h = tt
process-own k m steps.Tick h = tt

process-order : (opened : ℕ → Bool) (s : Step) → IsOfNone s → IsInOrder opened s
process-order opened (steps.Open e size writer owner) h = absurd (none-one 1 refl (h 1))
process-order opened (steps.Ask e r) h = absurd (none-one 1 refl (h 1))
process-order opened (steps.Write e b comp v) h = absurd (none-one 1 refl (h 1))
process-order opened (steps.Take e) h = tt
process-order opened (steps.Lost e) h = absurd (none-one 1 refl (h 1))
process-order opened (steps.Value settings) h = tt
process-order opened (steps.Done n good) h = tt
process-order opened (steps.Block n flag) h = tt
process-order opened steps.Tick h = tt

process-still : (k : ℕ) (s : Step) → IsOfNone s → (was : Bool) → open_behind k s was ≡ was
process-still k (steps.Open e size writer owner) h was = absurd (none-one 1 refl (h 1))
process-still k (steps.Ask e r) h was = refl
process-still k (steps.Write e b comp v) h was = refl
process-still k (steps.Take e) h was = refl
process-still k (steps.Lost e) h was = absurd (none-one 1 refl (h 1))
process-still k (steps.Value settings) h was = refl
process-still k (steps.Done n good) h was = refl
process-still k (steps.Block n flag) h was = refl
process-still k steps.Tick h was = refl

-- ---- steps of an association

module _ (opened : ℕ → Bool) (k actor m : ℕ) (same : actor ≡ k) where
  association-own : (s : Step) → IsOwn opened actor s → IsItsOwn (histories.turn_of m k s) s
  association-own (steps.Open e size writer owner) own = (sym same ∙ own.1, own.2)
  association-own (steps.Ask e r) own = sym same ∙ own.1
  association-own (steps.Write e b comp v) own = sym same ∙ own.1
  association-own (steps.Take e) own = sym same ∙ own
  association-own (steps.Lost e) own = sym same ∙ own.1
  association-own (steps.Value settings) own = tt
  association-own (steps.Done n good) own = tt
  association-own (steps.Block n flag) own = tt
  association-own steps.Tick own = tt

  -- of those that are open another list says the same of actor k
  module _ (open_so : ℕ → Bool) (agrees : (e : ℕ) → e ≡ k → open_so e ≡ opened e) where
    at-own : (e : ℕ) → actor ≡ e → open_so e ≡ opened e
    at-own e is = agrees e (sym is ∙ same)

    association-order : (s : Step) → IsOwn opened actor s → IsInOrder open_so s
    association-order (steps.Open e size writer owner) own = at-own e.0 own.1 ∙ own.0
    association-order (steps.Ask e r) own = at-own e.0 own.1 ∙ own.0
    association-order (steps.Write e b comp v) own = at-own e.0 own.1 ∙ own.0
    association-order (steps.Take e) own = tt
    association-order (steps.Lost e) own = at-own e.0 own.1 ∙ own.0
    association-order (steps.Value settings) own = tt
    association-order (steps.Done n good) own = tt
    association-order (steps.Block n flag) own = tt
    association-order steps.Tick own = tt

-- ---- the step that a line of a script says

module _ (c : Config) (k : ℕ) (before : List (List ℕ)) (l : StepLine) (s : TimedStep) (is : IsTold c k before l s) where
  abbrev f : Form
  f = form_in l.form

  abbrev actor : ℕ
  actor = actor_of k s.step

  abbrev as_told : ℕ → Bool
  as_told a = not (is_shut f)

  own-so : IsOwn as_told actor s.step
  own-so = (told-own c as_told f actor s.step is.line refl is.told).0

  pub own-step : IsItsOwn (histories.turn_of s.moment k s.step) s.step
  own-step = by is.party is.may is.actor where
    by : (party : Party) → may_have party is.line ≡ true → IsActor k party before l.form → IsItsOwn (histories.turn_of s.moment k s.step) s.step
    by (parties.Association a) may of = association-own as_told k actor s.moment ((association-made c f actor s.step a is.line may is.told).1.1 k) s.step own-so
    by parties.Process may of = process-own k s.moment s.step (process-made c f actor s.step is.line may is.told).1.1

  pub in-order : (opened : ℕ → Bool) → opened k ≡ not (is_shut (form_at k before)) → IsInOrder opened s.step
  in-order opened agrees = by is.party is.may is.actor where
    by : (party : Party) → may_have party is.line ≡ true → IsActor k party before l.form → IsInOrder opened s.step
    by (parties.Association a) may of =
        association-order as_told k actor s.moment ((association-made c f actor s.step a is.line may is.told).1.1 k) opened
        (λ e same. ap opened same ∙ (agrees ∙ ap (λ g. not (is_shut g)) (sym of.1))) s.step own-so
    by parties.Process may of = process-order opened s.step (process-made c f actor s.step is.line may is.told).1.1

  pub open-more : not (is_shut (form_at k (l.text ∷ before))) ≡ open_behind k s.step (not (is_shut (form_at k before)))
  open-more = ap (λ r. not (is_shut (form_after k r (form_at k before)))) is.read ∙ by is.party is.may is.actor where
    by : (party : Party) → may_have party is.line ≡ true → IsActor k party before l.form → not (is_shut (form_behind k is.line (form_at k before))) ≡ open_behind k s.step (not (is_shut (form_at k before)))
    by (parties.Association a) may of = subst (λ g. not (is_shut (form_behind k is.line g)) ≡ open_behind k s.step (not (is_shut g))) of.1 (line-agrees c k actor s.step f is.line is.told)
    by parties.Process may of =
        ap (λ g. not (is_shut g)) (process-stays is.line k (form_at k before) may) ∙ sym (process-still k s.step (process-made c f actor s.step is.line may is.told).1.1 (not (is_shut (form_at k before))))
