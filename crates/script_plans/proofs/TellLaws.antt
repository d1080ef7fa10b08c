-- What the lines of scripts say: whose a step is, and what a line makes of the associations.
use Rattle.std.proofs.Common.{◌≡◌, ◌==◌, ◌&&◌, ℕ, Bool, true, false, List, refl, sym, ap, subst, ◌∙◌}
use Rattle.std.specs.Prelude.{Option, None, Some, if◌then◌else◌}
use Rattle.std.proofs.lemmas.Bool.{eqb-true}
use Rattle.sv_base.specs.declared.config.Config.{Config}
use Rattle.sv_base.specs.declared.numbers.AssocNo.{AssocNo}
use Rattle.sv_base.specs.declared.value.Value.{Value}
use Rattle.sv_base.specs.declared.components.Comp.{Comp}
use Rattle.bay_model.specs.declared.request.Request.{Request}
use Rattle.bay_model.specs.declared.step.Setting.{Setting}
use Rattle.bay_model.specs.declared.step.Step.{Step}
use Rattle.bay_model.specs.declared.step.Step.TheVariants as steps
use Rattle.sv_base.specs.ComponentTable.{comp_named}
use Rattle.object_model.specs.Fits.{fits}
use Rattle.name_leaves.specs.Numbers.{number_in}
use Rattle.object_model.specs.References.{block_references, control_references}
use Rattle.text_words.specs.Values.{hex_at}
use Rattle.run_record.specs.Grammar.{IsForm, IsLine}
use Rattle.run_record.specs.declared.line.OpenForm.{OpenForm}
use Rattle.run_record.specs.declared.line.OpenForm.TheVariants as opens
use Rattle.run_record.specs.declared.line.RecLine.{RecLine}
use Rattle.run_record.specs.declared.line.RecLine.TheVariants as lines
use Rattle.run_record.specs.declared.pairs.Pair.{Pair}
use Rattle.record_steps.specs.Asks.{asked_by}
use Rattle.record_steps.specs.Forms.{Form, shut, direct, mms, dialling, wire, is_shut, is_direct, opened_form, form_behind}
use Rattle.record_steps.specs.Own.{own_opening}
use Rattle.record_steps.specs.Resolved.{association_of, turn_of, opened_in, opened_as, valued_as, written_as, lost_as, asked_as, spelled_as, sent_as, piece_as, fed_as, set_to, set_as, ended_as, blocked_as, told_of}
use Rattle.record_steps.specs.Settings.{are_named, settings_at}
use Rattle.record_steps.specs.Shapes.{shape_at}
use Rattle.record_steps.specs.Streams.{piece_at}
use Rattle.record_steps.specs.Told.{Told, pass_to, turn, refused}
use Rattle.record_steps.specs.declared.heard.Wired.{Wired}
use Rattle.record_steps.specs.declared.heard.Wired.TheVariants.{Dialling, On}
use Rattle.script_lines.specs.Parties.{is_no_stream, is_of, is_of_process, may_have}
use Rattle.script_lines.specs.declared.party.Party.{Party}
use Rattle.script_lines.specs.declared.party.Party.TheVariants as parties
use Rattle.history_laws.specs.Written.{actor_of}
use Rattle.script_plans.specs.Forms.{form_in, opened_so, form_passed, IsFit}
use Rattle.script_plans.specs.declared.form.ScriptForm.{ScriptForm}
use Rattle.list_laws.proofs.Places.{same-number}

-- ---- whose a step is

-- a step of an association is written as its actor's, and one of the process as actor 0's
abbrev pub Keeps : (ℕ → ℕ) → ℕ → ℕ → Step → Type 0
Keeps kept n actor s = (actor ≡ n) × ((k : ℕ) → actor_of k s ≡ kept k)

abbrev pub same : ℕ → ℕ
same k = k

abbrev pub zero_of : ℕ → ℕ
zero_of k = 0

pub made : (c : Config) (k actor : ℕ) (s step : Step) (P : ℕ → Step → Type 0) → turn_of c k s ≡ turn actor step → P k s → P actor step
made c k actor s step P is p = by (fits c s) is where
  by : (b : Bool) → (if b then turn k s else refused 4) ≡ turn actor step → P actor step
  by true h = let step_is : s ≡ step = cc in let who : k ≡ actor = cc in subst (λ k. P k step) who (subst (λ s. P k s) step_is p)
  by false h = absurd cc

module _ (c : Config) (form : Form) (actor : ℕ) (step : Step) where
  shut-made : (a : AssocNo) (asked : OpenForm) → opened_in c a asked ≡ turn actor step → Keeps same a.0 actor step
  shut-made a opens.Direct h = made c a.0 actor (own_opening a 65000) step (Keeps same a.0) h (refl, λ k. refl)
  shut-made a (opens.Mms size) h = made c a.0 actor (own_opening a size) step (Keeps same a.0) h (refl, λ k. refl)
  shut-made a opens.Wire h = absurd cc

  open-made : (a : AssocNo) (asked : OpenForm) → opened_as c form a asked ≡ turn actor step → Keeps same a.0 actor step
  open-made a asked h = by (is_shut form) h where
    by : (b : Bool) → (if b then opened_in c a asked else refused 5) ≡ turn actor step → Keeps same a.0 actor step
    by true h = shut-made a asked h
    by false h = absurd cc

  value-made : (a : AssocNo) (b : ℕ) (comp : Comp) (o : Option Value) → valued_as c a b comp o ≡ turn actor step → Keeps same a.0 actor step
  value-made a b comp None h = absurd cc
  value-made a b comp (Some v) h = made c a.0 actor (steps.Write a (record { 0 = b }) comp v) step (Keeps same a.0) h (refl, λ k. refl)

  write-made : (a : AssocNo) (block : Option ℕ) (comp : Option Comp) (word : List ℕ) → written_as c form a block comp word ≡ turn actor step → Keeps same a.0 actor step
  write-made a (Some b) (Some comp) word h = by (is_direct form) h where
    by : (d : Bool) → (if d then valued_as c a b comp (shape_at comp word) else refused 5) ≡ turn actor step → Keeps same a.0 actor step
    by true h = value-made a b comp (shape_at comp word) h
    by false h = absurd cc
  write-made a None None word h = absurd cc
  write-made a None (Some comp) word h = absurd cc
  write-made a (Some b) None word h = absurd cc

  ask-made : (a : AssocNo) (o : Option Request) → asked_as c a o ≡ turn actor step → Keeps same a.0 actor step
  ask-made a None h = absurd cc
  ask-made a (Some r) h = made c a.0 actor (steps.Ask a r) step (Keeps same a.0) h (refl, λ k. refl)

  spelled-made : (a : AssocNo) (o : Option (List ℕ)) → spelled_as c a o ≡ turn actor step → Keeps same a.0 actor step
  spelled-made a None h = absurd cc
  spelled-made a (Some octets) h = ask-made a (asked_by c octets) h

  send-made : (a : AssocNo) (hex : List ℕ) (f : Form) → sent_as c f a hex ≡ turn actor step → Keeps same a.0 actor step
  send-made a hex shut h = absurd cc
  send-made a hex direct h = absurd cc
  send-made a hex (mms size) h = spelled-made a (hex_at hex) h
  send-made a hex (dialling octets) h = absurd cc
  send-made a hex (wire line octets) h = absurd cc

  lost-made : (a : AssocNo) (f : Form) → lost_as c f a ≡ turn actor step → Keeps same a.0 actor step
  lost-made a shut h = absurd cc
  lost-made a direct h = made c a.0 actor (steps.Lost a) step (Keeps same a.0) h (refl, λ k. refl)
  lost-made a (mms size) h = made c a.0 actor (steps.Lost a) step (Keeps same a.0) h (refl, λ k. refl)
  lost-made a (dialling octets) h = absurd cc
  lost-made a (wire line octets) h = made c a.0 actor (steps.Lost a) step (Keeps same a.0) h (refl, λ k. refl)

  set-made : (pairs : List Pair) → set_as c pairs ≡ turn actor step → Keeps zero_of 0 actor step
  set-made pairs h = by (are_named c pairs) (settings_at c pairs) h where
    by : (t : Bool) (o : Option (List Setting)) → (if t then set_to c o else refused 3) ≡ turn actor step → Keeps zero_of 0 actor step
    by true (Some settings) h = made c 0 actor (steps.Value settings) step (Keeps zero_of 0) h (refl, λ k. refl)
    by true None h = absurd cc
    by false o h = absurd cc

  end-made : (o : Option ℕ) (well : Bool) → ended_as c o well ≡ turn actor step → Keeps zero_of 0 actor step
  end-made None well h = absurd cc
  end-made (Some k) well h = made c 0 actor (steps.Done (record { 0 = k }) well) step (Keeps zero_of 0) h (refl, λ k. refl)

  block-made : (o : Option ℕ) (on : Bool) → blocked_as c o on ≡ turn actor step → Keeps zero_of 0 actor step
  block-made None on h = absurd cc
  block-made (Some k) on h = made c 0 actor (steps.Block (record { 0 = k }) on) step (Keeps zero_of 0) h (refl, λ k. refl)

  -- a step that a line of an association says
  pub association-made : (own : AssocNo) (line : RecLine) → is_of own line ≡ true → told_of c form line ≡ turn actor step → (association_of line ≡ own.0) × Keeps same own.0 actor step
  unfolding told_of
  association-made own lines.Skip may h = absurd cc
  association-made own (lines.At moment) may h = absurd cc
  association-made own (lines.Open a asked) may h = by (own.0 == a.0) refl may where
    by : (b : Bool) → (own.0 == a.0) ≡ b → (b && is_no_stream asked) ≡ true → (a.0 ≡ own.0) × Keeps same own.0 actor step
    by true is may = let mine = eqb-true own.0 a.0 is in (sym mine, subst (λ n. Keeps same n actor step) (sym mine) (open-made a asked h))
    by false is may = absurd cc
  association-made own (lines.Write a block comp value) may h =
      let mine = eqb-true own.0 a.0 may in (sym mine, subst (λ n. Keeps same n actor step) (sym mine) (write-made a (number_in (block_references c) block) (comp_named comp) value h))
  association-made own (lines.Pdu a hex) may h = let mine = eqb-true own.0 a.0 may in (sym mine, subst (λ n. Keeps same n actor step) (sym mine) (send-made a hex form h))
  association-made own (lines.Piece a hex) may h = absurd cc
  association-made own (lines.Take a) may h =
      let mine = eqb-true own.0 a.0 may in (sym mine, subst (λ n. Keeps same n actor step) (sym mine) (made c a.0 actor (steps.Take a) step (Keeps same a.0) h (refl, λ k. refl)))
  association-made own (lines.Lost a) may h = let mine = eqb-true own.0 a.0 may in (sym mine, subst (λ n. Keeps same n actor step) (sym mine) (lost-made a form h))
  association-made own (lines.Set pairs) may h = absurd cc
  association-made own (lines.Done control well) may h = absurd cc
  association-made own (lines.Block control on) may h = absurd cc
  association-made own lines.Tick may h = absurd cc
  association-made own lines.End may h = absurd cc

  -- and one that a line of the process says
  pub process-made : (line : RecLine) → is_of_process line ≡ true → told_of c form line ≡ turn actor step → (association_of line ≡ 0) × Keeps zero_of 0 actor step
  unfolding told_of
  process-made lines.Skip may h = absurd cc
  process-made (lines.At moment) may h = absurd cc
  process-made (lines.Open a asked) may h = absurd cc
  process-made (lines.Write a block comp value) may h = absurd cc
  process-made (lines.Pdu a hex) may h = absurd cc
  process-made (lines.Piece a hex) may h = absurd cc
  process-made (lines.Take a) may h = absurd cc
  process-made (lines.Lost a) may h = absurd cc
  process-made (lines.Set pairs) may h = (refl, set-made pairs h)
  process-made (lines.Done control well) may h = (refl, end-made (number_in (control_references c) control) well h)
  process-made (lines.Block control on) may h = (refl, block-made (number_in (control_references c) control) on h)
  process-made lines.Tick may h = (refl, made c 0 actor steps.Tick step (Keeps zero_of 0) h (refl, λ k. refl))
  process-made lines.End may h = absurd cc

-- ---- what a line makes of the associations

-- of another one it makes nothing
pub others-stay : (own : AssocNo) (line : RecLine) (a : ℕ) (was : Form) → is_of own line ≡ true → (own.0 ≡ a → ⊥) → form_behind a line was ≡ was
others-stay own lines.Skip a was may other = refl
others-stay own (lines.At moment) a was may other = refl
others-stay own (lines.Open b asked) a was may other = by (own.0 == b.0) refl may (b.0 == a) refl where
  by : (x : Bool) → (own.0 == b.0) ≡ x → (x && is_no_stream asked) ≡ true → (y : Bool) → (b.0 == a) ≡ y → (if y then opened_form asked else was) ≡ was
  by true is may true same = absurd (other (eqb-true own.0 b.0 is ∙ eqb-true b.0 a same))
  by true is may false same = refl
  by false is may y same = absurd cc
others-stay own (lines.Write b block comp value) a was may other = refl
others-stay own (lines.Pdu b hex) a was may other = refl
others-stay own (lines.Piece b hex) a was may other = absurd cc
others-stay own (lines.Take b) a was may other = refl
others-stay own (lines.Lost b) a was may other = by (b.0 == a) refl where
  by : (y : Bool) → (b.0 == a) ≡ y → (if y then shut else was) ≡ was
  by true same = absurd (other (eqb-true own.0 b.0 may ∙ eqb-true b.0 a same))
  by false same = refl
others-stay own (lines.Set pairs) a was may other = refl
others-stay own (lines.Done control well) a was may other = refl
others-stay own (lines.Block control on) a was may other = refl
others-stay own lines.Tick a was may other = refl
others-stay own lines.End a was may other = refl

pub process-stays : (line : RecLine) (a : ℕ) (was : Form) → is_of_process line ≡ true → form_behind a line was ≡ was
process-stays lines.Skip a was may = refl
process-stays (lines.At moment) a was may = refl
process-stays (lines.Open b asked) a was may = absurd cc
process-stays (lines.Write b block comp value) a was may = refl
process-stays (lines.Pdu b hex) a was may = refl
process-stays (lines.Piece b hex) a was may = absurd cc
process-stays (lines.Take b) a was may = refl
process-stays (lines.Lost b) a was may = absurd cc
process-stays (lines.Set pairs) a was may = refl
process-stays (lines.Done control well) a was may = refl
process-stays (lines.Block control on) a was may = refl
process-stays lines.Tick a was may = refl
process-stays lines.End a was may = refl

-- of its own what the script makes of it
opened-in : (own : AssocNo) (a : AssocNo) (asked : OpenForm) (was : ScriptForm) → ((own.0 == a.0) && is_no_stream asked) ≡ true → form_in (form_passed (lines.Open a asked) was) ≡ form_behind a.0 (lines.Open a asked) (form_in was)
opened-in own a opens.Direct was may = sym (ap (λ x. if x then direct else form_in was) (same-number a.0))
opened-in own a (opens.Mms size) was may = sym (ap (λ x. if x then mms size else form_in was) (same-number a.0))
opened-in own a opens.Wire was may = by (own.0 == a.0) may where
  by : (x : Bool) → (x && false) ≡ true → form_in was ≡ form_behind a.0 (lines.Open a opens.Wire) (form_in was)
  by true may = absurd cc
  by false may = absurd cc

pub passed-in : (party : Party) (line : RecLine) (was : ScriptForm) → may_have party line ≡ true → form_in (form_passed line was) ≡ form_behind (association_of line) line (form_in was)
passed-in (parties.Association own) lines.Skip was may = refl
passed-in (parties.Association own) (lines.At moment) was may = refl
passed-in (parties.Association own) (lines.Open a asked) was may = opened-in own a asked was may
passed-in (parties.Association own) (lines.Write a block comp value) was may = refl
passed-in (parties.Association own) (lines.Pdu a hex) was may = refl
passed-in (parties.Association own) (lines.Piece a hex) was may = absurd cc
passed-in (parties.Association own) (lines.Take a) was may = refl
passed-in (parties.Association own) (lines.Lost a) was may = sym (ap (λ x. if x then shut else form_in was) (same-number a.0))
passed-in (parties.Association own) (lines.Set pairs) was may = refl
passed-in (parties.Association own) (lines.Done control well) was may = refl
passed-in (parties.Association own) (lines.Block control on) was may = refl
passed-in (parties.Association own) lines.Tick was may = refl
passed-in (parties.Association own) lines.End was may = refl
passed-in parties.Process lines.Skip was may = refl
passed-in parties.Process (lines.At moment) was may = refl
passed-in parties.Process (lines.Open a asked) was may = absurd cc
passed-in parties.Process (lines.Write a block comp value) was may = refl
passed-in parties.Process (lines.Pdu a hex) was may = refl
passed-in parties.Process (lines.Piece a hex) was may = absurd cc
passed-in parties.Process (lines.Take a) was may = refl
passed-in parties.Process (lines.Lost a) was may = absurd cc
passed-in parties.Process (lines.Set pairs) was may = refl
passed-in parties.Process (lines.Done control well) was may = refl
passed-in parties.Process (lines.Block control on) was may = refl
passed-in parties.Process lines.Tick was may = refl
passed-in parties.Process lines.End was may = refl

-- no line of the process makes anything of an association
pub process-passed : (line : RecLine) (was : ScriptForm) → is_of_process line ≡ true → form_passed line was ≡ was
process-passed lines.Skip was may = refl
process-passed (lines.At moment) was may = refl
process-passed (lines.Open a asked) was may = absurd cc
process-passed (lines.Write a block comp value) was may = refl
process-passed (lines.Pdu a hex) was may = refl
process-passed (lines.Piece a hex) was may = refl
process-passed (lines.Take a) was may = refl
process-passed (lines.Lost a) was may = absurd cc
process-passed (lines.Set pairs) was may = refl
process-passed (lines.Done control well) was may = refl
process-passed (lines.Block control on) was may = refl
process-passed lines.Tick was may = refl
process-passed lines.End was may = refl

opened-fit : (asked : OpenForm) (was : ScriptForm) → IsForm asked → IsFit was → IsFit (opened_so asked was)
opened-fit opens.Direct was is fit = tt
opened-fit (opens.Mms size) was is fit = is
opened-fit opens.Wire was is fit = fit

pub fit-behind : (line : RecLine) (was : ScriptForm) → IsLine line → IsFit was → IsFit (form_passed line was)
fit-behind (lines.Open b asked) was is fit = opened-fit asked was is.1 fit
fit-behind (lines.Lost b) was is fit = tt
fit-behind _ was is fit = fit

-- ---- a moment

-- no moment is told
abbrev pub NoMoment : Told → Type 0
NoMoment (pass_to moment) = ⊥
NoMoment _ = Unit {0}

turn-none : (c : Config) (k : ℕ) (s : Step) → NoMoment (turn_of c k s)
turn-none c k s = by (fits c s) where
  by : (b : Bool) → NoMoment (if b then turn k s else refused 4)
  by true = tt
  by false = tt

if-none : (b : Bool) (t u : Told) → NoMoment t → NoMoment u → NoMoment (if b then t else u)
if-none true t u first second = first
if-none false t u first second = second

shut-none : (c : Config) (a : AssocNo) (asked : OpenForm) → NoMoment (opened_in c a asked)
shut-none c a opens.Direct = turn-none c a.0 (own_opening a 65000)
shut-none c a (opens.Mms size) = turn-none c a.0 (own_opening a size)
shut-none c a opens.Wire = tt

value-none : (c : Config) (a : AssocNo) (b : ℕ) (comp : Comp) (o : Option Value) → NoMoment (valued_as c a b comp o)
value-none c a b comp None = tt
value-none c a b comp (Some v) = turn-none c a.0 (steps.Write a (record { 0 = b }) comp v)

write-none : (c : Config) (form : Form) (a : AssocNo) (block : Option ℕ) (comp : Option Comp) (word : List ℕ) → NoMoment (written_as c form a block comp word)
write-none c form a (Some b) (Some comp) word = if-none (is_direct form) (valued_as c a b comp (shape_at comp word)) (refused 5) (value-none c a b comp (shape_at comp word)) tt
write-none c form a None None word = tt
write-none c form a None (Some comp) word = tt
write-none c form a (Some b) None word = tt

ask-none : (c : Config) (a : AssocNo) (o : Option Request) → NoMoment (asked_as c a o)
ask-none c a None = tt
ask-none c a (Some r) = turn-none c a.0 (steps.Ask a r)

spelled-none : (c : Config) (a : AssocNo) (o : Option (List ℕ)) → NoMoment (spelled_as c a o)
spelled-none c a None = tt
spelled-none c a (Some octets) = ask-none c a (asked_by c octets)

send-none : (c : Config) (form : Form) (a : AssocNo) (hex : List ℕ) → NoMoment (sent_as c form a hex)
send-none c shut a hex = tt
send-none c direct a hex = tt
send-none c (mms size) a hex = spelled-none c a (hex_at hex)
send-none c (dialling octets) a hex = tt
send-none c (wire line octets) a hex = tt

piece-none : (c : Config) (w : Wired) (a : AssocNo) (octets : List ℕ) (o : Option (List ℕ)) → NoMoment (piece_as c w a octets o)
piece-none c w a octets None = tt
piece-none c w a octets (Some piece) = tt

fed-none : (c : Config) (form : Form) (a : AssocNo) (hex : List ℕ) → NoMoment (fed_as c form a hex)
fed-none c shut a hex = tt
fed-none c direct a hex = tt
fed-none c (mms size) a hex = tt
fed-none c (dialling octets) a hex = piece-none c Dialling a octets (piece_at hex)
fed-none c (wire line octets) a hex = piece-none c (On line) a octets (piece_at hex)

lost-none : (c : Config) (form : Form) (a : AssocNo) → NoMoment (lost_as c form a)
lost-none c shut a = tt
lost-none c direct a = turn-none c a.0 (steps.Lost a)
lost-none c (mms size) a = turn-none c a.0 (steps.Lost a)
lost-none c (dialling octets) a = tt
lost-none c (wire line octets) a = turn-none c a.0 (steps.Lost a)

set-none : (c : Config) (o : Option (List Setting)) → NoMoment (set_to c o)
set-none c None = tt
set-none c (Some settings) = turn-none c 0 (steps.Value settings)

end-none : (c : Config) (o : Option ℕ) (well : Bool) → NoMoment (ended_as c o well)
end-none c None well = tt
end-none c (Some k) well = turn-none c 0 (steps.Done (record { 0 = k }) well)

block-none : (c : Config) (o : Option ℕ) (on : Bool) → NoMoment (blocked_as c o on)
block-none c None on = tt
block-none c (Some k) on = turn-none c 0 (steps.Block (record { 0 = k }) on)

not-told : (t : Told) (moment : ℕ) (P : Type 0) → NoMoment t → t ≡ pass_to moment → P
not-told t moment P none is = absurd (subst NoMoment is none)

-- an `at` line alone says one
pub passed-at : (c : Config) (form : Form) (line : RecLine) (moment : ℕ) → told_of c form line ≡ pass_to moment → line ≡ lines.At moment
unfolding told_of
passed-at c form lines.Skip moment h = absurd cc
passed-at c form (lines.At at) moment h = let is : at ≡ moment = cc in ap lines.At is
passed-at c form (lines.Open a asked) moment h = not-told (opened_as c form a asked) moment _ (if-none (is_shut form) (opened_in c a asked) (refused 5) (shut-none c a asked) tt) h
passed-at c form (lines.Write a block comp value) moment h =
    not-told (written_as c form a (number_in (block_references c) block) (comp_named comp) value) moment _ (write-none c form a (number_in (block_references c) block) (comp_named comp) value) h
passed-at c form (lines.Pdu a hex) moment h = not-told (sent_as c form a hex) moment _ (send-none c form a hex) h
passed-at c form (lines.Piece a hex) moment h = not-told (fed_as c form a hex) moment _ (fed-none c form a hex) h
passed-at c form (lines.Take a) moment h = not-told (turn_of c a.0 (steps.Take a)) moment _ (turn-none c a.0 (steps.Take a)) h
passed-at c form (lines.Lost a) moment h = not-told (lost_as c form a) moment _ (lost-none c form a) h
passed-at c form (lines.Set pairs) moment h = not-told (set_as c pairs) moment _ (if-none (are_named c pairs) (set_to c (settings_at c pairs)) (refused 3) (set-none c (settings_at c pairs)) tt) h
passed-at c form (lines.Done control well) moment h = not-told (ended_as c (number_in (control_references c) control) well) moment _ (end-none c (number_in (control_references c) control) well) h
passed-at c form (lines.Block control on) moment h = not-told (blocked_as c (number_in (control_references c) control) on) moment _ (block-none c (number_in (control_references c) control) on) h
passed-at c form lines.Tick moment h = not-told (turn_of c 0 steps.Tick) moment _ (turn-none c 0 steps.Tick) h
passed-at c form lines.End moment h = absurd cc
