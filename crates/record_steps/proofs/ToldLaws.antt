-- What lines say, by what is known of them; and a step that a line gives is its association's own, and fits.
use Rattle.std.proofs.Common.{◌≡◌, ℕ, Bool, true, false, not, List, refl, sym, ap, subst, ◌∙◌}
use Rattle.std.specs.Prelude.{Option, None, Some, if◌then◌else◌}
use Rattle.sv_base.specs.declared.config.Config.{Config}
use Rattle.sv_base.specs.declared.numbers.AssocNo.{AssocNo}
use Rattle.sv_base.specs.declared.value.Value.{Value}
use Rattle.sv_base.specs.declared.components.Comp.{Comp}
use Rattle.bay_model.specs.declared.step.Setting.{Setting}
use Rattle.bay_model.specs.declared.step.Step.{Step}
use Rattle.bay_model.specs.declared.step.Step.TheVariants as steps
use Rattle.object_model.specs.Fits.{fits}
use Rattle.name_leaves.specs.Numbers.{number_in}
use Rattle.object_model.specs.References.{block_references, control_references}
use Rattle.run_record.specs.declared.line.OpenForm.{OpenForm}
use Rattle.run_record.specs.declared.line.OpenForm.TheVariants as opens
use Rattle.run_record.specs.declared.line.RecLine.{RecLine}
use Rattle.run_record.specs.declared.line.RecLine.TheVariants as lines
use Rattle.run_record.specs.declared.pairs.Pair.{Pair}
use Rattle.sv_base.specs.ComponentTable.{comp_named}
use Rattle.record_values.specs.Shapes.{shape_at}
use Rattle.record_values.specs.Settings.{are_named, settings_at}
use Rattle.text_words.specs.Values.{hex_at}
use Rattle.bay_model.specs.declared.request.Request.{Request}
use Rattle.record_steps.specs.Forms.{Form, shut, direct, mms, dialling, wire, is_shut, is_direct}
use Rattle.record_steps.specs.Asks.{asked_by}
use Rattle.record_steps.specs.Resolved.{association_of, turn_of, opened_in, opened_as, valued_as, written_as, lost_as, asked_as, spelled_as, sent_as, piece_as, fed_as, set_to, set_as, ended_as, blocked_as, told_of}
use Rattle.record_steps.specs.Streams.{piece_at}
use Rattle.record_steps.specs.Told.{turn, refused}
use Rattle.record_steps.specs.declared.heard.Wired.{Wired}
use Rattle.record_steps.specs.declared.heard.Wired.TheVariants.{Dialling, On}
use Rattle.record_steps.specs.Telling.{NamesNone}
use Rattle.record_steps.specs.Own.{IsOwn, own_opening}

module _ (c : Config) (form : Form) (a : AssocNo) (block : Option ℕ) (b : ℕ) (comp : Option Comp) (k : Comp) (word : List ℕ) (is-block : block ≡ Some b) (is-comp : comp ≡ Some k) (opened : is_direct form ≡ true) (v : Value) (is : shape_at k word ≡ Some v) where
  named : written_as c form a block comp word ≡ (if is_direct form then valued_as c a b k (shape_at k word) else refused 5)
  named = ap (λ o. written_as c form a o comp word) is-block ∙ ap (λ o. written_as c form a (Some b) o word) is-comp

  pub written-valued : turn_of c a.0 (steps.Write a (record { 0 = b }) k v) ≡ written_as c form a block comp word
  written-valued = sym (named ∙ (ap (λ x. if x then valued_as c a b k (shape_at k word) else refused 5) opened ∙ ap (valued_as c a b k) is))

-- what pairs were found to be
module _ (c : Config) (pairs : List Pair) where
  pub set-found : (settings : List Setting) → are_named c pairs ≡ true → settings_at c pairs ≡ Some settings → turn_of c 0 (steps.Value settings) ≡ set_as c pairs
  set-found settings named is = sym (ap (λ b. if b then set_to c (settings_at c pairs) else refused 3) named ∙ ap (set_to c) is)

  pub set-unnamed : are_named c pairs ≡ false → refused 3 ≡ set_as c pairs
  set-unnamed h = sym (ap (λ b. if b then set_to c (settings_at c pairs) else refused 3) h)

  pub set-unspelled : are_named c pairs ≡ true → settings_at c pairs ≡ None → refused 4 ≡ set_as c pairs
  set-unspelled named is = sym (ap (λ b. if b then set_to c (settings_at c pairs) else refused 3) named ∙ ap (set_to c) is)

-- a line that names no association says the same, whatever is open
pub told-anyway : (c : Config) (line : RecLine) (form other : Form) → NamesNone line → told_of c form line ≡ told_of c other line
unfolding told_of
told-anyway c lines.Skip form other h = refl
told-anyway c (lines.At moment) form other h = refl
told-anyway c (lines.Set pairs) form other h = refl
told-anyway c (lines.Done control well) form other h = refl
told-anyway c (lines.Block control on) form other h = refl
told-anyway c lines.Tick form other h = refl
told-anyway c lines.End form other h = refl
told-anyway c _ form other h = absurd h

-- a step that a line gives
turned : (c : Config) (k actor : ℕ) (s step : Step) (P : ℕ → Step → Type 0) → turn_of c k s ≡ turn actor step → P k s → P actor step × (fits c step ≡ true)
turned c k actor s step P is p = by (fits c s) refl is where
  by : (b : Bool) → fits c s ≡ b → (if b then turn k s else refused 4) ≡ turn actor step → P actor step × (fits c step ≡ true)
  by true e h = let same : s ≡ step = cc in let who : k ≡ actor = cc in (subst (λ k. P k step) who (subst (λ s. P k s) same p), subst (λ s. fits c s ≡ true) same e)
  by false e h = absurd cc

module _ (c : Config) (is_open : ℕ → Bool) (form : Form) (actor : ℕ) (step : Step) where
  abbrev Own : Type 0
  Own = IsOwn is_open actor step × (fits c step ≡ true)

  shut-own : (a : AssocNo) (asked : OpenForm) → is_open a.0 ≡ false → opened_in c a asked ≡ turn actor step → Own
  shut-own a opens.Direct e h = turned c a.0 actor (own_opening a 65000) step (IsOwn is_open) h (e, refl, refl)
  shut-own a (opens.Mms size) e h = turned c a.0 actor (own_opening a size) step (IsOwn is_open) h (e, refl, refl)
  shut-own a opens.Wire e h = absurd cc

  open-own : (a : AssocNo) (asked : OpenForm) → is_open a.0 ≡ not (is_shut form) → opened_as c form a asked ≡ turn actor step → Own
  open-own a asked agrees h = by (is_shut form) agrees h where
    by : (b : Bool) → is_open a.0 ≡ not b → (if b then opened_in c a asked else refused 5) ≡ turn actor step → Own
    by true e h = shut-own a asked e h
    by false e h = absurd cc

  value-own : (a : AssocNo) (b : ℕ) (comp : Comp) (o : Option Value) → is_open a.0 ≡ true → valued_as c a b comp o ≡ turn actor step → Own
  value-own a b comp None opened h = absurd cc
  value-own a b comp (Some v) opened h = turned c a.0 actor (steps.Write a (record { 0 = b }) comp v) step (IsOwn is_open) h (opened, refl)

  direct-own : (a : AssocNo) (b : ℕ) (comp : Comp) (word : List ℕ) (f : Form) → is_open a.0 ≡ not (is_shut f) → (if is_direct f then valued_as c a b comp (shape_at comp word) else refused 5) ≡ turn actor step → Own
  direct-own a b comp word shut agrees h = absurd cc
  direct-own a b comp word direct agrees h = value-own a b comp (shape_at comp word) agrees h
  direct-own a b comp word (mms size) agrees h = absurd cc
  direct-own a b comp word (dialling octets) agrees h = absurd cc
  direct-own a b comp word (wire line octets) agrees h = absurd cc

  write-own : (a : AssocNo) (block : Option ℕ) (comp : Option Comp) (word : List ℕ) → is_open a.0 ≡ not (is_shut form) → written_as c form a block comp word ≡ turn actor step → Own
  write-own a (Some b) (Some comp) word agrees h = direct-own a b comp word form agrees h
  write-own a None None word agrees h = absurd cc
  write-own a None (Some comp) word agrees h = absurd cc
  write-own a (Some b) None word agrees h = absurd cc

  ask-own : (a : AssocNo) (o : Option Request) → is_open a.0 ≡ true → asked_as c a o ≡ turn actor step → Own
  ask-own a None opened h = absurd cc
  ask-own a (Some r) opened h = turned c a.0 actor (steps.Ask a r) step (IsOwn is_open) h (opened, refl)

  spelled-own : (a : AssocNo) (o : Option (List ℕ)) → is_open a.0 ≡ true → spelled_as c a o ≡ turn actor step → Own
  spelled-own a None opened h = absurd cc
  spelled-own a (Some octets) opened h = ask-own a (asked_by c octets) opened h

  send-own : (a : AssocNo) (hex : List ℕ) (f : Form) → is_open a.0 ≡ not (is_shut f) → sent_as c f a hex ≡ turn actor step → Own
  send-own a hex shut agrees h = absurd cc
  send-own a hex direct agrees h = absurd cc
  send-own a hex (mms size) agrees h = spelled-own a (hex_at hex) agrees h
  send-own a hex (dialling octets) agrees h = absurd cc
  send-own a hex (wire line octets) agrees h = absurd cc

  lost-own : (a : AssocNo) (f : Form) → is_open a.0 ≡ not (is_shut f) → lost_as c f a ≡ turn actor step → Own
  lost-own a shut agrees h = absurd cc
  lost-own a direct agrees h = turned c a.0 actor (steps.Lost a) step (IsOwn is_open) h (agrees, refl)
  lost-own a (mms size) agrees h = turned c a.0 actor (steps.Lost a) step (IsOwn is_open) h (agrees, refl)
  lost-own a (dialling octets) agrees h = absurd cc
  lost-own a (wire line octets) agrees h = turned c a.0 actor (steps.Lost a) step (IsOwn is_open) h (agrees, refl)

  piece-own : (w : Wired) (a : AssocNo) (octets : List ℕ) (o : Option (List ℕ)) → piece_as c w a octets o ≡ turn actor step → Own
  piece-own w a octets None h = absurd cc
  piece-own w a octets (Some piece) h = absurd cc

  fed-own : (a : AssocNo) (hex : List ℕ) (f : Form) → fed_as c f a hex ≡ turn actor step → Own
  fed-own a hex shut h = absurd cc
  fed-own a hex direct h = absurd cc
  fed-own a hex (mms size) h = absurd cc
  fed-own a hex (dialling octets) h = piece-own Dialling a octets (piece_at hex) h
  fed-own a hex (wire line octets) h = piece-own (On line) a octets (piece_at hex) h

  set-own : (pairs : List Pair) → set_as c pairs ≡ turn actor step → Own
  set-own pairs h = by (are_named c pairs) (settings_at c pairs) h where
    by : (t : Bool) (o : Option (List Setting)) → (if t then set_to c o else refused 3) ≡ turn actor step → Own
    by true (Some settings) h = turned c 0 actor (steps.Value settings) step (IsOwn is_open) h tt
    by true None h = absurd cc
    by false o h = absurd cc

  end-own : (o : Option ℕ) (well : Bool) → ended_as c o well ≡ turn actor step → Own
  end-own None well h = absurd cc
  end-own (Some k) well h = turned c 0 actor (steps.Done (record { 0 = k }) well) step (IsOwn is_open) h tt

  block-own : (o : Option ℕ) (on : Bool) → blocked_as c o on ≡ turn actor step → Own
  block-own None on h = absurd cc
  block-own (Some k) on h = turned c 0 actor (steps.Block (record { 0 = k }) on) step (IsOwn is_open) h tt

  -- the association that the line names is open where its form isn't shut
  pub told-own : (line : RecLine) → is_open (association_of line) ≡ not (is_shut form) → told_of c form line ≡ turn actor step → Own
  unfolding told_of
  told-own lines.Skip agrees h = absurd cc
  told-own (lines.At moment) agrees h = absurd cc
  told-own (lines.Open a asked) agrees h = open-own a asked agrees h
  told-own (lines.Write a block comp value) agrees h = write-own a (number_in (block_references c) block) (comp_named comp) value agrees h
  told-own (lines.Pdu a hex) agrees h = send-own a hex form agrees h
  told-own (lines.Piece a hex) agrees h = fed-own a hex form h
  told-own (lines.Take a) agrees h = turned c a.0 actor (steps.Take a) step (IsOwn is_open) h refl
  told-own (lines.Lost a) agrees h = lost-own a form agrees h
  told-own (lines.Set pairs) agrees h = set-own pairs h
  told-own (lines.Done control well) agrees h = end-own (number_in (control_references c) control) well h
  told-own (lines.Block control on) agrees h = block-own (number_in (control_references c) control) on h
  told-own lines.Tick agrees h = turned c 0 actor steps.Tick step (IsOwn is_open) h tt
  told-own lines.End agrees h = absurd cc
