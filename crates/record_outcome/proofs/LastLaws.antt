-- The line that says that it is the last is `end`.
use Rattle.std.proofs.Common.{◌≡◌, ℕ, Bool, true, false, List, refl, ap, arith}
use Rattle.std.specs.Prelude.{Option, None, Some, Ok, codes, if◌then◌else◌}
use Rattle.sv_base.specs.declared.config.Config.{Config}
use Rattle.sv_base.specs.declared.numbers.AssocNo.{AssocNo}
use Rattle.sv_base.specs.declared.value.Value.{Value}
use Rattle.sv_base.specs.declared.components.Comp.{Comp}
use Rattle.bay_model.specs.declared.step.Setting.{Setting}
use Rattle.bay_model.specs.declared.step.Step.{Step}
use Rattle.bay_model.specs.declared.step.Step.TheVariants as steps
use Rattle.sv_base.specs.ComponentTable.{comp_named}
use Rattle.object_model.specs.Fits.{fits}
use Rattle.name_leaves.specs.Numbers.{number_in}
use Rattle.object_model.specs.References.{block_references, control_references}
use Rattle.run_record.specs.Judging.{line_at}
use Rattle.run_record.specs.Spelled.{words}
use Rattle.run_record.specs.declared.line.OpenForm.{OpenForm}
use Rattle.run_record.specs.declared.line.OpenForm.TheVariants as opens
use Rattle.run_record.specs.declared.line.RecLine.{RecLine}
use Rattle.run_record.specs.declared.line.RecLine.TheVariants as lines
use Rattle.run_record.proofs.ReadLaws.{line-read}
use Rattle.run_record.proofs.ToldLaws.{line-told}
use Rattle.run_record.specs.Grammar.{Spells}
use Rattle.text_words.specs.Values.{hex_at}
use Rattle.bay_model.specs.declared.request.Request.{Request}
use Rattle.record_steps.specs.Shapes.{shape_at}
use Rattle.record_steps.specs.Forms.{Form, shut, direct, mms, dialling, wire, is_shut, is_direct}
use Rattle.record_steps.specs.Asks.{asked_by}
use Rattle.record_steps.specs.Settings.{are_named, settings_at}
use Rattle.record_steps.specs.Own.{own_opening}
use Rattle.record_steps.specs.Resolved.{turn_of, opened_in, valued_as, written_as, lost_as, asked_as, spelled_as, sent_as, piece_as, fed_as, set_to, ended_as, blocked_as, told_of}
use Rattle.record_steps.specs.Streams.{piece_at}
use Rattle.record_steps.specs.Told.{Told, turn, refused, last}
use Rattle.record_outcome.specs.Played.{Played}
use Rattle.record_outcome.specs.Moves.{stops}
use Rattle.record_outcome.specs.Steps.{played, told_at, step_at}
use Rattle.record_outcome.specs.declared.status.Status.TheVariants as statuses
use Rattle.record_steps.specs.declared.heard.Wired.{Wired}
use Rattle.record_steps.specs.declared.heard.Wired.TheVariants.{Dialling, On}

turn-goes : (c : Config) (actor : ℕ) (step : Step) → turn_of c actor step ≡ last → ⊥
turn-goes c actor step h = by (fits c step) h where
  by : (b : Bool) → (if b then turn actor step else refused 4) ≡ last → ⊥
  by true h = absurd cc
  by false h = absurd cc

if-goes : (b : Bool) (t : Told) (kind : ℕ) → (t ≡ last → ⊥) → (if b then t else refused kind) ≡ last → ⊥
if-goes true t kind goes h = goes h
if-goes false t kind goes h = absurd cc

shut-goes : (c : Config) (a : AssocNo) (asked : OpenForm) → opened_in c a asked ≡ last → ⊥
shut-goes c a opens.Direct h = turn-goes c a.0 (own_opening a 65000) h
shut-goes c a (opens.Mms size) h = turn-goes c a.0 (own_opening a size) h
shut-goes c a opens.Wire h = absurd cc

value-goes : (c : Config) (a : AssocNo) (b : ℕ) (comp : Comp) (o : Option Value) → valued_as c a b comp o ≡ last → ⊥
value-goes c a b comp None h = absurd cc
value-goes c a b comp (Some v) h = turn-goes c a.0 (steps.Write a (record { 0 = b }) comp v) h

write-goes : (c : Config) (form : Form) (a : AssocNo) (block : Option ℕ) (comp : Option Comp) (word : List ℕ) → written_as c form a block comp word ≡ last → ⊥
write-goes c form a (Some b) (Some comp) word h = if-goes (is_direct form) (valued_as c a b comp (shape_at comp word)) 5 (value-goes c a b comp (shape_at comp word)) h
write-goes c form a (Some b) None word h = absurd cc
write-goes c form a None (Some comp) word h = absurd cc
write-goes c form a None None word h = absurd cc

ask-goes : (c : Config) (a : AssocNo) (o : Option Request) → asked_as c a o ≡ last → ⊥
ask-goes c a None h = absurd cc
ask-goes c a (Some r) h = turn-goes c a.0 (steps.Ask a r) h

spelled-goes : (c : Config) (a : AssocNo) (o : Option (List ℕ)) → spelled_as c a o ≡ last → ⊥
spelled-goes c a None h = absurd cc
spelled-goes c a (Some octets) h = ask-goes c a (asked_by c octets) h

send-goes : (c : Config) (form : Form) (a : AssocNo) (hex : List ℕ) → sent_as c form a hex ≡ last → ⊥
send-goes c shut a hex h = absurd cc
send-goes c direct a hex h = absurd cc
send-goes c (mms size) a hex h = spelled-goes c a (hex_at hex) h
send-goes c (dialling octets) a hex h = absurd cc
send-goes c (wire line octets) a hex h = absurd cc

piece-goes : (c : Config) (w : Wired) (a : AssocNo) (octets : List ℕ) (o : Option (List ℕ)) → piece_as c w a octets o ≡ last → ⊥
piece-goes c w a octets None h = absurd cc
piece-goes c w a octets (Some piece) h = absurd cc

feed-goes : (c : Config) (form : Form) (a : AssocNo) (hex : List ℕ) → fed_as c form a hex ≡ last → ⊥
feed-goes c shut a hex h = absurd cc
feed-goes c direct a hex h = absurd cc
feed-goes c (mms size) a hex h = absurd cc
feed-goes c (dialling octets) a hex h = piece-goes c Dialling a octets (piece_at hex) h
feed-goes c (wire line octets) a hex h = piece-goes c (On line) a octets (piece_at hex) h

lose-goes : (c : Config) (form : Form) (a : AssocNo) → lost_as c form a ≡ last → ⊥
lose-goes c shut a h = absurd cc
lose-goes c direct a h = turn-goes c a.0 (steps.Lost a) h
lose-goes c (mms size) a h = turn-goes c a.0 (steps.Lost a) h
lose-goes c (dialling octets) a h = absurd cc
lose-goes c (wire line octets) a h = turn-goes c a.0 (steps.Lost a) h

set-goes : (c : Config) (o : Option (List Setting)) → set_to c o ≡ last → ⊥
set-goes c None h = absurd cc
set-goes c (Some settings) h = turn-goes c 0 (steps.Value settings) h

end-goes : (c : Config) (o : Option ℕ) (well : Bool) → ended_as c o well ≡ last → ⊥
end-goes c None well h = absurd cc
end-goes c (Some k) well h = turn-goes c 0 (steps.Done (record { 0 = k }) well) h

block-goes : (c : Config) (o : Option ℕ) (on : Bool) → blocked_as c o on ≡ last → ⊥
block-goes c None on h = absurd cc
block-goes c (Some k) on h = turn-goes c 0 (steps.Block (record { 0 = k }) on) h

pub told-last : (c : Config) (form : Form) (line : RecLine) → told_of c form line ≡ last → line ≡ lines.End
unfolding told_of
told-last c form lines.Skip h = absurd cc
told-last c form (lines.At moment) h = absurd cc
told-last c form (lines.Open a asked) h = absurd (if-goes (is_shut form) (opened_in c a asked) 5 (shut-goes c a asked) h)
told-last c form (lines.Write a block comp value) h = absurd (write-goes c form a (number_in (block_references c) block) (comp_named comp) value h)
told-last c form (lines.Pdu a hex) h = absurd (send-goes c form a hex h)
told-last c form (lines.Piece a hex) h = absurd (feed-goes c form a hex h)
told-last c form (lines.Take a) h = absurd (turn-goes c a.0 (steps.Take a) h)
told-last c form (lines.Lost a) h = absurd (lose-goes c form a h)
told-last c form (lines.Set pairs) h = absurd (if-goes (are_named c pairs) (set_to c (settings_at c pairs)) 3 (set-goes c (settings_at c pairs)) h)
told-last c form (lines.Done control well) h = absurd (end-goes c (number_in (control_references c) control) well h)
told-last c form (lines.Block control on) h = absurd (block-goes c (number_in (control_references c) control) on h)
told-last c form lines.Tick h = absurd (turn-goes c 0 steps.Tick h)
told-last c form lines.End h = refl

pub end-line : (text : List ℕ) → line_at text ≡ Ok lines.End → text ≡ codes "end"
unfolding words
end-line text is = let s : Spells text lines.End = line-told text lines.End is in s.text_

end-spelled : Spells (codes "end") lines.End
unfolding words
end-spelled = record { short = omega arith; text_ = refl; words_ = refl; ranges = tt }

-- and `end` is the last
pub end-stops : (number : ℕ) (c : Config) (s : Played) → step_at number c s (codes "end") ≡ stops statuses.Ok (codes "end\n")
unfolding step_at told_of played
end-stops number c s = ap (told_at number c s) (line-read (codes "end") lines.End end-spelled)
