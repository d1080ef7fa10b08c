-- What a line of a record asks of a bay: names are looked up in its configuration, and values are read. Of several causes for
-- a refusal the first one counts: 3 a name of nothing, 5 an association that isn't open or is of another form, 6 no hexadecimal or
-- no octet, 4 no value.
use Rattle.std.specs.Prelude.{ℕ, Bool, List, Option, None, Some, if◌then◌else◌}
use Rattle.sv_base.specs.declared.config.Config.{Config}
use Rattle.sv_base.specs.declared.numbers.AssocNo.{AssocNo}
use Rattle.sv_base.specs.declared.value.Value.{Value}
use Rattle.sv_base.specs.declared.components.Comp.{Comp}
use Rattle.bay_model.specs.declared.request.Request.{Request}
use Rattle.bay_model.specs.declared.step.Setting.{Setting}
use Rattle.bay_model.specs.declared.step.Step.{Step}
use Rattle.bay_model.specs.declared.step.Step.TheVariants as steps
use Rattle.object_model.specs.Fits.{fits}
use Rattle.name_leaves.specs.Numbers.{number_in}
use Rattle.object_model.specs.References.{block_references, control_references}
use Rattle.run_record.specs.declared.line.OpenForm.{OpenForm}
use Rattle.run_record.specs.declared.line.OpenForm.TheVariants as opens
use Rattle.run_record.specs.declared.line.RecLine.{RecLine}
use Rattle.run_record.specs.declared.line.RecLine.TheVariants as lines
use Rattle.run_record.specs.declared.pairs.Pair.{Pair}
use Rattle.sv_base.specs.ComponentTable.{comp_named}
use Rattle.text_words.specs.Values.{hex_at}
use Rattle.record_values.specs.Shapes.{shape_at}
use Rattle.record_steps.specs.Forms.{Form, shut, mms, dialling, wire, is_shut, is_direct}
use Rattle.record_steps.specs.Asks.{asked_by}
use Rattle.record_steps.specs.Own.{own_opening}
use Rattle.record_values.specs.Settings.{are_named, settings_at}
use Rattle.record_steps.specs.Streams.{piece_at, events_behind, refusal_behind, heard_through}
use Rattle.record_steps.specs.Told.{Told, skip, pass_to, turn, heard, refused, last}
use Rattle.record_steps.specs.declared.heard.Wired.{Wired}
use Rattle.record_steps.specs.declared.heard.Wired.TheVariants.{Dialling, On}

-- the association that a line names, else 0
abbrev pub association_of : RecLine → ℕ
association_of (lines.Open a form) = a.0
association_of (lines.Write a block comp value) = a.0
association_of (lines.Pdu a hex) = a.0
association_of (lines.Piece a hex) = a.0
association_of (lines.Take a) = a.0
association_of (lines.Lost a) = a.0
association_of _ = 0

-- a step of an actor, which fits the configuration as every step does whose values are of their types
abbrev pub turn_of : Config → ℕ → Step → Told
turn_of c actor step = if fits c step then turn actor step else refused 4

-- one that isn't open is opened, direct with the greatest size of a PDU; one of a stream opens when it is connected
abbrev pub opened_in : Config → AssocNo → OpenForm → Told
opened_in c a opens.Direct = turn_of c a.0 (own_opening a 65000)
opened_in c a (opens.Mms size) = turn_of c a.0 (own_opening a size)
opened_in c a opens.Wire = skip

abbrev pub opened_as : Config → Form → AssocNo → OpenForm → Told
opened_as c form a asked = if is_shut form then opened_in c a asked else refused 5

abbrev pub valued_as : Config → AssocNo → ℕ → Comp → Option Value → Told
valued_as c a b comp None = refused 4
valued_as c a b comp (Some v) = turn_of c a.0 (steps.Write a (record { 0 = b }) comp v)

abbrev pub written_as : Config → Form → AssocNo → Option ℕ → Option Comp → List ℕ → Told
written_as c form a (Some b) (Some comp) word = if is_direct form then valued_as c a b comp (shape_at comp word) else refused 5
written_as c form a _ _ word = refused 3

-- one that dials ends without a step
abbrev pub lost_as : Config → Form → AssocNo → Told
lost_as c shut a = refused 5
lost_as c (dialling octets) a = skip
lost_as c _ a = turn_of c a.0 (steps.Lost a)

-- a PDU that asks nothing makes no step
abbrev pub asked_as : Config → AssocNo → Option Request → Told
asked_as c a None = skip
asked_as c a (Some r) = turn_of c a.0 (steps.Ask a r)

abbrev pub spelled_as : Config → AssocNo → Option (List ℕ) → Told
spelled_as c a None = refused 6
spelled_as c a (Some octets) = asked_as c a (asked_by c octets)

abbrev pub sent_as : Config → Form → AssocNo → List ℕ → Told
sent_as c (mms size) a hex = spelled_as c a (hex_at hex)
sent_as c _ a hex = refused 5

-- a piece, after octets of its stream
abbrev pub piece_as : Config → Wired → AssocNo → List ℕ → Option (List ℕ) → Told
piece_as c w a octets None = refused 6
piece_as c w a octets (Some piece) = heard (heard_through c a (events_behind octets piece) (refusal_behind octets piece) w)

abbrev pub fed_as : Config → Form → AssocNo → List ℕ → Told
fed_as c (dialling octets) a hex = piece_as c Dialling a octets (piece_at hex)
fed_as c (wire line octets) a hex = piece_as c (On line) a octets (piece_at hex)
fed_as c _ a hex = refused 5

abbrev pub set_to : Config → Option (List Setting) → Told
set_to c None = refused 4
set_to c (Some settings) = turn_of c 0 (steps.Value settings)

abbrev pub set_as : Config → List Pair → Told
set_as c pairs = if are_named c pairs then set_to c (settings_at c pairs) else refused 3

-- the process ends what a control executes, well or not, and it blocks a control or unblocks it
abbrev pub ended_as : Config → Option ℕ → Bool → Told
ended_as c None well = refused 3
ended_as c (Some k) well = turn_of c 0 (steps.Done (record { 0 = k }) well)

abbrev pub blocked_as : Config → Option ℕ → Bool → Told
blocked_as c None on = refused 3
blocked_as c (Some k) on = turn_of c 0 (steps.Block (record { 0 = k }) on)

-- a line, by what the association that it names is
unfoldable pub told_of : Config → Form → RecLine → Told
told_of c form lines.Skip = skip
told_of c form (lines.At moment) = pass_to moment
told_of c form (lines.Open a asked) = opened_as c form a asked
told_of c form (lines.Write a block comp value) = written_as c form a (number_in (block_references c) block) (comp_named comp) value
told_of c form (lines.Pdu a hex) = sent_as c form a hex
told_of c form (lines.Piece a hex) = fed_as c form a hex
told_of c form (lines.Take a) = turn_of c a.0 (steps.Take a)
told_of c form (lines.Lost a) = lost_as c form a
told_of c form (lines.Set pairs) = set_as c pairs
told_of c form (lines.Done control well) = ended_as c (number_in (control_references c) control) well
told_of c form (lines.Block control on) = blocked_as c (number_in (control_references c) control) on
told_of c form lines.Tick = turn_of c 0 steps.Tick
told_of c form lines.End = last
