-- What an association of a record is: shut, direct, of MMS with the size of its PDUs, or of a stream, with the octets of that since its
-- `open` line. One of a stream dials until it is connected, and then is on the wire, on a line. The lines of the record say it.
use Rattle.std.specs.Prelude.{◌≡◌, ℕ, ◌==◌, Bool, true, false, List, [], ◌++◌, Option, None, Some, if◌then◌else◌}
use Rattle.stream_lines.specs.Shapes.{IsShape}
use Rattle.stream_lines.specs.declared.shape.Shape.{Shape}
use Rattle.stream_lines.specs.declared.shape.Shape.TheVariants as shapes
use Rattle.osi_stack.specs.Sides.{StandsFor}
use Rattle.osi_stack.specs.declared.events.Event.{Event}
use Rattle.osi_stack.specs.declared.events.Line.{Line}
use Rattle.run_record.specs.declared.line.OpenForm.{OpenForm}
use Rattle.run_record.specs.declared.line.OpenForm.TheVariants as opens
use Rattle.run_record.specs.declared.line.RecLine.{RecLine}
use Rattle.run_record.specs.declared.line.RecLine.TheVariants as lines
use Rattle.record_steps.specs.Streams.{piece_at, events_behind, refusal_behind, wired_through}
use Rattle.record_steps.specs.declared.form.Form as programs
use Rattle.record_steps.specs.declared.form.Form.TheVariants as kept
use Rattle.record_steps.specs.declared.heard.Wired.{Wired}
use Rattle.record_steps.specs.declared.heard.Wired.TheVariants.{Dialling, On, Off}

pub data Form : Type 0 where
  shut : Form
  direct : Form
  mms : ℕ → Form
  dialling : List ℕ → Form
  wire : Line → List ℕ → Form

abbrev pub is_shut : Form → Bool
is_shut shut = true
is_shut _ = false

-- it writes components
abbrev pub is_direct : Form → Bool
is_direct direct = true
is_direct _ = false

-- the shape in which it is answered; one that isn't open, as one that dials, is told that it is closed, in one shape as in the other
abbrev pub shape_of : Form → Shape
shape_of shut = shapes.Direct
shape_of direct = shapes.Direct
shape_of (mms size) = shapes.Mms size
shape_of (dialling octets) = shapes.Direct
shape_of (wire line octets) = shapes.Wire line

-- one of a stream of these octets
abbrev pub form_of : Wired → List ℕ → Form
form_of Dialling octets = dialling octets
form_of (On line) octets = wire line octets
form_of Off octets = shut

-- what it is after its `open` line
abbrev pub opened_form : OpenForm → Form
opened_form opens.Direct = direct
opened_form (opens.Mms size) = mms size
opened_form opens.Wire = dialling []

-- and after a piece, if it is one of a stream
abbrev pub fed_form : Wired → List ℕ → Option (List ℕ) → Form
fed_form w octets None = form_of w octets
fed_form w octets (Some piece) = form_of (wired_through (events_behind octets piece) (refusal_behind octets piece) w) (octets ++ piece)

abbrev pub form_fed : Form → Option (List ℕ) → Form
form_fed (dialling octets) piece = fed_form Dialling octets piece
form_fed (wire line octets) piece = fed_form (On line) octets piece
form_fed form piece = form

-- what association a is after a line
abbrev pub form_behind : ℕ → RecLine → Form → Form
form_behind a (lines.Open b form) was = if b.0 == a then opened_form form else was
form_behind a (lines.Piece b hex) was = if b.0 == a then form_fed was (piece_at hex) else was
form_behind a (lines.Lost b) was = if b.0 == a then shut else was
form_behind a _ was = was

-- ---- what the program keeps of it: of a stream the stack's own state, and not its octets

-- but for these
abbrev pub plain : programs.Form → Form
plain kept.Shut = shut
plain kept.Direct = direct
plain (kept.Mms size) = mms size
plain (kept.Dialling upper) = dialling []
plain (kept.Wire line upper) = wire line []

-- it stands for the association: a stack for the octets of its stream
abbrev pub Stands : programs.Form → Form → Type 0
Stands kept.Shut shut = Unit {0}
Stands kept.Direct direct = Unit {0}
Stands (kept.Mms size) (mms n) = size ≡ n
Stands (kept.Dialling upper) (dialling octets) = (events : List Event) × StandsFor upper octets events
Stands (kept.Wire line upper) (wire l octets) = (line ≡ l) × (events : List Event) × StandsFor upper octets events
Stands _ _ = ⊥

-- PDUs have a size of 1024 to 65000 octets, and a line is one that was agreed
abbrev pub HasShape : programs.Form → Type 0
HasShape form = IsShape (shape_of (plain form))

-- and a stack stands for the octets of some stream
abbrev pub IsSized : programs.Form → Type 0
IsSized form = HasShape form × (f : Form) × Stands form f
