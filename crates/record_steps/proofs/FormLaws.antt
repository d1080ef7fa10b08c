-- What a program keeps of an association, and what a line that is no piece says by that alone.
use Rattle.std.proofs.Common.{◌≡◌, ◌==◌, ℕ, false, List, [], refl, ap, subst, ◌∙◌}
use Rattle.std.specs.Prelude.{Option, None, Some, if◌then◌else◌}
use Rattle.sv_base.specs.declared.config.Config.{Config}
use Rattle.sv_base.specs.declared.numbers.AssocNo.{AssocNo}
use Rattle.sv_base.specs.declared.components.Comp.{Comp}
use Rattle.sv_base.specs.ComponentTable.{comp_named}
use Rattle.name_leaves.specs.Numbers.{number_in}
use Rattle.object_model.specs.References.{block_references}
use Rattle.osi_stack.specs.Sides.{StandsFor}
use Rattle.osi_stack.specs.declared.events.Event.{Event}
use Rattle.osi_stack.specs.declared.events.Line.{Line}
use Rattle.osi_stack.specs.declared.upper.Upper.{Upper}
use Rattle.run_record.specs.declared.line.RecLine.{RecLine}
use Rattle.run_record.specs.declared.line.RecLine.TheVariants as lines
use Rattle.record_steps.specs.declared.form.Form as programs
use Rattle.record_steps.specs.declared.form.Form.TheVariants as kept
use Rattle.record_steps.specs.Forms.{Form, shut, direct, mms, dialling, wire, is_shut, is_direct, shape_of, plain, Stands, opened_form, form_behind, form_fed}
use Rattle.record_steps.specs.Resolved.{association_of, opened_as, written_as, lost_as, sent_as, told_of}
use Rattle.record_steps.specs.Streams.{piece_at}
use Rattle.record_steps.specs.Telling.{IsPlain}

-- without the octets of its stream
abbrev pub emptied : Form → Form
emptied shut = shut
emptied direct = direct
emptied (mms size) = mms size
emptied (dialling octets) = dialling []
emptied (wire line octets) = wire line []

-- ---- what stands for an association is what it is, but for the octets

pub at-shut : (f : Form) → Stands kept.Shut f → (P : Form → Type 0) → P shut → P f
at-shut shut s P p = p
at-shut direct s P p = absurd s
at-shut (mms n) s P p = absurd s
at-shut (dialling octets) s P p = absurd s
at-shut (wire line octets) s P p = absurd s

pub at-direct : (f : Form) → Stands kept.Direct f → (P : Form → Type 0) → P direct → P f
at-direct direct s P p = p
at-direct shut s P p = absurd s
at-direct (mms n) s P p = absurd s
at-direct (dialling octets) s P p = absurd s
at-direct (wire line octets) s P p = absurd s

pub at-mms : (size : ℕ) (f : Form) → Stands (kept.Mms size) f → (P : Form → Type 0) → P (mms size) → P f
at-mms size (mms n) s P p = subst (λ (n : ℕ). P (mms n)) s p
at-mms size shut s P p = absurd s
at-mms size direct s P p = absurd s
at-mms size (dialling octets) s P p = absurd s
at-mms size (wire line octets) s P p = absurd s

-- one of a stream is one whose octets the stack stands for
pub of-dialling : (u : Upper) (f : Form) → Stands (kept.Dialling u) f → (P : Form → Type 0) → ((octets : List ℕ) (events : List Event) → StandsFor u octets events → P (dialling octets)) → P f
of-dialling u (dialling octets) s P go = go octets s.0 s.1
of-dialling u shut s P go = absurd s
of-dialling u direct s P go = absurd s
of-dialling u (mms n) s P go = absurd s
of-dialling u (wire line octets) s P go = absurd s

pub of-wire : (l : Line) (u : Upper) (f : Form) → Stands (kept.Wire l u) f → (P : Form → Type 0) → ((octets : List ℕ) (events : List Event) → StandsFor u octets events → P (wire l octets)) → P f
of-wire l u (wire line octets) s P go = subst (λ (l : Line). P (wire l octets)) s.0 (go octets s.1 s.2)
of-wire l u shut s P go = absurd s
of-wire l u direct s P go = absurd s
of-wire l u (mms n) s P go = absurd s
of-wire l u (dialling octets) s P go = absurd s

pub stands-plain : (p : programs.Form) (f : Form) → Stands p f → plain p ≡ emptied f
stands-plain kept.Shut f s = at-shut f s (λ f. shut ≡ emptied f) refl
stands-plain kept.Direct f s = at-direct f s (λ f. direct ≡ emptied f) refl
stands-plain (kept.Mms size) f s = at-mms size f s (λ f. mms size ≡ emptied f) refl
stands-plain (kept.Dialling u) f s = of-dialling u f s (λ f. dialling [] ≡ emptied f) (λ octets events h. refl)
stands-plain (kept.Wire l u) f s = of-wire l u f s (λ f. wire l [] ≡ emptied f) (λ octets events h. refl)

-- ---- the octets of a stream make no difference

shape-emptied : (f : Form) → shape_of (emptied f) ≡ shape_of f
shape-emptied shut = refl
shape-emptied direct = refl
shape-emptied (mms size) = refl
shape-emptied (dialling octets) = refl
shape-emptied (wire line octets) = refl

shut-emptied : (f : Form) → is_shut (emptied f) ≡ is_shut f
shut-emptied shut = refl
shut-emptied direct = refl
shut-emptied (mms size) = refl
shut-emptied (dialling octets) = refl
shut-emptied (wire line octets) = refl

direct-emptied : (f : Form) → is_direct (emptied f) ≡ is_direct f
direct-emptied shut = refl
direct-emptied direct = refl
direct-emptied (mms size) = refl
direct-emptied (dialling octets) = refl
direct-emptied (wire line octets) = refl

module _ (c : Config) (a : AssocNo) where
  sent-emptied : (hex : List ℕ) (f : Form) → sent_as c (emptied f) a hex ≡ sent_as c f a hex
  sent-emptied hex shut = refl
  sent-emptied hex direct = refl
  sent-emptied hex (mms size) = refl
  sent-emptied hex (dialling octets) = refl
  sent-emptied hex (wire line octets) = refl

  lost-emptied : (f : Form) → lost_as c (emptied f) a ≡ lost_as c f a
  lost-emptied shut = refl
  lost-emptied direct = refl
  lost-emptied (mms size) = refl
  lost-emptied (dialling octets) = refl
  lost-emptied (wire line octets) = refl

  written-emptied : (block : Option ℕ) (comp : Option Comp) (word : List ℕ) (f : Form) → written_as c (emptied f) a block comp word ≡ written_as c f a block comp word
  written-emptied (Some b) (Some comp) word f = by f where
    by : (f : Form) → written_as c (emptied f) a (Some b) (Some comp) word ≡ written_as c f a (Some b) (Some comp) word
    by shut = refl
    by direct = refl
    by (mms size) = refl
    by (dialling octets) = refl
    by (wire line octets) = refl
  written-emptied (Some b) None word f = refl
  written-emptied None (Some comp) word f = refl
  written-emptied None None word f = refl

told-emptied : (c : Config) (f : Form) (line : RecLine) → IsPlain line → told_of c (emptied f) line ≡ told_of c f line
unfolding told_of
told-emptied c f lines.Skip h = refl
told-emptied c f (lines.At moment) h = refl
told-emptied c f (lines.Open a asked) h = by f where
  by : (f : Form) → opened_as c (emptied f) a asked ≡ opened_as c f a asked
  by shut = refl
  by direct = refl
  by (mms size) = refl
  by (dialling octets) = refl
  by (wire line octets) = refl
told-emptied c f (lines.Write a block comp value) h = written-emptied c a (number_in (block_references c) block) (comp_named comp) value f
told-emptied c f (lines.Pdu a hex) h = sent-emptied c a hex f
told-emptied c f (lines.Piece a hex) h = absurd h
told-emptied c f (lines.Take a) h = refl
told-emptied c f (lines.Lost a) h = lost-emptied c a f
told-emptied c f (lines.Set pairs) h = refl
told-emptied c f (lines.Done control well) h = refl
told-emptied c f (lines.Block control on) h = refl
told-emptied c f lines.Tick h = refl
told-emptied c f lines.End h = refl

pub told-plain : (c : Config) (p : programs.Form) (f : Form) (line : RecLine) → Stands p f → IsPlain line → told_of c (plain p) line ≡ told_of c f line
told-plain c p f line s is = ap (λ f. told_of c f line) (stands-plain p f s) ∙ told-emptied c f line is

pub shape-plain : (p : programs.Form) (f : Form) → Stands p f → shape_of (plain p) ≡ shape_of f
shape-plain p f s = ap shape_of (stands-plain p f s) ∙ shape-emptied f

-- ---- a line leaves the associations that it doesn't name

pub form-elsewhere : (line : RecLine) (b : ℕ) (f : Form) → (association_of line == b) ≡ false → form_behind b line f ≡ f
form-elsewhere lines.Skip b f h = refl
form-elsewhere (lines.At moment) b f h = refl
form-elsewhere (lines.Open a asked) b f h = ap (λ x. if x then opened_form asked else f) h
form-elsewhere (lines.Write a block comp value) b f h = refl
form-elsewhere (lines.Pdu a hex) b f h = refl
form-elsewhere (lines.Piece a hex) b f h = ap (λ x. if x then form_fed f (piece_at hex) else f) h
form-elsewhere (lines.Take a) b f h = refl
form-elsewhere (lines.Lost a) b f h = ap (λ x. if x then shut else f) h
form-elsewhere (lines.Set pairs) b f h = refl
form-elsewhere (lines.Done control well) b f h = refl
form-elsewhere (lines.Block control on) b f h = refl
form-elsewhere lines.Tick b f h = refl
form-elsewhere lines.End b f h = refl
