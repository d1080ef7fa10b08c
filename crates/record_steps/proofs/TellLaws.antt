-- What a line that is no piece says and leaves, and what a piece comes to by what its association is.
use Rattle.std.proofs.Common.{◌≡◌, ℕ, List, [], ap, ◌∙◌, refl}
use Rattle.sv_base.specs.declared.config.Config.{Config}
use Rattle.sv_base.specs.declared.numbers.AssocNo.{AssocNo}
use Rattle.bay_model.specs.declared.step.Step.{Step}
use Rattle.run_record.specs.declared.line.RecLine.{RecLine}
use Rattle.run_record.specs.declared.line.RecLine.TheVariants as lines
use Rattle.record_steps.specs.declared.form.Form as programs
use Rattle.record_steps.specs.declared.heard.Heard.{Heard}
use Rattle.record_steps.specs.declared.telling.Told.{Told}
use Rattle.record_steps.specs.Forms.{Form, plain, Stands}
use Rattle.record_steps.specs.Resolved.{told_of, fed_as}
use Rattle.record_steps.specs.Telling.{telling, IsPlain}
use Rattle.record_steps.proofs.FormLaws.{told-plain}

-- ---- a line that is no piece

pub tells-plainly : (c : Config) (p : programs.Form) (f : Form) (line : RecLine) (told : Told) (step : Step) (heard : List Heard) → IsPlain line → Stands p f → heard ≡ []
    → telling told step [] ≡ told_of c (plain p) line → telling told step heard ≡ told_of c f line
tells-plainly c p f line told step heard is s none tells = ap (telling told step) none ∙ (tells ∙ told-plain c p f line s is)

-- and one that is a piece
pub fed-told : (c : Config) (f : Form) (a : AssocNo) (hex : List ℕ) → told_of c f (lines.Piece a hex) ≡ fed_as c f a hex
unfolding told_of
fed-told c f a hex = refl
