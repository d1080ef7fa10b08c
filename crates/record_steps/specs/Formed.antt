-- What the associations are, where they stand by their numbers.
use Rattle.std.specs.Prelude.{ℕ, List, slice_index_or}
use Rattle.record_steps.specs.declared.form.Form.{Form}
use Rattle.record_steps.specs.declared.form.Form.TheVariants as forms

abbrev pub form_in : List Form → ℕ → Form
form_in fs a = slice_index_or fs a forms.Shut
