-- Values of lines, as they are read.
use Rattle.std.proofs.Common.{◌≡◌, ◌∷◌, [], refl}
use Rattle.std.specs.Prelude.{codes, pos, None, Some, true, false}
use Rattle.std.specs.Fmt.{digits}
use Rattle.sv_base.specs.declared.value.Value.TheVariants as values
use Rattle.sv_base.specs.declared.components.Comp.TheVariants as comps
use Rattle.text_words.specs.Numbers.{number_at}
use Rattle.record_values.specs.Shapes.{marked_at, shape_at}

-- values by their shapes
truth : shape_at comps.OptFlds (codes "T") ≡ Some (values.Bool true)
unfolding shape_at
truth = refl

text : shape_at comps.RptEna (codes "'a") ≡ Some (values.Text (97 ∷ []))
unfolding shape_at marked_at
text = refl

upper_case : shape_at comps.EntryID (codes "x0F") ≡ None
unfolding shape_at marked_at
upper_case = refl

odd : shape_at comps.EntryID (codes "x0") ≡ None
unfolding shape_at marked_at
odd = refl

bits : shape_at comps.TrgOps (codes "01") ≡ Some (values.Bits (false ∷ true ∷ []))
unfolding shape_at marked_at
bits = refl

seconds : shape_at comps.ResvTms (codes "5") ≡ Some (values.Int (pos 5))
unfolding shape_at marked_at number_at digits
seconds = refl

unsigned : shape_at comps.BufTm (codes "5") ≡ Some (values.Uint 5)
unfolding shape_at marked_at number_at digits
unsigned = refl
