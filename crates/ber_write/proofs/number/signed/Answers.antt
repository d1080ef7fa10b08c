-- why `number::signed` answers as its contract says
use Rattle.std.proofs.Common.{ℕ, List, ap, sym, ◌∙◌, w64}
use Rattle.std.proofs.lemmas.Int.{to_z-of_z}
use Rattle.sv_base.specs.Data.{shortest}
use Rattle.ber_write.proofs.SameLaws.{word_is_shortest}
use Rattle.ber_write.proofs.number.signed.Goals as goal

pub returns : goal.returns
returns c = ap (λ (o : List ℕ). shortest o) (rw (to_z-of_z w64 c.args.value c.ranges.value) at c.to_be_bytes.ensures) ∙ sym (word_is_shortest c.args.value c.ranges.value.sfits)
