-- why `sendable::can_end` answers as its contract says
use Rattle.std.proofs.Common.{◌≡◌, ◌≤◌, length, sym, ap, ◌∙◌, arith}
use Rattle.std.specs.Prelude.{Some, slice_get}
use Rattle.std.proofs.lemmas.Bool.Decides.{nat_tests}
use Rattle.sv_base.specs.Data.{data_of}
use Rattle.sv_base.specs.declared.config.Config.{Config}
use Rattle.output_pdus.proofs.SendableLaws.{ends}
use Rattle.output_pdus.proofs.sendable.can_end.Goals as goal
use Rattle.output_pdus.proofs.sendable.can_end.Goals.{then-has_short_name, else-has_short_name, then-is_short_where_there, else-is_short_where_there}

pub returns-then-is_writable : goal.returns-then-is_writable
returns-then-is_writable c = λ low.
    let t = c.args.termination.now in
    let there : slice_get c.args.model.now.controls t.control.0 ≡ Some c.in-Some.control.now = sym (c.in-Some.ensures ∙ ap (λ (m : Config). slice_get m.controls t.control.0) c.config.ensures.same) in
    let oper : length (data_of t.oper) ≤ 300 = grind (arith, nat_tests, c.data_len.ensures) in
    elim c.if-is_short_where_there.branch [
      | then-is_short_where_there w ↦ elim c.if-has_short_name.branch [
        | then-has_short_name v ↦ ends c.args.model.now t c.in-Some.control.now there (c.has_short_name.ensures v.if-has_short_name.true) (v.is_short_where_there.ensures (sym v.value-is ∙ w.if-is_short_where_there.true))
            (sym w.is_writable.ensures ∙ (sym w.value-is ∙ c.if-is_writable.true)) oper
        | else-has_short_name v ↦ absurd cc
      ]
      | else-is_short_where_there w ↦ absurd cc
    ]
