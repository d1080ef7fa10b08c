-- why `acts::data` answers as its contract says
use Rattle.std.proofs.Common.{sym, ◌∙◌}
use Rattle.output_pdus.proofs.SendableLaws.{writable}
use Rattle.answer_text.proofs.acts.data.Goals as goal

pub write_data-requires : goal.write_data-requires
write_data-requires c =
    let w = writable c.args.value.now (sym c.is_writable.ensures ∙ c.if-not-is_writable.false) in
    record { no_other = w.0; depth = w.1; fractions = w.2 }
