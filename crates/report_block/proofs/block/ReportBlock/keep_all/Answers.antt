-- why `block::ReportBlock::keep_all` answers as its contract says
use Rattle.std.proofs.Common.{◌∙◌, ℕ, List, ap, sym}
use Rattle.sv_base.specs.Filled.{Filled}
use Rattle.entry_ring.specs.Ringed.{Ringed, after_entry}
use Rattle.report_block.specs.Alls.{all_from}
use Rattle.report_block.proofs.PlainLaws.{octets-noted}
use Rattle.report_block.proofs.block.ReportBlock.keep_all.Goals as goal

pub returns-clause-kept : goal.returns-clause-kept
returns-clause-kept c =
    let part = c.args.self.now in
    let octets = c.as_slice.ensures ∙ (ap (λ (f : Filled ℕ). f.items) c.put_all.ensures ∙ sym (octets-noted c.args.store.now c.args.set.now (all_from c.args.reasons 1 c.args.set.now))) in
    ap (λ (r : Ringed). record part { ring = r }) (c.append.ensures ∙ ap (λ (o : List ℕ). after_entry part.ring (record { moment = c.args.now; step = c.args.step; kept = o })) octets)
