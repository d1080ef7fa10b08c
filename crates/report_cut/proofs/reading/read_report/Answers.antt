-- why `reading::read_report` answers as its contract says
use Rattle.std.proofs.Common.{arith}
use Rattle.ber_grammar.proofs.ReaderLaws.{reads_or_memory_from}
use Rattle.report_cut.specs.Part.{IsReportPart, IsPartRefused}
use Rattle.report_cut.specs.PartReading.{fault_of, part_at}
use Rattle.report_cut.proofs.PartLaws.{part_exact}
use Rattle.report_cut.proofs.reading.read_report.Goals as goal

pub returns-clause-reads : goal.returns-clause-reads
returns-clause-reads c =
    let input = c.args.input.now in
    reads_or_memory_from fault_of (λ p. p) _ (part_at input) (IsReportPart input) (IsPartRefused input) (part_exact input (λ i. omega (arith, c.type_inv.input i))) c.read_part.ensures
