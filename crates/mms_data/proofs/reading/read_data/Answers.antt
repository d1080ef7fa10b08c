-- why `reading::read_data` answers as its contract says
use Rattle.std.proofs.Common.{arith}
use Rattle.ber_grammar.proofs.ReaderLaws.{reads_or_memory_from}
use Rattle.sv_base.specs.Seen.{seen_of}
use Rattle.mms_data.specs.Grammar.{IsSpelled, IsDataRefused}
use Rattle.mms_data.specs.Reading.{fault_of, read_at}
use Rattle.mms_data.proofs.GrammarLaws.{read_exact}
use Rattle.mms_data.proofs.reading.read_data.Goals as goal

pub returns-clause-reads : goal.returns-clause-reads
returns-clause-reads c =
    let input = c.args.bytes.now in
    reads_or_memory_from fault_of seen_of _ (read_at input) (IsSpelled input) (IsDataRefused input) (read_exact input (λ i. omega (arith, c.type_inv.bytes i))) c.read_one.ensures
