-- why `element::first` answers as its contract says
use Rattle.std.proofs.Common.{arith}
use Rattle.ber_grammar.proofs.ElementLaws.{first_reads, first_shortens, first_below}
use Rattle.ber_view.proofs.SliceLaws.{first_slices}
use Rattle.ber_view.specs.View.{element}
use Rattle.ber_view.proofs.element.first.Goals as goal

pub returns-clause-reads : goal.returns-clause-reads
returns-clause-reads c = first_reads _ _ c.args.bytes.now c.read_first.ensures.exact

pub returns-clause-shorter : goal.returns-clause-shorter
returns-clause-shorter c = first_shortens (λ x. (element x.0, x.1.now)) _ c.args.bytes.now c.read_first.ensures.exact

pub returns-clause-places : goal.returns-clause-places
returns-clause-places c = first_slices c.args.bytes _ c.read_first.ensures.exact c.read_first.ensures.rest c.read_first.ensures.content

pub returns-clause-bound : goal.returns-clause-bound
returns-clause-bound c = first_below (λ x. (element x.0, x.1.now)) _ c.args.bytes.now (λ i. omega (arith, c.type_inv.bytes i)) c.read_first.ensures.exact
