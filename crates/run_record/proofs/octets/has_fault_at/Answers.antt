-- why `octets::has_fault_at` answers as its contract says
use Rattle.std.proofs.Common.{◌+◌, refl, arith}
use Rattle.run_record.proofs.OctetLaws.{both-told, one-told, told-to}
use Rattle.run_record.proofs.octets.has_fault_at.Goals as goal

pub loop-k-init : goal.loop-k-init
loop-k-init g c = (λ none k from to. absurd (omega arith), λ clear. refl)

pub loop-k-preserved : goal.loop-k-preserved
loop-k-preserved g c =
    let line = c.args.line.now in
    let i = c.args.at + c.loop-k.k in
    let one = told-to line c.is_fault-found.result i (i + 1) (c.args.at + (c.loop-k.k + 1)) (omega arith) (one-told line i c.is_fault-found.result c.is_fault-found.ensures) in
    both-told line c.args.at i i (c.args.at + (c.loop-k.k + 1)) c.loop-k.found c.is_fault-found.result (omega arith) (omega arith) (omega arith) c.loop-k.invariant one

pub returns : goal.returns
returns g c = told-to c.args.line.now c.loop-k.found c.args.at (c.args.at + c.loop-k.k) (c.args.at + g.row.N) (omega arith) c.loop-k.invariant
