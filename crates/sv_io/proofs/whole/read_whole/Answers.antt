-- why `whole::read_whole` answers as its contract says
use Rattle.std.proofs.Common.{arith}
use Rattle.sv_io.proofs.ReadWhole.{taken-more}
use Rattle.sv_io.proofs.whole.read_whole.Goals as goal

pub returns-in-Err-clause-taken : goal.returns-in-Err-clause-taken
returns-in-Err-clause-taken g c = taken-more (g.S.Source.left c.args.source.now) (g.S.Source.left c.loop-piece.source) (g.S.Source.left c.read_piece.new.source) c.loop-piece.octets.items c.args.most _
    c.loop-piece.invariant.read c.read_piece.ensures.taken (omega (arith, c.min-room.ensures))

pub returns-then-is_err-clause-taken : goal.returns-then-is_err-clause-taken
returns-then-is_err-clause-taken g c = taken-more (g.S.Source.left c.args.source.now) (g.S.Source.left c.loop-piece.source) (g.S.Source.left c.read_piece.new.source) c.loop-piece.octets.items c.args.most _
    c.loop-piece.invariant.read c.read_piece.ensures.taken (omega (arith, c.min-room.ensures))
