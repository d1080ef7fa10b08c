-- why `reply_view::reply` answers as its contract says
use Rattle.std.proofs.Common.{arith}
use Rattle.ber_grammar.specs.Place.{piece}
use Rattle.mms_pdu.specs.ReplyView.{reply_of}
use Rattle.mms_pdu.proofs.ReplyAgainLaws.{reply_reads}
use Rattle.mms_pdu.proofs.ReplyPlaceLaws.{reply_placed}
use Rattle.mms_pdu.proofs.reply_view.reply.Goals as goal

pub returns-clause-reads : goal.returns-clause-reads
returns-clause-reads c = reply_reads reply_of _ (piece c.args.bytes) (λ i. omega (arith, c.type_inv.bytes i)) c.read_reply.ensures

pub returns-clause-places : goal.returns-clause-places
returns-clause-places c = reply_placed c.args.bytes _ c.read_reply.ensures
