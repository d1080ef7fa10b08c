-- why `replies::Replies::reply` answers as its contract says
use Rattle.std.proofs.Common.{◌∙◌}
use Rattle.bay_replies.proofs.ReplyLaws.{replied-told}
use Rattle.bay_replies.proofs.replies.Replies.reply.Goals as goal

pub returns : goal.returns
returns c = λ a n m past stand later.
    c.in_ok-reply.ensures ∙ replied-told c.args.self.now c.requires.served a n m past stand later c.ms-last.ensures.range.1 c.args.size c.args.service.now c.requires.reading
