-- why `replies::Replies::answer` answers as its contract says
use Rattle.bay_replies.proofs.FitLaws.{members-there}
use Rattle.bay_replies.proofs.replies.Replies.answer.Goals as goal

pub read_set-requires : goal.read_set-requires
read_set-requires c = members-there c.args.self.now.model.now c.args.self.now.book.now c.requires.served.lent
