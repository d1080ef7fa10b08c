-- why `words::is_word` answers as its contract says
use Rattle.std.proofs.Common.{arith}
use Rattle.command_line.proofs.OneWord.{is_word}
use Rattle.command_line.proofs.words.is_word.Goals as goal

pub returns-in-len1 : goal.returns-in-len1
returns-in-len1 c = is_word c.args.words.now c.word-item.result c.as_str.result.now c.args.wanted.now c.eq.result (omega arith) (omega arith) c.word-item.is c.as_str.ensures.value c.eq.ensures
