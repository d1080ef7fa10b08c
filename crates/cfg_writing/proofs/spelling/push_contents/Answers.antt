-- why `spelling::push_contents` answers as its contract says
use Rattle.std.proofs.Common.{rules}
use Rattle.sv_base.specs.Same.{values_of}
use Rattle.text_words.specs.Spelled.{type_word, flags_word}
use Rattle.cfg_writing.proofs.JoinLaws.{contents}
use Rattle.cfg_writing.proofs.spelling.push_contents.Goals as goal

pub returns : goal.returns
returns c = let attr = c.args.attr.now in
    contents c.args.out.now.items c.push_type.new.out.items c.push_word.new.out.items c.push_values.new.out.items (type_word attr.kind) (flags_word attr.dchg attr.qchg attr.dupd) (values_of attr.values)
    c.in_ok-push_type.ensures (search rules) (search rules)
