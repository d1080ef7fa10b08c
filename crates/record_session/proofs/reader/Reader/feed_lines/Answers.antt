-- why `reader::Reader::feed_lines` answers as its contract says
use Rattle.std.proofs.Common.{◌++◌, ap, ◌∙◌}
use Rattle.std.specs.Prelude.{None, Some}
use Rattle.record_session.proofs.Feeding.{feeds-lines}
use Rattle.record_session.proofs.reader.Reader.feed_lines.Goals as goal

pub returns-in-Some-clause-feeds : goal.returns-in-Some-clause-feeds
returns-in-Some-clause-feeds c =
    feeds-lines (Some c.in-Some.stop) c.args.self.now _ c.args.piece.now c.in_ok-stop.rest.now c.args.out.now.items c.read_lines.new.out.items c.requires.none (rw c.in-Some.is at c.in_ok-stop.ensures.read) (λ e. cc)

pub returns-in_ok-extend_from_slice-in-None-clause-feeds : goal.returns-in_ok-extend_from_slice-in-None-clause-feeds
returns-in_ok-extend_from_slice-in-None-clause-feeds c =
    feeds-lines None c.args.self.now _ c.args.piece.now c.in_ok-stop.rest.now c.args.out.now.items c.read_lines.new.out.items c.requires.none (rw c.in-None.is at c.in_ok-stop.ensures.read)
    (λ e. c.in_ok-extend_from_slice-in-None.ensures.items ∙ ap (λ h. h ++ c.in_ok-stop.rest.now) c.requires.none)
