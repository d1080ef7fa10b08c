-- why `reader::Reader::feed` answers as its contract says
use Rattle.std.proofs.Common.{[], ◌∷◌, ◌++◌, refl, subst, ◌∙◌}
use Rattle.std.specs.Prelude.{None, Some}
use Rattle.record_session.specs.Sessions.{Moves}
use Rattle.record_session.proofs.Feeding.{holds-on, feeds-stop, feeds-then}
use Rattle.std.proofs.lemmas.Result.{IfOk-weaker}
use Rattle.record_session.proofs.reader.Reader.feed.Goals as goal

pub returns-in_default-clause-feeds : goal.returns-in_default-clause-feeds
returns-in_default-clause-feeds c = holds-on c.args.self.now _ c.args.piece.now c.args.out.now.items refl c.in_ok-extend_from_slice.ensures.items

pub returns-in-Some-2-clause-feeds : goal.returns-in-Some-2-clause-feeds
returns-in-Some-2-clause-feeds c =
    let line = c.deref.ensures.value ∙ c.in_ok-extend_from_slice-2.ensures.items in
    feeds-stop c.in-Some-2.stop c.args.self.now _ c.args.piece.now c.in-Some.end.now c.in-Some.after.now c.args.out.now.items c.read.new.out.items c.in-Some.ensures.0
    (subst (λ l. Moves (Some c.in-Some-2.stop) c.args.self.now.session c.read.new.self (l ++ 10 ∷ []) c.args.out.now.items c.read.new.out.items) line (rw c.in-Some-2.is at c.in_ok-stop.ensures.moves))

pub returns-clause-feeds : goal.returns-clause-feeds
returns-clause-feeds c =
    let line = c.deref.ensures.value ∙ c.in_ok-extend_from_slice-2.ensures.items in
    IfOk-weaker c.feed_lines-2.result _ _ (λ stop g. feeds-then stop c.args.self.now _ c.feed_lines-2.new.self c.args.piece.now c.in-Some.end.now c.in-Some.after.now c.args.out.now.items c.read.new.out.items c.feed_lines-2.new.out.items c.in-Some.ensures.0
    (subst (λ l. Moves None c.args.self.now.session c.read.new.self (l ++ 10 ∷ []) c.args.out.now.items c.read.new.out.items) line (rw c.in_default-2.is at c.in_ok-stop.ensures.moves)) c.clear.ensures.items g)
    c.feed_lines-2.ensures.feeds
