-- why `transport::take_whole` answers as its contract says
use Rattle.std.proofs.Common.{◌≡◌, ◌++◌, inl}
use Rattle.std.specs.Option.{option_to_list}
use Rattle.tpkt_cotp.specs.Stream.{gift, Advances}
use Rattle.tpkt_cotp.proofs.StreamLaws.{Took-none, partial_none}
use Rattle.tpkt_cotp.proofs.StepLaws.{advances_partial, advances_one, took_step}
use Rattle.tpkt_cotp.proofs.transport.take_whole.Goals as goal

pub loop-rest-init : goal.loop-rest-init
loop-rest-init c = record { took = rw c.requires (Took-none _ _ _); partial = rw c.requires partial_none; one = inl c.requires }

pub loop-rest-preserved : goal.loop-rest-preserved
loop-rest-preserved c =
    let given : c.add.new.out ≡ c.loop-rest.out ++ option_to_list (gift c.in_ok-taken.taken) = rw c.in_ok-add.was at c.add.ensures in
    let one : Advances c.loop-rest.state c.loop-rest.held c.loop-rest.rest.now c.begin.new.state c.begin.new.held c.in_ok-taken.taken c.in_ok-taken.after.now = c.in_ok-taken.ensures in
    record {
      took = took_step _ _ c.begin.new.state _ c.loop-rest.held c.loop-rest.rest.now _ _ _ _ _ c.in_ok-taken.taken c.loop-rest.invariant.took one given;
      partial = advances_partial c.loop-rest.state c.begin.new.state c.loop-rest.held c.loop-rest.rest.now _ c.in_ok-taken.after.now c.in_ok-taken.taken one;
      one = advances_one c.loop-rest.state c.begin.new.state c.loop-rest.held c.loop-rest.rest.now _ _ c.in_ok-taken.taken one;
    }
