-- why `bay::Bay::answer_members` answers as its contract says
use Rattle.std.proofs.Common.{sym, subst}
use Rattle.bay_model.specs.Singles.{writes_of}
use Rattle.bay_core.specs.Asked.{node_numbers}
use Rattle.bay_core.specs.Put.{IsOpenAt}
use Rattle.bay_core.specs.State.{State}
use Rattle.bay_core.proofs.AnswerLaws.{writes-written}
use Rattle.bay_core.proofs.bay.Bay.answer_members.Goals as goal

pub write_members-requires-clause-is_open : goal.write_members-requires-clause-is_open
write_members-requires-clause-is_open c = subst (λ (t : State). IsOpenAt t c.args.a.0) (sym c.arrive.ensures.state) c.requires.is_open

pub returns-clause-written : goal.returns-clause-written
returns-clause-written c =
    writes-written c.args.self.now c.arrive.new.self c.write_members.new.self c.args.moment c.args.a.0 (writes_of (node_numbers c.args.nodes.now) c.args.values.now) c.write_members.new.codes.items c.arrive.ensures.stands c.write_members.ensures.written
