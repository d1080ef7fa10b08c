-- why `bay::Bay::answer_set` answers as its contract says
use Rattle.std.proofs.Common.{◌≡◌, ◌∙◌, ℕ, List, Result, false, length, ap, sym, subst, arith}
use Rattle.std.specs.Prelude.{◌==◌}
use Rattle.std.proofs.lemmas.Bool.Decides.{nat_tests}
use Rattle.list_laws.proofs.Places.{equal-number}
use Rattle.sv_base.specs.Same.{values_of}
use Rattle.sv_base.specs.declared.numbers.NodeId.{NodeId}
use Rattle.sv_base.specs.declared.value.Value.{Value}
use Rattle.bay_model.specs.declared.reply.Reply.TheVariants as replies
use Rattle.bay_model.specs.declared.request.Service.TheVariants as services
use Rattle.bay_model.specs.Singles.{writes_of}
use Rattle.bay_core.specs.Asked.{AreMembersFit, AreWritten, IsAnswered, members_of, node_numbers, set_members}
use Rattle.bay_core.specs.Commanded.{AreNoCommands}
use Rattle.block_watch.specs.Served.{AreServedSets}
use Rattle.bay_core.specs.State.{State}
use Rattle.bay_core.proofs.AnswerLaws.{members-answered, members-fit, members-uncalled, no-set, other-count}
use Rattle.bay_core.proofs.bay.Bay.answer_set.Goals as goal

pub returns-in_default-clause-answered : goal.returns-in_default-clause-answered
returns-in_default-clause-answered c =
    no-set c.args.self.now c.arrive.new.self c.args.moment c.args.a.0 c.arrive.ensures.stands c.args.domain.now c.args.item.now c.args.values.now (sym (c.in_ok-nodes.ensures ∙ ap (λ (t : State). set_members t.book c.args.domain.now c.args.item.now) c.self.view_is) ∙ ap members_of c.in_default.is)

pub returns-then-len-clause-answered : goal.returns-then-len-clause-answered
returns-then-len-clause-answered c =
    let some = sym (c.in_ok-nodes.ensures ∙ ap (λ (t : State). set_members t.book c.args.domain.now c.args.item.now) c.self.view_is) ∙ ap members_of c.in-Some.is in
    let differs : (length c.in-Some.nodes.items == length (values_of c.args.values.now)) ≡ false = grind (arith, nat_tests, c.if-len.true, c.len.ensures, c.len-2.ensures, c.in-Some.nodes.ok) in
    other-count c.args.self.now c.arrive-then-len.new.self c.args.moment c.args.a.0 c.arrive-then-len.ensures.stands c.args.domain.now c.args.item.now c.args.values.now c.in-Some.nodes.items some differs

pub answer_members-requires : goal.answer_members-requires
answer_members-requires c =
    let some = sym (c.in_ok-nodes.ensures ∙ ap (λ (t : State). set_members t.book c.args.domain.now c.args.item.now) c.self.view_is) ∙ ap members_of c.in-Some.is in
    let same : length c.in-Some.nodes.items ≡ length (values_of c.args.values.now) = omega (arith, c.if-len.false, c.len-2.ensures, c.len.ensures, c.as_slice.ensures.len, ap (λ (l : List NodeId). length l) c.as_slice.ensures.value) in
    let served = subst (λ (t : State). AreServedSets t.config t.book) c.self.view_is c.self.invariant.furnished.booked.served in
    record {
      number = c.requires.number;
      is_open = c.requires.is_open;
      fit = subst (λ (ns : List NodeId). AreMembersFit c.args.self.now.config ns c.as_slice-2.result.now) (sym c.as_slice.ensures.value)
          (subst (λ (vs : List Value). AreMembersFit c.args.self.now.config c.in-Some.nodes.items vs) (sym c.as_slice-2.ensures.items)
          (members-fit c.args.self.now c.args.domain.now c.args.item.now c.args.values.now c.in-Some.nodes.items served c.requires.fits some (equal-number (length c.in-Some.nodes.items) (length (values_of c.args.values.now)) same)));
      plain = subst (AreNoCommands c.args.self.now.config) (sym c.as_slice.ensures.value) (members-uncalled c.args.self.now c.args.domain.now c.args.item.now c.in-Some.nodes.items served some);
    }

pub returns-clause-answered : goal.returns-clause-answered
returns-clause-answered c =
    let some = sym (c.in_ok-nodes.ensures ∙ ap (λ (t : State). set_members t.book c.args.domain.now c.args.item.now) c.self.view_is) ∙ ap members_of c.in-Some.is in
    let same : length c.in-Some.nodes.items ≡ length (values_of c.args.values.now) = omega (arith, c.if-len.false, c.len-2.ensures, c.len.ensures, c.as_slice.ensures.len, ap (λ (l : List NodeId). length l) c.as_slice.ensures.value) in
    let z = c.args.self.now in
    let u = c.answer_members.new.self in
    let codes = c.in_ok-codes.codes.items in
    let written = subst (λ (ns : List NodeId). AreWritten z u c.args.moment c.args.a.0 (writes_of (node_numbers ns) (values_of c.args.values.now)) codes) c.as_slice.ensures.value
    (subst (λ (vs : List Value). AreWritten z u c.args.moment c.args.a.0 (writes_of (node_numbers c.as_slice.result.now) vs) codes) c.as_slice-2.ensures.items c.in_ok-codes.ensures.written) in
    subst (λ (cs : List (Result (Unit {0}) ℕ)). IsAnswered z u c.args.moment c.args.a.0 (services.WriteSet c.args.domain.now c.args.item.now c.args.values.now) (replies.Wrote cs)) (sym c.from_vec.ensures)
    (members-answered z u c.args.moment c.args.a.0 c.args.domain.now c.args.item.now c.args.values.now c.in-Some.nodes.items codes some (equal-number (length c.in-Some.nodes.items) (length (values_of c.args.values.now)) same) written)
