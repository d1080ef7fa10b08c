-- why `queues::Queues::operate` answers as its contract says
use Rattle.std.proofs.Common.{◌≡◌, ◌<◌, ◌++◌, length, map, true, sym, subst, ap, None}
use Rattle.bay_model.specs.Commands.{command_of, is_command}
use Rattle.bay_model.specs.Model.{operate}
use Rattle.bay_model.specs.Points.{called}
use Rattle.control_core.specs.Controls.{called_by}
use Rattle.control_core.specs.Tables.{control_at, after_deed}
use Rattle.bay_queues.specs.Calling.{IsDone, AreTests, enhanced_in}
use Rattle.bay_queues.specs.Heard.{Heard, ctl_no, tests_in}
use Rattle.bay_queues.specs.Queued.{Queued, IsQueued}
use Rattle.bay_queues.proofs.DueLaws.{idle-at-call, queued-begun, run}
use Rattle.bay_queues.proofs.TestLaws.{operate-tests}
use Rattle.bay_queues.proofs.queues.Queues.operate.Goals as goal

pub invariant_of-self-2 : goal.invariant_of-self-2
invariant_of-self-2 c =
    let rows = c.self.inside.associations in
    let t = c.self.inside.controls in
    let k = c.args.c.0 in
    let v = c.args.value.now in
    let below : k < length t.controls = subst (λ (q : Queued). k < length q.table.controls) (sym c.self.view_is) c.requires.control in
    let typed : is_command (control_at t.controls k).config.kind operate (command_of v) ≡ true = subst (λ (q : Queued). is_command (control_at q.table.controls k).config.kind operate (command_of v) ≡ true) (sym c.self.view_is) c.requires.typed in
    let none : run t k ≡ None = idle-at-call t.moment operate c.args.a.0 v (control_at t.controls k) typed c.in_ok-went.ensures.went in
    subst (λ u. IsQueued rows u) (sym c.in_ok-went.ensures.operated) (queued-begun rows t k (called_by t.moment operate c.args.a.0 v (control_at t.controls k)) below none c.self.invariant)

pub returns-clause-did : goal.returns-clause-did
returns-clause-did c =
    let rows = c.self.inside.associations in
    let t = c.self.inside.controls in
    let a = c.args.a.0 in
    let k = c.args.c.0 in
    let v = c.args.value.now in
    let h = c.args.heard.now in
    let below : k < length t.controls = subst (λ (q : Queued). k < length q.table.controls) (sym c.self.view_is) c.requires.control in
    let typed : is_command (control_at t.controls k).config.kind operate (command_of v) ≡ true = subst (λ (q : Queued). is_command (control_at q.table.controls k).config.kind operate (command_of v) ≡ true) (sym c.self.view_is) c.requires.typed in
    let none : run t k ≡ None = idle-at-call t.moment operate a v (control_at t.controls k) typed c.in_ok-went.ensures.went in
    let q : Queued = record { rows = rows; table = t } in
    let told = c.hear_oper.ensures (enhanced_in t) c.in_ok-went.ensures.effect in
    let is : after_deed (called a k operate v) t ≡ c.operate.new.self = sym c.in_ok-went.ensures.operated in
    subst (λ (p : Queued). IsDone a k operate v p (record { rows = rows; table = c.operate.new.self }) h c.hear_oper.new.heard) c.self.view_is (record {
      left = ap (λ u. record { rows = rows; table = u }) (sym is);
      heard = told;
      tests = λ are. subst (λ (g : Heard). AreTests (record { rows = rows; table = c.operate.new.self }) a g.tests) (sym told)
          (subst (λ u. AreTests (record { rows = rows; table = u }) a (h.tests ++ map ctl_no (tests_in (enhanced_in t) (called a k operate v)))) is (operate-tests q a k v below none c.requires.number c.self.invariant.due h.tests are));
    })
