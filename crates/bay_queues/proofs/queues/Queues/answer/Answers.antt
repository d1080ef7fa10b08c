-- why `queues::Queues::answer` answers as its contract says
use Rattle.std.proofs.Common.{◌≡◌, List, [], ◌∷◌, length, map, true, false, sym, subst, ap, ◌∙◌}
use Rattle.std.specs.Prelude.{OnOk, Ok, Err, nat_le, ◌&&◌, if◌then◌else◌}
use Rattle.sv_base.specs.declared.numbers.CtlNo.{CtlNo}
use Rattle.assoc_table.specs.declared.waiting.Waiting.TheVariants.{Reply, Termination}
use Rattle.assoc_table.specs.Seats.{replies}
use Rattle.assoc_table.specs.Tables.{row_of, extended}
use Rattle.bay_queues.specs.Calling.{AreFree, AreTests}
use Rattle.bay_queues.specs.Queued.{Queued, IsQueued}
use Rattle.bay_queues.specs.Taken.{reply_and}
use Rattle.bay_queues.proofs.TestLaws.{free-tests, row-more, count-more, extended-more, queued-reply}
use Rattle.bay_queues.proofs.queues.Queues.answer.Goals as goal

pub end_tests-requires-clause-count : goal.end_tests-requires-clause-count
end_tests-requires-clause-count c =
    let rows = c.self.inside.associations in
    let a = c.args.a.0 in
    let o = c.args.output in
    let room : nat_le 16 (replies (row_of rows a).waiting) ≡ false = subst (λ (q : Queued). nat_le 16 (replies (row_of q.rows a).waiting) ≡ false) (sym c.self.view_is) c.requires.room in
    let put : c.queue.new.self ≡ extended rows a (Reply o ∷ []) = subst (λ r. OnOk r (c.queue.new.self ≡ extended rows a (Reply o ∷ []))) (c.queue.ensures.answer ∙ ap (λ b. if true && b then Err (record {}) else Ok tt) room) c.queue.ensures.queued in
    ap length put ∙ count-more rows a (Reply o ∷ []) c.self.invariant.count

pub end_tests-requires-clause-free : goal.end_tests-requires-clause-free
end_tests-requires-clause-free c =
    let rows = c.self.inside.associations in
    let t = c.self.inside.controls in
    let a = c.args.a.0 in
    let o = c.args.output in
    let ks : List CtlNo = c.args.tests.now in
    let room : nat_le 16 (replies (row_of rows a).waiting) ≡ false = subst (λ (q : Queued). nat_le 16 (replies (row_of q.rows a).waiting) ≡ false) (sym c.self.view_is) c.requires.room in
    let put : c.queue.new.self ≡ extended rows a (Reply o ∷ []) = subst (λ r. OnOk r (c.queue.new.self ≡ extended rows a (Reply o ∷ []))) (c.queue.ensures.answer ∙ ap (λ b. if true && b then Err (record {}) else Ok tt) room) c.queue.ensures.queued in
    let are : AreTests (record { rows = rows; table = t }) a ks = subst (λ (q : Queued). AreTests q a ks) (sym c.self.view_is) c.requires.tests in
    subst (λ r. AreFree (row_of r a).waiting ks) (sym put)
    (free-tests (record { rows = rows; table = t }) a ks o (row_of (extended rows a (Reply o ∷ [])) a) (row-more rows a (Reply o ∷ []) c.self.invariant.count c.requires.number) c.self.invariant.few are)

pub invariant_of-self : goal.invariant_of-self
invariant_of-self c =
    let rows = c.self.inside.associations in
    let t = c.self.inside.controls in
    let a = c.args.a.0 in
    let o = c.args.output in
    let ks : List CtlNo = c.args.tests.now in
    let room : nat_le 16 (replies (row_of rows a).waiting) ≡ false = subst (λ (q : Queued). nat_le 16 (replies (row_of q.rows a).waiting) ≡ false) (sym c.self.view_is) c.requires.room in
    let put : c.queue.new.self ≡ extended rows a (Reply o ∷ []) = subst (λ r. OnOk r (c.queue.new.self ≡ extended rows a (Reply o ∷ []))) (c.queue.ensures.answer ∙ ap (λ b. if true && b then Err (record {}) else Ok tt) room) c.queue.ensures.queued in
    let are : AreTests (record { rows = rows; table = t }) a ks = subst (λ (q : Queued). AreTests q a ks) (sym c.self.view_is) c.requires.tests in
    let all = c.end_tests.ensures ∙ (ap (λ r. extended r a (map (λ k. Termination k true) ks)) put ∙ extended-more rows a (Reply o ∷ []) (map (λ k. Termination k true) ks) c.self.invariant.count c.requires.number) in
    subst (λ r. IsQueued r t) (sym all) (queued-reply (record { rows = rows; table = t }) a o ks c.requires.number are c.self.invariant)

pub returns : goal.returns
returns c =
    let rows = c.self.inside.associations in
    let t = c.self.inside.controls in
    let a = c.args.a.0 in
    let o = c.args.output in
    let ks : List CtlNo = c.args.tests.now in
    let room : nat_le 16 (replies (row_of rows a).waiting) ≡ false = subst (λ (q : Queued). nat_le 16 (replies (row_of q.rows a).waiting) ≡ false) (sym c.self.view_is) c.requires.room in
    let put : c.queue.new.self ≡ extended rows a (Reply o ∷ []) = subst (λ r. OnOk r (c.queue.new.self ≡ extended rows a (Reply o ∷ []))) (c.queue.ensures.answer ∙ ap (λ b. if true && b then Err (record {}) else Ok tt) room) c.queue.ensures.queued in
    let all = c.end_tests.ensures ∙ (ap (λ r. extended r a (map (λ k. Termination k true) ks)) put ∙ extended-more rows a (Reply o ∷ []) (map (λ k. Termination k true) ks) c.self.invariant.count c.requires.number) in
    let done : record { rows = c.end_tests.new.associations; table = t } ≡ record { rows = extended rows a (reply_and o ks); table = t } = ap (λ r. record { rows = r; table = t }) all in
    subst (λ (q : Queued). record { rows = c.end_tests.new.associations; table = t } ≡ record q { rows = extended q.rows a (reply_and o ks) }) c.self.view_is done
