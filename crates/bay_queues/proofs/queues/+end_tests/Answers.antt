-- why `queues::end_tests` answers as its contract says
use Rattle.std.proofs.Common.{◌≡◌, List, [], ◌∷◌, length, map, drop, true, sym, subst, ap, ◌∙◌, arith}
use Rattle.std.specs.Prelude.{OnOk, slice_index_or}
use Rattle.sv_base.specs.declared.numbers.CtlNo.{CtlNo}
use Rattle.assoc_table.specs.declared.waiting.Waiting.TheVariants.{Termination}
use Rattle.assoc_table.specs.Seats.{Row}
use Rattle.assoc_table.specs.Tables.{row_of, extended}
use Rattle.bay_queues.specs.Calling.{AreFree}
use Rattle.bay_queues.proofs.TestLaws.{uncons, rest-is, free-new, free-rest, row-more, count-more, extended-more}
use Rattle.bay_queues.proofs.queues.+end_tests.Goals as goal

pub queue-requires-clause-new : goal.queue-requires-clause-new
queue-requires-clause-new t c =
    let ks : List CtlNo = c.args.tests.now in
    let k : CtlNo = slice_index_or ks 0 (record { 0 = 0 }) in
    let split : ks ≡ k ∷ drop 1 ks = uncons ks (record { 0 = 0 }) c.in-len1-up.len_at_least in
    free-new (row_of c.args.associations.now c.args.a.0).waiting k (drop 1 ks) (subst (AreFree (row_of c.args.associations.now c.args.a.0).waiting) split c.requires.free)

pub end_tests-requires : goal.end_tests-requires
end_tests-requires t c =
    let rows = c.args.associations.now in
    let a = c.args.a.0 in
    let ks : List CtlNo = c.args.tests.now in
    let k : CtlNo = slice_index_or ks 0 (record { 0 = 0 }) in
    let split : ks ≡ k ∷ drop 1 ks = uncons ks (record { 0 = 0 }) c.in-len1-up.len_at_least in
    let put : c.queue.new.self ≡ extended rows a (Termination k true ∷ []) = subst (λ r. OnOk r (c.queue.new.self ≡ extended rows a (Termination k true ∷ []))) c.queue.ensures.answer c.queue.ensures.queued in (
      omega (arith, c.in-len1-up.len_at_least),
      (
        c.requires.number,
        (
          ap length put ∙ count-more rows a (Termination k true ∷ []) c.requires.count,
          subst (AreFree (row_of c.queue.new.self a).waiting) (sym (rest-is ks)) (subst (λ r. AreFree (row_of r a).waiting (drop 1 ks)) (sym put)
              (subst (λ (r : Row). AreFree r.waiting (drop 1 ks)) (sym (row-more rows a (Termination k true ∷ []) c.requires.count c.requires.number)) (free-rest (row_of rows a).waiting k (drop 1 ks) (subst (AreFree (row_of rows a).waiting) split c.requires.free)))),
        ),
      ),
    )

pub returns-in-len1-up : goal.returns-in-len1-up
returns-in-len1-up t c =
    let rows = c.args.associations.now in
    let a = c.args.a.0 in
    let ks : List CtlNo = c.args.tests.now in
    let k : CtlNo = slice_index_or ks 0 (record { 0 = 0 }) in
    let split : ks ≡ k ∷ drop 1 ks = uncons ks (record { 0 = 0 }) c.in-len1-up.len_at_least in
    let put : c.queue.new.self ≡ extended rows a (Termination k true ∷ []) = subst (λ r. OnOk r (c.queue.new.self ≡ extended rows a (Termination k true ∷ []))) c.queue.ensures.answer c.queue.ensures.queued in
    c.end_tests.ensures
    ∙ (ap (λ js. extended c.queue.new.self a (map (λ j. Termination j true) js)) (rest-is ks)
    ∙ (ap (λ r. extended r a (map (λ j. Termination j true) (drop 1 ks))) put
    ∙ (extended-more rows a (Termination k true ∷ []) (map (λ j. Termination j true) (drop 1 ks)) c.requires.count c.requires.number ∙ ap (λ js. extended rows a (map (λ j. Termination j true) js)) (sym split))))
