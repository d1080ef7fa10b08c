-- why `bay::Bay::write_members` answers as its contract says
use Rattle.std.proofs.Common.{◌≡◌, ◌∙◌, ◌∷◌, ◌++◌, List, Result, [], ℕ, length, take, ap, ap₂, sym, subst, arith, add-one, length-append, slice_index_or}
use Rattle.std.specs.Prelude.{true, is_some}
use Rattle.std.proofs.lemmas.List.{take_all}
use Rattle.std.proofs.lemmas.Option.{slice_get-get_or}
use Rattle.sv_base.specs.declared.numbers.NodeId.{NodeId}
use Rattle.sv_base.specs.declared.value.Value.{Value}
use Rattle.bay_model.specs.Singles.{Single, writes, writes_of}
use Rattle.assoc_table.specs.Seats.{Row}
use Rattle.assoc_table.specs.Tables.{row_of}
use Rattle.bay_core.specs.Asked.{AreWrites, node_numbers}
use Rattle.bay_core.proofs.SingleLaws.{kept-on, members-more, one-write-more}
use Rattle.block_watch.proofs.WatchLaws.{at-place}
use Rattle.bay_core.proofs.bay.Bay.write_members.Goals as goal

pub write_node-code-requires-clause-is_open : goal.write_node-code-requires-clause-is_open
write_node-code-requires-clause-is_open c = subst (λ (rows : List Row). is_some (row_of rows c.args.a.0).ends ≡ true) (sym c.loop-i.invariant.kept.rows) c.requires.is_open

pub loop-i-preserved : goal.loop-i-preserved
loop-i-preserved c =
    let ns = c.args.nodes.now in
    let vs = c.args.values.now in
    let i = c.loop-i.i in
    let n = slice_index_or ns i (record { 0 = 0 }) in
    let v = c.index-values-i.result in
    let inv = c.loop-i.invariant in
    let gotn = slice_get-get_or ns i (record { 0 = 0 }) c.loop-i-test.true in
    let gotv = at-place vs i v (omega (arith, c.loop-i-test.true, c.requires.fit.count)) c.index-values-i.is in
    let z = c.args.self.now in
    let u = c.write_node-code.new.self in
    let singles = ap (λ k. writes_of (node_numbers (take k ns)) (take k vs)) (add-one i) ∙ members-more ns vs i n v gotn gotv in
    record {
      kept = kept-on z c.loop-i.self u inv.kept c.write_node-code.ensures.kept;
      written = subst (λ (ss : List Single). AreWrites z u c.args.a.0 ss c.add_code.new.codes.items) (sym singles)
          (subst (λ (cs : List (Result (Unit {0}) ℕ)). AreWrites z u c.args.a.0 (writes_of (node_numbers (take i ns)) (take i vs) ++ writes n.0 v ∷ []) cs) (sym c.add_code.ensures.added)
          (one-write-more z c.loop-i.self u c.args.a.0 (writes_of (node_numbers (take i ns)) (take i vs)) (writes n.0 v) c.loop-i.codes.items c.write_node-code.result inv.written c.write_node-code.ensures.written));
      count = omega (arith, inv.count, ap (λ (cs : List (Result (Unit {0}) ℕ)). length cs) c.add_code.ensures.added, length-append c.loop-i.codes.items (c.write_node-code.result ∷ []));
      room = omega (arith, inv.room, c.add_code.ensures.room);
    }

pub returns-clause-written : goal.returns-clause-written
returns-clause-written c =
    let ns = c.args.nodes.now in
    let vs = c.args.values.now in
    let i = c.loop-i.i in
    subst (λ (ss : List Single). AreWrites c.args.self.now c.loop-i.self c.args.a.0 ss c.loop-i.codes.items)
    (ap₂ (λ (ks : List NodeId) (us : List Value). writes_of (node_numbers ks) us) (take_all i ns (omega (arith, c.loop-i-test.false))) (take_all i vs (omega (arith, c.loop-i-test.false, c.requires.fit.count))))
    c.loop-i.invariant.written
