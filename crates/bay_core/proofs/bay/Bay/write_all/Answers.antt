-- why `bay::Bay::write_all` answers as its contract says
use Rattle.std.proofs.Common.{◌≡◌, ◌∙◌, List, None, Option, map, take, ap, sym, subst, arith, add-one, slice_index_or}
use Rattle.std.specs.Prelude.{true, is_some}
use Rattle.std.proofs.lemmas.List.{length-set, take_all}
use Rattle.std.proofs.lemmas.Option.{slice_get-get_or}
use Rattle.list_laws.proofs.Places.{at_any}
use Rattle.sv_base.specs.declared.config.Config.{Config}
use Rattle.bay_model.specs.declared.control.ApplError.{ApplError}
use Rattle.bay_model.specs.declared.request.Write.{Write}
use Rattle.bay_model.specs.Singles.{Single, outcome_of, write_of, write_to}
use Rattle.assoc_table.specs.Seats.{Row}
use Rattle.assoc_table.specs.Tables.{row_of}
use Rattle.bay_core.specs.Commanded.{AreSingles, IsSingle, blame_to}
use Rattle.bay_core.proofs.BlameLaws.{blame-at, left-blames}
use Rattle.bay_core.proofs.SingleLaws.{variables-more}
use Rattle.bay_core.proofs.CalledLaws.{one-single-more}
use Rattle.bay_core.proofs.bay.Bay.write_all.Goals as goal

pub write_target-requires-clause-is_open : goal.write_target-requires-clause-is_open
write_target-requires-clause-is_open c = subst (λ (rows : List Row). is_some (row_of rows c.args.a.0).ends ≡ true) (sym c.loop-i.invariant.singles.kept.rows) c.requires.is_open

pub write_target-requires-clause-blame : goal.write_target-requires-clause-blame
write_target-requires-clause-blame c =
    let ws = c.args.writes.now in
    let i = c.loop-i.i in
    let bs = c.loop-i.blames.items in
    let inv = c.loop-i.invariant in
    let config : Config = c.args.self.now.config in
    let w = slice_index_or ws i c.index-writes-i.result in
    let got = slice_get-get_or ws i c.index-writes-i.result c.loop-i-test.true in
    c.take-blame.ensures.value ∙ (c.index_mut.ensures.value
    ∙ (at_any bs i c.index_mut.result.now None (omega (arith, c.loop-i-test.true, inv.count))
    ∙ (inv.blames i (omega arith)
    ∙ (ap (λ (l : List (Option ApplError)). slice_index_or l i None) c.requires.blames
    ∙ (blame-at (λ (x : Write). blame_to config x.target x.value) ws i w got
    ∙ (ap (λ (d : Config). blame_to d w.target w.value) (sym inv.singles.kept.config)
    ∙ ap (λ (x : Write). blame_to c.loop-i.self.config w.target x.value) (at_any ws i c.index-writes-i.result c.index-writes-i-in-loop-i.result c.loop-i-test.true)))))))

pub loop-i-preserved : goal.loop-i-preserved
loop-i-preserved c =
    let ws = c.args.writes.now in
    let i = c.loop-i.i in
    let z = c.args.self.now in
    let y = c.loop-i.self in
    let u = c.write_target.new.self in
    let a = c.args.a.0 in
    let inv = c.loop-i.invariant in
    let w = slice_index_or ws i c.index-writes-i.result in
    let got = slice_get-get_or ws i c.index-writes-i.result c.loop-i-test.true in
    let singles = ap (λ k. map write_of (take k ws)) (add-one i) ∙ variables-more ws i w got in
    let one = subst (λ (x : Write). IsSingle y u a c.loop-i.heard c.write_target.new.heard (λ m past. outcome_of m a (write_to w.target x.value) past))
    (sym (at_any ws i c.index-writes-i.result c.index-writes-i-in-loop-i.result c.loop-i-test.true)) c.write_target.ensures.single in
    record {
      singles = subst (λ (ss : List Single). AreSingles z u a ss c.args.heard.now c.write_target.new.heard) (sym singles)
          (one-single-more z y u a (map write_of (take i ws)) (write_of w) c.args.heard.now c.loop-i.heard c.write_target.new.heard inv.singles one);
      count = length-set c.loop-i.blames.items i c.take-blame.new.self ∙ inv.count;
      blames = λ k above. left-blames c.loop-i.blames.items c.args.blames.now.items i c.take-blame.new.self inv.blames k (omega (arith, above));
    }

pub returns : goal.returns
returns c =
    let ws = c.args.writes.now in
    record {
      singles = subst (λ (l : List Write). AreSingles c.args.self.now c.loop-i.self c.args.a.0 (map write_of l) c.args.heard.now c.loop-i.heard) (take_all c.loop-i.i ws (omega (arith, c.loop-i-test.false))) c.loop-i.invariant.singles;
    }
