-- why `firsts::relink` answers as its contract says
use Rattle.std.proofs.Common.{◌≡◌, ◌<◌, ◌+◌, ◌==◌, length, take, get_or, slice_set, refl, sym, ap, subst, ◌∙◌, arith, if◌then◌else◌}
use Rattle.std.proofs.lemmas.List.{length-set, length-take, take_more_set}
use Rattle.octet_rows.specs.Chains.{no_entry, slot, head, AreChained}
use Rattle.octet_rows.specs.declared.firsts.Entry.{Entry}
use Rattle.octet_rows.proofs.ChainLaws.{chained, head-at, head-set, latest-set}
use Rattle.octet_rows.proofs.firsts.relink.Goals as goal

pub loop-i-preserved : goal.loop-i-preserved
loop-i-preserved c =
    let es = c.loop-i.entries in
    let heads = c.loop-i.heads in
    let i = c.loop-i.i in
    let at = c.slot_of-slot.result in
    let old = get_or es i no_entry in
    let entry : Entry = record { number = old.number; place = old.place; before = get_or heads at 0 } in
    let next = slice_set heads at (i + 1) in
    let lt : i < length es = omega (arith, c.loop-i-test.true, c.loop-i.invariant.len, c.loop-i.auto.i-end) in
    let last : i + 1 ≡ length (take i es) + 1 = omega (arith, length-take i es, lt) in
    record {
      chained = subst (AreChained next) (sym (take_more_set es i entry lt))
          (chained heads next (take i es) entry c.loop-i.invariant.chained
          (head-at heads old.number at 0 c.slot_of-slot.ensures.value c.slot_of-slot.ensures.within)
          (λ q. head-set heads old.number at (i + 1) c.slot_of-slot.ensures.value c.slot_of-slot.ensures.within q ∙ ap (λ v. if slot (length heads) old.number == slot (length heads) q then v else head heads q) last));
      some = length-set heads at (i + 1) ∙ c.loop-i.invariant.some;
      len = length-set es i entry ∙ c.loop-i.invariant.len;
      same = λ q. latest-set es i q entry lt refl refl ∙ c.loop-i.invariant.same q;
    }
