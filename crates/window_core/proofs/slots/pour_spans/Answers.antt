-- why `slots::pour_spans` answers as its contract says
use Rattle.std.proofs.Common.{◌≡◌, ◌∷◌, [], ◌++◌, ◌∙◌, ℕ, ap, sym, subst, length, drop, slice_index_or, None, arith, length-append, ◌+◌}
use Rattle.std.proofs.lemmas.List.{drop_more}
use Rattle.sv_base.specs.Filled.{Filled}
use Rattle.window_core.specs.Pieces.{octets_of}
use Rattle.window_core.specs.Slots.{listed, total, AreSpans}
use Rattle.window_core.proofs.SlotLaws.{pour-more, spans-first, total-first, poured-length}
use Rattle.window_core.proofs.slots.pour_spans.Goals as goal

pub loop-span-preserved : goal.loop-span-preserved
loop-span-preserved c =
    let octets = c.args.octets.now in
    let one = slice_index_or c.args.spans.now c.loop-span.span-index None in
    let rest = drop (c.loop-span.span-index + 1) c.args.spans.now in
    let here = drop_more c.args.spans.now c.loop-span.span-index None c.loop-span-test.true in
    let are = spans-first (length octets) one rest (subst (AreSpans (length octets)) here c.loop-span.invariant.are) in
    let items : c.pour_span.new.out.items ≡ c.loop-span.out.items ++ octets_of (listed 1 (one ∷ []) octets) = ap (λ (f : Filled ℕ). f.items) c.pour_span.ensures in
    let room = ap (λ (f : Filled ℕ). f.room) c.pour_span.ensures in
    record {
      are = are.1;
      fits = omega (arith, c.loop-span.invariant.fits, ap total here, total-first one rest, poured-length 0 one octets are.0, ap length items, length-append c.loop-span.out.items (octets_of (listed 1 (one ∷ []) octets)));
      room = room ∙ c.loop-span.invariant.room;
      poured = ap (λ l. l ++ octets_of (listed 1 rest octets)) items ∙ (sym (pour-more one rest octets c.loop-span.out.items) ∙ (ap (λ l. c.loop-span.out.items ++ octets_of (listed 1 l octets)) (sym here) ∙ c.loop-span.invariant.poured));
    }
