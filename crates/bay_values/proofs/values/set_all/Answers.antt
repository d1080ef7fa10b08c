-- why `values::set_all` answers as its contract says
use Rattle.std.proofs.Common.{◌≡◌, ◌<◌, ◌-◌, [], ◌∷◌, drop, length, ap₂, sym, ◌∙◌, subst, arith}
use Rattle.std.proofs.lemmas.List.{drop_more, drop_all}
use Rattle.bay_values.specs.Marked.{IsDone}
use Rattle.bay_values.proofs.MarkLaws.{done_first}
use Rattle.bay_values.proofs.values.set_all.Goals as goal

pub loop-i-init : goal.loop-i-init
loop-i-init c = record {
  done = subst (λ l. IsDone c.args.model.now c.args.store.now l c.args.store.now c.args.marks.now c.args.changes.now.items) (sym (drop_all (length c.args.settings.now) c.args.settings.now (omega arith)))
      (subst (λ l. IsDone c.args.model.now c.args.store.now [] c.args.store.now c.args.marks.now l) (sym c.requires.empty) (done_first c.args.model.now c.args.store.now c.args.marks.now c.requires.blank));
  room = omega arith;
}

pub loop-i-preserved : goal.loop-i-preserved
loop-i-preserved c =
    let settings = c.args.settings.now in
    let below : c.loop-i.i - 1 < length settings = omega (arith, c.loop-i-test.true, c.loop-i.auto.i) in
    let next : drop (c.loop-i.i - 1) settings ≡ c.index-settings-i.result ∷ drop c.loop-i.i settings
    = drop_more settings (c.loop-i.i - 1) c.index-settings-i.result below ∙ ap₂ (λ s n. s ∷ drop n settings) (sym c.index-settings-i.is) (omega (arith, c.loop-i-test.true)) in
    record {
      done = subst (λ l. IsDone c.args.model.now c.args.store.now l c.set_once.new.store c.set_once.new.marks c.set_once.new.changes.items) (sym next)
          (c.set_once.ensures.done c.args.store.now (drop c.loop-i.i settings) c.loop-i.invariant.done);
      room = omega (arith, c.loop-i.invariant.room, c.set_once.ensures.room);
    }
