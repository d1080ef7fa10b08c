-- why `loading::load_all` answers as its contract says
use Rattle.std.proofs.Common.{◌≡◌, ◌∙◌, ◌<◌, ◌-◌, [], ◌∷◌, drop, length, ap, sym, subst, arith}
use Rattle.std.proofs.lemmas.List.{drop_all}
use Rattle.setting_groups.specs.Grouped.{active_place, domain_at}
use Rattle.setting_groups.specs.Loaded.{loadings}
use Rattle.bay_values.specs.Loaded.{active_setting}
use Rattle.bay_values.specs.Marked.{IsDone}
use Rattle.bay_values.proofs.LoadLaws.{loaded-here, one-before, passed-here}
use Rattle.bay_values.proofs.MarkLaws.{done_first}
use Rattle.bay_values.proofs.loading.load_all.Goals as goal

pub loop-i-init : goal.loop-i-init
loop-i-init c =
    let s = c.args.groups.now in
    let p = active_place (domain_at s c.args.domain) in
    record {
      done = subst (λ l. IsDone c.args.model.now c.args.store.now (loadings c.args.domain p l) c.args.store.now c.args.marks.now c.args.changes.now.items) (sym (drop_all c.len-i.result s.settings (omega (arith, c.len-i.ensures))))
          (subst (λ l. IsDone c.args.model.now c.args.store.now [] c.args.store.now c.args.marks.now l) (sym c.requires.empty) (done_first c.args.model.now c.args.store.now c.args.marks.now c.requires.blank));
      fit = c.requires.fit;
      room = omega arith;
    }

pub loop-i-preserved-then-domain : goal.loop-i-preserved-then-domain
loop-i-preserved-then-domain c =
    let s = c.args.groups.now in
    let d = c.args.domain in
    let p = active_place (domain_at s d) in
    let i = c.loop-i.i - 1 in
    let below : i < length s.settings = omega (arith, c.loop-i-test.true, c.loop-i.auto.i, c.len-i.ensures) in
    let more = loadings d p (drop c.loop-i.i s.settings) in
    let next : loadings d p (drop i s.settings) ≡ active_setting s i ∷ more
    = one-before s d i below ∙ (loaded-here s d i _ (sym c.domain.ensures ∙ c.if-domain.true) ∙ ap (λ n. active_setting s i ∷ loadings d p (drop n s.settings)) (omega (arith, c.loop-i-test.true))) in
    record {
      done = subst (λ l. IsDone c.args.model.now c.args.store.now l c.load_once.new.store c.load_once.new.marks c.load_once.new.changes.items) (sym next) (c.load_once.ensures.done c.args.store.now more c.loop-i.invariant.done);
      fit = c.load_once.ensures.fit c.loop-i.invariant.fit;
      room = omega (arith, c.loop-i.invariant.room, c.load_once.ensures.room);
    }

pub loop-i-preserved : goal.loop-i-preserved
loop-i-preserved c =
    let s = c.args.groups.now in
    let d = c.args.domain in
    let p = active_place (domain_at s d) in
    let i = c.loop-i.i - 1 in
    let below : i < length s.settings = omega (arith, c.loop-i-test.true, c.loop-i.auto.i, c.len-i.ensures) in
    let more = loadings d p (drop c.loop-i.i s.settings) in
    let next : loadings d p (drop i s.settings) ≡ more
    = one-before s d i below ∙ (passed-here s d i _ (λ e. c.if-domain.false (c.domain.ensures ∙ e)) ∙ ap (λ n. loadings d p (drop n s.settings)) (omega (arith, c.loop-i-test.true))) in
    record {
      done = subst (λ l. IsDone c.args.model.now c.args.store.now l c.loop-i.store c.loop-i.marks c.loop-i.changes.items) (sym next) c.loop-i.invariant.done;
      fit = c.loop-i.invariant.fit;
      room = c.loop-i.invariant.room;
    }
