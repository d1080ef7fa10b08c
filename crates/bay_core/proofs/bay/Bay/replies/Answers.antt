-- why `bay::Bay::replies` answers as its contract says
use Rattle.std.proofs.Common.{◌∙◌, List, ap, max, sym, subst, vec_capacity}
use Rattle.value_store.specs.Stored.{Stored}
use Rattle.report_block.specs.declared.block.ReportBlock.{ReportBlock}
use Rattle.bay_replies.specs.Standing.{IsServed}
use Rattle.bay_core.specs.State.{State}
use Rattle.bay_core.proofs.LentLaws.{served-parts}
use Rattle.bay_core.proofs.bay.Bay.replies.Goals as goal

pub returns : goal.returns
returns c =
    let s = c.self.inside in
    record {
      model = ap (λ (w : State). w.config) c.self.view_is;
      store = c.store.ensures ∙ ap (λ (w : State). w.stored) c.self.view_is;
      groups = ap (λ (w : State). w.groups) c.self.view_is;
      blocks = c.deref.ensures.value ∙ ap (λ (w : State). w.parts) c.self.view_is;
      book = ap (λ (w : State). w.book) c.self.view_is;
      was = ap (λ (w : State). w.latest) c.self.view_is;
      now = c.later.ensures ∙ ap (λ (w : State). max w.latest c.args.moment) c.self.view_is;
      within = c.ms-last.ensures.range.1;
      served = subst (λ (l : List Stored). IsServed s.model l s.groups c.deref.result.now s.sets) (sym c.store.ensures)
          (subst (λ (l : List ReportBlock). IsServed s.model s.values s.groups l s.sets) (sym c.deref.ensures.value)
          (served-parts s.model s.values s.groups s.sets s.parts.items s.watch s.octets (vec_capacity s.changes) c.self.invariant.furnished c.self.invariant.grouped));
    }
