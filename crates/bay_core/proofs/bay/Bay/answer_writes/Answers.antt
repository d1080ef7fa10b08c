-- why `bay::Bay::answer_writes` answers as its contract says
use Rattle.std.proofs.Common.{◌∙◌, List, map, length, ap, sym, subst}
use Rattle.bay_model.specs.declared.request.Write.{Write}
use Rattle.bay_model.specs.Singles.{write_of}
use Rattle.bay_queues.specs.Heard.{Heard, unheard}
use Rattle.bay_core.specs.Asked.{AreFit}
use Rattle.bay_core.specs.Commanded.{AreSingles, blame_to}
use Rattle.bay_core.specs.Put.{IsOpenAt}
use Rattle.bay_core.specs.State.{State}
use Rattle.bay_core.proofs.AnswerLaws.{writes-fit}
use Rattle.bay_core.proofs.CameLaws.{writes-come}
use Rattle.bay_core.proofs.bay.Bay.answer_writes.Goals as goal

pub blames-requires : goal.blames-requires
blames-requires c = subst (AreFit c.args.self.now.config) (sym c.as_slice.ensures) (writes-fit c.args.self.now.config c.args.writes.now c.requires.fits)

pub write_all-requires-clause-is_open : goal.write_all-requires-clause-is_open
write_all-requires-clause-is_open c = subst (λ (t : State). IsOpenAt t c.args.a.0) (sym c.arrive.ensures.state) c.requires.is_open

pub write_all-requires-clause-fit : goal.write_all-requires-clause-fit
write_all-requires-clause-fit c =
    subst (λ (ws : List Write). AreFit c.arrive.new.self.config ws) (sym c.as_slice-2.ensures)
    (subst (λ (t : State). AreFit t.config c.args.writes.now) (sym c.arrive.ensures.state) (writes-fit c.args.self.now.config c.args.writes.now c.requires.fits))

pub write_all-requires-clause-blames : goal.write_all-requires-clause-blames
write_all-requires-clause-blames c =
    c.in_ok-blames.ensures ∙ (ap (λ (ws : List Write). map (λ (w : Write). blame_to c.args.self.now.config w.target w.value) ws) (c.as_slice.ensures ∙ sym c.as_slice-2.ensures)
    ∙ ap (λ (t : State). map (λ (w : Write). blame_to t.config w.target w.value) c.as_slice-2.result.now) (sym c.arrive.ensures.state))

pub write_all-requires-clause-heard : goal.write_all-requires-clause-heard
write_all-requires-clause-heard c = c.in_ok-heard.ensures ∙ ap unheard (c.len.ensures ∙ ap (λ (ws : List Write). length ws) (sym c.as_slice-2.ensures))

pub returns-clause-came : goal.returns-clause-came
returns-clause-came c =
    let z = c.arrive.new.self in
    let u = c.write_all.new.self in
    let h = c.write_all.new.heard in
    let singles = subst (λ (ws : List Write). AreSingles z u c.args.a.0 (map write_of ws) (unheard c.len.result) h) c.as_slice-2.ensures
    (subst (λ (k : Heard). AreSingles z u c.args.a.0 (map write_of c.as_slice-2.result.now) k h) c.in_ok-heard.ensures c.write_all.ensures.singles) in
    writes-come c.args.self.now z u c.args.moment c.args.a.0 c.len.result c.args.writes.now c.wrote.result h c.requires.number c.arrive.ensures.stands singles
    c.wrote.ensures.reply c.wrote.ensures.before c.wrote.ensures.acts c.wrote.ensures.tests

pub returns-clause-kept : goal.returns-clause-kept
returns-clause-kept c =
    let kept = c.write_all.ensures.singles.kept in
    let behind = c.arrive.ensures.state in
    record {
      config = kept.config ∙ ap (λ (t : State). t.config) behind;
      steps = kept.steps ∙ ap (λ (t : State). t.steps) behind;
      rows = kept.rows ∙ ap (λ (t : State). t.rows) behind;
    }
