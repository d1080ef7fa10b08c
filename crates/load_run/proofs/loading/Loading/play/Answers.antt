-- why `loading::Loading::play` answers as its contract says
use Rattle.std.proofs.Common.{refl, subst}
use Rattle.std.proofs.lemmas.Result.{IfOk-weaker}
use Rattle.run_record.specs.Seen.{line_seen}
use Rattle.run_record.specs.declared.line.RecLine.{RecLine}
use Rattle.record_steps.specs.Telling.{telling}
use Rattle.load_run.specs.Loads.{IsFitting}
use Rattle.load_run.proofs.LineLaws.{fitting, follows-line}
use Rattle.load_run.proofs.loading.Loading.play.Goals as goal

pub returns : goal.returns
returns c =
    let line : RecLine = line_seen c.args.line.now in
    IfOk-weaker c.act.result _ _
    (λ went moves yes. follows-line c.args.self.now (record c.args.self.now { forms = c.tell.new.self }) c.act.new.self line c.named_by-a.result.0 (telling c.in_ok-told.told c.tell.new.step c.tell.new.heard.items) c.model.result.now
    refl refl refl c.in_ok-told.ensures.others c.named_by-a.ensures.number c.in_ok-told.ensures.form c.model.ensures.model c.in_ok-told.ensures.told (moves yes c.tell.new.heard.items)) c.act.ensures

pub act-requires-clause-fits : goal.act-requires-clause-fits
act-requires-clause-fits c =
    let sized = c.shape-shape.ensures.sized in
    subst (λ k. IsFitting k c.in_ok-told.told c.tell.new.step) c.model.ensures.model
    (fitting c.model.result.now sized.1 (line_seen c.args.line.now) c.in_ok-told.told c.tell.new.step c.tell.new.heard.items (c.in_ok-told.ensures.told sized.1 sized.2))
