-- why `playing::Playing::play` answers as its contract says
use Rattle.std.proofs.Common.{◌≤◌, ℕ, List, sym, subst, refl, ◌∙◌, ap, arith}
use Rattle.std.proofs.lemmas.Result.{IfOk-weaker}
use Rattle.run_record.specs.Seen.{line_seen}
use Rattle.run_record.specs.declared.line.RecLine.{RecLine}
use Rattle.stream_lines.specs.Shapes.{IsShape}
use Rattle.record_steps.specs.declared.heard.Heard.{Heard}
use Rattle.record_steps.specs.Streams.{made}
use Rattle.record_steps.specs.Telling.{telling, most_steps}
use Rattle.record_steps.specs.Formed.{form_in}
use Rattle.record_session.specs.Plays.{IsReady, most_of}
use Rattle.record_session.proofs.PlayLaws.{told-ready, passes-line, plays-line, most-told, within-more}
use Rattle.record_session.proofs.playing.Playing.play.Goals as goal

pub act-requires-clause-ready : goal.act-requires-clause-ready
act-requires-clause-ready c =
    let sized = c.shape-shape.ensures.sized in
    let ready = told-ready c.model.result.now sized.1 (line_seen c.args.line.now) c.in_ok-told.told c.tell.new.step c.tell.new.heard.items (c.in_ok-told.ensures.told sized.1 sized.2) c.in_ok-told.ensures.fits in
    subst (λ k. IsReady k c.in_ok-told.told c.tell.new.step c.deref.result.now) c.model.ensures.model (subst (IsReady c.model.result.now c.in_ok-told.told c.tell.new.step) (sym c.deref.ensures.value) ready)

pub act-requires-clause-shape : goal.act-requires-clause-shape
act-requires-clause-shape c = subst IsShape (sym c.shape-shape.ensures.shape) c.shape-shape.ensures.sized.0

pub act-requires-clause-few : goal.act-requires-clause-few
act-requires-clause-few c =
    let few = subst (λ (hs : List Heard). made hs ≤ most_steps (line_seen c.args.line.now)) (sym c.deref.ensures.value) c.in_ok-told.ensures.few in
    omega (arith, c.requires.few, most-told (line_seen c.args.line.now) c.in_ok-told.told c.deref.result.now few)

pub returns-clause-plays : goal.returns-clause-plays
returns-clause-plays c =
    let line : RecLine = line_seen c.args.line.now in
    let k : ℕ = c.number_in-a.result.0 in
    let pass = passes-line c.args.self.now (record c.args.self.now { forms = c.tell.new.self }) line k refl refl c.in_ok-told.ensures.others c.number_in-a.ensures.number c.in_ok-told.ensures.form in
    IfOk-weaker c.act.result _ _
    (λ s h. plays-line c.args.self.now (record c.args.self.now { forms = c.tell.new.self }) c.act.new.self c.args.number line (form_in c.args.self.now.forms k) c.shape-shape.result c.in_ok-told.told c.tell.new.step c.deref.result.now s c.model.result.now c.args.out.now.items
    c.act.new.out.items pass (ap (form_in c.args.self.now.forms) c.number_in-a.ensures.number) c.shape-shape.ensures.shape c.model.ensures.model
    (λ f s. ap (telling c.in_ok-told.told c.tell.new.step) c.deref.ensures.value ∙ c.in_ok-told.ensures.told f s) h) c.act.ensures.plays

pub returns-clause-few : goal.returns-clause-few
returns-clause-few c =
    let few = subst (λ (hs : List Heard). made hs ≤ most_steps (line_seen c.args.line.now)) (sym c.deref.ensures.value) c.in_ok-told.ensures.few in
    IfOk-weaker c.act.result _ _
    (λ s h. within-more s c.act.new.self.bay.steps c.args.self.now.bay.steps (most_of c.in_ok-told.told c.deref.result.now) (most_steps (line_seen c.args.line.now))
    (most-told (line_seen c.args.line.now) c.in_ok-told.told c.deref.result.now few) h) c.act.ensures.few
