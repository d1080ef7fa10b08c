-- why `stream::hear` answers as its contract says
use Rattle.std.proofs.Common.{◌≡◌, ◌≤◌, suc, length, subst}
use Rattle.std.specs.Prelude.{IfOk, OnOk}
use Rattle.record_steps.specs.declared.form.Form as programs
use Rattle.record_steps.specs.declared.telling.Told.{Told}
use Rattle.record_steps.specs.Forms.{Form, HasShape, IsSized, Stands, form_fed}
use Rattle.record_steps.specs.Resolved.{fed_as}
use Rattle.record_steps.specs.Streams.{piece_at, made}
use Rattle.record_steps.specs.Telling.{telling}
use Rattle.record_steps.proofs.FedLaws.{both-ok}
use Rattle.record_steps.proofs.FormLaws.{of-dialling, of-wire}
use Rattle.record_steps.proofs.stream.hear.Goals as goal

pub returns-in-Dialling-clause-told : goal.returns-in-Dialling-clause-told
returns-in-Dialling-clause-told c f slot s =
    of-dialling c.in-Dialling.upper f (subst (λ (p : programs.Form). Stands p f) c.in-Dialling.is s)
    (λ (f : Form). IfOk c.hear_piece.result (λ (r : programs.Form × Told). telling r.1 slot c.hear_piece.new.heard.items ≡ fed_as c.args.model.now f c.args.a c.args.hex.now))
    (λ octets events stood. c.hear_piece.ensures.told octets events slot stood)

pub returns-in-Dialling-clause-form : goal.returns-in-Dialling-clause-form
returns-in-Dialling-clause-form c f s =
    of-dialling c.in-Dialling.upper f (subst (λ (p : programs.Form). Stands p f) c.in-Dialling.is s)
    (λ (f : Form). IfOk c.hear_piece.result (λ (r : programs.Form × Told). Stands r.0 (form_fed f (piece_at c.args.hex.now))))
    (λ octets events stood. c.hear_piece.ensures.form octets events stood)

pub returns-in-Dialling-clause-sized : goal.returns-in-Dialling-clause-sized
returns-in-Dialling-clause-sized c =
    let f : Form = c.requires.sized.1 in
    both-ok c.hear_piece.result (λ (r : programs.Form × Told). HasShape r.0) (λ (r : programs.Form × Told). Stands r.0 (form_fed f (piece_at c.args.hex.now))) (λ (r : programs.Form × Told). IsSized r.0)
    (λ r shape stood. (shape, form_fed f (piece_at c.args.hex.now), stood)) c.hear_piece.ensures.sized (returns-in-Dialling-clause-form c f c.requires.sized.2)

pub returns-in-Dialling-clause-few : goal.returns-in-Dialling-clause-few
returns-in-Dialling-clause-few c =
    let f : Form = c.requires.sized.1 in
    of-dialling c.in-Dialling.upper f (subst (λ (p : programs.Form). Stands p f) c.in-Dialling.is c.requires.sized.2)
    (λ (f : Form). OnOk c.hear_piece.result (made c.hear_piece.new.heard.items ≤ suc (length c.args.hex.now)))
    (λ octets events stood. c.hear_piece.ensures.few octets events stood)

pub returns-in-Wire-clause-told : goal.returns-in-Wire-clause-told
returns-in-Wire-clause-told c f slot s =
    of-wire c.in-Wire.line c.in-Wire.upper f (subst (λ (p : programs.Form). Stands p f) c.in-Wire.is s)
    (λ (f : Form). IfOk c.hear_piece-in-Wire.result (λ (r : programs.Form × Told). telling r.1 slot c.hear_piece-in-Wire.new.heard.items ≡ fed_as c.args.model.now f c.args.a c.args.hex.now))
    (λ octets events stood. c.hear_piece-in-Wire.ensures.told octets events slot stood)

pub returns-in-Wire-clause-form : goal.returns-in-Wire-clause-form
returns-in-Wire-clause-form c f s =
    of-wire c.in-Wire.line c.in-Wire.upper f (subst (λ (p : programs.Form). Stands p f) c.in-Wire.is s)
    (λ (f : Form). IfOk c.hear_piece-in-Wire.result (λ (r : programs.Form × Told). Stands r.0 (form_fed f (piece_at c.args.hex.now))))
    (λ octets events stood. c.hear_piece-in-Wire.ensures.form octets events stood)

pub returns-in-Wire-clause-sized : goal.returns-in-Wire-clause-sized
returns-in-Wire-clause-sized c =
    let f : Form = c.requires.sized.1 in
    both-ok c.hear_piece-in-Wire.result (λ (r : programs.Form × Told). HasShape r.0) (λ (r : programs.Form × Told). Stands r.0 (form_fed f (piece_at c.args.hex.now))) (λ (r : programs.Form × Told). IsSized r.0)
    (λ r shape stood. (shape, form_fed f (piece_at c.args.hex.now), stood)) c.hear_piece-in-Wire.ensures.sized (returns-in-Wire-clause-form c f c.requires.sized.2)

pub returns-in-Wire-clause-few : goal.returns-in-Wire-clause-few
returns-in-Wire-clause-few c =
    let f : Form = c.requires.sized.1 in
    of-wire c.in-Wire.line c.in-Wire.upper f (subst (λ (p : programs.Form). Stands p f) c.in-Wire.is c.requires.sized.2)
    (λ (f : Form). OnOk c.hear_piece-in-Wire.result (made c.hear_piece-in-Wire.new.heard.items ≤ suc (length c.args.hex.now)))
    (λ octets events stood. c.hear_piece-in-Wire.ensures.few octets events stood)
