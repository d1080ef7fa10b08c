-- why `loading::load_once` answers as its contract says
use Rattle.std.proofs.Common.{◌≡◌, ◌∙◌, ap, sym, arith, false}
use Rattle.bay_values.specs.Loaded.{active_setting}
use Rattle.bay_values.specs.Marked.{is_marked}
use Rattle.bay_values.proofs.SettingSteps.{done_set, room_left}
use Rattle.bay_values.proofs.loading.load_once.Goals as goal

pub load_noted-requires-clause-room : goal.load_noted-requires-clause-room
load_noted-requires-clause-room c =
    omega (
      arith,
      c.args.changes.now.ok,
      c.requires.noted,
      c.requires.room,
      c.requires.marks,
      room_left c.args.marks.now c.attr-attr.result.0 c.if-not-marks-attr.true (omega (arith, c.requires.fit.there, c.requires.marks, c.attr-attr.ensures)),
    )

pub returns-then-not-marks-attr-clause-done : goal.returns-then-not-marks-attr-clause-done
returns-then-not-marks-attr-clause-done c = λ before later done.
    let mark : is_marked c.args.marks.now (active_setting c.args.groups.now c.args.setting).attr.0 ≡ false = ap (is_marked c.args.marks.now) (sym c.attr-attr.ensures) ∙ c.if-not-marks-attr.true in
    rw (c.load_noted.ensures.set, c.load_noted.ensures.noted, c.attr-attr.ensures)
    (done_set c.args.model.now before c.args.store.now (active_setting c.args.groups.now c.args.setting) later c.args.marks.now c.args.changes.now.items mark c.requires.fit.there (omega (arith, c.requires.fit.there, c.requires.marks)) done)
