-- why `values::set_once` answers as its contract says
use Rattle.std.proofs.Common.{arith}
use Rattle.bay_values.proofs.SettingSteps.{done_set, room_left}
use Rattle.bay_values.proofs.values.set_once.Goals as goal

pub returns-then-not-marks-setting-clause-done : goal.returns-then-not-marks-setting-clause-done
returns-then-not-marks-setting-clause-done c = λ before later done.
    rw (c.set_noted.ensures.set, c.set_noted.ensures.noted)
    (done_set c.args.model.now before c.args.store.now c.args.setting.now later c.args.marks.now c.args.changes.now.items c.if-not-marks-setting.true c.requires.fit.there (omega (arith, c.requires.fit.there, c.requires.marks)) done)

pub set_noted-requires-clause-room : goal.set_noted-requires-clause-room
set_noted-requires-clause-room c =
    omega (
      arith,
      c.args.changes.now.ok,
      c.requires.noted,
      c.requires.room,
      c.requires.marks,
      room_left c.args.marks.now c.args.setting.now.attr.0 c.if-not-marks-setting.true (omega (arith, c.requires.fit.there, c.requires.marks)),
    )
