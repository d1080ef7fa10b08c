-- why `scripting::Scripts::read` answers as its contract says
use Rattle.std.proofs.Common.{◌≡◌, sym, ap, subst, ◌∙◌}
use Rattle.std.specs.Prelude.{Ok, Err}
use Rattle.std.proofs.lemmas.Result.{IfOk-weaker}
use Rattle.script_lines.specs.Lines.{script_line_at}
use Rattle.script_lines.specs.Seen.{view_seen, script_seen}
use Rattle.script_plans.specs.Inputs.{lines_at}
use Rattle.script_reading.specs.Readings.{scripts_seen, Moved}
use Rattle.script_reading.proofs.StageLaws.{view-ranges, line-seen, fault-seen}
use Rattle.script_reading.proofs.scripting.Scripts.read.Goals as goal

pub read_view-requires-clause-ranges : goal.read_view-requires-clause-ranges
read_view-requires-clause-ranges c =
    let reads : script_line_at c.args.line.now ≡ Ok (view_seen c.in-Ok.view) = sym c.view_script_line.ensures ∙ ap script_seen c.in-Ok.is in
    view-ranges c.args.line.now (view_seen c.in-Ok.view) reads

pub returns-in-Ok-clause-moves : goal.returns-in-Ok-clause-moves
returns-in-Ok-clause-moves c =
    let reads : script_line_at c.args.line.now ≡ Ok (view_seen c.in-Ok.view) = sym c.view_script_line.ensures ∙ ap script_seen c.in-Ok.is in
    IfOk-weaker c.read_view.result _ _
    (λ n h. subst (Moved n (scripts_seen c.read_view.new.self)) (sym (line-seen c.args.number c.args.self.now c.args.line.now (view_seen c.in-Ok.view) reads)) h) c.read_view.ensures.moves

pub returns-in-Err-clause-moves : goal.returns-in-Err-clause-moves
returns-in-Err-clause-moves c =
    let reads : script_line_at c.args.line.now ≡ Err c.in-Err.kind = sym c.view_script_line.ensures ∙ ap script_seen c.in-Err.is in
    subst (λ n. Moved n (scripts_seen c.args.self.now) (lines_at c.args.number (scripts_seen c.args.self.now) c.args.line.now)) (sym c.stop.ensures.stops) (fault-seen c.args.number c.args.self.now c.args.line.now c.in-Err.kind reads)
