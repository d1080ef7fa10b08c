-- why `bay::Bay::write_target` answers as its contract says
use Rattle.std.proofs.Common.{sym, subst}
use Rattle.bay_model.specs.declared.request.Target.{Target}
use Rattle.bay_model.specs.Outcomes.{refused}
use Rattle.bay_model.specs.Singles.{outcome_of, write_to}
use Rattle.bay_queues.specs.Heard.{Heard}
use Rattle.bay_core.specs.Commanded.{IsSingle}
use Rattle.bay_core.proofs.CalledLaws.{refused-single}
use Rattle.bay_core.proofs.bay.Bay.write_target.Goals as goal

pub returns-in-Node : goal.returns-in-Node
returns-in-Node c = record {
  single = subst (λ (t : Target). IsSingle c.args.self.now c.write_in_turn.new.self c.args.a.0 c.args.heard.now c.write_in_turn.new.heard (λ m past. outcome_of m c.args.a.0 (write_to t c.args.value.now) past)) (sym c.in-Node.is) c.write_in_turn.ensures.single;
}

pub returns-in-Missing : goal.returns-in-Missing
returns-in-Missing c =
    let z = c.args.self.now in
    let h = c.args.heard.now in
    record {
      single = subst (λ (t : Target). IsSingle z z c.args.a.0 h c.code.new.self (λ m past. outcome_of m c.args.a.0 (write_to t c.args.value.now) past)) (sym c.in-Missing.is)
          (subst (λ (k : Heard). IsSingle z z c.args.a.0 h k (λ m past. refused 10)) (sym c.code.ensures) (refused-single z c.args.a.0 10 h));
    }

pub returns-in-Alternate : goal.returns-in-Alternate
returns-in-Alternate c =
    let z = c.args.self.now in
    let h = c.args.heard.now in
    record {
      single = subst (λ (t : Target). IsSingle z z c.args.a.0 h c.code-in-Alternate.new.self (λ m past. outcome_of m c.args.a.0 (write_to t c.args.value.now) past)) (sym c.in-Alternate.is)
          (subst (λ (k : Heard). IsSingle z z c.args.a.0 h k (λ m past. refused 9)) (sym c.code-in-Alternate.ensures) (refused-single z c.args.a.0 9 h));
    }
