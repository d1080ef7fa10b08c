-- why `parameters::read_parameters` answers as its contract says
use Rattle.std.proofs.Common.{◌≡◌, Ok, Some, ◌∙◌}
use Rattle.std.proofs.lemmas.Result.{err_from_is_err_and}
use Rattle.tpkt_cotp.specs.Parameters.{parameter_at}
use Rattle.tpkt_cotp.proofs.ParameterLaws.{parameters_end, parameters_broken, parameters_more, parameters_bad}
use Rattle.tpkt_cotp.proofs.parameters.read_parameters.Goals as goal

pub returns-in_err-code : goal.returns-in_err-code
returns-in_err-code c =
    let p = err_from_is_err_and c.from_residual.result c.from_residual.ensures.1 in
    rw (p.1, p.2) (λ _. c.loop-code.invariant ∙ parameters_broken _ _ _ c.in_err-code.ensures)

pub returns-in_err-put_parameter : goal.returns-in_err-put_parameter
returns-in_err-put_parameter c =
    let p = err_from_is_err_and c.from_residual-in_err-put_parameter.result c.from_residual-in_err-put_parameter.ensures.1 in
    let one : parameter_at c.loop-code.rest.now ≡ Ok (Some (c.in-Some.code, c.in-Some.value.now, c.in-Some.after.now)) = rw c.in-Some.is at c.in_ok-code.ensures in
    rw (p.1, p.2) (λ some. c.loop-code.invariant ∙ parameters_bad _ _ _ _ _ _ one (c.in_err-put_parameter.ensures some))

pub loop-code-preserved : goal.loop-code-preserved
loop-code-preserved c =
    let one : parameter_at c.loop-code.rest.now ≡ Ok (Some (c.in-Some.code, c.in-Some.value.now, c.in-Some.after.now)) = rw c.in-Some.is at c.in_ok-code.ensures in
    c.loop-code.invariant ∙ parameters_more _ _ _ _ _ _ one c.in_ok-put_parameter.ensures

pub returns : goal.returns
returns c = c.loop-code.invariant ∙ parameters_end _ _ (rw c.in_default.is at c.in_ok-code.ensures)
