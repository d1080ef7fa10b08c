-- why `parameters::are_parameters` answers as its contract says
use Rattle.std.proofs.Common.{sym}
use Rattle.session_pres.proofs.ParameterLaws.{CutsAs-more, CutsAs-broken, CutsAs-all, parameter_shorter}
use Rattle.session_pres.proofs.parameters.are_parameters.Goals as goal

pub returns-in_default : goal.returns-in_default
returns-in_default c = rw (sym c.new-rest.ensures) (sym (CutsAs-broken _ _ c.loop-rest.invariant (cc) c.in_default.ensures))

pub loop-rest-smaller : goal.loop-rest-smaller
loop-rest-smaller c = parameter_shorter _ _ _ c.in-Some.ensures

pub loop-rest-preserved : goal.loop-rest-preserved
loop-rest-preserved c = CutsAs-more _ _ _ _ c.loop-rest.invariant (cc) c.in-Some.ensures

pub returns : goal.returns
returns c = rw (sym c.new-rest.ensures) (sym (CutsAs-all _ _ c.loop-rest.invariant (cc)))
