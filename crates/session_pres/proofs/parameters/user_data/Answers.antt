-- why `parameters::user_data` answers as its contract says
use Rattle.std.proofs.Common.{sym}
use Rattle.session_pres.proofs.ParameterLaws.{UserGoes-none, UserGoes-more, UserGoes-broken, UserGoes-uncut, UserGoes-all, parameter_shorter}
use Rattle.session_pres.proofs.parameters.user_data.Goals as goal

pub loop-rest-init : goal.loop-rest-init
loop-rest-init c = UserGoes-none _

pub returns-in_err-code : goal.returns-in_err-code
returns-in_err-code c = rw (c.from_residual.ensures, sym c.new-rest.ensures) (sym (UserGoes-broken _ _ _ c.loop-rest.invariant (cc) c.in_err-code.ensures))

pub returns-then-not-is_cut : goal.returns-then-not-is_cut
returns-then-not-is_cut c = rw (sym c.new-rest.ensures) (sym (UserGoes-uncut _ _ _ _ _ c.loop-rest.invariant (cc) c.in_ok-code.ensures (cc)))

pub loop-rest-smaller : goal.loop-rest-smaller
loop-rest-smaller c = parameter_shorter _ _ _ c.in_ok-code.ensures

pub loop-rest-preserved : goal.loop-rest-preserved
loop-rest-preserved c = rw c.later-user.ensures (UserGoes-more _ _ _ _ _ c.loop-rest.invariant (cc) c.in_ok-code.ensures (cc))

pub returns : goal.returns
returns c = rw (sym c.new-rest.ensures) (sym (UserGoes-all _ _ _ c.loop-rest.invariant (cc)))
