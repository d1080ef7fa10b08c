-- why `writing::write_config` answers as its contract says
use Rattle.std.proofs.Common.{sym, subst}
use Rattle.cfg_text.specs.Numbered.{ReadsAs}
use Rattle.cfg_text.proofs.RewriteLaws.{rewritten}
use Rattle.cfg_text.proofs.writing.write_config.Goals as goal

pub returns-clause-again : goal.returns-clause-again
returns-clause-again c = λ text is. subst (λ o. ReadsAs o c.args.config.now) (sym c.in_ok-text.ensures) (rewritten text c.args.config.now is)
