-- why `looking::read_config` answers as its contract says
use Rattle.cfg_parser.specs.Looking.{config_at}
use Rattle.cfg_parser.proofs.LookLaws.{passed-on, lines-refused, look-refused, config-read}
use Rattle.cfg_parser.proofs.looking.read_config.Goals as goal

pub returns-in_err-reading : goal.returns-in_err-reading
returns-in_err-reading c = passed-on c.from_residual.result c.in_err-reading.field-0.0 (config_at c.args.text.now) c.from_residual.ensures.1
    (lines-refused c.in_err-reading.field-0.0 c.args.text.now c.in_err-reading.ensures)

pub returns-in-Err : goal.returns-in-Err
returns-in-Err c = look-refused c.in_ok-reading.reading c.in-Err.fault c.args.text.now c.in_ok-reading.ensures c.in-Err.ensures

pub returns : goal.returns
returns c = config-read c.in_ok-reading.reading c.in_default.field-0 c.in_ok-config.config c.args.text.now c.in_ok-reading.ensures c.in_default.ensures c.in_ok-config.ensures
