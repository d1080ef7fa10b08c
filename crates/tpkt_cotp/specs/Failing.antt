-- What functions that take memory fail with.
use Rattle.std.specs.Prelude.{◌≡◌, ◌≢◌, Result, Err}
use Rattle.tpkt_cotp.specs.declared.fault.TpFault.{TpFault}
use Rattle.tpkt_cotp.specs.declared.fault.TpFault.TheVariants.{Memory}

-- it is what reading gives, unless it was out of memory
abbrev pub Fails : {Y : Type 0} → TpFault → Result Y TpFault → Type 0
Fails f read = f ≢ Memory → read ≡ Err f
