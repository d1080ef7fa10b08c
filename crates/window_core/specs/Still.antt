-- What stands still while events are gathered (IEC 61850-7-2, BRCB attributes DatSet, BufTm and TrgOps).
use Rattle.std.specs.Prelude.{◌≡◌, ◌≢◌, ℕ, List, [], ◌∷◌, ◌++◌}
use Rattle.bay_model.specs.Model.{Model, Parameters}
use Rattle.bay_model.specs.Points.{Point, Past}
use Rattle.bay_model.specs.Groups.{open_group}

-- the data set, the buffer time and the trigger options are what they were
pub record AreStill (options was : Parameters) : Type 0 where
  pub dat_set : options.dat_set ≡ was.dat_set
  pub buf_tm : options.buf_tm ≡ was.buf_tm
  pub trg_ops : options.trg_ops ≡ was.trg_ops

-- after each of these points, which follow a past, the newest first, a group of block b is open
abbrev pub IsOpenThrough : Model → ℕ → List Point → Past → Type 0
IsOpenThrough c b [] before = Unit {0}
IsOpenThrough c b (p ∷ ps) before = (open_group c b (p ∷ (ps ++ before)) ≢ []) × IsOpenThrough c b ps before
