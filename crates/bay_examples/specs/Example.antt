-- The example bay: one breaker position, one indication and one measured power, reported by one buffered block.
use Rattle.std.specs.Prelude.{ℕ, Bool, List, [], ◌∷◌, ◌==◌, map, codes}
use Rattle.bay_model.specs.Model.{Model, DataSet, Block, Parameters}
use Rattle.bay_examples.specs.ExampleNodes.{domain, nodes, attrs_with, power}

-- the data set LLN0.Events: the position, the indication and the power
abbrev pub events : DataSet
events = record { domain = domain; item = codes "LLN0$Events"; nodes = 20 ∷ 26 ∷ 34 ∷ [] }

-- a bit for each digit 0 or 1
abbrev pub bits_of : List ℕ → List Bool
bits_of digits = map (λ o. o == 49) digits

-- the block reports changes of data and of quality at once, and allows general interrogation
abbrev pub options : Parameters
options = record { rpt_id = codes "Ev1"; dat_set = codes "BAY1/LLN0$Events"; opt_flds = bits_of (codes "0111001110"); buf_tm = 0; trg_ops = bits_of (codes "011001"); intg_pd = 0 }

abbrev pub block : ℕ → Block
block capacity = record { reference = codes "BAY1/LLN0$BR$brcbEv01"; initial = options; conf_rev = 1; capacity = capacity }

-- the example bay, by the capacity of its block's buffer in octets
abbrev pub example : ℕ → Model
example capacity = record {
  domains = domain ∷ [];
  nodes = nodes;
  attrs = attrs_with power;
  sets = events ∷ [];
  blocks = block capacity ∷ [];
  controls = [];
  groups = record { count = 0; active = 0 } ∷ [];
}

-- the same with other parameters of its block
abbrev pub example_with : Parameters → ℕ → Model
example_with other capacity = record (example capacity) { blocks = record (block capacity) { initial = other } ∷ [] }
