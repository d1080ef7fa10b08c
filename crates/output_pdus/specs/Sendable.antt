-- Which outputs are told to be ones that can be sent: what the writers of MMS PDUs ask, as a test.
use Rattle.std.specs.Prelude.{ℕ, zero, suc, Bool, true, false, ◌&&◌, nat_lt, List, Result, Ok, Err}
use Rattle.std.specs.List.{list_all}
use Rattle.sv_base.specs.Tree.{Plain, Seen, Row, plain, structure, none, more, time, other}
use Rattle.sv_base.specs.Seen.{seen_of}
use Rattle.sv_base.specs.declared.value.Value.{Value}
use Rattle.sv_base.specs.declared.numbers.NodeId.{NodeId}

-- the fraction of a second is one of three octets, and no Data is of a tag that isn't used
abbrev pub is_plain_writable : Plain → Bool
is_plain_writable (time secs frac quality) = nat_lt frac 16777216
is_plain_writable other = false
is_plain_writable _ = true

-- at most so deep
abbrev mutual
  pub is_seen_writable : ℕ → Seen → Bool
  is_seen_writable zero s = false
  is_seen_writable (suc n) (plain p) = is_plain_writable p
  is_seen_writable (suc n) (structure r) = are_writable n r

  pub are_writable : ℕ → Row → Bool
  are_writable n none = true
  are_writable n (more s r) = is_seen_writable n s && are_writable n r

abbrev pub is_result_writable : Result Value ℕ → Bool
is_result_writable (Ok v) = is_seen_writable 10 (seen_of v)
is_result_writable (Err code) = true

-- numbers of nodes are below their count
abbrev pub are_nodes : ℕ → List NodeId → Bool
are_nodes count nodes = list_all (λ (n : NodeId). nat_lt n.0 count) nodes
