-- The results of a read, one after another, and the name of a node.
use Rattle.std.proofs.Common.{◌≡◌, ℕ, zero, suc, ◌+◌, ◌<◌, List, [], ◌∷◌, length, take, get_or, ◌∙◌, ap, arith, Result}
use Rattle.std.proofs.lemmas.List.{length-append, append-nil}
use Rattle.sv_base.specs.declared.value.Value.{Value}
use Rattle.sv_base.specs.declared.config.Config.{Config}
use Rattle.sv_base.specs.declared.numbers.NodeId.{NodeId}
use Rattle.mms_pdu.specs.AskingOctets.{domain_name}
use Rattle.bay_model.specs.Lookups.{node_of}
use Rattle.bay_model.specs.Named.{configured_model}
use Rattle.bay_answers.specs.RepliesVariables.{node_name}
use Rattle.bay_answers.specs.RepliesContents.{result_octets, results_octets}

pub length_of_one_more : (rs : List (Result Value ℕ)) (i : ℕ) (r : Result Value ℕ) → i < length rs → r ≡ get_or rs i r
    → length (results_octets (take (i + 1) rs)) ≡ length (results_octets (take i rs)) + length (result_octets r)
length_of_one_more [] i r lt is = absurd (omega (arith, lt))
length_of_one_more (s ∷ rs) zero r lt is = rw (append-nil, is) (omega arith)
length_of_one_more (s ∷ rs) (suc i) r lt is =
    let next : suc i + 1 ≡ suc (i + 1) = omega arith in
    rw next (omega (
      arith,
      length-append (result_octets s) (results_octets (take i rs)),
      length-append (result_octets s) (results_octets (take (i + 1) rs)),
      length_of_one_more rs i r (omega (arith, lt)) is,
    ))

pub named_node : (c : Config) (n : NodeId) (d i : List ℕ) → d ≡ (node_of (configured_model c) n.0).domain → i ≡ (node_of (configured_model c) n.0).item → domain_name d i ≡ node_name c n
unfolding node_name
named_node c n d i p q = ap (λ (x : List ℕ). domain_name x i) p ∙ ap (λ (x : List ℕ). domain_name (node_of (configured_model c) n.0).domain x) q
