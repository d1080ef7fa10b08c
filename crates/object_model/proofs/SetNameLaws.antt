-- Names that a data set may have: the logical node is there.
use Rattle.std.proofs.Common.{◌≡◌, ◌+◌, ◌∙◌, ◌∷◌, ℕ, Bool, true, false, List, [], Option, Some, is_some, refl, ap, ap₂, sym}
use Rattle.std.specs.Prelude.{◌&&◌, ◌||◌, position, if◌then◌else◌}
use Rattle.std.specs.Option.{option_map}
use Rattle.std.specs.List.{list_any}
use Rattle.std.specs.Str.{bytes_eq}
use Rattle.list_laws.proofs.Places.{place-cons}
use Rattle.sv_base.specs.declared.config.Config.{Config}
use Rattle.sv_base.specs.declared.numbers.NodeId.{NodeId}
use Rattle.bay_model.specs.Definitions.{has_node}
use Rattle.bay_model.specs.Model.{Node}
use Rattle.bay_model.specs.Named.{configured_model, nodes}
use Rattle.object_model.specs.Tables.{node_named}
use Rattle.list_laws.proofs.Options.{some_mapped}
use Rattle.list_laws.proofs.Distinct.{octets_turned as turned}

some-at : (p q : Node → Bool) → ((n : Node) → p n ≡ q n) → (ns : List Node) → is_some (position p ns) ≡ list_any q ns
some-at p q same [] = refl
some-at p q same (n ∷ ns) = ap is_some (place-cons p n ns) ∙ by (p n) (q n) (same n) (some-at p q same ns) where
  by : (x y : Bool) → x ≡ y → is_some (position p ns) ≡ list_any q ns → is_some (if x then Some 0 else option_map (λ i. i + 1) (position p ns)) ≡ (y || list_any q ns)
  by true true e later = refl
  by false false e later = some_mapped (λ i. i + 1) (position p ns) ∙ later
  by true false e later = cc
  by false true e later = cc

pub has-told : (c : Config) (o : Option NodeId) (domain item : List ℕ) → option_map (λ (n : NodeId). n.0) o ≡ node_named (nodes c) domain item → is_some o ≡ has_node (configured_model c) domain item
has-told c o domain item is = sym (some_mapped (λ (n : NodeId). n.0) o) ∙ (ap is_some is
    ∙ some-at (λ (n : Node). bytes_eq domain n.domain && bytes_eq item n.item) (λ (n : Node). bytes_eq n.domain domain && bytes_eq n.item item) (λ n. ap₂ (λ x y. x && y) (turned domain n.domain) (turned item n.item)) (nodes c))
