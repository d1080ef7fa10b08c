-- The octets of nodes by example, so that a slip in the definitions is refused.
use Rattle.std.proofs.Common.{◌≡◌, map, List, [], ◌∷◌, true, false, refl}
use Rattle.std.specs.Prelude.{codes}
use Rattle.sv_base.specs.declared.types.TypeOf.TheVariants as types
use Rattle.cfg_lines.specs.declared.leaf.Leaf.{Leaf}
use Rattle.cfg_lines.specs.Sizes.{most_octets, leaf_octets, children, octets_of}
use Rattle.cfg_lines.specs.Nodes.{reaches}

int_32-octets : most_octets (types.Int 32) ≡ 6
int_32-octets = refl

uint_32-octets : most_octets (types.Uint 32) ≡ 7
uint_32-octets = refl

quality-octets : most_octets (types.Bits 13) ≡ 5
quality-octets = refl

text_128-octets : most_octets (types.Text 128) ≡ 131
text_128-octets = refl

-- a position, its quality and its time, and a magnitude two levels deeper
status : List Leaf
status = record { name = codes "A/B$ST$Pos$stVal"; octets = 4 } ∷ record { name = codes "A/B$ST$Pos$q"; octets = 5 } ∷ record { name = codes "A/B$ST$Pos$t"; octets = 10 }
    ∷ record { name = codes "A/B$MX$W$mag$i"; octets = 6 } ∷ []

pos-octets : octets_of 10 (leaf_octets status) (children (map (λ leaf. leaf.name) status)) (codes "A/B$ST$Pos") ≡ 21
unfolding octets_of status
pos-octets = refl

magnitude-octets : octets_of 10 (leaf_octets status) (children (map (λ leaf. leaf.name) status)) (codes "A/B$MX$W") ≡ 10
unfolding octets_of status
magnitude-octets = refl

time-octets : octets_of 10 (leaf_octets status) (children (map (λ leaf. leaf.name) status)) (codes "A/B$ST$Pos$t") ≡ 10
unfolding octets_of status
time-octets = refl

part-reached : reaches (codes "A/B$ST$Pos$q" ∷ []) (codes "A/B$ST$Pos") ≡ true
part-reached = refl

beside-reached : reaches (codes "A/B$ST$Pos$q" ∷ []) (codes "A/B$ST$Po") ≡ false
beside-reached = refl
