-- The Data of a readable member is one element, so that the members of an entry are read back from its octets.
use Rattle.std.proofs.Common.{◌≡◌, ◌≤◌, ℕ, List, [], ◌∷◌, length, sym, subst, arith}
use Rattle.std.specs.List.{All, flat_map}
use Rattle.std.proofs.lemmas.List.Elements.{All-nil, All-cons, All-head, All-tail}
use Rattle.sv_base.specs.Tree.{Seen, plain, structure, truth, int, uint, bits, time, stamp, text, octets, other}
use Rattle.sv_base.specs.Seen.{seen_of}
use Rattle.sv_base.specs.Data.{data_seen}
use Rattle.bay_model.specs.Notes.{Kept}
use Rattle.bay_model.specs.Retained.{kept_octets_of}
use Rattle.block_reports.specs.Again.{IsOneElement, AreKept}
use Rattle.report_block.specs.Standing.{IsMemberKept}
use Rattle.block_reports.proofs.OneElement.{IsSomeData, data_is_one}

-- only what is no value has no octets
some-data : (s : Seen) → 1 ≤ length (data_seen s) → IsSomeData s
some-data (plain other) some = absurd (omega (arith, some))
some-data (plain (truth b)) some = tt
some-data (plain (bits bs)) some = tt
some-data (plain (int z)) some = tt
some-data (plain (uint n)) some = tt
some-data (plain (octets o)) some = tt
some-data (plain (text t)) some = tt
some-data (plain (stamp ms days)) some = tt
some-data (plain (time secs frac quality)) some = tt
some-data (structure r) some = tt

pub kept-element : (k : Kept) → IsMemberKept k → IsOneElement k.octets
kept-element k is =
    let some : 1 ≤ length (data_seen (seen_of is.value)) = subst (λ (o : List ℕ). 1 ≤ length o) is.is_data is.short.0 in
    let short : length (data_seen (seen_of is.value)) ≤ 500 = subst (λ (o : List ℕ). length o ≤ 500) is.is_data is.short.1 in
    subst IsOneElement (sym is.is_data) (data_is_one (seen_of is.value) (some-data (seen_of is.value) some) (omega (arith, short)))

kept-elements : (ks : List Kept) → All IsMemberKept ks → All (λ (k : Kept). IsOneElement k.octets) ks
kept-elements [] all = All-nil (λ (k : Kept). IsOneElement k.octets)
kept-elements (k ∷ ks) all = All-cons (λ (k : Kept). IsOneElement k.octets) k ks (kept-element k (All-head IsMemberKept k ks all)) (kept-elements ks (All-tail IsMemberKept k ks all))

-- the octets of an entry are those of its members
pub are-kept : (kept : List ℕ) (ks : List Kept) → flat_map kept_octets_of ks ≡ kept → All IsMemberKept ks → AreKept kept ks
are-kept kept ks whole all = record { whole = whole; elements = kept-elements ks all }
