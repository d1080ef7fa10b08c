-- The members of an entry from the octets that its block keeps (IEC 61850-7-2, the report format; ISO 9506-2, Data).
use Rattle.std.specs.Prelude.{◌≡◌, ◌<◌, ◌-◌, ℕ, ◌/◌, ◌%◌, ◌==◌, List, map, length, slice_get}
use Rattle.std.specs.List.{All, flat_map}
use Rattle.std.specs.Option.{option_map_or}
use Rattle.ber_grammar.specs.Element.{Element, Spells}
use Rattle.sv_base.specs.declared.config.Config.{Config}
use Rattle.bay_model.specs.declared.report.Member.{Member}
use Rattle.bay_model.specs.declared.report.Reasons.{Reasons}
use Rattle.bay_model.specs.declared.tables.MemberShape.{MemberShape}
use Rattle.bay_model.specs.Model.{Model}
use Rattle.bay_model.specs.Named.{configured_model, nodes}
use Rattle.bay_model.specs.Notes.{Kept}
use Rattle.bay_model.specs.Reports.{member_of, reference_at, no_reference}
use Rattle.bay_model.specs.Retained.{kept_octets_of}
use Rattle.set_view.specs.Shapes.{node_numbers}
use Rattle.block_reports.specs.declared.members.Front.{Front}

-- one element, and nothing after it
abbrev pub IsOneElement : List ℕ → Type 0
IsOneElement octets = (e : Element) × Spells octets e

-- the octets are those that are kept of these members, each with one element of Data
pub record AreKept (octets : List ℕ) (ks : List Kept) : Type 0 where
  pub whole : flat_map kept_octets_of ks ≡ octets
  pub elements : All (λ (k : Kept). IsOneElement k.octets) ks

-- the reasons whose bits are set
abbrev pub reasons_in : ℕ → Reasons
reasons_in w = record { dchg = w / 64 % 2 == 1; qchg = w / 32 % 2 == 1; dupd = w / 16 % 2 == 1; intg = w / 8 % 2 == 1; gi = w / 4 % 2 == 1 }

-- the nodes of the shapes are there
abbrev pub AreNodes : Config → List MemberShape → Type 0
AreNodes c shapes = All (λ (m : MemberShape). m.node.0 < length (nodes c)) shapes

-- the reference of a member of a data set of these nodes, by its number from 1
abbrev pub reference_by : Model → List ℕ → ℕ → List ℕ
reference_by c ns number = option_map_or (λ n. reference_at c n) (slice_get ns (number - 1)) no_reference

-- what the members are in reports of a data set of these shapes
abbrev pub reported : Config → List MemberShape → List Kept → List Member
reported c shapes ks = map (member_of (configured_model c) (node_numbers shapes)) ks

-- what stands in front of kept octets: a kept member, and the octets after it
abbrev pub front_member : Front → Kept
front_member f = record { number = f.number; reasons = f.reasons; octets = f.octets.now }

abbrev pub front_seen : Front → Kept × List ℕ
front_seen f = (front_member f, f.rest.now)
