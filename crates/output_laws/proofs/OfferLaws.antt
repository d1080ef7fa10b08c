-- The parameters of a block have their types, and a report of it has short texts.
use Rattle.std.proofs.Common.{◌≡◌, ℕ, zero, suc, ◌+◌, ◌-◌, ◌<◌, ◌≤◌, Bool, true, false, List, [], ◌∷◌, map, length, refl, arith}
use Rattle.std.specs.Prelude.{◌==◌, Option, None, Some, slice_get, unwrap_or, nat_le, if◌then◌else◌}
use Rattle.std.specs.Option.{option_map, option_map_or, option_and_then}
use Rattle.std.specs.List.{All}
use Rattle.std.proofs.lemmas.Bool.{leb-true, eqb-true}
use Rattle.std.proofs.lemmas.List.Elements.{All-nil, All-cons, All-head, All-tail}
use Rattle.list_laws.proofs.Among.{Each}
use Rattle.sv_base.specs.Kinds.{is_kind, is_in_range}
use Rattle.sv_base.specs.declared.components.Comp.{Comp}
use Rattle.sv_base.specs.declared.components.Comp.TheVariants as comps
use Rattle.sv_base.specs.declared.config.Config.{Config}
use Rattle.sv_base.specs.declared.config.BlockDef.{BlockDef}
use Rattle.sv_base.specs.declared.value.Value.{Value}
use Rattle.sv_base.specs.declared.value.Value.TheVariants as kinds
use Rattle.bay_model.specs.declared.report.Member.{Member}
use Rattle.bay_model.specs.declared.report.Report.{Report}
use Rattle.bay_model.specs.Blocks.{next, is_enabled_by}
use Rattle.bay_model.specs.ComponentTable.{comp_kind}
use Rattle.bay_model.specs.Configured.{block_defined}
use Rattle.bay_model.specs.Entries.{Entry, selected}
use Rattle.bay_model.specs.Lookups.{block_of, no_parameters}
use Rattle.bay_model.specs.Model.{Model, Block, DataSet, Parameters}
use Rattle.bay_model.specs.Named.{configured_model}
use Rattle.bay_model.specs.Notes.{Kept}
use Rattle.bay_model.specs.Parameters.{written_to, parameters_after, parameters_at}
use Rattle.bay_model.specs.Points.{Deed, Past, wrote}
use Rattle.bay_model.specs.Reports.{Offer, offer, earlier, first_offer, reference_at, no_reference, member_of, report_id, report_of}
use Rattle.bay_model.specs.Sets.{members, sets, set_referred}
use Rattle.bay_config.specs.Servable.{IsServable, IsServedBlock}
use Rattle.output_laws.specs.Names.{HasShortNames, IsShortBlock}
use Rattle.output_laws.proofs.DeedLaws.{IsFine, AreFine}
use Rattle.output_laws.proofs.SetLaws.{IsSetMember, IsFoundSet, sets-sound, found-sound}

-- a report's options, its texts, how many members its data set has, and their references, as one that can be cut has them
pub record HasShortTexts (r : Report) : Type 0 where
  pub options : length r.opt_flds ≡ 10
  pub most : r.total ≤ 256
  pub rpt_id : length r.rpt_id ≤ 129
  pub dat_set : length r.dat_set ≤ 129
  pub references : All (λ (m : Member). length m.reference ≤ 129) r.members

-- ---- parameters

pub record AreShort (o : Parameters) : Type 0 where
  pub opt_flds : length o.opt_flds ≡ 10
  pub rpt_id : length o.rpt_id ≤ 129
  pub dat_set : length o.dat_set ≤ 129

abbrev IsTyped : Comp → Value → Type 0
IsTyped comp v = (is_kind (comp_kind comp) v ≡ true) × (is_in_range (comp_kind comp) v ≡ true)

text-short : (t : List ℕ) → nat_le (length t) 129 ≡ true → length t ≤ 129
text-short t h = leb-true (length t) 129 h

write-short : (comp : Comp) (v : Value) (o : Parameters) → IsTyped comp v → AreShort o → AreShort (written_to comp v o)
write-short comps.RptID (kinds.Text t) o h s = record { opt_flds = s.opt_flds; rpt_id = text-short t h.1; dat_set = s.dat_set }
write-short comps.DatSet (kinds.Text t) o h s = record { opt_flds = s.opt_flds; rpt_id = s.rpt_id; dat_set = text-short t h.1 }
write-short comps.OptFlds (kinds.Bits b) o h s = record { opt_flds = eqb-true (length b) 10 h.0; rpt_id = s.rpt_id; dat_set = s.dat_set }
write-short comps.BufTm (kinds.Uint n) o h s = record { opt_flds = s.opt_flds; rpt_id = s.rpt_id; dat_set = s.dat_set }
write-short comps.TrgOps (kinds.Bits b) o h s = record { opt_flds = s.opt_flds; rpt_id = s.rpt_id; dat_set = s.dat_set }
write-short comps.IntgPd (kinds.Uint n) o h s = record { opt_flds = s.opt_flds; rpt_id = s.rpt_id; dat_set = s.dat_set }
write-short _ v o h s = s

block-in : (bs : List BlockDef) (b : ℕ) (none : Block) → b < length bs → All IsShortBlock bs → All IsServedBlock bs
    → AreShort (unwrap_or (slice_get (map block_defined bs) b) none).initial × (length (unwrap_or (slice_get (map block_defined bs) b) none).reference ≤ 129)
block-in [] b none below short served = absurd (omega (arith, below))
block-in (d ∷ bs) zero none below short served =
    let s = All-head IsShortBlock d bs short in
    (record { opt_flds = (All-head IsServedBlock d bs served).opt_flds; rpt_id = s.rpt_id; dat_set = s.dat_set }, s.reference)
block-in (d ∷ bs) (suc b) none below short served = block-in bs b none (omega (arith, below)) (All-tail IsShortBlock d bs short) (All-tail IsServedBlock d bs served)

module _ (c : Config) (served : IsServable c) (names : HasShortNames c) (b : ℕ) (below : b < length c.blocks) where
  after-short : (d : Deed) (o : Parameters) → IsFine c d → AreShort o → AreShort (parameters_after b d o)
  after-short (wrote a k comp v) o fine s = by (k == b)
    where
      by : (t : Bool) → AreShort (if t then written_to comp v o else o)
      by true = write-short comp v o fine s
      by false = s
  after-short _ o fine s = s

  parameters-short : (past : Past) → AreFine c past → AreShort (parameters_at (configured_model c) b past)
  parameters-short [] fine = (block-in c.blocks b (record { reference = []; initial = no_parameters; conf_rev = 1; capacity = 0 }) below names.blocks served.blocks).0
  parameters-short (p ∷ before) fine = after-short p.deed (parameters_at (configured_model c) b before) fine.1 (parameters-short before fine.0)

  reference-short : length (block_of (configured_model c) b).reference ≤ 129
  reference-short = (block-in c.blocks b (record { reference = []; initial = no_parameters; conf_rev = 1; capacity = 0 }) below names.blocks served.blocks).1

-- ---- the offer

-- the block is one of n, and the entry is its next
pub record IsOffered (c : Model) (a : ℕ) (past : Past) (n : ℕ) (o : Offer) : Type 0 where
  pub below : o.block < n
  pub mine : is_enabled_by o.block a past ≡ true
  pub next_is : next c o.block past ≡ Some o.id
  pub entry_is : slice_get (selected c o.block past) (o.id - 1) ≡ Some o.entry

abbrev pub AreOffered : Model → ℕ → Past → ℕ → Option Offer → Type 0
AreOffered c a past n None = Unit {0}
AreOffered c a past n (Some o) = IsOffered c a past n o

module _ (c : Model) (a : ℕ) (past : Past) where
  one-offered : (n b : ℕ) → b < n → is_enabled_by b a past ≡ true → AreOffered c a past n (offer c b past)
  one-offered n b below mine = by (next c b past) refl
    where
      found : (i : ℕ) → next c b past ≡ Some i → (e : Option Entry) → slice_get (selected c b past) (i - 1) ≡ e → AreOffered c a past n (option_map (λ (e : Entry). record { block = b; id = i; entry = e }) e)
      found i is None at = tt
      found i is (Some e) at = record { below = below; mine = mine; next_is = is; entry_is = at }

      by : (i : Option ℕ) → next c b past ≡ i → AreOffered c a past n (option_and_then (λ n. option_map (λ (e : Entry). record { block = b; id = n; entry = e }) (slice_get (selected c b past) (n - 1))) i)
      by None is = tt
      by (Some i) is = found i is (slice_get (selected c b past) (i - 1)) refl

  earlier-offered : (n : ℕ) (x y : Option Offer) → AreOffered c a past n x → AreOffered c a past n y → AreOffered c a past n (earlier x y)
  earlier-offered n None y h k = k
  earlier-offered n (Some x) None h k = h
  earlier-offered n (Some x) (Some y) h k = by (nat_le x.entry.step y.entry.step)
    where
      by : (t : Bool) → AreOffered c a past n (if t then Some x else Some y)
      by true = h
      by false = k

  pub first-offered : (n b : ℕ) (ds : List Block) → b + length ds ≡ n → AreOffered c a past n (first_offer c a past b ds)
  first-offered n b [] is = tt
  first-offered n b (d ∷ ds) is = earlier-offered n (if is_enabled_by b a past then offer c b past else None) (first_offer c a past (suc b) ds) (by (is_enabled_by b a past) refl) (first-offered n (suc b) ds (omega (arith, is)))
    where
      by : (t : Bool) → is_enabled_by b a past ≡ t → AreOffered c a past n (if t then offer c b past else None)
      by true mine = one-offered n b (omega (arith, is)) mine
      by false mine = tt

-- ---- the report

report-id-short : (t reference : List ℕ) → length t ≤ 129 → length reference ≤ 129 → length (report_id t reference) ≤ 129
report-id-short [] reference h k = k
report-id-short (o ∷ os) reference h k = h

-- the nodes of a found set
found-nodes : (c : Config) (o : Option DataSet) → IsFoundSet c o → (length (unwrap_or (option_map (λ (s : DataSet). s.nodes) o) []) ≤ 256) × Each (IsSetMember c) (unwrap_or (option_map (λ (s : DataSet). s.nodes) o) [])
found-nodes c None h = (omega arith, tt)
found-nodes c (Some s) h = (h.few, h.members)

reference-in : (c : Config) (ns : List ℕ) (i : ℕ) → Each (IsSetMember c) ns → length (option_map_or (λ n. reference_at (configured_model c) n) (slice_get ns i) no_reference) ≤ 129
reference-in c [] i h = omega arith
reference-in c (n ∷ ns) zero h = h.0.1
reference-in c (n ∷ ns) (suc i) h = reference-in c ns i h.1

references-short : (c : Config) (ns : List ℕ) (ks : List Kept) → Each (IsSetMember c) ns → All (λ (m : Member). length m.reference ≤ 129) (map (member_of (configured_model c) ns) ks)
references-short c ns [] h = All-nil (λ (m : Member). length m.reference ≤ 129)
references-short c ns (k ∷ ks) h = All-cons (λ (m : Member). length m.reference ≤ 129) (member_of (configured_model c) ns k) (map (member_of (configured_model c) ns) ks) (reference-in c ns (k.number - 1) h) (references-short c ns ks h)

module _ (c : Config) (served : IsServable c) (names : HasShortNames c) where
  pub members-sound : (b : ℕ) (past : Past) → AreFine c past → (length (members (configured_model c) b past) ≤ 256) × Each (IsSetMember c) (members (configured_model c) b past)
  members-sound b past fine = found-nodes c (set_referred (parameters_at (configured_model c) b past).dat_set (sets (configured_model c) past)) (found-sound c _ (sets (configured_model c) past) (sets-sound c served past fine))

  pub report-short : (past : Past) (o : Offer) → AreFine c past → o.block < length c.blocks → HasShortTexts (report_of (configured_model c) past o)
  report-short past o fine below =
      let s = parameters-short c served names o.block below past fine in
      let m = members-sound o.block past fine in
      record {
        options = s.opt_flds;
        most = m.0;
        rpt_id = report-id-short (parameters_at (configured_model c) o.block past).rpt_id (block_of (configured_model c) o.block).reference s.rpt_id (reference-short c served names o.block below);
        dat_set = s.dat_set;
        references = references-short c (members (configured_model c) o.block past) o.entry.members m.1;
      }
