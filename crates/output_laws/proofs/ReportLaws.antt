-- A report that a Take gives can be sent.
use Rattle.std.proofs.Common.{◌≡◌, ℕ, zero, suc, ◌-◌, ◌<◌, ◌≤◌, inl, inr, Bool, true, false, true≢false, append-nil, List, [], ◌∷◌, map, length, refl, sym, ap, subst, ◌∙◌, arith}
use Rattle.std.specs.Prelude.{◌==◌, Option, None, Some, is_none, is_some, nat_le, slice_get, unwrap_or, if◌then◌else◌}
use Rattle.std.specs.List.{All, AllByRecursion}
use Rattle.std.proofs.lemmas.List.Elements.{All-nil, All-cons, All-head, All-tail}
use Rattle.list_laws.proofs.Among.{Each}
use Rattle.sv_base.specs.declared.config.Config.{Config}
use Rattle.sv_base.specs.declared.config.BlockDef.{BlockDef}
use Rattle.bay_model.specs.declared.answer.Answer.TheVariants as answers
use Rattle.bay_model.specs.declared.answer.Output.{Output}
use Rattle.bay_model.specs.declared.answer.Output.TheVariants as outputs
use Rattle.bay_model.specs.declared.report.Member.{Member}
use Rattle.bay_model.specs.declared.report.Report.{Report}
use Rattle.bay_model.specs.declared.step.Step.{Step}
use Rattle.bay_model.specs.declared.step.Step.TheVariants as steps
use Rattle.bay_model.specs.Answers.{Turn, History, points, answer_at}
use Rattle.bay_model.specs.Associations.{ends}
use Rattle.bay_model.specs.Blocks.{enabler, is_mine, next, next_number}
use Rattle.bay_model.specs.Breaks.{is_empty}
use Rattle.bay_model.specs.Lookups.{node_of, no_parameters}
use Rattle.bay_model.specs.Parameters.{parameters_at}
use Rattle.bay_model.specs.Retained.{purged}
use Rattle.bay_model.specs.Configured.{block_defined}
use Rattle.bay_model.specs.Entries.{selected}
use Rattle.bay_model.specs.Model.{Model, Block}
use Rattle.bay_model.specs.Named.{configured_model}
use Rattle.bay_model.specs.Notes.{Kept}
use Rattle.bay_model.specs.Points.{Past, nothing}
use Rattle.bay_model.specs.Reports.{Offer, first_offer, member_of, report_of}
use Rattle.bay_model.specs.Sets.{members, sets}
use Rattle.bay_model.specs.Singles.{arrival}
use Rattle.bay_model.specs.Takes.{taken, given_by, given_report}
use Rattle.bay_model.specs.Waiting as queue
use Rattle.bay_model.specs.Waiting.{Waiting, ending, waiting}
use Rattle.bay_config.specs.Servable.{IsServable, IsReferred}
use Rattle.output_shapes.specs.Shapes.{Ascend, IsShort, HasData, CanBeCut}
use Rattle.output_laws.specs.Legal.{IsLegal}
use Rattle.output_laws.specs.Names.{HasShortNames}
use Rattle.output_laws.proofs.AscendLaws.{Asc, AscEntry, entries-asc, from-get}
use Rattle.output_laws.proofs.FilledLaws.{IsSome, referred-some}
use Rattle.output_laws.proofs.KeepLaws.{IsNaming, AreKeeping, are-keeping, naming, enabled-full}
use Rattle.output_laws.proofs.DataLaws.{IsOneData}
use Rattle.output_laws.proofs.DepthLaws.{IsFlat}
use Rattle.output_laws.proofs.DeedLaws.{AreFine, are-fine}
use Rattle.output_laws.proofs.EntryLaws.{IsDataKept, entries-data, get-data}
use Rattle.output_laws.proofs.OfferLaws.{IsOffered, AreOffered, first-offered, report-short}
use Rattle.output_laws.proofs.ReplyLaws.{IsSaidOutput, replies-said}
use Rattle.output_laws.proofs.WaitingLaws.{IsPut, are-put}

members-data : (c : Model) (ns : List ℕ) (ks : List Kept) → Each IsDataKept ks → All (λ (m : Member). (length m.octets ≤ 500) × IsOneData 10 m.octets) (map (member_of c ns) ks)
members-data c ns [] h = All-nil (λ (m : Member). (length m.octets ≤ 500) × IsOneData 10 m.octets)
members-data c ns (k ∷ ks) h = All-cons (λ (m : Member). (length m.octets ≤ 500) × IsOneData 10 m.octets) (member_of c ns k) (map (member_of c ns) ks) h.0 (members-data c ns ks h.1)

taken-same : (o p : Output) → answers.Taken o ≡ answers.Taken p → o ≡ p
taken-same o p e = cc

report-same : (r s : Report) → answers.Taken (outputs.Report r) ≡ answers.Taken (outputs.Report s) → r ≡ s
report-same r s e = cc

blocks-count : (bs : List BlockDef) → length (map block_defined bs) ≡ length bs
blocks-count [] = refl
blocks-count (b ∷ bs) = ap suc (blocks-count bs)

-- what holds of the report of each offer holds of each report that is given
module _ (P : Report → Type 0) (c : Config) (served : IsServable c) (names : HasShortNames c) (flat : (n : ℕ) → IsFlat (node_of (configured_model c) n).tree) (h : History) (legal : IsLegal c h)
    (so : (a m : ℕ) (o : Offer) → IsOffered (configured_model c) a (arrival (length h) m ∷ points (configured_model c) h) (length c.blocks) o → P (report_of (configured_model c) (arrival (length h) m ∷ points (configured_model c) h) o)) (r : Report) where
  take-so : (a m : ℕ) → (taken (configured_model c) a (arrival (length h) m ∷ points (configured_model c) h)).answer ≡ answers.Taken (outputs.Report r) → P r
  take-so a m given = either (is_none (ends a (points (configured_model c) h))) (waiting (configured_model c) a (points (configured_model c) h)) (are-put (IsSaidOutput c) c a (replies-said c served names flat a) h legal.fit) given
    where
      report : (o : Option Offer) → AreOffered (configured_model c) a (arrival (length h) m ∷ points (configured_model c) h) (length c.blocks) o
          → (given_report (configured_model c) a (arrival (length h) m ∷ points (configured_model c) h) o).answer ≡ answers.Taken (outputs.Report r) → P r
      report None off is = absurd (cc is)
      report (Some o) off is = subst P (report-same _ r is) (so a m o off)

      either : (x : Bool) (ws : List Waiting) → Each (IsPut (IsSaidOutput c)) ws
          → (if x then record { answer = answers.Closed; deed = nothing } else given_by (configured_model c) a (arrival (length h) m ∷ points (configured_model c) h) ws).answer ≡ answers.Taken (outputs.Report r)
          → P r
      either true ws put is = absurd (cc is)
      either false [] put is = report (first_offer (configured_model c) a (arrival (length h) m ∷ points (configured_model c) h) 0 (configured_model c).blocks)
          (first-offered (configured_model c) a (arrival (length h) m ∷ points (configured_model c) h) (length c.blocks) 0 (configured_model c).blocks (omega (arith, blocks-count c.blocks))) is
      either false (queue.reply o ∷ ws) put is = absurd (subst (IsSaidOutput c) (taken-same o (outputs.Report r) is) put.0)
      either false (ending k good ∷ ws) put is = absurd (cc is)

  pub step-so : (t : Turn) (s : Step) → answer_at (configured_model c) (length h) t (points (configured_model c) h) s ≡ answers.Taken (outputs.Report r) → P r
  step-so t (steps.Take a) is = take-so a.0 t.moment is
  step-so t (steps.Open a size writer owner) is = absurd (cc is)
  step-so t (steps.Ask a q) is = absurd (cc is)
  step-so t (steps.Write a b comp v) is = absurd (cc is)
  step-so t (steps.Lost a) is = absurd (cc is)
  step-so t (steps.Value settings) is = absurd (cc is)
  step-so t (steps.Done k good) is = absurd (cc is)
  step-so t (steps.Block k flag) is = absurd (cc is)
  step-so t steps.Tick is = absurd (cc is)

-- ---- a report that can be cut

-- each member is short, and has Data
cut-members : (ms : List Member) → All (λ (m : Member). length m.reference ≤ 129) ms → All (λ (m : Member). (length m.octets ≤ 500) × IsOneData 10 m.octets) ms → AllByRecursion IsShort ms × AllByRecursion HasData ms
cut-members [] short dats = (tt, tt)
cut-members (m ∷ ms) short dats =
    let d = All-head (λ (m : Member). (length m.octets ≤ 500) × IsOneData 10 m.octets) m ms dats in
    let rest = cut-members ms (All-tail (λ (m : Member). length m.reference ≤ 129) m ms short) (All-tail (λ (m : Member). (length m.octets ≤ 500) × IsOneData 10 m.octets) m ms dats) in
    let one : IsOneData 10 m.octets = d.1 in
    (((All-head (λ (m : Member). length m.reference ≤ 129) m ms short, d.0), rest.0), ((one.0, (one.1, one.2, (one.3, one.4))), rest.1))

ascends : (c : Model) (ns : List ℕ) (last total : ℕ) (ks : List Kept) → Asc last total ks → Ascend last total (map (member_of c ns) ks)
ascends c ns last total [] h = tt
ascends c ns last total (k ∷ ks) h = (h.0, h.1, ascends c ns k.number total ks h.2)

-- what is enabled by one is enabled
mine-some : (a : ℕ) (o : Option ℕ) → is_mine (λ e. e == a) o ≡ true → is_some o ≡ true
mine-some a None h = absurd (cc h)
mine-some a (Some e) h = refl

next-number : (c : Model) (b : ℕ) (past : Past) (i : ℕ) → next c b past ≡ Some i → next_number c b past ≡ i
next-number c b past i is = by (nat_le (next_number c b past) (length (selected c b past))) is
  where
    by : (t : Bool) → (if t then Some (next_number c b past) else None) ≡ Some i → next_number c b past ≡ i
    by true h = cc h
    by false h = absurd (cc h)

module _ (c : Config) (served : IsServable c) (names : HasShortNames c) (flat : (n : ℕ) → IsFlat (node_of (configured_model c) n).tree) (filled : Each IsSome (configured_model c).sets) where
  -- the DatSet that a block begins with
  initial-in : (bs : List BlockDef) (b : ℕ) (none : Block) → b < length bs → All (λ (d : BlockDef). IsReferred c d.dat_set) bs → IsNaming (unwrap_or (slice_get (map block_defined bs) b) none).initial.dat_set (configured_model c).sets
  initial-in [] b none below all = absurd (omega (arith, below))
  initial-in (d ∷ bs) zero none below all = All-head (λ (d : BlockDef). IsReferred c d.dat_set) d bs all
  initial-in (d ∷ bs) (suc b) none below all = initial-in bs b none (omega (arith, below)) (All-tail (λ (d : BlockDef). IsReferred c d.dat_set) d bs all)

  first-naming : (b : ℕ) → b < length c.blocks → IsNaming (parameters_at (configured_model c) b []).dat_set (sets (configured_model c) [])
  first-naming b below = subst (IsNaming (parameters_at (configured_model c) b []).dat_set) (sym (append-nil (configured_model c).sets)) (initial-in c.blocks b (record { reference = []; initial = no_parameters; conf_rev = 1; capacity = 0 }) below served.named)

  offer-cut : (a : ℕ) (past : Past) (o : Offer) → AreFine c past → AreKeeping (configured_model c) past → IsOffered (configured_model c) a past (length c.blocks) o → CanBeCut (report_of (configured_model c) past o)
  offer-cut a past o fine keeps off =
      let b = o.block in
      let below : b < length (configured_model c).blocks = omega (arith, off.below, blocks-count c.blocks) in
      let texts = report-short c served names past o fine off.below in
      let dats = members-data (configured_model c) (members (configured_model c) b past) o.entry.members (get-data (selected (configured_model c) b past) (o.id - 1) o.entry (entries-data c served names flat b past fine) off.entry_is) in
      let both = cut-members (report_of (configured_model c) past o).members texts.references dats in
      let first = first-naming b off.below in
      let full = enabled-full (configured_model c) b below past keeps (mine-some a (enabler b past) off.mine) in
      let number = next-number (configured_model c) b past o.id off.next_is in
      let behind : purged (configured_model c) b past ≤ o.id - 1 = omega (arith, number) in
      let asc = from-get (purged (configured_model c) b past) (AscEntry (length (members (configured_model c) b past))) (selected (configured_model c) b past) (o.id - 1) o.entry behind (entries-asc (configured_model c) b below first past keeps) off.entry_is in
      record {
        options = texts.options;
        least = some-members b past fine full (naming (configured_model c) b below first past keeps);
        most = texts.most;
        numbered = ascends (configured_model c) (members (configured_model c) b past) 0 (length (members (configured_model c) b past)) o.entry.members asc;
        rpt_id = texts.rpt_id;
        dat_set = texts.dat_set;
        members = both.0;
        values = both.1;
      }
    where
      some-members : (b : ℕ) (past : Past) → AreFine c past → is_empty (parameters_at (configured_model c) b past).dat_set ≡ false → IsNaming (parameters_at (configured_model c) b past).dat_set (sets (configured_model c) past) → 1 ≤ length (members (configured_model c) b past)
      some-members b past fine full (inl none) = absurd (true≢false (sym (ap is_empty none) ∙ full))
      some-members b past fine full (inr some) = referred-some c filled past fine (parameters_at (configured_model c) b past).dat_set some

pub told-so : (c : Config) → IsServable c → HasShortNames c → ((n : ℕ) → IsFlat (node_of (configured_model c) n).tree) → Each IsSome (configured_model c).sets → (h : History) → IsLegal c h → (r : Report) (t : Turn)
    → answer_at (configured_model c) (length h) t (points (configured_model c) h) t.step ≡ answers.Taken (outputs.Report r) → CanBeCut r
told-so c served names flat filled h legal r t is = step-so CanBeCut c served names flat h legal
    (λ a m o off. offer-cut c served names flat filled a (arrival (length h) m ∷ points (configured_model c) h) o (are-fine c served h legal.fit, tt) (are-keeping (configured_model c) h, tt) off)
    r t t.step is
