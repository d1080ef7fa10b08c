-- The report that a Take gives is that of the offer.
use Rattle.std.proofs.Common.{◌≡◌, ℕ, Bool, List, length, map, refl, sym, subst, ap, ◌∙◌, None, Some, Option}
use Rattle.std.proofs.lemmas.List.{length-map}
use Rattle.sv_base.specs.declared.numbers.AssocNo.{AssocNo}
use Rattle.bay_model.specs.declared.answer.Answer.TheVariants as answers
use Rattle.bay_model.specs.declared.answer.Output.TheVariants as outputs
use Rattle.bay_model.specs.declared.report.Report.{Report}
use Rattle.bay_model.specs.declared.tables.MemberShape.{MemberShape}
use Rattle.bay_model.specs.Model.{Model, Parameters}
use Rattle.bay_model.specs.Lookups.{block_of}
use Rattle.bay_model.specs.Points.{Past, reported, nothing}
use Rattle.bay_model.specs.Parameters.{parameters_at, conf_rev}
use Rattle.bay_model.specs.Sets.{members}
use Rattle.bay_model.specs.Notes.{Kept}
use Rattle.bay_model.specs.Entries.{Entry}
use Rattle.bay_model.specs.Blocks.{sq_num, is_overflown}
use Rattle.bay_model.specs.Reports.{Offer, report_id, member_of, report_of}
use Rattle.bay_model.specs.Takes.{Given, given_report}
use Rattle.set_view.specs.Shapes.{node_numbers}
use Rattle.brcb_state.specs.declared.told.Next.{Next}
use Rattle.entry_ring.specs.Held.{Held}
use Rattle.entry_ring.specs.Standing.{held}
use Rattle.report_block.specs.declared.block.ReportBlock.{ReportBlock}
use Rattle.block_reports.specs.Blanks.{AreFew}
use Rattle.report_block.specs.Standing.{Stands}
use Rattle.report_block.specs.Offers.{Offered}
use Rattle.block_reports.specs.Reporting.{report_by}
use Rattle.block_reports.proofs.ReadableLaws.{are-kept}
use Rattle.report_block.proofs.OfferLaws.{IsTold, AreTold}

-- a report by what it is made of
abbrev made : Model → ℕ → ℕ → Entry → Parameters → List ℕ → ℕ → Bool → ℕ → ℕ → List ℕ → Report
made c b id e options reference sq ovfl revision total nodes = record {
  block = record { 0 = b };
  rpt_id = report_id options.rpt_id reference;
  opt_flds = options.opt_flds;
  sq = sq;
  time = e.moment;
  dat_set = options.dat_set;
  ovfl = ovfl;
  id = id;
  conf_rev = revision;
  total = total;
  members = map (member_of c nodes) e.members;
}

made-same : (c : Model) (b id : ℕ) (e : Entry) (o o' : Parameters) (r r' : List ℕ) (sq sq' : ℕ) (ovfl ovfl' : Bool) (rev rev' total total' : ℕ) (ns ns' : List ℕ)
    → o ≡ o' → r ≡ r' → sq ≡ sq' → ovfl ≡ ovfl' → rev ≡ rev' → total ≡ total' → ns ≡ ns'
    → made c b id e o r sq ovfl rev total ns ≡ made c b id e o' r' sq' ovfl' rev' total' ns'
made-same c b id e o o' r r' sq sq' ovfl ovfl' rev rev' total total' ns ns' h1 h2 h3 h4 h5 h6 h7 = rw (h1, h2, h3, h4, h5, h6, h7) refl

total-same : (shapes : List MemberShape) (nodes : List ℕ) → node_numbers shapes ≡ nodes → length shapes ≡ length nodes
total-same shapes nodes is = sym (length-map shapes (λ (m : MemberShape). m.node.0)) ∙ ap length is

-- the report of an entry by its block
report-same : (m : Model) (past : Past) (b : ℕ) (n : Next) (e : Entry) (shapes : List MemberShape) (part : ReportBlock) → Stands part m b past → n.sq ≡ sq_num b past → n.ovfl ≡ is_overflown m b past → node_numbers shapes ≡ members m b past
    → report_by m shapes part (record { block = b; next = n; entry = held e }) e.members ≡ report_of m past (record { block = b; id = n.id; entry = e })
report-same m past b n e shapes part st sq ovfl nodes =
    made-same m b n.id e part.block.options (parameters_at m b past) part.block.reference (block_of m b).reference n.sq (sq_num b past) n.ovfl (is_overflown m b past) part.block.revision (conf_rev m b past)
    (length shapes) (length (members m b past)) (node_numbers shapes) (members m b past)
    st.block.options st.block.reference sq ovfl st.block.revision (total-same shapes (members m b past) nodes) nodes

abbrev pub given_of : ℕ → ℕ → ℕ → Report → Given
given_of a b id r = record { answer = answers.Taken (outputs.Report r); deed = reported a b id }

same-given : (a b b' id id' : ℕ) (r r' : Report) → r ≡ r' → b ≡ b' → id ≡ id' → given_of a b id r ≡ given_of a b' id' r'
same-given a b b' id id' r r' h1 h2 h3 = rw (h1, h2, h3) refl

module _ (m : Model) (past : Past) (a : AssocNo) (o : Offered) (shapes : List MemberShape) (part : ReportBlock) (r : Report) (st : Stands part m o.block past) (nodes : node_numbers shapes ≡ members m o.block past)
    (is_report : (ks : List Kept) → AreFew 256 o.entry.kept ks → r ≡ report_by m shapes part o ks) where
  told-report : (y : Offer) → IsTold m past y o → report_of m past y ≡ r
  told-report y is =
      let mine : Stands part m y.block past = subst (λ b. Stands part m b past) is.block st in
      let same : report_by m shapes part (record { block = y.block; next = o.next; entry = held y.entry }) y.entry.members ≡ report_of m past (record { block = y.block; id = o.next.id; entry = y.entry }) =
      report-same m past y.block o.next y.entry shapes part mine is.sq is.ovfl (subst (λ b. node_numbers shapes ≡ members m b past) is.block nodes) in
      let here : report_by m shapes part (record { block = o.block; next = o.next; entry = o.entry }) y.entry.members ≡ report_by m shapes part (record { block = y.block; next = o.next; entry = held y.entry }) y.entry.members =
      ap (λ b. report_by m shapes part (record { block = b; next = o.next; entry = o.entry }) y.entry.members) is.block ∙ ap (λ e. report_by m shapes part (record { block = y.block; next = o.next; entry = e }) y.entry.members) is.entry in
      ap (λ i. report_of m past (record { block = y.block; id = i; entry = y.entry })) (sym is.id) ∙ (sym same ∙ (sym here ∙ sym (is_report y.entry.members (record { kept = are-kept o.entry.kept y.entry.members (sym (ap (λ (e : Held). e.kept) is.entry)) is.readable; sound = is.readable; few = is.few }))))

  pub told-given : (x : Option Offer) (p : Option Offered) → AreTold m past x p → p ≡ Some o → given_report m a.0 past x ≡ given_of a.0 o.block o.next.id r
  told-given None None h is = cc
  told-given None (Some q) h is = absurd h
  told-given (Some y) None h is = absurd h
  told-given (Some y) (Some q) h is =
      let same : q ≡ o = cc in
      let mine : IsTold m past y o = subst (IsTold m past y) same h in
      same-given a.0 y.block o.block y.id o.next.id (report_of m past y) r (told-report y mine) (sym mine.block) (sym mine.id)

pub told-nothing : (m : Model) (past : Past) (a : ℕ) (x : Option Offer) (p : Option Offered) → AreTold m past x p → p ≡ None → given_report m a past x ≡ record { answer = answers.Empty; deed = nothing }
told-nothing m past a None p h is = refl
told-nothing m past a (Some y) None h is = absurd h
told-nothing m past a (Some y) (Some q) h is = cc
