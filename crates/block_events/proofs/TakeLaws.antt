-- What a Take gives, by the blocks of the bay.
use Rattle.std.proofs.Common.{◌≡◌, ℕ, List, [], ◌∷◌, length, refl}
use Rattle.std.specs.Prelude.{None, Some, slice_get}
use Rattle.std.specs.Option.{option_map}
use Rattle.sv_base.specs.declared.numbers.AssocNo.{AssocNo}
use Rattle.bay_model.specs.declared.answer.Answer.TheVariants as answers
use Rattle.bay_model.specs.declared.report.Report.{Report}
use Rattle.bay_model.specs.declared.tables.MemberShape.{MemberShape}
use Rattle.bay_model.specs.Model.{Model}
use Rattle.bay_model.specs.Points.{Past, nothing}
use Rattle.bay_model.specs.Sets.{members}
use Rattle.bay_model.specs.Notes.{Kept}
use Rattle.bay_model.specs.Associations.{Ends, ends}
use Rattle.bay_model.specs.Waiting.{waiting}
use Rattle.bay_model.specs.Reports.{first_offer}
use Rattle.bay_model.specs.Singles.{arrival}
use Rattle.bay_model.specs.Takes.{taken}
use Rattle.set_view.specs.Shapes.{node_numbers}
use Rattle.report_block.specs.declared.block.ReportBlock.{ReportBlock}
use Rattle.block_reports.specs.Blanks.{AreFew}
use Rattle.report_block.specs.Offers.{Offered, first_offered, chosen, chosen_of}
use Rattle.block_reports.specs.Reporting.{report_by}
use Rattle.report_block.proofs.OfferLaws.{AreTold, told, told-choice}
use Rattle.block_reports.proofs.GivenLaws.{given_of, told-given, told-nothing}
use Rattle.report_block.specs.Standing.{BlocksStand}

module _ (m : Model) (a : AssocNo) (n moment : ℕ) (past : Past) (parts : List ReportBlock) (count : length parts ≡ length m.blocks) (stand : BlocksStand m (arrival n moment ∷ past) parts) where
  abbrev after : Past
  after = arrival n moment ∷ past

  first-told : AreTold m after (first_offer m a.0 after 0 m.blocks) (first_offered a 0 parts)
  first-told = told m after a parts count stand

  -- the entry that is offered first
  pub choice : option_map chosen (first_offer m a.0 after 0 m.blocks) ≡ option_map chosen_of (first_offered a 0 parts)
  choice = told-choice m after (first_offer m a.0 after 0 m.blocks) (first_offered a 0 parts) first-told

  pub none : (e : Ends) → first_offered a 0 parts ≡ None → ends a.0 past ≡ Some e → waiting m a.0 past ≡ [] → taken m a.0 after ≡ record { answer = answers.Empty; deed = nothing }
  none e is opened empty = rw (opened, empty) (told-nothing m after a.0 (first_offer m a.0 after 0 m.blocks) (first_offered a 0 parts) first-told is)

  pub given : (e : Ends) (o : Offered) (shapes : List MemberShape) (part : ReportBlock) (r : Report) → first_offered a 0 parts ≡ Some o → ends a.0 past ≡ Some e → waiting m a.0 past ≡ [] → slice_get parts o.block ≡ Some part
      → node_numbers shapes ≡ members m o.block past
      → ((ks : List Kept) → AreFew 256 o.entry.kept ks → r ≡ report_by m shapes part o ks) → taken m a.0 after ≡ given_of a.0 o.block o.next.id r
  given e o shapes part r is opened empty there nodes is_report =
      rw (opened, empty) (told-given m after a o shapes part r (stand o.block part there) nodes is_report (first_offer m a.0 after 0 m.blocks) (first_offered a 0 parts) first-told is)

-- an association that isn't open
pub closed : (m : Model) (a : AssocNo) (n moment : ℕ) (past : Past) → ends a.0 past ≡ None → taken m a.0 (arrival n moment ∷ past) ≡ record { answer = answers.Closed; deed = nothing }
closed m a n moment past shut = rw shut refl
