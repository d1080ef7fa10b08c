-- The blocks of a bay after a deed that doesn't touch their entries (IEC 61850-7-2, BRCB).
use Rattle.std.proofs.Common.{◌≡◌, ℕ, List, [], ◌∷◌, subst, false, Some}
use Rattle.std.specs.Prelude.{max, slice_get}
use Rattle.bay_model.specs.Model.{Model}
use Rattle.bay_model.specs.Points.{Deed, Past, now}
use Rattle.bay_model.specs.Notes.{note}
use Rattle.bay_model.specs.Breaks.{cuts}
use Rattle.bay_model.specs.Singles.{arrival}
use Rattle.brcb_state.specs.Standing.{after_deed, writers_address, OpensNoEnabler}
use Rattle.window_core.specs.Points.{at}
use Rattle.report_block.specs.declared.block.ReportBlock.{ReportBlock}
use Rattle.report_block.specs.Standing.{Stands as BlockStands, BlocksStand}
use Rattle.report_block.proofs.PlainLaws.{left-alone}

-- a deed that writes no component, opens no association that has enabled a block, is no event of any block, and breaks none
pub record IsApart (m : Model) (n t : ℕ) (d : Deed) (past : Past) : Type 0 where
  pub address : [] ≡ writers_address d past
  pub opens : (b : ℕ) → OpensNoEnabler b d past
  pub note : (b : ℕ) → note m b (at n t d) past ≡ []
  pub cuts : (b : ℕ) → cuts m b d past ≡ false

-- each block as such a deed leaves it at a moment
abbrev pub AreLeft : Deed → ℕ → List ReportBlock → List ReportBlock → Type 0
AreLeft d now parts new = (b : ℕ) (q : ReportBlock) → slice_get new b ≡ Some q
    → (p : ReportBlock) × (slice_get parts b ≡ Some p) × (record p { block = after_deed b d p.ring.front now [] p.block } ≡ q)

pub parts-left : (m : Model) (n t : ℕ) (d : Deed) (past : Past) (parts new : List ReportBlock) → IsApart m n t d past → AreLeft d (max t (now past)) parts new → BlocksStand m (arrival n t ∷ past) parts → BlocksStand m (at n t d ∷ past) new
parts-left m n t d past parts new apart left st = λ b q there.
    let was = left b q there in
    subst (λ x. BlockStands x m b (at n t d ∷ past)) was.2 (left-alone m b t n past was.0 d apart.address (apart.opens b) (apart.note b) (apart.cuts b) (st b was.0 was.1))
