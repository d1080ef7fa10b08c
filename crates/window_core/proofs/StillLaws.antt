-- While a group is open, what its events are gathered by stands still.
use Rattle.std.proofs.Common.{◌≡◌, ◌≢◌, ℕ, Bool, true, false, List, [], ◌∷◌, ◌++◌, refl, ◌∙◌}
use Rattle.bay_model.specs.Model.{Model}
use Rattle.bay_model.specs.Points.{Point, Past}
use Rattle.bay_model.specs.Parameters.{parameters_at}
use Rattle.bay_model.specs.Breaks.{cuts}
use Rattle.bay_model.specs.Groups.{open_group}
use Rattle.window_core.specs.Still.{AreStill, IsOpenThrough}
use Rattle.window_core.proofs.DeedLaws.{break-quiet, unbroken-unchanged, unchanged}
use Rattle.window_core.proofs.GroupLaws.{broken-none}

module _ (c : Model) (b : ℕ) where
  point-still : (p : Point) (before : Past) → open_group c b (p ∷ before) ≢ [] → AreStill (parameters_at c b (p ∷ before)) (parameters_at c b before)
  point-still p before opened = either (cuts c b p.deed before) refl
    where
      either : (t : Bool) → cuts c b p.deed before ≡ t → AreStill (parameters_at c b (p ∷ before)) (parameters_at c b before)
      either true is = absurd (opened (broken-none c b p.moment p.step before p.deed (break-quiet c b p.moment p.step before p.deed is) is))
      either false is = unchanged c b p.moment p.step before p.deed (unbroken-unchanged c b p.moment p.step before p.deed is)

  pub points-still : (ps : List Point) (before : Past) → IsOpenThrough c b ps before → AreStill (parameters_at c b (ps ++ before)) (parameters_at c b before)
  points-still [] before opened = record { dat_set = refl; buf_tm = refl; trg_ops = refl }
  points-still (p ∷ ps) before opened =
      let now = point-still p (ps ++ before) opened.0 in
      let rest = points-still ps before opened.1 in
      record { dat_set = now.dat_set ∙ rest.dat_set; buf_tm = now.buf_tm ∙ rest.buf_tm; trg_ops = now.trg_ops ∙ rest.trg_ops }
