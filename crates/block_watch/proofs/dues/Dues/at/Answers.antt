-- why `dues::Dues::at` answers as its contract says
use Rattle.std.proofs.Common.{◌∙◌, ◌<◌, List, Option, ℕ, ap, length, subst, sym}
use Rattle.std.specs.Prelude.{slice_get}
use Rattle.block_watch.proofs.WatchLaws.{at-place}
use Rattle.block_watch.proofs.dues.Dues.at.Goals as goal

pub returns : goal.returns
returns c =
    let below = subst (λ (l : List (Option ℕ)). c.args.place < length l) (sym c.self.view_is) c.requires in
    ap (λ (l : List (Option ℕ)). slice_get l c.args.place) (sym c.self.view_is) ∙ at-place c.self.inside.each.items c.args.place c.index.result.now below c.index.ensures
