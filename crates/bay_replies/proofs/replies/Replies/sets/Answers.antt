-- why `replies::Replies::sets` answers as its contract says
use Rattle.std.proofs.Common.{◌≡◌, sym, ap, ◌∙◌}
use Rattle.std.specs.Prelude.{option_copied}
use Rattle.name_order.specs.Sorting.{names_above}
use Rattle.data_sets.specs.Books.{items_in}
use Rattle.bay_replies.specs.Replied.{listed}
use Rattle.bay_replies.proofs.SetNameLaws.{all-items}
use Rattle.bay_replies.proofs.replies.Replies.sets.Goals as goal
use Rattle.bay_replies.proofs.replies.Replies.sets.Goals.{in-Some, in-None}

pub returns : goal.returns
returns c =
    let book = c.args.self.now.book.now in
    let all = items_in c.args.domain.now book.sets in
    let told : c.into_vec.result.items ≡ names_above all c.match-after.above.now = c.into_vec.ensures ∙ c.in_ok-names.ensures in
    told ∙ elim c.match-after.branch [
      | in-Some w ↦ ap (names_above all) (ap (λ r. r.now) w.above-is ∙ w.as_slice-above.ensures) ∙ ap (λ o. listed (option_copied o) all) (sym w.in-Some.is)
      | in-None w ↦ ap (names_above all) (ap (λ r. r.now) w.above-is) ∙ (all-items book c.args.domain.now c.requires ∙ ap (λ o. listed (option_copied o) all) (sym w.in-None.is))
    ]
