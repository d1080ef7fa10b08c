-- why `book::SetBook::delete` answers as its contract says
use Rattle.std.proofs.Common.{rules, ◌≡◌, suc, List, ◌++◌, map, take, drop, ap, ◌∙◌}
use Rattle.data_sets.specs.Books.{Booked, Book, seen}
use Rattle.data_sets.proofs.PlaceLaws.{map_removed}
use Rattle.data_sets.proofs.book.SetBook.delete.Goals as goal

pub returns : goal.returns
returns c =
    let items = c.self.inside.entries.items in
    let at = c.args.number in
    let gone : c.remove.new.self.items ≡ take at items ++ drop (suc at) items = search (rules, c.remove.ensures.items) in
    ap (λ (l : List Booked). record { configured = c.self.inside.configured; sets = l }) (ap (map seen) gone ∙ map_removed seen items at)
    ∙ ap (λ (b : Book). record { configured = b.configured; sets = take at b.sets ++ drop (suc at) b.sets }) c.self.view_is
