-- why `laws::sets_are_found` answers as its contract says
use Rattle.std.proofs.Common.{refl, ap, ◌∙◌, List, map, filter}
use Rattle.std.specs.Str.{bytes_eq}
use Rattle.std.specs.List.{find}
use Rattle.bay_model.specs.Model.{DataSet}
use Rattle.bay_model.specs.Lookups.{reference_of}
use Rattle.bay_model.specs.Sets.{is_named}
use Rattle.data_sets.specs.Books.{is_name, reference}
use Rattle.data_sets.proofs.HistoryLaws.{found, items}
use Rattle.data_sets.proofs.laws.sets_are_found.Goals as goal

pub returns-clause-named : goal.returns-clause-named
returns-clause-named c = λ b c' name past h. found (λ s. is_name name s.name) (is_named name) (λ s. refl) b.sets ∙ ap (find (is_named name)) h.sets

pub returns-clause-referred : goal.returns-clause-referred
returns-clause-referred c = λ b c' r past h. found (λ s. bytes_eq r (reference s)) (λ (s : DataSet). bytes_eq r (reference_of s.domain s.item)) (λ s. refl) b.sets ∙ ap (find (λ (s : DataSet). bytes_eq r (reference_of s.domain s.item))) h.sets

pub returns-clause-items : goal.returns-clause-items
returns-clause-items c = λ b c' domain past h. items domain b.sets ∙ ap (λ (l : List DataSet). map (λ (s : DataSet). s.item) (filter (λ (s : DataSet). bytes_eq s.domain domain) l)) h.sets
