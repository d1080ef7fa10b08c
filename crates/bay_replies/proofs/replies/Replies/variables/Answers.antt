-- why `replies::Replies::variables` answers as its contract says
use Rattle.std.proofs.Common.{◌≡◌, [], ◌++◌, false, sym, ap, ◌∙◌, subst, position}
use Rattle.std.specs.Prelude.{IfOk, option_copied, is_some, if◌then◌else◌}
use Rattle.sv_base.specs.declared.numbers.NodeId.{NodeId}
use Rattle.bay_model.specs.Model.{Node, several, structure, none}
use Rattle.bay_model.specs.Named.{configured_model, nodes}
use Rattle.bay_model.specs.Names.{variables_of}
use Rattle.name_order.specs.Sorting.{names_above}
use Rattle.object_model.proofs.NameLaws.{found}
use Rattle.bay_replies.specs.Replied.{listed, empty_if}
use Rattle.bay_replies.proofs.NameLaws.{all-names, empties, empty-variables, has_name}
use Rattle.bay_replies.proofs.OkLaws.{some-map}
use Rattle.bay_replies.proofs.replies.Replies.variables.Goals as goal

pub returns-in_ok-named-in-None : goal.returns-in_ok-named-in-None
returns-in_ok-named-in-None c =
    let model = c.args.self.now.model.now in
    let domain = c.args.domain.now in
    let ns = variables_of (configured_model model) domain in
    let nobody : Node = record { domain = []; item = []; role = several; tree = structure none; attrs = []; allowed = false } in
    let has : c.is_some-has_empty.result ≡ is_some (position (has_name domain []) (nodes model)) = c.is_some-has_empty.ensures ∙ (some-map (λ (n : NodeId). n.0) c.resolve.result ∙ ap is_some c.resolve.ensures) in
    let count : empties ns ≡ (if c.is_some-has_empty.result then 1 else 0) = empty-variables nobody domain (nodes model) (found model) ∙ ap (λ t. if t then 1 else 0) (sym has) in
    let names : c.into_vec-in-None.result.items ≡ names_above ns [] = c.into_vec-in-None.ensures ∙ c.in_ok-named-in-None.ensures in
    subst (λ l. IfOk c.with_empty.result (λ v. v.items ≡ l))
    (ap (λ l. empty_if c.is_some-has_empty.result ++ l) names ∙ (all-names ns c.is_some-has_empty.result count ∙ ap (λ o. listed (option_copied o) ns) (sym c.in-None.is)))
    c.with_empty.ensures
