-- why `replies::Replies::domains` answers as its contract says
use Rattle.std.proofs.Common.{◌≡◌, [], List, ℕ, sym, ap, ◌∙◌}
use Rattle.std.specs.Prelude.{option_copied}
use Rattle.bay_model.specs.NamedLines.{domains as domains_of}
use Rattle.bay_model.specs.Names.{sorted}
use Rattle.bay_model.specs.Configured.{domains_after}
use Rattle.name_order.specs.Sorting.{names_above}
use Rattle.bay_replies.specs.Replied.{listed}
use Rattle.bay_replies.proofs.NameLaws.{filter-all}
use Rattle.bay_replies.proofs.replies.Replies.domains.Goals as goal
use Rattle.list_laws.proofs.Options.{ok_map}

pub returns-in-Some : goal.returns-in-Some
returns-in-Some c =
    let all = domains_of c.args.self.now.model.now in
    let are : c.deref.result.now ≡ sorted all =
    c.deref.ensures.value ∙ (c.in_ok-all.ensures ∙ ap sorted (c.in_ok-domains.ensures ∙ ap (domains_after []) (c.as_slice.ensures ∙ ap (λ k. k.nodes) c.config.ensures.same))) in
    let above : names_above all c.as_slice-in-Some.result.now ≡ listed (option_copied c.args.after) all = ap (names_above all) c.as_slice-in-Some.ensures ∙ ap (λ o. listed (option_copied o) all) (sym c.in-Some.is) in
    ok_map c.names_after.result (λ v. (ns : List (List ℕ)) → c.deref.result.now ≡ sorted ns → v.items ≡ names_above ns c.as_slice-in-Some.result.now) (λ v. v.items ≡ listed (option_copied c.args.after) all)
    (λ v h. h all are ∙ above) c.names_after.ensures

pub returns-in-None : goal.returns-in-None
returns-in-None c =
    c.in_ok-all.ensures
    ∙ (ap sorted (c.in_ok-domains.ensures ∙ ap (domains_after []) (c.as_slice.ensures ∙ ap (λ k. k.nodes) c.config.ensures.same))
    ∙ (sym (filter-all (sorted (domains_of c.args.self.now.model.now)))
    ∙ ap (λ o. listed (option_copied o) (domains_of c.args.self.now.model.now)) (sym c.in-None.is)))
