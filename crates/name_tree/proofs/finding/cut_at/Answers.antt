-- why `finding::cut_at` answers as its contract says
use Rattle.std.proofs.Common.{◌≡◌, ◌∙◌, ◌+◌, suc, sym, ap, take, drop, arith}
use Rattle.std.proofs.lemmas.Bool.Decides.{nat_tests}
use Rattle.std.proofs.lemmas.List.{take_rest}
use Rattle.bay_model.specs.Named.{nodes}
use Rattle.name_tree.specs.Finding.{node_named}
use Rattle.name_tree.proofs.CutLaws.{found-at-cut, none-at-cut}
use Rattle.name_tree.proofs.finding.cut_at.Goals as goal

pub returns-then-reference-at-ne47 : goal.returns-then-reference-at-ne47
returns-then-reference-at-ne47 c = λ c' f. sym (none-at-cut c.args.reference.now c.args.at 0 (nodes c') (λ e. grind (arith, nat_tests, e)))

pub returns : goal.returns
returns c = λ c' f. c.number_of.ensures c' f ∙ (ap (node_named (nodes c') (take c.args.at c.args.reference.now)) (take_rest c.args.reference.now (c.args.at + 1) ∙ (let next : c.args.at + 1 ≡ suc c.args.at = omega arith in ap (λ k. drop k c.args.reference.now) next)) ∙ found-at-cut c.args.reference.now c.args.at 0 (nodes c') c.requires (grind (arith, nat_tests)))
