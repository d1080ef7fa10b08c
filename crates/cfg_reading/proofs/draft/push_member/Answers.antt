-- why `draft::push_member` answers as its contract says
use Rattle.std.proofs.Common.{◌∷◌, [], ◌++◌, List, ℕ, sym, ap, ◌∙◌}
use Rattle.sv_base.specs.declared.config.SetDef.{SetDef}
use Rattle.cfg_lines.specs.Configs.{with_member}
use Rattle.cfg_lines.proofs.ConfigLaws.{with_member-last}
use Rattle.cfg_reading.proofs.draft.push_member.Goals as goal

pub returns : goal.returns
returns c =
    let members = c.from_vec.ensures ∙ (c.in_ok-push.ensures.items ∙ ap (λ ms. ms ++ c.args.reference ∷ []) c.into_vec-members.ensures) in
    let with : List (List ℕ) → SetDef = λ ms. record { line = c.in-Some.set.line; domain = c.in-Some.set.domain; ln = c.in-Some.set.ln; name = c.in-Some.set.name; members = ms } in
    c.in_ok-push-2.ensures.items
    ∙ (ap (λ ms. c.pop.new.self.items ++ with ms ∷ []) members
    ∙ (sym (with_member-last c.pop.new.self.items c.in-Some.set c.args.reference) ∙ ap (λ sets. with_member sets c.args.reference) (sym c.in-Some.ensures.items)))
