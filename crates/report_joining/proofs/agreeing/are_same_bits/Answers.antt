-- why `agreeing::are_same_bits` answers as its contract says
use Rattle.std.proofs.Common.{◌≡◌, ◌∙◌, sym, rules, true}
use Rattle.std.specs.Cmp.{booleans_Decides}
use Rattle.std.proofs.lemmas.Slice.Eq.{slice_eq-Decides}
use Rattle.report_joining.proofs.agreeing.are_same_bits.Goals as goal

pub returns : goal.returns
returns c =
    let d = slice_eq-Decides booleans_Decides _ _ _ c.eq.ensures in
    let there : c.eq.result ≡ true → c.args.a.now ≡ c.args.b.now = λ e. sym c.as_slice.ensures ∙ d.0 e ∙ c.as_slice-2.ensures in
    let back : c.args.a.now ≡ c.args.b.now → c.eq.result ≡ true = λ e. d.1 (c.as_slice.ensures ∙ e ∙ sym c.as_slice-2.ensures) in
    search (rules, there, back)
