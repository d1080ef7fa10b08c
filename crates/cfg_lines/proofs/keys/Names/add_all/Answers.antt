-- why `keys::Names::add_all` answers as its contract says
use Rattle.std.proofs.Common.{◌+◌, ◌||◌, map, take, get_or, sym, ap, ◌∙◌}
use Rattle.std.specs.Prelude.{ℕ, Vec}
use Rattle.std.specs.declared.alloc.Global.{Global}
use Rattle.std.proofs.lemmas.List.{take_all}
use Rattle.std.proofs.lemmas.List.Folds.{list_any_more}
use Rattle.cfg_lines.specs.Keys.{octets_of}
use Rattle.cfg_lines.specs.Paths.{clashes, is_taken}
use Rattle.cfg_lines.proofs.KeyLaws.{any-map, shifted}
use Rattle.cfg_lines.proofs.keys.Names.add_all.Goals as goal

pub loop-path-preserved : goal.loop-path-preserved
loop-path-preserved c = λ q.
    let p = λ (v : Vec ℕ Global). clashes q (octets_of v) in
    let i = c.loop-path.path-index in
    let xs = c.args.paths.now in
    let name = c.deref.ensures.value ∙ ap octets_of c.path-item.is in
    let more = any-map (clashes q) octets_of (take (i + 1) xs) ∙ (list_any_more p xs i c.path-item.result c.loop-path-test.true
    ∙ ap (λ b. b || p (get_or xs i c.path-item.result)) (sym (any-map (clashes q) octets_of (take i xs)))) in
    c.in_ok-add.ensures q
    ∙ (ap (λ path. clashes q path || is_taken c.loop-path.self q) name
    ∙ (ap (λ b. p (get_or xs i c.path-item.result) || b) (c.loop-path.invariant q)
    ∙ (shifted (is_taken (map octets_of (take i xs)) q) (is_taken c.args.self.now q) (p (get_or xs i c.path-item.result))
    ∙ sym (ap (λ b. b || is_taken c.args.self.now q) more))))

pub returns : goal.returns
returns c = λ q. c.loop-path.invariant q ∙ ap (λ ys. is_taken (map octets_of ys) q || is_taken c.args.self.now q) (take_all c.loop-path.path-index c.args.paths.now c.loop-path-test.false)
