-- why `racing::run` answers as its contract says
use Rattle.std.proofs.Common.{◌≡◌, sym, refl, subst, arith}
use Rattle.history_lock.specs.Passes.{Site, first_of, itself}
use Rattle.script_threads.specs.Dealing.{IsRest}
use Rattle.script_threads.proofs.racing.run.Goals as goal

first_rest : (h : Site) → h.actors ≡ 33 → IsRest h 33 (first_of h)
first_rest h is = ((refl, refl), refl, is, refl, refl, omega arith)

pub play_scripts-requires-clause-pass : goal.play_scripts-requires-clause-pass
play_scripts-requires-clause-pass g c κs within = subst (IsRest c.args.history 33) (sym c.requires.pass) (first_rest c.args.history c.requires.actors)

pub returns : goal.returns
returns g c =
    let n = c.in-Ok.ensures.numbers in
    let w = c.close-total.ensures.whole (λ _. c.play_scripts.new.pass) (λ k near. itself (n.1 k (omega (arith, near, c.requires.actors)))) in
    (c.play_scripts.new.pass.seen, w.0, c.in-Ok.ensures.raced (λ k far. w.1.1 k (omega (arith, far, c.requires.actors))))
