-- why `history::History::close` answers as its contract says
use Rattle.std.proofs.Common.{◌≡◌, ℕ, ◌<◌, ◌≤◌, length, sym, subst, ap, ◌∙◌, refl}
use Rattle.sv_base.specs.declared.config.Config.{Config}
use Rattle.bay_model.specs.Answers.{History}
use Rattle.bay_histories.specs.Rules.{Rules}
use Rattle.bay_histories.specs.Histories.{IsEarlier, by, IsLegal, IsShuffle}
use Rattle.history_lock.specs.declared.view.About.{About}
use Rattle.history_lock.specs.Passes.{Known, Site, HasNumber, Became}
use Rattle.history_lock.proofs.Passing.{known_of, all_of}
use Rattle.history_lock.proofs.Joining.{became}
use Rattle.history_lock.proofs.history.History.close.Goals as goal

abbrev IsSeen : Rules → ℕ → Known → Config → Type 0
IsSeen rules n p c = (log : History) × (n ≡ length log) × IsEarlier p.seen log × IsLegal rules c log

abbrev IsWhole : ℕ → Known → Site → Type 0
IsWhole n p h = ((k : ℕ) → k < h.actors → HasNumber p k) → (n ≡ length p.seen) × IsShuffle h.actors (λ k. by k p.seen) p.seen

-- the steps of a number are those that the pass had seen which became this one
parts_whole : (rules : Rules) (n : ℕ) (p : Known) (h : Site) → IsWhole n p h → (parts : ℕ → Known) → ((k : ℕ) → k < h.actors → Became rules k (parts k) p)
    → (n ≡ length p.seen) × IsShuffle h.actors (λ k. by k (parts k).seen) p.seen
parts_whole rules n p h whole parts came =
    let w = whole (λ k near. (became rules k (parts k) p (came k near)).0) in
    (w.0, ((λ k near. (became rules k (parts k) p (came k near)).1), w.1.1))

pub returns-clause-seen : goal.returns-clause-seen
returns-clause-seen g c =
    let e = c.close.ensures in
    let h : Site = record { table = c.self.inside.lock.table.shared.table_id; actors = c.self.inside.about.actors; config = c.self.inside.about.model } in
    subst (λ (x : Site). IsSeen g.M.StateMachine.rules c.close.result c.args.pass x.config) c.self.view_is
    (subst (λ (p : Known). IsSeen g.M.StateMachine.rules c.close.result p h.config) c.pass.view_is
    (e.0, e.1, e.2, subst (λ (a : About). IsLegal g.M.StateMachine.rules a.model e.0) c.self.invariant e.5))

pub returns-clause-whole : goal.returns-clause-whole
returns-clause-whole g c =
    let e = c.close.ensures in
    let i = c.pass.inside in
    let h : Site = record { table = c.self.inside.lock.table.shared.table_id; actors = c.self.inside.about.actors; config = c.self.inside.about.model } in
    let whole : IsWhole c.close.result (known_of i) h = λ all.
    (let same = e.3 (all_of i c.self.inside.lock.table.shared.key.actors c.pass.invariant.3
    (λ k near. all k (subst (λ (a : About). k < a.actors) c.self.invariant near))) in
    (e.1 ∙ ap length (sym same), ((λ k near. refl), λ k far. ap (by k) same ∙ e.4 k (subst (λ (a : About). a.actors ≤ k) (sym c.self.invariant) far)))) in
    let now : IsWhole c.close.result c.args.pass c.args.self = subst (λ (x : Site). IsWhole c.close.result c.args.pass x) c.self.view_is
    (subst (λ (p : Known). IsWhole c.close.result p h) c.pass.view_is whole) in
    parts_whole g.M.StateMachine.rules c.close.result c.args.pass c.args.self now
