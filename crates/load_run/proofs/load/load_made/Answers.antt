-- why `load::load_made` answers as its contract says
use Rattle.std.proofs.Common.{◌≡◌, ◌≤◌, ◌<◌, ◌+◌, ◌^◌, ℕ, List, ◌∷◌, ◌++◌, suc, sym, ap, subst, ◌∙◌, arith}
use Rattle.sv_base.specs.declared.config.Config.{Config}
use Rattle.record_outcome.specs.Histories.{lines_of, history_of}
use Rattle.made_records.specs.declared.draw.Draw.{Draw}
use Rattle.made_records.specs.Made.{first_draw, draw_after, next_draw, line_by}
use Rattle.made_records.specs.Texts.{line_octets, made_record}
use Rattle.made_records.proofs.Drawing.{moment-more}
use Rattle.load_run.specs.Summaries.{IsSummed}
use Rattle.load_run.specs.Loads.{Loads, IsFew}
use Rattle.load_run.proofs.RecordLaws.{read_so, read-more, summed}
use Rattle.load_run.proofs.load.load_made.Goals as goal

pub loop-turn-init : goal.loop-turn-init
loop-turn-init c =
    let opened = c.in_ok-follow.ensures in
    let enabled = c.in_ok-follow-2.ensures in
    record {
      loads = (c.in_ok-loading.loading.bay.config, c.in_ok-loading.ensures.config, enabled.loads _ _ (opened.loads _ _ c.in_ok-loading.ensures.loads));
      few = enabled.few 1 (opened.few 0 c.in_ok-loading.ensures.few);
      draw = c.new-draw.ensures;
      moment = omega (arith, ap (λ (d : Draw). d.moment) c.new-draw.ensures);
    }

pub loop-turn-preserved : goal.loop-turn-preserved
loop-turn-preserved c =
    let seed : ℕ = c.args.seed in
    let n : ℕ = c.loop-turn.turn in
    let k : Config = c.loop-turn.invariant.loads.0 in
    let one : suc n ≡ n + 1 = omega arith in
    let three : suc (n + 2) ≡ n + 1 + 2 = omega arith in
    let follows = c.in_ok-follow-3.ensures in
    let says : c.deref.result.now ≡ line_octets (line_by (draw_after n (first_draw seed))) =
    c.deref.ensures.value ∙ (c.in_ok-push_octets.ensures ∙ (ap (λ o. o ++ line_octets c.next.result) c.clear.ensures.items ∙ ap line_octets (c.next.ensures.line ∙ ap line_by c.loop-turn.invariant.draw))) in
    let more : c.next.new.self.moment ≤ c.loop-turn.draw.moment + 499 = moment-more c.loop-turn.draw c.next.new.self c.next.ensures.draw in
    record {
      loads = (
        k,
        c.loop-turn.invariant.loads.1,
        subst (λ m. Loads c.follow-in-loop-turn.new.loading k (read_so m seed)) one (subst (Loads c.follow-in-loop-turn.new.loading k) (sym (read-more n seed))
            (subst (λ (l : List ℕ). Loads c.follow-in-loop-turn.new.loading k (l ∷ read_so n seed)) says (follows.loads k (read_so n seed) c.loop-turn.invariant.loads.2))),
      );
      few = subst (IsFew c.follow-in-loop-turn.new.loading) three (follows.few (n + 2) c.loop-turn.invariant.few);
      draw = c.next.ensures.draw ∙ (ap next_draw c.loop-turn.invariant.draw ∙ ap (λ m. draw_after m (first_draw seed)) one);
      moment = omega (arith, more, c.loop-turn.invariant.moment);
    }

pub returns : goal.returns
returns c =
    let seed : ℕ = c.args.seed in
    let done : c.loop-turn.turn ≡ c.args.count = omega (arith, c.loop-turn.auto.turn-end, c.loop-turn-test.false) in
    let few : c.loop-turn.turn < 2 ^ 32 = omega (arith, done, c.ranges.count.fits) in
    let all = c.loop-turn.invariant.loads in
    subst (IsSummed (history_of (lines_of (made_record seed c.args.count)))) (sym c.summary.ensures)
    (subst (λ n. IsSummed (history_of (lines_of (made_record seed n))) c.loop-turn.loading.summary) done (summed c.loop-turn.turn seed few all.0 all.1 c.loop-turn.loading all.2))
