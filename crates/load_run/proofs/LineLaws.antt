-- A step, a line, and what they make of what a loading stands for.
use Rattle.std.proofs.Common.{◌≡◌, ◌≤◌, ◌==◌, ℕ, suc, false, not, List, ◌∷◌, refl, sym, ap, subst, ◌∙◌, arith}
use Rattle.std.specs.Prelude.{Ok}
use Rattle.sv_base.specs.declared.config.Config.{Config}
use Rattle.bay_model.specs.Named.{configured_model}
use Rattle.bay_model.specs.Answers.{Turn, History}
use Rattle.bay_model.specs.declared.answer.Answer.{Answer}
use Rattle.bay_model.specs.declared.step.Step.{Step}
use Rattle.bay_core.specs.Turns.{Does}
use Rattle.run_record.specs.declared.line.RecLine.{RecLine}
use Rattle.record_steps.specs.Forms.{Form, is_shut, Stands, form_behind}
use Rattle.record_steps.specs.Formed.{form_in}
use Rattle.record_steps.specs.Resolved.{association_of, told_of}
use Rattle.record_steps.specs.Telling.{telling}
use Rattle.record_steps.specs.Told.{Told, turn}
use Rattle.record_steps.specs.declared.heard.Heard.{Heard}
use Rattle.record_steps.specs.declared.telling.Told as told_as
use Rattle.record_steps.specs.declared.telling.Told.TheVariants as tolds
use Rattle.record_steps.proofs.ToldLaws.{told-own}
use Rattle.record_outcome.specs.Histories.{form_after, form_at, form_of, moment_after, moment_of, parts_in, steps_of}
use Rattle.record_outcome.specs.Texts.{turns_in}
use Rattle.record_outcome.proofs.HistoryLaws.{onto-line, standing}
use Rattle.record_session.specs.declared.playing.Playing.{Playing}
use Rattle.record_session.proofs.PlayLaws.{passes-line}
use Rattle.load_run.specs.Counting.{with_answer, IsWithin}
use Rattle.load_run.specs.Summaries.{summary_of}
use Rattle.load_run.specs.Loads.{Carries, IsFew, Moves, FollowsAs, IsFitting}
use Rattle.load_run.specs.declared.loading.Loading.{Loading}
use Rattle.load_run.proofs.CountLaws.{summary-more, within-more}

-- ---- a step

abbrev turn_by : ℕ → ℕ → Step → Turn
turn_by moment actor step = record { moment = moment; actor = actor; step = step }

pub moves-step : (old new : Loading) (actor : ℕ) (step : Step) (given : Answer) → new.moment ≡ old.moment → new.forms ≡ old.forms → Does old.bay new.bay (turn_by old.moment actor step) (Ok given)
    → new.bay.steps ≡ suc old.bay.steps → new.summary ≡ with_answer old.summary given → Moves old new (turn actor step)
moves-step old new actor step given moment forms does counted is = record {
  moment = moment;
  forms = forms;
  carries = λ c form before carried.
      let m = configured_model c in
      let h : History = turns_in before in
      let t : Turn = turn_by old.moment actor step in
      let d = does c h carried.0 in
      (d.1, is ∙ (ap (λ s. with_answer s given) carried.1 ∙ (ap (with_answer (summary_of m h)) d.0 ∙ sym (summary-more m h t))));
  few = λ n few. (omega (arith, counted, few.0), subst (λ s. IsWithin s (suc n)) (sym is) (within-more old.summary given n few.1));
}

-- ---- what was told

later : (l : Loading) (n : ℕ) → IsFew l n → IsFew l (suc n)
later l n few = (omega (arith, few.0), (omega (arith, few.1.0), omega (arith, few.1.1), omega (arith, few.1.2)))

pub moves-none : (old : Loading) (slot : Step) (heard : List Heard) → Moves old old (telling tolds.Nothing slot heard)
moves-none old slot heard = record { moment = refl; forms = refl; carries = λ c form before carried. carried; few = λ n few. later old n few }

pub moves-moment : (old : Loading) (moment : ℕ) (slot : Step) (heard : List Heard) → Moves old (record old { moment = moment }) (telling (tolds.At moment) slot heard)
moves-moment old moment slot heard = record { moment = refl; forms = refl; carries = λ c form before carried. carried; few = λ n few. later old n few }

-- what a line says fits
pub fitting : (c : Config) (form : Form) (line : RecLine) (told : told_as.Told) (slot : Step) (heard : List Heard) → telling told slot heard ≡ told_of c form line → IsFitting c told slot
fitting c form line (tolds.Step actor) slot heard is = (told-own c (λ a. not (is_shut form)) form actor.0 slot line refl (sym is)).1
fitting c form line tolds.Nothing slot heard is = tt
fitting c form line (tolds.At moment) slot heard is = tt
fitting c form line tolds.Heard slot heard is = tt
fitting c form line (tolds.Refused kind) slot heard is = tt
fitting c form line tolds.End slot heard is = tt

-- ---- a line

abbrev played : Loading → Playing
played l = record { bay = l.bay; moment = l.moment; forms = l.forms }

-- its association passes it, and what it told is done
pub follows-line : (old mid new : Loading) (line : RecLine) (k : ℕ) (t : Told) (model : Config) → mid.bay ≡ old.bay → mid.moment ≡ old.moment → mid.summary ≡ old.summary
    → ((a : ℕ) → (k == a) ≡ false → form_in mid.forms a ≡ form_in old.forms a) → k ≡ association_of line
    → ((f : Form) → Stands (form_in old.forms k) f → Stands (form_in mid.forms k) (form_behind (association_of line) line f))
    → model ≡ old.bay.config → ((f : Form) → Stands (form_in old.forms k) f → t ≡ told_of model f line) → Moves mid new t → FollowsAs old new line
follows-line old mid new line k t model bay moment summary others named stands same tells moves = λ text is. record {
  loads = λ c before l.
      let f : Form = form_at (association_of line) before in
      let stood : Stands (form_in old.forms k) f = subst (λ a. Stands (form_in old.forms a) f) (sym named) (l.forms (association_of line)) in
      let says : told_of c f line ≡ t = ap (λ k. told_of k f line) (sym (same ∙ l.carries.0.1.is_config)) ∙ sym (tells f stood) in
      let passed = passes-line (played old) (played mid) line k bay moment others named stands c (standing c before) (record { moment = l.moment; stands = l.carries.0; forms = l.forms }) in
      let carried : Carries mid c (turns_in (steps_of c before)) = (passed.stands, summary ∙ l.carries.1) in
      let after = onto-line c before text (Ok line) t is says (λ r u. (new.moment ≡ moment_after u (moment_of c before)) × Carries new c (turns_in (parts_in (moment_of c before) (form_of before r) u ∷ steps_of c before))
      × ((a : ℕ) → Stands (form_in new.forms a) (form_after a r (form_at a before)))) (
        moves.moment ∙ ap (moment_after t) passed.moment,
        subst (λ ms. Carries new c (turns_in (parts_in ms f t ∷ steps_of c before))) passed.moment (moves.carries c f (steps_of c before) carried),
        λ a. subst (λ fs. Stands (form_in fs a) (form_behind a line (form_at a before))) (sym moves.forms) (passed.forms a),
      ) in
      record { moment = after.0; carries = after.1; forms = after.2 };
  few = λ n few. moves.few n (subst (λ b. b.steps ≤ n) (sym bay) few.0, subst (λ s. IsWithin s n) (sym summary) few.1);
}
