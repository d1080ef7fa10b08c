-- What a line does, by what it says.
use Rattle.std.proofs.Common.{◌≡◌, ◌≤◌, ◌<◌, ◌+◌, ◌++◌, ◌∷◌, ◌==◌, ℕ, suc, false, not, List, [], length, get_or, take, drop, drop-cons, sym, ap, subst, refl, ◌∙◌, append-nil, append_assoc, length-append, inl, inr, arith}
use Rattle.std.proofs.Math.Seq.{take-append_seam}
use Rattle.std.specs.Fmt.{decimal}
use Rattle.std.specs.List.{AllByRecursion}
use Rattle.std.specs.Prelude.{Option, None, Some, Result, Ok, Err, OnErr, IfNone, codes}
use Rattle.std.specs.Option.{option_map}
use Rattle.std.proofs.lemmas.Bool.Decides.{eqb_tells}
use Rattle.sv_base.specs.declared.config.Config.{Config}
use Rattle.sv_base.specs.declared.numbers.ActorNo.{ActorNo}
use Rattle.bay_model.specs.Named.{configured_model}
use Rattle.bay_model.specs.Acceptance.{Fault, fault}
use Rattle.bay_model.specs.Answers.{Turn, answer}
use Rattle.bay_model.specs.declared.answer.Answer.{Answer}
use Rattle.bay_model.specs.declared.step.Step.{Step}
use Rattle.run_record.specs.Grammar.{Spells}
use Rattle.run_record.specs.Spelled.{words}
use Rattle.run_record.specs.Judging.{line_at, number_of}
use Rattle.run_record.specs.declared.fault.Kind.{Kind}
use Rattle.run_record.specs.declared.line.RecLine.{RecLine}
use Rattle.run_record.specs.declared.line.RecLine.TheVariants as lines
use Rattle.bay_core.specs.State.{State}
use Rattle.bay_core.specs.Standing.{StandsFor}
use Rattle.bay_histories.specs.Faults.{named}
use Rattle.bay_core.specs.Turns.{Does}
use Rattle.bay_histories.specs.declared.fault.StepFault.{StepFault}
use Rattle.answer_text.specs.Texts.{lines_of}
use Rattle.stream_lines.specs.declared.shape.Shape.{Shape}
use Rattle.record_steps.specs.Forms.{Form, is_shut, shape_of, plain, Stands, form_behind}
use Rattle.record_steps.specs.Own.{IsFittingPart}
use Rattle.record_steps.specs.Streams.{made}
use Rattle.record_steps.specs.declared.heard.Heard.{Heard}
use Rattle.record_steps.specs.declared.heard.Heard.TheVariants.{Tells, Makes}
use Rattle.record_steps.specs.Resolved.{association_of, told_of}
use Rattle.record_steps.specs.Telling.{telling, most_steps}
use Rattle.record_steps.specs.declared.form.Form as programs
use Rattle.record_steps.specs.declared.telling.Told as told_as
use Rattle.record_steps.specs.declared.telling.Told.TheVariants as tolds
use Rattle.record_steps.proofs.FormLaws.{form-elsewhere, shape-plain}
use Rattle.record_steps.proofs.ToldLaws.{told-own}
use Rattle.record_outcome.specs.Played.{Played, turn_at, with_turn, past_line}
use Rattle.record_outcome.specs.Steps.{stop_of, accepted, then_on, heard_on, played, told_at, step_at}
use Rattle.record_steps.specs.Formed.{form_in}
use Rattle.record_session.specs.Plays.{Plays, PlaysTo, PlaysOn, PlaysSlot, Performs, DoesPart, DoesParts, IsReadyPart, IsReady, most_of, plays_told}
use Rattle.record_session.specs.declared.playing.Playing.{Playing}
use Rattle.record_outcome.specs.declared.status.Status.{Status}
use Rattle.record_outcome.specs.declared.status.Status.TheVariants as statuses

abbrev turn : ℕ → ℕ → Step → Turn
turn actor moment step = record { moment = moment; actor = actor; step = step }

-- ---- what a line makes of the associations

-- what is kept of the associations after a line: of its own what that is then, and of each other what was
pub passes-line : (old mid : Playing) (line : RecLine) (k : ℕ) → mid.bay ≡ old.bay → mid.moment ≡ old.moment → ((a : ℕ) → (k == a) ≡ false → form_in mid.forms a ≡ form_in old.forms a) → k ≡ association_of line
    → ((f : Form) → Stands (form_in old.forms k) f → Stands (form_in mid.forms k) (form_behind (association_of line) line f)) → (c : Config) (s : Played) → Plays old c s → Plays mid c (past_line s line)
passes-line old mid line k bay moment others names stands c s p = record {
  moment = moment ∙ p.moment;
  stands = subst (λ b. StandsFor b c s.turns) (sym bay) p.stands;
  forms = λ a. elim (eqb_tells k a) [
    | inl t ↦
        let own : Stands (form_in mid.forms k) (form_behind k line (s.form k)) = subst (λ b. Stands (form_in mid.forms k) (form_behind b line (s.form k))) (sym names) (stands (s.form k) (p.forms k)) in
        subst (λ b. Stands (form_in mid.forms b) (form_behind b line (s.form b))) t.1 own
    | inr t ↦
        let other : (association_of line == a) ≡ false = ap (λ b. b == a) (sym names) ∙ t.0 in
        subst (λ f. Stands f (form_behind a line (s.form a))) (sym (others a t.0)) (subst (Stands (form_in old.forms a)) (sym (form-elsewhere line a (s.form a) other)) (p.forms a))
  ];
}

-- ---- a step

pub on_err : {A E : Type 0} (r : Result A E) (P : Type 0) → P → OnErr r P
on_err (Ok x) P p = tt
on_err (Err e) P p = p

nothing-written : (before now : List ℕ) → now ≡ before → now ≡ before ++ []
nothing-written before now is = is ∙ sym (append-nil before)

pub performs : (old new : Playing) (number : ℕ) (shape : Shape) (actor : ℕ) (step : Step) (given : Answer) (before now : List ℕ) → new.moment ≡ old.moment → new.forms ≡ old.forms → Does old.bay new.bay (turn actor old.moment step) (Ok given)
    → now ≡ before ++ lines_of new.bay.config shape step given → Performs None old new number shape actor step before now
performs old new number shape actor step given before now moment forms does out = λ c s p.
    let d = does c s.turns p.stands in
    let stands : StandsFor new.bay c (turn actor s.moment step ∷ s.turns) = subst (λ m. StandsFor new.bay c (turn actor m step ∷ s.turns)) p.moment d.1 in
    let same : given ≡ answer (configured_model c) s.turns (turn actor s.moment step) = d.0 ∙ ap (λ m. answer (configured_model c) s.turns (turn actor m step)) p.moment in
    subst (λ f. PlaysTo None new (accepted number c s shape (turn_at s actor step) f) before now) (sym stands.0.1) (
      record { moment = moment ∙ p.moment; stands = stands; forms = λ a. subst (λ f. Stands (form_in f a) (s.form a)) (sym forms) (p.forms a) },
      out ∙ (ap (λ k. before ++ lines_of k shape step given) stands.1.is_config ∙ ap (λ g. before ++ lines_of c shape step g) same),
    )

-- the fault that a refusal names
refused-fault : (old : Playing) (actor : ℕ) (step : Step) (f : StepFault) (bay : State) → Does old.bay bay (turn actor old.moment step) (Err f) → (c : Config) (s : Played) → Plays old c s → named f ≡ fault (configured_model c) s.turns (turn_at s actor step)
refused-fault old actor step f bay does c s p = does.1 c s.turns p.stands ∙ ap (λ m. fault (configured_model c) s.turns (turn actor m step)) p.moment

pub performs-stop : (old new : Playing) (number : ℕ) (shape : Shape) (actor : ℕ) (step : Step) (f : StepFault) (bay : State) (status : Status) (before : List ℕ) → Does old.bay bay (turn actor old.moment step) (Err f)
    → option_map (stop_of number) (named f) ≡ Some status → Performs (Some status) old new number shape actor step before before
performs-stop old new number shape actor step f bay status before does is = λ c s p.
    by c s (fault (configured_model c) s.turns (turn_at s actor step)) (sym (ap (option_map (stop_of number)) (refused-fault old actor step f bay does c s p)) ∙ is) where
      by : (c : Config) (s : Played) (o : Option Fault) → option_map (stop_of number) o ≡ Some status → PlaysTo (Some status) new (accepted number c s shape (turn_at s actor step) o) before before
      by c s None e = absurd cc
      by c s (Some g) e = (let same : stop_of number g ≡ status = cc in sym same, nothing-written before before refl)

pub faultless-memory : (old : Playing) (number actor : ℕ) (step : Step) (f : StepFault) (bay : State) → Does old.bay bay (turn actor old.moment step) (Err f) → option_map (stop_of number) (named f) ≡ None
    → (c : Config) (s : Played) → Plays old c s → fault (configured_model c) s.turns (turn_at s actor step) ≡ None
faultless-memory old number actor step f bay does is c s p = by (fault (configured_model c) s.turns (turn_at s actor step)) (sym (ap (option_map (stop_of number)) (refused-fault old actor step f bay does c s p)) ∙ is) where
  by : (o : Option Fault) → option_map (stop_of number) o ≡ None → o ≡ None
  by None e = refl
  by (Some g) e = absurd cc

pub faultless-answered : (old : Playing) (actor : ℕ) (step : Step) (given : Answer) (bay : State) → Does old.bay bay (turn actor old.moment step) (Ok given)
    → (c : Config) (s : Played) → Plays old c s → fault (configured_model c) s.turns (turn_at s actor step) ≡ None
faultless-answered old actor step given bay does c s p =
    sym (ap (λ m. fault (configured_model c) s.turns (turn actor m step)) p.moment) ∙ (does c s.turns p.stands).1.0.1

-- ---- the parts of a piece

-- a step of one is applied
pub does-step : (status : Option Status) (old new : Playing) (number : ℕ) (shape : Shape) (actor : ActorNo) (step : Step) (before now : List ℕ) → Performs status old new number shape actor.0 step before now
    → DoesPart status old new number shape (Makes actor step) before now
does-step None old new number shape actor step before now h = h
does-step (Some status) old new number shape actor step before now h = h

pub within-more : (status : Option Status) (now was most more : ℕ) → most ≤ more → IfNone status (now ≤ was + most) → IfNone status (now ≤ was + more)
within-more None now was most more le h = omega (arith, le, h)
within-more (Some status) now was most more le h = tt

pub within-line : (status : Option Status) (now was most octets : ℕ) → most ≤ suc octets → IfNone status (now ≤ was + most) → IfNone status (now ≤ suc (was + octets))
within-line None now was most octets le h = omega (arith, le, h)
within-line (Some status) now was most octets le h = tt

pub within-one : (status : Option Status) (now was most : ℕ) → most ≡ 1 → IfNone status (now ≤ suc was) → IfNone status (now ≤ was + most)
within-one None now was most is h = omega (arith, is, h)
within-one (Some status) now was most is h = tt

-- the first of some parts, and the rest
module _ (all : List Heard) (i : ℕ) (part : Heard) (there : i < length all) (is : part ≡ get_or all i part) where
  pub parts-from : drop i all ≡ part ∷ drop (i + 1) all
  parts-from = let next : suc i ≡ i + 1 = omega arith in drop-cons all i part there ∙ (ap (λ p. p ∷ drop (suc i) all) (sym is) ∙ ap (λ n. part ∷ drop n all) next)

  pub ready-from : (c : Config) → AllByRecursion (IsReadyPart c) (drop i all) → IsReadyPart c part × AllByRecursion (IsReadyPart c) (drop (i + 1) all)
  ready-from c h = subst (AllByRecursion (IsReadyPart c)) parts-from h

  pub made-from : made (drop i all) ≡ made (part ∷ []) + made (drop (i + 1) all)
  made-from = ap made parts-from ∙ by part where
    by : (p : Heard) → made (p ∷ drop (i + 1) all) ≡ made (p ∷ []) + made (drop (i + 1) all)
    by (Tells text) = omega arith
    by (Makes actor step) = omega arith

-- of all parts those before these were done: what is applied so far, and the text so far
abbrev pub DoneSo : Playing → Playing → ℕ → Shape → (all rest : List Heard) → (before now : List ℕ) → Type 0
DoneSo old here number shape all rest before now = (c : Config) (s : Played) → Plays old c s
    → (mid : Played) × (text : List ℕ) × Plays here c mid × (now ≡ before ++ text) × (heard_on number c shape all s [] ≡ heard_on number c shape rest mid text)

module _ (old : Playing) (number : ℕ) (shape : Shape) (all : List Heard) (before : List ℕ) where
  pub done-none : DoneSo old old number shape all all before before
  done-none = λ c s p. (s, [], p, nothing-written before before refl, refl)

  pub done-more : (here new : Playing) (part : Heard) (rest : List Heard) (now later : List ℕ) → DoneSo old here number shape all (part ∷ rest) before now → DoesPart None here new number shape part now later
      → DoneSo old new number shape all rest before later
  done-more here new (Tells more) rest now later so does = λ c s p.
      let h = so c s p in
      (h.0, h.1 ++ more, subst (λ (q : Playing). Plays q c h.0) (sym does.0) h.2, does.1 ∙ (ap (λ o. o ++ more) h.3 ∙ append_assoc before h.1 more), h.4)
  done-more here new (Makes actor step) rest now later so does = λ c s p.
      let h = so c s p in
      by c s h.0 h.1 h.3 h.4 (fault (configured_model c) h.0.turns (turn_at h.0 actor.0 step)) refl (does c h.0 h.2) where
        by : (c : Config) (s mid : Played) (text : List ℕ) → now ≡ before ++ text → heard_on number c shape all s [] ≡ heard_on number c shape (Makes actor step ∷ rest) mid text → (o : Option Fault) → fault (configured_model c) mid.turns (turn_at mid actor.0 step) ≡ o
            → PlaysTo None new (accepted number c mid shape (turn_at mid actor.0 step) o) now later
            → (mid : Played) × (text : List ℕ) × Plays new c mid × (later ≡ before ++ text) × (heard_on number c shape all s [] ≡ heard_on number c shape rest mid text)
        by c s mid text is same None none h =
            let t : Turn = turn_at mid actor.0 step in
            let more : List ℕ = lines_of c shape t.step (answer (configured_model c) mid.turns t) in
            (with_turn mid t, text ++ more, h.0, h.1 ∙ (ap (λ o. o ++ more) is ∙ append_assoc before text more), same ∙ ap (then_on number c (heard_on number c shape rest) mid shape text t) none)
        by c s mid text is same (Some f) some h = absurd h

  pub done-all : (new : Playing) (now : List ℕ) → DoneSo old new number shape all [] before now → DoesParts None old new number shape all before now
  done-all new now so = λ c s p.
      let h = so c s p in
      subst (λ m. PlaysTo None new m before now) (sym h.4) (h.2, h.3)

  taken-back : (text later : List ℕ) → later ≡ before ++ text → take (length before) later ≡ before ++ []
  taken-back text later is = ap (take (length before)) is ∙ (take-append_seam before text ∙ sym (append-nil before))

  pub done-stop : (here new : Playing) (part : Heard) (rest : List Heard) (now later : List ℕ) (status : Status) → DoneSo old here number shape all (part ∷ rest) before now → DoesPart (Some status) here new number shape part now later
      → DoesParts (Some status) old new number shape all before (take (length before) later)
  done-stop here new (Tells more) rest now later status so does = absurd does
  done-stop here new (Makes actor step) rest now later status so does = λ c s p.
      let h = so c s p in
      subst (λ m. PlaysTo (Some status) new m before (take (length before) later)) (sym h.4) (by c h.0 h.1 h.3 (fault (configured_model c) h.0.turns (turn_at h.0 actor.0 step)) (does c h.0 h.2)) where
        by : (c : Config) (mid : Played) (text : List ℕ) → now ≡ before ++ text → (o : Option Fault) → PlaysTo (Some status) new (accepted number c mid shape (turn_at mid actor.0 step) o) now later
            → PlaysTo (Some status) new (then_on number c (heard_on number c shape rest) mid shape text (turn_at mid actor.0 step) o) before (take (length before) later)
        by c mid text is None h = absurd h
        by c mid text is (Some f) h = (h.0, taken-back text later (h.1 ∙ (append-nil now ∙ is)))

-- ---- what was told

-- each part of a piece that is to be heard fits
ready-part : (c : Config) (part : Heard) → IsFittingPart c part → IsReadyPart c part
ready-part c (Tells text) fit = tt
ready-part c (Makes actor step) fit = fit.0

ready-parts : (c : Config) (hs : List Heard) → AllByRecursion (IsFittingPart c) hs → AllByRecursion (IsReadyPart c) hs
ready-parts c [] fit = tt
ready-parts c (h ∷ hs) fit = (ready-part c h fit.0, ready-parts c hs fit.1)

-- what a line says fits
pub told-ready : (c : Config) (form : Form) (line : RecLine) (told : told_as.Told) (slot : Step) (hs : List Heard) → telling told slot hs ≡ told_of c form line → AllByRecursion (IsFittingPart c) hs → IsReady c told slot hs
told-ready c form line (tolds.Step actor) slot hs is fit =
    (told-own c (λ a. not (is_shut form)) form actor.0 slot line refl (sym is)).1
told-ready c form line tolds.Heard slot hs is fit = ready-parts c hs fit
told-ready c form line tolds.Nothing slot hs is fit = tt
told-ready c form line (tolds.At moment) slot hs is fit = tt
told-ready c form line (tolds.Refused kind) slot hs is fit = tt
told-ready c form line tolds.End slot hs is fit = tt

-- it makes no more steps than the line may
some-steps : (line : RecLine) → 1 ≤ most_steps line
some-steps (lines.Piece a hex) = omega arith
some-steps lines.Skip = omega arith
some-steps (lines.At moment) = omega arith
some-steps (lines.Open a form) = omega arith
some-steps (lines.Write a block comp value) = omega arith
some-steps (lines.Pdu a hex) = omega arith
some-steps (lines.Take a) = omega arith
some-steps (lines.Lost a) = omega arith
some-steps (lines.Set pairs) = omega arith
some-steps (lines.Done control well) = omega arith
some-steps (lines.Block control on) = omega arith
some-steps lines.Tick = omega arith
some-steps lines.End = omega arith

pub most-told : (line : RecLine) (told : told_as.Told) (hs : List Heard) → made hs ≤ most_steps line → most_of told hs ≤ most_steps line
most-told line tolds.Heard hs few = few
most-told line tolds.Nothing hs few = some-steps line
most-told line (tolds.At moment) hs few = some-steps line
most-told line (tolds.Step actor) hs few = some-steps line
most-told line (tolds.Refused kind) hs few = some-steps line
most-told line tolds.End hs few = some-steps line

-- and a line may no more than it has octets, and one
in-text : (number hex text : List ℕ) → text ≡ codes "in" ++ 32 ∷ (number ++ 32 ∷ hex) → length hex ≤ length text
in-text number hex text is = omega (arith, ap length is, length-append number (32 ∷ hex))

pub line-steps : (text : List ℕ) (line : RecLine) → Spells text line → most_steps line ≤ suc (length text)
unfolding words
line-steps text (lines.Piece a hex) s = omega (arith, in-text (decimal a.0) hex text s.text_)
line-steps text lines.Skip s = omega arith
line-steps text (lines.At moment) s = omega arith
line-steps text (lines.Open a form) s = omega arith
line-steps text (lines.Write a block comp value) s = omega arith
line-steps text (lines.Pdu a hex) s = omega arith
line-steps text (lines.Take a) s = omega arith
line-steps text (lines.Lost a) s = omega arith
line-steps text (lines.Set pairs) s = omega arith
line-steps text (lines.Done control well) s = omega arith
line-steps text (lines.Block control on) s = omega arith
line-steps text lines.Tick s = omega arith
line-steps text lines.End s = omega arith

module _ (old : Playing) (number : ℕ) (shape : Shape) (slot : Step) (heard : List Heard) (before : List ℕ) where
  pub slot-nothing : PlaysSlot None old old number shape tolds.Nothing slot heard before before
  unfolding played
  slot-nothing = λ c s p. (p, nothing-written before before refl)

  pub slot-pass : (moment : ℕ) → PlaysSlot None old (record old { moment = moment }) number shape (tolds.At moment) slot heard before before
  unfolding played
  slot-pass moment = λ c s p. (record { moment = refl; stands = p.stands; forms = p.forms }, nothing-written before before refl)

  pub slot-step : (stop : Option Status) (new : Playing) (actor : ActorNo) (now : List ℕ) → Performs stop old new number shape actor.0 slot before now → PlaysSlot stop old new number shape (tolds.Step actor) slot heard before now
  unfolding played
  slot-step stop new actor now performs = performs

  pub slot-heard : (stop : Option Status) (new : Playing) (now : List ℕ) → DoesParts stop old new number shape heard before now → PlaysSlot stop old new number shape tolds.Heard slot heard before now
  unfolding played
  slot-heard stop new now does = does

  pub slot-refused : (kind : Kind) → PlaysSlot (Some (statuses.Record number (number_of kind))) old old number shape (tolds.Refused kind) slot heard before before
  unfolding played
  slot-refused kind = λ c s p. (refl, nothing-written before before refl)

  pub slot-end : (now : List ℕ) → now ≡ before ++ codes "end\n" → PlaysSlot (Some statuses.Ok) old old number shape tolds.End slot heard before now
  unfolding played
  slot-end now out = λ c s p. (refl, out)

-- ---- a line

-- its association passes it, and then what it says is done
pub plays-line : (old mid new : Playing) (number : ℕ) (line : RecLine) (form : programs.Form) (shape : Shape) (told : told_as.Told) (slot : Step) (heard : List Heard) (stop : Option Status) (model : Config) (before now : List ℕ)
    → ((c : Config) (s : Played) → Plays old c s → Plays mid c (past_line s line)) → form ≡ form_in old.forms (association_of line) → shape ≡ shape_of (plain form) → model ≡ mid.bay.config
    → ((f : Form) → Stands form f → telling told slot heard ≡ told_of model f line) → PlaysSlot stop mid new number shape told slot heard before now → PlaysOn stop old new (plays_told number line) before now
plays-line old mid new number line form shape told slot heard stop model before now pass is shaped same tells plays = λ c s p.
    let q = pass c s p in
    let stands : Stands form (s.form (association_of line)) = subst (λ f. Stands f (s.form (association_of line))) (sym is) (p.forms (association_of line)) in
    let t : telling told slot heard ≡ told_of c (s.form (association_of line)) line = tells (s.form (association_of line)) stands ∙ ap (λ k. told_of k (s.form (association_of line)) line) (same ∙ q.stands.1.is_config) in
    subst (λ t. PlaysTo stop new (played number c (past_line s line) (shape_of (s.form (association_of line))) t) before now) t
    (subst (λ h. PlaysTo stop new (played number c (past_line s line) h (telling told slot heard)) before now) (shaped ∙ shape-plain form (s.form (association_of line)) stands) (plays c (past_line s line) q))

-- a line that says something, and one that is refused
module _ (old new : Playing) (number : ℕ) (text before now : List ℕ) where
  pub reads-told : (stop : Option Status) (line : RecLine) → line_at text ≡ Ok line → PlaysOn stop old new (plays_told number line) before now → PlaysOn stop old new (λ c s. step_at number c s text) before now
  unfolding step_at
  reads-told stop line is plays = λ c s p. subst (λ r. PlaysTo stop new (told_at number c s r) before now) (sym is) (plays c s p)

  pub reads-refused : (kind : Kind) → line_at text ≡ Err kind → now ≡ before → PlaysOn (Some (statuses.Record number (number_of kind))) old new (λ c s. step_at number c s text) before now
  unfolding step_at
  reads-refused kind is same = λ c s p. subst (λ r. PlaysTo (Some (statuses.Record number (number_of kind))) new (told_at number c s r) before now) (sym is) (refl, nothing-written before now same)
