-- Every plan that an input comes to is sound: what holds of where the reading is holds after each line.
use Rattle.std.proofs.Common.{◌≡◌, ◌≢◌, ◌≤◌, ◌<◌, ◌+◌, ◌==◌, ◌&&◌, ◌||◌, ℕ, zero, suc, Bool, true, false, cond, not, List, [], ◌∷◌, ◌++◌, length, take, map, set, replicate, get_or, refl, sym, ap, subst, ◌∙◌, arith, inl, inr, ◌⊎◌, length-append, length-set, append-nil}
use Rattle.std.specs.Prelude.{Option, None, Some, is_some, Result, Ok, Err, codes, nat_lt, if◌then◌else◌}
use Rattle.std.specs.Str.{bytes_eq}
use Rattle.std.specs.List.{slice_split, onto_first}
use Rattle.std.proofs.lemmas.Bool.{eqb-false}
use Rattle.std.proofs.lemmas.Bool.Decides.{leb_tells, eqb_tells}
use Rattle.std.proofs.lemmas.List.{get_or-set_same, get_or-set_other, length-replicate}
use Rattle.std.proofs.lemmas.List.Elements.{All-nil, All-cons, All-push}
use Rattle.std.proofs.lemmas.List.Concat.{flat_map-append}
use Rattle.std.proofs.lemmas.Slice.Eq.{bytes_eq-Decides}
use Rattle.sv_base.specs.declared.config.Config.{Config}
use Rattle.bay_model.specs.declared.step.Step.{Step}
use Rattle.object_model.specs.Fits.{fits}
use Rattle.text_words.specs.Octets.{is_skipped}
use Rattle.text_words.specs.Words.{words_of}
use Rattle.cfg_parser.specs.Looking.{config_at}
use Rattle.cfg_parser.specs.declared.fault.CfgFault.{CfgFault}
use Rattle.cfg_parser.specs.declared.fault.CfgFault.TheVariants as faults
use Rattle.run_record.specs.Grammar.{IsLine, Spells}
use Rattle.run_record.specs.Judging.{is_long}
use Rattle.run_record.specs.Judging as judging
use Rattle.run_record.specs.declared.fault.Kind.{Kind}
use Rattle.run_record.specs.declared.line.RecLine.{RecLine}
use Rattle.run_record.specs.declared.line.RecLine.TheVariants as lines
use Rattle.record_steps.specs.Forms.{is_shut, form_behind}
use Rattle.record_steps.specs.Resolved.{told_of}
use Rattle.record_steps.specs.Told.{Told, skip, pass_to, turn, heard, refused, last}
use Rattle.record_steps.proofs.ToldLaws.{told-own}
use Rattle.record_outcome.specs.Histories.{octets_of, form_after, form_at, onto}
use Rattle.record_outcome.specs.Records.{limit, most_lines, NoNewline, pieces}
use Rattle.record_outcome.specs.Grammar.{IsInner, Each}
use Rattle.script_lines.specs.Grammar.{IsParty}
use Rattle.script_lines.specs.Lines.{script_line_at}
use Rattle.script_lines.specs.Parties.{may_have}
use Rattle.script_lines.specs.declared.party.Party.{Party}
use Rattle.script_lines.specs.declared.party.Party.TheVariants as parties
use Rattle.script_lines.specs.declared.line.ScriptLine.{ScriptLine}
use Rattle.script_lines.specs.declared.line.ScriptLine.TheVariants as scripts
use Rattle.run_record.proofs.ReadLaws.{line-read}
use Rattle.script_lines.proofs.LineLaws.{line-told}
use Rattle.actor_scripts.specs.Stops.{AreFit}
use Rattle.actor_scripts.specs.declared.script.TimedStep.{TimedStep}
use Rattle.actor_scripts.proofs.Lists.{map_last}
use Rattle.history_laws.specs.Written.{actor_of}
use Rattle.script_plans.specs.Forms.{form_in, form_passed, IsFit}
use Rattle.script_plans.specs.Plans.{Script, Plan, script_of, with_script}
use Rattle.script_plans.specs.Moves.{Place, opening, configuring, between, inside, Move, goes, stops, ends}
use Rattle.script_plans.specs.Scripting.{most_scripts, actor_for, processes_with, counted, opened, begins, strange, ended, between_step, between_as, between_at, at_moment, taken, told_in, inside_step, inside_as, inside_at}
use Rattle.script_plans.specs.Openings.{headed, opening_at, started, configuring_at}
use Rattle.script_plans.specs.Inputs as inputs
use Rattle.script_plans.specs.Inputs.{passed, lines_at, ready, moved, run, outcome}
use Rattle.script_plans.specs.Sound.{IsActor, IsTold, AreTold, IsScriptOrNone, IsText, IsPlacedBelow, ArePlacedApart, IsSound, PlansAreSound}
use Rattle.script_plans.specs.declared.line.StepLine.{StepLine}
use Rattle.script_plans.specs.declared.form.ScriptForm.{ScriptForm}
use Rattle.script_plans.specs.declared.form.ScriptForm.TheVariants as forms
use Rattle.script_plans.specs.declared.opened.Opened.{Opened}
use Rattle.record_outcome.proofs.LineLaws.{NoTen}
use Rattle.script_plans.proofs.TellLaws.{association-made, process-made, passed-in, process-passed, fit-behind, passed-at}
use Rattle.record_outcome.specs.declared.status.Status.TheVariants as statuses

-- ---- lists

-- the pieces between newlines have none
clean-onto : (x : ℕ) (ps : List (List ℕ)) → (x == 10) ≡ false → Each NoNewline ps → Each NoNewline (onto_first x ps)
clean-onto x [] other e = (All-cons NoTen x [] other (All-nil NoTen), tt)
clean-onto x (p ∷ ps) other e = (All-cons NoTen x p other e.0, e.1)

clean-by : (x : ℕ) (ps : List (List ℕ)) (b : Bool) → (x == 10) ≡ b → Each NoNewline ps → Each NoNewline (cond b ([] ∷ ps) (onto_first x ps))
clean-by x ps true is e = (All-nil NoTen, e)
clean-by x ps false is e = clean-onto x ps is e

pub pieces-clean : (octets : List ℕ) → Each NoNewline (pieces octets)
pieces-clean [] = (All-nil NoTen, tt)
pieces-clean (x ∷ xs) = clean-by x (slice_split (λ b. b == 10) xs) (x == 10) refl (pieces-clean xs)

each-push : (P : List ℕ → Type 0) (xs : List (List ℕ)) (x : List ℕ) → Each P xs → P x → Each P (xs ++ x ∷ [])
each-push P [] x e p = (p, tt)
each-push P (y ∷ ys) x e p = (e.0, each-push P ys x e.1 p)

octets-push : (ls : List (List ℕ)) (line : List ℕ) → octets_of (ls ++ line ∷ []) ≡ octets_of ls ++ (line ++ 10 ∷ [])
octets-push ls line = flat_map-append (λ (l : List ℕ). l ++ 10 ∷ []) ls (line ∷ []) ∙ ap (λ o. octets_of ls ++ o) (append-nil (line ++ 10 ∷ []))

-- the texts of lines, and these with the newest first
abbrev pub texts : List StepLine → List (List ℕ)
texts ls = map (λ (l : StepLine). l.text) ls

pub onto-push : (acc xs : List (List ℕ)) (x : List ℕ) → onto acc (xs ++ x ∷ []) ≡ x ∷ onto acc xs
onto-push acc [] x = refl
onto-push acc (y ∷ ys) x = onto-push (y ∷ acc) ys x

pub newest-push : (ls : List StepLine) (l : StepLine) → onto [] (texts (ls ++ l ∷ [])) ≡ l.text ∷ onto [] (texts ls)
newest-push ls l = ap (onto []) (map_last (λ (l : StepLine). l.text) ls l) ∙ onto-push [] (texts ls) l.text

told-push : (c : Config) (k : ℕ) (acc : List (List ℕ)) (ls : List StepLine) (ss : List TimedStep) (l : StepLine) (s : TimedStep) → AreTold c k acc ls ss → IsTold c k (onto acc (texts ls)) l s → AreTold c k acc (ls ++ l ∷ []) (ss ++ s ∷ [])
told-push c k acc [] [] l s are is = (is, tt)
told-push c k acc [] (y ∷ ys) l s are is = absurd are
told-push c k acc (x ∷ xs) [] l s are is = absurd are
told-push c k acc (x ∷ xs) (y ∷ ys) l s are is = (are.0, told-push c k (x.text ∷ acc) xs ys l s are.1 is)

abbrev nothing : Option Script
nothing = None

none-there : (n k : ℕ) → get_or (replicate n nothing) k nothing ≡ nothing
none-there zero k = refl
none-there (suc n) zero = refl
none-there (suc n) (suc k) = none-there n k

-- ---- what holds after n lines

pub record GoodScript (n : ℕ) (c : Config) (k : ℕ) (s : Script) : Type 0 where
  pub some : 0 < k
  pub few : k < 33
  pub told : AreTold c k [] s.lines s.steps
  pub fit : AreFit c s.steps
  pub short : length s.steps ≤ n

abbrev pub GoodOrNone : ℕ → Config → ℕ → Option Script → Type 0
GoodOrNone n c k None = Unit {0}
GoodOrNone n c k (Some s) = GoodScript n c k s

pub record GoodPlan (n : ℕ) (p : Plan) : Type 0 where
  pub text : IsText p.config p.text
  pub places : length p.scripts ≡ 33
  pub scripts : (k : ℕ) → GoodOrNone n p.config k (script_of p k)
  pub count : p.count ≤ 16
  pub processes : p.processes ≤ p.count
  pub low : (k : ℕ) → IsPlacedBelow p.count (script_of p k)
  pub apart : (j k : ℕ) → j ≢ k → ArePlacedApart (script_of p j) (script_of p k)

pub record GoodOpened (n : ℕ) (c : Config) (o : Opened) : Type 0 where
  pub good : GoodScript n c o.actor o.script
  pub actor : IsActor o.actor o.party (onto [] (texts o.script.lines)) o.form
  pub early : 441763200000 ≤ o.moment
  pub late : o.moment ≤ 4294967295999
  pub fit : IsFit o.form

-- its place is after those of all scripts before it
abbrev pub IsSeated : Plan → Opened → Type 0
IsSeated p o = (o.script.place < p.count) × ((k : ℕ) → IsPlacedBelow o.script.place (script_of p k))

abbrev pub Good : ℕ → Place → Type 0
Good n opening = Unit {0}
Good n (configuring before text) = (inner : List (List ℕ)) × (text ≡ octets_of inner) × Each IsInner inner
Good n (between p) = GoodPlan n p
Good n (inside p o) = GoodPlan n p × GoodOpened n p.config o × IsSeated p o

abbrev pub GoodMove : ℕ → Move → Type 0
GoodMove n (goes to) = Good n to
GoodMove n (stops status) = Unit {0}
GoodMove n (ends p) = GoodPlan n p

more-script : (n m : ℕ) (c : Config) (k : ℕ) (s : Script) → n ≤ m → GoodScript n c k s → GoodScript m c k s
more-script n m c k s le g = record { some = g.some; few = g.few; told = g.told; fit = g.fit; short = omega (arith, g.short, le) }

more-or : (n m : ℕ) (c : Config) (k : ℕ) (o : Option Script) → n ≤ m → GoodOrNone n c k o → GoodOrNone m c k o
more-or n m c k None le g = tt
more-or n m c k (Some s) le g = more-script n m c k s le g

more-plan : (n m : ℕ) (p : Plan) → n ≤ m → GoodPlan n p → GoodPlan m p
more-plan n m p le g = record { text = g.text; places = g.places; scripts = λ k. more-or n m p.config k (script_of p k) le (g.scripts k); count = g.count; processes = g.processes; low = g.low; apart = g.apart }

more-opened : (n m : ℕ) (c : Config) (o : Opened) → n ≤ m → GoodOpened n c o → GoodOpened m c o
more-opened n m c o le g = record { good = more-script n m c o.actor o.script le g.good; actor = g.actor; early = g.early; late = g.late; fit = g.fit }

sound-or : (c : Config) (k : ℕ) (o : Option Script) → GoodOrNone most_lines c k o → IsScriptOrNone c k o
sound-or c k None g = tt
sound-or c k (Some s) g = record { some = g.some; few = g.few; told = g.told; fit = g.fit; short = g.short }

below-more : (n m : ℕ) (o : Option Script) → n ≤ m → IsPlacedBelow n o → IsPlacedBelow m o
below-more n m None le low = tt
below-more n m (Some s) le low = omega (arith, low, le)

sound-plan : (n : ℕ) (p : Plan) → n ≤ most_lines → GoodPlan n p → IsSound p
sound-plan n p le g = record {
  text = g.text;
  places = g.places;
  scripts = λ k. sound-or p.config k (script_of p k) (more-or n most_lines p.config k (script_of p k) le (g.scripts k));
  low = λ k. below-more p.count 16 (script_of p k) g.count (g.low k);
  apart = g.apart;
}

-- ---- the lines before the scripts

headed-good : (n number : ℕ) (ws : List (List ℕ)) → GoodMove n (headed number ws)
headed-good n number [] = tt
headed-good n number (word ∷ []) = tt
headed-good n number (word ∷ version ∷ []) = by (bytes_eq word (codes "rehearse") && not (length version == 0)) (bytes_eq version (codes "1")) where
  by : (a b : Bool) → GoodMove n (if a then (if b then goes (configuring number []) else stops (statuses.Record number 2)) else stops (statuses.Record number 1))
  by true true = ([], refl, tt)
  by true false = tt
  by false b = tt
headed-good n number (word ∷ version ∷ more ∷ rest) = tt

opening-good : (n number : ℕ) (line : List ℕ) → GoodMove n (opening_at number line)
unfolding opening_at
opening-good n number line = by (is_long line) (is_skipped line) where
  by : (a b : Bool) → GoodMove n (if a then stops (statuses.Record number 8) else if b then goes opening else headed number (words_of line))
  by true b = tt
  by false true = tt
  by false false = headed-good n number (words_of line)

started-good : (n before : ℕ) (inner : List (List ℕ)) (text : List ℕ) (r : Result Config CfgFault) → text ≡ octets_of inner ++ (codes "end" ++ 10 ∷ []) → Each IsInner inner → config_at text ≡ r → GoodMove n (started before text r)
started-good n before inner text (Ok c) is each reads = record {
  text = record { inner = inner; octets = is; are_inner = each; config = reads };
  places = length-replicate 33 nothing;
  scripts = λ k. subst (GoodOrNone n c k) (sym (none-there 33 k)) tt;
  count = omega arith;
  processes = omega arith;
  low = λ k. subst (IsPlacedBelow 0) (sym (none-there 33 k)) tt;
  apart = λ j k other. subst (λ o. ArePlacedApart o (get_or (replicate 33 nothing) k nothing)) (sym (none-there 33 j)) tt;
}
started-good n before inner text (Err (faults.Refused line kind)) is each reads = tt
started-good n before inner text (Err faults.Memory) is each reads = tt

configuring-good : (n before : ℕ) (text line : List ℕ) → NoNewline line → Good n (configuring before text) → GoodMove n (configuring_at before text line)
unfolding configuring_at
configuring-good n before text line none good = by (bytes_eq line (codes "end")) refl where
  inner : List (List ℕ)
  inner = good.0

  by : (b : Bool) → bytes_eq line (codes "end") ≡ b
      → GoodMove n (if b then started before (text ++ (line ++ 10 ∷ [])) (config_at (text ++ (line ++ 10 ∷ []))) else goes (configuring before (text ++ (line ++ 10 ∷ []))))
  by true is =
      let line_is : line ≡ codes "end" = (bytes_eq-Decides line (codes "end")).0 is in
      started-good n before inner (text ++ (line ++ 10 ∷ [])) (config_at (text ++ (line ++ 10 ∷ [])))
      (ap (λ o. o ++ (line ++ 10 ∷ [])) good.1 ∙ ap (λ l. octets_of inner ++ (l ++ 10 ∷ [])) line_is) good.2 refl
  by false is = (inner ++ line ∷ [], ap (λ o. o ++ (line ++ 10 ∷ [])) good.1 ∙ sym (octets-push inner line), each-push IsInner inner line good.2 (none, is))

-- ---- between scripts

process-few : (party : Party) (p : Plan) → p.processes ≤ p.count → processes_with p party ≤ p.count + 1
process-few (parties.Association a) p le = omega (arith, le)
process-few parties.Process p le = omega (arith, le)

actor-some : (party : Party) (p : Plan) → IsParty party → 0 < actor_for p party
actor-some (parties.Association a) p is = omega (arith, is.0)
actor-some parties.Process p is = omega arith

actor-low : (party : Party) (p : Plan) → IsParty party → p.processes < 16 → actor_for p party < 33
actor-low (parties.Association a) p is low = omega (arith, is.1)
actor-low parties.Process p is low = omega (arith, low)

actor-is : (party : Party) (p : Plan) → IsActor (actor_for p party) party [] forms.Shut
actor-is (parties.Association a) p = (refl, refl)
actor-is parties.Process p = (omega arith, refl)

begins-good : (n number : ℕ) (p : Plan) (party : Party) → IsParty party → GoodPlan n p → GoodMove n (begins number p party)
begins-good n number p party is good = by (p.count == most_scripts) refl (is_some (script_of p (actor_for p party))) where
  fresh : p.count < 16 → Good n (inside (counted p party) (opened p party))
  fresh low = (
    record { text = good.text; places = good.places; scripts = good.scripts; count = omega (arith, low); processes = process-few party p good.processes; low = λ k. below-more p.count (p.count + 1) (script_of p k) (omega arith) (good.low k); apart = good.apart },
    record {
      good = record {
        some = actor-some party p is;
        few = actor-low party p is (omega (arith, low, good.processes));
        told = tt;
        fit = All-nil (λ (s : TimedStep). fits p.config s.step ≡ true);
        short = omega arith;
      };
      actor = actor-is party p;
      early = omega arith;
      late = omega arith;
      fit = tt;
    },
    (omega arith, good.low),
  )

  by : (a : Bool) → (p.count == most_scripts) ≡ a → (b : Bool) → GoodMove n (if a || b then stops (statuses.Record number 5) else goes (inside (counted p party) (opened p party)))
  by true is b = tt
  by false is true = tt
  by false is false = fresh (let other = eqb-false p.count 16 is in elim (eqb_tells p.count 16) [ inl t ↦ absurd (other t.1) | inr t ↦ omega (arith, good.count, t.1) ])

ended-good : (n number : ℕ) (p : Plan) → GoodPlan n p → GoodMove n (ended number p)
ended-good n number p good = by (p.count == 0) where
  by : (b : Bool) → GoodMove n (if b then stops (statuses.Record number 5) else ends p)
  by true = tt
  by false = good

between-step-good : (n number : ℕ) (p : Plan) (line : RecLine) → GoodPlan n p → GoodMove n (between_step number p line)
between-step-good n number p lines.Skip good = good
between-step-good n number p lines.End good = ended-good n number p good
between-step-good n number p _ good = tt

party-told : (text : List ℕ) (party : Party) → script_line_at text ≡ Ok (scripts.Begins party) → IsParty party
party-told text party is = (line-told text (scripts.Begins party) is).0

step-told : (text : List ℕ) (line : RecLine) → script_line_at text ≡ Ok (scripts.Step line) → Spells text line
step-told text line is = line-told text (scripts.Step line) is

between-good : (n number : ℕ) (p : Plan) (text : List ℕ) → GoodPlan n p → GoodMove n (between_at number p text)
unfolding between_at
between-good n number p text good = by (script_line_at text) refl where
  by : (r : Result ScriptLine Kind) → script_line_at text ≡ r → GoodMove n (between_as number p r)
  by (Err kind) is = tt
  by (Ok (scripts.Begins party)) is = begins-good n number p party (party-told text party is) good
  by (Ok scripts.Closes) is = tt
  by (Ok (scripts.Step line)) is = between-step-good n number p line good

-- ---- in a script

-- who makes a step is written as its script has it
actor-told : (c : Config) (form : ScriptForm) (k w : ℕ) (party : Party) (line : RecLine) (step : Step) (before : List (List ℕ)) → IsActor k party before form → may_have party line ≡ true → told_of c (form_in form) line ≡ turn w step
    → told_of c (form_in form) line ≡ turn (actor_of k step) step
actor-told c form k w (parties.Association a) line step before is may says =
    let made = association-made c (form_in form) w step a line may says in
    says ∙ ap (λ n. turn n step) (made.1.0 ∙ (sym is.0 ∙ sym (made.1.1 k)))
actor-told c form k w parties.Process line step before is may says =
    let made = process-made c (form_in form) w step line may says in
    says ∙ ap (λ n. turn n step) (made.1.0 ∙ sym (made.1.1 k))

-- the association after the line
actor-behind : (c : Config) (form : ScriptForm) (k w : ℕ) (party : Party) (text : List ℕ) (line : RecLine) (step : Step) (before : List (List ℕ)) → IsActor k party before form → may_have party line ≡ true → judging.line_at text ≡ Ok line
    → told_of c (form_in form) line ≡ turn w step → IsActor k party (text ∷ before) (form_passed line form)
actor-behind c form k w (parties.Association a) text line step before is may reads says =
    let made = association-made c (form_in form) w step a line may says in (
      is.0,
      passed-in (parties.Association a) line form may
          ∙ (ap (λ n. form_behind n line (form_in form)) (made.0 ∙ sym is.0) ∙ (ap (form_behind k line) is.1 ∙ ap (λ r. form_after k r (form_at k before)) (sym reads))),
    )
actor-behind c form k w parties.Process text line step before is may reads says = (is.0, process-passed line form may ∙ is.1)

module _ (n number : ℕ) (p : Plan) (o : Opened) (text : List ℕ) (line : RecLine) (next : number ≡ suc n) (spells : Spells text line) (reads : judging.line_at text ≡ Ok line) (plan : GoodPlan n p) (good : GoodOpened n p.config o) (seated : IsSeated p o) where
  taken-good : (w : ℕ) (step : Step) → may_have o.party line ≡ true → told_of p.config (form_in o.form) line ≡ turn w step → GoodOpened (suc n) p.config (taken o number text (form_passed line o.form) step)
  taken-good w step may says =
      let l : StepLine = record { number = number; text = text; form = o.form; moment = o.moment } in
      let s : TimedStep = record { moment = o.moment; step = step } in
      let before : List (List ℕ) = onto [] (texts o.script.lines) in
      let own = told-own p.config (λ a. not (is_shut (form_in o.form))) (form_in o.form) w step line refl says in
      record {
        good = record {
          some = good.good.some;
          few = good.good.few;
          told = told-push p.config o.actor [] o.script.lines o.script.steps l s good.good.told (record {
            line = line;
            party = o.party;
            read = reads;
            may = may;
            actor = good.actor;
            told = actor-told p.config o.form o.actor w o.party line step before good.actor may says;
            moment = refl;
            early = good.early;
            late = good.late;
            fit = good.fit;
          });
          fit = All-push (λ (s : TimedStep). fits p.config s.step ≡ true) o.script.steps s good.good.fit own.1;
          short = omega (arith, length-append o.script.steps (s ∷ []), good.good.short);
        };
        actor = subst (λ b. IsActor o.actor o.party b (form_passed line o.form)) (sym (newest-push o.script.lines l)) (actor-behind p.config o.form o.actor w o.party text line step before good.actor may reads says);
        early = good.early;
        late = good.late;
        fit = fit-behind line o.form spells.ranges good.fit;
      }

  passed-good : (moment : ℕ) → told_of p.config (form_in o.form) line ≡ pass_to moment → GoodOpened (suc n) p.config (at_moment o moment)
  passed-good moment says =
      let range = subst IsLine (passed-at p.config (form_in o.form) line moment says) spells.ranges in
      record { good = more-script n (suc n) p.config o.actor o.script (omega arith) good.good; actor = good.actor; early = range.0; late = range.1; fit = good.fit }

  told-good : (t : Told) → may_have o.party line ≡ true → told_of p.config (form_in o.form) line ≡ t → GoodMove (suc n) (told_in number p o text line t)
  told-good skip may says = (more-plan n (suc n) p (omega arith) plan, more-opened n (suc n) p.config o (omega arith) good, seated)
  told-good (pass_to moment) may says = (more-plan n (suc n) p (omega arith) plan, passed-good moment says, seated)
  told-good (turn w step) may says = (more-plan n (suc n) p (omega arith) plan, taken-good w step may says, seated)
  told-good (heard parts) may says = tt
  told-good (refused kind) may says = tt
  told-good last may says = tt

  step-good : GoodMove (suc n) (inside_step number p o text line)
  step-good = by (may_have o.party line) refl where
    by : (b : Bool) → may_have o.party line ≡ b → GoodMove (suc n) (if b then told_in number p o text line (told_of p.config (form_in o.form) line) else stops (statuses.Record number (strange p.config line)))
    by true may = told-good (told_of p.config (form_in o.form) line) may refl
    by false may = tt

-- the script of another actor stays
script-set : (n : ℕ) (p : Plan) (k : ℕ) (s : Script) → GoodPlan n p → GoodScript n p.config k s → (j : ℕ) → GoodOrNone n p.config j (script_of (with_script p k s) j)
script-set n p k s plan good j = elim (eqb_tells j k) [
  | inl t ↦ subst (λ i. GoodOrNone n p.config i (get_or (set p.scripts k (Some s)) i None)) (sym t.1)
      (subst (GoodOrNone n p.config k) (sym (get_or-set_same p.scripts k (Some s) None (omega (arith, plan.places, good.few)))) good)
  | inr t ↦ subst (GoodOrNone n p.config j) (sym (get_or-set_other p.scripts k j (Some s) None t.1)) (plan.scripts j)
]

-- what the scripts of two actors are, where that of one is set
two-set : (P : Option Script → Option Script → Type 0) (p : Plan) (k : ℕ) (s : Script) → k < length p.scripts → (i j : ℕ) → (i ≡ k → j ≢ k → P (Some s) (script_of p j)) → (i ≢ k → j ≡ k → P (script_of p i) (Some s))
    → (i ≢ k → j ≢ k → P (script_of p i) (script_of p j)) → i ≢ j → P (script_of (with_script p k s) i) (script_of (with_script p k s) j)
two-set P p k s low i j first second neither other = elim (eqb_tells i k) [
  | inl t ↦
      let apart : j ≢ k = λ same. other (t.1 ∙ sym same) in
      subst (λ o. P o (script_of (with_script p k s) j)) (sym (ap (λ n. get_or (set p.scripts k (Some s)) n None) t.1 ∙ get_or-set_same p.scripts k (Some s) None low))
      (subst (P (Some s)) (sym (get_or-set_other p.scripts k j (Some s) None apart)) (first t.1 apart))
  | inr t ↦ subst (λ o. P o (script_of (with_script p k s) j)) (sym (get_or-set_other p.scripts k i (Some s) None t.1)) (elim (eqb_tells j k) [
    | inl u ↦ subst (P (script_of p i)) (sym (ap (λ n. get_or (set p.scripts k (Some s)) n None) u.1 ∙ get_or-set_same p.scripts k (Some s) None low)) (second t.1 u.1)
    | inr u ↦ subst (P (script_of p i)) (sym (get_or-set_other p.scripts k j (Some s) None u.1)) (neither t.1 u.1)
  ])
]

apart-behind : (s : Script) (o : Option Script) → IsPlacedBelow s.place o → ArePlacedApart (Some s) o
apart-behind s None low = tt
apart-behind s (Some t) low = λ same. omega (arith, same, low)

apart-before : (s : Script) (o : Option Script) → IsPlacedBelow s.place o → ArePlacedApart o (Some s)
apart-before s None low = tt
apart-before s (Some t) low = λ same. omega (arith, same, low)

low-set : (p : Plan) (k : ℕ) (s : Script) → k < length p.scripts → ((j : ℕ) → IsPlacedBelow p.count (script_of p j)) → s.place < p.count → (j : ℕ) → IsPlacedBelow p.count (script_of (with_script p k s) j)
low-set p k s there low here j = elim (eqb_tells j k) [
  | inl t ↦ subst (IsPlacedBelow p.count) (sym (ap (λ n. get_or (set p.scripts k (Some s)) n None) t.1 ∙ get_or-set_same p.scripts k (Some s) None there)) here
  | inr t ↦ subst (IsPlacedBelow p.count) (sym (get_or-set_other p.scripts k j (Some s) None t.1)) (low j)
]

closed-good : (n : ℕ) (p : Plan) (o : Opened) → GoodPlan n p → GoodOpened n p.config o → IsSeated p o → GoodPlan n (with_script p o.actor o.script)
closed-good n p o plan good seated =
    let there : o.actor < length p.scripts = omega (arith, plan.places, good.good.few) in
    record {
      text = plan.text;
      places = length-set p.scripts o.actor (Some o.script) ∙ plan.places;
      scripts = script-set n p o.actor o.script plan good.good;
      count = plan.count;
      processes = plan.processes;
      low = low-set p o.actor o.script there plan.low seated.0;
      apart = λ i j other. two-set ArePlacedApart p o.actor o.script there i j (λ a b. apart-behind o.script (script_of p j) (seated.1 j)) (λ a b. apart-before o.script (script_of p i) (seated.1 i)) (λ a b. plan.apart i j other) other;
    }

inside-good : (n : ℕ) (p : Plan) (o : Opened) (text : List ℕ) → GoodPlan n p → GoodOpened n p.config o → IsSeated p o → GoodMove (suc n) (inside_at (suc n) p o text)
unfolding inside_at
inside-good n p o text plan good seated = by (script_line_at text) refl where
  by : (r : Result ScriptLine Kind) → script_line_at text ≡ r → GoodMove (suc n) (inside_as (suc n) p o text r)
  by (Err kind) is = tt
  by (Ok (scripts.Begins party)) is = tt
  by (Ok scripts.Closes) is = more-plan n (suc n) (with_script p o.actor o.script) (omega arith) (closed-good n p o plan good seated)
  by (Ok (scripts.Step line)) is =
      let spells = step-told text line is in
      step-good n (suc n) p o text line refl spells (line-read text line spells) plan good seated

-- ---- the lines one after another

pub lines-good : (n : ℕ) (place : Place) (line : List ℕ) → NoNewline line → Good n place → GoodMove (suc n) (lines_at (suc n) place line)
lines-good n opening line none good = opening-good (suc n) (suc n) line
lines-good n (configuring before text) line none good = configuring-good (suc n) before text line none good
lines-good n (between p) line none good = between-good (suc n) (suc n) p line (more-plan n (suc n) p (omega arith) good)
lines-good n (inside p o) line none good = inside-good n p o line good.0 good.1 good.2

-- the line passes the limit of lines, or it is one that may be read
pub below : (number : ℕ) (place : Place) (line : List ℕ) (m : Move) → inputs.line_at number place line ≡ m → (m ≡ stops (passed 1 number place)) ⊎ ((number ≤ most_lines) × (lines_at number place line ≡ m))
unfolding inputs.line_at
below number place line m e = elim (leb_tells (suc most_lines) number) [
  | inl t ↦ inl (sym e ∙ ap (λ b. if b then stops (passed 1 number place) else lines_at number place line) t.0)
  | inr t ↦ inr (omega (arith, t.1), sym (ap (λ b. if b then stops (passed 1 number place) else lines_at number place line) t.0) ∙ e)
]

run-sound : (long : Bool) (ps : List (List ℕ)) (count : ℕ) (place : Place) (p : Plan) → Each NoNewline ps → Good count place → run long count place ps ≡ ready p → IsSound p
run-sound long [] count place p clean good is = absurd cc
run-sound long (rest ∷ []) count place p clean good is = absurd cc
run-sound long (line ∷ next ∷ more) count place p clean good is = by (run-sound long (next ∷ more)) (inputs.line_at (suc count) place line) refl is where
  by : ((count : ℕ) (place : Place) (p : Plan) → Each NoNewline (next ∷ more) → Good count place → run long count place (next ∷ more) ≡ ready p → IsSound p) → (m : Move) → inputs.line_at (suc count) place line ≡ m
      → moved m (λ to. run long (suc count) to (next ∷ more)) ≡ ready p → IsSound p
  by rest (goes to) e is = elim (below (suc count) place line (goes to) e) [
    | inl t ↦ absurd cc
    | inr t ↦ rest (suc count) to p clean.1 (subst (GoodMove (suc count)) t.1 (lines-good count place line clean.0 good)) is
  ]
  by rest (stops status) e is = absurd cc
  by rest (ends q) e is = elim (below (suc count) place line (ends q) e) [
    | inl t ↦ absurd cc
    | inr t ↦ let same : q ≡ p = cc in subst IsSound same (sound-plan (suc count) q t.0 (subst (GoodMove (suc count)) t.1 (lines-good count place line clean.0 good)))
  ]

pub plans_are_sound : PlansAreSound
unfolding outcome
plans_are_sound octets p is = run-sound (nat_lt limit (length octets)) (pieces (take limit octets)) 0 opening p (pieces-clean (take limit octets)) tt is
