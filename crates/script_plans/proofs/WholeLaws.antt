-- An input of the grammar comes to its plan.
use Rattle.std.proofs.Common.{◌≡◌, ◌≤◌, ◌<◌, ◌+◌, ◌-◌, ◌==◌, ◌&&◌, ◌||◌, ℕ, suc, Bool, true, false, List, [], ◌∷◌, ◌++◌, length, take, refl, sym, ap, subst, ◌∙◌, arith, inl, inr, append_assoc, append-nil, length-append}
use Rattle.std.specs.Prelude.{Option, is_some, Ok, Err, codes, nat_lt, if◌then◌else◌}
use Rattle.std.specs.Str.{bytes_eq}
use Rattle.std.proofs.lemmas.Bool.{eqb-true}
use Rattle.std.proofs.lemmas.Bool.Decides.{eqb_tells}
use Rattle.sv_base.specs.declared.config.Config.{Config}
use Rattle.sv_base.specs.declared.numbers.AssocNo.{AssocNo}
use Rattle.bay_model.specs.declared.step.Step.{Step}
use Rattle.bay_model.specs.Points.{least_moment}
use Rattle.object_model.specs.Fits.{fits}
use Rattle.text_words.specs.Octets.{is_skipped}
use Rattle.text_words.specs.Words.{words_of}
use Rattle.cfg_parser.specs.Looking.{config_at}
use Rattle.cfg_text.proofs.WholeLaws.{config-read}
use Rattle.run_record.specs.Grammar.{Spells}
use Rattle.run_record.specs.Spelled.{words}
use Rattle.run_record.specs.Judging as judging
use Rattle.run_record.specs.declared.fault.Kind.TheVariants as kinds
use Rattle.run_record.specs.declared.line.OpenForm.{OpenForm}
use Rattle.run_record.specs.declared.line.OpenForm.TheVariants as opens
use Rattle.run_record.specs.declared.line.RecLine.{RecLine}
use Rattle.run_record.specs.declared.line.RecLine.TheVariants as lines
use Rattle.record_steps.specs.Forms.{Form, shut, is_shut, form_behind}
use Rattle.record_steps.specs.Own.{own_opening}
use Rattle.record_steps.specs.Resolved.{turn_of, opened_in, opened_as, lost_as, told_of}
use Rattle.record_steps.specs.Told.{Told, skip, pass_to, turn, heard, refused, last}
use Rattle.bay_model.specs.declared.step.Step.TheVariants as steps
use Rattle.record_outcome.specs.Histories.{octets_of}
use Rattle.record_outcome.specs.Records.{limit, most_lines, NoNewline, pieces}
use Rattle.record_outcome.specs.Grammar.{IsRemark, IsInner, Each}
use Rattle.script_lines.specs.Parties.{is_no_stream, may_have}
use Rattle.script_lines.specs.Lines.{party_text, beside, script_line_at}
use Rattle.script_lines.specs.declared.party.Party.{Party}
use Rattle.script_lines.specs.declared.party.Party.TheVariants as parties
use Rattle.script_lines.specs.declared.line.ScriptLine.TheVariants as scripts
use Rattle.script_lines.proofs.LineLaws.{line-read}
use Rattle.actor_scripts.specs.declared.script.TimedStep.{TimedStep}
use Rattle.script_plans.specs.Forms.{form_in, form_passed}
use Rattle.script_plans.specs.Plans.{Script, Plan, script_of, without_scripts, with_script, with_line}
use Rattle.script_plans.specs.Moves.{Place, opening, configuring, between, inside, goes, stops, ends}
use Rattle.script_plans.specs.Scripting.{most_scripts, actor_for, counted, opened, between_as, between_at, at_moment, taken, told_in, strange, inside_as, inside_at}
use Rattle.script_plans.specs.Openings.{headed, opening_at, started, configuring_at}
use Rattle.script_plans.specs.Inputs.{lines_at, moved, ready, run, outcome}
use Rattle.script_plans.specs.Grammar.{IsLineOf, association_in, Tells, AreLines, IsScriptIn, Item, remark, scripted, lines_of, AreItems, rehearsal_lines, IsRehearsal}
use Rattle.script_plans.specs.declared.form.ScriptForm.{ScriptForm}
use Rattle.script_plans.specs.declared.form.ScriptForm.TheVariants as forms
use Rattle.script_plans.specs.declared.line.StepLine.{StepLine}
use Rattle.script_plans.specs.declared.opened.Opened.{Opened}
use Rattle.record_outcome.proofs.LineLaws.{no-newline, pieces-some}
use Rattle.script_plans.proofs.LineLaws.{line-pieces, read-clean, run-on, below-lines}
use Rattle.script_plans.proofs.TellLaws.{passed-in, process-stays, process-passed}
use Rattle.record_outcome.specs.declared.status.Status.TheVariants as statuses
use Rattle.list_laws.proofs.Appended.{take-front}

-- ---- the association of a script after a line

-- what a line makes of it
pub passed-own : (party : Party) (line : RecLine) (was : ScriptForm) → may_have party line ≡ true → form_in (form_passed line was) ≡ form_behind (association_in party) line (form_in was)
passed-own (parties.Association own) lines.Skip was may = refl
passed-own (parties.Association own) (lines.At moment) was may = refl
passed-own (parties.Association own) (lines.Open a asked) was may = by (own.0 == a.0) refl may where
  by : (b : Bool) → (own.0 == a.0) ≡ b → (b && is_no_stream asked) ≡ true → form_in (form_passed (lines.Open a asked) was) ≡ form_behind own.0 (lines.Open a asked) (form_in was)
  by true is clear = passed-in (parties.Association own) (lines.Open a asked) was may ∙ ap (λ n. form_behind n (lines.Open a asked) (form_in was)) (sym (eqb-true own.0 a.0 is))
  by false is clear = absurd cc
passed-own (parties.Association own) (lines.Write a block comp value) was may = refl
passed-own (parties.Association own) (lines.Pdu a hex) was may = refl
passed-own (parties.Association own) (lines.Piece a hex) was may = absurd cc
passed-own (parties.Association own) (lines.Take a) was may = refl
passed-own (parties.Association own) (lines.Lost a) was may = passed-in (parties.Association own) (lines.Lost a) was may ∙ ap (λ n. form_behind n (lines.Lost a) (form_in was)) (sym (eqb-true own.0 a.0 may))
passed-own (parties.Association own) (lines.Set pairs) was may = absurd cc
passed-own (parties.Association own) (lines.Done control well) was may = absurd cc
passed-own (parties.Association own) (lines.Block control on) was may = absurd cc
passed-own (parties.Association own) lines.Tick was may = absurd cc
passed-own (parties.Association own) lines.End was may = absurd cc
passed-own parties.Process line was may = ap form_in (process-passed line was may) ∙ sym (process-stays line 0 (form_in was) may)

-- nothing is to be done, or another moment is told
abbrev pub IsQuiet : Told → Type 0
IsQuiet skip = Unit {0}
IsQuiet (pass_to moment) = Unit {0}
IsQuiet _ = ⊥

turn-loud : (c : Config) (k : ℕ) (s : Step) → IsQuiet (turn_of c k s) → ⊥
turn-loud c k s = by (fits c s) where
  by : (b : Bool) → IsQuiet (if b then turn k s else refused 4) → ⊥
  by true q = q
  by false q = q

open-loud : (c : Config) (form : Form) (own a : AssocNo) (asked : OpenForm) → ((own.0 == a.0) && is_no_stream asked) ≡ true → IsQuiet (opened_as c form a asked) → ⊥
open-loud c form own a asked may = by (is_shut form) asked may where
  wired : (b : Bool) → (b && false) ≡ true → ⊥
  wired true e = absurd cc
  wired false e = absurd cc

  by : (b : Bool) (asked : OpenForm) → ((own.0 == a.0) && is_no_stream asked) ≡ true → IsQuiet (if b then opened_in c a asked else refused 5) → ⊥
  by true opens.Direct may q = turn-loud c a.0 (own_opening a 65000) q
  by true (opens.Mms size) may q = turn-loud c a.0 (own_opening a size) q
  by true opens.Wire may q = wired (own.0 == a.0) may
  by false asked may q = q

lost-loud : (c : Config) (form : ScriptForm) (a : AssocNo) → IsQuiet (lost_as c (form_in form) a) → ⊥
lost-loud c forms.Shut a q = q
lost-loud c forms.Direct a q = turn-loud c a.0 (steps.Lost a) q
lost-loud c (forms.Mms size) a q = turn-loud c a.0 (steps.Lost a) q

quiet-passed : (c : Config) (party : Party) (line : RecLine) (form : ScriptForm) → may_have party line ≡ true → IsQuiet (told_of c (form_in form) line) → form_passed line form ≡ form
unfolding told_of
quiet-passed c (parties.Association own) (lines.Open a asked) form may quiet = absurd (open-loud c (form_in form) own a asked may quiet)
quiet-passed c (parties.Association own) (lines.Lost a) form may quiet = absurd (lost-loud c form a quiet)
quiet-passed c parties.Process line form may quiet = process-passed line form may
quiet-passed c (parties.Association own) _ form may quiet = refl

-- a line that gives no step leaves it as it was
pub stays : (c : Config) (party : Party) (line : RecLine) (form : ScriptForm) → may_have party line ≡ true → IsQuiet (told_of c (form_in form) line) → form_behind (association_in party) line (form_in form) ≡ form_in form
stays c party line form may quiet = sym (passed-own party line form may) ∙ ap form_in (quiet-passed c party line form may quiet)

form-one : (f g : ScriptForm) → form_in f ≡ form_in g → f ≡ g
form-one forms.Shut forms.Shut is = refl
form-one forms.Direct forms.Direct is = refl
form-one (forms.Mms n) (forms.Mms m) is = let same : n ≡ m = cc in ap forms.Mms same
form-one forms.Shut forms.Direct is = absurd cc
form-one forms.Shut (forms.Mms m) is = absurd cc
form-one forms.Direct forms.Shut is = absurd cc
form-one forms.Direct (forms.Mms m) is = absurd cc
form-one (forms.Mms n) forms.Shut is = absurd cc
form-one (forms.Mms n) forms.Direct is = absurd cc

-- ---- a script after further lines

abbrev pub later : Script → List StepLine → List TimedStep → Script
later s ls ss = record { place = s.place; lines = s.lines ++ ls; steps = s.steps ++ ss }

pub later-none : (s : Script) → later s [] [] ≡ s
later-none s = ap (λ ls. record { place = s.place; lines = ls; steps = s.steps ++ [] }) (append-nil s.lines) ∙ ap (λ ss. record { place = s.place; lines = s.lines; steps = ss }) (append-nil s.steps)

pub later-more : (s : Script) (l : StepLine) (step : TimedStep) (ls : List StepLine) (ss : List TimedStep) → later (with_line s l step) ls ss ≡ later s (l ∷ ls) (step ∷ ss)
later-more s l step ls ss =
    ap (λ xs. record { place = s.place; lines = xs; steps = (s.steps ++ step ∷ []) ++ ss }) (append_assoc s.lines (l ∷ []) ls)
    ∙ ap (λ xs. record { place = s.place; lines = s.lines ++ (l ∷ ls); steps = xs }) (append_assoc s.steps (step ∷ []) ss)

pub later-first : (p : Plan) (party : Party) (s : Script) → s.place ≡ p.count → later (opened p party).script s.lines s.steps ≡ s
later-first p party s is = ap (λ n. record { place = n; lines = s.lines; steps = s.steps }) (sym is)

-- ---- lines

some-behind : (xs ys : List (List ℕ)) → 0 < length ys → 0 < length (xs ++ ys)
some-behind xs ys some = omega (arith, some, length-append xs ys)

-- the lines of items, and those that follow
pub items-more : (items : List Item) (more : List (List ℕ)) → length more ≤ length (lines_of items more)
items-more [] more = omega arith
items-more (remark text ∷ items) more = omega (arith, items-more items more)
items-more (scripted party inner ∷ items) more = omega (arith, items-more items more, length-append inner (codes "close" ∷ lines_of items more))

items-behind : (items : List Item) (xs ys : List (List ℕ)) → lines_of items (xs ++ ys) ≡ lines_of items xs ++ ys
items-behind [] xs ys = refl
items-behind (remark text ∷ items) xs ys = ap (λ (ls : List (List ℕ)). text ∷ ls) (items-behind items xs ys)
items-behind (scripted party inner ∷ items) xs ys =
    ap (λ (ls : List (List ℕ)). party_text party ∷ (inner ++ (codes "close" ∷ ls))) (items-behind items xs ys) ∙ ap (λ (ls : List (List ℕ)). party_text party ∷ ls) (sym (append_assoc inner (codes "close" ∷ lines_of items xs) ys))

pub lines-behind : (remarks inner : List (List ℕ)) (items : List Item) (more : List (List ℕ)) → rehearsal_lines remarks inner items more ≡ rehearsal_lines remarks inner items [] ++ more
lines-behind remarks inner items more =
    ap (λ (ls : List (List ℕ)). remarks ++ (codes "rehearse 1" ∷ (inner ++ (codes "end" ∷ ls)))) (items-behind items (codes "end" ∷ []) more)
    ∙ (ap (λ (ls : List (List ℕ)). remarks ++ (codes "rehearse 1" ∷ ls)) (sym (append_assoc inner (codes "end" ∷ lines_of items (codes "end" ∷ [])) more))
    ∙ sym (append_assoc remarks (codes "rehearse 1" ∷ (inner ++ (codes "end" ∷ lines_of items (codes "end" ∷ [])))) more))

-- ---- what each line does

remark-goes : (number : ℕ) (line : List ℕ) → IsRemark line → opening_at number line ≡ goes opening
unfolding opening_at
remark-goes number line r =
    ap (λ b. if b then stops (statuses.Record number 8) else if is_skipped line then goes opening else headed number (words_of line)) r.1
    ∙ ap (λ b. if b then goes opening else headed number (words_of line)) r.2

head-goes : (number : ℕ) → opening_at number (codes "rehearse 1") ≡ goes (configuring number [])
unfolding opening_at
head-goes number = refl

inner-goes : (n : ℕ) (text line : List ℕ) → bytes_eq line (codes "end") ≡ false → configuring_at n text line ≡ goes (configuring n (text ++ (line ++ 10 ∷ [])))
unfolding configuring_at
inner-goes n text line is =
    ap (λ b. if b then started n (text ++ (line ++ 10 ∷ [])) (config_at (text ++ (line ++ 10 ∷ []))) else goes (configuring n (text ++ (line ++ 10 ∷ [])))) is

end-starts : (n : ℕ) (text whole : List ℕ) (c : Config) → whole ≡ text ++ (codes "end" ++ 10 ∷ []) → config_at whole ≡ Ok c → configuring_at n text (codes "end") ≡ goes (between (without_scripts c whole))
unfolding configuring_at
end-starts n text whole c is reads = ap (λ t. started n t (config_at t)) (sym is) ∙ ap (started n whole) reads

remark-read : (line : List ℕ) → IsRemark line → script_line_at line ≡ Ok (scripts.Step lines.Skip)
unfolding script_line_at judging.line_at
remark-read line r =
    ap (λ b. beside line (if b then Err kinds.Long else if is_skipped line then Ok lines.Skip else judging.tell_at (words_of line))) r.1
    ∙ ap (λ b. beside line (if b then Ok lines.Skip else judging.tell_at (words_of line))) r.2

gap-goes : (number : ℕ) (p : Plan) (line : List ℕ) → IsRemark line → between_at number p line ≡ goes (between p)
unfolding between_at
gap-goes number p line r = ap (between_as number p) (remark-read line r)

begin-goes : (n number : ℕ) (p : Plan) (party : Party) (inner : List (List ℕ)) (s : Script) → IsScriptIn n p party inner s → between_at number p (party_text party) ≡ goes (inside (counted p party) (opened p party))
unfolding between_at
begin-goes n number p party inner s is =
    let other : (p.count == most_scripts) ≡ false = elim (eqb_tells p.count 16) [ inl t ↦ absurd (omega (arith, t.1, is.few)) | inr t ↦ t.0 ] in
    ap (between_as number p) (line-read (party_text party) (scripts.Begins party) (is.party_, refl))
    ∙ (ap (λ b. if b || is_some (script_of p (actor_for p party)) then stops (statuses.Record number 5) else goes (inside (counted p party) (opened p party))) other
    ∙ ap (λ (o : Option Script). if is_some o then stops (statuses.Record number 5) else goes (inside (counted p party) (opened p party))) is.own)

close-goes : (number : ℕ) (p : Plan) (o : Opened) → inside_at number p o (codes "close") ≡ goes (between (with_script p o.actor o.script))
unfolding inside_at
close-goes number p o = ap (inside_as number p o (codes "close")) (line-read (codes "close") scripts.Closes (tt, refl))

line-goes : (number : ℕ) (p : Plan) (o : Opened) (text : List ℕ) (line : RecLine) → IsLineOf o.party text line → inside_at number p o text ≡ told_in number p o text line (told_of p.config (form_in o.form) line)
unfolding inside_at
line-goes number p o text line is =
    ap (inside_as number p o text) (line-read text (scripts.Step line) is.spelled)
    ∙ ap (λ b. if b then told_in number p o text line (told_of p.config (form_in o.form) line) else stops (statuses.Record number (strange p.config line))) is.may

end-spelled : Spells (codes "end") lines.End
unfolding words
end-spelled = record { short = omega arith; text_ = refl; words_ = refl; ranges = tt }

end-ends : (number : ℕ) (p : Plan) → 0 < p.count → between_at number p (codes "end") ≡ ends p
unfolding between_at
end-ends number p some =
    let other : (p.count == 0) ≡ false = elim (eqb_tells p.count 0) [ inl t ↦ absurd (omega (arith, t.1, some)) | inr t ↦ t.0 ] in
    ap (between_as number p) (line-read (codes "end") (scripts.Step lines.End) end-spelled)
    ∙ ap (λ b. if b then stops (statuses.Record number 5) else ends p) other

-- ---- the lines one after another

module _ (long : Bool) where
  run-goes : (count : ℕ) (place to : Place) (line : List ℕ) (more : List (List ℕ)) → 0 < length more → suc count ≤ most_lines → lines_at (suc count) place line ≡ goes to
      → run long count place (line ∷ more) ≡ run long (suc count) to more
  run-goes count place to line more some low is = run-on long count place line more some ∙ ap (λ m. moved m (λ to. run long (suc count) to more)) (below-lines (suc count) place line low ∙ is)

  remarks-go : (ls : List (List ℕ)) (count : ℕ) (ps : List (List ℕ)) → 0 < length ps → Each IsRemark ls → count + length ls ≤ most_lines → run long count opening (ls ++ ps) ≡ run long (count + length ls) opening ps
  remarks-go [] count ps some are low = let same : count ≡ count + 0 = omega arith in ap (λ n. run long n opening ps) same
  remarks-go (l ∷ ls) count ps some are low =
      let next : suc count + length ls ≡ count + suc (length ls) = omega arith in
      run-goes count opening opening l (ls ++ ps) (some-behind ls ps some) (omega (arith, low)) (remark-goes (suc count) l are.0) ∙ (remarks-go ls (suc count) ps some are.1 (omega (arith, low)) ∙ ap (λ n. run long n opening ps) next)

  inner-go : (ls : List (List ℕ)) (count n : ℕ) (text : List ℕ) (ps : List (List ℕ)) → 0 < length ps → Each IsInner ls → count + length ls ≤ most_lines
      → run long count (configuring n text) (ls ++ ps) ≡ run long (count + length ls) (configuring n (text ++ octets_of ls)) ps
  inner-go [] count n text ps some are low =
      let same : count ≡ count + 0 = omega arith in
      ap (λ k. run long k (configuring n text) ps) same ∙ ap (λ t. run long (count + 0) (configuring n t) ps) (sym (append-nil text))
  inner-go (l ∷ ls) count n text ps some are low =
      let next : suc count + length ls ≡ count + suc (length ls) = omega arith in
      run-goes count (configuring n text) (configuring n (text ++ (l ++ 10 ∷ []))) l (ls ++ ps) (some-behind ls ps some) (omega (arith, low)) (inner-goes n text l are.0.1)
      ∙ (inner-go ls (suc count) n (text ++ (l ++ 10 ∷ [])) ps some are.1 (omega (arith, low))
      ∙ (ap (λ m. run long m (configuring n ((text ++ (l ++ 10 ∷ [])) ++ octets_of ls)) ps) next
      ∙ ap (λ t. run long (count + suc (length ls)) (configuring n t) ps) (append_assoc text (l ++ 10 ∷ []) (octets_of ls))))

  -- the lines of a script
  abbrev LinesGo : List (List ℕ) → Type 0
  LinesGo texts = (count : ℕ) (p : Plan) (o : Opened) (ls : List StepLine) (ss : List TimedStep) (ps : List (List ℕ)) → 0 < length ps → AreLines p.config o.party count (form_in o.form) o.moment texts ls ss → count + length texts ≤ most_lines
      → (to : Opened) × (run long count (inside p o) (texts ++ ps) ≡ run long (count + length texts) (inside p to) ps) × (to.actor ≡ o.actor) × (to.script ≡ later o.script ls ss)

  line-go : (text : List ℕ) (more : List (List ℕ)) → LinesGo more → LinesGo (text ∷ more)
  line-go text more rest count p o ls ss ps some are low = by (told_of p.config (form_in o.form) line) refl ls ss are.2 where
    line : RecLine
    line = are.0

    behind : Form
    behind = form_behind (association_in o.party) line (form_in o.form)

    next : suc count + length more ≡ count + suc (length more)
    next = omega arith

    goes-to : (to : Opened) (t : Told) → told_of p.config (form_in o.form) line ≡ t → told_in (suc count) p o text line t ≡ goes (inside p to) → run long count (inside p o) (text ∷ (more ++ ps)) ≡ run long (suc count) (inside p to) (more ++ ps)
    goes-to to t says does =
        run-goes count (inside p o) (inside p to) text (more ++ ps) (some-behind more ps some) (omega (arith, low)) (line-goes (suc count) p o text line are.1 ∙ (ap (told_in (suc count) p o text line) says ∙ does))

    by : (t : Told) → told_of p.config (form_in o.form) line ≡ t → (ls : List StepLine) (ss : List TimedStep) → Tells count text (form_in o.form) o.moment t (λ to ls ss. AreLines p.config o.party (suc count) behind to more ls ss) ls ss
        → (to : Opened) × (run long count (inside p o) (text ∷ (more ++ ps)) ≡ run long (count + suc (length more)) (inside p to) ps) × (to.actor ≡ o.actor) × (to.script ≡ later o.script ls ss)
    by skip says ls ss tells =
        let quiet = stays p.config o.party line o.form are.1.may (subst IsQuiet (sym says) tt) in
        let r = rest (suc count) p o ls ss ps some (subst (λ f. AreLines p.config o.party (suc count) f o.moment more ls ss) quiet tells) (omega (arith, low)) in
        (r.0, goes-to o skip says refl ∙ (r.1 ∙ ap (λ n. run long n (inside p r.0) ps) next), r.2, r.3)
    by (pass_to moment) says ls ss tells =
        let quiet = stays p.config o.party line o.form are.1.may (subst IsQuiet (sym says) tt) in
        let r = rest (suc count) p (at_moment o moment) ls ss ps some (subst (λ f. AreLines p.config o.party (suc count) f moment more ls ss) quiet tells) (omega (arith, low)) in
        (r.0, goes-to (at_moment o moment) (pass_to moment) says refl ∙ (r.1 ∙ ap (λ n. run long n (inside p r.0) ps) next), r.2, r.3)
    by (turn actor step) says (l ∷ ls) (s ∷ ss) tells =
        let to : Opened = taken o (suc count) text (form_passed line o.form) step in
        let made : StepLine = record { number = suc count; text = text; form = o.form; moment = o.moment } in
        let at : TimedStep = record { moment = o.moment; step = step } in
        let made_is : made ≡ l = ap (λ f. record { number = suc count; text = text; form = f; moment = o.moment }) (sym (form-one tells.0 o.form tells.1)) ∙ sym tells.2 in
        let r = rest (suc count) p to ls ss ps some (subst (λ f. AreLines p.config o.party (suc count) f o.moment more ls ss) (sym (passed-own o.party line o.form are.1.may)) tells.4) (omega (arith, low)) in (
          r.0,
          goes-to to (turn actor step) says refl ∙ (r.1 ∙ ap (λ n. run long n (inside p r.0) ps) next),
          r.2,
          r.3 ∙ (later-more o.script made at ls ss ∙ (ap (λ (l : StepLine). later o.script (l ∷ ls) (at ∷ ss)) made_is ∙ ap (λ (s : TimedStep). later o.script (l ∷ ls) (s ∷ ss)) (sym tells.3))),
        )
    by (turn actor step) says [] ss tells = absurd tells
    by (turn actor step) says (l ∷ ls) [] tells = absurd tells
    by (heard parts) says ls ss tells = absurd tells
    by (refused kind) says ls ss tells = absurd tells
    by last says ls ss tells = absurd tells

  lines-go : (texts : List (List ℕ)) → LinesGo texts
  lines-go [] count p o ls ss ps some are low =
      let same : count ≡ count + 0 = omega arith in
      (o, ap (λ n. run long n (inside p o) ps) same, refl, sym (ap (λ ls. later o.script ls ss) are.0 ∙ (ap (later o.script []) are.1 ∙ later-none o.script)))
  lines-go (text ∷ more) count p o ls ss ps some are low = line-go text more (lines-go more) count p o ls ss ps some are low

  -- what stands after the configuration
  items-go : (items : List Item) (count : ℕ) (p q : Plan) (ps : List (List ℕ)) → 0 < length ps → AreItems count p items q → count + length (lines_of items ps) ≤ most_lines + length ps
      → (behind : ℕ) × (behind + length ps ≡ count + length (lines_of items ps)) × (run long count (between p) (lines_of items ps) ≡ run long behind (between q) ps)
  items-go [] count p q ps some are low = (count, refl, ap (λ p. run long count (between p) ps) are)
  items-go (remark text ∷ items) count p q ps some are low =
      let more = items-more items ps in
      let r = items-go items (suc count) p q ps some are.1 (omega (arith, low)) in
      (r.0, omega (arith, r.1), run-goes count (between p) (between p) text (lines_of items ps) (omega (arith, some, more)) (omega (arith, low, more)) (gap-goes (suc count) p text are.0) ∙ r.2)
  items-go (scripted party inner ∷ items) count p q ps some are low =
      let s : Script = are.0 in
      let more = items-more items ps in
      let rest : List (List ℕ) = lines_of items ps in
      let whole = length-append inner (codes "close" ∷ rest) in
      let l = lines-go inner (suc count) (counted p party) (opened p party) s.lines s.steps (codes "close" ∷ rest) (omega arith) are.1.told (omega (arith, low, whole, more)) in
      let n : ℕ = suc count + length inner in
      let number : count + length inner + 2 ≡ suc n = omega arith in
      let script_is : l.0.script ≡ s = l.3 ∙ later-first p party s are.1.place in
      let plan_is : with_script (counted p party) l.0.actor l.0.script ≡ with_script (counted p party) (actor_for p party) s = ap (λ k. with_script (counted p party) k l.0.script) l.2 ∙ ap (with_script (counted p party) (actor_for p party)) script_is in
      let r = items-go items (suc n) (with_script (counted p party) (actor_for p party) s) q ps some (subst (λ n. AreItems n (with_script (counted p party) (actor_for p party) s) items q) number are.2) (omega (arith, low, whole)) in (
        r.0,
        omega (arith, r.1, whole),
        run-goes count (between p) (inside (counted p party) (opened p party)) (party_text party) (inner ++ (codes "close" ∷ rest)) (omega (arith, whole)) (omega (arith, low, whole, more)) (begin-goes count (suc count) p party inner s are.1)
            ∙ (l.1
            ∙ (run-goes n (inside (counted p party) l.0) (between (with_script (counted p party) l.0.actor l.0.script)) (codes "close") rest (omega (arith, some, more)) (omega (arith, low, whole, more)) (close-goes (suc n) (counted p party) l.0)
            ∙ (ap (λ q. run long (suc n) (between q) rest) plan_is ∙ r.2))),
      )

  -- the whole
  rehearsal-goes : (remarks inner : List (List ℕ)) (items : List Item) (ps : List (List ℕ)) (p : Plan) → 0 < length ps → Each IsRemark remarks → Each IsInner inner → p.text ≡ octets_of inner ++ (codes "end" ++ 10 ∷ []) → config_at p.text ≡ Ok p.config
      → AreItems (length remarks + length inner + 2) (without_scripts p.config p.text) items p → 0 < p.count → length (rehearsal_lines remarks inner items ps) ≤ most_lines + length ps → run long 0 opening (rehearsal_lines remarks inner items ps) ≡ ready p
  rehearsal-goes remarks inner items ps p some are-remarks are-inner text reads are count low =
      let tail : List (List ℕ) = codes "end" ∷ ps in
      let rest : List (List ℕ) = lines_of items tail in
      let more = items-more items tail in
      let first = length-append remarks (codes "rehearse 1" ∷ (inner ++ (codes "end" ∷ rest))) in
      let second = length-append inner (codes "end" ∷ rest) in
      let n : ℕ = 0 + length remarks in
      let m : ℕ = suc n + length inner in
      let number : length remarks + length inner + 2 ≡ suc m = omega arith in
      let r = items-go items (suc m) (without_scripts p.config p.text) p tail (omega arith) (subst (λ n. AreItems n (without_scripts p.config p.text) items p) number are) (omega (arith, low, first, second)) in
      remarks-go remarks 0 (codes "rehearse 1" ∷ (inner ++ (codes "end" ∷ rest))) (omega arith) are-remarks (omega (arith, low, first, second, more))
      ∙ (run-goes n opening (configuring (suc n) []) (codes "rehearse 1") (inner ++ (codes "end" ∷ rest)) (omega (arith, second)) (omega (arith, low, first, second, more)) (head-goes (suc n))
      ∙ (inner-go inner (suc n) (suc n) [] (codes "end" ∷ rest) (omega arith) are-inner (omega (arith, low, first, second, more))
      ∙ (run-goes m (configuring (suc n) (octets_of inner)) (between (without_scripts p.config p.text)) (codes "end") rest (omega (arith, more)) (omega (arith, low, first, second, more)) (end-starts (suc n) (octets_of inner) p.text p.config text reads)
      ∙ (r.2
      ∙ (run-on long r.0 (between p) (codes "end") ps some
      ∙ ap (λ m. moved m (λ to. run long (suc r.0) to ps)) (below-lines (suc r.0) (between p) (codes "end") (omega (arith, low, first, second, r.1)) ∙ end-ends (suc r.0) p count))))))

-- ---- octets

remarks-clean : (ls more : List (List ℕ)) → Each IsRemark ls → Each NoNewline more → Each NoNewline (ls ++ more)
remarks-clean [] more are clean = clean
remarks-clean (l ∷ ls) more are clean = (are.0.0, remarks-clean ls more are.1 clean)

inner-clean : (ls more : List (List ℕ)) → Each IsInner ls → Each NoNewline more → Each NoNewline (ls ++ more)
inner-clean [] more are clean = clean
inner-clean (l ∷ ls) more are clean = (are.0.0, inner-clean ls more are.1 clean)

-- the lines after one
tells-on : (P : Type 0) (n : ℕ) (text : List ℕ) (form : Form) (moment : ℕ) (t : Told) (behind : ℕ → List StepLine → List TimedStep → Type 0) (ls : List StepLine) (ss : List TimedStep) → Tells n text form moment t behind ls ss
    → ((to : ℕ) (ls : List StepLine) (ss : List TimedStep) → behind to ls ss → P) → P
tells-on P n text form moment skip behind ls ss tells on = on moment ls ss tells
tells-on P n text form moment (pass_to to) behind ls ss tells on = on to ls ss tells
tells-on P n text form moment (turn actor step) behind (l ∷ ls) (s ∷ ss) tells on = on moment ls ss tells.4
tells-on P n text form moment (turn actor step) behind [] ss tells on = absurd tells
tells-on P n text form moment (turn actor step) behind (l ∷ ls) [] tells on = absurd tells
tells-on P n text form moment (heard parts) behind ls ss tells on = absurd tells
tells-on P n text form moment (refused kind) behind ls ss tells on = absurd tells
tells-on P n text form moment last behind ls ss tells on = absurd tells

lines-clean : (c : Config) (party : Party) (texts more : List (List ℕ)) (n : ℕ) (form : Form) (moment : ℕ) (ls : List StepLine) (ss : List TimedStep) → AreLines c party n form moment texts ls ss → Each NoNewline more → Each NoNewline (texts ++ more)
lines-clean c party [] more n form moment ls ss are clean = clean
lines-clean c party (text ∷ texts) more n form moment ls ss are clean = (
  are.1.whole,
  tells-on (Each NoNewline (texts ++ more)) n text form moment (told_of c form are.0) _ ls ss are.2 (λ to ls ss rest. lines-clean c party texts more (suc n) (form_behind (association_in party) are.0 form) to ls ss rest clean),
)

no-newline-end : NoNewline (codes "end")
no-newline-end = no-newline (codes "end") refl

items-clean : (items : List Item) (n : ℕ) (p q : Plan) (more : List (List ℕ)) → AreItems n p items q → Each NoNewline more → Each NoNewline (lines_of items more)
items-clean [] n p q more are clean = clean
items-clean (remark text ∷ items) n p q more are clean = (are.0.0, items-clean items (suc n) p q more are.1 clean)
items-clean (scripted party inner ∷ items) n p q more are clean = (
  read-clean (party_text party) (scripts.Begins party) (line-read (party_text party) (scripts.Begins party) (are.1.party_, refl)),
  lines-clean p.config party inner (codes "close" ∷ lines_of items more) (suc n) shut least_moment are.0.lines are.0.steps are.1.told
      (no-newline (codes "close") refl, items-clean items (n + length inner + 2) (with_script (counted p party) (actor_for p party) are.0) q more are.2 clean),
)

pub comes : (octets : List ℕ) (p : Plan) → IsRehearsal octets p → outcome octets ≡ ready p
unfolding outcome
comes octets p r =
    let all : List (List ℕ) = rehearsal_lines r.remarks r.inner r.items [] in
    let more : List ℕ = take (limit - length (octets_of all)) r.rest in
    let clean : Each NoNewline all =
    remarks-clean r.remarks _ r.are_remarks (no-newline (codes "rehearse 1") refl, inner-clean r.inner _ r.are_inner (no-newline-end, items-clean r.items (length r.remarks + length r.inner + 2) (without_scripts p.config p.text) p (codes "end" ∷ []) r.are_items (no-newline-end, tt))) in
    let kept : pieces (take limit octets) ≡ rehearsal_lines r.remarks r.inner r.items (pieces more) =
    ap pieces (ap (take limit) r.octets_ ∙ take-front limit (octets_of all) r.rest r.short) ∙ (line-pieces all more clean ∙ sym (lines-behind r.remarks r.inner r.items (pieces more))) in
    let size : length (rehearsal_lines r.remarks r.inner r.items (pieces more)) ≡ length all + length (pieces more) = ap length (lines-behind r.remarks r.inner r.items (pieces more)) ∙ length-append all (pieces more) in
    ap (run (nat_lt limit (length octets)) 0 opening) kept
    ∙ rehearsal-goes (nat_lt limit (length octets)) r.remarks r.inner r.items (pieces more) p (pieces-some more) r.are_remarks r.are_inner r.text (config-read p.text p.config r.configuration) r.are_items r.some (omega (arith, size, r.lines))
