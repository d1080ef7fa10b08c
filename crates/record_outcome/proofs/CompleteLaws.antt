-- A whole record is read to its end.
use Rattle.std.proofs.Common.{◌≡◌, ◌≤◌, ◌+◌, ◌-◌, ◌==◌, ℕ, suc, Bool, false, List, [], ◌∷◌, ◌++◌, length, take, refl, sym, ap, subst, ◌∙◌, arith, append_assoc, append-nil}
use Rattle.std.specs.Prelude.{Ok, codes, map, nat_lt, Option, None, Some, IfSome, if◌then◌else◌}
use Rattle.answer_text.specs.Texts as texts
use Rattle.stream_lines.specs.declared.shape.Shape.{Shape}
use Rattle.bay_model.specs.Named.{configured_model}
use Rattle.bay_model.specs.Answers.{Turn, answer}
use Rattle.std.specs.Str.{bytes_eq}
use Rattle.sv_base.specs.declared.config.Config.{Config}
use Rattle.text_words.specs.Octets.{is_skipped}
use Rattle.text_words.specs.Words.{words_of}
use Rattle.cfg_parser.specs.Looking.{config_at}
use Rattle.cfg_text.proofs.WholeLaws.{config-read}
use Rattle.run_record.specs.Judging as judging
use Rattle.run_record.specs.declared.line.RecLine.{RecLine}
use Rattle.run_record.specs.declared.line.RecLine.TheVariants as lines
use Rattle.run_record.proofs.ReadLaws.{line-read}
use Rattle.record_steps.specs.Resolved.{association_of, told_of}
use Rattle.record_steps.specs.Told.{Told, skip, pass_to, turn, heard, refused, last}
use Rattle.record_steps.specs.declared.heard.Heard.{Heard}
use Rattle.record_steps.specs.declared.heard.Heard.TheVariants.{Tells, Makes}
use Rattle.record_steps.specs.Forms.{Form, shape_of, form_behind}
use Rattle.record_outcome.specs.Histories.{octets_of, form_at, moment_of, Part, stepped, written, part_of, steps_of, onto}
use Rattle.record_outcome.specs.Texts.{parts_of, turns_of}
use Rattle.record_outcome.specs.Played.{Played, start, turn_at, past_line}
use Rattle.record_outcome.specs.Moves.{Place, goes, stops, opening, configuring, playing}
use Rattle.record_outcome.specs.Openings.{headed, opening_at, started, configuring_at}
use Rattle.record_outcome.specs.Steps.{accepted, then_on, heard_on, played, told_at, step_at}
use Rattle.record_outcome.specs.Records.{Outcome, limit, most_lines, pieces, passed, lines_at, line_at, moved, run, outcome, NoNewline}
use Rattle.record_outcome.specs.declared.status.Status.{Status}
use Rattle.record_outcome.specs.declared.status.Status.TheVariants as statuses
use Rattle.record_outcome.proofs.LineLaws.{run-line}
use Rattle.record_outcome.proofs.LastLaws.{end-stops}
use Rattle.std.proofs.lemmas.List.Elements.{All-from_recursion}
use Rattle.record_outcome.specs.Grammar.{AreDone, CanBeDone, IsStepLine, AreStepLines, IsRemark, IsInner, Each, record_octets, IsRecord, IsNoRecord}
use Rattle.record_outcome.specs.Judgements.{IsJudgement, IsRefusal, Answers}
use Rattle.record_outcome.proofs.HistoryLaws.{standing, grown, onto-line, onto-behind, at, onwards}
use Rattle.list_laws.proofs.Appended.{take-front}
use Rattle.list_laws.proofs.Places.{not-below}

-- the first of some lines
line-first : (line : List ℕ) (ls : List (List ℕ)) (more : List ℕ) → octets_of (line ∷ ls) ++ more ≡ line ++ 10 ∷ (octets_of ls ++ more)
line-first line ls more = append_assoc (line ++ 10 ∷ []) (octets_of ls) more ∙ append_assoc line (10 ∷ []) (octets_of ls ++ more)

-- the status where a line goes on
abbrev status-of : Bool → ℕ → Place → List ℕ → Status
status-of long count place octets = (run long count place (pieces octets)).status

module _ (long : Bool) where
  line-goes : (count : ℕ) (place to : Place) (line text more : List ℕ) → NoNewline line → line_at (suc count) place line ≡ goes to text → status-of long count place (line ++ 10 ∷ more) ≡ status-of long (suc count) to more
  line-goes count place to line text more none is =
      ap (λ (o : Outcome). o.status) (run-line long count place line more none ∙ ap (λ m. moved m (λ to. run long (suc count) to (pieces more))) is)

  line-stops : (count : ℕ) (place : Place) (line text more : List ℕ) (status : Status) → NoNewline line → line_at (suc count) place line ≡ stops status text → status-of long count place (line ++ 10 ∷ more) ≡ status
  line-stops count place line text more status none is =
      ap (λ (o : Outcome). o.status) (run-line long count place line more none ∙ ap (λ m. moved m (λ to. run long (suc count) to (pieces more))) is)

within : (number : ℕ) (place : Place) (line : List ℕ) → number ≤ most_lines → line_at number place line ≡ lines_at number place line
unfolding line_at
within number place line low = ap (λ b. if b then stops (passed 1 number place) [] else lines_at number place line) (not-below most_lines number low)

-- empty lines and remarks
remark-goes : (number : ℕ) (line : List ℕ) → IsRemark line → opening_at number line ≡ goes opening []
unfolding opening_at
remark-goes number line r =
    ap (λ b. if b then stops (statuses.Record number 8) [] else if is_skipped line then goes opening [] else headed number (words_of line)) r.1
    ∙ ap (λ b. if b then goes opening [] else headed number (words_of line)) r.2

remarks-go : (long : Bool) (count : ℕ) (ls : List (List ℕ)) (more : List ℕ) → Each IsRemark ls → count + length ls ≤ most_lines
    → status-of long count opening (octets_of ls ++ more) ≡ status-of long (count + length ls) opening more
remarks-go long count [] more are low = let same : count ≡ count + 0 = omega arith in ap (λ n. status-of long n opening more) same
remarks-go long count (l ∷ ls) more are low =
    let next : suc count + length ls ≡ count + suc (length ls) = omega arith in
    ap (status-of long count opening) (line-first l ls more)
    ∙ (line-goes long count opening opening l [] (octets_of ls ++ more) are.0.0 (within (suc count) opening l (omega (arith, low)) ∙ remark-goes (suc count) l are.0)
    ∙ (remarks-go long (suc count) ls more are.1 (omega (arith, low)) ∙ ap (λ n. status-of long n opening more) next))

head-goes : (number : ℕ) → opening_at number (codes "record 1") ≡ goes (configuring number []) []
unfolding opening_at
head-goes number = refl

-- the lines of the configuration
inner-goes : (number n : ℕ) (text line : List ℕ) → bytes_eq line (codes "end") ≡ false → configuring_at n text line ≡ goes (configuring n (text ++ (line ++ 10 ∷ []))) []
unfolding configuring_at
inner-goes number n text line is = ap (λ b. if b then started n (config_at (text ++ (line ++ 10 ∷ []))) else goes (configuring n (text ++ (line ++ 10 ∷ []))) []) is

inner-go : (long : Bool) (count n : ℕ) (text : List ℕ) (ls : List (List ℕ)) (more : List ℕ) → Each IsInner ls → count + length ls ≤ most_lines
    → status-of long count (configuring n text) (octets_of ls ++ more) ≡ status-of long (count + length ls) (configuring n (text ++ octets_of ls)) more
inner-go long count n text [] more are low =
    let same : count ≡ count + 0 = omega arith in
    ap (λ k. status-of long k (configuring n text) more) same ∙ ap (λ t. status-of long (count + 0) (configuring n t) more) (sym (append-nil text))
inner-go long count n text (l ∷ ls) more are low =
    let next : suc count + length ls ≡ count + suc (length ls) = omega arith in
    ap (status-of long count (configuring n text)) (line-first l ls more)
    ∙ (line-goes long count (configuring n text) (configuring n (text ++ (l ++ 10 ∷ []))) l [] (octets_of ls ++ more) are.0.0 (within (suc count) (configuring n text) l (omega (arith, low)) ∙ inner-goes (suc count) n text l are.0.1)
    ∙ (inner-go long (suc count) n (text ++ (l ++ 10 ∷ [])) ls more are.1 (omega (arith, low))
    ∙ (ap (λ m. status-of long m (configuring n ((text ++ (l ++ 10 ∷ [])) ++ octets_of ls)) more) next
    ∙ ap (λ t. status-of long (count + suc (length ls)) (configuring n t) more) (append_assoc text (l ++ 10 ∷ []) (octets_of ls)))))

end-starts : (n : ℕ) (text : List ℕ) (c : Config) → config_at (text ++ (codes "end" ++ 10 ∷ [])) ≡ Ok c → configuring_at n text (codes "end") ≡ goes (playing c start) []
unfolding configuring_at
end-starts n text c is = ap (started n) is

-- the parts of a piece, each step of which is accepted
module _ (number : ℕ) (c : Config) (shape : Shape) (moment : ℕ) (form : ℕ → Form) where
  parts-go : (hs : List Heard) (ps : List Part) (so_far : List ℕ) → AreDone c moment hs (turns_of ps)
      → (out : List ℕ) × (heard_on number c shape hs (at number c shape moment form ps) so_far ≡ goes (playing c (at number c shape moment form (onwards number c shape moment form ps hs))) out)
  parts-go [] ps so_far done = (so_far, refl)
  parts-go (Tells text ∷ hs) ps so_far done = parts-go hs (written text ∷ ps) (so_far ++ text) done
  parts-go (Makes actor step ∷ hs) ps so_far done =
      let t : Turn = turn_at (at number c shape moment form ps) actor.0 step in
      let g = parts-go hs (stepped t shape ∷ ps) (so_far ++ texts.lines_of c shape t.step (answer (configured_model c) (turns_of ps) t)) done.1 in
      (g.0, ap (then_on number c (heard_on number c shape hs) (at number c shape moment form ps) shape so_far t) done.0 ∙ g.1)

-- the lines of the steps
module _ (c : Config) (before : List (List ℕ)) (number : ℕ) where
  done : (l : RecLine) (t : Told) → CanBeDone c before t → (text : List ℕ)
      × (played number c (past_line (standing c before) l) (shape_of (form_at (association_of l) before)) t ≡ goes (playing c (grown c before (Ok l) t)) text)
  unfolding played
  done l skip can = ([], refl)
  done l (pass_to moment) can = ([], refl)
  done l (turn actor step) can = (_, ap (accepted number c (past_line (standing c before) l) (shape_of (form_at (association_of l) before)) (turn_at (standing c before) actor step)) can)
  done l (heard hs) can =
      let shape : Shape = shape_of (form_at (association_of l) before) in
      let forms : ℕ → Form = λ a. form_behind a l (form_at a before) in
      let behind_it : List Part = parts_of (steps_of c before) in
      let g = parts-go number c shape (moment_of c before) forms hs behind_it [] can in
      (g.0, g.1 ∙ ap (λ ps. goes (playing c (record { moment = moment_of c before; turns = turns_of ps; form = forms })) g.0) (onto-behind (map (part_of (moment_of c before) shape) hs) [] behind_it))
  done l (refused kind) can = absurd can
  done l last can = absurd can

  step-goes : (line : List ℕ) → IsStepLine c before line → (text : List ℕ) × (step_at number c (standing c before) line ≡ goes (playing c (standing c (line ∷ before))) text)
  unfolding step_at
  step-goes line s =
      let t : Told = told_of c (form_at (association_of s.line) before) s.line in
      let read : judging.line_at line ≡ Ok s.line = line-read line s.line s.spelled in
      let d = done s.line t s.done in
      (d.0, ap (told_at number c (standing c before)) read ∙ (d.1 ∙ ap (λ p. goes (playing c p) d.0) (onto-line c before line (Ok s.line) t read refl (λ q u. grown c before (Ok s.line) t ≡ grown c before q u) refl)))

steps-go : (long : Bool) (count : ℕ) (c : Config) (before ls : List (List ℕ)) (more : List ℕ) → AreStepLines c before ls → count + length ls ≤ most_lines
    → status-of long count (playing c (standing c before)) (octets_of ls ++ more) ≡ status-of long (count + length ls) (playing c (standing c (onto before ls))) more
steps-go long count c before [] more are low = let same : count ≡ count + 0 = omega arith in ap (λ n. status-of long n (playing c (standing c before)) more) same
steps-go long count c before (l ∷ ls) more are low =
    let next : suc count + length ls ≡ count + suc (length ls) = omega arith in
    let step = step-goes c before (suc count) l are.0 in
    ap (status-of long count (playing c (standing c before))) (line-first l ls more)
    ∙ (line-goes long count (playing c (standing c before)) (playing c (standing c (l ∷ before))) l step.0 (octets_of ls ++ more) are.0.whole (within (suc count) (playing c (standing c before)) l (omega (arith, low)) ∙ step.1)
    ∙ (steps-go long (suc count) c (l ∷ before) ls more are.1 (omega (arith, low)) ∙ ap (λ n. status-of long n (playing c (standing c (onto (l ∷ before) ls))) more) next))

no-newline-end : NoNewline (codes "end")
no-newline-end = All-from_recursion (λ b. (b == 10) ≡ false) (codes "end") (refl, (refl, (refl, tt)))

no-newline-head : NoNewline (codes "record 1")
no-newline-head = All-from_recursion (λ b. (b == 10) ≡ false) (codes "record 1") (refl, (refl, (refl, (refl, (refl, (refl, (refl, (refl, tt))))))))

-- what follows the last line stands after all of it
rest-behind : (remarks inner steps : List (List ℕ)) (rest : List ℕ) → record_octets remarks inner steps rest ≡ record_octets remarks inner steps [] ++ rest
rest-behind remarks inner steps rest = sym (simp append_assoc refl)

record-ends : (long : Bool) (remarks inner steps : List (List ℕ)) (rest : List ℕ) (c : Config) → Each IsRemark remarks → Each IsInner inner → config_at (octets_of inner ++ (codes "end" ++ 10 ∷ [])) ≡ Ok c
    → AreStepLines c [] steps → length remarks + length inner + length steps + 3 ≤ most_lines → status-of long 0 opening (record_octets remarks inner steps rest) ≡ statuses.Ok
record-ends long remarks inner steps rest c are-remarks are-inner whole are-steps low =
    let n : ℕ = 0 + length remarks in
    let m : ℕ = suc n + length inner in
    let k : ℕ = suc m + length steps in
    remarks-go long 0 remarks (codes "record 1" ++ 10 ∷ (octets_of inner ++ (codes "end" ++ 10 ∷ (octets_of steps ++ (codes "end" ++ 10 ∷ rest))))) are-remarks (omega (arith, low))
    ∙ (line-goes long n opening (configuring (suc n) []) (codes "record 1") [] (octets_of inner ++ (codes "end" ++ 10 ∷ (octets_of steps ++ (codes "end" ++ 10 ∷ rest)))) no-newline-head
    (within (suc n) opening (codes "record 1") (omega (arith, low)) ∙ head-goes (suc n))
    ∙ (inner-go long (suc n) (suc n) [] inner (codes "end" ++ 10 ∷ (octets_of steps ++ (codes "end" ++ 10 ∷ rest))) are-inner (omega (arith, low))
    ∙ (line-goes long m (configuring (suc n) (octets_of inner)) (playing c start) (codes "end") [] (octets_of steps ++ (codes "end" ++ 10 ∷ rest)) no-newline-end
    (within (suc m) (configuring (suc n) (octets_of inner)) (codes "end") (omega (arith, low)) ∙ end-starts (suc n) (octets_of inner) c whole)
    ∙ (steps-go long (suc m) c [] steps (codes "end" ++ 10 ∷ rest) are-steps (omega (arith, low))
    ∙ line-stops long k (playing c (standing c (onto [] steps))) (codes "end") (codes "end\n") rest statuses.Ok no-newline-end
    (within (suc k) (playing c (standing c (onto [] steps))) (codes "end") (omega (arith, low)) ∙ end-stops (suc k) c (standing c (onto [] steps)))))))

pub records-end : (octets : List ℕ) (c : Config) → IsRecord octets c → (outcome octets).status ≡ statuses.Ok
unfolding outcome
records-end octets c r =
    let front : List ℕ = record_octets r.remarks r.inner r.steps [] in
    let kept : take limit octets ≡ record_octets r.remarks r.inner r.steps (take (limit - length front) r.rest) =
    ap (take limit) (r.octets_ ∙ rest-behind r.remarks r.inner r.steps r.rest) ∙ (take-front limit front r.rest r.short ∙ sym (rest-behind r.remarks r.inner r.steps (take (limit - length front) r.rest))) in
    ap (λ o. status-of (nat_lt limit (length octets)) 0 opening o) kept
    ∙ record-ends (nat_lt limit (length octets)) r.remarks r.inner r.steps (take (limit - length front) r.rest) c r.are_remarks r.are_inner (config-read (octets_of r.inner ++ (codes "end" ++ 10 ∷ [])) c r.configuration) r.are_steps r.lines

-- and so it isn't refused
pub judged : (status : Status) → IsRefusal status → IsJudgement status
judged statuses.Ok r = tt
judged statuses.Words r = absurd r
judged (statuses.Record line kind) r = tt
judged (statuses.Config line kind) r = tt
judged (statuses.Limit which line) r = tt
judged statuses.Memory r = absurd r
judged statuses.ReadFault r = absurd r
judged statuses.WriteFault r = absurd r

pub refused-none : (status : Status) (left old new : Option (List ℕ)) → IsRefusal status → IfSome left (λ b. Answers b status old new) → IfSome left IsNoRecord
refused-none status None old new r a = tt
refused-none status (Some b) old new r a = λ c is. subst IsRefusal (a.0 ∙ records-end b c is) r
