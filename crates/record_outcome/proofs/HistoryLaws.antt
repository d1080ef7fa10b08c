-- The text that is written to a record is that of its history.
use Rattle.std.proofs.Common.{◌≡◌, ◌+◌, ◌==◌, ◌&&◌, ℕ, suc, Bool, true, false, not, List, [], ◌∷◌, ◌++◌, length, take, refl, sym, ap, subst, ◌∙◌, arith, append_assoc, append-nil}
use Rattle.std.specs.Prelude.{Option, None, Some, IfSome, Result, Ok, Err, codes, map, nat_lt, if◌then◌else◌}
use Rattle.std.specs.Option.{option_map, option_and_then}
use Rattle.std.specs.Str.{bytes_eq}
use Rattle.std.proofs.lemmas.List.Elements.{All-nil, All-cons}
use Rattle.std.proofs.lemmas.Slice.Eq.{bytes_eq-Decides}
use Rattle.sv_base.specs.declared.config.Config.{Config}
use Rattle.bay_model.specs.Named.{configured_model}
use Rattle.bay_model.specs.Answers.{Turn, answer}
use Rattle.bay_model.specs.Acceptance.{Fault, IsOpen, NotOpen, NotYours, QueueFull, fault, IsHistory}
use Rattle.answer_text.specs.Texts as texts
use Rattle.stream_lines.specs.declared.shape.Shape.{Shape}
use Rattle.text_words.specs.Octets.{is_skipped}
use Rattle.text_words.specs.Words.{words_of}
use Rattle.cfg_parser.specs.Kinds as cfg
use Rattle.cfg_parser.specs.Looking.{config_at}
use Rattle.cfg_parser.specs.declared.fault.CfgFault.{CfgFault}
use Rattle.cfg_parser.specs.declared.fault.CfgFault.TheVariants as faults
use Rattle.run_record.specs.Judging as judging
use Rattle.run_record.specs.Judging.{is_long, number_of}
use Rattle.run_record.specs.declared.fault.Kind.{Kind}
use Rattle.run_record.specs.declared.line.RecLine.{RecLine}
use Rattle.record_steps.specs.Resolved.{association_of, told_of}
use Rattle.record_steps.specs.Told.{Told, skip, pass_to, turn, heard, refused, last}
use Rattle.record_steps.specs.declared.heard.Heard.{Heard}
use Rattle.record_steps.specs.declared.heard.Heard.TheVariants.{Tells, Makes}
use Rattle.record_steps.specs.Forms.{Form, shape_of, form_behind}
use Rattle.record_outcome.specs.Histories.{ended_pieces, behind_heading, Parted, with_line, parted, octets_of, form_after, form_at, form_of, said_in, said, moment_after, moment_of, Part, stepped, written as answered, part_of, parts_in, steps_of, onto, Recorded, recorded, lines_of, history_of}
use Rattle.record_outcome.specs.Texts.{parts_of, turns_of, turns_in, text_behind, text_of, record_text}
use Rattle.record_outcome.proofs.LastLaws.{told-last, end-line, end-stops}
use Rattle.record_outcome.specs.Played.{Played, start, turn_at, past_line}
use Rattle.record_outcome.specs.Moves.{Place, Move, goes, stops, opening, configuring, playing}
use Rattle.record_outcome.specs.Openings.{headed, opening_at, started, configuring_at}
use Rattle.record_outcome.specs.Steps.{stop_of, accepted, then_on, heard_on, played, told_at, step_at}
use Rattle.record_outcome.specs.Records.{Outcome, limit, most_lines, pieces, refused_before, passed, missing, has_begun, unended, ended, lines_at, line_at, behind, moved, run, outcome}
use Rattle.record_outcome.specs.declared.status.Status.{Status}
use Rattle.record_outcome.specs.declared.status.Status.TheVariants as statuses
use Rattle.record_outcome.specs.Written.{IsAccepted, MeetsFull, HasNoEnd, IsUnended, StopsBehind, end_of, IsWritten, TextIsOfHistory, WritesHistory}
use Rattle.record_outcome.specs.Judgements.{Answers}

-- ---- the parts of a piece

pub onto-behind : {A : Type 0} (xs ys zs : List A) → onto (ys ++ zs) xs ≡ onto ys xs ++ zs
onto-behind [] ys zs = refl
onto-behind (x ∷ xs) ys zs = onto-behind xs (x ∷ ys) zs

-- After parts that made these turns and this text, the steps of a piece are made at one moment, and answered in one shape.
module _ (number : ℕ) (c : Config) (shape : Shape) (moment : ℕ) (form : ℕ → Form) where
  abbrev pub at : List Part → Played
  at ps = record { moment = moment; turns = turns_of ps; form = form }

  abbrev pub onwards : List Part → List Heard → List Part
  onwards ps hs = onto ps (map (part_of moment shape) hs)

  -- the reading goes on: with the steps of all parts, which are accepted, and the text of all
  abbrev HasGone : List Part → List Heard → List ℕ → Place → List ℕ → Type 0
  HasGone ps hs so_far to out = (to ≡ playing c (at (onwards ps hs)))
      × ((before : List ℕ) → text_behind c ps ≡ before ++ so_far → text_behind c (onwards ps hs) ≡ before ++ out)
      × (IsHistory (configured_model c) (turns_of ps) → IsHistory (configured_model c) (turns_of (onwards ps hs)))

  heard-on : (hs : List Heard) (ps : List Part) (so_far : List ℕ) (to : Place) (out : List ℕ) → heard_on number c shape hs (at ps) so_far ≡ goes to out → HasGone ps hs so_far to out
  heard-on [] ps so_far to out e =
      let one : playing c (at ps) ≡ to = cc in let other : so_far ≡ out = cc in
      (sym one, λ before is. is ∙ ap (λ t. before ++ t) other, λ h. h)
  heard-on (Tells more ∷ hs) ps so_far to out e =
      let g = heard-on hs (answered more ∷ ps) (so_far ++ more) to out e in
      (g.0, λ before is. g.1 before (ap (λ t. t ++ more) is ∙ append_assoc before so_far more), g.2)
  heard-on (Makes actor step ∷ hs) ps so_far to out e = by (heard-on hs) (fault (configured_model c) (turns_of ps) (turn_at (at ps) actor.0 step)) refl e where
    t : Turn
    t = turn_at (at ps) actor.0 step

    lines : List ℕ
    lines = texts.lines_of c shape t.step (answer (configured_model c) (turns_of ps) t)

    by : ((ps : List Part) (so_far : List ℕ) (to : Place) (out : List ℕ) → heard_on number c shape hs (at ps) so_far ≡ goes to out → HasGone ps hs so_far to out)
        → (o : Option Fault) → fault (configured_model c) (turns_of ps) t ≡ o → then_on number c (heard_on number c shape hs) (at ps) shape so_far t o ≡ goes to out → HasGone ps (Makes actor step ∷ hs) so_far to out
    by rest None none e =
        let g = rest (stepped t shape ∷ ps) (so_far ++ lines) to out e in
        (g.0, λ before is. g.1 before (ap (λ t. t ++ lines) is ∙ append_assoc before so_far lines), λ h. g.2 (h, none))
    by rest (Some f) some e = absurd cc

  -- the reading stops, at a step that is refused after those before it
  abbrev HasStopped : List Part → List Part → List Heard → Status → List ℕ → Type 0
  HasStopped ps behind hs status out = (later : List Part) × (t : Turn) × (earlier : List Part) × (f : Fault) × (onwards ps hs ≡ later ++ stepped t shape ∷ earlier)
      × (fault (configured_model c) (turns_of (earlier ++ behind)) t ≡ Some f) × (stops (stop_of number f) [] ≡ stops status out)

  heard-stops : (hs : List Heard) (ps behind : List Part) (so_far : List ℕ) (status : Status) (out : List ℕ) → heard_on number c shape hs (at (ps ++ behind)) so_far ≡ stops status out → HasStopped ps behind hs status out
  heard-stops [] ps behind so_far status out e = absurd cc
  heard-stops (Tells more ∷ hs) ps behind so_far status out e = heard-stops hs (answered more ∷ ps) behind (so_far ++ more) status out e
  heard-stops (Makes actor step ∷ hs) ps behind so_far status out e = by (heard-stops hs) (fault (configured_model c) (turns_of (ps ++ behind)) (turn_at (at (ps ++ behind)) actor.0 step)) refl e where
    t : Turn
    t = turn_at (at (ps ++ behind)) actor.0 step

    lines : List ℕ
    lines = texts.lines_of c shape t.step (answer (configured_model c) (turns_of (ps ++ behind)) t)

    by : ((ps behind : List Part) (so_far : List ℕ) (status : Status) (out : List ℕ) → heard_on number c shape hs (at (ps ++ behind)) so_far ≡ stops status out → HasStopped ps behind hs status out)
        → (o : Option Fault) → fault (configured_model c) (turns_of (ps ++ behind)) t ≡ o → then_on number c (heard_on number c shape hs) (at (ps ++ behind)) shape so_far t o ≡ stops status out → HasStopped ps behind (Makes actor step ∷ hs) status out
    by rest None none e = rest (stepped t shape ∷ ps) behind (so_far ++ lines) status out e
    by rest (Some f) some e = (onto [] (map (part_of moment shape) hs), t, ps, f, onto-behind (map (part_of moment shape) hs) [] (stepped t shape ∷ ps), some, e)

abbrev Of : Type 0
Of = List (List ℕ) → Option Recorded

-- among the lines of a configuration, whose octets so far these are
abbrev configured : List ℕ → Of
configured text ls = option_and_then (λ (p : Parted). recorded (config_at (text ++ octets_of p.configuration)) p.steps) (parted ls)

-- after step lines, the newest of them first
abbrev pub standing : Config → List (List ℕ) → Played
standing c before = record { moment = moment_of c before; turns = turns_in (steps_of c before); form = λ a. form_at a before }

-- after one line more, which is read so and says this
abbrev pub parts_by : Config → List (List ℕ) → Result RecLine Kind → Told → List Part
parts_by c before r t = parts_in (moment_of c before) (form_of before r) t

abbrev pub grown : Config → List (List ℕ) → Result RecLine Kind → Told → Played
grown c before r t = record { moment = moment_after t (moment_of c before); turns = turns_in (parts_by c before r t ∷ steps_of c before); form = λ a. form_after a r (form_at a before) }

-- what holds where a line is read so and says this holds after it
pub onto-line : (c : Config) (before : List (List ℕ)) (line : List ℕ) (r : Result RecLine Kind) (t : Told) → judging.line_at line ≡ r → said_in c (form_of before r) r ≡ t → (P : Result RecLine Kind → Told → Type 0) → P r t
    → P (judging.line_at line) (said c before line)
onto-line c before line r t is says P p = subst (λ r. P r (said_in c (form_of before r) r)) (sym is) (subst (P r) (sym says) p)

-- the history of the lines that follow, where the reading is, and what was written before
abbrev IsFrom : Place → Of → List ℕ → Type 0
IsFrom opening h written = ((ls : List (List ℕ)) → h ls ≡ history_of ls) × (written ≡ [])
IsFrom (configuring n text) h written = ((ls : List (List ℕ)) → h ls ≡ configured text ls) × (written ≡ [])
IsFrom (playing c s) h written = (before : List (List ℕ)) × ((ls : List (List ℕ)) → h ls ≡ Some (record { config = c; lines = onto before ls; steps = steps_of c (onto before ls) }))
    × (written ≡ text_of c (steps_of c before)) × (s ≡ standing c before) × IsHistory (configured_model c) (turns_in (steps_of c before)) × HasNoEnd before

text-here : (place : Place) (h : Of) (written : List ℕ) → IsFrom place h written → written ≡ record_text (h [])
text-here opening h written f = f.1 ∙ sym (ap record_text (f.0 []))
text-here (configuring n text) h written f = f.1 ∙ sym (ap record_text (f.0 []))
text-here (playing c s) h written f = f.2 ∙ sym (ap record_text (f.1 []))

accepted-here : (place : Place) (h : Of) (written : List ℕ) → IsFrom place h written → IfSome (h []) IsAccepted
accepted-here opening h written f = subst (λ o. IfSome o IsAccepted) (sym (f.0 [])) tt
accepted-here (configuring n text) h written f = subst (λ o. IfSome o IsAccepted) (sym (f.0 [])) tt
accepted-here (playing c s) h written f = subst (λ o. IfSome o IsAccepted) (sym (f.1 [])) f.4

-- the reading stops here, with what is written of it
abbrev StopsHere : Of → Status → List ℕ → ℕ → List (List ℕ) → Type 0
StopsHere h status text count ls = (text ≡ end_of status) × StopsBehind h status count 0 ls

stopped : (place : Place) (h : Of) (written : List ℕ) (count : ℕ) (ls : List (List ℕ)) (status : Status) (text : List ℕ) → IsFrom place h written → StopsHere h status text count ls
    → IsWritten h written count ls (record { status = status; text = text })
stopped place h written count ls status text f s = record {
  lines = 0;
  within = omega arith;
  text_ = ap (λ t. written ++ t) s.0 ∙ ap (λ w. w ++ end_of status) (text-here place h written f);
  accepted = accepted-here place h written f;
  stops = let same : count ≡ count + 0 = omega arith in subst (λ n. StopsBehind h status n 0 ls) same s.1;
}

later : (h : Of) (line : List ℕ) (status : Status) (number k : ℕ) (ls : List (List ℕ)) → StopsBehind (λ ls. h (line ∷ ls)) status number k ls → StopsBehind h status number (suc k) (line ∷ ls)
later h line statuses.Ok number k ls s = s
later h line statuses.Words number k ls s = s
later h line (statuses.Record l kind) number k ls s = s
later h line (statuses.Config l kind) number k ls s = s
later h line (statuses.Limit which l) number k ls s = s
later h line statuses.Memory number k ls s = s
later h line statuses.ReadFault number k ls s = s
later h line statuses.WriteFault number k ls s = s

on : (h : Of) (written text line : List ℕ) (count : ℕ) (ls : List (List ℕ)) (o : Outcome) → IsWritten (λ ls. h (line ∷ ls)) (written ++ text) (suc count) ls o → IsWritten h written count (line ∷ ls) (behind text o)
on h written text line count ls o w = record {
  lines = suc w.lines;
  within = omega (arith, w.within);
  text_ = sym (append_assoc written text o.text) ∙ w.text_;
  accepted = w.accepted;
  stops = let same : suc count + w.lines ≡ count + suc w.lines = omega arith in subst (λ n. StopsBehind h o.status n (suc w.lines) (line ∷ ls)) same (later h line o.status (suc count + w.lines) w.lines ls w.stops);
}

-- where a limit is passed, or a line isn't there
module _ (h : Of) (count : ℕ) (ls : List (List ℕ)) where
  refused-stops : (n : ℕ) (status : Status) (r : Result Config CfgFault) → h [] ≡ None → StopsHere h status [] count ls → StopsHere h (refused_before (suc count) n status r) [] count ls
  refused-stops n status (Ok c) none s = s
  refused-stops n status (Err (faults.Refused line kind)) none s = by (n + line == suc count) where
    by : (b : Bool) → StopsHere h (if b then status else statuses.Config (n + line) (cfg.number_of kind)) [] count ls
    by true = s
    by false = (refl, none)
  refused-stops n status (Err faults.Memory) none s = s

  passed-stops : (which : ℕ) (place : Place) (written : List ℕ) → (which ≡ 2 → ⊥) → IsFrom place h written → StopsHere h (passed which (suc count) place) [] count ls
  passed-stops which opening written other f = (refl, (refl, λ e. absurd (other e)))
  passed-stops which (configuring n text) written other f = refused-stops n (statuses.Limit which (suc count)) (config_at text) (f.0 []) (refl, (refl, λ e. absurd (other e)))
  passed-stops which (playing c s) written other f = (refl, (refl, λ e. absurd (other e)))

  missing-stops : (place : Place) (written : List ℕ) → IsFrom place h written → StopsHere h (missing (suc count) place) [] count ls
  missing-stops opening written f = (refl, refl)
  missing-stops (configuring n text) written f = refused-stops n (statuses.Config (suc count) 2) (config_at text) (f.0 []) (refl, f.0 [])
  missing-stops (playing c s) written f = (refl, refl)

  ended-stops : (long begun : Bool) (place : Place) (written : List ℕ) → IsFrom place h written → StopsHere h (ended long begun (suc count) place) [] count ls
  unfolding ended unended
  ended-stops long begun place written f = by long (begun && nat_lt most_lines (suc count)) where
    by : (a b : Bool) → StopsHere h (if a then passed 3 (suc count) place else if b then passed 1 (suc count) place else missing (suc count) place) [] count ls
    by true b = passed-stops 3 place written (λ e. cc) f
    by false true = passed-stops 1 place written (λ e. cc) f
    by false false = missing-stops place written f

-- a line with which the reading stops
module _ (h : Of) (count : ℕ) (line : List ℕ) (ls : List (List ℕ)) (status : Status) (text : List ℕ) where
  abbrev Here : Type 0
  Here = StopsHere h status text count (line ∷ ls)

  stop-by : (told : Status) (written : List ℕ) → stops told written ≡ stops status text → StopsHere h told written count (line ∷ ls) → Here
  stop-by told written e s =
      let one : told ≡ status = cc in let other : written ≡ text = cc in
      subst (λ t. StopsHere h status t count (line ∷ ls)) other (subst (λ s. StopsHere h s written count (line ∷ ls)) one s)

  record-stops : (kind : ℕ) → stops (statuses.Record (suc count) kind) [] ≡ stops status text → Here
  record-stops kind e = stop-by (statuses.Record (suc count) kind) [] e (refl, refl)

  headed-stops : (ws : List (List ℕ)) → headed (suc count) ws ≡ stops status text → Here
  headed-stops [] e = record-stops 1 e
  headed-stops (word ∷ []) e = record-stops 1 e
  headed-stops (word ∷ version ∷ []) e = by (bytes_eq word (codes "record") && not (length version == 0)) (bytes_eq version (codes "1")) e where
    by : (a b : Bool) → (if a then (if b then goes (configuring (suc count) []) [] else stops (statuses.Record (suc count) 2) []) else stops (statuses.Record (suc count) 1) []) ≡ stops status text → Here
    by true true e = absurd cc
    by true false e = record-stops 2 e
    by false b e = record-stops 1 e
  headed-stops (word ∷ version ∷ more ∷ rest) e = record-stops 1 e

  opening-stops : opening_at (suc count) line ≡ stops status text → Here
  unfolding opening_at
  opening-stops e = by (is_long line) (is_skipped line) e where
    by : (a b : Bool) → (if a then stops (statuses.Record (suc count) 8) [] else if b then goes opening [] else headed (suc count) (words_of line)) ≡ stops status text → Here
    by true b e = record-stops 8 e
    by false true e = absurd cc
    by false false e = headed-stops (words_of line) e

  started-stops : (n : ℕ) (r : Result Config CfgFault) → h [] ≡ None → started n r ≡ stops status text → Here
  started-stops n (Ok c) none e = absurd cc
  started-stops n (Err (faults.Refused l kind)) none e = stop-by (statuses.Config (n + l) (cfg.number_of kind)) [] e (refl, none)
  started-stops n (Err faults.Memory) none e = stop-by statuses.Memory [] e (refl, none)

  -- a step line, after others
  module _ (c : Config) (before : List (List ℕ)) (history : (ls : List (List ℕ)) → h ls ≡ Some (record { config = c; lines = onto before ls; steps = steps_of c (onto before ls) })) (none : HasNoEnd before) where
    -- a step of it finds the queue full, after the parts of it that come before
    full : (r : Result RecLine Kind) (told_ : Told) (later earlier : List Part) (t : Turn) (shape : Shape) (a : ℕ) → judging.line_at line ≡ r → said_in c (form_of before r) r ≡ told_ → parts_by c before r told_ ≡ later ++ stepped t shape ∷ earlier
        → fault (configured_model c) (turns_in (earlier ∷ steps_of c before)) t ≡ Some (QueueFull a) → MeetsFull (h (line ∷ []))
    full r told_ later earlier t shape a is says parts cause = subst MeetsFull (sym (history (line ∷ []))) (record {
      later = later;
      turn = t;
      shape = shape;
      earlier = earlier;
      before = steps_of c before;
      association = a;
      line = onto-line c before line r told_ is says (λ q u. parts_by c before q u ∷ steps_of c before ≡ (later ++ stepped t shape ∷ earlier) ∷ steps_of c before) (ap (λ ps. ps ∷ steps_of c before) parts);
      cause = cause;
    })

    -- where a step that is refused stops the reading, with this status
    fault-stops : (r : Result RecLine Kind) (told_ : Told) (later earlier : List Part) (t : Turn) (shape : Shape) (f : Fault) → judging.line_at line ≡ r → said_in c (form_of before r) r ≡ told_
        → parts_by c before r told_ ≡ later ++ stepped t shape ∷ earlier → fault (configured_model c) (turns_in (earlier ∷ steps_of c before)) t ≡ Some f → stops (stop_of (suc count) f) [] ≡ stops status text → Here
    fault-stops r told_ later earlier t shape (IsOpen a) is says parts found e = record-stops 5 e
    fault-stops r told_ later earlier t shape (NotOpen a) is says parts found e = record-stops 5 e
    fault-stops r told_ later earlier t shape (NotYours a) is says parts found e = record-stops 5 e
    fault-stops r told_ later earlier t shape (QueueFull a) is says parts found e =
        stop-by (statuses.Limit 2 (suc count)) [] e (refl, (refl, λ two. full r told_ later earlier t shape a is says parts found))

    played-stops : (l : RecLine) (t : Told) → judging.line_at line ≡ Ok l → told_of c (form_at (association_of l) before) l ≡ t → (t ≡ last → line ≡ codes "end")
        → played (suc count) c (past_line (standing c before) l) (shape_of (form_at (association_of l) before)) t ≡ stops status text → Here
    unfolding played
    played-stops l skip is says ends e = absurd cc
    played-stops l (pass_to moment) is says ends e = absurd cc
    played-stops l (turn actor step) is says ends e = by (fault (configured_model c) (turns_in (steps_of c before)) (turn_at (standing c before) actor step)) refl e where
      by : (o : Option Fault) → fault (configured_model c) (turns_in (steps_of c before)) (turn_at (standing c before) actor step) ≡ o
          → accepted (suc count) c (past_line (standing c before) l) (shape_of (form_at (association_of l) before)) (turn_at (standing c before) actor step) o ≡ stops status text → Here
      by None found e = absurd cc
      by (Some f) found e = fault-stops (Ok l) (turn actor step) [] [] (turn_at (standing c before) actor step) (shape_of (form_at (association_of l) before)) f is says refl found e
    played-stops l (heard hs) is says ends e =
        let shape : Shape = shape_of (form_at (association_of l) before) in
        let s = heard-stops (suc count) c shape (moment_of c before) (λ a. form_behind a l (form_at a before)) hs [] (parts_of (steps_of c before)) [] status text e in
        fault-stops (Ok l) (heard hs) s.0 s.2 s.1 shape s.3 is says s.4 s.5 s.6
    played-stops l (refused kind) is says ends e = record-stops kind e
    played-stops l last is says ends e = stop-by statuses.Ok (codes "end\n") e (refl, ((ls, ap (λ l. l ∷ ls) (ends refl)), subst IsUnended (sym (history [])) none))

    step-stops : step_at (suc count) c (standing c before) line ≡ stops status text → Here
    unfolding step_at
    step-stops e = by (judging.line_at line) refl e where
      by : (r : Result RecLine Kind) → judging.line_at line ≡ r → told_at (suc count) c (standing c before) r ≡ stops status text → Here
      by (Err kind) is e = record-stops (number_of kind) e
      by (Ok l) is e = played-stops l (told_of c (form_at (association_of l) before) l) is refl (λ t. end-line line (is ∙ ap Ok (told-last c (form_at (association_of l) before) l t))) e

-- the octets of a configuration whose line is the last one, and of one with a line more
last-whole : (text line : List ℕ) → text ++ octets_of (line ∷ []) ≡ text ++ (line ++ 10 ∷ [])
last-whole text line = ap (λ o. text ++ o) (append-nil (line ++ 10 ∷ []))

module _ (text line : List ℕ) (ls : List (List ℕ)) where
  abbrev by-end : Bool → Option Recorded
  by-end b = option_and_then (λ (p : Parted). recorded (config_at (text ++ octets_of p.configuration)) p.steps) (if b then Some (record { configuration = line ∷ []; steps = ls }) else option_map (with_line line) (parted ls))

  configured-end : bytes_eq line (codes "end") ≡ true → configured text (line ∷ ls) ≡ recorded (config_at (text ++ (line ++ 10 ∷ []))) ls
  configured-end is = ap by-end is ∙ ap (λ o. recorded (config_at o) ls) (last-whole text line)

  configured-more : bytes_eq line (codes "end") ≡ false → configured text (line ∷ ls) ≡ configured (text ++ (line ++ 10 ∷ [])) ls
  configured-more is = ap by-end is ∙ by (parted ls) where
    by : (o : Option Parted) → option_and_then (λ (p : Parted). recorded (config_at (text ++ octets_of p.configuration)) p.steps) (option_map (with_line line) o)
        ≡ option_and_then (λ (p : Parted). recorded (config_at ((text ++ (line ++ 10 ∷ [])) ++ octets_of p.configuration)) p.steps) o
    by None = refl
    by (Some p) = ap (λ o. recorded (config_at o) p.steps) (sym (append_assoc text (line ++ 10 ∷ []) (octets_of p.configuration)))

stops-here : (place : Place) (h : Of) (written : List ℕ) (count : ℕ) (line : List ℕ) (ls : List (List ℕ)) (status : Status) (text : List ℕ) → IsFrom place h written
    → line_at (suc count) place line ≡ stops status text → StopsHere h status text count (line ∷ ls)
unfolding line_at configuring_at
stops-here place h written count line ls status text f e = by (nat_lt most_lines (suc count)) e where
  below : (place : Place) → IsFrom place h written → lines_at (suc count) place line ≡ stops status text → StopsHere h status text count (line ∷ ls)
  below opening f e = opening-stops h count line ls status text e
  below (configuring n before) f e = end (bytes_eq line (codes "end")) refl e where
    end : (b : Bool) → bytes_eq line (codes "end") ≡ b → (if b then started n (config_at (before ++ (line ++ 10 ∷ []))) else goes (configuring n (before ++ (line ++ 10 ∷ []))) []) ≡ stops status text
        → StopsHere h status text count (line ∷ ls)
    end true ends e = started-stops h count line ls status text n (config_at (before ++ (line ++ 10 ∷ []))) (f.0 []) e
    end false ends e = absurd cc
  below (playing c s) f e = step-stops h count line ls status text c f.0 f.1 f.5 (ap (λ s. step_at (suc count) c s line) (sym f.3) ∙ e)

  by : (b : Bool) → (if b then stops (passed 1 (suc count) place) [] else lines_at (suc count) place line) ≡ stops status text → StopsHere h status text count (line ∷ ls)
  by true e = stop-by h count line ls status text (passed 1 (suc count) place) [] e (passed-stops h count (line ∷ ls) 1 place written (λ e. cc) f)
  by false e = below place f e

-- a line after which the reading goes on
abbrev On : Of → List ℕ → List ℕ → Place → List ℕ → Type 0
On h written line to text = IsFrom to (λ ls. h (line ∷ ls)) (written ++ text)

on-by : (h : Of) (written line : List ℕ) (place to : Place) (more text : List ℕ) → goes place more ≡ goes to text → On h written line place more → On h written line to text
on-by h written line place to more text e o =
    let one : place ≡ to = cc in let other : more ≡ text = cc in
    subst (λ t. On h written line to t) other (subst (λ p. On h written line p more) one o)

headed-on : (h : Of) (written line : List ℕ) (number : ℕ) (ws : List (List ℕ)) (to : Place) (text : List ℕ) → On h written line (configuring number []) [] → headed number ws ≡ goes to text → On h written line to text
headed-on h written line number [] to text o e = absurd cc
headed-on h written line number (word ∷ []) to text o e = absurd cc
headed-on h written line number (word ∷ version ∷ []) to text o e = by (bytes_eq word (codes "record") && not (length version == 0)) (bytes_eq version (codes "1")) e where
  by : (a b : Bool) → (if a then (if b then goes (configuring number []) [] else stops (statuses.Record number 2) []) else stops (statuses.Record number 1) []) ≡ goes to text → On h written line to text
  by true true e = on-by h written line (configuring number []) to [] text e o
  by true false e = absurd cc
  by false b e = absurd cc
headed-on h written line number (word ∷ version ∷ more ∷ rest) to text o e = absurd cc

none-more : (written : List ℕ) → written ≡ [] → written ++ [] ≡ []
none-more written is = append-nil written ∙ is

opening-on : (h : Of) (written line : List ℕ) (number : ℕ) (to : Place) (text : List ℕ) → IsFrom opening h written → opening_at number line ≡ goes to text → On h written line to text
unfolding opening_at
opening-on h written line number to text f e = by (is_long line) (is_skipped line) refl e where
  heads : (b : Bool) (ls : List (List ℕ)) → is_skipped line ≡ b → h (line ∷ ls) ≡ option_and_then (λ (p : Parted). recorded (config_at (octets_of p.configuration)) p.steps) (parted (if b then behind_heading ls else ls))
  heads b ls is = f.0 (line ∷ ls) ∙ ap (λ b. option_and_then (λ (p : Parted). recorded (config_at (octets_of p.configuration)) p.steps) (parted (if b then behind_heading ls else ls))) is

  by : (a b : Bool) → is_skipped line ≡ b → (if a then stops (statuses.Record number 8) [] else if b then goes opening [] else headed number (words_of line)) ≡ goes to text → On h written line to text
  by true b is e = absurd cc
  by false true is e = on-by h written line opening to [] text e (λ ls. heads true ls is, none-more written f.1)
  by false false is e = headed-on h written line number (words_of line) to text (λ ls. heads false ls is, none-more written f.1) e

started-on : (h : Of) (written line : List ℕ) (n : ℕ) (r : Result Config CfgFault) (to : Place) (text : List ℕ) → written ≡ [] → ((ls : List (List ℕ)) → h (line ∷ ls) ≡ recorded r ls) → started n r ≡ goes to text
    → On h written line to text
started-on h written line n (Ok c) to text none whole e = on-by h written line (playing c start) to [] text e ([], whole, none-more written none, refl, tt, All-nil (λ line. bytes_eq line (codes "end") ≡ false))
started-on h written line n (Err (faults.Refused l kind)) to text none whole e = absurd cc
started-on h written line n (Err faults.Memory) to text none whole e = absurd cc

-- a step line
module _ (h : Of) (written line : List ℕ) (c : Config) (before : List (List ℕ)) (number : ℕ) (to : Place) (text : List ℕ) where
  module _ (history : (ls : List (List ℕ)) → h ls ≡ Some (record { config = c; lines = onto before ls; steps = steps_of c (onto before ls) })) (wrote : written ≡ text_of c (steps_of c before)) (is-history : IsHistory (configured_model c) (turns_in (steps_of c before))) (none : HasNoEnd (line ∷ before)) where
    -- the line is read so, and says t
    module _ (r : Result RecLine Kind) (t : Told) (is : judging.line_at line ≡ r) (says : said_in c (form_of before r) r ≡ t) where
      after : (more : List ℕ) → text_of c (parts_by c before r t ∷ steps_of c before) ≡ text_of c (steps_of c before) ++ more → IsHistory (configured_model c) (turns_in (parts_by c before r t ∷ steps_of c before))
          → goes (playing c (grown c before r t)) more ≡ goes to text → On h written line to text
      after more told held e = on-by h written line (playing c (grown c before r t)) to more text e (
        line ∷ before,
        λ ls. history (line ∷ ls),
        ap (λ w. w ++ more) wrote ∙ sym (onto-line c before line r t is says (λ q u. text_of c (parts_by c before q u ∷ steps_of c before) ≡ text_of c (steps_of c before) ++ more) told),
        onto-line c before line r t is says (λ q u. grown c before r t ≡ grown c before q u) refl,
        onto-line c before line r t is says (λ q u. IsHistory (configured_model c) (turns_in (parts_by c before q u ∷ steps_of c before))) held,
        none,
      )

    played-on : (l : RecLine) (t : Told) → judging.line_at line ≡ Ok l → told_of c (form_at (association_of l) before) l ≡ t
        → played number c (past_line (standing c before) l) (shape_of (form_at (association_of l) before)) t ≡ goes to text → On h written line to text
    unfolding played
    played-on l skip is says e = after (Ok l) skip is says [] (sym (append-nil (text_of c (steps_of c before)))) is-history e
    played-on l (pass_to moment) is says e = after (Ok l) (pass_to moment) is says [] (sym (append-nil (text_of c (steps_of c before)))) is-history e
    played-on l (turn actor step) is says e = by (fault (configured_model c) (turns_in (steps_of c before)) (turn_at (standing c before) actor step)) refl e where
      by : (o : Option Fault) → fault (configured_model c) (turns_in (steps_of c before)) (turn_at (standing c before) actor step) ≡ o
          → accepted number c (past_line (standing c before) l) (shape_of (form_at (association_of l) before)) (turn_at (standing c before) actor step) o ≡ goes to text → On h written line to text
      by None none e = after (Ok l) (turn actor step) is says _ refl (is-history, none) e
      by (Some f) some e = absurd cc
    played-on l (heard hs) is says e =
        let shape : Shape = shape_of (form_at (association_of l) before) in
        let behind_it : List Part = parts_of (steps_of c before) in
        let forms : ℕ → Form = λ a. form_behind a l (form_at a before) in
        let g = heard-on number c shape (moment_of c before) forms hs behind_it [] to text e in
        let same : onto behind_it (map (part_of (moment_of c before) shape) hs) ≡ onto [] (map (part_of (moment_of c before) shape) hs) ++ behind_it = onto-behind (map (part_of (moment_of c before) shape) hs) [] behind_it in
        after (Ok l) (heard hs) is says text
        (ap (text_behind c) (sym same) ∙ g.1 (text_behind c behind_it) (sym (append-nil (text_behind c behind_it))))
        (subst (λ ps. IsHistory (configured_model c) (turns_of ps)) same (g.2 is-history))
        (ap (λ ps. goes (playing c (record { moment = moment_of c before; turns = turns_of ps; form = forms })) text) (sym same) ∙ ap (λ p. goes p text) (sym g.0))
    played-on l (refused kind) is says e = absurd cc
    played-on l last is says e = absurd cc

    step-on : step_at number c (standing c before) line ≡ goes to text → On h written line to text
    unfolding step_at
    step-on e = by (judging.line_at line) refl e where
      by : (r : Result RecLine Kind) → judging.line_at line ≡ r → told_at number c (standing c before) r ≡ goes to text → On h written line to text
      by (Err kind) is e = absurd cc
      by (Ok l) is e = played-on l (told_of c (form_at (association_of l) before) l) is refl e

goes-on : (place : Place) (h : Of) (written : List ℕ) (number : ℕ) (line : List ℕ) (to : Place) (text : List ℕ) → IsFrom place h written → line_at number place line ≡ goes to text → On h written line to text
unfolding line_at configuring_at
goes-on place h written number line to text f e = by (nat_lt most_lines number) e where
  below : (place : Place) → IsFrom place h written → lines_at number place line ≡ goes to text → On h written line to text
  below opening f e = opening-on h written line number to text f e
  below (configuring n before) f e = end (bytes_eq line (codes "end")) refl e where
    end : (b : Bool) → bytes_eq line (codes "end") ≡ b → (if b then started n (config_at (before ++ (line ++ 10 ∷ []))) else goes (configuring n (before ++ (line ++ 10 ∷ []))) []) ≡ goes to text → On h written line to text
    end true ends e = started-on h written line n (config_at (before ++ (line ++ 10 ∷ []))) to text f.1 (λ ls. f.0 (line ∷ ls) ∙ configured-end before line ls ends) e
    end false ends e = on-by h written line (configuring n (before ++ (line ++ 10 ∷ []))) to [] text e (λ ls. f.0 (line ∷ ls) ∙ configured-more before line ls ends, none-more written f.1)
  below (playing c s) f e = end (bytes_eq line (codes "end")) refl where
    end : (b : Bool) → bytes_eq line (codes "end") ≡ b → On h written line to text
    end true ends =
        let stopped_ : stops statuses.Ok (codes "end\n") ≡ goes to text = sym (end-stops number c s) ∙ (ap (step_at number c s) (sym ((bytes_eq-Decides line (codes "end")).0 ends)) ∙ e) in
        absurd cc
    end false other = step-on h written line c f.0 number to text f.1 f.2 f.4 (All-cons (λ l. bytes_eq l (codes "end") ≡ false) line f.0 other f.5) (ap (λ s. step_at number c s line) (sym f.3) ∙ e)

  by : (b : Bool) → (if b then stops (passed 1 number place) [] else lines_at number place line) ≡ goes to text → On h written line to text
  by true e = absurd cc
  by false e = below place f e

-- the lines one after another
run-written : (long : Bool) (ps : List (List ℕ)) (count : ℕ) (place : Place) (h : Of) (written : List ℕ) → IsFrom place h written → IsWritten h written count (ended_pieces ps) (run long count place ps)
run-written long [] count place h written f = stopped place h written count [] (ended long false (suc count) place) [] f (ended-stops h count [] long false place written f)
run-written long (rest ∷ []) count place h written f = stopped place h written count [] (ended long (has_begun rest) (suc count) place) [] f (ended-stops h count [] long (has_begun rest) place written f)
run-written long (line ∷ next ∷ more) count place h written f = by (run-written long (next ∷ more)) (line_at (suc count) place line) refl where
  by : ((count : ℕ) (place : Place) (h : Of) (written : List ℕ) → IsFrom place h written → IsWritten h written count (ended_pieces (next ∷ more)) (run long count place (next ∷ more)))
      → (m : Move) → line_at (suc count) place line ≡ m → IsWritten h written count (line ∷ ended_pieces (next ∷ more)) (moved m (λ to. run long (suc count) to (next ∷ more)))
  by rest (goes to text) e = on h written text line count (ended_pieces (next ∷ more)) (run long (suc count) to (next ∷ more)) (rest (suc count) to (λ ls. h (line ∷ ls)) (written ++ text) (goes-on place h written (suc count) line to text f e))
  by rest (stops status text) e = stopped place h written count (line ∷ ended_pieces (next ∷ more)) status text f (stops-here place h written count line (ended_pieces (next ∷ more)) status text f e)

pub text_is_of_history : TextIsOfHistory
unfolding outcome
text_is_of_history octets = run-written (nat_lt limit (length octets)) (pieces (take limit octets)) 0 opening history_of [] (λ ls. refl, refl)

pub writes-history : (left : Option (List ℕ)) (status : Status) (old new : Option (List ℕ)) → IfSome left (λ b. Answers b status old new) → IfSome left (λ b. WritesHistory b status old new)
writes-history None status old new a = tt
writes-history (Some b) status old new a =
    ((outcome b).text, a.1, subst (λ s. IsWritten history_of [] 0 (lines_of (take limit b)) (record { status = s; text = (outcome b).text })) (sym a.0) (text_is_of_history b))
