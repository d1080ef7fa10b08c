-- What comes to a plan is a rehearsal of it.
use Rattle.std.proofs.Common.{◌≡◌, ◌≤◌, ◌<◌, ◌+◌, ◌==◌, ◌&&◌, ◌||◌, ℕ, suc, Bool, true, false, not, List, [], ◌∷◌, ◌++◌, length, take, drop, refl, sym, ap, subst, ◌∙◌, arith, inl, inr, append_assoc, length-append, length-take, take-append-drop}
use Rattle.std.specs.Prelude.{Option, None, Some, is_some, Result, Ok, Err, codes, nat_lt, if◌then◌else◌}
use Rattle.std.specs.Str.{bytes_eq}
use Rattle.std.specs.List.{join_with_byte}
use Rattle.std.proofs.lemmas.Bool.{and_parts}
use Rattle.std.proofs.lemmas.Bool.Decides.{eqb_tells}
use Rattle.std.proofs.lemmas.List.Splits.{join_with_byte-slice_split}
use Rattle.std.proofs.lemmas.Slice.Eq.{bytes_eq-Decides}
use Rattle.sv_base.specs.declared.config.Config.{Config}
use Rattle.bay_model.specs.Points.{least_moment}
use Rattle.text_words.specs.Octets.{IsSkipped, is_skipped}
use Rattle.text_words.specs.Words.{words_of}
use Rattle.cfg_parser.specs.Looking.{config_at}
use Rattle.cfg_parser.specs.declared.fault.CfgFault.{CfgFault}
use Rattle.cfg_parser.specs.declared.fault.CfgFault.TheVariants as faults
use Rattle.cfg_text.proofs.WholeLaws.{config-told}
use Rattle.run_record.specs.Grammar.{Spells}
use Rattle.run_record.specs.Spelled.{words}
use Rattle.run_record.specs.Judging.{is_long}
use Rattle.run_record.specs.Judging as judging
use Rattle.run_record.specs.declared.fault.Kind.{Kind}
use Rattle.run_record.specs.declared.fault.Kind.TheVariants as kinds
use Rattle.run_record.specs.declared.line.RecLine.{RecLine}
use Rattle.run_record.specs.declared.line.RecLine.TheVariants as lines
use Rattle.record_steps.specs.Forms.{shut, form_behind}
use Rattle.record_steps.specs.Resolved.{told_of}
use Rattle.record_steps.specs.Told.{Told, skip, pass_to, turn, heard, refused, last}
use Rattle.record_outcome.specs.Histories.{octets_of}
use Rattle.record_outcome.specs.Records.{limit, most_lines, NoNewline, pieces}
use Rattle.record_outcome.specs.Grammar.{IsRemark, IsInner, Each}
use Rattle.script_lines.specs.Parties.{may_have}
use Rattle.script_lines.specs.Lines.{party_text, beside, script_line_at}
use Rattle.script_lines.specs.declared.party.Party.{Party}
use Rattle.script_lines.specs.declared.line.ScriptLine.{ScriptLine}
use Rattle.script_lines.specs.declared.line.ScriptLine.TheVariants as scripts
use Rattle.script_lines.proofs.LineLaws.{line-told}
use Rattle.actor_scripts.specs.declared.script.TimedStep.{TimedStep}
use Rattle.script_plans.specs.Forms.{form_in}
use Rattle.script_plans.specs.Plans.{Script, Plan, script_of, without_scripts, with_script}
use Rattle.script_plans.specs.Moves.{Place, opening, configuring, between, inside, Move, goes, stops, ends}
use Rattle.script_plans.specs.Scripting.{most_scripts, actor_for, counted, opened, begins, strange, ended, between_step, between_as, between_at, told_in, inside_step, inside_as, inside_at}
use Rattle.script_plans.specs.Openings.{headed, opening_at, started, configuring_at}
use Rattle.script_plans.specs.Inputs as inputs
use Rattle.script_plans.specs.Inputs.{passed, lines_at, moved, ready, run, outcome}
use Rattle.script_plans.specs.Grammar.{IsLineOf, association_in, Tells, AreLines, Item, remark, scripted, lines_of, AreItems, rehearsal_lines, IsRehearsal, PlansAreOne}
use Rattle.script_plans.specs.declared.line.StepLine.{StepLine}
use Rattle.script_plans.specs.declared.opened.Opened.{Opened}
use Rattle.record_outcome.specs.declared.status.Status.TheVariants as statuses
use Rattle.script_plans.proofs.LineLaws.{line-first}
use Rattle.script_plans.proofs.SoundLaws.{pieces-clean, Good, GoodMove, lines-good, below}
use Rattle.script_plans.proofs.WholeLaws.{passed-own, IsQuiet, stays, later, later-none, later-more, lines-behind, comes}

-- ---- what is left of an input, after n lines, where it comes to a plan

-- between scripts
pub record LeftItems (n : ℕ) (p q : Plan) (ps : List (List ℕ)) : Type 0 where
  pub items : List Item
  pub more : List (List ℕ)
  pub is : ps ≡ lines_of items (codes "end" ∷ more)
  pub are : AreItems n p items q
  pub count : 0 < q.count
  pub some : 0 < length more
  pub low : n + length ps ≤ most_lines + length more

-- in a script
pub record LeftLines (n : ℕ) (p : Plan) (o : Opened) (q : Plan) (ps : List (List ℕ)) : Type 0 where
  pub texts : List (List ℕ)
  pub ls : List StepLine
  pub ss : List TimedStep
  pub after : List (List ℕ)
  pub behind : ℕ
  pub made : Script
  pub is : ps ≡ texts ++ (codes "close" ∷ after)
  pub told : AreLines p.config o.party n (form_in o.form) o.moment texts ls ss
  pub behind_is : behind ≡ suc (n + length texts)
  pub made_is : made ≡ later o.script ls ss
  pub left : LeftItems behind (with_script p o.actor made) q after

-- in the configuration
pub record LeftConfig (n : ℕ) (text : List ℕ) (q : Plan) (ps : List (List ℕ)) : Type 0 where
  pub inner : List (List ℕ)
  pub after : List (List ℕ)
  pub whole : List ℕ
  pub config : Config
  pub behind : ℕ
  pub is : ps ≡ inner ++ (codes "end" ∷ after)
  pub are : Each IsInner inner
  pub whole_is : whole ≡ text ++ (octets_of inner ++ (codes "end" ++ 10 ∷ []))
  pub reads : config_at whole ≡ Ok config
  pub behind_is : behind ≡ suc (n + length inner)
  pub left : LeftItems behind (without_scripts config whole) q after

-- before it
pub record LeftOpening (n : ℕ) (q : Plan) (ps : List (List ℕ)) : Type 0 where
  pub remarks : List (List ℕ)
  pub after : List (List ℕ)
  pub behind : ℕ
  pub is : ps ≡ remarks ++ (codes "rehearse 1" ∷ after)
  pub are : Each IsRemark remarks
  pub behind_is : behind ≡ suc (n + length remarks)
  pub left : LeftConfig behind [] q after

abbrev Left : ℕ → Place → Plan → List (List ℕ) → Type 0
Left n opening q ps = LeftOpening n q ps
Left n (configuring before text) q ps = LeftConfig n text q ps
Left n (between p) q ps = LeftItems n p q ps
Left n (inside p o) q ps = LeftLines n p o q ps

-- after a line that does this
abbrev LeftMove : ℕ → Move → Plan → List (List ℕ) → Type 0
LeftMove n (goes to) q rest = Left (suc n) to q rest
LeftMove n (stops status) q rest = ⊥
LeftMove n (ends p) q rest = (p ≡ q) × (suc n ≤ most_lines) × (0 < length rest)

-- ---- before the scripts

headed-left : (n : ℕ) (line : List ℕ) (ws : List (List ℕ)) (q : Plan) (rest : List (List ℕ)) → words_of line ≡ ws → LeftMove n (headed (suc n) ws) q rest → LeftOpening n q (line ∷ rest)
headed-left n line [] q rest is move = absurd move
headed-left n line (word ∷ []) q rest is move = absurd move
headed-left n line (word ∷ version ∷ []) q rest is move = by (bytes_eq word (codes "rehearse") && not (length version == 0)) refl (bytes_eq version (codes "1")) refl move where
  heading : bytes_eq word (codes "rehearse") ≡ true → bytes_eq version (codes "1") ≡ true → line ≡ codes "rehearse 1"
  heading a b =
      sym (join_with_byte-slice_split 32 line)
      ∙ (ap (join_with_byte 32) is
      ∙ (ap (λ (w : List ℕ). join_with_byte 32 (w ∷ version ∷ [])) ((bytes_eq-Decides word (codes "rehearse")).0 a) ∙ ap (λ (v : List ℕ). join_with_byte 32 (codes "rehearse" ∷ v ∷ [])) ((bytes_eq-Decides version (codes "1")).0 b)))

  by : (a : Bool) → (bytes_eq word (codes "rehearse") && not (length version == 0)) ≡ a → (b : Bool) → bytes_eq version (codes "1") ≡ b
      → LeftMove n (if a then (if b then goes (configuring (suc n) []) else stops (statuses.Record (suc n) 2)) else stops (statuses.Record (suc n) 1)) q rest → LeftOpening n q (line ∷ rest)
  by true first true second move = record {
    remarks = [];
    after = rest;
    behind = suc n;
    is = ap (λ (l : List ℕ). l ∷ rest) (heading (and_parts (bytes_eq word (codes "rehearse")) (not (length version == 0)) first).0 second);
    are = tt;
    behind_is = omega arith;
    left = move;
  }
  by true first false second move = absurd move
  by false first b second move = absurd move
headed-left n line (word ∷ version ∷ third ∷ more) q rest is move = absurd move

opening-left : (n : ℕ) (line : List ℕ) (q : Plan) (rest : List (List ℕ)) → NoNewline line → LeftMove n (opening_at (suc n) line) q rest → LeftOpening n q (line ∷ rest)
unfolding opening_at
opening-left n line q rest none move = by (is_long line) refl (is_skipped line) refl move where
  by : (a : Bool) → is_long line ≡ a → (b : Bool) → is_skipped line ≡ b → LeftMove n (if a then stops (statuses.Record (suc n) 8) else if b then goes opening else headed (suc n) (words_of line)) q rest → LeftOpening n q (line ∷ rest)
  by true long b skipped move = absurd move
  by false long true skipped move = record {
    remarks = line ∷ move.remarks;
    after = move.after;
    behind = move.behind;
    is = ap (λ (ls : List (List ℕ)). line ∷ ls) move.is;
    are = ((none, long, skipped), move.are);
    behind_is = omega (arith, move.behind_is);
    left = move.left;
  }
  by false long false skipped move = headed-left n line (words_of line) q rest refl move

configuring-left : (n before : ℕ) (text line : List ℕ) (q : Plan) (rest : List (List ℕ)) → NoNewline line → LeftMove n (configuring_at before text line) q rest → LeftConfig n text q (line ∷ rest)
unfolding configuring_at
configuring-left n before text line q rest none move = by (bytes_eq line (codes "end")) refl move where
  whole : List ℕ
  whole = text ++ (line ++ 10 ∷ [])

  whole-by : (r : Result Config CfgFault) → config_at (text ++ (line ++ 10 ∷ [])) ≡ r → line ≡ codes "end" → LeftMove n (started before (text ++ (line ++ 10 ∷ [])) r) q rest → LeftConfig n text q (line ∷ rest)
  whole-by (Ok c) reads is move = record {
    inner = [];
    after = rest;
    whole = text ++ (line ++ 10 ∷ []);
    config = c;
    behind = suc n;
    is = ap (λ (l : List ℕ). l ∷ rest) is;
    are = tt;
    whole_is = ap (λ (l : List ℕ). text ++ (l ++ 10 ∷ [])) is;
    reads = reads;
    behind_is = omega arith;
    left = move;
  }
  whole-by (Err (faults.Refused number kind)) reads is move = absurd move
  whole-by (Err faults.Memory) reads is move = absurd move

  by : (b : Bool) → bytes_eq line (codes "end") ≡ b
      → LeftMove n (if b then started before (text ++ (line ++ 10 ∷ [])) (config_at (text ++ (line ++ 10 ∷ []))) else goes (configuring before (text ++ (line ++ 10 ∷ [])))) q rest → LeftConfig n text q (line ∷ rest)
  by true is move = whole-by (config_at (text ++ (line ++ 10 ∷ []))) refl ((bytes_eq-Decides line (codes "end")).0 is) move
  by false is move = record {
    inner = line ∷ move.inner;
    after = move.after;
    whole = move.whole;
    config = move.config;
    behind = move.behind;
    is = ap (λ (ls : List (List ℕ)). line ∷ ls) move.is;
    are = ((none, is), move.are);
    whole_is = move.whole_is
        ∙ (append_assoc text (line ++ 10 ∷ []) (octets_of move.inner ++ (codes "end" ++ 10 ∷ [])) ∙ ap (λ (o : List ℕ). text ++ o) (sym (append_assoc (line ++ 10 ∷ []) (octets_of move.inner) (codes "end" ++ 10 ∷ []))));
    reads = move.reads;
    behind_is = omega (arith, move.behind_is);
    left = move.left;
  }

-- ---- between scripts

not-long : (text : List ℕ) (v : ScriptLine) → script_line_at text ≡ Ok v → is_long text ≡ false
unfolding script_line_at judging.line_at
not-long text v reads = by (is_long text) reads where
  by : (b : Bool) → beside text (if b then Err kinds.Long else if is_skipped text then Ok lines.Skip else judging.tell_at (words_of text)) ≡ Ok v → b ≡ false
  by true e = absurd cc
  by false e = refl

is-skipped : (text : List ℕ) → IsSkipped text → is_skipped text ≡ true
is-skipped text (inl is) = ap is_skipped is
is-skipped text (inr (rest, is, all)) = ap is_skipped is

skip-told : (text : List ℕ) → script_line_at text ≡ Ok (scripts.Step lines.Skip) → Spells text lines.Skip
skip-told text is = line-told text (scripts.Step lines.Skip) is

end-told : (text : List ℕ) → script_line_at text ≡ Ok (scripts.Step lines.End) → text ≡ codes "end"
unfolding words
end-told text is = let s : Spells text lines.End = line-told text (scripts.Step lines.End) is in s.text_

begins-left : (n : ℕ) (p : Plan) (party : Party) (line : List ℕ) (q : Plan) (rest : List (List ℕ)) → p.count ≤ 16 → script_line_at line ≡ Ok (scripts.Begins party) → LeftMove n (begins (suc n) p party) q rest → LeftItems n p q (line ∷ rest)
begins-left n p party line q rest few reads move = by (p.count == most_scripts) refl (script_of p (actor_for p party)) refl move where
  told : line ≡ party_text party
  told = (line-told line (scripts.Begins party) reads).1

  there : p.count < 16 → script_of p (actor_for p party) ≡ None → LeftLines (suc n) (counted p party) (opened p party) q rest → LeftItems n p q (line ∷ rest)
  there below own l =
      let number : l.behind ≡ n + length l.texts + 2 = omega (arith, l.behind_is) in
      let size : length rest ≡ length l.texts + length (codes "close" ∷ l.after) = ap length l.is ∙ length-append l.texts (codes "close" ∷ l.after) in
      record {
        items = scripted party l.texts ∷ l.left.items;
        more = l.left.more;
        is = ap (λ (t : List ℕ). t ∷ rest) told ∙ ap (λ (ls : List (List ℕ)). party_text party ∷ ls) (l.is ∙ ap (λ (ls : List (List ℕ)). l.texts ++ (codes "close" ∷ ls)) l.left.is);
        are = (
          l.made,
          record {
            party_ = (line-told line (scripts.Begins party) reads).0;
            few = below;
            own = own;
            place = ap (λ (s : Script). s.place) l.made_is;
            told = subst (λ (s : Script). AreLines p.config party (suc n) shut least_moment l.texts s.lines s.steps) (sym l.made_is) l.told;
          },
          subst (λ m. AreItems m (with_script (counted p party) (actor_for p party) l.made) l.left.items q) number l.left.are,
        );
        count = l.left.count;
        some = l.left.some;
        low = omega (arith, l.left.low, l.behind_is, size);
      }

  by : (a : Bool) → (p.count == most_scripts) ≡ a → (o : Option Script) → script_of p (actor_for p party) ≡ o
      → LeftMove n (if a || is_some o then stops (statuses.Record (suc n) 5) else goes (inside (counted p party) (opened p party))) q rest → LeftItems n p q (line ∷ rest)
  by true is o own move = absurd move
  by false is (Some s) own move = absurd move
  by false is None own move = there (elim (eqb_tells p.count 16) [ inl t ↦ absurd (let both : ◌≡◌ {A = Bool} true false = sym t.0 ∙ is in cc) | inr t ↦ omega (arith, few, t.1) ]) own move

ended-left : (n : ℕ) (p : Plan) (line : List ℕ) (q : Plan) (rest : List (List ℕ)) → line ≡ codes "end" → LeftMove n (ended (suc n) p) q rest → LeftItems n p q (line ∷ rest)
ended-left n p line q rest is move = by (p.count == 0) refl move where
  by : (b : Bool) → (p.count == 0) ≡ b → LeftMove n (if b then stops (statuses.Record (suc n) 5) else ends p) q rest → LeftItems n p q (line ∷ rest)
  by true zero move = absurd move
  by false other move =
      let positive : 0 < p.count = elim (eqb_tells p.count 0) [ inl t ↦ absurd (let both : ◌≡◌ {A = Bool} true false = sym t.0 ∙ other in cc) | inr t ↦ omega (arith, t.1) ] in
      record {
        items = [];
        more = rest;
        is = ap (λ (l : List ℕ). l ∷ rest) is;
        are = move.0;
        count = subst (λ (q : Plan). 0 < q.count) move.0 positive;
        some = move.2;
        low = omega (arith, move.1);
      }

step-left : (n : ℕ) (p : Plan) (text : List ℕ) (line : RecLine) (q : Plan) (rest : List (List ℕ)) → NoNewline text → script_line_at text ≡ Ok (scripts.Step line) → LeftMove n (between_step (suc n) p line) q rest → LeftItems n p q (text ∷ rest)
step-left n p text lines.Skip q rest none reads move = record {
  items = remark text ∷ move.items;
  more = move.more;
  is = ap (λ (ls : List (List ℕ)). text ∷ ls) move.is;
  are = ((none, not-long text (scripts.Step lines.Skip) reads, is-skipped text (skip-told text reads).text_), move.are);
  count = move.count;
  some = move.some;
  low = omega (arith, move.low);
}
step-left n p text lines.End q rest none reads move = ended-left n p text q rest (end-told text reads) move
step-left n p text _ q rest none reads move = absurd move

between-left : (n : ℕ) (p : Plan) (text : List ℕ) (q : Plan) (rest : List (List ℕ)) → NoNewline text → p.count ≤ 16 → LeftMove n (between_at (suc n) p text) q rest → LeftItems n p q (text ∷ rest)
unfolding between_at
between-left n p text q rest none few move = by (script_line_at text) refl move where
  by : (r : Result ScriptLine Kind) → script_line_at text ≡ r → LeftMove n (between_as (suc n) p r) q rest → LeftItems n p q (text ∷ rest)
  by (Err kind) reads move = absurd move
  by (Ok (scripts.Begins party)) reads move = begins-left n p party text q rest few reads move
  by (Ok scripts.Closes) reads move = absurd move
  by (Ok (scripts.Step line)) reads move = step-left n p text line q rest none reads move

-- ---- in a script

module _ (n : ℕ) (p : Plan) (o : Opened) (text : List ℕ) (line : RecLine) (q : Plan) (rest : List (List ℕ)) (is : IsLineOf o.party text line) where
  abbrev behind-it : ℕ → List (List ℕ) → List StepLine → List TimedStep → Type 0
  behind-it to more ls ss = AreLines p.config o.party (suc n) (form_behind (association_in o.party) line (form_in o.form)) to more ls ss

  told-left : (t : Told) → told_of p.config (form_in o.form) line ≡ t → LeftMove n (told_in (suc n) p o text line t) q rest → LeftLines n p o q (text ∷ rest)
  told-left skip says l =
      let quiet = stays p.config o.party line o.form is.may (subst IsQuiet (sym says) tt) in
      record {
        texts = text ∷ l.texts;
        ls = l.ls;
        ss = l.ss;
        after = l.after;
        behind = l.behind;
        made = l.made;
        is = ap (λ (ls : List (List ℕ)). text ∷ ls) l.is;
        told = (line, is, subst (λ t. Tells n text (form_in o.form) o.moment t (λ to ls ss. behind-it to l.texts ls ss) l.ls l.ss) (sym says) (subst (λ f. AreLines p.config o.party (suc n) f o.moment l.texts l.ls l.ss) (sym quiet) l.told));
        behind_is = omega (arith, l.behind_is);
        made_is = l.made_is;
        left = l.left;
      }
  told-left (pass_to moment) says l =
      let quiet = stays p.config o.party line o.form is.may (subst IsQuiet (sym says) tt) in
      record {
        texts = text ∷ l.texts;
        ls = l.ls;
        ss = l.ss;
        after = l.after;
        behind = l.behind;
        made = l.made;
        is = ap (λ (ls : List (List ℕ)). text ∷ ls) l.is;
        told = (line, is, subst (λ t. Tells n text (form_in o.form) o.moment t (λ to ls ss. behind-it to l.texts ls ss) l.ls l.ss) (sym says) (subst (λ f. AreLines p.config o.party (suc n) f moment l.texts l.ls l.ss) (sym quiet) l.told));
        behind_is = omega (arith, l.behind_is);
        made_is = l.made_is;
        left = l.left;
      }
  told-left (turn actor step) says l =
      let made : StepLine = record { number = suc n; text = text; form = o.form; moment = o.moment } in
      let at : TimedStep = record { moment = o.moment; step = step } in
      record {
        texts = text ∷ l.texts;
        ls = made ∷ l.ls;
        ss = at ∷ l.ss;
        after = l.after;
        behind = l.behind;
        made = l.made;
        is = ap (λ (ls : List (List ℕ)). text ∷ ls) l.is;
        told = (
          line,
          is,
          subst (λ t. Tells n text (form_in o.form) o.moment t (λ to ls ss. behind-it to l.texts ls ss) (made ∷ l.ls) (at ∷ l.ss)) (sym says)
              (o.form, refl, refl, refl, subst (λ f. AreLines p.config o.party (suc n) f o.moment l.texts l.ls l.ss) (passed-own o.party line o.form is.may) l.told),
        );
        behind_is = omega (arith, l.behind_is);
        made_is = l.made_is ∙ later-more o.script made at l.ls l.ss;
        left = l.left;
      }
  told-left (heard parts) says l = absurd l
  told-left (refused kind) says l = absurd l
  told-left last says l = absurd l

inside-step-left : (n : ℕ) (p : Plan) (o : Opened) (text : List ℕ) (line : RecLine) (q : Plan) (rest : List (List ℕ)) → NoNewline text → script_line_at text ≡ Ok (scripts.Step line) → LeftMove n (inside_step (suc n) p o text line) q rest
    → LeftLines n p o q (text ∷ rest)
inside-step-left n p o text line q rest none reads move = by (may_have o.party line) refl move where
  by : (b : Bool) → may_have o.party line ≡ b → LeftMove n (if b then told_in (suc n) p o text line (told_of p.config (form_in o.form) line) else stops (statuses.Record (suc n) (strange p.config line))) q rest → LeftLines n p o q (text ∷ rest)
  by true may move = told-left n p o text line q rest (record { whole = none; spelled = line-told text (scripts.Step line) reads; may = may }) (told_of p.config (form_in o.form) line) refl move
  by false may move = absurd move

inside-left : (n : ℕ) (p : Plan) (o : Opened) (text : List ℕ) (q : Plan) (rest : List (List ℕ)) → NoNewline text → LeftMove n (inside_at (suc n) p o text) q rest → LeftLines n p o q (text ∷ rest)
unfolding inside_at
inside-left n p o text q rest none move = by (script_line_at text) refl move where
  by : (r : Result ScriptLine Kind) → script_line_at text ≡ r → LeftMove n (inside_as (suc n) p o text r) q rest → LeftLines n p o q (text ∷ rest)
  by (Err kind) reads move = absurd move
  by (Ok (scripts.Begins party)) reads move = absurd move
  by (Ok scripts.Closes) reads move = record {
    texts = [];
    ls = [];
    ss = [];
    after = rest;
    behind = suc n;
    made = o.script;
    is = ap (λ (t : List ℕ). t ∷ rest) (line-told text scripts.Closes reads).1;
    told = (refl, refl);
    behind_is = omega arith;
    made_is = sym (later-none o.script);
    left = move;
  }
  by (Ok (scripts.Step line)) reads move = inside-step-left n p o text line q rest none reads move

-- ---- the lines one after another

line-left : (n : ℕ) (place : Place) (line : List ℕ) (q : Plan) (rest : List (List ℕ)) → NoNewline line → Good n place → LeftMove n (lines_at (suc n) place line) q rest → Left n place q (line ∷ rest)
line-left n opening line q rest none good move = opening-left n line q rest none move
line-left n (configuring before text) line q rest none good move = configuring-left n before text line q rest none move
line-left n (between p) line q rest none good move = between-left n p line q rest none good.count move
line-left n (inside p o) line q rest none good move = inside-left n p o line q rest none move

run-left : (long : Bool) (ps : List (List ℕ)) (count : ℕ) (place : Place) (q : Plan) → Each NoNewline ps → Good count place → run long count place ps ≡ ready q → Left count place q ps
run-left long [] count place q clean good is = absurd cc
run-left long (rest ∷ []) count place q clean good is = absurd cc
run-left long (line ∷ next ∷ more) count place q clean good is = by (run-left long (next ∷ more)) (inputs.line_at (suc count) place line) refl is where
  by : ((count : ℕ) (place : Place) (q : Plan) → Each NoNewline (next ∷ more) → Good count place → run long count place (next ∷ more) ≡ ready q → Left count place q (next ∷ more)) → (m : Move) → inputs.line_at (suc count) place line ≡ m
      → moved m (λ to. run long (suc count) to (next ∷ more)) ≡ ready q → Left count place q (line ∷ next ∷ more)
  by rest (goes to) e is = elim (below (suc count) place line (goes to) e) [
    | inl t ↦ absurd cc
    | inr t ↦ line-left count place line q (next ∷ more) clean.0 good (subst (λ m. LeftMove count m q (next ∷ more)) (sym t.1)
        (rest (suc count) to q clean.1 (subst (GoodMove (suc count)) t.1 (lines-good count place line clean.0 good)) is))
  ]
  by rest (stops status) e is = absurd cc
  by rest (ends p) e is = elim (below (suc count) place line (ends p) e) [
    | inl t ↦ absurd cc
    | inr t ↦ let same : p ≡ q = cc in line-left count place line q (next ∷ more) clean.0 good (subst (λ m. LeftMove count m q (next ∷ more)) (sym t.1) (same, t.0, omega arith))
  ]

-- ---- octets

-- the configuration stays
items-keep : (items : List Item) (n : ℕ) (p q : Plan) → AreItems n p items q → (q.config ≡ p.config) × (q.text ≡ p.text)
items-keep [] n p q are = (ap (λ (p : Plan). p.config) (sym are), ap (λ (p : Plan). p.text) (sym are))
items-keep (remark text ∷ items) n p q are = items-keep items (suc n) p q are.1
items-keep (scripted party inner ∷ items) n p q are = items-keep items (n + length inner + 2) (with_script (counted p party) (actor_for p party) are.0) q are.2

join-on : (line : List ℕ) (more : List (List ℕ)) → 0 < length more → join_with_byte 10 (line ∷ more) ≡ line ++ 10 ∷ join_with_byte 10 more
join-on line [] some = absurd (omega (arith, some))
join-on line (next ∷ more) some = refl

joined : (ls ps : List (List ℕ)) → 0 < length ps → join_with_byte 10 (ls ++ ps) ≡ octets_of ls ++ join_with_byte 10 ps
joined [] ps some = refl
joined (l ∷ ls) ps some =
    join-on l (ls ++ ps) (omega (arith, some, length-append ls ps)) ∙ (ap (λ (o : List ℕ). l ++ 10 ∷ o) (joined ls ps some) ∙ sym (line-first l ls (join_with_byte 10 ps)))

module _ (octets : List ℕ) (p : Plan) (l : LeftOpening 0 p (pieces (take limit octets))) where
  abbrev items : List Item
  items = l.left.left.items

  abbrev all : List (List ℕ)
  all = rehearsal_lines l.remarks l.left.inner items []

  abbrev more : List (List ℕ)
  more = l.left.left.more

  pieces-are : pieces (take limit octets) ≡ all ++ more
  pieces-are =
      l.is
      ∙ (ap (λ (ls : List (List ℕ)). l.remarks ++ (codes "rehearse 1" ∷ ls)) (l.left.is ∙ ap (λ (ls : List (List ℕ)). l.left.inner ++ (codes "end" ∷ ls)) l.left.left.is)
      ∙ lines-behind l.remarks l.left.inner items more)

  front-is : take limit octets ≡ octets_of all ++ join_with_byte 10 more
  front-is = sym (join_with_byte-slice_split 10 (take limit octets)) ∙ (ap (join_with_byte 10) pieces-are ∙ joined all more l.left.left.some)

  octets-are : octets ≡ octets_of all ++ (join_with_byte 10 more ++ drop limit octets)
  octets-are = sym (take-append-drop limit octets) ∙ (ap (λ (o : List ℕ). o ++ drop limit octets) front-is ∙ append_assoc (octets_of all) (join_with_byte 10 more) (drop limit octets))

  few-lines : length all ≤ most_lines
  few-lines =
      let whole : length (pieces (take limit octets)) ≡ length all + length more = ap length pieces-are ∙ length-append all more in
      let first : length (pieces (take limit octets)) ≡ length l.remarks + length (codes "rehearse 1" ∷ l.after) = ap length l.is ∙ length-append l.remarks (codes "rehearse 1" ∷ l.after) in
      let second : length l.after ≡ length l.left.inner + length (codes "end" ∷ l.left.after) = ap length l.left.is ∙ length-append l.left.inner (codes "end" ∷ l.left.after) in
      omega (arith, whole, first, second, l.left.left.low, l.left.behind_is, l.behind_is)

  few-octets : length (octets_of all) ≤ limit
  few-octets =
      let whole : length (take limit octets) ≡ length (octets_of all) + length (join_with_byte 10 more) = ap length front-is ∙ length-append (octets_of all) (join_with_byte 10 more) in
      omega (arith, whole, length-take limit octets)

  text-is : p.text ≡ l.left.whole
  text-is = (items-keep items l.left.behind (without_scripts l.left.config l.left.whole) p l.left.left.are).1

  config-is : p.config ≡ l.left.config
  config-is = (items-keep items l.left.behind (without_scripts l.left.config l.left.whole) p l.left.left.are).0

  rehearsal : IsRehearsal octets p
  rehearsal =
      let number : l.left.behind ≡ length l.remarks + length l.left.inner + 2 = omega (arith, l.behind_is, l.left.behind_is) in
      let start : without_scripts l.left.config l.left.whole ≡ without_scripts p.config p.text = ap (λ c. without_scripts c l.left.whole) (sym config-is) ∙ ap (without_scripts p.config) (sym text-is) in
      record {
        remarks = l.remarks;
        inner = l.left.inner;
        items = items;
        rest = join_with_byte 10 more ++ drop limit octets;
        octets_ = octets-are;
        are_remarks = l.are;
        are_inner = l.left.are;
        text = text-is ∙ l.left.whole_is;
        configuration = config-told p.text p.config (ap config_at text-is ∙ (l.left.reads ∙ ap Ok (sym config-is)));
        are_items = subst (λ n. AreItems n (without_scripts p.config p.text) items p) number (subst (λ (s : Plan). AreItems l.left.behind s items p) start l.left.left.are);
        some = l.left.left.count;
        lines = few-lines;
        short = few-octets;
      }

pub plans-are : (octets : List ℕ) (p : Plan) → outcome octets ≡ ready p → IsRehearsal octets p
unfolding outcome
plans-are octets p is = rehearsal octets p (run-left (nat_lt limit (length octets)) (pieces (take limit octets)) 0 opening p (pieces-clean (take limit octets)) tt is)

pub plan-one : PlansAreOne
plan-one octets p q is other = let same : ready p ≡ ready q = sym (comes octets p is) ∙ comes octets q other in cc
