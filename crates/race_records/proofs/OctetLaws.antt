-- The octets of the record of a rehearsal are lines, and the record that these are.
use Rattle.std.proofs.Common.{◌≡◌, ◌≤◌, ◌<◌, ◌==◌, ℕ, zero, suc, Bool, true, false, not, List, [], ◌∷◌, ◌++◌, length, refl, sym, ap, subst, ◌∙◌, arith, append_assoc}
use Rattle.std.specs.Prelude.{Option, None, Some, Ok, Err, codes, nat_lt, ◌||◌, slice_get, if◌then◌else◌}
use Rattle.std.specs.List.{slice_split, list_all}
use Rattle.std.specs.Option.{option_map, option_and_then}
use Rattle.std.proofs.lemmas.List.Elements.{All-from_recursion}
use Rattle.std.proofs.lemmas.List.Concat.{flat_map-append}
use Rattle.sv_base.specs.declared.config.Config.{Config}
use Rattle.bay_model.specs.Points.{least_moment}
use Rattle.cfg_parser.specs.Looking.{config_at}
use Rattle.run_record.specs.Grammar.{Spells}
use Rattle.text_words.specs.Octets.{is_printable, is_skipped}
use Rattle.text_words.specs.Words.{words_of}
use Rattle.run_record.specs.Judging.{tell_at, line_at}
use Rattle.run_record.specs.declared.fault.Kind.TheVariants as kinds
use Rattle.run_record.specs.declared.line.RecLine.{RecLine}
use Rattle.run_record.specs.Spelled.{spelled, words}
use Rattle.run_record.specs.declared.line.RecLine.TheVariants as lines
use Rattle.run_record.proofs.ReadLaws.{line-read}
use Rattle.record_steps.specs.Resolved.{told_of}
use Rattle.record_steps.specs.Told.{last}
use Rattle.record_outcome.specs.Histories.{lines_of, Parted, with_line, parted, octets_of, form_of, said_in, said, moment_of, parts_in, steps_of, onto, Recorded, recorded, history_of}
use Rattle.record_outcome.specs.Texts.{parts_of, text_behind}
use Rattle.record_outcome.specs.Texts as texts
use Rattle.record_outcome.specs.Records.{NoNewline}
use Rattle.record_outcome.specs.Grammar.{IsInner, Each}
use Rattle.bay_histories.specs.Rules.{bay_rules}
use Rattle.actor_scripts.specs.Scripts.{made_of}
use Rattle.actor_scripts.specs.declared.made.Made.{Made}
use Rattle.actor_scripts.specs.declared.script.TimedStep.{TimedStep}
use Rattle.script_plans.specs.Plans.{Script, Plan, script_of}
use Rattle.script_plans.specs.Sound.{IsTold, AreTold, IsScriptOrNone, IsText, IsSound}
use Rattle.script_plans.specs.declared.line.StepLine.{StepLine}
use Rattle.race_records.specs.Merged.{lines_in, book_of, line_of, at_lines, lines_behind, moment_behind, merged, record_with}
use Rattle.race_records.specs.ReadBack.{MergedAreReadBack}
use Rattle.record_outcome.proofs.LineLaws.{NoTen, no-newline}
use Rattle.record_outcome.proofs.OctetLaws.{line-more, lines-more}
use Rattle.race_records.proofs.Listed.{book-at, onto-append}
use Rattle.race_records.proofs.BackLaws.{at-line, turns-back, text-back}

-- ---- a line that is read has no newline

read-clean : (text : List ℕ) (line : RecLine) → line_at text ≡ Ok line → NoNewline text
unfolding line_at
read-clean text line reads = no-newline text (by (nat_lt 140100 (length text)) (list_all is_printable text) reads) where
  by : (a b : Bool) → (if a || not b then Err kinds.Long else if is_skipped text then Ok lines.Skip else tell_at (words_of text)) ≡ Ok line → b ≡ true
  by true b e = absurd cc
  by false true e = refl
  by false false e = absurd cc

-- ---- the lines that are merged

told-line : (c : Config) (k : ℕ) (acc : List (List ℕ)) (ls : List StepLine) (ss : List TimedStep) (n : ℕ) (l : StepLine) → AreTold c k acc ls ss → slice_get ls n ≡ Some l
    → (own : List (List ℕ)) × (s : TimedStep) × IsTold c k own l s
told-line c k acc [] ss n l are e = absurd (cc e)
told-line c k acc (x ∷ xs) [] n l are e = absurd are
told-line c k acc (x ∷ xs) (y ∷ ys) zero l are e = let is : x ≡ l = cc e in (acc, y, subst (λ z. IsTold c k acc z y) is are.0)
told-line c k acc (x ∷ xs) (y ∷ ys) (suc n) l are e = told-line c k (x.text ∷ acc) xs ys n l are.1 e

pub book-told : (p : Plan) (m : Made) (l : StepLine) → IsSound p → line_of (book_of p) m ≡ Some l → (own : List (List ℕ)) × (s : TimedStep) × IsTold p.config m.actor own l s
book-told p m l sound e = by (script_of p m.actor) (sound.scripts m.actor) (sym (ap (λ ls. slice_get ls m.index) (book-at p.scripts m.actor)) ∙ e) where
  by : (o : Option Script) → IsScriptOrNone p.config m.actor o → slice_get (lines_in o) m.index ≡ Some l → (own : List (List ℕ)) × (s : TimedStep) × IsTold p.config m.actor own l s
  by None is e = absurd (cc e)
  by (Some s) is e = told-line p.config m.actor [] s.lines s.steps m.index l is.told e

each-append : (P : List ℕ → Type 0) (xs ys : List (List ℕ)) → Each P xs → Each P ys → Each P (xs ++ ys)
each-append P [] ys a b = b
each-append P (x ∷ xs) ys a b = (a.0, each-append P xs ys a.1 b)

at-clean : (was now : ℕ) → 441763200000 ≤ now → now ≤ 4294967295999 → Each NoNewline (at_lines was now)
at-clean was now early late = by (was == now) where
  by : (b : Bool) → Each NoNewline (if b then [] else spelled (lines.At now) ∷ [])
  by true = tt
  by false = (read-clean (spelled (lines.At now)) (lines.At now) (at-line now early late), tt)

module _ (p : Plan) (sound : IsSound p) where
  line-clean : (was : ℕ) (m : Made) → Each NoNewline (lines_behind was (line_of (book_of p) m))
  line-clean was m = by (line_of (book_of p) m) refl where
    by : (o : Option StepLine) → line_of (book_of p) m ≡ o → Each NoNewline (lines_behind was o)
    by None e = tt
    by (Some l) e =
        let told = (book-told p m l sound e).2 in
        each-append NoNewline (at_lines was l.moment) (l.text ∷ []) (at-clean was l.moment told.early told.late) (read-clean l.text told.line told.read, tt)

  merged-clean : (was : ℕ) (ms : List Made) → Each NoNewline (merged (book_of p) was ms)
  merged-clean was [] = tt
  merged-clean was (m ∷ ms) = each-append NoNewline (lines_behind was (line_of (book_of p) m)) (merged (book_of p) (moment_behind was (line_of (book_of p) m)) ms) (line-clean was m) (merged-clean (moment_behind was (line_of (book_of p) m)) ms)

-- ---- the parts

parted-inner : (inner steps : List (List ℕ)) → Each IsInner inner → parted (inner ++ codes "end" ∷ steps) ≡ Some (record { configuration = inner ++ codes "end" ∷ []; steps = steps })
parted-inner [] steps are = refl
parted-inner (l ∷ ls) steps are =
    ap (λ b. if b then Some (record { configuration = l ∷ []; steps = ls ++ codes "end" ∷ steps }) else option_map (with_line l) (parted (ls ++ codes "end" ∷ steps))) are.0.1
    ∙ ap (option_map (with_line l)) (parted-inner ls steps are.1)

inner-clean : (inner : List (List ℕ)) → Each IsInner inner → Each NoNewline inner
inner-clean [] are = tt
inner-clean (l ∷ ls) are = (are.0.0, inner-clean ls are.1)

end-spelled : Spells (codes "end") lines.End
unfolding words
end-spelled = record { short = omega arith; text_ = refl; words_ = refl; ranges = tt }

end-said : (c : Config) (before : List (List ℕ)) → said c before (codes "end") ≡ last
unfolding told_of
end-said c before = ap (λ r. said_in c (form_of before r) r) (line-read (codes "end") lines.End end-spelled)

end-clean : NoNewline (codes "end")
end-clean = All-from_recursion NoTen (codes "end") (refl, (refl, (refl, tt)))

head-clean : NoNewline (codes "record 1")
head-clean = All-from_recursion NoTen (codes "record 1") (refl, (refl, (refl, (refl, (refl, (refl, (refl, (refl, tt))))))))

module _ (c : Config) (text : List ℕ) (is : IsText c text) (steps : List (List ℕ)) (clean : Each NoNewline steps) where
  abbrev tail : List ℕ
  tail = octets_of steps ++ (codes "end" ++ 10 ∷ [])

  abbrev all : List (List ℕ)
  all = codes "record 1" ∷ (is.inner ++ codes "end" ∷ (steps ++ codes "end" ∷ []))

  tail-lines : lines_of tail ≡ steps ++ codes "end" ∷ []
  tail-lines = lines-more steps (codes "end" ++ 10 ∷ []) clean ∙ ap (λ ls. steps ++ ls) (line-more (codes "end") [] end-clean)

  text-lines : lines_of (text ++ tail) ≡ is.inner ++ codes "end" ∷ (steps ++ codes "end" ∷ [])
  text-lines =
      ap (λ t. lines_of (t ++ tail)) is.octets
      ∙ (ap lines_of (append_assoc (octets_of is.inner) (codes "end" ++ 10 ∷ []) tail)
      ∙ (lines-more is.inner (codes "end" ++ 10 ∷ tail) (inner-clean is.inner is.are_inner)
      ∙ ap (λ ls. is.inner ++ ls) (line-more (codes "end") tail end-clean ∙ ap (λ (ls : List (List ℕ)). codes "end" ∷ ls) tail-lines)))

  whole-lines : lines_of (record_with text steps) ≡ all
  whole-lines = line-more (codes "record 1") (text ++ tail) head-clean ∙ ap (λ (ls : List (List ℕ)). codes "record 1" ∷ ls) text-lines

  abbrev back : Recorded
  back = record { config = c; lines = codes "end" ∷ onto [] steps; steps = steps_of c (codes "end" ∷ onto [] steps) }

  whole-text : octets_of (is.inner ++ codes "end" ∷ []) ≡ text
  whole-text = flat_map-append (λ (l : List ℕ). l ++ 10 ∷ []) is.inner (codes "end" ∷ []) ∙ sym is.octets

  abbrev of_parted : Option Parted → Option Recorded
  of_parted o = option_and_then (λ (p : Parted). recorded (config_at (octets_of p.configuration)) p.steps) o

  whole-history : history_of (lines_of (record_with text steps)) ≡ Some back
  whole-history =
      ap history_of whole-lines
      ∙ (ap of_parted (parted-inner is.inner (steps ++ codes "end" ∷ []) is.are_inner)
      ∙ (ap (λ t. recorded (config_at t) (steps ++ codes "end" ∷ [])) whole-text
      ∙ (ap (λ r. recorded r (steps ++ codes "end" ∷ [])) is.config
      ∙ ap (λ ls. Some (record { config = c; lines = ls; steps = steps_of c ls })) (onto-append [] steps (codes "end" ∷ [])))))

  end-parts : parts_of back.steps ≡ parts_of (steps_of c (onto [] steps))
  end-parts =
      ap (λ t. parts_in (moment_of c (onto [] steps)) (form_of (onto [] steps) (line_at (codes "end"))) t ++ parts_of (steps_of c (onto [] steps))) (end-said c (onto [] steps))

pub merged_are_read_back : MergedAreReadBack
merged_are_read_back p h sound shuffle =
    let steps = merged (book_of p) least_moment (made_of bay_rules p.config h) in
    let clean = merged-clean p sound least_moment (made_of bay_rules p.config h) in
    record {
      recorded = back p.config p.text sound.text steps clean;
      history = whole-history p.config p.text sound.text steps clean;
      config = refl;
      turns = ap texts.turns_of (end-parts p.config p.text sound.text steps clean) ∙ turns-back p h sound shuffle;
      text = ap (λ t. t ++ codes "end\n") (sym (text-back p h sound shuffle) ∙ sym (ap (text_behind p.config) (end-parts p.config p.text sound.text steps clean)));
    }
