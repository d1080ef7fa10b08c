-- The history of a made record.
use Rattle.std.proofs.Common.{◌≡◌, ◌≤◌, ◌<◌, ◌+◌, ◌*◌, ◌%◌, ◌^◌, ◌==◌, ℕ, zero, suc, Bool, true, false, List, [], ◌∷◌, ◌++◌, map, refl, sym, ap, subst, ◌∙◌, arith, append-nil}
use Rattle.std.proofs.lemmas.List.{map-append}
use Rattle.std.specs.Prelude.{Some, Ok, nat_lt, codes, decimal, if◌then◌else◌}
use Rattle.std.specs.List.{list_all, flat_map}
use Rattle.std.proofs.lemmas.Bool.{and_from, and_parts}
use Rattle.std.proofs.lemmas.Bool.Decides.{nat_tests}
use Rattle.std.proofs.lemmas.Fmt.{decimal_by_steps}
use Rattle.std.proofs.lemmas.List.Folds.{list_all-append}
use Rattle.std.proofs.lemmas.Grind.{flat_map-append}
use Rattle.sv_base.specs.declared.config.Config.{Config}
use Rattle.cfg_parser.specs.Looking.{config_at}
use Rattle.text_words.specs.Octets.{is_printable}
use Rattle.bay_model.specs.Named.{configured_model}
use Rattle.bay_model.specs.Acceptance.{IsHistory}
use Rattle.run_record.specs.Grammar.{Spells}
use Rattle.run_record.specs.Spelled.{words}
use Rattle.run_record.specs.declared.line.RecLine.TheVariants as said
use Rattle.run_record.proofs.ReadLaws.{line-read}
use Rattle.record_steps.specs.Resolved.{told_of}
use Rattle.record_steps.specs.Told.{last}
use Rattle.record_outcome.specs.Histories.{onto, octets_of, lines_of, form_of, moment_of, parts_in, said_in, steps_of, recorded, history_of}
use Rattle.record_outcome.specs.Texts.{turns_in}
use Rattle.record_outcome.specs.Records.{NoNewline}
use Rattle.record_outcome.specs.Grammar.{Each}
use Rattle.record_outcome.proofs.HistoryLaws.{onto-line}
use Rattle.record_outcome.proofs.LineLaws.{no-newline}
use Rattle.record_outcome.proofs.OctetLaws.{lines-more}
use Rattle.made_records.specs.declared.draw.Draw.{Draw}
use Rattle.made_records.specs.declared.line.MadeLine.{MadeLine}
use Rattle.made_records.specs.declared.line.MadeLine.TheVariants.{Power, Indication, At, Take}
use Rattle.made_records.specs.Made.{first_draw, next_number, choice, rest, next_draw, line_by, lines_from, draw_after}
use Rattle.made_records.specs.Texts.{line_octets, line_text, configuration, opening_line, enabling_line, opening, ending, made_record}
use Rattle.made_records.proofs.Drawing.{lines-more as drawn-more, moment-more}
use Rattle.load_run.specs.Summaries.{IsSummed, summary_of}
use Rattle.load_run.specs.Loads.{Loads}
use Rattle.load_run.specs.declared.loading.Loading.{Loading}

-- ---- the lines of a made record

abbrev pub drawn : ℕ → ℕ → List (List ℕ)
drawn n seed = map line_octets (lines_from n (first_draw seed))

abbrev config_lines : List (List ℕ)
config_lines = codes "config 1" ∷ codes "server Demo Bay 1" ∷ codes "ld BAY1" ∷ codes "ln LLN0" ∷ codes "set Events" ∷ codes "member BAY1/XCBR1$ST$Pos" ∷ codes "member BAY1/GGIO1$ST$Ind1" ∷ codes "member BAY1/MMXU1$MX$TotW$mag$i" ∷ codes "brcb brcbEv01 'Ev1 'BAY1/LLN0$Events 1 0111001110 0 011001 0 200" ∷ codes "ln XCBR1" ∷ codes "attr ST Pos$stVal dbpos d 01" ∷ codes "attr ST Pos$q quality q 0000000000000" ∷ codes "attr ST Pos$t time - 0000000000000000" ∷ codes "ln GGIO1" ∷ codes "attr ST Ind1$stVal bool d F" ∷ codes "attr ST Ind1$q quality q 0000000000000" ∷ codes "attr ST Ind1$t time - 0000000000000000" ∷ codes "ln MMXU1" ∷ codes "attr MX TotW$mag$i int32 d 0" ∷ codes "end" ∷ []

abbrev made_lines : ℕ → ℕ → List (List ℕ)
made_lines n seed = codes "record 1" ∷ config_lines ++ (opening_line ∷ enabling_line ∷ (drawn n seed ++ codes "end" ∷ []))

-- the step lines so far, the newest first
abbrev first_lines : List (List ℕ)
first_lines = enabling_line ∷ opening_line ∷ []

abbrev pub read_so : ℕ → ℕ → List (List ℕ)
read_so n seed = onto first_lines (drawn n seed)

onto-last : {A : Type 0} (before xs : List A) (x : A) → onto before (xs ++ x ∷ []) ≡ x ∷ onto before xs
onto-last before [] x = refl
onto-last before (y ∷ ys) x = onto-last (y ∷ before) ys x

pub read-more : (n seed : ℕ) → read_so (suc n) seed ≡ line_octets (line_by (draw_after n (first_draw seed))) ∷ read_so n seed
read-more n seed =
    let d : Draw = first_draw seed in
    let line : MadeLine = line_by (draw_after n d) in
    ap (onto first_lines) (ap (map line_octets) (drawn-more n d) ∙ map-append line_octets (lines_from n d) (line ∷ [])) ∙ onto-last first_lines (drawn n seed) (line_octets line)

-- ---- they have no newline

digits-printable : (n : ℕ) → n < 2 ^ 64 → list_all is_printable (decimal n) ≡ true
digits-printable n lt = decimal_by_steps (λ n ds. list_all is_printable ds ≡ true)
    (λ n small. one (48 + n) (omega (arith, small)) (omega (arith, small)))
    (λ n ds more so. list_all-append is_printable ds ((48 + n % 10) ∷ []) ∙ and_from _ _ so (one (48 + n % 10) (omega arith) (omega arith))) n lt
  where
    one : (octet : ℕ) → 32 ≤ octet → octet ≤ 126 → list_all is_printable (octet ∷ []) ≡ true
    one octet low high = grind (arith, nat_tests)

line-printable : (low four five odd : Bool) (n m : ℕ) → n < 2 ^ 64 → m < 2 ^ 64 → list_all is_printable (line_octets (if low then Power n else (if four then Indication odd else (if five then At m else Take)))) ≡ true
line-printable true four five odd n m hn hm = list_all-append is_printable (codes "set BAY1/MMXU1$MX$TotW$mag$i ") (decimal n) ∙ and_from _ _ refl (digits-printable n hn)
line-printable false true five true n m hn hm = refl
line-printable false true five false n m hn hm = refl
line-printable false false true odd n m hn hm = list_all-append is_printable (codes "at ") (decimal m) ∙ and_from _ _ refl (digits-printable m hm)
line-printable false false false odd n m hn hm = refl

drawn-clean : (n : ℕ) (d : Draw) → d.moment + 499 * n < 2 ^ 60 → Each NoNewline (map line_octets (lines_from n d))
drawn-clean zero d h = tt
drawn-clean (suc n) d h =
    let x : ℕ = next_number d.number in
    let more : (next_draw d).moment ≤ d.moment + 499 = moment-more d (next_draw d) refl in (
      no-newline (line_octets (line_by d)) (line-printable (nat_lt (choice x) 4) (choice x == 4) (choice x == 5) (rest x % 2 == 1) (rest x % 1000) (d.moment + rest x % 500) (omega arith) (omega (arith, h))),
      drawn-clean n (next_draw d) (omega (arith, h, more)),
    )

each-printable : (ls : List (List ℕ)) → list_all (λ line. list_all is_printable line) ls ≡ true → Each NoNewline ls
each-printable [] e = tt
each-printable (l ∷ ls) e =
    let both = and_parts (list_all is_printable l) (list_all (λ line. list_all is_printable line) ls) e in
    (no-newline l both.0, each-printable ls both.1)

each-append : (xs ys : List (List ℕ)) → Each NoNewline xs → Each NoNewline ys → Each NoNewline (xs ++ ys)
each-append [] ys none clean = clean
each-append (x ∷ xs) ys none clean = (none.0, each-append xs ys none.1 clean)

made-clean : (n seed : ℕ) → n < 2 ^ 32 → Each NoNewline (made_lines n seed)
made-clean n seed few =
    each-append (codes "record 1" ∷ config_lines) (opening_line ∷ enabling_line ∷ (drawn n seed ++ codes "end" ∷ [])) (each-printable (codes "record 1" ∷ config_lines) refl) (
      no-newline opening_line refl,
      (no-newline enabling_line refl, each-append (drawn n seed) (codes "end" ∷ []) (drawn-clean n (first_draw seed) (omega (arith, few))) (no-newline (codes "end") refl, tt)),
    )

-- ---- they are those of the record

octets-drawn : (ls : List MadeLine) → octets_of (map line_octets ls) ≡ flat_map line_text ls
octets-drawn [] = refl
octets-drawn (l ∷ ls) = ap (λ o. line_text l ++ o) (octets-drawn ls)

made-octets : (n seed : ℕ) → octets_of (made_lines n seed) ≡ made_record seed n
made-octets n seed = ap (λ o. opening ++ o)
    (flat_map-append (λ line. line ++ 10 ∷ []) (drawn n seed) (codes "end" ∷ []) ∙ ap (λ o. o ++ ending) (octets-drawn (lines_from n (first_draw seed))))

lines-are : (n seed : ℕ) → n < 2 ^ 32 → lines_of (made_record seed n) ≡ made_lines n seed
lines-are n seed few = ap lines_of (sym (append-nil (octets_of (made_lines n seed)) ∙ made-octets n seed)) ∙ (lines-more (made_lines n seed) [] (made-clean n seed few) ∙ append-nil (made_lines n seed))

-- ---- its history

module _ (n seed : ℕ) (few : n < 2 ^ 32) (c : Config) (is : config_at configuration ≡ Ok c) where
  abbrev all_lines : List (List ℕ)
  all_lines = codes "end" ∷ read_so n seed

  history-is : history_of (lines_of (made_record seed n)) ≡ Some (record { config = c; lines = all_lines; steps = steps_of c all_lines })
  history-is = ap history_of (lines-are n seed few) ∙ (ap (λ r. recorded r (opening_line ∷ enabling_line ∷ (drawn n seed ++ codes "end" ∷ []))) is
      ∙ ap (λ b. Some (record { config = c; lines = b; steps = steps_of c b })) (onto-last first_lines (drawn n seed) (codes "end")))

  end-spelled : Spells (codes "end") said.End
  unfolding words
  end-spelled = record { short = omega arith; text_ = refl; words_ = refl; ranges = tt }

  end-says : said_in c (form_of (read_so n seed) (Ok said.End)) (Ok said.End) ≡ last
  unfolding told_of
  end-says = refl

  -- a loading that read all of it has its summary
  pub summed : (l : Loading) → Loads l c (read_so n seed) → IsSummed (history_of (lines_of (made_record seed n))) l.summary
  summed l loads =
      let b : List (List ℕ) = read_so n seed in
      subst (λ o. IsSummed o l.summary) (sym history-is) (onto-line c b (codes "end") (Ok said.End) last (line-read (codes "end") said.End end-spelled) end-says
      (λ r t. IsHistory (configured_model c) (turns_in (parts_in (moment_of c b) (form_of b r) t ∷ steps_of c b)) × (l.summary ≡ summary_of (configured_model c) (turns_in (parts_in (moment_of c b) (form_of b r) t ∷ steps_of c b))))
      (loads.carries.0.0, loads.carries.1))
