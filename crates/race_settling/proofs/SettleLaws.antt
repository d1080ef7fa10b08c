-- What a race of a plan comes to, and what is written of it.
use Rattle.std.proofs.Common.{◌≡◌, ℕ, false, List, ◌++◌, length, sym, ap, subst, ◌∙◌}
use Rattle.std.specs.List.{All}
use Rattle.std.specs.Prelude.{Option, None, Some, codes}
use Rattle.sv_base.specs.declared.config.Config.{Config}
use Rattle.bay_model.specs.Points.{least_moment}
use Rattle.bay_model.specs.Answers.{History}
use Rattle.actor_scripts.specs.Merging.{AreOf}
use Rattle.actor_scripts.specs.Raced.{IsRaced}
use Rattle.actor_scripts.specs.Scripts.{made_of}
use Rattle.actor_scripts.specs.declared.made.Made.{Made}
use Rattle.actor_scripts.specs.declared.part.Part.{Part as Given}
use Rattle.script_threads.specs.declared.racing.Raced.{Raced}
use Rattle.actor_scripts.specs.declared.script.Script.{Script as Part}
use Rattle.bay_histories.specs.Rules.{bay_rules}
use Rattle.script_plans.specs.Plans.{Plan}
use Rattle.race_records.specs.Merged.{Book, book_of, merged, record_with, answered, IsAnswerable}
use Rattle.race_records.proofs.BackLaws.{made-answerable}
use Rattle.race_records.proofs.OctetLaws.{merged_are_read_back}
use Rattle.race_records.specs.Verdicts.{lowest_full, lacks_memory}
use Rattle.race_records.proofs.KnownLaws.{verdicts_are_known}
use Rattle.race_settling.specs.Races.{IsOfPlan, IsOfRace}
use Rattle.race_settling.specs.Settled.{IsMade, Goes, MeetsFull}
use Rattle.race_settling.proofs.RaceLaws.{parts-of, made-whole}

module _ (p : Plan) (c : Config) (text : List ℕ) (book : Book) (ss : List Part) (is : IsOfPlan p c text book ss) (r : Raced) (race : IsOfRace p.config ss r) where
  abbrev h : History
  h = race.0

  abbrev parts : List Given
  parts = r.parts.items

  raced : IsRaced bay_rules p.config ss parts h
  raced = race.2

  pub many : r.total ≡ length h
  many = race.1

  pub of-history : AreOf bay_rules p.config h parts
  of-history = parts-of p.config h ss parts raced.parts_

  same-lowest : (o : Option ℕ) → lowest_full book parts ≡ o → lowest_full (book_of p) parts ≡ o
  same-lowest o e = ap (λ b. lowest_full b parts) is.book_ ∙ e

  module _ (lean : lacks_memory parts ≡ false) where
    pub meets : (line : ℕ) → lowest_full book parts ≡ Some line → MeetsFull p line
    meets line full =
        let at = same-lowest (Some line) full in
        let known = verdicts_are_known p ss parts h is.sound is.scripts raced lean in
        record { beyond = known.beyond line at; first = λ idle. sym (known.exact idle) ∙ at; history = h; scripts = ss; are = is.scripts; parts = parts; raced = raced; lowest = at }

    made-all : lowest_full book parts ≡ None → IsMade p h
    made-all none = made-whole p ss parts h is.turns raced ((verdicts_are_known p ss parts h is.sound is.scripts raced lean).went (same-lowest None none))

    -- each step that was made is answered
    pub all-answerable : (made : List Made) → lowest_full book parts ≡ None → made ≡ made_of bay_rules p.config h → All (IsAnswerable c book) made
    all-answerable made none made-is =
        subst (All (IsAnswerable c book)) (sym made-is)
        (subst (λ k. All (IsAnswerable k book) (made_of bay_rules p.config h)) is.config
        (subst (λ b. All (IsAnswerable p.config b) (made_of bay_rules p.config h)) is.book_ (made-answerable p h is.sound (made-all none).1)))

    pub goes : (made : List Made) (out : List ℕ) → lowest_full book parts ≡ None → made ≡ made_of bay_rules p.config h
        → out ≡ record_with text (merged book least_moment made) ++ (answered c book made ++ codes "end\n") → Goes p out
    goes made out none made-is out-is = record {
      room = λ idle. sym ((verdicts_are_known p ss parts h is.sound is.scripts raced lean).exact idle) ∙ same-lowest None none;
      written = record {
        history = h;
        made = made-all none;
        octets_ = out-is ∙ (λ i. record_with (sym is.text_ i) (merged (sym is.book_ i) least_moment (made-is i)) ++ (answered (sym is.config i) (sym is.book_ i) (made-is i) ++ codes "end\n"));
        back = merged_are_read_back p h is.sound (made-all none).1;
      };
    }
